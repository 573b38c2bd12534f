-- What a script may say next: the flaw of a line that comes out of order, or none.
use Rattle.std.specs.Prelude.{◌≡◌, if◌then◌else◌, nat_lt, is_some, vec_len, Option, Some, None, Result, Err, OnOk}
use Rattle.shell.specs.declared.flaw.Flaw.{Flaw}
use Rattle.shell.specs.declared.flaw.Flaw.TheVariants.{NoBook, NoCap, SecondCap, Mixed, Late}
use Rattle.shell.specs.declared.stop.Stop.{Stop}
use Rattle.shell.specs.declared.stop.Stop.TheVariants.{Malformed}
use Rattle.input.specs.Booked.{has_book}
use Rattle.input.specs.declared.input.Input.{Input}

-- Rows, blocks and the lines of a network come before whatever is asked.
abbrev pub late_flaw : Input → Option Flaw
late_flaw i = if nat_lt 0 (vec_len i.asked) then Some Late else None

abbrev pub cap_flaw : Input → Option Flaw
cap_flaw i = if is_some i.cap then Some SecondCap else if nat_lt 0 (vec_len i.blocks) then Some Mixed else None

abbrev pub row_flaw : Input → Option Flaw
row_flaw i = if nat_lt 0 (vec_len i.blocks) then Some Mixed else if is_some i.cap then late_flaw i else Some NoCap

abbrev pub block_flaw : Input → Option Flaw
block_flaw i = if is_some i.cap then Some Mixed else late_flaw i

abbrev pub book_flaw : Input → Option Flaw
book_flaw i = if has_book i then None else Some NoBook

-- A line with a flaw is answered by its number and flaw, and changes nothing.
abbrev pub Flawed : Option Flaw → Input → Input → Result Unit Stop → Type 0
Flawed flaw before after answer = (f : Flaw) → flaw ≡ Some f → (answer ≡ Err (Malformed before.read f)) × (after ≡ before)

-- One without does what it says, where there is memory for it.
abbrev pub Taken : Option Flaw → Result Unit Stop → Type 0 → Type 0
Taken flaw answer done = OnOk answer ((flaw ≡ None) × done)

-- The first input, but for what the second has in one place, or in its calls and what is asked.
abbrev pub but_cap : Input → Input → Input
but_cap i j = record { read = i.read; cap = j.cap; rows = i.rows; blocks = i.blocks; shares = i.shares; calls = i.calls; asked = i.asked }

abbrev pub but_rows : Input → Input → Input
but_rows i j = record { read = i.read; cap = i.cap; rows = j.rows; blocks = i.blocks; shares = i.shares; calls = i.calls; asked = i.asked }

abbrev pub but_blocks : Input → Input → Input
but_blocks i j = record { read = i.read; cap = i.cap; rows = i.rows; blocks = j.blocks; shares = i.shares; calls = i.calls; asked = i.asked }

abbrev pub but_shares : Input → Input → Input
but_shares i j = record { read = i.read; cap = i.cap; rows = i.rows; blocks = i.blocks; shares = j.shares; calls = i.calls; asked = i.asked }

abbrev pub but_calls : Input → Input → Input
but_calls i j = record { read = i.read; cap = i.cap; rows = i.rows; blocks = i.blocks; shares = i.shares; calls = j.calls; asked = j.asked }

abbrev pub but_asked : Input → Input → Input
but_asked i j = record { read = i.read; cap = i.cap; rows = i.rows; blocks = i.blocks; shares = i.shares; calls = i.calls; asked = j.asked }
