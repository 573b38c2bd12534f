-- The reason that a flaw gives, in bytes.
use Rattle.std.specs.Prelude.{ℕ, List, codes}
use Rattle.words.specs.Reasons.{reason_of}
use Rattle.shell.specs.declared.flaw.Flaw.{Flaw}
use Rattle.shell.specs.declared.flaw.Flaw.TheVariants.{Form, NotText, NoBook, NoCap, SecondCap, Mixed, Late, RowAfterLines, LineAfterBase, RowAfterTerms, SecondReference, PriceCount}

abbrev pub flaw_reason : Flaw → List ℕ
flaw_reason (Form m) = reason_of m
flaw_reason NotText = codes "not text"
flaw_reason NoBook = codes "neither cap nor block"
flaw_reason NoCap = codes "no cap"
flaw_reason SecondCap = codes "a second cap"
flaw_reason Mixed = codes "house rows and blocks in one book"
flaw_reason Late = codes "book and network come first"
flaw_reason RowAfterLines = codes "a row after a line or base points"
flaw_reason LineAfterBase = codes "a line after base points"
flaw_reason RowAfterTerms = codes "a row after terms or reference prices"
flaw_reason SecondReference = codes "a second line of reference prices"
flaw_reason PriceCount = codes "not one reference price for each row"
