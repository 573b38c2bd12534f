-- Why a line of a script of calls is not taken.
use Rattle.std.specs.Prelude.{◌≡◌, ◌≢◌, ℕ}
use Rattle.words.specs.declared.mistake.Mistake.TheVariants.{ManyBasePoints}
use Rattle.shell.specs.declared.flaw.Flaw.{Flaw}
use Rattle.shell.specs.declared.flaw.Flaw.TheVariants.{Form, NotText, NoBook, NoCap, SecondCap, Mixed, Late, RowAfterLines, LineAfterBase, RowAfterTerms, SecondReference, PriceCount}
use Rattle.shell.specs.declared.stop.Stop.{Stop}
use Rattle.shell.specs.declared.stop.Stop.TheVariants.{Malformed, Refused, Failed}

-- base points are never too many, and lines come in another order than in the scripts of markets and of replays
abbrev pub IsFlawOfCalls : Flaw → Type 0
IsFlawOfCalls (Form m) = m ≢ ManyBasePoints
IsFlawOfCalls NotText = Unit {0}
IsFlawOfCalls NoBook = Unit {0}
IsFlawOfCalls NoCap = Unit {0}
IsFlawOfCalls SecondCap = Unit {0}
IsFlawOfCalls Mixed = Unit {0}
IsFlawOfCalls Late = Unit {0}
IsFlawOfCalls RowAfterLines = ⊥
IsFlawOfCalls LineAfterBase = ⊥
IsFlawOfCalls RowAfterTerms = ⊥
IsFlawOfCalls SecondReference = ⊥
IsFlawOfCalls PriceCount = ⊥

-- a flaw of this line, or a failure, as where there is no memory
abbrev pub Stops : ℕ → Stop → Type 0
Stops line (Malformed n flaw) = (n ≡ line) × IsFlawOfCalls flaw
Stops line (Refused _) = ⊥
Stops line (Failed _) = Unit {0}
