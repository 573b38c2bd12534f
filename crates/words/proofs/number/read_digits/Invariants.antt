use Rattle.std.proofs.Common.{◌≡◌, drop}
use Rattle.words.specs.Digits.{digits_after}
use Rattle.words.proofs.number.read_digits.Given as goal

-- what is left decides
abbrev pub invariant-loop-digit : goal.invariant-loop-digit
invariant-loop-digit l = digits_after 0 l.word ≡ digits_after l.number (drop l.digit-index l.word)
