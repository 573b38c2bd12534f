use Rattle.std.proofs.Common.{◌≡◌, ℕ, ◌+◌, ◌-◌, ◌*◌, ◌<◌, min, cond, List, length, get_or, drop, Err, arith}
use Rattle.std.proofs.lemmas.List.{at_drop_more, at_drop_all}
use Rattle.std.proofs.lemmas.Bool.Decides.{nat_tests}
use Rattle.words.specs.Digits.{digits_after, is_digit, top}
use Rattle.words.specs.declared.mistake.Mistake.TheVariants.{NotANumber}
use Rattle.words.proofs.number.read_digits.Goals as goal

ahead : (bs : List ℕ) (i n : ℕ) → i < length bs → digits_after n (drop i bs) ≡ cond (is_digit (get_or bs i 0)) (digits_after (min (n * 10 + (get_or bs i 0 - 48)) top) (drop (i + 1) bs)) (Err NotANumber)
unfolding digits_after
ahead bs i n h = at_drop_more (digits_after n) bs i 0 h

pub returns-then-not-is_ascii_digit : goal.returns-then-not-is_ascii_digit
returns-then-not-is_ascii_digit c =
    let h = ahead c.args.word.now c.loop-digit.digit-index c.loop-digit.number (omega arith) in
    grind (arith, nat_tests)

pub loop-digit-preserved : goal.loop-digit-preserved
loop-digit-preserved c =
    let h = ahead c.args.word.now c.loop-digit.digit-index c.loop-digit.number (omega arith) in
    grind (arith, nat_tests)

pub returns : goal.returns
unfolding digits_after
returns c =
    let h = at_drop_all (digits_after c.loop-digit.number) c.args.word.now c.loop-digit.digit-index (omega arith) in
    grind (arith, nat_tests)
