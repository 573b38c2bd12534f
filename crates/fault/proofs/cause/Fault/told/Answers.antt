use Rattle.std.proofs.Common.{◌^◌, ◌<◌, ◌≤◌, length, arith, rules}
use Rattle.std.proofs.lemmas.List.{length-append}
use Rattle.text.proofs.Kept.{kept_all, kept_more}
use Rattle.text.proofs.Widths.{length_decimal_20}
use Rattle.fault.specs.declared.cause.Fault.{Fault}
use Rattle.fault.specs.Codes.{number_of}
use Rattle.fault.specs.Refusal.{refusal_line, refusal_text}
use Rattle.fault.proofs.cause.Fault.told.Goals as goal

refusal_at_most : (f : Fault) → number_of f.cause < 2 ^ 64 → f.place < 2 ^ 64 → length (refusal_line f) ≤ 80
unfolding refusal_line refusal_text
refusal_at_most f n p =
    simp length-append (omega (arith, length_decimal_20 (number_of f.cause) n, length_decimal_20 f.place p))

pub returns : goal.returns
unfolding refusal_line refusal_text
returns c =
    let n = c.number.ensures.value in
    simp (c.put-4.ensures, c.put_unsigned-2.ensures, c.put-3.ensures, c.put-2.ensures, c.letter.ensures, c.layer.ensures, c.put.ensures, c.put_unsigned.ensures, n, c.put_text.ensures, c.new-line.ensures, kept_more)
    (kept_all (refusal_line c.args.self) (refusal_at_most c.args.self (omega arith) (search rules)))
