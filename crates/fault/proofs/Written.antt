-- A text laid at the start of a buffer is the text written there.
use Rattle.std.proofs.Common.{◌≡◌, ℕ, Bool, true, false, cond, List, length, Some, None, Ok, Err, nat_le, zero-add, refl}
use Rattle.std.specs.Option.{ok_or}
use Rattle.text.specs.Laid.{laid, laid_end}
use Rattle.fault.specs.declared.cause.Cause.TheVariants.{ShortBuffer}
use Rattle.fault.specs.declared.cause.Fault.{Fault}
use Rattle.fault.specs.Refusal.{written_answer, written_bytes}

either : (b : Bool) (n : ℕ) (f : Fault) → ok_or (cond b (Some n) None) f ≡ cond b (Ok n) (Err f)
either true n f = refl
either false n f = refl

-- where a text ends that was laid is the answer of the call that writes it, and a text that was not laid is its fault
pub written_is : (text before : List ℕ) → ok_or (laid_end text 0 before) (record { cause = ShortBuffer; place = 0 }) ≡ written_answer text before
unfolding written_answer
written_is text before = rw zero-add (either (nat_le (length text) (length before)) (length text) _)

-- and the buffer is the same in each case
pub written_bytes_are : (text before : List ℕ) → laid text 0 before ≡ written_bytes text before
unfolding written_bytes
written_bytes_are text before = simp zero-add
