-- The line that tells a fault, and what a call leaves that writes a text into a buffer.
use Rattle.std.specs.Prelude.{ℕ, cond, List, [], ◌∷◌, ◌++◌, length, drop, Ok, Err, codes, decimal, Result, nat_le}
use Rattle.fault.specs.declared.cause.Cause.TheVariants.{ShortBuffer}
use Rattle.fault.specs.declared.cause.Fault.{Fault}
use Rattle.fault.specs.Codes.{number_of, layer_of, letter_of}

-- `refused`, the cause's number, its layer's letter and the place, with one blank between
unfoldable pub refusal_text : Fault → List ℕ
refusal_text f = codes "refused " ++ decimal (number_of f.cause) ++ codes " " ++ (letter_of (layer_of f.cause) ∷ []) ++ codes " " ++ decimal f.place

-- that, and a newline
unfoldable pub refusal_line : Fault → List ℕ
refusal_line f = refusal_text f ++ (10 ∷ [])

-- the answer of a call that writes the text into a buffer: its length, or a fault where the buffer is shorter
unfoldable pub written_answer : List ℕ → List ℕ → Result ℕ Fault
written_answer text before = cond (nat_le (length text) (length before)) (Ok (length text)) (Err (record { cause = ShortBuffer; place = 0 }))

-- the buffer after that call: the text and what stood past it, or what stood there where it is shorter
unfoldable pub written_bytes : List ℕ → List ℕ → List ℕ
written_bytes text before = cond (nat_le (length text) (length before)) (text ++ drop (length text) before) before
