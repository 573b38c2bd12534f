-- What the words of a term say.
use Rattle.std.specs.Prelude.{ℕ, List, [], ◌∷◌}
use Rattle.calls.specs.declared.call.ParticipantTerm.{ParticipantTerm}
use Rattle.words.specs.Next.{Spent}
use Rattle.entries.specs.Entries.{Reads}
use Rattle.entries.specs.Numbers.{IsNumber, Holds, IsPrice, Answers}

-- participant, floor and cap, adder, an answer, and no word more
abbrev pub IsTerm : List ℕ → ParticipantTerm → Type 0
IsTerm text t =
    (first : List ℕ) × (second : List ℕ) × (third : List ℕ) × (fourth : List ℕ)
    × Reads IsNumber text (t.participant ∷ []) first
    × Reads IsPrice first (t.floor ∷ t.ceiling ∷ []) second
    × Reads (Holds 4294967295) second (t.adder ∷ []) third
    × Reads Answers third (t.subject ∷ []) fourth
    × Spent fourth
