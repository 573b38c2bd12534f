-- What the words of a text say, each read by itself.
use Rattle.std.specs.Prelude.{◌≡◌, ℕ, ◌≤◌, min, List, [], ◌∷◌, length, take}
use Rattle.given.specs.Kept.{kept}
use Rattle.given.specs.declared.given.Given.{Given}
use Rattle.words.specs.Next.{Next, Spent}

-- words were taken from a text one after another and read into entries, and the rest of it is left
unfoldable pub Reads : {X : Type 0} → (List ℕ → X → Type 0) → List ℕ → List X → List ℕ → Type 0
Reads R text [] rest = text ≡ rest
Reads R text (x ∷ xs) rest = (word : List ℕ) × (after : List ℕ) × Next text word after × R word x × Reads R after xs rest

-- the entries of all words of a text
unfoldable pub Lists : {X : Type 0} → (List ℕ → X → Type 0) → List ℕ → List X → Type 0
Lists R text xs = (rest : List ℕ) × Reads R text xs rest × Spent rest

-- a table in which every entry is counted, and as many are kept as there is room for
abbrev pub Counted : {X : Type 0} {n : ℕ} → (List ℕ → X → Type 0) → List ℕ → Given X n → Type 0
Counted {X} {n} R text list =
    (entries : List X) × Lists R text entries × (list.count ≡ min (length entries) 18446744073709551615) × (kept list.count list.items ≡ take n entries)

-- a table with room for every entry
abbrev pub Within : {X : Type 0} {n : ℕ} → (List ℕ → X → Type 0) → List ℕ → Given X n → Type 0
Within {X} {n} R text list =
    (entries : List X) × Lists R text entries × (length entries ≤ n) × (list.count ≡ length entries) × (kept list.count list.items ≡ entries)
