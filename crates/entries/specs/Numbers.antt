-- What words say that are a number, a price or an answer.
use Rattle.std.specs.Prelude.{◌≡◌, ℕ, List, ℤ, Bool, if◌then◌else◌, Ok, codes}
use Rattle.words.specs.Next.{Next, Spent}
use Rattle.words.specs.Digits.{number_of, number_within, price_of}

abbrev pub IsNumber : List ℕ → ℕ → Type 0
IsNumber word n = number_of word ≡ Ok n

-- a number within a field that holds numbers up to its greatest
abbrev pub Holds : ℕ → List ℕ → ℕ → Type 0
Holds greatest word n = number_within greatest word ≡ Ok n

abbrev pub IsPrice : List ℕ → ℤ → Type 0
IsPrice word c = price_of word ≡ Ok c

-- yes or no
abbrev pub Answers : List ℕ → Bool → Type 0
Answers word b = word ≡ (if b then codes "yes" else codes "no")

-- a number within such a field, and no word more
abbrev pub IsOnly : ℕ → List ℕ → ℕ → Type 0
IsOnly greatest text n = (word : List ℕ) × (rest : List ℕ) × Next text word rest × Holds greatest word n × Spent rest
