-- What a number with a price says.
use Rattle.std.specs.Prelude.{◌≡◌, ℕ, ◌<◌, List, ◌∷◌, ◌++◌, length, ℤ, Ok, ◌≢◌, slice_index}
use Rattle.block.specs.declared.row.Block.{Block}
use Rattle.rows.specs.declared.row.Point.{Point}
use Rattle.words.specs.Digits.{number_within, price_of}

-- a word in two parts, with the byte 58, a colon, between them, and none in the first
abbrev pub Parted : List ℕ → List ℕ → List ℕ → Type 0
Parted word front back = (word ≡ front ++ 58 ∷ back) × ((i : ℕ) → i < length front → slice_index front i ≢ 58)

-- a number within a field of 16 bits, and a price
unfoldable pub IsPriced : List ℕ → ℕ → ℤ → Type 0
IsPriced word n c = (front : List ℕ) × (back : List ℕ) × Parted word front back × (number_within 65535 front ≡ Ok n) × (price_of back ≡ Ok c)

-- a point is level and price
abbrev pub IsPoint : List ℕ → Point → Type 0
IsPoint word p = IsPriced word p.level p.price

-- a block is size and price
abbrev pub IsBlock : List ℕ → Block → Type 0
IsBlock word b = IsPriced word b.size b.price
