-- The number that decimal digits write, and the price that they write with a sign.
use Rattle.std.specs.Prelude.{ℕ, ◌+◌, ◌-◌, ◌*◌, min, Bool, cond, ◌&&◌, List, [], ◌∷◌, length, drop, ℤ, pos, neg_ℤ, Ok, Err, Result, ◌==◌, nat_le, slice_index}
use Rattle.words.specs.declared.mistake.Mistake.{Mistake}
use Rattle.words.specs.declared.mistake.Mistake.TheVariants.{NotANumber}

abbrev pub is_digit : ℕ → Bool
is_digit b = nat_le 48 b && nat_le b 57

-- the largest number of 64 bits
abbrev pub top : ℕ
top = 18446744073709551615

-- digits after those of the number n, which stops at the largest of 64 bits
unfoldable pub digits_after : ℕ → List ℕ → Result ℕ Mistake
digits_after n [] = Ok n
digits_after n (b ∷ bs) = cond (is_digit b) (digits_after (min (n * 10 + (b - 48)) top) bs) (Err NotANumber)

-- one digit or more
abbrev pub number_of : List ℕ → Result ℕ Mistake
number_of bs = cond (length bs == 0) (Err NotANumber) (digits_after 0 bs)

-- the same, for a field that holds numbers up to its greatest
abbrev pub within : ℕ → Result ℕ Mistake → Result ℕ Mistake
within greatest (Ok n) = Ok (min n greatest)
within greatest (Err e) = Err e

abbrev pub number_within : ℕ → List ℕ → Result ℕ Mistake
number_within greatest bs = within greatest (number_of bs)

-- a number as a price, within the 32 bits that a price has
abbrev pub above_zero : Result ℕ Mistake → Result ℤ Mistake
above_zero (Ok n) = Ok (pos (min n 2147483647))
above_zero (Err e) = Err e

abbrev pub below_zero : Result ℕ Mistake → Result ℤ Mistake
below_zero (Ok n) = Ok (neg_ℤ (pos (min n 2147483648)))
below_zero (Err e) = Err e

-- digits, or digits after the byte 45, a minus
abbrev pub price_of : List ℕ → Result ℤ Mistake
price_of bs = cond (slice_index bs 0 == 45) (below_zero (number_of (drop 1 bs))) (above_zero (number_of bs))
