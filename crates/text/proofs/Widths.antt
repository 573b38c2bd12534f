-- How long a 64-bit number is in decimal.
use Rattle.std.proofs.Common.{ℕ, ◌^◌, ◌<◌, ◌≤◌, length, decimal, arith}
use Rattle.std.proofs.lemmas.Fmt.{length-decimal-le}

pub length_decimal_20 : (n : ℕ) → n < 2 ^ 64 → length (decimal n) ≤ 20
length_decimal_20 n h = length-decimal-le 20 n (omega arith) (omega arith) h
