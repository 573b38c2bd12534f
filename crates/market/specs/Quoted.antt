-- The prices of a quote.
use Rattle.std.specs.Prelude.{ℕ, Bool, ◌&&◌, List, length, ℤ, pos, negsuc, int_le, nat_le, slice_index}
use Rattle.std.specs.List.{list_all}
use Rattle.given.specs.Kept.{kept}
use Rattle.market.specs.Market.{Prices}
use Rattle.market.specs.declared.quote.Quote.{Quote}

-- its shadow prices
abbrev pub shadows_of : Quote → List ℕ
shadows_of q = kept q.shadow.count q.shadow.items

abbrev pub prices_of : Quote → Prices
prices_of q = record { system = q.system; shadow = λ k. pos (slice_index (shadows_of q) k) }

-- shadow prices up to 1,000,000
unfoldable pub payable : List ℕ → Bool
payable us = list_all (λ u. nat_le u 1000000) us

-- prices that a quote can hold
abbrev pub quotable : ℤ → List ℕ → Bool
quotable y us = int_le (negsuc 999999) y && int_le y (pos 1000000) && nat_le (length us) 32 && payable us
