-- How great a flow can be.
use Rattle.std.proofs.Common.{ℕ, ℤ, pos, negsuc, ◌*ℤ◌, neg_ℤ, ◌≤ℤ◌}
use Rattle.shelf.proofs.Product.{times_within}
use Rattle.shelf.proofs.Sum.{sum_least, sum_most}
use Rattle.network.specs.Grid.{Grid, flow_of, least_share, most_share}

module _ (g : Grid) (k : ℕ) (injections : ℕ → ℤ) (least : (b : ℕ) → least_share ≤ℤ g.share k b) (most : (b : ℕ) → g.share k b ≤ℤ most_share) (low : (b : ℕ) → negsuc 1279999 ≤ℤ injections b) (high : (b : ℕ) → injections b ≤ℤ pos 1280000) where
  part : (b : ℕ) → (neg_ℤ (pos 1280000000) ≤ℤ (g.share k b *ℤ injections b)) × ((g.share k b *ℤ injections b) ≤ℤ pos 1280000000)
  part b = times_within (g.share k b) (injections b) 1000 1280000 (least b) (most b) (low b) (high b)

  pub flow_least : negsuc 81919999999 ≤ℤ flow_of g k injections
  flow_least = sum_least 64 1280000000 (λ b. g.share k b *ℤ injections b) (λ b _. (part b).0)

  pub flow_most : flow_of g k injections ≤ℤ pos 81920000000
  flow_most = sum_most 64 1280000000 (λ b. g.share k b *ℤ injections b) (λ b _. (part b).1)
