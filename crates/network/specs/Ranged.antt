-- Shares in range, and tables of them.
use Rattle.std.specs.Prelude.{◌≡◌, ℕ, zero, suc, ◌≤◌, true, ◌&&◌, List, [], ◌∷◌, length, map, ℤ, pos, ◌≤ℤ◌, int_le, slice_index_or, refl}
use Rattle.std.proofs.Common.{arith, ap}
use Rattle.std.proofs.lemmas.List.{get_or_past, length-map, length-take}
use Rattle.std.proofs.lemmas.Int.{ints}
use Rattle.std.proofs.lemmas.Bool.{and_parts}
use Rattle.given.specs.Kept.{kept}
use Rattle.network.specs.Grid.{Lawful, least_share, most_share}
use Rattle.network.specs.Table.{ranged, grid_of, tabled, meaning_of}
use Rattle.network.specs.declared.shares.Shares.{Shares}
use Rattle.network.specs.declared.table.TableNetwork.{TableNetwork}

is_le : (a b : ℤ) → int_le a b ≡ true → a ≤ℤ b
is_le a b e = omega (arith, ints)

pub ranged_each : (ss : List ℤ) → ranged ss ≡ true → (b : ℕ) → (least_share ≤ℤ slice_index_or ss b (pos 0)) × (slice_index_or ss b (pos 0) ≤ℤ most_share)
ranged_each [] e b = (omega (arith, ints), omega (arith, ints))
ranged_each (s ∷ ss) e zero =
    let ends = and_parts (int_le least_share s) (int_le s most_share) (and_parts (int_le least_share s && int_le s most_share) (ranged ss) e).0 in
    (is_le least_share s ends.0, is_le s most_share ends.1)
ranged_each (s ∷ ss) e (suc b) = ranged_each ss (and_parts (int_le least_share s && int_le s most_share) (ranged ss) e).1 b

-- what holds of the shares of each line holds of the row at any place, if it holds of no row
at_each : (P : List ℤ → Type 0) → P [] → ((s : Shares) → P s.at) → (lines : List Shares) (k : ℕ) → P (slice_index_or (map (λ s. s.at) lines) k [])
at_each P none each [] k = none
at_each P none each (s ∷ lines) zero = each s
at_each P none each (s ∷ lines) (suc k) = at_each P none each lines k

-- a table of shares is a lawful network
pub tabled_lawful : (lines : List Shares) → length lines ≤ 32 → Lawful (tabled lines)
tabled_lawful lines few =
    record {
      few = omega (arith, length-map lines (λ s. s.at), few);
      least = λ k b. at_each (λ row. least_share ≤ℤ slice_index_or row b (pos 0)) (omega (arith, ints)) (λ s. s.least b) lines k;
      most = λ k b. at_each (λ row. slice_index_or row b (pos 0) ≤ℤ most_share) (omega (arith, ints)) (λ s. s.most b) lines k;
      no_line = λ k b h. ap (λ (row : List ℤ). slice_index_or row b (pos 0)) (get_or_past (map (λ (s : Shares). s.at) lines) k [] (omega (arith, length-map lines (λ s. s.at), h)));
      no_bus = λ k b h. at_each (λ row. slice_index_or row b (pos 0) ≡ pos 0) refl (λ s. get_or_past s.at b (pos 0) (let m = s.buses in omega arith)) lines k;
    }

pub network_lawful : (t : TableNetwork) → Lawful (meaning_of t)
network_lawful t = tabled_lawful (kept t.rows.count t.rows.items) (omega (arith, length-take t.rows.count t.rows.items, t.few))

-- a table of the shares of rows is the network of the rows
pub tabled_is : (rows : List (List ℤ)) (lines : List Shares) → map (λ s. s.at) lines ≡ rows → tabled lines ≡ grid_of rows
tabled_is rows lines same = ap grid_of same
