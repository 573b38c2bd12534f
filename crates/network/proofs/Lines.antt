-- The lines of a table, one by one.
use Rattle.std.proofs.Common.{◌≡◌, ℕ, ◌+◌, ◌<◌, ◌≤◌, List, [], ◌∷◌, ◌++◌, length, map, take, get_or, ℤ, pos, ◌*ℤ◌, ap, sym, ◌∙◌, arith}
use lib.IntN.{zero-*ℤ}
use Rattle.std.proofs.lemmas.List.{get_or-map, get_or_past, length-append, length-map, length-take-le, map-append, take_all, take_more}
use Rattle.shelf.specs.Sum.{sum}
use Rattle.shelf.proofs.Sum.{sum_zero}
use Rattle.network.specs.Grid.{flow_of}
use Rattle.network.specs.Table.{line_flow, tabled}
use Rattle.network.specs.declared.shares.Shares.{Shares}

-- the flow on a line of a table
pub flow_here : (lines : List Shares) (k : ℕ) (s : Shares) (x : ℕ → ℤ) → k < length lines → s ≡ get_or lines k s → line_flow s x 64 ≡ flow_of (tabled lines) k x
flow_here lines k s x h e = ap (λ row. sum 64 (λ b. get_or row b (pos 0) *ℤ x b)) (ap (λ t. t.at) e ∙ sym (get_or-map (λ t. t.at) lines k s [] h))

-- and on one that is not there
pub flow_gone : (lines : List Shares) (k : ℕ) (x : ℕ → ℤ) → length lines ≤ k → pos 0 ≡ flow_of (tabled lines) k x
flow_gone lines k x h =
    let none = get_or_past (map (λ t. t.at) lines) k [] (omega (arith, length-map lines (λ t. t.at), h)) in
    sym (ap (λ row. sum 64 (λ b. get_or row b (pos 0) *ℤ x b)) none ∙ sum_zero 64 (λ b. pos 0 *ℤ x b) (λ b _. zero-*ℤ (x b)))

-- one line more in a table with room
pub one_more : (rows : List (List ℤ)) (was : List Shares) (s : Shares) (i : ℕ) → length rows ≤ 32 → i < length rows → map (λ t. t.at) was ≡ take i rows → s.at ≡ get_or rows i [] → map (λ t. t.at) (take 32 (was ++ s ∷ [])) ≡ take (i + 1) rows
one_more rows was s i few h same here =
    let long : length was ≡ i = sym (length-map was (λ t. t.at)) ∙ ap length same ∙ length-take-le i rows (omega arith) in
    ap (map (λ t. t.at)) (take_all 32 (was ++ s ∷ []) (omega (arith, length-append was (s ∷ [])))) ∙ map-append (λ t. t.at) was (s ∷ [])
    ∙ ap (λ xs. xs ++ s.at ∷ []) same
    ∙ ap (λ r. take i rows ++ r ∷ []) here
    ∙ sym (take_more rows i [] h)
