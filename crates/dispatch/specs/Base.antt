-- The base points of a dispatch.
use Rattle.std.specs.Prelude.{ℕ, Bool, ◌&&◌, List, length, nat_le, slice_index}
use Rattle.std.specs.List.{list_all}
use Rattle.given.specs.Kept.{kept}
use Rattle.dispatch.specs.declared.dispatch.Dispatch.{Dispatch}

-- the base point of participant i; 0 where there is none
abbrev pub base_of : Dispatch → ℕ → ℕ
base_of d i = slice_index (kept d.base.count d.base.items) i

-- base points that a dispatch can hold
unfoldable pub reachable : List ℕ → Bool
reachable xs = list_all (λ x. nat_le x 20000) xs

-- at most 64 of them
abbrev pub holds : List ℕ → Bool
holds xs = nat_le (length xs) 64 && reachable xs
