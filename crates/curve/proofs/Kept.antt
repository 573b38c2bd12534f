-- A table to which nothing more comes.
use Rattle.std.proofs.Common.{◌≡◌, ◌≤◌, Bool, false, cond, List, [], ◌++◌, length, sym, ap, ◌∙◌}
use Rattle.std.proofs.lemmas.List.{append-nil, take_all}
use Rattle.std.proofs.lemmas.Bool.{cond-false}
use Rattle.rows.specs.declared.row.Point.{Point}
use Rattle.curve.specs.Listed.{kept}

pub none_more : (was : List Point) (test : Bool) (ps : List Point) → length was ≤ 13 → test ≡ false → was ≡ kept (was ++ cond test ps [])
none_more was test ps few h =
    sym (ap (λ qs. kept (was ++ qs)) (cond-false _ _ _ h) ∙ ap kept (append-nil was) ∙ take_all 13 was few)
