use Rattle.std.proofs.Common.{◌≡◌, ℕ, ◌+◌, ◌<◌, Bool, cond, List, length, get_or, drop, Some, ◌∙◌, add-one, arith}
use Rattle.std.proofs.lemmas.List.{at_drop_more, at_drop_all}
use Rattle.fault.specs.declared.cause.Cause.{Cause}
use Rattle.fault.specs.Rules.{first_broken, fault}
use Rattle.fault.proofs.rule.hold.Goals as goal

ahead : {R : Type 0} (broken : R → Bool) (k : Cause) (rows : List R) (i : ℕ) (d : R) → i < length rows → first_broken broken k i (drop i rows) ≡ cond (broken (get_or rows i d)) (Some (fault k i)) (first_broken broken k (i + 1) (drop (i + 1) rows))
unfolding first_broken
ahead broken k rows i d h = rw add-one (rw add-one at (at_drop_more (first_broken broken k i) rows i d h))

pub returns-then-is_broken_by : goal.returns-then-is_broken_by
returns-then-is_broken_by g c =
    let h = ahead (g.R.Rule.broken c.args.rule.now) (g.R.Rule.named c.args.rule.now) c.args.rows.now c.loop-place.place c.index-rows-place.result (omega arith) in
    grind arith

pub loop-place-preserved : goal.loop-place-preserved
loop-place-preserved g c =
    let h = ahead (g.R.Rule.broken c.args.rule.now) (g.R.Rule.named c.args.rule.now) c.args.rows.now c.loop-place.place c.index-rows-place.result (omega arith) in
    grind arith

pub returns : goal.returns
unfolding first_broken
returns g c =
    c.loop-place.invariant
    ∙ at_drop_all (first_broken (g.R.Rule.broken c.args.rule.now) (g.R.Rule.named c.args.rule.now) c.loop-place.place) c.args.rows.now c.loop-place.place (omega arith)
