use Rattle.std.proofs.Common.{ap, sym, slice_index, arith, rules}
use Rattle.dispatch.proofs.Reach.{whole, reachable_each}
use Rattle.dispatch.proofs.dispatch.Dispatch.new.Goals as goal

pub invariant_of-result : goal.invariant_of-result
invariant_of-result c =
    let points = c.args.points.now in
    rw (whole 64 points c.new-base.ensures.none c.append.ensures.list (omega arith))
    (record { most = reachable_each points (sym c.if-not-all_reachable.ensures) })

pub returns : goal.returns
returns c =
    let points = c.args.points.now in
    (search rules, λ i. ap (λ xs. slice_index xs i) (whole 64 points c.new-base.ensures.none c.append.ensures.list (omega arith)))
