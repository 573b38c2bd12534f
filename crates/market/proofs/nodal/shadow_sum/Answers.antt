use Rattle.std.proofs.Common.{◌∙◌, arith, w16, SFits}
use Rattle.std.proofs.lemmas.Int.{ints, to_z-of_z}
use Rattle.market.proofs.Totals.{none, more}
use Rattle.market.proofs.nodal.shadow_sum.Goals as goal

pub loop-line-init : goal.loop-line-init
loop-line-init g c = none _ _

pub loop-line-preserved : goal.loop-line-preserved
loop-line-preserved g c =
    let few = g.met.N.Network.few c.args.network.now in
    let count = c.lines-line-end.ensures in
    let so_far = c.loop-line.invariant in
    let part = c.part-total.ensures in
    let fit : SFits w16 c.share.result = record { sfits = c.share.type_inv } in
    more _ _ _ _ c.part-total.result _ so_far (part.value ∙ (rw (to_z-of_z w16 c.share.result fit, c.share.ensures, c.shadow.ensures.value))) (omega (arith, ints)) (omega (arith, ints)) (omega (arith, ints))
