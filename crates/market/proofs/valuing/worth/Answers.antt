use Rattle.std.proofs.Common.{◌≡◌, ◌*ℤ◌, neg_ℤ, ap, ◌∙◌, arith, w64, SFits}
use Rattle.std.proofs.lemmas.Int.{ints, to_z-of_z}
use Rattle.shelf.specs.Sum.{sum}
use Rattle.dispatch.specs.Base.{base_of}
use Rattle.market.specs.Market.{cost}
use Rattle.market.proofs.Certificate.{duality, exactness}
use Rattle.market.proofs.Totals.{none, more}
use Rattle.market.proofs.valuing.worth.Goals as goal

pub loop-participant-init : goal.loop-participant-init
loop-participant-init g c = none _ _

pub loop-participant-preserved : goal.loop-participant-preserved
loop-participant-preserved g c =
    let few = g.met.B.OfferBook.few c.args.book.now in
    let count = c.count-participant-end.ensures in
    let cost = c.cost-cost.ensures in
    let range = c.sided-total.ensures.within 34000000000 (omega (arith, ints)) (omega (arith, ints)) in
    let so_far = c.loop-participant.invariant in
    let fit : SFits w64 c.cost-cost.result = record { sfits = c.cost-cost.type_inv } in
    more _ _ _ _ (neg_ℤ c.sided-total.result) _ so_far (ap neg_ℤ (c.sided-total.ensures.value (omega (arith, ints)) ∙ (rw (to_z-of_z w64 c.cost-cost.result fit, c.side.ensures, cost.value, c.base.ensures.value)))) (omega (arith, ints)) (omega (arith, ints)) (omega (arith, ints))

pub overflow_sub-total : goal.overflow_sub-total
overflow_sub-total g c =
    let few = g.met.B.OfferBook.few c.args.book.now in
    let count = c.count-participant-end.ensures in
    let cost = c.cost-cost.ensures in
    let range = c.sided-total.ensures.within 34000000000 (omega (arith, ints)) (omega (arith, ints)) in
    let so_far = c.loop-participant.invariant in
    omega (arith, ints)

pub returns : goal.returns
returns g c =
    let m = g.B.OfferBook.meaning c.args.book.now in
    let x = base_of c.args.dispatch.now in
    let e : c.loop-participant.participant ≡ m.count = let a = c.count-participant-end.ensures in omega arith in
    record {
      value = c.loop-participant.invariant.value ∙ ap (λ n. sum n (λ i. neg_ℤ (m.side i *ℤ cost m i (x i)))) e;
      duality = duality;
      exactness = exactness;
    }
