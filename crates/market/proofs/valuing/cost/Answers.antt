use Rattle.std.proofs.Common.{◌≡◌, suc, ◌+◌, ◌-◌, ap, ◌∙◌, arith}
use Rattle.std.proofs.lemmas.Int.{ints}
use Rattle.shelf.specs.Sum.{sum}
use Rattle.market.proofs.Totals.{none_at, more_to}
use Rattle.market.proofs.valuing.cost.Goals as goal

pub loop-below-init : goal.loop-below-init
loop-below-init g c = let low = c.low-below.ensures in (omega arith, omega arith, none_at _ _ _ (omega arith))

pub loop-below-preserved : goal.loop-below-preserved
loop-below-preserved g c =
    let m = g.B.OfferBook.meaning c.args.book.now in
    let i = c.args.participant in
    let q = c.loop-below.below in
    let least = g.met.B.OfferBook.least c.args.book.now i (q + 1) in
    let most = g.met.B.OfferBook.most c.args.book.now i (q + 1) in
    let price = c.price.ensures in
    let total = c.loop-below.invariant.2 in
    let place : q + 1 ≡ suc (m.low i + (q - m.low i)) = omega arith in
    (omega arith, omega arith, more_to _ _ _ _ _ c.price.result _ total (omega arith) (price ∙ ap (m.price i) place) (omega (arith, ints)) (omega (arith, ints)) (omega (arith, ints)))

pub returns : goal.returns
returns g c =
    let m = g.B.OfferBook.meaning c.args.book.now in
    let i = c.args.participant in
    let total = c.loop-below.invariant.2 in
    let e : c.loop-below.below - m.low i ≡ c.args.level - m.low i = omega arith in
    record {
      value = total.value ∙ ap (λ n. sum n (λ t. m.price i (suc (m.low i + t)))) e;
      least = omega (arith, ints);
      most = omega (arith, ints);
    }
