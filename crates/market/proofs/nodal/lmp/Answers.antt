use Rattle.std.proofs.Common.{◌≡◌, ap, ◌∙◌, arith}
use Rattle.std.proofs.lemmas.Int.{ints}
use Rattle.market.specs.Priced.{shadow_sum}
use Rattle.market.specs.Quoted.{prices_of}
use Rattle.market.proofs.nodal.lmp.Goals as goal

pub returns-clause-value : goal.returns-clause-value
returns-clause-value g c =
    let m = g.B.OfferBook.meaning c.args.book.now in
    let n = g.N.Network.meaning c.args.network.now in
    let q = prices_of c.args.quote.now in
    let system = c.args.quote.now in
    let sum = c.shadow_sum.ensures in
    let value : c.shadow_sum.result ≡ shadow_sum n q (m.bus c.args.participant) n.lines = sum.value ∙ ap (λ b. shadow_sum n q b n.lines) c.bus.ensures in
    omega (arith, ints)
