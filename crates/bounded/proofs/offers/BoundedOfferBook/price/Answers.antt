use Rattle.std.proofs.Common.{sym, arith}
use Rattle.bounded.specs.Mitigation.{bites}
use Rattle.bounded.specs.Layered.{bites_there}
use Rattle.bounded.proofs.offers.BoundedOfferBook.price.Goals as goal

pub apply-requires : goal.apply-requires
apply-requires g c =
    let book = c.args.self.now.book in
    let m = g.B.OfferBook.meaning book in
    let few = g.met.B.OfferBook.few book in
    let i = c.args.participant in
    let q = c.args.level in
    let there = bites_there m (g.met.B.OfferBook.lawful book) i q (sym {b = bites m i q} c.if-bites.ensures) in
    omega arith
