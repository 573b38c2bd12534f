use Rattle.std.proofs.Common.{arith}
use Rattle.std.proofs.lemmas.Int.{ints}
use Rattle.market.proofs.walking.Paid.margin.Goals as goal

pub returns-clause-least : goal.returns-clause-least
returns-clause-least g c =
    let paid = c.args.self.now in
    let price = c.price.ensures in
    let most = g.met.B.OfferBook.most paid.book.now paid.participant c.args.level in
    omega (arith, ints)

pub returns-clause-most : goal.returns-clause-most
returns-clause-most g c =
    let paid = c.args.self.now in
    let price = c.price.ensures in
    let least = g.met.B.OfferBook.least paid.book.now paid.participant c.args.level in
    omega (arith, ints)
