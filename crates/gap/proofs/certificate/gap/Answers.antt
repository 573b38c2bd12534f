use Rattle.std.proofs.Common.{◌≡◌, ◌∙◌, arith, rules}
use Rattle.std.proofs.lemmas.Int.{ints}
use Rattle.shelf.specs.Sum.{sum}
use Rattle.network.specs.Sheet.{sheet_of}
use Rattle.dispatch.specs.Base.{base_of}
use Rattle.market.specs.Market.{slack}
use Rattle.market.specs.Quoted.{prices_of}
use Rattle.feasible.specs.Stages.{held_to}
use Rattle.gap.specs.Forgoing.{Total}
use Rattle.gap.proofs.Sums.{slacks_agree, certified}
use Rattle.gap.proofs.certificate.gap.Goals as goal

pub returns : goal.returns
returns g c =
    let m = g.B.OfferBook.meaning c.args.book.now in
    let n = g.N.Network.meaning c.args.network.now in
    let s = held_to c.args.step.now in
    let p = prices_of c.args.quote.now in
    let x = base_of c.args.dispatch.now in
    let few = g.met.B.OfferBook.few c.args.book.now in
    let forgone : Total m n p x m.count c.in_ok-forgone.forgone = search rules in
    let slacks = c.slacks.ensures in
    let is : c.slacks.result ≡ sum n.lines (slack m n s p x) = slacks.value ∙ slacks_agree m n s p x (sheet_of c.injections_of-sheet.result) c.injections_of-sheet.ensures in
    certified m n s p x _ (g.met.B.OfferBook.lawful c.args.book.now) (omega (arith, ints))
