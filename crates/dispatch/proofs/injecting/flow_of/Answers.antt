use Rattle.std.proofs.Common.{◌≡◌, ◌*ℤ◌, ap, ◌∙◌, w64, to_z, of_z}
use Rattle.std.proofs.lemmas.Int.{to_z-of_z}
use Rattle.shelf.proofs.Sum.{sum_same}
use Rattle.network.specs.Sheet.{sheet_of}
use Rattle.dispatch.specs.Base.{base_of}
use Rattle.dispatch.specs.Injected.{injected, dispatch_flow}
use Rattle.dispatch.proofs.Exchange.{flows_agree}
use Rattle.dispatch.proofs.injecting.flow_of.Goals as goal

pub returns : goal.returns
returns g c =
    let m = g.B.OfferBook.meaning c.args.book.now in
    let n = g.N.Network.meaning c.args.network.now in
    let x = base_of c.args.dispatch.now in
    let value : to_z w64 (of_z w64 c.flow.result) ≡ dispatch_flow m n x c.args.line =
    to_z-of_z w64 _ (record { sfits = c.flow.type_inv }) ∙ c.flow.ensures
    ∙ sum_same 64 (λ b. n.share c.args.line b *ℤ sheet_of c.injections_of-sheet.result b) (λ b. n.share c.args.line b *ℤ injected m x b)
    (λ b _. ap (λ z. n.share c.args.line b *ℤ z) (c.injections_of-sheet.ensures b)) in
    record { value = value; exchanged = value ∙ flows_agree m n x c.args.line (g.met.B.OfferBook.buses c.args.book.now) }
