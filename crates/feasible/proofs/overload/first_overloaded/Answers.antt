use Rattle.std.proofs.Common.{◌≡◌, true, false, rules}
use Rattle.std.proofs.lemmas.Iterator.{first_from_Range}
use Rattle.network.specs.Sheet.{sheet_of}
use Rattle.dispatch.specs.Base.{base_of}
use Rattle.feasible.specs.Checks.{Carried, over}
use Rattle.feasible.specs.Stages.{held_to}
use Rattle.feasible.proofs.Flows.{over_fails, over_carried}
use Rattle.feasible.proofs.Places.{found}
use Rattle.feasible.proofs.overload.first_overloaded.Goals as goal

pub returns : goal.returns
returns g c =
    let m = g.B.OfferBook.meaning c.args.book.now in
    let n = g.N.Network.meaning c.args.network.now in
    let s = held_to c.args.step.now in
    let x = base_of c.args.dispatch.now in
    let sheet = sheet_of c.injections_of-sheet.result in
    let same = c.injections_of-sheet.ensures in
    rw (← c.lines.ensures)
    (found _ (Carried m n s x) _ (first_from_Range _ _ _ _ (λ i. Carried m n s x i → ⊥) (Carried m n s x) c.find.ensures.ran
    (λ k q r. let e : over n s sheet k ≡ true = search rules in over_fails m n x sheet same k s e)
    (λ k q r. let e : over n s sheet k ≡ false = search rules in (search rules, over_carried m n x sheet same k s e))))
