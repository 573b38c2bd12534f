use Rattle.std.proofs.Common.{◌≡◌, Some, sym, ap, ◌∙◌, rules}
use Rattle.std.proofs.lemmas.Bool.{cond-true, cond-false}
use Rattle.fault.specs.First.{or_else}
use Rattle.fault.specs.declared.cause.Cause.TheVariants.{FlowLimit}
use Rattle.dispatch.specs.Base.{base_of}
use Rattle.market.specs.Market.{balance, due}
use Rattle.feasible.specs.Checks.{Carried}
use Rattle.feasible.specs.First.{placed}
use Rattle.feasible.specs.Places.{Everywhere, FirstFailing}
use Rattle.feasible.specs.Stages.{held_to}
use Rattle.checks.specs.Causes.{flow_fault, overloaded}
use Rattle.checks.proofs.Feasible.{carried_light, light_carried}
use Rattle.checks.proofs.First.{first_failing, nowhere_failing}
use Rattle.checks.proofs.Signs.{is_same, not_same}
use Rattle.checks.proofs.placing.check_network.Goals as goal

pub returns-then-not-balanced : goal.returns-then-not-balanced
returns-then-not-balanced g c =
    let m = g.B.OfferBook.meaning c.args.book.now in
    let n = g.N.Network.meaning c.args.network.now in
    let s = held_to c.args.step.now in
    let x = base_of c.args.dispatch.now in
    let off : balance m x ≡ due m s → ⊥ = search rules in
    ap (λ o. or_else o (flow_fault m n s x)) (cond-false _ _ _ (not_same _ _ off)) ∙ ap Some (sym c.new.ensures)

pub returns-in-Some : goal.returns-in-Some
returns-in-Some g c =
    let m = g.B.OfferBook.meaning c.args.book.now in
    let n = g.N.Network.meaning c.args.network.now in
    let s = held_to c.args.step.now in
    let x = base_of c.args.dispatch.now in
    let even : balance m x ≡ due m s = search rules in
    let first : FirstFailing n.lines (Carried m n s x) c.in-Some.place = search rules in
    ap (λ o. or_else o (flow_fault m n s x)) (cond-true _ _ _ (is_same _ _ even))
    ∙ ap (placed FlowLimit) (first_failing n.lines (Carried m n s x) (overloaded m n s x) (carried_light m n s x) (light_carried m n s x) c.in-Some.place first)
    ∙ ap Some (sym c.new-in-Some.ensures)

pub returns-in-None : goal.returns-in-None
returns-in-None g c =
    let m = g.B.OfferBook.meaning c.args.book.now in
    let n = g.N.Network.meaning c.args.network.now in
    let s = held_to c.args.step.now in
    let x = base_of c.args.dispatch.now in
    let even : balance m x ≡ due m s = search rules in
    let none : Everywhere n.lines (Carried m n s x) = search rules in
    ap (λ o. or_else o (flow_fault m n s x)) (cond-true _ _ _ (is_same _ _ even))
    ∙ ap (placed FlowLimit) (nowhere_failing n.lines (Carried m n s x) (overloaded m n s x) (carried_light m n s x) (light_carried m n s x) none)
