use Rattle.std.proofs.Common.{◌≡◌, Some, None, refl, ap, subst}
use Rattle.std.proofs.lemmas.Result.{err_from_is_err_and}
use Rattle.feasible.specs.declared.stage.Stage.TheVariants.{First}
use Rattle.feasible.specs.Stages.{held_to}
use Rattle.market.specs.Market.{Step}
use Rattle.checks.specs.Causes.{judged_fault}
use Rattle.checks.specs.Proposed.{held_of, weighed}
use Rattle.law.specs.State.{stage_of, step_in}
use Rattle.run.specs.View.{state_of, force_of}
use Rattle.run.proofs.Judged.{proposal_accepted, proposal_declined, first_stepped}
use Rattle.run.proofs.run.Run.propose_first.Goals as goal

pub returns : goal.returns
returns g c =
    let run = c.args.self.now in
    let p = c.args.proposal.now in
    let m = g.B.OfferBook.meaning run.book.book in
    let n = g.N.Network.meaning run.network in
    let s = state_of run in
    let h = c.in_ok-held.held in
    let Held : g.row.B.Denot → Step → Type 0 = λ k z.
    (judged_fault (g.B.OfferBook.meaning k) n z run.tolerance p ≡ None) × (held_of h ≡ weighed (g.B.OfferBook.meaning k) n z p) in
    let books : g.row.B.Denot → Type 0 = λ k. Held k (step_in (force_of run) First) in
    let steps : Step → Type 0 = λ z. Held c.below.result.now z in
    let step : held_to c.step-step.result ≡ step_in (force_of run) First = c.step-step.ensures in
    let known = subst books c.below.ensures (subst steps step c.in_ok-held.ensures) in
    record {
      called = proposal_accepted m n s p First (first_stepped m n s p c.requires) (ap stage_of c.requires) (held_of h) known.0 known.1;
      market = record { book = refl; network = refl };
    }

pub returns-in_err-held : goal.returns-in_err-held
returns-in_err-held g c =
    let run = c.args.self.now in
    let p = c.args.proposal.now in
    let m = g.B.OfferBook.meaning run.book.book in
    let n = g.N.Network.meaning run.network in
    let s = state_of run in
    let f = c.in_err-held.field-0.0 in
    let Declined : g.row.B.Denot → Step → Type 0 = λ k z. judged_fault (g.B.OfferBook.meaning k) n z run.tolerance p ≡ Some f in
    let books : g.row.B.Denot → Type 0 = λ k. Declined k (step_in (force_of run) First) in
    let steps : Step → Type 0 = λ z. Declined c.below.result.now z in
    let step : held_to c.step-step.result ≡ step_in (force_of run) First = c.step-step.ensures in
    let known = subst books c.below.ensures (subst steps step c.in_err-held.ensures) in
    let e = err_from_is_err_and c.from_residual.result c.from_residual.ensures.1 in
    rw (e.1, e.2)
    (record {
      called = proposal_declined m n s p First (first_stepped m n s p c.requires) (ap stage_of c.requires) f known;
      market = record { book = refl; network = refl };
    })
