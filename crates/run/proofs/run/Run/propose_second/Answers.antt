use Rattle.std.proofs.Common.{◌≡◌, is_some, Some, None, Ok, Err, Option, sym, ap, subst}
use Rattle.std.specs.Option.{option_map}
use Rattle.std.proofs.lemmas.Result.{err_from_is_err_and}
use Rattle.calls.specs.declared.call.Call.TheVariants.{Propose}
use Rattle.feasible.specs.declared.stage.Stage.TheVariants.{Second}
use Rattle.checks.specs.Causes.{judged_fault}
use Rattle.checks.specs.Proposed.{HeldStep, held_of, weighed}
use Rattle.law.specs.After.{replaced}
use Rattle.law.specs.State.{State, stage_of, step_in, priced_book}
use Rattle.run.specs.Called.{Called}
use Rattle.run.specs.View.{state_of, force_of}
use Rattle.run.proofs.Judged.{proposal_accepted, proposal_declined, second_stepped}
use Rattle.run.proofs.run.Run.propose_second.Goals as goal

pub returns : goal.returns
returns g c =
    let run = c.args.self.now in
    let p = c.args.proposal.now in
    let m = g.B.OfferBook.meaning run.book.book in
    let n = g.N.Network.meaning run.network in
    let s = state_of run in
    let h = c.in_ok-held.held in
    let first : s.first ≡ Some (held_of c.in-Some.first) = ap (option_map held_of) c.in-Some.is in
    let P : Option HeldStep → Type 0 = λ o.
    (judged_fault (priced_book m n (force_of run) o Second) n (step_in (force_of run) Second) run.tolerance p ≡ None)
    × (held_of h ≡ weighed (priced_book m n (force_of run) o Second) n (step_in (force_of run) Second) p) in
    let known = subst P (sym first) c.in_ok-held.ensures.judged in
    let stepped = second_stepped m n s p c.requires (ap is_some first) in
    let Q : State → Type 0 = λ z. Called m n s (Propose p) (replaced Second (held_of h) z) (Ok tt) in
    record {
      called = subst Q (sym c.judge_second.ensures.still.state) (proposal_accepted m n s p Second stepped (ap stage_of c.requires) (held_of h) known.0 known.1);
      market = record { book = c.judge_second.ensures.still.book; network = c.judge_second.ensures.still.network };
    }

pub returns-in_err-held : goal.returns-in_err-held
returns-in_err-held g c =
    let run = c.args.self.now in
    let p = c.args.proposal.now in
    let m = g.B.OfferBook.meaning run.book.book in
    let n = g.N.Network.meaning run.network in
    let s = state_of run in
    let f = c.in_err-held.field-0.0 in
    let first : s.first ≡ Some (held_of c.in-Some.first) = ap (option_map held_of) c.in-Some.is in
    let P : Option HeldStep → Type 0 = λ o. judged_fault (priced_book m n (force_of run) o Second) n (step_in (force_of run) Second) run.tolerance p ≡ Some f in
    let stepped = second_stepped m n s p c.requires (ap is_some first) in
    let Q : State → Type 0 = λ z. Called m n s (Propose p) z (Err f) in
    let e = err_from_is_err_and c.from_residual.result c.from_residual.ensures.1 in
    rw (e.1, e.2)
    (record {
      called = subst Q (sym c.judge_second.ensures.still.state) (proposal_declined m n s p Second stepped (ap stage_of c.requires) f (subst P (sym first) c.in_err-held.ensures.judged));
      market = record { book = c.judge_second.ensures.still.book; network = c.judge_second.ensures.still.network };
    })
