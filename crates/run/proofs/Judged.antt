-- A proposal's contract from how it was judged.
use Rattle.std.proofs.Common.{◌≡◌, true, eqb, is_some, Some, None, Ok, Err, Option, sym, refl, ap, ◌∙◌}
use Rattle.std.proofs.lemmas.Bool.{eq-eqb, or_left, or_right, and_from, cond-true}
use Rattle.fault.specs.First.{or_else}
use Rattle.fault.specs.declared.cause.Fault.{Fault}
use Rattle.calls.specs.declared.call.Call.TheVariants.{Propose}
use Rattle.calls.specs.declared.call.Proposal.{Proposal}
use Rattle.book.specs.Meaning.{Book}
use Rattle.network.specs.Grid.{Grid}
use Rattle.feasible.specs.declared.stage.Stage.{Stage}
use Rattle.checks.specs.Causes.{judged_fault}
use Rattle.checks.specs.Proposed.{HeldStep, weighed}
use Rattle.law.specs.After.{replaced}
use Rattle.law.specs.Declined.{step_fault}
use Rattle.law.specs.State.{State, step_in, priced_book, stage_of}
use Rattle.run.specs.Called.{Called}
use Rattle.run.proofs.Answered.{accepted, declined}

module _ (m : Book) (g : Grid) (s : State) (p : Proposal) where
  -- the first cause of a proposal for step t
  abbrev pub judged : Stage → Option Fault
  judged t = judged_fault (priced_book m g s.force s.first t) g (step_in s.force t) s.force.tolerance p

  abbrev pub as_held : Stage → HeldStep
  as_held t = weighed (priced_book m g s.force s.first t) g (step_in s.force t) p

  module _ (t : Stage) (stepped : step_fault s p ≡ None) (stage : stage_of p.step ≡ t) where
    pub proposal_accepted : (h : HeldStep) → judged t ≡ None → h ≡ as_held t → Called m g s (Propose p) (replaced t h s) (Ok tt)
    proposal_accepted h none is =
        accepted m g s (Propose p) (replaced t h s)
        (ap (λ o. or_else o (judged (stage_of p.step))) stepped ∙ ap judged stage ∙ none)
        (ap (λ x. replaced t x s) is ∙ sym (ap (λ u. replaced u (as_held u) s) stage))

    pub proposal_declined : (f : Fault) → judged t ≡ Some f → Called m g s (Propose p) s (Err f)
    proposal_declined f some =
        declined m g s (Propose p) s f (ap (λ o. or_else o (judged (stage_of p.step))) stepped ∙ ap judged stage ∙ some) refl

  pub first_stepped : p.step ≡ 1 → step_fault s p ≡ None
  first_stepped e = cond-true _ _ _ (or_left _ _ (eq-eqb p.step 1 e))

  pub second_stepped : p.step ≡ 2 → is_some s.first ≡ true → step_fault s p ≡ None
  second_stepped e some = cond-true _ _ _ (or_right (eqb p.step 1) _ (and_from _ _ (eq-eqb p.step 2 e) some))
