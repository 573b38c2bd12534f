-- What a history leaves is what its calls leave, one after another.
use Rattle.std.proofs.Common.{◌≡◌, Bool, true, false, cond, eqb, List, [], ◌∷◌, Some, None, Option, refl}
use Rattle.std.specs.Option.{option_map}
use Rattle.fault.specs.declared.cause.Fault.{Fault}
use Rattle.calls.specs.declared.call.Call.{Call}
use Rattle.calls.specs.declared.call.Call.TheVariants.{Require, Limit, Term, Propose}
use Rattle.calls.specs.declared.call.LineLimit.{LineLimit}
use Rattle.calls.specs.declared.call.ParticipantTerm.{ParticipantTerm}
use Rattle.calls.specs.declared.call.Proposal.{Proposal}
use Rattle.book.specs.Meaning.{Book}
use Rattle.network.specs.Grid.{Grid}
use Rattle.feasible.specs.declared.stage.Stage.{Stage}
use Rattle.feasible.specs.declared.stage.Stage.TheVariants.{First, Second}
use Rattle.checks.specs.Proposed.{weighed}
use Rattle.law.specs.After.{made, answered, state_after, limited, termed, term_in, replaced}
use Rattle.law.specs.Declined.{fault_of}
use Rattle.law.specs.History.{Entry, heard, last_set, history, left_by, force_in, first_in, sets_first, sets_second, proposed_first, proposed_second}
use Rattle.law.specs.Law.{leaves}
use Rattle.law.specs.State.{new_run, step_in, priced_book, stage_of}

-- an entry that is set where a test is true, and stays elsewhere
heard_where : {X : Type 0} (b : Bool) (x y : X) → heard None (cond b (Some x) None) y ≡ cond b x y
heard_where true x y = refl
heard_where false x y = refl

module _ (m : Book) (g : Grid) (h : List Entry) where
  limit_left : (q : LineLimit) → left_by m g (record { call = Limit q; answer = None } ∷ h) ≡ limited q (left_by m g h)
  unfolding last_set
  limit_left q = λ j.
      let s = left_by m g h in
      record {
        force = record {
          requirement = s.force.requirement;
          tolerance = s.force.tolerance;
          amount = λ k. heard_where (eqb k q.line) q.amount (s.force.amount k) j;
          competitive = λ k. heard_where (eqb k q.line) q.competitive (s.force.competitive k) j;
          terms = s.force.terms;
        };
        first = None;
        second = None;
      }

  term_left : (q : ParticipantTerm) → left_by m g (record { call = Term q; answer = None } ∷ h) ≡ termed q (left_by m g h)
  unfolding last_set
  term_left q = λ j.
      let s = left_by m g h in
      record {
        force = record {
          requirement = s.force.requirement;
          tolerance = s.force.tolerance;
          amount = s.force.amount;
          competitive = s.force.competitive;
          terms = λ i. heard_where (eqb i q.participant) (term_in q) (s.force.terms i) j;
        };
        first = s.first;
        second = None;
      }

  -- by the step that is proposed
  propose_left : (p : Proposal) (t : Stage) →
      record {
        force = force_in h;
        first = option_map (weighed m g (step_in (force_in h) First)) (heard None (proposed_first t p) (last_set sets_first None h));
        second =
            option_map (weighed (priced_book m g (force_in h) (option_map (weighed m g (step_in (force_in h) First)) (heard None (proposed_first t p) (last_set sets_first None h))) Second) g (step_in (force_in h) Second))
            (heard None (proposed_second t p) (last_set sets_second None h));
      }
      ≡ replaced t (weighed (priced_book m g (force_in h) (first_in m g h) t) g (step_in (force_in h) t) p) (left_by m g h)
  propose_left p First = refl
  propose_left p Second = refl

  left : (c : Call) (a : Option Fault) → left_by m g (record { call = c; answer = a } ∷ h) ≡ answered a (made m g (left_by m g h) c) (left_by m g h)
  unfolding last_set
  left c (Some f) = refl
  left (Require q) None = refl
  left (Limit q) None = limit_left q
  left (Term q) None = term_left q
  left (Propose p) None = propose_left p (stage_of p.step)

pub new_leaves : (m : Book) (g : Grid) → leaves m g [] ≡ new_run
unfolding history last_set
new_leaves m g = refl

pub call_leaves : (m : Book) (g : Grid) (c : Call) (cs : List Call) → leaves m g (c ∷ cs) ≡ state_after m g (leaves m g cs) c
unfolding history
call_leaves m g c cs = left m g (history m g cs) c (fault_of m g (leaves m g cs) c)
