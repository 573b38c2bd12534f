-- What a list of calls leaves, told by the calls alone. A history has the newest call first.
use Rattle.std.specs.Prelude.{ℕ, Bool, true, cond, List, [], ◌∷◌, Some, None, Option, ◌==◌}
use Rattle.std.specs.Option.{option_map}
use Rattle.fault.specs.declared.cause.Fault.{Fault}
use Rattle.calls.specs.declared.call.Call.{Call}
use Rattle.calls.specs.declared.call.Call.TheVariants.{Require, Limit, Term, Propose}
use Rattle.calls.specs.declared.call.Proposal.{Proposal}
use Rattle.book.specs.Meaning.{Book}
use Rattle.bounded.specs.Mitigation.{Terms}
use Rattle.bounded.specs.Tabled.{terms_of, fresh_term}
use Rattle.network.specs.Grid.{Grid}
use Rattle.feasible.specs.declared.stage.Stage.{Stage}
use Rattle.feasible.specs.declared.stage.Stage.TheVariants.{First, Second}
use Rattle.checks.specs.Proposed.{HeldStep, weighed}
use Rattle.law.specs.State.{Force, State, step_in, priced_book, stage_of}
use Rattle.law.specs.After.{term_in}
use Rattle.law.specs.Declined.{fault_of}

-- a call with its answer: no fault means that it was accepted
pub record Entry : Type 0 where
  pub call : Call
  pub answer : Option Fault

-- a call is heard if it was accepted and sets something
abbrev pub heard : {X : Type 0} → Option Fault → Option X → X → X
heard None (Some x) before = x
heard None None before = before
heard (Some f) set before = before

-- what the last accepted call set that sets it, else what a new run has
unfoldable pub last_set : {X : Type 0} → (Call → Option X) → X → List Entry → X
last_set sets new [] = new
last_set sets new (e ∷ h) = heard e.answer (sets e.call) (last_set sets new h)

-- what each call sets: the entries
abbrev pub sets_requirement : Call → Option ℕ
sets_requirement (Require q) = Some q.amount
sets_requirement (Limit q) = None
sets_requirement (Term q) = None
sets_requirement (Propose p) = None

abbrev pub sets_tolerance : Call → Option ℕ
sets_tolerance (Require q) = Some q.tolerance
sets_tolerance (Limit q) = None
sets_tolerance (Term q) = None
sets_tolerance (Propose p) = None

abbrev pub sets_amount : ℕ → Call → Option ℕ
sets_amount k (Require q) = None
sets_amount k (Limit q) = cond (k == q.line) (Some q.amount) None
sets_amount k (Term q) = None
sets_amount k (Propose p) = None

abbrev pub sets_competitive : ℕ → Call → Option Bool
sets_competitive k (Require q) = None
sets_competitive k (Limit q) = cond (k == q.line) (Some q.competitive) None
sets_competitive k (Term q) = None
sets_competitive k (Propose p) = None

abbrev pub sets_term : ℕ → Call → Option Terms
sets_term i (Require q) = None
sets_term i (Limit q) = None
sets_term i (Term q) = cond (i == q.participant) (Some (term_in q)) None
sets_term i (Propose p) = None

-- and the steps: held as a proposal, or dropped
abbrev pub proposed_first : Stage → Proposal → Option (Option Proposal)
proposed_first First p = Some (Some p)
proposed_first Second p = None

abbrev pub sets_first : Call → Option (Option Proposal)
sets_first (Require q) = Some None
sets_first (Limit q) = Some None
sets_first (Term q) = None
sets_first (Propose p) = proposed_first (stage_of p.step) p

abbrev pub proposed_second : Stage → Proposal → Option (Option Proposal)
proposed_second First p = Some None
proposed_second Second p = Some (Some p)

abbrev pub sets_second : Call → Option (Option Proposal)
sets_second (Require q) = Some None
sets_second (Limit q) = Some None
sets_second (Term q) = Some None
sets_second (Propose p) = proposed_second (stage_of p.step) p

-- in force is, entry by entry, what the last accepted call set, else what a new run has
abbrev pub force_in : List Entry → Force
force_in h =
    record {
      requirement = last_set sets_requirement 0 h;
      tolerance = last_set sets_tolerance 0 h;
      amount = λ k. last_set (sets_amount k) 1000000 h;
      competitive = λ k. last_set (sets_competitive k) true h;
      terms = λ i. last_set (sets_term i) (terms_of fresh_term) h;
    }

-- held is an accepted proposal that no call accepted since has dropped or replaced, with the gap that it has by what
-- is in force now; the second step's is at the prices that the first step held beside it bounds
abbrev pub first_in : Book → Grid → List Entry → Option HeldStep
first_in m g h = option_map (weighed m g (step_in (force_in h) First)) (last_set sets_first None h)

abbrev pub left_by : Book → Grid → List Entry → State
left_by m g h =
    record {
      force = force_in h;
      first = first_in m g h;
      second = option_map (weighed (priced_book m g (force_in h) (first_in m g h) Second) g (step_in (force_in h) Second)) (last_set sets_second None h);
    }

-- the calls with their answers: each is declined by the first cause that applies to it after those before
unfoldable pub history : Book → Grid → List Call → List Entry
history m g [] = []
history m g (c ∷ cs) = record { call = c; answer = fault_of m g (left_by m g (history m g cs)) c } ∷ history m g cs
