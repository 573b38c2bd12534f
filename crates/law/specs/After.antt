-- What a call leaves, entry by entry and step by step.
use Rattle.std.specs.Prelude.{cond, Some, None, Option, ◌==◌}
use Rattle.fault.specs.declared.cause.Fault.{Fault}
use Rattle.calls.specs.declared.call.Call.{Call}
use Rattle.calls.specs.declared.call.Call.TheVariants.{Require, Limit, Term, Propose}
use Rattle.calls.specs.declared.call.LineLimit.{LineLimit}
use Rattle.calls.specs.declared.call.ParticipantTerm.{ParticipantTerm}
use Rattle.calls.specs.declared.call.Proposal.{Proposal}
use Rattle.calls.specs.declared.call.Requirement.{Requirement}
use Rattle.book.specs.Meaning.{Book}
use Rattle.bounded.specs.Mitigation.{Terms}
use Rattle.network.specs.Grid.{Grid}
use Rattle.feasible.specs.declared.stage.Stage.{Stage}
use Rattle.feasible.specs.declared.stage.Stage.TheVariants.{First, Second}
use Rattle.checks.specs.Proposed.{HeldStep, weighed}
use Rattle.law.specs.State.{State, step_in, priced_book, stage_of}
use Rattle.law.specs.Declined.{fault_of}

abbrev pub term_in : ParticipantTerm → Terms
term_in q = record { floor = q.floor; ceiling = q.ceiling; adder = q.adder; subject = q.subject }

-- both steps are dropped
abbrev pub required : Requirement → State → State
required q s =
    let f = s.force in
    record {
      force = record { requirement = q.amount; tolerance = q.tolerance; amount = f.amount; competitive = f.competitive; terms = f.terms };
      first = None;
      second = None;
    }

abbrev pub limited : LineLimit → State → State
limited q s =
    let f = s.force in
    record {
      force = record {
        requirement = f.requirement;
        tolerance = f.tolerance;
        amount = λ k. cond (k == q.line) q.amount (f.amount k);
        competitive = λ k. cond (k == q.line) q.competitive (f.competitive k);
        terms = f.terms;
      };
      first = None;
      second = None;
    }

-- the second step is dropped
abbrev pub termed : ParticipantTerm → State → State
termed q s =
    let f = s.force in
    record {
      force = record {
        requirement = f.requirement;
        tolerance = f.tolerance;
        amount = f.amount;
        competitive = f.competitive;
        terms = λ i. cond (i == q.participant) (term_in q) (f.terms i);
      };
      first = s.first;
      second = None;
    }

-- a first step replaces the first and drops the second; a second step replaces the second
abbrev pub replaced : Stage → HeldStep → State → State
replaced First h s = record { force = s.force; first = Some h; second = None }
replaced Second h s = record { force = s.force; first = s.first; second = Some h }

-- what a proposal is held as, with the gap that it has in its step
abbrev pub held_as : Book → Grid → State → Proposal → HeldStep
held_as m g s p = weighed (priced_book m g s.force s.first (stage_of p.step)) g (step_in s.force (stage_of p.step)) p

-- an accepted call
abbrev pub made : Book → Grid → State → Call → State
made m g s (Require q) = required q s
made m g s (Limit q) = limited q s
made m g s (Term q) = termed q s
made m g s (Propose p) = replaced (stage_of p.step) (held_as m g s p) s

-- a declined call changes nothing
abbrev pub answered : Option Fault → State → State → State
answered None made s = made
answered (Some f) made s = s

abbrev pub state_after : Book → Grid → State → Call → State
state_after m g s c = answered (fault_of m g s c) (made m g s c) s
