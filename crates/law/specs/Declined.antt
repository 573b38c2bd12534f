-- Which calls are declined, by which cause and at which place: the first cause that applies, in the order of numbers.
use Rattle.std.specs.Prelude.{◌&&◌, ◌||◌, is_some, Option, ◌==◌, nat_le, nat_lt}
use Rattle.fault.specs.First.{or_else}
use Rattle.fault.specs.declared.cause.Cause.TheVariants.{Absent, Amount, StepNumber}
use Rattle.fault.specs.declared.cause.Fault.{Fault}
use Rattle.calls.specs.declared.call.Call.{Call}
use Rattle.calls.specs.declared.call.Call.TheVariants.{Require, Limit, Term, Propose}
use Rattle.calls.specs.declared.call.LineLimit.{LineLimit}
use Rattle.calls.specs.declared.call.ParticipantTerm.{ParticipantTerm}
use Rattle.calls.specs.declared.call.Proposal.{Proposal}
use Rattle.calls.specs.declared.call.Requirement.{Requirement}
use Rattle.book.specs.Meaning.{Book}
use Rattle.bounded.specs.Mitigation.{in_range}
use Rattle.network.specs.Grid.{Grid}
use Rattle.checks.specs.Causes.{form_fault, judged_fault}
use Rattle.feasible.specs.First.{unless}
use Rattle.law.specs.State.{State, step_in, priced_book, stage_of}

-- a requirement up to 2,000,000 and a tolerance up to 1,000,000,000,000
abbrev pub require_fault : Requirement → Option Fault
require_fault q = unless (nat_le q.amount 2000000 && nat_le q.tolerance 1000000000000) Amount 0

-- a line that there is, and a limit up to 1,000,000
abbrev pub limit_fault : Grid → LineLimit → Option Fault
limit_fault g q = or_else (unless (nat_lt q.line g.lines) Absent q.line) (unless (nat_le q.amount 1000000) Amount q.line)

-- a participant that there is, and a term within its ranges
abbrev pub term_fault : Book → ParticipantTerm → Option Fault
term_fault m q =
    or_else (unless (nat_lt q.participant m.count) Absent q.participant)
    (unless (in_range q.floor q.ceiling q.adder) Amount q.participant)

-- step 1, or step 2 where a first is held
abbrev pub step_fault : State → Proposal → Option Fault
step_fault s p = unless (p.step == 1 || (p.step == 2 && is_some s.first)) StepNumber 0

-- step, lists and prices that can be judged
abbrev pub asked_fault : Book → Grid → State → Proposal → Option Fault
asked_fault m g s p =
    or_else (step_fault s p) (form_fault (priced_book m g s.force s.first (stage_of p.step)) g (step_in s.force (stage_of p.step)) p)

-- a proposal is judged at the prices of its step, by what is in force
abbrev pub proposal_fault : Book → Grid → State → Proposal → Option Fault
proposal_fault m g s p =
    or_else (step_fault s p)
    (judged_fault (priced_book m g s.force s.first (stage_of p.step)) g (step_in s.force (stage_of p.step)) s.force.tolerance p)

abbrev pub fault_of : Book → Grid → State → Call → Option Fault
fault_of m g s (Require q) = require_fault q
fault_of m g s (Limit q) = limit_fault g q
fault_of m g s (Term q) = term_fault m q
fault_of m g s (Propose p) = proposal_fault m g s p
