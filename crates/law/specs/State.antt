-- The state of a run: what is in force, and the steps that are held.
use Rattle.std.specs.Prelude.{ℕ, Bool, true, false, cond, ℤ, pos, Some, None, Option, ◌==◌}
use Rattle.shelf.specs.Quotient.{floor_div}
use Rattle.book.specs.Meaning.{Book}
use Rattle.bounded.specs.Mitigation.{Terms, Layer, layered}
use Rattle.bounded.specs.Tabled.{terms_of, fresh_term}
use Rattle.network.specs.Grid.{Grid}
use Rattle.market.specs.Market.{Step, Prices, lmp}
use Rattle.feasible.specs.Stages.{observed}
use Rattle.feasible.specs.declared.stage.Stage.{Stage}
use Rattle.feasible.specs.declared.stage.Stage.TheVariants.{First, Second}
use Rattle.checks.specs.Proposed.{HeldStep}

-- the entries: requirement and tolerance, each line's limit and whether it is competitive, each participant's term
pub record Force : Type 0 where
  pub requirement : ℕ
  pub tolerance : ℕ
  pub amount : ℕ → ℕ
  pub competitive : ℕ → Bool
  pub terms : ℕ → Terms

pub record State : Type 0 where
  pub force : Force
  pub first : Option HeldStep
  pub second : Option HeldStep

-- a new run: requirement and tolerance 0, every limit 1,000,000 and competitive, every term fresh; nothing is held
abbrev pub fresh_force : Force
fresh_force =
    record {
      requirement = 0;
      tolerance = 0;
      amount = λ _. 1000000;
      competitive = λ _. true;
      terms = λ _. terms_of fresh_term;
    }

abbrev pub new_run : State
new_run = record { force = fresh_force; first = None; second = None }

abbrev pub held_in : State → Stage → Option HeldStep
held_in s First = s.first
held_in s Second = s.second

-- what each step is held to: the first observes competitive lines, the second all
abbrev pub step_in : Force → Stage → Step
step_in f t = record { requirement = pos f.requirement; limit = λ k. pos (f.amount k); observed = λ k. observed t (f.competitive k) }

-- a participant's price G in a first step, in cents, rounded toward minus infinity
abbrev pub reference : Book → Grid → Prices → ℕ → ℤ
reference m g p i = floor_div (lmp m g p i) 1000

-- the terms in force, with the reference prices of the first step held
abbrev pub layer_in : Book → Grid → Force → Option HeldStep → Layer
layer_in m g f None = record { terms = f.terms; reference = λ _. pos 0; referenced = false }
layer_in m g f (Some h) = record { terms = f.terms; reference = reference m g h.prices; referenced = true }

-- the book at whose prices a step is judged: the book itself in the first, the bounded one in the second
abbrev pub priced_book : Book → Grid → Force → Option HeldStep → Stage → Book
priced_book m g f first First = m
priced_book m g f first Second = layered m (layer_in m g f first)

-- the step that a number names; no other than 1 and 2 is accepted
abbrev pub stage_of : ℕ → Stage
stage_of n = cond (n == 2) Second First
