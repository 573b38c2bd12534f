-- The law of runs.
use Rattle.std.proofs.Common.{◌≡◌, ℕ, List, pos, ◌-ℤ◌, ◌*ℤ◌, ◌≤ℤ◌, Some, None, Option, sym, refl, ap, ◌∙◌, subst, arith}
use Rattle.std.proofs.lemmas.Int.{ints}
use Rattle.std.proofs.lemmas.Bool.{cond-true}
use Rattle.fault.specs.First.{or_else}
use Rattle.fault.specs.declared.cause.Fault.{Fault}
use Rattle.calls.specs.declared.call.Call.{Call}
use Rattle.calls.specs.declared.call.Call.TheVariants.{Propose}
use Rattle.calls.specs.declared.call.Proposal.{Proposal}
use Rattle.book.specs.Meaning as Books
use Rattle.book.specs.Meaning.{Book}
use Rattle.bounded.specs.Mitigation.{Measured}
use Rattle.bounded.specs.Layered.{layered_lawful}
use Rattle.network.specs.Grid.{Grid}
use Rattle.market.specs.Laws.{Fair}
use Rattle.market.specs.Market.{Step, worth, gap}
use Rattle.market.proofs.Certificate.{duality, exactness}
use Rattle.feasible.specs.declared.stage.Stage.{Stage}
use Rattle.feasible.specs.declared.stage.Stage.TheVariants.{First, Second}
use Rattle.checks.specs.Causes.{count_fault, price_fault, unobserved_fault, form_fault, dispatch_fault, gap_fault, judged_fault}
use Rattle.checks.specs.Proposed.{HeldStep, quoted, dispatched}
use Rattle.checks.proofs.Fair.{faultless_fair}
use Rattle.checks.proofs.Feasible.{feasible_faultless}
use Rattle.fault.proofs.First.{none_both}
use Rattle.checks.proofs.Signs.{at_most}
use Rattle.law.specs.After.{answered, state_after, replaced, held_as}
use Rattle.law.specs.Declined.{step_fault, asked_fault, proposal_fault}
use Rattle.law.specs.Law.{leaves, book_at, step_at, Certificate, Stands, Unopposed, LawOfRuns}
use Rattle.law.specs.State.{State, held_in, layer_in, stage_of}
use Rattle.law.proofs.Heard.{call_leaves}
use Rattle.law.proofs.Sound.{Standing, Sound, after_sound, leaves_sound}

module _ (m : Book) (g : Grid) (law : Books.Lawful m) where
  book_lawful : (s : State) → Sound m g s → (t : Stage) → Books.Lawful (book_at m g s t)
  book_lawful s sound First = law
  book_lawful s sound Second = layered_lawful m (layer_in m g s.force s.first) law (measured_by s.first)
    where
      measured_by : (first : Option HeldStep) (i : ℕ) → Measured ((layer_in m g s.force first).terms i)
      measured_by None i = sound.measured i
      measured_by (Some h) i = sound.measured i

  certificate : (s : State) → Sound m g s → (t : Stage) (h : HeldStep) → held_in s t ≡ Some h → Certificate (book_at m g s t) g (step_at s t) h
  certificate s sound t h e =
      let good = sound.standing t h e in
      let b = book_at m g s t in
      let step = step_at s t in
      record {
        feasible = good.feasible;
        exactly = good.exactly;
        bound = λ y other.
            subst (λ z. ((pos 1000 *ℤ worth b y) -ℤ (pos 1000 *ℤ worth b h.base)) ≤ℤ z) (sym good.exactly)
            (duality b g step h.prices h.base y (book_lawful s sound t) good.fair good.feasible other);
      }

  -- a proposal changes neither what is in force nor the book of its own step
  same_book : (s : State) (p : Proposal) (a : Option Fault) (t : Stage) (x : HeldStep) → book_at m g (answered a (replaced t x s) s) t ≡ book_at m g s t
  same_book s p None First x = refl
  same_book s p None Second x = refl
  same_book s p (Some f) t x = refl

  same_step : (s : State) (a : Option Fault) (t u : Stage) (x : HeldStep) → step_at (answered a (replaced t x s) s) u ≡ step_at s u
  same_step s None First u x = refl
  same_step s None Second u x = refl
  same_step s (Some f) t u x = refl

  replaced_held : (s : State) (t : Stage) (x : HeldStep) → held_in (replaced t x s) t ≡ Some x
  replaced_held s First x = refl
  replaced_held s Second x = refl

  module _ (s : State) (sound : Sound m g s) (p : Proposal) (asked : asked_fault m g s p ≡ None) where
    abbrev t : Stage
    t = stage_of p.step

    abbrev b : Book
    b = book_at m g s t

    abbrev step : Step
    step = step_at s t

    abbrev after : State
    after = state_after m g s (Propose p)

    stepped : step_fault s p ≡ None
    stepped = (none_both (step_fault s p) (form_fault b g step p) asked).0

    formed : form_fault b g step p ≡ None
    formed = (none_both (step_fault s p) (form_fault b g step p) asked).1

    fair : Fair g step (quoted p)
    fair = faultless_fair g step p (none_both (price_fault p) (unobserved_fault g step (quoted p)) (none_both (count_fault b g p) _ formed).1).1

    stands_unopposed : Stands after p → Unopposed b g step p
    stands_unopposed held =
        let good = (after_sound m g s sound (Propose p)).standing t _ held in
        let P : Book → Type 0 = λ c. Standing c g (step_at after t) (record { prices = quoted p; base = dispatched p; gap = pos 0 }) in
        let Q : Step → Type 0 = λ z. Standing b g z (record { prices = quoted p; base = dispatched p; gap = pos 0 }) in
        let here = subst Q (same_step s (proposal_fault m g s p) t t (held_as m g s p)) (subst P (same_book s p (proposal_fault m g s p) t (held_as m g s p)) good) in
        record {
          feasible = here.feasible;
          settled = (exactness b g step (quoted p) (dispatched p) (book_lawful s sound t) fair here.feasible).0 (sym here.exactly);
        }

    unopposed_stands : Unopposed b g step p → Stands after p
    unopposed_stands u =
        let none = (exactness b g step (quoted p) (dispatched p) (book_lawful s sound t) fair u.feasible).1 u.settled in
        let small : gap_fault (gap b g step (quoted p) (dispatched p)) s.force.tolerance ≡ None =
        ap (λ z. gap_fault z s.force.tolerance) none ∙ cond-true _ _ _ (at_most (pos 0) (pos s.force.tolerance) (omega (arith, ints))) in
        let judged : judged_fault b g step s.force.tolerance p ≡ None =
        ap (λ o. or_else (or_else o (dispatch_fault b g step (dispatched p))) (gap_fault (gap b g step (quoted p) (dispatched p)) s.force.tolerance)) formed
        ∙ ap (λ o. or_else o (gap_fault (gap b g step (quoted p) (dispatched p)) s.force.tolerance)) (feasible_faultless b g step (dispatched p) u.feasible)
        ∙ small in
        let accepted : proposal_fault m g s p ≡ None = ap (λ o. or_else o (judged_fault b g step s.force.tolerance p)) stepped ∙ judged in
        let x = held_as m g s p in
        ap (λ a. held_in (answered a (replaced t x s) s) t) accepted ∙ replaced_held s t x
        ∙ ap (λ z. Some (record { prices = quoted p; base = dispatched p; gap = z })) none

  pub law_of_runs : (cs : List Call) → LawOfRuns m g cs
  law_of_runs cs =
      let s = leaves m g cs in
      let sound = leaves_sound m g cs in
      record {
        certified = certificate s sound;
        judged = λ p asked.
            let next = call_leaves m g (Propose p) cs in
            let P : State → Type 0 = λ z. Stands z p in
            ((λ held. stands_unopposed s sound p asked (subst P next held)), (λ u. subst P (sym next) (unopposed_stands s sound p asked u)));
      }
