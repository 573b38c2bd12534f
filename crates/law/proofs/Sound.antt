-- Whatever a run holds stands, after every call: it is feasible, its prices are fair, and its gap is the one defined.
use Rattle.std.proofs.Common.{◌≡◌, ℕ, true, cond, ◌&&◌, eqb, List, [], ◌∷◌, pos, Some, None, Option, sym, refl, ◌∙◌, subst, arith}
use lib.Signed.{le_z}
use Rattle.std.proofs.lemmas.Int.{ints}
use Rattle.std.proofs.lemmas.Bool.{and_parts, cond_both}
use Rattle.fault.specs.declared.cause.Cause.TheVariants.{Amount}
use Rattle.fault.specs.declared.cause.Fault.{Fault}
use Rattle.calls.specs.declared.call.Call.{Call}
use Rattle.calls.specs.declared.call.Call.TheVariants.{Require, Limit, Term, Propose}
use Rattle.calls.specs.declared.call.ParticipantTerm.{ParticipantTerm}
use Rattle.calls.specs.declared.call.Proposal.{Proposal}
use Rattle.book.specs.Meaning.{Book, most_price, least_price}
use Rattle.bounded.specs.Mitigation.{Measured, in_range}
use Rattle.bounded.specs.Tabled.{terms_of, fresh_term}
use Rattle.network.specs.Grid.{Grid}
use Rattle.market.specs.Laws.{Fair}
use Rattle.market.specs.Market.{Step, Feasible, gap}
use Rattle.feasible.specs.declared.stage.Stage.{Stage}
use Rattle.feasible.specs.declared.stage.Stage.TheVariants.{First, Second}
use Rattle.checks.specs.Causes.{count_fault, price_fault, unobserved_fault, form_fault, dispatch_fault, examined_fault, gap_fault, judged_fault}
use Rattle.checks.specs.Proposed.{HeldStep, quoted, dispatched, weighed}
use Rattle.checks.proofs.Fair.{faultless_fair}
use Rattle.checks.proofs.Feasible.{faultless_feasible}
use Rattle.fault.proofs.First.{none_both}
use Rattle.checks.proofs.First.{unless_never}
use Rattle.checks.proofs.Signs.{most_at}
use Rattle.law.specs.After.{made, answered, state_after, term_in, replaced, held_as}
use Rattle.law.specs.Declined.{fault_of, step_fault, term_fault}
use Rattle.law.specs.Law.{leaves, book_at, step_at}
use Rattle.law.specs.State.{State, new_run, held_in, stage_of}
use Rattle.law.proofs.Heard.{new_leaves, call_leaves}

pub record Standing (m : Book) (g : Grid) (s : Step) (h : HeldStep) : Type 0 where
  pub feasible : Feasible m g s h.base
  pub fair : Fair g s h.prices
  pub exactly : h.gap ≡ gap m g s h.prices h.base

-- of a whole state, with terms that leave prices in their range
pub record Sound (m : Book) (g : Grid) (s : State) : Type 0 where
  pub standing : (t : Stage) (h : HeldStep) → held_in s t ≡ Some h → Standing (book_at m g s t) g (step_at s t) h
  pub measured : (i : ℕ) → Measured (s.force.terms i)

nothing : {X : Type 0} {Y : Type 0} (x : X) → None ≡ Some x → Y
nothing x e = let z : ◌≡◌ {A = ℕ} 0 1 = cc in absurd (omega arith)

only : {X : Type 0} (x y : X) → Some x ≡ Some y → x ≡ y
only x y e = cc

fresh_measured : Measured (terms_of fresh_term)
fresh_measured = record { floor_most = omega (arith, ints); ceiling_least = omega (arith, ints) }

-- a state that holds nothing
none_standing : (m : Book) (g : Grid) (s : State) → s.first ≡ None → s.second ≡ None
    → (t : Stage) (h : HeldStep) → held_in s t ≡ Some h → Standing (book_at m g s t) g (step_at s t) h
none_standing m g s first second First h e = nothing h (sym first ∙ e)
none_standing m g s first second Second h e = nothing h (sym second ∙ e)

-- a proposal that is not declined stands
accepted_standing : (b : Book) (g : Grid) (s : Step) (tolerance : ℕ) (p : Proposal) → judged_fault b g s tolerance p ≡ None → Standing b g s (weighed b g s p)
accepted_standing b g s tolerance p e =
    let examined = (none_both (examined_fault b g s p) (gap_fault (gap b g s (quoted p) (dispatched p)) tolerance) e).0 in
    let formed = none_both (form_fault b g s p) (dispatch_fault b g s (dispatched p)) examined in
    let priced = none_both (price_fault p) (unobserved_fault g s (quoted p)) (none_both (count_fault b g p) _ formed.0).1 in
    record {
      feasible = faultless_feasible b g s (dispatched p) formed.1;
      fair = faultless_fair g s p priced.1;
      exactly = refl;
    }

in_range_measured : (q : ParticipantTerm) → in_range q.floor q.ceiling q.adder ≡ true → Measured (term_in q)
in_range_measured q e =
    let adder = and_parts (le_z least_price q.floor && le_z q.floor most_price && le_z (pos 0) q.ceiling && le_z q.ceiling most_price) _ e in
    let most = and_parts (le_z least_price q.floor && le_z q.floor most_price && le_z (pos 0) q.ceiling) (le_z q.ceiling most_price) adder.0 in
    let ceiling = and_parts (le_z least_price q.floor && le_z q.floor most_price) (le_z (pos 0) q.ceiling) most.0 in
    let floor = and_parts (le_z least_price q.floor) (le_z q.floor most_price) ceiling.0 in
    let low = most_at (pos 0) q.ceiling ceiling.1 in
    record { floor_most = most_at q.floor most_price floor.1; ceiling_least = omega (arith, ints) }

module _ (m : Book) (g : Grid) (s : State) (sound : Sound m g s) where
  term_measured : (q : ParticipantTerm) → term_fault m q ≡ None → (i : ℕ) → Measured (cond (eqb i q.participant) (term_in q) (s.force.terms i))
  term_measured q e i =
      let ranged = unless_never (in_range q.floor q.ceiling q.adder) Amount q.participant (none_both _ _ e).1 in
      cond_both (eqb i q.participant) _ _ Measured (λ _. in_range_measured q ranged) (λ _. sound.measured i)

  replaced_standing : (t : Stage) (x : HeldStep) → Standing (book_at m g s t) g (step_at s t) x
      → (u : Stage) (h : HeldStep) → held_in (replaced t x s) u ≡ Some h → Standing (book_at m g (replaced t x s) u) g (step_at (replaced t x s) u) h
  replaced_standing First x good First h e = subst (Standing m g (step_at s First)) (only x h e) good
  replaced_standing First x good Second h e = nothing h e
  replaced_standing Second x good First h e = sound.standing First h e
  replaced_standing Second x good Second h e = subst (Standing (book_at m g s Second) g (step_at s Second)) (only x h e) good

  made_sound : (c : Call) → fault_of m g s c ≡ None → Sound m g (made m g s c)
  made_sound (Require q) e = record { standing = none_standing m g (made m g s (Require q)) refl refl; measured = sound.measured }
  made_sound (Limit q) e = record { standing = none_standing m g (made m g s (Limit q)) refl refl; measured = sound.measured }
  made_sound (Term q) e = record { standing = λ t. kept t; measured = term_measured q e }
    where
      kept : (t : Stage) (h : HeldStep) → held_in (made m g s (Term q)) t ≡ Some h → Standing (book_at m g (made m g s (Term q)) t) g (step_at (made m g s (Term q)) t) h
      kept First h e = sound.standing First h e
      kept Second h e = nothing h e
  made_sound (Propose p) e = record { standing = replaced_standing (stage_of p.step) (held_as m g s p) good; measured = replaced_measured (stage_of p.step) (held_as m g s p) }
    where
      good : Standing (book_at m g s (stage_of p.step)) g (step_at s (stage_of p.step)) (held_as m g s p)
      good = accepted_standing (book_at m g s (stage_of p.step)) g (step_at s (stage_of p.step)) s.force.tolerance p (none_both (step_fault s p) _ e).1

      replaced_measured : (t : Stage) (x : HeldStep) (i : ℕ) → Measured ((replaced t x s).force.terms i)
      replaced_measured First x i = sound.measured i
      replaced_measured Second x i = sound.measured i

  pub after_sound : (c : Call) → Sound m g (state_after m g s c)
  after_sound c = by (fault_of m g s c) refl
    where
      by : (a : Option Fault) → fault_of m g s c ≡ a → Sound m g (answered a (made m g s c) s)
      by None e = made_sound c e
      by (Some f) e = sound

pub leaves_sound : (m : Book) (g : Grid) (cs : List Call) → Sound m g (leaves m g cs)
leaves_sound m g [] = subst (Sound m g) (sym (new_leaves m g)) (record { standing = none_standing m g new_run refl refl; measured = λ i. fresh_measured })
leaves_sound m g (c ∷ cs) = subst (Sound m g) (sym (call_leaves m g c cs)) (after_sound m g (leaves m g cs) (leaves_sound m g cs) c)
