-- No fault of a dispatch means that it is feasible.
use Rattle.std.proofs.Common.{◌≡◌, ℕ, false, ltb, None, refl, ap, ◌∙◌, ⊎_elim}
use Rattle.std.proofs.lemmas.Bool.{cases_Bool, or_parts, or_from, ltb-false, le-ltb, cond-true}
use Rattle.fault.specs.First.{or_else}
use Rattle.fault.specs.declared.cause.Cause.TheVariants.{BasePoint, Balance, FlowLimit}
use Rattle.fault.proofs.First.{none_both}
use Rattle.book.specs.Meaning.{Book}
use Rattle.network.specs.Grid.{Grid}
use Rattle.dispatch.specs.Injected.{injected}
use Rattle.market.specs.Market.{Step, Feasible, balance, due}
use Rattle.feasible.specs.Checks.{Within, Carried}
use Rattle.feasible.specs.Places.{Everywhere}
use Rattle.feasible.proofs.Flows.{over_fails, over_carried}
use Rattle.checks.specs.Causes.{outside, overloaded, same, limit_fault, balance_fault, flow_fault, network_fault, dispatch_fault}
use Rattle.feasible.specs.First.{first_place, placed}
use Rattle.checks.proofs.First.{failing_nowhere, nowhere_failing, placed_nowhere, unless_never}
use Rattle.checks.proofs.Signs.{same_is, is_same}

module _ (m : Book) (x : ℕ → ℕ) (i : ℕ) where
  pub within_inside : Within m x i → outside m x i ≡ false
  within_inside h = or_from _ _ (le-ltb (x i) (m.low i) h.0) (le-ltb (m.high i) (x i) h.1)

  pub inside_within : outside m x i ≡ false → Within m x i
  inside_within e = let both = or_parts (ltb (x i) (m.low i)) (ltb (m.high i) (x i)) e in (ltb-false _ _ both.0, ltb-false _ _ both.1)

module _ (m : Book) (g : Grid) (s : Step) (x : ℕ → ℕ) (k : ℕ) where
  pub carried_light : Carried m g s x k → overloaded m g s x k ≡ false
  carried_light h = ⊎_elim (λ heavy. absurd (over_fails m g x (injected m x) (λ b. refl) k s heavy h)) (λ light. light) (cases_Bool (overloaded m g s x k))

  pub light_carried : overloaded m g s x k ≡ false → Carried m g s x k
  light_carried = over_carried m g x (injected m x) (λ b. refl) k s

pub all_within : (m : Book) (x : ℕ → ℕ) → limit_fault m x ≡ None → Everywhere m.count (Within m x)
all_within m x e =
    failing_nowhere m.count (Within m x) (outside m x) (within_inside m x) (inside_within m x) (placed_nowhere BasePoint (first_place (outside m x) m.count) e)

module _ (m : Book) (g : Grid) (s : Step) (x : ℕ → ℕ) where
  -- a dispatch without a fault is feasible
  pub faultless_feasible : dispatch_fault m g s x ≡ None → Feasible m g s x
  faultless_feasible e =
      let limits = none_both (limit_fault m x) (network_fault m g s x) e in
      let rest = none_both (balance_fault m s x) (flow_fault m g s x) limits.1 in
      let within = all_within m x limits.0 in
      record {
        low = λ i l. (within i l).0;
        high = λ i l. (within i l).1;
        balanced = same_is (balance m x) (due m s) (unless_never (same (balance m x) (due m s)) Balance 0 rest.0);
        limited =
            failing_nowhere g.lines (Carried m g s x) (overloaded m g s x) (carried_light m g s x) (light_carried m g s x)
            (placed_nowhere FlowLimit (first_place (overloaded m g s x) g.lines) rest.1);
      }

  -- and a feasible one has none
  pub feasible_faultless : Feasible m g s x → dispatch_fault m g s x ≡ None
  feasible_faultless f =
      let limits : limit_fault m x ≡ None =
      ap (placed BasePoint) (nowhere_failing m.count (Within m x) (outside m x) (within_inside m x) (inside_within m x) (λ i l. (f.low i l, f.high i l))) in
      let balanced : balance_fault m s x ≡ None = cond-true _ _ _ (is_same (balance m x) (due m s) f.balanced) in
      let flows : flow_fault m g s x ≡ None =
      ap (placed FlowLimit) (nowhere_failing g.lines (Carried m g s x) (overloaded m g s x) (carried_light m g s x) (light_carried m g s x) f.limited) in
      ap (λ o. or_else o (network_fault m g s x)) limits ∙ ap (λ o. or_else o (flow_fault m g s x)) balanced ∙ flows
