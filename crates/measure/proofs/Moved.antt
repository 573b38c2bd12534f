-- What is answered of a loaded market is answered of what it was loaded from.
use Rattle.std.proofs.Common.{◌≡◌, ℕ, List, ℤ, Some, None, Option, subst, MatchOption}
use Rattle.book.specs.Meaning.{Book}
use Rattle.feasible.specs.Checks.{Within}
use Rattle.feasible.specs.Places.{Everywhere}
use Rattle.gap.specs.Certified.{Certified}
use Rattle.market.specs.Market.{Step, Prices}
use Rattle.network.specs.Grid.{Grid}
use Rattle.measure.specs.Answers.{wide_book, wide_grid, wide_step, quoted, based, Judged, Unjudged}

-- what the gap says
abbrev pub Answer : Book → Grid → Step → Prices → (ℕ → ℕ) → Option ℤ → Type 0
Answer m g s p x r = MatchOption r (Everywhere m.count (Within m x) → ⊥) (Certified m g s p x)

module _ (prices shares : List ℤ) (system : ℤ) (shadow base : List ℕ) where
  told : (r : Option ℤ) → Answer (wide_book prices) (wide_grid shares) wide_step (quoted system shadow) (based base) r → MatchOption r (Unjudged prices shares system shadow base) (Judged prices shares system shadow base)
  told None a = λ _ _ _ _ h. a h
  told (Some z) a = a

  pub moved : (m : Book) (g : Grid) (s : Step) (p : Prices) (x : ℕ → ℕ) (r : Option ℤ) → m ≡ wide_book prices → g ≡ wide_grid shares → s ≡ wide_step → p ≡ quoted system shadow → x ≡ based base → Answer m g s p x r → MatchOption r (Unjudged prices shares system shadow base) (Judged prices shares system shadow base)
  moved m g s p x r em eg es ep ex a =
      told r
      (subst (λ y. Answer (wide_book prices) (wide_grid shares) wide_step (quoted system shadow) y r) ex
      (subst (λ q. Answer (wide_book prices) (wide_grid shares) wide_step q x r) ep
      (subst (λ t. Answer (wide_book prices) (wide_grid shares) t p x r) es
      (subst (λ n. Answer (wide_book prices) n s p x r) eg
      (subst (λ b. Answer b g s p x r) em a)))))
