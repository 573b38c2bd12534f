-- A table of units that stand for rows means what the rows mean.
use Rattle.std.proofs.Common.{◌≡◌, ℕ, ◌<◌, cond, ltb, List, length, get_or, ℤ, pos, sym, refl, ap, ◌∙◌, ⊎_elim, arith}
use Rattle.std.proofs.lemmas.List.{get_or_past}
use Rattle.std.proofs.lemmas.Bool.{cases_lt, cond-true, cond-false, lt-ltb, le-ltb}
use Rattle.std.proofs.lemmas.Bool.Decides.{nat_tests}
use Rattle.book.specs.Gathered.{within}
use Rattle.book.specs.Sides.{sign_of}
use Rattle.curve.specs.Complete.{row_price, price_on}
use Rattle.rows.specs.declared.row.Row.{Row}
use Rattle.house.specs.House.{blank, booked, nobody, unit_price, tabled}
use Rattle.house.specs.Unit.{Stands, row_side, row_reading}
use Rattle.house.specs.declared.unit.Unit.{Unit}

-- nothing lies above 0 and up to 0
no_level : (q : ℕ) (p : ℤ) → within 0 0 q p ≡ pos 0
no_level q p = grind (arith, nat_tests)

module _ (w : ℕ) (rows : List Row) (n : ℕ) (us : List Unit) (counted : n ≡ length rows) (stand : (i : ℕ) → i < length rows → Stands w (get_or rows i blank) (get_or us i nobody)) where
  answers : {X : Type 0} (f : Unit → X) (g : Row → X) (none : X) → g blank ≡ none → ((u : Unit) (r : Row) → Stands w r u → f u ≡ g r) → (i : ℕ) → cond (ltb i n) (f (get_or us i nobody)) none ≡ g (get_or rows i blank)
  answers f g none past same i =
      ⊎_elim
      (λ l. cond-true _ _ _ (lt-ltb i n (omega arith)) ∙ same _ _ (stand i l))
      (λ h. cond-false _ _ _ (le-ltb i n (omega arith)) ∙ sym (ap g (get_or_past rows i blank h) ∙ past))
      (cases_lt i (length rows))

  pub means : tabled n us ≡ booked w rows
  means = λ j.
      record {
        count = counted j;
        bus = λ i. answers (λ u. u.bus) (λ r. r.bus) 0 refl (λ u r s. s.bus_is) i j;
        side = λ i. answers (λ u. sign_of u.side) row_side (pos 0) refl (λ u r s. s.side_is) i j;
        low = λ i. answers (λ u. u.low) (λ r. r.ldl) 0 refl (λ u r s. s.low_is) i j;
        high = λ i. answers (λ u. u.high) (λ r. r.hdl) 0 refl (λ u r s. s.high_is) i j;
        reading = λ i. answers (λ u. u.reading) row_reading 0 refl (λ u r s. s.reading_is) i j;
        price = λ i q. answers (λ u. unit_price u q) (λ r. within r.ldl r.hdl q (row_price w r q)) (pos 0) (no_level q (row_price w blank q))
            (λ u r s. ap (λ n. within n u.high q (price_on u.curve q)) s.low_is ∙ ap (λ n. within r.ldl n q (price_on u.curve q)) s.high_is ∙ ap (within r.ldl r.hdl q) (s.price_is q)) i j;
      }
