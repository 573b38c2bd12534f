-- What a lawful row gives the unit that stands for it.
use Rattle.std.proofs.Common.{◌≡◌, ℕ, ◌≤◌, Bool, true, false, cond, ◌&&◌, eqb, ltb, leb, ◌⊎◌, ℤ, pos, negsuc, ◌*ℤ◌, ◌≤ℤ◌, is_err, Ok, sym, refl, ap, subst, inl, inr, ⊎_elim, le_trans, arith}
use borrow.Author.Differences.{product_is}
use Rattle.std.proofs.lemmas.Int.{ints}
use Rattle.std.proofs.lemmas.Bool.{and_parts, not-false, or_parts, ltb-false, leb-true}
use Rattle.book.specs.Meaning.{generator, load}
use Rattle.curve.specs.Complete.{Moves, Sound, row_price}
use Rattle.curve.proofs.Sound.{by_letter}
use Rattle.rows.specs.Classes.{class_of}
use Rattle.rows.specs.Rules.{Lawful, is_load}
use Rattle.rows.specs.declared.class.Class.{Class}
use Rattle.rows.specs.declared.row.Row.{Row}
use Rattle.rows.specs.declared.rule.Rule.TheVariants.{Bus, Limits, Reading}
use Rattle.house.specs.Unit.{side_of, side_as, row_reading}

-- a class is a generator's or a load's, as its letter says
abbrev Sided : ℤ → Bool → Type 0
Sided s b = ((s ≡ generator) × (b ≡ false)) ⊎ ((s ≡ load) × (b ≡ true))

pub letter_side : (c : ℕ) (k : Class) → class_of c ≡ Ok k → Sided (side_of k) (eqb c 76)
letter_side c k e =
    by_letter (λ x b. x ≡ Ok k → Sided (side_of k) b)
    (λ h. inl (sym (ap side_as h), refl)) (λ h. inl (sym (ap side_as h), refl)) (λ h. inl (sym (ap side_as h), refl)) (λ h. inr (sym (ap side_as h), refl))
    c (ap is_err e) e

pub unit_limits : (w : ℕ) (r : Row) → Lawful w r → (r.ldl ≤ r.hdl) × (r.hdl ≤ 20000)
unit_limits w r l =
    let all = and_parts (leb r.lsl r.ldl && leb r.ldl r.hdl && leb r.hdl r.hsl) (leb r.hsl 20000) (not-false _ (l Limits)) in
    let three = and_parts (leb r.lsl r.ldl && leb r.ldl r.hdl) (leb r.hdl r.hsl) all.0 in
    let two = and_parts (leb r.lsl r.ldl) (leb r.ldl r.hdl) three.0 in
    (leb-true _ _ two.1, le_trans (leb-true _ _ three.1) (leb-true _ _ all.1))

pub unit_bus : (w : ℕ) (r : Row) → Lawful w r → r.bus ≤ 63
unit_bus w r l = ltb-false _ _ (l Bus)

pub unit_reading : (w : ℕ) (r : Row) → Lawful w r → row_reading r ≤ 20000
unit_reading w r l = by_test (is_load r) (or_parts _ _ (l Reading)).1
  where
    by_test : (b : Bool) → (b && ltb 20000 r.reading) ≡ false → cond b r.reading 0 ≤ 20000
    by_test true e = ltb-false _ _ e
    by_test false e = omega arith

sided_moves : (s : ℤ) (b : Bool) (x y : ℤ) → Sided s b → Moves b x y → (s *ℤ x) ≤ℤ (s *ℤ y)
sided_moves s b x y (inl g) m =
    let le : x ≤ℤ y = subst (λ t. Moves t x y) g.1 m in
    rw g.0 (omega (arith, ints, product_is (pos 1) x, product_is (pos 1) y))
sided_moves s b x y (inr l) m =
    let le : y ≤ℤ x = subst (λ t. Moves t x y) l.1 m in
    rw l.0 (omega (arith, ints, product_is (negsuc 0) x, product_is (negsuc 0) y))

module _ (w : ℕ) (r : Row) (k : Class) (e : class_of r.letter ≡ Ok k) where
  pub unit_unread : side_of k ≡ generator → row_reading r ≡ 0
  unit_unread s =
      ⊎_elim (λ g. ap (λ b. cond b r.reading 0) g.1) (λ l. absurd (omega (arith, ints, l.0))) (letter_side r.letter k e)

  pub unit_moves : Sound w r → (p q : ℕ) → p ≤ q → (side_of k *ℤ row_price w r p) ≤ℤ (side_of k *ℤ row_price w r q)
  unit_moves s p q h = sided_moves (side_of k) (is_load r) (row_price w r p) (row_price w r q) (letter_side r.letter k e) (s.moves p q h)
