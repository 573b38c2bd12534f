-- A table of fair members is a lawful offer book.
use Rattle.std.proofs.Common.{◌≡◌, ℕ, zero, suc, ◌<◌, ◌≤◌, Bool, true, false, cond, ◌&&◌, ltb, leb, ◌⊎◌, ℤ, pos, negsuc, ◌*ℤ◌, ◌≤ℤ◌, sym, refl, ◌∙◌, subst, inl, inr, ⊎_elim, suc-mul, arith}
use borrow.Author.Differences.{product_is}
use Rattle.std.proofs.lemmas.Int.{ints}
use Rattle.std.proofs.lemmas.Bool.{cond-true, cond-false, lt-ltb, le-ltb, le-leb, lt-leb, and_from, and_left, and_right, cases_lt}
use Rattle.book.specs.Gathered.{Member, Fair, within, gathered}
use Rattle.book.specs.Meaning.{Lawful, generator, load, least_price, most_price}

square_one : (s : ℤ) → (s *ℤ s) ≡ pos 1 → (s ≡ generator) ⊎ (s ≡ load)
square_one (pos zero) e = absurd (omega (arith, ints))
square_one (pos (suc zero)) e = inl refl
square_one (pos (suc (suc n))) e = absurd (omega (arith, ints, suc-mul (suc n) (suc (suc n)), suc-mul n (suc (suc n))))
square_one (negsuc zero) e = inr refl
square_one (negsuc (suc n)) e = absurd (omega (arith, ints, suc-mul (suc n) (suc (suc n)), suc-mul n (suc (suc n))))

within_is : (low high q : ℕ) (p : ℤ) → low < q → q ≤ high → within low high q p ≡ p
within_is low high q p a b = cond-true _ _ _ (and_from _ _ (lt-ltb low q a) (le-leb q high b))

below_is : (low high q : ℕ) (p : ℤ) → q ≤ low → within low high q p ≡ pos 0
below_is low high q p h = cond-false _ _ _ (and_left _ _ (le-ltb low q h))

above_is : (low high q : ℕ) (p : ℤ) → high < q → within low high q p ≡ pos 0
above_is low high q p h = cond-false _ _ _ (and_right _ _ (lt-leb q high h))

-- what holds of a value and of 0 holds of either
either : {X : Type 0} (R : X → Type 0) (b : Bool) (x none : X) → R x → R none → R (cond b x none)
either R true x none h k = h
either R false x none h k = k

signed : (x y : ℤ) (s : ℤ) → s ≡ generator → (s *ℤ x) ≤ℤ (s *ℤ y) → x ≤ℤ y
signed x y s e h =
    let g : (pos 1 *ℤ x) ≤ℤ (pos 1 *ℤ y) = subst (λ t. (t *ℤ x) ≤ℤ (t *ℤ y)) e h in
    omega (arith, ints, product_is (pos 1) x, product_is (pos 1) y)

turned : (x y : ℤ) (s : ℤ) → s ≡ load → (s *ℤ x) ≤ℤ (s *ℤ y) → y ≤ℤ x
turned x y s e h =
    let g : (negsuc 0 *ℤ x) ≤ℤ (negsuc 0 *ℤ y) = subst (λ t. (t *ℤ x) ≤ℤ (t *ℤ y)) e h in
    omega (arith, ints, product_is (negsuc 0) x, product_is (negsuc 0) y)

module _ (n : ℕ) (ms : ℕ → Member) (few : n ≤ 64) (fair : (i : ℕ) → i < n → Fair (ms i)) where
  here : {X : Type 0} (i : ℕ) (x none : X) → i < n → cond (ltb i n) x none ≡ x
  here i x none h = cond-true _ _ _ (lt-ltb i n h)

  gone : {X : Type 0} (i : ℕ) (x none : X) → n ≤ i → cond (ltb i n) x none ≡ none
  gone i x none h = cond-false _ _ _ (le-ltb i n h)

  -- what every member keeps, and nobody too
  kept : {X : Type 0} (R : X → Type 0) (f : Member → X) (none : X) → ((i : ℕ) → i < n → R (f (ms i))) → R none → (i : ℕ) → R (cond (ltb i n) (f (ms i)) none)
  kept R f none h k i =
      ⊎_elim (λ l. subst R (sym (here i _ _ l)) (h i l)) (λ g. subst R (sym (gone i _ _ g)) k) (cases_lt i n)

  module _ (i p q : ℕ) (l : i < n) (a : cond (ltb i n) (ms i).low 0 < p) (h : p ≤ q) (b : q ≤ cond (ltb i n) (ms i).high 0) where
    priced_at : (t : ℕ) → p ≤ t → t ≤ q → (gathered n ms).price i t ≡ (ms i).price t
    priced_at t u v =
        here i _ _ l
        ∙ within_is (ms i).low (ms i).high t ((ms i).price t)
        (let e = here i (ms i).low 0 l in omega arith)
        (let e = here i (ms i).high 0 l in omega arith)

    moved : ((ms i).side *ℤ (gathered n ms).price i p) ≤ℤ ((ms i).side *ℤ (gathered n ms).price i q)
    moved = rw (priced_at p (omega arith) h, priced_at q h (omega arith)) ((fair i l).moves p q h)

  -- a participant with a side is there
  sided_here : (i : ℕ) (s : ℤ) → (s ≡ pos 0 → ⊥) → (gathered n ms).side i ≡ s → (i < n) × ((ms i).side ≡ s)
  sided_here i s ne e =
      ⊎_elim (λ l. (l, sym (here i _ _ l) ∙ e)) (λ g. absurd (ne (sym e ∙ gone i _ _ g))) (cases_lt i n)

  pub gathered_lawful : Lawful (gathered n ms)
  gathered_lawful = record {
    few = few;
    buses = kept (λ x. x ≤ 63) (λ m. m.bus) 0 (λ i l. (fair i l).there) (omega arith);
    sides = λ i l. subst (λ s. (s ≡ generator) ⊎ (s ≡ load)) (sym (here i _ _ l)) (square_one (ms i).side (fair i l).sided);
    limits = λ i. ⊎_elim
        (λ l. let e = here i (ms i).low 0 l in let f = here i (ms i).high 0 l in let g = (fair i l).limits in omega arith)
        (λ g. let e = gone i (ms i).low 0 g in omega arith)
        (cases_lt i n);
    highest = kept (λ x. x ≤ 20000) (λ m. m.high) 0 (λ i l. (fair i l).highest) (omega arith);
    readings = kept (λ x. x ≤ 20000) (λ m. m.reading) 0 (λ i l. (fair i l).readings) (omega arith);
    unread = λ i e. let s = sided_here i generator (λ z. omega (arith, ints, z)) e in here i _ _ s.0 ∙ (fair i s.0).unread s.1;
    least = λ i q. kept (λ x. least_price ≤ℤ x) (λ m. within m.low m.high q (m.price q)) (pos 0)
        (λ j l. either (λ x. least_price ≤ℤ x) (ltb (ms j).low q && leb q (ms j).high) ((ms j).price q) (pos 0) ((fair j l).least q) (omega (arith, ints))) (omega (arith, ints)) i;
    most = λ i q. kept (λ x. x ≤ℤ most_price) (λ m. within m.low m.high q (m.price q)) (pos 0)
        (λ j l. either (λ x. x ≤ℤ most_price) (ltb (ms j).low q && leb q (ms j).high) ((ms j).price q) (pos 0) ((fair j l).most q) (omega (arith, ints))) (omega (arith, ints)) i;
    rises = λ i p q e a h b. let s = sided_here i generator (λ z. omega (arith, ints, z)) e in signed _ _ _ s.1 (moved i p q s.0 a h b);
    falls = λ i p q e a h b. let s = sided_here i load (λ z. omega (arith, ints, z)) e in turned _ _ _ s.1 (moved i p q s.0 a h b);
    no_bus = λ i g. gone i _ _ g;
    no_side = λ i g. gone i _ _ g;
    no_high = λ i g. gone i _ _ g;
    no_reading = λ i g. gone i _ _ g;
    below = λ i q h. ⊎_elim
        (λ l. here i _ _ l ∙ below_is (ms i).low (ms i).high q ((ms i).price q) (let e = here i (ms i).low 0 l in omega arith))
        (λ g. gone i _ _ g) (cases_lt i n);
    above = λ i q h. ⊎_elim
        (λ l. here i _ _ l ∙ above_is (ms i).low (ms i).high q ((ms i).price q) (let e = here i (ms i).high 0 l in omega arith))
        (λ g. gone i _ _ g) (cases_lt i n);
  }
