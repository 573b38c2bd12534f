-- Mitigation over a lawful book is a lawful book.
use Rattle.std.proofs.Common.{◌≡◌, ℕ, ◌<◌, ◌≤◌, Bool, true, false, cond, ltb, leb, ℤ, pos, ◌≤ℤ◌, sym, refl, ap, ◌∙◌, ⊎_elim, arith}
use lib.Signed.{lt_z}
use Rattle.std.proofs.lemmas.Int.{ints, clamps}
use Rattle.std.proofs.lemmas.Bool.{and_parts, and_left, and_right, and_from, cases_lt, cases_Bool, cond-true, cond-false, cond_both, le-ltb, lt-leb, lt-ltb, le-leb}
use Rattle.book.specs.Meaning.{Book, Lawful, generator, load, least_price, most_price}
use Rattle.bounded.specs.Mitigation.{Terms, Layer, Measured, floor_of, ceiling_of, lowered, raised, mitigated, applied, bites, layered}

lowered_least : (s : Bool) (k p : ℤ) → least_price ≤ℤ k → least_price ≤ℤ p → least_price ≤ℤ lowered s k p
lowered_least true k p a b = grind (arith, ints)
lowered_least false k p a b = b

lowered_most : (s : Bool) (k p : ℤ) → lowered s k p ≤ℤ p
lowered_most true k p = grind (arith, ints)
lowered_most false k p = omega (arith, ints)

lowered_grows : (s : Bool) (k p q : ℤ) → p ≤ℤ q → lowered s k p ≤ℤ lowered s k q
lowered_grows true k p q h = grind (arith, ints)
lowered_grows false k p q h = h

raised_least : (f p : ℤ) → p ≤ℤ raised f p
raised_least f p = grind (arith, ints)

raised_most : (f p : ℤ) → f ≤ℤ most_price → p ≤ℤ most_price → raised f p ≤ℤ most_price
raised_most f p a b = grind (arith, ints)

raised_grows : (f p q : ℤ) → p ≤ℤ q → raised f p ≤ℤ raised f q
raised_grows f p q h = grind (arith, ints)

module _ (t : Terms) (m : Measured t) (r : ℤ) where
  bound_least : (p : ℤ) → least_price ≤ℤ p → least_price ≤ℤ mitigated t r p
  bound_least p h =
      let k : least_price ≤ℤ ceiling_of t r = let c = m.ceiling_least in omega (arith, ints, clamps) in
      let a = lowered_least t.subject (ceiling_of t r) p k h in
      let b = raised_least (floor_of t r) (lowered t.subject (ceiling_of t r) p) in
      omega (arith, ints)

  bound_most : (p : ℤ) → p ≤ℤ most_price → mitigated t r p ≤ℤ most_price
  bound_most p h =
      let f : floor_of t r ≤ℤ most_price = let c = m.floor_most in omega (arith, ints, clamps) in
      let a = lowered_most t.subject (ceiling_of t r) p in
      raised_most (floor_of t r) (lowered t.subject (ceiling_of t r) p) f (omega (arith, ints))

  bound_grows : (p q : ℤ) → p ≤ℤ q → mitigated t r p ≤ℤ mitigated t r q
  bound_grows p q h = raised_grows (floor_of t r) _ _ (lowered_grows t.subject (ceiling_of t r) p q h)

-- a participant that a layer bites is there
pub bites_there : (m : Book) → Lawful m → (i q : ℕ) → bites m i q ≡ true → i < m.count
bites_there m law i q e =
    let side : lt_z (pos 0) (m.side i) ≡ true = (and_parts _ (ltb (m.low i) q) (and_parts _ (leb q (m.high i)) e).0).0 in
    ⊎_elim (λ l. l)
    (λ g. absurd (let z = law.no_side i g in omega (arith, ints)))
    (cases_lt i m.count)

-- reference prices of participants that are not there do not matter
module _ (m : Book) (law : Lawful m) (l l' : Layer) (terms : (i : ℕ) → l.terms i ≡ l'.terms i) (flag : l.referenced ≡ l'.referenced) (references : (i : ℕ) → i < m.count → l.reference i ≡ l'.reference i) where
  applied_same : (i : ℕ) (p : ℤ) → i < m.count → applied l i p ≡ applied l' i p
  applied_same i p there =
      ap (λ b. cond b (mitigated (l.terms i) (l.reference i) p) p) flag
      ∙ ap (λ t. cond l'.referenced (mitigated t (l.reference i) p) p) (terms i)
      ∙ ap (λ r. cond l'.referenced (mitigated (l'.terms i) r p) p) (references i there)

  price_same : (i q : ℕ) → (layered m l).price i q ≡ (layered m l').price i q
  price_same i q =
      ⊎_elim
      (λ b. cond-true _ _ _ b ∙ applied_same i (m.price i q) (bites_there m law i q b) ∙ sym (cond-true _ _ _ b))
      (λ b. cond-false _ _ _ b ∙ sym (cond-false _ _ _ b))
      (cases_Bool (bites m i q))

  pub layered_same : layered m l ≡ layered m l'
  layered_same = λ j.
      record {
        count = m.count;
        bus = m.bus;
        side = m.side;
        low = m.low;
        high = m.high;
        reading = m.reading;
        price = λ i q. price_same i q j;
      }

module _ (m : Book) (l : Layer) (law : Lawful m) (measured : (i : ℕ) → Measured (l.terms i)) where
  applied_least : (i : ℕ) (p : ℤ) → least_price ≤ℤ p → least_price ≤ℤ applied l i p
  applied_least i p h = cond_both l.referenced _ _ (λ x. least_price ≤ℤ x) (λ _. bound_least (l.terms i) (measured i) (l.reference i) p h) (λ _. h)

  applied_most : (i : ℕ) (p : ℤ) → p ≤ℤ most_price → applied l i p ≤ℤ most_price
  applied_most i p h = cond_both l.referenced _ _ (λ x. x ≤ℤ most_price) (λ _. bound_most (l.terms i) (measured i) (l.reference i) p h) (λ _. h)

  applied_grows : (i : ℕ) (p q : ℤ) → p ≤ℤ q → applied l i p ≤ℤ applied l i q
  applied_grows i p q h = by_flag l.referenced
    where
      by_flag : (b : Bool) → cond b (mitigated (l.terms i) (l.reference i) p) p ≤ℤ cond b (mitigated (l.terms i) (l.reference i) q) q
      by_flag true = bound_grows (l.terms i) (measured i) (l.reference i) p q h
      by_flag false = h

  -- at a generator's level the price is the bounded one, and elsewhere it is the book's
  bitten : (i q : ℕ) → m.side i ≡ generator → m.low i < q → q ≤ m.high i → (layered m l).price i q ≡ applied l i (m.price i q)
  bitten i q s a b =
      cond-true _ _ _ (and_from _ _ (and_from _ _ (ap (lt_z (pos 0)) s) (lt-ltb _ _ a)) (le-leb _ _ b))

  spared : (i q : ℕ) → m.side i ≡ load → (layered m l).price i q ≡ m.price i q
  spared i q s = cond-false _ _ _ (and_left _ _ (and_left _ _ (ap (lt_z (pos 0)) s)))

  pub layered_lawful : Lawful (layered m l)
  layered_lawful = record {
    few = law.few;
    buses = law.buses;
    sides = law.sides;
    limits = law.limits;
    highest = law.highest;
    readings = law.readings;
    unread = law.unread;
    least = λ i q. cond_both (bites m i q) _ _ (λ x. least_price ≤ℤ x) (λ _. applied_least i _ (law.least i q)) (λ _. law.least i q);
    most = λ i q. cond_both (bites m i q) _ _ (λ x. x ≤ℤ most_price) (λ _. applied_most i _ (law.most i q)) (λ _. law.most i q);
    rises = λ i p q s a h b.
        rw (bitten i p s a (omega arith), bitten i q s (omega arith) b) (applied_grows i _ _ (law.rises i p q s a h b));
    falls = λ i p q s a h b. rw (spared i p s, spared i q s) (law.falls i p q s a h b);
    no_bus = law.no_bus;
    no_side = law.no_side;
    no_high = law.no_high;
    no_reading = law.no_reading;
    below = λ i q h. cond-false _ _ _ (and_left _ _ (and_right _ _ (le-ltb _ _ h))) ∙ law.below i q h;
    above = λ i q h. cond-false _ _ _ (and_right _ _ (lt-leb _ _ h)) ∙ law.above i q h;
  }

-- without reference prices all prices pass unchanged
module _ (m : Book) (l : Layer) (flag : l.referenced ≡ false) where
  passed : (b : Bool) (i : ℕ) (p : ℤ) → cond b (applied l i p) p ≡ p
  passed true i p = cond-false _ _ _ flag
  passed false i p = refl

  pub layered_plain : layered m l ≡ m
  layered_plain = λ j.
      record {
        count = m.count;
        bus = m.bus;
        side = m.side;
        low = m.low;
        high = m.high;
        reading = m.reading;
        price = λ i q. passed (bites m i q) i (m.price i q) j;
      }
