-- The laws of a lawful row's curve.
use Rattle.std.proofs.Common.{◌≡◌, ℕ, suc, ◌+◌, ◌-◌, ◌≤◌, Bool, true, false, cond, eqb, ltb, leb, List, [], ◌∷◌, ◌++◌, length, get_or, ℤ, pos, ◌≤ℤ◌, is_err, Ok, Result, sym, refl, ap, ◌∙◌, subst, ⊎_elim, arith}
use lib.Signed.{le_z}
use Rattle.std.proofs.lemmas.Int.{ints, clamps, by_lt_z}
use Rattle.std.proofs.lemmas.Bool.{and_parts, not-false, cases_eq, ne_eqb, cond_both, leb-true, true≢false}
use Rattle.std.specs.Int.{int_min}
use Rattle.fault.specs.declared.cause.Fault.{Fault}
use Rattle.rows.specs.Classes.{class_of}
use Rattle.rows.specs.Rules.{Lawful, points_of, is_load, floor_price, in_order}
use Rattle.rows.specs.declared.class.Class.{Class}
use Rattle.rows.specs.declared.class.Class.TheVariants.{Thermal, Renewable, Committed, Load}
use Rattle.rows.specs.declared.row.Point.{Point}
use Rattle.rows.specs.declared.row.Row.{Row}
use Rattle.rows.specs.declared.rule.Rule.TheVariants.{Letter, Prices}
use Rattle.curve.specs.Line.{between, price_past, line_price}
use Rattle.curve.specs.Complete.{at, near_floor, last_of, leading, trailing, scheduled, renewable, drawn, completed, price_as, row_price, Moves, Sound}
use Rattle.curve.proofs.Straight.{Falls, Ordered, rising, falling, line_moves}

-- prices from lo to hi
abbrev Inside : ℤ → ℤ → List Point → Type 0
Inside lo hi [] = Unit {0}
Inside lo hi (p ∷ ps) = (lo ≤ℤ p.price) × (p.price ≤ℤ hi) × Inside lo hi ps

wider : (lo hi lo' hi' : ℤ) (ps : List Point) → lo' ≤ℤ lo → hi ≤ℤ hi' → Inside lo hi ps → Inside lo' hi' ps
wider lo hi lo' hi' [] a b i = tt
wider lo hi lo' hi' (p ∷ ps) a b i =
    let u = i.0 in
    let v = i.1 in
    (omega (arith, ints), omega (arith, ints), wider lo hi lo' hi' ps a b i.2)

is_le : (a b : ℤ) → le_z a b ≡ true → a ≤ℤ b
is_le a b e = omega (arith, ints)

-- what the rule on prices says
generator_order : (lo hi : ℤ) (ps : List Point) → in_order false lo hi ps ≡ true → Ordered ◌≤ℤ◌ lo ps × Inside lo hi ps
unfolding in_order
generator_order lo hi [] e = (tt, tt)
generator_order lo hi (p ∷ ps) e =
    let both = and_parts _ _ e in
    let ends = and_parts _ _ both.0 in
    let a = is_le lo p.price ends.0 in
    let b = is_le p.price hi ends.1 in
    let rest = generator_order p.price hi ps both.1 in
    ((a, rest.0), (a, b, wider p.price hi lo hi ps a (omega (arith, ints)) rest.1))

load_order : (lo hi : ℤ) (ps : List Point) → in_order true lo hi ps ≡ true → Ordered Falls hi ps × Inside lo hi ps
unfolding in_order
load_order lo hi [] e = (tt, tt)
load_order lo hi (p ∷ ps) e =
    let both = and_parts _ _ e in
    let ends = and_parts _ _ both.0 in
    let a = is_le lo p.price ends.0 in
    let b = is_le p.price hi ends.1 in
    let rest = load_order lo p.price ps both.1 in
    ((b, rest.0), (a, b, wider lo p.price lo hi ps (omega (arith, ints)) b rest.1))

-- line prices stay inside
module _ (lo hi : ℤ) where
  abbrev Within : ℤ → Type 0
  Within c = (lo ≤ℤ c) × (c ≤ℤ hi)

  between_inside : (a b : Point) (q : ℕ) → Within a.price → Within b.price → q ≤ b.level → Within (between a b q)
  between_inside a b q u v h =
      by_lt_z a.price b.price
      (λ l. let s = rising.leaves a b q (omega (arith, ints)) h in let t = rising.arrives a b q (omega (arith, ints)) h in (omega (arith, ints), omega (arith, ints)))
      (λ l. let s = falling.leaves a b q l h in let t = falling.arrives a b q l h in (omega (arith, ints), omega (arith, ints)))

  past_inside : (a : Point) (ps : List Point) (q : ℕ) → Within a.price → Inside lo hi ps → Within (price_past a ps q)
  unfolding price_past
  past_inside a [] q u i = u
  past_inside a (b ∷ ps) q u i =
      cond_both (leb q b.level) _ _ Within
      (λ e. between_inside a b q u (i.0, i.1) (leb-true _ _ e))
      (λ e. past_inside b ps q (i.0, i.1) i.2)

  line_inside : (ps : List Point) (q : ℕ) → lo ≤ℤ pos 0 → pos 0 ≤ℤ hi → Inside lo hi ps → Within (line_price ps q)
  unfolding line_price
  line_inside [] q l h i = (l, h)
  line_inside (a ∷ ps) q l h i =
      cond_both (leb q a.level) _ _ Within (λ e. (i.0, i.1)) (λ e. past_inside a ps q (i.0, i.1) i.2)

-- lists one after another
inside_both : (lo hi : ℤ) (ps qs : List Point) → Inside lo hi ps → Inside lo hi qs → Inside lo hi (ps ++ qs)
inside_both lo hi [] qs i j = j
inside_both lo hi (p ∷ ps) qs i j = (i.0, i.1, inside_both lo hi ps qs i.2 j)

abbrev end_price : ℤ → List Point → ℤ
end_price c [] = c
end_price c (p ∷ ps) = end_price p.price ps

ordered_both : (c : ℤ) (ps qs : List Point) → Ordered ◌≤ℤ◌ c ps → Ordered ◌≤ℤ◌ (end_price c ps) qs → Ordered ◌≤ℤ◌ c (ps ++ qs)
ordered_both c [] qs o t = t
ordered_both c (p ∷ ps) qs o t = (o.0, ordered_both p.price ps qs o.1 t)

-- the last price is that of the last point
end_is : (c : ℤ) (p : Point) (ps : List Point) → end_price c (p ∷ ps) ≡ (last_of (p ∷ ps)).price
end_is c p [] = refl
end_is c p (q ∷ ps) =
    let e : suc (suc (length ps) - 1) ≡ suc (suc (length ps)) - 1 = omega arith in
    end_is p.price q ps ∙ ap (λ n. (get_or (p ∷ q ∷ ps) n (at 0 (pos 0))).price) e

end_joins : (c : ℤ) (ps qs : List Point) → end_price c (ps ++ qs) ≡ end_price (end_price c ps) qs
end_joins c [] qs = refl
end_joins c (p ∷ ps) qs = end_joins p.price ps qs

abbrev top : ℤ
top = pos 1000000

-- prices in a generator's order, from the floor to the top
abbrev Fair : List Point → Type 0
Fair ps = Ordered ◌≤ℤ◌ floor_price ps × Inside floor_price top ps

-- what leads submitted points is fair, and ends at or below their first price
leading_fair : (lsl : ℕ) (p : Point) → floor_price ≤ℤ p.price → p.price ≤ℤ top → Fair (leading lsl p) × (end_price floor_price (leading lsl p) ≤ℤ p.price)
leading_fair lsl p l h = by_tests (ltb lsl p.level) (ltb (lsl + 10) p.level)
  where
    knee : (floor_price ≤ℤ int_min near_floor p.price) × (int_min near_floor p.price ≤ℤ p.price) × (int_min near_floor p.price ≤ℤ top)
    knee = (omega (arith, ints, clamps), omega (arith, ints, clamps), omega (arith, ints, clamps))

    by_tests : (a b : Bool) → Fair (cond a (at lsl floor_price ∷ []) [] ++ cond b (at (p.level - 10) (int_min near_floor p.price) ∷ []) []) × (end_price floor_price (cond a (at lsl floor_price ∷ []) [] ++ cond b (at (p.level - 10) (int_min near_floor p.price) ∷ []) []) ≤ℤ p.price)
    by_tests true true = let k = knee in omega (arith, ints)
    by_tests true false = omega (arith, ints)
    by_tests false true = let k = knee in omega (arith, ints)
    by_tests false false = omega (arith, ints)

-- and so is what trails them
trailing_fair : (hsl : ℕ) (z : Point) → floor_price ≤ℤ z.price → z.price ≤ℤ top → Ordered ◌≤ℤ◌ z.price (trailing hsl z) × Inside floor_price top (trailing hsl z)
trailing_fair hsl z l h = by_test (ltb z.level hsl)
  where
    by_test : (b : Bool) → Ordered ◌≤ℤ◌ z.price (cond b (at hsl z.price ∷ []) []) × Inside floor_price top (cond b (at hsl z.price ∷ []) [])
    by_test true = omega (arith, ints)
    by_test false = (tt, tt)

last_inside : (lo hi : ℤ) (p : Point) (ps : List Point) → Inside lo hi (p ∷ ps) → (lo ≤ℤ end_price p.price ps) × (end_price p.price ps ≤ℤ hi)
last_inside lo hi p [] i = (i.0, i.1)
last_inside lo hi p (q ∷ ps) i = last_inside lo hi q ps i.2

drawn_fair : (r : Row) (proxy ps : List Point) → Fair proxy → Fair ps → Fair (drawn r proxy ps)
drawn_fair r proxy [] x f = x
drawn_fair r proxy (p ∷ ps) x f =
    let lead = leading_fair r.lsl p f.1.0 f.1.1 in
    let last = last_inside floor_price top p ps f.1 in
    let e = end_is p.price p ps in
    let trail = trailing_fair r.hsl (last_of (p ∷ ps)) (subst (λ c. floor_price ≤ℤ c) e last.0) (subst (λ c. c ≤ℤ top) e last.1) in
    let path = end_joins floor_price (leading r.lsl p) (p ∷ ps) ∙ e in (
      ordered_both floor_price (leading r.lsl p ++ (p ∷ ps)) (trailing r.hsl (last_of (p ∷ ps)))
          (ordered_both floor_price (leading r.lsl p) (p ∷ ps) lead.0.0 (lead.1, f.0.1))
          (subst (λ c. Ordered ◌≤ℤ◌ c (trailing r.hsl (last_of (p ∷ ps)))) (sym path) trail.0),
      inside_both floor_price top (leading r.lsl p ++ (p ∷ ps)) (trailing r.hsl (last_of (p ∷ ps)))
          (inside_both floor_price top (leading r.lsl p) (p ∷ ps) lead.0.1 f.1)
          trail.1,
    )

scheduled_fair : (w : ℕ) (r : Row) → 1 ≤ w → w ≤ 1000000 → Fair (scheduled w r)
scheduled_fair w r a b = omega (arith, ints)

renewable_fair : (r : Row) → Fair (renewable r)
renewable_fair r = omega (arith, ints)

-- the four letters, where one of them it is
pub by_letter : (P : Result Class Fault → Bool → Type 0) → P (Ok Thermal) false → P (Ok Renewable) false → P (Ok Committed) false → P (Ok Load) true → (c : ℕ) → is_err (class_of c) ≡ false → P (class_of c) (eqb c 76)
by_letter P n i r l c ok =
    ⊎_elim (λ e. subst (λ x. P (class_of x) (eqb x 76)) (sym e) n) (λ n78.
    ⊎_elim (λ e. subst (λ x. P (class_of x) (eqb x 76)) (sym e) i) (λ n73.
    ⊎_elim (λ e. subst (λ x. P (class_of x) (eqb x 76)) (sym e) r) (λ n82.
    ⊎_elim (λ e. subst (λ x. P (class_of x) (eqb x 76)) (sym e) l) (λ n76.
    absurd (true≢false (rw (ne_eqb c 78 n78, ne_eqb c 73 n73, ne_eqb c 82 n82, ne_eqb c 76 n76) at ok)))
    (cases_eq c 76)) (cases_eq c 82)) (cases_eq c 73)) (cases_eq c 78)

module _ (w : ℕ) (r : Row) (low : 1 ≤ w) (high : w ≤ 1000000) (lawful : Lawful w r) where
  rows_in_order : (b : Bool) → is_load r ≡ b → in_order b floor_price (pos w) (points_of r) ≡ true
  rows_in_order b e = subst (λ x. in_order x floor_price (pos w) (points_of r) ≡ true) e (not-false _ (lawful Prices))

  submitted_fair : is_load r ≡ false → Fair (points_of r)
  submitted_fair e =
      let o = generator_order floor_price (pos w) (points_of r) (rows_in_order false e) in
      (o.0, wider floor_price (pos w) floor_price top (points_of r) (omega (arith, ints)) (omega (arith, ints)) o.1)

  line_fair : (ps : List Point) (q : ℕ) → Inside floor_price top ps → (floor_price ≤ℤ line_price ps q) × (line_price ps q ≤ℤ top)
  line_fair ps q i = line_inside floor_price top ps q (omega (arith, ints)) (omega (arith, ints)) i

  bid_order : is_load r ≡ true → Ordered Falls (pos w) (points_of r) × Inside floor_price top (points_of r)
  bid_order e =
      let o = load_order floor_price (pos w) (points_of r) (rows_in_order true e) in
      (o.0, wider floor_price (pos w) floor_price top (points_of r) (omega (arith, ints)) (omega (arith, ints)) o.1)

  thermal_fair : is_load r ≡ false → Fair (completed Thermal w r)
  thermal_fair e = drawn_fair r (scheduled w r) (points_of r) (scheduled_fair w r low high) (submitted_fair e)

  renewables_fair : is_load r ≡ false → Fair (completed Renewable w r)
  renewables_fair e = drawn_fair r (renewable r) (points_of r) (renewable_fair r) (submitted_fair e)

  bounded : (q : ℕ) → (floor_price ≤ℤ row_price w r q) × (row_price w r q ≤ℤ top)
  bounded q =
      by_letter (λ x b. is_load r ≡ b → (floor_price ≤ℤ price_as x w r q) × (price_as x w r q ≤ℤ top))
      (λ e. line_fair (completed Thermal w r) q (thermal_fair e).1)
      (λ e. line_fair (completed Renewable w r) q (renewables_fair e).1)
      (λ e. let b = line_fair (points_of r) q (submitted_fair e).1 in omega (arith, ints, clamps))
      (λ e. line_fair (points_of r) _ (bid_order e).1)
      r.letter (lawful Letter) refl

  ordered : (p q : ℕ) → p ≤ q → Moves (is_load r) (row_price w r p) (row_price w r q)
  ordered p q h =
      by_letter (λ x b. is_load r ≡ b → Moves b (price_as x w r p) (price_as x w r q))
      (λ e. line_moves ◌≤ℤ◌ rising floor_price (completed Thermal w r) p q (thermal_fair e).0 h)
      (λ e. line_moves ◌≤ℤ◌ rising floor_price (completed Renewable w r) p q (renewables_fair e).0 h)
      (λ e. let m = line_moves ◌≤ℤ◌ rising floor_price (points_of r) p q (submitted_fair e).0 h in omega (arith, ints, clamps))
      (λ e. line_moves Falls falling (pos w) (points_of r) _ _ (bid_order e).0 (omega arith))
      r.letter (lawful Letter) refl

  pub sound : Sound w r
  sound = record { least = λ q. (bounded q).0; most = λ q. (bounded q).1; moves = ordered }
