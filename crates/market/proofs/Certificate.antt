-- Duality and exactness: why the gap is a certificate.
use Rattle.std.proofs.Common.{◌≡◌, ℕ, zero, suc, ◌+◌, ◌-◌, ◌<◌, ◌≤◌, Bool, true, false, cond, ◌⊎◌, ℤ, pos, negsuc, ◌-ℤ◌, ◌*ℤ◌, ◌≤ℤ◌, ◌<ℤ◌, refl, ap, ◌∙◌, inl, inr, ⊎_elim, suc-mul, arith}
use lib.IntN.{zero-*ℤ, *ℤ-zero}
use borrow.Author.Differences.{product_is}
use Rattle.std.proofs.lemmas.Int.{by_lt_z}
use Rattle.shelf.specs.Sum.{sum}
use Rattle.shelf.proofs.Product.{lin, times_positive}
use Rattle.shelf.proofs.Sum.{sum_positive, sum_nothing, sum_zero}
use Rattle.book.specs.Meaning as Books
use Rattle.book.specs.Meaning.{Book, generator, load}
use Rattle.network.specs.Grid.{Grid}
use Rattle.dispatch.specs.Injected.{dispatch_flow}
use Rattle.market.specs.Best.{best}
use Rattle.market.specs.Laws.{Fair, Duality, Settled, Exactness}
use Rattle.market.specs.Market.{Step, Prices, Feasible, room, lmp, gain, gain_at, gain_above, forgone, slack, gap, LastObjects, NextObjects}
use Rattle.market.proofs.Fronts.{front_least, front_reached, front_last, front_next}
use Rattle.market.proofs.Identity.{gap_is}

module _ (m : Book) (g : Grid) (s : Step) (p : Prices) (x : ℕ → ℕ) (law : Books.Lawful m) (fair : Fair g s p) (ok : Feasible m g s x) where
  -- nothing that is forgone is negative
  pub forgone_positive : (i : ℕ) → i < m.count → pos 0 ≤ℤ forgone m g p x i
  forgone_positive i h =
      let a = front_least (m.high i - m.low i) (x i - m.low i) (gain_above m g p i) (let u = ok.high i h in omega arith) in
      omega (arith, lin)

  pub slack_positive : (k : ℕ) → k < g.lines → pos 0 ≤ℤ slack m g s p x k
  slack_positive k h = by_test (s.observed k) (ok.limited k h)
    where
      by_test : (b : Bool) → (b ≡ true → dispatch_flow m g x k ≤ℤ room s k) → pos 0 ≤ℤ cond b (p.shadow k *ℤ (room s k -ℤ dispatch_flow m g x k)) (pos 0)
      by_test true l = let r = l refl in times_positive (p.shadow k) (room s k -ℤ dispatch_flow m g x k) (fair.positive k h) (omega (arith, lin))
      by_test false l = omega (arith, lin)

  pub gap_positive : pos 0 ≤ℤ gap m g s p x
  gap_positive =
      let a = sum_positive m.count (forgone m g p x) forgone_positive in
      let b = sum_positive g.lines (slack m g s p x) slack_positive in
      omega (arith, lin)

pub duality : Duality
duality m g s p x y law fair okx oky =
    let a = gap_is m g s p x law fair okx in
    let b = gap_is m g s p y law fair oky in
    let c = gap_positive m g s p y law fair oky in
    omega (arith, lin)

-- gains never rise with the level, for either side
pub gains_fall : (m : Book) (price : ℤ) (i : ℕ) → Books.Lawful m → i < m.count → (t u : ℕ) → t ≤ u → u < m.high i - m.low i → gain_at m price i (suc (m.low i + u)) ≤ℤ gain_at m price i (suc (m.low i + t))
gains_fall m price i law h t u a b =
    let low = law.limits i in
    let lower : m.low i < suc (m.low i + t) = omega arith in
    let order : suc (m.low i + t) ≤ suc (m.low i + u) = omega arith in
    let upper : suc (m.low i + u) ≤ m.high i = omega arith in
    let v = m.price i (suc (m.low i + u)) in
    let w = m.price i (suc (m.low i + t)) in
    ⊎_elim
    (λ q. let r = law.rises i (suc (m.low i + t)) (suc (m.low i + u)) q lower order upper in
    ordered (price -ℤ (pos 1000 *ℤ v)) (price -ℤ (pos 1000 *ℤ w)) (m.side i) (inl (q, omega (arith, lin, product_is (pos 1000) v, product_is (pos 1000) w))))
    (λ q. let r = law.falls i (suc (m.low i + t)) (suc (m.low i + u)) q lower order upper in
    ordered (price -ℤ (pos 1000 *ℤ v)) (price -ℤ (pos 1000 *ℤ w)) (m.side i) (inr (q, omega (arith, lin, product_is (pos 1000) v, product_is (pos 1000) w))))
    (law.sides i h)
  where
    ordered : (d e z : ℤ) → ((z ≡ generator) × (d ≤ℤ e)) ⊎ ((z ≡ load) × (e ≤ℤ d)) → (z *ℤ d) ≤ℤ (z *ℤ e)
    ordered d e z (inl q) = let l = q.1 in rw q.0 (omega (arith, lin, product_is (pos 1) d, product_is (pos 1) e))
    ordered d e z (inr q) = let l = q.1 in rw q.0 (omega (arith, lin, product_is (negsuc 0) d, product_is (negsuc 0) e))

-- a factor above 0 leaves a product 0 only where the other factor is
no_product : (u z : ℤ) → pos 0 <ℤ u → pos 0 ≤ℤ z → u *ℤ z ≡ pos 0 → z ≡ pos 0
no_product (pos zero) z a b e = absurd (omega (arith, lin))
no_product (pos (suc u)) (pos zero) a b e = refl
no_product (pos (suc u)) (pos (suc n)) a b e = absurd (omega (arith, lin, product_is (pos (suc u)) (pos (suc n)), suc-mul u (suc n)))
no_product (pos (suc u)) (negsuc n) a b e = absurd (omega (arith, lin))
no_product (negsuc u) z a b e = absurd (omega (arith, lin))

module _ (m : Book) (g : Grid) (s : Step) (p : Prices) (x : ℕ → ℕ) (law : Books.Lawful m) (fair : Fair g s p) (ok : Feasible m g s x) where
  abbrev above : ℕ → ℕ
  above i = x i - m.low i

  abbrev width : ℕ → ℕ
  width i = m.high i - m.low i

  within : (i : ℕ) → i < m.count → above i ≤ width i
  within i h = let a = ok.low i h in let b = ok.high i h in omega arith

  -- the gain of a level, counted from low
  gain_at_is : (i t q : ℕ) → suc (m.low i + t) ≡ q → gain_above m g p i t ≡ gain m g p i q
  gain_at_is i t q e = ap (gain m g p i) e

  slack_none : (k : ℕ) → k < g.lines → slack m g s p x k ≡ pos 0 → pos 0 <ℤ p.shadow k → dispatch_flow m g x k ≡ room s k
  slack_none k h e u = by_test (s.observed k) (fair.unobserved k h) (ok.limited k h) e
    where
      by_test : (b : Bool) → (b ≡ false → p.shadow k ≡ pos 0) → (b ≡ true → dispatch_flow m g x k ≤ℤ room s k) → cond b (p.shadow k *ℤ (room s k -ℤ dispatch_flow m g x k)) (pos 0) ≡ pos 0 → dispatch_flow m g x k ≡ room s k
      by_test true z l e =
          let r = l refl in
          let n = no_product (p.shadow k) (room s k -ℤ dispatch_flow m g x k) u (omega (arith, lin)) e in
          omega (arith, lin)
      by_test false z l e = absurd (let f = z refl in omega (arith, lin))

  full_none : (k : ℕ) → k < g.lines → (pos 0 <ℤ p.shadow k → dispatch_flow m g x k ≡ room s k) → slack m g s p x k ≡ pos 0
  full_none k h full = by_test (s.observed k)
    where
      nothing : p.shadow k *ℤ (room s k -ℤ dispatch_flow m g x k) ≡ pos 0
      nothing =
          by_lt_z (pos 0) (p.shadow k)
          (λ u. let f = full u in let d : room s k -ℤ dispatch_flow m g x k ≡ pos 0 = omega (arith, lin) in ap (λ z. p.shadow k *ℤ z) d ∙ *ℤ-zero (p.shadow k))
          (λ u. let v = fair.positive k h in let d : p.shadow k ≡ pos 0 = omega (arith, lin) in ap (λ z. z *ℤ (room s k -ℤ dispatch_flow m g x k)) d ∙ zero-*ℤ (room s k -ℤ dispatch_flow m g x k))

      by_test : (b : Bool) → cond b (p.shadow k *ℤ (room s k -ℤ dispatch_flow m g x k)) (pos 0) ≡ pos 0
      by_test true = nothing
      by_test false = refl

  settled : gap m g s p x ≡ pos 0 → Settled m g s p x
  settled e =
      let a = sum_positive m.count (forgone m g p x) (forgone_positive m g s p x law fair ok) in
      let b = sum_positive g.lines (slack m g s p x) (slack_positive m g s p x law fair ok) in
      let f : sum m.count (forgone m g p x) ≡ pos 0 = omega (arith, lin) in
      let l : sum g.lines (slack m g s p x) ≡ pos 0 = omega (arith, lin) in
      let reached : (i : ℕ) → i < m.count → best (width i) (gain_above m g p i) ≡ sum (above i) (gain_above m g p i) =
      λ i h. let z = sum_nothing m.count (forgone m g p x) (forgone_positive m g s p x law fair ok) f i h in omega (arith, lin) in
      record {
        full = λ k h u. slack_none k h (sum_nothing g.lines (slack m g s p x) (slack_positive m g s p x law fair ok) l k h) u;
        lasts = λ i h o.
            let t : suc (above i - 1) ≡ above i = let q = o.0 in omega arith in
            let r = front_last (width i) (above i) (gain_above m g p i) (within i h) (reached i h) (above i - 1) t in
            let v : suc (m.low i + (above i - 1)) ≡ x i = let q = o.0 in omega arith in
            let w = gain_at_is i (above i - 1) (x i) v in
            let n = o.1 in
            omega (arith, lin);
        nexts = λ i h o.
            let c : above i < width i = let q = o.0 in let r = ok.low i h in omega arith in
            let r = front_next (width i) (above i) (gain_above m g p i) (reached i h) c in
            let v : suc (m.low i + above i) ≡ suc (x i) = let q = ok.low i h in omega arith in
            let w = gain_at_is i (above i) (suc (x i)) v in
            let n = o.1 in
            omega (arith, lin);
      }

  nobody_forgoes : (i : ℕ) → i < m.count → (LastObjects m g p x i → ⊥) → (NextObjects m g p x i → ⊥) → forgone m g p x i ≡ pos 0
  nobody_forgoes i h last next =
      let f = gain_above m g p i in
      let r = front_reached (width i) (above i) f (within i h) (gains_fall m (lmp m g p i) i law h)
      (λ t e.
      let v : suc (m.low i + t) ≡ x i = let q = ok.low i h in omega arith in
      let w = gain_at_is i t (x i) v in
      by_lt_z (gain m g p i (x i)) (pos 0)
      (λ n. absurd (last (omega arith, n)))
      (λ n. omega (arith, lin)))
      (λ c.
      let v : suc (m.low i + above i) ≡ suc (x i) = let q = ok.low i h in omega arith in
      let w = gain_at_is i (above i) (suc (x i)) v in
      by_lt_z (pos 0) (gain m g p i (suc (x i)))
      (λ n. absurd (next (let q = ok.low i h in omega arith, n)))
      (λ n. omega (arith, lin))) in
      omega (arith, lin)

  closed : Settled m g s p x → gap m g s p x ≡ pos 0
  closed done =
      let a = sum_zero m.count (forgone m g p x) (λ i h. nobody_forgoes i h (done.lasts i h) (done.nexts i h)) in
      let b = sum_zero g.lines (slack m g s p x) (λ k h. full_none k h (done.full k h)) in
      omega (arith, lin)

pub exactness : Exactness
exactness m g s p x law fair ok = (settled m g s p x law fair ok, closed m g s p x law fair ok)
