-- The one identity that carries the laws: the gap and 1,000 times the worth add up to a number that does not
-- mention the dispatch.
use Rattle.std.proofs.Common.{◌≡◌, ℕ, zero, suc, ◌+◌, ◌-◌, ◌<◌, ◌≤◌, Bool, true, false, cond, ℤ, pos, ◌+ℤ◌, ◌-ℤ◌, ◌*ℤ◌, sym, refl, ap, ◌∙◌, arith}
use lib.IntN.{*ℤ_comm, *ℤ-zero, zero-*ℤ}
use Rattle.std.proofs.lemmas.Int.{ints}
use Rattle.shelf.specs.Sum.{sum}
use Rattle.book.specs.Meaning as Books
use Rattle.book.specs.Meaning.{Book}
use Rattle.network.specs.Grid.{Grid}
use Rattle.dispatch.specs.Injected.{injection, dispatch_flow}
use Rattle.dispatch.proofs.Exchange.{flows_agree}
use Rattle.market.specs.Laws.{Fair}
use Rattle.market.specs.Market.{Step, Prices, Feasible, balance, due, room, lmp, gains, best_gains, cost, worth, slack, gap}
use Rattle.shelf.proofs.Product.{lin, times_sum, times_minus, minus_times, times_assoc, times_left, times_neg, times_one}
use Rattle.shelf.proofs.Sum.{sum_same, sum_minus, sum_neg, sum_times, sum_swap}

-- a·(b − c·f t) over t, with the part that does not move taken out
sum_split : (n : ℕ) (s a : ℤ) (f : ℕ → ℤ) → sum n (λ t. s *ℤ (a -ℤ (pos 1000 *ℤ f t))) ≡ ((s *ℤ a) *ℤ pos n) -ℤ (pos 1000 *ℤ (s *ℤ sum n f))
unfolding sum
sum_split zero s a f =
    let x = *ℤ-zero (s *ℤ a) in
    let y = ap (λ z. pos 1000 *ℤ z) (*ℤ-zero s) in
    omega (arith, lin)
sum_split (suc n) s a f =
    let i = sum_split n s a f in
    let d = times_minus s a (pos 1000 *ℤ f n) in
    let l = times_left s (pos 1000) (f n) in
    let u = ap (λ z. pos 1000 *ℤ z) (times_sum s (sum n f) (f n)) in
    let v = times_sum (pos 1000) (s *ℤ sum n f) (s *ℤ f n) in
    let w = times_sum (s *ℤ a) (pos n) (pos 1) in
    let one = times_one (s *ℤ a) in
    let e : pos (suc n) ≡ pos n +ℤ pos 1 = omega (arith, lin) in
    let q = ap (λ z. (s *ℤ a) *ℤ z) e in
    omega (arith, lin)

-- one participant's gains up to its base point, by its injection and its cost
module _ (m : Book) (g : Grid) (p : Prices) (x : ℕ → ℕ) where
  at_low : ℕ → ℤ
  at_low i = lmp m g p i *ℤ (m.side i *ℤ pos (m.low i))

  gains_are : (i : ℕ) → m.low i ≤ x i → gains m g p i (x i) ≡ ((lmp m g p i *ℤ injection m x i) -ℤ at_low i) -ℤ (pos 1000 *ℤ (m.side i *ℤ cost m i (x i)))
  unfolding at_low
  gains_are i h =
      let a = lmp m g p i in
      let s = m.side i in
      let e = sum_split (x i - m.low i) s a (λ t. m.price i (suc (m.low i + t))) in
      let n : pos (x i - m.low i) ≡ pos (x i) -ℤ pos (m.low i) = omega (arith, ints) in
      let f = ap (λ z. (s *ℤ a) *ℤ z) n in
      let d = times_minus (s *ℤ a) (pos (x i)) (pos (m.low i)) in
      let u : (s *ℤ a) *ℤ pos (x i) ≡ a *ℤ (s *ℤ pos (x i)) = times_assoc s a (pos (x i)) ∙ times_left s a (pos (x i)) in
      let v : (s *ℤ a) *ℤ pos (m.low i) ≡ a *ℤ (s *ℤ pos (m.low i)) = times_assoc s a (pos (m.low i)) ∙ times_left s a (pos (m.low i)) in
      omega (arith, lin)

  -- what line k takes of participant i
  abbrev term : ℕ → ℕ → ℤ
  term i k = p.shadow k *ℤ (g.share k (m.bus i) *ℤ injection m x i)

  abbrev shares : ℕ → ℤ
  shares i = sum g.lines (λ k. g.share k (m.bus i) *ℤ p.shadow k)

  turned : (i k : ℕ) → injection m x i *ℤ (g.share k (m.bus i) *ℤ p.shadow k) ≡ term i k
  turned i k =
      let j = injection m x i in
      let h = g.share k (m.bus i) in
      let u = p.shadow k in
      times_left j h u ∙ ap (λ z. h *ℤ z) (*ℤ_comm j u) ∙ times_left h u j

  shared : (i : ℕ) → shares i *ℤ injection m x i ≡ sum g.lines (term i)
  shared i =
      *ℤ_comm (shares i) (injection m x i)
      ∙ sym (sum_times g.lines (injection m x i) (λ k. g.share k (m.bus i) *ℤ p.shadow k))
      ∙ sum_same g.lines (λ k. injection m x i *ℤ (g.share k (m.bus i) *ℤ p.shadow k)) (term i) (λ k _. turned i k)

  module _ (near : (i : ℕ) → m.bus i ≤ 63) where
    by_line : (k : ℕ) → sum m.count (λ i. term i k) ≡ p.shadow k *ℤ dispatch_flow m g x k
    by_line k =
        sum_times m.count (p.shadow k) (λ i. g.share k (m.bus i) *ℤ injection m x i)
        ∙ ap (λ z. p.shadow k *ℤ z) (sym (flows_agree m g x k near))

    exchanged : sum m.count (λ i. shares i *ℤ injection m x i) ≡ sum g.lines (λ k. p.shadow k *ℤ dispatch_flow m g x k)
    exchanged =
        sum_same m.count (λ i. shares i *ℤ injection m x i) (λ i. sum g.lines (term i)) (λ i _. shared i)
        ∙ sum_swap m.count g.lines term
        ∙ sum_same g.lines (λ k. sum m.count (λ i. term i k)) (λ k. p.shadow k *ℤ dispatch_flow m g x k) (λ k _. by_line k)

    -- prices times injections, over participants and over lines
    priced_sum : sum m.count (λ i. lmp m g p i *ℤ injection m x i) ≡ ((pos 1000 *ℤ p.system) *ℤ balance m x) -ℤ sum g.lines (λ k. p.shadow k *ℤ dispatch_flow m g x k)
    priced_sum =
        let y = pos 1000 *ℤ p.system in
        let a = sum_same m.count (λ i. lmp m g p i *ℤ injection m x i) (λ i. (y *ℤ injection m x i) -ℤ (shares i *ℤ injection m x i)) (λ i _. minus_times y (shares i) (injection m x i)) in
        let b = sum_minus m.count (λ i. y *ℤ injection m x i) (λ i. shares i *ℤ injection m x i) in
        let c = sum_times m.count y (injection m x) in
        let d = exchanged in
        omega (arith, lin)

-- slack is room less flow, where lines that are not observed have no price
slack_is : (m : Book) (g : Grid) (s : Step) (p : Prices) (x : ℕ → ℕ) → Fair g s p → (k : ℕ) → k < g.lines → slack m g s p x k ≡ cond (s.observed k) (p.shadow k *ℤ room s k) (pos 0) -ℤ (p.shadow k *ℤ dispatch_flow m g x k)
slack_is m g s p x fair k h = by_test (s.observed k) (fair.unobserved k h)
  where
    by_test : (b : Bool) → (b ≡ false → p.shadow k ≡ pos 0) → cond b (p.shadow k *ℤ (room s k -ℤ dispatch_flow m g x k)) (pos 0) ≡ cond b (p.shadow k *ℤ room s k) (pos 0) -ℤ (p.shadow k *ℤ dispatch_flow m g x k)
    by_test true z = times_minus (p.shadow k) (room s k) (dispatch_flow m g x k)
    by_test false z =
        let e = ap (λ u. u *ℤ dispatch_flow m g x k) (z refl) ∙ zero-*ℤ (dispatch_flow m g x k) in
        omega (arith, lin)

-- the number that does not mention the dispatch
pub dual : Book → Grid → Step → Prices → ℤ
dual m g s p =
    ((sum m.count (best_gains m g p) +ℤ sum m.count (λ i. lmp m g p i *ℤ (m.side i *ℤ pos (m.low i))))
    -ℤ ((pos 1000 *ℤ p.system) *ℤ due m s)) +ℤ sum g.lines (λ k. cond (s.observed k) (p.shadow k *ℤ room s k) (pos 0))

pub gap_is : (m : Book) (g : Grid) (s : Step) (p : Prices) (x : ℕ → ℕ) → Books.Lawful m → Fair g s p → Feasible m g s x → gap m g s p x +ℤ (pos 1000 *ℤ worth m x) ≡ dual m g s p
unfolding dual at_low
gap_is m g s p x law fair ok =
    let n = m.count in
    let costs : ℕ → ℤ = λ i. m.side i *ℤ cost m i (x i) in
    let priced : ℕ → ℤ = λ i. lmp m g p i *ℤ injection m x i in
    let lows : ℕ → ℤ = λ i. lmp m g p i *ℤ (m.side i *ℤ pos (m.low i)) in
    let a = sum_minus n (best_gains m g p) (λ i. gains m g p i (x i)) in
    let b = sum_same n (λ i. gains m g p i (x i)) (λ i. (priced i -ℤ lows i) -ℤ (pos 1000 *ℤ costs i)) (λ i h. gains_are m g p x i (ok.low i h)) in
    let c = sum_minus n (λ i. priced i -ℤ lows i) (λ i. pos 1000 *ℤ costs i) in
    let d = sum_minus n priced lows in
    let e = sum_times n (pos 1000) costs in
    let f = priced_sum m g p x law.buses in
    let w = sum_neg n costs in
    let h = ap (λ z. pos 1000 *ℤ z) w ∙ times_neg (pos 1000) (sum n costs) in
    let bal = ap (λ z. (pos 1000 *ℤ p.system) *ℤ z) ok.balanced in
    let t = sum_same g.lines (slack m g s p x) (λ k. cond (s.observed k) (p.shadow k *ℤ room s k) (pos 0) -ℤ (p.shadow k *ℤ dispatch_flow m g x k)) (λ k l. slack_is m g s p x fair k l) in
    let u = sum_minus g.lines (λ k. cond (s.observed k) (p.shadow k *ℤ room s k) (pos 0)) (λ k. p.shadow k *ℤ dispatch_flow m g x k) in
    omega (arith, lin)
