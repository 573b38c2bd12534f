-- The injections of a dispatch stay within the bound of a sheet, and flows by bus are flows by participant.
use Rattle.std.proofs.Common.{◌≡◌, ℕ, ◌+◌, ◌*◌, ◌≤◌, Bool, true, false, cond, eqb, ℤ, pos, negsuc, ◌+ℤ◌, ◌*ℤ◌, neg_ℤ, ◌≤ℤ◌, sym, refl, ap, ◌∙◌, ⊎_elim, add-one, arith}
use lib.IntN.{*ℤ-zero}
use Rattle.std.proofs.lemmas.Bool.{cases_lt}
use Rattle.std.proofs.lemmas.Bool.Decides.{nat_tests}
use Rattle.shelf.specs.Sum.{sum}
use Rattle.shelf.proofs.Product.{lin, times_within}
use Rattle.shelf.proofs.Sum.{sum_more, sum_same, sum_times, sum_swap, sum_pick, sum_most, sum_least}
use Rattle.book.specs.Meaning.{Book, Lawful}
use Rattle.network.specs.Grid.{Grid}
use Rattle.dispatch.specs.Injected.{injection, injection_at, injected_by, injected, dispatch_flow, participant_flow}

pub side_range : (m : Book) → Lawful m → (i : ℕ) → (negsuc 0 ≤ℤ m.side i) × (m.side i ≤ℤ pos 1)
side_range m law i =
    ⊎_elim
    (λ l. ⊎_elim (λ e. (omega (arith, lin), omega (arith, lin))) (λ e. (omega (arith, lin), omega (arith, lin))) (law.sides i l))
    (λ g. let e = law.no_side i g in (omega (arith, lin), omega (arith, lin)))
    (cases_lt i m.count)

module _ (m : Book) (law : Lawful m) (x : ℕ → ℕ) (reach : (i : ℕ) → x i ≤ 20000) where
  injection_range : (i : ℕ) → (neg_ℤ (pos 20000) ≤ℤ injection m x i) × (injection m x i ≤ℤ pos 20000)
  injection_range i =
      let s = side_range m law i in
      let r = reach i in
      times_within (m.side i) (pos (x i)) 1 20000 s.0 s.1 (omega (arith, lin)) (omega (arith, lin))

  at_range : (b i : ℕ) → (neg_ℤ (pos 20000) ≤ℤ injection_at m x b i) × (injection_at m x b i ≤ℤ pos 20000)
  at_range b i = by_test (eqb (m.bus i) b)
    where
      by_test : (t : Bool) → (neg_ℤ (pos 20000) ≤ℤ cond t (injection m x i) (pos 0)) × (cond t (injection m x i) (pos 0) ≤ℤ pos 20000)
      by_test true = injection_range i
      by_test false = (omega (arith, lin), omega (arith, lin))

  -- what n participants inject at a bus
  pub injected_range : (n b : ℕ) → (neg_ℤ (pos (n * 20000)) ≤ℤ injected_by m x n b) × (injected_by m x n b ≤ℤ pos (n * 20000))
  injected_range n b =
      (sum_least n 20000 (injection_at m x b) (λ i _. (at_range b i).0), sum_most n 20000 (injection_at m x b) (λ i _. (at_range b i).1))

times_cond : (a z : ℤ) (t : Bool) → a *ℤ cond t z (pos 0) ≡ cond t (a *ℤ z) (pos 0)
times_cond a z true = refl
times_cond a z false = *ℤ-zero a

pub flows_agree : (m : Book) (g : Grid) (x : ℕ → ℕ) (k : ℕ) → ((i : ℕ) → m.bus i ≤ 63) → dispatch_flow m g x k ≡ participant_flow m g x k
flows_agree m g x k near =
    sum_same 64 (λ b. g.share k b *ℤ injected m x b) (λ b. sum m.count (λ i. g.share k b *ℤ injection_at m x b i))
    (λ b _. sym (sum_times m.count (g.share k b) (injection_at m x b)))
    ∙ sum_swap 64 m.count (λ b i. g.share k b *ℤ injection_at m x b i)
    ∙ sum_same m.count (λ i. sum 64 (λ b. g.share k b *ℤ injection_at m x b i)) (λ i. g.share k (m.bus i) *ℤ injection m x i)
    (λ i _. sum_same 64 (λ b. g.share k b *ℤ injection_at m x b i) (λ b. cond (eqb (m.bus i) b) (g.share k b *ℤ injection m x i) (pos 0)) (λ b _. times_cond (g.share k b) (injection m x i) (eqb (m.bus i) b))
    ∙ sum_pick 64 (m.bus i) (λ b. g.share k b *ℤ injection m x i) (let h = near i in omega arith))

added : (t : Bool) (s a : ℤ) → cond t (s +ℤ a) s ≡ s +ℤ cond t a (pos 0)
added true s a = refl
added false s a = omega (arith, lin)

-- one participant more
pub injected_more : (m : Book) (x : ℕ → ℕ) (n b : ℕ) (sheet : ℤ) → sheet ≡ injected_by m x n b → cond (eqb b (m.bus n)) (sheet +ℤ injection m x n) sheet ≡ injected_by m x (n + 1) b
injected_more m x n b sheet e =
    let turn : eqb b (m.bus n) ≡ eqb (m.bus n) b = grind (arith, nat_tests) in
    added (eqb b (m.bus n)) sheet (injection m x n)
    ∙ ap (λ t. sheet +ℤ cond t (injection m x n) (pos 0)) turn
    ∙ ap (λ z. z +ℤ injection_at m x b n) e
    ∙ sym (rw add-one (sum_more n (injection_at m x b)))
