-- Gains along a walk.
use Rattle.std.proofs.Common.{◌≡◌, ℕ, suc, ◌+◌, ◌-◌, ◌*◌, ◌<◌, ◌≤◌, ℤ, pos, ◌+ℤ◌, ◌-ℤ◌, neg_ℤ, ◌≤ℤ◌, sym, ap, ◌∙◌, subst, arith}
use Rattle.std.proofs.lemmas.Int.{ints}
use Rattle.shelf.specs.Sum.{sum}
use Rattle.shelf.proofs.Sum.{sum_more}
use Rattle.book.specs.Meaning.{Book}
use Rattle.market.specs.Market.{gain_at, gains_up}
use Rattle.market.specs.Walks.{Walked, Descended}

-- one tenth more
pub gains_more : (m : Book) (price : ℤ) (i q : ℕ) → m.low i ≤ q → gains_up m price i (q + 1) ≡ gains_up m price i q +ℤ gain_at m price i (q + 1)
gains_more m price i q h =
    let f : ℕ → ℤ = λ t. gain_at m price i (suc (m.low i + t)) in
    let e : (q + 1) - m.low i ≡ suc (q - m.low i) = omega arith in
    let k : suc (m.low i + (q - m.low i)) ≡ q + 1 = omega arith in
    ap (λ n. sum n f) e ∙ sum_more (q - m.low i) f ∙ ap (λ n. sum (q - m.low i) f +ℤ gain_at m price i n) k

-- what n tenths of a walk, either way, have made
pub record Made (m : Book) (price : ℤ) (i from q n : ℕ) (t : ℤ) : Type 0 where
  pub gained : t ≡ gains_up m price i q -ℤ gains_up m price i from
  pub least : pos 0 ≤ℤ t
  pub most : t ≤ℤ pos (n * 34000000000)

pub walked : (m : Book) (price : ℤ) (i from q n : ℕ) (t : ℤ) → n ≤ 20000 → Made m price i from q n t → Walked m price i from q t
walked m price i from q n t few a =
    let l = a.least in
    let h = a.most in
    record { gained = a.gained; least = omega (arith, ints); most = omega (arith, ints) }

-- one tenth more makes the total greater by what it makes
module _ (m : Book) (price : ℤ) (i from q n : ℕ) (t r : ℤ) (a : Made m price i from q n t) (least : pos 0 ≤ℤ r) (most : r ≤ℤ pos 34000000000) where
  pub further : (p k : ℕ) → k ≡ n + 1 → gains_up m price i p ≡ gains_up m price i q +ℤ r → Made m price i from p k (t +ℤ r)
  further p k e u =
      let g = a.gained in
      let l = a.least in
      let h = a.most in
      record { gained = omega (arith, ints); least = omega (arith, ints); most = omega (arith, ints) }

-- what a turn of an upward walk knows
pub record Up (m : Book) (price : ℤ) (i from q : ℕ) (t : ℤ) : Type 0 where
  pub made : Made m price i from q (q - from) t
  pub start : from ≤ q
  pub end : q ≤ m.high i
  pub last : from < q → pos 0 ≤ℤ gain_at m price i q

-- what a turn of a downward walk knows
pub record Down (m : Book) (price : ℤ) (i from q : ℕ) (t : ℤ) : Type 0 where
  pub made : Made m price i from q (from - q) t
  pub start : q ≤ from
  pub end : m.low i ≤ q
  pub next : q < from → gain_at m price i (suc q) ≤ℤ pos 0

pub up_more : (m : Book) (price : ℤ) (i from q : ℕ) (t r u : ℤ) → m.low i ≤ from → m.high i ≤ 20000 → q < m.high i → Up m price i from q t → r ≡ gain_at m price i (q + 1) → pos 0 ≤ℤ r → r ≤ℤ pos 34000000000 → u ≡ t +ℤ r → Up m price i from (q + 1) u
up_more m price i from q t r u low high under a e least most is =
    let s = a.start in
    let more = gains_more m price i q (omega arith) in
    rw is
    (record {
      made = further m price i from q (q - from) t r a.made least most (q + 1) ((q + 1) - from) (omega arith) (omega (arith, ints));
      start = omega arith;
      end = omega arith;
      last = λ _. subst (λ z. pos 0 ≤ℤ z) e least;
    })

pub down_more : (m : Book) (price : ℤ) (i from q : ℕ) (t r u : ℤ) → from ≤ 20000 → m.low i < q → Down m price i from q t → r ≡ neg_ℤ (gain_at m price i (q - 1 + 1)) → pos 0 ≤ℤ r → r ≤ℤ pos 34000000000 → u ≡ t +ℤ r → Down m price i from (q - 1) u
down_more m price i from q t r u high low a e least most is =
    let s = a.start in
    let more = gains_more m price i (q - 1) (omega arith) in
    let back : q - 1 + 1 ≡ q = omega arith in
    let same : gains_up m price i (q - 1 + 1) ≡ gains_up m price i q = ap (gains_up m price i) back in
    let top : gain_at m price i (q - 1 + 1) ≤ℤ pos 0 = omega (arith, ints) in
    let n : q - 1 + 1 ≡ suc (q - 1) = omega arith in
    rw is
    (record {
      made = further m price i from q (from - q) t r a.made least most (q - 1) (from - (q - 1)) (omega arith) (omega (arith, ints));
      start = omega arith;
      end = omega arith;
      next = λ _. subst (λ k. gain_at m price i k ≤ℤ pos 0) n top;
    })

pub down_stops : (m : Book) (price : ℤ) (i from q k : ℕ) (t : ℤ) → from ≤ 20000 → Down m price i from q t → k ≡ q → pos 0 ≤ℤ gain_at m price i k → Descended m price i from k t
down_stops m price i from q k t high a e last =
    subst (λ j. Descended m price i from j t) (sym e)
    (record {
      walked = walked m price i from q (from - q) t (omega arith) a.made;
      start = a.start;
      end = a.end;
      last = λ _. subst (λ j. pos 0 ≤ℤ gain_at m price i j) e last;
      next = a.next;
    })
