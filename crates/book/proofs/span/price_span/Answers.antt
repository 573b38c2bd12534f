use Rattle.std.proofs.Common.{◌≡◌, ℕ, ◌+◌, ◌⊎◌, ◌≤ℤ◌, ⊎_elim, arith, rules}
use Rattle.std.proofs.lemmas.Int.{ints}
use Rattle.std.proofs.lemmas.Bool.{cases_lt}
use Rattle.book.specs.Meaning.{Book, Lawful, Priced, generator, load}
use Rattle.book.proofs.span.price_span.Goals as goal

-- a participant with a level is there
sided : (m : Book) → Lawful m → (i q : ℕ) → Priced m i q → (m.side i ≡ generator) ⊎ (m.side i ≡ load)
sided m l i q h =
    ⊎_elim (λ k. l.sides i k) (λ k. let z = l.no_high i k in absurd (omega arith)) (cases_lt i m.count)

-- from the first level to the last a generator's price rises, and a load's falls
risen : (m : Book) → Lawful m → (i q : ℕ) → (m.side i ≡ load → ⊥) → Priced m i q → (m.price i (m.low i + 1) ≤ℤ m.price i q) × (m.price i q ≤ℤ m.price i (m.high i))
risen m l i q never h =
    ⊎_elim
    (λ s. (l.rises i (m.low i + 1) q s (omega arith) (omega arith) (omega arith), l.rises i q (m.high i) s (omega arith) (omega arith) (omega arith)))
    (λ s. absurd (never s))
    (sided m l i q h)

fallen : (m : Book) → Lawful m → (i q : ℕ) → (m.side i ≡ generator → ⊥) → Priced m i q → (m.price i (m.high i) ≤ℤ m.price i q) × (m.price i q ≤ℤ m.price i (m.low i + 1))
fallen m l i q never h =
    ⊎_elim
    (λ s. absurd (never s))
    (λ s. (l.falls i q (m.high i) s (omega arith) (omega arith) (omega arith), l.falls i (m.low i + 1) q s (omega arith) (omega arith) (omega arith)))
    (sided m l i q h)

pub returns-then-is_generator : goal.returns-then-is_generator
returns-then-is_generator g c =
    let m = g.B.OfferBook.meaning c.args.book.now in
    let l = g.met.B.OfferBook.lawful c.args.book.now in
    let first : c.price-first.result ≡ m.price c.args.participant (m.low c.args.participant + 1) = cc in
    let last : c.price-last.result ≡ m.price c.args.participant (m.high c.args.participant) = cc in
    record {
      value = search rules;
      bounds = λ q h. let b = risen m l c.args.participant q (λ s. omega (arith, ints)) h in (omega (arith, ints), omega (arith, ints));
    }

pub returns-else-is_generator : goal.returns-else-is_generator
returns-else-is_generator g c =
    let m = g.B.OfferBook.meaning c.args.book.now in
    let l = g.met.B.OfferBook.lawful c.args.book.now in
    let first : c.price-first.result ≡ m.price c.args.participant (m.low c.args.participant + 1) = cc in
    let last : c.price-last.result ≡ m.price c.args.participant (m.high c.args.participant) = cc in
    record {
      value = search rules;
      bounds = λ q h. let b = fallen m l c.args.participant q (λ s. omega (arith, ints)) h in (omega (arith, ints), omega (arith, ints));
    }
