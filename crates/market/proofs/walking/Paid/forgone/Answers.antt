use Rattle.std.proofs.Common.{◌≡◌, ℕ, suc, ◌+◌, ◌-◌, ◌<◌, ◌≤◌, ℤ, pos, ◌+ℤ◌, ◌≤ℤ◌, sym, subst, ⊎_elim, arith}
use Rattle.std.proofs.lemmas.Int.{ints}
use Rattle.std.proofs.lemmas.Bool.{cases_lt}
use Rattle.book.specs.Meaning as Books
use Rattle.book.specs.Meaning.{Book}
use Rattle.market.specs.Market.{gain_at, forgone_at}
use Rattle.market.specs.Walks.{Climbed, Descended}
use Rattle.market.proofs.Certificate.{gains_fall}
use Rattle.market.proofs.Fronts.{front_reached}
use Rattle.market.proofs.walking.Paid.forgone.Goals as goal

-- up while the next tenth objects, then down while the last one does: nothing better is left
reaches : (m : Book) (price : ℤ) (i base top end : ℕ) (a b : ℤ) → Books.Lawful m → i < m.count → m.low i ≤ base → Climbed m price i base top a → Descended m price i top end b → a +ℤ b ≡ forgone_at m price i base
reaches m price i base top end a b law h low up down =
    let f : ℕ → ℤ = λ t. gain_at m price i (suc (m.low i + t)) in
    let floor = down.end in
    let fell = down.start in
    let roof = up.end in
    let best = front_reached (m.high i - m.low i) (end - m.low i) f (omega arith) (gains_fall m price i law h)
    (λ t e.
    let v : end ≡ suc (m.low i + t) = omega arith in
    subst (λ q. pos 0 ≤ℤ gain_at m price i q) v (down.last (omega arith)))
    (λ c.
    let v : suc end ≡ suc (m.low i + (end - m.low i)) = omega arith in
    subst (λ q. gain_at m price i q ≤ℤ pos 0) v
    (⊎_elim (λ l. down.next l)
    (λ g. let e : end ≡ top = omega arith in subst (λ q. gain_at m price i (suc q) ≤ℤ pos 0) (sym e) (up.next (omega arith)))
    (cases_lt end top))) in
    let x = up.walked.gained in
    let y = down.walked.gained in
    omega (arith, ints)

pub returns-clause-value : goal.returns-clause-value
returns-clause-value g c =
    let paid = c.args.self.now in
    let up = c.climb-top.ensures in
    let down = c.descend-saved.ensures in
    let value = reaches (g.B.OfferBook.meaning paid.book.now) paid.lmp paid.participant c.args.base c.climb-top.result.0 c.descend-saved.result.0 c.climb-top.result.1 c.descend-saved.result.1 (g.met.B.OfferBook.lawful paid.book.now) c.requires.there c.requires.base.0 up down in
    let climbed = up.walked in
    let saved = down.walked in
    omega (arith, ints)
