use Rattle.std.proofs.Common.{◌≡◌, ℕ, ◌+◌, ℤ, pos, ◌+ℤ◌, subst, ⊎_elim, arith, rules}
use Rattle.std.proofs.lemmas.Int.{ints}
use Rattle.std.proofs.lemmas.Bool.{cases_lt}
use Rattle.book.specs.Meaning.{Book}
use Rattle.network.specs.Grid.{Grid}
use Rattle.dispatch.specs.Base.{base_of}
use Rattle.market.specs.Market.{Prices, forgone}
use Rattle.market.specs.Quoted.{prices_of}
use Rattle.market.proofs.Totals as Totals
use Rattle.feasible.specs.Checks.{Within}
use Rattle.gap.specs.Forgoing.{Part, Total}
use Rattle.gap.proofs.forgoing.forgoings.Goals as goal

starts : (m : Book) (g : Grid) (p : Prices) (x : ℕ → ℕ) → Total m g p x 0 (pos 0)
starts m g p x =
    let none = Totals.none 1360000000000000 (forgone m g p x) in
    record { within = λ i h. absurd (omega arith); value = none.value; least = none.least; most = none.most }

-- one participant more
grows : (m : Book) (g : Grid) (p : Prices) (x : ℕ → ℕ) (n : ℕ) (t r u : ℤ) → Total m g p x n t → Part m g p x n r → u ≡ t +ℤ r → Total m g p x (n + 1) u
grows m g p x n t r u so_far part is =
    let more = Totals.more 1360000000000000 (forgone m g p x) n t r u (record { value = so_far.value; least = so_far.least; most = so_far.most }) part.value part.moderate.0 part.moderate.1 is in
    record {
      within = λ i h. ⊎_elim (λ l. so_far.within i l) (λ e. let same : n ≡ i = omega arith in subst (λ k. Within m x k) same part.within) (cases_lt i n);
      value = more.value;
      least = more.least;
      most = more.most;
    }

pub loop-participant-init : goal.loop-participant-init
loop-participant-init g c =
    starts (g.B.OfferBook.meaning c.args.book.now) (g.N.Network.meaning c.args.network.now) (prices_of c.args.quote.now) (base_of c.args.dispatch.now)

pub overflow_add-total : goal.overflow_add-total
overflow_add-total g c =
    let m = g.B.OfferBook.meaning c.args.book.now in
    let few = g.met.B.OfferBook.few c.args.book.now in
    let count = c.count-participant-end.ensures in
    let part : Part m (g.N.Network.meaning c.args.network.now) (prices_of c.args.quote.now) (base_of c.args.dispatch.now) c.loop-participant.participant c.in_ok-total.field-0 = search rules in
    let moderate = part.moderate in
    let total = c.loop-participant.invariant in
    omega (arith, ints)

pub loop-participant-preserved : goal.loop-participant-preserved
loop-participant-preserved g c =
    let m = g.B.OfferBook.meaning c.args.book.now in
    let few = g.met.B.OfferBook.few c.args.book.now in
    let count = c.count-participant-end.ensures in
    let part : Part m (g.N.Network.meaning c.args.network.now) (prices_of c.args.quote.now) (base_of c.args.dispatch.now) c.loop-participant.participant c.in_ok-total.field-0 = search rules in
    let moderate = part.moderate in
    let total = c.loop-participant.invariant in
    grows _ _ _ _ _ _ _ _ total part (omega (arith, ints))
