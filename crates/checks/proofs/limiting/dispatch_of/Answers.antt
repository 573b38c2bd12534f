use Rattle.std.proofs.Common.{◌≡◌, ◌≤◌, length, None, sym, ◌∙◌, arith, rules}
use Rattle.std.proofs.lemmas.Bool.{true≢false, and_from, le-leb}
use Rattle.checks.specs.Causes.{outside}
use Rattle.feasible.specs.First.{first_place}
use Rattle.checks.specs.Pointed.{pointed}
use Rattle.checks.proofs.Listed.{none_outside}
use Rattle.checks.proofs.limiting.dispatch_of.Goals as goal

-- a book's limits are at most 20,000, and it has at most 64 participants
pub unreachable-requires : goal.unreachable-requires
unreachable-requires g c =
    let book = c.args.book.now in
    let points = c.args.points.now in
    let m = g.B.OfferBook.meaning book in
    let few = g.met.B.OfferBook.few book in
    let l : length points ≤ 64 = omega arith in
    let none : first_place (outside m (pointed points)) (length points) ≡ None = search rules in
    let h = none_outside m points (g.met.B.OfferBook.highest book) none in
    true≢false (sym (and_from _ _ (le-leb _ _ l) h) ∙ c.in-None.ensures)
