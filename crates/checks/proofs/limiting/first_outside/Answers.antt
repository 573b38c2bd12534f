use Rattle.std.proofs.Common.{◌≡◌, ℕ, Bool, true, false, rules}
use Rattle.std.proofs.lemmas.Iterator.{first_from_Range}
use Rattle.checks.specs.Causes.{outside}
use Rattle.checks.specs.Pointed.{pointed}
use Rattle.checks.proofs.First.{first_in_range}
use Rattle.checks.proofs.limiting.first_outside.Goals as goal

pub returns : goal.returns
returns g c =
    let test : ℕ → Bool = outside (g.B.OfferBook.meaning c.args.book.now) (pointed c.args.points.now) in
    first_in_range test _ _ (first_from_Range _ _ _ _ (λ k. test k ≡ true) (λ k. test k ≡ false) c.find.ensures.ran (λ k q r. search rules) (λ k q r. (search rules, search rules)))
