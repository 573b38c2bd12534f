use Rattle.std.proofs.Common.{◌≡◌, ℕ, Bool, true, false, ltb, rules}
use Rattle.std.proofs.lemmas.Iterator.{YieldsList-from_slice, IsFirst-from_position}
use borrow.Author.Tests.{tests}
use Rattle.checks.proofs.First.{first_in_list}
use Rattle.checks.proofs.quoting.first_dear.Goals as goal

pub returns : goal.returns
returns c =
    let test : ℕ → Bool = λ u. ltb 1000000 u in
    first_in_list test c.args.prices.now _ (IsFirst-from_position _ _ _ (λ u. test u ≡ true) (λ u. test u ≡ false) c.position.ensures.ran (YieldsList-from_slice c.args.prices.now cc) (λ x q k. search (rules, tests)) (λ x q k. (search rules, search (rules, tests))))
