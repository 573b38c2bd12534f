use Rattle.std.proofs.Common.{◌≡◌, ℕ, Bool, true, false, rules}
use Rattle.std.proofs.lemmas.Iterator.{first_from_Range}
use Rattle.market.specs.Quoted.{prices_of}
use Rattle.feasible.specs.Stages.{held_to}
use Rattle.checks.specs.Causes.{unobserved}
use Rattle.checks.proofs.First.{first_in_range}
use Rattle.checks.proofs.observing.first_unobserved.Goals as goal

pub returns : goal.returns
returns g c =
    let test : ℕ → Bool = unobserved (held_to c.args.step.now) (prices_of c.args.quote.now) in
    rw (← c.lines.ensures)
    (first_in_range test _ _ (first_from_Range _ _ _ _ (λ k. test k ≡ true) (λ k. test k ≡ false) c.find.ensures.ran (λ k q r. search rules) (λ k q r. (search rules, search rules))))
