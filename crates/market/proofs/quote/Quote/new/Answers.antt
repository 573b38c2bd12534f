use Rattle.std.proofs.Common.{◌≡◌, ℕ, ◌≤◌, true, List, ap, sym, get_or, slice_index, arith, rules}
use Rattle.std.proofs.lemmas.Int.{ints}
use Rattle.dispatch.proofs.Reach.{whole, all_within}
use Rattle.market.specs.Quoted.{payable}
use Rattle.market.proofs.quote.Quote.new.Goals as goal

payable_each : (us : List ℕ) → payable us ≡ true → (k : ℕ) → get_or us k 0 ≤ 1000000
unfolding payable
payable_each us e k = all_within 1000000 us e k

pub invariant_of-result : goal.invariant_of-result
invariant_of-result c =
    let shadow = c.args.shadow.now in
    rw (whole 32 shadow c.new-prices.ensures.none c.append.ensures.list (omega arith))
    (record {
      least = omega (arith, ints);
      most = omega (arith, ints);
      shadows = payable_each shadow (sym c.if-not-all_payable.ensures);
    })

pub returns : goal.returns
returns c =
    let shadow = c.args.shadow.now in
    (search rules, search rules, λ k. ap (λ us. slice_index us k) (whole 32 shadow c.new-prices.ensures.none c.append.ensures.list (omega arith)))
