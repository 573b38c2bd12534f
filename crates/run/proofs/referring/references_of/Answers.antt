use Rattle.std.proofs.Common.{◌∙◌, ℕ, ℤ, ltb, cond, pos, arith, rules}
use Rattle.std.proofs.lemmas.Bool.{cond-true, lt-ltb}
use Rattle.market.specs.Quoted.{prices_of}
use Rattle.market.proofs.Filled.{filled}
use Rattle.law.specs.State.{reference}
use Rattle.run.proofs.referring.references_of.Goals as goal

pub returns : goal.returns
returns g c i there =
    let few = g.met.B.OfferBook.few c.args.book.now in
    let m = g.B.OfferBook.meaning c.args.book.now in
    let priced : ℕ → ℤ = reference m (g.N.Network.meaning c.args.network.now) (prices_of c.args.quote.now) in
    let price : ℕ → ℤ = λ k. cond (ltb k m.count) (priced k) (pos 0) in
    filled _ price _ (λ k x q r. search rules) _ 64 i (pos 0) c.from_fn.ensures.items (omega arith)
    ∙ cond-true _ _ _ (lt-ltb _ _ there)
