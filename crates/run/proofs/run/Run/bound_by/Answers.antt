use Rattle.std.proofs.Common.{◌≡◌, ℕ, ◌<◌, get_or, pos, Some, refl, ap, ◌∙◌, subst}
use Rattle.bounded.specs.Mitigation.{layered}
use Rattle.bounded.specs.Tabled.{layer_of}
use Rattle.bounded.specs.Layered.{layered_same}
use Rattle.market.specs.Quoted.{prices_of}
use Rattle.checks.specs.Proposed.{held_of}
use Rattle.law.specs.State.{layer_in, reference}
use Rattle.run.specs.View.{force_of, state_of}
use Rattle.run.proofs.run.Run.bound_by.Goals as goal

pub returns : goal.returns
returns g c =
    let run = c.args.self.now in
    let q = c.args.first.now.quote in
    let m = g.B.OfferBook.meaning run.book.book in
    let n = g.N.Network.meaning run.network in
    let set = c.refer.ensures.layer in
    let there : (i : ℕ) → i < m.count → get_or c.references_of.result i (pos 0) ≡ reference m n (prices_of q) i =
    let P : g.row.B.Denot → Type 0 = λ k. (i : ℕ) → i < (g.B.OfferBook.meaning k).count → get_or c.references_of.result i (pos 0) ≡ reference (g.B.OfferBook.meaning k) n (prices_of q) i in
    subst P c.below.ensures c.references_of.ensures in
    let bounded : layered (g.B.OfferBook.meaning c.refer.new.self.book) (layer_of c.refer.new.self.table) ≡ layered m (layer_in m n (force_of run) (Some (held_of c.args.first.now))) =
    ap (λ k. layered (g.B.OfferBook.meaning k) (layer_of c.refer.new.self.table)) c.refer.ensures.same
    ∙ layered_same m (g.met.B.OfferBook.lawful run.book.book) (layer_of c.refer.new.self.table) (layer_in m n (force_of run) (Some (held_of c.args.first.now)))
    (λ i. ap (λ l. l.terms i) set) (ap (λ l. l.referenced) set) (λ i h. ap (λ l. l.reference i) set ∙ there i h) in
    let terms = ap (λ l. l.terms) set in
    record {
      bounded = bounded;
      still = record {
        state = λ j. record {
          force = record {
            requirement = (force_of run).requirement;
            tolerance = (force_of run).tolerance;
            amount = (force_of run).amount;
            competitive = (force_of run).competitive;
            terms = terms j;
          };
          first = (state_of run).first;
          second = (state_of run).second;
        };
        book = c.refer.ensures.same;
        network = refl;
      };
    }
