use Rattle.std.proofs.Common.{None, sym, refl, ap, ◌∙◌, w64}
use Rattle.std.proofs.lemmas.Int.{to_z-of_z}
use Rattle.std.specs.Option.{option_map}
use Rattle.bounded.specs.Layered.{layered_plain}
use Rattle.dispatch.specs.Base.{base_of}
use Rattle.market.specs.Market.{worth}
use Rattle.feasible.specs.declared.stage.Stage.TheVariants.{Second}
use Rattle.checks.specs.Proposed.{held_of}
use Rattle.law.specs.State.{layer_in, priced_book}
use Rattle.run.specs.View.{force_of}
use Rattle.run.proofs.run.Run.second_worth.Goals as goal

pub returns-in-Some : goal.returns-in-Some
returns-in-Some g c =
    let run = c.args.self.now in
    let m = g.B.OfferBook.meaning run.book.book in
    let n = g.N.Network.meaning run.network in
    let x = base_of c.args.dispatch.now in
    record {
      value =
          to_z-of_z w64 c.bounded_worth.result (record { sfits = c.bounded_worth.type_inv }) ∙ c.bounded_worth.ensures.value
          ∙ sym (ap (λ o. worth (priced_book m n (force_of run) (option_map held_of o) Second) x) c.in-Some.is);
      still = c.bounded_worth.ensures.still;
    }

pub returns-in-None : goal.returns-in-None
returns-in-None g c =
    let run = c.args.self.now in
    let m = g.B.OfferBook.meaning run.book.book in
    let n = g.N.Network.meaning run.network in
    let x = base_of c.args.dispatch.now in
    record {
      value =
          to_z-of_z w64 c.worth.result (record { sfits = c.worth.type_inv }) ∙ c.worth.ensures.value
          ∙ ap (λ k. worth (g.B.OfferBook.meaning k) x) c.below.ensures
          ∙ ap (λ b. worth b x) (sym (layered_plain m (layer_in m n (force_of run) None) refl))
          ∙ sym (ap (λ o. worth (priced_book m n (force_of run) (option_map held_of o) Second) x) c.in-None.is);
      still = record { state = refl; book = refl; network = refl };
    }
