use Rattle.std.proofs.Common.{refl, ap, ◌∙◌, w64, to_z, of_z}
use Rattle.std.proofs.lemmas.Int.{to_z-of_z}
use Rattle.dispatch.specs.Base.{base_of}
use Rattle.market.specs.Market.{worth}
use Rattle.feasible.specs.declared.stage.Stage.TheVariants.{First, Second}
use Rattle.run.specs.View.{state_of}
use Rattle.run.proofs.Held.{held_worth}
use Rattle.run.proofs.run.Run.worth.Goals as goal

pub returns-in-First : goal.returns-in-First
returns-in-First g c =
    let run = c.args.self.now in
    let m = g.B.OfferBook.meaning run.book.book in
    let n = g.N.Network.meaning run.network in
    let h = c.in_ok-held.held in
    let z = c.worth.result in
    record {
      value =
          held_worth m n (state_of run) c.args.stage First c.held.result h (to_z w64 (of_z w64 z)) c.held.ensures c.in_ok-held.was c.in-First.is
          (to_z-of_z w64 z (record { sfits = c.worth.type_inv }) ∙ c.worth.ensures.value ∙ ap (λ k. worth (g.B.OfferBook.meaning k) (base_of h.dispatch)) c.below.ensures);
      still = record { state = refl; book = refl; network = refl };
    }

pub returns-in-Second : goal.returns-in-Second
returns-in-Second g c =
    let run = c.args.self.now in
    let m = g.B.OfferBook.meaning run.book.book in
    let n = g.N.Network.meaning run.network in
    let h = c.in_ok-held.held in
    let z = c.second_worth.result in
    record {
      value =
          held_worth m n (state_of run) c.args.stage Second c.held.result h (to_z w64 (of_z w64 z)) c.held.ensures c.in_ok-held.was c.in-Second.is
          (to_z-of_z w64 z (record { sfits = c.second_worth.type_inv }) ∙ c.second_worth.ensures.value);
      still = c.second_worth.ensures.still;
    }
