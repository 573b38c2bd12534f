use Rattle.std.proofs.Common.{ap, ◌∙◌, w64}
use Rattle.std.proofs.lemmas.Int.{to_z-of_z}
use Rattle.dispatch.specs.Base.{base_of}
use Rattle.market.specs.Market.{worth}
use Rattle.run.proofs.Stays.{still_both}
use Rattle.run.proofs.run.Run.bounded_worth.Goals as goal

pub returns : goal.returns
returns g c =
    record {
      value = to_z-of_z w64 c.worth-worth.result (record { sfits = c.worth-worth.type_inv }) ∙ c.worth-worth.ensures.value ∙ ap (λ b. worth b (base_of c.args.dispatch.now)) c.bound_by.ensures.bounded;
      still = still_both c.bound_by.ensures.still c.unbound.ensures.still;
    }
