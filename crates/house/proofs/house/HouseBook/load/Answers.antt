use Rattle.std.proofs.Common.{get_or, subst}
use Rattle.house.specs.House.{blank, nobody}
use Rattle.house.specs.Unit.{Stands}
use Rattle.house.proofs.Booked.{means}
use Rattle.house.proofs.house.HouseBook.load.Goals as goal

pub returns : goal.returns
returns c =
    let value = c.in_ok-offer_cap.ensures.value in (
      value.1,
      means c.args.cents c.args.rows.now _ c.in_ok-units.units.items c.in_ok-units.ensures.0
          (λ i h. subst (λ w. Stands w (get_or c.args.rows.now i blank) (get_or c.in_ok-units.units.items i nobody)) value.0 (c.in_ok-units.ensures.1 i h)),
    )
