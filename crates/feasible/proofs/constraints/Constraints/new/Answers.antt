use Rattle.std.proofs.Common.{refl}
use Rattle.shelf.proofs.Lists.{throughout}
use Rattle.feasible.specs.Stages.{fresh_limit}
use Rattle.feasible.proofs.constraints.Constraints.new.Goals as goal

pub returns : goal.returns
returns c =
    record {
      requirement = refl;
      amounts = λ k. throughout (λ l. l.amount) 32 k c.fresh.result fresh_limit c.fresh.ensures.amount;
      competitive = λ k. throughout (λ l. l.competitive) 32 k c.fresh.result fresh_limit c.fresh.ensures.competitive;
    }
