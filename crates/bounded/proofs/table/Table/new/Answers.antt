use Rattle.std.proofs.Common.{false, pos, refl}
use Rattle.shelf.proofs.Lists.{throughout}
use Rattle.bounded.specs.Tabled.{terms_of, fresh_term}
use Rattle.bounded.proofs.table.Table.new.Goals as goal

pub returns : goal.returns
returns c = λ j.
    record {
      terms = λ i. throughout terms_of 64 i c.fresh.result fresh_term c.fresh.ensures j;
      reference = λ i. throughout (λ z. z) 64 i (pos 0) (pos 0) refl j;
      referenced = false;
    }
