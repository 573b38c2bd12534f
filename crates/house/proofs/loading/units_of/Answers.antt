use Rattle.std.proofs.Common.{◌≡◌, ◌<◌, ◌≢◌, length, get_or, sym, ap, ◌∙◌, subst, slice_set, arith, below_more}
use Rattle.std.proofs.lemmas.List.{length-set, get_or-set_same, get_or-set_other}
use Rattle.house.specs.House.{blank, nobody}
use Rattle.house.specs.Unit.{Stands}
use Rattle.house.proofs.loading.units_of.Goals as goal

pub loop-row-preserved : goal.loop-row-preserved
loop-row-preserved c =
    let i = c.loop-row.row-index in
    let us = c.loop-row.units.items in
    let w = c.args.offer_cap.cents in
    let at = c.loop-row.invariant.0 in
    let table : c.push.new.self.items ≡ slice_set us i c.in_ok-of.field-0 = c.push.ensures.table (omega arith) ∙ ap (λ n. slice_set us n c.in_ok-of.field-0) at in (
      omega (arith, c.push.ensures.count),
      ap length table ∙ length-set us i _ ∙ c.loop-row.invariant.1,
      rw table (below_more _ _
          (λ k h. let ne : k ≢ i = omega arith in
          subst (Stands w (get_or c.args.rows.now k blank)) (sym (get_or-set_other us i k _ nobody ne)) (c.loop-row.invariant.2 k h))
          (let lt : i < length us = omega (arith, c.loop-row.invariant.1, c.requires.few) in
          subst (Stands w (get_or c.args.rows.now i blank)) (sym (get_or-set_same us i _ nobody lt)) c.in_ok-of.ensures)),
    )
