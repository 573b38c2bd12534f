use Rattle.std.proofs.Common.{◌≡◌, ℕ, ◌+◌, ◌<◌, cond, true, false, List, [], length, map, get_or, drop, ℤ, Some, ap, ◌∙◌, add-one, arith, rules}
use Rattle.std.proofs.lemmas.List.{at_drop_more, at_drop_all, take_all}
use Rattle.std.proofs.lemmas.Bool.{cond-true, cond-false}
use Rattle.fault.specs.declared.cause.Cause.TheVariants.{ShareRange}
use Rattle.network.proofs.Lines.{one_more}
use Rattle.network.specs.Table.{ranged, range_fault}
use Rattle.network.proofs.loading.table_of.Goals as goal

ahead : (rows : List (List ℤ)) (k : ℕ) → k < length rows → range_fault k (drop k rows) ≡ cond (ranged (get_or rows k [])) (range_fault (k + 1) (drop (k + 1) rows)) (Some (record { cause = ShareRange; place = k }))
unfolding range_fault
ahead rows k h = rw add-one (rw add-one at (at_drop_more (range_fault k) rows k [] h))

pub returns-in_err-ok_or : goal.returns-in_err-ok_or
returns-in_err-ok_or c =
    let out : ranged (get_or c.args.rows.now c.loop-place.place []) ≡ false = search rules in
    let fault = c.loop-place.invariant.0 ∙ ahead c.args.rows.now c.loop-place.place c.loop-place-test.true ∙ cond-false _ _ _ out in
    search rules

pub loop-place-preserved : goal.loop-place-preserved
loop-place-preserved c =
    let i = c.loop-place.place in
    let in_range : ranged (get_or c.args.rows.now i []) ≡ true = search rules in
    let here : c.in_ok-ok_or.field-0.at ≡ get_or c.args.rows.now i [] = search rules in (
      c.loop-place.invariant.0 ∙ ahead c.args.rows.now i c.loop-place-test.true ∙ cond-true _ _ _ in_range,
      omega (arith, c.push.ensures.count),
      ap (map (λ s. s.at)) c.push.ensures.list ∙ one_more c.args.rows.now _ _ i c.requires c.loop-place-test.true c.loop-place.invariant.2 here,
    )

pub returns : goal.returns
unfolding range_fault
returns c = (
  c.loop-place.invariant.0 ∙ at_drop_all (range_fault c.loop-place.place) c.args.rows.now c.loop-place.place c.loop-place-test.false,
  search rules,
  search (rules, take_all),
)
