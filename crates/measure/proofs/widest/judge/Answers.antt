use Rattle.std.proofs.Common.{◌≡◌, true, pos, ap, ◌∙◌, w32}
use Rattle.std.proofs.lemmas.Int.{to_z-of_z}
use Rattle.dispatch.specs.Base.{base_of}
use Rattle.feasible.specs.Stages.{step_of}
use Rattle.feasible.specs.declared.stage.Stage.TheVariants.{Second}
use Rattle.house.specs.House.{meaning_of as book_of}
use Rattle.market.specs.Quoted.{prices_of}
use Rattle.network.specs.Table.{meaning_of as network_of}
use Rattle.measure.specs.Answers.{wide_step, quoted, based}
use Rattle.measure.proofs.Moved.{moved}
use Rattle.measure.proofs.widest.judge.Goals as goal

pub returns : goal.returns
returns c =
    let quote = c.in_ok-quote.quote in
    let dispatch = c.in_ok-dispatch.dispatch in
    let limits = c.new-3.ensures in
    let asked = c.in_ok-quote.ensures in
    let step : step_of c.new-3.result Second ≡ wide_step = λ j.
    record { requirement = ap pos limits.requirement j; limit = λ k. ap pos (limits.amounts k) j; observed = λ _. true } in
    let prices : prices_of quote ≡ quoted c.args.system c.args.shadow.now = λ j.
    record { system = (asked.1 ∙ to_z-of_z w32 c.args.system c.ranges.system) j; shadow = λ k. ap pos (asked.2 k) j } in
    let base : base_of dispatch ≡ based c.args.base.now = λ j. λ i. c.in_ok-dispatch.ensures.1 i j in
    moved _ _ _ _ _ (book_of c.in_ok-book.book) (network_of c.in_ok-network.network) (step_of c.new-3.result Second) (prices_of quote) (base_of dispatch) c.gap.result
    c.in_ok-book.ensures c.in_ok-network.ensures step prices base c.gap.ensures
