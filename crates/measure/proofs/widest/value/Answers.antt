use Rattle.std.proofs.Common.{◌≡◌, ap, ◌∙◌, w64}
use Rattle.std.proofs.lemmas.Int.{to_z-of_z}
use Rattle.dispatch.specs.Base.{base_of}
use Rattle.market.specs.Market.{worth}
use Rattle.measure.specs.Answers.{wide_book, based}
use Rattle.measure.proofs.widest.value.Goals as goal

pub returns : goal.returns
returns c =
    let x : base_of c.in_ok-dispatch.dispatch ≡ based c.args.base.now = λ j. λ i. c.in_ok-dispatch.ensures.1 i j in
    to_z-of_z w64 c.worth.result (record { sfits = c.worth.type_inv })
    ∙ c.worth.ensures.value
    ∙ ap (λ m. worth m (base_of c.in_ok-dispatch.dispatch)) c.in_ok-book.ensures
    ∙ ap (worth (wide_book c.args.prices.now)) x
