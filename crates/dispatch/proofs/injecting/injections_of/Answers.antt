use Rattle.std.proofs.Common.{◌≡◌, cond, eqb, ◌+ℤ◌, sym, ap, ◌∙◌, arith, w32, w64, SFits, to_z, of_z}
use Rattle.std.proofs.lemmas.Int.{ints, to_z-of_z}
use Rattle.shelf.proofs.Sum.{sum_none}
use Rattle.network.specs.Sheet.{sheet_of}
use Rattle.dispatch.specs.Base.{base_of}
use Rattle.dispatch.specs.Injected.{injection}
use Rattle.dispatch.proofs.Exchange.{injected_range, injected_more}
use Rattle.dispatch.proofs.injecting.injections_of.Goals as goal

pub loop-participant-init : goal.loop-participant-init
loop-participant-init g c b = c.new-sheet.ensures b ∙ sym (sum_none _)

pub add-requires : goal.add-requires
add-requires g c =
    let m = g.B.OfferBook.meaning c.args.book.now in
    let x = base_of c.args.dispatch.now in
    let n = c.loop-participant.participant in
    let range = injected_range m (g.met.B.OfferBook.lawful c.args.book.now) x c.args.dispatch.now.most n c.bus.result in
    let inv = c.loop-participant.invariant c.bus.result in
    let few = g.met.B.OfferBook.few c.args.book.now in
    let near = g.met.B.OfferBook.buses c.args.book.now n in
    let l = c.injection-amount.ensures.least in
    let h = c.injection-amount.ensures.most in
    let count = c.count-participant-end.ensures in
    let bus = c.bus.ensures in
    record { there = omega arith; least = omega (arith, ints); most = omega (arith, ints) }

pub loop-participant-preserved : goal.loop-participant-preserved
loop-participant-preserved g c b =
    let m = g.B.OfferBook.meaning c.args.book.now in
    let x = base_of c.args.dispatch.now in
    let n = c.loop-participant.participant in
    let least = c.injection-amount.ensures.least in
    let most = c.injection-amount.ensures.most in
    let r = c.injection-amount.result in
    let wide : SFits w64 r = record { sfits = c.injection-amount.type_inv } in
    let fits : SFits w32 r = omega (arith, ints) in
    let amount : to_z w32 (of_z w32 (to_z w64 (of_z w64 r))) ≡ injection m x n = rw (to_z-of_z w64 r wide, to_z-of_z w32 r fits) c.injection-amount.ensures.value in
    c.add.ensures b
    ∙ ap (λ z. cond (eqb b c.bus.result) (sheet_of c.loop-participant.sheet b +ℤ z) (sheet_of c.loop-participant.sheet b)) amount
    ∙ ap (λ k. cond (eqb b k) (sheet_of c.loop-participant.sheet b +ℤ injection m x n) (sheet_of c.loop-participant.sheet b)) c.bus.ensures
    ∙ injected_more m x n b (sheet_of c.loop-participant.sheet b) (c.loop-participant.invariant b)
