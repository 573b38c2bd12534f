use Rattle.std.proofs.Common.{◌≡◌, ℕ, ◌+◌, ◌++◌, ◌∷◌, [], length, ◌+ℤ◌, ◌*ℤ◌, pos, ℤ, sym, ◌∙◌, add-one, arith, rules, w16, w32, w64, SFits}
use Rattle.std.proofs.lemmas.Int.{ints, to_z-of_z}
use Rattle.std.proofs.lemmas.List.{length-append}
use Rattle.std.proofs.lemmas.Slice.Zip.{zip_turn}
use Rattle.shelf.specs.Sum.{sum}
use Rattle.shelf.proofs.Sum.{sum_none, sum_more}
use Rattle.network.specs.Sheet.{sheet_of}
use Rattle.network.specs.Table.{share_of}
use Rattle.network.proofs.shares.Shares.flow.Goals as goal

pub loop-share-init : goal.loop-share-init
loop-share-init c = (sym (sum_none _), omega (arith, ints), omega (arith, ints))

pub overflow_add-total : goal.overflow_add-total
overflow_add-total c =
    let turn = zip_turn c.args.self.now.at c.args.injections.now.at c.loop-share.yielded _ _ c.next.new.self _ (search rules) (search rules) c.loop-share.yielded_by _ c.in-Some.is (search rules) in
    let room = c.args.self.now.buses in
    let fits : SFits w64 c.part-total.result = record { sfits = c.part-total.type_inv } in
    let same = to_z-of_z w64 c.part-total.result fits in
    omega (arith, ints)

pub loop-share-preserved : goal.loop-share-preserved
loop-share-preserved c =
    let turn = zip_turn c.args.self.now.at c.args.injections.now.at c.loop-share.yielded _ _ c.next.new.self _ (search rules) (search rules) c.loop-share.yielded_by _ c.in-Some.is (search rules) in
    let f : ℕ → ℤ = λ b. share_of c.args.self.now b *ℤ sheet_of c.args.injections.now b in
    let n = length c.loop-share.yielded in
    let longer : length (c.loop-share.yielded ++ (c.in-Some.share, c.in-Some.injection) ∷ []) ≡ n + 1 = length-append _ _ in
    let more : sum (n + 1) f ≡ sum n f +ℤ f n = rw add-one (sum_more n f) in
    let fits : SFits w64 c.part-total.result = record { sfits = c.part-total.type_inv } in
    let same = to_z-of_z w64 c.part-total.result fits in
    let share = turn.2 (pos 0) in
    let injection = turn.3 (pos 0) in
    let least = c.args.self.now.least n in
    let most = c.args.self.now.most n in
    let lowest = c.args.injections.now.least n in
    let highest = c.args.injections.now.most n in
    let a : SFits w16 c.in-Some.share.now = omega (arith, ints) in
    let b : SFits w32 c.in-Some.injection.now = omega (arith, ints) in
    let part : c.part-total.result ≡ f n =
    c.part-total.ensures.value ∙ (rw (to_z-of_z w16 c.in-Some.share.now a, to_z-of_z w32 c.in-Some.injection.now b, share, injection)) in
    let e = c.loop-share.invariant.0 in
    let l = c.loop-share.invariant.1 in
    let h = c.loop-share.invariant.2 in
    let sum_fits = overflow_add-total c in
    rw longer (omega (arith, ints), omega (arith, ints), omega (arith, ints))
