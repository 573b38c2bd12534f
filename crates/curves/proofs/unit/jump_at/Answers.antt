use Rattle.std.proofs.Common.{◌≡◌, ℕ, ◌+◌, ◌-◌, ◌<◌, Bool, true, false, ◌||◌, List, [], ◌∷◌, length, get_or, take, drop, pos, sym, ap, ◌∙◌, arith, rules}
use Rattle.std.proofs.lemmas.List.{at_drop_more, at_drop_all, take_rest}
use Rattle.rows.specs.declared.row.Point.{Point}
use Rattle.curves.specs.Bends.{jump_at, jump_past, jump_over}
use Rattle.curves.proofs.unit.jump_at.Goals as goal

abbrev none : Point
none = record { level = 0; price = pos 0 }

past_first : (at to : ℕ) (ps : List Point) → 0 < length ps → jump_at at to ps ≡ jump_past at to (get_or ps 0 none) (take (length ps - 1) (drop 1 ps))
past_first at to [] h = absurd (omega arith)
past_first at to (a ∷ ps) h = ap (λ r. jump_past at to a r) (sym (take_rest (a ∷ ps) 1))

ahead : (at to : ℕ) (a : Point) (ps : List Point) (i : ℕ) → i < length ps → jump_past at to a (drop i ps) ≡ (jump_over at to a (get_or ps i none) || jump_past at to (get_or ps i none) (drop (i + 1) ps))
unfolding jump_past
ahead at to a ps i h = at_drop_more (jump_past at to a) ps i none h

takes : (x y : Bool) → true ≡ x → (x || y) ≡ true
takes x y e = ap (λ b. b || y) (sym e)

passes : (x y : Bool) → false ≡ x → (x || y) ≡ y
passes x y e = ap (λ b. b || y) (sym e)

pub loop-point-init : goal.loop-point-init
loop-point-init c = past_first c.args.at c.args.to c.args.points.now (search rules)

pub returns-then-jump_over : goal.returns-then-jump_over
returns-then-jump_over c =
    let h = ahead c.args.at c.args.to c.loop-point.before _ c.loop-point.point-index c.loop-point-test.true in
    sym (c.loop-point.invariant ∙ h ∙ takes _ _ c.if-jump_over.ensures)

pub loop-point-preserved : goal.loop-point-preserved
loop-point-preserved c =
    let h = ahead c.args.at c.args.to c.loop-point.before _ c.loop-point.point-index c.loop-point-test.true in
    c.loop-point.invariant ∙ h ∙ passes _ _ c.if-jump_over.ensures

pub returns : goal.returns
unfolding jump_past
returns c =
    sym (c.loop-point.invariant ∙ at_drop_all (jump_past c.args.at c.args.to c.loop-point.before) _ c.loop-point.point-index c.loop-point-test.false)
