use Rattle.std.proofs.Common.{◌≡◌, ℕ, ◌+◌, ◌-◌, ◌<◌, ◌≤◌, cond, leb, ltb, List, [], ◌∷◌, ◌++◌, length, get_or, None, Some, Option, Bor, is_some, take, drop, pos, add-one, sym, refl, ap, subst, ◌∙◌, arith, w32, SFits, rules}
use Rattle.std.proofs.lemmas.List.{at_drop_more, at_drop_all, get_or_default, length-append, length-take, take_rest}
use Rattle.std.specs.Option.{IfSome, unwrap_or}
use Rattle.std.proofs.lemmas.Int.{to_z-of_z}
use Rattle.std.proofs.lemmas.Bool.{cond-true, cond-false, le-leb, lt-leb, ltb-true, ltb-false}
use Rattle.std.proofs.lemmas.Slice.Zip.{zip_turn, zip_end}
use Rattle.rows.specs.declared.row.Point.{Point}
use Rattle.curve.specs.Complete.{at}
use Rattle.curve.specs.Line.{between, price_past, line_price}
use Rattle.curve.proofs.line.line_price.Goals as goal

abbrev none : Point
none = at 0 (pos 0)

abbrev rest : List Point → List Point
rest ps = take (length ps - 1) (drop 1 ps)

rest_at : (ps : List Point) (k : ℕ) → 0 < length ps → get_or (rest ps) k none ≡ get_or ps (k + 1) none
rest_at [] k h = absurd (omega arith)
rest_at (a ∷ ps) k h = ap (λ qs. get_or qs k none) (take_rest (a ∷ ps) 1) ∙ rw add-one refl

-- the last point is the last of the rest, or else the first
last_is : (ps : List Point) → 0 < length ps → (o : Option (Bor Point)) (first : Bor Point) → first.now ≡ get_or ps 0 none → is_some o ≡ ltb 0 (length (rest ps)) → IfSome o (λ p. p.now ≡ get_or (rest ps) (length (rest ps) - 1) p.now) → (unwrap_or o first).now ≡ get_or ps (length (rest ps)) none
last_is ps some None first e s i =
    let z : length (rest ps) ≡ 0 = omega (arith, ltb-false 0 (length (rest ps)) (sym s)) in e ∙ rw z refl
last_is ps some (Some p) first e s i =
    let few = ltb-true 0 (length (rest ps)) (sym s) in
    let n : length (rest ps) - 1 + 1 ≡ length (rest ps) = omega (arith, few) in
    i ∙ get_or_default (rest ps) (length (rest ps) - 1) p.now none (omega (arith, few)) ∙ rest_at ps (length (rest ps) - 1) some ∙ ap (λ k. get_or ps k none) n

without : (ps : List Point) (q : ℕ) → length ps < 1 → pos 0 ≡ line_price ps q
unfolding line_price
without [] q h = refl
without (a ∷ ps) q h = absurd (omega arith)

at_first : (ps : List Point) (q : ℕ) → 0 < length ps → q ≤ (get_or ps 0 none).level → line_price ps q ≡ (get_or ps 0 none).price
unfolding line_price
at_first [] q h l = absurd (omega arith)
at_first (a ∷ ps) q h l = cond-true _ _ _ (le-leb _ _ l)

past_first : (ps : List Point) (q : ℕ) → 0 < length ps → (get_or ps 0 none).level < q → line_price ps q ≡ price_past (get_or ps 0 none) (rest ps) q
unfolding line_price
past_first [] q h l = absurd (omega arith)
past_first (a ∷ ps) q h l = cond-false _ _ _ (lt-leb _ _ l) ∙ ap (λ r. price_past a r q) (sym (take_rest (a ∷ ps) 1))

module _ (a : Point) (ps : List Point) (i q : ℕ) (h : i < length ps) where
  ahead : price_past a (drop i ps) q ≡ cond (leb q (get_or ps i none).level) (between a (get_or ps i none) q) (price_past (get_or ps i none) (drop (i + 1) ps) q)
  unfolding price_past
  ahead = at_drop_more (λ r. price_past a r q) ps i none h

  here : q ≤ (get_or ps i none).level → price_past a (drop i ps) q ≡ between a (get_or ps i none) q
  here l = ahead ∙ cond-true _ _ _ (le-leb _ _ l)

  further : (get_or ps i none).level < q → price_past a (drop i ps) q ≡ price_past (get_or ps i none) (drop (i + 1) ps) q
  further l = ahead ∙ cond-false _ _ _ (lt-leb _ _ l)

pub returns-in_default : goal.returns-in_default
returns-in_default c = without c.args.points.now c.args.level (search rules)

pub returns-then-level-from : goal.returns-then-level-from
returns-then-level-from c =
    let f : SFits w32 (get_or c.args.points.now 0 none).price = search rules in
    to_z-of_z w32 _ f ∙ sym (at_first c.args.points.now c.args.level (search rules) (subst (λ n. c.args.level ≤ n) c.from.ensures c.if-level-from.true))

pub loop-before-init : goal.loop-before-init
loop-before-init c =
    let beyond = subst (λ n. n < c.args.level) c.from.ensures c.if-level-from.false in
    (past_first c.args.points.now c.args.level (search rules) beyond, beyond)

pub returns-then-level-from-2 : goal.returns-then-level-from-2
returns-then-level-from-2 c =
    let ps = c.args.points.now in
    let k = length c.loop-before.yielded in
    let turn = zip_turn ps (rest ps) c.loop-before.yielded _ _ c.next.new.self _ (search rules) (search rules) c.loop-before.yielded_by _ c.in-Some.is (search rules) in
    let met = here (get_or ps k none) (rest ps) k c.args.level turn.1 (subst (λ n. c.args.level ≤ n) (c.from-in-loop-before.ensures ∙ ap (λ p. p.level) (turn.3 none)) c.if-level-from-2.true) in
    to_z-of_z w32 _ (record { sfits = c.price_between.type_inv }) ∙ c.price_between.ensures
    ∙ ap (λ a. between a c.in-Some.point.now c.args.level) (turn.2 none)
    ∙ ap (λ b. between (get_or ps k none) b c.args.level) (turn.3 none)
    ∙ sym (c.loop-before.invariant.0 ∙ met)

pub loop-before-preserved : goal.loop-before-preserved
loop-before-preserved c =
    let ps = c.args.points.now in
    let k = length c.loop-before.yielded in
    let turn = zip_turn ps (rest ps) c.loop-before.yielded _ _ c.next.new.self _ (search rules) (search rules) c.loop-before.yielded_by _ c.in-Some.is (search rules) in
    let some : 0 < length ps = omega (arith, turn.0) in
    let longer : length (c.loop-before.yielded ++ (c.in-Some.before, c.in-Some.point) ∷ []) ≡ k + 1 = length-append _ _ in
    let beyond : (get_or (rest ps) k none).level < c.args.level = subst (λ n. n < c.args.level) (c.from-in-loop-before.ensures ∙ ap (λ p. p.level) (turn.3 none)) c.if-level-from-2.false in
    let next = rest_at ps k some in
    rw longer (c.loop-before.invariant.0 ∙ further (get_or ps k none) (rest ps) k c.args.level turn.1 beyond ∙ ap (λ p. price_past p (drop (k + 1) (rest ps)) c.args.level) next, subst (λ p. p.level < c.args.level) next beyond)

pub returns : goal.returns
unfolding price_past
returns c =
    let ps = c.args.points.now in
    let end = zip_end ps (rest ps) c.loop-before.yielded _ _ c.next.new.self _ (search rules) (search rules) c.loop-before.yielded_by c.in-None.is (search rules) in
    let short : length (rest ps) ≤ length ps = omega (arith, length-take (length ps - 1) (drop 1 ps)) in
    let whole : length c.loop-before.yielded ≡ length (rest ps) = omega (arith, end, short) in
    let f : SFits w32 c.unwrap_or.result.now.price = search rules in
    let last = last_is ps (search rules) c.last.result _ refl c.last.ensures.item.0 c.last.ensures.item.1 in
    to_z-of_z w32 _ f ∙ ap (λ b. b.now.price) c.unwrap_or.ensures ∙ ap (λ p. p.price) last
    ∙ ap (λ k. (get_or ps k none).price) (sym whole)
    ∙ sym (c.loop-before.invariant.0 ∙ at_drop_all (λ r. price_past (get_or ps (length c.loop-before.yielded) none) r c.args.level) (rest ps) (length c.loop-before.yielded) (omega (arith, whole)))
