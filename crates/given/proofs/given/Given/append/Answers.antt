use Rattle.std.proofs.Common.{rules, [], ◌∷◌, get_or, take, arith}
use Rattle.std.proofs.lemmas.List.{append-nil, take_more, take_all}
use Rattle.given.specs.Kept.{kept}
use Rattle.given.proofs.Lists.{taken_both}
use Rattle.given.proofs.given.Given.append.Goals as goal

pub loop-item-init : goal.loop-item-init
loop-item-init g c = search (rules, append-nil, take_all)

pub loop-item-preserved : goal.loop-item-preserved
loop-item-preserved g c =
    let items = c.args.items.now in
    let i = c.loop-item.item-index in
    let was = kept c.args.self.now.count c.args.self.now.items in (
      omega (arith, c.push.ensures.count, c.loop-item.invariant.0),
      rw (take_more items i c.item-item.result c.loop-item-test.true)
          (taken_both g.row.N was (take i items) (get_or items i c.item-item.result ∷ []) c.loop-item.invariant.1 (search rules)),
    )

pub returns-clause-count : goal.returns-clause-count
returns-clause-count g c = search (rules, take_all)

pub returns-clause-list : goal.returns-clause-list
returns-clause-list g c = search (rules, take_all)
