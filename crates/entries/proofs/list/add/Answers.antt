use Rattle.std.proofs.Common.{◌∷◌, [], ◌∙◌, arith}
use Rattle.std.proofs.lemmas.List.{take_all, length-append, length-take}
use Rattle.given.specs.Kept.{kept}
use Rattle.entries.proofs.list.add.Goals as goal

pub returns-clause-room : goal.returns-clause-room
returns-clause-room g c =
    let list = c.args.list.now in
    (c.if-list.false, c.push.ensures.list ∙ take_all g.row.N _ (rw (length-append (kept list.count list.items) (c.args.entry ∷ []), length-take list.count list.items) (omega arith)))
