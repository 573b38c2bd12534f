use Rattle.std.proofs.Common.{◌≡◌, true, false, sym, ◌∙◌, rules}
use Rattle.std.proofs.lemmas.Bool.{cond-true, cond-false}
use Rattle.replay_runs.proofs.objecting.objecting.Goals as goal

pub returns-then-objections : goal.returns-then-objections
returns-then-objections c =
    let yes : c.args.objections.last ≡ true = search rules in
    sym (cond-true _ _ _ yes)

pub returns-then-objections-2 : goal.returns-then-objections-2
returns-then-objections-2 c =
    let no : c.args.objections.last ≡ false = search rules in
    let yes : c.args.objections.next ≡ true = search rules in
    sym (cond-false _ _ _ no ∙ cond-true _ _ _ yes)
