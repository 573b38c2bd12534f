use Rattle.std.proofs.Common.{[], ◌∷◌, Some, None, sym, refl, arith}
use Rattle.std.proofs.lemmas.List.{append-nil}
use Rattle.std.proofs.lemmas.Str.Pattern.{split_parts}
use Rattle.words.specs.Next.{Said}
use Rattle.words.proofs.line.before_comment.Goals as goal

pub returns-in-Some : goal.returns-in-Some
unfolding Said
returns-in-Some c =
    let after = c.in-Some.field-0-1.now in
    let parts = split_parts 35 c.args.line.now (Some (c.in-Some.before, c.in-Some.field-0-1)) c.in-Some.ensures.cases (omega arith) in
    (parts.1, (35 ∷ after, parts.0, λ _. refl))

pub returns-in-None : goal.returns-in-None
unfolding Said
returns-in-None c =
    let line = c.args.line.now in
    (split_parts 35 line None c.in-None.ensures.cases (omega arith), ([], sym (append-nil line), λ h. absurd (omega arith)))
