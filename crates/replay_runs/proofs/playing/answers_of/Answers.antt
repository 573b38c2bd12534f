use Rattle.std.proofs.Common.{◌≡◌, ◌++◌, length, get_or, take, drop, None, ap, ◌∙◌, arith}
use Rattle.std.proofs.lemmas.List.{take_all, take-append-le}
use Rattle.std.proofs.lemmas.Bool.{cond-true, lt-ltb}
use Rattle.replay_runs.proofs.playing.answers_of.Goals as goal

pub returns : goal.returns
returns g c =
    let noted = c.play.new.answers in
    let count = c.in_ok-answers.answers.len in
    let same = c.play.auto.answers in
    let lent = c.as_mut_slice.ensures.len in
    let each = c.in_ok-answers.ensures.len in
    let long : length noted ≡ count = same ∙ lent in
    let rest = drop (length noted) c.in_ok-answers.answers.items in
    let all : take count (noted ++ rest) ≡ noted = take-append-le count noted rest (omega (arith, long)) ∙ take_all count noted (omega (arith, long)) in
    λ k here.
    ap (λ answers. get_or answers k None) all
    ∙ c.play.ensures.answers k (omega (arith, lent, each))
    ∙ cond-true _ _ _ (lt-ltb k (length c.args.calls.now) here)
