use Rattle.std.proofs.Common.{[], ◌∷◌, ◌++◌, sym, refl, ◌∙◌, arith}
use Rattle.std.proofs.lemmas.List.{length-append, take_all}
use Rattle.std.proofs.lemmas.Result.{err_from_is_err_and}
use Rattle.given.proofs.Lists.{taken_then}
use Rattle.entries.specs.Entries.{Lists}
use Rattle.entries.proofs.Taken.{reads_none, reads_more}
use Rattle.entries.proofs.list.read_counted.Goals as goal

pub loop-word-init : goal.loop-word-init
loop-word-init g c =
    rw (c.into_iter-word-iterator.ensures.into_iter_gives) ([], reads_none _ _, c.new-list.ensures.count, c.new-list.ensures.none ∙ sym (take_all g.row.N [] (omega arith)))

pub loop-word-preserved : goal.loop-word-preserved
loop-word-preserved g c =
    let (entries, reads, count, table) = c.loop-word.invariant in
    let entry = c.in_ok-read.field-0 in (
      entries ++ entry ∷ [],
      reads_more _ _ entries _ c.in-Some.word.now _ entry reads c.in-Some.ensures.steps (record { shown = c.in-Some.word; shows = refl; says = record { met = c.in_ok-read.ensures } }),
      rw (length-append entries (entry ∷ [])) (omega (arith, count, c.push.ensures.count)),
      taken_then g.row.N entries (entry ∷ []) table c.push.ensures.list,
    )

pub returns : goal.returns
unfolding Lists
returns g c =
    let (entries, reads, count, table) = c.loop-word.invariant in
    (entries, (_, reads, c.in-None.ensures.steps), count, table)

pub returns-in_err-read : goal.returns-in_err-read
returns-in_err-read g c =
    let p = err_from_is_err_and c.from_residual.result c.from_residual.ensures.1 in
    rw (p.1, p.2) (c.in-Some.word.now, record { shown = c.in-Some.word; shows = refl; says = record { met = c.in_err-read.ensures } })
