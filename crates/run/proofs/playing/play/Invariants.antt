use Rattle.std.proofs.Common.{◌≡◌, reverse, take, None}
use Rattle.law.specs.Law.{leaves}
use Rattle.run.specs.Played.{answer_at}
use Rattle.run.specs.View.{state_of}
use Rattle.run.proofs.Turns.{Noted}
use Rattle.run.proofs.playing.play.Given as goal

-- the run is what the calls so far leave, and they are answered
abbrev pub invariant-loop-place : goal.invariant-loop-place
invariant-loop-place g l =
    let m = g.B.OfferBook.meaning l.initial.run.book.book in
    let n = g.N.Network.meaning l.initial.run.network in
    (l.run.book.book ≡ l.initial.run.book.book)
    × (l.run.network ≡ l.initial.run.network)
    × (state_of l.run ≡ leaves m n (reverse (take l.place l.calls)))
    × Noted None (answer_at m n l.calls) l.place l.initial.answers l.answers
