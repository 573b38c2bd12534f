use Rattle.std.proofs.Common.{◌≡◌, ℕ, ◌+◌, ◌<◌, List, reverse, length, get_or, take, None, Option, sym, refl, ap, ◌∙◌, subst, arith}
use Rattle.std.proofs.lemmas.List.{take_all}
use Rattle.std.proofs.lemmas.Bool.{cond-false, le-ltb}
use Rattle.fault.specs.declared.cause.Fault.{Fault}
use Rattle.calls.specs.declared.call.Call.{Call}
use Rattle.law.specs.After.{state_after}
use Rattle.law.specs.Declined.{fault_of}
use Rattle.law.specs.Law.{leaves}
use Rattle.law.specs.State.{State}
use Rattle.law.proofs.Heard.{new_leaves, call_leaves}
use Rattle.law.proofs.Lawful.{law_of_runs}
use Rattle.run.specs.Played.{answer_at, no_call}
use Rattle.run.specs.View.{state_of}
use Rattle.run.proofs.Turns.{Noted, newest_more, noted_more}
use Rattle.run.proofs.playing.play.Goals as goal

pub loop-place-init : goal.loop-place-init
loop-place-init g c =
    let m = g.B.OfferBook.meaning c.new-run.result.book.book in
    let n = g.N.Network.meaning c.new-run.result.network in
    (refl, refl, c.new-run.ensures.state ∙ sym (new_leaves m n), (refl, λ k h. sym (cond-false _ _ _ (le-ltb k 0 (omega arith)))))

pub loop-place-preserved : goal.loop-place-preserved
loop-place-preserved g c =
    let calls = c.args.calls.now in
    let i = c.loop-place.place in
    let call = get_or calls i no_call in
    let inv = c.loop-place.invariant in
    let m = g.B.OfferBook.meaning c.new-run.result.book.book in
    let n = g.N.Network.meaning c.new-run.result.network in
    let here : i < length calls = omega arith in
    let Turn : g.row.B.Denot → g.row.N.Denot → State → Type 0 = λ k l s.
    (c.fault_of.result ≡ fault_of (g.B.OfferBook.meaning k) (g.N.Network.meaning l) s call)
    × (state_of c.fault_of.new.self ≡ state_after (g.B.OfferBook.meaning k) (g.N.Network.meaning l) s call) in
    let books : g.row.B.Denot → Type 0 = λ k. Turn k c.loop-place.run.network (state_of c.loop-place.run) in
    let networks : g.row.N.Denot → Type 0 = λ l. Turn c.new-run.result.book.book l (state_of c.loop-place.run) in
    let states : State → Type 0 = λ s. Turn c.new-run.result.book.book c.new-run.result.network s in
    let turn = subst states inv.2 (subst networks inv.1 (subst books inv.0 (c.fault_of.ensures.told, c.fault_of.ensures.left))) in
    let noted : List (Option Fault) → Type 0 = λ written. Noted None (answer_at m n calls) (i + 1) c.args.answers.now written in (
      c.fault_of.ensures.market.book ∙ inv.0,
      c.fault_of.ensures.market.network ∙ inv.1,
      turn.1 ∙ sym (call_leaves m n call (reverse (take i calls))) ∙ ap (leaves m n) (sym (newest_more calls i no_call here)),
      subst noted (sym c.note.ensures) (noted_more None (answer_at m n calls) i c.args.answers.now c.loop-place.answers inv.3 c.fault_of.result turn.0),
    )

pub returns : goal.returns
returns g c =
    let calls = c.args.calls.now in
    let i = c.loop-place.place in
    let inv = c.loop-place.invariant in
    let book = c.new-run.ensures.book in
    let network = c.new-run.ensures.network in
    let all : take i calls ≡ calls = take_all i calls c.loop-place-test.false in
    let end : i ≡ length calls = omega arith in
    let Played : g.row.B.Denot → g.row.N.Denot → List Call → ℕ → Type 0 = λ k l cs j.
    (state_of c.loop-place.run ≡ leaves (g.B.OfferBook.meaning k) (g.N.Network.meaning l) (reverse cs))
    × Noted None (answer_at (g.B.OfferBook.meaning k) (g.N.Network.meaning l) calls) j c.args.answers.now c.loop-place.answers in
    let books : g.row.B.Denot → Type 0 = λ k. Played k c.new-run.result.network (take i calls) i in
    let networks : g.row.N.Denot → Type 0 = λ l. Played c.args.book l (take i calls) i in
    let lists : List Call → Type 0 = λ cs. Played c.args.book c.args.network cs i in
    let ends : ℕ → Type 0 = λ j. Played c.args.book c.args.network calls j in
    let played = subst ends end (subst lists all (subst networks network (subst books book (inv.2, inv.3)))) in
    record {
      state = played.0;
      book = inv.0 ∙ book;
      network = inv.1 ∙ network;
      answers = played.1.1;
      law = law_of_runs (g.B.OfferBook.meaning c.args.book) (g.N.Network.meaning c.args.network) (g.met.B.OfferBook.lawful c.args.book) (reverse calls);
    }
