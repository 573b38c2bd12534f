use Rattle.std.proofs.Common.{◌≡◌, ℕ, ◌+◌, ◌<◌, false, List, length, get_or, drop, pos, Some, None, sym, ap, ◌∙◌, arith}
use Rattle.std.proofs.lemmas.List.{at_drop_more, at_drop_all}
use Rattle.std.proofs.lemmas.Result.{err_from_is_err_and}
use Rattle.bounded.specs.Mitigation.{Layer, Terms}
use Rattle.bounded.specs.Tabled.{terms_of, layer_of, with_term}
use Rattle.fault.specs.First.{or_else}
use Rattle.fault.specs.declared.cause.Fault.{Fault}
use Rattle.calls.specs.declared.call.ParticipantTerm.{ParticipantTerm}
use Rattle.curves.specs.Terms.{asked, declined, first_declined, termed}
use Rattle.curves.proofs.mitigation.set_terms.Goals as goal

abbrev none : ParticipantTerm
none = record { participant = 0; floor = pos 0; ceiling = pos 0; adder = 0; subject = false }

declined_ahead : (n : ℕ) (ts : List ParticipantTerm) (i : ℕ) → i < length ts → first_declined n (drop i ts) ≡ or_else (declined n (get_or ts i none)) (first_declined n (drop (i + 1) ts))
unfolding first_declined
declined_ahead n ts i h = at_drop_more (first_declined n) ts i none h

termed_ahead : (l : Layer) (ts : List ParticipantTerm) (i : ℕ) → i < length ts → termed l (drop i ts) ≡ termed (with_term l (get_or ts i none).participant (asked (get_or ts i none))) (drop (i + 1) ts)
unfolding termed
termed_ahead l ts i h = at_drop_more (termed l) ts i none h

-- a line that is declined decides, and past any other line the rest does
stops : (n : ℕ) (ts : List ParticipantTerm) (i : ℕ) (f : Fault) → i < length ts → declined n (get_or ts i none) ≡ Some f → first_declined n (drop i ts) ≡ Some f
stops n ts i f h e = declined_ahead n ts i h ∙ ap (λ o. or_else o (first_declined n (drop (i + 1) ts))) e

passes : (n : ℕ) (ts : List ParticipantTerm) (i : ℕ) → i < length ts → declined n (get_or ts i none) ≡ None → first_declined n (drop i ts) ≡ first_declined n (drop (i + 1) ts)
passes n ts i h e = declined_ahead n ts i h ∙ ap (λ o. or_else o (first_declined n (drop (i + 1) ts))) e

-- a term that was set is that of its line
sets : (l m : Layer) (t : Terms) (ts : List ParticipantTerm) (i : ℕ) → i < length ts → t ≡ asked (get_or ts i none) → m ≡ with_term l (get_or ts i none).participant t → termed l (drop i ts) ≡ termed m (drop (i + 1) ts)
sets l m t ts i h e f =
    termed_ahead l ts i h
    ∙ ap (λ x. termed x (drop (i + 1) ts)) (ap (with_term l (get_or ts i none).participant) (sym e) ∙ sym f)

pub returns-in_err-term : goal.returns-in_err-term
returns-in_err-term g c =
    let p = err_from_is_err_and c.from_residual.result c.from_residual.ensures.1 in
    record {
      same = c.loop-line.invariant.0;
      set = rw (p.1, p.2)
          (c.loop-line.invariant.1 ∙ stops c.args.count c.args.terms.now c.loop-line.line-index _ (omega arith) c.in_err-term.ensures);
    }

pub loop-line-preserved : goal.loop-line-preserved
loop-line-preserved g c =
    let e = c.in_ok-term.ensures in (
      c.set_term.ensures.same ∙ c.loop-line.invariant.0,
      c.loop-line.invariant.1 ∙ passes c.args.count c.args.terms.now c.loop-line.line-index (omega arith) e.0,
      c.loop-line.invariant.2
          ∙ sets (layer_of c.loop-line.book.table) (layer_of c.set_term.new.self.table) (terms_of c.in_ok-term.term) c.args.terms.now c.loop-line.line-index (omega arith) e.1 c.set_term.ensures.layer,
    )

pub returns : goal.returns
unfolding first_declined termed
returns g c = record {
  same = c.loop-line.invariant.0;
  set = (
    c.loop-line.invariant.1 ∙ at_drop_all (first_declined c.args.count) c.args.terms.now c.loop-line.line-index (omega arith),
    sym (c.loop-line.invariant.2 ∙ at_drop_all (termed (layer_of c.loop-line.book.table)) c.args.terms.now c.loop-line.line-index (omega arith)),
  );
}
