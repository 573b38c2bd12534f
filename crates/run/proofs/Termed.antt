-- A term that is in range replaces the one in force.
use Rattle.std.proofs.Common.{◌≡◌, ℕ, ◌<◌, Bool, true, false, cond, ◌&&◌, eqb, ltb, None, refl, ap, ◌∙◌}
use Rattle.std.proofs.lemmas.Bool.{lt-ltb, cond-true}
use Rattle.fault.specs.First.{or_else}
use Rattle.fault.specs.declared.cause.Cause.TheVariants.{Amount}
use Rattle.calls.specs.declared.call.ParticipantTerm.{ParticipantTerm}
use Rattle.book.specs.Meaning.{Book}
use Rattle.bounded.specs.Mitigation.{Terms, Layer, in_range}
use Rattle.bounded.specs.Tabled.{with_term}
use Rattle.feasible.specs.First.{unless}
use Rattle.law.specs.After.{term_in}
use Rattle.law.specs.Declined.{term_fault}

pub term_accepted : (m : Book) (q : ParticipantTerm) → q.participant < m.count → in_range q.floor q.ceiling q.adder ≡ true → term_fault m q ≡ None
term_accepted m q there ranged =
    ap (λ o. or_else o (unless (in_range q.floor q.ceiling q.adder) Amount q.participant)) (cond-true _ _ _ (lt-ltb _ _ there)) ∙ cond-true _ _ _ ranged

picked : {X : Type 0} (b : Bool) (k : ℕ) (x y : X) → k < 64 → cond (b && ltb k 64) x y ≡ cond b x y
picked true k x y h = cond-true _ _ _ (lt-ltb k 64 h)
picked false k x y h = refl

-- the terms of the layer afterwards
pub terms_after : (l l' : Layer) (q : ParticipantTerm) (t : Terms) → q.participant < 64 → t ≡ term_in q → l' ≡ with_term l q.participant t
    → (i : ℕ) → l'.terms i ≡ cond (eqb i q.participant) (term_in q) (l.terms i)
terms_after l l' q t few is layer i =
    ap (λ z. z.terms i) layer ∙ picked (eqb i q.participant) q.participant t (l.terms i) few ∙ ap (λ z. cond (eqb i q.participant) z (l.terms i)) is
