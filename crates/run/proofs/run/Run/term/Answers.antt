use Rattle.std.proofs.Common.{◌≡◌, ◌<◌, true, ℤ, None, sym, refl, ap, ◌∙◌, arith, w32, to_z, of_z, rules}
use Rattle.std.proofs.lemmas.Int.{to_z-of_z}
use Rattle.calls.specs.declared.call.Call.TheVariants.{Term}
use Rattle.bounded.specs.Mitigation.{in_range}
use Rattle.bounded.specs.Tabled.{terms_of, layer_of}
use Rattle.law.specs.After.{term_in}
use Rattle.run.specs.View.{state_of}
use Rattle.run.proofs.Answered.{accepted}
use Rattle.run.proofs.Termed.{term_accepted, terms_after}
use Rattle.run.proofs.run.Run.term.Goals as goal

pub returns : goal.returns
returns g c =
    let run = c.args.self.now in
    let q = c.args.asked in
    let m = g.B.OfferBook.meaning run.book.book in
    let n = g.N.Network.meaning run.network in
    let s = state_of run in
    let there : q.participant < m.count = search rules in
    let few : q.participant < 64 = let a = g.met.B.OfferBook.few run.book.book in omega arith in
    let floor : ℤ = to_z w32 (of_z w32 q.floor) in
    let ceiling : ℤ = to_z w32 (of_z w32 q.ceiling) in
    let f : floor ≡ q.floor = to_z-of_z w32 q.floor (search rules) in
    let k : ceiling ≡ q.ceiling = to_z-of_z w32 q.ceiling (search rules) in
    let told : (in_range floor ceiling q.adder ≡ true) × (terms_of c.in-Some.term ≡ record { floor = floor; ceiling = ceiling; adder = q.adder; subject = q.subject }) =
    c.in-Some.ensures in
    let ranged : in_range q.floor q.ceiling q.adder ≡ true =
    ap (λ z. in_range z q.ceiling q.adder) (sym f) ∙ ap (λ z. in_range floor z q.adder) (sym k) ∙ told.0 in
    let is : terms_of c.in-Some.term ≡ term_in q = told.1 ∙ (λ j. record { floor = f j; ceiling = k j; adder = q.adder; subject = q.subject }) in
    let terms = terms_after (layer_of run.book.table) (layer_of c.set_term.new.self.table) q (terms_of c.in-Some.term) few is c.set_term.ensures.layer in
    record {
      called =
          accepted m n s (Term q) _ (term_accepted m q there ranged)
          (λ j. record {
            force = record {
              requirement = s.force.requirement;
              tolerance = s.force.tolerance;
              amount = s.force.amount;
              competitive = s.force.competitive;
              terms = λ i. terms i j;
            };
            first = s.first;
            second = None;
          });
      market = record { book = c.set_term.ensures.same; network = refl };
    }
