use Rattle.std.proofs.Common.{◌≡◌, ℕ, ◌≤◌, ◌≤ℤ◌, is_err, Ok, sym, ap, ◌∙◌, subst}
use Rattle.std.proofs.lemmas.Bool.{true≢false}
use Rattle.book.specs.Meaning.{least_price, most_price}
use Rattle.book.specs.Sides.{sign_of}
use Rattle.curve.specs.Complete.{Sound, price_on, row_price}
use Rattle.rows.specs.Classes.{class_of}
use Rattle.rows.specs.declared.rule.Rule.TheVariants.{Letter}
use Rattle.house.specs.Unit.{side_of}
use Rattle.house.proofs.Owed.{unit_limits, unit_bus, unit_reading, unit_unread, unit_moves}
use Rattle.house.proofs.unit.Unit.of.Goals as goal

pub returns-in_err-class : goal.returns-in_err-class
returns-in_err-class c = absurd (true≢false (ap is_err c.in_err-class.ensures ∙ c.requires Letter))

module _ (c : goal.After-side_of) where
  class_is : class_of c.args.row.now.letter ≡ Ok c.in_ok-class.class
  class_is = sym c.in_ok-class.ensures

  side_is : sign_of c.side_of.result ≡ side_of c.in_ok-class.class
  side_is = c.side_of.ensures

  prices : (q : ℕ) → price_on c.in_ok-curve.curve q ≡ row_price c.args.offer_cap.cents c.args.row.now q
  prices = c.in_ok-curve.ensures.prices

  lawful : Sound c.args.offer_cap.cents c.args.row.now
  lawful = c.in_ok-curve.ensures.sound c.requires

  limits : (c.args.row.now.ldl ≤ c.args.row.now.hdl) × (c.args.row.now.hdl ≤ 20000)
  limits = unit_limits c.args.offer_cap.cents c.args.row.now c.requires

pub invariant_of-result : goal.invariant_of-result
invariant_of-result c =
    record {
      there = unit_bus c.args.offer_cap.cents c.args.row.now c.requires;
      limits = (limits c).0;
      highest = (limits c).1;
      readings = subst (λ n. n ≤ 20000) (sym c.reading_of-reading.ensures) (unit_reading c.args.offer_cap.cents c.args.row.now c.requires);
      unread = λ g. c.reading_of-reading.ensures ∙ unit_unread c.args.offer_cap.cents c.args.row.now _ (class_is c) (sym (side_is c) ∙ g);
      least = λ q. subst (λ x. least_price ≤ℤ x) (sym (prices c q)) ((lawful c).least q);
      most = λ q. subst (λ x. x ≤ℤ most_price) (sym (prices c q)) ((lawful c).most q);
      moves = λ p q h. rw (side_is c, prices c p, prices c q) (unit_moves c.args.offer_cap.cents c.args.row.now _ (class_is c) (lawful c) p q h);
    }
