use Rattle.std.proofs.Common.{◌≡◌, ℕ, sym, ap, ◌∙◌, rules}
use Rattle.rows.specs.declared.row.Row.{Row}
use Rattle.curve.specs.Complete.{Completes, completed, curve_price, price_as, price_on, row_price}
use Rattle.curve.specs.declared.curve.Curve.{Curve}
use Rattle.curve.proofs.Sound.{sound}
use Rattle.curve.proofs.curve.Curve.complete.Goals as goal

-- a curve that completes a row has the row's prices
same_prices : (w : ℕ) (r : Row) (c : Curve) → Completes w r c → (q : ℕ) → price_on c q ≡ row_price w r q
same_prices w r c k q =
    ap (λ ps. curve_price c.class c.hsl ps q) k.points_are
    ∙ ap (λ h. curve_price c.class h (completed c.class w r) q) k.hsl_is
    ∙ sym (ap (λ x. price_as x w r q) k.class_is)

pub returns : goal.returns
returns c =
    let k : Completes c.args.offer_cap.cents c.args.row.now _ = record { class_is = search rules; hsl_is = search rules; points_are = c.completed.ensures } in
    record {
      value = k;
      prices = same_prices _ _ _ k;
      sound = λ l. sound c.args.offer_cap.cents c.args.row.now c.args.offer_cap.least c.args.offer_cap.most l;
    }
