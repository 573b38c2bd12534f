-- The gap from its two sums.
use Rattle.std.proofs.Common.{◌≡◌, ℕ, cond, ℤ, pos, ◌-ℤ◌, ◌*ℤ◌, ◌≤ℤ◌, sym, ap, ◌∙◌, subst}
use Rattle.shelf.specs.Sum.{sum}
use Rattle.shelf.proofs.Sum.{sum_same}
use Rattle.book.specs.Meaning as Books
use Rattle.book.specs.Meaning.{Book}
use Rattle.network.specs.Grid.{Grid}
use Rattle.dispatch.specs.Injected.{injected}
use Rattle.market.specs.Market.{Step, Prices, room, slack, gap, worth}
use Rattle.market.proofs.Certificate.{duality, exactness}
use Rattle.feasible.proofs.Flows.{flow_same}
use Rattle.gap.specs.Certified.{Certified}
use Rattle.gap.specs.Slack.{slack_at, slack_up}

-- at the injections of a dispatch, the limits leave what they leave to the dispatch
pub slacks_agree : (m : Book) (g : Grid) (s : Step) (p : Prices) (x : ℕ → ℕ) (injections : ℕ → ℤ) → ((b : ℕ) → injections b ≡ injected m x b) → slack_up g s p injections g.lines ≡ sum g.lines (slack m g s p x)
slacks_agree m g s p x injections e =
    sum_same g.lines (slack_at g s p injections) (slack m g s p x)
    (λ k _. ap (λ f. cond (s.observed k) (p.shadow k *ℤ (room s k -ℤ f)) (pos 0))
    (flow_same m g x injections e k))

pub certified : (m : Book) (g : Grid) (s : Step) (p : Prices) (x : ℕ → ℕ) (z : ℤ) → Books.Lawful m → z ≡ gap m g s p x → Certified m g s p x z
certified m g s p x z law e =
    record {
      value = e;
      bound = λ fair good y other. subst (λ v. ((pos 1000 *ℤ worth m y) -ℤ (pos 1000 *ℤ worth m x)) ≤ℤ v) (sym e) (duality m g s p x y law fair good other);
      exact = λ fair good. let both = exactness m g s p x law fair good in ((λ none. both.0 (sym e ∙ none)), (λ settled. e ∙ both.1 settled));
    }
