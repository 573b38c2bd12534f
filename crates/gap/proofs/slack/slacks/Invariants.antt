use Rattle.network.specs.Sheet.{sheet_of}
use Rattle.market.specs.Quoted.{prices_of}
use Rattle.market.proofs.Totals.{Total}
use Rattle.feasible.specs.Stages.{held_to}
use Rattle.gap.specs.Slack.{slack_at}
use Rattle.gap.proofs.slack.slacks.Given as goal

abbrev pub invariant-loop-line : goal.invariant-loop-line
invariant-loop-line g l =
    Total 82920000000000000 (slack_at (g.N.Network.meaning l.network) (held_to l.step) (prices_of l.quote) (sheet_of l.sheet)) l.line l.total
