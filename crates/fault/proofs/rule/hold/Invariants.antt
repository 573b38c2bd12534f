use Rattle.std.proofs.Common.{◌≡◌, drop}
use Rattle.fault.specs.Rules.{first_broken}
use Rattle.fault.proofs.rule.hold.Given as goal

-- what is left decides
abbrev pub invariant-loop-place : goal.invariant-loop-place
invariant-loop-place g l =
    first_broken (g.R.Rule.broken l.rule) (g.R.Rule.named l.rule) 0 l.rows
    ≡ first_broken (g.R.Rule.broken l.rule) (g.R.Rule.named l.rule) l.place (drop l.place l.rows)
