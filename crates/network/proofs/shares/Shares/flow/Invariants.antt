use Rattle.std.proofs.Common.{◌≡◌, ◌*◌, length, pos, neg_ℤ, ◌≤ℤ◌}
use Rattle.network.specs.Sheet.{sheet_of}
use Rattle.network.specs.Table.{line_flow}
use Rattle.network.proofs.shares.Shares.flow.Given as goal

abbrev pub invariant-loop-share : goal.invariant-loop-share
invariant-loop-share l =
    (l.total ≡ line_flow l.self (sheet_of l.injections) (length l.yielded))
    × (neg_ℤ (pos (length l.yielded * 70368744177664)) ≤ℤ l.total) × (l.total ≤ℤ pos (length l.yielded * 70368744177664))
