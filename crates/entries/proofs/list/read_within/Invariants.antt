use Rattle.std.proofs.Common.{◌≡◌, ◌≤◌, List, length, Ok}
use Rattle.std.specs.Fn.{FnReturnsAt}
use Rattle.given.specs.Kept.{kept}
use Rattle.words.specs.Next.{left}
use Rattle.entries.specs.Entries.{Reads}
use Rattle.entries.proofs.list.read_within.Given as goal

-- the entries so far
abbrev pub invariant-loop-word : goal.invariant-loop-word
invariant-loop-word g l =
    (entries : List _)
    × Reads (λ word entry. FnReturnsAt g.F.Fn l.fn.read word (Ok entry)) (left l.fn.words) entries (left l.word-iterator)
    × (length entries ≤ g.row.N)
    × (l.list.count ≡ length entries)
    × (kept l.list.count l.list.items ≡ entries)
