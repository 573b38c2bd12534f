use Rattle.std.proofs.Common.{◌≡◌, drop}
use Rattle.bounded.specs.Tabled.{layer_of}
use Rattle.curves.specs.Terms.{first_declined, termed}
use Rattle.curves.proofs.mitigation.set_terms.Given as goal

-- what is left decides
abbrev pub invariant-loop-line : goal.invariant-loop-line
invariant-loop-line g l =
    (l.book.book ≡ l.initial.book.book)
    × (first_declined l.count l.terms ≡ first_declined l.count (drop l.line-index l.terms))
    × (termed (layer_of l.initial.book.table) l.terms ≡ termed (layer_of l.book.table) (drop l.line-index l.terms))
