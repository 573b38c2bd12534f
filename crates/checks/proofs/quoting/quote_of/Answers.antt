use Rattle.std.proofs.Common.{◌≡◌, length, None, sym, ◌∙◌, w32, to_z, of_z, rules}
use Rattle.std.proofs.lemmas.Bool.{true≢false}
use Rattle.checks.specs.Causes.{dear}
use Rattle.feasible.specs.First.{first_place}
use Rattle.checks.proofs.Listed.{all_quotable}
use Rattle.checks.proofs.quoting.quote_of.Goals as goal

pub unreachable-requires : goal.unreachable-requires
unreachable-requires c =
    let us = c.as_slice-2.result.now in
    let none : first_place (dear us) (length us) ≡ None = search rules in
    true≢false (sym (all_quotable (to_z w32 (of_z w32 c.args.proposal.now.system)) us c.if-proposal-ltminus1000000.false c.if-proposal-gt1000000.false c.as_slice-2.ensures.few none) ∙ c.in-None.ensures)
