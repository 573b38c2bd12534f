use Rattle.std.proofs.Common.{inl, inr, rules}
use Rattle.std.proofs.lemmas.Result.{MatchResult-weaker}
use Rattle.entries.specs.Numbers.{IsPrice}
use Rattle.entries.proofs.Taken.{within_as}
use Rattle.entries.proofs.reference.read_references.Goals as goal

pub returns : goal.returns
returns c =
    MatchResult-weaker c.read_within.result c.read_within.ensures (within_as _ IsPrice (λ word x said. search (rules, said.says.met, said.shows)) _) (λ m why. elim why [ inl h ↦ search (rules, h.1.says.met) | inr e ↦ search (rules, e) ])
