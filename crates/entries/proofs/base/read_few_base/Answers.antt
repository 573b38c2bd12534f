use Rattle.std.proofs.Common.{inl, inr, rules}
use Rattle.std.proofs.lemmas.Result.{MatchResult-weaker}
use Rattle.entries.specs.Numbers.{Holds}
use Rattle.entries.proofs.Taken.{within_as}
use Rattle.entries.proofs.base.read_few_base.Goals as goal

pub returns : goal.returns
returns c =
    MatchResult-weaker c.read_within.result c.read_within.ensures (within_as _ (Holds 65535) (λ word x said. search (rules, said.says.met, said.shows)) _) (λ m why. elim why [ inl h ↦ inl (search (rules, h.1.says.met)) | inr e ↦ inr e ])
