use Rattle.std.proofs.Common.{rules}
use Rattle.std.proofs.lemmas.Result.{MatchResult-weaker}
use Rattle.entries.specs.Numbers.{Holds}
use Rattle.entries.proofs.Taken.{counted_as}
use Rattle.entries.proofs.base.read_base.Goals as goal

pub returns : goal.returns
returns c =
    MatchResult-weaker c.read_counted.result c.read_counted.ensures (counted_as {n = 64} _ (Holds 65535) (λ word x said. search (rules, said.says.met, said.shows)) _) (λ m (word, said). search (rules, said.says.met))
