use Rattle.std.proofs.Common.{rules}
use Rattle.words.specs.Next.{More}
use Rattle.words.proofs.line.Words.end.Goals as goal

pub returns-in-Some : goal.returns-in-Some
unfolding More
returns-in-Some c = search rules
