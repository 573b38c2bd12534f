use Rattle.std.proofs.Common.{rules}
use Rattle.words.specs.Next.{Next, Spent}
use Rattle.words.proofs.line.WordsIterator.next.Goals as goal

pub returns : goal.returns
unfolding Next Spent
returns c = search rules
