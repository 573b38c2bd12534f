use Rattle.std.proofs.Common.{rules, sym, refl}
use Rattle.words.specs.Next.{left}
use Rattle.entries.specs.Entries.{Reads}
use Rattle.entries.proofs.term.read_term.Goals as goal

pub returns : goal.returns
unfolding Reads
returns c = (
  left c.word.new.self,
  left c.word-3.new.self,
  left c.word-4.new.self,
  left c.word-5.new.self,
  (_, _, c.in_ok-word.ensures, sym c.in_ok-participant.ensures.number, refl),
  (_, _, c.in_ok-word-2.ensures, search rules, (_, _, c.in_ok-word-3.ensures, search rules, refl)),
  (_, _, c.in_ok-word-4.ensures, c.in_ok-adder.ensures, refl),
  (_, _, c.in_ok-word-5.ensures, c.in_ok-subject.ensures.said, refl),
  c.in_ok-end.ensures,
)
