use Rattle.std.proofs.Common.{rules}
use Rattle.words.specs.Next.{left}
use Rattle.entries.specs.Priced.{IsBlock}
use Rattle.entries.proofs.Taken.{reads_one, counted_as}
use Rattle.entries.proofs.blocks.read_block_row.Goals as goal

pub returns : goal.returns
returns c = (
  left c.word.new.self,
  reads_one _ _ _ _ _ c.in_ok-word.ensures c.in_ok-bus.ensures,
  counted_as {n = 10} _ IsBlock (λ word x said. search (rules, said.says.met, said.shows)) _ _ c.in_ok-blocks.ensures,
)
