use Rattle.std.proofs.Common.{rules, refl}
use Rattle.words.specs.Next.{left}
use Rattle.entries.specs.Entries.{Reads}
use Rattle.entries.specs.Priced.{IsPoint}
use Rattle.entries.proofs.Taken.{counted_as}
use Rattle.entries.proofs.row.read_row.Goals as goal

pub returns : goal.returns
unfolding Reads
returns c = (
  c.in_ok-word.field-0.now,
  left c.word.new.self,
  left c.word-2.new.self,
  left c.word-7.new.self,
  c.in_ok-word.ensures,
  (_, _, c.in_ok-word-2.ensures, c.in_ok-bus.ensures, refl),
  (
    _,
    _,
    c.in_ok-word-3.ensures,
    c.in_ok-lsl.ensures,
    (
      _,
      _,
      c.in_ok-word-4.ensures,
      c.in_ok-ldl.ensures,
      (
        _,
        _,
        c.in_ok-word-5.ensures,
        c.in_ok-hdl.ensures,
        (
          _,
          _,
          c.in_ok-word-6.ensures,
          c.in_ok-hsl.ensures,
          (_, _, c.in_ok-word-7.ensures, c.in_ok-reading.ensures, refl),
        ),
      ),
    ),
  ),
  counted_as {n = 10} _ IsPoint (λ word x said. search (rules, said.says.met, said.shows)) _ _ c.in_ok-points.ensures,
)
