use Rattle.std.proofs.Common.{◌≡◌, ◌+◌, ◌<◌, length, ap, arith, rules}
use Rattle.text.specs.Lines.{text_of}
use Rattle.text.proofs.Copied.{laid_whole, laid_not}
use Rattle.text.proofs.line.Line.copy_to.Goals as goal
use Rattle.text.proofs.line.Line.copy_to.Goals.{else-at-buffer-via-then-at-buffer+else-text-buffer, else-at-buffer-via-else-at-buffer}

pub returns-then-text-buffer : goal.returns-then-text-buffer
unfolding text_of
returns-then-text-buffer c =
    let text = text_of c.args.self.now in
    let long : length c.as_slice-text.result.now ≡ length text = ap length c.as_slice-text.ensures.value in
    let same : c.copy_from_slice.new.self ≡ text = search rules in
    let p = laid_whole text c.args.buffer.now _ c.args.at _ _ long (omega arith) same (omega arith) in
    record { value = p.0; after = p.1 }

pub returns-else-at-buffer : goal.returns-else-at-buffer
unfolding text_of
returns-else-at-buffer c =
    let long : length c.as_slice-text.result.now ≡ length (text_of c.args.self.now) = ap length c.as_slice-text.ensures.value in
    let late : length c.args.buffer.now < c.args.at + length (text_of c.args.self.now) =
    elim c.else-at-buffer.branch [
      | else-at-buffer-via-then-at-buffer+else-text-buffer w ↦ omega (arith, w.if-at-buffer.true, w.if-text-buffer.false)
      | else-at-buffer-via-else-at-buffer w ↦ omega (arith, w.if-at-buffer.false)
    ] in
    let p = laid_not (text_of c.args.self.now) c.args.buffer.now c.args.at (omega arith) in
    record { value = p.0; after = p.1 }
