use Rattle.std.proofs.Common.{◌∙◌}
use Rattle.fault.proofs.Written.{written_is, written_bytes_are}
use Rattle.fault.proofs.cause.Fault.write_line.Goals as goal

pub returns : goal.returns
returns c =
    let h = simp c.told.ensures at c.copy_to.ensures in
    record { value = c.ok_or.ensures.value ∙ simp (h.value, c.new.ensures) (written_is _ _); after = h.after ∙ written_bytes_are _ _ }
