use Rattle.text.proofs.line.Line.+put_unsigned.Given as goal

abbrev pub decreases-put-unsigned : goal.decreases-put-unsigned
decreases-put-unsigned l = l.value
