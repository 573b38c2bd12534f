-- What stays of a run over two calls.
use Rattle.std.proofs.Common.{◌∙◌}
use Rattle.run.specs.declared.run.Run.{Run}
use Rattle.run.specs.View.{Still}

pub still_both : {B N : Type 0} {a b c : Run B N} → Still a b → Still b c → Still a c
still_both s t = record { state = t.state ∙ s.state; book = t.book ∙ s.book; network = t.network ∙ s.network }
