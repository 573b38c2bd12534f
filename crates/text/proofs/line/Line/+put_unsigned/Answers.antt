use Rattle.std.proofs.Common.{◌+◌, ◌/◌, ◌%◌, [], ◌∷◌, ◌++◌, decimal, sym, ap, ◌∙◌, rules}
use Rattle.std.proofs.lemmas.Fmt.{decimal_digit, decimal_step}
use Rattle.text.specs.Lines.{text_of, kept}
use Rattle.text.proofs.Kept.{kept_both}
use Rattle.text.proofs.line.Line.+put_unsigned.Goals as goal

pub returns-then-value-lt10 : goal.returns-then-value-lt10
returns-then-value-lt10 t c = search (rules, decimal_digit)

pub returns-else-value-lt10 : goal.returns-else-value-lt10
returns-else-value-lt10 t c =
    let was = text_of c.args.self.now in
    let n = c.args.value in
    kept_both was (decimal (n / 10)) ((48 + n % 10) ∷ []) c.put_unsigned.ensures c.put-else-value-lt10.ensures
    ∙ ap (λ ds. kept (was ++ ds)) (sym (decimal_step n c.if-value-lt10.false (search rules)))
