use Rattle.std.proofs.Common.{Some, arith, rules}
use Rattle.std.proofs.lemmas.Str.Pattern.{split_parts}
use Rattle.entries.specs.Priced.{IsPriced}
use Rattle.entries.proofs.priced.read_priced.Goals as goal

pub returns : goal.returns
unfolding IsPriced
returns c =
    let parts = split_parts 58 c.args.word.now (Some (c.in-Some.number, c.in-Some.price)) c.in-Some.ensures.cases (omega arith) in
    (c.in-Some.number.now, c.in-Some.price.now, parts, c.in_ok-read_field.ensures, search rules)
