use Rattle.std.proofs.Common.{nat_lt, rules, tests}
use Rattle.std.proofs.lemmas.Iterator.{YieldsList-from_slice}
use Rattle.std.proofs.lemmas.Iterator.Search.{all_from_yields_List}
use Rattle.block.specs.Rules.{sized}
use Rattle.block.proofs.blocks.all_sized.Goals as goal

pub returns : goal.returns
unfolding sized
returns c = all_from_yields_List (λ b. nat_lt 0 b.size) _ _ _ c.all.ensures.ran (YieldsList-from_slice c.args.blocks.now cc) (λ x b q k. search (rules, tests))
