use Rattle.std.proofs.Common.{refl, sym, ap}
use Rattle.block.specs.Blocks.{sizes}
use Rattle.block.proofs.Sound.{sound, empty_kept}
use Rattle.block.proofs.stack.Stack.nobody.Goals as goal

pub invariant_of-result : goal.invariant_of-result
unfolding sizes
invariant_of-result c =
    let none = c.new.ensures.none in
    let s = sound (record { bus = 0; blocks = c.new.result }) (empty_kept _ refl c.new.ensures.count none) in
    record { site = s.site; whole = sym (ap sizes none); highest = s.highest; least = s.least; most = s.most; rises = s.rises }
