use Rattle.std.proofs.Common.{◌≡◌, ap, ◌∙◌, arith}
use Rattle.block.specs.Blocks.{sizes, high_of}
use Rattle.block.proofs.Sound.{sound}
use Rattle.block.proofs.stack.Stack.new.Goals as goal

pub overflow_cast-high : goal.overflow_cast-high
overflow_cast-high c =
    let e : c.total-high.result ≡ high_of c.args.row.now = c.total-high.ensures ∙ ap sizes c.submitted.ensures.value in
    let h = (sound c.args.row.now c.requires).highest in
    omega arith

pub invariant_of-result : goal.invariant_of-result
invariant_of-result c =
    let s = sound c.args.row.now c.requires in
    record {
      site = s.site;
      whole = c.total-high.ensures ∙ ap sizes c.submitted.ensures.value;
      highest = s.highest;
      least = s.least;
      most = s.most;
      rises = s.rises;
    }
