use Rattle.std.proofs.Common.{◌≡◌, ap, subst}
use Rattle.book.specs.Meaning.{Book}
use Rattle.bounded.specs.Mitigation.{layered}
use Rattle.bounded.specs.Tabled.{layer_of}
use Rattle.feasible.specs.declared.stage.Stage.TheVariants.{Second}
use Rattle.feasible.specs.Stages.{held_to}
use Rattle.law.specs.State.{Force, step_in}
use Rattle.market.specs.Market.{Step}
use Rattle.run.specs.Judged.{Judged, JudgedIn}
use Rattle.run.specs.View.{force_of}
use Rattle.run.proofs.Stays.{still_both}
use Rattle.run.proofs.run.Run.judge_second.Goals as goal

pub returns : goal.returns
returns g c =
    let p = c.args.proposal.now in
    let r = c.judge-judged.result in
    let bounded = c.bound_by.new.self in
    let b = layered (g.B.OfferBook.meaning bounded.book.book) (layer_of bounded.book.table) in
    let n = g.N.Network.meaning c.args.self.now.network in
    let steps : Step → Type 0 = λ s. JudgedIn b (g.N.Network.meaning bounded.network) s bounded.tolerance p r in
    let networks : g.row.N.Denot → Type 0 = λ l. Judged b (g.N.Network.meaning l) (force_of bounded) Second p r in
    let forces : Force → Type 0 = λ f. Judged b n f Second p r in
    let books : Book → Type 0 = λ k. Judged k n (force_of c.args.self.now) Second p r in
    let step : held_to c.step-step.result ≡ step_in (force_of bounded) Second = c.step-step.ensures in
    let still = c.bound_by.ensures.still in
    record {
      judged = subst books c.bound_by.ensures.bounded (subst forces (ap (λ s. s.force) still.state) (subst networks still.network (subst steps step c.judge-judged.ensures)));
      still = still_both still c.unbound.ensures.still;
    }
