use Rattle.std.proofs.Common.{arith}
use Rattle.std.proofs.lemmas.Int.{ints}
use Rattle.network.specs.Sheet.{sheet_of}
use Rattle.gap.proofs.Flows.{flow_least, flow_most}
use Rattle.gap.proofs.slack.left.Goals as goal

pub returns : goal.returns
returns g c =
    let n = g.N.Network.meaning c.args.network.now in
    let k = c.args.line in
    let sheet = c.args.sheet.now in
    let low = flow_least n k (sheet_of sheet) (g.met.N.Network.least c.args.network.now k) (g.met.N.Network.most c.args.network.now k) sheet.least sheet.most in
    let high = flow_most n k (sheet_of sheet) (g.met.N.Network.least c.args.network.now k) (g.met.N.Network.most c.args.network.now k) sheet.least sheet.most in
    let flow = c.flow.ensures in
    let room = c.room.ensures in
    record { value = omega (arith, ints); least = omega (arith, ints); most = omega (arith, ints) }

pub overflow_sub-result : goal.overflow_sub-result
overflow_sub-result g c =
    let n = g.N.Network.meaning c.args.network.now in
    let k = c.args.line in
    let sheet = c.args.sheet.now in
    let low = flow_least n k (sheet_of sheet) (g.met.N.Network.least c.args.network.now k) (g.met.N.Network.most c.args.network.now k) sheet.least sheet.most in
    let high = flow_most n k (sheet_of sheet) (g.met.N.Network.least c.args.network.now k) (g.met.N.Network.most c.args.network.now k) sheet.least sheet.most in
    let flow = c.flow.ensures in
    let room = c.room.ensures in
    omega (arith, ints)
