use Rattle.std.proofs.Common.{rules}
use Rattle.network.proofs.Lines.{flow_here, flow_gone}
use Rattle.network.proofs.answers.TableNetworkNetwork.flow.Goals as goal

pub returns : goal.returns
returns c = search (rules, flow_here, flow_gone)
