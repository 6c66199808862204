use Rattle.std.proofs.Common.{arith}
use Rattle.live_gateway.proofs.ArrivingLemmas.{all_fit}
use Rattle.live_gateway.proofs.arriving.read_bytes.Goals as goal

pub returns : goal.returns
returns c = all_fit c.args.bytes.now (λ place. omega (arith, c.type_inv.bytes place))
