use Rattle.std.proofs.Common.{rules}
use Rattle.live_system.proofs.AddressLemmas.{no_address}
use Rattle.live_system.proofs.addresses.address_in.Goals as goal

pub returns-in-Err-clause-none : goal.returns-in-Err-clause-none
returns-in-Err-clause-none c = no_address c.args.text.now (search rules) c.in-Err.ensures.value
