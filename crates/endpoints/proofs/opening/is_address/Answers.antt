use Rattle.std.proofs.Common.{sym}
use Rattle.plain_machine.proofs.ShownLemmas.{address_fits}
use Rattle.endpoints.proofs.opening.is_address.Goals as goal

pub returns : goal.returns
returns c = sym (address_fits c.args.address (rw c.octets_of-octets.ensures.value at c.octets_of-octets.ensures.four) (rw c.octets_of-octets.ensures.value at c.octets_of-octets.ensures.each))
