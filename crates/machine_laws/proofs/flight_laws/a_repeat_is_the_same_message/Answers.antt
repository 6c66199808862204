use Rattle.machine_laws.proofs.FlightLaws.{repeat_carries, repeat_keeps, own_carries, own_keeps}
use Rattle.machine_laws.proofs.flight_laws.a_repeat_is_the_same_message.Goals as goal

pub returns-clause-repeated : goal.returns-clause-repeated
returns-clause-repeated c = repeat_carries

pub returns-clause-kept : goal.returns-clause-kept
returns-clause-kept c = repeat_keeps

pub returns-clause-own_repeated : goal.returns-clause-own_repeated
returns-clause-own_repeated c = own_carries

pub returns-clause-own_kept : goal.returns-clause-own_kept
returns-clause-own_kept c = own_keeps
