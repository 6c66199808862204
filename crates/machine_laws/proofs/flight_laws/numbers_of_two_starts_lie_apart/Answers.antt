use Rattle.machine_laws.proofs.PostLogs.{starts_apart}
use Rattle.machine_laws.proofs.flight_laws.numbers_of_two_starts_lie_apart.Goals as goal

pub returns : goal.returns
returns c = starts_apart
