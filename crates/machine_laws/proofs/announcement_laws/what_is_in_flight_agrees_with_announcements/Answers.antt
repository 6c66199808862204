use Rattle.machine_laws.proofs.FlightLaws.{posts_in_order}
use Rattle.machine_laws.proofs.announcement_laws.what_is_in_flight_agrees_with_announcements.Goals as goal

pub returns : goal.returns
returns c = posts_in_order
