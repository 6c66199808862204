use Rattle.transmission.proofs.RecallLaws.{recalls_itself, recalls_entry, recalls_purged, recalls_later, recalls_through, recalls_look}
use Rattle.transmission.proofs.history_laws.what_is_kept_recalls_all.Goals as goal

pub returns-clause-itself : goal.returns-clause-itself
returns-clause-itself c = recalls_itself

pub returns-clause-entry : goal.returns-clause-entry
returns-clause-entry c = recalls_entry

pub returns-clause-purged : goal.returns-clause-purged
returns-clause-purged c = recalls_purged

pub returns-clause-later : goal.returns-clause-later
returns-clause-later c = recalls_later

pub returns-clause-through : goal.returns-clause-through
returns-clause-through c = recalls_through

pub returns-clause-look : goal.returns-clause-look
returns-clause-look c = recalls_look
