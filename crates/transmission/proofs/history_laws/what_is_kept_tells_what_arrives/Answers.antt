use Rattle.std.proofs.Common.{[]}
use Rattle.transmission.proofs.RecallLaws.{recalls_itself}
use Rattle.transmission.proofs.EntryLaws.{remembers_tells, remembers_first, remembers_plain_first, remembers_no_first}
use Rattle.transmission.proofs.history_laws.what_is_kept_tells_what_arrives.Goals as goal

pub returns-clause-nothing : goal.returns-clause-nothing
returns-clause-nothing c = recalls_itself []

pub returns-clause-told : goal.returns-clause-told
returns-clause-told c = remembers_tells

pub returns-clause-first : goal.returns-clause-first
returns-clause-first c = remembers_first

pub returns-clause-plain_first : goal.returns-clause-plain_first
returns-clause-plain_first c = remembers_plain_first

pub returns-clause-others : goal.returns-clause-others
returns-clause-others c = remembers_no_first
