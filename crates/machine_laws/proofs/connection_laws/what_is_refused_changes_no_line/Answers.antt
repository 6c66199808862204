use Rattle.machine_laws.proofs.LineDeeds.{refused_text, refused_after, refused_stays}
use Rattle.machine_laws.proofs.connection_laws.what_is_refused_changes_no_line.Goals as goal

pub returns-clause-text : goal.returns-clause-text
returns-clause-text c = refused_text

pub returns-clause-after : goal.returns-clause-after
returns-clause-after c = refused_after

pub returns-clause-command : goal.returns-clause-command
returns-clause-command c = refused_stays
