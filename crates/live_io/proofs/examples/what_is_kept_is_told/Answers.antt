use Rattle.live_io.proofs.TrafficLemmas.{told_where_kept, never_before, untold_where_refused, untold_again}
use Rattle.live_io.proofs.examples.what_is_kept_is_told.Goals as goal

pub returns-clause-kept : goal.returns-clause-kept
returns-clause-kept c = told_where_kept

pub returns-clause-before : goal.returns-clause-before
returns-clause-before c = never_before

pub returns-clause-refused : goal.returns-clause-refused
returns-clause-refused c = untold_where_refused

pub returns-clause-never_again : goal.returns-clause-never_again
returns-clause-never_again c = untold_again
