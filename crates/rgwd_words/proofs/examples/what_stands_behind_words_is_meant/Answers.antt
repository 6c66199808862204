use Rattle.std.proofs.Common.{sym, ◌∙◌}
use Rattle.rgwd_words.proofs.examples.what_stands_behind_words_is_meant.Goals as goal

pub returns-clause-speakers : goal.returns-clause-speakers
returns-clause-speakers c = λ found sockets asks none. sym asks.agents ∙ none

pub returns-clause-telephones : goal.returns-clause-telephones
returns-clause-telephones c = λ found sockets asks none. asks.is_open.0 none

pub returns-clause-site : goal.returns-clause-site
returns-clause-site c = λ found sockets asks. asks.site

pub returns-clause-trace : goal.returns-clause-trace
returns-clause-trace c = λ found settings asks none. asks.trace.0 none

pub returns-clause-network : goal.returns-clause-network
returns-clause-network c = λ found settings asks. asks.spoilt
