use Rattle.live_gateway.proofs.exchange.exchange_of.Goals as goal

pub returns-clause-spoilt : goal.returns-clause-spoilt
returns-clause-spoilt g c = c.in-Ok.ensures

pub returns-clause-page : goal.returns-clause-page
returns-clause-page g c = c.in-Ok-journal_of.ensures.page

pub returns-clause-counted : goal.returns-clause-counted
returns-clause-counted g c = c.in-Ok-journal_of.ensures.counted

pub returns-clause-recorded : goal.returns-clause-recorded
returns-clause-recorded g c = c.in-Ok-journal_of.ensures.recorded
