use Rattle.endpoints.proofs.DueLemmas.{put_anew, left_alone}
use Rattle.endpoints.proofs.due_table.renew.Goals as goal

pub returns-then-is_same-clause-table : goal.returns-then-is_same-clause-table
returns-then-is_same-clause-table c = left_alone c.args.line c.args.was c.args.is c.args.table.now.table c.requires.had (c.is_same.ensures.0 c.if-is_same.true)

pub returns-clause-table : goal.returns-clause-table
returns-clause-table c =
    put_anew c.args.line c.args.was c.args.is c.args.table.now.table c.clear.new.table.table c.enter.new.table.table c.requires.had c.clear.ensures.table c.enter.ensures.table
