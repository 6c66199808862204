use Prim.{search}
use Rattle.std.proofs.Common.{◌≡◌, decimal, rules}
use Rattle.agent_log.proofs.TellingLemmas.{call_told}
use Rattle.agent_log.proofs.standing.tell_call.Goals as goal

pub returns-clause-tells : goal.returns-clause-tells
returns-clause-tells c =
    let digits : c.as_slice-2.result.now ≡ decimal c.args.call = search rules in
    call_told c.args.stations.now c.args.call c.args.line c.args.other c.as_slice.result c.as_slice-2.result c.as_slice-3.result
    c.number_at.result c.as_slice-4.result c.number_at-2.result c.args.words c.args.journal.now.told c.tell.new.self.told
    c.as_slice.ensures digits c.as_slice-3.ensures c.number_at.ensures c.as_slice-4.ensures c.number_at-2.ensures c.tell.ensures.tells
