use Rattle.std.proofs.Common.{sym}
use Rattle.connections.proofs.StandingLemmas.{audited_at}
use Rattle.connections.proofs.connections.Connections.audited.Goals as goal

pub returns : goal.returns
returns c =
    rw (c.copy.ensures, c.described.ensures, sym c.self.view_is)
    (audited_at c.args.id.now _ c.in-Some.place c.in-Some-places.connection c.index-self-place.result
    c.in-Some.ensures.place c.in-Some.ensures.within c.in-Some-places.is)
