use Rattle.std.proofs.Common.{◌∙◌}
use Rattle.transmission.proofs.IndexLaws.{gone-le, gone_cut, cut_view}
use Rattle.transmission.proofs.history.History.cut_off.Goals as goal

pub drop_front-requires : goal.drop_front-requires
drop_front-requires c = gone-le _ _ _ _ _ _ c.self.invariant

pub invariant_of-self : goal.invariant_of-self
invariant_of-self c = rw c.drop_front.ensures (gone_cut _ _ _ _ _ _ c.self.invariant c.cut.new.spots c.cut.ensures.index c.cut.ensures.room)

pub returns : goal.returns
returns c = cut_view _ _ _ _ _ _ c.self.invariant c.drop_front.new.entries.items c.self.inside.purged c.drop_front.ensures ∙ c.self.view_is
