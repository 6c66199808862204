use Rattle.std.proofs.Common.{sym, ◌∙◌}
use Rattle.transmission.proofs.SpotRecalls.{spot_inside, recalled_cut_spot, recalled_cut_gone, recalled_cut_no_spot}
use Rattle.transmission.proofs.recall.recall_settled.Goals as goal

pub repeated_at-requires : goal.repeated_at-requires
repeated_at-requires c = spot_inside c.args.entries.now c.args.id c.args.now c.in-Some.spot (sym (c.in-Some.ensures ∙ c.requires.index c.args.id))

pub returns-in-Some-repeated_at : goal.returns-in-Some-repeated_at
returns-in-Some-repeated_at c =
    recalled_cut_spot c.args.entries.now c.args.gone c.args.id c.args.now c.in-Some.spot c.in-Some-repeated_at.first.now
    (sym (c.in-Some.ensures ∙ c.requires.index c.args.id)) c.if-spot-gone.true c.in-Some-repeated_at.ensures

pub returns-in-Some-2 : goal.returns-in-Some-2
returns-in-Some-2 c =
    sym (recalled_cut_gone c.args.entries.now c.args.gone c.args.id c.args.now c.in-Some.spot
    (sym (c.in-Some.ensures ∙ c.requires.index c.args.id)) c.if-spot-gone.false)

pub returns-in-None : goal.returns-in-None
returns-in-None c = sym (recalled_cut_no_spot c.args.entries.now c.args.gone c.args.id c.args.now (sym (c.in-None.ensures ∙ c.requires.index c.args.id)))
