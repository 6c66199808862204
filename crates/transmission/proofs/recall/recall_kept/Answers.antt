use Rattle.std.proofs.Common.{ap, ◌∙◌}
use Rattle.std.specs.Prelude.{option_map}
use Rattle.std.proofs.lemmas.List.{take_rest}
use Rattle.transmission.specs.Spots.{recalled_in}
use Rattle.transmission.proofs.SpotRecalls.{recalled_since, recalled_never, recalled_earlier}
use Rattle.transmission.proofs.recall.recall_kept.Goals as goal

pub returns-in-Some : goal.returns-in-Some
returns-in-Some c =
    recalled_since c.args.entries.now _ c.args.gone c.args.settled c.args.id c.args.now c.requires.gone c.requires.settled (take_rest c.args.entries.now c.args.settled)
    _ c.in-Some.ensures

pub returns-in_err-earlier : goal.returns-in_err-earlier
returns-in_err-earlier c =
    ap (option_map recalled_in) c.from_residual.ensures
    ∙ recalled_never c.args.entries.now _ c.args.gone c.args.settled c.args.id c.args.now c.requires.gone c.requires.settled (take_rest c.args.entries.now c.args.settled)
    c.in_default.ensures c.in_err-earlier.ensures

pub returns : goal.returns
returns c =
    recalled_earlier c.args.entries.now _ c.args.gone c.args.settled c.args.id c.args.now c.requires.gone c.requires.settled (take_rest c.args.entries.now c.args.settled)
    (recalled_in c.in_ok-earlier.earlier) _ c.in_default.ensures c.in_ok-earlier.ensures c.also_confirmed.ensures
