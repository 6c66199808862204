use Rattle.mg_line.specs.LineFields.{line_in, hushed}
use Rattle.mg_line.proofs.RoomLemmas.{embedded_few}
use Rattle.mg_line.proofs.fields.LineFields.act.Goals as goal

pub accumulate-requires : goal.accumulate-requires
accumulate-requires c =
    embedded_few (hushed c.args.goes_on (line_in c.args.self.now)) (line_in c.embed-in-AccumulateAndEmbed.new.self)
    c.in-AccumulateAndEmbed.embedding c.args.moment c.in_ok-embed-in-AccumulateAndEmbed.ensures.ok c.requires.room
