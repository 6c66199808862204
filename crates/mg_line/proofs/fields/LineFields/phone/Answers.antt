use Rattle.std.proofs.Common.{◌∙◌}
use Rattle.mg_line.specs.LineFields.{line_in}
use Rattle.mg_line.specs.Acting.{hooked}
use Rattle.mg_line.proofs.RoomLemmas.{hooked_room, room_of}
use Rattle.mg_line.proofs.StepLemmas.{hooked_back}
use Rattle.mg_line.proofs.fields.LineFields.phone.Goals as goal

pub detect-requires-clause-room : goal.detect-requires-clause-room
detect-requires-clause-room c =
    room_of (line_in c.change_hook.new.self) (hooked (line_in c.args.self.now) c.args.act) c.change_hook.ensures
    (hooked_room (line_in c.args.self.now) c.args.act c.requires.room)

pub returns-in-Err-clause-err : goal.returns-in-Err-clause-err
returns-in-Err-clause-err c =
    hooked_back (line_in c.detect.new.self) (line_in c.args.self.now) c.args.act (c.in-Err.ensures.err ∙ c.change_hook.ensures)
