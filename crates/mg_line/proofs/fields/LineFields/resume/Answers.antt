use Rattle.std.proofs.Common.{sym, ap, ◌∙◌}
use Rattle.events_and_signals.specs.Held.{nothing_held}
use Rattle.mg_line.specs.Line.{LineState}
use Rattle.mg_line.specs.Step.{step_of}
use Rattle.mg_line.specs.LineFields.{line_in}
use Rattle.mg_line.specs.Detecting.{resumed, with_held}
use Rattle.mg_line.proofs.RoomLemmas.{room_of}
use Rattle.mg_line.proofs.DrainLemmas.{none_resumed}
use Rattle.mg_line.proofs.fields.LineFields.resume.Goals as goal

pub returns-then-none_quarantined-clause-ok : goal.returns-then-none_quarantined-clause-ok
returns-then-none_quarantined-clause-ok c =
    none_resumed (line_in c.args.self.now) c.args.moment (sym c.none_quarantined.ensures ∙ c.if-none_quarantined.true)

pub go_on-requires-clause-room : goal.go_on-requires-clause-room
go_on-requires-clause-room c =
    room_of (line_in c.in_ok-work.work) (with_held (nothing_held 0) (line_in c.args.self.now)) c.in_ok-work.ensures c.requires.room

pub returns-clause-ok : goal.returns-clause-ok
returns-clause-ok c =
    ap (λ (line : LineState). step_of line c.in_ok-notice.notice) c.take_over.ensures
    ∙ sym c.in_ok-notice.ensures
    ∙ ap (λ (line : LineState). resumed (with_held c.args.self.now.quarantined line) c.args.moment) c.in_ok-work.ensures
