use Rattle.std.proofs.Common.{◌≡◌, sym, subst, refl, ◌∙◌, arith, IfOk}
use Rattle.events_and_signals.specs.Held.{without_front}
use Rattle.mg_line.specs.Line.{LineDone}
use Rattle.mg_line.specs.LineFields.{line_in, done_in}
use Rattle.mg_line.specs.Detecting.{beside}
use Rattle.mg_line.specs.Requesting.{replaced}
use Rattle.mg_line.proofs.RoomLemmas.{replaced_room, room_of}
use Rattle.mg_line.proofs.BesideLemmas.{process_beside, discard_beside}
use Rattle.mg_line.proofs.fields.LineFields.replace_and_go_on.Goals as goal

pub go_on-requires : goal.go_on-requires
go_on-requires c = record {
  room = room_of (line_in c.replace.new.self) (replaced (line_in c.args.self.now) c.args.request.now c.args.moment) c.in_ok-replace.ensures.ok
      (replaced_room (line_in c.args.self.now) c.args.request.now c.args.moment);
  early = c.requires;
}

pub returns : goal.returns
returns c =
    subst (λ (done : LineDone). IfOk c.go_on.result (λ told. done ≡ beside (without_front told.1 c.args.events.now) (done_in c.go_on.new.self told.0)))
    (sym (process_beside c.args.events.now (line_in c.args.self.now) (line_in c.replace.new.self) c.args.request.now c.args.moment _
    (sym c.discards.ensures ∙ c.if-discards.false) c.in_ok-replace.ensures.ok refl))
    c.go_on.ensures

pub returns-then-discards : goal.returns-then-discards
returns-then-discards c =
    discard_beside c.args.events.now (line_in c.args.self.now) (line_in c.replace.new.self) c.args.request.now c.args.moment c.count.result
    (sym c.discards.ensures ∙ c.if-discards.true) c.in_ok-replace.ensures.ok (omega arith)
