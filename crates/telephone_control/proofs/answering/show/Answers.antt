use Rattle.std.proofs.Common.{inr, refl}
use Rattle.telephone_control.specs.Paging.{IsOf}
use Rattle.telephone_control.proofs.PagingLemmas.{shows_on}
use Rattle.telephone_control.proofs.answering.show.Goals as goal

pub returns-in-Some : goal.returns-in-Some
returns-in-Some c = inr (
  (refl, refl, refl, refl),
  shows_on (IsOf c.args.gateway.now c.args.journal.now c.args.faults c.args.behind) c.args.journal.now.board
      c.in-Some.board c.deref_mut.result.now c.show.new.self c.in-Ok.picture c.in-Some.is c.deref_mut.ensures.value
      (record {
        counted = c.in-Ok.ensures.counted;
        clock = c.in-Ok.ensures.clock;
        behind = c.in-Ok.ensures.behind;
        serving = c.in-Ok.ensures.serving;
        unanswered = c.in-Ok.ensures.unanswered;
        first = c.in-Ok.ensures.first;
        commands = c.in-Ok.ensures.commands;
        answers = c.in-Ok.ensures.answers;
        held = c.in-Ok.ensures.held;
        files = c.in-Ok.ensures.files;
        lines = c.in-Ok.ensures.lines;
      })
      c.show.ensures.picture c.show.ensures.same c.show.ensures.changed c.show.ensures.ring c.show.ensures.acts,
)
