use Rattle.std.proofs.Common.{true, false, refl, ap, subst, not, Bool, ◌∙◌}
use Rattle.page_http.specs.Naming.{names_of}
use Rattle.page_server.specs.Visiting.{ReadsOnce, WritesOnce}
use Rattle.page_server.proofs.VisitLemmas.{so_behind, none_answered, answered_before, answered_behind, answered_both, answers_there, more_to_read, more_to_write}
use Rattle.page_server.proofs.visitor.Visitor.turn.Goals as goal
use Rattle.page_server.proofs.visitor.Visitor.turn.Goals.{then-can_read, else-can_read}

pub returns-then-not-read-clause-answered : goal.returns-then-not-read-clause-answered
returns-then-not-read-clause-answered c =
    none_answered c.args.desk.now.site (names_of c.args.desk.now.names.now) c.args.self.now c.read.new.self c.args.desk.now.board.now c.read.ensures.calls

pub returns-then-not-write-clause-answered : goal.returns-then-not-write-clause-answered
returns-then-not-write-clause-answered c =
    answered_before c.args.desk.now.site (names_of c.args.desk.now.names.now) c.args.self.now c.answer.new.self c.write.new.self
    c.args.desk.now.board.now c.answer.new.desk.board.now
    (answered_behind c.args.desk.now.site (names_of c.args.desk.now.names.now) c.args.self.now c.read.new.self c.answer.new.self
    c.args.desk.now.board.now c.answer.new.desk.board.now c.read.ensures.calls c.answer.ensures.answered.answers)
    c.write.ensures.calls

pub returns-clause-answered : goal.returns-clause-answered
returns-clause-answered c =
    let site = c.args.desk.now.site in
    let names = names_of c.args.desk.now.names.now in
    let first = answered_before site names c.args.self.now c.answer.new.self c.write.new.self c.args.desk.now.board.now c.answer.new.desk.board.now
    (answered_behind site names c.args.self.now c.read.new.self c.answer.new.self c.args.desk.now.board.now c.answer.new.desk.board.now c.read.ensures.calls
    c.answer.ensures.answered.answers)
    c.write.ensures.calls in
    answered_both site c.answer.new.desk.site names (names_of c.answer.new.desk.names.now) c.args.self.now c.write.new.self c.answer-2.new.self
    c.args.desk.now.board.now c.answer.new.desk.board.now c.answer-2.new.desk.board.now first c.answer.ensures.site c.answer.ensures.names
    c.answer-2.ensures.answered.answers

pub returns-then-not-read-clause-turns : goal.returns-then-not-read-clause-turns
returns-then-not-read-clause-turns c = (
  false,
  c.read.new.self,
  subst (λ (gives : Bool). ReadsOnce c.args.now c.args.self.now gives c.read.new.self) c.if-not-read.true c.read.ensures.reads,
  (refl, refl, refl),
)

pub returns-then-not-write-clause-turns : goal.returns-then-not-write-clause-turns
returns-then-not-write-clause-turns c = (
  true,
  c.read.new.self,
  subst (λ (gives : Bool). ReadsOnce c.args.now c.args.self.now gives c.read.new.self) c.if-not-read.false c.read.ensures.reads,
  (
    c.answer.new.self,
    c.answer.new.desk.board.now,
    c.answer.ensures.answered,
    (
      false,
      c.write.new.self,
      subst (λ (takes : Bool). WritesOnce c.args.now c.answer.new.self takes c.write.new.self) c.if-not-write.true c.write.ensures.writes,
      (refl, refl, refl),
    ),
  ),
)

pub returns-clause-turns : goal.returns-clause-turns
returns-clause-turns c = (
  true,
  c.read.new.self,
  subst (λ (gives : Bool). ReadsOnce c.args.now c.args.self.now gives c.read.new.self) c.if-not-read.false c.read.ensures.reads,
  (
    c.answer.new.self,
    c.answer.new.desk.board.now,
    c.answer.ensures.answered,
    (
      true,
      c.write.new.self,
      subst (λ (takes : Bool). WritesOnce c.args.now c.answer.new.self takes c.write.new.self) c.if-not-write.false c.write.ensures.writes,
      (
        c.answer-2.new.self,
        answers_there c.args.desk.now.site c.answer.new.desk.site (names_of c.args.desk.now.names.now) (names_of c.answer.new.desk.names.now)
            c.write.new.self c.answer-2.new.self c.answer.new.desk.board.now c.answer-2.new.desk.board.now c.answer.ensures.site c.answer.ensures.names
            c.answer-2.ensures.answered,
        refl,
        elim c.if-can_read.branch [
          | then-can_read w ↦ more_to_read c.if-can_read.self c.can_read.result (w.self-is ∙ w.if-can_read.true) w.if-can_read.true c.can_read.ensures
          | else-can_read w ↦ more_to_write c.if-can_read.self c.can_read.result w.can_write-self.result w.self-is w.if-can_read.false
              c.can_read.ensures w.can_write-self.ensures
        ],
        (λ over. c.is_done.ensures.0 (so_behind c.is_done.result over)),
        (λ done. ap not (c.is_done.ensures.1 done)),
      ),
    ),
  ),
)
