use Rattle.std.proofs.Common.{Option, inl, inr, sym, ap, subst, ◌∙◌}
use Rattle.std.specs.Option.{unwrap_or}
use Rattle.std.specs.declared.net.socket_addr.SocketAddrV4.{SocketAddrV4}
use Rattle.line_changes.specs.declared.watchers.Watchers.{Watchers}
use Rattle.plain_machine.specs.Lists.{plain}
use Rattle.telephone_control.specs.Watching.{AnswersWatch}
use Rattle.telephone_control.proofs.WatchingLemmas.{err_if, unasked_behind}
use Rattle.telephone_control.proofs.watch.Watch.ask.Goals as goal

pub returns-then-branch-clause-answered : goal.returns-then-branch-clause-answered
returns-then-branch-clause-answered c = λ events address stands is.
    subst
    (λ (a : SocketAddrV4). AnswersWatch c.args.self.now.watchers.places a (plain c.args.gateway.now.setup events).now c.args.seconds
    c.args.self.now.told.number c.in_ok-text.text.items c.begin.new.self.watchers.places)
    (ap (λ (o : Option SocketAddrV4). unwrap_or o c.in-Some.address) (sym c.in-Some.is ∙ is))
    (inl (c.in_ok-begin.ensures.watches events stands c.if-branch.true, c.in_ok-text.ensures events stands))

pub returns-in_ok-full-clause-answered : goal.returns-in_ok-full-clause-answered
returns-in_ok-full-clause-answered c = λ events address stands is.
    subst
    (λ (a : SocketAddrV4). AnswersWatch c.args.self.now.watchers.places a (plain c.args.gateway.now.setup events).now c.args.seconds
    c.args.self.now.told.number c.in_ok-full.full.items c.begin.new.self.watchers.places)
    (ap (λ (o : Option SocketAddrV4). unwrap_or o c.in-Some.address) (sym c.in-Some.is ∙ is))
    (inr (
      c.in_ok-begin.ensures.none_left events stands c.if-branch.false,
      ap (λ (w : Watchers). w.places) (c.in_ok-begin.ensures.full c.if-branch.false),
      c.in_ok-full.ensures,
    ))

pub returns-then-branch-clause-seen : goal.returns-then-branch-clause-seen
returns-then-branch-clause-seen c = λ events address stands is. record {
  anew = c.in_ok-begin.ensures.anew events stands;
  kept = c.begin.ensures.kept events stands;
  rest = c.begin.ensures.rest;
}

pub returns-in_ok-full-clause-seen : goal.returns-in_ok-full-clause-seen
returns-in_ok-full-clause-seen c = λ events address stands is. record {
  anew = c.in_ok-begin.ensures.anew events stands;
  kept = c.begin.ensures.kept events stands;
  rest = c.begin.ensures.rest;
}

pub returns-in_err-begin-clause-unasked : goal.returns-in_err-begin-clause-unasked
returns-in_err-begin-clause-unasked c =
    err_if c.from_residual-in_err-begin.result
    (unasked_behind c.args.gateway.now c.args.self.now c.begin.new.self c.begin.ensures.rest c.in_err-begin.ensures.refused c.begin.ensures.kept)

pub returns-in_err-full-clause-unasked : goal.returns-in_err-full-clause-unasked
returns-in_err-full-clause-unasked c =
    err_if c.from_residual-in_err-full.result
    (unasked_behind c.args.gateway.now c.args.self.now c.begin.new.self c.begin.ensures.rest (c.in_ok-begin.ensures.full c.if-branch.false)
    c.begin.ensures.kept)
