use Rattle.std.proofs.Common.{Some, refl}
use Rattle.std.specs.Prelude.{Ok}
use Rattle.std.specs.Box.{with_value}
use Rattle.impairment.specs.declared.fate.Fate.TheVariants.{Once}
use Rattle.live_gateway.proofs.SendingLemmas.{offers_so, lacks_so, sent_over, sent_directly}
use Rattle.live_gateway.proofs.exchange.Exchange.send.Goals as goal

pub returns-in-Ok-clause-became : goal.returns-in-Ok-clause-became
returns-in-Ok-clause-became g c =
    let next = with_value c.in-Some.network c.offer_out.new.self in
    sent_over g.S.Surroundings.around.sends c.args.self.now (record c.args.self.now { network = Some next }) c.args.to c.args.bytes.now (Ok c.in-Ok.fate)
    c.in-Some.network next c.in-Some.is refl refl (offers_so _ _ _ _ _ _ _ (rw (c.deref_mut.ensures.value) at c.in-Ok.ensures.offers))

pub returns-in-Err-clause-became : goal.returns-in-Err-clause-became
returns-in-Err-clause-became g c =
    let next = with_value c.in-Some.network c.offer_out.new.self in
    sent_over g.S.Surroundings.around.sends c.args.self.now (record c.args.self.now { network = Some next }) c.args.to c.args.bytes.now _
    c.in-Some.network next c.in-Some.is refl refl (lacks_so _ _ _ _ _ _ _ _ (rw (c.deref_mut.ensures.value) at c.in-Err.ensures.offers))

pub returns-in_err-send-clause-became : goal.returns-in_err-send-clause-became
returns-in_err-send-clause-became g c =
    sent_directly g.S.Surroundings.around.sends c.args.self.now (record c.args.self.now { around = c.send.new.self }) c.args.to c.args.bytes.now c.from_residual.result _
    c.in_default.is c.in_default.is c.in_err-send.ensures.handed c.from_residual.ensures.0

pub returns-clause-became : goal.returns-clause-became
returns-clause-became g c =
    sent_directly g.S.Surroundings.around.sends c.args.self.now (record c.args.self.now { around = c.send.new.self }) c.args.to c.args.bytes.now (Ok (Once 0)) _
    c.in_default.is c.in_default.is c.in_ok-send.ensures.handed refl

-- it is otherwise as it was

pub returns-in-Ok-clause-faults : goal.returns-in-Ok-clause-faults
returns-in-Ok-clause-faults g c = refl

pub returns-in-Ok-clause-rest : goal.returns-in-Ok-clause-rest
returns-in-Ok-clause-rest g c = (refl, (refl, refl))

pub returns-in-Ok-clause-journal : goal.returns-in-Ok-clause-journal
returns-in-Ok-clause-journal g c = refl

pub returns-in-Err-clause-faults : goal.returns-in-Err-clause-faults
returns-in-Err-clause-faults g c = refl

pub returns-in-Err-clause-rest : goal.returns-in-Err-clause-rest
returns-in-Err-clause-rest g c = (refl, (refl, refl))

pub returns-in-Err-clause-journal : goal.returns-in-Err-clause-journal
returns-in-Err-clause-journal g c = refl

pub returns-in_err-send-clause-faults : goal.returns-in_err-send-clause-faults
returns-in_err-send-clause-faults g c = refl

pub returns-in_err-send-clause-rest : goal.returns-in_err-send-clause-rest
returns-in_err-send-clause-rest g c = (refl, (refl, refl))

pub returns-in_err-send-clause-journal : goal.returns-in_err-send-clause-journal
returns-in_err-send-clause-journal g c = refl

pub returns-clause-faults : goal.returns-clause-faults
returns-clause-faults g c = refl

pub returns-clause-rest : goal.returns-clause-rest
returns-clause-rest g c = (refl, (refl, refl))

pub returns-clause-journal : goal.returns-clause-journal
returns-clause-journal g c = refl

pub returns-in_err-send-clause-handed : goal.returns-in_err-send-clause-handed
returns-in_err-send-clause-handed g c = rw (c.in_default.is) c.send.ensures.sent

pub returns-in_err-send-clause-received : goal.returns-in_err-send-clause-received
returns-in_err-send-clause-received g c = rw (c.in_default.is) c.send.ensures.received

pub returns-clause-handed : goal.returns-clause-handed
returns-clause-handed g c = rw (c.in_default.is) c.send.ensures.sent

pub returns-clause-received : goal.returns-clause-received
returns-clause-received g c = rw (c.in_default.is) c.send.ensures.received
