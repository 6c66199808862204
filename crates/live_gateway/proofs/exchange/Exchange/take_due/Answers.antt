use Rattle.std.proofs.Common.{ℕ, None, Some, refl}
use Rattle.std.specs.Prelude.{option_map}
use Rattle.std.specs.Box.{with_value}
use Rattle.impairment.specs.declared.packet.Packet.{Packet}
use Rattle.live_gateway.proofs.SendingLemmas.{due_over, due_nowhere}
use Rattle.live_gateway.proofs.exchange.Exchange.take_due.Goals as goal

pub returns-in-Some-clause-due : goal.returns-in-Some-clause-due
returns-in-Some-clause-due g c =
    due_over c.args.self.now.now.clock c.args.self.now.network (Some (with_value c.in-Some.network c.take_due.new.self))
    (option_map (λ (found : Packet × ℕ). found.0) c.take_due.result) c.in-Some.network (with_value c.in-Some.network c.take_due.new.self)
    c.in-Some.is refl (rw (c.deref_mut.ensures.value) at c.take_due.ensures.taken)

pub returns-in-None-clause-due : goal.returns-in-None-clause-due
returns-in-None-clause-due g c =
    due_nowhere c.args.self.now.now.clock c.args.self.now.network c.args.self.now.network None c.in-None.is c.in-None.is refl

-- it is otherwise as it was

pub returns-in-Some-clause-length : goal.returns-in-Some-clause-length
returns-in-Some-clause-length g c = c.take_due.ensures.length

pub returns-in-Some-clause-within : goal.returns-in-Some-clause-within
returns-in-Some-clause-within g c = c.take_due.ensures.within

pub returns-in-Some-clause-rest : goal.returns-in-Some-clause-rest
returns-in-Some-clause-rest g c = refl

pub returns-in-Some-clause-spoilt : goal.returns-in-Some-clause-spoilt
returns-in-Some-clause-spoilt g c = rw (c.in-Some.is) refl

pub returns-in-Some-clause-put : goal.returns-in-Some-clause-put
returns-in-Some-clause-put g c = c.take_due.ensures.put

pub returns-in-None-clause-length : goal.returns-in-None-clause-length
returns-in-None-clause-length g c = refl

pub returns-in-None-clause-within : goal.returns-in-None-clause-within
returns-in-None-clause-within g c = tt

pub returns-in-None-clause-rest : goal.returns-in-None-clause-rest
returns-in-None-clause-rest g c = refl

pub returns-in-None-clause-spoilt : goal.returns-in-None-clause-spoilt
returns-in-None-clause-spoilt g c = refl

pub returns-in-None-clause-handed : goal.returns-in-None-clause-handed
returns-in-None-clause-handed g c = refl

pub returns-in-None-clause-behind : goal.returns-in-None-clause-behind
returns-in-None-clause-behind g c = tt

pub returns-in-None-clause-put : goal.returns-in-None-clause-put
returns-in-None-clause-put g c = tt
