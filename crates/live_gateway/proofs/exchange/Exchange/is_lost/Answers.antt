use Rattle.std.proofs.Common.{false, true, Some, refl, sym, ap}
use Rattle.std.specs.Prelude.{⊤, Ok, Err}
use Rattle.std.specs.Box.{with_value}
use Rattle.impairment.specs.declared.fate.Fate.{Fate}
use Rattle.live_gateway.specs.Exchanging.{is_lost}
use Rattle.live_gateway.proofs.SendingLemmas.{offers_so, lacks_so, lost_over, lost_nowhere, not_lost}
use Rattle.live_gateway.proofs.exchange.Exchange.is_lost.Goals as goal

pub returns-in-Lost-clause-lost : goal.returns-in-Lost-clause-lost
returns-in-Lost-clause-lost g c =
    let next = with_value c.in-Some.network c.offer_in.new.self in
    lost_over c.args.source c.args.bytes.now c.args.self.now.now.clock true c.args.self.now.network (Some next) c.in-Some.network next (Ok c.in-Ok.fate)
    c.in-Some.is refl (offers_so _ _ _ _ _ _ _ (rw (c.deref_mut.ensures.value) at c.in-Ok.ensures.offers))
    (sym (ap (λ (fate : Fate). is_lost {E = ⊤} (Ok fate)) c.in-Lost.is))

pub returns-in_default-clause-lost : goal.returns-in_default-clause-lost
returns-in_default-clause-lost g c =
    let next = with_value c.in-Some.network c.offer_in.new.self in
    lost_over c.args.source c.args.bytes.now c.args.self.now.now.clock false c.args.self.now.network (Some next) c.in-Some.network next (Ok c.in-Ok.fate)
    c.in-Some.is refl (offers_so _ _ _ _ _ _ _ (rw (c.deref_mut.ensures.value) at c.in-Ok.ensures.offers))
    (not_lost ⊤ c.in-Ok.fate c.in_default.not-Lost)

pub returns-in-Err-clause-lost : goal.returns-in-Err-clause-lost
returns-in-Err-clause-lost g c =
    let next = with_value c.in-Some.network c.offer_in.new.self in
    lost_over c.args.source c.args.bytes.now c.args.self.now.now.clock true c.args.self.now.network (Some next) c.in-Some.network next (Err tt)
    c.in-Some.is refl (lacks_so _ _ _ _ _ _ _ _ (rw (c.deref_mut.ensures.value) at c.in-Err.ensures.offers)) refl

pub returns-in-None-clause-lost : goal.returns-in-None-clause-lost
returns-in-None-clause-lost g c =
    lost_nowhere c.args.source c.args.bytes.now c.args.self.now.now.clock false c.args.self.now.network c.args.self.now.network c.in-None.is c.in-None.is refl

-- it is otherwise as it was

pub returns-in-Lost-clause-rest : goal.returns-in-Lost-clause-rest
returns-in-Lost-clause-rest g c = refl

pub returns-in-Lost-clause-spoilt : goal.returns-in-Lost-clause-spoilt
returns-in-Lost-clause-spoilt g c = rw (c.in-Some.is) refl

pub returns-in_default-clause-rest : goal.returns-in_default-clause-rest
returns-in_default-clause-rest g c = refl

pub returns-in_default-clause-spoilt : goal.returns-in_default-clause-spoilt
returns-in_default-clause-spoilt g c = rw (c.in-Some.is) refl

pub returns-in-Err-clause-rest : goal.returns-in-Err-clause-rest
returns-in-Err-clause-rest g c = refl

pub returns-in-Err-clause-spoilt : goal.returns-in-Err-clause-spoilt
returns-in-Err-clause-spoilt g c = rw (c.in-Some.is) refl

pub returns-in-None-clause-received : goal.returns-in-None-clause-received
returns-in-None-clause-received g c = refl

pub returns-in-None-clause-handed : goal.returns-in-None-clause-handed
returns-in-None-clause-handed g c = refl

pub returns-in-None-clause-rest : goal.returns-in-None-clause-rest
returns-in-None-clause-rest g c = refl

pub returns-in-None-clause-spoilt : goal.returns-in-None-clause-spoilt
returns-in-None-clause-spoilt g c = refl
