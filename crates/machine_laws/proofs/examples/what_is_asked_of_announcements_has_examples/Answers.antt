use Rattle.std.proofs.Common.{◌≡◌, inl, inr, refl}
use Rattle.mgcp_text.specs.declared.message.Verb.TheVariants.{Rqnt}
use Rattle.command_forms.specs.Codes.{Audits}
use Rattle.retransmission.specs.declared.heard.Heard.TheVariants.{Answered, Redirected}
use Rattle.plain_machine.specs.Example.{other_entity}
use Rattle.machine_laws.proofs.IsolationComputing.{on_examples}
use Rattle.machine_laws.proofs.examples.what_is_asked_of_announcements_has_examples.Goals as goal

no_audit : Audits Rqnt → ⊥
no_audit (inl is) = cc
no_audit (inr is) = cc

-- all computed at once

pub returns : goal.returns
unfolding on_examples
returns c = record {
  opening = refl;
  misnamed = refl;
  meant = (_, refl);
  a_deed = no_audit;
  an_audit = inl refl;
  serving = refl;
  lasts = refl;
  due = record { message = _; flies = refl; own = refl };
  own_id = refl;
  answered = refl;
  not_yet = refl;
  other = λ agent is. (let clash : Redirected other_entity ≡ Answered agent = is in cc);
  announced = refl;
  flies = refl;
  redirected = refl;
  not_serving = refl;
  waits = refl;
  nothing_flies = refl;
  last_send = refl;
  given_up = refl;
}
