use Rattle.std.proofs.Common.{ℕ, [], ◌∷◌, List, Some, None, if◌then◌else◌, inr, refl, sym, ap, ◌∙◌}
use Rattle.std.specs.Prelude.{nat_le}
use Rattle.impairment.specs.declared.packet.Packet.{Packet}
use Rattle.impairment.specs.Waiting.{taken}
use Rattle.live_agent.specs.declared.wire.Wire.{Wire}
use Rattle.live_agent.proofs.desk_examples.what_a_network_hands_over_has_examples.Goals as goal

pub returns-clause-no_network : goal.returns-clause-no_network
returns-clause-no_network c = λ packet is first. first

pub returns-clause-gone : goal.returns-clause-gone
returns-clause-gone c = λ was packet gone. gone

pub returns-clause-first : goal.returns-clause-first
returns-clause-first c = λ was is one two waits due left spoiling draws. (
  ap (λ (rest : List Packet). (Some one, rest)) left
      ∙ sym (ap (λ (moment : ℕ). if nat_le moment 700 then (Some one, two ∷ []) else (None, one ∷ two ∷ [])) due)
      ∙ sym (ap (λ (packets : List Packet). taken 700 packets) waits),
  spoiling,
  draws,
)

pub returns-clause-not_due : goal.returns-clause-not_due
returns-clause-not_due c = λ was one waits due. (
  ap (λ (rest : List Packet). (None, rest)) waits
      ∙ sym (ap (λ (moment : ℕ). if nat_le moment 700 then (Some one, []) else (None, one ∷ [])) due)
      ∙ sym (ap (λ (packets : List Packet). taken 700 packets) waits),
  refl,
  refl,
)

pub returns-clause-comes_in_last : goal.returns-clause-comes_in_last
returns-clause-comes_in_last c = λ packet was is last. last.1

pub returns-clause-goes_out_before : goal.returns-clause-goes_out_before
returns-clause-goes_out_before c = λ packet was is sent. sent.goes

pub returns-clause-one_out : goal.returns-clause-one_out
returns-clause-one_out c = λ packet was is each. (each.0, each.1)

pub returns-clause-offered : goal.returns-clause-offered
returns-clause-offered c = λ was counted. inr ((0, refl), refl)

pub returns-clause-offered_nobody : goal.returns-clause-offered_nobody
returns-clause-offered_nobody c = λ peer is counted counts offers. offers

pub returns-clause-draws : goal.returns-clause-draws
returns-clause-draws c = λ peer was is counted counts offers. offers.draws

pub returns-clause-handed : goal.returns-clause-handed
returns-clause-handed c = λ to was is leaves. ap (λ (wire : Wire ℕ). wire.network) leaves.rest
