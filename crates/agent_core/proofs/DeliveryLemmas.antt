-- A packet is handed over, or can't be.
use Rattle.std.proofs.Common.{◌≡◌, ℕ, ◌-◌, ◌<◌, ◌≤◌, Bool, true, false, if◌then◌else◌, List, length, Option, Some, None, refl, subst, arith}
use Rattle.std.specs.Prelude.{nat_lt, OnOk, Result, Ok, Err, slice_get}
use Rattle.std.proofs.lemmas.Bool.Decides.{nat_tests}
use Rattle.std.proofs.lemmas.Option.{slice_get_within}
use Rattle.plain_machine.specs.Event.{GatewayEvent}
use Rattle.plain_machine.specs.Lists.{plain}
use Rattle.gateway_core.specs.Stands.{Stands}
use Rattle.agent_core.specs.declared.packet.End.{End}
use Rattle.agent_core.specs.declared.packet.Posted.{Posted}
use Rattle.agent_core.specs.declared.step.StepRefusal.{StepRefusal}
use Rattle.agent_core.specs.declared.step.StepRefusal.TheVariants.{NoSuchPacket, PacketTooOld}
use Rattle.agent_core.specs.World.{delivering, oldest_packet}
use Rattle.agent_core.specs.WorldStands.{WorldState}
use Rattle.agent_core.specs.WorldWork.{Goes, Ends, HandsOver, WantsMemory}
use Rattle.agent_core.specs.Delivering.{sender_of, sender_at}
use Rattle.agent_core.proofs.EndLemmas.{deliver_goes, deliver_ends, no_packet, too_old}

-- what was posted under a number, not too long ago, by this end
pub record SentBy (found : Option Posted) (now : ℕ) (end : End) : Type 0 where
  pub post : Posted
  pub at : found ≡ Some post
  pub young : now - post.packet.moment ≤ 10000
  pub is : post.end ≡ end

not_old : (now moment : ℕ) → nat_lt oldest_packet (now - moment) ≡ false → now - moment ≤ 10000
not_old now moment test = grind (arith, nat_tests, test)

is_old : (now moment : ℕ) → nat_lt oldest_packet (now - moment) ≡ true → 10000 < now - moment
is_old now moment test = grind (arith, nat_tests, test)

pub sent_by : (found : Option Posted) (now : ℕ) (end : End) → sender_of found now ≡ Ok end → SentBy found now end
sent_by None now end is = absurd cc
sent_by (Some post) now end is = by_age (nat_lt oldest_packet (now - post.packet.moment)) refl is where
  by_age : (old : Bool) → nat_lt oldest_packet (now - post.packet.moment) ≡ old → ◌≡◌ {A = Result End StepRefusal} (if old then Err PacketTooOld else Ok post.end) (Ok end) → SentBy (Some post) now end
  by_age true test same = absurd cc
  by_age false test same = record { post = post; at = refl; young = not_old now post.packet.moment test; is = cc }

-- ---- it is there

pub is_there : (posted : List Posted) (number now : ℕ) (end : End) → sender_at posted number now ≡ Ok end → number < length posted
is_there posted number now end is =
    let sent = sent_by (slice_get posted number) now end is in
    slice_get_within posted number sent.post sent.at

-- ---- it is handed over

pub handed_over : (w w' : WorldState) (number now : ℕ) (end : End) (result : Result (Unit {0}) StepRefusal) → sender_at w.posted number now ≡ Ok end
    → ((before : List GatewayEvent) → Stands w.gateway before → now ≡ (plain w.gateway.setup before).now)
    → OnOk result (HandsOver w number end w') → OnOk result (Goes w (delivering number) w')
handed_over w w' number now end (Ok x) is clock hands =
    let sent = sent_by (slice_get w.posted number) now end is in
    deliver_goes w w' number now sent.post end sent.at clock sent.young sent.is hands
handed_over w w' number now end (Err refusal) is clock hands = tt

pub handed_so : (w : WorldState) (number now : ℕ) (end : End) (given : Option StepRefusal) → sender_at w.posted number now ≡ Ok end
    → ((before : List GatewayEvent) → Stands w.gateway before → now ≡ (plain w.gateway.setup before).now) → WantsMemory w given → Ends w (delivering number) given
handed_so w number now end given is clock wants =
    let sent = sent_by (slice_get w.posted number) now end is in
    deliver_ends w number now sent.post given sent.at clock sent.young wants

-- ---- it can't be

pub not_handed : (w : WorldState) (number now : ℕ) (refusal : StepRefusal) → sender_at w.posted number now ≡ Err refusal
    → ((before : List GatewayEvent) → Stands w.gateway before → now ≡ (plain w.gateway.setup before).now) → Ends w (delivering number) (Some refusal)
not_handed w number now refusal is clock = by_found (slice_get w.posted number) refl is where
  by_age : (post : Posted) (old : Bool) → slice_get w.posted number ≡ Some post → nat_lt oldest_packet (now - post.packet.moment) ≡ old
      → ◌≡◌ {A = Result End StepRefusal} (if old then Err PacketTooOld else Ok post.end) (Err refusal) → Ends w (delivering number) (Some refusal)
  by_age post true at test same =
      let e : PacketTooOld ≡ refusal = cc in
      subst (λ (r : StepRefusal). Ends w (delivering number) (Some r)) e (too_old w number now post at clock (is_old now post.packet.moment test))
  by_age post false at test same = absurd cc

  by_found : (found : Option Posted) → slice_get w.posted number ≡ found → sender_of found now ≡ Err refusal → Ends w (delivering number) (Some refusal)
  by_found None at same =
      let e : NoSuchPacket ≡ refusal = cc in
      subst (λ (r : StepRefusal). Ends w (delivering number) (Some r)) e (no_packet w number at)
  by_found (Some post) at same = by_age post (nat_lt oldest_packet (now - post.packet.moment)) at refl same
