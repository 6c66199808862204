-- Sends by place are sums.
use Rattle.std.proofs.Common.{◌≡◌, ℕ, ◌<◌, Bool, true, false, cond, List, [], ◌∷◌, length, length-set, get_or, sym, ◌∙◌, ap, refl, subst}
use Rattle.std.specs.Prelude.{◌==◌, ◌&&◌, if◌then◌else◌}
use Rattle.std.specs.List.{count_by}
use Rattle.std.specs.declared.net.socket_addr.SocketAddrV4.{SocketAddrV4}
use Rattle.std.proofs.lemmas.List.{map-append}
use Rattle.std.proofs.lemmas.List.Sums.{sum_by-cons, fold-append}
use Rattle.endpoint_names.specs.declared.route.Route.{Route}
use Rattle.gateway_core.specs.declared.sent.SentMessage.{SentMessage}
use Rattle.plain_machine.specs.declared.setup.Setup.{Setup}
use Rattle.plain_machine.specs.Event.{GatewayEvent}
use Rattle.gateway_core.specs.Labelling.{sent_message, labels_of}
use Rattle.plain_machine.specs.Lists.{sent_from}
use Rattle.plain_machine.specs.Machine.{Machine}
use Rattle.plain_machine.specs.Happening.{effect}
use Rattle.gateway_core.specs.Wire.{counted}
use Rattle.message_counts.specs.SentCounting.{one_more_at}
use Rattle.message_counts.specs.Places.{place_among, with_send, with_sends, sends_after, is_sent_to}
use Rattle.message_counts.specs.Waiting.{is_command}
use Rattle.message_counts.proofs.SentCountLemmas.{counted_on, counted_none, at_place}

-- ---- one message more, of its own or not

same_size : (own : Bool) (sends : List ℕ) (at : ℕ) → length (if own then one_more_at sends at else sends) ≡ length sends
same_size true sends at = length-set sends at _
same_size false sends at = refl

one_send : (own : Bool) (sends : List ℕ) (at place : ℕ) → place < length sends
    → get_or (if own then one_more_at sends at else sends) place 0 ≡ counted (get_or sends place 0) (cond (own && at == place) 1 0)
one_send true sends at place inside = at_place sends at place inside
one_send false sends at place inside = counted_none (get_or sends place 0)

-- ---- all of them

pub sends_sum : (route : Route SocketAddrV4) (sends : List ℕ) (sent : List SentMessage) (place : ℕ) → place < length sends
    → get_or (with_sends route sends sent) place 0 ≡ counted (get_or sends place 0) (count_by (is_sent_to route place) sent)
sends_sum route sends [] place inside = counted_none (get_or sends place 0)
sends_sum route sends (one ∷ sent) place inside =
    sends_sum route (with_send route sends one) sent place
    (subst (λ (n : ℕ). place < n) (sym (same_size (is_command one) sends (place_among route one.to))) inside)
    ∙ ap (λ n. counted n (count_by (is_sent_to route place) sent)) (one_send (is_command one) sends (place_among route one.to) place inside)
    ∙ counted_on (get_or sends place 0) (cond (is_sent_to route place one) 1 0) (count_by (is_sent_to route place) sent)
    ∙ ap (λ n. counted (get_or sends place 0) n) (sym (sum_by-cons (λ (x : SentMessage). cond (is_sent_to route place x) 1 0) one sent))

-- ---- events one after the other

pub list_sends : (setup : Setup) (m : Machine) (sends : List ℕ) (events : List GatewayEvent)
    → sends_after setup m sends events ≡ with_sends setup.agent.route sends (labels_of (sent_from setup m events))
unfolding sends_after sent_from
list_sends setup m sends [] = refl
list_sends setup m sends (event ∷ events) =
    let one : List SentMessage = labels_of (effect setup m event).sent in
    let rest : List SentMessage = labels_of (sent_from setup (effect setup m event).value events) in
    list_sends setup (effect setup m event).value (with_sends setup.agent.route sends one) events
    ∙ sym (fold-append (with_send setup.agent.route) sends one rest)
    ∙ ap (λ (x : List SentMessage). with_sends setup.agent.route sends x)
    (sym (map-append sent_message (effect setup m event).sent (sent_from setup (effect setup m event).value events)))
