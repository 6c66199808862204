-- Since when the agent owes an answer behind a list of events.
use Rattle.std.proofs.Common.{◌≡◌, ℕ, Bool, true, false, List, [], ◌∷◌, ◌++◌, Option, Some, None, sym, ◌∙◌, ap, refl}
use Rattle.std.specs.Prelude.{◌||◌, find, if◌then◌else◌, option_map}
use Rattle.std.specs.List.{list_any}
use Rattle.std.specs.Option.{option_or}
use Rattle.std.proofs.lemmas.List.{map-append}
use Rattle.std.proofs.lemmas.List.Folds.{find-append, list_any-append}
use Rattle.gateway_core.specs.declared.outcome.TextOutcome.{TextOutcome}
use Rattle.gateway_core.specs.Outcomes.{outcomes_of}
use Rattle.gateway_core.specs.declared.sent.SentMessage.{SentMessage}
use Rattle.plain_machine.specs.declared.setup.Setup.{Setup}
use Rattle.plain_machine.specs.Event.{GatewayEvent}
use Rattle.gateway_core.specs.Labelling.{sent_message, labels_of}
use Rattle.plain_machine.specs.Lists.{machine_after, sent_from}
use Rattle.plain_machine.specs.Machine.{Machine}
use Rattle.plain_machine.specs.Happening.{effect}
use Rattle.message_counts.specs.Counting.{is_response, outcomes_from}
use Rattle.message_counts.specs.Waiting.{is_command, first_asked, owed_behind, owed_after}

-- ---- what is sent behind what is sent

owed_found : (found : Option SentMessage) (more : List SentMessage)
    → owed_behind (option_map (λ (message : SentMessage). message.moment) found) more
    ≡ option_map (λ (message : SentMessage). message.moment) (option_or found (find is_command more))
owed_found None more = refl
owed_found (Some one) more = refl

owed_both : (since : Option ℕ) (sent more : List SentMessage) → owed_behind (owed_behind since sent) more ≡ owed_behind since (sent ++ more)
owed_both None sent more =
    owed_found (find is_command sent) more
    ∙ ap (λ (found : Option SentMessage). option_map (λ (message : SentMessage). message.moment) found) (sym (find-append is_command sent more))
owed_both (Some since) sent more = refl

-- ---- responses

neither : (a b : Bool) → (a || b) ≡ false → (a ≡ false) × (b ≡ false)
neither true b none = absurd cc
neither false b none = (refl, none)

none_of : (one more : List TextOutcome) → list_any is_response (one ++ more) ≡ false → (list_any is_response one ≡ false) × (list_any is_response more ≡ false)
none_of one more none = neither (list_any is_response one) (list_any is_response more) (sym (list_any-append is_response one more) ∙ none)

-- where there is none, what was owed stays so
still_owed : (responds : Bool) (since : Option ℕ) (sent : List SentMessage) → responds ≡ false
    → owed_behind (if responds then None else since) sent ≡ owed_behind since sent
still_owed true since sent none = absurd cc
still_owed false since sent none = refl

-- and where there is one, nothing is
owed_anew : (responds : Bool) (since : Option ℕ) (sent : List SentMessage) → responds ≡ true
    → owed_behind (if responds then None else since) sent ≡ first_asked sent
owed_anew true since sent one = refl
owed_anew false since sent one = absurd cc

-- ---- events one after the other

-- nothing was sent: what was owed stays so
owed_nothing : (since : Option ℕ) → since ≡ owed_behind since []
owed_nothing None = refl
owed_nothing (Some since) = refl

pub owed_on : (setup : Setup) (m : Machine) (since : Option ℕ) (events : List GatewayEvent) → list_any is_response (outcomes_from setup m events) ≡ false
    → owed_after setup m since events ≡ owed_behind since (labels_of (sent_from setup m events))
unfolding owed_after sent_from outcomes_from
owed_on setup m since [] none = owed_nothing since
owed_on setup m since (event ∷ events) none =
    let next : Machine = (effect setup m event).value in
    let one : List SentMessage = labels_of (effect setup m event).sent in
    let rest : List SentMessage = labels_of (sent_from setup next events) in
    let parts = none_of (outcomes_of setup m event) (outcomes_from setup next events) none in
    owed_on setup next (owed_behind (if list_any is_response (outcomes_of setup m event) then None else since) one) events parts.1
    ∙ ap (λ (o : Option ℕ). owed_behind o rest) (still_owed (list_any is_response (outcomes_of setup m event)) since one parts.0)
    ∙ owed_both since one rest
    ∙ ap (λ (x : List SentMessage). owed_behind since x) (sym (map-append sent_message (effect setup m event).sent (sent_from setup next events)))

-- behind the last response
owed_from : (setup : Setup) (m : Machine) (since : Option ℕ) (event : GatewayEvent) (behind : List GatewayEvent)
    → list_any is_response (outcomes_of setup m event) ≡ true → list_any is_response (outcomes_from setup (effect setup m event).value behind) ≡ false
    → owed_after setup m since (event ∷ behind) ≡ first_asked (labels_of (sent_from setup m (event ∷ behind)))
unfolding owed_after sent_from
owed_from setup m since event behind one none =
    let next : Machine = (effect setup m event).value in
    let sent : List SentMessage = labels_of (effect setup m event).sent in
    let rest : List SentMessage = labels_of (sent_from setup next behind) in
    owed_on setup next (owed_behind (if list_any is_response (outcomes_of setup m event) then None else since) sent) behind none
    ∙ ap (λ (o : Option ℕ). owed_behind o rest) (owed_anew (list_any is_response (outcomes_of setup m event)) since sent one)
    ∙ owed_both None sent rest
    ∙ ap (λ (x : List SentMessage). owed_behind None x) (sym (map-append sent_message (effect setup m event).sent (sent_from setup next behind)))

pub owed_last : (setup : Setup) (m : Machine) (since : Option ℕ) (before : List GatewayEvent) (event : GatewayEvent) (behind : List GatewayEvent)
    → list_any is_response (outcomes_of setup (machine_after setup m before) event) ≡ true
    → list_any is_response (outcomes_from setup (effect setup (machine_after setup m before) event).value behind) ≡ false
    → owed_after setup m since (before ++ event ∷ behind) ≡ first_asked (labels_of (sent_from setup (machine_after setup m before) (event ∷ behind)))
unfolding owed_after machine_after
owed_last setup m since [] event behind one none = owed_from setup m since event behind one none
owed_last setup m since (first ∷ before) event behind one none =
    owed_last setup (effect setup m first).value
    (owed_behind (if list_any is_response (outcomes_of setup m first) then None else since) (labels_of (effect setup m first).sent)) before event behind one none
