-- What a gateway stands for, some events later.
use Rattle.std.proofs.Common.{◌≡◌, ℕ, ◌+◌, ◌<◌, ◌^◌, List, [], ◌∷◌, ◌++◌, length, get_or, take, map, Option, None, refl, sym, ◌∙◌, ap, append_assoc, append-nil, arith}
use Rattle.std.specs.Prelude.{slice_get, IfSome, Result, Ok, Err, OnOk, OnErr, min}
use Rattle.std.proofs.lemmas.List.{take_more, map-append}
use Rattle.std.proofs.lemmas.Option.{slice_get-get_or}
use Rattle.std.proofs.lemmas.Bool.Decides.{nat_tests}
use Rattle.plain_machine.specs.declared.event.Event.{Event}
use Rattle.machine_rules.specs.declared.refusal.Refusal.{Refusal}
use Rattle.transmission.specs.declared.output.OutDatagram.{OutDatagram}
use Rattle.plain_machine.specs.declared.setup.Setup.{Setup}
use Rattle.plain_machine.specs.Effect.{Effect}
use Rattle.plain_machine.specs.Event.{GatewayEvent, datagram, phone, tick, event_of}
use Rattle.plain_machine.specs.Packing.{put_out}
use Rattle.plain_machine.specs.Setup.{IsSetUp}
use Rattle.plain_machine.specs.Machine.{Machine, opening}
use Rattle.plain_machine.specs.Happening.{effect}
use Rattle.std.specs.Result.{result_err}
use Rattle.plain_machine.specs.Refusing.{refusal_of, tick_refusal, Ends}
use Rattle.plain_machine.specs.Lists.{machine_after, outputs_from, plain, are_taken}
use Rattle.plain_machine.proofs.EndLaws.{ends_fine}
use Rattle.plain_machine.proofs.EffectLaws.{effect_lines, effect_now}
use Rattle.plain_machine.proofs.ListLaws.{machine_on, outputs_on, taken_on}
use Rattle.gateway_core.specs.declared.state.State.{State}
use Rattle.gateway_core.specs.Sound.{IsSound}
use Rattle.transmission.specs.Memory.{most_firsts}
use Rattle.transmission.specs.Kept.{young_firsts}
use Rattle.transmission.proofs.RecallLaws.{recalls_itself}
use Rattle.plain_machine.specs.Message.{Sent}
use Rattle.gateway_core.proofs.AlikeLemmas.{effect_alike, refusal_alike, takes_alike, alike_purged, refusal_purged, outcomes_alike, account_alike}
use Rattle.gateway_core.specs.declared.outcome.TextOutcome.{TextOutcome}
use Rattle.gateway_core.specs.Outcomes.{outcomes_of, outcomes_after}
use Rattle.gateway_core.specs.declared.sent.SentMessage.{SentMessage}
use Rattle.plain_machine.specs.declared.given_up.GivenUpCommand.{GivenUpCommand}
use Rattle.gateway_core.specs.Labelling.{labels_of}
use Rattle.plain_machine.specs.GivingUp.{given_up_with}
use Rattle.gateway_core.specs.Accounts.{Account, no_account, account_of, account_after}
use Rattle.gateway_core.specs.State.{machine_in, purged_in, PutsOut, AllOr}
use Rattle.gateway_core.specs.Alike.{Alike, GoesOn}
use Rattle.gateway_core.specs.GatewayState.{GatewayState}
use Rattle.gateway_core.specs.Stands.{Stands, Took, before_place}
use Rattle.gateway_core.specs.Remembering.{remembered}

-- ---- what it remembers

pub remembered_alike : (g : GatewayState) (events : List GatewayEvent) → Stands g events → remembered g.machine ≡ remembered (plain g.setup events)
remembered_alike g events s =
    s.alike.history.same_count g.machine.now (omega arith)
    ∙ ap (λ (now : ℕ). min most_firsts (length (young_firsts now (plain g.setup events).history))) s.alike.now

-- ---- one event, beside the plain machine

goes_on : (setup : Setup) (k m : Machine) (is : State) (event : GatewayEvent) (were are : List OutDatagram) → Alike k m → refusal_of k event ≡ None
    → PutsOut (effect setup k event) is were are → GoesOn setup m event (machine_in is) were are
goes_on setup k m is event were are a none p =
    let same = effect_alike setup k m event a none in
    record { alike = rw (p.machine) same.machine; outputs = p.outputs ∙ ap (λ (sent : List Sent). were ++ put_out sent) same.sent }

pub step_goes : (setup : Setup) (k m : Machine) (is : State) (event : GatewayEvent) (were are : List OutDatagram) (result : Result (Unit {0}) Refusal) → Ends k event (result_err result)
    → AllOr (purged_in k) result (effect setup (purged_in k) event) is were are → Alike k m → OnOk result (GoesOn setup m event (machine_in is) were are)
step_goes setup k m is event were are (Ok x) e all a = goes_on setup (purged_in k) m is event were are (alike_purged k m a) (refusal_purged k event ∙ ends_fine k event e) all
step_goes setup k m is event were are (Err refusal) e all a = tt

pub step_stays : (k m : Machine) (is : State) (change : Effect Machine) (were are : List OutDatagram) (result : Result (Unit {0}) Refusal) → AllOr (purged_in k) result change is were are → Alike k m
    → OnErr result (Alike (machine_in is) m)
step_stays k m is change were are (Ok x) all a = tt
step_stays k m is change were are (Err refusal) all a = rw all.machine (alike_purged k m a)

pub step_silent : (k : Machine) (is : State) (change : Effect Machine) (were are : List OutDatagram) (result : Result (Unit {0}) Refusal) → AllOr k result change is were are → OnErr result (are ≡ were)
step_silent k is change were are (Ok x) all = tt
step_silent k is change were are (Err refusal) all = all.outputs

-- what the texts of the event were
pub step_told : (setup : Setup) (k m : Machine) (event : GatewayEvent) (told : List TextOutcome) (result : Result (Unit {0}) Refusal)
    → OnOk result (told ≡ outcomes_of setup (purged_in k) event) → Alike k m → OnOk result (told ≡ outcomes_of setup m event)
step_told setup k m event told (Ok x) is a = is ∙ outcomes_alike setup (purged_in k) m event (alike_purged k m a)
step_told setup k m event told (Err refusal) is a = tt

-- what is told of the event beside
pub step_account : (setup : Setup) (k m : Machine) (event : GatewayEvent) (sent : List SentMessage) (given_up : List GivenUpCommand) (result : Result (Unit {0}) Refusal) → Ends k event (result_err result)
    → OnOk result (sent ≡ labels_of (effect setup (purged_in k) event).sent) → OnOk result (given_up ≡ given_up_with setup (purged_in k) event) → Alike k m
    → OnOk result (◌≡◌ {A = Account} (record { sent = sent; given_up = given_up }) (account_of setup m event))
step_account setup k m event sent given_up (Ok x) e labels gone a =
    ap (λ (l : List SentMessage). let y : Account = record { sent = l; given_up = given_up } in y) labels
    ∙ ap (λ (g : List GivenUpCommand). let y : Account = record { sent = labels_of (effect setup (purged_in k) event).sent; given_up = g } in y) gone
    ∙ account_alike setup (purged_in k) m event (alike_purged k m a) (refusal_purged k event ∙ ends_fine k event e)
step_account setup k m event sent given_up (Err refusal) e labels gone a = tt

-- ---- what holds of every gateway

ticks_below : (now moment : ℕ) → tick_refusal now moment ≡ None → moment < 2 ^ 62
ticks_below now moment none = grind (arith, nat_tests)

now_below : (setup : Setup) (m : Machine) (event : GatewayEvent) → m.now < 2 ^ 62 → refusal_of m event ≡ None → (effect setup m event).value.now < 2 ^ 62
unfolding refusal_of
now_below setup m (datagram source bytes) lt none = rw (effect_now setup m (datagram source bytes)) lt
now_below setup m (phone line act) lt none = rw (effect_now setup m (phone line act)) lt
now_below setup m (tick moment) lt none = rw (effect_now setup m (tick moment)) (ticks_below m.now moment none)

purged_sound : (setup : Setup) (m : Machine) → IsSound setup m → IsSound setup (purged_in m)
purged_sound setup m s = record { set_up = s.set_up; all = s.all; moment = s.moment }

sound_after : (setup : Setup) (m : Machine) (is : State) (event : GatewayEvent) (were are : List OutDatagram) → IsSound setup m → refusal_of m event ≡ None
    → PutsOut (effect setup m event) is were are → IsSound setup (machine_in is)
sound_after setup m is event were are s none p = rw p.machine (record {
  set_up = s.set_up;
  all = effect_lines setup m event ∙ s.all;
  moment = now_below setup m event s.moment none;
})

pub step_sound : (setup : Setup) (k : Machine) (is : State) (event : GatewayEvent) (were are : List OutDatagram) (result : Result (Unit {0}) Refusal) → IsSound setup k
    → Ends k event (result_err result) → AllOr (purged_in k) result (effect setup (purged_in k) event) is were are → IsSound setup (machine_in is)
step_sound setup k is event were are (Ok x) s e all =
    sound_after setup (purged_in k) is event were are (purged_sound setup k s) (refusal_purged k event ∙ ends_fine k event e) all
step_sound setup k is event were are (Err refusal) s e all = rw all.machine (purged_sound setup k s)

-- ---- lists of events

-- what is told of a list is told of its last event
pub outcomes_on : (setup : Setup) (m : Machine) (were : List TextOutcome) (before : List GatewayEvent) (event : GatewayEvent)
    → outcomes_after setup m were (before ++ event ∷ []) ≡ outcomes_of setup (machine_after setup m before) event
unfolding machine_after outcomes_after
outcomes_on setup m were [] event = refl
outcomes_on setup m were (first ∷ before) event = outcomes_on setup (effect setup m first).value (outcomes_of setup m first) before event

pub account_on : (setup : Setup) (m : Machine) (was : Account) (before : List GatewayEvent) (event : GatewayEvent)
    → account_after setup m was (before ++ event ∷ []) ≡ account_of setup (machine_after setup m before) event
unfolding machine_after account_after
account_on setup m was [] event = refl
account_on setup m was (first ∷ before) event = account_on setup (effect setup m first).value (account_of setup m first) before event

pub took_one : (g g' : GatewayState) (event : GatewayEvent) (were are : List OutDatagram) → g'.setup ≡ g.setup → refusal_of g.machine event ≡ None
    → ((m : Machine) → Alike g.machine m → GoesOn g.setup m event g'.machine were are)
    → ((m : Machine) → Alike g.machine m → g'.outcomes ≡ outcomes_of g.setup m event)
    → ((m : Machine) → Alike g.machine m → g'.account ≡ account_of g.setup m event) → Took g (event ∷ []) g' were are
unfolding machine_after outputs_from
took_one g g' event were are same none goes told accounts = record {
  setup = same;
  stands = λ before s. rw same (record {
    setup = s.setup;
    taken = taken_on g.setup (opening g.setup) before event s.taken (sym (refusal_alike g.machine (plain g.setup before) event s.alike) ∙ none);
    alike = rw (machine_on g.setup (opening g.setup) before (event ∷ [])) (goes (plain g.setup before) s.alike).alike;
    outcomes = told (plain g.setup before) s.alike ∙ sym (outcomes_on g.setup (opening g.setup) [] before event);
    account = accounts (plain g.setup before) s.alike ∙ sym (account_on g.setup (opening g.setup) no_account before event);
  });
  sent = λ before s. (goes (plain g.setup before) s.alike).outputs
      ∙ ap (λ (x : List OutDatagram). were ++ x) (sym (append-nil (put_out (effect g.setup (plain g.setup before) event).sent)));
}

pub took_none : (g g' : GatewayState) (were are : List OutDatagram) → g'.setup ≡ g.setup → are ≡ were → g'.outcomes ≡ g.outcomes → g'.account ≡ g.account
    → ((m : Machine) → Alike g.machine m → Alike g'.machine m) → Took g [] g' were are
unfolding outputs_from
took_none g g' were are same sent told accounts keeps = record {
  setup = same;
  stands = λ before s. rw (same, append-nil before) (record {
    setup = s.setup;
    taken = s.taken;
    alike = keeps (plain g.setup before) s.alike;
    outcomes = told ∙ s.outcomes;
    account = accounts ∙ s.account;
  });
  sent = λ before s. sent ∙ sym (append-nil were);
}

-- events, and then more
pub took_on : (g h k : GatewayState) (es fs : List GatewayEvent) (were are then : List OutDatagram) → Took g es h were are → Took h fs k are then → Took g (es ++ fs) k were then
took_on g h k es fs were are then a b = record {
  setup = b.setup ∙ a.setup;
  stands = λ before s. rw (← (append_assoc before es fs)) (b.stands (before ++ es) (a.stands before s));
  sent = λ before s.
      b.sent (before ++ es) (a.stands before s)
      ∙ ap (λ (x : Setup). are ++ outputs_from x (plain x (before ++ es)) fs) a.setup
      ∙ ap (λ (x : List OutDatagram). x ++ outputs_from g.setup (plain g.setup (before ++ es)) fs) (a.sent before s)
      ∙ append_assoc were (outputs_from g.setup (plain g.setup before) es) (outputs_from g.setup (plain g.setup (before ++ es)) fs)
      ∙ ap (λ (m : Machine). were ++ (outputs_from g.setup (plain g.setup before) es ++ outputs_from g.setup m fs)) (machine_on g.setup (opening g.setup) before es)
      ∙ ap (λ (x : List OutDatagram). were ++ x) (sym (outputs_on g.setup (plain g.setup before) es fs));
}

-- no event more
pub took_end : (g h k : GatewayState) (es : List GatewayEvent) (were are then : List OutDatagram) → Took g es h were are → Took h [] k are then → Took g es k were then
took_end g h k es were are then a b = rw (append-nil es) at (took_on g h k es [] were are then a b)

pub took_nothing : (g g' : GatewayState) (were are : List OutDatagram) → Took g [] g' were are → Took g [] g' [] []
unfolding outputs_from
took_nothing g g' were are t = record { setup = t.setup; stands = t.stands; sent = λ before s. refl }

events_more : (events : List Event) (place : ℕ) (d : Event) → place < length events
    → before_place events (place + 1) ≡ before_place events place ++ event_of (get_or events place d) ∷ []
events_more events place d inside = ap (map event_of) (take_more events place d inside) ∙ map-append event_of (take place events) (get_or events place d ∷ [])

-- the event at a place more
pub took_next : (g h k : GatewayState) (events : List Event) (place : ℕ) (d : Event) (were are then : List OutDatagram) → place < length events
    → Took g (before_place events place) h were are → Took h (event_of (get_or events place d) ∷ []) k are then → Took g (before_place events (place + 1)) k were then
took_next g h k events place d were are then inside a b =
    rw (events_more events place d inside) (took_on g h k (before_place events place) (event_of (get_or events place d) ∷ []) were are then a b)

pub stands_for_nothing : (g : GatewayState) → IsSetUp g.setup → g.machine ≡ opening g.setup → g.outcomes ≡ [] → g.account ≡ no_account → Stands g []
unfolding machine_after are_taken outcomes_after account_after
stands_for_nothing g set_up is none empty = record {
  setup = set_up;
  taken = refl;
  alike = rw is (record { now = refl; endpoints = refl; history = recalls_itself [] });
  outcomes = none;
  account = empty;
}

-- the event at a place
pub at_place : (P : Event → Type 0) (events : List Event) (place : ℕ) (d : Event) → place < length events → P (get_or events place d) → IfSome (slice_get events place) P
at_place P events place d inside p = rw (slice_get-get_or events place d inside) p

-- ---- how a step ends

-- a gateway ends a step as the plain machine that it stands for says
pub ends_alike : (g : GatewayState) (setup : Setup) (events : List GatewayEvent) (event : GatewayEvent) (given : Option Refusal) → g.setup ≡ setup → Stands g events
    → Ends g.machine event given → Ends (plain setup events) event given
ends_alike g setup events event given is s e =
    rw (← is) (rw (refusal_alike g.machine (plain g.setup events) event s.alike, takes_alike g.machine (plain g.setup events) event s.alike) at e)
