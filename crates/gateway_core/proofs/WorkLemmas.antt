-- What is done at an event, piece by piece.
use Rattle.std.proofs.Common.{◌≡◌, ℕ, ◌+◌, Bool, true, false, not, List, [], ◌∷◌, ◌++◌, length, map, Option, Some, None, refl, sym, ap, ◌∙◌, append-nil, arith}
use Rattle.std.specs.Prelude.{is_some, ◌==◌}
use Rattle.std.proofs.lemmas.List.FromFn.{length-map-range_with_len}
use Rattle.transmission.specs.Kept.{HistoryState, settled_at as history_at, from_young}
use Rattle.mg_line.specs.declared.phone.Act.{Act}
use Rattle.mg_line.specs.Acting.{is_heeded}
use Rattle.mg_line.proofs.HeedLemmas.{unheeded}
use Rattle.timers.specs.declared.due_item.DueItem.{DueItem}
use Rattle.plain_machine.specs.declared.setup.Setup.{Setup}
use Rattle.plain_machine.specs.declared.endpoint.Endpoint.{Endpoint}
use Rattle.transmission.specs.declared.output.OutDatagram.{OutDatagram}
use Rattle.machine_rules.specs.declared.refusal.Refusal.{Refusal}
use Rattle.machine_rules.specs.declared.refusal.Refusal.TheVariants.{OutOfMemory}
use Rattle.plain_machine.specs.Effect.{Effect, silently}
use Rattle.plain_machine.specs.Setup.{IsSetUp}
use Rattle.plain_machine.specs.Event.{GatewayEvent, datagram, phone, tick}
use Rattle.plain_machine.specs.Message.{Sent, datagram_of, datagrams_of}
use Rattle.plain_machine.specs.declared.label.OutMessage.{OutMessage}
use Rattle.gateway_core.specs.declared.sent.SentMessage.{SentMessage}
use Rattle.plain_machine.specs.declared.given_up.GivenUpCommand.{GivenUpCommand}
use Rattle.plain_machine.specs.Labelling.{messages_of}
use Rattle.gateway_core.specs.Labelling.{told_of, sent_message, labels_of}
use Rattle.plain_machine.specs.GivingUp.{given_up_until}
use Rattle.plain_machine.proofs.GivingLaws.{given_up_none}
use Rattle.plain_machine.specs.Notifying.{noted}
use Rattle.plain_machine.specs.Machine.{Endpoints, Machine, told_in, endpoint_at, turned_at, on_line, opening_endpoint, opening}
use Rattle.plain_machine.specs.Acting.{acted_on}
use Rattle.transmission.specs.Texts.{texts_of}
use Rattle.plain_machine.specs.Answering.{took_all}
use Rattle.plain_machine.specs.Falling.{due_by, is_due, pass}
use Rattle.transmission.specs.Packing.{packed}
use Rattle.plain_machine.specs.Happening.{ticked, effect}
use Rattle.plain_machine.specs.Refusing.{refusal_of, is_unheeded, takes_none, ends, Ends}
use Rattle.plain_machine.proofs.FallingLaws.{pass_none}
use Rattle.gateway_core.specs.declared.state.State.{State}
use Rattle.endpoints.specs.StoreState.{StoreState, committed}
use Rattle.gateway_core.specs.Sound.{IsSound}
use Rattle.endpoints.specs.Tells.{Goes}
use Rattle.gateway_core.specs.State.{Found, machine_in, found_in, CanGoBack, Happened, purged_in, PutsOut}
use Rattle.gateway_core.proofs.StateLemmas.{back_still}

-- What happened

-- this came to the store
store_back : (change : Effect Endpoints) (was is : State) (sent : List OutMessage) → Goes change was.store is.store [] sent → is.history ≡ was.history → CanGoBack sent was is
store_back change was is sent goes history = back_still sent was is (rw (history, goes.found) refl)

pub happened_goes : (change : Effect Endpoints) (was is : State) (none sent : List OutMessage) → none ≡ [] → Goes change was.store is.store none sent → is.clock ≡ was.clock → is.history ≡ was.history
    → Happened (told_in (machine_in was) change) was is sent
happened_goes change was is none sent empty goes clock history = record {
  machine = rw (clock, history, goes.endpoints) refl;
  found = store_back change was is sent (rw empty at goes) history;
  sent = goes.sent ∙ ap (λ (x : List OutMessage). x ++ messages_of change.sent) empty;
}

pub happened_tick : (change : Effect Endpoints) (was is : State) (moment : ℕ) (none sent : List OutMessage) → none ≡ [] → Goes change was.store is.store none sent → is.clock ≡ moment → is.history ≡ was.history
    → Happened (ticked (machine_in was) moment change) was is sent
happened_tick change was is moment none sent empty goes clock history = record {
  machine = rw (clock, history, goes.endpoints) refl;
  found = store_back change was is sent (rw empty at goes) history;
  sent = goes.sent ∙ ap (λ (x : List OutMessage). x ++ messages_of change.sent) empty;
}

-- nothing is sent
pub happened_silently : (effect : Effect Machine) (was is : State) (sent : List OutMessage) → sent ≡ [] → machine_in is ≡ effect.value → effect.sent ≡ [] → Happened effect was is sent
happened_silently effect was is sent none machine silent = rw none (record {
  machine = machine;
  found = tt;
  sent = rw silent refl;
})

none_due : (found : Option DueItem) → not (is_some found) ≡ true → found ≡ None
none_due None e = refl
none_due (Some item) e = absurd cc

pub nothing_passes : (setup : Setup) (endpoints : Endpoints) (moment : ℕ) → not (is_due endpoints moment) ≡ true → pass setup endpoints moment ≡ silently endpoints
nothing_passes setup endpoints moment idle = pass_none setup endpoints moment (none_due (due_by endpoints moment) idle)

-- an act that isn't heeded was passed over
pub happened_passing : (change : Effect Endpoints) (was is : State) (sent : List OutMessage) → sent ≡ [] → change ≡ silently is.store.endpoints → is.clock ≡ was.clock → is.history ≡ was.history
    → Happened (told_in (machine_in was) change) was is sent
happened_passing change was is sent none goes clock history = happened_silently _ was is sent none (rw (clock, history, goes) refl) (rw goes refl)

-- a tick up to which nothing is due
pub happened_idly : (setup : Setup) (was is : State) (moment : ℕ) (sent : List OutMessage) → sent ≡ [] → is_due was.store.endpoints moment ≡ false
    → machine_in is ≡ record (machine_in was) { now = moment } → Happened (ticked (machine_in was) moment (pass setup was.store.endpoints moment)) was is sent
happened_idly setup was is moment sent none idle machine =
    let nothing = nothing_passes setup was.store.endpoints moment (ap not idle) in
    happened_silently _ was is sent none (machine ∙ rw nothing refl) (rw nothing refl)

-- What takes no memory sends nothing

not_true : (b : Bool) → not b ≡ true → b ≡ false
not_true true e = absurd cc
not_true false e = refl

unheeded_silent : (setup : Setup) (endpoints : Endpoints) (line moment : ℕ) (act : Act) (found : Option Endpoint) → is_unheeded found act ≡ true
    → (turned_at found endpoints line (acted_on setup line moment act)).sent ≡ []
unfolding noted
unheeded_silent setup endpoints line moment act None free = refl
unheeded_silent setup endpoints line moment act (Some endpoint) free = rw (unheeded endpoint.line act (not_true (is_heeded endpoint.line act) free) moment) refl

free_silent : (setup : Setup) (m : Machine) (event : GatewayEvent) → takes_none m event ≡ true → (effect setup m event).sent ≡ []
unfolding effect took_all texts_of on_line
free_silent setup m (datagram source bytes) free = rw free refl
free_silent setup m (phone line act) free = unheeded_silent setup m.endpoints line m.now act (endpoint_at m.endpoints line) free
free_silent setup m (tick moment) free = rw (nothing_passes setup m.endpoints moment free) refl

-- What goes out

apart : (sent : List Sent) → map (λ (message : OutMessage). message.datagram) (messages_of sent) ≡ datagrams_of sent
apart [] = refl
apart (one ∷ more) = ap (λ (x : List OutDatagram). datagram_of one ∷ x) (apart more)

told_apart : (sent : List Sent) → map told_of (messages_of sent) ≡ labels_of sent
told_apart [] = refl
told_apart (one ∷ more) = ap (λ (x : List SentMessage). sent_message one ∷ x) (told_apart more)

nothing_sent : (sent : List Sent) → messages_of sent ≡ [] → sent ≡ []
nothing_sent [] none = refl
nothing_sent (one ∷ more) none = absurd cc

-- nothing is to go out
pub puts_nothing : (effect : Effect Machine) (was is : State) (sent : List OutMessage) (outputs : List OutDatagram) → sent ≡ [] → Happened effect was is sent → PutsOut effect is outputs outputs
puts_nothing effect was is sent outputs none happened =
    let empty : effect.sent ≡ [] = nothing_sent effect.sent (sym happened.sent ∙ none) in
    record { machine = happened.machine; outputs = sym (append-nil outputs) ∙ ap (λ (x : List Sent). outputs ++ packed (datagrams_of x)) (sym empty) }

pub tells_nothing : (effect : Effect Machine) (was is : State) (sent : List OutMessage) (told : List SentMessage) → sent ≡ [] → told ≡ [] → Happened effect was is sent → told ≡ labels_of effect.sent
tells_nothing effect was is sent told none silent happened =
    silent ∙ ap labels_of (sym (nothing_sent effect.sent (sym happened.sent ∙ none)))

-- this goes out
pub puts_out : (effect : Effect Machine) (was is : State) (sent : List OutMessage) (datagrams were are : List OutDatagram) → Happened effect was is sent
    → datagrams ≡ map (λ (message : OutMessage). message.datagram) sent → are ≡ were ++ packed datagrams → PutsOut effect is were are
puts_out effect was is sent datagrams were are happened parted more = record {
  machine = happened.machine;
  outputs = more ∙ ap (λ (x : List OutDatagram). were ++ packed x)
      (parted ∙ ap (map (λ (message : OutMessage). message.datagram)) happened.sent ∙ apart effect.sent);
}

pub tells_labels : (effect : Effect Machine) (was is : State) (sent : List OutMessage) (told : List SentMessage) → Happened effect was is sent → told ≡ map told_of sent → told ≡ labels_of effect.sent
tells_labels effect was is sent told happened parted = parted ∙ ap (map told_of) happened.sent ∙ told_apart effect.sent

-- memory is refused to what is to go out

not_empty : (sent : List OutMessage) → (length sent == 0) ≡ false → sent ≡ [] → ⊥
not_empty [] some none = absurd cc
not_empty (first ∷ more) some none = absurd cc

by_free : (refusal : Option Refusal) (free : Bool) → ends refusal free None → (free ≡ true → ⊥) → ends refusal free (Some OutOfMemory)
by_free None false e taken = refl
by_free None true e taken = absurd (taken refl)
by_free (Some refusal) free e taken = absurd cc

pub ends_refused : (setup : Setup) (event : GatewayEvent) (was is : State) (sent : List OutMessage) (given : Option Refusal) → (length sent == 0) ≡ false → given ≡ Some OutOfMemory
    → Ends (machine_in was) event None → Happened (effect setup (machine_in was) event) was is sent → Ends (machine_in was) event given
ends_refused setup event was is sent given some is_given e happened =
    rw is_given (by_free (refusal_of (machine_in was) event) (takes_none (machine_in was) event) e
    (λ free. not_empty sent some (happened.sent ∙ ap messages_of (free_silent setup (machine_in was) event free))))

-- what is given up until nothing is due
pub gives_up_nothing : (setup : Setup) (endpoints : Endpoints) (moment : ℕ) (were : List GivenUpCommand) → is_due endpoints moment ≡ false
    → were ≡ were ++ given_up_until setup endpoints moment
gives_up_nothing setup endpoints moment were idle =
    sym (append-nil were) ∙ ap (λ (x : List GivenUpCommand). were ++ x) (sym (given_up_none setup endpoints moment (none_due (due_by endpoints moment) (ap not idle))))

-- Openings

pub opening_sound : (setup : Setup) (m : Machine) → IsSetUp setup → m ≡ opening setup → IsSound setup m
opening_sound setup m set_up is = record {
  set_up = set_up;
  all = ap (λ (x : Machine). length x.endpoints.list) is ∙ length-map-range_with_len (opening_endpoint setup) 1 setup.names.lines;
  moment = rw is (omega arith);
}

-- what an event did, with nothing saved any more
pub puts_settled : (effect : Effect Machine) (mid is : State) (were are : List OutDatagram) → is.clock ≡ mid.clock → is.history ≡ mid.history → is.store ≡ committed mid.store.endpoints
    → PutsOut effect mid were are → PutsOut effect is were are
puts_settled effect mid is were are clock history store p = record { machine = rw (clock, history, store) p.machine; outputs = p.outputs }

-- an event failed: the machine is as it was, but for a purge
pub as_found : (was : State) (store : StoreState) (history : HistoryState) (between : State)
    → found_in between ≡ record { endpoints = was.store.endpoints; history = from_young was.clock was.history.kept }
    → store ≡ committed between.store.found → history ≡ history_at between.history.purged between.history.settled
    → ◌≡◌ {A = Machine} (record { now = was.clock; endpoints = store.endpoints; history = history.kept }) (purged_in (machine_in was))
as_found was store history between found store_back history_back =
    rw (store_back, history_back) (ap (λ (f : Found). let m : Machine = record { now = was.clock; endpoints = f.endpoints; history = f.history } in m) found)
