-- What holds of all that arrived holds of each text as it comes.
use Rattle.std.proofs.Common.{◌≡◌, ℕ, List, [], ◌∷◌, ◌++◌, map, Option, Some, None, refl, sym, ap, ◌∙◌, ◌≢◌, Bool, true, false, ◌&&◌, if◌then◌else◌, subst}
use Rattle.std.specs.Prelude.{flat_map, fold, IfSome, not}
use Rattle.std.proofs.lemmas.Grind.{flat_map-append}
use Rattle.std.proofs.lemmas.List.{map-append}
use Rattle.std.specs.declared.net.socket_addr.SocketAddrV4.{SocketAddrV4}
use Rattle.transmission.specs.Arrival.{Arrival}
use Rattle.mgcp_text.specs.declared.message.Message.TheVariants as messages
use Rattle.mgcp_text.specs.Reading.{Outcome, message, no_header, bad_version, bad_body, read_text}
use Rattle.plain_machine.specs.declared.setup.Setup.{Setup}
use Rattle.plain_machine.specs.Event.{GatewayEvent, datagram, phone, tick}
use Rattle.plain_machine.specs.Machine.{Machine}
use Rattle.transmission.specs.Texts.{texts_of}
use Rattle.plain_machine.specs.Arriving.{arrival, arrivals_at, arrivals_from, clock_after, TextArrival}
use Rattle.plain_machine.specs.Answering.{Transaction, transaction_of, handled}
use Rattle.plain_machine.specs.Transactions.{command_arrival, arriving, commands_in, commands_with, commands_from, Asked, asked_as, asked}
use Rattle.plain_machine.specs.Happening.{effect}
use Rattle.plain_machine.proofs.EffectLaws.{handled_now, effect_now}
use Rattle.std.proofs.lemmas.Bool.{and_parts}
use Rattle.transmission.specs.Memory.{most_firsts}
use Rattle.transmission.specs.Firsts.{Kind, a_first, a_repeat, lost, kind_of, firsts_with, firsts_of}
use Rattle.transmission.specs.Answers.{is_confirmed}
use Rattle.transmission.specs.Looking.{repeat, confirmed, full, look_of, told_as}
use Rattle.machine_laws.proofs.TransactionLaws.{Keeps, looked, arrived_on, event_on}
use Rattle.machine_laws.proofs.EachLemmas.{Each, each_front, each_back}
use Rattle.machine_laws.specs.Apart.{is_lost, none_lost}
use Rattle.machine_laws.proofs.FittingWords.{Fits, TextsFit, EventFits, EventsFit}

-- The answers that are sent are those that the commands which arrived get.

-- what is asked, as a list

abbrev asked_by : Machine → SocketAddrV4 → Option Transaction → List Asked
asked_by m source None = []
asked_by m source (Some t) = (record { source = source; moment = m.now; id = t.id; confirms = t.confirms }) ∷ []

asked_is : (setup : Setup) (m : Machine) (source : SocketAddrV4) (outcome : Outcome) → asked_as source m.now outcome ≡ asked_by m source (transaction_of setup m outcome)
asked_is setup m source no_header = refl
asked_is setup m source (bad_version id) = refl
asked_is setup m source (bad_body id) = refl
asked_is setup m source (message (messages.Command verb id name params body)) = refl
asked_is setup m source (message (messages.Response code id params body)) = refl

-- The commands by what arrived alone

-- what is the same of a command as it arrives and as it is asked
abbrev Matches : {X : Type 0} → (Arrival → X) → (Asked → X) → Type 0
Matches F G = (m : Machine) (source : SocketAddrV4) (t : Transaction) → F (command_arrival m t) ≡ G (record { source = source; moment = m.now; id = t.id; confirms = t.confirms })

found_matches : {X : Type 0} (F : Arrival → X) (G : Asked → X) → Matches F G → (m : Machine) (source : SocketAddrV4) (found : Option Transaction) → map F (arriving m found) ≡ map G (asked_by m source found)
found_matches F G same m source None = refl
found_matches F G same m source (Some t) = rw (same m source t) refl

texts_match : {X : Type 0} (F : Arrival → X) (G : Asked → X) → Matches F G → (setup : Setup) (m : Machine) (source : SocketAddrV4) (texts : List (List ℕ))
    → map F (commands_in setup m source texts) ≡ map G (flat_map asked (map (arrival m.now source) texts))
unfolding commands_in
texts_match F G same setup m source [] = refl
texts_match F G same setup m source (text ∷ texts) =
    let found = transaction_of setup m (read_text text) in
    let next = (handled setup m source (read_text text)).value in
    map-append F (arriving m found) (commands_in setup next source texts)
    ∙ ap (λ x. x ++ map F (commands_in setup next source texts)) (found_matches F G same m source found ∙ ap (map G) (sym (asked_is setup m source (read_text text))))
    ∙ ap (λ x. map G (asked (arrival m.now source text)) ++ x) (texts_match F G same setup next source texts)
    ∙ ap (λ (now : ℕ). map G (asked (arrival m.now source text)) ++ map G (flat_map asked (map (arrival now source) texts))) (handled_now setup m source (read_text text))
    ∙ sym (map-append G (asked (arrival m.now source text)) (flat_map asked (map (arrival m.now source) texts)))

event_matches : {X : Type 0} (F : Arrival → X) (G : Asked → X) → Matches F G → (setup : Setup) (m : Machine) (event : GatewayEvent)
    → map F (commands_with setup m event) ≡ map G (flat_map asked (arrivals_at m.now event))
event_matches F G same setup m (datagram source bytes) = texts_match F G same setup m source (texts_of bytes)
event_matches F G same setup m (phone line act) = refl
event_matches F G same setup m (tick moment) = refl

pub events_match : {X : Type 0} (F : Arrival → X) (G : Asked → X) → Matches F G → (setup : Setup) (m : Machine) (events : List GatewayEvent)
    → map F (commands_from setup m events) ≡ map G (flat_map asked (arrivals_from m.now events))
unfolding commands_from arrivals_from
events_match F G same setup m [] = refl
events_match F G same setup m (event ∷ events) =
    let next = (effect setup m event).value in
    let later = arrivals_from (clock_after m.now event) events in
    map-append F (commands_with setup m event) (commands_from setup next events)
    ∙ ap (λ x. x ++ map F (commands_from setup next events)) (event_matches F G same setup m event)
    ∙ ap (λ x. map G (flat_map asked (arrivals_at m.now event)) ++ x) (events_match F G same setup next events)
    ∙ ap (λ (now : ℕ). map G (flat_map asked (arrivals_at m.now event)) ++ map G (flat_map asked (arrivals_from now events))) (effect_now setup m event)
    ∙ sym (map-append G (flat_map asked (arrivals_at m.now event)) (flat_map asked later))
    ∙ ap (map G) (sym (flat_map-append asked (arrivals_at m.now event) later))

-- None is lost

abbrev NoneLost : List Arrival → List Arrival → Type 0
NoneLost firsts arrivals = none_lost most_firsts firsts arrivals ≡ true

none_both : (firsts some more : List Arrival) → NoneLost firsts (some ++ more)
    → NoneLost firsts some × NoneLost (fold (firsts_with most_firsts) firsts some) more
unfolding none_lost
none_both firsts [] more none = (refl, none)
none_both firsts (a ∷ some) more none =
    let both = and_parts (not (is_lost (kind_of most_firsts firsts a))) (none_lost most_firsts (firsts_with most_firsts firsts a) (some ++ more)) none in
    let rest = none_both (firsts_with most_firsts firsts a) some more both.1 in
    (ap (λ (b : Bool). b && none_lost most_firsts (firsts_with most_firsts firsts a) some) both.0 ∙ rest.0, rest.1)

first_kept : (firsts : List Arrival) (a : Arrival) → NoneLost firsts (a ∷ []) → not (is_lost (kind_of most_firsts firsts a)) ≡ true
unfolding none_lost
first_kept firsts a none = (and_parts (not (is_lost (kind_of most_firsts firsts a))) true none).0

fold_on : (firsts some more : List Arrival)
    → fold (firsts_with most_firsts) firsts (some ++ more) ≡ fold (firsts_with most_firsts) (fold (firsts_with most_firsts) firsts some) more
fold_on firsts [] more = refl
fold_on firsts (a ∷ some) more = fold_on (firsts_with most_firsts firsts a) some more

not_full : (id : ℕ) (kind : Kind) → not (is_lost kind) ≡ true → told_as id kind ≢ full
not_full id a_first has = λ e. cc
not_full id lost has = absurd cc
not_full id (a_repeat copied) has = by_confirmed (is_confirmed id copied.after) where
  by_confirmed : (b : Bool) → (if b then confirmed else repeat copied.original.answer) ≢ full
  by_confirmed true = λ e. cc
  by_confirmed false = λ e. cc

module _ (setup : Setup) (keep : ℕ → Bool) (line : ℕ) where
  abbrev AllFit : List TextArrival → Type 0
  AllFit arrivals = Each (λ (a : TextArrival). Fits setup keep line a.outcome) arrivals

  finds_room : (m : Machine) (earlier : List Arrival) (found : Option Transaction) → Keeps m earlier
      → NoneLost (firsts_of most_firsts earlier) (arriving m found) → IfSome found (λ t. look_of most_firsts m.history t.id m.now ≢ full)
  finds_room m earlier None keeps none = tt
  finds_room m earlier (Some t) keeps none =
      λ e. not_full t.id (kind_of most_firsts (firsts_of most_firsts earlier) (command_arrival m t))
      (first_kept (firsts_of most_firsts earlier) (command_arrival m t) none) (sym (looked m t earlier keeps) ∙ e)

  texts_fit : (m : Machine) (source : SocketAddrV4) (texts : List (List ℕ)) (earlier : List Arrival) → Keeps m earlier → AllFit (map (arrival m.now source) texts)
      → NoneLost (firsts_of most_firsts earlier) (commands_in setup m source texts) → TextsFit setup keep line m source texts
  unfolding commands_in handled
  texts_fit m source [] earlier keeps fit none = tt
  texts_fit m source (text ∷ texts) earlier keeps fit none =
      let found = transaction_of setup m (read_text text) in
      let next : Machine = (handled setup m source (read_text text)).value in
      let both = none_both (firsts_of most_firsts earlier) (arriving m found) (commands_in setup next source texts) none in (
        fit.0,
        finds_room m earlier found keeps both.0,
        texts_fit next source texts (earlier ++ arriving m found) (arrived_on found setup m source (read_text text) earlier keeps)
            (subst (λ (now : ℕ). AllFit (map (arrival now source) texts)) (sym (handled_now setup m source (read_text text))) fit.1)
            (subst (λ (firsts : List Arrival). NoneLost firsts (commands_in setup next source texts)) (sym (fold_on [] earlier (arriving m found))) both.1),
      )

  event_fits : (m : Machine) (event : GatewayEvent) (earlier : List Arrival) → Keeps m earlier → AllFit (arrivals_at m.now event)
      → NoneLost (firsts_of most_firsts earlier) (commands_with setup m event) → EventFits setup keep line m event
  event_fits m (datagram source bytes) earlier keeps fit none = texts_fit m source (texts_of bytes) earlier keeps fit none
  event_fits m (phone other act) earlier keeps fit none = tt
  event_fits m (tick moment) earlier keeps fit none = tt

  pub events_fit : (m : Machine) (events : List GatewayEvent) (earlier : List Arrival) → Keeps m earlier → AllFit (arrivals_from m.now events)
      → NoneLost (firsts_of most_firsts earlier) (commands_from setup m events) → EventsFit setup keep line m events
  unfolding commands_from arrivals_from
  events_fit m [] earlier keeps fit none = tt
  events_fit m (event ∷ events) earlier keeps fit none =
      let next : Machine = (effect setup m event).value in
      let fits : TextArrival → Type 0 = λ a. Fits setup keep line a.outcome in
      let both = none_both (firsts_of most_firsts earlier) (commands_with setup m event) (commands_from setup next events) none in (
        event_fits m event earlier keeps (each_front fits (arrivals_at m.now event) (arrivals_from (clock_after m.now event) events) fit) both.0,
        events_fit next events (earlier ++ commands_with setup m event) (event_on setup m event earlier keeps)
            (subst (λ (now : ℕ). AllFit (arrivals_from now events)) (sym (effect_now setup m event))
            (each_back fits (arrivals_at m.now event) (arrivals_from (clock_after m.now event) events) fit))
            (subst (λ (firsts : List Arrival). NoneLost firsts (commands_from setup next events)) (sym (fold_on [] earlier (commands_with setup m event))) both.1),
      )
