-- Two machines that agree on a line agree on it after an event and after what is the line's own of it, and after lists of
-- both.
use Rattle.std.proofs.Common.{◌≡◌, ℕ, ◌<◌, ◌≤◌, Bool, true, false, ◌==◌, if◌then◌else◌, List, [], ◌∷◌, ◌++◌, length, map, filter, Option, refl, sym, ap, subst, ◌∙◌, append-nil, append_assoc, arith}
use Rattle.std.specs.Prelude.{not, nat_lt, is_none, option_map}
use Rattle.std.proofs.lemmas.Bool.{and_parts, ltb-true, ltb-false}
use Rattle.std.proofs.lemmas.Bool.Decides.{Decides-eqb}
use Rattle.std.specs.Cmp.Derive.{both_true}
use Rattle.std.specs.declared.net.socket_addr.SocketAddrV4.{SocketAddrV4}
use Rattle.mgcp_text.specs.Parts.{parts_of}
use Rattle.mgcp_text.proofs.PartingLaws.{parts-parts, short-parts_of}
use Rattle.transmission.specs.Texts.{texts_of, largest_datagram}
use Rattle.mgcp_text.specs.Reading.{read_text}
use Rattle.mg_line.specs.declared.phone.Act.{Act}
use Rattle.plain_machine.specs.declared.setup.Setup.{Setup}
use Rattle.plain_machine.specs.declared.endpoint.Endpoint.{Endpoint}
use Rattle.plain_machine.specs.Effect.{Effect, silently, afterwards}
use Rattle.plain_machine.specs.Event.{GatewayEvent, datagram, phone, tick}
use Rattle.plain_machine.specs.Message.{Sent}
use Rattle.plain_machine.specs.Machine.{Machine, told_in, endpoint_at, opening}
use Rattle.plain_machine.specs.Acting.{acted}
use Rattle.plain_machine.specs.Answering.{handled, took_all}
use Rattle.plain_machine.specs.Happening.{effect}
use Rattle.plain_machine.specs.Lists.{machine_after, sent_from, are_taken, plain}
use Rattle.plain_machine.specs.Refusing.{act_refusal, tick_refusal, refusal_of}
use Rattle.plain_machine.proofs.ListLaws.{machine_on}
use Rattle.machine_laws.proofs.EachLemmas.{Each, each_from_all}
use Rattle.machine_laws.specs.Belonging.{of_line}
use Rattle.machine_laws.specs.OwnEvents.{is_of_another, own_part, own_events}
use Rattle.machine_laws.specs.Isolation.{AsUnderItsOwn}
use Rattle.machine_laws.proofs.OwningLemmas.{of_both}
use Rattle.machine_laws.proofs.AnnouncementLaws.{acted_alike, acted_elsewhere, pass_alike}
use Rattle.machine_laws.proofs.ThinningLemmas.{none}
use Rattle.machine_laws.proofs.FittingWords.{Agree, Matches, TextsFit, EventFits, EventsFit}
use Rattle.machine_laws.proofs.TextLemmas.{in_machine, own_handled, other_handled}

-- Texts, each of which is one of its own

abbrev IsPart : List ℕ → Type 0
IsPart text = texts_of text ≡ text ∷ []

all_parts : (bytes : List ℕ) (texts : List (List ℕ)) → length bytes ≤ largest_datagram → Each (λ (part : List ℕ). parts_of part ≡ part ∷ []) texts
    → Each (λ (part : List ℕ). length part ≤ length bytes) texts → Each IsPart texts
unfolding texts_of
all_parts bytes [] small parts short = tt
all_parts bytes (text ∷ texts) small parts short =
    (ap (λ (b : Bool). if b then [] else parts_of text) (within (nat_lt largest_datagram (length text)) refl) ∙ parts.0, all_parts bytes texts small parts.1 short.1) where
      within : (b : Bool) → nat_lt largest_datagram (length text) ≡ b → b ≡ false
      within false e = refl
      within true e = absurd (let more : largest_datagram < length text = ltb-true _ _ e in let few = short.0 in omega (arith, more, few, small))

texts_are_parts : (bytes : List ℕ) → Each IsPart (texts_of bytes)
unfolding texts_of
texts_are_parts bytes = by_length (nat_lt largest_datagram (length bytes)) refl where
  by_length : (b : Bool) → nat_lt largest_datagram (length bytes) ≡ b → Each IsPart (if b then [] else parts_of bytes)
  by_length true e = tt
  by_length false e =
      all_parts bytes (parts_of bytes) (ltb-false _ _ e) (each_from_all (λ (part : List ℕ). parts_of part ≡ part ∷ []) (parts_of bytes) (parts-parts bytes))
      (each_from_all (λ (part : List ℕ). length part ≤ length bytes) (parts_of bytes) (short-parts_of bytes))

pub sent_on : (setup : Setup) (m : Machine) (es fs : List GatewayEvent) → sent_from setup m (es ++ fs) ≡ sent_from setup m es ++ sent_from setup (machine_after setup m es) fs
unfolding sent_from machine_after
sent_on setup m [] fs = refl
sent_on setup m (event ∷ es) fs =
    ap (λ (x : List Sent). (effect setup m event).sent ++ x) (sent_on setup (effect setup m event).value es fs)
    ∙ sym (append_assoc (effect setup m event).sent (sent_from setup (effect setup m event).value es) _)

module _ (setup : Setup) (keep : ℕ → Bool) (line : ℕ) where
  abbrev own_texts : List (List ℕ) → List (List ℕ)
  own_texts texts = filter (λ (text : List ℕ). not (is_of_another setup line text)) texts

  abbrev alone_after : Machine → SocketAddrV4 → List (List ℕ) → Machine
  alone_after alone source texts = machine_after setup alone (map (datagram source) texts)

  abbrev alone_sent : Machine → SocketAddrV4 → List (List ℕ) → List Sent
  alone_sent alone source texts = sent_from setup alone (map (datagram source) texts)

  -- what a list of events made of the one machine, and what another made of the other
  record GoOn (one : Machine) (sent : List Sent) (alone : Machine) (sent' : List Sent) : Type 0 where
    machines : Agree keep line one alone
    sent_same : of_line line sent ≡ of_line line sent'

  abbrev TextsMatch : Machine → Machine → SocketAddrV4 → List (List ℕ) → Type 0
  TextsMatch m alone source texts =
      GoOn (took_all setup m source texts).value (took_all setup m source texts).sent
      (alone_after alone source (own_texts texts)) (alone_sent alone source (own_texts texts))

  one_part : (m : Machine) (source : SocketAddrV4) (text : List ℕ) → IsPart text
      → ((effect setup m (datagram source text)).value ≡ (handled setup m source (read_text text)).value)
      × ((effect setup m (datagram source text)).sent ≡ (handled setup m source (read_text text)).sent)
  unfolding effect took_all
  one_part m source text is = (
    ap (λ (texts : List (List ℕ)). (took_all setup m source texts).value) is,
    ap (λ (texts : List (List ℕ)). (took_all setup m source texts).sent) is ∙ append-nil (handled setup m source (read_text text)).sent,
  )

  more_texts : (m alone : Machine) (source : SocketAddrV4) (text : List ℕ) (texts : List (List ℕ)) → IsPart text → Agree keep line m alone
      → TextsFit setup keep line m source (text ∷ texts)
      → ((next : Machine) → Agree keep line (handled setup m source (read_text text)).value next → TextsMatch (handled setup m source (read_text text)).value next source texts)
      → TextsMatch m alone source (text ∷ texts)
  unfolding took_all machine_after sent_from
  more_texts m alone source text texts part agree fits rest = by_other (is_of_another setup line text) refl where
    here : Effect Machine
    here = handled setup m source (read_text text)

    after : Effect Machine
    after = took_all setup here.value source texts

    kept : List (List ℕ)
    kept = own_texts texts

    by_other : (b : Bool) → is_of_another setup line text ≡ b
        → GoOn after.value (here.sent ++ after.sent) (alone_after alone source (if not b then text ∷ kept else kept)) (alone_sent alone source (if not b then text ∷ kept else kept))
    by_other true is =
        let h = other_handled setup keep line m alone source (read_text text) agree fits.0 is in
        let r = rest alone h.machines in
        record { machines = r.machines; sent_same = of_both line here.sent after.sent ∙ ap (λ (x : List Sent). x ++ of_line line after.sent) h.sent ∙ r.sent_same }
    by_other false is =
        let h = own_handled setup keep line m alone source (read_text text) agree fits.0 fits.1 is in
        let one = one_part alone source text part in
        let next : Machine = (handled setup alone source (read_text text)).value in
        let r = rest next h.machines in
        record {
          machines = subst (λ (x : Machine). Agree keep line after.value (alone_after x source kept)) (sym one.0) r.machines;
          sent_same = of_both line here.sent after.sent
              ∙ ap (λ (x : List Sent). x ++ of_line line after.sent) h.sent
              ∙ ap (λ (x : List Sent). of_line line (handled setup alone source (read_text text)).sent ++ x) r.sent_same
              ∙ sym (of_both line (handled setup alone source (read_text text)).sent (alone_sent next source kept))
              ∙ ap (λ (x : Machine). of_line line ((handled setup alone source (read_text text)).sent ++ alone_sent x source kept)) (sym one.0)
              ∙ ap (λ (x : List Sent). of_line line (x ++ alone_sent (effect setup alone (datagram source text)).value source kept)) (sym one.1);
        }

  no_texts : (m alone : Machine) (source : SocketAddrV4) → Agree keep line m alone → TextsMatch m alone source []
  unfolding took_all machine_after sent_from
  no_texts m alone source agree = record { machines = agree; sent_same = refl }

  texts_match : (m alone : Machine) (source : SocketAddrV4) (texts : List (List ℕ)) → Each IsPart texts → Agree keep line m alone → TextsFit setup keep line m source texts
      → TextsMatch m alone source texts
  texts_match m alone source [] parts agree fits = no_texts m alone source agree
  texts_match m alone source (text ∷ texts) parts agree fits =
      more_texts m alone source text texts parts.0 agree fits
      (λ next both. texts_match (handled setup m source (read_text text)).value next source texts parts.1 both fits.2)

  -- An event

  abbrev EventMatches : Machine → Machine → GatewayEvent → List GatewayEvent → Type 0
  EventMatches m alone event left =
      GoOn (effect setup m event).value (effect setup m event).sent (machine_after setup alone left) (sent_from setup alone left)

  one_event : (m alone : Machine) (event : GatewayEvent) → Matches keep line (effect setup m event) (effect setup alone event) → EventMatches m alone event (event ∷ [])
  unfolding machine_after sent_from
  one_event m alone event h = record { machines = h.machines; sent_same = h.sent ∙ ap (of_line line) (sym (append-nil (effect setup alone event).sent)) }

  no_event : (m alone : Machine) (event : GatewayEvent) → Matches keep line (effect setup m event) (silently alone) → EventMatches m alone event []
  unfolding machine_after sent_from
  no_event m alone event h = record { machines = h.machines; sent_same = h.sent }

  act_matches : (m alone : Machine) (n : ℕ) (act : Act) → Agree keep line m alone → Matches keep line (effect setup m (phone n act)) (effect setup alone (phone n act))
  unfolding effect
  act_matches m alone n act agree =
      subst (λ (now : ℕ). Matches keep line (told_in m (acted setup m.endpoints n m.now act)) (told_in alone (acted setup alone.endpoints n now act))) (sym agree.now)
      (in_machine setup keep line m alone _ _ agree (acted_alike setup line m.endpoints alone.endpoints n m.now act agree.endpoints))

  act_elsewhere : (m alone : Machine) (n : ℕ) (act : Act) → (n == line) ≡ false → Agree keep line m alone → Matches keep line (effect setup m (phone n act)) (silently alone)
  unfolding effect
  act_elsewhere m alone n act apart agree =
      let h = acted_elsewhere setup line m.endpoints alone.endpoints n m.now act apart agree.endpoints in
      record { machines = record { now = agree.now; endpoints = h.endpoints; history = agree.history }; sent = h.sent }

  phone_matches : (m alone : Machine) (n : ℕ) (act : Act) → Agree keep line m alone → EventMatches m alone (phone n act) (own_part setup line (phone n act))
  phone_matches m alone n act agree = by_line (n == line) refl where
    by_line : (b : Bool) → (n == line) ≡ b → EventMatches m alone (phone n act) (if b then phone n act ∷ [] else [])
    by_line true is = one_event m alone (phone n act) (act_matches m alone n act agree)
    by_line false is = no_event m alone (phone n act) (act_elsewhere m alone n act is agree)

  datagram_matches : (m alone : Machine) (source : SocketAddrV4) (bytes : List ℕ) → Agree keep line m alone → TextsFit setup keep line m source (texts_of bytes)
      → EventMatches m alone (datagram source bytes) (own_part setup line (datagram source bytes))
  unfolding effect
  datagram_matches m alone source bytes agree fits = texts_match m alone source (texts_of bytes) (texts_are_parts bytes) agree fits

  tick_matches : (m alone : Machine) (moment : ℕ) → Agree keep line m alone → Matches keep line (effect setup m (tick moment)) (effect setup alone (tick moment))
  unfolding effect
  tick_matches m alone moment agree =
      let h = pass_alike setup line m.endpoints alone.endpoints moment agree.endpoints in
      record { machines = record { now = refl; endpoints = h.endpoints; history = agree.history }; sent = h.sent }

  event_matches : (m alone : Machine) (event : GatewayEvent) → Agree keep line m alone → EventFits setup keep line m event
      → EventMatches m alone event (own_part setup line event)
  event_matches m alone (datagram source bytes) agree fits = datagram_matches m alone source bytes agree fits
  event_matches m alone (phone n act) agree fits = phone_matches m alone n act agree
  event_matches m alone (tick moment) agree fits = one_event m alone (tick moment) (tick_matches m alone moment agree)

  -- A list of events

  abbrev Isolated : Machine → Machine → List GatewayEvent → Type 0
  Isolated m alone events =
      GoOn (machine_after setup m events) (sent_from setup m events)
      (machine_after setup alone (own_events setup line events)) (sent_from setup alone (own_events setup line events))

  isolated : (m alone : Machine) (events : List GatewayEvent) → Agree keep line m alone → EventsFit setup keep line m events → Isolated m alone events
  unfolding machine_after sent_from
  isolated m alone [] agree fits = record { machines = agree; sent_same = refl }
  isolated m alone (event ∷ events) agree fits =
      let h = event_matches m alone event agree fits.0 in
      let here = own_part setup line event in
      let rest = own_events setup line events in
      let next : Machine = machine_after setup alone here in
      let r = isolated (effect setup m event).value next events h.machines fits.1 in
      record {
        machines = subst (λ (x : Machine). Agree keep line (machine_after setup (effect setup m event).value events) x) (sym (machine_on setup alone here rest)) r.machines;
        sent_same = of_both line (effect setup m event).sent (sent_from setup (effect setup m event).value events)
            ∙ ap (λ (x : List Sent). x ++ of_line line (sent_from setup (effect setup m event).value events)) h.sent_same
            ∙ ap (λ (x : List Sent). of_line line (sent_from setup alone here) ++ x) r.sent_same
            ∙ sym (of_both line (sent_from setup alone here) (sent_from setup next rest))
            ∙ ap (of_line line) (sym (sent_on setup alone here rest));
      }

  -- None of them is refused

  taken_both : (m : Machine) (es fs : List GatewayEvent) → are_taken setup m es ≡ true → are_taken setup (machine_after setup m es) fs ≡ true → are_taken setup m (es ++ fs) ≡ true
  unfolding are_taken machine_after
  taken_both m [] fs h k = k
  taken_both m (event ∷ es) fs h k =
      let both = and_parts (is_none (refusal_of m event)) (are_taken setup (effect setup m event).value es) h in
      both_true both.0 (taken_both (effect setup m event).value es fs both.1 k)

  datagrams_taken : (m : Machine) (source : SocketAddrV4) (texts : List (List ℕ)) → are_taken setup m (map (datagram source) texts) ≡ true
  unfolding are_taken refusal_of
  datagrams_taken m source [] = refl
  datagrams_taken m source (text ∷ texts) = datagrams_taken (effect setup m (datagram source text)).value source texts

  own_taken : (m alone : Machine) (event : GatewayEvent) → Agree keep line m alone → is_none (refusal_of m event) ≡ true
      → are_taken setup alone (own_part setup line event) ≡ true
  unfolding are_taken refusal_of
  own_taken m alone (datagram source bytes) agree fine = datagrams_taken alone source (own_texts (texts_of bytes))
  own_taken m alone (tick moment) agree fine =
      both_true {t = true} (ap (λ (now : ℕ). is_none (tick_refusal now moment)) agree.now ∙ fine) refl
  own_taken m alone (phone n act) agree fine = by_line (n == line) refl where
    by_line : (b : Bool) → (n == line) ≡ b → are_taken setup alone (if b then phone n act ∷ [] else []) ≡ true
    by_line false is = refl
    by_line true is =
        let same : n ≡ line = (Decides-eqb n line).0 is in
        let stands : endpoint_at alone.endpoints n ≡ endpoint_at m.endpoints n =
        ap (endpoint_at alone.endpoints) same ∙ agree.endpoints.endpoint ∙ ap (endpoint_at m.endpoints) (sym same) in
        both_true {t = true} (ap (λ (found : Option Endpoint). is_none (act_refusal found act)) stands ∙ fine) refl

  all_taken : (m alone : Machine) (events : List GatewayEvent) → Agree keep line m alone → EventsFit setup keep line m events → are_taken setup m events ≡ true
      → are_taken setup alone (own_events setup line events) ≡ true
  unfolding are_taken
  all_taken m alone [] agree fits taken = refl
  all_taken m alone (event ∷ events) agree fits taken =
      let both = and_parts (is_none (refusal_of m event)) (are_taken setup (effect setup m event).value events) taken in
      let h = event_matches m alone event agree fits.0 in
      taken_both alone (own_part setup line event) (own_events setup line events) (own_taken m alone event agree both.0)
      (all_taken (effect setup m event).value (machine_after setup alone (own_part setup line event)) events h.machines fits.1 both.1)

  -- From the opening on

  pub as_under_its_own : (events : List GatewayEvent) → EventsFit setup keep line (opening setup) events → AsUnderItsOwn setup line events
  as_under_its_own events fits =
      let opens : Agree keep line (opening setup) (opening setup) = record { now = refl; endpoints = record { own = refl; endpoint = refl }; history = none } in
      let h = isolated (opening setup) (opening setup) events opens fits in
      let same : endpoint_at (plain setup events).endpoints line ≡ endpoint_at (plain setup (own_events setup line events)).endpoints line = sym h.machines.endpoints.endpoint in
      record {
        hook = ap (option_map (λ (s : Endpoint). s.line.hook)) same;
        signals = ap (option_map (λ (s : Endpoint). s.line.signals)) same;
        connections = ap (option_map (λ (s : Endpoint). s.connections.places)) same;
        lost = ap (option_map (λ (s : Endpoint). s.line.quarantined.lost)) same;
        sent = h.sent_same;
        taken = λ fine. all_taken (opening setup) (opening setup) events opens fits fine;
      }

-- What each text of a datagram does, and to the history.

-- Texts in their order

-- one thing after another, put together in another way
after_after : (first : Effect Machine) (f : Machine → Effect Machine) (g : Machine → Effect Machine) → afterwards (afterwards first f) g ≡ afterwards first (λ (m : Machine). afterwards (f m) g)
after_after first f g =
    ap (λ (x : List Sent). let e : Effect Machine = record { value = (g (f first.value).value).value; sent = x } in e)
    (append_assoc first.sent (f first.value).sent (g (f first.value).value).sent)

pub texts_at : (setup : Setup) (m : Machine) (source : SocketAddrV4) (before behind : List (List ℕ)) (text : List ℕ)
    → took_all setup m source (before ++ text ∷ behind)
    ≡ afterwards (took_all setup m source before) (λ (now : Machine). afterwards (handled setup now source (read_text text)) (λ (next : Machine). took_all setup next source behind))
unfolding took_all
texts_at setup m source [] behind text = refl
texts_at setup m source (first ∷ before) behind text =
    ap (λ (rest : Effect Machine). afterwards (handled setup m source (read_text first)) (λ (next : Machine). rest))
    (texts_at setup (handled setup m source (read_text first)).value source before behind text)
    ∙ sym (after_after (handled setup m source (read_text first)) (λ (next : Machine). took_all setup next source before)
    (λ (now : Machine). afterwards (handled setup now source (read_text text)) (λ (next : Machine). took_all setup next source behind)))

-- Events

pub datagram_does : (setup : Setup) (m : Machine) (source : SocketAddrV4) (bytes : List ℕ) → effect setup m (datagram source bytes) ≡ took_all setup m source (texts_of bytes)
unfolding effect
datagram_does setup m source bytes = refl
