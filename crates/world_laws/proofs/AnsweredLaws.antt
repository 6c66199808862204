-- A command that was answered isn't in flight again.
use Rattle.std.proofs.Common.{◌≡◌, ◌≢◌, ℕ, ◌<◌, ◌≤◌, Bool, true, false, ◌==◌, if◌then◌else◌, List, [], ◌∷◌, ◌++◌, length, map, Option, Some, None, inl, inr, refl, sym, ap, ◌∙◌, subst, arith, append-nil, append_assoc}
use Rattle.std.specs.Prelude.{nat_lt, option_map}
use Rattle.std.specs.Option.{unwrap_or}
use Rattle.std.proofs.lemmas.Bool.{eqb-true, eqb-false, ltb-true, ltb-false}
use Rattle.std.proofs.lemmas.Bool.Decides.{Decides-eqb}
use Rattle.std.proofs.lemmas.Option.{none-some}
use Rattle.std.specs.declared.net.socket_addr.SocketAddrV4.{SocketAddrV4}
use Rattle.mgcp_text.specs.Parts.{parts_of}
use Rattle.mgcp_text.proofs.PartingLaws.{parts-parts, short-parts_of}
use Rattle.mgcp_text.specs.declared.message.Param.{Param}
use Rattle.mgcp_text.specs.declared.message.Message.TheVariants as messages
use Rattle.mgcp_text.specs.Reading.{Outcome, message, read_text}
use Rattle.mg_line.specs.Answering.{answered}
use Rattle.retransmission.specs.Flight.{InFlight}
use Rattle.retransmission.specs.declared.restart.Restart.TheVariants.{Serving}
use Rattle.retransmission.specs.declared.heard.Heard.{Heard}
use Rattle.transmission.specs.Texts.{texts_of, largest_datagram}
use Rattle.plain_machine.specs.declared.response.Response.{Response}
use Rattle.plain_machine.specs.declared.setup.Setup.{Setup}
use Rattle.plain_machine.specs.declared.endpoint.Endpoint.{Endpoint}
use Rattle.plain_machine.specs.Announcing.{replied}
use Rattle.plain_machine.specs.Answering.{handled, took_all}
use Rattle.plain_machine.specs.Arriving.{arrivals_from}
use Rattle.plain_machine.specs.Effect.{Effect}
use Rattle.plain_machine.specs.Event.{GatewayEvent, datagram}
use Rattle.plain_machine.specs.Happening.{effect}
use Rattle.plain_machine.specs.Lists.{machine_after, plain, sent_from, sent_of}
use Rattle.plain_machine.specs.Machine.{Endpoints, Machine, endpoint_at, on_line, opening}
use Rattle.plain_machine.specs.Message.{Begun, Sent}
use Rattle.plain_machine.specs.Posting.{line_of_id}
use Rattle.plain_machine.specs.Responding.{own_heard, responded, responded_as, responded_on, response_with}
use Rattle.plain_machine.specs.Setup.{IsSetUp}
use Rattle.plain_machine.proofs.ListLaws.{machine_on}
use Rattle.machine_laws.specs.Saying.{OneOf, begun_in}
use Rattle.machine_laws.proofs.EachLemmas.{Each, each_back, each_from_all, one_behind, one_from_any}
use Rattle.machine_laws.proofs.OwningLemmas.{place_of, LineTurns, of_both, on_one_line, responded_owned, sent_by, turn_if}
use Rattle.machine_laws.proofs.EventLemmas.{datagram_does, texts_at}
use Rattle.machine_laws.proofs.WaitLaws.{events_wait, text_waits, texts_wait}
use Rattle.machine_laws.specs.Belonging.{of_line}
use Rattle.machine_laws.proofs.AnnouncementLaws.{behind_acknowledged}
use Rattle.world_laws.proofs.RoundLaws.{sent_on}
use Rattle.world_laws.proofs.CourseLemmas.{AnyResponse, events_stand, hear_all}
use Rattle.world_laws.proofs.OnTurns.{begun_both}
use Rattle.world_laws.proofs.WorldLemmas.{line_begun, line_sent}
use Rattle.agent_core.specs.declared.packet.End.TheVariants.{AgentEnd as agent_end}
use Rattle.agent_core.specs.World.{World, WorldStep, delivering, gateway_in, plain_world, steps_are_taken, to_gateway, world_opening}
use Rattle.world_laws.specs.Landing.{is_final}
use Rattle.world_laws.specs.Copies.{IsCopy}
use Rattle.world_laws.proofs.DialledFlightLemmas.{Anew, AnewBeside, Began, anew_turns, noted_anew, responded_anew}
use Rattle.world_laws.proofs.TakenLaws.{took_more}
use Rattle.world_laws.proofs.LineLaws.{heard_is, of_its_line}
use Rattle.world_laws.proofs.PostedFinal.{handed_to_gateway, step_more, steps_more}

-- Texts, each a datagram of its own

abbrev IsPart : List ℕ → Type 0
IsPart text = texts_of text ≡ text ∷ []

all_parts : (bytes : List ℕ) (texts : List (List ℕ)) → length bytes ≤ largest_datagram → Each (λ (part : List ℕ). parts_of part ≡ part ∷ []) texts
    → Each (λ (part : List ℕ). length part ≤ length bytes) texts → Each IsPart texts
unfolding texts_of
all_parts bytes [] small parts short = tt
all_parts bytes (text ∷ texts) small parts short =
    (ap (λ (b : Bool). if b then [] else parts_of text) (within (nat_lt largest_datagram (length text)) refl) ∙ parts.0, all_parts bytes texts small parts.1 short.1) where
      within : (b : Bool) → nat_lt largest_datagram (length text) ≡ b → b ≡ false
      within false e = refl
      within true e = absurd (let more : largest_datagram < length text = ltb-true _ _ e in let few = short.0 in omega (arith, more, few, small))

are_parts : (bytes : List ℕ) → Each IsPart (texts_of bytes)
unfolding texts_of
are_parts bytes = by_length (nat_lt largest_datagram (length bytes)) refl where
  by_length : (b : Bool) → nat_lt largest_datagram (length bytes) ≡ b → Each IsPart (if b then [] else parts_of bytes)
  by_length true e = tt
  by_length false e =
      all_parts bytes (parts_of bytes) (ltb-false _ _ e) (each_from_all (λ (part : List ℕ). parts_of part ≡ part ∷ []) (parts_of bytes) (parts-parts bytes))
      (each_from_all (λ (part : List ℕ). length part ≤ length bytes) (parts_of bytes) (short-parts_of bytes))

one_part : (setup : Setup) (m : Machine) (source : SocketAddrV4) (text : List ℕ) → IsPart text
    → ((effect setup m (datagram source text)).value ≡ (handled setup m source (read_text text)).value)
    × ((effect setup m (datagram source text)).sent ≡ (handled setup m source (read_text text)).sent)
unfolding effect took_all
one_part setup m source text is = (
  ap (λ (texts : List (List ℕ)). (took_all setup m source texts).value) is,
  ap (λ (texts : List (List ℕ)). (took_all setup m source texts).sent) is ∙ append-nil (handled setup m source (read_text text)).sent,
)

-- so are they all
as_events : (setup : Setup) (m : Machine) (source : SocketAddrV4) (texts : List (List ℕ)) → Each IsPart texts
    → (machine_after setup m (map (datagram source) texts) ≡ (took_all setup m source texts).value) × (sent_from setup m (map (datagram source) texts) ≡ (took_all setup m source texts).sent)
unfolding took_all machine_after sent_from
as_events setup m source [] parts = (refl, refl)
as_events setup m source (text ∷ texts) parts =
    let h : Effect Machine = handled setup m source (read_text text) in
    let one = one_part setup m source text parts.0 in
    let rest = as_events setup h.value source texts parts.1 in (
      ap (λ (x : Machine). machine_after setup x (map (datagram source) texts)) one.0 ∙ rest.0,
      ap (λ (x : List Sent). x ++ sent_from setup (effect setup m (datagram source text)).value (map (datagram source) texts)) one.1
          ∙ ap (λ (x : Machine). h.sent ++ sent_from setup x (map (datagram source) texts)) one.0 ∙ ap (λ (x : List Sent). h.sent ++ x) rest.1,
    )

-- Where one text stands

record Parted (text : List ℕ) (texts : List (List ℕ)) : Type 0 where
  before : List (List ℕ)
  later : List (List ℕ)
  order : texts ≡ before ++ text ∷ later

parted : (text : List ℕ) (texts : List (List ℕ)) → OneOf (λ (one : List ℕ). one ≡ text) texts → Parted text texts
parted text [] one = absurd one
parted text (first ∷ texts) (inl same) = record { before = []; later = texts; order = ap (λ (t : List ℕ). t ∷ texts) same }
parted text (first ∷ texts) (inr there) =
    let p = parted text texts there in
    record { before = first ∷ p.before; later = p.later; order = ap (λ (x : List (List ℕ)). first ∷ x) p.order }

-- The answer comes

module _ (setup : Setup) (line : ℕ) (some : 1 ≤ line) (response : Response) (mine : line_of_id response.id ≡ line) (final : is_final response.code ≡ true) (other : response.code ≢ 521) where
  turn_anew : (moment : ℕ) (was : Endpoint) → let turn = responded_on setup line moment response was in Anew response.id turn.sent turn.value.post.pending
  unfolding responded_on replied
  turn_anew moment was = by_pending was.post.pending refl where
    stranger : Anew response.id [] was.post.pending → Anew response.id (responded_on setup line moment response was).sent (responded_on setup line moment response was).value.post.pending
    stranger anew = responded_anew response.id setup [] line moment response was anew

    by_test : (flight : InFlight) → was.post.pending ≡ Some flight → (b : Bool) → (flight.id == response.id) ≡ b
        → Anew response.id (responded_on setup line moment response was).sent (responded_on setup line moment response was).value.post.pending
    by_test flight flies true same =
        let heard = heard_is was.post response flight flies (eqb-true flight.id response.id same) final other in
        let to : Endpoint = record was { post = record was.post { entity = unwrap_or heard.0 was.post.entity; pending = None; restart = Serving } } in
        subst (λ (h : Heard). Anew response.id (responded_as h setup line moment response was).sent (responded_as h setup line moment response was).value.post.pending) (sym heard.1)
        (noted_anew response.id setup [] line moment to (answered was.line moment) tt)
    by_test flight flies false far = stranger (subst (Anew response.id []) (sym flies) (λ same. absurd (eqb-false flight.id response.id far same)))

    by_pending : (pending : Option InFlight) → was.post.pending ≡ pending
        → Anew response.id (responded_on setup line moment response was).sent (responded_on setup line moment response was).value.post.pending
    by_pending None flies = stranger (subst (Anew response.id []) (sym flies) tt)
    by_pending (Some flight) flies = by_test flight flies (flight.id == response.id) refl

  some_same : (a b : Endpoint) → Some a ≡ Some b → a ≡ b
  some_same a b same = ap (λ (o : Option Endpoint). unwrap_or o a) same

  on_line_anew : (endpoints : Endpoints) (moment : ℕ) (s : Endpoint) → let is = on_line endpoints line (responded_on setup line moment response) in endpoint_at is.value line ≡ Some s
      → Anew response.id (of_line line is.sent) s.post.pending
  on_line_anew endpoints moment s at = by_found (endpoint_at endpoints line) refl where
    turn : Endpoint → Effect Endpoint
    turn = responded_on setup line moment response

    is : Effect Endpoints
    is = on_line endpoints line turn

    turned : LineTurns line endpoints turn is
    turned =
        subst (λ (b : Bool). LineTurns line endpoints (turn_if b turn) is) ((Decides-eqb line line).1 refl)
        (on_one_line endpoints line line turn (λ x. responded_owned setup line moment response x))

    by_found : (found : Option Endpoint) → endpoint_at endpoints line ≡ found → Anew response.id (of_line line is.sent) s.post.pending
    by_found None none = absurd (none-some s (sym (turned.endpoint ∙ ap (option_map (λ (x : Endpoint). (turn x).value)) none) ∙ at))
    by_found (Some was) here =
        let same : (turn was).value ≡ s = some_same (turn was).value s (sym (turned.endpoint ∙ ap (option_map (λ (x : Endpoint). (turn x).value)) here) ∙ at) in
        let out : of_line line is.sent ≡ (turn was).sent = turned.sent ∙ ap (sent_by turn) here in
        subst (λ (x : List Sent). Anew response.id x s.post.pending) (sym out)
        (subst (λ (x : Endpoint). Anew response.id (turn was).sent x.post.pending) same (turn_anew moment was))

  response_anew : (endpoints : Endpoints) (moment : ℕ) (s : Endpoint) → let is = responded setup endpoints moment response in endpoint_at is.value line ≡ Some s
      → Anew response.id (of_line line is.sent) s.post.pending
  response_anew endpoints moment s at =
      subst (λ (e : Effect Endpoints). endpoint_at e.value line ≡ Some s → Anew response.id (of_line line e.sent) s.post.pending) (sym is_so) (on_line_anew endpoints moment s) at where
        no_own : (b : Bool) → (line == 0) ≡ b → b ≡ false
        no_own false e = refl
        no_own true e = absurd (let zero : line ≡ 0 = eqb-true line 0 e in omega (arith, some, zero))

        is_so : responded setup endpoints moment response ≡ on_line endpoints line (responded_on setup line moment response)
        is_so =
            ap (λ (n : ℕ). if n == 0 then own_heard setup endpoints moment response else on_line endpoints n (responded_on setup n moment response)) mine
            ∙ ap (λ (b : Bool). if b then own_heard setup endpoints moment response else on_line endpoints line (responded_on setup line moment response)) (no_own (line == 0) refl)

handled_anew : (setup : Setup) (m : Machine) (source : SocketAddrV4) (outcome : Outcome) (code id line : ℕ) (params : List Param) (body : List ℕ)
    → outcome ≡ message (messages.Response code id params body) → is_final code ≡ true → code ≢ 521 → line_of_id id ≡ line → 1 ≤ line → (s : Endpoint)
    → endpoint_at (handled setup m source outcome).value.endpoints line ≡ Some s → Anew id (of_line line (handled setup m source outcome).sent) s.post.pending
unfolding handled
handled_anew setup m source outcome code id line params body reads final other mine some s at =
    subst (λ (o : Outcome). endpoint_at (handled setup m source o).value.endpoints line ≡ Some s → Anew id (of_line line (handled setup m source o).sent) s.post.pending) (sym reads)
    (λ there. subst (λ (x : List Sent). Anew id x s.post.pending) (sym (behind_acknowledged setup line m.now source code id params (responded setup m.endpoints m.now (response_with setup id code params)).sent))
    (response_anew setup line some (response_with setup id code params) mine final other m.endpoints m.now s there)) at

-- What began since

module _ (id : ℕ) where
  began_behind : (some more : List Sent) → Began id (begun_in more) → Began id (begun_in (some ++ more))
  began_behind some more began = subst (Began id) (sym (begun_both some more)) (one_behind (λ (b : Begun). b.id ≡ id) (begun_in some) (begun_in more) began)

none_more : (some more : List Begun) → length (some ++ more) ≤ length some → more ≡ []
none_more [] [] few = refl
none_more [] (b ∷ more) few = absurd (omega (arith, few))
none_more (x ∷ some) more few = none_more some more (omega (arith, few))

module _ (setup : Setup) (first rest : List GatewayEvent) (source : SocketAddrV4) (bytes text : List ℕ) (code id line : ℕ) (params : List Param) (body : List ℕ)
    (inside : OneOf (λ (one : List ℕ). one ≡ text) (texts_of bytes)) (reads : read_text text ≡ message (messages.Response code id params body)) (final : is_final code ≡ true) (other : code ≢ 521)
    (mine : line_of_id id ≡ line) (some : 1 ≤ line) where
  abbrev m : Machine
  m = plain setup first

  abbrev p : Parted text (texts_of bytes)
  p = parted text (texts_of bytes) inside

  abbrev front : Effect Machine
  front = took_all setup m source p.before

  abbrev here : Effect Machine
  here = handled setup front.value source (read_text text)

  abbrev behind : List GatewayEvent
  behind = map (datagram source) p.later ++ rest

  abbrev last : Effect Machine
  last = took_all setup here.value source p.later

  later_parts : Each IsPart p.later
  later_parts = (each_back IsPart p.before (text ∷ p.later) (subst (Each IsPart) p.order (are_parts bytes))).1

  done : effect setup m (datagram source bytes) ≡ record { value = last.value; sent = front.sent ++ (here.sent ++ last.sent) }
  done = datagram_does setup m source bytes ∙ ap (took_all setup m source) p.order ∙ texts_at setup m source p.before p.later text

  machine_is : plain setup (first ++ datagram source bytes ∷ rest) ≡ machine_after setup here.value behind
  unfolding machine_after
  machine_is =
      machine_on setup (opening setup) first (datagram source bytes ∷ rest)
      ∙ ap (λ (e : Effect Machine). machine_after setup e.value rest) done
      ∙ ap (λ (x : Machine). machine_after setup x rest) (sym (as_events setup here.value source p.later later_parts).0)
      ∙ sym (machine_on setup here.value (map (datagram source) p.later) rest)

  since : List Sent
  since = here.sent ++ sent_from setup here.value behind

  sent_is : sent_of setup (first ++ datagram source bytes ∷ rest) ≡ sent_of setup first ++ (front.sent ++ since)
  unfolding sent_from since
  sent_is =
      sent_on setup (opening setup) first (datagram source bytes ∷ rest)
      ∙ ap (λ (e : Effect Machine). sent_of setup first ++ (e.sent ++ sent_from setup e.value rest)) done
      ∙ ap (λ (x : List Sent). sent_of setup first ++ x)
      (append_assoc front.sent (here.sent ++ last.sent) (sent_from setup last.value rest)
      ∙ ap (λ (x : List Sent). front.sent ++ x) (append_assoc here.sent last.sent (sent_from setup last.value rest)
      ∙ ap (λ (x : List Sent). here.sent ++ (x ++ sent_from setup last.value rest)) (sym all.1)
      ∙ ap (λ (x : Machine). here.sent ++ (sent_from setup here.value (map (datagram source) p.later) ++ sent_from setup x rest)) (sym all.0)
      ∙ ap (λ (x : List Sent). here.sent ++ x) (sym (sent_on setup here.value (map (datagram source) p.later) rest)))) where
        all : (machine_after setup here.value (map (datagram source) p.later) ≡ last.value) × (sent_from setup here.value (map (datagram source) p.later) ≡ last.sent)
        all = as_events setup here.value source p.later later_parts

  began_since : (s : Endpoint) → endpoint_at (plain setup (first ++ datagram source bytes ∷ rest)).endpoints line ≡ Some s
      → Anew id (of_line line since) s.post.pending
  unfolding since
  began_since s at =
      subst (λ (x : List Sent). Anew id x s.post.pending) (sym (of_both line here.sent (sent_from setup here.value behind)))
      ((events_stand setup AnyResponse (AnewBeside id) (anew_turns id setup) line some here.value [] (of_line line here.sent) 0 behind
      (hear_all setup AnyResponse (λ response. tt) (arrivals_from 0 behind)) (record {
        order = text_waits setup front.value source (read_text text) (texts_wait setup m source p.before (events_wait setup first));
        holds = λ x there. handled_anew setup front.value source (read_text text) code id line params body reads final other mine some x there;
      })).holds s (ap (λ (x : Machine). endpoint_at x.endpoints line) (sym machine_is) ∙ at))

  begun_is : line_begun setup line (first ++ datagram source bytes ∷ rest)
      ≡ line_begun setup line first ++ begun_in (of_line line (front.sent ++ since))
  begun_is =
      ap (λ (x : List Sent). begun_in (of_line line x)) sent_is
      ∙ ap begun_in (of_both line (sent_of setup first) (front.sent ++ since))
      ∙ begun_both (line_sent setup line first) (of_line line (front.sent ++ since))

  -- nor where the line began no more
  pub not_among_none : length (line_begun setup line (first ++ datagram source bytes ∷ rest)) ≤ length (line_begun setup line first)
      → (s : Endpoint) (flight : InFlight) → endpoint_at (plain setup (first ++ datagram source bytes ∷ rest)).endpoints line ≡ Some s
      → s.post.pending ≡ Some flight → flight.id ≢ id
  not_among_none fewer s flight at flies same =
      subst (Began id)
      (none_more (line_begun setup line first) (begun_in (of_line line (front.sent ++ since)))
      (subst (λ (x : List Begun). length x ≤ length (line_begun setup line first)) begun_is fewer))
      (subst (λ (x : List Sent). Began id (begun_in x)) (sym (of_both line front.sent since))
      (began_behind id (of_line line front.sent) (of_line line since)
      (subst (Anew id (of_line line since)) flies (began_since s at) same)))

-- In a world

module _ (setup : Setup) (before later : List WorldStep) (number : ℕ) (text : List ℕ) (code id : ℕ) (params : List Param) (body : List ℕ) (line : ℕ) (endpoint : Endpoint) (flight : InFlight)
    (set_up : IsSetUp setup) (taken : steps_are_taken setup world_opening ((before ++ delivering number ∷ []) ++ later) ≡ true)
    (copy : IsCopy setup (plain_world setup before) agent_end text number)
    (reads : read_text text ≡ message (messages.Response code id params body)) (final : is_final code ≡ true) (other : code ≢ 521)
    (at : endpoint_at (gateway_in setup (plain_world setup ((before ++ delivering number ∷ []) ++ later))).endpoints line ≡ Some endpoint)
    (flies : endpoint.post.pending ≡ Some flight) where
  abbrev w : World
  w = plain_world setup before

  abbrev next : World
  next = plain_world setup (before ++ delivering number ∷ [])

  abbrev whole : World
  whole = plain_world setup ((before ++ delivering number ∷ []) ++ later)

  abbrev event : GatewayEvent
  event = datagram copy.post.packet.sender copy.post.packet.bytes

  next_is : next ≡ to_gateway setup w event
  next_is = step_more setup before (delivering number) ∙ handed_to_gateway setup w text number copy

  inside : OneOf (λ (one : List ℕ). one ≡ text) (texts_of copy.post.packet.bytes)
  inside = one_from_any (λ (one : List ℕ). one ≡ text) (texts_of copy.post.packet.bytes) copy.inside

  abbrev more : List GatewayEvent
  more = (took_more setup next later).0

  took : whole.gateway_took ≡ w.gateway_took ++ event ∷ more
  took =
      ap (λ (x : World). x.gateway_took) (steps_more setup world_opening (before ++ delivering number ∷ []) later) ∙ (took_more setup next later).1
      ∙ ap (λ (x : World). x.gateway_took ++ more) next_is ∙ append_assoc w.gateway_took (event ∷ []) more

  mine : flight.id ≡ id → line_of_id id ≡ line
  mine same = ap line_of_id (sym same) ∙ of_its_line setup whole line endpoint flight at flies

  there : endpoint_at (plain setup (w.gateway_took ++ event ∷ more)).endpoints line ≡ Some endpoint
  there = ap (λ (x : List GatewayEvent). endpoint_at (plain setup x).endpoints line) (sym took) ∙ at

  -- whatever numbers are left, where the line began no more since
  pub over_since : length (line_begun setup line whole.gateway_took) ≤ length (line_begun setup line w.gateway_took) → flight.id ≢ id
  over_since fewer same =
      not_among_none setup w.gateway_took more copy.post.packet.sender copy.post.packet.bytes text code id line params body inside reads
      final other (mine same) (place_of (gateway_in setup whole).endpoints line endpoint at).0
      (subst (λ (x : List GatewayEvent). length (line_begun setup line x) ≤ length (line_begun setup line w.gateway_took)) took fewer)
      endpoint flight there flies same
