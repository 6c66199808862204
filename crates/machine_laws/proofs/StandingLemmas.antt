-- What becomes of the connections of a line: nothing but what creations, modifications and deletions do. So whatever these
-- leave as it is stays, and each line has its four places and its ports.
use Rattle.std.proofs.Common.{◌≡◌, ℕ, ◌+◌, ◌≤◌, Bool, true, false, nat_lt, List, [], ◌∷◌, length, get_or, map, Option, Some, None, Result, Ok, Err, inr, refl, sym, ◌∙◌, subst, arith}
use Rattle.std.specs.Prelude.{All, set}
use Rattle.std.proofs.lemmas.List.{length-map, length-set}
use Rattle.std.proofs.lemmas.List.Elements.{All-nil, All-cons}
use Rattle.std.specs.declared.net.ipv4_addr.Ipv4Addr.{Ipv4Addr}
use Rattle.mg_bytes.specs.Checks.{unless, checked, given}
use Rattle.connections.specs.declared.codec.Encoding.{Encoding}
use Rattle.connections.specs.declared.connection.Change.{Change}
use Rattle.connections.specs.declared.connection.Connection.{Connection}
use Rattle.connections.specs.Numbers.{greatest}
use Rattle.connections.specs.Connection.{begun, renewed}
use Rattle.connections.specs.Places.{is_free, place_where}
use Rattle.connections.specs.Standing.{Standing, Left, no_connections, left_by, left_of, created, created_from, place_of, modified, modified_at, modified_held, modified_from, refused, deleted, without}
use Rattle.connections.specs.Life.{Happening, creates, modifies, deletes, after_one, after}
use Rattle.command_forms.specs.declared.forms.ConnectionDeed.{ConnectionDeed}
use Rattle.command_forms.specs.declared.forms.ConnectionDeed.TheVariants.{Keep, Create, Modify, Delete}
use Rattle.mg_line.specs.Line.{LineDone, Notice}
use Rattle.mg_line.specs.Falling.{fired}
use Rattle.mg_line.specs.Acting.{phoned}
use Rattle.mg_line.specs.Answering.{answered}
use Rattle.mg_line.specs.Opening.{opened}
use Rattle.retransmission.specs.declared.heard.Heard.{Heard}
use Rattle.retransmission.specs.declared.heard.Heard.TheVariants.{Nothing, PutOff, Redirected, Answered}
use Rattle.endpoint_names.specs.declared.entity.Entity.{Entity}
use Rattle.timers.specs.declared.kind.DueKind.{DueKind}
use Rattle.timers.specs.declared.kind.DueKind.TheVariants.{OfLine, Resend, Announce}
use Rattle.command_forms.specs.declared.forms.Deed.{Deed}
use Rattle.plain_machine.specs.declared.post.Post.{Post}
use Rattle.plain_machine.specs.declared.response.Response.{Response}
use Rattle.plain_machine.specs.declared.setup.Setup.{Setup}
use Rattle.plain_machine.specs.declared.endpoint.Endpoint.{Endpoint}
use Rattle.plain_machine.specs.Event.{GatewayEvent}
use Rattle.plain_machine.specs.Message.{Sent}
use Rattle.plain_machine.specs.Announcing.{heard_on, replied}
use Rattle.plain_machine.specs.Notifying.{posted, with_notice, noted}
use Rattle.plain_machine.specs.Machine.{serves, port_of, opening_endpoint, opening, endpoint_at}
use Rattle.plain_machine.specs.Connecting.{Shown, showing, showing_what, created_shown, modified_shown, deleted_shown, connected}
use Rattle.plain_machine.specs.Requesting.{with_entity, with_connections, encoding_with, asked_if, deed_on}
use Rattle.plain_machine.specs.Falling.{happened_on}
use Rattle.plain_machine.specs.Responding.{responded_as, responded_on, redirected_on, opened_on}
use Rattle.plain_machine.specs.Lists.{machine_after}
use Rattle.machine_laws.proofs.TurnLemmas.{Turns, OwnTurns, Holds, on_made, of_line, events_on_all}

-- What a deed does to connections

abbrev pub happenings : ConnectionDeed → Encoding → List Happening
happenings Keep encoding = []
happenings (Create creation) encoding = creates encoding creation ∷ []
happenings (Modify call id change) encoding = modifies encoding call id change ∷ []
happenings (Delete deletion) encoding = deletes deletion ∷ []

left_showing : {A : Type 0} (shown : A → Shown) (was : Standing) (made : Result (Left A) ℕ) → left_by was (showing shown made) ≡ left_by was made
left_showing shown was (Ok done) = refl
left_showing shown was (Err code) = refl

left_showing_what : (shown : Shown) (was : Standing) (made : Result Standing ℕ) → left_by was (showing_what shown made) ≡ left_of was made
left_showing_what shown was (Ok leaves) = refl
left_showing_what shown was (Err code) = refl

pub connected_after : (deed : ConnectionDeed) (encoding : Encoding) (was : Standing)
    → left_by was (connected deed encoding was) ≡ after was (happenings deed encoding)
unfolding connected after
connected_after Keep encoding was = refl
connected_after (Create creation) encoding was = left_showing created_shown was (created encoding creation was)
connected_after (Modify call id change) encoding was = left_showing modified_shown was (modified encoding call id change was)
connected_after (Delete deletion) encoding was = left_showing_what (deleted_shown deletion) was (deleted deletion was)

-- A turn that is no deed leaves the connections as they are

pub noted_same : (setup : Setup) (line moment : ℕ) (endpoint : Endpoint) (done : LineDone) → (noted setup line moment endpoint done).value.connections ≡ endpoint.connections
unfolding noted
noted_same setup line moment endpoint done = by_notice done.notice where
  by_notice : (notice : Option Notice) → (with_notice setup line moment (record endpoint { line = done.line }) notice).value.connections ≡ endpoint.connections
  by_notice None = refl
  by_notice (Some notice) = refl

pub deed_connections : (setup : Setup) (deed : Deed) (moment line : ℕ) (endpoint : Endpoint)
    → (deed_on setup deed moment line endpoint).value.connections ≡ after endpoint.connections (happenings deed.connections (encoding_with deed endpoint))
unfolding deed_on
deed_connections setup deed moment line endpoint =
    noted_same setup line moment (with_connections deed (with_entity deed.entity endpoint)) (asked_if deed.request endpoint.line moment)
    ∙ connected_after deed.connections (encoding_with deed endpoint) endpoint.connections

pub happened_same : (setup : Setup) (due : DueKind) (line moment : ℕ) (endpoint : Endpoint) → (happened_on due setup line moment endpoint).value.connections ≡ endpoint.connections
unfolding happened_on
happened_same setup (OfLine due) line moment endpoint = noted_same setup line moment endpoint (fired endpoint.line due moment)
happened_same setup Resend line moment endpoint = refl
happened_same setup Announce line moment endpoint = refl

pub responded_same : (setup : Setup) (line moment : ℕ) (response : Response) (endpoint : Endpoint) → (responded_on setup line moment response endpoint).value.connections ≡ endpoint.connections
unfolding responded_on
responded_same setup line moment response endpoint = by_heard (heard_on endpoint.post response) where
  by_heard : (heard : Heard) → (responded_as heard setup line moment response endpoint).value.connections ≡ endpoint.connections
  by_heard Nothing = refl
  by_heard PutOff = refl
  by_heard (Redirected agent) = refl
  by_heard (Answered agent) =
      let becomes = (posted endpoint (replied (Answered agent) setup line moment response endpoint.post)).value in
      noted_same setup line moment becomes (answered becomes.line moment)

pub redirected_same : (agent : Entity) (line : ℕ) (endpoint : Endpoint) → (redirected_on agent line endpoint).value.connections ≡ endpoint.connections
unfolding redirected_on
redirected_same agent line endpoint = refl

pub opened_same : (setup : Setup) (agent : Option Entity) (line moment : ℕ) (endpoint : Endpoint) → (opened_on agent setup moment line endpoint).value.connections ≡ endpoint.connections
unfolding opened_on
opened_same setup agent line moment endpoint = noted_same setup line moment (with_entity agent endpoint) (opened endpoint.line moment)

-- What they leave as it is

abbrev pub AnySent : Sent → Type 0
AnySent sent = Unit {0}

abbrev pub AnyOwn : Post → Type 0
AnyOwn own = Unit {0}

pub all_sent : (sent : List Sent) → All AnySent sent
all_sent [] = All-nil AnySent
all_sent (one ∷ sent) = All-cons AnySent one sent tt (all_sent sent)

-- of the connections of a line
abbrev pub OfConnections : (ℕ → Standing → Type 0) → Bool → ℕ → Endpoint → Type 0
OfConnections C serving line endpoint = C line endpoint.connections

abbrev pub Keeps : (ℕ → Standing → Type 0) → Type 0
Keeps C = (line : ℕ) (standing : Standing) (happening : Happening) → C line standing → C line (after_one standing happening)

pub kept_after : (C : ℕ → Standing → Type 0) → Keeps C → (line : ℕ) (standing : Standing) (more : List Happening) → C line standing → C line (after standing more)
unfolding after
kept_after C keeps line standing [] holds = holds
kept_after C keeps line standing (happening ∷ more) holds = kept_after C keeps line (after_one standing happening) more (keeps line standing happening holds)

pub connection_turns : (setup : Setup) (C : ℕ → Standing → Type 0) → Keeps C → Turns setup (OfConnections C) AnySent
connection_turns setup C keeps = record {
  act = λ serving line moment act endpoint holds. (subst (C line) (sym (noted_same setup line moment endpoint (phoned endpoint.line act moment))) holds, all_sent _);
  deed = λ command confirms target deed is line moment endpoint holds. (
    subst (C line) (sym (deed_connections setup deed moment line endpoint))
        (kept_after C keeps line endpoint.connections (happenings deed.connections (encoding_with deed endpoint)) holds),
    all_sent _,
  );
  response = λ serving line moment response endpoint read holds. (subst (C line) (sym (responded_same setup line moment response endpoint)) holds, all_sent _);
  happening = λ serving due line moment endpoint holds. (subst (C line) (sym (happened_same setup due line moment endpoint)) holds, all_sent _);
  redirecting = λ agent line endpoint read holds. (subst (C line) (sym (redirected_same agent line endpoint)) holds, all_sent _);
  opening = λ agent line moment endpoint read holds. (subst (C line) (sym (opened_same setup agent line moment endpoint)) holds, all_sent _);
}

pub any_own_turns : (setup : Setup) (C : ℕ → Standing → Type 0) → OwnTurns setup (OfConnections C) AnyOwn AnySent
any_own_turns setup C = record {
  free = λ own holds. inr (λ serving other line endpoint is. is);
  response = λ moment response own read holds. (tt, all_sent _);
  happening = λ due moment own holds. (tt, all_sent _);
}

-- of the connections of each line from the opening on
pub connections_always : (setup : Setup) (C : ℕ → Standing → Type 0) → Keeps C
    → ((line : ℕ) → 1 ≤ line → line ≤ setup.names.lines → C line (no_connections setup.media_address (port_of setup line)))
    → Holds (OfConnections C) AnyOwn (opening setup).endpoints
connections_always setup C keeps opens = record {
  list = on_made (OfConnections C false) (opening_endpoint setup) 1 setup.names.lines (λ line low high. opens line low (omega (arith, high)));
  own = tt;
}

-- Address, ports and places

-- they are received at this address and from this port on, and there are four
pub record HasPlaces (address : Ipv4Addr) (port : ℕ) (standing : Standing) : Type 0 where
  pub address_is : standing.address ≡ address
  pub port_is : standing.port ≡ port
  pub four : length standing.places ≡ 4

module _ (address : Ipv4Addr) (port : ℕ) where
  abbrev Has : Standing → Type 0
  Has standing = HasPlaces address port standing

  put_four : (places : List (Option Connection)) (place : ℕ) (held : Option Connection) → length places ≡ 4 → length (set places place held) ≡ 4
  put_four places place held four = length-set places place held ∙ four

  created_has : (standing : Standing) (found : Option ℕ) (below : Bool) (made : Result Connection ℕ) → Has standing
      → Has (left_by standing (given {F = ℕ} found 540 (λ place. checked (unless below 502) (created_from standing place (standing.last + 1) made))))
  created_has standing None below made has = has
  created_has standing (Some place) false made has = has
  created_has standing (Some place) true (Err code) has = has
  created_has standing (Some place) true (Ok connection) has =
      record { address_is = has.address_is; port_is = has.port_is; four = put_four standing.places place (Some connection) has.four }

  modified_from_has : (standing : Standing) (place : ℕ) (was : Connection) (made : Result Connection ℕ) → Has standing
      → Has (left_by standing (modified_from standing place was made))
  modified_from_has standing place was (Err code) has = has
  modified_from_has standing place was (Ok is) has =
      record { address_is = has.address_is; port_is = has.port_is; four = put_four standing.places place (Some is) has.four }

  modified_held_has : (encoding : Encoding) (change : Change) (standing : Standing) (place : ℕ) (held : Option Connection) → Has standing
      → Has (left_by standing (modified_held encoding change standing place held))
  modified_held_has encoding change standing place None has = has
  modified_held_has encoding change standing place (Some was) has = modified_from_has standing place was (renewed encoding change was) has

  modified_at_has : (encoding : Encoding) (change : Change) (standing : Standing) (found : Result ℕ ℕ) → Has standing
      → Has (left_by standing (modified_at encoding change standing found))
  modified_at_has encoding change standing (Ok place) has = modified_held_has encoding change standing place (get_or standing.places place None) has
  modified_at_has encoding change standing (Err code) has = has

  deleted_has : (standing : Standing) (fault : Option ℕ) (f : Option Connection → Option Connection) → Has standing
      → Has (left_of standing (checked fault (Ok (record standing { places = map f standing.places }))))
  deleted_has standing (Some code) f has = has
  deleted_has standing None f has =
      record { address_is = has.address_is; port_is = has.port_is; four = length-map standing.places f ∙ has.four }

  pub one_has : (standing : Standing) (happening : Happening) → Has standing → Has (after_one standing happening)
  unfolding created modified deleted
  one_has standing (creates encoding creation) has =
      created_has standing (place_where is_free standing.places) (nat_lt standing.last greatest) (begun encoding creation (standing.last + 1)) has
  one_has standing (modifies encoding call id change) has = modified_at_has encoding change standing (place_of call id standing.places) has
  one_has standing (deletes deletion) has = deleted_has standing (refused deletion standing.places) (without deletion) has

-- of a line that there is
pub record HasLine (setup : Setup) (line : ℕ) (standing : Standing) : Type 0 where
  pub some : 1 ≤ line
  pub few : line ≤ setup.names.lines
  pub places : HasPlaces setup.media_address (port_of setup line) standing

pub keeps_places : (setup : Setup) → Keeps (HasLine setup)
keeps_places setup line standing happening has =
    record { some = has.some; few = has.few; places = one_has setup.media_address (port_of setup line) standing happening has.places }

pub opening_has_places : (setup : Setup) → Holds (OfConnections (HasLine setup)) AnyOwn (opening setup).endpoints
opening_has_places setup = connections_always setup (HasLine setup) (keeps_places setup)
    (λ line low high. record { some = low; few = high; places = record { address_is = refl; port_is = refl; four = refl } })

-- of each line whatever happens
pub line_has_places : (setup : Setup) (events : List GatewayEvent) (line : ℕ) (endpoint : Endpoint)
    → endpoint_at (machine_after setup (opening setup) events).endpoints line ≡ Some endpoint → HasLine setup line endpoint.connections
line_has_places setup events line endpoint at =
    of_line (OfConnections (HasLine setup) (serves (machine_after setup (opening setup) events).endpoints)) (machine_after setup (opening setup) events).endpoints line endpoint
    (events_on_all setup (OfConnections (HasLine setup)) AnyOwn AnySent (connection_turns setup (HasLine setup) (keeps_places setup)) (any_own_turns setup (HasLine setup))
    (opening setup) events (opening_has_places setup)).list at
