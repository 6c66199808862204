-- Of each line all that audits report can be written: its entity is a word, and its connections were read.
use Rattle.std.proofs.Common.{◌≡◌, ℕ, zero, suc, ◌+◌, ◌≤◌, Bool, true, false, if◌then◌else◌, nat_lt, not, ◌||◌, ok_or, List, [], ◌∷◌, length, get_or, map, Option, Some, None, Result, Ok, Err, inr, refl, sym, ◌∙◌, subst, arith}
use Rattle.std.specs.Prelude.{IfSome, set}
use Rattle.std.specs.List.{AllByRecursion}
use Rattle.std.specs.Option.{unwrap_or}
use Rattle.std.proofs.lemmas.Bool.{and_parts}
use Rattle.mg_bytes.specs.Steps.{◌>>=◌}
use Rattle.mg_bytes.specs.Checks.{unless, checked, given, first_fault}
use Rattle.mg_bytes.specs.Numbers.{is_hex_text}
use Rattle.sdp_subset.specs.declared.session.Session.{Session}
use Rattle.sdp_subset.specs.Writing.{IsSession}
use Rattle.sdp_subset.specs.Reading.{session_of}
use Rattle.endpoint_names.specs.declared.entity.Entity.{Entity}
use Rattle.endpoint_names.specs.declared.table.Host.{Host}
use Rattle.endpoint_names.specs.Entity.{is_entity_text, entity_of}
use Rattle.mgcp_text.specs.declared.message.Param.{Param}
use Rattle.mgcp_text.specs.declared.confirmation.KValue.{KValue}
use Rattle.connections.specs.declared.codec.Encoding.{Encoding}
use Rattle.connections.specs.declared.connection.Agreement.{Agreement}
use Rattle.connections.specs.declared.connection.Change.{Change}
use Rattle.connections.specs.declared.connection.Connection.{Connection}
use Rattle.connections.specs.declared.connection.Creation.{Creation}
use Rattle.connections.specs.declared.deletion.Deletion.{Deletion}
use Rattle.connections.specs.declared.mode.Mode.{Mode}
use Rattle.connections.specs.declared.options.Options.{Options}
use Rattle.connections.specs.Numbers.{greatest}
use Rattle.connections.specs.Connection.{agreed, can_be, begun, begun_with, given_or, remote_or, renewed, renewed_with, is_changed}
use Rattle.connections.specs.Places.{is_free, place_where}
use Rattle.connections.specs.Standing.{Standing, left_by, left_of, created, created_from, place_of, modified, modified_at, modified_held, modified_from, refused, deleted, without, is_emptied}
use Rattle.connections.specs.Life.{after}
use Rattle.command_forms.specs.declared.forms.Asks.TheVariants.{Does}
use Rattle.command_forms.specs.declared.forms.ConnectionDeed.{ConnectionDeed}
use Rattle.command_forms.specs.declared.forms.ConnectionDeed.TheVariants.{Keep, Create, Modify, Delete}
use Rattle.command_forms.specs.declared.forms.Deed.{Deed}
use Rattle.command_forms.specs.declared.forms.Target.{Target}
use Rattle.command_forms.specs.Codes.{HasConnections}
use Rattle.command_forms.specs.Command.{Command}
use Rattle.command_forms.specs.Order.{form_of}
use Rattle.command_forms.specs.Values.{entity_at, remote_of}
use Rattle.command_forms.proofs.FormLemmas.{deed_has_values}
use Rattle.audits.specs.Showing.{IsShowableConnection, IsShowablePlace, IsShowable}
use Rattle.audits.proofs.SessionLaws.{read_is_session}
use Rattle.mg_line.specs.Line.{LineDone, Notice}
use Rattle.mg_line.specs.Acting.{phoned}
use Rattle.mg_line.specs.Answering.{answered}
use Rattle.mg_line.specs.Falling.{fired}
use Rattle.mg_line.specs.Opening.{opened}
use Rattle.retransmission.specs.declared.repeat.Repeat.{Repeat}
use Rattle.retransmission.specs.declared.repeat.Repeat.TheVariants.{Sent as SentAgain, GivenUp}
use Rattle.retransmission.specs.Flight.{InFlight, repeat_of}
use Rattle.retransmission.specs.declared.restart.Restart.{Restart}
use Rattle.retransmission.specs.declared.restart.Restart.TheVariants.{Waiting, Announced, Serving}
use Rattle.retransmission.specs.declared.heard.Heard.{Heard}
use Rattle.retransmission.specs.declared.heard.Heard.TheVariants.{Nothing, PutOff, Redirected, Answered}
use Rattle.timers.specs.declared.kind.DueKind.{DueKind}
use Rattle.timers.specs.declared.kind.DueKind.TheVariants.{OfLine, Resend, Announce}
use Rattle.plain_machine.specs.declared.response.Response.{Response}
use Rattle.plain_machine.specs.declared.setup.Setup.{Setup}
use Rattle.plain_machine.specs.declared.endpoint.Endpoint.{Endpoint}
use Rattle.plain_machine.specs.Setup.{IsSetUp, most_lines, highest_media_base}
use Rattle.plain_machine.specs.Posting.{repeated_as, resent_by}
use Rattle.plain_machine.specs.Announcing.{announced, announced_by, heard_on, replied}
use Rattle.plain_machine.specs.Notifying.{posted, with_notice, noted}
use Rattle.plain_machine.specs.Machine.{port_of, opening_endpoint, opening}
use Rattle.plain_machine.specs.Requesting.{with_entity, with_connections, encoding_with, asked_if, deed_on}
use Rattle.plain_machine.specs.Falling.{happened_on}
use Rattle.plain_machine.specs.Reporting.{audited_endpoint}
use Rattle.plain_machine.specs.Responding.{responded_as, responded_on, redirected_on, opened_on}
use Rattle.machine_laws.proofs.CommandLaws.{Sound}
use Rattle.plain_machine.proofs.NameLemmas.{entity_is}
use Rattle.machine_laws.proofs.ShownLimits.{address_is}
use Rattle.machine_laws.proofs.StandingLemmas.{AnySent, AnyOwn, HasLine, happenings, deed_connections, noted_same, all_sent as any_sent}
use Rattle.machine_laws.proofs.TurnLemmas.{Always, Turns, OwnTurns, Holds, IsEntity, IsRead, HeardRead, heard_read, on_made}

-- The places of a line

abbrev pub AllShow : List (Option Connection) → Type 0
AllShow places = AllByRecursion IsShowablePlace places

set_shows : (places : List (Option Connection)) (place : ℕ) (held : Option Connection) → AllShow places → IsShowablePlace held → AllShow (set places place held)
set_shows [] place held all one = tt
set_shows (first ∷ places) zero held all one = (one, all.1)
set_shows (first ∷ places) (suc place) held all one = (all.0, set_shows places place held all.1 one)

get_shows : (places : List (Option Connection)) (place : ℕ) → AllShow places → IsShowablePlace (get_or places place None)
get_shows [] place all = tt
get_shows (first ∷ places) zero all = all.0
get_shows (first ∷ places) (suc place) all = get_shows places place all.1

without_shows : (deletion : Deletion) (held : Option Connection) → IsShowablePlace held → IsShowablePlace (without deletion held)
without_shows deletion held one = by_test (is_emptied deletion held) where
  by_test : (b : Bool) → IsShowablePlace (if b then None else held)
  by_test true = tt
  by_test false = one

map_shows : (deletion : Deletion) (places : List (Option Connection)) → AllShow places → AllShow (map (without deletion) places)
map_shows deletion [] all = tt
map_shows deletion (held ∷ places) all = (without_shows deletion held all.0, map_shows deletion places all.1)

-- A connection that is created

begun_shows : (encoding : Encoding) (creation : Creation) (number : ℕ) (made : Result Connection ℕ) → begun encoding creation number ≡ made → is_hex_text creation.call ≡ true
    → IfSome creation.remote IsSession → (connection : Connection) → made ≡ Ok connection → IsShowableConnection connection
unfolding begun
begun_shows encoding creation number made is call remote connection done =
    by_agreed (agreed creation.options.codecs encoding creation.remote) (can_be creation.mode creation.remote) (is ∙ done) where
      by_agreed : (found : Option Agreement) (can : Bool)
          → given {F = ℕ} found 534 (λ codecs. checked (unless can 527) (Ok (begun_with creation number codecs))) ≡ Ok connection → IsShowableConnection connection
      by_agreed None can e = absurd cc
      by_agreed (Some codecs) false e = absurd cc
      by_agreed (Some codecs) true e =
          let same : begun_with creation number codecs ≡ connection = cc in
          subst IsShowableConnection same (record { call = call; remote = remote })

created_shows : (standing : Standing) (found : Option ℕ) (below : Bool) (made : Result Connection ℕ) → AllShow standing.places
    → ((connection : Connection) → made ≡ Ok connection → IsShowableConnection connection)
    → AllShow (left_by standing (given {F = ℕ} found 540 (λ place. checked (unless below 502) (created_from standing place (standing.last + 1) made)))).places
created_shows standing None below made all one = all
created_shows standing (Some place) false made all one = all
created_shows standing (Some place) true (Err code) all one = all
created_shows standing (Some place) true (Ok connection) all one = set_shows standing.places place (Some connection) all (one connection refl)

-- One that is modified

remote_shows : (given was : Option Session) → IfSome given IsSession → IfSome was IsSession → IfSome (remote_or given was) IsSession
remote_shows None was new old = old
remote_shows (Some session) was new old = new

-- what is made of it, where it can be made
renewed_so : (was : Connection) (mode : Mode) (options : Options) (remote : Option Session) (connection : Connection) (found : Option Agreement) (can : Bool) (past : Agreement → Bool)
    → is_hex_text was.call ≡ true → IfSome remote IsSession
    → given {F = ℕ} found 534 (λ codecs. checked (first_fault (unless can 527 ∷ unless (past codecs) 502 ∷ [])) (Ok (renewed_with was mode options remote codecs))) ≡ Ok connection
    → IsShowableConnection connection
renewed_so was mode options remote connection None can past call session e = absurd cc
renewed_so was mode options remote connection (Some codecs) can past call session e = by_faults can (past codecs) e where
  by_faults : (can past : Bool) → checked {F = ℕ} (first_fault (unless can 527 ∷ unless past 502 ∷ [])) (Ok (renewed_with was mode options remote codecs)) ≡ Ok connection
      → IsShowableConnection connection
  by_faults false past e = absurd cc
  by_faults true false e = absurd cc
  by_faults true true e =
      let same : renewed_with was mode options remote codecs ≡ connection = cc in
      subst IsShowableConnection same (record { call = call; remote = session })

renewed_shows : (encoding : Encoding) (change : Change) (was : Connection) (made : Result Connection ℕ) → renewed encoding change was ≡ made → IfSome change.remote IsSession
    → IsShowableConnection was → (connection : Connection) → made ≡ Ok connection → IsShowableConnection connection
unfolding renewed
renewed_shows encoding change was made is remote old connection done =
    let mode : Mode = given_or change.mode was.mode in
    let options : Options = given_or change.options was.options in
    let session : Option Session = remote_or change.remote was.remote in
    renewed_so was mode options session connection (agreed options.codecs encoding session) (can_be mode session) (λ codecs. not (is_changed was options codecs) || nat_lt was.version greatest)
    old.call (remote_shows change.remote was.remote remote old.remote) (is ∙ done)

modified_from_shows : (standing : Standing) (place : ℕ) (was : Connection) (made : Result Connection ℕ) → AllShow standing.places
    → ((connection : Connection) → made ≡ Ok connection → IsShowableConnection connection) → AllShow (left_by standing (modified_from standing place was made)).places
modified_from_shows standing place was (Err code) all one = all
modified_from_shows standing place was (Ok is) all one = set_shows standing.places place (Some is) all (one is refl)

modified_held_shows : (encoding : Encoding) (change : Change) (standing : Standing) (place : ℕ) (held : Option Connection) → IfSome change.remote IsSession → AllShow standing.places
    → IsShowablePlace held → AllShow (left_by standing (modified_held encoding change standing place held)).places
modified_held_shows encoding change standing place None remote all one = all
modified_held_shows encoding change standing place (Some was) remote all one =
    modified_from_shows standing place was (renewed encoding change was) all (renewed_shows encoding change was (renewed encoding change was) refl remote one)

modified_at_shows : (encoding : Encoding) (change : Change) (standing : Standing) (found : Result ℕ ℕ) → IfSome change.remote IsSession → AllShow standing.places
    → AllShow (left_by standing (modified_at encoding change standing found)).places
modified_at_shows encoding change standing (Ok place) remote all =
    modified_held_shows encoding change standing place (get_or standing.places place None) remote all (get_shows standing.places place all)
modified_at_shows encoding change standing (Err code) remote all = all

deleted_shows : (deletion : Deletion) (standing : Standing) (fault : Option ℕ) → AllShow standing.places
    → AllShow (left_of standing (checked fault (Ok (record standing { places = map (without deletion) standing.places })))).places
deleted_shows deletion standing (Some code) all = all
deleted_shows deletion standing None all = map_shows deletion standing.places all

-- A command's deed

remote_read : (body : List ℕ) (remote : Option Session) → remote_of body ≡ Ok remote → IfSome remote IsSession
remote_read [] remote is = let same : None ≡ remote = cc in subst (λ (r : Option Session). IfSome r IsSession) same tt
remote_read (b ∷ bs) remote is = by_session (session_of (b ∷ bs)) refl is where
  by_session : (found : Option Session) → session_of (b ∷ bs) ≡ found → (◌>>=◌ {E = ℕ} (ok_or found 509) (λ session. Ok (Some session))) ≡ Ok remote → IfSome remote IsSession
  by_session None reads e = absurd cc
  by_session (Some session) reads e =
      let same : Some session ≡ remote = cc in
      subst (λ (r : Option Session). IfSome r IsSession) same (read_is_session (b ∷ bs) session reads)

done_shows : (params : List Param) (body : List ℕ) (deed : ConnectionDeed) (encoding : Encoding) (standing : Standing) → HasConnections params body deed → AllShow standing.places
    → AllShow (after standing (happenings deed encoding)).places
unfolding after created modified deleted
done_shows params body Keep encoding standing has all = all
done_shows params body (Create creation) encoding standing has all =
    created_shows standing (place_where is_free standing.places) (nat_lt standing.last greatest) (begun encoding creation (standing.last + 1)) all
    (begun_shows encoding creation (standing.last + 1) (begun encoding creation (standing.last + 1)) refl has.call.1 (remote_read body creation.remote has.remote))
done_shows params body (Modify call id change) encoding standing has all =
    modified_at_shows encoding change standing (place_of call id standing.places) (remote_read body change.remote has.remote) all
done_shows params body (Delete deletion) encoding standing has all = deleted_shows deletion standing (refused deletion standing.places) all

-- The entity

abbrev IsNamed : Entity → Type 0
IsNamed entity = is_entity_text entity.text ≡ true

named_is : (setup : Setup) (entity : Entity) → IsEntity setup entity → IsNamed entity
named_is setup entity is = entity_is setup.names.table is.0 entity is.1

perhaps_named : (setup : Setup) (agent : Option Entity) (was : Entity) → IfSome agent (IsEntity setup) → IsNamed was → IsNamed (unwrap_or agent was)
perhaps_named setup None was read old = old
perhaps_named setup (Some agent) was read old = named_is setup agent read

given_named : (hosts : List Host) (param : Option Param) (entity : Option Entity) (was : Entity) → entity_at hosts param ≡ Ok entity → IsNamed was → IsNamed (unwrap_or entity was)
given_named hosts None entity was is old = let same : None ≡ entity = cc in subst (λ (e : Option Entity). IsNamed (unwrap_or e was)) same old
given_named hosts (Some param) entity was is old = by_entity (entity_of hosts param.value) refl is where
  by_entity : (found : Option Entity) → entity_of hosts param.value ≡ found → (◌>>=◌ {E = ℕ} (ok_or found 539) (λ said. Ok (Some said))) ≡ Ok entity → IsNamed (unwrap_or entity was)
  by_entity None reads e = absurd cc
  by_entity (Some one) reads e =
      let same : Some one ≡ entity = cc in
      subst (λ (e : Option Entity). IsNamed (unwrap_or e was)) same (entity_is hosts param.value one reads)

-- The turns

pub record Shows (line : ℕ) (endpoint : Endpoint) : Type 0 where
  pub entity : is_entity_text endpoint.post.entity.text ≡ true
  pub places : AllShow endpoint.connections.places

noted_entity : (setup : Setup) (line moment : ℕ) (endpoint : Endpoint) (done : LineDone) → (noted setup line moment endpoint done).value.post.entity ≡ endpoint.post.entity
unfolding noted
noted_entity setup line moment endpoint done = by_notice done.notice where
  by_notice : (notice : Option Notice) → (with_notice setup line moment (record endpoint { line = done.line }) notice).value.post.entity ≡ endpoint.post.entity
  by_notice None = refl
  by_notice (Some notice) = refl

noted_shows : (setup : Setup) (line moment : ℕ) (endpoint : Endpoint) (done : LineDone) → Shows line endpoint → Shows line (noted setup line moment endpoint done).value
noted_shows setup line moment endpoint done shows = record {
  entity = subst IsNamed (sym (noted_entity setup line moment endpoint done)) shows.entity;
  places = subst (λ (s : Standing). AllShow s.places) (sym (noted_same setup line moment endpoint done)) shows.places;
}

deed_shows : (setup : Setup) (command : Command) (confirms : KValue) (target : Target) (deed : Deed) → form_of command confirms setup.names ≡ Ok (Does target deed)
    → (line moment : ℕ) (endpoint : Endpoint) → Shows line endpoint → Shows line (deed_on setup deed moment line endpoint).value
unfolding deed_on
deed_shows setup command confirms target deed is line moment endpoint shows =
    let has = deed_has_values command confirms setup.names target deed is in
    let becomes = with_connections deed (with_entity deed.entity endpoint) in
    record {
      entity = subst IsNamed (sym (noted_entity setup line moment becomes (asked_if deed.request endpoint.line moment)))
          (given_named setup.names.table _ deed.entity endpoint.post.entity has.entity shows.entity);
      places = subst (λ (s : Standing). AllShow s.places) (sym (deed_connections setup deed moment line endpoint))
          (done_shows command.params command.body deed.connections (encoding_with deed endpoint) endpoint.connections has.connections shows.places);
    }

happened_shows : (setup : Setup) (due : DueKind) (line moment : ℕ) (endpoint : Endpoint) → Shows line endpoint → Shows line (happened_on due setup line moment endpoint).value
unfolding happened_on announced
happened_shows setup (OfLine due) line moment endpoint shows = noted_shows setup line moment endpoint (fired endpoint.line due moment) shows
happened_shows setup Resend line moment endpoint shows = by_pending endpoint.post.pending where
  by_repeat : (flight : InFlight) (repeat : Repeat) → Shows line (posted endpoint (repeated_as repeat setup line moment endpoint.post flight)).value
  by_repeat flight SentAgain = record { entity = shows.entity; places = shows.places }
  by_repeat flight GivenUp = record { entity = shows.entity; places = shows.places }

  by_pending : (pending : Option InFlight) → Shows line (posted endpoint (resent_by pending setup line moment endpoint.post)).value
  by_pending None = record { entity = shows.entity; places = shows.places }
  by_pending (Some flight) = by_repeat flight (repeat_of flight moment)
happened_shows setup Announce line moment endpoint shows = by_restart endpoint.post.restart where
  by_restart : (restart : Restart) → Shows line (posted endpoint (announced_by restart setup line moment endpoint.post)).value
  by_restart (Waiting until) = record { entity = shows.entity; places = shows.places }
  by_restart Announced = record { entity = shows.entity; places = shows.places }
  by_restart Serving = record { entity = shows.entity; places = shows.places }

responded_shows : (setup : Setup) (line moment : ℕ) (response : Response) (endpoint : Endpoint) → IsRead setup response → Shows line endpoint
    → Shows line (responded_on setup line moment response endpoint).value
unfolding responded_on replied announced
responded_shows setup line moment response endpoint read shows = by_heard (heard_on endpoint.post response) (heard_read setup endpoint.post response read) where
  by_heard : (heard : Heard) → HeardRead setup heard → Shows line (responded_as heard setup line moment response endpoint).value
  by_heard Nothing named = shows
  by_heard PutOff named = record { entity = shows.entity; places = shows.places }
  by_heard (Redirected agent) named = record { entity = named_is setup agent named; places = shows.places }
  by_heard (Answered agent) named =
      let becomes : Endpoint = (posted endpoint (replied (Answered agent) setup line moment response endpoint.post)).value in
      noted_shows setup line moment becomes (answered becomes.line moment)
      (record { entity = perhaps_named setup agent endpoint.post.entity named shows.entity; places = shows.places })

redirected_shows : (setup : Setup) (agent : Entity) (line : ℕ) (endpoint : Endpoint) → IsEntity setup agent → Shows line endpoint → Shows line (redirected_on agent line endpoint).value
unfolding redirected_on
redirected_shows setup agent line endpoint read shows = record { entity = named_is setup agent read; places = shows.places }

opened_shows : (setup : Setup) (agent : Option Entity) (line moment : ℕ) (endpoint : Endpoint) → IfSome agent (IsEntity setup) → Shows line endpoint
    → Shows line (opened_on agent setup moment line endpoint).value
unfolding opened_on
opened_shows setup agent line moment endpoint read shows =
    noted_shows setup line moment (with_entity agent endpoint) (opened endpoint.line moment)
    (record { entity = perhaps_named setup agent endpoint.post.entity read shows.entity; places = shows.places })

pub showing_turns : (setup : Setup) → Turns setup (Always Shows) AnySent
showing_turns setup = record {
  act = λ serving line moment act endpoint shows. (noted_shows setup line moment endpoint (phoned endpoint.line act moment) shows, any_sent _);
  deed = λ command confirms target deed is line moment endpoint shows. (deed_shows setup command confirms target deed is line moment endpoint shows, any_sent _);
  response = λ serving line moment response endpoint read shows. (responded_shows setup line moment response endpoint read shows, any_sent _);
  happening = λ serving due line moment endpoint shows. (happened_shows setup due line moment endpoint shows, any_sent _);
  redirecting = λ agent line endpoint read shows. (redirected_shows setup agent line endpoint read shows, any_sent _);
  opening = λ agent line moment endpoint read shows. (opened_shows setup agent line moment endpoint read shows, any_sent _);
}

pub showing_own_turns : (setup : Setup) → OwnTurns setup (Always Shows) AnyOwn AnySent
showing_own_turns setup = record {
  free = λ own any. inr (λ serving other line endpoint shows. shows);
  response = λ moment response own read any. (tt, any_sent _);
  happening = λ due moment own any. (tt, any_sent _);
}

pub opening_shows : (setup : Setup) → IsSetUp setup → Holds (Always Shows) AnyOwn (opening setup).endpoints
opening_shows setup set_up = record {
  list = on_made Shows (opening_endpoint setup) 1 setup.names.lines (λ i low high. record { entity = set_up.agent; places = (tt, (tt, (tt, (tt, tt)))) });
  own = tt;
}

-- What an audit of a line finds

not_any : (b : Bool) → not b ≡ true → b ≡ false
not_any true e = absurd cc
not_any false e = refl

pub line_shows : (setup : Setup) (line : ℕ) (endpoint : Endpoint) → IsSetUp setup → Sound line endpoint → HasLine setup line endpoint.connections → Shows line endpoint
    → IsShowable (audited_endpoint endpoint)
line_shows setup line endpoint set_up sound has shows =
    let parts = and_parts _ _ shows.entity in
    let front = and_parts _ _ parts.0 in
    let address = address_is setup.media_address set_up.address in
    let same : endpoint.connections.address ≡ setup.media_address = has.places.address_is in
    let port : endpoint.connections.port ≡ port_of setup line = has.places.port_is in
    let four : length endpoint.connections.places ≡ 4 = has.places.four in
    let base : setup.media_base ≤ highest_media_base = set_up.ports in
    let few : line ≤ setup.names.lines = has.few in
    let lines : setup.names.lines ≤ most_lines = set_up.lines in
    record {
      entity_blankless = not_any _ front.1;
      entity_in_line = not_any _ parts.1;
      identifier = sound.fine.digits;
      map = sound.fine.spelled.0;
      requested = sound.fine.spelled.1;
      streams = record { four = rw same address.0; each = rw same address.1; ports = omega (arith, port, four, base, few, lines) };
      places = shows.places;
    }
