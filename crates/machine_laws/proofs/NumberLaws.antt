-- Places, ports and numbers of connections, whatever happens.
use Rattle.std.proofs.Common.{◌≡◌, ℕ, zero, suc, ◌+◌, ◌*◌, ◌-◌, ◌<◌, ◌≤◌, Bool, true, false, if◌then◌else◌, nat_lt, List, [], ◌∷◌, ◌++◌, length, get_or, map, Option, Some, None, Result, Ok, Err, inl, inr, refl, sym, ap, ◌∙◌, subst, arith, ⊎_elim}
use Rattle.std.specs.Prelude.{◌⊎◌, set, slice_get, option_map, option_and_then, ◌==◌}
use Rattle.std.proofs.lemmas.Bool.{cases_Bool}
use Rattle.std.proofs.lemmas.Bool.Decides.{nat_tests}
use Rattle.mg_bytes.specs.Checks.{unless, checked, given}
use Rattle.sdp_subset.specs.declared.session.Session.{Session}
use Rattle.connections.specs.declared.codec.Encoding.{Encoding}
use Rattle.connections.specs.declared.connection.Agreement.{Agreement}
use Rattle.connections.specs.declared.connection.Change.{Change}
use Rattle.connections.specs.declared.connection.Connection.{Connection}
use Rattle.connections.specs.declared.connection.Creation.{Creation}
use Rattle.connections.specs.declared.deletion.Deletion.{Deletion}
use Rattle.connections.specs.declared.mode.Mode.{Mode}
use Rattle.connections.specs.declared.options.Options.{Options}
use Rattle.connections.specs.Numbers.{names_number, greatest}
use Rattle.connections.specs.Connection.{agreed, can_be, begun, begun_with, given_or, remote_or, renewed, renewed_with}
use Rattle.connections.specs.Places.{is_free, place_where}
use Rattle.connections.specs.Standing.{Standing, no_connections, described, left_by, left_of, created, created_from, place_of, modified, modified_at, modified_held, modified_from, is_emptied, without, refused, deleted}
use Rattle.connections.specs.Life.{Happening, creates, modifies, deletes, after_one, after, numbers_in}
use Rattle.connections.proofs.IdentifierLemmas.{one_number}
use Rattle.connections.proofs.LifeLaws.{never_past}
use Rattle.plain_machine.specs.declared.setup.Setup.{Setup}
use Rattle.plain_machine.specs.declared.endpoint.Endpoint.{Endpoint}
use Rattle.plain_machine.specs.Event.{GatewayEvent}
use Rattle.plain_machine.specs.Machine.{Endpoints, Machine, serves, port_of, opening, endpoint_at}
use Rattle.plain_machine.specs.Lists.{machine_after, plain, connections_of}
use Rattle.plain_machine.specs.Calls.{connection_at, port_at, IsOnLine}
use Rattle.plain_machine.proofs.ListLaws.{machine_on}
use Rattle.machine_laws.proofs.AllLemmas.{OnAll}
use Rattle.machine_laws.proofs.TurnLemmas.{Holds, of_line, events_on_all}
use Rattle.machine_laws.proofs.StandingLemmas.{OfConnections, AnyOwn, AnySent, Keeps, connection_turns, any_own_turns, connections_always, HasLine, line_has_places}

-- what holds of the connections of each line from the opening on
pub always : (setup : Setup) (C : ℕ → Standing → Type 0) → Keeps C
    → ((line : ℕ) → 1 ≤ line → line ≤ setup.names.lines → C line (no_connections setup.media_address (port_of setup line)))
    → (events : List GatewayEvent) (line : ℕ) (endpoint : Endpoint) → endpoint_at (plain setup events).endpoints line ≡ Some endpoint → C line endpoint.connections
always setup C keeps opens events line endpoint at =
    of_line (OfConnections C (serves (plain setup events).endpoints)) (plain setup events).endpoints line endpoint
    (events_on_all setup (OfConnections C) AnyOwn AnySent (connection_turns setup C keeps) (any_own_turns setup C) (opening setup) events (connections_always setup C keeps opens)).list at

-- Places

places_seen : (found : Option Endpoint) (places : List (Option Connection)) → option_map (λ (endpoint : Endpoint). endpoint.connections.places) found ≡ Some places
    → (endpoint : Endpoint) × (found ≡ Some endpoint) × (endpoint.connections.places ≡ places)
places_seen None places e = absurd cc
places_seen (Some endpoint) places e = (endpoint, refl, (let same : endpoint.connections.places ≡ places = cc in same))

pub four_places : (setup : Setup) (events : List GatewayEvent) (line : ℕ) (places : List (Option Connection)) → connections_of (plain setup events) line ≡ Some places → length places ≡ 4
four_places setup events line places e =
    let seen = places_seen (endpoint_at (plain setup events).endpoints line) places e in
    ap length (sym seen.2) ∙ (line_has_places setup events line seen.0 seen.1).places.four

few_numbers : (places : List (Option Connection)) → length (numbers_in places) ≤ length places
unfolding numbers_in
few_numbers [] = omega arith
few_numbers (None ∷ more) = omega (arith, few_numbers more)
few_numbers (Some connection ∷ more) = omega (arith, few_numbers more)

pub four_at_most : (setup : Setup) (events : List GatewayEvent) (line : ℕ) (places : List (Option Connection))
    → connections_of (plain setup events) line ≡ Some places → length (numbers_in places) ≤ 4
four_at_most setup events line places e = omega (arith, few_numbers places, four_places setup events line places e)

-- Their life

abbrev Life : Standing → Standing → Type 0
Life start standing = (happenings : List Happening) × (standing ≡ after start happenings)

after-append : (start : Standing) (some more : List Happening) → after start (some ++ more) ≡ after (after start some) more
unfolding after
after-append start [] more = refl
after-append start (happening ∷ some) more = after-append (after_one start happening) some more

pub one_more : (standing : Standing) (happening : Happening) → after standing (happening ∷ []) ≡ after_one standing happening
unfolding after
one_more standing happening = refl

none_more : (standing : Standing) → standing ≡ after standing []
unfolding after
none_more standing = refl

pub line_life : (setup : Setup) (events : List GatewayEvent) (line : ℕ) (endpoint : Endpoint) → endpoint_at (plain setup events).endpoints line ≡ Some endpoint
    → (happenings : List Happening) × (endpoint.connections ≡ after (no_connections setup.media_address (port_of setup line)) happenings)
line_life setup events line endpoint at =
    let start : ℕ → Standing = λ line. no_connections setup.media_address (port_of setup line) in
    always setup (λ line standing. Life (start line) standing)
    (λ line standing happening life. (
      life.0 ++ happening ∷ [],
      ap (λ (s : Standing). after_one s happening) life.1
          ∙ sym (one_more (after (start line) life.0) happening) ∙ sym (after-append (start line) life.0 (happening ∷ [])),
    ))
    (λ line low high. ([], none_more (start line))) events line endpoint at

-- Ports

beyond : (places : List (Option Connection)) (place : ℕ) (connection : Connection) → get_or places place None ≡ Some connection → place < length places
beyond [] place connection e = absurd cc
beyond (held ∷ more) zero connection e = omega arith
beyond (held ∷ more) (suc place) connection e = omega (arith, beyond more place connection e)

-- a port that is seen is that of a place of a line
record IsPort (setup : Setup) (line place port : ℕ) : Type 0 where
  some : 1 ≤ line
  inside : place < 4
  is : port ≡ setup.media_base + 8 * (line - 1) + 2 * place

port_seen : (setup : Setup) (events : List GatewayEvent) (line place port : ℕ) → port_at (plain setup events) line place ≡ Some port → IsPort setup line place port
port_seen setup events line place port e = by_endpoint (endpoint_at (plain setup events).endpoints line) refl e where
  by_held : (endpoint : Endpoint) (held : Option Connection) → get_or endpoint.connections.places place None ≡ held
      → HasLine setup line endpoint.connections → option_map (λ connection. (described endpoint.connections place connection).port) held ≡ Some port → IsPort setup line place port
  by_held endpoint None here has e = absurd cc
  by_held endpoint (Some connection) here has e =
      let same : endpoint.connections.port + 2 * place ≡ port = cc in
      let first : endpoint.connections.port ≡ setup.media_base + 8 * (line - 1) = has.places.port_is in
      let four : length endpoint.connections.places ≡ 4 = has.places.four in
      record { some = has.some; inside = omega (arith, beyond endpoint.connections.places place connection here, four); is = omega (arith, same, first) }

  by_endpoint : (found : Option Endpoint) → endpoint_at (plain setup events).endpoints line ≡ found
      → option_and_then (λ endpoint. option_map (λ connection. (described endpoint.connections place connection).port) (get_or endpoint.connections.places place None)) found ≡ Some port
      → IsPort setup line place port
  by_endpoint None at e = absurd cc
  by_endpoint (Some endpoint) at e = by_held endpoint (get_or endpoint.connections.places place None) refl (line_has_places setup events line endpoint at) e

apart_ports : (base line other place next : ℕ) → 1 ≤ line → 1 ≤ other → place < 4 → next < 4
    → base + 8 * (line - 1) + 2 * place ≡ base + 8 * (other - 1) + 2 * next → (line ≡ other) × (place ≡ next)
apart_ports base line other place next some more inside within e = (omega arith, omega arith)

pub ports_apart : (setup : Setup) (events : List GatewayEvent) (line other place next port : ℕ) → port_at (plain setup events) line place ≡ Some port
    → port_at (plain setup events) other next ≡ Some port → (line ≡ other) × (place ≡ next)
ports_apart setup events line other place next port one two =
    let p = port_seen setup events line place port one in
    let q = port_seen setup events other next port two in
    apart_ports setup.media_base line other place next p.some q.some p.inside q.inside (sym p.is ∙ q.is)

-- Numbers

-- what stands at a place then stood there under its number, or is new, at one place
record Step (was is : Standing) : Type 0 where
  new : ℕ
  last : was.last ≤ is.last
  from : (place : ℕ) (connection : Connection) → get_or is.places place None ≡ Some connection
      → ((old : Connection) × (get_or was.places place None ≡ Some old) × (old.number ≡ connection.number))
      ⊎ ((connection.number ≡ was.last + 1) × (is.last ≡ was.last + 1) × (place ≡ new))

set_cases : (places : List (Option Connection)) (place other : ℕ) (held : Option Connection) (connection : Connection) → get_or (set places place held) other None ≡ Some connection
    → ((other ≡ place) × (held ≡ Some connection)) ⊎ (get_or places other None ≡ Some connection)
set_cases [] place other held connection e = absurd cc
set_cases (first ∷ more) zero zero held connection e = inl (refl, e)
set_cases (first ∷ more) zero (suc other) held connection e = inr e
set_cases (first ∷ more) (suc place) zero held connection e = inr e
set_cases (first ∷ more) (suc place) (suc other) held connection e = by_rest (set_cases more place other held connection e) where
  by_rest : (((other ≡ place) × (held ≡ Some connection)) ⊎ (get_or more other None ≡ Some connection))
      → ((suc other ≡ suc place) × (held ≡ Some connection)) ⊎ (get_or more other None ≡ Some connection)
  by_rest (inl here) = inl (ap suc here.0, here.1)
  by_rest (inr there) = inr there

without_cases : (deletion : Deletion) (held : Option Connection) (connection : Connection) → without deletion held ≡ Some connection → held ≡ Some connection
without_cases deletion held connection e = ⊎_elim
    (λ (h : is_emptied deletion held ≡ true). absurd (let no : None ≡ Some connection = (rw h at e) in cc))
    (λ (h : is_emptied deletion held ≡ false). let same : held ≡ Some connection = (rw h at e) in same)
    (cases_Bool (is_emptied deletion held))

map_cases : (deletion : Deletion) (places : List (Option Connection)) (place : ℕ) (connection : Connection) → get_or (map (without deletion) places) place None ≡ Some connection
    → get_or places place None ≡ Some connection
map_cases deletion [] place connection e = absurd cc
map_cases deletion (held ∷ more) zero connection e = without_cases deletion held connection e
map_cases deletion (held ∷ more) (suc place) connection e = map_cases deletion more place connection e

same_step : (was : Standing) → Step was was
same_step was = record { new = 0; last = omega arith; from = λ place connection here. inl (connection, here, refl) }

-- a connection that is begun has its number, and one that is renewed keeps it
begun_number : (found : Option Agreement) (can : Bool) (creation : Creation) (number : ℕ) (connection : Connection)
    → given {F = ℕ} found 534 (λ codecs. checked (unless can 527) (Ok (begun_with creation number codecs))) ≡ Ok connection → connection.number ≡ number
begun_number None can creation number connection e = absurd cc
begun_number (Some codecs) false creation number connection e = absurd cc
begun_number (Some codecs) true creation number connection e = let same : begun_with creation number codecs ≡ connection = cc in sym (ap (λ (c : Connection). c.number) same)

number_of_begun : (encoding : Encoding) (creation : Creation) (number : ℕ) (connection : Connection) → begun encoding creation number ≡ Ok connection → connection.number ≡ number
unfolding begun
number_of_begun encoding creation number connection e =
    begun_number (agreed creation.options.codecs encoding creation.remote) (can_be creation.mode creation.remote) creation number connection e

renewed_number : (was : Connection) (mode : Mode) (options : Options) (remote : Option Session) (found : Option Agreement) (checks : Agreement → Option ℕ) (is : Connection)
    → given {F = ℕ} found 534 (λ codecs. checked (checks codecs) (Ok (renewed_with was mode options remote codecs))) ≡ Ok is → was.number ≡ is.number
renewed_number was mode options remote None checks is e = absurd cc
renewed_number was mode options remote (Some codecs) checks is e = by_check (checks codecs) e where
  by_check : (fault : Option ℕ) → checked fault (Ok (renewed_with was mode options remote codecs)) ≡ Ok is → was.number ≡ is.number
  by_check (Some code) e = absurd cc
  by_check None e = let same : renewed_with was mode options remote codecs ≡ is = cc in ap (λ (c : Connection). c.number) same

number_of_renewed : (encoding : Encoding) (change : Change) (was is : Connection) → renewed encoding change was ≡ Ok is → was.number ≡ is.number
unfolding renewed
number_of_renewed encoding change was is e =
    renewed_number was (given_or change.mode was.mode) (given_or change.options was.options) (remote_or change.remote was.remote)
    (agreed (given_or change.options was.options).codecs encoding (remote_or change.remote was.remote)) _ is e

created_step : (was : Standing) (found : Option ℕ) (below : Bool) (made : Result Connection ℕ) → ((connection : Connection) → made ≡ Ok connection → connection.number ≡ was.last + 1)
    → Step was (left_by was (given {F = ℕ} found 540 (λ place. checked (unless below 502) (created_from was place (was.last + 1) made))))
created_step was None below made number = same_step was
created_step was (Some place) false made number = same_step was
created_step was (Some place) true (Err code) number = same_step was
created_step was (Some place) true (Ok connection) number = record {
  new = place;
  last = omega arith;
  from = λ other held here. by_place other held (set_cases was.places place other (Some connection) held here);
} where
  by_place : (other : ℕ) (held : Connection) → (((other ≡ place) × (Some connection ≡ Some held)) ⊎ (get_or was.places other None ≡ Some held))
      → ((old : Connection) × (get_or was.places other None ≡ Some old) × (old.number ≡ held.number)) ⊎ ((held.number ≡ was.last + 1) × (was.last + 1 ≡ was.last + 1) × (other ≡ place))
  by_place other held (inl here) =
      let same : connection ≡ held = let e = here.1 in cc in
      inr (ap (λ (c : Connection). c.number) (sym same) ∙ number connection refl, refl, here.0)
  by_place other held (inr there) = inl (held, there, refl)

modified_from_step : (was : Standing) (place : ℕ) (old : Connection) (made : Result Connection ℕ) → get_or was.places place None ≡ Some old
    → ((is : Connection) → made ≡ Ok is → old.number ≡ is.number) → Step was (left_by was (modified_from was place old made))
modified_from_step was place old (Err code) here number = same_step was
modified_from_step was place old (Ok is) here number = record {
  new = 0;
  last = omega arith;
  from = λ other held there. by_place other held (set_cases was.places place other (Some is) held there);
} where
  by_place : (other : ℕ) (held : Connection) → (((other ≡ place) × (Some is ≡ Some held)) ⊎ (get_or was.places other None ≡ Some held))
      → ((before : Connection) × (get_or was.places other None ≡ Some before) × (before.number ≡ held.number)) ⊎ ((held.number ≡ was.last + 1) × (was.last ≡ was.last + 1) × (other ≡ 0))
  by_place other held (inl at) =
      let same : is ≡ held = let e = at.1 in cc in
      inl (old, subst (λ (p : ℕ). get_or was.places p None ≡ Some old) (sym at.0) here, number is refl ∙ ap (λ (c : Connection). c.number) same)
  by_place other held (inr there) = inl (held, there, refl)

modified_held_step : (encoding : Encoding) (change : Change) (was : Standing) (place : ℕ) (held : Option Connection) → get_or was.places place None ≡ held
    → Step was (left_by was (modified_held encoding change was place held))
modified_held_step encoding change was place None here = same_step was
modified_held_step encoding change was place (Some old) here =
    modified_from_step was place old (renewed encoding change old) here (λ is e. number_of_renewed encoding change old is e)

modified_at_step : (encoding : Encoding) (change : Change) (was : Standing) (found : Result ℕ ℕ) → Step was (left_by was (modified_at encoding change was found))
modified_at_step encoding change was (Ok place) = modified_held_step encoding change was place (get_or was.places place None) refl
modified_at_step encoding change was (Err code) = same_step was

deleted_step : (was : Standing) (deletion : Deletion) (fault : Option ℕ) → Step was (left_of was (checked fault (Ok (record was { places = map (without deletion) was.places }))))
deleted_step was deletion (Some code) = same_step was
deleted_step was deletion None =
    record { new = 0; last = omega arith; from = λ place connection here. inl (connection, map_cases deletion was.places place connection here, refl) }

one_step : (was : Standing) (happening : Happening) → Step was (after_one was happening)
unfolding created modified deleted
one_step was (creates encoding creation) =
    created_step was (place_where is_free was.places) (nat_lt was.last greatest) (begun encoding creation (was.last + 1))
    (λ connection e. number_of_begun encoding creation (was.last + 1) connection e)
one_step was (modifies encoding call id change) = modified_at_step encoding change was (place_of call id was.places)
one_step was (deletes deletion) = deleted_step was deletion (refused deletion was.places)

-- numbers are those that were given, and no two places have one
record Numbered (standing : Standing) : Type 0 where
  below : (place : ℕ) (connection : Connection) → get_or standing.places place None ≡ Some connection → connection.number ≤ standing.last
  apart : (place other : ℕ) (connection next : Connection) → get_or standing.places place None ≡ Some connection → get_or standing.places other None ≡ Some next
      → connection.number ≡ next.number → place ≡ other

numbered_on : (was is : Standing) → Step was is → Numbered was → Numbered is
numbered_on was is step n = record {
  below = λ place connection here. by_one connection (step.from place connection here);
  apart = λ place other connection next here there same. by_both place other connection next same (step.from place connection here) (step.from other next there);
} where
  Was : ℕ → Connection → Type 0
  Was place connection = (old : Connection) × (get_or was.places place None ≡ Some old) × (old.number ≡ connection.number)

  New : ℕ → Connection → Type 0
  New place connection = (connection.number ≡ was.last + 1) × (is.last ≡ was.last + 1) × (place ≡ step.new)

  by_one : (connection : Connection) → {place : ℕ} → (((old : Connection) × (get_or was.places place None ≡ Some old) × (old.number ≡ connection.number))
      ⊎ ((connection.number ≡ was.last + 1) × (is.last ≡ was.last + 1) × (place ≡ step.new))) → connection.number ≤ is.last
  by_one connection {place} (inl old) =
      let low : old.0.number ≤ was.last = n.below place old.0 old.1 in
      let last : was.last ≤ is.last = step.last in
      let same : old.0.number ≡ connection.number = old.2 in
      omega (arith, low, last, same)
  by_one connection (inr new) = let number = new.0 in let last = new.1 in omega (arith, number, last)

  by_both : (place other : ℕ) (connection next : Connection) → connection.number ≡ next.number
      → (((old : Connection) × (get_or was.places place None ≡ Some old) × (old.number ≡ connection.number)) ⊎ ((connection.number ≡ was.last + 1) × (is.last ≡ was.last + 1) × (place ≡ step.new)))
      → (((old : Connection) × (get_or was.places other None ≡ Some old) × (old.number ≡ next.number)) ⊎ ((next.number ≡ was.last + 1) × (is.last ≡ was.last + 1) × (other ≡ step.new)))
      → place ≡ other
  by_both place other connection next same (inl one) (inl two) = n.apart place other one.0 two.0 one.1 two.1 (one.2 ∙ same ∙ sym two.2)
  by_both place other connection next same (inl one) (inr two) =
      let low : one.0.number ≤ was.last = n.below place one.0 one.1 in
      absurd (omega (arith, low, one.2, same, two.0))
  by_both place other connection next same (inr one) (inl two) =
      let low : two.0.number ≤ was.last = n.below other two.0 two.1 in
      absurd (omega (arith, low, two.2, same, one.0))
  by_both place other connection next same (inr one) (inr two) = one.2 ∙ sym two.2

no_place : (place : ℕ) (connection : Connection) → get_or (None ∷ None ∷ None ∷ None ∷ []) place None ≡ Some connection → ⊥
no_place zero connection e = cc
no_place (suc zero) connection e = cc
no_place (suc (suc zero)) connection e = cc
no_place (suc (suc (suc zero))) connection e = cc
no_place (suc (suc (suc (suc place)))) connection e = cc

none_numbered : (setup : Setup) (line : ℕ) → Numbered (no_connections setup.media_address (port_of setup line))
none_numbered setup line = record {
  below = λ place connection here. absurd (no_place place connection here);
  apart = λ place other connection next here there same. absurd (no_place place connection here);
}

-- a connection that is seen stands on an endpoint
record IsSeen (m : Machine) (line place : ℕ) (connection : Connection) : Type 0 where
  endpoint : Endpoint
  at : endpoint_at m.endpoints line ≡ Some endpoint
  here : get_or endpoint.connections.places place None ≡ Some connection

seen_at : (m : Machine) (line place : ℕ) (connection : Connection) → connection_at m line place ≡ Some connection → IsSeen m line place connection
seen_at m line place connection e = by_endpoint (endpoint_at m.endpoints line) refl e where
  by_endpoint : (found : Option Endpoint) → endpoint_at m.endpoints line ≡ found → option_and_then (λ endpoint. get_or endpoint.connections.places place None) found ≡ Some connection
      → IsSeen m line place connection
  by_endpoint None at e = absurd cc
  by_endpoint (Some endpoint) at e = record { endpoint = endpoint; at = at; here = e }

pub one_endpoint : (found : Option Endpoint) (endpoint other : Endpoint) → found ≡ Some endpoint → found ≡ Some other → endpoint ≡ other
one_endpoint found endpoint other one two = let same : Some endpoint ≡ Some other = sym one ∙ two in cc

line_numbered : (setup : Setup) (events : List GatewayEvent) (line : ℕ) (endpoint : Endpoint) → endpoint_at (plain setup events).endpoints line ≡ Some endpoint → Numbered endpoint.connections
line_numbered setup events line endpoint at =
    always setup (λ line standing. Numbered standing) (λ line standing happening n. numbered_on standing (after_one standing happening) (one_step standing happening) n)
    (λ line low high. none_numbered setup line) events line endpoint at

pub numbers_apart : (setup : Setup) (events : List GatewayEvent) (line place other : ℕ) (connection next : Connection)
    → connection_at (plain setup events) line place ≡ Some connection → connection_at (plain setup events) line other ≡ Some next → connection.number ≡ next.number → place ≡ other
numbers_apart setup events line place other connection next one two same =
    let p = seen_at (plain setup events) line place connection one in
    let q = seen_at (plain setup events) line other next two in
    let together : q.endpoint ≡ p.endpoint = one_endpoint (endpoint_at (plain setup events).endpoints line) q.endpoint p.endpoint q.at p.at in
    let there : get_or p.endpoint.connections.places other None ≡ Some next = subst (λ (s : Endpoint). get_or s.connections.places other None ≡ Some next) together q.here in
    (line_numbered setup events line p.endpoint p.at).apart place other connection next p.here there same

-- no number is past the greatest, so that no two connections have one identifier

no_more : (setup : Setup) (events : List GatewayEvent) (line : ℕ) (endpoint : Endpoint) → endpoint_at (plain setup events).endpoints line ≡ Some endpoint → endpoint.connections.last ≤ greatest
no_more setup events line endpoint at =
    always setup (λ line standing. standing.last ≤ greatest)
    (λ line standing happening few. subst (λ (s : Standing). s.last ≤ greatest) (one_more standing happening) (never_past standing (happening ∷ []) few))
    (λ line low high. omega arith) events line endpoint at

pub names_apart : (setup : Setup) (events : List GatewayEvent) (line place other : ℕ) (id : List ℕ) (connection next : Connection)
    → connection_at (plain setup events) line place ≡ Some connection → connection_at (plain setup events) line other ≡ Some next
    → names_number id connection.number ≡ true → names_number id next.number ≡ true → place ≡ other
names_apart setup events line place other id connection next one two named again =
    numbers_apart setup events line place other connection next one two
    (one_number id connection.number next.number (few place connection one) (few other next two) named again) where
      few : (place : ℕ) (connection : Connection) → connection_at (plain setup events) line place ≡ Some connection → connection.number ≤ greatest
      few place connection e =
          let seen = seen_at (plain setup events) line place connection e in
          let low : connection.number ≤ seen.endpoint.connections.last = (line_numbered setup events line seen.endpoint seen.at).below place connection seen.here in
          let high : seen.endpoint.connections.last ≤ greatest = no_more setup events line seen.endpoint seen.at in
          omega (arith, low, high)

-- Never again

-- one with this number stands
record HasNumber (standing : Standing) (number : ℕ) : Type 0 where
  place : ℕ
  connection : Connection
  here : get_or standing.places place None ≡ Some connection
  has : connection.number ≡ number

-- no number is less, and what has an old one stood before
record Later (was is : Standing) : Type 0 where
  last : was.last ≤ is.last
  old : (number : ℕ) → number ≤ was.last → HasNumber is number → HasNumber was number

later_same : (was : Standing) → Later was was
later_same was = record { last = omega arith; old = λ number low has. has }

later_on : (was is next : Standing) → Step is next → Later was is → Later was next
later_on was is next step later = record {
  last = omega (arith, later.last, step.last);
  old = λ number low has. later.old number low (by_one number low has (step.from has.place has.connection has.here));
} where
  by_one : (number : ℕ) → number ≤ was.last → (has : HasNumber next number) → (((old : Connection) × (get_or is.places has.place None ≡ Some old) × (old.number ≡ has.connection.number))
      ⊎ ((has.connection.number ≡ is.last + 1) × (next.last ≡ is.last + 1) × (has.place ≡ step.new))) → HasNumber is number
  by_one number low has (inl old) = record { place = has.place; connection = old.0; here = old.1; has = old.2 ∙ has.has }
  by_one number low has (inr new) =
      let same : has.connection.number ≡ number = has.has in
      let last : was.last ≤ is.last = later.last in
      absurd (omega (arith, low, same, last, new.0))

-- of a machine, each line of which begins as it is
pub all_from : (P : ℕ → Endpoint → Type 0) (n : ℕ) (list : List Endpoint) → ((place : ℕ) (endpoint : Endpoint) → slice_get list place ≡ Some endpoint → P (n + place) endpoint)
    → OnAll P n list
all_from P n [] each = tt
all_from P n (endpoint ∷ list) each = (
  subst (λ (i : ℕ). P i endpoint) (let e : n + 0 ≡ n = omega arith in e) (each 0 endpoint refl),
  all_from P (n + 1) list (λ place other at. subst (λ (i : ℕ). P i other) (let e : n + suc place ≡ n + 1 + place = omega arith in e) (each (suc place) other at)),
)

pub at_next : (endpoints : Endpoints) (place : ℕ) → endpoint_at endpoints (1 + place) ≡ slice_get endpoints.list place
at_next endpoints place = by_test (1 + place == 0) refl where
  by_test : (b : Bool) → (1 + place == 0) ≡ b → (if b then None else slice_get endpoints.list (1 + place - 1)) ≡ slice_get endpoints.list place
  by_test true e = absurd (let no : 1 + place ≡ 0 = grind (arith, nat_tests) in omega arith)
  by_test false e = ap (slice_get endpoints.list) (let same : 1 + place - 1 ≡ place = omega arith in same)

keeps_grown : (m : Machine) → Keeps (λ line standing. (was : Endpoint) → endpoint_at m.endpoints line ≡ Some was → Later was.connections standing)
keeps_grown m line standing happening grown was at = later_on was.connections standing (after_one standing happening) (one_step standing happening) (grown was at)

begins_grown : (m : Machine) → Holds (OfConnections (λ line standing. (was : Endpoint) → endpoint_at m.endpoints line ≡ Some was → Later was.connections standing)) AnyOwn m.endpoints
begins_grown m = record {
  list = all_from (OfConnections (λ line standing. (was : Endpoint) → endpoint_at m.endpoints line ≡ Some was → Later was.connections standing) false) 1 m.endpoints.list
      (λ place endpoint at was before.
      let same : was ≡ endpoint = one_endpoint (endpoint_at m.endpoints (1 + place)) was endpoint before (at_next m.endpoints place ∙ at) in
      subst (λ (s : Endpoint). Later was.connections s.connections) same (later_same was.connections));
  own = tt;
}

grown : (setup : Setup) (m : Machine) (events : List GatewayEvent) (line : ℕ) (was is : Endpoint) → endpoint_at m.endpoints line ≡ Some was
    → endpoint_at (machine_after setup m events).endpoints line ≡ Some is → Later was.connections is.connections
grown setup m events line was is before at =
    of_line (OfConnections (λ line standing. (was : Endpoint) → endpoint_at m.endpoints line ≡ Some was → Later was.connections standing) false) (machine_after setup m events).endpoints line is
    (events_on_all setup _ AnyOwn AnySent (connection_turns setup _ (keeps_grown m)) (any_own_turns setup _) m events (begins_grown m)).list at was before

-- a line that stands later stood before
back : (setup : Setup) (m : Machine) (events : List GatewayEvent) (line : ℕ) (is : Endpoint) → endpoint_at (machine_after setup m events).endpoints line ≡ Some is
    → (was : Endpoint) × (endpoint_at m.endpoints line ≡ Some was)
back setup m events line is at =
    of_line (λ line endpoint. (was : Endpoint) × (endpoint_at m.endpoints line ≡ Some was)) (machine_after setup m events).endpoints line is
    (events_on_all setup (OfConnections (λ line standing. (was : Endpoint) × (endpoint_at m.endpoints line ≡ Some was))) AnyOwn AnySent
    (connection_turns setup (λ line standing. (was : Endpoint) × (endpoint_at m.endpoints line ≡ Some was)) (λ line standing happening was. was)) (any_own_turns setup _) m events (record {
      list = all_from (OfConnections (λ line standing. (was : Endpoint) × (endpoint_at m.endpoints line ≡ Some was)) false) 1 m.endpoints.list
          (λ place endpoint at. (endpoint, at_next m.endpoints place ∙ at));
      own = tt;
    })).list at

-- a number that is old stands later only if it stood
old_stands : (setup : Setup) (m : Machine) (events : List GatewayEvent) (line number : ℕ) (was : Endpoint) → endpoint_at m.endpoints line ≡ Some was → number ≤ was.connections.last
    → IsOnLine (machine_after setup m events) line number → IsOnLine m line number
old_stands setup m events line number was before low stands =
    let seen = seen_at (machine_after setup m events) line stands.place stands.connection stands.here in
    let later = grown setup m events line was seen.endpoint before seen.at in
    let has = later.old number low (record { place = stands.place; connection = stands.connection; here = seen.here; has = stands.has }) in
    record {
      place = has.place;
      connection = has.connection;
      here = ap (option_and_then (λ (endpoint : Endpoint). get_or endpoint.connections.places has.place None)) before ∙ has.here;
      has = has.has;
    }

pub never_again : (setup : Setup) (before between later : List GatewayEvent) (line number : ℕ) → IsOnLine (plain setup before) line number
    → (IsOnLine (plain setup (before ++ between)) line number → ⊥) → IsOnLine (plain setup ((before ++ between) ++ later)) line number → ⊥
never_again setup before between later line number stood gone stands =
    let one : plain setup (before ++ between) ≡ machine_after setup (plain setup before) between = machine_on setup (opening setup) before between in
    let two : plain setup ((before ++ between) ++ later) ≡ machine_after setup (plain setup (before ++ between)) later = machine_on setup (opening setup) (before ++ between) later in
    let seen = seen_at (plain setup before) line stood.place stood.connection stood.here in
    let low : stood.connection.number ≤ seen.endpoint.connections.last = (line_numbered setup before line seen.endpoint seen.at).below stood.place stood.connection seen.here in
    let after_all : IsOnLine (machine_after setup (plain setup (before ++ between)) later) line number = subst (λ (m : Machine). IsOnLine m line number) two stands in
    let late = seen_at (machine_after setup (plain setup (before ++ between)) later) line after_all.place after_all.connection after_all.here in
    let mid = back setup (plain setup (before ++ between)) later line late.endpoint late.at in
    let more = grown setup (plain setup before) between line seen.endpoint mid.0 seen.at (subst (λ (m : Machine). endpoint_at m.endpoints line ≡ Some mid.0) one mid.1) in
    let last : seen.endpoint.connections.last ≤ mid.0.connections.last = more.last in
    let same : stood.connection.number ≡ number = stood.has in
    gone (old_stands setup (plain setup (before ++ between)) later line number mid.0 mid.1 (omega (arith, low, last, same)) after_all)
