-- What answers tell of connections is short, and can be written whole.
use Rattle.std.proofs.Common.{◌≡◌, ℕ, zero, suc, ◌+◌, ◌/◌, ◌%◌, ◌<◌, ◌≤◌, Bool, true, false, ◌==◌, nat_lt, List, [], ◌∷◌, length, get_or, map, codes, Option, Some, None, Result, Ok, Err, refl, ap, ◌∙◌, arith, ⊎_elim}
use Rattle.std.specs.Prelude.{nat_le, find, option_map}
use Rattle.std.specs.Fmt.{digits, digits_onto, digit_glyph}
use Rattle.std.specs.List.{AllByRecursion, enumerate_from, flat_map, list_all, list_any}
use Rattle.std.proofs.lemmas.Bool.{and_parts, cases_Bool, leb-true}
use Rattle.std.proofs.lemmas.Bool.Decides.{nat_tests}
use Rattle.std.proofs.lemmas.List.{length-append}
use Rattle.std.specs.declared.net.ipv4_addr.Ipv4Addr.{Ipv4Addr}
use Rattle.mg_bytes.specs.Blanks.{trimmed, trimmed_end}
use Rattle.mg_bytes.specs.Checks.{unless, checked, given}
use Rattle.mg_bytes.specs.Lines.{ended}
use Rattle.mgcp_text.specs.Writing.{param_line, is_writable_param, is_writable_body}
use Rattle.sdp_subset.specs.declared.session.Session.{Session}
use Rattle.sdp_subset.specs.Payloads.{are_payloads}
use Rattle.sdp_subset.specs.Writing.{session_text, IsSession}
use Rattle.sdp_subset.proofs.WholeLemmas.{whole_written, first_written, dotless_written, two_written}
use Rattle.connections.specs.declared.codec.Codec.TheVariants.{Pcmu, Pcma}
use Rattle.connections.specs.declared.codec.Codecs.{Codecs}
use Rattle.connections.specs.declared.codec.Codecs.TheVariants.{Only, Both}
use Rattle.connections.specs.declared.codec.Encoding.{Encoding}
use Rattle.connections.specs.declared.connection.Change.{Change}
use Rattle.connections.specs.declared.connection.Connection.{Connection}
use Rattle.connections.specs.declared.deletion.Deletion.{Deletion}
use Rattle.connections.specs.declared.deletion.Deletion.TheVariants.{All, OfCall, One}
use Rattle.connections.specs.Codecs.{payload_type, listed}
use Rattle.connections.specs.Connection.{begun, is_changed, renewed}
use Rattle.connections.specs.Numbers.{number_text, greatest}
use Rattle.connections.specs.Places.{is_free, holds_call, holds_both, place_from, place_where}
use Rattle.connections.specs.Standing.{Standing, described, created, created_from, place_of, modified, modified_at, modified_held, modified_from, shown_if, deleted}
use Rattle.command_forms.specs.declared.forms.ConnectionDeed.{ConnectionDeed}
use Rattle.command_forms.specs.declared.forms.ConnectionDeed.TheVariants.{Keep, Create, Modify, Delete}
use Rattle.plain_machine.specs.declared.setup.Setup.{Setup}
use Rattle.plain_machine.specs.Setup.{is_address, IsSetUp, most_lines, highest_media_base}
use Rattle.plain_machine.specs.declared.endpoint.Endpoint.{Endpoint}
use Rattle.plain_machine.specs.Machine.{Endpoints, port_of}
use Rattle.plain_machine.specs.Connecting.{Shown, nothing_shown, id_param, created_shown, modified_shown, counts_param, deleted_shown, showing, showing_what, connected}
use Rattle.plain_machine.specs.Requesting.{shown_by, has_place, line_with_place}
use Rattle.machine_laws.proofs.NotificationLemmas.{param_short}
use Rattle.plain_machine.proofs.ShownLemmas.{id_writable, body_writable}
use Rattle.machine_laws.proofs.StandingLemmas.{HasLine}

-- The identifier of a connection

onto_length : (k n : ℕ) (behind : List ℕ) → length (digits_onto k 16 true n behind) ≤ k + length behind
onto_length zero n behind = omega arith
onto_length (suc k) n behind = ⊎_elim
    (λ (h : (n / 16 == 0) ≡ true). rw h (omega arith))
    (λ (h : (n / 16 == 0) ≡ false). rw h (omega (arith, onto_length k (n / 16) (digit_glyph true (n % 16) ∷ behind))))
    (cases_Bool (n / 16 == 0))

number_short : (number : ℕ) → length (number_text number) ≤ 64
unfolding number_text digits
number_short number = onto_length 64 number []

-- A description

octets_small : (octets : List ℕ) → list_all (λ octet. nat_le octet 255) octets ≡ true → AllByRecursion (λ octet. octet ≤ 255) octets
octets_small [] all = tt
octets_small (octet ∷ octets) all =
    let both = and_parts (nat_le octet 255) (list_all (λ octet. nat_le octet 255) octets) all in
    (leb-true octet 255 both.0, octets_small octets both.1)

codecs_fit : (codecs : Codecs) → are_payloads (map payload_type (listed codecs)) ≡ true
unfolding are_payloads
codecs_fit (Only Pcmu) = refl
codecs_fit (Only Pcma) = refl
codecs_fit (Both Pcmu) = refl
codecs_fit (Both Pcma) = refl

codecs_few : (codecs : Codecs) → length (map payload_type (listed codecs)) ≤ 2
codecs_few (Only codec) = omega arith
codecs_few (Both first) = omega arith

same_number : (m n : ℕ) → (m == n) ≡ true → m ≡ n
same_number m n h = grind (arith, nat_tests)

pub address_is : (address : Ipv4Addr) → is_address address ≡ true → (length address.octets ≡ 4) × AllByRecursion (λ octet. octet ≤ 255) address.octets
address_is address is =
    let both = and_parts (length address.octets == 4) (list_all (λ octet. nat_le octet 255) address.octets) is in
    (same_number (length address.octets) 4 both.0, octets_small address.octets both.1)

-- what is shown can be written, and is short
pub record IsShown (shown : Shown) : Type 0 where
  pub each : list_all is_writable_param shown.params ≡ true
  pub whole : is_writable_body shown.body ≡ true
  pub params : length (flat_map (λ param. ended (param_line param)) shown.params) ≤ 100
  pub body : length shown.body ≤ 400

pub nothing_is : IsShown nothing_shown
unfolding is_writable_body
nothing_is = record { each = refl; whole = refl; params = omega arith; body = omega arith }

-- the line that is chosen is one of them

chosen_within : (n line : ℕ) (list : List Endpoint) → option_map (λ (one : ℕ × Endpoint). one.0) (find has_place (enumerate_from n list)) ≡ Some line → line < n + length list
chosen_within n line [] e = absurd cc
chosen_within n line (endpoint ∷ list) e = ⊎_elim
    (λ (h : has_place (n, endpoint) ≡ true). let here : Some n ≡ Some line = (rw h at e) in let same : n ≡ line = cc in omega arith)
    (λ (h : has_place (n, endpoint) ≡ false).
    let there : option_map (λ (one : ℕ × Endpoint). one.0) (find has_place (enumerate_from (n + 1) list)) ≡ Some line = (rw h at e) in
    omega (arith, chosen_within (n + 1) line list there))
    (cases_Bool (has_place (n, endpoint)))

pub line_inside : (endpoints : Endpoints) (line : ℕ) → line_with_place endpoints ≡ Some line → line ≤ length endpoints.list
unfolding line_with_place
line_inside endpoints line e = omega (arith, chosen_within 1 line endpoints.list e)

-- the description of a connection of a line
module _ (setup : Setup) (set_up : IsSetUp setup) (line : ℕ) (standing : Standing) (has : HasLine setup line standing) where
  described_is : (place : ℕ) (connection : Connection) → place < 4 → IsSession (described standing place connection)
  described_is place connection inside =
      let address = address_is setup.media_address set_up.address in
      let same : standing.address ≡ setup.media_address = has.places.address_is in
      let port : standing.port ≡ port_of setup line = has.places.port_is in
      let lines : setup.names.lines ≤ most_lines = set_up.lines in
      let few : line ≤ setup.names.lines = has.few in
      let low : setup.media_base ≤ highest_media_base = set_up.ports in
      record {
        four = rw same address.0;
        each = rw same address.1;
        low = omega arith;
        types = codecs_fit connection.codecs.in_force;
      }

  text_shown : (place : ℕ) (connection : Connection) → place < 4
      → (is_writable_body (session_text (described standing place connection)) ≡ true) × (length (session_text (described standing place connection)) ≤ 400)
  text_shown place connection inside =
      let is = described_is place connection inside in
      let session : Session = described standing place connection in
      (body_writable (session_text session) (whole_written session is) (first_written session is) (dotless_written session is), two_written session is (codecs_few connection.codecs.in_force))

  found_inside : (test : Option Connection → Bool) (n place : ℕ) (places : List (Option Connection)) → place_from n test places ≡ Some place → place < n + length places
  unfolding place_from
  found_inside test n place [] e = absurd cc
  found_inside test n place (held ∷ more) e = ⊎_elim
      (λ (h : test held ≡ true). let here : Some n ≡ Some place = (rw h at e) in let same : n ≡ place = cc in omega arith)
      (λ (h : test held ≡ false). let there : place_from (n + 1) test more ≡ Some place = (rw h at e) in omega (arith, found_inside test (n + 1) place more there))
      (cases_Bool (test held))

  where_inside : (test : Option Connection → Bool) (place : ℕ) → place_where test standing.places ≡ Some place → place < 4
  where_inside test place e =
      let four : length standing.places ≡ 4 = has.places.four in
      omega (arith, found_inside test 0 place standing.places e, four)

  id_shown : (number : ℕ) (text : List ℕ) → is_writable_body text ≡ true → length text ≤ 400 → IsShown (record { params = id_param number ∷ []; body = text })
  id_shown number text whole short =
      let one : is_writable_param (id_param number) ≡ true = id_writable number in
      let line : length (ended (param_line (id_param number))) ≤ 69 = param_short (codes "I") (number_text number) 64 (omega arith) (number_short number) in
      let all = length-append (ended (param_line (id_param number))) [] in
      record { each = rw one refl; whole = whole; params = omega (arith, line, all); body = short }

  created_is : (found : Option ℕ) → place_where is_free standing.places ≡ found → (below : Bool) (made : Result Connection ℕ)
      → IsShown (shown_by (showing created_shown (given {F = ℕ} found 540 (λ place. checked (unless below 502) (created_from standing place (standing.last + 1) made)))))
  created_is None e below made = nothing_is
  created_is (Some place) e false made = nothing_is
  created_is (Some place) e true (Err code) = nothing_is
  created_is (Some place) e true (Ok connection) =
      let text = text_shown place connection (where_inside is_free place e) in
      id_shown (standing.last + 1) (session_text (described standing place connection)) text.0 text.1

  shown_is : (b : Bool) (place : ℕ) (connection : Connection) → place < 4 → IsShown (modified_shown (shown_if b (described standing place connection)))
  shown_is false place connection inside = nothing_is
  shown_is true place connection inside =
      let text = text_shown place connection inside in
      record { each = refl; whole = text.0; params = omega arith; body = text.1 }

  modified_from_is : (place : ℕ) (was : Connection) (made : Result Connection ℕ) → place < 4 → IsShown (shown_by (showing modified_shown (modified_from standing place was made)))
  modified_from_is place was (Err code) inside = nothing_is
  modified_from_is place was (Ok is) inside = shown_is (is_changed was is.options is.codecs) place is inside

  modified_held_is : (encoding : Encoding) (change : Change) (place : ℕ) (held : Option Connection) → place < 4
      → IsShown (shown_by (showing modified_shown (modified_held encoding change standing place held)))
  modified_held_is encoding change place None inside = nothing_is
  modified_held_is encoding change place (Some was) inside = modified_from_is place was (renewed encoding change was) inside

  modified_at_is : (encoding : Encoding) (change : Change) (found : Result ℕ ℕ) → ((place : ℕ) → found ≡ Ok place → place < 4)
      → IsShown (shown_by (showing modified_shown (modified_at encoding change standing found)))
  modified_at_is encoding change (Ok place) inside = modified_held_is encoding change place (get_or standing.places place None) (inside place refl)
  modified_at_is encoding change (Err code) inside = nothing_is

  place_inside : (call id : List ℕ) (place : ℕ) → place_of call id standing.places ≡ Ok place → place < 4
  unfolding place_of
  place_inside call id place e = by_call (list_any (holds_call call) standing.places) (place_where (holds_both call id) standing.places) refl e where
    by_call : (b : Bool) (found : Option ℕ) → place_where (holds_both call id) standing.places ≡ found
        → checked {F = ℕ} (unless b 516) (given found 515 Ok) ≡ Ok place → place < 4
    by_call false found is e = absurd cc
    by_call true None is e = absurd cc
    by_call true (Some other) is e = let same : other ≡ place = cc in where_inside (holds_both call id) place (is ∙ ap Some same)

  counts_is : IsShown (record { params = counts_param ∷ []; body = [] })
  unfolding is_writable_body trimmed trimmed_end param_line
  counts_is = record { each = refl; whole = refl; params = omega arith; body = omega arith }

  deletion_is : (deletion : Deletion) → IsShown (deleted_shown deletion)
  deletion_is All = nothing_is
  deletion_is (OfCall call) = nothing_is
  deletion_is (One call id) = counts_is

  deleted_is : (deletion : Deletion) (made : Result Standing ℕ) → IsShown (shown_by (showing_what (deleted_shown deletion) made))
  deleted_is deletion (Ok leaves) = deletion_is deletion
  deleted_is deletion (Err code) = nothing_is

  pub connected_is : (deed : ConnectionDeed) (encoding : Encoding) → IsShown (shown_by (connected deed encoding standing))
  unfolding connected created modified
  connected_is Keep encoding = nothing_is
  connected_is (Create creation) encoding =
      created_is (place_where is_free standing.places) refl (nat_lt standing.last greatest) (begun encoding creation (standing.last + 1))
  connected_is (Modify call id change) encoding = modified_at_is encoding change (place_of call id standing.places) (place_inside call id)
  connected_is (Delete deletion) encoding = deleted_is deletion (deleted deletion standing)
