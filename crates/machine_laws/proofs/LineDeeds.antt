-- What a deed does on the lines that it is for, and what decides whether it is done.
use Rattle.std.proofs.Common.{◌≡◌, ◌≢◌, ℕ, zero, suc, ◌+◌, ◌-◌, ◌<◌, ◌≤◌, Bool, true, false, ◌==◌, if◌then◌else◌, List, [], ◌∷◌, get_or, map, Option, Some, None, Result, Ok, Err, inl, inr, refl, sym, ap, ◌∙◌, subst, arith, ⊎_elim}
use Rattle.std.specs.Prelude.{◌⊎◌, find, slice_get, option_map, option_and_then}
use Rattle.std.specs.List.{enumerate_from}
use Rattle.std.specs.Result.{result_err}
use Rattle.std.specs.declared.net.socket_addr.SocketAddrV4.{SocketAddrV4}
use Rattle.std.proofs.lemmas.Bool.{cases_Bool}
use Rattle.std.proofs.lemmas.Bool.Decides.{nat_tests}
use Rattle.std.proofs.lemmas.Option.{none-some}
use Rattle.mg_bytes.specs.Checks.{first_fault, checked}
use Rattle.mgcp_text.specs.declared.confirmation.KValue.{KValue}
use Rattle.mgcp_text.specs.declared.message.Param.{Param}
use Rattle.mgcp_text.specs.declared.message.Message.TheVariants as messages
use Rattle.mgcp_text.specs.Answer.{plain_code}
use Rattle.mgcp_text.specs.Confirmation.{k_of}
use Rattle.mgcp_text.specs.Reading.{Outcome, message, no_header, bad_version, bad_body}
use Rattle.transmission.specs.Memory.{most_firsts}
use Rattle.transmission.specs.Looking.{Looked, new, repeat, confirmed, full, look_of}
use Rattle.connections.specs.declared.codec.Encoding.{Encoding}
use Rattle.connections.specs.declared.connection.Connection.{Connection}
use Rattle.connections.specs.declared.deletion.Deletion.{Deletion}
use Rattle.connections.specs.Standing.{Standing, is_meant, without, refused, left_of, deleted}
use Rattle.connections.specs.Life.{after}
use Rattle.command_forms.specs.declared.forms.Asks.{Asks}
use Rattle.command_forms.specs.declared.forms.Asks.TheVariants.{Reports, Does}
use Rattle.command_forms.specs.declared.forms.ConnectionDeed.{ConnectionDeed}
use Rattle.command_forms.specs.declared.forms.ConnectionDeed.TheVariants.{Keep, Create, Modify, Delete}
use Rattle.command_forms.specs.declared.forms.Target.{Target}
use Rattle.command_forms.specs.declared.forms.Target.TheVariants.{One, All, Any}
use Rattle.command_forms.specs.Command.{Command}
use Rattle.command_forms.specs.Order.{form_while}
use Rattle.mg_line.specs.Requesting.{refusal_of}
use Rattle.command_forms.specs.declared.forms.Deed.{Deed}
use Rattle.plain_machine.specs.declared.setup.Setup.{Setup}
use Rattle.plain_machine.specs.declared.endpoint.Endpoint.{Endpoint}
use Rattle.plain_machine.specs.Effect.{Effect, silently}
use Rattle.plain_machine.specs.Machine.{Endpoints, Machine, serves, endpoint_at}
use Rattle.plain_machine.specs.Answering.{Transaction, executed, refusing, command_with, transaction_of, transacted_by, handled_as, handled}
use Rattle.plain_machine.specs.Done.{Done, only_answer}
use Rattle.plain_machine.specs.Connecting.{deleted_shown, showing_what, done_code, connected}
use Rattle.plain_machine.specs.Requesting.{encoding_with, refusal_by, refusal_on, refused_by, deed_on, deed_on_all, shown_of, answer_with, unless_refused, deed_done, has_place, line_with_place, done_there, done_for}
use Rattle.plain_machine.specs.Commanding.{done_by, commanded}
use Rattle.machine_laws.proofs.StandingLemmas.{happenings, deed_connections}

-- A command that is refused

done_is : (deed : ConnectionDeed) → (done_code deed ≡ 200) ⊎ (done_code deed ≡ 250)
done_is Keep = inl refl
done_is (Create creation) = inl refl
done_is (Modify call id change) = inl refl
done_is (Delete deletion) = inr refl

abbrev Stays : Endpoints → Done → Type 0
Stays endpoints done = done.answer.code ≢ 200 → done.answer.code ≢ 250 → done.told ≡ silently endpoints

deed_stays : (setup : Setup) (endpoints : Endpoints) (lines : Target) (more : List Param) (deed : Deed) (moment : ℕ) → Stays endpoints (deed_done setup endpoints lines more deed moment)
deed_stays setup endpoints lines more deed moment = by_refusal (refused_by endpoints lines deed) where
  by_refusal : (refusal : Option ℕ) → Stays endpoints (unless_refused refusal endpoints (record {
    told = deed_on_all setup endpoints lines deed moment;
    answer = answer_with more deed (shown_of endpoints lines deed);
  }))
  by_refusal (Some code) = λ one two. refl
  by_refusal None = λ one two. by_code one two (done_is deed.connections) where
    by_code : done_code deed.connections ≢ 200 → done_code deed.connections ≢ 250 → ((done_code deed.connections ≡ 200) ⊎ (done_code deed.connections ≡ 250))
        → deed_on_all setup endpoints lines deed moment ≡ silently endpoints
    by_code one two (inl is) = absurd (one is)
    by_code one two (inr is) = absurd (two is)

target_stays : (setup : Setup) (endpoints : Endpoints) (target : Target) (deed : Deed) (moment : ℕ) → Stays endpoints (done_for setup endpoints target deed moment)
target_stays setup endpoints (One line) deed moment = deed_stays setup endpoints (One line) [] deed moment
target_stays setup endpoints All deed moment = deed_stays setup endpoints All [] deed moment
target_stays setup endpoints Any deed moment = by_line (line_with_place endpoints) where
  by_line : (found : Option ℕ) → Stays endpoints (done_there found setup endpoints deed moment)
  by_line None = λ one two. refl
  by_line (Some line) = deed_stays setup endpoints (One line) _ deed moment

asks_stays : (asks : Result Asks ℕ) (setup : Setup) (endpoints : Endpoints) (moment id : ℕ) → Stays endpoints (done_by asks setup endpoints moment id)
asks_stays (Err code) setup endpoints moment id = λ one two. refl
asks_stays (Ok (Reports target audit)) setup endpoints moment id = λ one two. refl
asks_stays (Ok (Does target deed)) setup endpoints moment id = target_stays setup endpoints target deed moment

pub refused_stays : (setup : Setup) (endpoints : Endpoints) (moment id : ℕ) (command : Command) (confirms : KValue)
    → (commanded setup endpoints moment id command confirms).answer.code ≢ 200 → (commanded setup endpoints moment id command confirms).answer.code ≢ 250
    → (commanded setup endpoints moment id command confirms).told ≡ silently endpoints
refused_stays setup endpoints moment id command confirms = asks_stays (form_while (serves endpoints) command confirms setup.names) setup endpoints moment id

-- of a text that is a command, whatever was read of it
abbrev StaysIn : Machine → Transaction → Type 0
StaysIn m t = Stays m.endpoints t.done

text_stays : (setup : Setup) (m : Machine) (outcome : Outcome) (t : Transaction) → transaction_of setup m outcome ≡ Some t → StaysIn m t
text_stays setup m no_header t is = absurd cc
text_stays setup m (bad_version id) t is = let same : refusing m id 528 ≡ t = cc in subst (StaysIn m) same (λ one two. refl)
text_stays setup m (bad_body id) t is = let same : refusing m id 510 ≡ t = cc in subst (StaysIn m) same (λ one two. refl)
text_stays setup m (message (messages.Command verb id name params body)) t is =
    let command : Command = record { verb = verb; name = name; params = params; body = body } in
    let same : command_with setup m id command (k_of params) ≡ t = cc in
    subst (StaysIn m) same (refused_stays setup m.endpoints m.now id command (k_of params))
text_stays setup m (message (messages.Response code id params body)) t is = absurd cc

pub refused_text : (setup : Setup) (m : Machine) (outcome : Outcome) (t : Transaction) → transaction_of setup m outcome ≡ Some t → t.done.answer.code ≢ 200 → t.done.answer.code ≢ 250
    → t.done.told ≡ silently m.endpoints
refused_text setup m outcome t is = text_stays setup m outcome t is

transacted_stays : (looked : Looked) (m : Machine) (source : SocketAddrV4) (t : Transaction) → t.done.told ≡ silently m.endpoints → (transacted_by looked m source t).value.endpoints ≡ m.endpoints
unfolding executed
transacted_stays new m source t same = ap (λ (x : Effect Endpoints). x.value) same
transacted_stays (repeat text) m source t same = refl
transacted_stays confirmed m source t same = refl
transacted_stays full m source t same = refl

pub refused_after : (setup : Setup) (m : Machine) (source : SocketAddrV4) (outcome : Outcome) (t : Transaction) → transaction_of setup m outcome ≡ Some t
    → t.done.answer.code ≢ 200 → t.done.answer.code ≢ 250 → (handled setup m source outcome).value.endpoints ≡ m.endpoints
unfolding handled
refused_after setup m source outcome t is one two =
    ap (λ (found : Option Transaction). (handled_as found setup m source outcome).value.endpoints) is
    ∙ transacted_stays (look_of most_firsts m.history t.id m.now) m source t (refused_text setup m outcome t is one two)

-- A deletion

map_at : (deletion : Deletion) (places : List (Option Connection)) (place : ℕ) → get_or (map (without deletion) places) place None ≡ without deletion (get_or places place None)
map_at deletion [] place = refl
map_at deletion (held ∷ more) zero = refl
map_at deletion (held ∷ more) (suc place) = map_at deletion more place

-- what is left at a place
abbrev LeftAt : Deletion → Standing → ℕ → Option Connection
LeftAt deletion standing place = get_or (left_of standing (deleted deletion standing)).places place None

emptied : (deletion : Deletion) (standing : Standing) (place : ℕ) → refused deletion standing.places ≡ None → LeftAt deletion standing place ≡ without deletion (get_or standing.places place None)
unfolding deleted
emptied deletion standing place fine = rw fine (map_at deletion standing.places place)

kept_or_emptied : (deletion : Deletion) (standing : Standing) (place : ℕ)
    → (LeftAt deletion standing place ≡ get_or standing.places place None) ⊎ (LeftAt deletion standing place ≡ without deletion (get_or standing.places place None))
unfolding deleted
kept_or_emptied deletion standing place = by_fault (refused deletion standing.places) where
  by_fault : (fault : Option ℕ)
      → (get_or (left_of standing (checked fault (Ok (record standing { places = map (without deletion) standing.places })))).places place None ≡ get_or standing.places place None)
      ⊎ (get_or (left_of standing (checked fault (Ok (record standing { places = map (without deletion) standing.places })))).places place None
      ≡ without deletion (get_or standing.places place None))
  by_fault (Some code) = inl refl
  by_fault None = inr (map_at deletion standing.places place)

not_refused : (deletion : Deletion) (encoding : Encoding) (standing : Standing) (request : Option ℕ)
    → first_fault (result_err (connected (Delete deletion) encoding standing) ∷ request ∷ []) ≡ None → refused deletion standing.places ≡ None
unfolding connected deleted
not_refused deletion encoding standing request e = by_fault (refused deletion standing.places) e where
  by_fault : (fault : Option ℕ)
      → first_fault (result_err (showing_what (deleted_shown deletion) (checked fault (Ok (record standing { places = map (without deletion) standing.places })))) ∷ request ∷ []) ≡ None
      → fault ≡ None
  by_fault None e = refl
  by_fault (Some code) e = absurd cc

one_deletion : (deletion : Deletion) (encoding : Encoding) (standing : Standing) → after standing (happenings (Delete deletion) encoding) ≡ left_of standing (deleted deletion standing)
unfolding after
one_deletion deletion encoding standing = refl

deleted_on : (setup : Setup) (deed : Deed) (deletion : Deletion) (moment line : ℕ) (endpoint : Endpoint) → deed.connections ≡ Delete deletion
    → (deed_on setup deed moment line endpoint).value.connections ≡ left_of endpoint.connections (deleted deletion endpoint.connections)
deleted_on setup deed deletion moment line endpoint is =
    deed_connections setup deed moment line endpoint
    ∙ ap (λ (d : ConnectionDeed). after endpoint.connections (happenings d (encoding_with deed endpoint))) is
    ∙ one_deletion deletion (encoding_with deed endpoint) endpoint.connections

at_place : (a b : Standing) (place : ℕ) → a ≡ b → get_or a.places place None ≡ get_or b.places place None
at_place a b place same = ap (λ (s : Standing). get_or s.places place None) same

pub meant_is_emptied : (setup : Setup) (deed : Deed) (deletion : Deletion) (moment line place : ℕ) (endpoint : Endpoint) (connection : Connection) → deed.connections ≡ Delete deletion
    → refusal_by deed endpoint ≡ None → get_or endpoint.connections.places place None ≡ Some connection → is_meant deletion connection ≡ true
    → get_or (deed_on setup deed moment line endpoint).value.connections.places place None ≡ None
meant_is_emptied setup deed deletion moment line place endpoint connection is fine here meant =
    let request : Option ℕ = option_and_then (refusal_of endpoint.line) deed.request in
    let none : refused deletion endpoint.connections.places ≡ None = not_refused deletion (encoding_with deed endpoint) endpoint.connections request
    (subst (λ (d : ConnectionDeed). first_fault (result_err (connected d (encoding_with deed endpoint) endpoint.connections) ∷ request ∷ []) ≡ None) is fine) in
    at_place _ _ place (deleted_on setup deed deletion moment line endpoint is) ∙ emptied deletion endpoint.connections place none
    ∙ ap (without deletion) here ∙ (rw meant refl)

pub others_are_kept : (setup : Setup) (deed : Deed) (deletion : Deletion) (moment line place : ℕ) (endpoint : Endpoint) (connection : Connection) → deed.connections ≡ Delete deletion
    → get_or endpoint.connections.places place None ≡ Some connection → is_meant deletion connection ≡ false
    → get_or (deed_on setup deed moment line endpoint).value.connections.places place None ≡ Some connection
others_are_kept setup deed deletion moment line place endpoint connection is here other =
    at_place _ _ place (deleted_on setup deed deletion moment line endpoint is) ∙ by_left (kept_or_emptied deletion endpoint.connections place) where
      by_left : ((LeftAt deletion endpoint.connections place ≡ get_or endpoint.connections.places place None) ⊎ (LeftAt deletion endpoint.connections place ≡ without deletion (get_or endpoint.connections.places place None)))
          → LeftAt deletion endpoint.connections place ≡ Some connection
      by_left (inl kept) = kept ∙ here
      by_left (inr empty) = empty ∙ ap (without deletion) here ∙ (rw other refl)

pub free_stays : (setup : Setup) (deed : Deed) (deletion : Deletion) (moment line place : ℕ) (endpoint : Endpoint) → deed.connections ≡ Delete deletion
    → get_or endpoint.connections.places place None ≡ None → get_or (deed_on setup deed moment line endpoint).value.connections.places place None ≡ None
free_stays setup deed deletion moment line place endpoint is here =
    at_place _ _ place (deleted_on setup deed deletion moment line endpoint is) ∙ by_left (kept_or_emptied deletion endpoint.connections place) where
      by_left : ((LeftAt deletion endpoint.connections place ≡ get_or endpoint.connections.places place None) ⊎ (LeftAt deletion endpoint.connections place ≡ without deletion (get_or endpoint.connections.places place None)))
          → LeftAt deletion endpoint.connections place ≡ None
      by_left (inl kept) = kept ∙ here
      by_left (inr empty) = empty ∙ ap (without deletion) here

-- The lines by their places

-- a line that there is has a number from 1 on, and stands at the place before it
record IsAt (endpoints : Endpoints) (line : ℕ) (endpoint : Endpoint) : Type 0 where
  some : 1 ≤ line
  here : slice_get endpoints.list (line - 1) ≡ Some endpoint

is_at : (endpoints : Endpoints) (line : ℕ) (endpoint : Endpoint) → endpoint_at endpoints line ≡ Some endpoint → IsAt endpoints line endpoint
is_at endpoints line endpoint at = by_zero (line == 0) refl at where
  positive : (line == 0) ≡ false → 1 ≤ line
  positive e = grind (arith, nat_tests)

  by_zero : (b : Bool) → (line == 0) ≡ b → (if b then None else slice_get endpoints.list (line - 1)) ≡ Some endpoint → IsAt endpoints line endpoint
  by_zero true e at = absurd (none-some endpoint at)
  by_zero false e at = record { some = positive e; here = at }

stands_at : (endpoints : Endpoints) (line place : ℕ) (endpoint : Endpoint) → line ≡ 1 + place → slice_get endpoints.list place ≡ Some endpoint → endpoint_at endpoints line ≡ Some endpoint
stands_at endpoints line place endpoint is here = by_zero (line == 0) refl where
  by_zero : (b : Bool) → (line == 0) ≡ b → (if b then None else slice_get endpoints.list (line - 1)) ≡ Some endpoint
  by_zero true e = absurd (let no : line ≡ 0 = grind (arith, nat_tests) in omega arith)
  by_zero false e = subst (λ (p : ℕ). slice_get endpoints.list p ≡ Some endpoint) (let same : place ≡ line - 1 = omega arith in same) here

-- The least line that refuses

front_some : (check : Option ℕ) (checks : List (Option ℕ)) (code : ℕ) → check ≡ Some code → first_fault (check ∷ checks) ≡ Some code
front_some check checks code is = rw is refl

front_none : (check : Option ℕ) (checks : List (Option ℕ)) → check ≡ None → first_fault (check ∷ checks) ≡ first_fault checks
front_none check checks is = rw is refl

least_refuses : (deed : Deed) (n place code : ℕ) (list : List Endpoint) (endpoint : Endpoint) → slice_get list place ≡ Some endpoint → refusal_by deed endpoint ≡ Some code
    → ((other : ℕ) (another : Endpoint) → other < place → slice_get list other ≡ Some another → refusal_by deed another ≡ None)
    → first_fault (map (refusal_on All deed) (enumerate_from n list)) ≡ Some code
least_refuses deed n place code [] endpoint at refuses before = absurd (none-some endpoint at)
least_refuses deed n zero code (first ∷ list) endpoint at refuses before =
    let same : first ≡ endpoint = cc in
    front_some (refusal_by deed first) (map (refusal_on All deed) (enumerate_from (n + 1) list)) code (ap (refusal_by deed) same ∙ refuses)
least_refuses deed n (suc place) code (first ∷ list) endpoint at refuses before =
    front_none (refusal_by deed first) (map (refusal_on All deed) (enumerate_from (n + 1) list)) (before 0 first (omega arith) refl)
    ∙ least_refuses deed (n + 1) place code list endpoint at refuses (λ other another less there. before (suc other) another (omega (arith, less)) there)

none_refuses : (deed : Deed) (n : ℕ) (list : List Endpoint) → ((place : ℕ) (endpoint : Endpoint) → slice_get list place ≡ Some endpoint → refusal_by deed endpoint ≡ None)
    → first_fault (map (refusal_on All deed) (enumerate_from n list)) ≡ None
none_refuses deed n [] each = refl
none_refuses deed n (first ∷ list) each =
    front_none (refusal_by deed first) (map (refusal_on All deed) (enumerate_from (n + 1) list)) (each 0 first refl)
    ∙ none_refuses deed (n + 1) list (λ place endpoint at. each (suc place) endpoint at)

-- the deed where no line refuses it
abbrev all_done : Setup → Endpoints → List Param → Deed → ℕ → Done
all_done setup endpoints more deed moment =
    record { told = deed_on_all setup endpoints All deed moment; answer = answer_with more deed (shown_of endpoints All deed) }

pub least_decides : (setup : Setup) (endpoints : Endpoints) (more : List Param) (deed : Deed) (moment line code : ℕ) (endpoint : Endpoint) → endpoint_at endpoints line ≡ Some endpoint
    → refusal_by deed endpoint ≡ Some code
    → ((other : ℕ) (another : Endpoint) → other < line → endpoint_at endpoints other ≡ Some another → refusal_by deed another ≡ None)
    → deed_done setup endpoints All more deed moment ≡ only_answer endpoints (plain_code code)
unfolding refused_by
least_decides setup endpoints more deed moment line code endpoint at refuses before =
    let is = is_at endpoints line endpoint at in
    let some : 1 ≤ line = is.some in
    let refused : first_fault (map (refusal_on All deed) (enumerate_from 1 endpoints.list)) ≡ Some code =
    least_refuses deed 1 (line - 1) code endpoints.list endpoint is.here refuses
    (λ other another less there. before (1 + other) another (omega (arith, less, some)) (stands_at endpoints (1 + other) other another refl there)) in
    ap (λ (refusal : Option ℕ). unless_refused refusal endpoints (all_done setup endpoints more deed moment)) refused

pub none_decides : (setup : Setup) (endpoints : Endpoints) (more : List Param) (deed : Deed) (moment : ℕ)
    → ((line : ℕ) (endpoint : Endpoint) → endpoint_at endpoints line ≡ Some endpoint → refusal_by deed endpoint ≡ None)
    → (deed_done setup endpoints All more deed moment).told ≡ deed_on_all setup endpoints All deed moment
unfolding refused_by
none_decides setup endpoints more deed moment each =
    let none : first_fault (map (refusal_on All deed) (enumerate_from 1 endpoints.list)) ≡ None =
    none_refuses deed 1 endpoints.list (λ place endpoint at. each (1 + place) endpoint (stands_at endpoints (1 + place) place endpoint refl at)) in
    ap (λ (refusal : Option ℕ). (unless_refused refusal endpoints (all_done setup endpoints more deed moment)).told) none

-- The line that is chosen

abbrev Chosen : ℕ → List Endpoint → Option ℕ
Chosen n list = option_map (λ (one : ℕ × Endpoint). one.0) (find has_place (enumerate_from n list))

record HasPlace (n line : ℕ) (list : List Endpoint) : Type 0 where
  place : ℕ
  endpoint : Endpoint
  is : line ≡ n + place
  here : slice_get list place ≡ Some endpoint
  has : has_place (line, endpoint) ≡ true

chosen_has : (n line : ℕ) (list : List Endpoint) → Chosen n list ≡ Some line → HasPlace n line list
chosen_has n line [] e = absurd cc
chosen_has n line (first ∷ more) e = ⊎_elim
    (λ (h : has_place (n, first) ≡ true).
    let here : Some n ≡ Some line = (rw h at e) in
    let same : n ≡ line = cc in
    let it : HasPlace n line (first ∷ more) = record { place = 0; endpoint = first; is = omega (arith, same); here = refl; has = h } in it)
    (λ (h : has_place (n, first) ≡ false).
    let there : Chosen (n + 1) more ≡ Some line = (rw h at e) in
    let rest = chosen_has (n + 1) line more there in
    let next : line ≡ n + suc rest.place = omega (arith, rest.is) in
    let it : HasPlace n line (first ∷ more) = record { place = suc rest.place; endpoint = rest.endpoint; is = next; here = rest.here; has = rest.has } in it)
    (cases_Bool (has_place (n, first)))

pub chosen_place : (endpoints : Endpoints) (line : ℕ) → line_with_place endpoints ≡ Some line
    → (endpoint : Endpoint) × (endpoint_at endpoints line ≡ Some endpoint) × (has_place (line, endpoint) ≡ true)
unfolding line_with_place
chosen_place endpoints line e =
    let has = chosen_has 1 line endpoints.list e in
    (has.endpoint, stands_at endpoints line has.place has.endpoint has.is has.here, has.has)

none_before : (n line place : ℕ) (list : List Endpoint) (endpoint : Endpoint) → Chosen n list ≡ Some line → n + place < line → slice_get list place ≡ Some endpoint
    → has_place (n + place, endpoint) ≡ false
none_before n line place [] endpoint e less at = absurd (none-some endpoint at)
none_before n line zero (first ∷ more) endpoint e less at = ⊎_elim
    (λ (h : has_place (n, first) ≡ true).
    let here : Some n ≡ Some line = (rw h at e) in
    let same : n ≡ line = cc in
    let no : ⊥ = omega (arith, same, less) in absurd no)
    (λ (h : has_place (n, first) ≡ false). let same : first ≡ endpoint = cc in ap (λ (s : Endpoint). has_place (n, s)) (sym same) ∙ h)
    (cases_Bool (has_place (n, first)))
none_before n line (suc place) (first ∷ more) endpoint e less at = ⊎_elim
    (λ (h : has_place (n, first) ≡ true).
    let here : Some n ≡ Some line = (rw h at e) in
    let same : n ≡ line = cc in
    let no : ⊥ = omega (arith, same, less) in absurd no)
    (λ (h : has_place (n, first) ≡ false).
    let there : Chosen (n + 1) more ≡ Some line = (rw h at e) in
    none_before (n + 1) line place more endpoint there (omega (arith, less)) at)
    (cases_Bool (has_place (n, first)))

pub chosen_least : (endpoints : Endpoints) (line other : ℕ) (endpoint : Endpoint) → line_with_place endpoints ≡ Some line → other < line → endpoint_at endpoints other ≡ Some endpoint
    → has_place (other, endpoint) ≡ false
unfolding line_with_place
chosen_least endpoints line other endpoint e less at =
    let is = is_at endpoints other endpoint at in
    let some : 1 ≤ other = is.some in
    none_before 1 line (other - 1) endpoints.list endpoint e (omega (arith, less, some)) is.here

none_at_all : (n place : ℕ) (list : List Endpoint) (endpoint : Endpoint) → Chosen n list ≡ None → slice_get list place ≡ Some endpoint → has_place (n + place, endpoint) ≡ false
none_at_all n place [] endpoint e at = absurd (none-some endpoint at)
none_at_all n zero (first ∷ more) endpoint e at = ⊎_elim
    (λ (h : has_place (n, first) ≡ true). absurd (let no : Some n ≡ None = (rw h at e) in cc))
    (λ (h : has_place (n, first) ≡ false). let same : first ≡ endpoint = cc in ap (λ (s : Endpoint). has_place (n, s)) (sym same) ∙ h)
    (cases_Bool (has_place (n, first)))
none_at_all n (suc place) (first ∷ more) endpoint e at = ⊎_elim
    (λ (h : has_place (n, first) ≡ true). absurd (let no : Some n ≡ None = (rw h at e) in cc))
    (λ (h : has_place (n, first) ≡ false). let there : Chosen (n + 1) more ≡ None = (rw h at e) in none_at_all (n + 1) place more endpoint there at)
    (cases_Bool (has_place (n, first)))

pub none_chosen : (endpoints : Endpoints) (line : ℕ) (endpoint : Endpoint) → line_with_place endpoints ≡ None → endpoint_at endpoints line ≡ Some endpoint → has_place (line, endpoint) ≡ false
unfolding line_with_place
none_chosen endpoints line endpoint e at = none_at_all 1 (line - 1) endpoints.list endpoint e (is_at endpoints line endpoint at).here
