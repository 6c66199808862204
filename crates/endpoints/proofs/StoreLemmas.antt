-- What is saved of the store is put back, and what comes to one line after the other.
use Rattle.std.proofs.Common.{◌≡◌, ℕ, zero, suc, ◌+◌, ◌-◌, ◌<◌, ◌≤◌, Bool, true, false, List, [], ◌∷◌, ◌++◌, length, map, filter, drop, Option, Some, None, refl, sym, ◌∙◌, ap, subst, append_assoc, append-nil, get_or, arith}
use Rattle.std.specs.Prelude.{slice_set, ◌==◌, if◌then◌else◌}
use Rattle.std.proofs.lemmas.Option.{slice_get-get_or}
use Rattle.mg_line.specs.declared.phone.Act.{Act}
use Rattle.plain_machine.specs.Effect.{Effect, silently, afterwards}
use Rattle.plain_machine.specs.Acting.{acted_on, acted}
use Rattle.std.specs.List.{enumerate_from}
use Rattle.std.proofs.lemmas.Bool.Decides.{nat_tests}
use Rattle.std.proofs.lemmas.List.{map-append, drop_all}
use Rattle.command_forms.specs.declared.forms.Target.{Target}
use Rattle.command_forms.specs.Meaning.{is_for}
use Rattle.retransmission.specs.declared.heard.Heard.{Heard}
use Rattle.retransmission.specs.declared.heard.Heard.TheVariants.{Nothing}
use Rattle.plain_machine.specs.declared.response.Response.{Response}
use Rattle.plain_machine.specs.Announcing.{heard_on}
use Rattle.plain_machine.specs.Responding.{responded_as, responded_on}
use Rattle.plain_machine.specs.declared.post.Post.{Post}
use Rattle.plain_machine.specs.declared.endpoint.Endpoint.{Endpoint}
use Rattle.plain_machine.specs.declared.label.OutMessage.{OutMessage}
use Rattle.plain_machine.specs.Labelling.{message_of, messages_of}
use Rattle.plain_machine.specs.declared.setup.Setup.{Setup}
use Rattle.timers.specs.declared.due_item.DueItem.{DueItem}
use Rattle.plain_machine.specs.Machine.{Endpoints, endpoint_at, with_endpoint, with_own, with_turn, on_line, on_own, on_lines}
use Rattle.plain_machine.specs.Falling.{due_by, happened, pass}
use Rattle.plain_machine.proofs.EffectLaws.{on_this, same_endpoint}
use Rattle.plain_machine.proofs.FirstLemmas.{by_moment}
use Rattle.plain_machine.proofs.FallingLaws.{pass_none, pass_some, left, left_falls}
use Rattle.plain_machine.specs.declared.given_up.GivenUpCommand.{GivenUpCommand}
use Rattle.plain_machine.specs.GivingUp.{given_up_at, given_up_until}
use Rattle.plain_machine.proofs.GivingLaws.{given_up_none, given_up_some}
use Rattle.std.specs.List.{cons_option}
use Rattle.endpoints.specs.Telling.{MayTell, IsLine}
use Rattle.endpoints.specs.StoreState.{StoreState}
use Rattle.endpoints.specs.Saving.{endpoints_of}
use Rattle.endpoints.specs.Tells.{Goes}
use Rattle.endpoints.specs.Effects.{HasEffect}

-- ---- what comes to the store

pub goes_nowhere : (store : StoreState) (change : Effect Endpoints) (out : List OutMessage) → change ≡ silently store.endpoints → Goes change store store out out
goes_nowhere store change out none = rw none (record { endpoints = refl; found = refl; sent = sym (append-nil out) })

-- one thing, and then the others
pub goes_then : (first : Effect Endpoints) (next : Endpoints → Effect Endpoints) (was between is : StoreState) (were mid are : List OutMessage)
    → Goes first was between were mid → Goes (next between.endpoints) between is mid are → Goes (afterwards first next) was is were are
goes_then first next was between is were mid are one rest = record {
  endpoints = rest.endpoints ∙ ap (λ (e : Endpoints). (next e).value) one.endpoints;
  found = rest.found ∙ one.found;
  sent = rest.sent
      ∙ ap (λ (e : Endpoints). mid ++ messages_of (next e).sent) one.endpoints
      ∙ ap (λ (x : List OutMessage). x ++ messages_of (next first.value).sent) one.sent
      ∙ append_assoc were (messages_of first.sent) (messages_of (next first.value).sent)
      ∙ ap (λ (x : List OutMessage). were ++ x) (sym (map-append message_of first.sent (next first.value).sent));
}

-- what goes out by itself goes out behind what there is
pub goes_behind : (change : Effect Endpoints) (was is : StoreState) (alone were are : List OutMessage) → Goes change was is [] alone → are ≡ were ++ alone → Goes change was is were are
goes_behind change was is alone were are goes more = record {
  endpoints = goes.endpoints;
  found = goes.found;
  sent = more ∙ ap (λ (x : List OutMessage). were ++ x) goes.sent;
}

-- the same under another name
pub goes_so : (change other : Effect Endpoints) (was is : StoreState) (were are : List OutMessage) → other ≡ change → Goes change was is were are → Goes other was is were are
goes_so change other was is were are same goes = rw same goes

-- one line has its turn
pub goes_on_line : (endpoints : Endpoints) (line : ℕ) (endpoint becomes : Endpoint) (turn : Endpoint → Effect Endpoint) (was is : StoreState) (were are : List OutMessage)
    → was.endpoints ≡ endpoints → Some endpoint ≡ endpoint_at endpoints line → HasEffect (turn endpoint) becomes were are
    → is ≡ record was { endpoints = with_endpoint endpoints line becomes } → Goes (on_line endpoints line turn) was is were are
goes_on_line endpoints line endpoint becomes turn was is were are here at has put = rw (on_this endpoints line endpoint turn (sym at)) (record {
  endpoints = ap (λ (f : StoreState). f.endpoints) put ∙ ap (with_endpoint endpoints line) has.value;
  found = ap (λ (f : StoreState). f.found) put;
  sent = has.sent;
})

-- the gateway itself has its turn
pub goes_on_own : (own becomes : Post) (turn : Post → Effect Post) (was is : StoreState) (were are : List OutMessage) → own ≡ was.endpoints.own → HasEffect (turn own) becomes were are
    → is ≡ record was { endpoints = with_own was.endpoints becomes } → Goes (on_own was.endpoints turn) was is were are
goes_on_own own becomes turn was is were are here has put =
    let turned : HasEffect (turn was.endpoints.own) becomes were are = subst (λ (o : Post). HasEffect (turn o) becomes were are) here has in
    record {
      endpoints = ap (λ (f : StoreState). f.endpoints) put ∙ ap (with_own was.endpoints) turned.value;
      found = ap (λ (f : StoreState). f.found) put;
      sent = turned.sent;
    }

-- what sends nothing, behind what there is
pub goes_silently : (change : Effect Endpoints) (was is : StoreState) (out : List OutMessage) → Goes change was is [] [] → Goes change was is out out
goes_silently change was is out goes = record {
  endpoints = goes.endpoints;
  found = goes.found;
  sent = sym (append-nil out) ∙ ap (λ (x : List OutMessage). out ++ x) goes.sent;
}

-- the lines that a command is for, from a place on
abbrev pub meant_from : Target → ℕ → List Endpoint → List ℕ
meant_from lines place list = filter (is_for lines) (map (λ (one : ℕ × Endpoint). one.0) (enumerate_from (place + 1) (drop place list)))

record There (list : List Endpoint) (place : ℕ) : Type 0 where
  endpoint : Endpoint
  same : drop place list ≡ endpoint ∷ drop (place + 1) list

first_there : (list : List Endpoint) (place : ℕ) → place < length list → There list place
first_there [] place inside = absurd (omega (arith, inside))
first_there (first ∷ rest) zero inside = record { endpoint = first; same = refl }
first_there (first ∷ rest) (suc place) inside =
    let one = first_there rest place (omega (arith, inside)) in
    let next : suc (place + 1) ≡ suc place + 1 = omega arith in
    record { endpoint = one.endpoint; same = one.same ∙ ap (λ (n : ℕ). one.endpoint ∷ drop n (first ∷ rest)) next }

pub meant_next : (lines : Target) (place : ℕ) (list : List Endpoint) → place < length list
    → meant_from lines place list ≡ (if is_for lines (place + 1) then (place + 1) ∷ meant_from lines (place + 1) list else meant_from lines (place + 1) list)
meant_next lines place list inside = by_first (first_there list place inside) where
  by_first : There list place → meant_from lines place list
      ≡ (if is_for lines (place + 1) then (place + 1) ∷ meant_from lines (place + 1) list else meant_from lines (place + 1) list)
  by_first there = ap (λ (rest : List Endpoint). filter (is_for lines) (map (λ (one : ℕ × Endpoint). one.0) (enumerate_from (place + 1) rest))) there.same

pub meant_end : (lines : Target) (place : ℕ) (list : List Endpoint) → length list ≤ place → meant_from lines place list ≡ []
meant_end lines place list past = ap (λ (rest : List Endpoint). filter (is_for lines) (map (λ (one : ℕ × Endpoint). one.0) (enumerate_from (place + 1) rest))) (drop_all place list past)

-- ---- what falls due

one_behind : {A : Type 0} (found : Option A) (told next : List A) → (told ++ cons_option found []) ++ next ≡ told ++ cons_option found next
one_behind {A = A} None told next = ap (λ (x : List A). x ++ next) (append-nil told)
one_behind (Some one) told next = append_assoc told (one ∷ []) next

pub pass_next : (setup : Setup) (moment : ℕ) (item : DueItem) (was between is : StoreState) (were mid are : List OutMessage) → due_by was.endpoints moment ≡ Some item
    → Goes (happened setup was.endpoints item) was between were mid → Goes (pass setup between.endpoints moment) between is mid are → Goes (pass setup was.endpoints moment) was is were are
pass_next setup moment item was between is were mid are due one rest =
    goes_so _ _ was is were are (pass_some setup was.endpoints moment item due)
    (goes_then (happened setup was.endpoints item) (λ next. pass setup next moment) was between is were mid are one rest)

pub pass_end : (setup : Setup) (moment : ℕ) (store : StoreState) (out : List OutMessage) → due_by store.endpoints moment ≡ None → Goes (pass setup store.endpoints moment) store store out out
pass_end setup moment store out none = goes_nowhere store (pass setup store.endpoints moment) out (pass_none setup store.endpoints moment none)

-- what was given up, and then what is until nothing is due
pub given_up_next : (setup : Setup) (moment : ℕ) (item : DueItem) (was between : StoreState) (were mid : List OutMessage) (found : Option GivenUpCommand) (told more whole : List GivenUpCommand)
    → due_by was.endpoints moment ≡ Some item → found ≡ given_up_at was.endpoints item → more ≡ told ++ cons_option found []
    → Goes (happened setup was.endpoints item) was between were mid → told ++ given_up_until setup was.endpoints moment ≡ whole
    → more ++ given_up_until setup between.endpoints moment ≡ whole
given_up_next setup moment item was between were mid found told more whole due is noted goes all =
    let next : List GivenUpCommand = given_up_until setup between.endpoints moment in
    ap (λ (x : List GivenUpCommand). x ++ next) noted
    ∙ one_behind found told next
    ∙ ap (λ (f : Option GivenUpCommand). told ++ cons_option f next) is
    ∙ ap (λ (e : Endpoints). told ++ cons_option (given_up_at was.endpoints item) (given_up_until setup e moment)) goes.endpoints
    ∙ ap (λ (x : List GivenUpCommand). told ++ x) (sym (given_up_some setup was.endpoints moment item due))
    ∙ all

pub given_up_end : (setup : Setup) (moment : ℕ) (endpoints : Endpoints) (told whole : List GivenUpCommand) → due_by endpoints moment ≡ None
    → told ++ given_up_until setup endpoints moment ≡ whole → told ≡ whole
given_up_end setup moment endpoints told whole none all =
    sym (append-nil told) ∙ ap (λ (x : List GivenUpCommand). told ++ x) (sym (given_up_none setup endpoints moment none)) ∙ all

pub left_less : (setup : Setup) (moment : ℕ) (item : DueItem) (was between : StoreState) (were mid : List OutMessage) → due_by was.endpoints moment ≡ Some item
    → Goes (happened setup was.endpoints item) was between were mid → left between.endpoints moment < left was.endpoints moment
left_less setup moment item was between were mid due one =
    let less = left_falls setup was.endpoints moment item due in
    let same : left between.endpoints moment ≡ left (happened setup was.endpoints item).value moment = ap (λ (e : Endpoints). left e moment) one.endpoints in
    omega (arith, less, same)

-- what is due up to a moment is early where that is
pub due_early : (setup : Setup) (endpoints : Endpoints) (moment : ℕ) (item : DueItem) → due_by endpoints moment ≡ Some item → MayTell setup moment → MayTell setup item.moment
due_early setup endpoints moment item due may = record { domain = may.domain; early = omega (arith, may.early, (by_moment endpoints moment item due).1) }

-- ---- what comes to several lines

pub several_next : (lines : Target) (place : ℕ) (list : List Endpoint) (turn : ℕ → Endpoint → Effect Endpoint) (was between is : StoreState) (were mid are : List OutMessage) → place < length list
    → true ≡ is_for lines (place + 1) → Goes (on_line was.endpoints (place + 1) (turn (place + 1))) was between were mid
    → Goes (on_lines (meant_from lines (place + 1) list) between.endpoints turn) between is mid are
    → Goes (on_lines (meant_from lines place list) was.endpoints turn) was is were are
unfolding on_lines
several_next lines place list turn was between is were mid are inside meant one rest =
    let same : meant_from lines place list ≡ (place + 1) ∷ meant_from lines (place + 1) list =
    meant_next lines place list inside
    ∙ ap (λ (b : Bool). if b then (place + 1) ∷ meant_from lines (place + 1) list else meant_from lines (place + 1) list) (sym meant) in
    rw same (goes_then (on_line was.endpoints (place + 1) (turn (place + 1))) (λ next. on_lines (meant_from lines (place + 1) list) next turn) was between is were mid are one rest)

pub several_skip : (lines : Target) (place : ℕ) (list : List Endpoint) (turn : ℕ → Endpoint → Effect Endpoint) (was is : StoreState) (were are : List OutMessage) → place < length list
    → false ≡ is_for lines (place + 1) → Goes (on_lines (meant_from lines (place + 1) list) was.endpoints turn) was is were are
    → Goes (on_lines (meant_from lines place list) was.endpoints turn) was is were are
several_skip lines place list turn was is were are inside other rest =
    let same : meant_from lines place list ≡ meant_from lines (place + 1) list =
    meant_next lines place list inside
    ∙ ap (λ (b : Bool). if b then (place + 1) ∷ meant_from lines (place + 1) list else meant_from lines (place + 1) list) (sym other) in
    rw same rest

pub several_end : (lines : Target) (place : ℕ) (list : List Endpoint) (turn : ℕ → Endpoint → Effect Endpoint) (store : StoreState) (out : List OutMessage) → length list ≤ place
    → Goes (on_lines (meant_from lines place list) store.endpoints turn) store store out out
unfolding on_lines
several_end lines place list turn store out past = rw (meant_end lines place list past) (goes_nowhere store (silently store.endpoints) out refl)

-- ---- a response that says nothing to a line

pub goes_unheard : (setup : Setup) (line moment : ℕ) (response : Response) (endpoint : Endpoint) (store : StoreState) (out : List OutMessage) → Some endpoint ≡ endpoint_at store.endpoints line
    → Nothing ≡ heard_on endpoint.post response → Goes (on_line store.endpoints line (responded_on setup line moment response)) store store out out
unfolding responded_on
goes_unheard setup line moment response endpoint store out at unheard =
    let quiet : responded_as (heard_on endpoint.post response) setup line moment response endpoint ≡ silently endpoint =
    ap (λ (heard : Heard). responded_as heard setup line moment response endpoint) (sym unheard) in
    rw (on_this store.endpoints line endpoint (responded_on setup line moment response) (sym at)) (record {
      endpoints = ap (λ (x : List Endpoint). let e : Endpoints = record store.endpoints { list = x } in e) (sym (same_endpoint (line == 0) store.endpoints.list (line - 1) endpoint (sym at)))
          ∙ ap (λ (t : Effect Endpoint). with_endpoint store.endpoints line t.value) (sym quiet);
      found = refl;
      sent = sym (append-nil out) ∙ ap (λ (t : Effect Endpoint). out ++ messages_of t.sent) (sym quiet);
    })

-- ---- an act that a line does not heed

not_zero : (n : ℕ) → 1 ≤ n → (n == 0) ≡ false
not_zero n some = grind (arith, nat_tests, some)

-- the endpoint at a place is that of its line
pub endpoint_there : (list : List Endpoint) (own : Post) (number : ℕ) (endpoint : Endpoint) → 1 ≤ number → number - 1 < length list → endpoint ≡ get_or list (number - 1) endpoint
    → endpoint_at (endpoints_of list own) number ≡ Some endpoint
endpoint_there list own number endpoint some inside is = rw (not_zero number some) (slice_get-get_or list (number - 1) endpoint inside ∙ ap Some (sym is))

-- an act that a line doesn't heed is done in place
pub is_there : (list : List Endpoint) (own : Post) (number place : ℕ) (endpoint : Endpoint) → IsLine number → number - 1 < length list → place ≡ number → endpoint ≡ get_or list (place - 1) endpoint
    → endpoint_at (endpoints_of list own) number ≡ Some endpoint
is_there list own number place endpoint line within same is =
    endpoint_there list own number endpoint line.some within (is ∙ ap (λ n. get_or list (n - 1) endpoint) same)

pub passes_over : (setup : Setup) (list : List Endpoint) (own : Post) (number place moment : ℕ) (act : Act) (endpoint becomes : Endpoint) → place ≡ number
    → endpoint_at (endpoints_of list own) number ≡ Some endpoint → silently becomes ≡ acted_on setup number moment act endpoint
    → acted setup (endpoints_of list own) number moment act ≡ silently (endpoints_of (slice_set list (place - 1) becomes) own)
passes_over setup list own number place moment act endpoint becomes same at passed =
    on_this (endpoints_of list own) number endpoint (acted_on setup number moment act) at
    ∙ ap (λ (t : Effect Endpoint). with_turn (endpoints_of list own) number t) (sym passed)
    ∙ ap (λ n. silently (endpoints_of (slice_set list (n - 1) becomes) own)) (sym same)

-- the endpoint at the place of a line
pub stands_there : (endpoints : Endpoints) (line number place : ℕ) (endpoint : Endpoint) → IsLine line → line - 1 < length endpoints.list → number ≡ line → place ≡ number - 1
    → endpoint ≡ get_or endpoints.list place endpoint → endpoint_at endpoints line ≡ Some endpoint
stands_there endpoints line number place endpoint is within same at here =
    let place_is : place ≡ line - 1 = omega (arith, same, at) in
    endpoint_there endpoints.list endpoints.own line endpoint is.some within (here ∙ ap (λ n. get_or endpoints.list n endpoint) place_is)
