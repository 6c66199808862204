-- What lines send is their own, and what comes to lines is each line's turn.
use Rattle.std.proofs.Common.{◌≡◌, ◌≢◌, ℕ, zero, suc, ◌+◌, ◌-◌, ◌<◌, ◌≤◌, Bool, true, false, ◌==◌, if◌then◌else◌, List, [], ◌∷◌, ◌++◌, length, map, filter, Option, Some, None, refl, ap, ◌∙◌, subst, arith, sym, append-nil}
use Rattle.std.specs.Prelude.{All, slice_get, slice_set, flat_map, option_map}
use Rattle.std.specs.List.{enumerate_from}
use Rattle.std.proofs.lemmas.Bool.Decides.{Decides-eqb}
use Rattle.std.proofs.lemmas.List.Elements.{All-nil, All-cons, All-head, All-tail, All-filter, filter-append, filter_passes}
use Rattle.std.proofs.lemmas.Option.{none-some, slice_get_within}
use Rattle.plain_machine.specs.declared.endpoint.Endpoint.{Endpoint}
use Rattle.plain_machine.specs.Effect.{Effect, silently}
use Rattle.plain_machine.specs.Message.{Sent, own_of}
use Rattle.plain_machine.specs.Machine.{Endpoints, endpoint_at, turned_at, on_line, on_lines, on_own}
use Rattle.plain_machine.proofs.EffectLaws.{other_endpoint, on_this, on_nothing}
use Rattle.retransmission.specs.declared.repeat.Repeat.{Repeat}
use Rattle.retransmission.specs.declared.repeat.Repeat.TheVariants.{Sent as SentAgain, GivenUp}
use Rattle.retransmission.specs.Flight.{InFlight, repeat_of}
use Rattle.endpoint_names.specs.declared.entity.Entity.{Entity}
use Rattle.mg_line.specs.Line.{LineDone, Notice}
use Rattle.mg_line.specs.Falling.{fired}
use Rattle.mg_line.specs.Acting.{phoned}
use Rattle.mg_line.specs.Answering.{answered}
use Rattle.mg_line.specs.Opening.{opened}
use Rattle.mg_line.specs.declared.phone.Act.{Act}
use Rattle.retransmission.specs.declared.restart.Restart.{Restart}
use Rattle.retransmission.specs.declared.restart.Restart.TheVariants.{Waiting, Announced, Serving}
use Rattle.retransmission.specs.declared.heard.Heard.{Heard}
use Rattle.retransmission.specs.declared.heard.Heard.TheVariants.{Nothing, PutOff, Redirected, Answered}
use Rattle.timers.specs.declared.kind.DueKind.{DueKind}
use Rattle.timers.specs.declared.kind.DueKind.TheVariants.{OfLine, Resend, Announce}
use Rattle.timers.specs.declared.due_item.DueItem.{DueItem}
use Rattle.command_forms.specs.declared.forms.Deed.{Deed}
use Rattle.plain_machine.specs.declared.post.Post.{Post}
use Rattle.plain_machine.specs.declared.response.Response.{Response}
use Rattle.plain_machine.specs.declared.setup.Setup.{Setup}
use Rattle.plain_machine.specs.Posting.{repeated_as, resent_by, resent_on}
use Rattle.plain_machine.specs.Announcing.{announced, announced_by, announced_on, heard_on, replied, replied_on}
use Rattle.plain_machine.specs.Notifying.{posted, with_notice, noted}
use Rattle.plain_machine.specs.Acting.{acted_on}
use Rattle.plain_machine.specs.Requesting.{with_entity, with_connections, asked_if, deed_on}
use Rattle.plain_machine.specs.Responding.{responded_as, responded_on, redirected_on, opened_on}
use Rattle.plain_machine.specs.Falling.{happened_on, happened_under, happened}
use Rattle.machine_laws.specs.Belonging.{is_of, of_line}
use Rattle.machine_laws.proofs.FlightLaws.{own_stays_at as own_stays_on}

-- What comes to one line, and to several, each once.

not_zero : (line : ℕ) → (line == 0) ≡ false → line ≢ 0
not_zero line test same = let b : (line == 0) ≡ true = (Decides-eqb line 0).1 same in absurd cc

set_here : (list : List Endpoint) (place : ℕ) (was now : Endpoint) → slice_get list place ≡ Some was → slice_get (slice_set list place now) place ≡ Some now
set_here [] place was now at = absurd (none-some was at)
set_here (first ∷ list) zero was now at = refl
set_here (first ∷ list) (suc place) was now at = set_here list place was now at

-- One line

pub others_stay_on : (endpoints : Endpoints) (line other : ℕ) (turn : Endpoint → Effect Endpoint) → other ≢ line
    → endpoint_at (on_line endpoints line turn).value other ≡ endpoint_at endpoints other
unfolding on_line
others_stay_on endpoints line other turn apart = by_endpoint (endpoint_at endpoints line) refl where
  by_zero : (endpoint : Endpoint) (b c : Bool) → (line == 0) ≡ b → (other == 0) ≡ c → (if b then None else slice_get endpoints.list (line - 1)) ≡ Some endpoint
      → (now : Endpoint) → (if c then None else slice_get (slice_set endpoints.list (line - 1) now) (other - 1)) ≡ (if c then None else slice_get endpoints.list (other - 1))
  by_zero endpoint true c zero_line e at now = absurd (none-some endpoint at)
  by_zero endpoint false true some e at now = refl
  by_zero endpoint false false some more at now =
      let one : line ≢ 0 = not_zero line some in
      let two : other ≢ 0 = not_zero other more in
      other_endpoint endpoints.list (line - 1) (other - 1) now (λ same. apart (omega (arith, same, one, two)))

  by_endpoint : (found : Option Endpoint) → endpoint_at endpoints line ≡ found → endpoint_at (turned_at found endpoints line turn).value other ≡ endpoint_at endpoints other
  by_endpoint None e = refl
  by_endpoint (Some endpoint) e = by_zero endpoint (line == 0) (other == 0) refl refl e (turn endpoint).value

pub this_turns : (endpoints : Endpoints) (line : ℕ) (turn : Endpoint → Effect Endpoint)
    → endpoint_at (on_line endpoints line turn).value line ≡ option_map (λ (endpoint : Endpoint). (turn endpoint).value) (endpoint_at endpoints line)
unfolding on_line
this_turns endpoints line turn = by_endpoint (endpoint_at endpoints line) refl where
  by_zero : (b : Bool) (endpoint now : Endpoint) → (if b then None else slice_get endpoints.list (line - 1)) ≡ Some endpoint
      → (if b then None else slice_get (slice_set endpoints.list (line - 1) now) (line - 1)) ≡ Some now
  by_zero true endpoint now at = absurd (none-some endpoint at)
  by_zero false endpoint now at = set_here endpoints.list (line - 1) endpoint now at

  by_endpoint : (found : Option Endpoint) → endpoint_at endpoints line ≡ found
      → endpoint_at (turned_at found endpoints line turn).value line ≡ option_map (λ (endpoint : Endpoint). (turn endpoint).value) found
  by_endpoint None e = e
  by_endpoint (Some endpoint) e = by_zero (line == 0) endpoint (turn endpoint).value e

-- Several lines

pub own_stays : (lines : List ℕ) (endpoints : Endpoints) (turn : ℕ → Endpoint → Effect Endpoint) → (on_lines lines endpoints turn).value.own ≡ endpoints.own
unfolding on_lines
own_stays [] endpoints turn = refl
own_stays (line ∷ lines) endpoints turn = own_stays lines (on_line endpoints line (turn line)).value turn ∙ own_stays_on endpoints line (turn line)

pub not_among : (lines : List ℕ) (endpoints : Endpoints) (turn : ℕ → Endpoint → Effect Endpoint) (line : ℕ) → All (λ (one : ℕ). line ≢ one) lines
    → endpoint_at (on_lines lines endpoints turn).value line ≡ endpoint_at endpoints line
unfolding on_lines
not_among [] endpoints turn line apart = refl
not_among (one ∷ lines) endpoints turn line apart =
    not_among lines (on_line endpoints one (turn one)).value turn line (All-tail (λ (one : ℕ). line ≢ one) one lines apart)
    ∙ others_stay_on endpoints one line (turn one) (All-head (λ (one : ℕ). line ≢ one) one lines apart)

-- the lines that pass a test, of those whose numbers begin here
abbrev pub passing_from : (ℕ → Bool) → ℕ → List Endpoint → List ℕ
passing_from p n list = filter p (map (λ (one : ℕ × Endpoint). one.0) (enumerate_from n list))

numbers_from : (n : ℕ) (list : List Endpoint) → All (λ (line : ℕ). n ≤ line) (map (λ (one : ℕ × Endpoint). one.0) (enumerate_from n list))
numbers_from n [] = All-nil (λ (line : ℕ). n ≤ line)
numbers_from n (endpoint ∷ list) =
    All-cons (λ (line : ℕ). n ≤ line) n _ (omega arith) (λ k d within. let more = numbers_from (n + 1) list k d within in omega (arith, more))

pub passing_low : (p : ℕ → Bool) (n : ℕ) (list : List Endpoint) → All (λ (line : ℕ). n ≤ line) (passing_from p n list)
passing_low p n list = All-filter p (λ (line : ℕ). n ≤ line) (map (λ (one : ℕ × Endpoint). one.0) (enumerate_from n list)) (numbers_from n list)

-- the endpoint of this line has its turn
abbrev Turned : (ℕ → Endpoint → Effect Endpoint) → ℕ → List ℕ → Endpoints → Type 0
Turned turn line lines endpoints =
    endpoint_at (on_lines lines endpoints turn).value line ≡ option_map (λ (endpoint : Endpoint). (turn line endpoint).value) (endpoint_at endpoints line)

pub among_from : (p : ℕ → Bool) (n : ℕ) (list : List Endpoint) (endpoints : Endpoints) (turn : ℕ → Endpoint → Effect Endpoint) (line : ℕ) → n ≤ line → line < n + length list → p line ≡ true
    → Turned turn line (passing_from p n list) endpoints
unfolding on_lines
among_from p n [] endpoints turn line low high is = absurd (omega (arith, low, high))
among_from p n (first ∷ list) endpoints turn line low high is =
    by_test (p n) (line == n) refl refl (λ next behind. among_from p (n + 1) list next turn line behind (omega (arith, high)) is) where
      after : line ≢ n → n + 1 ≤ line
      after other = omega (arith, low, other)

      apart_behind : line ≡ n → All (λ (one : ℕ). line ≢ one) (passing_from p (n + 1) list)
      apart_behind same k d within is_one = let more = passing_low p (n + 1) list k d within in omega (arith, more, same, is_one)

      by_test : (b c : Bool) → p n ≡ b → (line == n) ≡ c → ((next : Endpoints) → n + 1 ≤ line → Turned turn line (passing_from p (n + 1) list) next)
          → Turned turn line (if b then n ∷ passing_from p (n + 1) list else passing_from p (n + 1) list) endpoints
      by_test true true passes test rest =
          let same : line ≡ n = (Decides-eqb line n).0 test in
          not_among (passing_from p (n + 1) list) (on_line endpoints n (turn n)).value turn line (apart_behind same)
          ∙ subst (λ (x : ℕ). endpoint_at (on_line endpoints x (turn x)).value line ≡ option_map (λ (endpoint : Endpoint). (turn line endpoint).value) (endpoint_at endpoints line))
          same (this_turns endpoints line (turn line))
      by_test true false passes test rest =
          let other : line ≢ n = λ same. (let t : (line == n) ≡ true = (Decides-eqb line n).1 same in absurd cc) in
          rest (on_line endpoints n (turn n)).value (after other)
          ∙ ap (option_map (λ (endpoint : Endpoint). (turn line endpoint).value)) (others_stay_on endpoints n line (turn n) other)
      by_test false true fails test rest =
          let same : p line ≡ p n = ap p ((Decides-eqb line n).0 test) in
          absurd cc
      by_test false false fails test rest =
          rest endpoints (after (λ same. (let t : (line == n) ≡ true = (Decides-eqb line n).1 same in absurd cc)))

-- where there is no such line, there is none afterwards
pub none_stays : (lines : List ℕ) (endpoints : Endpoints) (turn : ℕ → Endpoint → Effect Endpoint) (line : ℕ) → endpoint_at endpoints line ≡ None
    → endpoint_at (on_lines lines endpoints turn).value line ≡ None
unfolding on_lines
none_stays [] endpoints turn line none = none
none_stays (one ∷ lines) endpoints turn line none = none_stays lines (on_line endpoints one (turn one)).value turn line (by_test (line == one) refl) where
  by_test : (b : Bool) → (line == one) ≡ b → endpoint_at (on_line endpoints one (turn one)).value line ≡ None
  by_test true test =
      let same : line ≡ one = (Decides-eqb line one).0 test in
      subst (λ (x : ℕ). endpoint_at (on_line endpoints x (turn x)).value line ≡ None) same
      (this_turns endpoints line (turn line) ∙ ap (option_map (λ (endpoint : Endpoint). (turn line endpoint).value)) none)
  by_test false test =
      others_stay_on endpoints one line (turn one) (λ same. (let t : (line == one) ≡ true = (Decides-eqb line one).1 same in absurd cc)) ∙ none

-- What they send, in the order of their numbers

-- the list whose lines are numbered from here is that of the endpoints
abbrev pub AreThere : Endpoints → ℕ → List Endpoint → Type 0
AreThere endpoints n list = (place : ℕ) (endpoint : Endpoint) → slice_get list place ≡ Some endpoint → endpoint_at endpoints (n + place) ≡ Some endpoint

abbrev pub sent_in : (ℕ → Endpoint → Effect Endpoint) → List (ℕ × Endpoint) → List Sent
sent_in turn ones = flat_map (λ (one : ℕ × Endpoint). (turn one.0 one.1).sent) ones

abbrev pub endpoints_passing : (ℕ → Bool) → ℕ → List Endpoint → List (ℕ × Endpoint)
endpoints_passing p n list = filter (λ (one : ℕ × Endpoint). p one.0) (enumerate_from n list)

pub sent_from_each : (p : ℕ → Bool) (n : ℕ) (list : List Endpoint) (endpoints : Endpoints) (turn : ℕ → Endpoint → Effect Endpoint) → AreThere endpoints n list
    → (on_lines (passing_from p n list) endpoints turn).sent ≡ sent_in turn (endpoints_passing p n list)
unfolding on_lines
sent_from_each p n [] endpoints turn there = refl
sent_from_each p n (first ∷ list) endpoints turn there =
    by_test (p n) (λ next behind. sent_from_each p (n + 1) list next turn behind) where
      behind : AreThere endpoints (n + 1) list
      behind place endpoint at =
          let next : n + suc place ≡ n + 1 + place = omega arith in
          subst (λ (line : ℕ). endpoint_at endpoints line ≡ Some endpoint) next (there (suc place) endpoint at)

      still : AreThere (on_line endpoints n (turn n)).value (n + 1) list
      still place endpoint at =
          others_stay_on endpoints n (n + 1 + place) (turn n) (λ same. omega (arith, same)) ∙ behind place endpoint at

      here : endpoint_at endpoints n ≡ Some first
      here = let same : n + 0 ≡ n = omega arith in subst (λ (line : ℕ). endpoint_at endpoints line ≡ Some first) same (there 0 first refl)

      by_test : (b : Bool)
          → ((next : Endpoints) → AreThere next (n + 1) list → (on_lines (passing_from p (n + 1) list) next turn).sent ≡ sent_in turn (endpoints_passing p (n + 1) list))
          → (on_lines (if b then n ∷ passing_from p (n + 1) list else passing_from p (n + 1) list) endpoints turn).sent
          ≡ sent_in turn (if b then (n, first) ∷ endpoints_passing p (n + 1) list else endpoints_passing p (n + 1) list)
      by_test true rest =
          ap (λ (x : List Sent). x ++ (on_lines (passing_from p (n + 1) list) (on_line endpoints n (turn n)).value turn).sent)
          (ap (λ (x : Effect Endpoints). x.sent) (on_this endpoints n first (turn n) here))
          ∙ ap (λ (x : List Sent). (turn n first).sent ++ x) (rest (on_line endpoints n (turn n)).value still)
      by_test false rest = rest endpoints behind

-- The list of the endpoints

pub place_of : (endpoints : Endpoints) (line : ℕ) (endpoint : Endpoint) → endpoint_at endpoints line ≡ Some endpoint → (1 ≤ line) × (line < 1 + length endpoints.list)
place_of endpoints line endpoint at = by_zero (line == 0) refl at where
  by_zero : (b : Bool) → (line == 0) ≡ b → (if b then None else slice_get endpoints.list (line - 1)) ≡ Some endpoint → (1 ≤ line) × (line < 1 + length endpoints.list)
  by_zero true zero_line at = absurd (none-some endpoint at)
  by_zero false some at =
      let one : line ≢ 0 = not_zero line some in
      let within : line - 1 < length endpoints.list = slice_get_within endpoints.list (line - 1) endpoint at in
      (omega (arith, one), omega (arith, one, within))

pub all_there : (endpoints : Endpoints) → AreThere endpoints 1 endpoints.list
all_there endpoints place endpoint at = by_zero (1 + place == 0) refl where
  by_zero : (b : Bool) → (1 + place == 0) ≡ b → (if b then None else slice_get endpoints.list (1 + place - 1)) ≡ Some endpoint
  by_zero true zero_line = absurd (let same : 1 + place ≡ 0 = (Decides-eqb (1 + place) 0).0 zero_line in omega (arith, same))
  by_zero false some = let same : place ≡ 1 + place - 1 = omega arith in subst (λ (x : ℕ). slice_get endpoints.list x ≡ Some endpoint) same at

-- Whose messages are

-- all of these are this line's own
abbrev pub OwnedBy : ℕ → List Sent → Type 0
OwnedBy n sent = (line : ℕ) → of_line line sent ≡ (if n == line then sent else [])

pub none_owned : (n : ℕ) → OwnedBy n []
none_owned n line = by_test (n == line) where
  by_test : (b : Bool) → of_line line [] ≡ (if b then [] else [])
  by_test true = refl
  by_test false = refl

pub one_owned : (n : ℕ) (one : Sent) → one.owner ≡ own_of n → OwnedBy n (one ∷ [])
one_owned n one is line = ap (λ owner. if is_of line owner then one ∷ [] else []) is

pub owned_here : (n : ℕ) (sent : List Sent) → OwnedBy n sent → of_line n sent ≡ sent
owned_here n sent own = own n ∙ ap (λ (b : Bool). if b then sent else []) ((Decides-eqb n n).1 refl)

pub owned_elsewhere : (n line : ℕ) (sent : List Sent) → OwnedBy n sent → (n == line) ≡ false → of_line line sent ≡ []
owned_elsewhere n line sent own apart = own line ∙ ap (λ (b : Bool). if b then sent else []) apart

pub of_both : (line : ℕ) (some more : List Sent) → of_line line (some ++ more) ≡ of_line line some ++ of_line line more
of_both line some more = filter-append (λ (one : Sent). is_of line one.owner) some more

pub noted_owned : (setup : Setup) (line moment : ℕ) (endpoint : Endpoint) (done : LineDone) → OwnedBy line (noted setup line moment endpoint done).sent
unfolding noted
noted_owned setup line moment endpoint done = by_notice done.notice where
  by_notice : (notice : Option Notice) → OwnedBy line (with_notice setup line moment (record endpoint { line = done.line }) notice).sent
  by_notice None = none_owned line
  by_notice (Some notice) = one_owned line _ refl

resent_owned : (setup : Setup) (line moment : ℕ) (post : Post) → OwnedBy line (resent_on setup line moment post).sent
resent_owned setup line moment post = by_pending post.pending where
  by_repeat : (flight : InFlight) (repeat : Repeat) → OwnedBy line (repeated_as repeat setup line moment post flight).sent
  by_repeat flight SentAgain = one_owned line _ refl
  by_repeat flight GivenUp = none_owned line

  by_pending : (pending : Option InFlight) → OwnedBy line (resent_by pending setup line moment post).sent
  by_pending None = none_owned line
  by_pending (Some flight) = by_repeat flight (repeat_of flight moment)

announced_owned : (setup : Setup) (line moment : ℕ) (post : Post) → OwnedBy line (announced_on setup line moment post).sent
unfolding announced
announced_owned setup line moment post = by_restart post.restart where
  by_restart : (restart : Restart) → OwnedBy line (announced_by restart setup line moment post).sent
  by_restart (Waiting until) = one_owned line _ refl
  by_restart Announced = none_owned line
  by_restart Serving = none_owned line

pub happened_owned : (due : DueKind) (setup : Setup) (line moment : ℕ) (endpoint : Endpoint) → OwnedBy line (happened_on due setup line moment endpoint).sent
unfolding happened_on
happened_owned (OfLine due) setup line moment endpoint = noted_owned setup line moment endpoint (fired endpoint.line due moment)
happened_owned Resend setup line moment endpoint = resent_owned setup line moment endpoint.post
happened_owned Announce setup line moment endpoint = announced_owned setup line moment endpoint.post

pub own_happened_owned : (due : DueKind) (setup : Setup) (moment : ℕ) (own : Post) → OwnedBy 0 (happened_under due setup 0 moment own).sent
unfolding happened_under
own_happened_owned (OfLine due) setup moment own = none_owned 0
own_happened_owned Resend setup moment own = resent_owned setup 0 moment own
own_happened_owned Announce setup moment own = announced_owned setup 0 moment own

pub acted_owned : (setup : Setup) (line moment : ℕ) (act : Act) (endpoint : Endpoint) → OwnedBy line (acted_on setup line moment act endpoint).sent
acted_owned setup line moment act endpoint = noted_owned setup line moment endpoint (phoned endpoint.line act moment)

pub deed_owned : (setup : Setup) (deed : Deed) (moment line : ℕ) (endpoint : Endpoint) → OwnedBy line (deed_on setup deed moment line endpoint).sent
unfolding deed_on
deed_owned setup deed moment line endpoint =
    noted_owned setup line moment (with_connections deed (with_entity deed.entity endpoint)) (asked_if deed.request endpoint.line moment)

pub responded_owned : (setup : Setup) (line moment : ℕ) (response : Response) (endpoint : Endpoint) → OwnedBy line (responded_on setup line moment response endpoint).sent
unfolding responded_on replied announced
responded_owned setup line moment response endpoint = by_heard (heard_on endpoint.post response) where
  by_heard : (heard : Heard) → OwnedBy line (responded_as heard setup line moment response endpoint).sent
  by_heard Nothing = none_owned line
  by_heard PutOff = none_owned line
  by_heard (Redirected agent) = one_owned line _ refl
  by_heard (Answered agent) =
      let becomes = (posted endpoint (replied (Answered agent) setup line moment response endpoint.post)).value in
      noted_owned setup line moment becomes (answered becomes.line moment)

pub own_responded_owned : (setup : Setup) (moment : ℕ) (response : Response) (own : Post) → OwnedBy 0 (replied_on setup 0 moment response own).sent
unfolding replied_on replied announced
own_responded_owned setup moment response own = by_heard (heard_on own response) where
  by_heard : (heard : Heard) → OwnedBy 0 (replied heard setup 0 moment response own).sent
  by_heard Nothing = none_owned 0
  by_heard PutOff = none_owned 0
  by_heard (Redirected agent) = one_owned 0 _ refl
  by_heard (Answered agent) = none_owned 0

pub redirected_owned : (agent : Entity) (line : ℕ) (endpoint : Endpoint) → OwnedBy line (redirected_on agent line endpoint).sent
unfolding redirected_on
redirected_owned agent line endpoint = none_owned line

pub opened_owned : (agent : Option Entity) (setup : Setup) (moment line : ℕ) (endpoint : Endpoint) → OwnedBy line (opened_on agent setup moment line endpoint).sent
unfolding opened_on
opened_owned agent setup moment line endpoint = noted_owned setup line moment (with_entity agent endpoint) (opened endpoint.line moment)

pub happening_owned : (setup : Setup) (endpoints : Endpoints) (item : DueItem) → OwnedBy item.line (happened setup endpoints item).sent
happening_owned setup endpoints item = by_test (item.line == 0) refl where
  on_endpoint : (found : Option Endpoint) → endpoint_at endpoints item.line ≡ found → OwnedBy item.line (on_line endpoints item.line (happened_on item.kind setup item.line item.moment)).sent
  on_endpoint None at = subst (λ (x : Effect Endpoints). OwnedBy item.line x.sent) (sym (on_nothing endpoints item.line (happened_on item.kind setup item.line item.moment) at)) (none_owned item.line)
  on_endpoint (Some endpoint) at =
      subst (λ (x : Effect Endpoints). OwnedBy item.line x.sent) (sym (on_this endpoints item.line endpoint (happened_on item.kind setup item.line item.moment) at))
      (happened_owned item.kind setup item.line item.moment endpoint)

  by_test : (b : Bool) → (item.line == 0) ≡ b
      → OwnedBy item.line (if b then on_own endpoints (happened_under item.kind setup 0 item.moment) else on_line endpoints item.line (happened_on item.kind setup item.line item.moment)).sent
  by_test true is =
      subst (λ (n : ℕ). OwnedBy n (happened_under item.kind setup 0 item.moment endpoints.own).sent) (sym ((Decides-eqb item.line 0).0 is))
      (own_happened_owned item.kind setup item.moment endpoints.own)
  by_test false is = on_endpoint (endpoint_at endpoints item.line) refl

-- One line's turn

-- the line has this turn, or none
abbrev pub turn_if : Bool → (Endpoint → Effect Endpoint) → Endpoint → Effect Endpoint
turn_if true turn endpoint = turn endpoint
turn_if false turn endpoint = silently endpoint

abbrev pub sent_by : (Endpoint → Effect Endpoint) → Option Endpoint → List Sent
sent_by turn None = []
sent_by turn (Some endpoint) = (turn endpoint).sent

-- what becomes of the line is this turn of it, and so is what it sends
pub record LineTurns (line : ℕ) (endpoints : Endpoints) (turn : Endpoint → Effect Endpoint) (is : Effect Endpoints) : Type 0 where
  pub endpoint : endpoint_at is.value line ≡ option_map (λ (s : Endpoint). (turn s).value) (endpoint_at endpoints line)
  pub sent : of_line line is.sent ≡ sent_by turn (endpoint_at endpoints line)

pub silent_stays : (found : Option Endpoint) → found ≡ option_map (λ (s : Endpoint). (silently s).value) found
silent_stays None = refl
silent_stays (Some endpoint) = refl

pub silent_sends : (found : Option Endpoint) → sent_by silently found ≡ []
silent_sends None = refl
silent_sends (Some endpoint) = refl

pub on_one_line : (endpoints : Endpoints) (line n : ℕ) (turn : Endpoint → Effect Endpoint) → ((s : Endpoint) → OwnedBy n (turn s).sent)
    → LineTurns line endpoints (turn_if (n == line) turn) (on_line endpoints n turn)
on_one_line endpoints line n turn owned = by_test (n == line) refl where
  sent_here : (found : Option Endpoint) → endpoint_at endpoints n ≡ found → of_line n (on_line endpoints n turn).sent ≡ sent_by turn found
  sent_here None at = ap (λ (x : Effect Endpoints). of_line n x.sent) (on_nothing endpoints n turn at)
  sent_here (Some s) at = ap (λ (x : Effect Endpoints). of_line n x.sent) (on_this endpoints n s turn at) ∙ owned_here n (turn s).sent (owned s)

  sent_there : (n == line) ≡ false → (found : Option Endpoint) → endpoint_at endpoints n ≡ found → of_line line (on_line endpoints n turn).sent ≡ []
  sent_there apart None at = ap (λ (x : Effect Endpoints). of_line line x.sent) (on_nothing endpoints n turn at)
  sent_there apart (Some s) at = ap (λ (x : Effect Endpoints). of_line line x.sent) (on_this endpoints n s turn at) ∙ owned_elsewhere n line (turn s).sent (owned s) apart

  by_test : (b : Bool) → (n == line) ≡ b → LineTurns line endpoints (turn_if b turn) (on_line endpoints n turn)
  by_test true is =
      let same : n ≡ line = (Decides-eqb n line).0 is in
      subst (λ (x : ℕ). LineTurns x endpoints turn (on_line endpoints n turn)) same
      (record { endpoint = this_turns endpoints n turn; sent = sent_here (endpoint_at endpoints n) refl })
  by_test false apart = record {
    endpoint = others_stay_on endpoints n line turn (λ same. (let t : (n == line) ≡ true = (Decides-eqb n line).1 (sym same) in absurd cc))
        ∙ silent_stays (endpoint_at endpoints line);
    sent = sent_there apart (endpoint_at endpoints n) refl ∙ sym (silent_sends (endpoint_at endpoints line));
  }

-- Several lines' turns

apart_below : (n line : ℕ) → line < n → (n == line) ≡ false
apart_below n line low = by_test (n == line) refl where
  by_test : (b : Bool) → (n == line) ≡ b → b ≡ false
  by_test false e = refl
  by_test true e = absurd (let same : n ≡ line = (Decides-eqb n line).0 e in omega (arith, low, same))

module _ (p : ℕ → Bool) (turn : ℕ → Endpoint → Effect Endpoint) (owned : (n : ℕ) (s : Endpoint) → OwnedBy n (turn n s).sent) where
  -- of lines below these numbers nothing is sent
  low_more : (n : ℕ) (first : Endpoint) (list : List Endpoint) (line : ℕ) → line < n → of_line line (sent_in turn (endpoints_passing p (n + 1) list)) ≡ []
      → of_line line (sent_in turn (endpoints_passing p n (first ∷ list))) ≡ []
  low_more n first list line low rest = by_test (p n) where
    by_test : (b : Bool) → of_line line (sent_in turn (if b then (n, first) ∷ endpoints_passing p (n + 1) list else endpoints_passing p (n + 1) list)) ≡ []
    by_test true =
        of_both line (turn n first).sent (sent_in turn (endpoints_passing p (n + 1) list))
        ∙ ap (λ (x : List Sent). x ++ of_line line (sent_in turn (endpoints_passing p (n + 1) list)))
        (owned_elsewhere n line (turn n first).sent (owned n first) (apart_below n line low)) ∙ rest
    by_test false = rest

  none_low : (n : ℕ) (list : List Endpoint) (line : ℕ) → line < n → of_line line (sent_in turn (endpoints_passing p n list)) ≡ []
  none_low n [] line low = refl
  none_low n (first ∷ list) line low = low_more n first list line low (none_low (n + 1) list line (omega (arith, low)))

  abbrev SentAt : ℕ → List Endpoint → ℕ → ℕ → Type 0
  SentAt n list place line =
      of_line line (sent_in turn (endpoints_passing p n list)) ≡ sent_by (turn_if (p line) (turn line)) (slice_get list place)

  sent_first : (n : ℕ) (first : Endpoint) (list : List Endpoint) → SentAt n (first ∷ list) zero n
  sent_first n first list = by_test (p n) where
    rest : of_line n (sent_in turn (endpoints_passing p (n + 1) list)) ≡ []
    rest = none_low (n + 1) list n (omega arith)

    by_test : (b : Bool) → of_line n (sent_in turn (if b then (n, first) ∷ endpoints_passing p (n + 1) list else endpoints_passing p (n + 1) list))
        ≡ (turn_if b (turn n) first).sent
    by_test true =
        of_both n (turn n first).sent (sent_in turn (endpoints_passing p (n + 1) list))
        ∙ ap (λ (x : List Sent). x ++ of_line n (sent_in turn (endpoints_passing p (n + 1) list))) (owned_here n (turn n first).sent (owned n first))
        ∙ ap (λ (x : List Sent). (turn n first).sent ++ x) rest ∙ append-nil (turn n first).sent
    by_test false = rest

  sent_more : (n : ℕ) (first : Endpoint) (list : List Endpoint) (place line : ℕ) → n + suc place ≡ line → SentAt (n + 1) list place line
      → SentAt n (first ∷ list) (suc place) line
  sent_more n first list place line is rest = by_test (p n) where
    apart : (b : Bool) → (n == line) ≡ b → b ≡ false
    apart false e = refl
    apart true e = absurd (let same : n ≡ line = (Decides-eqb n line).0 e in omega (arith, is, same))

    by_test : (b : Bool) → of_line line (sent_in turn (if b then (n, first) ∷ endpoints_passing p (n + 1) list else endpoints_passing p (n + 1) list))
        ≡ sent_by (turn_if (p line) (turn line)) (slice_get list place)
    by_test true =
        of_both line (turn n first).sent (sent_in turn (endpoints_passing p (n + 1) list))
        ∙ ap (λ (x : List Sent). x ++ of_line line (sent_in turn (endpoints_passing p (n + 1) list)))
        (owned_elsewhere n line (turn n first).sent (owned n first) (apart (n == line) refl)) ∙ rest
    by_test false = rest

  sent_at : (n : ℕ) (list : List Endpoint) (place line : ℕ) → n + place ≡ line → SentAt n list place line
  sent_at n [] place line is = refl
  sent_at n (first ∷ list) zero line is =
      let same : n ≡ line = omega (arith, is) in
      subst (SentAt n (first ∷ list) zero) same (sent_first n first list)
  sent_at n (first ∷ list) (suc place) line is =
      sent_more n first list place line is (sent_at (n + 1) list place line (omega (arith, is)))

  lines_sent : (endpoints : Endpoints) (line : ℕ)
      → of_line line (on_lines (passing_from p 1 endpoints.list) endpoints turn).sent ≡ sent_by (turn_if (p line) (turn line)) (endpoint_at endpoints line)
  lines_sent endpoints line =
      ap (of_line line) (sent_from_each p 1 endpoints.list endpoints turn (all_there endpoints)) ∙ by_zero (line == 0) refl where
        by_zero : (b : Bool) → (line == 0) ≡ b
            → of_line line (sent_in turn (endpoints_passing p 1 endpoints.list))
            ≡ sent_by (turn_if (p line) (turn line)) (if b then None else slice_get endpoints.list (line - 1))
        by_zero true e = let none : line ≡ 0 = (Decides-eqb line 0).0 e in none_low 1 endpoints.list line (omega (arith, none))
        by_zero false e =
            let some : line ≢ 0 = λ none. (let t : (line == 0) ≡ true = (Decides-eqb line 0).1 none in absurd cc) in
            sent_at 1 endpoints.list (line - 1) line (omega (arith, some))

  apart_from : (list : List Endpoint) (line : ℕ) → p line ≡ false → All (λ (one : ℕ). line ≢ one) (passing_from p 1 list)
  apart_from list line fails k d within same =
      let passes = filter_passes p (map (λ (one : ℕ × Endpoint). one.0) (enumerate_from 1 list)) k d within in
      let both : true ≡ false = sym passes ∙ sym (ap p same) ∙ fails in
      absurd cc

  pub on_many_lines : (endpoints : Endpoints) (line : ℕ)
      → LineTurns line endpoints (turn_if (p line) (turn line)) (on_lines (passing_from p 1 endpoints.list) endpoints turn)
  on_many_lines endpoints line = record { endpoint = by_endpoint (endpoint_at endpoints line) refl; sent = lines_sent endpoints line } where
    by_test : (endpoint : Endpoint) (b : Bool) → p line ≡ b → endpoint_at endpoints line ≡ Some endpoint
        → endpoint_at (on_lines (passing_from p 1 endpoints.list) endpoints turn).value line ≡ Some (turn_if b (turn line) endpoint).value
    by_test endpoint true meant at =
        let place = place_of endpoints line endpoint at in
        among_from p 1 endpoints.list endpoints turn line place.0 place.1 meant ∙ ap (option_map (λ (s : Endpoint). (turn line s).value)) at
    by_test endpoint false other at = not_among (passing_from p 1 endpoints.list) endpoints turn line (apart_from endpoints.list line other) ∙ at

    by_endpoint : (found : Option Endpoint) → endpoint_at endpoints line ≡ found
        → endpoint_at (on_lines (passing_from p 1 endpoints.list) endpoints turn).value line
        ≡ option_map (λ (endpoint : Endpoint). (turn_if (p line) (turn line) endpoint).value) found
    by_endpoint None at = none_stays (passing_from p 1 endpoints.list) endpoints turn line at
    by_endpoint (Some endpoint) at = by_test endpoint (p line) refl at
