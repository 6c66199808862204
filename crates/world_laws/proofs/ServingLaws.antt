-- The answer to its announcement makes the gateway serve amid other texts of its packet.
use Rattle.std.proofs.Common.{◌≡◌, ℕ, zero, suc, ◌+◌, ◌<◌, ◌≤◌, Bool, true, false, ◌||◌, ◌&&◌, ◌==◌, List, [], ◌∷◌, ◌++◌, length, Option, Some, refl, sym, ap, ◌∙◌, subst, arith, append_assoc, inl, inr, ◌≢◌}
use Rattle.std.specs.Prelude.{nat_le, nat_lt, slice_get, ◌⊎◌, All, IfSome}
use Rattle.std.specs.Option.{unwrap_or}
use Rattle.std.proofs.lemmas.Bool.{and_parts, eqb-true, leb-true, ltb-true, eqb-false}
use Rattle.std.proofs.lemmas.Option.{none-some}
use Rattle.plain_machine.specs.declared.setup.Setup.{Setup}
use Rattle.agent_core.specs.declared.packet.Posted.{Posted}
use Rattle.agent_core.specs.World.{World, WorldStep, delivering, dialling, issuing, now_in, plain_world, ticking, went, world_after, world_opening, gateway_in}
use Rattle.world_laws.specs.Fairness.{IsFair, IsHandedOver}
use Rattle.world_laws.proofs.LookLemmas.{found_before}
use Rattle.world_laws.proofs.PostedFinal.{plain_grows, step_more, handed_to_gateway}
use Rattle.std.proofs.lemmas.Bool.Decides.{Decides-eqb}
use Rattle.std.specs.declared.net.socket_addr.SocketAddrV4.{SocketAddrV4}
use Rattle.mgcp_text.specs.declared.message.Message.TheVariants as messages
use Rattle.mgcp_text.specs.declared.message.Param.{Param}
use Rattle.mgcp_text.specs.Reading.{Outcome, message, no_header, bad_version, bad_body, read_text}
use Rattle.transmission.specs.Texts.{texts_of}
use Rattle.plain_machine.specs.Answering.{handled, took_all}
use Rattle.plain_machine.specs.Effect.{Effect}
use Rattle.plain_machine.specs.Event.{GatewayEvent, datagram}
use Rattle.plain_machine.specs.Machine.{Machine, opening, Endpoints, serves}
use Rattle.plain_machine.specs.Responding.{responded, response_with}
use Rattle.plain_machine.proofs.ListLaws.{machine_on}
use Rattle.machine_laws.specs.Saying.{OneOf}
use Rattle.machine_laws.proofs.EachLemmas.{Each, each_from_all, one_from_any, one_of_each, one_to, one_weaker}
use Rattle.machine_laws.proofs.EventLemmas.{datagram_does, texts_at}
use Rattle.agent_core.specs.declared.packet.End.TheVariants.{AgentEnd as agent_end}
use Rattle.world_laws.proofs.WorldLaws.{gateway_alone}
use Rattle.world_laws.specs.Copies.{IsCopy, IsPlainAnswer}
use Rattle.world_laws.specs.OwnChances.{IsResponse}
use Rattle.retransmission.specs.Flight.{InFlight}
use Rattle.retransmission.specs.declared.restart.Restart.{Restart}
use Rattle.retransmission.specs.declared.restart.Restart.TheVariants.{Waiting, Announced, Serving}
use Rattle.retransmission.specs.Restarting.{is_serving}
use Rattle.plain_machine.specs.declared.post.Post.{Post}
use Rattle.plain_machine.specs.declared.response.Response.{Response}
use Rattle.plain_machine.specs.Announcing.{heard_on}
use Rattle.plain_machine.specs.Flights.{OwnInOrderBy}
use Rattle.plain_machine.specs.Posting.{line_of_id}
use Rattle.machine_laws.proofs.AnnouncementLaws.{answer_serves, asks_own, text_keeps}
use Rattle.machine_laws.proofs.FlightLaws.{a_served_gateway_hears_nothing, a_stranger_to_itself, own_stays as own_stays_at}
use Rattle.machine_laws.specs.Waiting.{KeepOrder}
use Rattle.machine_laws.proofs.WaitLaws.{events_wait, text_waits, texts_wait}
use Rattle.world_laws.proofs.LineLaws.{IsAnswered, heard_is}

-- Whether a network is fair, computed; for worked examples.

-- this step hands the packet with this number over, which was sent at this moment, in time
abbrev is_handing : ℕ → WorldStep → Bool
is_handing number (issuing verb name rest) = false
is_handing number (dialling line act) = false
is_handing number (ticking moment) = false
is_handing number (delivering other) = other == number

abbrev is_soon : Setup → ℕ → ℕ → ℕ → World → Bool
is_soon setup within number moment w = nat_lt number (length w.posted) && nat_le (now_in setup w) (moment + within)

-- one of these does, behind this world
abbrev pub is_handed : Setup → ℕ → ℕ → ℕ → World → List WorldStep → Bool
is_handed setup within number moment w [] = false
is_handed setup within number moment w (step ∷ steps) =
    (is_handing number step && is_soon setup within number moment w) || is_handed setup within number moment (went setup w step) steps

-- so it is of a packet with this number, sent at this moment; or it isn't so old yet
abbrev pub is_in_time : Setup → ℕ → ℕ → List WorldStep → ℕ → ℕ → Bool
is_in_time setup within now steps number moment = nat_lt now (moment + within) || is_handed setup within number moment world_opening steps

-- and so it is of all packets, of which the first has this number
abbrev pub all_handed : Setup → ℕ → ℕ → List WorldStep → ℕ → List Posted → Bool
all_handed setup within now steps number [] = true
all_handed setup within now steps number (post ∷ posts) =
    is_in_time setup within now steps number post.packet.moment && all_handed setup within now steps (number + 1) posts

it_hands : (number : ℕ) (step : WorldStep) → is_handing number step ≡ true → step ≡ delivering number
it_hands number (issuing verb name rest) is = absurd cc
it_hands number (dialling line act) is = absurd cc
it_hands number (ticking moment) is = absurd cc
it_hands number (delivering other) is = ap delivering (eqb-true other number is)

some_at : (posts : List Posted) (number : ℕ) → number < length posts → (post : Posted) × (slice_get posts number ≡ Some post)
some_at [] number low = absurd (omega (arith, low))
some_at (post ∷ posts) zero low = (post, refl)
some_at (post ∷ posts) (suc number) low = some_at posts number (omega (arith, low))

-- a packet that was there before is the same
was_there : (setup : Setup) (before more : List WorldStep) (number : ℕ) (post : Posted) → number < length (plain_world setup before).posted
    → slice_get (plain_world setup (before ++ more)).posted number ≡ Some post → slice_get (plain_world setup before).posted number ≡ Some post
was_there setup before more number post low found =
    let was = some_at (plain_world setup before).posted number low in
    let grows = plain_grows setup 0 before more in
    let there : slice_get (plain_world setup (before ++ more)).posted number ≡ Some was.0 =
    subst (λ (x : List Posted). slice_get x number ≡ Some was.0) (sym grows.posted) (found_before (plain_world setup before).posted grows.more number was.0 was.1) in
    was.1 ∙ ap (λ (p : Posted). Some p) (ap (λ (o : Option Posted). unwrap_or o post) (sym there ∙ found))

module _ (setup : Setup) (within : ℕ) (steps : List WorldStep) (number : ℕ) (post : Posted) (found : slice_get (plain_world setup steps).posted number ≡ Some post) where
  pub handed : (before rest : List WorldStep) (w : World) → w ≡ plain_world setup before → steps ≡ before ++ rest → is_handed setup within number post.packet.moment w rest ≡ true
      → IsHandedOver setup steps within number post
  handed before [] w same order is = absurd cc
  handed before (step ∷ rest) w same order is =
      by_test (is_handing number step && is_soon setup within number post.packet.moment w) refl is
      (handed (before ++ step ∷ []) rest (went setup w step) (ap (λ (x : World). went setup x step) same ∙ sym (step_more setup before step))
      (order ∙ sym (append_assoc before (step ∷ []) rest))) where
        here : (is_handing number step && is_soon setup within number post.packet.moment w) ≡ true → IsHandedOver setup steps within number post
        here both =
            let parts = and_parts (is_handing number step) (is_soon setup within number post.packet.moment w) both in
            let soon = and_parts (nat_lt number (length w.posted)) (nat_le (now_in setup w) (post.packet.moment + within)) parts.1 in
            let order' : steps ≡ (before ++ delivering number ∷ []) ++ rest =
            order ∙ ap (λ (s : WorldStep). before ++ s ∷ rest) (it_hands number step parts.0) ∙ sym (append_assoc before (delivering number ∷ []) rest) in
            record {
              before = before;
              later = rest;
              order = order';
              sent = was_there setup before (step ∷ rest) number post
                  (subst (λ (x : World). number < length x.posted) same (ltb-true number (length w.posted) soon.0))
                  (subst (λ (s : List WorldStep). slice_get (plain_world setup s).posted number ≡ Some post) order found);
              soon = subst (λ (x : World). now_in setup x ≤ post.packet.moment + within) same (leb-true (now_in setup w) (post.packet.moment + within) soon.1);
            }

        by_test : (b : Bool) → (is_handing number step && is_soon setup within number post.packet.moment w) ≡ b
            → (b || is_handed setup within number post.packet.moment (went setup w step) rest) ≡ true
            → (is_handed setup within number post.packet.moment (went setup w step) rest ≡ true → IsHandedOver setup steps within number post) → IsHandedOver setup steps within number post
        by_test true both is on = here both
        by_test false both is on = on is

handed_at : (setup : Setup) (within now : ℕ) (steps : List WorldStep) (first : ℕ) (posts : List Posted) (place : ℕ) (post : Posted) → slice_get posts place ≡ Some post
    → all_handed setup within now steps first posts ≡ true → is_in_time setup within now steps (first + place) post.packet.moment ≡ true
handed_at setup within now steps first [] place post found all = absurd (none-some post found)
handed_at setup within now steps first (one ∷ posts) zero post found all =
    subst (λ (p : Posted). is_in_time setup within now steps (first + 0) p.packet.moment ≡ true) (ap (λ (o : Option Posted). unwrap_or o one) found)
    (subst (λ (n : ℕ). is_in_time setup within now steps n one.packet.moment ≡ true) (same first)
    (and_parts (is_in_time setup within now steps first one.packet.moment) (all_handed setup within now steps (first + 1) posts) all).0) where
      same : (n : ℕ) → n ≡ n + 0
      same n = omega arith
handed_at setup within now steps first (one ∷ posts) (suc place) post found all =
    subst (λ (n : ℕ). is_in_time setup within now steps n post.packet.moment ≡ true) (same first place)
    (handed_at setup within now steps (first + 1) posts place post found
    (and_parts (is_in_time setup within now steps first one.packet.moment) (all_handed setup within now steps (first + 1) posts) all).1) where
      same : (n m : ℕ) → n + 1 + m ≡ n + suc m
      same n m = omega arith

pub not_young : (now old : ℕ) (b : Bool) → old ≤ now → (nat_lt now old || b) ≡ true → b ≡ true
not_young now old b late either = by_test (nat_lt now old) refl either where
  by_test : (young : Bool) → nat_lt now old ≡ young → (young || b) ≡ true → b ≡ true
  by_test true is all = absurd (let soon = ltb-true now old is in omega (arith, soon, late))
  by_test false is all = all

pub fair_is : (setup : Setup) (steps : List WorldStep) (within : ℕ) → all_handed setup within (now_in setup (plain_world setup steps)) steps 0 (plain_world setup steps).posted ≡ true
    → IsFair setup steps within
unfolding world_after
fair_is setup steps within all = λ number post found late.
    let now = now_in setup (plain_world setup steps) in
    handed setup within steps number post found [] steps world_opening refl refl
    (not_young now (post.packet.moment + within) (is_handed setup within number post.packet.moment world_opening steps) late
    (subst (λ (n : ℕ). is_in_time setup within now steps n post.packet.moment ≡ true) (same number)
    (handed_at setup within now steps 0 (plain_world setup steps).posted number post found all))) where
      same : (n : ℕ) → 0 + n ≡ n
      same n = omega arith

-- The answer to its command lets a line go on amid other texts of its packet.

-- The first answer among texts

abbrev pub responds : ℕ → Outcome → Bool
responds id no_header = false
responds id (bad_version other) = false
responds id (bad_body other) = false
responds id (message (messages.Command verb other name params body)) = false
responds id (message (messages.Response code other params body)) = other == id

pub response_is : (id : ℕ) (outcome : Outcome) → responds id outcome ≡ true → IsResponse id outcome
response_is id no_header is = absurd cc
response_is id (bad_version other) is = absurd cc
response_is id (bad_body other) is = absurd cc
response_is id (message (messages.Command verb other name params body)) is = absurd cc
response_is id (message (messages.Response code other params body)) is =
    (code, params, body, ap (λ (i : ℕ). message (messages.Response code i params body)) (eqb-true other id is))

pub it_responds : (id : ℕ) (outcome : Outcome) → IsResponse id outcome → responds id outcome ≡ true
it_responds id outcome is = ap (responds id) is.3 ∙ (Decides-eqb id id).1 refl

-- one that responds to it, behind texts of which none does
pub record FirstOf (id : ℕ) (texts : List (List ℕ)) : Type 0 where
  pub before : List (List ℕ)
  pub answer : List ℕ
  pub later : List (List ℕ)
  pub order : texts ≡ before ++ answer ∷ later
  pub none : Each (λ (text : List ℕ). responds id (read_text text) ≡ false) before
  pub is : responds id (read_text answer) ≡ true
  pub among : OneOf (λ (text : List ℕ). text ≡ answer) texts

pub first_of : (id : ℕ) (texts : List (List ℕ)) → OneOf (λ (text : List ℕ). responds id (read_text text) ≡ true) texts → FirstOf id texts
first_of id [] one = absurd one
first_of id (text ∷ texts) one = by_test (responds id (read_text text)) refl one (first_of id texts) where
  behind : responds id (read_text text) ≡ false → FirstOf id texts → FirstOf id (text ∷ texts)
  behind stranger f = record {
    before = text ∷ f.before;
    answer = f.answer;
    later = f.later;
    order = ap (λ (x : List (List ℕ)). text ∷ x) f.order;
    none = (stranger, f.none);
    is = f.is;
    among = inr f.among;
  }

  by_test : (b : Bool) → responds id (read_text text) ≡ b → (responds id (read_text text) ≡ true) ⊎ OneOf (λ (x : List ℕ). responds id (read_text x) ≡ true) texts
      → (OneOf (λ (x : List ℕ). responds id (read_text x) ≡ true) texts → FirstOf id texts) → FirstOf id (text ∷ texts)
  by_test true is here on = record { before = []; answer = text; later = texts; order = refl; none = tt; is = is; among = inl refl }
  by_test false stranger (inl is) on = absurd (let clash : true ≡ false = sym is ∙ stranger in cc)
  by_test false stranger (inr there) on = behind stranger (on there)

-- The answer comes

pub response_does : (setup : Setup) (m : Machine) (source : SocketAddrV4) (code id : ℕ) (params : List Param) (body : List ℕ) (outcome : Outcome) → outcome ≡ message (messages.Response code id params body)
    → (handled setup m source outcome).value.endpoints ≡ (responded setup m.endpoints m.now (response_with setup id code params)).value
unfolding handled
response_does setup m source code id params body outcome reads = ap (λ (o : Outcome). (handled setup m source o).value.endpoints) reads

-- In a world

pub takes_texts : (setup : Setup) (steps : List WorldStep) (number : ℕ) (text : List ℕ) → let w = plain_world setup steps in (copy : IsCopy setup w agent_end text number)
    → gateway_in setup (plain_world setup (steps ++ delivering number ∷ [])) ≡ (took_all setup (gateway_in setup w) copy.post.packet.sender (texts_of copy.post.packet.bytes)).value
takes_texts setup steps number text copy =
    let w = plain_world setup steps in
    let e : GatewayEvent = datagram copy.post.packet.sender copy.post.packet.bytes in
    ap (gateway_in setup) (step_more setup steps (delivering number) ∙ handed_to_gateway setup w text number copy)
    ∙ machine_on setup (opening setup) w.gateway_took (e ∷ []) ∙ gateway_alone setup (gateway_in setup w) e
    ∙ ap (λ (t : Effect Machine). t.value) (datagram_does setup (gateway_in setup w) copy.post.packet.sender copy.post.packet.bytes)

-- what holds of the gateway's own post stays at a text, where it does at each response
pub own_keeps : (setup : Setup) (P : Post → Type 0) (m : Machine) (source : SocketAddrV4) (outcome : Outcome)
    → ((code id : ℕ) (params : List Param) (body : List ℕ) → outcome ≡ message (messages.Response code id params body)
    → P (responded setup m.endpoints m.now (response_with setup id code params)).value.own) → P m.endpoints.own → P (handled setup m source outcome).value.endpoints.own
own_keeps setup P m source outcome hears is =
    text_keeps setup (λ (endpoints : Endpoints). P endpoints.own) m source outcome (λ asks id. subst P (sym (asks_own asks setup m.endpoints m.now id)) is) hears is

-- Before its answer the announcement stays in flight

abbrev OwnFlies : ℕ → Post → Type 0
OwnFlies id own = (flight : InFlight) × (own.pending ≡ Some flight) × (flight.id ≡ id)

response_stays : (setup : Setup) (endpoints : Endpoints) (moment : ℕ) (response : Response) (id : ℕ) → response.id ≢ id → OwnFlies id endpoints.own
    → OwnFlies id (responded setup endpoints moment response).value.own
response_stays setup endpoints moment response id apart s = by_own (line_of_id response.id == 0) refl where
  strange : IfSome endpoints.own.pending (λ message. message.id ≢ response.id)
  strange = subst (λ (pending : Option InFlight). IfSome pending (λ message. message.id ≢ response.id)) (sym s.1) (λ same. apart (sym same ∙ s.2))

  by_own : (b : Bool) → (line_of_id response.id == 0) ≡ b → OwnFlies id (responded setup endpoints moment response).value.own
  by_own true own =
      subst (λ (t : Effect Endpoints). OwnFlies id t.value.own) (sym (a_stranger_to_itself setup endpoints moment response (eqb-true (line_of_id response.id) 0 own) strange)) s
  by_own false some = subst (OwnFlies id) (sym (own_stays_at setup endpoints moment response (eqb-false (line_of_id response.id) 0 some))) s

texts_fly : (setup : Setup) (m : Machine) (source : SocketAddrV4) (texts : List (List ℕ)) (id : ℕ) → Each (λ (text : List ℕ). responds id (read_text text) ≡ false) texts
    → OwnFlies id m.endpoints.own → OwnFlies id (took_all setup m source texts).value.endpoints.own
unfolding took_all
texts_fly setup m source [] id none s = s
texts_fly setup m source (text ∷ texts) id none s =
    texts_fly setup (handled setup m source (read_text text)).value source texts id none.1
    (own_keeps setup (OwnFlies id) m source (read_text text)
    (λ code other params body reads. response_stays setup m.endpoints m.now (response_with setup other code params) id
    (eqb-false other id (sym (ap (responds id) reads) ∙ none.0)) s) s)

-- Once the gateway serves it goes on to

response_serves : (setup : Setup) (endpoints : Endpoints) (moment : ℕ) (response : Response) → KeepOrder endpoints → serves endpoints ≡ true → serves (responded setup endpoints moment response).value ≡ true
response_serves setup endpoints moment response order served = by_own (line_of_id response.id == 0) refl where
  by_own : (b : Bool) → (line_of_id response.id == 0) ≡ b → serves (responded setup endpoints moment response).value ≡ true
  by_own true own =
      ap (λ (t : Effect Endpoints). serves t.value) (a_served_gateway_hears_nothing setup endpoints moment response (eqb-true (line_of_id response.id) 0 own) order.order served) ∙ served
  by_own false some = ap (λ (own : Post). is_serving own.restart) (own_stays_at setup endpoints moment response (eqb-false (line_of_id response.id) 0 some)) ∙ served

pub texts_serve : (setup : Setup) (m : Machine) (source : SocketAddrV4) (texts : List (List ℕ)) → KeepOrder m.endpoints → serves m.endpoints ≡ true
    → serves (took_all setup m source texts).value.endpoints ≡ true
unfolding took_all
texts_serve setup m source [] order served = served
texts_serve setup m source (text ∷ texts) order served =
    texts_serve setup (handled setup m source (read_text text)).value source texts (text_waits setup m source (read_text text) order)
    (own_keeps setup (λ (own : Post). is_serving own.restart ≡ true) m source (read_text text)
    (λ code id params body reads. response_serves setup m.endpoints m.now (response_with setup id code params) order served) served)

-- The answer comes

own_line : (restart : Restart) (pending : Option InFlight) (flight : InFlight) → OwnInOrderBy restart pending → pending ≡ Some flight → line_of_id flight.id ≡ 0
own_line (Waiting until) pending flight order flies = absurd (none-some flight (sym order ∙ flies))
own_line Announced pending flight order flies =
    ap (λ (o : Option InFlight). line_of_id (unwrap_or o flight).id) (sym flies ∙ order.flies) ∙ order.own
own_line Serving pending flight order flies = absurd (none-some flight (sym order ∙ flies))

pub serves_amid : (setup : Setup) (m : Machine) (source : SocketAddrV4) (texts : List (List ℕ)) (id : ℕ) → KeepOrder m.endpoints → OwnFlies id m.endpoints.own → Each (IsPlainAnswer id) texts
    → FirstOf id texts → serves (took_all setup m source texts).value.endpoints ≡ true
unfolding took_all
serves_amid setup m source texts id order s plain f =
    ap (λ (x : List (List ℕ)). serves (took_all setup m source x).value.endpoints) f.order
    ∙ ap (λ (t : Effect Machine). serves t.value.endpoints) (texts_at setup m source f.before f.later f.answer)
    ∙ texts_serve setup (handled setup now source (read_text f.answer)).value source f.later (text_waits setup now source (read_text f.answer) kept) served where
      now : Machine
      now = (took_all setup m source f.before).value

      kept : KeepOrder now.endpoints
      kept = texts_wait setup m source f.before order

      still : OwnFlies id now.endpoints.own
      still = texts_fly setup m source f.before id f.none s

      reads : IsResponse id (read_text f.answer)
      reads = response_is id (read_text f.answer) f.is

      response : Response
      response = response_with setup id reads.0 reads.1

      one_plain : IsPlainAnswer id f.answer
      one_plain =
          one_to (λ (text : List ℕ). IsPlainAnswer id text × (text ≡ f.answer)) (IsPlainAnswer id f.answer) (λ text both. subst (IsPlainAnswer id) both.1 both.0) texts
          (one_of_each (IsPlainAnswer id) (λ (text : List ℕ). text ≡ f.answer) texts plain f.among)

      heard : IsAnswered (heard_on now.endpoints.own response)
      heard =
          let both = one_plain reads.0 reads.1 reads.2 reads.3 in
          heard_is now.endpoints.own response still.0 still.1 still.2 both.0 both.1

      of : line_of_id response.id ≡ 0
      of = ap line_of_id (sym still.2) ∙ own_line now.endpoints.own.restart now.endpoints.own.pending still.0 kept.order.own still.1

      served : serves (handled setup now source (read_text f.answer)).value.endpoints ≡ true
      served =
          ap serves (response_does setup now source reads.0 id reads.1 reads.2 (read_text f.answer) reads.3)
          ∙ answer_serves setup now.endpoints now.now response heard.0 of heard.1

pub gateway_goes_on_amid : (setup : Setup) (steps : List WorldStep) (number : ℕ) (text : List ℕ) (id : ℕ) (flight : InFlight)
    → let w = plain_world setup steps in let after = plain_world setup (steps ++ delivering number ∷ []) in (copy : IsCopy setup w agent_end text number)
    → let texts = texts_of copy.post.packet.bytes in IsResponse id (read_text text) → All (IsPlainAnswer id) texts → (gateway_in setup w).endpoints.own.pending ≡ Some flight → flight.id ≡ id
    → serves (gateway_in setup after).endpoints ≡ true
gateway_goes_on_amid setup steps number text id flight copy is plain flies same =
    let w = plain_world setup steps in
    let texts = texts_of copy.post.packet.bytes in
    ap (λ (m : Machine). serves m.endpoints) (takes_texts setup steps number text copy)
    ∙ serves_amid setup (gateway_in setup w) copy.post.packet.sender texts id (events_wait setup w.gateway_took) (flight, flies, same) (each_from_all (IsPlainAnswer id) texts plain)
    (first_of id texts (one_weaker (λ (one : List ℕ). one ≡ text) (λ (one : List ℕ). responds id (read_text one) ≡ true)
    (λ one here. ap (λ (t : List ℕ). responds id (read_text t)) here ∙ it_responds id (read_text text) is) texts
    (one_from_any (λ (one : List ℕ). one ≡ text) texts copy.inside)))
