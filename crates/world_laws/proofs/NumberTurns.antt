-- A line's commands are numbered in turn, and so does each turn of the line leave them.
use Rattle.std.proofs.Common.{◌≡◌, ℕ, ◌≤◌, Bool, true, false, List, [], ◌∷◌, ◌++◌, Option, Some, None, refl, sym, ap, ◌∙◌, subst, append-nil, append_assoc, ◌+◌, ◌<◌, ◌==◌, if◌then◌else◌, inl, inr, arith}
use Rattle.retransmission.specs.Flight.{InFlight, repeat_of}
use Rattle.retransmission.specs.declared.restart.Restart.TheVariants.{Serving, Waiting, Announced}
use Rattle.plain_machine.specs.declared.response.Response.{Response}
use Rattle.plain_machine.specs.declared.setup.Setup.{Setup}
use Rattle.plain_machine.specs.declared.endpoint.Endpoint.{Endpoint}
use Rattle.plain_machine.specs.Arriving.{arrivals_from, arrivals_of}
use Rattle.plain_machine.specs.Event.{GatewayEvent}
use Rattle.plain_machine.specs.Lists.{plain, sent_from, sent_of}
use Rattle.plain_machine.specs.Machine.{Machine, endpoint_at, opening, opening_endpoint}
use Rattle.plain_machine.specs.Message.{Begun, Sent}
use Rattle.plain_machine.proofs.ListLaws.{machine_on}
use Rattle.machine_laws.proofs.TurnLemmas.{on_made, of_line as of_its_line}
use Rattle.machine_laws.proofs.WaitLaws.{events_wait, opening_waits}
use Rattle.machine_laws.specs.Belonging.{of_line}
use Rattle.machine_laws.specs.Saying.{begun_in, begun_at}
use Rattle.machine_laws.proofs.OwningLemmas.{of_both}
use Rattle.world_laws.proofs.CourseLemmas.{events_stand, hear_all, AnyResponse, EndpointTurns, Stands}
use Rattle.world_laws.specs.Course.{CourseStep}
use Rattle.world_laws.specs.GivenUp.{has_given_up}
use Rattle.world_laws.proofs.DialledFlightLemmas.{Fine, Flies, FliesBeside, flight_turns, flying, gave_nothing_up, opening_flies, starts_gone, stays_gone}
use Rattle.world_laws.proofs.WorldLemmas.{none_comes}
use Rattle.world_laws.proofs.RoundLaws.{sent_on}
use Rattle.std.proofs.lemmas.Bool.{eqb-false, eqb-true, ltb-false, ltb-true}
use Rattle.std.specs.Prelude.{◌%◌, nat_lt}
use Rattle.std.proofs.lemmas.Nat.{div-mul-add}
use Rattle.std.specs.Option.{unwrap_or}
use Rattle.endpoint_names.specs.declared.entity.Entity.{Entity}
use Rattle.mg_line.specs.Line.{LineDone, Notice}
use Rattle.mg_line.specs.Acting.{phoned}
use Rattle.mg_line.specs.Answering.{answered}
use Rattle.mg_line.specs.Opening.{opened}
use Rattle.mg_line.specs.Falling.{fired}
use Rattle.retransmission.specs.declared.repeat.Repeat.{Repeat}
use Rattle.retransmission.specs.declared.repeat.Repeat.TheVariants.{Sent as SentAgain, GivenUp}
use Rattle.retransmission.specs.declared.restart.Restart.{Restart}
use Rattle.retransmission.specs.declared.heard.Heard.{Heard}
use Rattle.retransmission.specs.declared.heard.Heard.TheVariants.{Nothing, PutOff, Redirected, Answered}
use Rattle.timers.specs.declared.kind.DueKind.{DueKind}
use Rattle.timers.specs.declared.kind.DueKind.TheVariants.{OfLine, Resend, Announce}
use Rattle.command_forms.specs.declared.forms.Deed.{Deed}
use Rattle.plain_machine.specs.declared.post.Post.{Post}
use Rattle.plain_machine.specs.Setup.{firsts}
use Rattle.plain_machine.specs.Effect.{Effect}
use Rattle.plain_machine.specs.Announcing.{announcement, announced, announced_by, announced_on, heard_on, replied}
use Rattle.plain_machine.specs.Falling.{happened_on}
use Rattle.plain_machine.specs.Notifying.{notification, noted, posted, with_notice}
use Rattle.plain_machine.specs.Posting.{first_number, id_on, line_of_id, number_after, numbers, repeated_as, resent_by, resent_on}
use Rattle.plain_machine.specs.Requesting.{asked_if, deed_on, with_connections, with_entity}
use Rattle.plain_machine.specs.Responding.{opened_on, redirected_on, responded_as, responded_on}
use Rattle.world_laws.proofs.OnTurns.{answer_begins, begun_both}
use Rattle.world_laws.proofs.DialledTakenLemmas.{Follows, HasNumber, Numbered, numbered_more}
use Rattle.machine_laws.proofs.PostLogs.{first_low}

-- A line that gave nothing up hadn't at any time before; so it served, and what it had in flight was its last command.

abbrev AnyId : ℕ → Type 0
AnyId id = Unit {0}

abbrev IsFinal : Response → Type 0
IsFinal response = 200 ≤ response.code → AnyId response.id

module _ (setup : Setup) (line : ℕ) (one : 1 ≤ line) where
  abbrev pub sent_by : List GatewayEvent → List Sent
  sent_by events = of_line line (sent_of setup events)

  -- its endpoint behind these events
  abbrev pub IsAt : List GatewayEvent → Endpoint → Type 0
  IsAt events s = endpoint_at (plain setup events).endpoints line ≡ Some s

  abbrev pub GaveNothingUp : List GatewayEvent → Endpoint → Type 0
  GaveNothingUp events s = has_given_up (sent_by events) s.post ≡ false

  -- no line comes from nowhere
  pub was_there : (some later : List GatewayEvent) (endpoint : Endpoint) → IsAt (some ++ later) endpoint → (was : Endpoint) × IsAt some was
  was_there some [] endpoint there = (endpoint, subst (λ (x : List GatewayEvent). IsAt x endpoint) (append-nil some) there)
  was_there some (event ∷ later) endpoint there =
      by_found (was_there (some ++ event ∷ []) later endpoint (subst (λ (x : List GatewayEvent). IsAt x endpoint) (sym order) there))
      (endpoint_at (plain setup some).endpoints line) refl where
        order : (some ++ event ∷ []) ++ later ≡ some ++ event ∷ later
        order = append_assoc some (event ∷ []) later

        by_found : (next : Endpoint) × IsAt (some ++ event ∷ []) next → (found : Option Endpoint)
            → endpoint_at (plain setup some).endpoints line ≡ found → (was : Endpoint) × IsAt some was
        by_found next (Some was) here = (was, here)
        by_found next None none =
            absurd (none_comes setup line one some event next.0 none
            (ap (λ (m : Machine). endpoint_at m.endpoints line) (sym (machine_on setup (opening setup) some (event ∷ []))) ∙ next.1))

  pub flew : (events : List GatewayEvent) (s : Endpoint) → IsAt events s → Flies AnyId (Unit {0}) (sent_by events) s
  flew events =
      (events_stand setup IsFinal (FliesBeside AnyId (Unit {0})) (flight_turns AnyId (Unit {0}) setup) line one (opening setup) [] [] 0
      events (hear_all setup IsFinal (λ response high. tt) (arrivals_of events)) (record {
        order = opening_waits setup;
        holds = λ s at.
            of_its_line (λ n endpoint. Flies AnyId (Unit {0}) [] endpoint) (opening setup).endpoints line s
            (on_made (λ n endpoint. Flies AnyId (Unit {0}) [] endpoint) (opening_endpoint setup) 1 setup.names.lines
            (λ i low high. opening_flies AnyId (Unit {0}) (opening_endpoint setup i) tt refl refl)) at;
      })).holds

  stays_up : (some later : List GatewayEvent) (was endpoint : Endpoint) → IsAt some was → IsAt (some ++ later) endpoint
      → Flies AnyId ⊥ (sent_by some) was → has_given_up (sent_by (some ++ later)) endpoint.post ≡ true
  stays_up some later was endpoint here there gone =
      ap (λ (x : List Sent). has_given_up x endpoint.post) parts ∙ stays_gone (sent_by some ++ since) endpoint
      ((events_stand setup IsFinal (FliesBeside AnyId ⊥) (flight_turns AnyId ⊥ setup) line one (plain setup some) [] (sent_by some) 0 later
      (hear_all setup IsFinal (λ response high. tt) (arrivals_from 0 later))
      (record {
        order = events_wait setup some;
        holds = λ x at.
            subst (Flies AnyId ⊥ (sent_by some)) (let both : Some was ≡ Some x = sym here ∙ at in (let same : was ≡ x = cc in same)) gone;
      })).holds endpoint
      (ap (λ (m : Machine). endpoint_at m.endpoints line) (sym (machine_on setup (opening setup) some later)) ∙ there)) where
        since : List Sent
        since = of_line line (sent_from setup (plain setup some) later)

        parts : sent_by (some ++ later) ≡ sent_by some ++ since
        parts =
            ap (of_line line) (sent_on setup (opening setup) some later)
            ∙ of_both line (sent_of setup some) (sent_from setup (plain setup some) later)

  pub none_then : (some later : List GatewayEvent) (was endpoint : Endpoint) → IsAt some was → IsAt (some ++ later) endpoint
      → GaveNothingUp (some ++ later) endpoint → GaveNothingUp some was
  none_then some later was endpoint here there none = by_test (has_given_up (sent_by some) was.post) refl where
    by_test : (b : Bool) → has_given_up (sent_by some) was.post ≡ b → GaveNothingUp some was
    by_test true is =
        absurd (
        let up = stays_up some later was endpoint here there (starts_gone AnyId (Unit {0}) (sent_by some) was (flew some was here) is) in
        let clash : true ≡ false = sym up ∙ none in cc)
    by_test false is = is

  fine : (events : List GatewayEvent) (s : Endpoint) → IsAt events s → GaveNothingUp events s
      → Fine AnyId (Unit {0}) (sent_by events) s.post.restart s.post.pending
  fine events s at none = gave_nothing_up AnyId (Unit {0}) (sent_by events) s (flew events s at) none

  pub serving_then : (some later : List GatewayEvent) (was endpoint : Endpoint) → IsAt some was → IsAt (some ++ later) endpoint
      → GaveNothingUp (some ++ later) endpoint → was.post.restart ≡ Serving
  serving_then some later was endpoint here there none =
      (fine some was here (none_then some later was endpoint here there none)).serving

  pub flies_last : (events : List GatewayEvent) (s : Endpoint) (flight : InFlight) → IsAt events s → GaveNothingUp events s
      → s.post.pending ≡ Some flight → (front : List Begun) × (begun_in (sent_by events) ≡ front ++ flying (Some flight))
  flies_last events s flight at none flies =
      let is = fine events s at none in (
        is.settled,
        is.split ∙ ap (λ (pending : Option InFlight). is.settled ++ flying pending) flies,
      )

-- the commands that began up to this number, which is free
abbrev pub CountedTo : List Sent → ℕ → Type 0
CountedTo sent free = (free < numbers) × ((start : ℕ) × Numbered start (begun_in sent) free)

abbrev pub Counted : List Sent → Endpoint → Type 0
Counted sent endpoint = CountedTo sent endpoint.post.number

abbrev CountedOn : List Sent → Effect Endpoint → Type 0
CountedOn sent turn = Counted (sent ++ turn.sent) turn.value

-- nothing begins
counted_on : (sent more : List Sent) (free : ℕ) → begun_in more ≡ [] → CountedTo sent free → CountedTo (sent ++ more) free
counted_on sent more free none c = (
  c.0,
  (c.1.0, subst (λ (x : List Begun). Numbered c.1.0 x free) (sym (begun_both sent more ∙ ap (λ (x : List Begun). begun_in sent ++ x) none ∙ append-nil (begun_in sent))) c.1.1),
)

next_is : (line number : ℕ) → number < numbers → (number_after line number < numbers) × Follows number (number_after line number)
next_is line number low = by_test (number + 1 == numbers) refl where
  by_test : (b : Bool) → (number + 1 == numbers) ≡ b → ((if b then first_number line else number + 1) < numbers) × Follows number (if b then first_number line else number + 1)
  by_test true e = (let few = first_low line in omega (arith, few), inr (eqb-true (number + 1) numbers e, first_low line))
  by_test false e = (let other = eqb-false (number + 1) numbers e in below number low other, inl refl) where
    below : (n : ℕ) → n < numbers → (n + 1 ≡ numbers → ⊥) → n + 1 < numbers
    below n less never = by_eq (nat_lt (n + 1) numbers) refl where
      by_eq : (b : Bool) → nat_lt (n + 1) numbers ≡ b → n + 1 < numbers
      by_eq true e = ltb-true (n + 1) numbers e
      by_eq false e = absurd (never (let far = ltb-false (n + 1) numbers e in omega (arith, less, far)))

-- one begins
begins_counted : (sent : List Sent) (one : Sent) (b : Begun) (line number : ℕ) → begun_at one ≡ b ∷ [] → b.id ≡ id_on line number → CountedTo sent number → CountedTo (sent ++ one ∷ []) (number_after line number)
begins_counted sent one b line number begins same c =
    let next = next_is line number c.0 in
    let has : HasNumber number b = (c.0, same ∙ ap (λ (x : ℕ). id_on x number) (sym (ap line_of_id same ∙ div-mul-add line numbers number c.0))) in (
      next.0,
      (
        c.1.0,
        subst (λ (x : List Begun). Numbered c.1.0 x (number_after line number)) (sym (begun_both sent (one ∷ []) ∙ ap (λ (x : List Begun). begun_in sent ++ (x ++ [])) begins))
            (numbered_more c.1.0 (begun_in sent) number b (number_after line number) c.1.1 has next.1),
      ),
    )

noted_counted : (setup : Setup) (sent : List Sent) (line moment : ℕ) (endpoint : Endpoint) (done : LineDone) → Counted sent endpoint → CountedOn sent (noted setup line moment endpoint done)
unfolding noted notification
noted_counted setup sent line moment endpoint done c = by_notice done.notice where
  by_notice : (notice : Option Notice) → CountedOn sent (with_notice setup line moment (record endpoint { line = done.line }) notice)
  by_notice None = counted_on sent [] endpoint.post.number refl c
  by_notice (Some notice) = begins_counted sent _ _ line endpoint.post.number refl refl c

resent_counted : (setup : Setup) (sent : List Sent) (line moment : ℕ) (endpoint : Endpoint) → Counted sent endpoint → CountedOn sent (posted endpoint (resent_on setup line moment endpoint.post))
resent_counted setup sent line moment endpoint c = by_pending endpoint.post.pending where
  by_repeat : (flight : InFlight) (repeat : Repeat) → CountedOn sent (posted endpoint (repeated_as repeat setup line moment endpoint.post flight))
  by_repeat flight SentAgain = counted_on sent _ endpoint.post.number refl c
  by_repeat flight GivenUp = counted_on sent [] endpoint.post.number refl c

  by_pending : (pending : Option InFlight) → CountedOn sent (posted endpoint (resent_by pending setup line moment endpoint.post))
  by_pending None = counted_on sent [] endpoint.post.number refl c
  by_pending (Some flight) = by_repeat flight (repeat_of flight moment)

announced_counted : (setup : Setup) (sent : List Sent) (line moment : ℕ) (endpoint : Endpoint) (post : Post) → CountedTo sent post.number
    → CountedOn sent (posted endpoint (announced setup line moment post))
unfolding announced announcement
announced_counted setup sent line moment endpoint post c = begins_counted sent _ _ line post.number refl refl c

announced_on_counted : (setup : Setup) (sent : List Sent) (line moment : ℕ) (endpoint : Endpoint) → Counted sent endpoint
    → CountedOn sent (posted endpoint (announced_on setup line moment endpoint.post))
announced_on_counted setup sent line moment endpoint c = by_restart endpoint.post.restart where
  by_restart : (restart : Restart) → CountedOn sent (posted endpoint (announced_by restart setup line moment endpoint.post))
  by_restart (Waiting until) = announced_counted setup sent line moment endpoint endpoint.post c
  by_restart Announced = counted_on sent [] endpoint.post.number refl c
  by_restart Serving = counted_on sent [] endpoint.post.number refl c

happened_counted : (setup : Setup) (sent : List Sent) (due : DueKind) (line moment : ℕ) (endpoint : Endpoint) → Counted sent endpoint → CountedOn sent (happened_on due setup line moment endpoint)
unfolding happened_on
happened_counted setup sent (OfLine due) line moment endpoint c = noted_counted setup sent line moment endpoint (fired endpoint.line due moment) c
happened_counted setup sent Resend line moment endpoint c = resent_counted setup sent line moment endpoint c
happened_counted setup sent Announce line moment endpoint c = announced_on_counted setup sent line moment endpoint c

responded_counted : (setup : Setup) (sent : List Sent) (line moment : ℕ) (response : Response) (endpoint : Endpoint) → Counted sent endpoint
    → CountedOn sent (responded_on setup line moment response endpoint)
unfolding responded_on replied
responded_counted setup sent line moment response endpoint c = by_heard (heard_on endpoint.post response) where
  by_heard : (heard : Heard) → CountedOn sent (responded_as heard setup line moment response endpoint)
  by_heard Nothing = counted_on sent [] endpoint.post.number refl c
  by_heard PutOff = counted_on sent [] endpoint.post.number refl c
  by_heard (Redirected agent) = announced_counted setup sent line moment endpoint (record endpoint.post { entity = agent }) c
  by_heard (Answered agent) =
      let to : Endpoint = record endpoint { post = record endpoint.post { entity = unwrap_or agent endpoint.post.entity; pending = None; restart = Serving } } in
      noted_counted setup sent line moment to (answered endpoint.line moment) c

deed_counted : (setup : Setup) (sent : List Sent) (deed : Deed) (moment line : ℕ) (endpoint : Endpoint) → Counted sent endpoint → CountedOn sent (deed_on setup deed moment line endpoint)
unfolding deed_on
deed_counted setup sent deed moment line endpoint c =
    noted_counted setup sent line moment (with_connections deed (with_entity deed.entity endpoint)) (asked_if deed.request endpoint.line moment) c

redirected_counted : (sent : List Sent) (agent : Entity) (line : ℕ) (endpoint : Endpoint) → Counted sent endpoint → CountedOn sent (redirected_on agent line endpoint)
unfolding redirected_on
redirected_counted sent agent line endpoint c = counted_on sent [] endpoint.post.number refl c

opened_counted : (setup : Setup) (sent : List Sent) (agent : Option Entity) (moment line : ℕ) (endpoint : Endpoint) → Counted sent endpoint
    → CountedOn sent (opened_on agent setup moment line endpoint)
unfolding opened_on
opened_counted setup sent agent moment line endpoint c = noted_counted setup sent line moment (with_entity agent endpoint) (opened endpoint.line moment) c

-- it is so whatever the course
abbrev pub CountedBeside : Bool → List CourseStep → List Sent → Endpoint → Type 0
CountedBeside serving course sent endpoint = Counted sent endpoint

pub counted_turns : (setup : Setup) → EndpointTurns setup AnyResponse CountedBeside
counted_turns setup = record {
  act = λ serving course sent line moment act endpoint c. noted_counted setup sent line moment endpoint (phoned endpoint.line act moment) c;
  deed = λ course sent deed moment line endpoint c. deed_counted setup sent deed moment line endpoint c;
  response = λ serving course sent line moment response endpoint any c. responded_counted setup sent line moment response endpoint c;
  happening = λ serving course sent line item endpoint is c. happened_counted setup sent item.kind line item.moment endpoint c;
  redirecting = λ serving course sent agent line endpoint c. redirected_counted sent agent line endpoint c;
  opening = λ course sent agent moment line endpoint closed c. opened_counted setup sent agent moment line endpoint c;
  answering = λ serving course sent one endpoint is c. counted_on sent (one ∷ []) endpoint.post.number (answer_begins one is) c;
}

-- So of a line's commands each comes behind the last.
opening_stands : (setup : Setup) (line : ℕ) (some : 1 ≤ line) → Stands setup AnyResponse CountedBeside (counted_turns setup) line some [] [] (opening setup)
opening_stands setup line some = record {
  order = opening_waits setup;
  holds = λ s at.
      of_its_line (λ n endpoint. Counted [] endpoint) (opening setup).endpoints line s
      (on_made (λ n endpoint. Counted [] endpoint) (opening_endpoint setup) 1 setup.names.lines (λ i low high. (omega arith, (setup.first % firsts, refl)))) at;
}

pub line_counted : (setup : Setup) (line : ℕ) → 1 ≤ line → (events : List GatewayEvent) (s : Endpoint) → endpoint_at (plain setup events).endpoints line ≡ Some s
    → Counted (of_line line (sent_of setup events)) s
line_counted setup line some events s at =
    (events_stand setup AnyResponse CountedBeside (counted_turns setup) line some (opening setup) [] [] 0 events (hear_all setup AnyResponse (λ response. tt) (arrivals_of events))
    (opening_stands setup line some)).holds s at
