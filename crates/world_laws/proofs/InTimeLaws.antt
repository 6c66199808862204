-- Over a network that hands each packet over in time a line waits for an answer for twice that time at most.
use Rattle.std.proofs.Common.{◌≡◌, ℕ, ◌+◌, ◌*◌, ◌<◌, ◌≤◌, Bool, true, false, List, [], ◌∷◌, ◌++◌, length, Option, Some, None, refl, sym, ap, ◌∙◌, subst, arith, append_assoc}
use Rattle.std.specs.Prelude.{IfSome, nat_le}
use Rattle.std.proofs.lemmas.Bool.{leb-true, leb-false}
use Rattle.std.proofs.lemmas.List.{length-append}
use Rattle.mg_line.specs.State.TheVariants.{Notification}
use Rattle.retransmission.specs.Flight.{InFlight}
use Rattle.plain_machine.specs.declared.setup.Setup.{Setup}
use Rattle.plain_machine.specs.declared.endpoint.Endpoint.{Endpoint}
use Rattle.plain_machine.specs.Arriving.{arrivals_of}
use Rattle.plain_machine.specs.Event.{GatewayEvent}
use Rattle.plain_machine.specs.Lists.{plain, sent_of}
use Rattle.plain_machine.specs.Machine.{endpoint_at, opening, serves}
use Rattle.plain_machine.specs.Setup.{IsSetUp}
use Rattle.machine_laws.proofs.AnnouncementLaws.{serving_lasts}
use Rattle.machine_laws.proofs.TurnLemmas.{of_line as of_its_line}
use Rattle.plain_machine.specs.Message.{Begun}
use Rattle.machine_laws.proofs.GatewayTurns.{LineStands}
use Rattle.machine_laws.proofs.OwningLemmas.{place_of}
use Rattle.machine_laws.proofs.PostLogs.{InLog}
use Rattle.machine_laws.proofs.WaitLaws.{opening_waits}
use Rattle.machine_laws.specs.Belonging.{of_line}
use Rattle.world_laws.proofs.CourseLemmas.{AnyResponse, events_stand, hear_all}
use Rattle.agent_core.specs.World.{World, WorldStep, gateway_in, now_in, plain_world, steps_are_taken, world_opening}
use Rattle.world_laws.specs.Reached.{own_in}
use Rattle.world_laws.proofs.LinkLaws.{world_linked}
use Rattle.world_laws.specs.GivenUp.{has_given_up}
use Rattle.world_laws.proofs.WorldLemmas.{began_more, line_began, line_sent}
use Rattle.world_laws.specs.Fairness.{AgentAlwaysHasRoom, GoesToAgent, IsFair, ReachTheAgent}
use Rattle.world_laws.specs.Rounds.{IsAnsweredWithin, IsAwaited}
use Rattle.world_laws.proofs.AnsweredLaws.{over_since}
use Rattle.world_laws.proofs.BroughtLaws.{HandsOver}
use Rattle.world_laws.proofs.FairLaws.{fair_front, IsBefore, stays_found}
use Rattle.world_laws.proofs.FirstBroughtLaws.{IsBroughtThen, brought_then, own_of_line}
use Rattle.world_laws.proofs.FirstSendLemmas.{PostedThen}
use Rattle.world_laws.proofs.TakenLaws.{TookThem, own_stays, took_them}
use Rattle.world_laws.proofs.NumberTurns.{flies_last, none_then, serving_then}
use Rattle.world_laws.proofs.LineLaws.{of_its_line as its_line}
use Rattle.world_laws.proofs.ReturnedLaws.{IsReturned, returned_behind}
use Rattle.world_laws.proofs.PostedFinal.{taken_front}
use Rattle.world_laws.proofs.WaitingTurns.{HasFlight, HasOnceServing, has_turns}

-- In a world: what is in flight was first sent in twice the time

not_before : (first within now : ℕ) → first + 2 * within < now → first + within + (within + 1) ≤ now
not_before first within now late = omega (arith, late)

there_late : (first within now : ℕ) → first + within + (within + 1) ≤ now → first + (within + 1) ≤ now
there_late first within now late = omega (arith, late)

-- what begins a beginning begins the whole
before_on : (a b c : List WorldStep) → IsBefore a b → IsBefore b c → IsBefore a c
before_on a b c one two =
    (one.0 ++ two.0, two.1 ∙ ap (λ (x : List WorldStep). x ++ two.0) one.1 ∙ append_assoc a one.0 two.0)

module _ (setup : Setup) (first later : List WorldStep) (within line : ℕ) (endpoint : Endpoint) (flight : InFlight) (set_up : IsSetUp setup)
    (taken : steps_are_taken setup world_opening (first ++ later) ≡ true) (fair : IsFair setup (first ++ later) within)
    (roomy : AgentAlwaysHasRoom setup (first ++ later)) (reach : ReachTheAgent setup (first ++ later) line)
    (at : endpoint_at (gateway_in setup (plain_world setup first)).endpoints line ≡ Some endpoint)
    (flies : endpoint.post.pending ≡ Some flight)
    (none : has_given_up (line_sent setup line (plain_world setup first).gateway_took) endpoint.post ≡ false) where
  abbrev w : World
  w = plain_world setup first

  front_taken : steps_are_taken setup world_opening first ≡ true
  front_taken = taken_front setup world_opening first later taken

  in_log : InLog (now_in setup w) (own_in setup w) flight
  in_log =
      subst (λ (pending : Option InFlight). IfSome pending (InLog (now_in setup w) (own_in setup w))) flies
      (of_its_line (λ i e. LineStands setup (now_in setup w) (own_in setup w) i e) (gateway_in setup w).endpoints line endpoint (world_linked setup first set_up front_taken).links.gateway.stands.list at).post.flight

  -- the command that it is: the last one that the line began
  abbrev b : Begun
  b = record { id = flight.id; moment = flight.first; text = flight.text }

  last : (front : List Begun) × (line_began setup line first ≡ front ++ b ∷ [])
  last = flies_last setup line (place_of (gateway_in setup w).endpoints line endpoint at).0 w.gateway_took endpoint flight at none flies

  reaches : GoesToAgent setup (plain_world setup (first ++ later)) b.text
  reaches =
      reach b (own_stays setup first later b (own_of_line setup line first last.0 b last.1))
      (its_line setup w line endpoint flight at flies)

  more : (before rest : List WorldStep) → first ≡ before ++ rest → first ++ later ≡ before ++ (rest ++ later)
  more before rest order = ap (λ (x : List WorldStep). x ++ later) order ∙ append_assoc before rest later

  -- behind the step at which it began the line began no more
  no_more : (began : PostedThen setup line first b) (steps : List WorldStep) → IsBefore (began.some ++ began.step ∷ []) steps
      → length (line_began setup line first) ≤ length (line_began setup line steps)
  no_more began steps behind =
      let then_began = line_began setup line (began.some ++ began.step ∷ []) in
      let more = began_more setup line (began.some ++ began.step ∷ []) behind.0 in
      let sum = length-append then_began more.0 in
      subst (λ (s : List WorldStep). length (line_began setup line first) ≤ length (line_began setup line s)) (sym behind.1)
      (subst (λ (x : List Begun). length (line_began setup line first) ≤ length x) (sym more.1)
      (subst (λ (x : List Begun). length x ≤ length (then_began ++ more.0)) began.all (omega (arith, sum))))

  -- so an answer that came since leaves no command with its id in flight
  over : (began : PostedThen setup line first b) (back : IsReturned setup first b)
      → IsBefore (began.some ++ began.step ∷ []) back.before → ⊥
  over began back behind =
      let final = back.plain back.reads.code back.reads.params back.reads.body back.reads.reads in
      over_since setup back.before back.later back.number back.text back.reads.code b.id back.reads.params back.reads.body line endpoint
      flight set_up (subst (λ (s : List WorldStep). steps_are_taken setup world_opening s ≡ true) back.order front_taken) back.copy
      back.reads.reads final.0 final.1
      (subst (λ (s : List WorldStep). endpoint_at (gateway_in setup (plain_world setup s)).endpoints line ≡ Some endpoint) back.order at)
      flies (subst (λ (s : List WorldStep). length (line_began setup line s) ≤ length (line_began setup line back.before)) back.order
      (no_more began back.before behind)) refl

  late : flight.first + 2 * within < now_in setup w → ⊥
  late now = over brought.began back.0 (before_on began_by brought.is.there.before back.0.before brought.behind back.1) where
    hands_over : HandsOver setup first (within + 1) within
    hands_over = fair_front setup first later within taken fair

    back_late : b.moment + within + (within + 1) ≤ now_in setup w
    back_late = not_before b.moment within (now_in setup w) now

    brought : IsBroughtThen setup line first within b
    brought =
        brought_then setup line first (within + 1) within last.0 b set_up front_taken hands_over
        (λ before rest order. roomy before (rest ++ later) (more before rest order)) last.1
        (λ number post found. reaches number post (stays_found setup 0 first later number post found))
        (there_late b.moment within (now_in setup w) back_late)

    began_by : List WorldStep
    began_by = brought.began.some ++ brought.began.step ∷ []

    back : (back : IsReturned setup first b) × IsBefore brought.is.there.before back.before
    back = returned_behind setup first (within + 1) within b front_taken hands_over back_late brought.is

  pub awaited : IsAwaited (now_in setup w) (2 * within) endpoint.post.pending
  awaited = record { flight = flight; flies = flies; sent = in_log.past; lately = by_test (nat_le (now_in setup w) (flight.first + 2 * within)) refl } where
    by_test : (x : Bool) → nat_le (now_in setup w) (flight.first + 2 * within) ≡ x → now_in setup w ≤ flight.first + 2 * within
    by_test true low = leb-true (now_in setup w) (flight.first + 2 * within) low
    by_test false high = absurd (late (leb-false (now_in setup w) (flight.first + 2 * within) high))

-- Something is in flight while a line of a gateway that serves waits

pub has_flight : (setup : Setup) (line : ℕ) → 1 ≤ line → (events : List GatewayEvent) (s : Endpoint) → endpoint_at (plain setup events).endpoints line ≡ Some s → serves (plain setup events).endpoints ≡ true
    → HasFlight s
has_flight setup line one events s at serving =
    (events_stand setup AnyResponse HasOnceServing (has_turns setup) line one (opening setup) [] [] 0 events (hear_all setup AnyResponse (λ response. tt) (arrivals_of events)) (record {
      order = opening_waits setup;
      holds = λ x there. λ is. absurd (let clash : false ≡ true = is in cc);
    })).holds s at serving

-- Whenever the line waits for an answer it did for that long at most.
pub waits_in_time : (setup : Setup) (steps : List WorldStep) (within line : ℕ) (some later : List GatewayEvent) (endpoint : Endpoint) → IsSetUp setup → steps_are_taken setup world_opening steps ≡ true
    → let w = plain_world setup steps in IsFair setup steps within → AgentAlwaysHasRoom setup steps → ReachTheAgent setup steps line
    → w.gateway_took ≡ some ++ later → serves (plain setup some).endpoints ≡ true
    → endpoint_at (gateway_in setup w).endpoints line ≡ Some endpoint
    → has_given_up (of_line line (sent_of setup w.gateway_took)) endpoint.post ≡ false → IsAnsweredWithin setup line some later (2 * within)
waits_in_time setup steps within line some later endpoint set_up taken fair roomy reach took serving there none = waits where
  w : World
  w = plain_world setup steps

  one : 1 ≤ line
  one = (place_of (gateway_in setup w).endpoints line endpoint there).0

  whole : (front rest : List GatewayEvent) → later ≡ front ++ rest → w.gateway_took ≡ (some ++ front) ++ rest
  whole front rest order = took ∙ ap (λ (x : List GatewayEvent). some ++ x) order ∙ sym (append_assoc some front rest)

  at_last : (front rest : List GatewayEvent) → later ≡ front ++ rest
      → endpoint_at (plain setup ((some ++ front) ++ rest)).endpoints line ≡ Some endpoint
  at_last front rest order =
      subst (λ (x : List GatewayEvent). endpoint_at (plain setup x).endpoints line ≡ Some endpoint) (whole front rest order) there

  none_at_last : (front rest : List GatewayEvent) → later ≡ front ++ rest
      → has_given_up (line_sent setup line ((some ++ front) ++ rest)) endpoint.post ≡ false
  none_at_last front rest order =
      subst (λ (x : List GatewayEvent). has_given_up (line_sent setup line x) endpoint.post ≡ false) (whole front rest order) none

  met : (front rest : List GatewayEvent) → later ≡ front ++ rest → TookThem setup world_opening steps (some ++ front)
  met front rest order = took_them setup steps (some ++ front) rest (whole front rest order)

  by_pending : (front rest : List GatewayEvent) (s : Endpoint) → later ≡ front ++ rest → endpoint_at (plain setup (some ++ front)).endpoints line ≡ Some s → s.line.state ≡ Notification
      → (pending : Option InFlight) → s.post.pending ≡ pending → IsAwaited (plain setup (some ++ front)).now (2 * within) s.post.pending
  by_pending front rest s order at waits None flies =
      absurd (has_flight setup line one (some ++ front) s at (serving_lasts setup some front serving) waits
      (serving_then setup line one (some ++ front) rest s endpoint at (at_last front rest order) (none_at_last front rest order)) flies)
  by_pending front rest s order at waits (Some flight) flies =
      let t = met front rest order in
      subst (λ (x : List GatewayEvent). IsAwaited (plain setup x).now (2 * within) s.post.pending) t.took
      (awaited setup t.first t.later within line s flight set_up (subst (λ (x : List WorldStep). steps_are_taken setup world_opening x ≡ true) t.order taken)
      (subst (λ (x : List WorldStep). IsFair setup x within) t.order fair)
      (subst (AgentAlwaysHasRoom setup) t.order roomy) (subst (λ (x : List WorldStep). ReachTheAgent setup x line) t.order reach)
      (subst (λ (x : List GatewayEvent). endpoint_at (plain setup x).endpoints line ≡ Some s) (sym t.took) at) flies
      (subst (λ (x : List GatewayEvent). has_given_up (line_sent setup line x) s.post ≡ false) (sym t.took)
      (none_then setup line one (some ++ front) rest s endpoint at (at_last front rest order) (none_at_last front rest order))))

  waits : IsAnsweredWithin setup line some later (2 * within)
  waits = λ front rest s order at is. by_pending front rest s order at is s.post.pending refl
