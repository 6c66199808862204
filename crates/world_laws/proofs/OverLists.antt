-- The laws of whole courses, from the opening on.
use Rattle.std.proofs.Common.{◌≡◌, ◌≢◌, ℕ, zero, suc, ◌+◌, ◌-◌, ◌<◌, ◌≤◌, ◌==◌, Bool, true, false, if◌then◌else◌, List, [], ◌∷◌, ◌++◌, length, Some, None, refl, sym, ap, subst, ◌∙◌, append_assoc, arith}
use Rattle.std.specs.Prelude.{codes, slice_get}
use Rattle.std.proofs.lemmas.Bool.Decides.{Decides-eqb}
use Rattle.packages.specs.declared.observed.Observed.{Observed}
use Rattle.mg_line.specs.Line.{LineState, opening_line}
use Rattle.plain_machine.specs.declared.setup.Setup.{Setup}
use Rattle.plain_machine.specs.declared.endpoint.Endpoint.{Endpoint}
use Rattle.plain_machine.specs.Event.{GatewayEvent}
use Rattle.plain_machine.specs.Happening.{effect}
use Rattle.plain_machine.specs.Lists.{machine_after, plain, sent_of}
use Rattle.plain_machine.specs.Message.{Sent}
use Rattle.plain_machine.specs.Arriving.{arrivals_from, arrivals_of}
use Rattle.machine_laws.specs.Belonging.{of_line}
use Rattle.plain_machine.specs.Machine.{Machine, serves, opening, opening_endpoint, endpoint_at}
use Rattle.machine_laws.proofs.TurnLemmas.{on_made, of_line as of_its_line}
use Rattle.plain_machine.proofs.ListLaws.{machine_on, lines_after}
use Rattle.machine_laws.proofs.OwningLemmas.{place_of}
use Rattle.machine_laws.proofs.WaitLaws.{opening_waits}
use Rattle.world_laws.specs.Course.{CourseStep, acts, accepts, notifies, course_at, course_of, course_from, requests_in}
use Rattle.world_laws.specs.Dialled.{done_in, told_along, IsAskedForAll, IsToldOnce}
use Rattle.world_laws.specs.Keeping.{happened_in}
use Rattle.world_laws.specs.Following.{Follow, AreInStep, OnceFrom, OnceForEach}
use Rattle.world_laws.proofs.OutLemmas.{IsCounted}
use Rattle.world_laws.proofs.CourseLemmas.{AnyResponse, LineGoes, Stands, call_turns, events_stand, hear_all}
use Rattle.world_laws.proofs.DialledLemmas.{Followed, calls_follow, OnceInStep, calls_once, opening_once, BeginsUntouched, calls_begin, opening_begins, calls_count, Told, calls_told, told_from, done_both, told_both}
use Rattle.world_laws.proofs.KeepingLemmas.{happened_both}
use Rattle.world_laws.proofs.ReadingLemmas.{IsReadable, opening_readable}
use Rattle.world_laws.proofs.EndpointLemmas.{Calls}

abbrev IsOpening : ℕ → Endpoint → Type 0
IsOpening line endpoint = endpoint.line ≡ opening_line

opens : (setup : Setup) (line : ℕ) (endpoint : Endpoint) → endpoint_at (opening setup).endpoints line ≡ Some endpoint → endpoint.line ≡ opening_line
opens setup line endpoint at =
    of_its_line IsOpening (opening setup).endpoints line endpoint (on_made IsOpening (opening_endpoint setup) 1 setup.names.lines (λ i low high. refl)) at

abbrev line_sent_of : Setup → ℕ → List GatewayEvent → List Sent
line_sent_of setup line events = of_line line (sent_of setup events)

module _ (setup : Setup) (Q : Bool → List CourseStep → LineState → Type 0) (calls : Calls Q) (line : ℕ) (some : 1 ≤ line) (begins : Q false [] opening_line) where
  opening_stands : Stands setup AnyResponse (LineGoes setup Q) (call_turns setup Q calls) line some [] [] (opening setup)
  opening_stands = record {
    order = opening_waits setup;
    holds = λ s at. record {
      readable = subst IsReadable (sym (opens setup line s at)) opening_readable;
      holds = subst (Q false []) (sym (opens setup line s at)) begins;
    };
  }

  pub always : (events : List GatewayEvent)
      → Stands setup AnyResponse (LineGoes setup Q) (call_turns setup Q calls) line some (course_of setup line events) (line_sent_of setup line events) (plain setup events)
  always events =
      events_stand setup AnyResponse (LineGoes setup Q) (call_turns setup Q calls) line some (opening setup) [] [] 0 events (hear_all setup AnyResponse (λ response. tt) (arrivals_of events)) opening_stands

-- a line that there is has a number from 1 on
numbered : (m : Machine) (line : ℕ) (endpoint : Endpoint) → endpoint_at m.endpoints line ≡ Some endpoint → 1 ≤ line
numbered m line endpoint at = (place_of m.endpoints line endpoint at).0

-- Which request is followed, and how often

pub course_follows : (setup : Setup) (line : ℕ) (events : List GatewayEvent) (endpoint : Endpoint) → endpoint_at (plain setup events).endpoints line ≡ Some endpoint
    → Follow (course_of setup line events)
course_follows setup line events endpoint at =
    let some = numbered (plain setup events) line endpoint at in
    let start : Followed (codes "0") false [] opening_line = record { follow = tt; latest = refl } in
    let all = always setup (Followed (codes "0")) (calls_follow (codes "0")) line some start events in
    (all.holds endpoint at).holds.follow

pub course_once : (setup : Setup) (line : ℕ) (events : List GatewayEvent) (endpoint : Endpoint) → endpoint_at (plain setup events).endpoints line ≡ Some endpoint
    → AreInStep (course_of setup line events) → OnceForEach (course_of setup line events)
course_once setup line events endpoint at in_step =
    let some = numbered (plain setup events) line endpoint at in
    let all = always setup OnceInStep calls_once line some opening_once events in
    ((all.holds endpoint at).holds in_step).once

-- in words: between two notifications stands a request
once_behind : (notified : Bool) (some more : List CourseStep) → OnceFrom notified (some ++ more) → (later : Bool) × OnceFrom later more
once_behind notified [] more once = (notified, once)
once_behind notified (acts act ∷ some) more once = once_behind notified some more once
once_behind notified (accepts request ∷ some) more once = once_behind false some more once
once_behind notified (notifies identifier observed ∷ some) more once = once_behind true some more once.1

some_between : (between after : List CourseStep) (identifier : List ℕ) (observed : List Observed) → OnceFrom true (between ++ notifies identifier observed ∷ after) → requests_in between ≢ []
some_between [] after identifier observed once none = let clash : true ≡ false = once.0 in cc
some_between (acts act ∷ between) after identifier observed once none = some_between between after identifier observed once none
some_between (accepts request ∷ between) after identifier observed once none = cc
some_between (notifies x o ∷ between) after identifier observed once none = let clash : true ≡ false = once.0 in cc

pub once_between : (course before between after : List CourseStep) (x y : List ℕ) (o p : List Observed) → OnceForEach course
    → course ≡ before ++ notifies x o ∷ (between ++ notifies y p ∷ after) → requests_in between ≢ []
once_between course before between after x y o p once is =
    let split : OnceFrom false (before ++ notifies x o ∷ (between ++ notifies y p ∷ after)) = subst (OnceFrom false) is once in
    some_between between after y p (once_behind false before (notifies x o ∷ (between ++ notifies y p ∷ after)) split).1.1

-- What is dialled

pub course_on : (setup : Setup) (m : Machine) (line : ℕ) (es fs : List GatewayEvent)
    → course_from setup m line (es ++ fs) ≡ course_from setup m line es ++ course_from setup (machine_after setup m es) line fs
unfolding course_from machine_after
course_on setup m line [] fs = refl
course_on setup m line (e ∷ es) fs =
    ap (λ (x : List CourseStep). course_at setup m line e ++ x) (course_on setup (effect setup m e).value line es fs)
    ∙ sym (append_assoc (course_at setup m line e) (course_from setup (effect setup m e).value line es) _)

-- where nothing was done before, and nothing told of it
whole_course : (before after : List CourseStep) (line : LineState) → done_in before ≡ [] → happened_in (told_along before) ≡ [] → IsToldOnce after line → IsToldOnce (before ++ after) line
whole_course before after line undone untold once =
    done_both before after ∙ ap (λ (x : List Observed). x ++ done_in after) undone ∙ once
    ∙ ap (λ (x : List Observed). x ++ happened_in line.quarantined.events)
    (sym (ap happened_in (told_both before after) ∙ happened_both (told_along before) (told_along after) ∙ ap (λ (x : List Observed). x ++ happened_in (told_along after)) untold))

-- no line comes or goes

pub get_some : (list : List Endpoint) (place : ℕ) → place < length list → (s : Endpoint) × (slice_get list place ≡ Some s)
get_some [] place low = absurd (omega (arith, low))
get_some (first ∷ list) zero low = (first, refl)
get_some (first ∷ list) (suc place) low = get_some list place (omega (arith, low))

pub endpoint_there : (m : Machine) (line : ℕ) → 1 ≤ line → line < 1 + length m.endpoints.list → (s : Endpoint) × (endpoint_at m.endpoints line ≡ Some s)
endpoint_there m line some low = by_zero (line == 0) refl where
  by_zero : (b : Bool) → (line == 0) ≡ b → (s : Endpoint) × ((if b then None else slice_get m.endpoints.list (line - 1)) ≡ Some s)
  by_zero true e = absurd (let none : line ≡ 0 = (Decides-eqb line 0).0 e in omega (arith, some, none))
  by_zero false e = get_some m.endpoints.list (line - 1) (omega (arith, some, low))

there_before : (setup : Setup) (m : Machine) (line : ℕ) (after : List GatewayEvent) (endpoint : Endpoint) → 1 ≤ line
    → endpoint_at (machine_after setup m after).endpoints line ≡ Some endpoint → (s : Endpoint) × (endpoint_at m.endpoints line ≡ Some s)
there_before setup m line after endpoint some at =
    let place = place_of (machine_after setup m after).endpoints line endpoint at in
    let same = lines_after setup m after in
    endpoint_there m line some (omega (arith, place.1, same))

pub course_told : (setup : Setup) (line : ℕ) (before after : List GatewayEvent) (endpoint : Endpoint) → endpoint_at (plain setup (before ++ after)).endpoints line ≡ Some endpoint
    → IsAskedForAll (course_of setup line before) (course_from setup (plain setup before) line after) endpoint.line
    → IsToldOnce (course_of setup line (before ++ after)) endpoint.line
course_told setup line before after endpoint at asked =
    let some = numbered (plain setup (before ++ after)) line endpoint at in
    let m : Machine = plain setup before in
    let course : List CourseStep = course_from setup m line after in
    let begun = always setup BeginsUntouched calls_begin line some opening_begins before in
    let counted = always setup (λ serving course l. IsCounted l) calls_count line some zero_count before in
    let from : Stands setup AnyResponse (LineGoes setup Told) (call_turns setup Told calls_told) line some [] [] m = record {
      order = begun.order;
      holds = λ s here.
          let b = (begun.holds s here).holds asked.undone in
          record {
            readable = (begun.holds s here).readable;
            holds = told_from (serves m.endpoints) s.line b.untouched (b.keeps asked.asked) (counted.holds s here).holds;
          };
    } in
    let to = events_stand setup AnyResponse (LineGoes setup Told) (call_turns setup Told calls_told) line some m [] [] 0 after (hear_all setup AnyResponse (λ response. tt) (arrivals_from 0 after)) from in
    let there : endpoint_at (machine_after setup m after).endpoints line ≡ Some endpoint =
    ap (λ (n : Machine). endpoint_at n.endpoints line) (sym (machine_on setup (opening setup) before after)) ∙ at in
    let told = ((to.holds endpoint there).holds.once asked.since asked.none_lost).whole in
    let untold : happened_in (told_along (course_of setup line before)) ≡ [] = (let before_it = there_before setup m line after endpoint some there in ((begun.holds before_it.0 before_it.1).holds asked.undone).told) in
    subst (λ (c : List CourseStep). IsToldOnce c endpoint.line) (sym (course_on setup (opening setup) line before after))
    (whole_course (course_of setup line before) course endpoint.line asked.undone untold told) where
      zero_count : IsCounted opening_line
      zero_count = omega arith
