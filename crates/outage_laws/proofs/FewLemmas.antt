-- What a line has quarantined of its telephone is no more than at first, and what the telephone did since, whatever comes.
use Rattle.std.proofs.Common.{◌≡◌, ℕ, ◌+◌, ◌≤◌, Bool, List, [], ◌∷◌, ◌++◌, length, Some, sym, ap, ◌∙◌, subst, arith}
use Rattle.packages.specs.declared.observed.Observed.{Observed}
use Rattle.mg_line.specs.declared.phone.Act.{Act}
use Rattle.mg_line.specs.Acting.{phoned}
use Rattle.mg_line.specs.Answering.{answered}
use Rattle.mg_line.specs.Falling.{fired}
use Rattle.mg_line.specs.Line.{LineState, opening_line}
use Rattle.mg_line.specs.Opening.{opened}
use Rattle.mg_line.specs.Requesting.{asked}
use Rattle.plain_machine.specs.declared.endpoint.Endpoint.{Endpoint}
use Rattle.plain_machine.specs.declared.setup.Setup.{Setup}
use Rattle.plain_machine.specs.Arriving.{arrivals_from}
use Rattle.plain_machine.specs.Event.{GatewayEvent}
use Rattle.plain_machine.specs.Lists.{plain}
use Rattle.plain_machine.specs.Machine.{Machine, endpoint_at, opening}
use Rattle.plain_machine.proofs.ListLaws.{machine_on}
use Rattle.machine_laws.proofs.WaitLaws.{events_wait}
use Rattle.world_laws.specs.Course.{CourseStep, accepts, acts, course_from}
use Rattle.world_laws.specs.Dialled.{done_in}
use Rattle.world_laws.specs.Rounds.{of_telephone}
use Rattle.world_laws.proofs.CourseLemmas.{AnyResponse, LineGoes, call_turns, events_stand, hear_all, some_same}
use Rattle.world_laws.proofs.DialledLemmas.{calls_count}
use Rattle.world_laws.proofs.EndpointLemmas.{Calls, steps_of}
use Rattle.world_laws.proofs.OutLemmas.{IsCounted, Grows, answered_back, asked_back, back_few, fired_shape, grown, held_in, opened_back, phoned_shape}
use Rattle.world_laws.proofs.OverLists.{always}
use Rattle.world_laws.proofs.RoundTurns.{done_more}

abbrev FewSince : ℕ → Bool → List CourseStep → LineState → Type 0
FewSince most serving course line = length (of_telephone line.quarantined.events) ≤ most + length (done_in course)

-- what came into it
grown_few : (more : ℕ) (was is : List Observed) → Grows more was is → length (of_telephone is) ≤ length (of_telephone was) + more
grown_few more was is grows =
    let g = grown more [] was is grows in
    subst (λ (x : List Observed). length (of_telephone x) ≤ length (of_telephone was) + more) (sym g.order) g.few

-- the course only grows
done_on : (course more : List CourseStep) → length (done_in course) ≤ length (done_in (course ++ more))
done_on course more = (let sum = done_more course more in omega (arith, sum))

done_acted : (course : List CourseStep) (act : Act) (more : List CourseStep) → length (done_in course) + 1 ≤ length (done_in ((course ++ acts act ∷ []) ++ more))
done_acted course act more =
    let one : length (done_in (course ++ acts act ∷ [])) ≡ length (done_in course) + 1 = done_more course (acts act ∷ []) in
    let on : length (done_in (course ++ acts act ∷ [])) ≤ length (done_in ((course ++ acts act ∷ []) ++ more)) = done_on (course ++ acts act ∷ []) more in
    omega (arith, one, on)

one_more : (most was is done all : ℕ) → is ≤ was + 1 → was ≤ most + done → done + 1 ≤ all → is ≤ most + all
one_more most was is done all grows few on = omega (arith, grows, few, on)

no_more : (most was is done all : ℕ) → is ≤ was → was ≤ most + done → done ≤ all → is ≤ most + all
no_more most was is done all less few on = omega (arith, less, few, on)

none_came : (was is : ℕ) → is ≤ was + 0 → is ≤ was
none_came was is few = omega (arith, few)

both_on : (a b c : ℕ) → a ≤ b → b ≤ c → a ≤ c
both_on a b c one two = omega (arith, one, two)

calls_few : (most : ℕ) → Calls (FewSince most)
calls_few most = record {
  act = λ serving course line act moment few.
      one_more most (length (of_telephone line.quarantined.events)) (length (of_telephone (held_in (phoned line act moment)))) (length (done_in course)) _
      (grown_few 1 line.quarantined.events (held_in (phoned line act moment)) (phoned_shape line act moment).grows) few
      (done_acted course act (steps_of (phoned line act moment).notice));
  request = λ course line request moment few.
      no_more most (length (of_telephone line.quarantined.events)) (length (of_telephone (held_in (asked line request moment)))) (length (done_in course)) _
      (back_few line.quarantined.events (held_in (asked line request moment)) (asked_back line request moment)) few
      (both_on (length (done_in course)) (length (done_in (course ++ accepts request ∷ []))) _ (done_on course (accepts request ∷ []))
      (done_on (course ++ accepts request ∷ []) (steps_of (asked line request moment).notice)));
  answering = λ serving course line moment few.
      no_more most (length (of_telephone line.quarantined.events)) (length (of_telephone (held_in (answered line moment)))) (length (done_in course)) _
      (back_few line.quarantined.events (held_in (answered line moment)) (answered_back line moment)) few (done_on course (steps_of (answered line moment).notice));
  serving = λ course line moment few.
      no_more most (length (of_telephone line.quarantined.events)) (length (of_telephone (held_in (opened line moment)))) (length (done_in course)) _
      (back_few line.quarantined.events (held_in (opened line moment)) (opened_back line moment)) few (done_on course (steps_of (opened line moment).notice));
  firing = λ serving course line at due moment is few.
      no_more most (length (of_telephone line.quarantined.events)) (length (of_telephone (held_in (fired line due moment)))) (length (done_in course)) _
      (none_came (length (of_telephone line.quarantined.events)) (length (of_telephone (held_in (fired line due moment))))
      (grown_few 0 line.quarantined.events (held_in (fired line due moment)) (fired_shape line due moment).grows)) few (done_on course (steps_of (fired line due moment).notice));
}

none_yet : (n : ℕ) → n ≤ n + 0
none_yet n = omega arith

pub few_on : (setup : Setup) (line : ℕ) → 1 ≤ line → (some later : List GatewayEvent) (was is : Endpoint) → endpoint_at (plain setup some).endpoints line ≡ Some was
    → endpoint_at (plain setup (some ++ later)).endpoints line ≡ Some is
    → length (of_telephone is.line.quarantined.events) ≤ length (of_telephone was.line.quarantined.events) + length (done_in (course_from setup (plain setup some) line later))
few_on setup line one some later was is at there =
    let most : ℕ = length (of_telephone was.line.quarantined.events) in
    let m : Machine = plain setup some in
    let counted = always setup (λ serving course l. IsCounted l) calls_count line one zero_count some in
    let to = events_stand setup AnyResponse (LineGoes setup (FewSince most)) (call_turns setup (FewSince most) (calls_few most)) line one m [] [] 0 later
    (hear_all setup AnyResponse (λ response. tt) (arrivals_from 0 later)) (record {
      order = events_wait setup some;
      holds = λ s here. record {
        readable = (counted.holds s here).readable;
        holds = subst (λ (e : Endpoint). length (of_telephone e.line.quarantined.events) ≤ most + 0) (some_same was s (sym at ∙ here)) (none_yet most);
      };
    }) in
    (to.holds is (ap (λ (n : Machine). endpoint_at n.endpoints line) (sym (machine_on setup (opening setup) some later)) ∙ there)).holds where
      zero_count : IsCounted opening_line
      zero_count = omega arith
