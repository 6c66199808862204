-- What the course of a line tells is what the commands tell that the line began.
use Rattle.std.proofs.Common.{◌≡◌, ℕ, ◌≤◌, Bool, true, false, ◌==◌, if◌then◌else◌, List, [], ◌∷◌, ◌++◌, Option, Some, None, refl, sym, ap, ◌∙◌, append-nil}
use Rattle.std.specs.Prelude.{flat_map, filter}
use Rattle.std.proofs.lemmas.Grind.{flat_map-append}
use Rattle.std.proofs.lemmas.List.Elements.{filter-append}
use Rattle.mgcp_text.specs.declared.message.Message.TheVariants as messages
use Rattle.mgcp_text.specs.Reading.{Outcome, read_text}
use Rattle.mgcp_text.proofs.RoundLaws.{read_again}
use Rattle.packages.specs.declared.observed.Observed.{Observed}
use Rattle.events_and_signals.specs.declared.request.Request.{Request}
use Rattle.plain_machine.specs.declared.setup.Setup.{Setup}
use Rattle.plain_machine.specs.declared.endpoint.Endpoint.{Endpoint}
use Rattle.plain_machine.specs.Acting.{acted_on}
use Rattle.plain_machine.specs.Arriving.{arrivals_of}
use Rattle.plain_machine.specs.Event.{GatewayEvent}
use Rattle.plain_machine.specs.Falling.{happened_on}
use Rattle.plain_machine.specs.Lists.{plain, sent_of}
use Rattle.plain_machine.specs.Machine.{opening, endpoint_at}
use Rattle.plain_machine.specs.Message.{Begun, Owner, Said, answer, again, command, resent, acknowledgement, Sent}
use Rattle.plain_machine.specs.Posting.{line_of_id}
use Rattle.plain_machine.specs.Requesting.{deed_on}
use Rattle.plain_machine.specs.Responding.{responded_on, redirected_on, opened_on}
use Rattle.machine_laws.specs.Saying.{begun_by, begun_at, begun_in}
use Rattle.machine_laws.proofs.EachLemmas.{Each}
use Rattle.machine_laws.proofs.WaitLaws.{opening_waits}
use Rattle.machine_laws.specs.Belonging.{is_of, of_line}
use Rattle.world_laws.specs.Course.{CourseStep, acts, notified_by, accepted, course_of}
use Rattle.world_laws.specs.Dialled.{told_along}
use Rattle.world_laws.proofs.CourseLemmas.{AnyResponse, EndpointTurns, answer_notifies, events_stand, hear_all}
use Rattle.world_laws.proofs.DialledLemmas.{told_both}
use Rattle.world_laws.proofs.EndpointLemmas.{steps_in}
use Rattle.world_laws.specs.Untaken.{told_as}
use Rattle.world_laws.proofs.WellLemmas.{SaysWell, IsWell}

-- What the notifications among these messages tell

abbrev pub notified : List Sent → List Observed
notified sent = told_along (steps_in sent)

notified_both : (some more : List Sent) → notified (some ++ more) ≡ notified some ++ notified more
notified_both some more =
    ap told_along (flat_map-append (λ (one : Sent). notified_by one.said) some more) ∙ told_both (steps_in some) (steps_in more)

-- the course tells so
abbrev TellsSo : Bool → List CourseStep → List Sent → Endpoint → Type 0
TellsSo serving course sent endpoint = told_along course ≡ notified sent

turn_tells : (course : List CourseStep) (sent more : List Sent) → told_along course ≡ notified sent → told_along (course ++ steps_in more) ≡ notified (sent ++ more)
turn_tells course sent more is = told_both course (steps_in more) ∙ ap (λ (x : List Observed). x ++ notified more) is ∙ sym (notified_both sent more)

-- what else stands in a course tells nothing
added_tells : (course added : List CourseStep) (sent more : List Sent) → told_along added ≡ [] → told_along course ≡ notified sent → told_along ((course ++ added) ++ steps_in more) ≡ notified (sent ++ more)
added_tells course added sent more none is =
    turn_tells (course ++ added) sent more (told_both course added ∙ ap (λ (x : List Observed). told_along course ++ x) none ∙ append-nil (told_along course) ∙ is)

accepted_tells : (request : Option Request) → told_along (accepted request) ≡ []
accepted_tells None = refl
accepted_tells (Some request) = refl

told_turns : (setup : Setup) → EndpointTurns setup AnyResponse TellsSo
told_turns setup = record {
  act = λ serving course sent line moment act endpoint is. added_tells course (acts act ∷ []) sent (acted_on setup line moment act endpoint).sent refl is;
  deed = λ course sent deed moment line endpoint is. added_tells course (accepted deed.request) sent (deed_on setup deed moment line endpoint).sent (accepted_tells deed.request) is;
  response = λ serving course sent line moment response endpoint any is. turn_tells course sent (responded_on setup line moment response endpoint).sent is;
  happening = λ serving course sent line item endpoint due is. turn_tells course sent (happened_on item.kind setup line item.moment endpoint).sent is;
  redirecting = λ serving course sent agent line endpoint is. turn_tells course sent (redirected_on agent line endpoint).sent is;
  opening = λ course sent agent moment line endpoint closed is. turn_tells course sent (opened_on agent setup moment line endpoint).sent is;
  answering = λ serving course sent one endpoint answers is.
      is ∙ sym (notified_both sent (one ∷ []) ∙ ap (λ (x : List CourseStep). notified sent ++ told_along (x ++ [])) (answer_notifies one.said answers) ∙ append-nil (notified sent));
}

pub course_tells : (setup : Setup) (line : ℕ) (some : 1 ≤ line) (events : List GatewayEvent) (endpoint : Endpoint) → endpoint_at (plain setup events).endpoints line ≡ Some endpoint
    → told_along (course_of setup line events) ≡ notified (of_line line (sent_of setup events))
course_tells setup line some events endpoint at =
    (events_stand setup AnyResponse TellsSo (told_turns setup) line some (opening setup) [] [] 0 events (hear_all setup AnyResponse (λ response. tt) (arrivals_of events))
    (record { order = opening_waits setup; holds = λ s here. refl })).holds endpoint at

-- By the texts of the commands that began

abbrev pub told_by : Begun → List Observed
told_by b = told_as (read_text b.text)

said_tells : (setup : Setup) (owner : Owner) (moment : ℕ) (said : Said) → SaysWell setup owner said → told_along (notified_by said) ≡ flat_map told_by (begun_by moment said)
said_tells setup owner moment (command (messages.Command verb id name params body)) well =
    sym (append-nil (told_along (notified_by (command (messages.Command verb id name params body)))))
    ∙ ap (λ (outcome : Outcome). told_as outcome ++ []) (sym (read_again (messages.Command verb id name params body) well.writable))
said_tells setup owner moment (command (messages.Response code id params body)) well = absurd well
said_tells setup owner moment (answer response) well = refl
said_tells setup owner moment (again id text) well = refl
said_tells setup owner moment (resent message) well = refl
said_tells setup owner moment (acknowledgement response) well = refl

pub begun_tell : (setup : Setup) (line : ℕ) (sent : List Sent) → Each (IsWell setup) sent → notified (of_line line sent) ≡ flat_map told_by (begun_in (of_line line sent))
begun_tell setup line [] well = refl
begun_tell setup line (one ∷ sent) well = by_test (is_of line one.owner) (begun_tell setup line sent well.1) where
  by_test : (b : Bool) → notified (of_line line sent) ≡ flat_map told_by (begun_in (of_line line sent))
      → notified (if b then one ∷ of_line line sent else of_line line sent) ≡ flat_map told_by (begun_in (if b then one ∷ of_line line sent else of_line line sent))
  by_test true is =
      told_both (notified_by one.said) (steps_in (of_line line sent))
      ∙ ap (λ (x : List Observed). x ++ notified (of_line line sent)) (said_tells setup one.owner one.moment one.said well.0)
      ∙ ap (λ (x : List Observed). flat_map told_by (begun_at one) ++ x) is
      ∙ sym (flat_map-append told_by (begun_at one) (begun_in (of_line line sent)))
  by_test false is = is

-- The commands of a line are those whose ids are its

abbrev pub is_mine : ℕ → Begun → Bool
is_mine line b = line_of_id b.id == line

none_mine : (b : Bool) → ◌≡◌ {A = List Begun} [] (if b then [] else [])
none_mine true = refl
none_mine false = refl

said_mine : (setup : Setup) (line : ℕ) (owner : Owner) (moment : ℕ) (said : Said) → SaysWell setup owner said
    → filter (is_mine line) (begun_by moment said) ≡ (if is_of line owner then begun_by moment said else [])
said_mine setup line owner moment (command (messages.Command verb id name params body)) well =
    ap (λ (b : Bool). if b then begun_by moment (command (messages.Command verb id name params body)) else []) (ap (λ (n : ℕ). n == line) well.id_of ∙ sym (ap (is_of line) well.owned))
said_mine setup line owner moment (command (messages.Response code id params body)) well = absurd well
said_mine setup line owner moment (answer response) well = none_mine (is_of line owner)
said_mine setup line owner moment (again id text) well = none_mine (is_of line owner)
said_mine setup line owner moment (resent message) well = none_mine (is_of line owner)
said_mine setup line owner moment (acknowledgement response) well = none_mine (is_of line owner)

pub mine_is : (setup : Setup) (line : ℕ) (sent : List Sent) → Each (IsWell setup) sent → filter (is_mine line) (begun_in sent) ≡ begun_in (of_line line sent)
mine_is setup line [] well = refl
mine_is setup line (one ∷ sent) well =
    filter-append (is_mine line) (begun_at one) (begun_in sent)
    ∙ ap (λ (x : List Begun). x ++ filter (is_mine line) (begun_in sent)) (said_mine setup line one.owner one.moment one.said well.0)
    ∙ ap (λ (x : List Begun). (if is_of line one.owner then begun_at one else []) ++ x) (mine_is setup line sent well.1)
    ∙ by_test (is_of line one.owner) where
      by_test : (b : Bool) → (if b then begun_at one else []) ++ begun_in (of_line line sent) ≡ begun_in (if b then one ∷ of_line line sent else of_line line sent)
      by_test true = refl
      by_test false = refl
