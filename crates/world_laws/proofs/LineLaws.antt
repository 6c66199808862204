-- The answer to its command lets a line go on, and the gateway serve.
use Rattle.std.proofs.Common.{◌≡◌, ◌≢◌, ℕ, Bool, true, false, ◌==◌, if◌then◌else◌, Option, Some, None, refl, sym, subst}
use Rattle.std.specs.Prelude.{IfSome}
use Rattle.std.proofs.lemmas.Bool.{eqb-true}
use Rattle.endpoint_names.specs.declared.entity.Entity.{Entity}
use Rattle.mg_line.specs.State.TheVariants.{Notification}
use Rattle.retransmission.specs.declared.reply.Reply.{Reply}
use Rattle.retransmission.specs.Flight.{InFlight}
use Rattle.retransmission.specs.declared.restart.Restart.{Restart}
use Rattle.retransmission.specs.declared.restart.Restart.TheVariants.{Waiting, Announced, Serving}
use Rattle.retransmission.specs.declared.heard.Heard.{Heard}
use Rattle.retransmission.specs.declared.heard.Heard.TheVariants.{Answered, Redirected}
use Rattle.retransmission.specs.Restarting.{answer_of, heard_of}
use Rattle.plain_machine.specs.declared.post.Post.{Post}
use Rattle.plain_machine.specs.declared.response.Response.{Response}
use Rattle.plain_machine.specs.declared.setup.Setup.{Setup}
use Rattle.plain_machine.specs.declared.endpoint.Endpoint.{Endpoint}
use Rattle.plain_machine.specs.Announcing.{heard_by, heard_on}
use Rattle.plain_machine.specs.Flights.{Waits}
use Rattle.plain_machine.specs.Machine.{endpoint_at}
use Rattle.plain_machine.specs.Posting.{line_of_id}
use Rattle.machine_laws.proofs.FlightLaws.{waits_for_the_answer}
use Rattle.agent_core.specs.World.{World, gateway_in}
use Rattle.world_laws.specs.Landing.{is_final}
use Rattle.world_laws.proofs.QuietLemmas.{is_answer}

-- What the answer is

-- any answer but 521
abbrev pub IsAnswered : Heard → Type 0
IsAnswered heard = (agent : Option Entity) × (heard ≡ Answered agent)

answered_by : (restart : Restart) (code : ℕ) (entity : Option Entity) → code ≢ 521 → IsAnswered (answer_of restart code entity)
answered_by (Waiting until) code entity other = (None, refl)
answered_by Serving code entity other = (None, refl)
answered_by Announced code None other = (None, refl)
answered_by Announced code (Some entity) other = by_code (code == 521) refl where
  by_code : (b : Bool) → (code == 521) ≡ b → IsAnswered (if b then Redirected entity else Answered (Some entity))
  by_code true same = absurd (other (eqb-true code 521 same))
  by_code false far = (Some entity, refl)

pub heard_is : (post : Post) (response : Response) (flight : InFlight) → post.pending ≡ Some flight → flight.id ≡ response.id → is_final response.code ≡ true → response.code ≢ 521
    → IsAnswered (heard_on post response)
heard_is post response flight flies same final other =
    subst (λ (pending : Option InFlight). IsAnswered (heard_by pending post.restart response)) (sym flies)
    (subst (λ (reply : Reply). IsAnswered (heard_of post.restart reply response.code response.entity)) (sym (is_answer flight response.id response.code same final))
    (answered_by post.restart response.code response.entity other))

-- In a world

pub of_its_line : (setup : Setup) (w : World) (line : ℕ) (endpoint : Endpoint) (flight : InFlight) → endpoint_at (gateway_in setup w).endpoints line ≡ Some endpoint → endpoint.post.pending ≡ Some flight
    → line_of_id flight.id ≡ line
of_its_line setup w line endpoint flight at flies =
    let waits : Waits line endpoint = waits_for_the_answer setup w.gateway_took line endpoint at in
    (subst (λ (pending : Option InFlight). IfSome pending (λ f. (endpoint.line.state ≡ Notification) × (line_of_id f.id ≡ line))) flies waits).1
