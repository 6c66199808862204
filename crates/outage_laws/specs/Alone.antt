-- What a gateway sends of its own, whoever its agent is and whatever the network does: by the events that it took (RFC 3435, 3.5.3).
use Rattle.std.specs.Prelude.{◌≡◌, ◌≢◌, ◌≤◌, ℕ, List, Any, None, Option}
use Rattle.retransmission.specs.Flight.{InFlight}
use Rattle.retransmission.specs.declared.restart.Restart.{Restart}
use Rattle.retransmission.specs.declared.restart.Restart.TheVariants.{Announced, Serving, Waiting}
use Rattle.plain_machine.specs.declared.setup.Setup.{Setup}
use Rattle.plain_machine.specs.Arriving.{TextArrival, arrivals_of}
use Rattle.plain_machine.specs.Event.{GatewayEvent}
use Rattle.plain_machine.specs.Lists.{sent_of}
use Rattle.plain_machine.specs.Message.{Begun, Sent, text_of}
use Rattle.machine_laws.specs.Belonging.{of_line}
use Rattle.machine_laws.specs.Saying.{begun_in}
use Rattle.world_laws.specs.OwnChances.{IsResponse}

-- a line began this command, a notification or its announcement; or the gateway itself did, as line 0, an announcement
abbrev pub HasBegun : Setup → List GatewayEvent → ℕ → Begun → Type 0
HasBegun setup events line b = Any (λ (one : Begun). one ≡ b) (begun_in (of_line line (sent_of setup events)))

-- a response with this id came (RFC 3435, 3.2.1.2)
abbrev pub HasResponse : List GatewayEvent → ℕ → Type 0
HasResponse events id = Any (λ (a : TextArrival). IsResponse id a.outcome) (arrivals_of events)

-- the line sent this text at this moment
abbrev pub IsSentAt : Setup → List GatewayEvent → ℕ → List ℕ → ℕ → Type 0
IsSentAt setup events line text moment =
    Any (λ (one : Sent). (text_of one.said ≡ text) × (one.moment ≡ moment)) (of_line line (sent_of setup events))

-- The same behind some events

-- A line announces itself, unless it has its agent: its announcement is in flight, or falls due by then (RFC 3435, 4.4.7)
abbrev pub AnnouncesBy : Restart → Option InFlight → ℕ → Type 0
AnnouncesBy (Waiting until) pending by = until ≤ by
AnnouncesBy Announced pending by = pending ≢ None
AnnouncesBy Serving pending by = Unit {0}
