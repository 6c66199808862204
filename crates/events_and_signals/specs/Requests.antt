-- What a line was asked for about its events: R and T (RFC 3435, 2.3.3).
use Rattle.std.specs.Prelude.{List, [], map}
use Rattle.event_syntax.specs.declared.events.Events.{Events}
use Rattle.event_syntax.specs.declared.request.EmbeddedEvent.{EmbeddedEvent}
use Rattle.event_syntax.specs.declared.request.EmbeddedRequest.{EmbeddedRequest}
use Rattle.event_syntax.specs.declared.request.RequestedEvent.{RequestedEvent}
use Rattle.event_syntax.specs.declared.request.Reaction.TheVariants.{Plain}

-- the entries of R and those of T
pub record EventRequests : Type 0 where
  pub requested : List RequestedEvent
  pub detected : List Events

-- nothing was asked for
abbrev pub no_requests : EventRequests
no_requests = record { requested = []; detected = [] }

-- an entry of the R of an embedded request, as one of R
abbrev pub entry_in : EmbeddedEvent → RequestedEvent
entry_in entry = record { events = entry.events; reaction = Plain entry.action; keep = entry.keep }

-- an embedded request replaces R and leaves T
abbrev pub with_embedded : EventRequests → EmbeddedRequest → EventRequests
with_embedded asked request = record asked { requested = map entry_in request.events }
