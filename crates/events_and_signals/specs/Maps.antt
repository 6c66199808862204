-- Whether a request needs a digit map that isn't there (RFC 3435, 2.3.3: return code 519).
use Rattle.std.specs.Prelude.{Bool, true, false, ◌&&◌, ◌||◌, not, List}
use Rattle.std.specs.List.{list_any}
use Rattle.std.specs.Option.{is_some}
use Rattle.event_syntax.specs.declared.request.Action.{Action}
use Rattle.event_syntax.specs.declared.request.Action.TheVariants.{Notify, Accumulate, Dial, Ignore}
use Rattle.event_syntax.specs.declared.request.EmbeddedRequest.{EmbeddedRequest}
use Rattle.event_syntax.specs.declared.request.RequestedEvent.{RequestedEvent}
use Rattle.event_syntax.specs.declared.request.Reaction.{Reaction}
use Rattle.event_syntax.specs.declared.request.Reaction.TheVariants.{Plain, Embed, AccumulateAndEmbed}

-- an action treats the event by the digit map
abbrev pub is_dial : Action → Bool
is_dial Dial = true
is_dial Notify = false
is_dial Accumulate = false
is_dial Ignore = false

-- an embedded request has a map where one is given in it, or else known before it
abbrev pub embedded_lacks_map : Bool → EmbeddedRequest → Bool
embedded_lacks_map known request =
    not (is_some request.map || known) && list_any (λ entry. is_dial entry.action) request.events

abbrev pub reaction_lacks_map : Bool → Reaction → Bool
reaction_lacks_map known (Plain action) = not known && is_dial action
reaction_lacks_map known (Embed request) = embedded_lacks_map known request
reaction_lacks_map known (AccumulateAndEmbed request) = embedded_lacks_map known request

-- whether some entry, or one in a request that is embedded there, wants a digit map where none is known
unfoldable pub lacks_map : Bool → List RequestedEvent → Bool
lacks_map known requested = list_any (λ entry. reaction_lacks_map known entry.reaction) requested
