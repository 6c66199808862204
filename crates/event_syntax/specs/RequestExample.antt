-- What R is read as in the worked examples.
use Rattle.std.specs.Prelude.{ℕ, Bool, true, false, List, [], ◌∷◌, Some, Result, Ok}
use Rattle.event_syntax.specs.declared.events.Events.{Events}
use Rattle.packages.specs.declared.signals.SignalRequest.{SignalRequest}
use Rattle.event_syntax.specs.declared.request.Action.{Action}
use Rattle.event_syntax.specs.declared.request.EmbeddedEvent.{EmbeddedEvent}
use Rattle.event_syntax.specs.declared.request.EmbeddedRequest.{EmbeddedRequest}
use Rattle.event_syntax.specs.declared.request.Reaction.{Reaction}
use Rattle.event_syntax.specs.declared.request.Reaction.TheVariants.{Plain, Embed}
use Rattle.event_syntax.specs.declared.request.RequestedEvent.{RequestedEvent}
use Rattle.mg_bytes.specs.Steps.{◌>>=◌}
use Rattle.event_syntax.specs.Embedding.{nothing_embedded}
use Rattle.event_syntax.specs.Requested.{requested_of, requested_text}

-- an entry that does this, with K and without
abbrev pub does : Events → Action → RequestedEvent
does events action = record { events = events; reaction = Plain action; keep = false }

abbrev pub keeps : Events → Action → RequestedEvent
keeps events action = record { events = events; reaction = Plain action; keep = true }

-- an entry with E alone
abbrev pub inside : EmbeddedRequest → Reaction
inside request = Embed request

abbrev pub embeds : Bool → Events → EmbeddedRequest → RequestedEvent
embeds keep events request = record { events = events; reaction = Embed request; keep = keep }

abbrev pub one_entry : RequestedEvent → Result (List RequestedEvent) ℕ
one_entry entry = Ok (entry ∷ [])

-- embedded requests
abbrev pub nothing : EmbeddedRequest
nothing = nothing_embedded

abbrev pub with_events : List EmbeddedEvent → EmbeddedRequest → EmbeddedRequest
with_events events request = record request { events = events }

abbrev pub with_signals : List SignalRequest → EmbeddedRequest → EmbeddedRequest
with_signals signals request = record request { signals = signals }

abbrev pub with_map : List ℕ → EmbeddedRequest → EmbeddedRequest
with_map text request = record request { map = Some text }

abbrev pub embedded_does : Events → Action → Bool → EmbeddedEvent
embedded_does events action keep = record { events = events; action = action; keep = keep }

-- a value read and written again
abbrev pub as_written : List ℕ → Result (List ℕ) ℕ
as_written value = requested_of value >>= λ list. Ok (requested_text list)
