-- A request asks for all where each event by itself is notified.
use Rattle.std.proofs.Common.{◌≡◌, Bool, true, false, List, [], ◌∷◌, refl, ap}
use Rattle.std.specs.List.{list_all}
use Rattle.mg_bytes.specs.declared.letter.Letter.TheVariants as letters
use Rattle.packages.specs.declared.event.LineEvent.{LineEvent}
use Rattle.packages.specs.declared.event.LineEvent.TheVariants as events
use Rattle.event_syntax.specs.declared.request.Action.TheVariants.{Notify, Accumulate, Dial, Ignore}
use Rattle.event_syntax.specs.declared.request.RequestedEvent.{RequestedEvent}
use Rattle.event_syntax.specs.declared.request.Reaction.{Reaction}
use Rattle.event_syntax.specs.declared.request.Reaction.TheVariants.{Plain, Embed, AccumulateAndEmbed}
use Rattle.events_and_signals.specs.Choice.{chosen}
use Rattle.machine_laws.proofs.FitLemmas.{each_passes}
use Rattle.machine_laws.proofs.EachLemmas.{Each}
use Rattle.world_laws.specs.Keeping.{is_of_phone, is_bare, NotifiesAll}

abbrev is_notify : Reaction → Bool
is_notify (Plain Notify) = true
is_notify (Plain Accumulate) = false
is_notify (Plain Dial) = false
is_notify (Plain Ignore) = false
is_notify (Embed request) = false
is_notify (AccumulateAndEmbed request) = false

is_plain : (reaction : Reaction) → is_notify reaction ≡ true → reaction ≡ Plain Notify
is_plain (Plain Notify) e = refl
is_plain (Plain Accumulate) e = absurd cc
is_plain (Plain Dial) e = absurd cc
is_plain (Plain Ignore) e = absurd cc
is_plain (Embed request) e = absurd cc
is_plain (AccumulateAndEmbed request) e = absurd cc

-- what a telephone does, and what it doesn't
abbrev of_phone : List LineEvent
of_phone =
    events.OffHook ∷ events.OnHook ∷ events.Flash ∷ events.Letter letters.Zero ∷ events.Letter letters.One ∷ events.Letter letters.Two ∷ events.Letter letters.Three ∷ events.Letter letters.Four ∷ events.Letter letters.Five ∷ events.Letter letters.Six ∷ events.Letter letters.Seven ∷ events.Letter letters.Eight ∷ events.Letter letters.Nine ∷ events.Letter letters.Star ∷ events.Letter letters.Hash ∷ events.Letter letters.A ∷ events.Letter letters.B ∷ events.Letter letters.C ∷ events.Letter letters.D ∷ []

abbrev of_none : List LineEvent
of_none = events.LineComplete ∷ events.GenericComplete ∷ events.Letter letters.Timer ∷ []

pub notifies_each : (requested : List RequestedEvent) → list_all (λ (event : LineEvent). is_notify (chosen requested event).reaction) of_phone ≡ true
    → list_all (λ (event : LineEvent). is_bare (chosen requested event).reaction) of_none ≡ true → NotifiesAll requested
notifies_each requested phone others = record { phone = by_event each; bare = λ event. by_bare each also event } where
  each : Each (λ (event : LineEvent). is_notify (chosen requested event).reaction ≡ true) of_phone
  each = each_passes (λ (event : LineEvent). is_notify (chosen requested event).reaction) of_phone phone

  also : Each (λ (event : LineEvent). is_bare (chosen requested event).reaction ≡ true) of_none
  also = each_passes (λ (event : LineEvent). is_bare (chosen requested event).reaction) of_none others

  by_event : Each (λ (event : LineEvent). is_notify (chosen requested event).reaction ≡ true) of_phone → (event : LineEvent) → is_of_phone event ≡ true → (chosen requested event).reaction ≡ Plain Notify
  by_event each events.OffHook is = is_plain (chosen requested events.OffHook).reaction each.0
  by_event each events.OnHook is = is_plain (chosen requested events.OnHook).reaction each.1.0
  by_event each events.Flash is = is_plain (chosen requested events.Flash).reaction each.1.1.0
  by_event each (events.Letter letters.Zero) is = is_plain (chosen requested (events.Letter letters.Zero)).reaction each.1.1.1.0
  by_event each (events.Letter letters.One) is = is_plain (chosen requested (events.Letter letters.One)).reaction each.1.1.1.1.0
  by_event each (events.Letter letters.Two) is = is_plain (chosen requested (events.Letter letters.Two)).reaction each.1.1.1.1.1.0
  by_event each (events.Letter letters.Three) is = is_plain (chosen requested (events.Letter letters.Three)).reaction each.1.1.1.1.1.1.0
  by_event each (events.Letter letters.Four) is = is_plain (chosen requested (events.Letter letters.Four)).reaction each.1.1.1.1.1.1.1.0
  by_event each (events.Letter letters.Five) is = is_plain (chosen requested (events.Letter letters.Five)).reaction each.1.1.1.1.1.1.1.1.0
  by_event each (events.Letter letters.Six) is = is_plain (chosen requested (events.Letter letters.Six)).reaction each.1.1.1.1.1.1.1.1.1.0
  by_event each (events.Letter letters.Seven) is = is_plain (chosen requested (events.Letter letters.Seven)).reaction each.1.1.1.1.1.1.1.1.1.1.0
  by_event each (events.Letter letters.Eight) is = is_plain (chosen requested (events.Letter letters.Eight)).reaction each.1.1.1.1.1.1.1.1.1.1.1.0
  by_event each (events.Letter letters.Nine) is = is_plain (chosen requested (events.Letter letters.Nine)).reaction each.1.1.1.1.1.1.1.1.1.1.1.1.0
  by_event each (events.Letter letters.Star) is = is_plain (chosen requested (events.Letter letters.Star)).reaction each.1.1.1.1.1.1.1.1.1.1.1.1.1.0
  by_event each (events.Letter letters.Hash) is = is_plain (chosen requested (events.Letter letters.Hash)).reaction each.1.1.1.1.1.1.1.1.1.1.1.1.1.1.0
  by_event each (events.Letter letters.A) is = is_plain (chosen requested (events.Letter letters.A)).reaction each.1.1.1.1.1.1.1.1.1.1.1.1.1.1.1.0
  by_event each (events.Letter letters.B) is = is_plain (chosen requested (events.Letter letters.B)).reaction each.1.1.1.1.1.1.1.1.1.1.1.1.1.1.1.1.0
  by_event each (events.Letter letters.C) is = is_plain (chosen requested (events.Letter letters.C)).reaction each.1.1.1.1.1.1.1.1.1.1.1.1.1.1.1.1.1.0
  by_event each (events.Letter letters.D) is = is_plain (chosen requested (events.Letter letters.D)).reaction each.1.1.1.1.1.1.1.1.1.1.1.1.1.1.1.1.1.1.0
  by_event each events.LineComplete is = absurd cc
  by_event each events.GenericComplete is = absurd cc
  by_event each (events.Letter letters.Timer) is = absurd cc

  by_bare : Each (λ (event : LineEvent). is_notify (chosen requested event).reaction ≡ true) of_phone → Each (λ (event : LineEvent). is_bare (chosen requested event).reaction ≡ true) of_none
      → (event : LineEvent) → is_bare (chosen requested event).reaction ≡ true
  by_bare each also events.OffHook = ap is_bare (is_plain (chosen requested events.OffHook).reaction each.0)
  by_bare each also events.OnHook = ap is_bare (is_plain (chosen requested events.OnHook).reaction each.1.0)
  by_bare each also events.Flash = ap is_bare (is_plain (chosen requested events.Flash).reaction each.1.1.0)
  by_bare each also (events.Letter letters.Zero) = ap is_bare (is_plain (chosen requested (events.Letter letters.Zero)).reaction each.1.1.1.0)
  by_bare each also (events.Letter letters.One) = ap is_bare (is_plain (chosen requested (events.Letter letters.One)).reaction each.1.1.1.1.0)
  by_bare each also (events.Letter letters.Two) = ap is_bare (is_plain (chosen requested (events.Letter letters.Two)).reaction each.1.1.1.1.1.0)
  by_bare each also (events.Letter letters.Three) = ap is_bare (is_plain (chosen requested (events.Letter letters.Three)).reaction each.1.1.1.1.1.1.0)
  by_bare each also (events.Letter letters.Four) = ap is_bare (is_plain (chosen requested (events.Letter letters.Four)).reaction each.1.1.1.1.1.1.1.0)
  by_bare each also (events.Letter letters.Five) = ap is_bare (is_plain (chosen requested (events.Letter letters.Five)).reaction each.1.1.1.1.1.1.1.1.0)
  by_bare each also (events.Letter letters.Six) = ap is_bare (is_plain (chosen requested (events.Letter letters.Six)).reaction each.1.1.1.1.1.1.1.1.1.0)
  by_bare each also (events.Letter letters.Seven) = ap is_bare (is_plain (chosen requested (events.Letter letters.Seven)).reaction each.1.1.1.1.1.1.1.1.1.1.0)
  by_bare each also (events.Letter letters.Eight) = ap is_bare (is_plain (chosen requested (events.Letter letters.Eight)).reaction each.1.1.1.1.1.1.1.1.1.1.1.0)
  by_bare each also (events.Letter letters.Nine) = ap is_bare (is_plain (chosen requested (events.Letter letters.Nine)).reaction each.1.1.1.1.1.1.1.1.1.1.1.1.0)
  by_bare each also (events.Letter letters.Star) = ap is_bare (is_plain (chosen requested (events.Letter letters.Star)).reaction each.1.1.1.1.1.1.1.1.1.1.1.1.1.0)
  by_bare each also (events.Letter letters.Hash) = ap is_bare (is_plain (chosen requested (events.Letter letters.Hash)).reaction each.1.1.1.1.1.1.1.1.1.1.1.1.1.1.0)
  by_bare each also (events.Letter letters.A) = ap is_bare (is_plain (chosen requested (events.Letter letters.A)).reaction each.1.1.1.1.1.1.1.1.1.1.1.1.1.1.1.0)
  by_bare each also (events.Letter letters.B) = ap is_bare (is_plain (chosen requested (events.Letter letters.B)).reaction each.1.1.1.1.1.1.1.1.1.1.1.1.1.1.1.1.0)
  by_bare each also (events.Letter letters.C) = ap is_bare (is_plain (chosen requested (events.Letter letters.C)).reaction each.1.1.1.1.1.1.1.1.1.1.1.1.1.1.1.1.1.0)
  by_bare each also (events.Letter letters.D) = ap is_bare (is_plain (chosen requested (events.Letter letters.D)).reaction each.1.1.1.1.1.1.1.1.1.1.1.1.1.1.1.1.1.1.0)
  by_bare each also events.LineComplete = also.0
  by_bare each also events.GenericComplete = also.1.0
  by_bare each also (events.Letter letters.Timer) = also.1.1.0
