-- What the code decides, as a choice.
use Rattle.event_syntax.specs.declared.request.Reaction.{Reaction}
use Rattle.event_syntax.specs.declared.request.Reaction.TheVariants as reactions
use Rattle.events_and_signals.specs.declared.decision.Decision.{Decision}
use Rattle.events_and_signals.specs.declared.decision.Doing.{Doing}
use Rattle.events_and_signals.specs.declared.decision.Doing.TheVariants.{Plain, Embed, AccumulateAndEmbed}
use Rattle.events_and_signals.specs.Choice.{Chosen}

abbrev pub reaction_of : Doing → Reaction
reaction_of (Plain action) = reactions.Plain action
reaction_of (Embed embedding) = reactions.Embed embedding.now
reaction_of (AccumulateAndEmbed embedding) = reactions.AccumulateAndEmbed embedding.now

abbrev pub seen : Decision → Chosen
seen decision = record { reaction = reaction_of decision.doing; keep = decision.keep }
