-- What is counted in the worked examples.
use Rattle.std.specs.Prelude.{[], ◌∷◌}
use Rattle.mgcp_text.specs.declared.message.Verb.TheVariants.{Ntfy, Rsip}
use Rattle.plain_machine.specs.declared.given_up.GivenUpCommand.{GivenUpCommand}
use Rattle.gateway_core.specs.declared.sent.SentMessage.{SentMessage}
use Rattle.plain_machine.specs.declared.label.What.{What}
use Rattle.plain_machine.specs.declared.label.Whose.TheVariants.{Nobody}
use Rattle.plain_machine.specs.Example.{agent}
use Rattle.message_counts.specs.SentCounting.{Tally, no_tally, with_sent}

-- a message to the agent at 1,000 that is this
abbrev pub said : What → SentMessage
said what = record { to = agent; moment = 1000; label = record { whose = Nobody; what = what; id = 7 }; size = 0 }

-- what is counted where this alone was sent
abbrev pub counted_once : What → Tally
counted_once what = with_sent no_tally (said what ∷ [])

-- a notification of line 1 that was given up
abbrev pub lost : GivenUpCommand
lost = record { line = 1; id = 10000000; verb = Ntfy; moment = 24500 }

-- an announcement of the gateway itself that was
abbrev pub announcement : GivenUpCommand
announcement = record { line = 0; id = 1; verb = Rsip; moment = 24500 }
