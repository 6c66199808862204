-- What is told of the last event that was taken, beside what its texts were: each message that was sent, with its label, and
-- what was given up, both in their order.
use Rattle.std.specs.Prelude.{List, [], ◌∷◌}
use Rattle.plain_machine.specs.declared.setup.Setup.{Setup}
use Rattle.gateway_core.specs.declared.sent.SentMessage.{SentMessage}
use Rattle.plain_machine.specs.declared.given_up.GivenUpCommand.{GivenUpCommand}
use Rattle.plain_machine.specs.Event.{GatewayEvent}
use Rattle.gateway_core.specs.Labelling.{labels_of}
use Rattle.plain_machine.specs.GivingUp.{given_up_with}
use Rattle.plain_machine.specs.Machine.{Machine, opening}
use Rattle.plain_machine.specs.Happening.{effect}

pub record Account : Type 0 where
  pub sent : List SentMessage
  pub given_up : List GivenUpCommand

abbrev pub no_account : Account
no_account = record { sent = []; given_up = [] }

-- of an event that comes to this machine
abbrev pub account_of : Setup → Machine → GatewayEvent → Account
account_of setup m event =
    record { sent = labels_of (effect setup m event).sent; given_up = given_up_with setup m event }

-- of the last of these events, or this where there is none
unfoldable pub account_after : Setup → Machine → Account → List GatewayEvent → Account
account_after setup m was [] = was
account_after setup m was (event ∷ events) =
    account_after setup (effect setup m event).value (account_of setup m event) events

-- from the opening on
abbrev pub last_account : Setup → List GatewayEvent → Account
last_account setup events = account_after setup (opening setup) no_account events
