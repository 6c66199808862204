-- The events of one line alone (RFC 3435, 2.1.1, 2.1.7, 3.2.1.3 and 3.5.5).
use Rattle.std.specs.Prelude.{ℕ, ◌==◌, Bool, false, not, if◌then◌else◌, List, [], ◌∷◌, map, filter, flat_map, Option, Some, None}
use Rattle.mgcp_text.specs.declared.message.Message.TheVariants as messages
use Rattle.mgcp_text.specs.Reading.{Outcome, message, no_header, bad_version, bad_body, read_text}
use Rattle.transmission.specs.Texts.{texts_of}
use Rattle.plain_machine.specs.declared.setup.Setup.{Setup}
use Rattle.plain_machine.specs.Answering.{line_of_name}
use Rattle.plain_machine.specs.Event.{GatewayEvent, datagram, phone, tick}

-- The line that a text is for

-- the line as which its name reads, where it is a command whose name is that of one line
abbrev pub line_read : Setup → Outcome → Option ℕ
line_read setup no_header = None
line_read setup (bad_version id) = None
line_read setup (bad_body id) = None
line_read setup (message (messages.Command verb id name params body)) = line_of_name setup name
line_read setup (message (messages.Response code id params body)) = None

abbrev pub is_another : ℕ → Option ℕ → Bool
is_another line None = false
is_another line (Some other) = not (other == line)

-- it is a command that reads as another line than this; one that reads as no line isn't, nor is a response
abbrev pub is_of_another : Setup → ℕ → List ℕ → Bool
is_of_another setup line text = is_another line (line_read setup (read_text text))

-- What is left of an event: of a datagram that isn't too long one for each of its texts, with the bytes of that text, but
-- for the commands that read as another line; the acts at this line's telephone; and the clock
abbrev pub own_part : Setup → ℕ → GatewayEvent → List GatewayEvent
own_part setup line (datagram source bytes) =
    map (datagram source) (filter (λ text. not (is_of_another setup line text)) (texts_of bytes))
own_part setup line (phone other act) = if other == line then phone other act ∷ [] else []
own_part setup line (tick moment) = tick moment ∷ []

-- the events of this line alone
abbrev pub own_events : Setup → ℕ → List GatewayEvent → List GatewayEvent
own_events setup line events = flat_map (own_part setup line) events
