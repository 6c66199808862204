-- What is given up: a command of the gateway's own that nobody answered (RFC 3435, 4.3).
use Rattle.std.specs.Prelude.{ℕ, zero, suc, ◌==◌, if◌then◌else◌, List, [], Option, Some, None, option_map, option_and_then}
use Rattle.std.specs.List.{cons_option}
use Rattle.retransmission.specs.declared.repeat.Repeat.{Repeat}
use Rattle.retransmission.specs.declared.repeat.Repeat.TheVariants as repeats
use Rattle.retransmission.specs.Flight.{InFlight, repeat_of}
use Rattle.timers.specs.declared.kind.DueKind.{DueKind}
use Rattle.timers.specs.declared.kind.DueKind.TheVariants.{OfLine, Resend, Announce}
use Rattle.timers.specs.declared.due_item.DueItem.{DueItem}
use Rattle.plain_machine.specs.declared.post.Post.{Post}
use Rattle.plain_machine.specs.declared.setup.Setup.{Setup}
use Rattle.plain_machine.specs.declared.given_up.GivenUpCommand.{GivenUpCommand}
use Rattle.plain_machine.specs.Event.{GatewayEvent, datagram, phone, tick}
use Rattle.plain_machine.specs.Labelling.{own_verb}
use Rattle.plain_machine.specs.Machine.{Machine, Endpoints, endpoint_at}
use Rattle.plain_machine.specs.Falling.{due_by, happened, room}

-- a command in flight that falls due at this moment: it is sent again, or given up
abbrev pub given_up_as : Repeat → ℕ → ℕ → InFlight → Option GivenUpCommand
given_up_as repeats.Sent line moment message = None
given_up_as repeats.GivenUp line moment message =
    Some (record { line = line; id = message.id; verb = own_verb message.text; moment = moment })

abbrev pub given_up_if : ℕ → ℕ → InFlight → Option GivenUpCommand
given_up_if line moment message = given_up_as (repeat_of message moment) line moment message

-- what is given up under a post where this falls due: its command alone can be
abbrev pub given_up_under : DueKind → ℕ → ℕ → Post → Option GivenUpCommand
given_up_under (OfLine due) line moment post = None
given_up_under Resend line moment post = option_and_then (given_up_if line moment) post.pending
given_up_under Announce line moment post = None

-- the post of the line with this number, if there is one, or of the gateway itself, which is line 0
abbrev pub post_at : Endpoints → ℕ → Option Post
post_at endpoints line =
    if line == 0 then Some endpoints.own else option_map (λ endpoint. endpoint.post) (endpoint_at endpoints line)

abbrev pub given_up_at : Endpoints → DueItem → Option GivenUpCommand
given_up_at endpoints item = option_and_then (given_up_under item.kind item.line item.moment) (post_at endpoints item.line)

-- Up to a moment, in the order in which it falls due

abbrev pub given_up_on : Option DueItem → Setup → Endpoints → (Endpoints → List GivenUpCommand) → List GivenUpCommand
given_up_on None setup endpoints next = []
given_up_on (Some item) setup endpoints next =
    cons_option (given_up_at endpoints item) (next (happened setup endpoints item).value)

-- of so many things that fall due, and no more
unfoldable pub given_up_of : ℕ → Setup → Endpoints → ℕ → List GivenUpCommand
given_up_of zero setup endpoints moment = []
given_up_of (suc n) setup endpoints moment =
    given_up_on (due_by endpoints moment) setup endpoints (λ next. given_up_of n setup next moment)

-- More can't fall due. The law `what_is_given_up_is_told_in_its_order` says so without a number.
unfoldable pub given_up_until : Setup → Endpoints → ℕ → List GivenUpCommand
given_up_until setup endpoints moment = given_up_of (room endpoints moment) setup endpoints moment

-- at an event: nothing but a tick makes anything fall due
unfoldable pub given_up_with : Setup → Machine → GatewayEvent → List GivenUpCommand
given_up_with setup m (datagram source bytes) = []
given_up_with setup m (phone line act) = []
given_up_with setup m (tick moment) = given_up_until setup m.endpoints moment
