-- What falls due: on a line the end of timer T and the ends of signals; and of it and of the gateway itself the repeats of
-- the command that is in flight, and the announcement, each at its own moment (RFC 3435, 2.1.5, 2.1.7, 3.5.3 and 4.4.6).
use Rattle.std.specs.Prelude.{ℕ, ◌+◌, ◌*◌, ◌==◌, zero, suc, if◌then◌else◌, Bool, length, fold, Option, Some, None, is_some, option_map, option_and_then}
use Rattle.timers.specs.declared.kind.LineDue.{LineDue}
use Rattle.mg_line.specs.Falling.{due_of, fired}
use Rattle.retransmission.specs.Flight.{InFlight}
use Rattle.retransmission.specs.Restarting.{announced_at}
use Rattle.timers.specs.declared.kind.DueKind.{DueKind}
use Rattle.timers.specs.declared.kind.DueKind.TheVariants.{OfLine, Resend, Announce}
use Rattle.timers.specs.declared.due_item.DueItem.{DueItem}
use Rattle.timers.specs.Order.{earlier}
use Rattle.plain_machine.specs.declared.post.Post.{Post}
use Rattle.plain_machine.specs.declared.setup.Setup.{Setup}
use Rattle.plain_machine.specs.declared.endpoint.Endpoint.{Endpoint}
pub use Rattle.machine_rules.specs.Falling.{if_by}
use Rattle.plain_machine.specs.Effect.{Effect, silently, afterwards}
use Rattle.plain_machine.specs.Posting.{resent_on}
use Rattle.plain_machine.specs.Announcing.{announced_on}
use Rattle.plain_machine.specs.Notifying.{posted, noted}
use Rattle.plain_machine.specs.Machine.{Endpoints, endpoint_at, on_either, numbered}

-- What falls due first

abbrev pub line_item : ℕ → ℕ × LineDue → DueItem
line_item line first = record { moment = first.0; line = line; kind = OfLine first.1 }

abbrev pub command_item : ℕ → InFlight → DueItem
command_item line message = record { moment = message.due; line = line; kind = Resend }

abbrev pub announcement_item : ℕ → ℕ → DueItem
announcement_item line moment = record { moment = moment; line = line; kind = Announce }

-- what falls due first of a post: its command, and then its announcement
unfoldable pub post_due : ℕ → Post → Option DueItem
post_due line post =
    earlier (option_map (command_item line) post.pending) (option_map (announcement_item line) (announced_at post.restart))

-- what falls due first on a line: of several at one moment, that of its post comes last (this gateway's profile)
unfoldable pub due_on : ℕ × Endpoint → Option DueItem
due_on one = earlier (option_map (line_item one.0) (due_of one.1.line)) (post_due one.0 one.1.post)

-- what falls due first of the line with this number, if there is one, or of the gateway itself, which is line 0
abbrev pub due_at : Endpoints → ℕ → Option DueItem
due_at endpoints line =
    if line == 0 then post_due 0 endpoints.own
    else option_and_then (λ endpoint. due_on (line, endpoint)) (endpoint_at endpoints line)

-- what falls due first of all: the earliest, and of several as early that of the least line
unfoldable pub first_due : Endpoints → Option DueItem
first_due endpoints = fold (λ first one. earlier first (due_on one)) (post_due 0 endpoints.own) (numbered endpoints)

-- the same where it is due up to this moment
unfoldable pub due_by : Endpoints → ℕ → Option DueItem
due_by endpoints moment = if_by moment (first_due endpoints)

-- something is due up to this moment
abbrev pub is_due : Endpoints → ℕ → Bool
is_due endpoints moment = is_some (due_by endpoints moment)

-- What then happens

-- what falls due on an endpoint, at this moment: where its command is given up, or an announcement begins, the line waits on
unfoldable pub happened_on : DueKind → Setup → ℕ → ℕ → Endpoint → Effect Endpoint
happened_on (OfLine due) setup line moment endpoint = noted setup line moment endpoint (fired endpoint.line due moment)
happened_on Resend setup line moment endpoint = posted endpoint (resent_on setup line moment endpoint.post)
happened_on Announce setup line moment endpoint = posted endpoint (announced_on setup line moment endpoint.post)

-- what falls due under a post, at this moment: of what falls due of lines there is nothing
unfoldable pub happened_under : DueKind → Setup → ℕ → ℕ → Post → Effect Post
happened_under (OfLine due) setup line moment post = silently post
happened_under Resend setup line moment post = resent_on setup line moment post
happened_under Announce setup line moment post = announced_on setup line moment post

-- what falls due happens at its own moment
abbrev pub happened : Setup → Endpoints → DueItem → Effect Endpoints
happened setup endpoints item =
    on_either endpoints item.line (happened_under item.kind setup 0 item.moment) (happened_on item.kind setup item.line item.moment)

abbrev pub go_on : Option DueItem → Setup → Endpoints → (Endpoints → Effect Endpoints) → Effect Endpoints
go_on None setup endpoints next = silently endpoints
go_on (Some item) setup endpoints next = afterwards (happened setup endpoints item) next

-- what is due up to this moment, but no more than so many things
unfoldable pub passed : ℕ → Setup → Endpoints → ℕ → Effect Endpoints
passed zero setup endpoints moment = silently endpoints
passed (suc n) setup endpoints moment = go_on (due_by endpoints moment) setup endpoints (λ next. passed n setup next moment)

-- what falls due of a line, each once at a moment: its 9 signals, timer T, the command in flight and the announcement; and
-- of the gateway itself: the last two
abbrev pub things_of_a_line : ℕ
things_of_a_line = 12

abbrev pub own_things : ℕ
own_things = 2

-- more things can't happen up to this moment: what starts at a moment falls due later, so that at one moment each of these
-- things happens at most once
abbrev pub room : Endpoints → ℕ → ℕ
room endpoints moment = (moment + 1) * (things_of_a_line * length endpoints.list + own_things)

-- What is due up to this moment happens: while there is something, the first happens at its own moment. The law
-- `what_is_due_happens_in_its_order` says so without a number.
unfoldable pub pass : Setup → Endpoints → ℕ → Effect Endpoints
pass setup endpoints moment = passed (room endpoints moment) setup endpoints moment
