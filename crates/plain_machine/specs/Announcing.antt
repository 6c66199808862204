-- An announcement: a line, or the gateway itself, tells its call agent that it is in service again (RFC 3435, 2.3.12, 4.4.6
-- and 4.4.7); and what a response is to what is in flight.
use Rattle.std.specs.Prelude.{ℕ, codes, ◌==◌, if◌then◌else◌, List, [], ◌∷◌, Option, Some, None, option_map}
use Rattle.std.specs.Option.{unwrap_or}
use Rattle.mgcp_text.specs.declared.message.Message.{Message}
use Rattle.mgcp_text.specs.declared.message.Message.TheVariants as messages
use Rattle.mgcp_text.specs.declared.message.Verb.TheVariants.{Rsip}
use Rattle.endpoint_names.specs.declared.name.Pattern.{Pattern}
use Rattle.endpoint_names.specs.declared.name.Pattern.TheVariants.{One, All}
use Rattle.endpoint_names.specs.Name.{name_text}
use Rattle.retransmission.specs.Flight.{InFlight, reply_of, heard}
use Rattle.retransmission.specs.declared.restart.Restart.{Restart}
use Rattle.retransmission.specs.declared.restart.Restart.TheVariants.{Waiting, Announced, Serving}
use Rattle.retransmission.specs.declared.heard.Heard.{Heard}
use Rattle.retransmission.specs.declared.heard.Heard.TheVariants.{Nothing, PutOff, Redirected, Answered}
use Rattle.retransmission.specs.Restarting.{heard_of}
use Rattle.plain_machine.specs.declared.post.Post.{Post}
use Rattle.plain_machine.specs.declared.response.Response.{Response}
use Rattle.plain_machine.specs.declared.setup.Setup.{Setup}
use Rattle.plain_machine.specs.Effect.{Effect, silently}
use Rattle.plain_machine.specs.Posting.{id_on, with_command}

-- What is announced

-- a line announces itself, and the gateway, which is line 0, all of its lines
abbrev pub announced_lines : ℕ → Pattern
announced_lines line = if line == 0 then All else One line

-- the gateway was restarted; a line lost its agent (RFC 3435, 2.3.12: RestartMethod)
abbrev pub method_of : ℕ → List ℕ
method_of line = if line == 0 then codes "restart" else codes "disconnected"

unfoldable pub announcement : Setup → ℕ → ℕ → Message
announcement setup line id =
    messages.Command Rsip id (name_text (announced_lines line) setup.names.domain)
    ((record { code = codes "RM"; value = method_of line }) ∷ []) []

-- it goes out at this moment, and is the command in flight from then on
unfoldable pub announced : Setup → ℕ → ℕ → Post → Effect Post
announced setup line moment post =
    with_command line moment (record post { restart = Announced }) (announcement setup line (id_on line post.number))

-- what waits announces itself; where nothing waits nothing is sent
abbrev pub announced_by : Restart → Setup → ℕ → ℕ → Post → Effect Post
announced_by (Waiting until) setup line moment post = announced setup line moment post
announced_by Announced setup line moment post = silently post
announced_by Serving setup line moment post = silently post

abbrev pub announced_on : Setup → ℕ → ℕ → Post → Effect Post
announced_on setup line moment post = announced_by post.restart setup line moment post

-- A response comes

abbrev pub heard_by : Option InFlight → Restart → Response → Heard
heard_by None restart response = Nothing
heard_by (Some message) restart response =
    heard_of restart (reply_of message response.id response.code) response.code response.entity

-- what it is to the command in flight, which its id joins it to (RFC 3435, 3.2.1.2)
abbrev pub heard_on : Post → Response → Heard
heard_on post response = heard_by post.pending post.restart response

-- a provisional one puts off what is due (RFC 3435, 3.5.6)
abbrev pub put_off : Response → ℕ → Post → Post
put_off response moment post =
    record post { pending = option_map (λ message. heard message response.id response.code moment) post.pending }

-- what becomes of the post: another agent that is named hears the announcement at once, under the next id; the answer ends
-- the flight, and the agent that it names is notified from then on
unfoldable pub replied : Heard → Setup → ℕ → ℕ → Response → Post → Effect Post
replied Nothing setup line moment response post = silently post
replied PutOff setup line moment response post = silently (put_off response moment post)
replied (Redirected agent) setup line moment response post = announced setup line moment (record post { entity = agent })
replied (Answered agent) setup line moment response post =
    silently (record post { entity = unwrap_or agent post.entity; pending = None; restart = Serving })

-- what becomes of it at a response: by what that is to its command in flight
unfoldable pub replied_on : Setup → ℕ → ℕ → Response → Post → Effect Post
replied_on setup line moment response post = replied (heard_on post response) setup line moment response post
