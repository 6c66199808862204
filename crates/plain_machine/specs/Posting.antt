-- What is sent under a post: a command begins, and is sent again or given up (RFC 3435, 3.2.1.2, 3.5 and 4.3). It is one
-- rule for each line and for the gateway itself, which is line 0.
use Rattle.std.specs.Prelude.{◌≡◌, ℕ, ◌+◌, ◌*◌, ◌/◌, ◌==◌, true, false, if◌then◌else◌, [], ◌∷◌, Option, Some, None}
use Rattle.mgcp_text.specs.declared.message.Message.{Message}
use Rattle.mgcp_text.specs.Writing.{written}
use Rattle.retransmission.specs.declared.repeat.Repeat.{Repeat}
use Rattle.retransmission.specs.declared.repeat.Repeat.TheVariants.{Sent as SentAgain, GivenUp}
use Rattle.endpoint_names.specs.Route.{at}
use Rattle.retransmission.specs.Flight.{InFlight, sent_to, sent_first, repeat_of, repeated}
use Rattle.retransmission.specs.Restarting.{begun}
use Rattle.small_rules.specs.Numbering.{next_number}
pub use Rattle.small_rules.specs.Numbering.{numbers}
use Rattle.plain_machine.specs.declared.post.Post.{Post}
use Rattle.plain_machine.specs.declared.post_owner.PostOwner.{PostOwner}
use Rattle.plain_machine.specs.declared.post_owner.PostOwner.TheVariants.{Gateway, Line}
use Rattle.plain_machine.specs.declared.setup.Setup.{Setup}
use Rattle.plain_machine.specs.Effect.{Effect, silently}
use Rattle.plain_machine.specs.Message.{own_of, command, resent}

-- whose a post with this number is
abbrev pub HasNumber : ℕ → PostOwner → Type 0
HasNumber number Gateway = (number == 0) ≡ true
HasNumber number (Line line) = ((number == 0) ≡ false) × (line ≡ number)

-- Ids: a line takes its numbers in turn

-- the least of a line is 0, that of the gateway itself 1: 0 is no transaction id
abbrev pub first_number : ℕ → ℕ
first_number line = if line == 0 then 1 else 0

-- after the greatest number comes the least
abbrev pub number_after : ℕ → ℕ → ℕ
number_after line number = next_number (first_number line) number

-- the transaction id of a line's command with this number
abbrev pub id_on : ℕ → ℕ → ℕ
id_on line number = line * numbers + number

-- the line whose ids such an id is among; 0 is the gateway itself
abbrev pub line_of_id : ℕ → ℕ
line_of_id id = id / numbers

-- What becomes of a post, and what is sent under it

-- a command goes out under the next id at this moment, to the notified entity: to the addresses that this has then
abbrev pub with_command : ℕ → ℕ → Post → Message → Effect Post
with_command line moment post said = record {
  value = record post {
    number = number_after line post.number;
    pending = Some (sent_first (id_on line post.number) post.entity.route (written said) moment);
  };
  sent = (record { to = at post.entity.route 0; moment = moment; owner = own_of line; said = command said }) ∷ [];
}

-- The command in flight falls due

-- how long the gateway itself waits before it announces itself, and how long a line does (RFC 3435, 4.4.6 and 4.4.7)
abbrev pub wait_of : Setup → ℕ → ℕ
wait_of setup line = if line == 0 then setup.restart_wait else setup.disconnected_wait

-- where a command was given up nothing is in flight, and an announcement waits (RFC 3435, 4.3)
abbrev pub given_up : Setup → ℕ → ℕ → Post → Post
given_up setup line moment post = record post { pending = None; restart = begun moment (wait_of setup line) }

-- it is sent again, to the address of its route that is next, or given up (RFC 3435, 4.3)
abbrev pub repeated_as : Repeat → Setup → ℕ → ℕ → Post → InFlight → Effect Post
repeated_as SentAgain setup line moment post message = record {
  value = record post { pending = Some (repeated message moment) };
  sent = (record { to = sent_to (repeated message moment); moment = moment; owner = own_of line; said = resent message }) ∷ [];
}
repeated_as GivenUp setup line moment post message = silently (given_up setup line moment post)

abbrev pub resent_by : Option InFlight → Setup → ℕ → ℕ → Post → Effect Post
resent_by None setup line moment post = silently post
resent_by (Some message) setup line moment post = repeated_as (repeat_of message moment) setup line moment post message

abbrev pub resent_on : Setup → ℕ → ℕ → Post → Effect Post
resent_on setup line moment post = resent_by post.pending setup line moment post
