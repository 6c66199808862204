-- What is told as JSON of what is shown.
use Rattle.std.specs.Prelude.{ℕ, Bool, codes, if◌then◌else◌, List, map, fold, Option, Some, None}
use Rattle.std.specs.Str.Lossy.{utf8_lossy}
use Rattle.serde_json.specs.Data.{Data, null, boolean, number, unsigned, string, array, object, Members, no_members, put}
use Rattle.serde_json.specs.View.{items_of}
use Rattle.serde_json.specs.Written.{IsInOrder}
use Rattle.page_state.specs.declared.counts.VerbCount.{VerbCount}
use Rattle.page_state.specs.declared.counts.CodeCount.{CodeCount}
use Rattle.page_state.specs.declared.counts.Counts.{Counts}
use Rattle.page_state.specs.declared.picture.SignalView.{SignalView}
use Rattle.page_state.specs.declared.picture.ConnectionView.{ConnectionView}
use Rattle.page_state.specs.declared.picture.LineView.{LineView}
use Rattle.page_state.specs.declared.picture.Picture.{Picture}
use Rattle.page_state.specs.Answering.{agent_answers}
use Rattle.page_state.specs.Sums.{sum_within}
use Rattle.page_state.specs.Metrics.{code_text}
use Rattle.page_state.specs.Totals.{totals_of}
use Rattle.page_state.specs.Verbs.{verb_word}

abbrev pub put_number : List ℕ → ℕ → Members → Members
put_number name n members = put name (number (unsigned n)) members

-- under which number the lines are shown, and the gateway's clock, in ms
abbrev pub put_shown : ℕ → ℕ → Members → Members
put_shown version clock members = put_number (codes "clock") clock (put_number (codes "version") version members)

-- a number, where there is one
abbrev pub number_data : Option ℕ → Data
number_data None = null
number_data (Some n) = number (unsigned n)

-- what a gateway is: with which number its ids began, whether it serves (RFC 3435, 4.4.6), whether its agent answers, and since when it
-- owes an answer, its lines, how many of their events were lost, and what was counted
abbrev pub state_data : ℕ → ℕ → ℕ → Bool → Option ℕ → ℕ → Data → Data → Data
state_data version clock first is_serving unanswered lost lines counts =
    object (put (codes "counts") counts (put (codes "lines") lines (put_number (codes "lost") lost
    (put (codes "unanswered_since") (number_data unanswered)
    (put (codes "agent_answers") (boolean (agent_answers clock is_serving unanswered)) (put (codes "serving") (boolean is_serving)
    (put_number (codes "first") first (put_shown version clock no_members))))))))

-- Lines

-- a name as text: those of signals and modes are ASCII
abbrev pub name_data : List ℕ → Data
name_data name = string (utf8_lossy name)

abbrev pub signal_data : SignalView → Data
signal_data signal =
    object (put (codes "end") (number_data signal.end) (put (codes "name") (name_data signal.name.now) no_members))

-- where its media go is an empty text where that isn't known; its call stands as it was spelled when the connection was created
abbrev pub connection_data : ConnectionView → Data
connection_data connection =
    object (put_number (codes "number") connection.number (put_number (codes "ptime") connection.packet_time
    (put (codes "remote") (name_data connection.remote.items) (put (codes "local") (name_data connection.local.items)
    (put (codes "codec") (name_data connection.codec.now) (put (codes "mode") (name_data connection.mode.now)
    (put (codes "call") (name_data connection.call.items) no_members)))))))

abbrev pub hook_word : Bool → List ℕ
hook_word is_off_hook = if is_off_hook then codes "off" else codes "on"

-- a line by its hook, how many of its events were lost, what is heard there, and its connections
abbrev pub line_data : LineView → Data
line_data line =
    object (put (codes "connections") (array (items_of (map connection_data line.connections.items)))
    (put (codes "signals") (array (items_of (map signal_data line.signals.items)))
    (put_number (codes "lost") line.lost (put (codes "hook") (string (hook_word line.is_off_hook)) no_members))))

abbrev pub lines_data : List LineView → Data
lines_data lines = array (items_of (map line_data lines))

-- Counts

-- how many commands of a verb came, under its word
abbrev pub with_verb : Members → VerbCount → Members
with_verb members count = put_number (verb_word count.verb) count.number members

-- how many answers with a code went out, under its three digits
abbrev pub with_code : Members → CodeCount → Members
with_code members count = put_number (utf8_lossy (code_text count.code)) count.number members

-- how many commands of its own nobody answered, whosever they were
abbrev pub given_up_in : Counts → ℕ
given_up_in counts = sum_within counts.given_up_by_gateway counts.given_up_by_lines

-- what was counted as one number each
abbrev pub put_counted : Counts → Members → Members
put_counted counts members =
    put_number (codes "transactions") counts.transactions (put_number (codes "send_faults") counts.send_faults
    (put_number (codes "receive_faults") counts.receive_faults (put_number (codes "refused") counts.refused
    (put_number (codes "given_up") (given_up_in counts) (put_number (codes "announcements_again") counts.announcements_again
    (put_number (codes "announcements") counts.announcements (put_number (codes "notifications_again") counts.notifications_again
    (put_number (codes "notifications") counts.notifications (put_number (codes "answers_again") counts.answers_again
    (put_number (codes "unreadable") counts.unreadable (put_number (codes "responses") counts.responses
    (put_number (codes "datagrams_out") counts.datagrams_out (put_number (codes "datagrams_in") counts.datagrams_in
    members)))))))))))))

abbrev pub counts_data : Counts → Data
counts_data counts =
    object (put (codes "answers") (object (fold with_code no_members counts.answers.items))
    (put (codes "commands") (object (fold with_verb no_members counts.commands.items)) (put_counted counts no_members)))

-- the text tells this picture under this number
abbrev pub TellsState : Picture → ℕ → List ℕ → Type 0
TellsState picture version text =
    IsInOrder text (state_data version picture.clock picture.first picture.is_serving picture.unanswered_since
    (totals_of picture.lines.items).lost (lines_data picture.lines.items) (counts_data picture.counts))
