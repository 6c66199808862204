-- Prometheus' text format, version 0.0.4: what is told of a metric, and each of its samples.
use Rattle.std.specs.Prelude.{ℕ, Bool, true, false, ◌==◌, nat_lt, codes, decimal, if◌then◌else◌, List, [], ◌∷◌, ◌++◌, length, slice_index}
use Rattle.std.specs.List.{flat_map}
use Rattle.page_state.specs.declared.counts.VerbCount.{VerbCount}
use Rattle.page_state.specs.declared.counts.CodeCount.{CodeCount}
use Rattle.page_state.specs.declared.counts.FileCount.{FileCount}
use Rattle.page_state.specs.declared.counts.Counts.{Counts}
use Rattle.page_state.specs.declared.picture.Picture.{Picture}
use Rattle.page_state.specs.declared.picture.Totals.{Totals}
use Rattle.page_state.specs.Totals.{totals_of}
use Rattle.page_state.specs.Verbs.{verb_word}

-- in a label's value a backslash, a quote and a line feed are written behind a backslash
abbrev pub escaped_byte : ℕ → List ℕ
escaped_byte byte =
    if byte == 92 then 92 ∷ 92 ∷ []
    else if byte == 34 then 92 ∷ 34 ∷ []
    else if byte == 10 then 92 ∷ 110 ∷ []
    else byte ∷ []

abbrev pub escaped : List ℕ → List ℕ
escaped text = flat_map escaped_byte text

abbrev pub help_line : List ℕ → List ℕ → List ℕ
help_line name help = codes "# HELP " ++ name ++ codes " " ++ help ++ codes "\n"

abbrev pub type_line : List ℕ → List ℕ → List ℕ
type_line name kind = codes "# TYPE " ++ name ++ codes " " ++ kind ++ codes "\n"

-- what is told of a metric: `# HELP name help` and `# TYPE name kind`
abbrev pub family_head : List ℕ → List ℕ → List ℕ → List ℕ
family_head name kind help = help_line name help ++ type_line name kind

-- `name number`
abbrev pub plain_sample : List ℕ → ℕ → List ℕ
plain_sample name number = name ++ codes " " ++ decimal number ++ codes "\n"

abbrev pub label_begun : List ℕ → List ℕ → List ℕ
label_begun name label = name ++ codes "{" ++ label ++ codes "=\""

abbrev pub label_ended : List ℕ → ℕ → List ℕ
label_ended value number = escaped value ++ codes "\"} " ++ decimal number ++ codes "\n"

-- `name{label="value"} number`
abbrev pub labelled_sample : List ℕ → List ℕ → List ℕ → ℕ → List ℕ
labelled_sample name label value number = label_begun name label ++ label_ended value number

-- a return code has three digits (RFC 3435, 2.4)
abbrev pub code_text : ℕ → List ℕ
code_text code =
    if nat_lt code 10 then codes "00" ++ decimal code else if nat_lt code 100 then codes "0" ++ decimal code else decimal code

unfoldable pub verb_sample : VerbCount → List ℕ
verb_sample count = labelled_sample (codes "rgw_commands_total") (codes "verb") (verb_word count.verb) count.number

unfoldable pub code_sample : CodeCount → List ℕ
code_sample count = labelled_sample (codes "rgw_answers_total") (codes "code") (code_text count.code) count.number

unfoldable pub file_sample : FileCount → List ℕ
file_sample count = labelled_sample (codes "rgw_write_faults_total") (codes "file") count.file.items count.number

abbrev pub verb_samples : List VerbCount → List ℕ
verb_samples counts = flat_map verb_sample counts

abbrev pub code_samples : List CodeCount → List ℕ
code_samples counts = flat_map code_sample counts

abbrev pub file_samples : List FileCount → List ℕ
file_samples counts = flat_map file_sample counts

-- a metric of one sample
abbrev pub single : List ℕ → List ℕ → List ℕ → ℕ → List ℕ
single name kind help number = family_head name kind help ++ plain_sample name number

-- a metric of several samples, which a label tells apart
abbrev pub family : List ℕ → List ℕ → List ℕ → List ℕ → List (List ℕ × ℕ) → List ℕ
family name kind help label samples = family_head name kind help ++ flat_map (λ s. labelled_sample name label s.0 s.1) samples

-- a metric of one sample: its name, its kind, what it counts, and its number
abbrev pub single_text : List ℕ × List ℕ × List ℕ × ℕ → List ℕ
single_text metric = single metric.0 metric.1 metric.2 metric.3

abbrev pub singles : List (List ℕ × List ℕ × List ℕ × ℕ) → List ℕ
singles metrics = flat_map single_text metrics

abbrev pub counter : List ℕ → List ℕ → ℕ → List ℕ × List ℕ × List ℕ × ℕ
counter name help number = (name, codes "counter", help, number)

abbrev pub gauge : List ℕ → List ℕ → ℕ → List ℕ × List ℕ × List ℕ × ℕ
gauge name help number = (name, codes "gauge", help, number)

unfoldable pub datagrams_text : Counts → List ℕ
datagrams_text counts =
    family (codes "rgw_datagrams_total") (codes "counter") (codes "Datagrams that came and went.") (codes "direction")
    ((codes "in", counts.datagrams_in) ∷ (codes "out", counts.datagrams_out) ∷ [])

unfoldable pub commands_head : List ℕ
commands_head = family_head (codes "rgw_commands_total") (codes "counter") (codes "Commands that came, by verb.")

unfoldable pub answers_head : List ℕ
answers_head = family_head (codes "rgw_answers_total") (codes "counter") (codes "Responses that were sent, by code.")

-- what came and went
abbrev pub traffic_text : Counts → List ℕ
traffic_text counts =
    datagrams_text counts ++ commands_head ++ verb_samples counts.commands.items ++ answers_head ++ code_samples counts.answers.items

unfoldable pub own_counters : Counts → List ℕ
own_counters counts =
    singles
    (counter (codes "rgw_notifications_total") (codes "Notifications that were sent.") counts.notifications
    ∷ counter (codes "rgw_announcements_total") (codes "Announcements that were sent.") counts.announcements ∷ [])

-- what nobody answered, by whose it is
unfoldable pub given_up_text : Counts → List ℕ
given_up_text counts =
    family (codes "rgw_given_up_total") (codes "counter") (codes "Commands of its own that nobody answered, by whose they are.")
    (codes "owner") ((codes "gateway", counts.given_up_by_gateway) ∷ (codes "line", counts.given_up_by_lines) ∷ [])

-- which address of several is sent to
unfoldable pub sends_text : Counts → List ℕ
sends_text counts =
    family (codes "rgw_sends_total") (codes "counter")
    (codes "Sends of commands of its own, by which of its agent's addresses they go to.") (codes "place")
    ((codes "1", slice_index counts.sends 0) ∷ (codes "2", slice_index counts.sends 1) ∷ (codes "3", slice_index counts.sends 2)
    ∷ (codes "4", slice_index counts.sends 3) ∷ (codes "other", slice_index counts.sends 4) ∷ [])

unfoldable pub repeats_text : Counts → List ℕ
repeats_text counts =
    family (codes "rgw_repeats_total") (codes "counter") (codes "Messages that were sent before, by what they are.") (codes "of")
    ((codes "answer", counts.answers_again) ∷ (codes "notification", counts.notifications_again)
    ∷ (codes "announcement", counts.announcements_again) ∷ [])

-- what the gateway sent of its own
abbrev pub sent_text : Counts → List ℕ
sent_text counts = own_counters counts ++ given_up_text counts ++ sends_text counts ++ repeats_text counts

-- what came and led to nothing
unfoldable pub useless_counters : Counts → List ℕ
useless_counters counts =
    singles
    (counter (codes "rgw_responses_total") (codes "Responses that came.") counts.responses
    ∷ counter (codes "rgw_unreadable_total") (codes "Texts that came and are no message.") counts.unreadable
    ∷ counter (codes "rgw_refused_total") (codes "Inputs that the gateway refused.") counts.refused
    ∷ counter (codes "rgw_strangers_total") (codes "Datagrams of who may not speak.") counts.strangers
    ∷ counter (codes "rgw_lost_commands_total") (codes "Commands that found no room among those that are remembered.")
    counts.lost_commands ∷ [])

unfoldable pub faults_text : Counts → List ℕ
faults_text counts =
    family (codes "rgw_faults_total") (codes "counter") (codes "How often a socket failed.") (codes "of")
    ((codes "receive", counts.receive_faults) ∷ (codes "send", counts.send_faults) ∷ [])

unfoldable pub dropped_text : Counts → List ℕ
dropped_text counts =
    singles (counter (codes "rgw_dropped_lines_total") (codes "Lines of the log that found no room.") counts.dropped_lines ∷ [])

unfoldable pub write_faults_head : List ℕ
write_faults_head = family_head (codes "rgw_write_faults_total") (codes "counter") (codes "How often a record couldn't be written.")

-- what wasn't recorded
abbrev pub records_text : Counts → List ℕ
records_text counts = dropped_text counts ++ write_faults_head ++ file_samples counts.write_faults.items

-- 1 if it is so
abbrev pub number_if : Bool → ℕ
number_if true = 1
number_if false = 0

-- what there is now: so many lines, what these have together, so many transactions, and whether the gateway serves
unfoldable pub gauges_text : ℕ → Totals → ℕ → Bool → List ℕ
gauges_text lines totals transactions is_serving =
    singles
    (counter (codes "rgw_lost_events_total") (codes "Events that found no room on their line.") totals.lost
    ∷ gauge (codes "rgw_serving") (codes "Whether the gateway serves: its announcement was answered.") (number_if is_serving)
    ∷ gauge (codes "rgw_lines") (codes "Lines of the gateway.") lines
    ∷ gauge (codes "rgw_lines_off_hook") (codes "Lines that are off hook.") totals.off_hook
    ∷ gauge (codes "rgw_connections") (codes "Connections of all lines.") totals.connections
    ∷ gauge (codes "rgw_transactions") (codes "Transactions that are held.") transactions ∷ [])

-- all metrics
abbrev pub metrics_of : Picture → List ℕ
metrics_of picture =
    traffic_text picture.counts ++ sent_text picture.counts ++ useless_counters picture.counts
    ++ faults_text picture.counts ++ records_text picture.counts
    ++ gauges_text (length picture.lines.items) (totals_of picture.lines.items) picture.counts.transactions picture.is_serving
