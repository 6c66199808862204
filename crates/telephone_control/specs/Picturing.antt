-- What the page is shown of what was counted.
use Rattle.std.specs.Prelude.{ℕ, ◌+◌, ◌++◌, ◌==◌, nat_lt, min, if◌then◌else◌, codes, List, [], ◌∷◌, length, map, slice_index}
use Rattle.mgcp_text.specs.declared.message.Verb.TheVariants.{Ntfy, Rsip}
use Rattle.page_state.specs.declared.counts.CodeCount.{CodeCount}
use Rattle.page_state.specs.declared.counts.Counts.{Counts}
use Rattle.page_state.specs.declared.counts.FileCount.{FileCount}
use Rattle.page_state.specs.declared.counts.VerbCount.{VerbCount}
use Rattle.message_counts.specs.SentCounting.{place_of}
use Rattle.live_journal.specs.declared.journal.Journal.{Journal}
use Rattle.message_counts.specs.declared.message_tally.MessageTally.{MessageTally}
use Rattle.message_counts.specs.declared.reporting.Faults.{Faults}
use Rattle.telephone_control.specs.declared.picture.TheConstants.{LAST_CODE, LAST_VERB}

-- what came, and what answers were sent before
abbrev pub with_traffic : Counts → MessageTally → Counts
with_traffic counts tally = record counts {
  datagrams_in = tally.datagrams_in;
  datagrams_out = tally.datagrams_out;
  responses = tally.texts.responses;
  unreadable = tally.texts.others;
  answers_again = tally.sent.again;
  strangers = tally.strangers;
  lost_commands = tally.texts.lost;
}

-- what the gateway sent of its own, where that went, and what of it was given up
abbrev pub with_own : Counts → MessageTally → Counts
with_own counts tally = record counts {
  notifications = slice_index tally.sent.commands (place_of Ntfy);
  notifications_again = slice_index tally.sent.commands_again (place_of Ntfy);
  announcements = slice_index tally.sent.commands (place_of Rsip);
  announcements_again = slice_index tally.sent.commands_again (place_of Rsip);
  given_up_by_gateway = tally.sent.given_up_by_gateway;
  given_up_by_lines = tally.sent.given_up_by_lines;
  sends = tally.places.sends;
}

-- what failed, and what wasn't kept
abbrev pub with_faults : Counts → Faults → Journal → Counts
with_faults counts faults journal = record counts {
  refused = faults.refused;
  receive_faults = faults.receive;
  send_faults = faults.send;
  dropped_lines = journal.written.dropped;
}

-- all that a number tells
abbrev pub with_numbers : Counts → Journal → Faults → Counts
with_numbers counts journal faults =
    with_faults (with_own (with_traffic counts journal.tally.value) journal.tally.value) faults journal

-- how often each file couldn't be written
abbrev pub by_name : List FileCount → List (List ℕ × ℕ)
by_name files = map (λ file. (file.file.items, file.number)) files

-- so is a capture, by its name, if there is one
abbrev pub capture_written : List ℕ → ℕ → List (List ℕ × ℕ)
capture_written name number = if length name == 0 then [] else (name, number) ∷ []

abbrev pub files_written : Journal → List (List ℕ × ℕ)
files_written journal =
    (codes "standard output", journal.written.output) ∷ (codes "standard error", journal.written.error)
    ∷ capture_written journal.capture.value.name journal.written.capture

-- how many commands came with each verb, from the one at this place on
unfoldable pub verbs_from : ℕ → List ℕ → List VerbCount
verbs_from place [] = []
verbs_from place (number ∷ numbers) = record { verb = min place LAST_VERB; number = number } ∷ verbs_from (place + 1) numbers

-- how many answers had a code, if any had
abbrev pub codes_at : ℕ → ℕ → List CodeCount
codes_at code number = if nat_lt 0 number then record { code = min code LAST_CODE; number = number } ∷ [] else []

-- how many had each code that any had, from this one on
unfoldable pub codes_from : ℕ → List ℕ → List CodeCount
codes_from code [] = []
codes_from code (number ∷ numbers) = codes_at code number ++ codes_from (code + 1) numbers
