-- Counts as they are told, a kind a line.
use Rattle.std.specs.Prelude.{ℕ, ◌+◌, ◌==◌, if◌then◌else◌, codes, decimal, slice_index, List, [], ◌∷◌, ◌++◌}
use Rattle.std.specs.List.{flat_map}
use Rattle.std.specs.Borrow.{Bor}
use Rattle.mgcp_text.specs.declared.message.Verb.TheVariants.{Ntfy, Rsip}
use Rattle.page_state.specs.Metrics.{code_text}
use Rattle.message_counts.specs.SentCounting.{place_of, tally_in, all_given_up}
use Rattle.message_counts.specs.declared.message_tally.MessageTally.{MessageTally}
use Rattle.message_counts.specs.declared.reporting.Faults.{Faults}

-- a number with what stands before it
abbrev pub told : List ℕ → ℕ → List ℕ
told before number = before ++ decimal number

abbrev pub entry_text : Bor (List ℕ) × ℕ → List ℕ
entry_text entry = told entry.0.now entry.1

-- numbers, each with what stands before it
abbrev pub told_all : List (List ℕ × ℕ) → List ℕ
told_all entries = flat_map (λ entry. told entry.0 entry.1) entries

unfoldable pub datagrams_text : MessageTally → List ℕ
datagrams_text tally = told_all ((codes "datagrams in ", tally.datagrams_in) ∷ (codes " out ", tally.datagrams_out) ∷ [])

-- the commands that came, by verb (RFC 3435, 3.2.1.1)
unfoldable pub verbs_text : List ℕ → List ℕ
verbs_text commands =
    told_all ((codes " EPCF ", slice_index commands 0) ∷ (codes " RQNT ", slice_index commands 1)
    ∷ (codes " NTFY ", slice_index commands 2) ∷ (codes " CRCX ", slice_index commands 3)
    ∷ (codes " MDCX ", slice_index commands 4) ∷ (codes " DLCX ", slice_index commands 5)
    ∷ (codes " AUEP ", slice_index commands 6) ∷ (codes " AUCX ", slice_index commands 7)
    ∷ (codes " RSIP ", slice_index commands 8) ∷ (codes " other ", slice_index commands 9) ∷ [])

abbrev pub commands_text : List ℕ → List ℕ
commands_text commands = codes "\ncommands" ++ verbs_text commands

unfoldable pub texts_text : MessageTally → List ℕ
texts_text tally = told_all ((codes "\nresponses ", tally.texts.responses) ∷ (codes " no message ", tally.texts.others) ∷ [])

-- a return code by which something was answered
abbrev pub answer_text : ℕ → ℕ → List ℕ
answer_text code number =
    if number == 0 then [] else codes " " ++ (code_text code ++ told (codes " ") number)

-- the answers with each code, from this one on
unfoldable pub answers_from : ℕ → List ℕ → List ℕ
answers_from code [] = []
answers_from code (number ∷ more) = answer_text code number ++ answers_from (code + 1) more

-- the answers that were sent again, and the commands of its own, of which so many were given up
unfoldable pub own_text : MessageTally → ℕ → List ℕ
own_text tally given_up =
    told_all ((codes " repeated ", tally.sent.again) ∷ (codes "\nnotifications ", slice_index tally.sent.commands (place_of Ntfy))
    ∷ (codes " repeated ", slice_index tally.sent.commands_again (place_of Ntfy))
    ∷ (codes "\nannouncements ", slice_index tally.sent.commands (place_of Rsip))
    ∷ (codes " repeated ", slice_index tally.sent.commands_again (place_of Rsip)) ∷ (codes " given up ", given_up) ∷ [])

-- what was lost or refused, or failed
unfoldable pub lost_text : MessageTally → ℕ → Faults → List ℕ
lost_text tally lost faults =
    told_all ((codes "\nlost events ", lost) ∷ (codes " refused ", faults.refused)
    ∷ (codes "\nfaults receive ", faults.receive) ∷ (codes " send ", faults.send)
    ∷ (codes "\nstrangers ", tally.strangers) ∷ (codes " lost commands ", tally.texts.lost) ∷ [])

-- what is told behind the answers
unfoldable pub others_text : MessageTally → ℕ → Faults → List ℕ
others_text tally lost faults = own_text tally (all_given_up (tally_in tally.sent)) ++ lost_text tally lost faults

-- what came, and how it was answered
unfoldable pub traffic_text : MessageTally → List ℕ
traffic_text tally =
    datagrams_text tally ++ commands_text tally.texts.commands ++ texts_text tally ++ codes "\nanswers"
    ++ answers_from 0 tally.sent.answers.items

-- all of it, where so many events of all lines were lost
abbrev pub report_text : MessageTally → ℕ → Faults → List ℕ
report_text tally lost faults = traffic_text tally ++ others_text tally lost faults ++ codes "\n"
