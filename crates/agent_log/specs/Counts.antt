-- What was counted, as it is told: a kind a line.
use Rattle.std.specs.Prelude.{ℕ, Bool, if◌then◌else◌, ◌+◌, min, codes, decimal, List, [], ◌∷◌, ◌++◌}
use Rattle.std.specs.List.{flat_map}
use Rattle.std.specs.Borrow.{Bor}
use Rattle.agent_log.specs.declared.tally.Tally.{Tally}

-- counts go up to here
abbrev pub greatest_count : ℕ
greatest_count = 18446744073709551615

abbrev pub one_more : ℕ → ℕ
one_more number = min (number + 1) greatest_count

-- nothing was counted
abbrev pub nothing_counted : Tally
nothing_counted = record {
  calls = 0;
  set_up = 0;
  abandoned = 0;
  failed = 0;
  busy = 0;
  wrong_number = 0;
  datagrams_in = 0;
  strange = 0;
  datagrams_out = 0;
  again = 0;
  commands = 0;
  answered = 0;
  given_up = 0;
  notifications = 0;
  announcements = 0;
  strange_names = 0;
  lost = 0;
  copied = 0;
  late = 0;
  refused = 0;
  receive_faults = 0;
  send_faults = 0;
}

-- a command was answered, a notification taken; an announcement came, or a command under a name that its gateway doesn't have; a command
-- was given up
abbrev pub with_answer : Tally → Tally
with_answer tally = record tally { answered = one_more tally.answered }

abbrev pub with_notification : Tally → Tally
with_notification tally = record tally { notifications = one_more tally.notifications }

abbrev pub with_announcement : Tally → Tally
with_announcement tally = record tally { announcements = one_more tally.announcements }

abbrev pub with_strange_name : Tally → Tally
with_strange_name tally = record tally { strange_names = one_more tally.strange_names }

abbrev pub with_given_up : Tally → Tally
with_given_up tally = record tally { given_up = one_more tally.given_up }

-- a datagram came
abbrev pub with_received : Tally → Tally
with_received tally = record tally { datagrams_in = one_more tally.datagrams_in }

-- a datagram was sent, again or for the first time
abbrev pub with_handed_out : Bool → Tally → Tally
with_handed_out is_repeat tally = record tally {
  datagrams_out = one_more tally.datagrams_out;
  again = if is_repeat then one_more tally.again else tally.again;
}

-- a number with what stands before it
abbrev pub entry_text : Bor (List ℕ) × ℕ → List ℕ
entry_text entry = entry.0.now ++ decimal entry.1

-- numbers, each with what stands before it
abbrev pub told : List (List ℕ × ℕ) → List ℕ
told entries = flat_map (λ entry. entry.0 ++ decimal entry.1) entries

unfoldable pub calls_text : Tally → List ℕ
calls_text tally =
    told ((codes "calls ", tally.calls) ∷ (codes " set up ", tally.set_up) ∷ (codes " abandoned ", tally.abandoned)
    ∷ (codes " failed ", tally.failed) ∷ (codes " busy ", tally.busy) ∷ (codes " wrong number ", tally.wrong_number) ∷ [])

unfoldable pub messages_text : Tally → List ℕ
messages_text tally =
    told ((codes "\ndatagrams in ", tally.datagrams_in) ∷ (codes " strange ", tally.strange) ∷ (codes " out ", tally.datagrams_out)
    ∷ (codes " again ", tally.again) ∷ (codes "\ncommands ", tally.commands) ∷ (codes " answered ", tally.answered)
    ∷ (codes " given up ", tally.given_up) ∷ (codes "\nnotifications ", tally.notifications)
    ∷ (codes " announcements ", tally.announcements) ∷ (codes " strange ", tally.strange_names) ∷ [])

unfoldable pub losses_text : Tally → List ℕ
losses_text tally =
    told ((codes "\nnetwork lost ", tally.lost) ∷ (codes " copied ", tally.copied) ∷ (codes " late ", tally.late)
    ∷ (codes "\nfaults memory ", tally.refused) ∷ (codes " receive ", tally.receive_faults) ∷ (codes " send ", tally.send_faults) ∷ [])

-- all of it
abbrev pub counts_text : Tally → List ℕ
counts_text tally = calls_text tally ++ messages_text tally ++ losses_text tally ++ codes "\n"
