-- Counts are sums.
use Rattle.std.proofs.Common.{inl, inr, ◌≡◌, ◌≢◌, ◌⊎◌, ℕ, ◌+◌, ◌<◌, Bool, true, false, cond, List, [], ◌∷◌, ◌++◌, length, length-set, get_or, Option, Some, None, refl, sym, ◌∙◌, ap, arith}
use Rattle.std.specs.Prelude.{◌==◌, slice_set}
use Rattle.std.specs.List.{fold, count_by}
use Rattle.std.proofs.lemmas.Bool.Decides.{eqb_tells}
use Rattle.std.proofs.lemmas.List.{get_or-set_other}
use Rattle.std.proofs.lemmas.Grind.{get_or-set_at}
use Rattle.std.proofs.lemmas.List.Sums.{sum_by-cons, fold-append}
use Rattle.mgcp_text.specs.declared.message.Verb.{Verb}
use Rattle.plain_machine.specs.declared.setup.Setup.{Setup}
use Rattle.plain_machine.specs.Event.{GatewayEvent}
use Rattle.plain_machine.specs.Machine.{Machine}
use Rattle.plain_machine.specs.Happening.{effect}
use Rattle.gateway_core.specs.declared.outcome.Reply.{Reply}
use Rattle.gateway_core.specs.declared.outcome.Reply.TheVariants.{First, Again, Silence, NoRoom}
use Rattle.gateway_core.specs.declared.outcome.TextOutcome.{TextOutcome}
use Rattle.gateway_core.specs.declared.outcome.TextOutcome.TheVariants.{NoMessage, Command, Response}
use Rattle.gateway_core.specs.Outcomes.{outcomes_of}
use Rattle.gateway_core.specs.Wire.{counted}
use Rattle.message_counts.specs.SentCounting.{one_more_at, place_of}
use Rattle.message_counts.specs.Counting.{Counts, with_command, with_reply, with_text, with_texts, counts_after, outcomes_from, is_command_at, is_response, is_other, is_lost}

counted_on : (n a b : ℕ) → counted (counted n a) b ≡ counted n (a + b)
counted_on n a b = omega arith

counted_none : (n : ℕ) → n ≡ counted n 0
counted_none n = omega arith

-- a count gains as many as there are of its texts, where one text adds at most one, within its list
sums : (f size : Counts → ℕ) (p : TextOutcome → Bool) (place : ℕ) → ((c : Counts) (o : TextOutcome) → size (with_text c o) ≡ size c)
    → ((c : Counts) (o : TextOutcome) → place < size c → f (with_text c o) ≡ counted (f c) (cond (p o) 1 0))
    → (c : Counts) (outcomes : List TextOutcome) → place < size c → f (with_texts c outcomes) ≡ counted (f c) (count_by p outcomes)
sums f size p place keeps step c [] inside = counted_none (f c)
sums f size p place keeps step c (o ∷ outcomes) inside =
    sums f size p place keeps step (with_text c o) outcomes (rw (keeps c o) inside)
    ∙ ap (λ n. counted n (count_by p outcomes)) (step c o inside)
    ∙ counted_on (f c) (cond (p o) 1 0) (count_by p outcomes)
    ∙ ap (λ n. counted (f c) n) (sym (sum_by-cons (λ x. cond (p x) 1 0) o outcomes))

-- ---- one text more

-- one more at a place is one more there alone
at_place : (numbers : List ℕ) (at place : ℕ) → place < length numbers → get_or (one_more_at numbers at) place 0 ≡ counted (get_or numbers place 0) (cond (at == place) 1 0)
at_place numbers at place inside = by_test (eqb_tells at place) where
  by_test : (((at == place) ≡ true) × (at ≡ place)) ⊎ (((at == place) ≡ false) × (at ≢ place))
      → get_or (one_more_at numbers at) place 0 ≡ counted (get_or numbers place 0) (cond (at == place) 1 0)
  by_test (inl same) = rw same.0
      (get_or-set_at numbers at place (counted (get_or numbers at 0) 1) 0 (sym same.1) (rw same.1 inside) ∙ ap (λ n. counted (get_or numbers n 0) 1) same.1)
  by_test (inr other) = rw other.0
      (get_or-set_other numbers at place (counted (get_or numbers at 0) 1) 0 (λ same. other.1 (sym same)) ∙ counted_none (get_or numbers place 0))

-- what a command gets changes one count alone
keeps_commands : (c : Counts) (r : Reply) → (with_reply c r).commands ≡ c.commands
keeps_commands c (First code fault) = refl
keeps_commands c (Again code) = refl
keeps_commands c Silence = refl
keeps_commands c NoRoom = refl

keeps_responses : (c : Counts) (r : Reply) → (with_reply c r).responses ≡ c.responses
keeps_responses c (First code fault) = refl
keeps_responses c (Again code) = refl
keeps_responses c Silence = refl
keeps_responses c NoRoom = refl

keeps_others : (c : Counts) (r : Reply) → (with_reply c r).others ≡ c.others
keeps_others c (First code fault) = refl
keeps_others c (Again code) = refl
keeps_others c Silence = refl
keeps_others c NoRoom = refl

keeps_lost : (c : Counts) (v : Option Verb) → (with_command c v).lost ≡ c.lost
keeps_lost c None = refl
keeps_lost c (Some verb) = refl

command_size : (c : Counts) (o : TextOutcome) → length (with_text c o).commands ≡ length c.commands
command_size c NoMessage = refl
command_size c (Response id is_acknowledged) = refl
command_size c (Command None id reply) = ap (λ (l : List ℕ). length l) (keeps_commands (with_command c None) reply)
command_size c (Command (Some verb) id reply) =
    ap (λ (l : List ℕ). length l) (keeps_commands (with_command c (Some verb)) reply) ∙ length-set c.commands (place_of verb) _

command_more : (place : ℕ) (c : Counts) (o : TextOutcome) → place < length c.commands
    → get_or (with_text c o).commands place 0 ≡ counted (get_or c.commands place 0) (cond (is_command_at place o) 1 0)
command_more place c NoMessage inside = counted_none _
command_more place c (Response id is_acknowledged) inside = counted_none _
command_more place c (Command None id reply) inside =
    ap (λ (l : List ℕ). get_or l place 0) (keeps_commands (with_command c None) reply) ∙ counted_none _
command_more place c (Command (Some verb) id reply) inside =
    ap (λ (l : List ℕ). get_or l place 0) (keeps_commands (with_command c (Some verb)) reply) ∙ at_place c.commands (place_of verb) place inside

response_more : (c : Counts) (o : TextOutcome) → (with_text c o).responses ≡ counted c.responses (cond (is_response o) 1 0)
response_more c NoMessage = counted_none _
response_more c (Response id is_acknowledged) = refl
response_more c (Command None id reply) = keeps_responses (with_command c None) reply ∙ counted_none _
response_more c (Command (Some verb) id reply) = keeps_responses (with_command c (Some verb)) reply ∙ counted_none _

other_more : (c : Counts) (o : TextOutcome) → (with_text c o).others ≡ counted c.others (cond (is_other o) 1 0)
other_more c NoMessage = refl
other_more c (Response id is_acknowledged) = counted_none _
other_more c (Command None id reply) = keeps_others (with_command c None) reply
other_more c (Command (Some verb) id reply) = keeps_others (with_command c (Some verb)) reply ∙ counted_none _

lost_more : (c : Counts) (o : TextOutcome) → (with_text c o).lost ≡ counted c.lost (cond (is_lost o) 1 0)
lost_more c NoMessage = counted_none _
lost_more c (Response id is_acknowledged) = counted_none _
lost_more c (Command verb id (First code fault)) = keeps_lost c verb ∙ counted_none _
lost_more c (Command verb id (Again code)) = keeps_lost c verb ∙ counted_none _
lost_more c (Command verb id Silence) = keeps_lost c verb ∙ counted_none _
lost_more c (Command verb id NoRoom) = ap (λ n. counted n 1) (keeps_lost c verb)

-- ---- all of them

pub commands_sum : (c : Counts) (outcomes : List TextOutcome) (place : ℕ) → place < length c.commands
    → get_or (with_texts c outcomes).commands place 0 ≡ counted (get_or c.commands place 0) (count_by (is_command_at place) outcomes)
commands_sum c outcomes place inside = sums (λ c. get_or c.commands place 0) (λ c. length c.commands) (is_command_at place) place command_size (command_more place) c outcomes inside

pub responses_sum : (c : Counts) (outcomes : List TextOutcome) → (with_texts c outcomes).responses ≡ counted c.responses (count_by is_response outcomes)
responses_sum c outcomes = sums (λ c. c.responses) (λ c. 1) is_response 0 (λ c o. refl) (λ c o inside. response_more c o) c outcomes (omega arith)

pub others_sum : (c : Counts) (outcomes : List TextOutcome) → (with_texts c outcomes).others ≡ counted c.others (count_by is_other outcomes)
others_sum c outcomes = sums (λ c. c.others) (λ c. 1) is_other 0 (λ c o. refl) (λ c o inside. other_more c o) c outcomes (omega arith)

pub lost_sum : (c : Counts) (outcomes : List TextOutcome) → (with_texts c outcomes).lost ≡ counted c.lost (count_by is_lost outcomes)
lost_sum c outcomes = sums (λ c. c.lost) (λ c. 1) is_lost 0 (λ c o. refl) (λ c o inside. lost_more c o) c outcomes (omega arith)

pub list_counts : (setup : Setup) (m : Machine) (counts : Counts) (events : List GatewayEvent) → counts_after setup m counts events ≡ with_texts counts (outcomes_from setup m events)
unfolding counts_after outcomes_from
list_counts setup m counts [] = refl
list_counts setup m counts (event ∷ events) =
    list_counts setup (effect setup m event).value (with_texts counts (outcomes_of setup m event)) events
    ∙ sym (fold-append with_text counts (outcomes_of setup m event) (outcomes_from setup (effect setup m event).value events))
