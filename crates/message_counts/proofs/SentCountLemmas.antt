-- Counts are sums.
use Rattle.std.proofs.Common.{inl, inr, ◌≡◌, ◌≢◌, ◌⊎◌, ℕ, ◌+◌, ◌<◌, Bool, true, false, cond, List, [], ◌∷◌, ◌++◌, length, length-set, get_or, map, refl, sym, ◌∙◌, ap, arith}
use Rattle.std.specs.Prelude.{◌==◌, slice_set}
use Rattle.std.specs.List.{fold, count_by}
use Rattle.std.proofs.lemmas.Bool.Decides.{eqb_tells}
use Rattle.std.proofs.lemmas.List.{get_or-set_other, map-append}
use Rattle.std.proofs.lemmas.Grind.{get_or-set_at}
use Rattle.std.proofs.lemmas.List.Sums.{sum_by-cons, fold-append}
use Rattle.plain_machine.specs.declared.given_up.GivenUpCommand.{GivenUpCommand}
use Rattle.gateway_core.specs.declared.sent.SentMessage.{SentMessage}
use Rattle.plain_machine.specs.declared.label.What.{What}
use Rattle.plain_machine.specs.declared.label.What.TheVariants.{Answer, Again, Command, Resent, Acknowledgement}
use Rattle.plain_machine.specs.declared.setup.Setup.{Setup}
use Rattle.plain_machine.specs.Event.{GatewayEvent}
use Rattle.plain_machine.specs.GivingUp.{given_up_with}
use Rattle.gateway_core.specs.Labelling.{sent_message, labels_of}
use Rattle.plain_machine.specs.Lists.{sent_from}
use Rattle.plain_machine.specs.Machine.{Machine}
use Rattle.plain_machine.specs.Happening.{effect}
use Rattle.gateway_core.specs.Wire.{counted}
use Rattle.message_counts.specs.SentCounting.{Tally, one_more_at, place_of, with_what, with_message, with_sent, is_of_gateway, is_of_line, with_own_given_up, with_line_given_up, with_one_given_up, with_given_up, tally_after, given_up_from, has_verb_at, is_command_at, has_again_at, is_sent_again_at, has_code, is_answer_with, is_again, is_given_again}

pub counted_on : (n a b : ℕ) → counted (counted n a) b ≡ counted n (a + b)
counted_on n a b = omega arith

pub counted_none : (n : ℕ) → n ≡ counted n 0
counted_none n = omega arith

-- a count gains as many as there are of its messages, where one message adds at most one, within its list
sums : (f size : Tally → ℕ) (p : What → Bool) (place : ℕ) → ((t : Tally) (w : What) → size (with_what t w) ≡ size t)
    → ((t : Tally) (w : What) → place < size t → f (with_what t w) ≡ counted (f t) (cond (p w) 1 0))
    → (t : Tally) (sent : List SentMessage) → place < size t → f (with_sent t sent) ≡ counted (f t) (count_by (λ (one : SentMessage). p one.label.what) sent)
sums f size p place keeps step t [] inside = counted_none (f t)
sums f size p place keeps step t (one ∷ sent) inside =
    sums f size p place keeps step (with_message t one) sent (rw (keeps t one.label.what) inside)
    ∙ ap (λ n. counted n (count_by (λ (x : SentMessage). p x.label.what) sent)) (step t one.label.what inside)
    ∙ counted_on (f t) (cond (p one.label.what) 1 0) (count_by (λ (x : SentMessage). p x.label.what) sent)
    ∙ ap (λ n. counted (f t) n) (sym (sum_by-cons (λ (x : SentMessage). cond (p x.label.what) 1 0) one sent))

-- ---- one message more

-- one more at a place is one more there alone
pub at_place : (numbers : List ℕ) (at place : ℕ) → place < length numbers → get_or (one_more_at numbers at) place 0 ≡ counted (get_or numbers place 0) (cond (at == place) 1 0)
at_place numbers at place inside = by_test (eqb_tells at place) where
  by_test : (((at == place) ≡ true) × (at ≡ place)) ⊎ (((at == place) ≡ false) × (at ≢ place))
      → get_or (one_more_at numbers at) place 0 ≡ counted (get_or numbers place 0) (cond (at == place) 1 0)
  by_test (inl same) = rw same.0
      (get_or-set_at numbers at place (counted (get_or numbers at 0) 1) 0 (sym same.1) (rw same.1 inside) ∙ ap (λ n. counted (get_or numbers n 0) 1) same.1)
  by_test (inr other) = rw other.0
      (get_or-set_other numbers at place (counted (get_or numbers at 0) 1) 0 (λ same. other.1 (sym same)) ∙ counted_none (get_or numbers place 0))

command_size : (t : Tally) (w : What) → length (with_what t w).commands ≡ length t.commands
command_size t (Answer code) = refl
command_size t (Again code) = refl
command_size t (Command verb) = length-set t.commands (place_of verb) _
command_size t (Resent verb send) = length-set t.commands (place_of verb) _
command_size t Acknowledgement = refl

command_more : (place : ℕ) (t : Tally) (w : What) → place < length t.commands → get_or (with_what t w).commands place 0 ≡ counted (get_or t.commands place 0) (cond (has_verb_at place w) 1 0)
command_more place t (Answer code) inside = counted_none _
command_more place t (Again code) inside = counted_none _
command_more place t (Command verb) inside = at_place t.commands (place_of verb) place inside
command_more place t (Resent verb send) inside = at_place t.commands (place_of verb) place inside
command_more place t Acknowledgement inside = counted_none _

again_size : (t : Tally) (w : What) → length (with_what t w).commands_again ≡ length t.commands_again
again_size t (Answer code) = refl
again_size t (Again code) = refl
again_size t (Command verb) = refl
again_size t (Resent verb send) = length-set t.commands_again (place_of verb) _
again_size t Acknowledgement = refl

again_more : (place : ℕ) (t : Tally) (w : What) → place < length t.commands_again
    → get_or (with_what t w).commands_again place 0 ≡ counted (get_or t.commands_again place 0) (cond (has_again_at place w) 1 0)
again_more place t (Answer code) inside = counted_none _
again_more place t (Again code) inside = counted_none _
again_more place t (Command verb) inside = counted_none _
again_more place t (Resent verb send) inside = at_place t.commands_again (place_of verb) place inside
again_more place t Acknowledgement inside = counted_none _

answer_size : (t : Tally) (w : What) → length (with_what t w).answers ≡ length t.answers
answer_size t (Answer code) = length-set t.answers code _
answer_size t (Again code) = length-set t.answers code _
answer_size t (Command verb) = refl
answer_size t (Resent verb send) = refl
answer_size t Acknowledgement = length-set t.answers 0 _

answer_more : (code : ℕ) (t : Tally) (w : What) → code < length t.answers → get_or (with_what t w).answers code 0 ≡ counted (get_or t.answers code 0) (cond (has_code code w) 1 0)
answer_more code t (Answer given) inside = at_place t.answers given code inside
answer_more code t (Again given) inside = at_place t.answers given code inside
answer_more code t (Command verb) inside = counted_none _
answer_more code t (Resent verb send) inside = counted_none _
answer_more code t Acknowledgement inside = at_place t.answers 0 code inside

given_more : (t : Tally) (w : What) → (with_what t w).again ≡ counted t.again (cond (is_again w) 1 0)
given_more t (Answer code) = counted_none _
given_more t (Again code) = refl
given_more t (Command verb) = counted_none _
given_more t (Resent verb send) = counted_none _
given_more t Acknowledgement = counted_none _

-- ---- all of them

pub commands_sum : (t : Tally) (sent : List SentMessage) (place : ℕ) → place < length t.commands
    → get_or (with_sent t sent).commands place 0 ≡ counted (get_or t.commands place 0) (count_by (is_command_at place) sent)
commands_sum t sent place inside = sums (λ t. get_or t.commands place 0) (λ t. length t.commands) (has_verb_at place) place command_size (command_more place) t sent inside

pub again_sum : (t : Tally) (sent : List SentMessage) (place : ℕ) → place < length t.commands_again
    → get_or (with_sent t sent).commands_again place 0 ≡ counted (get_or t.commands_again place 0) (count_by (is_sent_again_at place) sent)
again_sum t sent place inside = sums (λ t. get_or t.commands_again place 0) (λ t. length t.commands_again) (has_again_at place) place again_size (again_more place) t sent inside

pub answers_sum : (t : Tally) (sent : List SentMessage) (code : ℕ) → code < length t.answers
    → get_or (with_sent t sent).answers code 0 ≡ counted (get_or t.answers code 0) (count_by (is_answer_with code) sent)
answers_sum t sent code inside = sums (λ t. get_or t.answers code 0) (λ t. length t.answers) (has_code code) code answer_size (answer_more code) t sent inside

pub given_sum : (t : Tally) (sent : List SentMessage) → (with_sent t sent).again ≡ counted t.again (count_by is_given_again sent)
given_sum t sent = sums (λ t. t.again) (λ t. 1) is_again 0 (λ t w. refl) (λ t w inside. given_more t w) t sent (omega arith)

-- ---- a list of events

-- what is given up counts apart from what is sent
own_apart : (t : Tally) (w : What) → with_what (with_own_given_up t) w ≡ with_own_given_up (with_what t w)
own_apart t (Answer code) = refl
own_apart t (Again code) = refl
own_apart t (Command verb) = refl
own_apart t (Resent verb send) = refl
own_apart t Acknowledgement = refl

line_apart : (t : Tally) (w : What) → with_what (with_line_given_up t) w ≡ with_line_given_up (with_what t w)
line_apart t (Answer code) = refl
line_apart t (Again code) = refl
line_apart t (Command verb) = refl
line_apart t (Resent verb send) = refl
line_apart t Acknowledgement = refl

one_apart : (t : Tally) (g : GivenUpCommand) (w : What) → with_what (with_one_given_up t g) w ≡ with_one_given_up (with_what t w) g
one_apart t g w = by_test (eqb_tells g.line 0) where
  by_test : (((g.line == 0) ≡ true) × (g.line ≡ 0)) ⊎ (((g.line == 0) ≡ false) × (g.line ≢ 0))
      → with_what (with_one_given_up t g) w ≡ with_one_given_up (with_what t w) g
  by_test (inl own) = rw own.0 (own_apart t w)
  by_test (inr other) = rw other.0 (line_apart t w)

what_apart : (t : Tally) (given_up : List GivenUpCommand) (w : What) → with_what (with_given_up t given_up) w ≡ with_given_up (with_what t w) given_up
what_apart t [] w = refl
what_apart t (g ∷ given_up) w =
    what_apart (with_one_given_up t g) given_up w ∙ ap (λ (x : Tally). with_given_up x given_up) (one_apart t g w)

sent_apart : (t : Tally) (given_up : List GivenUpCommand) (sent : List SentMessage) → with_sent (with_given_up t given_up) sent ≡ with_given_up (with_sent t sent) given_up
sent_apart t given_up [] = refl
sent_apart t given_up (one ∷ sent) =
    ap (λ (x : Tally). with_sent x sent) (what_apart t given_up one.label.what) ∙ sent_apart (with_message t one) given_up sent

given_up_both : (t : Tally) (some more : List GivenUpCommand) → with_given_up (with_given_up t some) more ≡ with_given_up t (some ++ more)
given_up_both t some more = sym (fold-append with_one_given_up t some more)

-- ---- whose they are

own_more : (t : Tally) (g : GivenUpCommand) → (with_one_given_up t g).given_up_by_gateway ≡ counted t.given_up_by_gateway (cond (is_of_gateway g) 1 0)
own_more t g = by_test (eqb_tells g.line 0) where
  by_test : (((g.line == 0) ≡ true) × (g.line ≡ 0)) ⊎ (((g.line == 0) ≡ false) × (g.line ≢ 0))
      → (with_one_given_up t g).given_up_by_gateway ≡ counted t.given_up_by_gateway (cond (is_of_gateway g) 1 0)
  by_test (inl own) = rw own.0 refl
  by_test (inr other) = rw other.0 (counted_none t.given_up_by_gateway)

line_more : (t : Tally) (g : GivenUpCommand) → (with_one_given_up t g).given_up_by_lines ≡ counted t.given_up_by_lines (cond (is_of_line g) 1 0)
line_more t g = by_test (eqb_tells g.line 0) where
  by_test : (((g.line == 0) ≡ true) × (g.line ≡ 0)) ⊎ (((g.line == 0) ≡ false) × (g.line ≢ 0))
      → (with_one_given_up t g).given_up_by_lines ≡ counted t.given_up_by_lines (cond (is_of_line g) 1 0)
  by_test (inl own) = rw own.0 (counted_none t.given_up_by_lines)
  by_test (inr other) = rw other.0 refl

pub own_sum : (t : Tally) (given_up : List GivenUpCommand)
    → (with_given_up t given_up).given_up_by_gateway ≡ counted t.given_up_by_gateway (count_by is_of_gateway given_up)
own_sum t [] = counted_none t.given_up_by_gateway
own_sum t (g ∷ given_up) =
    own_sum (with_one_given_up t g) given_up
    ∙ ap (λ n. counted n (count_by is_of_gateway given_up)) (own_more t g)
    ∙ counted_on t.given_up_by_gateway (cond (is_of_gateway g) 1 0) (count_by is_of_gateway given_up)
    ∙ ap (λ n. counted t.given_up_by_gateway n) (sym (sum_by-cons (λ (x : GivenUpCommand). cond (is_of_gateway x) 1 0) g given_up))

pub line_sum : (t : Tally) (given_up : List GivenUpCommand)
    → (with_given_up t given_up).given_up_by_lines ≡ counted t.given_up_by_lines (count_by is_of_line given_up)
line_sum t [] = counted_none t.given_up_by_lines
line_sum t (g ∷ given_up) =
    line_sum (with_one_given_up t g) given_up
    ∙ ap (λ n. counted n (count_by is_of_line given_up)) (line_more t g)
    ∙ counted_on t.given_up_by_lines (cond (is_of_line g) 1 0) (count_by is_of_line given_up)
    ∙ ap (λ n. counted t.given_up_by_lines n) (sym (sum_by-cons (λ (x : GivenUpCommand). cond (is_of_line x) 1 0) g given_up))

-- ---- events one after the other

pub list_counts : (setup : Setup) (m : Machine) (t : Tally) (events : List GatewayEvent)
    → tally_after setup m t events ≡ with_given_up (with_sent t (labels_of (sent_from setup m events))) (given_up_from setup m events)
unfolding tally_after sent_from given_up_from
list_counts setup m t [] = refl
list_counts setup m t (event ∷ events) =
    let one : List SentMessage = labels_of (effect setup m event).sent in
    let lost : List GivenUpCommand = given_up_with setup m event in
    let rest : List SentMessage = labels_of (sent_from setup (effect setup m event).value events) in
    let more : List GivenUpCommand = given_up_from setup (effect setup m event).value events in
    list_counts setup (effect setup m event).value (with_given_up (with_sent t one) lost) events
    ∙ ap (λ (x : Tally). with_given_up x more) (sent_apart (with_sent t one) lost rest)
    ∙ given_up_both (with_sent (with_sent t one) rest) lost more
    ∙ ap (λ (x : Tally). with_given_up x (lost ++ more))
    (sym (fold-append with_message t one rest)
    ∙ ap (λ (x : List SentMessage). with_sent t x) (sym (map-append sent_message (effect setup m event).sent (sent_from setup (effect setup m event).value events))))
