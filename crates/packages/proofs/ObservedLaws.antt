-- What is read of O can be written, and its faults are return codes; and what is written of O is read again.
use Rattle.std.proofs.Common.{◌≡◌, ℕ, ◌≤◌, Bool, true, false, leb, List, [], ◌∷◌, map, length, refl, ◌∙◌, lit≤, ⊎_elim, Option, Some, None}
use Rattle.std.specs.Prelude.{Result, Ok, Err}
use Rattle.std.specs.List.{list_all, list_any, join_with_byte}
use Rattle.std.proofs.lemmas.List.Folds.{list_any-append}
use Rattle.std.proofs.lemmas.Bool.{cases_Bool, leb-true}
use Rattle.mg_bytes.proofs.DigitLemmas.{both_true}
use Rattle.mg_bytes.specs.Bytes.{comma}
use Rattle.mg_bytes.specs.Blanks.{is_blank}
use Rattle.mg_bytes.specs.Lines.{is_line_feed}
use Rattle.mg_bytes.specs.declared.letter.Letter.TheVariants.{Zero}
use Rattle.packages.specs.declared.event.LineEvent.{LineEvent}
use Rattle.packages.specs.declared.event.LineEvent.TheVariants.{LineComplete, GenericComplete, Letter}
use Rattle.packages.specs.declared.signal.Signal.{Signal}
use Rattle.packages.specs.declared.signal.Signal.TheVariants.{RingSplash, MessageWaiting, Confirm}
use Rattle.packages.specs.Looking.{event_of}
use Rattle.packages.specs.declared.observed.Observed.{Observed}
use Rattle.packages.specs.declared.observed.Observed.TheVariants.{Happened, Ended}
use Rattle.packages.specs.declared.cut.Cut.TheVariants.{Commas}
use Rattle.packages.specs.Cuts.{Form, form_of, entries, after, is_uncut}
use Rattle.mg_bytes.specs.Steps.{◌>>=◌}
use Rattle.packages.specs.Signals.{signal_called}
use Rattle.packages.specs.Observed.{is_completion, tells, happened, ended, observed_with, observed_from, or_510, observed_entry, observed_of, takes_memory, observed_entry_text, observed_text, is_writable_observed, are_writable_observed}
use Rattle.packages.proofs.PassLemmas.{Passes, passes_each, along}
use Rattle.packages.proofs.ValueComputing.{on_examples}
use Rattle.packages.proofs.JoinLemmas.{is_plain, IsEntry}
use Rattle.packages.proofs.WriteLemmas.{listed_again}

abbrev Good : Observed → Type 0
Good told = is_writable_observed told ≡ true

-- a value that passes, whatever the code else
abbrev Lets : Result Observed ℕ → Type 0
Lets (Ok told) = Good told
Lets (Err code) = Unit {0}

happened_lets : (event : LineEvent) → Lets (happened event)
happened_lets event =
    ⊎_elim
    (λ (h : is_completion event ≡ true). rw h tt)
    (λ (h : is_completion event ≡ false). rw h (rw h refl))
    (cases_Bool (is_completion event))

ended_lets : (event : LineEvent) (signal : Signal) → Lets (ended event signal)
ended_lets event signal =
    ⊎_elim
    (λ (h : tells event signal ≡ true). rw h (both_true _ _ h).0)
    (λ (h : tells event signal ≡ false). rw h tt)
    (cases_Bool (tells event signal))

signal_lets : (event : LineEvent) (read : Result Signal ℕ) → Lets (read >>= ended event)
signal_lets event (Ok signal) = ended_lets event signal
signal_lets event (Err code) = tt

with_lets : (event : LineEvent) (inside : List (List ℕ)) → Lets (observed_with event inside)
with_lets event [] = happened_lets event
with_lets event (signal ∷ []) = signal_lets event (signal_called signal)
with_lets event (first ∷ second ∷ rest) = tt

event_lets : (read : Result LineEvent ℕ) (inside : List (List ℕ)) → Lets (read >>= λ event. observed_with event inside)
event_lets (Ok event) inside = with_lets event inside
event_lets (Err code) inside = tt

form_lets : (form : Option Form) → Lets (observed_from form)
form_lets None = tt
form_lets (Some form) = event_lets (event_of form.head) form.inside

as_code : (read : Result Observed ℕ) → Lets read → Passes Good (or_510 read)
as_code (Ok told) so = so
as_code (Err code) so = lit≤ tt

entry_passes : (entry : List ℕ) → Passes Good (observed_entry entry)
unfolding observed_entry
entry_passes entry = as_code (observed_from (form_of entry)) (form_lets (form_of entry))

pub entry_fault_is_code : (entry : List ℕ) (code : ℕ) → observed_entry entry ≡ Err code → code ≤ 999
entry_fault_is_code entry code read = along Good _ (Err code) read (entry_passes entry)

value_passes : (value : List ℕ) → Passes (λ list. (list_all is_writable_observed list ≡ true) × (length list ≡ length (entries value))) (observed_of value)
unfolding observed_of
value_passes value = passes_each is_writable_observed observed_entry (entries value) entry_passes

pub read_is_writable : (value : List ℕ) (list : List Observed) → observed_of value ≡ Ok list → are_writable_observed list ≡ true
unfolding are_writable_observed
read_is_writable value list read = (along (λ told. (list_all is_writable_observed told ≡ true) × (length told ≡ length (entries value))) _ (Ok list) read (value_passes value)).0

-- where an entry was read, what is left takes memory, and so the whole does
pub takes_at_first : (left texts : List (List ℕ)) (text : List ℕ) (told : Observed) (all : Bool)
    → left ≡ text ∷ texts → Ok told ≡ observed_entry text → (takes_memory left ≡ true → all ≡ true) → all ≡ true
takes_at_first left texts text told all steps read on = on (rw steps (rw (← read) refl))

-- Writing

is_entry : (text : List ℕ) → is_uncut Commas 0 text ≡ true → after 0 text ≡ 0 → is_plain text ≡ true → leb 1 (length text) ≡ true → IsEntry text
is_entry text uncut closed plain some = record { uncut = uncut; closed = closed; plain = plain; some = leb-true _ _ some }

told_entry : (told : Observed) → is_writable_observed told ≡ true → IsEntry (observed_entry_text told)
unfolding on_examples
told_entry (Happened LineComplete) ok = absurd cc
told_entry (Happened GenericComplete) ok = absurd cc
told_entry (Happened (Letter Zero)) ok = is_entry _ refl refl refl refl
told_entry (Ended RingSplash) ok = absurd cc
told_entry (Ended MessageWaiting) ok = absurd cc
told_entry (Ended Confirm) ok = absurd cc
told_entry _ ok = is_entry _ refl refl refl refl

told_again : (told : Observed) → is_writable_observed told ≡ true → observed_entry (observed_entry_text told) ≡ Ok told
unfolding on_examples
told_again (Happened LineComplete) ok = absurd cc
told_again (Happened GenericComplete) ok = absurd cc
told_again (Happened (Letter Zero)) ok = refl
told_again (Ended RingSplash) ok = absurd cc
told_again (Ended MessageWaiting) ok = absurd cc
told_again (Ended Confirm) ok = absurd cc
told_again _ ok = refl

-- the written form of O is read as the list that it was written from
pub observed_again : (list : List Observed) → are_writable_observed list ≡ true → observed_of (observed_text list) ≡ Ok list
unfolding observed_of observed_text are_writable_observed
observed_again list ok = listed_again is_writable_observed observed_entry_text observed_entry list told_entry told_again ok

-- The written form of O is one word

told_solid : (told : Observed) → list_any is_blank (observed_entry_text told) ≡ false
unfolding on_examples
told_solid (Happened (Letter Zero)) = refl
told_solid (Ended RingSplash) = refl
told_solid _ = refl

told_in_line : (told : Observed) → list_any is_line_feed (observed_entry_text told) ≡ false
unfolding on_examples
told_in_line (Happened (Letter Zero)) = refl
told_in_line (Ended RingSplash) = refl
told_in_line _ = refl

none_joined : (p : ℕ → Bool) → p comma ≡ false → ((told : Observed) → list_any p (observed_entry_text told) ≡ false)
    → (list : List Observed) → list_any p (join_with_byte comma (map observed_entry_text list)) ≡ false
none_joined p out each [] = refl
none_joined p out each (told ∷ []) = each told
none_joined p out each (told ∷ next ∷ list) =
    list_any-append p (observed_entry_text told) (comma ∷ join_with_byte comma (map observed_entry_text (next ∷ list)))
    ∙ rw (each told, out) (none_joined p out each (next ∷ list))

pub observed_no_blanks : (list : List Observed) → list_any is_blank (observed_text list) ≡ false
unfolding observed_text
observed_no_blanks list = none_joined is_blank refl told_solid list

pub observed_one_line : (list : List Observed) → list_any is_line_feed (observed_text list) ≡ false
unfolding observed_text
observed_one_line list = none_joined is_line_feed refl told_in_line list
