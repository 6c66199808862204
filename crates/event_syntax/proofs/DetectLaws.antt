-- What is read of T can be written, and its faults are return codes; and what is written of T is read again.
use Rattle.std.proofs.Common.{◌≡◌, ℕ, ◌≤◌, Bool, true, leb, ap, ◌∙◌, List, [], ◌∷◌, length, sym, lit≤, Option, Some, None}
use Rattle.std.specs.Prelude.{Result, Ok, Err}
use Rattle.std.specs.List.{list_all}
use Rattle.std.proofs.lemmas.Bool.{and_parts, leb-true}
use Rattle.event_syntax.specs.declared.events.Events.{Events}
use Rattle.packages.specs.Cuts.{Form, form_of, entries}
use Rattle.mg_bytes.specs.Steps.{◌>>=◌}
use Rattle.packages.specs.Spelling.{with_parameters, are_parameters}
use Rattle.event_syntax.specs.EventSpelling.{is_event, is_detected, is_detected_from, are_detected}
use Rattle.event_syntax.specs.Events.{events_called, events_text, is_writable}
use Rattle.event_syntax.specs.Detect.{most_events, without_parameters, detected_from, detected, detected_in, detected_of, detected_text, are_writable_events}
use Rattle.event_syntax.proofs.EventLemmas.{Writable, called_passes}
use Rattle.event_syntax.proofs.EventLaws.{events_again}
use Rattle.packages.proofs.JoinLemmas.{IsEntry, name_entry, name_form}
use Rattle.packages.proofs.PassLemmas.{Passes, passes_on, passes_up_to, passes_if, along}
use Rattle.packages.proofs.WriteLemmas.{listed_spelled, listed_up_to}

-- Reading

alone_passes : (inside : List (List ℕ)) (events : Events) → Writable events → Passes Writable (without_parameters inside events)
alone_passes [] events ok = ok
alone_passes (parameters ∷ rest) events ok = lit≤ tt

head_spelled : (head : Bool) (inside : List (List ℕ)) → with_parameters head inside ≡ true → head ≡ true
head_spelled head [] spelled = spelled
head_spelled head (parameters ∷ []) spelled = (and_parts head (are_parameters parameters) spelled).0
head_spelled head (first ∷ second ∷ rest) spelled = absurd cc

form_passes : (form : Option Form) → is_detected_from form ≡ true → Passes Writable (detected_from form)
form_passes None spelled = lit≤ tt
form_passes (Some form) spelled =
    passes_on Writable Writable (events_called form.head) (without_parameters form.inside)
    (called_passes form.head (head_spelled (is_event form.head) form.inside spelled)) (alone_passes form.inside)

entry_passes : (entry : List ℕ) → is_detected entry ≡ true → Passes Writable (detected entry)
unfolding is_detected detected
entry_passes entry spelled = form_passes (form_of entry) spelled

value_passes : (value : List ℕ) → Passes (λ list. are_writable_events list ≡ true) (detected_of value)
unfolding detected_of detected_in are_detected are_writable_events
value_passes value =
    passes_if _ (are_detected value) _ (passes_up_to is_writable most_events is_detected detected (entries value) entry_passes)

-- of a value that is spelled
pub spelled : (value : List ℕ) (read : Result (List Events) ℕ) → true ≡ are_detected value → read ≡ detected_in value → detected_of value ≡ read
unfolding detected_of
spelled value read good in_order = rw (sym good) (sym in_order)

pub read_is_writable : (value : List ℕ) (list : List Events) → detected_of value ≡ Ok list → are_writable_events list ≡ true
read_is_writable value list read = along _ _ (Ok list) read (value_passes value)

pub fault_is_code : (value : List ℕ) (code : ℕ) → detected_of value ≡ Err code → code ≤ 999
fault_is_code value code read = along (λ list. are_writable_events list ≡ true) _ (Err code) read (value_passes value)

-- Writing

events_form : (events : Events) → is_writable events ≡ true → form_of (events_text events) ≡ Some (record { head = events_text events; inside = [] })
events_form events ok = let reads = events_again events ok in name_form (events_text events) reads.flat reads.plain

events_entry : (events : Events) → is_writable events ≡ true → IsEntry (events_text events)
events_entry events ok =
    let reads = events_again events ok in name_entry (events_text events) reads.flat reads.plain (leb-true _ _ reads.some)

events_spelled : (events : Events) → is_writable events ≡ true → is_detected (events_text events) ≡ true
unfolding is_detected
events_spelled events ok = ap is_detected_from (events_form events ok) ∙ (events_again events ok).spelled

events_read : (events : Events) → is_writable events ≡ true → detected (events_text events) ≡ Ok events
unfolding detected
events_read events ok =
    ap detected_from (events_form events ok) ∙ ap (λ read. read >>= without_parameters []) (events_again events ok).called

-- the written form of T is read as the list that it was written from
pub detected_again : (list : List Events) → are_writable_events list ≡ true → detected_of (detected_text list) ≡ Ok list
unfolding detected_of detected_in detected_text are_detected are_writable_events
detected_again list ok =
    let each_can = (and_parts (leb (length list) most_events) (list_all is_writable list) ok).1 in
    rw (listed_spelled is_writable events_text is_detected list events_entry events_spelled each_can)
    (listed_up_to is_writable events_text most_events detected list events_entry events_read ok)
