-- Values of R and T by the first fault of their entries.
use Rattle.std.proofs.Common.{◌≡◌, ℕ, ◌<◌, ◌≤◌, true, false, List, ◌∷◌, ◌++◌, length, map, refl, ap, ◌∙◌}
use Rattle.std.specs.Prelude.{Result, Ok, Err, is_ok}
use Rattle.std.specs.List.{list_all}
use Rattle.event_syntax.specs.declared.events.Events.{Events}
use Rattle.event_syntax.specs.declared.request.RequestedEvent.{RequestedEvent}
use Rattle.event_syntax.specs.declared.request.Reaction.{Reaction}
use Rattle.event_syntax.specs.Actions.{Joined, embed, accumulate_and_embed, Rule, rule_of}
use Rattle.packages.specs.Cuts.{entries}
use Rattle.event_syntax.specs.Detect.{most_events, detected, detected_in, detected_of}
use Rattle.event_syntax.specs.Embedding.{embedded_in}
use Rattle.mg_bytes.specs.Steps.{◌>>=◌}
use Rattle.packages.specs.Faults.{each_up_to}
use Rattle.event_syntax.specs.Requested.{requested, requested_by, reaction_of, requested_in, requested_of}
use Rattle.event_syntax.specs.RequestSpelling.{are_requested}
use Rattle.event_syntax.specs.EventSpelling.{are_detected}
use Rattle.packages.proofs.FaultLemmas.{misspelled, well_spelled, many_up_to, fault_up_to, whole_up_to}

-- R

requested_spelled : (value : List ℕ) → are_requested value ≡ true → requested_of value ≡ each_up_to most_events requested (entries value)
unfolding requested_of requested_in
requested_spelled value good = well_spelled (are_requested value) _ good

pub requested_misspelled : (value : List ℕ) → are_requested value ≡ false → requested_of value ≡ Err 510
unfolding requested_of requested_in
requested_misspelled value bad = misspelled (are_requested value) _ bad

pub requested_many : (value : List ℕ) → are_requested value ≡ true → most_events < length (entries value) → requested_of value ≡ Err 502
requested_many value good many = requested_spelled value good ∙ many_up_to most_events requested (entries value) many

pub requested_fault : (value : List ℕ) (front rest : List (List ℕ)) (text : List ℕ) (code : ℕ) → are_requested value ≡ true → length (entries value) ≤ most_events
    → entries value ≡ front ++ text ∷ rest → list_all (λ earlier. is_ok (requested earlier)) front ≡ true → requested text ≡ Err code → requested_of value ≡ Err code
requested_fault value front rest text code good few is before here =
    requested_spelled value good ∙ fault_up_to most_events requested (entries value) front rest text code few is before here

pub requested_all : (value : List ℕ) (list : List RequestedEvent) → are_requested value ≡ true → length list ≤ most_events → map requested (entries value) ≡ map Ok list
    → requested_of value ≡ Ok list
requested_all value list good few is = requested_spelled value good ∙ whole_up_to most_events requested (entries value) list few is

-- An entry of R

abbrev entry_from : Result Rule ℕ → Result RequestedEvent ℕ
entry_from read = read >>= λ rule. reaction_of rule.joined >>= λ reaction. Ok (requested_by rule reaction)

abbrev with_reaction : Rule → Result Reaction ℕ → Result RequestedEvent ℕ
with_reaction rule read = read >>= λ reaction. Ok (requested_by rule reaction)

pub entry_itself : (entry : List ℕ) (code : ℕ) → rule_of entry ≡ Err code → requested entry ≡ Err code
unfolding requested
entry_itself entry code fault = ap entry_from fault

fault_in : (rule : Rule) (joined : Joined) (code : ℕ) → rule.joined ≡ joined → reaction_of joined ≡ Err code → entry_from (Ok rule) ≡ Err code
fault_in rule joined code is fault = ap (λ (d : Joined). with_reaction rule (reaction_of d)) is ∙ ap (with_reaction rule) fault

pub entry_embedded : (entry inside : List ℕ) (rule : Rule) (code : ℕ) → rule_of entry ≡ Ok rule → rule.joined ≡ embed inside → embedded_in inside ≡ Err code → requested entry ≡ Err code
unfolding requested
entry_embedded entry inside rule code ruled is fault = ap entry_from ruled ∙ fault_in rule (embed inside) code is (rw fault refl)

pub entry_with_a : (entry inside : List ℕ) (rule : Rule) (code : ℕ) → rule_of entry ≡ Ok rule → rule.joined ≡ accumulate_and_embed inside → embedded_in inside ≡ Err code
    → requested entry ≡ Err code
unfolding requested
entry_with_a entry inside rule code ruled is fault = ap entry_from ruled ∙ fault_in rule (accumulate_and_embed inside) code is (rw fault refl)

-- T

detected_spelled : (value : List ℕ) → are_detected value ≡ true → detected_of value ≡ each_up_to most_events detected (entries value)
unfolding detected_of detected_in
detected_spelled value good = well_spelled (are_detected value) _ good

pub detected_misspelled : (value : List ℕ) → are_detected value ≡ false → detected_of value ≡ Err 510
unfolding detected_of detected_in
detected_misspelled value bad = misspelled (are_detected value) _ bad

pub detected_many : (value : List ℕ) → are_detected value ≡ true → most_events < length (entries value) → detected_of value ≡ Err 502
detected_many value good many = detected_spelled value good ∙ many_up_to most_events detected (entries value) many

pub detected_fault : (value : List ℕ) (front rest : List (List ℕ)) (text : List ℕ) (code : ℕ) → are_detected value ≡ true → length (entries value) ≤ most_events
    → entries value ≡ front ++ text ∷ rest → list_all (λ earlier. is_ok (detected earlier)) front ≡ true → detected text ≡ Err code → detected_of value ≡ Err code
detected_fault value front rest text code good few is before here =
    detected_spelled value good ∙ fault_up_to most_events detected (entries value) front rest text code few is before here

pub detected_all : (value : List ℕ) (list : List Events) → are_detected value ≡ true → length list ≤ most_events → map detected (entries value) ≡ map Ok list
    → detected_of value ≡ Ok list
detected_all value list good few is = detected_spelled value good ∙ whole_up_to most_events detected (entries value) list few is
