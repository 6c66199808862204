-- Which codes the faults of Q, R, T and S have.
use Rattle.std.proofs.Common.{◌≡◌, ℕ, Bool, true, false, cond, leb, List, [], ◌∷◌, length, codes, refl, rules, Option, Some, None, Err}
use Rattle.std.specs.Prelude.{Result, IfErr}
use Rattle.mg_bytes.specs.Case.{same_but_case}
use Rattle.mgcp_text.specs.declared.message.Param.{Param}
use Rattle.packages.specs.declared.signal.Kind.{Kind}
use Rattle.packages.specs.Looking.{in_package, event_in, signal_in, kind_of}
use Rattle.digit_map.specs.declared.fault.MapFault.{MapFault}
use Rattle.digit_map.specs.Reading.{map_of, or_code}
use Rattle.event_syntax.specs.declared.events.Events.{Events}
use Rattle.event_syntax.specs.declared.request.EmbeddedRequest.{EmbeddedRequest}
use Rattle.packages.specs.Cuts.{Form, form_of, items, entries}
use Rattle.mg_bytes.specs.Steps.{◌>>=◌}
use Rattle.packages.specs.Faults.{each, each_up_to}
use Rattle.event_syntax.specs.EventSpelling.{are_detected}
use Rattle.packages.specs.SignalSpelling.{are_signals}
use Rattle.event_syntax.specs.RequestSpelling.{are_requested}
use Rattle.event_syntax.specs.Events.{events_called}
use Rattle.event_syntax.specs.Detect.{most_events, without_parameters, detected_from, detected, detected_in, detected_of}
use Rattle.packages.specs.Handling.{handling_of}
use Rattle.packages.specs.Signals.{most_signals, setting_of, signal_called, signal_entry_from, signal_entry, signals_in, signals_of}
use Rattle.event_syntax.specs.Actions.{Word, word_of, Joined, plain, embed, accumulate_and_embed, Said, said_by, said_of, Rule, ruled_by, said_in, rule_from, rule_of}
use Rattle.event_syntax.specs.Embedding.{embedded_event_by, embedded_event, nothing_embedded, with_events, with_signals, with_map, with_part_named, with_part_in, with_part_from, with_part, with_parts, embedded_in}
use Rattle.event_syntax.specs.Requested.{reaction_of, requested, requested_in, requested_of}
use Rattle.command_forms.specs.Values.{handling_at}
use Rattle.command_forms.specs.Codes.{param_codes, has_code}
use Rattle.command_forms.proofs.StepLemmas.{on_err}

-- a value, or a code of parameters
abbrev pub IsParamCode : ℕ → Type 0
IsParamCode code = has_code param_codes code ≡ true

abbrev pub Coded : {A : Type 0} → Result A ℕ → Type 0
Coded read = IfErr read IsParamCode

pub coded_on : {A B : Type 0} (read : Result A ℕ) (next : A → Result B ℕ) → Coded read → ((x : A) → Coded (next x)) → Coded (read >>= next)
coded_on read next here on = on_err IsParamCode read next here on

coded_if : {A : Type 0} (test : Bool) (first second : Result A ℕ) → Coded first → Coded second → Coded (cond test first second)
coded_if true first second here there = here
coded_if false first second here there = there

coded_each : {A : Type 0} (read : List ℕ → Result A ℕ) (texts : List (List ℕ)) → ((text : List ℕ) → Coded (read text)) → Coded (each read texts)
unfolding each
coded_each read [] one = tt
coded_each read (text ∷ texts) one =
    coded_on (read text) _ (one text) (λ x. coded_on (each read texts) _ (coded_each read texts one) (λ xs. tt))

coded_up_to : {A : Type 0} (most : ℕ) (read : List ℕ → Result A ℕ) (texts : List (List ℕ)) → ((text : List ℕ) → Coded (read text))
    → Coded (each_up_to most read texts)
coded_up_to most read texts one = coded_if (leb (length texts) most) (each read texts) (Err 502) (coded_each read texts one) refl

-- Q

handling_coded : (value : List ℕ) → Coded (handling_of value)
unfolding handling_of
handling_coded value = search rules

pub handling_at_coded : (param : Option Param) → Coded (handling_at param)
handling_at_coded None = tt
handling_at_coded (Some param) = handling_coded param.value

-- S

signal_coded : (text : List ℕ) → Coded (signal_called text)
unfolding signal_called in_package signal_in
signal_coded text = search rules

setting_coded : (kind : Kind) (inside : List (List ℕ)) → Coded (setting_of kind inside)
unfolding setting_of
setting_coded kind inside = search rules

signal_entry_coded : (entry : List ℕ) → Coded (signal_entry entry)
unfolding signal_entry
signal_entry_coded entry = by_form (form_of entry) where
  by_form : (form : Option Form) → Coded (signal_entry_from form)
  by_form None = refl
  by_form (Some form) =
      coded_on (signal_called form.head) _ (signal_coded form.head)
      (λ signal. coded_on (setting_of (kind_of signal) form.inside) _ (setting_coded (kind_of signal) form.inside) (λ setting. tt))

pub signals_coded : (value : List ℕ) → Coded (signals_of value)
unfolding signals_of signals_in
signals_coded value =
    coded_if (are_signals value) (each_up_to most_signals signal_entry (entries value)) (Err 510) (coded_up_to most_signals signal_entry (entries value) signal_entry_coded) refl

-- T

events_coded : (text : List ℕ) → Coded (events_called text)
unfolding events_called in_package event_in
events_coded text = search rules

alone_coded : (inside : List (List ℕ)) (events : Events) → Coded (without_parameters inside events)
alone_coded inside events = search rules

detected_entry_coded : (entry : List ℕ) → Coded (detected entry)
unfolding detected
detected_entry_coded entry = by_form (form_of entry) where
  by_form : (form : Option Form) → Coded (detected_from form)
  by_form None = refl
  by_form (Some form) = coded_on (events_called form.head) (without_parameters form.inside) (events_coded form.head) (alone_coded form.inside)

pub detected_coded : (value : List ℕ) → Coded (detected_of value)
unfolding detected_of detected_in
detected_coded value =
    coded_if (are_detected value) (each_up_to most_events detected (entries value)) (Err 510) (coded_up_to most_events detected (entries value) detected_entry_coded) refl

-- R

word_coded : (action : List ℕ) → Coded (word_of action)
unfolding word_of
word_coded action = search rules

said_by_coded : (words : List Word) → Coded (said_by words)
said_by_coded words = search rules

said_coded : (actions : List (List ℕ)) → Coded (said_of actions)
unfolding said_of
said_coded actions = coded_on (each word_of actions) said_by (coded_each word_of actions word_coded) said_by_coded

said_in_coded : (inside : List (List ℕ)) → Coded (said_in inside)
said_in_coded [] = said_coded []
said_in_coded (actions ∷ []) = said_coded (items actions)
said_in_coded (actions ∷ parameters ∷ rest) = refl

ruled_coded : (events : Events) (said : Said) → Coded (ruled_by events said)
ruled_coded events said = search rules

rule_coded : (entry : List ℕ) → Coded (rule_of entry)
unfolding rule_of
rule_coded entry = by_form (form_of entry) where
  by_form : (form : Option Form) → Coded (rule_from form)
  by_form None = refl
  by_form (Some form) =
      coded_on (events_called form.head) _ (events_coded form.head)
      (λ events. coded_on (said_in form.inside) (ruled_by events) (said_in_coded form.inside) (ruled_coded events))

joined_coded : (rule : Rule) (joined : Joined) → Coded (embedded_event_by rule joined)
joined_coded rule joined = search rules

embedded_event_coded : (entry : List ℕ) → Coded (embedded_event entry)
unfolding embedded_event
embedded_event_coded entry = coded_on (rule_of entry) _ (rule_coded entry) (λ rule. joined_coded rule rule.joined)

map_coded : (read : Result (List ℕ) MapFault) → Coded (or_code read)
map_coded read = search rules

part_named_coded : (request : EmbeddedRequest) (name value : List ℕ) → Coded (with_part_named request name value)
unfolding signals_in
part_named_coded request name value =
    coded_if (same_but_case name (codes "R")) (with_events request value) _
    (coded_on (each_up_to most_events embedded_event (entries value)) _ (coded_up_to most_events embedded_event (entries value) embedded_event_coded) (λ events. tt))
    (coded_if (same_but_case name (codes "S")) (with_signals request value) (with_map request value)
    (coded_on (signals_in value) _ (coded_up_to most_signals signal_entry (entries value) signal_entry_coded) (λ signals. tt))
    (coded_on (or_code (map_of value)) _ (map_coded (map_of value)) (λ map. tt)))

part_coded : (request : EmbeddedRequest) (part : List ℕ) → Coded (with_part request part)
unfolding with_part
part_coded request part = by_form (form_of part) where
  by_inside : (name : List ℕ) (inside : List (List ℕ)) → Coded (with_part_in request name inside)
  by_inside name [] = refl
  by_inside name (value ∷ rest) = part_named_coded request name value

  by_form : (form : Option Form) → Coded (with_part_from request form)
  by_form None = refl
  by_form (Some form) = by_inside form.head form.inside

parts_coded : (request : EmbeddedRequest) (parts : List (List ℕ)) → Coded (with_parts request parts)
unfolding with_parts
parts_coded request [] = tt
parts_coded request (part ∷ parts) = coded_on (with_part request part) _ (part_coded request part) (λ more. parts_coded more parts)

embedded_coded : (inside : List ℕ) → Coded (embedded_in inside)
unfolding embedded_in
embedded_coded inside = parts_coded nothing_embedded (items inside)

reaction_coded : (joined : Joined) → Coded (reaction_of joined)
reaction_coded (plain action) = tt
reaction_coded (embed inside) = coded_on (embedded_in inside) _ (embedded_coded inside) (λ request. tt)
reaction_coded (accumulate_and_embed inside) = coded_on (embedded_in inside) _ (embedded_coded inside) (λ request. tt)

requested_entry_coded : (entry : List ℕ) → Coded (requested entry)
unfolding requested
requested_entry_coded entry =
    coded_on (rule_of entry) _ (rule_coded entry) (λ rule. coded_on (reaction_of rule.joined) _ (reaction_coded rule.joined) (λ reaction. tt))

pub requested_coded : (value : List ℕ) → Coded (requested_of value)
unfolding requested_of requested_in
requested_coded value =
    coded_if (are_requested value) (each_up_to most_events requested (entries value)) (Err 510) (coded_up_to most_events requested (entries value) requested_entry_coded) refl
