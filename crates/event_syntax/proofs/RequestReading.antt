-- What is read of R can be written, and its faults are return codes.
use Rattle.std.proofs.Common.{◌≡◌, ℕ, Bool, true, false, ◌&&◌, not, leb, List, [], ◌∷◌, ◌++◌, length, map, refl, ap, ◌∙◌, lit≤, ⊎_elim, suc, zero, Option, Some, None, take}
use Rattle.std.specs.Prelude.{Result, Ok, Err, IfOk, codes, filter, if◌then◌else◌}
use Rattle.std.specs.List.{list_all}
use Rattle.std.proofs.lemmas.Bool.{cases_Bool, le-leb}
use Rattle.std.proofs.lemmas.List.{length-map}
use Rattle.std.proofs.lemmas.Slice.Eq.{bytes_eq-Decides}
use Rattle.mg_bytes.specs.Blanks.{is_blank, trimmed_start, trimmed_end, trimmed}
use Rattle.mg_bytes.specs.Case.{same_but_case}
use Rattle.mg_bytes.specs.CodeFault.{AnswersAs}
use Rattle.mg_bytes.specs.declared.code_fault.CodeFault.{CodeFault}
use Rattle.mg_bytes.specs.declared.code_fault.CodeFault.TheVariants.{OutOfMemory, Code}
use Rattle.mg_bytes.proofs.DigitLemmas.{both_true}
use Rattle.digit_map.specs.declared.fault.MapFault.{MapFault}
use Rattle.digit_map.specs.declared.fault.MapFault.TheVariants as map_faults
use Rattle.digit_map.specs.Reading.{map_of, or_code}
use Rattle.digit_map.proofs.ReadingLaws.{read_again}
use Rattle.event_syntax.specs.declared.events.Events.{Events}
use Rattle.event_syntax.specs.declared.request.EmbeddedEvent.{EmbeddedEvent}
use Rattle.event_syntax.specs.declared.request.EmbeddedRequest.{EmbeddedRequest}
use Rattle.event_syntax.specs.declared.request.Reaction.TheVariants.{Embed, AccumulateAndEmbed}
use Rattle.event_syntax.specs.declared.request.RequestedEvent.{RequestedEvent}
use Rattle.packages.specs.declared.signals.SignalRequest.{SignalRequest}
use Rattle.event_syntax.specs.declared.request.Action.TheVariants.{Notify, Accumulate, Dial, Ignore}
use Rattle.packages.specs.declared.cut.Cut.TheVariants.{Commas, Parentheses}
use Rattle.mg_bytes.specs.Lists.{is_empty}
use Rattle.packages.specs.Cuts.{Form, form_of, form_from, items, entries, pieces}
use Rattle.mg_bytes.specs.Steps.{◌>>=◌}
use Rattle.packages.specs.Faults.{each, each_up_to}
use Rattle.event_syntax.specs.EventSpelling.{is_event}
use Rattle.packages.specs.SignalSpelling.{are_signals}
use Rattle.event_syntax.specs.RequestSpelling.{is_part_in, is_part_with, is_part_from, is_part, are_parts, is_action_with, is_action_from, is_action, is_requested_with, is_requested_from, is_requested, are_requested_within, are_requested}
use Rattle.packages.specs.Signals.{most_signals, signal_entry, signals_in, is_writable_signal, are_writable_signals}
use Rattle.event_syntax.specs.Detect.{most_events}
use Rattle.event_syntax.specs.Events.{events_called, is_writable}
use Rattle.event_syntax.specs.Actions.{Word, keeps, acts, embeds, word_named, word_with, word_from, word_of, Joined, plain, embed, accumulate_and_embed, by_one, by_two, joined_of, not_keeps, Said, saying, said_by, said_of, said_in, takes, Rule, ruled_by, rule_from, rule_of}
use Rattle.event_syntax.specs.Embedding.{embedded_event_by, embedded_event, nothing_embedded, with_events, with_signals, with_map, with_part_named, with_part_in, with_part_from, with_part, with_parts, embedded_in, Gives}
use Rattle.event_syntax.specs.Requested.{requested_by, reaction_of, requested, requested_in, requested_of, events_part, signals_part, map_part, parts_text, is_writable_embedded_event, is_writable_map, is_something, is_writable_request, is_writable_entry, are_writable_requested}
use Rattle.event_syntax.proofs.ActionLemmas.{embed_alike, both_alike}
use Rattle.packages.proofs.JoinLemmas.{false_of_not}
use Rattle.packages.proofs.PartLemmas.{some_pieces}
use Rattle.packages.proofs.PassLemmas.{Passes, passes_on, passes_more, passes_each, along}
use Rattle.packages.proofs.SignalReading.{entry_passes}
use Rattle.event_syntax.proofs.EventLemmas.{called_passes}

-- texts that are spelled
pub passes_all : {A : Type 0} (spelled : List ℕ → Bool) (test : A → Bool) (read : List ℕ → Result A ℕ) (texts : List (List ℕ))
    → list_all spelled texts ≡ true → ((text : List ℕ) → spelled text ≡ true → Passes (λ x. test x ≡ true) (read text))
    → Passes (λ xs. (list_all test xs ≡ true) × (length xs ≡ length texts)) (each read texts)
unfolding each
passes_all spelled test read [] all one = (refl, refl)
passes_all spelled test read (text ∷ texts) all one =
    let parts : (spelled text ≡ true) × (list_all spelled texts ≡ true) = both_true _ _ all in
    passes_on (λ x. test x ≡ true) _ (read text) _ (one text parts.0)
    (λ x here. passes_on (λ xs. (list_all test xs ≡ true) × (length xs ≡ length texts)) _ (each read texts) _
    (passes_all spelled test read texts parts.1 one)
    (λ xs rest. (rw here (rest.0), ap suc (rest.1))))

-- what is embedded is spelled
abbrev are_inner_parts : (List ℕ → Bool) → List ℕ → Bool
are_inner_parts inner inside = are_parts inner (items inside)

abbrev word_fits : (List ℕ → Bool) → Word → Bool
word_fits inner keeps = true
word_fits inner (acts action) = true
word_fits inner (embeds inside) = are_inner_parts inner inside

abbrev pub joined_fits : (List ℕ → Bool) → Joined → Bool
joined_fits inner (plain action) = true
joined_fits inner (embed inside) = are_inner_parts inner inside
joined_fits inner (accumulate_and_embed inside) = are_inner_parts inner inside

-- words
one_of : (inner : List ℕ → Bool) (n a d i k : Bool) → Passes (λ word. word_fits inner word ≡ true)
    (if n then Ok (acts Notify) else (if a then Ok (acts Accumulate) else (if d then Ok (acts Dial) else
    (if i then Ok (acts Ignore) else (if k then Ok keeps else Err 523)))))
one_of inner true a d i k = refl
one_of inner false true d i k = refl
one_of inner false false true i k = refl
one_of inner false false false true k = refl
one_of inner false false false false true = refl
one_of inner false false false false false = lit≤ tt

named_passes : (inner : List ℕ → Bool) (name : List ℕ) → Passes (λ word. word_fits inner word ≡ true) (word_named name)
named_passes inner name =
    one_of inner (same_but_case name (codes "N")) (same_but_case name (codes "A")) (same_but_case name (codes "D"))
    (same_but_case name (codes "I")) (same_but_case name (codes "K"))

word_passes_from : (inner : List ℕ → Bool) (form : Option Form) → is_action_from inner form ≡ true
    → Passes (λ word. word_fits inner word ≡ true) (word_from form)
word_passes_from inner None spelled = lit≤ tt
word_passes_from inner (Some form) spelled = with_passes form.head form.inside spelled
  where
    with_passes : (name : List ℕ) (inside : List (List ℕ)) → is_action_with inner name inside ≡ true
        → Passes (λ word. word_fits inner word ≡ true) (word_with name inside)
    with_passes name [] spelled = named_passes inner name
    with_passes name (inside ∷ []) spelled = (both_true _ _ spelled).1
    with_passes name (first ∷ second ∷ rest) spelled = absurd cc

word_passes : (inner : List ℕ → Bool) (action : List ℕ) → is_action inner action ≡ true
    → Passes (λ word. word_fits inner word ≡ true) (word_of action)
unfolding is_action word_of
word_passes inner action spelled = word_passes_from inner (form_of action) spelled

-- what they say together
one_passes : (inner : List ℕ → Bool) (word : Word) → word_fits inner word ≡ true → Passes (λ joined. joined_fits inner joined ≡ true) (by_one word)
one_passes inner keeps fits = lit≤ tt
one_passes inner (acts action) fits = refl
one_passes inner (embeds inside) fits = fits

two_pass : (inner : List ℕ → Bool) (first second : Word) → word_fits inner first ≡ true → word_fits inner second ≡ true
    → Passes (λ joined. joined_fits inner joined ≡ true) (by_two first second)
two_pass inner keeps second here there = lit≤ tt
two_pass inner (acts Notify) second here there = lit≤ tt
two_pass inner (acts Accumulate) keeps here there = lit≤ tt
two_pass inner (acts Accumulate) (acts action) here there = lit≤ tt
two_pass inner (acts Accumulate) (embeds inside) here there = there
two_pass inner (acts Dial) second here there = lit≤ tt
two_pass inner (acts Ignore) second here there = lit≤ tt
two_pass inner (embeds inside) keeps here there = lit≤ tt
two_pass inner (embeds inside) (acts Notify) here there = lit≤ tt
two_pass inner (embeds inside) (acts Accumulate) here there = here
two_pass inner (embeds inside) (acts Dial) here there = lit≤ tt
two_pass inner (embeds inside) (acts Ignore) here there = lit≤ tt
two_pass inner (embeds inside) (embeds other) here there = lit≤ tt

joined_passes : (inner : List ℕ → Bool) (words : List Word) → list_all (word_fits inner) words ≡ true
    → Passes (λ joined. joined_fits inner joined ≡ true) (joined_of words)
joined_passes inner [] fits = refl
joined_passes inner (word ∷ []) fits = one_passes inner word (both_true _ _ fits).0
joined_passes inner (first ∷ second ∷ []) fits =
    let parts : (word_fits inner first ≡ true) × ((word_fits inner second && true) ≡ true) = both_true _ _ fits in
    two_pass inner first second parts.0 (both_true _ _ parts.1).0
joined_passes inner (first ∷ second ∷ third ∷ rest) fits = lit≤ tt

others_fit : (inner : List ℕ → Bool) (words : List Word) → list_all (word_fits inner) words ≡ true
    → list_all (word_fits inner) (filter not_keeps words) ≡ true
others_fit inner [] fits = refl
others_fit inner (keeps ∷ words) fits = others_fit inner words fits
others_fit inner (acts action ∷ words) fits = others_fit inner words fits
others_fit inner (embeds inside ∷ words) fits =
    let parts : (are_inner_parts inner inside ≡ true) × (list_all (word_fits inner) words ≡ true) = both_true _ _ fits in
    rw (parts.0) (others_fit inner words parts.1)

by_passes : (inner : List ℕ → Bool) (words : List Word) → list_all (word_fits inner) words ≡ true
    → Passes (λ said. joined_fits inner said.joined ≡ true) (said_by words)
by_passes inner words fits = few_pass _ _ (joined_of (filter not_keeps words)) (joined_passes inner (filter not_keeps words) (others_fit inner words fits))
  where
    few_pass : (few keep : Bool) (read : Result Joined ℕ) → Passes (λ joined. joined_fits inner joined ≡ true) read
        → Passes (λ said. joined_fits inner said.joined ≡ true) (if few then read >>= saying keep else Err 523)
    few_pass true keep (Ok joined) here = here
    few_pass true keep (Err code) here = here
    few_pass false keep read here = lit≤ tt

said_passes : (inner : List ℕ → Bool) (actions : List (List ℕ)) → list_all (is_action inner) actions ≡ true
    → Passes (λ said. joined_fits inner said.joined ≡ true) (said_of actions)
unfolding said_of
said_passes inner actions spelled =
    passes_on (λ words. (list_all (word_fits inner) words ≡ true) × (length words ≡ length actions)) _ (each word_of actions) said_by
    (passes_all (is_action inner) (word_fits inner) word_of actions spelled (word_passes inner))
    (λ words read. by_passes inner words read.0)

-- the rule of an entry
pub record RuleFits (inner : List ℕ → Bool) (rule : Rule) : Type 0 where
  pub events : is_writable rule.events ≡ true
  pub taken : takes rule.events rule.joined ≡ true
  pub joined : joined_fits inner rule.joined ≡ true

ruled_passes : (inner : List ℕ → Bool) (events : Events) (said : Said) → is_writable events ≡ true → joined_fits inner said.joined ≡ true
    → Passes (RuleFits inner) (ruled_by events said)
ruled_passes inner events said ok fits =
    ⊎_elim
    (λ (h : takes events said.joined ≡ true). rw h (record { events = ok; taken = h; joined = fits }))
    (λ (h : takes events said.joined ≡ false). rw h (lit≤ tt))
    (cases_Bool (takes events said.joined))

event_spelled : (inner : List ℕ → Bool) (name : List ℕ) (inside : List (List ℕ)) → is_requested_with inner name inside ≡ true
    → is_event name ≡ true
event_spelled inner name [] spelled = spelled
event_spelled inner name (actions ∷ []) spelled = (both_true _ _ spelled).0
event_spelled inner name (actions ∷ parameters ∷ rest) spelled = (both_true _ _ (both_true _ _ spelled).0).0

said_in_passes : (inner : List ℕ → Bool) (name : List ℕ) (inside : List (List ℕ)) → is_requested_with inner name inside ≡ true
    → Passes (λ said. joined_fits inner said.joined ≡ true) (said_in inside)
said_in_passes inner name [] spelled = said_passes inner [] refl
said_in_passes inner name (actions ∷ []) spelled = said_passes inner (items actions) (both_true _ _ spelled).1
said_in_passes inner name (actions ∷ parameters ∷ rest) spelled = lit≤ tt

rule_passes_from : (inner : List ℕ → Bool) (form : Option Form) → is_requested_from inner form ≡ true → Passes (RuleFits inner) (rule_from form)
rule_passes_from inner None spelled = lit≤ tt
rule_passes_from inner (Some form) spelled =
    passes_on (λ events. is_writable events ≡ true) _ (events_called form.head) _ (called_passes form.head (event_spelled inner form.head form.inside spelled))
    (λ events ok. passes_on (λ said. joined_fits inner said.joined ≡ true) _ (said_in form.inside) _ (said_in_passes inner form.head form.inside spelled)
    (λ said fits. ruled_passes inner events said ok fits))

pub rule_passes : (inner : List ℕ → Bool) (entry : List ℕ) → is_requested inner entry ≡ true → Passes (RuleFits inner) (rule_of entry)
unfolding is_requested rule_of
rule_passes inner entry spelled = rule_passes_from inner (form_of entry) spelled

-- R in an embedded request
embedded_passes : (inner : List ℕ → Bool) (entry : List ℕ) → is_requested inner entry ≡ true
    → Passes (λ event. is_writable_embedded_event event ≡ true) (embedded_event entry)
unfolding embedded_event
embedded_passes inner entry spelled =
    passes_on (RuleFits inner) _ (rule_of entry) _ (rule_passes inner entry spelled)
    (λ rule fits. by_joined rule.events rule.joined rule.keep fits.events fits.taken)
  where
    by_joined : (events : Events) (joined : Joined) (keep : Bool) → is_writable events ≡ true → takes events joined ≡ true
        → Passes (λ event. is_writable_embedded_event event ≡ true) (embedded_event_by (record { events = events; joined = joined; keep = keep }) joined)
    by_joined events (plain action) keep ok taken = rw (ok) taken
    by_joined events (embed inside) keep ok taken = lit≤ tt
    by_joined events (accumulate_and_embed inside) keep ok taken = lit≤ tt

-- a text without blanks round it: it is empty, or isn't blank
abbrev is_whole : List ℕ → Bool
is_whole [] = true
is_whole (b ∷ bs) = not (is_blank b)

whole_start : (text : List ℕ) → is_whole (trimmed_start text) ≡ true
whole_start [] = refl
whole_start (b ∷ bs) =
    ⊎_elim (λ (h : is_blank b ≡ true). rw h (whole_start bs)) (λ (h : is_blank b ≡ false). rw (h, h) refl) (cases_Bool (is_blank b))

whole_take : (n : ℕ) (text : List ℕ) → is_whole text ≡ true → is_whole (take n text) ≡ true
whole_take zero text whole = refl
whole_take (suc n) [] whole = refl
whole_take (suc n) (b ∷ bs) whole = whole

whole_trimmed : (text : List ℕ) → is_whole (trimmed text) ≡ true
unfolding trimmed trimmed_end
whole_trimmed text = whole_take _ (trimmed_start text) (whole_start text)

all_whole : (texts : List (List ℕ)) → list_all is_whole (map trimmed texts) ≡ true
all_whole [] = refl
all_whole (text ∷ texts) = rw (whole_trimmed text) (all_whole texts)

abbrev inside_whole : Option Form → Bool
inside_whole None = true
inside_whole (Some form) = list_all is_whole form.inside

form_whole : (text : List ℕ) → inside_whole (form_of text) ≡ true
unfolding form_of
form_whole text = from_pieces (map trimmed (pieces Parentheses 0 text)) (all_whole (pieces Parentheses 0 text))
  where
    guarded : (test : Bool) (form : Form) → list_all is_whole form.inside ≡ true → inside_whole (if test then Some form else None) ≡ true
    guarded true form whole = whole
    guarded false form whole = refl

    from_pieces : (ps : List (List ℕ)) → list_all is_whole ps ≡ true → inside_whole (form_from ps) ≡ true
    from_pieces [] whole = refl
    from_pieces (head ∷ []) whole = refl
    from_pieces (head ∷ first ∷ []) whole = refl
    from_pieces (head ∷ first ∷ behind ∷ []) whole =
        let one : is_whole first ≡ true = (both_true _ _ (both_true _ _ whole).1).0 in
        guarded (is_empty behind) (record { head = head; inside = first ∷ [] }) (rw one refl)
    from_pieces (head ∷ first ∷ between ∷ second ∷ []) whole = refl
    from_pieces (head ∷ first ∷ between ∷ second ∷ behind ∷ []) whole =
        let rest : list_all is_whole (first ∷ between ∷ second ∷ behind ∷ []) ≡ true = (both_true _ _ whole).1 in
        let one : is_whole first ≡ true = (both_true _ _ rest).0 in
        let two : is_whole second ≡ true = (both_true _ _ (both_true _ _ (both_true _ _ rest).1).1).0 in
        guarded (is_empty between && is_empty behind) (record { head = head; inside = first ∷ second ∷ [] }) (rw (one, two) refl)
    from_pieces (head ∷ first ∷ between ∷ second ∷ behind ∷ more ∷ rest) whole = refl

-- so entries of what stands in parentheses are there
some_entries : (text : List ℕ) → is_whole text ≡ true → leb 1 (length text) ≡ true → leb 1 (length (entries text)) ≡ true
unfolding entries items
some_entries [] whole some = absurd cc
some_entries (b ∷ bs) whole some =
    let solid : is_blank b ≡ false = false_of_not _ whole in
    rw (solid, length-map (pieces Commas 0 (b ∷ bs)) trimmed) (le-leb _ _ (some_pieces 0 (b ∷ bs)))

-- An embedded request

record Good (request : EmbeddedRequest) : Type 0 where
  few : leb (length request.events) most_events ≡ true
  events : list_all is_writable_embedded_event request.events ≡ true
  signals : are_writable_signals request.signals ≡ true
  map : is_writable_map request.map ≡ true

abbrev HasPart : EmbeddedRequest → Type 0
HasPart request = is_something (parts_text request) ≡ true

has_events : (request : EmbeddedRequest) → leb 1 (length request.events) ≡ true → HasPart request
has_events request some = front request.events some
  where
    front : (events : List EmbeddedEvent) → leb 1 (length events) ≡ true
        → is_something (events_part events ++ (signals_part request.signals ++ map_part request.map)) ≡ true
    front [] some = absurd cc
    front (event ∷ events) some = refl

has_signals : (request : EmbeddedRequest) → leb 1 (length request.signals) ≡ true → HasPart request
has_signals request some = middle request.events request.signals some
  where
    middle : (events : List EmbeddedEvent) (signals : List SignalRequest) → leb 1 (length signals) ≡ true
        → is_something (events_part events ++ (signals_part signals ++ map_part request.map)) ≡ true
    middle [] [] some = absurd cc
    middle [] (signal ∷ signals) some = refl
    middle (event ∷ events) signals some = refl

has_map : (events : List EmbeddedEvent) (signals : List SignalRequest) (text : List ℕ)
    → is_something (events_part events ++ (signals_part signals ++ map_part (Some text))) ≡ true
has_map [] [] text = refl
has_map [] (signal ∷ signals) text = refl
has_map (event ∷ events) signals text = refl

abbrev Whole : EmbeddedRequest → Type 0
Whole request = Good request × HasPart request

-- what stands in the parentheses of a part
record Inside (text : List ℕ) : Type 0 where
  whole : is_whole text ≡ true
  some : leb 1 (length text) ≡ true

abbrev AreRead : List (List ℕ) → List EmbeddedEvent → Type 0
AreRead texts events =
    (leb (length events) most_events ≡ true) × (list_all is_writable_embedded_event events ≡ true) × (length events ≡ length texts)

events_read : (inner : List ℕ → Bool) (texts : List (List ℕ)) → list_all (is_requested inner) texts ≡ true
    → Passes (AreRead texts) (each_up_to most_events embedded_event texts)
events_read inner texts spelled =
    ⊎_elim
    (λ (h : leb (length texts) most_events ≡ true). rw h (passes_more _ _ (each embedded_event texts)
    (passes_all (is_requested inner) is_writable_embedded_event embedded_event texts spelled (embedded_passes inner))
    (λ events read. (rw (read.1) h, read.0, read.1))))
    (λ (h : leb (length texts) most_events ≡ false). rw h (lit≤ tt))
    (cases_Bool (leb (length texts) most_events))

with_events_passes : (depth : ℕ) (request : EmbeddedRequest) (value : List ℕ) → Good request → Inside value
    → are_requested_within depth value ≡ true → Passes Whole (with_events request value)
unfolding are_requested_within
with_events_passes zero request value good inside spelled = absurd cc
with_events_passes (suc depth) request value good inside spelled =
    passes_on (AreRead (entries value)) Whole (each_up_to most_events embedded_event (entries value)) _ (events_read (are_requested_within depth) (entries value) spelled)
    (λ events read. (
      record { few = read.0; events = read.1; signals = good.signals; map = good.map },
      has_events (record request { events = events }) (rw (read.2) (some_entries value inside.whole inside.some)),
    ))

signals_read : (texts : List (List ℕ))
    → Passes (λ signals. (are_writable_signals signals ≡ true) × (length signals ≡ length texts)) (each_up_to most_signals signal_entry texts)
unfolding are_writable_signals
signals_read texts =
    ⊎_elim
    (λ (h : leb (length texts) most_signals ≡ true). rw h (passes_more _ _ (each signal_entry texts) (passes_each is_writable_signal signal_entry texts entry_passes)
    (λ signals read. (rw (read.1, h) read.0, read.1))))
    (λ (h : leb (length texts) most_signals ≡ false). rw h (lit≤ tt))
    (cases_Bool (leb (length texts) most_signals))

with_signals_passes : (request : EmbeddedRequest) (value : List ℕ) → Good request → Inside value → Passes Whole (with_signals request value)
unfolding signals_in
with_signals_passes request value good inside =
    passes_on (λ signals. (are_writable_signals signals ≡ true) × (length signals ≡ length (entries value))) Whole
    (each_up_to most_signals signal_entry (entries value)) _ (signals_read (entries value))
    (λ signals read. (
      record { few = good.few; events = good.events; signals = read.0; map = good.map },
      has_signals (record request { signals = signals }) (rw (read.1) (some_entries value inside.whole inside.some)),
    ))

map_read : (value : List ℕ) (read : Result (List ℕ) MapFault) → map_of value ≡ read
    → Passes (λ map. is_writable_map (Some map) ≡ true) (or_code read)
map_read value (Ok map) is = rw (read_again value map is) ((bytes_eq-Decides map map).1 refl)
map_read value (Err map_faults.Syntax) is = lit≤ tt
map_read value (Err map_faults.TooLarge) is = lit≤ tt
map_read value (Err map_faults.OutOfMemory) is = lit≤ tt

with_map_passes : (request : EmbeddedRequest) (value : List ℕ) → Good request → Passes Whole (with_map request value)
with_map_passes request value good =
    passes_on (λ map. is_writable_map (Some map) ≡ true) Whole (or_code (map_of value)) _ (map_read value (map_of value) refl)
    (λ map ok. (
      record { few = good.few; events = good.events; signals = good.signals; map = ok },
      has_map request.events request.signals map,
    ))

part_passes_in : (depth : ℕ) (request : EmbeddedRequest) (name value : List ℕ) → Good request → is_whole value ≡ true
    → is_part_in (are_requested_within depth) name value ≡ true → Passes Whole (with_part_named request name value)
part_passes_in depth request name value good whole spelled =
    named (same_but_case name (codes "R")) (same_but_case name (codes "S")) (both_true _ _ spelled).1
  where
    inside : Inside value
    inside = record { whole = whole; some = (both_true _ _ spelled).0 }

    named : (r s : Bool) → (if r then are_requested_within depth value else (if s then are_signals value else same_but_case name (codes "D"))) ≡ true
        → Passes Whole (if r then with_events request value else (if s then with_signals request value else with_map request value))
    named true s spelled = with_events_passes depth request value good inside spelled
    named false true spelled = with_signals_passes request value good inside
    named false false spelled = with_map_passes request value good

part_passes_from : (depth : ℕ) (request : EmbeddedRequest) (form : Option Form) → Good request → inside_whole form ≡ true
    → is_part_from (are_requested_within depth) form ≡ true → Passes Whole (with_part_from request form)
part_passes_from depth request None good whole spelled = absurd cc
part_passes_from depth request (Some form) good whole spelled = of_inside form.inside whole spelled
  where
    of_inside : (inside : List (List ℕ)) → list_all is_whole inside ≡ true → is_part_with (are_requested_within depth) form.head inside ≡ true
        → Passes Whole (with_part_in request form.head inside)
    of_inside [] whole spelled = absurd cc
    of_inside (value ∷ []) whole spelled = part_passes_in depth request form.head value good (both_true _ _ whole).0 spelled
    of_inside (value ∷ other ∷ rest) whole spelled = absurd cc

part_passes : (depth : ℕ) (request : EmbeddedRequest) (part : List ℕ) → Good request → is_part (are_requested_within depth) part ≡ true
    → Passes Whole (with_part request part)
unfolding is_part with_part
part_passes depth request part good spelled = part_passes_from depth request (form_of part) good (form_whole part) spelled

parts_pass : (depth : ℕ) (request : EmbeddedRequest) (parts : List (List ℕ)) → Whole request
    → list_all (is_part (are_requested_within depth)) parts ≡ true → Passes Whole (with_parts request parts)
unfolding with_parts
parts_pass depth request [] good spelled = good
parts_pass depth request (part ∷ parts) good spelled =
    let all : (is_part (are_requested_within depth) part ≡ true) × (list_all (is_part (are_requested_within depth)) parts ≡ true) =
    both_true _ _ spelled in
    passes_on Whole Whole (with_part request part) (λ more. with_parts more parts) (part_passes depth request part good.0 all.0)
    (λ more good. parts_pass depth more parts good all.1)

some_pass : (depth : ℕ) (request : EmbeddedRequest) (parts : List (List ℕ)) → Good request → leb 1 (length parts) ≡ true
    → list_all (is_part (are_requested_within depth)) parts ≡ true → Passes Whole (with_parts request parts)
unfolding with_parts
some_pass depth request [] good some spelled = absurd cc
some_pass depth request (part ∷ parts) good some spelled =
    let all : (is_part (are_requested_within depth) part ≡ true) × (list_all (is_part (are_requested_within depth)) parts ≡ true) =
    both_true _ _ spelled in
    passes_on Whole Whole (with_part request part) (λ more. with_parts more parts) (part_passes depth request part good all.0)
    (λ more good. parts_pass depth more parts good all.1)

nothing_good : Good nothing_embedded
unfolding are_writable_signals
nothing_good = record { few = refl; events = refl; signals = refl; map = refl }

writable_whole : (request : EmbeddedRequest) → Whole request → is_writable_request request ≡ true
writable_whole request whole = rw (whole.0.few, whole.0.events, whole.0.signals, whole.0.map) whole.1

some_items : (text : List ℕ) → leb 1 (length (items text)) ≡ true
unfolding items
some_items text = rw (length-map (pieces Commas 0 text) trimmed) (le-leb _ _ (some_pieces 0 text))

inside_passes : (depth : ℕ) (inside : List ℕ) → are_inner_parts (are_requested_within depth) inside ≡ true
    → Passes (λ request. is_writable_request request ≡ true) (embedded_in inside)
unfolding embedded_in
inside_passes depth inside spelled =
    passes_more Whole _ (with_parts nothing_embedded (items inside))
    (some_pass depth nothing_embedded (items inside) nothing_good (some_items inside) (both_true _ _ (both_true _ _ (both_true _ _ spelled).0).0).0)
    writable_whole

-- An entry, and the value

reaction_passes : (depth : ℕ) (rule : Rule) (joined : Joined) → is_writable rule.events ≡ true → takes rule.events joined ≡ true
    → joined_fits (are_requested_within depth) joined ≡ true
    → Passes (λ entry. is_writable_entry entry ≡ true) (reaction_of joined >>= λ reaction. Ok (requested_by rule reaction))
reaction_passes depth rule (plain action) ok taken fits = rw (ok, taken) refl
reaction_passes depth rule (embed inside) ok taken fits = of_read (embedded_in inside) (inside_passes depth inside fits)
  where
    of_read : (read : Result EmbeddedRequest ℕ) → Passes (λ request. is_writable_request request ≡ true) read
        → Passes (λ entry. is_writable_entry entry ≡ true) ((read >>= λ request. Ok (Embed request)) >>= λ reaction. Ok (requested_by rule reaction))
    of_read (Ok request) here = rw (ok, embed_alike rule.events [] inside ∙ taken) here
    of_read (Err code) here = here
reaction_passes depth rule (accumulate_and_embed inside) ok taken fits = of_read (embedded_in inside) (inside_passes depth inside fits)
  where
    of_read : (read : Result EmbeddedRequest ℕ) → Passes (λ request. is_writable_request request ≡ true) read
        → Passes (λ entry. is_writable_entry entry ≡ true) ((read >>= λ request. Ok (AccumulateAndEmbed request)) >>= λ reaction. Ok (requested_by rule reaction))
    of_read (Ok request) here = rw (ok, both_alike rule.events [] inside ∙ taken) here
    of_read (Err code) here = here

requested_passes : (depth : ℕ) (entry : List ℕ) → is_requested (are_requested_within depth) entry ≡ true
    → Passes (λ entry. is_writable_entry entry ≡ true) (requested entry)
unfolding requested
requested_passes depth entry spelled =
    passes_on (RuleFits (are_requested_within depth)) _ (rule_of entry) _ (rule_passes (are_requested_within depth) entry spelled)
    (λ rule fits. reaction_passes depth rule rule.joined fits.events fits.taken fits.joined)

requested_in_passes : (depth : ℕ) (texts : List (List ℕ)) → list_all (is_requested (are_requested_within depth)) texts ≡ true
    → Passes (λ list. are_writable_requested list ≡ true) (each_up_to most_events requested texts)
unfolding are_writable_requested
requested_in_passes depth texts spelled =
    ⊎_elim
    (λ (h : leb (length texts) most_events ≡ true). rw h (passes_more _ _ (each requested texts)
    (passes_all (is_requested (are_requested_within depth)) is_writable_entry requested texts spelled (requested_passes depth))
    (λ list read. rw (read.1, h) read.0)))
    (λ (h : leb (length texts) most_events ≡ false). rw h (lit≤ tt))
    (cases_Bool (leb (length texts) most_events))

value_passes : (value : List ℕ) → are_requested value ≡ true → Passes (λ list. are_writable_requested list ≡ true) (requested_in value)
unfolding are_requested are_requested_within requested_in
value_passes value spelled = requested_in_passes (length value) (entries value) spelled

of_spelled : (value : List ℕ) → are_requested value ≡ true → requested_of value ≡ requested_in value
unfolding requested_of
of_spelled value spelled = rw spelled refl

pub read_answers : (value : List ℕ) (result : Result (List RequestedEvent) CodeFault) → are_requested value ≡ true
    → Gives (requested_in value) result → AnswersAs (requested_of value) result
read_answers value (Ok list) spelled gives = of_spelled value spelled ∙ gives
read_answers value (Err (Code code)) spelled gives =
    (of_spelled value spelled ∙ gives, along (λ list. are_writable_requested list ≡ true) _ (Err code) gives (value_passes value spelled))
read_answers value (Err OutOfMemory) spelled gives = tt

pub read_is_writable : (value : List ℕ) (result : Result (List RequestedEvent) CodeFault) → are_requested value ≡ true
    → Gives (requested_in value) result → IfOk result (λ list. are_writable_requested list ≡ true)
read_is_writable value (Ok list) spelled gives = along (λ list. are_writable_requested list ≡ true) _ (Ok list) gives (value_passes value spelled)
read_is_writable value (Err fault) spelled gives = tt
