-- What is written of an embedded request is read again.
use Rattle.std.proofs.Common.{◌≡◌, ℕ, ◌<◌, ◌≤◌, ◌+◌, suc, Bool, true, false, ◌&&◌, cond, leb, List, [], ◌∷◌, ◌++◌, length, map, refl, sym, ap, ◌∙◌, append-nil, arith, Option, Some, None}
use Rattle.std.specs.Prelude.{not, Ok, Err, Result, codes, count_by, if◌then◌else◌}
use Rattle.std.specs.List.{list_all, AllByRecursion, join_with_byte}
use Rattle.std.proofs.lemmas.Bool.{le-leb}
use Rattle.std.proofs.lemmas.List.{length-map}
use Rattle.std.proofs.lemmas.List.Folds.{list_all-append}
use Rattle.std.proofs.lemmas.List.Sums.{sum_by-append}
use Rattle.std.proofs.lemmas.Slice.Eq.{bytes_eq-Decides}
use Rattle.mg_bytes.specs.Case.{same_but_case}
use Rattle.mg_bytes.proofs.DigitLemmas.{both_true}
use Rattle.digit_map.specs.declared.fault.MapFault.{MapFault}
use Rattle.digit_map.specs.Reading.{map_of}
use Rattle.digit_map.proofs.ReadingLaws.{read_spelled}
use Rattle.event_syntax.specs.declared.events.Events.{Events}
use Rattle.event_syntax.specs.declared.request.Action.{Action}
use Rattle.event_syntax.specs.declared.request.Action.TheVariants.{Notify, Accumulate, Dial, Ignore}
use Rattle.event_syntax.specs.declared.request.EmbeddedEvent.{EmbeddedEvent}
use Rattle.event_syntax.specs.declared.request.EmbeddedRequest.{EmbeddedRequest}
use Rattle.packages.specs.declared.signals.SignalRequest.{SignalRequest}
use Rattle.packages.specs.Cuts.{items, entries}
use Rattle.packages.specs.Faults.{each}
use Rattle.packages.specs.Spelling.{is_word}
use Rattle.packages.specs.SignalSpelling.{is_signal_entry, are_signals}
use Rattle.event_syntax.specs.RequestSpelling.{is_part_in, is_part, is_called, are_parts, is_embed, is_action, is_requested, are_requested_within}
use Rattle.packages.specs.Signals.{signals_text, is_writable_signal, are_writable_signals, signal_entry, signal_entry_text, signals_in, most_signals}
use Rattle.event_syntax.specs.Events.{events_text, is_writable}
use Rattle.event_syntax.specs.Actions.{Word, keeps, acts, embeds, word_named, word_of, plain, Said, said_by, said_of, takes, Rule, rule_of}
use Rattle.event_syntax.specs.Embedding.{embedded_event, nothing_embedded, with_part_named, with_part, with_parts, embedded_in}
use Rattle.event_syntax.specs.Requested.{action_text, keep_text, listed, embedded_event_text, events_part, signals_part, map_part, parts_text, embedded_text, is_writable_embedded_event, is_same_map, is_writable_map, is_something, is_writable_request}
use Rattle.packages.proofs.JoinLemmas.{name_entry, name_form, flat_is_calm, is_plain, is_flat, IsEntry, entries_join, items_join, plain_join, grouped}
use Rattle.packages.proofs.ClosedLemmas.{calm_closed, IsClosed, closed_group, closed_join, closed_entry, closed_form}
use Rattle.packages.proofs.SignalLaws as signals
use Rattle.event_syntax.proofs.EventLaws.{events_again}
use Rattle.event_syntax.proofs.RequestMaps.{IsInner, map_inner}
use Rattle.event_syntax.specs.Detect.{most_events}

-- a list of entries can stand in parentheses
pub join_some : (e : List ℕ) (es : List (List ℕ)) → 0 < length e → leb 1 (length (join_with_byte 44 (e ∷ es))) ≡ true
join_some [] es some = absurd (omega arith)
join_some (b ∷ bs) [] some = le-leb _ _ (omega arith)
join_some (b ∷ bs) (f ∷ fs) some = le-leb _ _ (omega arith)

pub list_inner : (e : List ℕ) (es : List (List ℕ)) → AllByRecursion IsEntry (e ∷ es) → AllByRecursion IsClosed (e ∷ es)
    → IsInner (join_with_byte 44 (e ∷ es))
list_inner e es are closed = record { closed = closed_join e es closed; plain = plain_join e es are; some = join_some e es are.0.some }

-- Actions

pub record ReadsAction (inner : List ℕ → Bool) (text : List ℕ) (word : Word) : Type 0 where
  pub entry : IsEntry text
  pub closed : IsClosed text
  pub spelled : is_action inner text ≡ true
  pub read : word_of text ≡ Ok word

word_reads : (inner : List ℕ → Bool) (b : ℕ) (word : Word) → is_flat (b ∷ []) ≡ true → is_plain (b ∷ []) ≡ true
    → (is_word (b ∷ []) && not (is_embed (b ∷ []))) ≡ true → word_named (b ∷ []) ≡ Ok word → ReadsAction inner (b ∷ []) word
unfolding is_action word_of
word_reads inner b word flat solid spelled read =
    let form = name_form (b ∷ []) flat solid in
    record {
      entry = name_entry (b ∷ []) flat solid (omega arith);
      closed = calm_closed (b ∷ []) (flat_is_calm (b ∷ []) flat);
      spelled = rw form spelled;
      read = rw form read;
    }

pub action_reads : (inner : List ℕ → Bool) (action : Action) → ReadsAction inner (action_text action) (acts action)
action_reads inner Notify = word_reads inner 78 (acts Notify) refl refl refl refl
action_reads inner Accumulate = word_reads inner 65 (acts Accumulate) refl refl refl refl
action_reads inner Dial = word_reads inner 68 (acts Dial) refl refl refl refl
action_reads inner Ignore = word_reads inner 73 (acts Ignore) refl refl refl refl

keep_reads : (inner : List ℕ → Bool) → ReadsAction inner (75 ∷ []) keeps
keep_reads inner = word_reads inner 75 keeps refl refl refl refl

-- a list of them
pub record ReadsActions (inner : List ℕ → Bool) (texts : List (List ℕ)) (words : List Word) : Type 0 where
  pub entries : AllByRecursion IsEntry texts
  pub closed : AllByRecursion IsClosed texts
  pub spelled : list_all (is_action inner) texts ≡ true
  pub read : each word_of texts ≡ Ok words

no_actions : (inner : List ℕ → Bool) → ReadsActions inner [] []
unfolding each
no_actions inner = record { entries = tt; closed = tt; spelled = refl; read = refl }

pub and_action : (inner : List ℕ → Bool) (text : List ℕ) (word : Word) (texts : List (List ℕ)) (words : List Word)
    → ReadsAction inner text word → ReadsActions inner texts words → ReadsActions inner (text ∷ texts) (word ∷ words)
unfolding each
and_action inner text word texts words one rest = record {
  entries = (one.entry, rest.entries);
  closed = (one.closed, rest.closed);
  spelled = rw (one.spelled) rest.spelled;
  read = rw (one.read, rest.read) refl;
}

-- K comes last
abbrev pub keep_words : Bool → List Word
keep_words keep = if keep then keeps ∷ [] else []

pub keep_actions : (inner : List ℕ → Bool) (keep : Bool) → ReadsActions inner (keep_text keep) (keep_words keep)
keep_actions inner true = and_action inner (75 ∷ []) keeps [] [] (keep_reads inner) (no_actions inner)
keep_actions inner false = no_actions inner

-- An entry with such actions

pub record ReadsEntry (inner : List ℕ → Bool) (text : List ℕ) (rule : Rule) : Type 0 where
  pub entry : IsEntry text
  pub closed : IsClosed text
  pub spelled : is_requested inner text ≡ true
  pub read : rule_of text ≡ Ok rule

pub entry_reads : (inner : List ℕ → Bool) (events : Events) (text : List ℕ) (texts : List (List ℕ)) (words : List Word) (said : Said)
    → is_writable events ≡ true → ReadsActions inner (text ∷ texts) words → said_by words ≡ Ok said → takes events said.joined ≡ true
    → ReadsEntry inner (grouped (events_text events) (listed (text ∷ texts))) (record { events = events; joined = said.joined; keep = said.keep })
unfolding is_requested rule_of said_of
entry_reads inner events text texts words said ok actions says taken =
    let named = events_again events ok in
    let list = list_inner text texts actions.entries actions.closed in
    let cut : items (listed (text ∷ texts)) ≡ text ∷ texts = items_join text texts actions.entries in
    let form = closed_form (events_text events) (listed (text ∷ texts)) named.flat named.plain list.closed list.plain in
    record {
      entry = closed_entry (events_text events) (listed (text ∷ texts)) named.flat named.plain list.closed list.plain;
      closed = closed_group (events_text events) (listed (text ∷ texts)) named.flat list.closed;
      spelled = rw (form, named.spelled, cut) actions.spelled;
      read = rw (form, named.called, cut, actions.read, says, taken) refl;
    }

-- R in an embedded request

pub plain_says : (action : Action) (keep : Bool) → said_by (acts action ∷ keep_words keep) ≡ Ok (record { joined = plain action; keep = keep })
plain_says action true = refl
plain_says action false = refl

event_reads : (inner : List ℕ → Bool) (e : EmbeddedEvent) → is_writable_embedded_event e ≡ true
    → ReadsEntry inner (embedded_event_text e) (record { events = e.events; joined = plain e.action; keep = e.keep })
unfolding embedded_event_text
event_reads inner e ok =
    let parts : (is_writable e.events ≡ true) × (takes e.events (plain e.action) ≡ true) = both_true _ _ ok in
    entry_reads inner e.events (action_text e.action) (keep_text e.keep) (acts e.action ∷ keep_words e.keep) (record { joined = plain e.action; keep = e.keep })
    parts.0 (and_action inner _ _ _ _ (action_reads inner e.action) (keep_actions inner e.keep)) (plain_says e.action e.keep) parts.1

event_again : (e : EmbeddedEvent) → is_writable_embedded_event e ≡ true → embedded_event (embedded_event_text e) ≡ Ok e
unfolding embedded_event
event_again e ok = rw ((event_reads (λ text. true) e ok).read) refl

record ReadsEvents (events : List EmbeddedEvent) : Type 0 where
  entries : AllByRecursion IsEntry (map embedded_event_text events)
  closed : AllByRecursion IsClosed (map embedded_event_text events)
  spelled : (inner : List ℕ → Bool) → list_all (is_requested inner) (map embedded_event_text events) ≡ true
  read : each embedded_event (map embedded_event_text events) ≡ Ok events

events_read : (events : List EmbeddedEvent) → list_all is_writable_embedded_event events ≡ true → ReadsEvents events
unfolding each
events_read [] ok = record { entries = tt; closed = tt; spelled = λ inner. refl; read = refl }
events_read (e ∷ es) ok =
    let parts : (is_writable_embedded_event e ≡ true) × (list_all is_writable_embedded_event es ≡ true) = both_true _ _ ok in
    let one = event_reads (λ text. true) e parts.0 in
    let rest = events_read es parts.1 in
    record {
      entries = (one.entry, rest.entries);
      closed = (one.closed, rest.closed);
      spelled = λ (inner : List ℕ → Bool). rw ((event_reads inner e parts.0).spelled) (rest.spelled inner);
      read = rw (event_again e parts.0, rest.read) refl;
    }

-- The parts

-- parts of one kind, which take a request on
record Parts (head : List ℕ) (was is : EmbeddedRequest) (parts : List (List ℕ)) : Type 0 where
  entries : AllByRecursion IsEntry parts
  closed : AllByRecursion IsClosed parts
  spelled : (k : ℕ) → list_all (is_part (are_requested_within (suc k))) parts ≡ true
  called : (name : List ℕ) → count_by (is_called name) parts ≤ cond (same_but_case head name) 1 0
  read : (more : List (List ℕ)) → with_parts was (parts ++ more) ≡ with_parts is more

none_called : (head name : List ℕ) → 0 ≤ cond (same_but_case head name) 1 0
none_called head name = omega arith

no_part : (head : List ℕ) (was : EmbeddedRequest) → Parts head was was []
no_part head was = record { entries = tt; closed = tt; spelled = λ k. refl; called = none_called head; read = λ more. refl }

one_part : (head inside : List ℕ) (was is : EmbeddedRequest) → is_flat head ≡ true → is_plain head ≡ true → IsInner inside
    → ((k : ℕ) → is_part_in (are_requested_within (suc k)) head inside ≡ true) → with_part_named was head inside ≡ Ok is
    → Parts head was is (grouped head inside ∷ [])
unfolding is_part is_called with_part with_parts
one_part head inside was is flat solid inner spelled read =
    let form = closed_form head inside flat solid inner.closed inner.plain in
    record {
      entries = (closed_entry head inside flat solid inner.closed inner.plain, tt);
      closed = (closed_group head inside flat inner.closed, tt);
      spelled = λ (k : ℕ). rw (form, spelled k) refl;
      called = λ (name : List ℕ). rw form (omega arith);
      read = λ (more : List (List ℕ)). rw (form, read) refl;
    }

events_parts : (was : EmbeddedRequest) (events : List EmbeddedEvent) → was.events ≡ [] → leb (length events) most_events ≡ true
    → list_all is_writable_embedded_event events ≡ true
    → Parts (codes "R") was (record was { events = events }) (events_part events)
unfolding are_requested_within
events_parts was [] none few ok = rw none (no_part (codes "R") (record was { events = [] }))
events_parts was (e ∷ es) none few ok =
    let reads = events_read (e ∷ es) ok in
    let text : List ℕ = listed (map embedded_event_text (e ∷ es)) in
    let inner : IsInner text = list_inner (embedded_event_text e) (map embedded_event_text es) reads.entries reads.closed in
    let cut : entries text ≡ map embedded_event_text (e ∷ es) = entries_join (map embedded_event_text (e ∷ es)) reads.entries in
    one_part (codes "R") text was (record was { events = e ∷ es }) refl refl inner
    (λ (k : ℕ). rw (inner.some, cut) (reads.spelled (are_requested_within k)))
    (rw (cut, length-map (e ∷ es) embedded_event_text, few, reads.read) refl)

record ReadsSignals (list : List SignalRequest) : Type 0 where
  entries : AllByRecursion IsEntry (map signal_entry_text list)
  closed : AllByRecursion IsClosed (map signal_entry_text list)
  spelled : list_all is_signal_entry (map signal_entry_text list) ≡ true
  read : each signal_entry (map signal_entry_text list) ≡ Ok list

signals_read : (list : List SignalRequest) → list_all is_writable_signal list ≡ true → ReadsSignals list
unfolding each
signals_read [] ok = record { entries = tt; closed = tt; spelled = refl; read = refl }
signals_read (s ∷ ss) ok =
    let both : (is_writable_signal s ≡ true) × (list_all is_writable_signal ss ≡ true) = both_true _ _ ok in
    let rest = signals_read ss both.1 in
    record {
      entries = (signals.entry_is_entry s both.0, rest.entries);
      closed = (signals.entry_closed s both.0, rest.closed);
      spelled = rw (signals.entry_spelled s both.0) rest.spelled;
      read = rw (signals.entry_again s both.0, rest.read) refl;
    }

signals_parts : (was : EmbeddedRequest) (list : List SignalRequest) → was.signals ≡ [] → are_writable_signals list ≡ true
    → Parts (codes "S") was (record was { signals = list }) (signals_part list)
unfolding are_writable_signals signals_text are_signals signals_in
signals_parts was [] none ok = rw none (no_part (codes "S") (record was { signals = [] }))
signals_parts was (s ∷ ss) none ok =
    let both : (leb (length (s ∷ ss)) most_signals ≡ true) × (list_all is_writable_signal (s ∷ ss) ≡ true) = both_true _ _ ok in
    let reads = signals_read (s ∷ ss) both.1 in
    let text : List ℕ = listed (map signal_entry_text (s ∷ ss)) in
    let inner : IsInner text = list_inner (signal_entry_text s) (map signal_entry_text ss) reads.entries reads.closed in
    let cut : entries text ≡ map signal_entry_text (s ∷ ss) = entries_join (map signal_entry_text (s ∷ ss)) reads.entries in
    one_part (codes "S") text was (record was { signals = s ∷ ss }) refl refl inner
    (λ (k : ℕ). rw (inner.some, cut) reads.spelled)
    (rw (cut, length-map (s ∷ ss) signal_entry_text, both.0, reads.read) refl)

same_map : (text : List ℕ) (read : Result (List ℕ) MapFault) → is_same_map text read ≡ true → read ≡ Ok text
same_map text (Ok map) same = ap Ok ((bytes_eq-Decides map text).0 same)
same_map text (Err fault) same = absurd cc

map_parts : (was : EmbeddedRequest) (map : Option (List ℕ)) → was.map ≡ None → is_writable_map map ≡ true
    → Parts (codes "D") was (record was { map = map }) (map_part map)
map_parts was None none ok = rw none (no_part (codes "D") (record was { map = None }))
map_parts was (Some text) none ok =
    let read : map_of text ≡ Ok text = same_map text (map_of text) ok in
    let inner : IsInner text = map_inner text (read_spelled text text read) in
    one_part (codes "D") text was (record was { map = Some text }) refl refl inner (λ (k : ℕ). rw (inner.some) refl) (rw read refl)

-- all of them

all_append : {A : Type 0} (P : A → Type 0) (xs ys : List A) → AllByRecursion P xs → AllByRecursion P ys → AllByRecursion P (xs ++ ys)
all_append P [] ys here there = there
all_append P (x ∷ xs) ys here there = (here.0, all_append P xs ys here.1 there)

pub record ReadsParts (request : EmbeddedRequest) : Type 0 where
  pub inner : IsInner (listed (parts_text request))
  pub cut : items (listed (parts_text request)) ≡ parts_text request
  pub spelled : (k : ℕ) → are_parts (are_requested_within (suc k)) (parts_text request) ≡ true
  pub read : with_parts nothing_embedded (parts_text request) ≡ Ok request

once : (name : List ℕ) (request : EmbeddedRequest) (r s d : ℕ)
    → count_by (is_called name) (events_part request.events) ≤ r → count_by (is_called name) (signals_part request.signals) ≤ s
    → count_by (is_called name) (map_part request.map) ≤ d → r + (s + d) ≤ 1
    → leb (count_by (is_called name) (parts_text request)) 1 ≡ true
once name request r s d in_r in_s in_d few =
    rw (
      sum_by-append (λ part. cond (is_called name part) 1 0) (events_part request.events) (signals_part request.signals ++ map_part request.map),
      sum_by-append (λ part. cond (is_called name part) 1 0) (signals_part request.signals) (map_part request.map),
    )
    (le-leb _ _ (omega arith))

joined_parts : (texts : List (List ℕ)) → is_something texts ≡ true → AllByRecursion IsEntry texts → AllByRecursion IsClosed texts
    → IsInner (listed texts) × (items (listed texts) ≡ texts)
joined_parts [] some entries_of closed = absurd cc
joined_parts (text ∷ texts) some entries_of closed = (list_inner text texts entries_of closed, items_join text texts entries_of)

pub parts_read : (request : EmbeddedRequest) → is_writable_request request ≡ true → ReadsParts request
unfolding with_parts
parts_read request ok =
    let a = both_true _ _ ok in
    let b = both_true _ _ a.0 in
    let c = both_true _ _ b.0 in
    let d = both_true _ _ c.0 in
    let first : EmbeddedRequest = record { events = request.events; signals = []; map = None } in
    let second : EmbeddedRequest = record { events = request.events; signals = request.signals; map = None } in
    let r = events_parts nothing_embedded request.events refl d.0 d.1 in
    let s = signals_parts first request.signals refl c.1 in
    let m = map_parts second request.map refl b.1 in
    let entries_of : AllByRecursion IsEntry (parts_text request) =
    all_append IsEntry (events_part request.events) (signals_part request.signals ++ map_part request.map) r.entries
    (all_append IsEntry (signals_part request.signals) (map_part request.map) s.entries m.entries) in
    let closed : AllByRecursion IsClosed (parts_text request) =
    all_append IsClosed (events_part request.events) (signals_part request.signals ++ map_part request.map) r.closed
    (all_append IsClosed (signals_part request.signals) (map_part request.map) s.closed m.closed) in
    let whole = joined_parts (parts_text request) a.1 entries_of closed in
    let of_events : leb (count_by (is_called (codes "R")) (parts_text request)) 1 ≡ true =
    once (codes "R") request 1 0 0 (r.called (codes "R")) (s.called (codes "R")) (m.called (codes "R")) (omega arith) in
    let of_signals : leb (count_by (is_called (codes "S")) (parts_text request)) 1 ≡ true =
    once (codes "S") request 0 1 0 (r.called (codes "S")) (s.called (codes "S")) (m.called (codes "S")) (omega arith) in
    let of_map : leb (count_by (is_called (codes "D")) (parts_text request)) 1 ≡ true =
    once (codes "D") request 0 0 1 (r.called (codes "D")) (s.called (codes "D")) (m.called (codes "D")) (omega arith) in
    let all_spelled : (k : ℕ) → list_all (is_part (are_requested_within (suc k))) (parts_text request) ≡ true =
    λ (k : ℕ).
    list_all-append (is_part (are_requested_within (suc k))) (events_part request.events) (signals_part request.signals ++ map_part request.map)
    ∙ rw (
      r.spelled k,
      list_all-append (is_part (are_requested_within (suc k))) (signals_part request.signals) (map_part request.map),
      s.spelled k,
    ) (m.spelled k) in
    record {
      inner = whole.0;
      cut = whole.1;
      spelled = λ (k : ℕ). rw (all_spelled k, of_events, of_signals, of_map) refl;
      read = r.read (signals_part request.signals ++ map_part request.map) ∙ s.read (map_part request.map)
          ∙ ap (with_parts second) (sym (append-nil (map_part request.map))) ∙ m.read [];
    }

pub embedded_again : (request : EmbeddedRequest) → is_writable_request request ≡ true → embedded_in (listed (parts_text request)) ≡ Ok request
unfolding embedded_in
embedded_again request ok = let reads = parts_read request ok in rw (reads.cut) reads.read

-- E among other actions
pub embed_reads : (k : ℕ) (request : EmbeddedRequest) → is_writable_request request ≡ true
    → ReadsAction (are_requested_within (suc k)) (embedded_text request) (embeds (listed (parts_text request)))
unfolding is_action word_of embedded_text
embed_reads k request ok =
    let reads = parts_read request ok in
    let form = closed_form (codes "E") (listed (parts_text request)) refl refl reads.inner.closed reads.inner.plain in
    record {
      entry = closed_entry (codes "E") (listed (parts_text request)) refl refl reads.inner.closed reads.inner.plain;
      closed = closed_group (codes "E") (listed (parts_text request)) refl reads.inner.closed;
      spelled = rw (form, reads.cut) (reads.spelled k);
      read = rw form refl;
    }
