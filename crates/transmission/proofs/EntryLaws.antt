-- What entries tell of all that arrived is what the arrivals are.
use Rattle.std.proofs.Common.{subst, ◌≡◌, ◌≢◌, ℕ, ◌≤◌, suc, Bool, true, false, cond, List, [], ◌∷◌, ◌++◌, length, Option, Some, None, refl, sym, ◌∙◌, ap}
use Rattle.std.specs.Prelude.{◌||◌, nat_lt, option_map}
use Rattle.std.specs.Option.{option_or}
use Rattle.std.specs.List.{list_any}
use Rattle.transmission.specs.declared.span.IdSpan.{IdSpan}
use Rattle.transmission.specs.declared.entry.KeptFirst.{KeptFirst}
use Rattle.transmission.specs.declared.entry.Entry.{Entry}
use Rattle.transmission.specs.declared.entry.Entry.TheVariants.{First, Confirmation}
use Rattle.transmission.specs.Span.{is_named}
use Rattle.transmission.specs.Memory.{most_firsts, is_young}
use Rattle.transmission.specs.Arrival.{Arrival}
use Rattle.transmission.specs.Firsts.{is_copy, Copied, copied_by, young_of, a_first, kind_by, kind_of, firsts_with, firsts_of}
use Rattle.transmission.specs.Answers.{is_confirmed}
use Rattle.transmission.specs.Kept.{first_entry, young_firsts, entries_of}
use Rattle.transmission.specs.Looking.{Looked, latest, repeated, confirms, Recalled, recalled, told_by, told_as, look_of}
use Rattle.transmission.specs.Recalling.{Recalls, Remembers, TellsArrival}
use Rattle.transmission.proofs.KindLaws.{at_front, firsts_on, firsts_with_first, firsts_with_no_first}
use Rattle.transmission.proofs.RecallLaws.{recalled-cons, or_none, recalls_entry, recalls_no_spans, recalls_look}

abbrev recalled_of : ℕ → Copied → Recalled
recalled_of id copied = record { answer = copied.original.answer; confirmed = is_confirmed id copied.after }

confirms_of : (id : ℕ) (firsts : List Arrival) → list_any (confirms id) (entries_of firsts) ≡ is_confirmed id firsts
confirms_of id [] = refl
confirms_of id (first ∷ firsts) = ap (λ (b : Bool). is_named id first.confirms || b) (confirms_of id firsts)

abbrev kept_first : Arrival → KeptFirst
kept_first a = record { id = a.id; moment = a.moment; answer = a.answer }

abbrev recalled_first : Bool → KeptFirst → Recalled
recalled_first confirmed first = record { answer = first.answer; confirmed = confirmed }

one_first : (id : ℕ) (first : Arrival) (firsts : List Arrival) (o : Option Copied) (b : Bool)
    → option_or (option_map (recalled_of id) o) (option_map (recalled_first (is_confirmed id firsts)) (cond b (Some (kept_first first)) None))
    ≡ option_map (recalled_of id) (option_or o (at_front first firsts b))
one_first id first firsts (Some copied) b = refl
one_first id first firsts None true = refl
one_first id first firsts None false = refl

recalled_entries : (firsts : List Arrival) (a : Arrival) → recalled (entries_of firsts) a.id a.moment ≡ option_map (recalled_of a.id) (copied_by firsts a)
unfolding latest copied_by
recalled_entries [] a = refl
recalled_entries (first ∷ firsts) a =
    recalled-cons (Confirmation first.confirms) (First (kept_first first) ∷ entries_of firsts) a.id a.moment
    ∙ or_none (recalled (First (kept_first first) ∷ entries_of firsts) a.id a.moment)
    ∙ recalled-cons (First (kept_first first)) (entries_of firsts) a.id a.moment
    ∙ ap (λ (o : Option Recalled). option_or o (option_map (recalled_first (list_any (confirms a.id) (entries_of firsts))) (repeated (First (kept_first first)) a.id a.moment))) (recalled_entries firsts a)
    ∙ ap (λ (b : Bool). option_or (option_map (recalled_of a.id) (copied_by firsts a)) (option_map (recalled_first b) (repeated (First (kept_first first)) a.id a.moment))) (confirms_of a.id firsts)
    ∙ one_first a.id first firsts (copied_by firsts a) (is_copy a first)

young_entries : (now : ℕ) (firsts : List Arrival) → length (young_firsts now (entries_of firsts)) ≡ length (young_of now firsts)
young_entries now [] = refl
young_entries now (first ∷ firsts) = by_age (is_young now first.moment) (young_entries now firsts) where
  by_age : (b : Bool) → length (young_firsts now (entries_of firsts)) ≡ length (young_of now firsts)
      → length (cond b (First (record { id = first.id; moment = first.moment; answer = first.answer }) ∷ young_firsts now (entries_of firsts)) (young_firsts now (entries_of firsts)))
      ≡ length (cond b (first ∷ young_of now firsts) (young_of now firsts))
  by_age true same = ap suc same
  by_age false same = same

look_entries : (limit : ℕ) (firsts : List Arrival) (a : Arrival) → look_of limit (entries_of firsts) a.id a.moment ≡ told_as a.id (kind_of limit firsts a)
unfolding look_of kind_of
look_entries limit firsts a =
    ap (λ (o : Option Recalled). told_by o (nat_lt (length (young_firsts a.moment (entries_of firsts))) limit)) (recalled_entries firsts a)
    ∙ ap (λ n. told_by (option_map (recalled_of a.id) (copied_by firsts a)) (nat_lt n limit)) (young_entries a.moment firsts)
    ∙ by_copy (copied_by firsts a) (nat_lt (length (young_of a.moment firsts)) limit)
  where
    by_copy : (o : Option Copied) (b : Bool) → told_by (option_map (recalled_of a.id) o) b ≡ told_as a.id (kind_by o b)
    by_copy (Some copied) b = refl
    by_copy None true = refl
    by_copy None false = refl

entries-push : (firsts : List Arrival) (a : Arrival) → entries_of (firsts ++ a ∷ []) ≡ (entries_of firsts ++ Confirmation a.confirms ∷ []) ++ First (kept_first a) ∷ []
entries-push [] a = refl
entries-push (first ∷ firsts) a = ap (λ (rest : List Entry). Confirmation first.confirms ∷ First (kept_first first) ∷ rest) (entries-push firsts a)

-- The laws that the crates above need

pub remembers_tells : (kept : List Entry) (earlier : List Arrival) (a : Arrival) (since : ℕ) → Remembers kept earlier since → since ≤ a.moment
    → look_of most_firsts kept a.id a.moment ≡ told_as a.id (kind_of most_firsts (firsts_of most_firsts earlier) a)
remembers_tells kept earlier a since r le =
    recalls_look kept (entries_of (firsts_of most_firsts earlier)) since a.id a.moment r le ∙ look_entries most_firsts (firsts_of most_firsts earlier) a

firsts_more : (earlier : List Arrival) (a : Arrival) → firsts_of most_firsts (earlier ++ a ∷ []) ≡ firsts_with most_firsts (firsts_of most_firsts earlier) a
firsts_more earlier a = firsts_on most_firsts earlier (a ∷ [])

pub remembers_first : (kept : List Entry) (earlier : List Arrival) (a : Arrival) (since : ℕ) → Remembers kept earlier since
    → kind_of most_firsts (firsts_of most_firsts earlier) a ≡ a_first
    → Remembers ((kept ++ Confirmation a.confirms ∷ []) ++ first_entry a.id a.moment a.answer ∷ []) (earlier ++ a ∷ []) since
remembers_first kept earlier a since r is =
    let firsts : List Arrival = firsts_of most_firsts earlier in
    let grown : firsts_of most_firsts (earlier ++ a ∷ []) ≡ firsts ++ a ∷ [] = firsts_more earlier a ∙ firsts_with_first most_firsts firsts a is in
    subst (λ (all : List Entry). Recalls ((kept ++ Confirmation a.confirms ∷ []) ++ First (kept_first a) ∷ []) all since)
    (sym (ap entries_of grown ∙ entries-push firsts a))
    (recalls_entry _ _ (First (kept_first a)) since (recalls_entry kept (entries_of firsts) (Confirmation a.confirms) since r))

pub remembers_plain_first : (kept : List Entry) (earlier : List Arrival) (a : Arrival) (since : ℕ) → Remembers kept earlier since
    → kind_of most_firsts (firsts_of most_firsts earlier) a ≡ a_first → a.confirms ≡ []
    → Remembers (kept ++ first_entry a.id a.moment a.answer ∷ []) (earlier ++ a ∷ []) since
remembers_plain_first kept earlier a since r is plain =
    let firsts : List Arrival = firsts_of most_firsts earlier in
    let grown : firsts_of most_firsts (earlier ++ a ∷ []) ≡ firsts ++ a ∷ [] = firsts_more earlier a ∙ firsts_with_first most_firsts firsts a is in
    subst (λ (all : List Entry). Recalls (kept ++ First (kept_first a) ∷ []) all since)
    (sym (ap entries_of grown ∙ entries-push firsts a ∙ ap (λ (spans : List IdSpan). (entries_of firsts ++ Confirmation spans ∷ []) ++ First (kept_first a) ∷ []) plain))
    (recalls_entry _ _ (First (kept_first a)) since (recalls_no_spans kept (entries_of firsts) since r))

pub remembers_no_first : (kept : List Entry) (earlier : List Arrival) (a : Arrival) (since : ℕ) → Remembers kept earlier since
    → kind_of most_firsts (firsts_of most_firsts earlier) a ≢ a_first → Remembers kept (earlier ++ a ∷ []) since
remembers_no_first kept earlier a since r other =
    subst (λ (firsts : List Arrival). Recalls kept (entries_of firsts) since)
    (sym (firsts_more earlier a ∙ firsts_with_no_first most_firsts (firsts_of most_firsts earlier) a other)) r

pub tells_arrival : (kept : List Entry) (id now : ℕ) (told : Looked) → told ≡ look_of most_firsts kept id now → TellsArrival told kept id now
tells_arrival kept id now told is = λ earlier a since r le same_id same_moment.
    let in_time : since ≤ a.moment = rw same_moment le in
    is ∙ ap (λ i. look_of most_firsts kept i now) (sym same_id) ∙ ap (λ m. look_of most_firsts kept a.id m) (sym same_moment)
    ∙ remembers_tells kept earlier a since r in_time ∙ ap (λ i. told_as i (kind_of most_firsts (firsts_of most_firsts earlier) a)) same_id
