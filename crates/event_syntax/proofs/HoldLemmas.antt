-- Where a walk comes to a value that is embedded, the text holds its name.
use Rattle.std.proofs.Common.{◌≡◌, ℕ, Bool, true, false, ◌||◌, ◌==◌, List, [], ◌∷◌, ◌++◌, Option, Some, None, refl, sym, ap, ◌∙◌, append-nil, append_assoc, arith}
use Rattle.std.specs.Prelude.{codes, if◌then◌else◌, Result, Ok, Err, IfErr}
use Rattle.std.specs.List.{list_all}
use Rattle.std.proofs.lemmas.Bool.Decides.{nat_tests}
use Rattle.mg_bytes.specs.Blanks.{trimmed}
use Rattle.mg_bytes.specs.Case.{same_but_case}
use Rattle.mg_bytes.specs.Lists.{is_empty}
use Rattle.mg_bytes.proofs.DigitLemmas.{both_true}
use Rattle.packages.specs.Spelling.{are_parameters}
use Rattle.event_syntax.specs.EventSpelling.{is_event}
use Rattle.event_syntax.specs.RequestSpelling.{is_embed}
use Rattle.event_syntax.specs.declared.walk.Seen.{Seen}
use Rattle.event_syntax.specs.declared.walk.Mark.{Mark}
use Rattle.event_syntax.specs.declared.walk.Mark.TheVariants.{End, Comma, Opening, Closing}
use Rattle.event_syntax.specs.declared.walk.Stand.{Stand}
use Rattle.event_syntax.specs.declared.walk.Stand.TheVariants.{Entry, BehindActions, BehindParameters, Action, BehindEmbedded, Part, BehindPart}
use Rattle.event_syntax.specs.Walking.{closing, is_free_byte, marked, nested_at, Stepped, wrong, on, into, entry_stepped, behind_parameters, behind_actions_stepped, behind_parameters_stepped, is_plain_action, action_stepped, behind_embedded_stepped, behind_signals, behind_map, part_stepped, behind_part_stepped, stepped, holds_events, holds_events_behind}
use Rattle.event_syntax.proofs.ClosingLemmas.{closes_at}

-- What stands behind a mark is held by the text

or_right : (first second : Bool) → second ≡ true → (first || second) ≡ true
or_right true second so = refl
or_right false second so = so

or_left : (first second : Bool) → first ≡ true → (first || second) ≡ true
or_left true second so = refl
or_left false second so = absurd cc

at_byte : (opens parts named behind more : Bool) → behind ≡ true → more ≡ true
    → (if opens then named || behind else (if parts then behind else more)) ≡ true
at_byte true parts named behind more so too = or_right named behind so
at_byte false true named behind more so too = so
at_byte false false named behind more so too = too

at_mark : (opens parts named behind more : Bool) → (opens || parts) ≡ true → behind ≡ true
    → (if opens then named || behind else (if parts then behind else more)) ≡ true
at_mark true parts named behind more is so = or_right named behind so
at_mark false true named behind more is so = so
at_mark false false named behind more is so = absurd cc

behind_mark : (name front rest : List ℕ) (mark : ℕ) → (mark == 40 || (mark == 44 || mark == 41)) ≡ true
    → holds_events [] rest ≡ true → holds_events name (front ++ mark ∷ rest) ≡ true
unfolding holds_events
behind_mark name [] rest mark is so = at_mark (mark == 40) (mark == 44 || mark == 41) _ _ _ is so
behind_mark name (b ∷ front) rest mark is so =
    at_byte (b == 40) (b == 44 || b == 41) _ _ _ (behind_mark [] front rest mark is so) (behind_mark (name ++ b ∷ []) front rest mark is so)

not_opening : (b : ℕ) → is_free_byte true b ≡ true → (b == 40) ≡ false
not_opening b free = grind (arith, nat_tests)

not_parting : (b : ℕ) → is_free_byte true b ≡ true → (b == 44 || b == 41) ≡ false
not_parting b free = grind (arith, nat_tests)

-- the name `R` before a parenthesis that opens
named_opens : (name front rest : List ℕ) → list_all (is_free_byte true) front ≡ true
    → same_but_case (trimmed (name ++ front)) (codes "R") ≡ true → holds_events name (front ++ 40 ∷ rest) ≡ true
unfolding holds_events
named_opens name [] rest free same = or_left _ _ (ap (λ t. same_but_case (trimmed t) (codes "R")) (sym (append-nil name)) ∙ same)
named_opens name (b ∷ front) rest free same =
    let parts : (is_free_byte true b ≡ true) × (list_all (is_free_byte true) front ≡ true) = both_true _ _ free in
    let more : same_but_case (trimmed ((name ++ b ∷ []) ++ front)) (codes "R") ≡ true =
    ap (λ t. same_but_case (trimmed t) (codes "R")) (append_assoc name (b ∷ []) front) ∙ same in
    rw (not_opening b parts.0, not_parting b parts.0) (named_opens (name ++ b ∷ []) front rest parts.1 more)

-- What is behind a step is held by the text

abbrev pub Leads : List ℕ → Stepped → Type 0
Leads text step = holds_events_behind step ≡ true → holds_events [] text ≡ true

leads_if : (text : List ℕ) (c : Bool) (step : Stepped) → Leads text step → Leads text (if c then step else wrong)
leads_if text true step leads = leads
leads_if text false step leads = λ none. absurd cc

leads_else : (text : List ℕ) (c : Bool) (step : Stepped) → Leads text step → Leads text (if c then wrong else step)
leads_else text true step leads = λ none. absurd cc
leads_else text false step leads = leads

leads_either : (text : List ℕ) (c : Bool) (step other : Stepped) → (c ≡ true → Leads text step) → Leads text other → Leads text (if c then step else other)
leads_either text true step other leads others = leads refl
leads_either text false step other leads others = others

behind_closing : (name rest front back : List ℕ) → closing 0 rest ≡ Some (front, back) → holds_events [] back ≡ true → holds_events [] (name ++ 40 ∷ rest) ≡ true
behind_closing name rest front back found so =
    let whole : rest ≡ front ++ 41 ∷ back = (closes_at rest 0 front back found).whole in
    behind_mark [] name rest 40 refl (rw whole (behind_mark [] front back 41 refl so))

parameters_lead : (name rest : List ℕ) (found : Option (List ℕ × List ℕ)) → closing 0 rest ≡ found → Leads (name ++ 40 ∷ rest) (behind_parameters found)
parameters_lead name rest None is = λ none. absurd cc
parameters_lead name rest (Some sides) is =
    leads_if _ (are_parameters (trimmed sides.0)) (on BehindParameters sides.1) (behind_closing name rest sides.0 sides.1 is)

signals_lead : (seen : Seen) (name rest : List ℕ) (found : Option (List ℕ × List ℕ)) → closing 0 rest ≡ found → Leads (name ++ 40 ∷ rest) (behind_signals seen found)
signals_lead seen name rest None is = λ none. absurd cc
signals_lead seen name rest (Some sides) is =
    leads_if _ _ (on (BehindPart (record seen { signals = true })) sides.1) (behind_closing name rest sides.0 sides.1 is)

map_leads : (seen : Seen) (name rest : List ℕ) (found : Option (List ℕ × List ℕ)) → closing 0 rest ≡ found → Leads (name ++ 40 ∷ rest) (behind_map seen found)
map_leads seen name rest None is = λ none. absurd cc
map_leads seen name rest (Some sides) is =
    leads_if _ _ (on (BehindPart (record seen { map = true })) sides.1) (behind_closing name rest sides.0 sides.1 is)

entry_leads : (name : List ℕ) (mark : Mark) (rest : List ℕ) → Leads (name ++ marked mark rest) (entry_stepped mark rest)
entry_leads name End rest = λ none. absurd cc
entry_leads name Comma rest = behind_mark [] name rest 44 refl
entry_leads name Opening rest = behind_mark [] name rest 40 refl
entry_leads name Closing rest = behind_mark [] name rest 41 refl

actions_lead : (name : List ℕ) (mark : Mark) (rest : List ℕ) → Leads (name ++ marked mark rest) (behind_actions_stepped mark rest)
actions_lead name End rest = λ none. absurd cc
actions_lead name Comma rest = behind_mark [] name rest 44 refl
actions_lead name Opening rest = parameters_lead name rest (closing 0 rest) refl
actions_lead name Closing rest = behind_mark [] name rest 41 refl

behind_parameters_lead : (name : List ℕ) (mark : Mark) (rest : List ℕ) → Leads (name ++ marked mark rest) (behind_parameters_stepped mark rest)
behind_parameters_lead name End rest = λ none. absurd cc
behind_parameters_lead name Comma rest = behind_mark [] name rest 44 refl
behind_parameters_lead name Opening rest = λ none. absurd cc
behind_parameters_lead name Closing rest = behind_mark [] name rest 41 refl

action_leads : (trim name : List ℕ) (mark : Mark) (rest : List ℕ) → Leads (name ++ marked mark rest) (action_stepped trim mark rest)
action_leads trim name End rest = λ none. absurd cc
action_leads trim name Comma rest = leads_if _ (is_plain_action trim) (on Action rest) (behind_mark [] name rest 44 refl)
action_leads trim name Opening rest = leads_if _ (is_embed trim) (on (Part _) rest) (behind_mark [] name rest 40 refl)
action_leads trim name Closing rest = leads_if _ (is_plain_action trim) (on BehindActions rest) (behind_mark [] name rest 41 refl)

embedded_leads : (name : List ℕ) (mark : Mark) (rest : List ℕ) → Leads (name ++ marked mark rest) (behind_embedded_stepped mark rest)
embedded_leads name End rest = λ none. absurd cc
embedded_leads name Comma rest = behind_mark [] name rest 44 refl
embedded_leads name Opening rest = λ none. absurd cc
embedded_leads name Closing rest = behind_mark [] name rest 41 refl

part_leads : (seen : Seen) (name : List ℕ) (mark : Mark) (rest : List ℕ) → list_all (is_free_byte true) name ≡ true
    → Leads (name ++ marked mark rest) (part_stepped seen (trimmed name) mark rest)
part_leads seen name End rest free = λ none. absurd cc
part_leads seen name Comma rest free = λ none. absurd cc
part_leads seen name Opening rest free =
    leads_either _ (same_but_case (trimmed name) (codes "R")) _ _
    (λ called. leads_else _ (seen.events) (into (record seen { events = true }) rest) (λ _. named_opens [] name rest free called))
    (leads_either _ (same_but_case (trimmed name) (codes "S")) _ _
    (λ _. leads_else _ (seen.signals) (behind_signals seen (closing 0 rest)) (signals_lead seen name rest (closing 0 rest) refl))
    (leads_if _ (same_but_case (trimmed name) (codes "D")) _ (leads_else _ (seen.map) (behind_map seen (closing 0 rest)) (map_leads seen name rest (closing 0 rest) refl))))
part_leads seen name Closing rest free = λ none. absurd cc

behind_part_leads : (seen : Seen) (name : List ℕ) (mark : Mark) (rest : List ℕ) → Leads (name ++ marked mark rest) (behind_part_stepped seen mark rest)
behind_part_leads seen name End rest = λ none. absurd cc
behind_part_leads seen name Comma rest = behind_mark [] name rest 44 refl
behind_part_leads seen name Opening rest = λ none. absurd cc
behind_part_leads seen name Closing rest = behind_mark [] name rest 41 refl

each_leads : (stand : Stand) (empty : Bool) (name : List ℕ) (mark : Mark) (rest : List ℕ) → list_all (is_free_byte (nested_at stand empty)) name ≡ true
    → Leads (name ++ marked mark rest) (stepped stand (trimmed name) mark rest)
unfolding stepped
each_leads Entry empty name mark rest free = leads_if _ (is_event (trimmed name)) _ (entry_leads name mark rest)
each_leads BehindActions empty name mark rest free = leads_if _ (is_empty (trimmed name)) _ (actions_lead name mark rest)
each_leads BehindParameters empty name mark rest free = leads_if _ (is_empty (trimmed name)) _ (behind_parameters_lead name mark rest)
each_leads Action empty name mark rest free = action_leads (trimmed name) name mark rest
each_leads BehindEmbedded empty name mark rest free = leads_if _ (is_empty (trimmed name)) _ (embedded_leads name mark rest)
each_leads (Part seen) empty name mark rest free = part_leads seen name mark rest free
each_leads (BehindPart seen) empty name mark rest free = leads_if _ (is_empty (trimmed name)) _ (behind_part_leads seen name mark rest)

-- one turn of the walk
pub leads_at : (stand : Stand) (text name rest : List ℕ) (mark : Mark) (empty nested : Bool) (trim : List ℕ) (step : Stepped)
    → nested ≡ nested_at stand empty → text ≡ name ++ marked mark rest → list_all (is_free_byte nested) name ≡ true
    → trim ≡ trimmed name → step ≡ stepped stand trim mark rest → Leads text step
leads_at stand text name rest mark empty nested trim step inner whole free is_trim is_step =
    let free_too : list_all (is_free_byte (nested_at stand empty)) name ≡ true = ap (λ n. list_all (is_free_byte n) name) (sym inner) ∙ free in
    let step_is : step ≡ stepped stand (trimmed name) mark rest = is_step ∙ ap (λ t. stepped stand t mark rest) is_trim in
    rw (step_is, whole) (each_leads stand empty name mark rest free_too)

-- what holds anyhow holds of a fault
pub of_fault : {A E : Type 0} (result : Result A E) (P : Type 0) → P → IfErr result (λ fault. P)
of_fault (Ok value) P so = tt
of_fault (Err fault) P so = so
