-- What is answered, and what confirmation comes to.
use Rattle.std.proofs.Common.{◌≡◌, ◌≢◌, ◌↔◌, ℕ, ◌≤◌, Bool, true, false, cond, List, [], ◌∷◌, ◌++◌, Option, Some, None, refl, sym, ◌∙◌, ap, subst, arith}
use Rattle.std.specs.Prelude.{◌||◌, nat_le, All, Any, IfSome, fold}
use Rattle.std.specs.Option.{option_or}
use Rattle.std.specs.List.{list_any}
use Rattle.std.proofs.lemmas.Bool.{and_parts, and_from, leb-true, le-leb}
use Rattle.std.proofs.lemmas.List.Elements.{All-append, All-weaker}
use Rattle.std.proofs.lemmas.List.Folds.{list_any-append, Any-from_list_any, list_any-from_Any}
use Rattle.transmission.specs.declared.span.IdSpan.{IdSpan}
use Rattle.transmission.specs.Span.{has_id, is_named, IsNamed}
use Rattle.transmission.specs.Arrival.{Arrival}
use Rattle.transmission.specs.Firsts.{is_copy, Copied, copied_by, Kind, a_first, a_repeat, lost, kind_of, firsts_with, firsts_of, IsCopy, IsNoCopy}
use Rattle.transmission.specs.Answers.{is_confirmed, IsConfirmed, answer_as, answer_to, answers_from, answers_of, IsRepeat, IsSilenced}
use Rattle.transmission.proofs.KindLaws.{at_front, kind_repeat, copied_latest, latest_copied, none_copied, copied_none}

-- The tests and the facts

any_map : {X : Type 0} (P Q : X → Type 0) → ((x : X) → P x → Q x) → (xs : List X) → Any P xs → Any Q xs
any_map P Q on xs any = (any.0, any.1, any.2, any.3, on any.1 any.4)

named_is : (id : ℕ) (spans : List IdSpan) → is_named id spans ≡ true → IsNamed id spans
named_is id spans is =
    any_map (λ (span : IdSpan). has_id id span ≡ true) (λ (span : IdSpan). (span.first ≤ id) × (id ≤ span.last))
    (λ span held. let parts = and_parts (nat_le span.first id) (nat_le id span.last) held in (leb-true span.first id parts.0, leb-true id span.last parts.1))
    spans (Any-from_list_any (has_id id) spans is)

is_named_from : (id : ℕ) (spans : List IdSpan) → IsNamed id spans → is_named id spans ≡ true
is_named_from id spans named =
    list_any-from_Any (has_id id) spans
    (any_map (λ (span : IdSpan). (span.first ≤ id) × (id ≤ span.last)) (λ (span : IdSpan). has_id id span ≡ true)
    (λ span held. and_from (nat_le span.first id) (nat_le id span.last) (le-leb span.first id held.0) (le-leb id span.last held.1)) spans named)

pub confirmed_is : (id : ℕ) (after : List Arrival) → is_confirmed id after ≡ true → IsConfirmed id after
confirmed_is id after is =
    any_map (λ (later : Arrival). is_named id later.confirms ≡ true) (λ (later : Arrival). IsNamed id later.confirms)
    (λ later held. named_is id later.confirms held) after (Any-from_list_any (λ (later : Arrival). is_named id later.confirms) after is)

pub is_confirmed_from : (id : ℕ) (after : List Arrival) → IsConfirmed id after → is_confirmed id after ≡ true
is_confirmed_from id after confirmed =
    list_any-from_Any (λ (later : Arrival). is_named id later.confirms) after
    (any_map (λ (later : Arrival). IsNamed id later.confirms) (λ (later : Arrival). is_named id later.confirms ≡ true)
    (λ later held. is_named_from id later.confirms held) after confirmed)

-- A repeat's answer

repeat_answer : (limit : ℕ) (firsts : List Arrival) (a : Arrival) (copied : Copied) → kind_of limit firsts a ≡ a_repeat copied
    → answer_to limit firsts a ≡ cond (is_confirmed a.id copied.after) None (Some copied.original.answer)
unfolding answer_to
repeat_answer limit firsts a copied is = ap (λ (kind : Kind). answer_as kind a) is

silent_by : (b : Bool) (answer : List ℕ) → cond b None (Some answer) ≡ None → b ≡ true
silent_by true answer e = refl
silent_by false answer e = absurd cc

pub silence : (limit : ℕ) (firsts : List Arrival) (a : Arrival) (copied : Copied) → kind_of limit firsts a ≡ a_repeat copied
    → (answer_to limit firsts a ≡ None) ↔ IsConfirmed a.id copied.after
silence limit firsts a copied is = (
  λ none. confirmed_is a.id copied.after (silent_by (is_confirmed a.id copied.after) copied.original.answer (sym (repeat_answer limit firsts a copied is) ∙ none)),
  λ confirmed. repeat_answer limit firsts a copied is ∙ ap (λ (b : Bool). cond b None (Some copied.original.answer)) (is_confirmed_from a.id copied.after confirmed),
)

stored_by : (b : Bool) (answer : List ℕ) → IfSome (cond b None (Some answer)) (λ given. given ≡ answer)
stored_by true answer = tt
stored_by false answer = refl

pub stored : (limit : ℕ) (firsts : List Arrival) (a : Arrival) (copied : Copied) → kind_of limit firsts a ≡ a_repeat copied
    → IfSome (answer_to limit firsts a) (λ answer. answer ≡ copied.original.answer)
stored limit firsts a copied is =
    subst (λ (o : Option (List ℕ)). IfSome o (λ answer. answer ≡ copied.original.answer)) (sym (repeat_answer limit firsts a copied is)) (stored_by (is_confirmed a.id copied.after) copied.original.answer)

pub first_answer : (limit : ℕ) (firsts : List Arrival) (a : Arrival) → kind_of limit firsts a ≡ a_first → answer_to limit firsts a ≡ Some a.answer
unfolding answer_to
first_answer limit firsts a is = ap (λ (kind : Kind). answer_as kind a) is

pub lost_answer : (limit : ℕ) (firsts : List Arrival) (a : Arrival) → kind_of limit firsts a ≡ lost → answer_to limit firsts a ≡ None
unfolding answer_to
lost_answer limit firsts a is = ap (λ (kind : Kind). answer_as kind a) is

-- All answers

answers_on : (limit : ℕ) (earlier later firsts : List Arrival)
    → answers_from limit firsts (earlier ++ later) ≡ answers_from limit firsts earlier ++ answers_from limit (fold (firsts_with limit) firsts earlier) later
unfolding answers_from
answers_on limit [] later firsts = refl
answers_on limit (a ∷ earlier) later firsts = ap (λ (rest : List (Option (List ℕ))). answer_to limit firsts a ∷ rest) (answers_on limit earlier later (firsts_with limit firsts a))

pub answers_go_on : (limit : ℕ) (earlier later : List Arrival) → answers_of limit (earlier ++ later) ≡ answers_of limit earlier ++ answers_from limit (firsts_of limit earlier) later
answers_go_on limit earlier later = answers_on limit earlier later []

answers_cons : (limit : ℕ) (firsts later : List Arrival) (a : Arrival) → answers_from limit firsts (a ∷ later) ≡ answer_to limit firsts a ∷ answers_from limit (firsts_with limit firsts a) later
unfolding answers_from
answers_cons limit firsts later a = refl

pub answers_without : (limit : ℕ) (earlier later : List Arrival) (a : Arrival) → firsts_with limit (firsts_of limit earlier) a ≡ firsts_of limit earlier
    → answers_of limit (earlier ++ a ∷ later) ≡ answers_of limit earlier ++ answer_to limit (firsts_of limit earlier) a ∷ answers_from limit (firsts_of limit earlier) later
answers_without limit earlier later a same =
    answers_go_on limit earlier (a ∷ later)
    ∙ ap (λ (rest : List (Option (List ℕ))). answers_of limit earlier ++ rest)
    (answers_cons limit (firsts_of limit earlier) later a ∙ ap (λ (firsts : List Arrival). answer_to limit (firsts_of limit earlier) a ∷ answers_from limit firsts later) same)

-- What is confirmed stays so

or_first : (x y : Bool) → x ≡ true → (x || y) ≡ true
or_first true y e = refl
or_first false y e = absurd cc

or_second : (x y : Bool) → y ≡ true → (x || y) ≡ true
or_second true y e = refl
or_second false y e = e

-- by a first behind it, and so by all that are behind
confirmed_behind : (id : ℕ) (firsts before after : List Arrival) (original : Arrival) → firsts ≡ before ++ original ∷ after → is_confirmed id after ≡ true → is_confirmed id firsts ≡ true
confirmed_behind id firsts before after original stands is =
    let p : Arrival → Bool = λ later. is_named id later.confirms in
    ap (is_confirmed id) stands ∙ list_any-append p before (original ∷ after)
    ∙ or_second (list_any p before) (list_any p (original ∷ after)) (or_second (p original) (list_any p after) is)

confirmed_more : (id : ℕ) (after more : List Arrival) → is_confirmed id after ≡ true → is_confirmed id (after ++ more) ≡ true
confirmed_more id after more is =
    let p : Arrival → Bool = λ later. is_named id later.confirms in
    list_any-append p after more ∙ or_first (list_any p after) (list_any p more) is

front_after : (b : Bool) (first : Arrival) (firsts : List Arrival) (copied : Copied) → at_front first firsts b ≡ Some copied → copied.after ≡ firsts
front_after true first firsts copied e =
    let same : record { original = first; after = firsts } ≡ copied = cc in ap (λ (c : Copied). c.after) (sym same)
front_after false first firsts copied e = absurd cc

no_copy_later : (a b : Arrival) (firsts : List Arrival) → b.id ≡ a.id → a.moment ≤ b.moment → IsNoCopy a firsts → IsNoCopy b firsts
no_copy_later a b firsts same le none =
    All-weaker (λ (first : Arrival). ¬ IsCopy a first) (λ (first : Arrival). ¬ IsCopy b first) (λ first not_copy copy. not_copy (copy.0 ∙ same, omega (arith, copy.1))) firsts none

silent_on : (firsts newer : List Arrival) (a b : Arrival) → b.id ≡ a.id → a.moment ≤ b.moment → IsNoCopy b newer → (copied later : Copied)
    → copied_by firsts a ≡ Some copied → is_confirmed a.id copied.after ≡ true → copied_by (firsts ++ newer) b ≡ Some later → is_confirmed a.id later.after ≡ true
unfolding copied_by
silent_on [] newer a b same le none copied later is confirmed is' = absurd cc
silent_on (first ∷ firsts) newer a b same le none copied later is confirmed is' =
    by_rest (copied_by firsts a) refl (λ c d e conf e'. silent_on firsts newer a b same le none c d e conf e') is
  where
    whole : is_confirmed a.id firsts ≡ true → (o : Option Copied) → copied_by (firsts ++ newer) b ≡ o
        → ((d : Copied) → copied_by (firsts ++ newer) b ≡ Some d → is_confirmed a.id d.after ≡ true)
        → option_or o (at_front first (firsts ++ newer) (is_copy b first)) ≡ Some later → is_confirmed a.id later.after ≡ true
    whole behind (Some d) found deeper e = deeper later (found ∙ e)
    whole behind None found deeper e = ap (is_confirmed a.id) (front_after (is_copy b first) first (firsts ++ newer) later e) ∙ confirmed_more a.id firsts newer behind

    by_rest : (o : Option Copied) → copied_by firsts a ≡ o
        → ((c d : Copied) → copied_by firsts a ≡ Some c → is_confirmed a.id c.after ≡ true → copied_by (firsts ++ newer) b ≡ Some d → is_confirmed a.id d.after ≡ true)
        → option_or o (at_front first firsts (is_copy a first)) ≡ Some copied → is_confirmed a.id later.after ≡ true
    by_rest (Some c) found deeper e =
        let stands = latest_copied firsts a copied (found ∙ e) in
        whole (confirmed_behind a.id firsts stands.before copied.after copied.original stands.stands confirmed) (copied_by (firsts ++ newer) b) refl (λ d e'. deeper copied d (found ∙ e) confirmed e') is'
    by_rest None found deeper e =
        let behind : is_confirmed a.id firsts ≡ true = ap (is_confirmed a.id) (sym (front_after (is_copy a first) first firsts copied e)) ∙ confirmed in
        let nothing : copied_by (firsts ++ newer) b ≡ None = copied_none (firsts ++ newer) b (All-append (λ (f : Arrival). ¬ IsCopy b f) firsts newer (no_copy_later a b firsts same le (none_copied firsts a found)) none) in
        whole behind (copied_by (firsts ++ newer) b) refl (λ d e'. let other : Some d ≡ None = sym e' ∙ nothing in absurd cc) is'

other_ids : (a b : Arrival) (newer : List Arrival) → b.id ≡ a.id → All (λ (first : Arrival). first.id ≢ a.id) newer → IsNoCopy b newer
other_ids a b newer same others =
    All-weaker (λ (first : Arrival). first.id ≢ a.id) (λ (first : Arrival). ¬ IsCopy b first) (λ first other copy. other (copy.0 ∙ same)) newer others

pub stays_silenced : (limit : ℕ) (earlier more newer : List Arrival) (a b : Arrival) → firsts_of limit (earlier ++ more) ≡ firsts_of limit earlier ++ newer
    → All (λ (first : Arrival). first.id ≢ a.id) newer → b.id ≡ a.id → a.moment ≤ b.moment
    → IsSilenced limit earlier a → IsRepeat limit (earlier ++ more) b → IsSilenced limit (earlier ++ more) b
stays_silenced limit earlier more newer a b grown others same le silenced again =
    let is : copied_by (firsts_of limit earlier) a ≡ Some silenced.0 = copied_latest (firsts_of limit earlier) a silenced.0 ((kind_repeat limit (firsts_of limit earlier) a silenced.0).0 silenced.1) in
    let is' : copied_by (firsts_of limit (earlier ++ more)) b ≡ Some again.0 = copied_latest (firsts_of limit (earlier ++ more)) b again.0 ((kind_repeat limit (firsts_of limit (earlier ++ more)) b again.0).0 again.1) in
    let held : is_confirmed a.id again.0.after ≡ true =
    silent_on (firsts_of limit earlier) newer a b same le (other_ids a b newer same others) silenced.0 again.0 is
    (is_confirmed_from a.id silenced.0.after silenced.2) (ap (λ (fs : List Arrival). copied_by fs b) (sym grown) ∙ is') in
    (again.0, again.1, confirmed_is b.id again.0.after (ap (λ id. is_confirmed id again.0.after) same ∙ held))
