-- What a name and the mark behind it make of what is left, wherever the walk stands.
use Rattle.std.proofs.Common.{◌≡◌, ℕ, Bool, true, false, ◌&&◌, List, [], ◌∷◌, ◌++◌, Some, None, refl, sym, ap, ◌∙◌, map}
use Rattle.std.specs.Prelude.{not, if◌then◌else◌}
use Rattle.std.specs.List.{list_all}
use Rattle.mg_bytes.specs.Blanks.{trimmed}
use Rattle.mg_bytes.specs.Case.{same_but_case}
use Rattle.packages.specs.declared.cut.Cut.TheVariants.{Commas, Parentheses}
use Rattle.mg_bytes.specs.Lists.{is_empty}
use Rattle.packages.specs.Cuts.{Form, form_of, form_from, items, pieces}
use Rattle.packages.specs.Spelling.{is_word, are_parameters}
use Rattle.packages.proofs.CutLemmas.{put_front, put_front-nil}
use Rattle.event_syntax.specs.EventSpelling.{is_event}
use Rattle.event_syntax.specs.RequestSpelling.{is_embed, is_part, is_part_in, is_part_from, is_called, is_called_from, are_parts, is_action, is_action_from, are_actions, is_requested, is_requested_from, are_requested_within}
use Rattle.event_syntax.specs.declared.walk.Seen.{Seen}
use Rattle.event_syntax.specs.declared.walk.Stand.TheVariants.{Entry, BehindActions, BehindParameters, Action, BehindEmbedded, Part}
use Rattle.event_syntax.specs.Walking.{closing, by_pieces, inside_is, is_bare, has_parameters, parted, are_parts_after, nothing_seen, spelled_at}
use Rattle.event_syntax.proofs.ClosingLemmas.{is_quiet, ClosesAt, name_pieces, open_parts, group_parts}
use Rattle.event_syntax.proofs.TrimLemmas.{trimmed_pieces}
use Rattle.event_syntax.proofs.MarkLemmas.{Opens}

pub and_true : (c : Bool) → (c && true) ≡ c
and_true true = refl
and_true false = refl

pub and_false : (c : Bool) → (c && false) ≡ false
and_false true = refl
and_false false = refl

and_assoc : (a b c : Bool) → ((a && b) && c) ≡ (a && (b && c))
and_assoc true b c = refl
and_assoc false b c = refl

regroup : (a b c d : Bool) → ((a && (b && c)) && d) ≡ (a && (b && (c && d)))
regroup true true c d = refl
regroup true false c d = refl
regroup false b c d = refl

both_false : (a b : Bool) → (a && (b && false)) ≡ false
both_false true true = refl
both_false true false = refl
both_false false b = refl

-- Forms

abbrev Value : Type 0
Value = List ℕ → Bool

pub parted_name : (name : List ℕ) → is_quiet name ≡ true → parted name ≡ trimmed name ∷ []
parted_name name quiet = ap (map trimmed) (name_pieces Parentheses name quiet)

pub parted_open : (name text x y : List ℕ) → is_quiet name ≡ true → ClosesAt 0 text x y → parted (name ++ 40 ∷ text) ≡ trimmed name ∷ trimmed x ∷ parted y
parted_open name text x y quiet closes = ap (map trimmed) (group_parts name text x y quiet closes)

pub parted_unclosed : (name text : List ℕ) → is_quiet name ≡ true → closing 0 text ≡ None → parted (name ++ 40 ∷ text) ≡ trimmed name ∷ trimmed text ∷ []
parted_unclosed name text quiet none = ap (map trimmed) (open_parts name text quiet none)

form_is : (piece : List ℕ) → form_of (trimmed piece) ≡ form_from (parted piece)
unfolding form_of
form_is piece = ap form_from (trimmed_pieces Parentheses piece)

pub requested_is : (v : List ℕ → Bool) (piece : List ℕ) → is_requested v (trimmed piece) ≡ is_requested_from v (form_from (parted piece))
unfolding is_requested
requested_is v piece = ap (is_requested_from v) (form_is piece)

pub action_is : (v : List ℕ → Bool) (piece : List ℕ) → is_action v (trimmed piece) ≡ is_action_from v (form_from (parted piece))
unfolding is_action
action_is v piece = ap (is_action_from v) (form_is piece)

pub part_is : (v : List ℕ → Bool) (piece : List ℕ) → is_part v (trimmed piece) ≡ is_part_from v (form_from (parted piece))
unfolding is_part
part_is v piece = ap (is_part_from v) (form_is piece)

pub called_is : (called piece : List ℕ) → is_called called (trimmed piece) ≡ is_called_from called (form_from (parted piece))
unfolding is_called
called_is called piece = ap (is_called_from called) (form_is piece)

-- Entries with parentheses

abbrev form_with : List ℕ → List (List ℕ) → Form
form_with head inside = record { head = head; inside = inside }

one_pair : (v : List ℕ → Bool) (t x : List ℕ) (n : Bool) → is_requested_from v (if n then Some (form_with t (x ∷ [])) else None) ≡ (is_event t && (are_actions v x && n))
one_pair v t x true = ap (λ a. is_event t && a) (sym (and_true (are_actions v x)))
one_pair v t x false = sym (both_false (is_event t) (are_actions v x))

two_pairs : (v : List ℕ → Bool) (t x p : List ℕ) (n m : Bool) → is_requested_from v (if n && m then Some (form_with t (x ∷ p ∷ [])) else None)
    ≡ (is_event t && (are_actions v x && (n && (are_parameters p && m))))
two_pairs v t x p true true = and_assoc (is_event t) (are_actions v x) (are_parameters p) ∙ ap (λ a. is_event t && (are_actions v x && a)) (sym (and_true (are_parameters p)))
two_pairs v t x p true false = sym (ap (λ a. is_event t && (are_actions v x && a)) (and_false (are_parameters p)) ∙ both_false (is_event t) (are_actions v x))
two_pairs v t x p false m = sym (both_false (is_event t) (are_actions v x))

entry_form : (v : List ℕ → Bool) (t x : List ℕ) (l : List (List ℕ)) → is_requested_from v (form_from (t ∷ x ∷ l)) ≡ (is_event t && (are_actions v x && has_parameters l))
entry_form v t x [] = sym (both_false (is_event t) (are_actions v x))
entry_form v t x (b ∷ []) = one_pair v t x (is_empty b)
entry_form v t x (b ∷ p ∷ []) = sym (ap (λ a. is_event t && (are_actions v x && a)) (both_false (is_empty b) (are_parameters p)) ∙ both_false (is_event t) (are_actions v x))
entry_form v t x (b ∷ p ∷ e ∷ []) = two_pairs v t x p (is_empty b) (is_empty e)
entry_form v t x (b ∷ p ∷ e ∷ f ∷ more) = sym (ap (λ a. is_event t && (are_actions v x && a)) (both_false (is_empty b) (are_parameters p)) ∙ both_false (is_event t) (are_actions v x))

-- Actions with parentheses

one_action : (v : List ℕ → Bool) (t x : List ℕ) (n : Bool) → is_action_from v (if n then Some (form_with t (x ∷ [])) else None) ≡ (is_embed t && (are_parts v (items x) && n))
one_action v t x true = ap (λ a. is_embed t && a) (sym (and_true (are_parts v (items x))))
one_action v t x false = sym (both_false (is_embed t) (are_parts v (items x)))

no_action : (v : List ℕ → Bool) (t x p : List ℕ) (n : Bool) → is_action_from v (if n then Some (form_with t (x ∷ p ∷ [])) else None) ≡ false
no_action v t x p true = refl
no_action v t x p false = refl

action_form : (v : List ℕ → Bool) (t x : List ℕ) (l : List (List ℕ)) → is_action_from v (form_from (t ∷ x ∷ l)) ≡ (is_embed t && (are_parts v (items x) && is_bare l))
action_form v t x [] = sym (both_false (is_embed t) (are_parts v (items x)))
action_form v t x (b ∷ []) = one_action v t x (is_empty b)
action_form v t x (b ∷ p ∷ []) = sym (both_false (is_embed t) (are_parts v (items x)))
action_form v t x (b ∷ p ∷ e ∷ []) = no_action v t x p (is_empty b && is_empty e) ∙ sym (both_false (is_embed t) (are_parts v (items x)))
action_form v t x (b ∷ p ∷ e ∷ f ∷ more) = sym (both_false (is_embed t) (are_parts v (items x)))

-- Parts

one_part : (v : List ℕ → Bool) (t x : List ℕ) (n : Bool) → is_part_from v (if n then Some (form_with t (x ∷ [])) else None) ≡ (is_part_in v t x && n)
one_part v t x true = sym (and_true (is_part_in v t x))
one_part v t x false = sym (and_false (is_part_in v t x))

no_part : (v : List ℕ → Bool) (t x p : List ℕ) (n : Bool) → is_part_from v (if n then Some (form_with t (x ∷ p ∷ [])) else None) ≡ false
no_part v t x p true = refl
no_part v t x p false = refl

pub part_form : (v : List ℕ → Bool) (t x : List ℕ) (l : List (List ℕ)) → is_part_from v (form_from (t ∷ x ∷ l)) ≡ (is_part_in v t x && is_bare l)
part_form v t x [] = sym (and_false (is_part_in v t x))
part_form v t x (b ∷ []) = one_part v t x (is_empty b)
part_form v t x (b ∷ p ∷ []) = sym (and_false (is_part_in v t x))
part_form v t x (b ∷ p ∷ e ∷ []) = no_part v t x p (is_empty b && is_empty e) ∙ sym (and_false (is_part_in v t x))
part_form v t x (b ∷ p ∷ e ∷ f ∷ more) = sym (and_false (is_part_in v t x))

pub called_form : (called t x : List ℕ) (l : List (List ℕ)) → is_bare l ≡ true → is_called_from called (form_from (t ∷ x ∷ l)) ≡ same_but_case t called
called_form called t x [] bare = absurd cc
called_form called t x (b ∷ []) bare = rw bare refl
called_form called t x (b ∷ p ∷ more) bare = absurd cc

-- Lists

all_by : (is : List ℕ → Bool) (ps : List (List ℕ))
    → by_pieces (λ p rest. list_all is (trimmed p ∷ map trimmed rest)) (put_front [] ps) ≡ list_all is (map trimmed (put_front [] ps))
all_by is [] = refl
all_by is (p ∷ ps) = refl

pub all_inside : (is : List ℕ → Bool) (text : List ℕ)
    → inside_is (λ p rest. list_all is (trimmed p ∷ map trimmed rest)) text ≡ list_all is (map trimmed (pieces Commas 0 text))
all_inside is text = rw (put_front-nil Commas 0 text) at (all_by is (pieces Commas 0 text))

pub items_are : (text : List ℕ) → items (trimmed text) ≡ map trimmed (pieces Commas 0 text)
unfolding items
items_are text = trimmed_pieces Commas text

pub actions_inside : (d : ℕ) (text : List ℕ) → are_actions (are_requested_within d) (trimmed text) ≡ inside_is (spelled_at Action d) text
actions_inside d text = ap (list_all (is_action (are_requested_within d))) (items_are text) ∙ sym (all_inside (is_action (are_requested_within d)) text)

parts_by : (v : List ℕ → Bool) (seen : Seen) (ps : List (List ℕ))
    → by_pieces (λ p rest. are_parts_after v seen (trimmed p ∷ map trimmed rest)) (put_front [] ps) ≡ are_parts_after v seen (map trimmed (put_front [] ps))
parts_by v seen [] = refl
parts_by v seen (p ∷ ps) = refl

pub parts_inside : (d : ℕ) (text : List ℕ) → are_parts (are_requested_within d) (items (trimmed text)) ≡ inside_is (spelled_at (Part nothing_seen) d) text
parts_inside d text = ap (are_parts (are_requested_within d)) (items_are text)
    ∙ sym (rw (put_front-nil Commas 0 text) at (parts_by (are_requested_within d) nothing_seen (pieces Commas 0 text)))

-- The same at the places of a walk

pub entry_name : (d : ℕ) (name : List ℕ) (rest : List (List ℕ)) → is_quiet name ≡ true
    → spelled_at Entry d name rest ≡ (is_event (trimmed name) && list_all (is_requested (are_requested_within d)) (map trimmed rest))
entry_name d name rest quiet = rw (requested_is (are_requested_within d) name, parted_name name quiet) refl

pub entry_opens : (d : ℕ) (name : List ℕ) → is_quiet name ≡ true
    → Opens (spelled_at Entry d) (spelled_at BehindActions d) (is_event (trimmed name)) (inside_is (spelled_at Action d)) name
entry_opens d name quiet = record {
  closed = λ (text x y : List ℕ) (ps : List (List ℕ)) (closes : ClosesAt 0 text x y).
      rw (
        requested_is (are_requested_within d) (name ++ 40 ∷ text),
        parted_open name text x y quiet closes,
        entry_form (are_requested_within d) (trimmed name) (trimmed x) (parted y),
        actions_inside d x,
      )
      (regroup (is_event (trimmed name)) (inside_is (spelled_at Action d) x) (has_parameters (parted y)) (list_all (is_requested (are_requested_within d)) (map trimmed ps)));
  unclosed = λ (text : List ℕ) (none : closing 0 text ≡ None).
      rw (requested_is (are_requested_within d) (name ++ 40 ∷ text), parted_unclosed name text quiet none) refl;
}

pub action_name : (d : ℕ) (name : List ℕ) (rest : List (List ℕ)) → is_quiet name ≡ true
    → spelled_at Action d name rest ≡ ((is_word (trimmed name) && not (is_embed (trimmed name))) && list_all (is_action (are_requested_within d)) (map trimmed rest))
action_name d name rest quiet = rw (action_is (are_requested_within d) name, parted_name name quiet) refl

pub action_opens : (d : ℕ) (name : List ℕ) → is_quiet name ≡ true
    → Opens (spelled_at Action d) (spelled_at BehindEmbedded d) (is_embed (trimmed name)) (inside_is (spelled_at (Part nothing_seen) d)) name
action_opens d name quiet = record {
  closed = λ (text x y : List ℕ) (ps : List (List ℕ)) (closes : ClosesAt 0 text x y).
      rw (
        action_is (are_requested_within d) (name ++ 40 ∷ text),
        parted_open name text x y quiet closes,
        action_form (are_requested_within d) (trimmed name) (trimmed x) (parted y),
        parts_inside d x,
      )
      (regroup (is_embed (trimmed name)) (inside_is (spelled_at (Part nothing_seen) d) x) (is_bare (parted y)) (list_all (is_action (are_requested_within d)) (map trimmed ps)));
  unclosed = λ (text : List ℕ) (none : closing 0 text ≡ None).
      rw (action_is (are_requested_within d) (name ++ 40 ∷ text), parted_unclosed name text quiet none) refl;
}

-- behind actions there may be parameters
parameters_form : (t x : List ℕ) (l : List (List ℕ)) → has_parameters (t ∷ x ∷ l) ≡ (is_empty t && (are_parameters x && is_bare l))
parameters_form t x l = refl

pub actions_name : (d : ℕ) (name : List ℕ) (rest : List (List ℕ)) → is_quiet name ≡ true
    → spelled_at BehindActions d name rest ≡ (is_empty (trimmed name) && list_all (is_requested (are_requested_within d)) (map trimmed rest))
actions_name d name rest quiet = rw (parted_name name quiet) refl

pub parameters_open : (d : ℕ) (name : List ℕ) → is_quiet name ≡ true
    → Opens (spelled_at BehindActions d) (spelled_at BehindParameters d) (is_empty (trimmed name)) (λ x. are_parameters (trimmed x)) name
parameters_open d name quiet = record {
  closed = λ (text x y : List ℕ) (ps : List (List ℕ)) (closes : ClosesAt 0 text x y).
      rw (parted_open name text x y quiet closes)
      (regroup (is_empty (trimmed name)) (are_parameters (trimmed x)) (is_bare (parted y)) (list_all (is_requested (are_requested_within d)) (map trimmed ps)));
  unclosed = λ (text : List ℕ) (none : closing 0 text ≡ None).
      rw (parted_unclosed name text quiet none) (and_true (is_empty (trimmed name) && (are_parameters (trimmed text) && false)) ∙ both_false (is_empty (trimmed name)) (are_parameters (trimmed text)));
}

-- behind the last parentheses there is nothing
pub bare_name : (name : List ℕ) → is_quiet name ≡ true → is_bare (parted name) ≡ is_empty (trimmed name)
bare_name name quiet = rw (parted_name name quiet) refl

pub bare_opens : (is : List (List ℕ) → Bool) (name : List ℕ) → is_quiet name ≡ true
    → Opens (λ piece rest. is_bare (parted piece) && is rest) (λ piece rest. false) false (λ x. false) name
bare_opens is name quiet = record {
  closed = λ (text x y : List ℕ) (ps : List (List ℕ)) (closes : ClosesAt 0 text x y). rw (parted_open name text x y quiet closes) refl;
  unclosed = λ (text : List ℕ) (none : closing 0 text ≡ None). rw (parted_unclosed name text quiet none) refl;
}
