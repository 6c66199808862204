-- Actions that are read one after the other say what they say together.
use Rattle.std.proofs.Common.{◌≡◌, ℕ, Bool, true, false, leb, List, [], ◌∷◌, length, refl, sym, ap, ◌∙◌, subst, arith, suc, Option, Some, None}
use Rattle.std.specs.Prelude.{Result, Ok, Err, codes, filter, if◌then◌else◌}
use Rattle.std.specs.List.{list_any}
use Rattle.std.proofs.lemmas.Bool.Decides.{nat_tests}
use Rattle.std.proofs.lemmas.List.Sums.{length-filter}
use Rattle.mg_bytes.specs.Case.{same_but_case}
use Rattle.event_syntax.specs.declared.events.Events.{Events}
use Rattle.event_syntax.specs.declared.events.Events.TheVariants.{AllOfLine, One, Letters}
use Rattle.event_syntax.specs.declared.request.Action.{Action}
use Rattle.event_syntax.specs.declared.request.Action.TheVariants.{Notify, Accumulate, Dial, Ignore}
use Rattle.mg_bytes.specs.Steps.{◌>>=◌}
use Rattle.packages.specs.Faults.{each}
use Rattle.packages.specs.Cuts.{Form, form_of}
use Rattle.event_syntax.specs.Actions.{Word, keeps, acts, embeds, word_named, word_with, word_from, word_of, Joined, plain, embed, accumulate_and_embed, by_two, joined_of, is_keeps, not_keeps, Said, saying, said_by, said_of, SoFar, nothing_said, with_joined, and_embed, and_action, and_word, joined_or_notify, takes}

-- what words say behind those so far
abbrev pub said_after : SoFar → List Word → Result Said ℕ
said_after so_far [] = Ok (record { joined = joined_or_notify so_far.joined; keep = so_far.keep })
said_after so_far (word ∷ words) = and_word so_far word >>= λ more. said_after more words

-- what actions say behind those so far
unfoldable pub said_behind : SoFar → List (List ℕ) → Result Said ℕ
said_behind so_far actions = each word_of actions >>= said_after so_far

-- every fault is 523
abbrev pub Only523 : {A : Type 0} → Result A ℕ → Type 0
Only523 (Ok x) = Unit {0}
Only523 (Err code) = code ≡ 523

action_fault : (so_far : Option Joined) (action : Action) → Only523 (and_action so_far action)
action_fault None action = tt
action_fault (Some (plain other)) action = refl
action_fault (Some (embed inside)) Notify = refl
action_fault (Some (embed inside)) Accumulate = tt
action_fault (Some (embed inside)) Dial = refl
action_fault (Some (embed inside)) Ignore = refl
action_fault (Some (accumulate_and_embed inside)) action = refl

embed_fault : (so_far : Option Joined) (inside : List ℕ) → Only523 (and_embed so_far inside)
embed_fault None inside = tt
embed_fault (Some (plain Notify)) inside = refl
embed_fault (Some (plain Accumulate)) inside = tt
embed_fault (Some (plain Dial)) inside = refl
embed_fault (Some (plain Ignore)) inside = refl
embed_fault (Some (embed other)) inside = refl
embed_fault (Some (accumulate_and_embed other)) inside = refl

-- what words other than K do
abbrev joins : Option Joined → List Word → Result Joined ℕ
joins so_far [] = Ok (joined_or_notify so_far)
joins so_far (keeps ∷ words) = Err 523
joins so_far (acts action ∷ words) = and_action so_far action >>= λ joined. joins (Some joined) words
joins so_far (embeds inside ∷ words) = and_embed so_far inside >>= λ joined. joins (Some joined) words

-- behind two of them a third is one too many, behind A with E a second
over_both : (inside : List ℕ) (word : Word) (words : List Word) → joins (Some (accumulate_and_embed inside)) (word ∷ words) ≡ Err 523
over_both inside keeps words = refl
over_both inside (acts action) words = refl
over_both inside (embeds other) words = refl

third : (joined : Joined) (word next : Word) (words : List Word) → joins (Some joined) (word ∷ next ∷ words) ≡ Err 523
third joined keeps next words = refl
third (plain action) (acts other) next words = refl
third (plain Notify) (embeds inside) next words = refl
third (plain Accumulate) (embeds inside) next words = over_both inside next words
third (plain Dial) (embeds inside) next words = refl
third (plain Ignore) (embeds inside) next words = refl
third (embed inside) (acts Notify) next words = refl
third (embed inside) (acts Accumulate) next words = over_both inside next words
third (embed inside) (acts Dial) next words = refl
third (embed inside) (acts Ignore) next words = refl
third (embed inside) (embeds other) next words = refl
third (accumulate_and_embed inside) (acts action) next words = refl
third (accumulate_and_embed inside) (embeds other) next words = refl

two : (first second : Word) → joins None (first ∷ second ∷ []) ≡ by_two first second
two keeps second = refl
two (acts Notify) second = not_with second
  where
    not_with : (second : Word) → joins (Some (plain Notify)) (second ∷ []) ≡ by_two (acts Notify) second
    not_with keeps = refl
    not_with (acts action) = refl
    not_with (embeds inside) = refl
two (acts Accumulate) keeps = refl
two (acts Accumulate) (acts action) = refl
two (acts Accumulate) (embeds inside) = refl
two (acts Dial) keeps = refl
two (acts Dial) (acts action) = refl
two (acts Dial) (embeds inside) = refl
two (acts Ignore) keeps = refl
two (acts Ignore) (acts action) = refl
two (acts Ignore) (embeds inside) = refl
two (embeds inside) keeps = refl
two (embeds inside) (acts Notify) = refl
two (embeds inside) (acts Accumulate) = refl
two (embeds inside) (acts Dial) = refl
two (embeds inside) (acts Ignore) = refl
two (embeds inside) (embeds other) = refl

all_joins : (words : List Word) → joins None words ≡ joined_of words
all_joins [] = refl
all_joins (keeps ∷ []) = refl
all_joins (acts action ∷ []) = refl
all_joins (embeds inside ∷ []) = refl
all_joins (first ∷ second ∷ []) = two first second
all_joins (keeps ∷ second ∷ next ∷ words) = refl
all_joins (acts action ∷ second ∷ next ∷ words) = third (plain action) second next words
all_joins (embeds inside ∷ second ∷ next ∷ words) = third (embed inside) second next words

-- K among them
abbrev counted : Bool → Bool → Result Joined ℕ → Result Said ℕ
counted few keep read = if few then read >>= saying keep else Err 523

fault_counted : (few keep : Bool) → counted few keep (Err 523) ≡ Err 523
fault_counted true keep = refl
fault_counted false keep = refl

one_more : (so_far : SoFar) (words others : List Word) (few keep : Bool) (read : Result Joined ℕ) → Only523 read
    → ((joined : Joined) → said_after (record { joined = Some joined; keep = so_far.keep }) words ≡ counted few keep (joins (Some joined) others))
    → ((read >>= with_joined so_far) >>= λ more. said_after more words) ≡ counted few keep (read >>= λ joined. joins (Some joined) others)
one_more so_far words others few keep (Ok joined) only rest = rest joined
one_more so_far words others few keep (Err code) only rest = rw only (sym (fault_counted few keep))

above_none : (n : ℕ) → leb (suc n) 0 ≡ false
above_none n = grind (arith, nat_tests)

above_one : (n : ℕ) → leb (suc n) 1 ≡ leb n 0
above_one n = grind (arith, nat_tests)

-- K was there
kept : (joined : Option Joined) (words : List Word)
    → said_after (record { joined = joined; keep = true }) words
    ≡ counted (leb (length (filter is_keeps words)) 0) true (joins joined (filter not_keeps words))
kept joined [] = refl
kept joined (keeps ∷ words) = rw above_none refl
kept joined (acts action ∷ words) =
    one_more (record { joined = joined; keep = true }) words (filter not_keeps words) _ true (and_action joined action)
    (action_fault joined action) (λ next. kept (Some next) words)
kept joined (embeds inside ∷ words) =
    one_more (record { joined = joined; keep = true }) words (filter not_keeps words) _ true (and_embed joined inside)
    (embed_fault joined inside) (λ next. kept (Some next) words)

-- K wasn't there
not_kept : (joined : Option Joined) (words : List Word)
    → said_after (record { joined = joined; keep = false }) words
    ≡ counted (leb (length (filter is_keeps words)) 1) (list_any is_keeps words) (joins joined (filter not_keeps words))
not_kept joined [] = refl
not_kept joined (keeps ∷ words) = rw above_one (kept joined words)
not_kept joined (acts action ∷ words) =
    one_more (record { joined = joined; keep = false }) words (filter not_keeps words) _ (list_any is_keeps words)
    (and_action joined action) (action_fault joined action) (λ next. not_kept (Some next) words)
not_kept joined (embeds inside ∷ words) =
    one_more (record { joined = joined; keep = false }) words (filter not_keeps words) _ (list_any is_keeps words)
    (and_embed joined inside) (embed_fault joined inside) (λ next. not_kept (Some next) words)

said_together : (words : List Word) → said_after nothing_said words ≡ said_by words
said_together words =
    not_kept None words
    ∙ ap (counted (leb (length (filter is_keeps words)) 1) (list_any is_keeps words)) (all_joins (filter not_keeps words))
    ∙ ap (λ n. counted (leb n 1) (list_any is_keeps words) (joined_of (filter not_keeps words))) (length-filter is_keeps words)

named_fault : (name : List ℕ) → Only523 (word_named name)
named_fault name =
    one_of (same_but_case name (codes "N")) _ _ tt (one_of (same_but_case name (codes "A")) _ _ tt
    (one_of (same_but_case name (codes "D")) _ _ tt (one_of (same_but_case name (codes "I")) _ _ tt
    (one_of (same_but_case name (codes "K")) _ _ tt refl))))
  where
    one_of : (test : Bool) (first second : Result Word ℕ) → Only523 first → Only523 second → Only523 (if test then first else second)
    one_of true first second here there = here
    one_of false first second here there = there

with_fault : (name : List ℕ) (inside : List (List ℕ)) → Only523 (word_with name inside)
with_fault name [] = named_fault name
with_fault name (inner ∷ rest) = tt

from_fault : (form : Option Form) → Only523 (word_from form)
from_fault None = refl
from_fault (Some form) = with_fault form.head form.inside

word_fault : (action : List ℕ) → Only523 (word_of action)
unfolding word_of
word_fault action = from_fault (form_of action)

fault_on : {A B : Type 0} (read : Result A ℕ) (next : A → Result B ℕ) → Only523 read → ((x : A) → Only523 (next x)) → Only523 (read >>= next)
fault_on (Ok x) next here there = there x
fault_on (Err code) next here there = here

words_fault : (actions : List (List ℕ)) → Only523 (each word_of actions)
unfolding each
words_fault [] = tt
words_fault (action ∷ actions) =
    fault_on (word_of action) _ (word_fault action) (λ word. fault_on (each word_of actions) _ (words_fault actions) (λ words. tt))

and_fault : (so_far : SoFar) (word : Word) → Only523 (and_word so_far word)
and_fault so_far keeps = keep_fault so_far.keep
  where
    keep_fault : (keep : Bool) → Only523 (if keep then Err 523 else Ok (record so_far { keep = true }))
    keep_fault true = refl
    keep_fault false = tt
and_fault so_far (acts action) = fault_on (and_action so_far.joined action) (with_joined so_far) (action_fault so_far.joined action) (λ joined. tt)
and_fault so_far (embeds inside) = fault_on (and_embed so_far.joined inside) (with_joined so_far) (embed_fault so_far.joined inside) (λ joined. tt)

-- a loop over actions
pub behind_begin : (actions : List (List ℕ)) → said_behind nothing_said actions ≡ said_of actions
unfolding said_behind said_of
behind_begin actions = all (each word_of actions)
  where
    all : (read : Result (List Word) ℕ) → (read >>= said_after nothing_said) ≡ (read >>= said_by)
    all (Ok words) = said_together words
    all (Err code) = refl

after_word : (so_far : SoFar) (word : Word) (read : Result (List Word) ℕ) (more : SoFar) → Ok more ≡ and_word so_far word
    → ((read >>= λ words. Ok (word ∷ words)) >>= said_after so_far) ≡ (read >>= said_after more)
after_word so_far word (Ok words) more e = rw (sym e) refl
after_word so_far word (Err code) more e = refl

fault_after : (so_far : SoFar) (word : Word) (read : Result (List Word) ℕ) (code : ℕ) → Only523 read
    → Err code ≡ and_word so_far word → code ≡ 523 → ((read >>= λ words. Ok (word ∷ words)) >>= said_after so_far) ≡ Err code
fault_after so_far word (Ok words) code only e is = rw (sym e) refl
fault_after so_far word (Err other) code only e is = rw (only, is) refl

only_is : {A : Type 0} (code : ℕ) (read : Result A ℕ) → Err code ≡ read → Only523 read → code ≡ 523
only_is {A = A} code read e only = let P : Result A ℕ → Type 0 = Only523 in subst P (sym e) only

pub behind_on : (so_far more : SoFar) (left actions : List (List ℕ)) (action : List ℕ) (word : Word) (all : Result Said ℕ)
    → left ≡ action ∷ actions → Ok word ≡ word_of action → Ok more ≡ and_word so_far word → said_behind so_far left ≡ all
    → said_behind more actions ≡ all
unfolding said_behind each
behind_on so_far more left actions action word all steps e and whole =
    sym (after_word so_far word (each word_of actions) more and)
    ∙ ap (λ (r : Result Word ℕ). (r >>= λ first. each word_of actions >>= λ rest. Ok (first ∷ rest)) >>= said_after so_far) e
    ∙ ap (λ (t : List (List ℕ)). each word_of t >>= said_after so_far) (sym steps) ∙ whole

pub word_stops : (so_far : SoFar) (left actions : List (List ℕ)) (action : List ℕ) (code : ℕ) (all : Result Said ℕ)
    → left ≡ action ∷ actions → Err code ≡ word_of action → said_behind so_far left ≡ all → Err code ≡ all
unfolding said_behind each
word_stops so_far left actions action code all steps e whole =
    ap (λ (r : Result Word ℕ). (r >>= λ first. each word_of actions >>= λ rest. Ok (first ∷ rest)) >>= said_after so_far) e
    ∙ ap (λ (t : List (List ℕ)). each word_of t >>= said_after so_far) (sym steps) ∙ whole

pub and_stops : (so_far : SoFar) (left actions : List (List ℕ)) (action : List ℕ) (word : Word) (code : ℕ) (all : Result Said ℕ)
    → left ≡ action ∷ actions → Ok word ≡ word_of action → Err code ≡ and_word so_far word → said_behind so_far left ≡ all
    → Err code ≡ all
unfolding said_behind each
and_stops so_far left actions action word code all steps e and whole =
    sym (fault_after so_far word (each word_of actions) code (words_fault actions) and (only_is code (and_word so_far word) and (and_fault so_far word)))
    ∙ ap (λ (r : Result Word ℕ). (r >>= λ first. each word_of actions >>= λ rest. Ok (first ∷ rest)) >>= said_after so_far) e
    ∙ ap (λ (t : List (List ℕ)). each word_of t >>= said_after so_far) (sym steps) ∙ whole

pub behind_done : (so_far : SoFar) (left : List (List ℕ)) (all : Result Said ℕ) → left ≡ [] → said_behind so_far left ≡ all
    → Ok (record { joined = joined_or_notify so_far.joined; keep = so_far.keep }) ≡ all
unfolding said_behind each
behind_done so_far left all none whole = ap (λ (t : List (List ℕ)). each word_of t >>= said_after so_far) (sym none) ∙ whole

-- what is embedded doesn't matter to events
pub embed_alike : (events : Events) (inside other : List ℕ) → takes events (embed inside) ≡ takes events (embed other)
embed_alike AllOfLine inside other = refl
embed_alike (One event) inside other = refl
embed_alike (Letters set) inside other = refl

pub both_alike : (events : Events) (inside other : List ℕ)
    → takes events (accumulate_and_embed inside) ≡ takes events (accumulate_and_embed other)
both_alike AllOfLine inside other = refl
both_alike (One event) inside other = refl
both_alike (Letters set) inside other = refl
