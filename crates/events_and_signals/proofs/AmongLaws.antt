-- A signal among the active ones.
use Rattle.std.proofs.Common.{◌≡◌, ◌≢◌, Bool, true, false, ◌&&◌, ◌||◌, not, if◌then◌else◌, List, [], ◌∷◌, map, filter, Option, Some, None, is_some, refl, sym, ap, ◌∙◌}
use Rattle.std.specs.List.{list_any, filter_map, cons_option}
use Rattle.std.specs.Option.{option_or}
use Rattle.std.proofs.lemmas.List.Elements.{filter_agree}
use Rattle.packages.specs.declared.signal.Signal.{Signal}
use Rattle.packages.specs.declared.signal.Signal.TheVariants.{DialTone, Busy, Reorder, Ringing, RingSplash, MessageWaiting, Ringback, Congestion, Confirm}
use Rattle.packages.specs.Looking.{is_same_signal}
use Rattle.events_and_signals.specs.declared.active.ActiveSignal.{ActiveSignal}
use Rattle.events_and_signals.specs.Active.{table, among, IsInTableOrder}
use Rattle.events_and_signals.specs.Fields.{is_apart, are_distinct}
use Rattle.events_and_signals.proofs.RequestLemmas.{IsOf, same_true}

pub same_itself : (signal : Signal) → is_same_signal signal signal ≡ true
same_itself DialTone = refl
same_itself Busy = refl
same_itself Reorder = refl
same_itself Ringing = refl
same_itself RingSplash = refl
same_itself MessageWaiting = refl
same_itself Ringback = refl
same_itself Congestion = refl
same_itself Confirm = refl

false_by : (b : Bool) → (b ≡ true → ⊥) → b ≡ false
false_by true never = absurd (never refl)
false_by false never = refl

pub other_false : (other signal : Signal) → other ≢ signal → is_same_signal other signal ≡ false
other_false other signal apart = false_by (is_same_signal other signal) (λ same. apart (same_true other signal same))

-- what is found is the signal that was sought
pub IsOf-among : (signal : Signal) (active : List ActiveSignal) → IsOf signal (among signal active)
IsOf-among signal [] = tt
IsOf-among signal (a ∷ active) = by_first (is_same_signal a.signal signal) refl (IsOf-among signal active)
  where
    by_first : (b : Bool) → is_same_signal a.signal signal ≡ b → IsOf signal (among signal active) → IsOf signal (if b then Some a else among signal active)
    by_first true same rest = same_true a.signal signal same
    by_first false same rest = rest

-- Some of the active signals

pub among-filter : (keeps : Signal → Bool) (signal : Signal) (active : List ActiveSignal)
    → among signal (filter (λ a. keeps a.signal) active) ≡ (if keeps signal then among signal active else None)
among-filter keeps signal [] = by_test (keeps signal)
  where
    by_test : (b : Bool) → None ≡ (if b then among signal [] else None)
    by_test true = refl
    by_test false = refl
among-filter keeps signal (a ∷ active) = by_first (is_same_signal a.signal signal) (keeps a.signal) (keeps signal) refl refl refl (among-filter keeps signal active)
  where
    by_first : (same kept keep : Bool) → is_same_signal a.signal signal ≡ same → keeps a.signal ≡ kept → keeps signal ≡ keep
        → among signal (filter (λ a. keeps a.signal) active) ≡ (if keeps signal then among signal active else None)
        → among signal (if kept then a ∷ filter (λ a. keeps a.signal) active else filter (λ a. keeps a.signal) active)
        ≡ (if keep then (if same then Some a else among signal active) else None)
    by_first true true true e f g rest = rw e refl
    by_first true true false e f g rest = let named : a.signal ≡ signal = same_true a.signal signal e in let h : true ≡ false = sym f ∙ ap keeps named ∙ g in absurd cc
    by_first true false true e f g rest = let named : a.signal ≡ signal = same_true a.signal signal e in let h : false ≡ true = sym f ∙ ap keeps named ∙ g in absurd cc
    by_first true false false e f g rest = rest ∙ rw g refl
    by_first false true true e f g rest = rw e (rest ∙ rw g refl)
    by_first false true false e f g rest = rw e (rest ∙ rw g refl)
    by_first false false true e f g rest = rest ∙ rw g refl
    by_first false false false e f g rest = rest ∙ rw g refl

-- What each signal of the table becomes

abbrev pub Becomes : Type 0
Becomes = Signal → Option ActiveSignal

among-cons : (signal other : Signal) (one : Option ActiveSignal) (rest : List ActiveSignal) → IsOf other one
    → among signal (cons_option one rest) ≡ (if is_same_signal other signal then option_or one (among signal rest) else among signal rest)
among-cons signal other None rest is = by_test (is_same_signal other signal)
  where
    by_test : (b : Bool) → among signal rest ≡ (if b then among signal rest else among signal rest)
    by_test true = refl
    by_test false = refl
among-cons signal other (Some a) rest is = ap (λ s. if is_same_signal s signal then Some a else among signal rest) is

absent : (g : Becomes) → ((s : Signal) → IsOf s (g s)) → (signal : Signal) (others : List Signal) → is_apart signal others ≡ true → among signal (filter_map g others) ≡ None
absent g own signal [] apart = refl
absent g own signal (o ∷ others) apart = among-cons signal o (g o) (filter_map g others) (own o) ∙ by_first (is_same_signal o signal) apart (absent g own signal others)
  where
    by_first : (b : Bool) → not (b || list_any (λ other. is_same_signal other signal) others) ≡ true → (is_apart signal others ≡ true → among signal (filter_map g others) ≡ None)
        → (if b then option_or (g o) (among signal (filter_map g others)) else among signal (filter_map g others)) ≡ None
    by_first true e rest = absurd cc
    by_first false e rest = rest e

or_none : (one : Option ActiveSignal) → option_or one None ≡ one
or_none None = refl
or_none (Some a) = refl

both : (a b : Bool) → (a && b) ≡ true → (a ≡ true) × (b ≡ true)
both true b e = (refl, e)
both false b e = absurd cc

present : (g : Becomes) → ((s : Signal) → IsOf s (g s)) → (signal : Signal) (signals : List Signal) → are_distinct signals ≡ true → list_any (λ other. is_same_signal other signal) signals ≡ true
    → among signal (filter_map g signals) ≡ g signal
present g own signal [] distinct stands = absurd cc
present g own signal (o ∷ others) distinct stands =
    let parts : ((is_same_signal o o && is_apart o others) ≡ true) × (are_distinct others ≡ true) = both _ _ distinct in
    let firsts : (is_same_signal o o ≡ true) × (is_apart o others ≡ true) = both _ _ parts.0 in
    among-cons signal o (g o) (filter_map g others) (own o)
    ∙ by_first (is_same_signal o signal) refl stands firsts.1 (present g own signal others parts.1)
  where
    by_first : (b : Bool) → is_same_signal o signal ≡ b → (b || list_any (λ other. is_same_signal other signal) others) ≡ true → is_apart o others ≡ true
        → (list_any (λ other. is_same_signal other signal) others ≡ true → among signal (filter_map g others) ≡ g signal)
        → (if b then option_or (g o) (among signal (filter_map g others)) else among signal (filter_map g others)) ≡ g signal
    by_first true e stands apart rest =
        let named : o ≡ signal = same_true o signal e in
        let none : among signal (filter_map g others) ≡ None = absent g own signal others (ap (λ s. is_apart s others) (sym named) ∙ apart) in
        ap (option_or (g o)) none ∙ or_none (g o) ∙ ap g named
    by_first false e stands apart rest = rest stands

in_table : (signal : Signal) → list_any (λ other. is_same_signal other signal) table ≡ true
in_table DialTone = refl
in_table Busy = refl
in_table Reorder = refl
in_table Ringing = refl
in_table RingSplash = refl
in_table MessageWaiting = refl
in_table Ringback = refl
in_table Congestion = refl
in_table Confirm = refl

pub among-filter_map : (g : Becomes) → ((s : Signal) → IsOf s (g s)) → (signal : Signal) → among signal (filter_map g table) ≡ g signal
among-filter_map g own signal = present g own signal table refl (in_table signal)

-- The order of the table

signals-filter_map : (g : Becomes) → ((s : Signal) → IsOf s (g s)) → (signals : List Signal) → map (λ a. a.signal) (filter_map g signals) ≡ filter (λ s. is_some (g s)) signals
signals-filter_map g own [] = refl
signals-filter_map g own (s ∷ ss) = by_one (g s) (own s) (signals-filter_map g own ss)
  where
    by_one : (one : Option ActiveSignal) → IsOf s one → map (λ a. a.signal) (filter_map g ss) ≡ filter (λ s. is_some (g s)) ss
        → map (λ a. a.signal) (cons_option one (filter_map g ss)) ≡ (if is_some one then s ∷ filter (λ s. is_some (g s)) ss else filter (λ s. is_some (g s)) ss)
    by_one None is rest = rest
    by_one (Some a) is rest = ap (λ one. one ∷ map (λ a. a.signal) (filter_map g ss)) is ∙ ap (λ others. s ∷ others) rest

pub in_order-filter_map : (g : Becomes) → ((s : Signal) → IsOf s (g s)) → IsInTableOrder (filter_map g table)
in_order-filter_map g own =
    signals-filter_map g own table
    ∙ filter_agree (λ s. is_some (g s)) (λ s. is_some (among s (filter_map g table))) (λ s. ap is_some (sym (among-filter_map g own s))) table

signals-filter : (keeps : Signal → Bool) (active : List ActiveSignal) → map (λ a. a.signal) (filter (λ a. keeps a.signal) active) ≡ filter keeps (map (λ a. a.signal) active)
signals-filter keeps [] = refl
signals-filter keeps (a ∷ active) = by_test (keeps a.signal) (signals-filter keeps active)
  where
    by_test : (b : Bool) → map (λ a. a.signal) (filter (λ a. keeps a.signal) active) ≡ filter keeps (map (λ a. a.signal) active)
        → map (λ a. a.signal) (if b then a ∷ filter (λ a. keeps a.signal) active else filter (λ a. keeps a.signal) active)
        ≡ (if b then a.signal ∷ filter keeps (map (λ a. a.signal) active) else filter keeps (map (λ a. a.signal) active))
    by_test true rest = ap (λ others. a.signal ∷ others) rest
    by_test false rest = rest

filter-both : (keeps : Signal → Bool) (found : Signal → Option ActiveSignal) (signals : List Signal) → filter keeps (filter (λ s. is_some (found s)) signals) ≡ filter (λ s. is_some (if keeps s then found s else None)) signals
filter-both keeps found [] = refl
filter-both keeps found (s ∷ ss) = by_tests (keeps s) (found s) refl (filter-both keeps found ss)
  where
    by_tests : (b : Bool) (o : Option ActiveSignal) → keeps s ≡ b → filter keeps (filter (λ s. is_some (found s)) ss) ≡ filter (λ s. is_some (if keeps s then found s else None)) ss
        → filter keeps (if is_some o then s ∷ filter (λ s. is_some (found s)) ss else filter (λ s. is_some (found s)) ss)
        ≡ (if is_some (if b then o else None) then s ∷ filter (λ s. is_some (if keeps s then found s else None)) ss else filter (λ s. is_some (if keeps s then found s else None)) ss)
    by_tests true None e rest = rest
    by_tests true (Some a) e rest = rw e (ap (λ others. s ∷ others) rest)
    by_tests false None e rest = rest
    by_tests false (Some a) e rest = rw e rest

pub in_order-filter : (keeps : Signal → Bool) (active : List ActiveSignal) → IsInTableOrder active → IsInTableOrder (filter (λ a. keeps a.signal) active)
in_order-filter keeps active order =
    signals-filter keeps active
    ∙ ap (filter keeps) order
    ∙ filter-both keeps (λ s. among s active) table
    ∙ filter_agree (λ s. is_some (if keeps s then among s active else None)) (λ s. is_some (among s (filter (λ a. keeps a.signal) active))) (λ s. ap is_some (sym (among-filter keeps s active))) table
