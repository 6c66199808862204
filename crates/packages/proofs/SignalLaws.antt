-- What is written of signals is read again.
use Rattle.std.proofs.Common.{◌≡◌, ℕ, ◌<◌, ◌≤◌, ◌^◌, true, leb, List, [], ◌∷◌, ◌++◌, length, refl, ap, ◌∙◌, append-nil, arith, rules, lit<, Some}
use Rattle.std.specs.Prelude.{Ok}
use Rattle.std.specs.List.{list_all}
use Rattle.std.specs.Char.{is_ascii_digit}
use Rattle.std.specs.Fmt.{decimal}
use Rattle.std.specs.Str.Parse.{AllDigits, digits_value}
use Rattle.std.proofs.lemmas.Bool.{leb-true, le-leb, and_parts}
use Rattle.std.proofs.lemmas.Bool.Decides.{nat_tests}
use Rattle.std.proofs.lemmas.Fmt.{decimal_is_IsNumeral, decimal_nonempty, length-decimal-le}
use Rattle.std.proofs.lemmas.Str.Parse.{digit_from_value, IsNumeralModel, numerals_by_value}
use Rattle.mg_bytes.specs.Numbers.{decimal_of, is_decimal}
use Rattle.mg_bytes.specs.Words.{split_once}
use Rattle.packages.specs.declared.signal.Signal.{Signal}
use Rattle.packages.specs.declared.signal.Signal.TheVariants.{DialTone}
use Rattle.packages.specs.declared.signal.Kind.{Kind}
use Rattle.packages.specs.declared.signal.Kind.TheVariants.{TimeOut, Brief, OnOff}
use Rattle.packages.specs.Looking.{kind_of, signal_name, in_package, signal_named, event_named, signal_in}
use Rattle.packages.proofs.ClosedLemmas.{IsClosed, calm_closed, closed_group}
use Rattle.packages.specs.declared.signals.Setting.{Setting}
use Rattle.packages.specs.declared.signals.Setting.TheVariants.{Start, Stop, Lasting}
use Rattle.packages.specs.declared.signals.SignalRequest.{SignalRequest}
use Rattle.packages.specs.Cuts.{items, form_of}
use Rattle.packages.specs.Spelling.{is_name, is_parameter, is_parameter_byte, are_parameters, with_parameters}
use Rattle.packages.specs.SignalSpelling.{is_signal, is_signal_entry, are_signals}
use Rattle.packages.specs.Signals.{most_signals, takes, asked_by, time_in, setting_from, setting_of, signal_called, signal_entry, signals_in, signals_of, setting_text, signal_entry_text, signals_text, is_writable_signal, are_writable_signals}
use Rattle.packages.proofs.JoinLemmas.{is_plain, is_solid, is_flat, flat_is_calm, IsEntry, items_join, name_entry, name_form, grouped, group_entry, group_form}
use Rattle.packages.proofs.WriteLemmas.{listed_spelled, listed_up_to}

-- the name of a signal is read as this signal
record Named (s : Signal) : Type 0 where
  flat : is_flat (signal_name s) ≡ true
  plain : is_plain (signal_name s) ≡ true
  some : leb 1 (length (signal_name s)) ≡ true
  spelled : is_signal (signal_name s) ≡ true
  read : signal_called (signal_name s) ≡ Ok s

named : (s : Signal) → Named s
unfolding signal_name is_signal is_name split_once signal_called in_package signal_named event_named signal_in
named DialTone = record { flat = refl; plain = refl; some = refl; spelled = refl; read = refl }
named _ = record { flat = refl; plain = refl; some = refl; spelled = refl; read = refl }

-- decimal digits are plain, and none is a comma or a parenthesis
digits_flat : (ds : List ℕ) → AllDigits 10 ds → is_flat ds ≡ true
digits_flat [] all = refl
digits_flat (d ∷ ds) all =
    let range = digit_from_value d all.0 in
    let here : is_parameter_byte d ≡ true = grind (arith, nat_tests) in
    rw here (digits_flat ds all.1)

digits_plain : (ds : List ℕ) → AllDigits 10 ds → is_plain ds ≡ true
digits_plain [] all = refl
digits_plain (d ∷ ds) all =
    let range = digit_from_value d all.0 in
    let here : is_solid d ≡ true = grind (arith, nat_tests) in
    rw here (digits_plain ds all.1)

own : IsNumeralModel (λ ds. list_all is_ascii_digit ds ≡ true) (digits_value 10)
own = numerals_by_value _ (search rules)

-- what is written of a number is read again
pub decimal_again : (n : ℕ) → n < 10 ^ 7 → decimal_of (decimal n) ≡ Some n
unfolding decimal_of
decimal_again n small =
    let numeral = decimal_is_IsNumeral n (omega arith) in
    let short : length (decimal n) ≤ 7 = length-decimal-le 7 n (lit< tt) (omega arith) (omega arith) in
    let some : 0 < length (decimal n) = decimal_nonempty n (omega arith) in
    let all : list_all is_ascii_digit (decimal n) ≡ true = own.from _ numeral.0.1 in
    let is : is_decimal (decimal n) ≡ true = grind (arith, nat_tests) in
    rw is (ap Some numeral.1)

-- what stands in the parentheses of a setting
abbrev inside_text : Setting → List (List ℕ)
inside_text Start = []
inside_text Stop = (45 ∷ []) ∷ []
inside_text (Lasting ms) = (116 ∷ 111 ∷ 61 ∷ decimal ms) ∷ []

record Fits (inside : List ℕ) : Type 0 where
  flat : is_flat inside ≡ true
  plain : is_plain inside ≡ true
  some : 0 < length inside

one_item : (inside : List ℕ) → Fits inside → items inside ≡ inside ∷ []
one_item inside h = items_join inside [] (name_entry inside h.flat h.plain h.some, tt)

one_parameter : (inside : List ℕ) → Fits inside → are_parameters inside ≡ true
unfolding are_parameters
one_parameter inside h =
    let some : leb 1 (length inside) ≡ true = le-leb _ _ (h.some) in
    ap (list_all is_parameter) (one_item inside h) ∙ rw (some, h.flat) refl

stop_fits : Fits (45 ∷ [])
stop_fits = record { flat = refl; plain = refl; some = omega arith }

time_fits : (ms : ℕ) → ms < 10 ^ 7 → Fits (116 ∷ 111 ∷ 61 ∷ decimal ms)
time_fits ms small =
    let numeral = decimal_is_IsNumeral ms (omega arith) in
    record { flat = digits_flat _ numeral.0.1; plain = digits_plain _ numeral.0.1; some = omega arith }

small_from : (ms : ℕ) → leb ms 3600000 ≡ true → ms < 10 ^ 7
small_from ms h = let le : ms ≤ 3600000 = leb-true _ _ h in omega arith

-- an entry with a name and what stands in parentheses
record Reads (text head : List ℕ) (inside : List (List ℕ)) : Type 0 where
  entry : IsEntry text
  form : form_of text ≡ Some (record { head = head; inside = inside })
  spelled : with_parameters true inside ≡ true

bare : (head : List ℕ) → is_flat head ≡ true → is_plain head ≡ true → 0 < length head → Reads (head ++ []) head []
bare head flat plain some =
    rw append-nil (record { entry = name_entry head flat plain some; form = name_form head flat plain; spelled = refl })

group : (head inside : List ℕ) → is_flat head ≡ true → is_plain head ≡ true → Fits inside → Reads (grouped head inside) head (inside ∷ [])
group head inside flat plain h = record {
  entry = group_entry head inside flat plain (flat_is_calm inside h.flat) h.plain;
  form = group_form head inside flat plain (flat_is_calm inside h.flat) h.plain;
  spelled = one_parameter inside h;
}

setting_reads : (kind : Kind) (setting : Setting) (head : List ℕ) → takes kind setting ≡ true → is_flat head ≡ true → is_plain head ≡ true → 0 < length head
    → Reads (head ++ setting_text setting) head (inside_text setting)
setting_reads kind Start head ok flat plain some = bare head flat plain some
setting_reads TimeOut Stop head ok flat plain some = group head (45 ∷ []) flat plain stop_fits
setting_reads OnOff Stop head ok flat plain some = group head (45 ∷ []) flat plain stop_fits
setting_reads Brief Stop head ok flat plain some = absurd cc
setting_reads TimeOut (Lasting ms) head ok flat plain some = group head (116 ∷ 111 ∷ 61 ∷ decimal ms) flat plain (time_fits ms (small_from ms ok))
setting_reads OnOff (Lasting ms) head ok flat plain some = absurd cc
setting_reads Brief (Lasting ms) head ok flat plain some = absurd cc

-- an entry is closed, at any depth
setting_closed : (kind : Kind) (setting : Setting) (head : List ℕ) → takes kind setting ≡ true → is_flat head ≡ true → IsClosed (head ++ setting_text setting)
setting_closed kind Start head ok flat = rw append-nil (calm_closed head (flat_is_calm head flat))
setting_closed kind Stop head ok flat = closed_group head (45 ∷ []) flat (calm_closed (45 ∷ []) refl)
setting_closed TimeOut (Lasting ms) head ok flat =
    let inside : List ℕ = 116 ∷ 111 ∷ 61 ∷ decimal ms in
    closed_group head inside flat (calm_closed inside (flat_is_calm inside (time_fits ms (small_from ms ok)).flat))
setting_closed OnOff (Lasting ms) head ok flat = absurd cc
setting_closed Brief (Lasting ms) head ok flat = absurd cc

pub entry_closed : (r : SignalRequest) → is_writable_signal r ≡ true → IsClosed (signal_entry_text r)
unfolding signal_entry_text
entry_closed r ok = setting_closed (kind_of r.signal) r.setting (signal_name r.signal) ok (named r.signal).flat

setting_again : (kind : Kind) (setting : Setting) → takes kind setting ≡ true → setting_of kind (inside_text setting) ≡ Ok setting
unfolding setting_of asked_by time_in
setting_again kind Start ok = refl
setting_again TimeOut Stop ok = ap (setting_from TimeOut) (one_item (45 ∷ []) stop_fits)
setting_again OnOff Stop ok = ap (setting_from OnOff) (one_item (45 ∷ []) stop_fits)
setting_again Brief Stop ok = absurd cc
setting_again TimeOut (Lasting ms) ok =
    ap (setting_from TimeOut) (one_item _ (time_fits ms (small_from ms ok))) ∙ rw (decimal_again ms (small_from ms ok), ok, ok) refl
setting_again OnOff (Lasting ms) ok = absurd cc
setting_again Brief (Lasting ms) ok = absurd cc

entry_reads : (s : Signal) (setting : Setting) → takes (kind_of s) setting ≡ true → Reads (signal_name s ++ setting_text setting) (signal_name s) (inside_text setting)
entry_reads s setting ok = let n = named s in setting_reads (kind_of s) setting (signal_name s) ok n.flat n.plain (leb-true _ _ n.some)

pub entry_again : (r : SignalRequest) → is_writable_signal r ≡ true → signal_entry (signal_entry_text r) ≡ Ok r
unfolding signal_entry signal_entry_text
entry_again r ok =
    let n = named r.signal in
    rw ((entry_reads r.signal r.setting ok).form, n.read, setting_again (kind_of r.signal) r.setting ok) refl

pub entry_spelled : (r : SignalRequest) → is_writable_signal r ≡ true → is_signal_entry (signal_entry_text r) ≡ true
unfolding is_signal_entry signal_entry_text
entry_spelled r ok =
    let n = named r.signal in
    let reads = entry_reads r.signal r.setting ok in
    rw (reads.form, n.spelled) (reads.spelled)

pub entry_is_entry : (r : SignalRequest) → is_writable_signal r ≡ true → IsEntry (signal_entry_text r)
unfolding signal_entry_text
entry_is_entry r ok = (entry_reads r.signal r.setting ok).entry

-- the written form of S is read as the list that it was written from
pub signals_again : (rs : List SignalRequest) → are_writable_signals rs ≡ true → signals_of (signals_text rs) ≡ Ok rs
unfolding signals_of signals_in signals_text are_signals are_writable_signals
signals_again rs ok =
    let each_can = (and_parts (leb (length rs) most_signals) (list_all is_writable_signal rs) ok).1 in
    rw (listed_spelled is_writable_signal signal_entry_text is_signal_entry rs entry_is_entry entry_spelled each_can)
    (listed_up_to is_writable_signal signal_entry_text most_signals signal_entry rs entry_is_entry entry_again ok)
