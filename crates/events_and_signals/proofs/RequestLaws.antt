-- What S makes of a signal among the active ones.
use Rattle.std.proofs.Common.{◌≡◌, ◌≢◌, ℕ, ◌+◌, ◌<◌, Bool, true, false, ◌&&◌, ◌||◌, not, ◌⊎◌, inl, inr, eqb, if◌then◌else◌, List, [], ◌∷◌, ◌++◌, map, filter, fold, All, Option, Some, None, is_some, IfSome, IsSome, refl, sym, ap, ◌∙◌, subst, arith}
use Rattle.std.proofs.lemmas.Bool.Decides.{nat_tests}
use Rattle.std.proofs.lemmas.List.Elements.{All-nil, All-cons, All-head, All-tail, All-weaker, filter_passes, filter-append}
use Rattle.std.proofs.lemmas.List.Sums.{fold-append}
use Rattle.mg_bytes.specs.Checks.{first_fault}
use Rattle.packages.specs.declared.hook.Hook.{Hook}
use Rattle.packages.specs.declared.signal.Signal.{Signal}
use Rattle.packages.specs.Looking.{is_same_signal, time_of, refused_in}
use Rattle.packages.specs.declared.signals.Setting.{Setting}
use Rattle.packages.specs.declared.signals.Setting.TheVariants.{Start, Stop, Lasting}
use Rattle.packages.specs.declared.signals.SignalRequest.{SignalRequest}
use Rattle.events_and_signals.specs.declared.active.ActiveSignal.{ActiveSignal}
use Rattle.events_and_signals.specs.Active.{among, is_time_out, is_forbidden, IsInTableOrder}
use Rattle.events_and_signals.specs.Stopping.{without_time_outs, allowed_in, without}
use Rattle.events_and_signals.specs.Applying.{refused_entry, signals_refusal, end_after, goes_on, after_start, after_setting, after_entry, entries_for, after_entries, applied}
use Rattle.events_and_signals.proofs.RequestLemmas.{after_requests, same_true, IsOf-after_requests}
use Rattle.events_and_signals.proofs.AmongLaws.{same_itself, other_false, IsOf-among, among-filter, among-filter_map, in_order-filter_map, in_order-filter}

-- each by itself
pub among-applied : (requests : List SignalRequest) (hook : Hook) (moment : ℕ) (active : List ActiveSignal) (signal : Signal)
    → among signal (applied requests hook moment active) ≡ after_entries hook moment signal (among signal active) (entries_for signal requests)
unfolding applied
among-applied requests hook moment active signal =
    among-filter_map (λ s. after_requests requests hook moment s (among s active)) (λ s. IsOf-after_requests requests hook moment s (among s active) (IsOf-among s active)) signal

pub in_order-applied : (requests : List SignalRequest) (hook : Hook) (moment : ℕ) (active : List ActiveSignal) → IsInTableOrder (applied requests hook moment active)
unfolding applied
in_order-applied requests hook moment active =
    in_order-filter_map (λ s. after_requests requests hook moment s (among s active)) (λ s. IsOf-after_requests requests hook moment s (among s active) (IsOf-among s active))

-- Entries that name a signal

-- what holds of a signal goes on through the entries that name it
along_entries : (hook : Hook) (moment : ℕ) (signal : Signal) (P : Option ActiveSignal → Type 0) (Q : Setting → Type 0)
    → ((was : Option ActiveSignal) (setting : Setting) → Q setting → P was → P (after_setting hook moment signal was setting))
    → (requests : List SignalRequest) (was : Option ActiveSignal) → All (λ entry. Q entry.setting) (entries_for signal requests) → P was
    → P (fold (after_entry hook moment) was (entries_for signal requests))
along_entries hook moment signal P Q keeps [] was all holds = holds
along_entries hook moment signal P Q keeps (request ∷ requests) was all holds = by_first (is_same_signal request.signal signal) refl all (along_entries hook moment signal P Q keeps requests)
  where
    by_first : (b : Bool) → is_same_signal request.signal signal ≡ b → All (λ entry. Q entry.setting) (if b then request ∷ entries_for signal requests else entries_for signal requests)
        → ((next : Option ActiveSignal) → All (λ entry. Q entry.setting) (entries_for signal requests) → P next → P (fold (after_entry hook moment) next (entries_for signal requests)))
        → P (fold (after_entry hook moment) was (if b then request ∷ entries_for signal requests else entries_for signal requests))
    by_first true e all rest =
        let named : request.signal ≡ signal = same_true request.signal signal e in
        let one : P (after_setting hook moment signal was request.setting) = keeps was request.setting (All-head (λ entry. Q entry.setting) request (entries_for signal requests) all) holds in
        let here : P (after_entry hook moment was request) = subst (λ s. P (after_setting hook moment s was request.setting)) (sym named) one in
        rest _ (All-tail (λ entry. Q entry.setting) request (entries_for signal requests) all) here
    by_first false e all rest = rest was all holds

all_entries : (entries : List SignalRequest) → All (λ entry. Unit {0}) entries
all_entries entries = λ k d inside. tt

after_entries-named : (hook : Hook) (moment : ℕ) (signal : Signal) (was : Option ActiveSignal) (entries : List SignalRequest) → entries ≢ []
    → after_entries hook moment signal was entries ≡ fold (after_entry hook moment) was entries
unfolding after_entries
after_entries-named hook moment signal was [] some = absurd (some refl)
after_entries-named hook moment signal was (entry ∷ entries) some = refl

after_entries-unnamed : (hook : Hook) (moment : ℕ) (signal : Signal) (was : Option ActiveSignal) (entries : List SignalRequest) → entries ≡ []
    → after_entries hook moment signal was entries ≡ (if is_time_out signal then None else was)
unfolding after_entries
after_entries-unnamed hook moment signal was entries none = rw none refl

pub among-unnamed : (requests : List SignalRequest) (hook : Hook) (moment : ℕ) (active : List ActiveSignal) (signal : Signal) → entries_for signal requests ≡ []
    → among signal (applied requests hook moment active) ≡ (if is_time_out signal then None else among signal active)
among-unnamed requests hook moment active signal none =
    among-applied requests hook moment active signal ∙ after_entries-unnamed hook moment signal (among signal active) (entries_for signal requests) none

-- A time-out signal goes on

start_goes_on : (hook : Hook) (moment : ℕ) (signal : Signal) (time : ℕ) (was : ActiveSignal) → is_time_out signal ≡ true → after_start hook moment signal time (Some was) ≡ Some was
unfolding after_start
start_goes_on hook moment signal time was time_out = by_hook (is_forbidden hook signal)
  where
    by_hook : (b : Bool) → (if b || (is_time_out signal && true) then Some was else Some (record { signal = signal; end = end_after moment time })) ≡ Some was
    by_hook true = refl
    by_hook false = rw time_out refl

setting_goes_on : (hook : Hook) (moment : ℕ) (signal : Signal) (is : ActiveSignal) → is_time_out signal ≡ true → (was : Option ActiveSignal) (setting : Setting) → setting ≢ Stop → was ≡ Some is
    → after_setting hook moment signal was setting ≡ Some is
setting_goes_on hook moment signal is time_out was Stop never same = absurd (never refl)
setting_goes_on hook moment signal is time_out was Start never same = rw same (start_goes_on hook moment signal (time_of signal) is time_out)
setting_goes_on hook moment signal is time_out was (Lasting ms) never same = rw same (start_goes_on hook moment signal ms is time_out)

pub among-goes_on : (requests : List SignalRequest) (hook : Hook) (moment : ℕ) (active : List ActiveSignal) (signal : Signal) (was : ActiveSignal) → is_time_out signal ≡ true
    → among signal active ≡ Some was → entries_for signal requests ≢ [] → All (λ entry. entry.setting ≢ Stop) (entries_for signal requests)
    → among signal (applied requests hook moment active) ≡ Some was
among-goes_on requests hook moment active signal was time_out is named never =
    among-applied requests hook moment active signal
    ∙ after_entries-named hook moment signal (among signal active) (entries_for signal requests) named
    ∙ along_entries hook moment signal (λ o. o ≡ Some was) (λ setting. setting ≢ Stop) (setting_goes_on hook moment signal was time_out) requests (among signal active) never is

-- The last entry

named_not_none : (requests : List SignalRequest) (request : SignalRequest) (after : List SignalRequest) → requests ++ request ∷ after ≢ []
named_not_none [] request after = λ none. absurd cc
named_not_none (r ∷ requests) request after = λ none. absurd cc

entries-append : (before after : List SignalRequest) (request : SignalRequest)
    → entries_for request.signal (before ++ request ∷ after) ≡ entries_for request.signal before ++ request ∷ entries_for request.signal after
entries-append before after request =
    let same : is_same_signal request.signal request.signal ≡ true = same_itself request.signal in
    filter-append (λ entry. is_same_signal entry.signal request.signal) before (request ∷ after)
    ∙ ap (λ b. entries_for request.signal before ++ (if b then request ∷ entries_for request.signal after else entries_for request.signal after)) same

-- what the entries up to this one make of its signal, and then those after it
by_parts : (before after : List SignalRequest) (request : SignalRequest) (hook : Hook) (moment : ℕ) (was : Option ActiveSignal)
    → after_entries hook moment request.signal was (entries_for request.signal (before ++ request ∷ after))
    ≡ fold (after_entry hook moment) (after_entry hook moment (fold (after_entry hook moment) was (entries_for request.signal before)) request) (entries_for request.signal after)
by_parts before after request hook moment was =
    ap (after_entries hook moment request.signal was) (entries-append before after request)
    ∙ after_entries-named hook moment request.signal was (entries_for request.signal before ++ request ∷ entries_for request.signal after) (named_not_none (entries_for request.signal before) request (entries_for request.signal after))
    ∙ fold-append (after_entry hook moment) was (entries_for request.signal before) (request ∷ entries_for request.signal after)

pub among-only : (before after : List SignalRequest) (request : SignalRequest) (hook : Hook) (moment : ℕ) (active : List ActiveSignal)
    → entries_for request.signal before ≡ [] → entries_for request.signal after ≡ []
    → among request.signal (applied (before ++ request ∷ after) hook moment active) ≡ after_entry hook moment (among request.signal active) request
among-only before after request hook moment active first last =
    among-applied (before ++ request ∷ after) hook moment active request.signal
    ∙ by_parts before after request hook moment (among request.signal active)
    ∙ rw (first, last) refl

pub among-last : (before after : List SignalRequest) (request : SignalRequest) (hook : Hook) (moment : ℕ) (active : List ActiveSignal)
    → entries_for request.signal before ≢ [] → entries_for request.signal after ≡ []
    → among request.signal (applied (before ++ request ∷ after) hook moment active) ≡ after_entry hook moment (among request.signal (applied before hook moment active)) request
among-last before after request hook moment active named last =
    let was : Option ActiveSignal = among request.signal active in
    among-applied (before ++ request ∷ after) hook moment active request.signal
    ∙ by_parts before after request hook moment was
    ∙ rw last (ap (λ o. after_entry hook moment o request)
    (sym (among-applied before hook moment active request.signal ∙ after_entries-named hook moment request.signal was (entries_for request.signal before) named)))

-- Ends are later

abbrev EndsLater : ℕ → Option ActiveSignal → Type 0
EndsLater moment active = IfSome active (λ a. IfSome a.end (λ end. moment < end))

end_later : (moment time : ℕ) → IfSome (end_after moment time) (λ end. moment < end)
end_later moment time = by_test (eqb time 0) refl
  where
    by_test : (b : Bool) → eqb time 0 ≡ b → IfSome (if b then None else Some (moment + time)) (λ end. moment < end)
    by_test true e = tt
    by_test false e = grind (arith, nat_tests)

start_later : (hook : Hook) (moment : ℕ) (signal : Signal) (time : ℕ) (first was : Option ActiveSignal) → (was ≡ first) ⊎ EndsLater moment was
    → (after_start hook moment signal time was ≡ first) ⊎ EndsLater moment (after_start hook moment signal time was)
unfolding after_start
start_later hook moment signal time first was holds = by_test (is_forbidden hook signal || goes_on signal was)
  where
    by_test : (b : Bool) → ((if b then was else Some (record { signal = signal; end = end_after moment time })) ≡ first)
        ⊎ EndsLater moment (if b then was else Some (record { signal = signal; end = end_after moment time }))
    by_test true = holds
    by_test false = inr (end_later moment time)

setting_later : (hook : Hook) (moment : ℕ) (signal : Signal) (first was : Option ActiveSignal) (setting : Setting) → Unit {0} → (was ≡ first) ⊎ EndsLater moment was
    → (after_setting hook moment signal was setting ≡ first) ⊎ EndsLater moment (after_setting hook moment signal was setting)
setting_later hook moment signal first was Stop any holds = inr tt
setting_later hook moment signal first was Start any holds = start_later hook moment signal (time_of signal) first was holds
setting_later hook moment signal first was (Lasting ms) any holds = start_later hook moment signal ms first was holds

entries_later : (hook : Hook) (moment : ℕ) (signal : Signal) (first : Option ActiveSignal) (entries : List SignalRequest)
    → (fold (after_entry hook moment) first entries ≡ first) ⊎ EndsLater moment (fold (after_entry hook moment) first entries)
    → (after_entries hook moment signal first entries ≡ first) ⊎ EndsLater moment (after_entries hook moment signal first entries)
unfolding after_entries
entries_later hook moment signal first [] folded = by_kind (is_time_out signal)
  where
    by_kind : (b : Bool) → ((if b then None else first) ≡ first) ⊎ EndsLater moment (if b then None else first)
    by_kind true = inr tt
    by_kind false = inl refl
entries_later hook moment signal first (entry ∷ entries) folded = folded

later_if : (moment : ℕ) (first now : Option ActiveSignal) (is : ActiveSignal) → now ≡ Some is → (now ≡ first) ⊎ EndsLater moment now → (first ≡ Some is) ⊎ IfSome is.end (λ end. moment < end)
later_if moment first now is e (inl same) = inl (sym same ∙ e)
later_if moment first now is e (inr later) = inr (rw e at later)

pub among-later : (requests : List SignalRequest) (hook : Hook) (moment : ℕ) (active : List ActiveSignal) (signal : Signal) (is : ActiveSignal)
    → among signal (applied requests hook moment active) ≡ Some is → (among signal active ≡ Some is) ⊎ IfSome is.end (λ end. moment < end)
among-later requests hook moment active signal is e =
    let first : Option ActiveSignal = among signal active in
    later_if moment first (after_entries hook moment signal first (entries_for signal requests)) is
    (sym (among-applied requests hook moment active signal) ∙ e)
    (entries_later hook moment signal first (entries_for signal requests)
    (along_entries hook moment signal (λ o. (o ≡ first) ⊎ EndsLater moment o) (λ setting. Unit {0}) (λ was setting. setting_later hook moment signal first was setting) requests first (all_entries (entries_for signal requests)) (inl refl)))

-- What starts

start_active : (hook : Hook) (moment : ℕ) (signal : Signal) (time : ℕ) (was : Option ActiveSignal) → IsSome was → IsSome (after_start hook moment signal time was)
unfolding after_start
start_active hook moment signal time was some = by_test (is_forbidden hook signal || goes_on signal was)
  where
    by_test : (b : Bool) → IsSome (if b then was else Some (record { signal = signal; end = end_after moment time }))
    by_test true = some
    by_test false = refl

setting_active : (hook : Hook) (moment : ℕ) (signal : Signal) (was : Option ActiveSignal) (setting : Setting) → setting ≢ Stop → IsSome was → IsSome (after_setting hook moment signal was setting)
setting_active hook moment signal was Stop never some = absurd (never refl)
setting_active hook moment signal was Start never some = start_active hook moment signal (time_of signal) was some
setting_active hook moment signal was (Lasting ms) never some = start_active hook moment signal ms was some

start_allowed : (hook : Hook) (moment : ℕ) (signal : Signal) (time : ℕ) (was : Option ActiveSignal) → refused_in hook signal ≡ None → IsSome (after_start hook moment signal time was)
unfolding after_start
start_allowed hook moment signal time None allowed = rw allowed (by_kind (is_time_out signal))
  where
    by_kind : (b : Bool) → IsSome {T = ActiveSignal} (if b && false then None else Some (record { signal = signal; end = end_after moment time }))
    by_kind true = refl
    by_kind false = refl
start_allowed hook moment signal time (Some was) allowed = start_active hook moment signal time (Some was) refl

setting_allowed : (hook : Hook) (moment : ℕ) (request : SignalRequest) (setting : Setting) (was : Option ActiveSignal) → request.setting ≡ setting → setting ≢ Stop → refused_entry hook request ≡ None
    → IsSome (after_setting hook moment request.signal was setting)
setting_allowed hook moment request Stop was is never allowed = absurd (never refl)
setting_allowed hook moment request Start was is never allowed = start_allowed hook moment request.signal (time_of request.signal) was (rw is at allowed)
setting_allowed hook moment request (Lasting ms) was is never allowed = start_allowed hook moment request.signal ms was (rw is at allowed)

-- no entry is refused
pub none_refused : (requests : List SignalRequest) (hook : Hook) → signals_refusal requests hook ≡ None → All (λ request. refused_entry hook request ≡ None) requests
unfolding signals_refusal
none_refused [] hook none = All-nil (λ request. refused_entry hook request ≡ None)
none_refused (request ∷ requests) hook none = by_first (refused_entry hook request) refl none (none_refused requests hook)
  where
    by_first : (code : Option ℕ) → refused_entry hook request ≡ code → first_fault (code ∷ map (refused_entry hook) requests) ≡ None
        → (first_fault (map (refused_entry hook) requests) ≡ None → All (λ request. refused_entry hook request ≡ None) requests) → All (λ request. refused_entry hook request ≡ None) (request ∷ requests)
    by_first None e none rest = All-cons (λ request. refused_entry hook request ≡ None) request requests e (rest none)
    by_first (Some code) e none rest = absurd cc

pub first_refused : (before after : List SignalRequest) (request : SignalRequest) (hook : Hook) (code : ℕ) → All (λ earlier. refused_entry hook earlier ≡ None) before → refused_entry hook request ≡ Some code
    → signals_refusal (before ++ request ∷ after) hook ≡ Some code
unfolding signals_refusal
first_refused [] after request hook code all here = rw here refl
first_refused (earlier ∷ before) after request hook code all here =
    let first : refused_entry hook earlier ≡ None = All-head (λ earlier. refused_entry hook earlier ≡ None) earlier before all in
    rw first (first_refused before after request hook code (All-tail (λ earlier. refused_entry hook earlier ≡ None) earlier before all) here)

one_allowed : (before after : List SignalRequest) (request : SignalRequest) (hook : Hook) → All (λ request. refused_entry hook request ≡ None) (before ++ request ∷ after) → refused_entry hook request ≡ None
one_allowed [] after request hook all = All-head (λ request. refused_entry hook request ≡ None) request after all
one_allowed (r ∷ before) after request hook all = one_allowed before after request hook (All-tail (λ request. refused_entry hook request ≡ None) r (before ++ request ∷ after) all)

pub among-starts : (before after : List SignalRequest) (request : SignalRequest) (hook : Hook) (moment : ℕ) (active : List ActiveSignal)
    → signals_refusal (before ++ request ∷ after) hook ≡ None → request.setting ≢ Stop → All (λ later. later.setting ≢ Stop) (entries_for request.signal after)
    → IsSome (among request.signal (applied (before ++ request ∷ after) hook moment active))
among-starts before after request hook moment active none start later =
    let was : Option ActiveSignal = fold (after_entry hook moment) (among request.signal active) (entries_for request.signal before) in
    let allowed : refused_entry hook request ≡ None = one_allowed before after request hook (none_refused (before ++ request ∷ after) hook none) in
    let started : IsSome (after_entry hook moment was request) = setting_allowed hook moment request request.setting was refl start allowed in
    let stays : IsSome (fold (after_entry hook moment) (after_entry hook moment was request) (entries_for request.signal after)) =
    along_entries hook moment request.signal IsSome (λ setting. setting ≢ Stop) (setting_active hook moment request.signal) after (after_entry hook moment was request) later started in
    let is : among request.signal (applied (before ++ request ∷ after) hook moment active) ≡ fold (after_entry hook moment) (after_entry hook moment was request) (entries_for request.signal after) =
    among-applied (before ++ request ∷ after) hook moment active request.signal ∙ by_parts before after request hook moment (among request.signal active) in
    rw is stays

setting_forbidden : (hook : Hook) (moment : ℕ) (signal : Signal) → is_forbidden hook signal ≡ true → (was : Option ActiveSignal) (setting : Setting) → Unit {0} → was ≡ None → after_setting hook moment signal was setting ≡ None
unfolding after_start
setting_forbidden hook moment signal forbidden was Stop any none = refl
setting_forbidden hook moment signal forbidden was Start any none = rw forbidden none
setting_forbidden hook moment signal forbidden was (Lasting ms) any none = rw forbidden none

entries_forbidden : (hook : Hook) (moment : ℕ) (signal : Signal) (was : Option ActiveSignal) (entries : List SignalRequest) → was ≡ None → fold (after_entry hook moment) was entries ≡ None
    → after_entries hook moment signal was entries ≡ None
unfolding after_entries
entries_forbidden hook moment signal was [] none folded = by_kind (is_time_out signal)
  where
    by_kind : (b : Bool) → (if b then None else was) ≡ None
    by_kind true = refl
    by_kind false = none
entries_forbidden hook moment signal was (entry ∷ entries) none folded = folded

pub among-forbidden : (requests : List SignalRequest) (hook : Hook) (moment : ℕ) (active : List ActiveSignal) (signal : Signal) → is_forbidden hook signal ≡ true → among signal active ≡ None
    → among signal (applied requests hook moment active) ≡ None
among-forbidden requests hook moment active signal forbidden none =
    among-applied requests hook moment active signal
    ∙ entries_forbidden hook moment signal (among signal active) (entries_for signal requests) none
    (along_entries hook moment signal (λ o. o ≡ None) (λ setting. Unit {0}) (setting_forbidden hook moment signal forbidden) requests (among signal active) (all_entries (entries_for signal requests)) none)

-- What stops

not_if : (b : Bool) (found : Option ActiveSignal) → (if not b then found else None) ≡ (if b then None else found)
not_if true found = refl
not_if false found = refl

pub among-without_time_outs : (active : List ActiveSignal) (signal : Signal) → among signal (without_time_outs active) ≡ (if is_time_out signal then None else among signal active)
unfolding without_time_outs
among-without_time_outs active signal = among-filter (λ s. not (is_time_out s)) signal active ∙ not_if (is_time_out signal) (among signal active)

pub among-no_entries : (hook : Hook) (moment : ℕ) (active : List ActiveSignal) (signal : Signal) → among signal (applied [] hook moment active) ≡ among signal (without_time_outs active)
among-no_entries hook moment active signal = among-unnamed [] hook moment active signal refl ∙ sym (among-without_time_outs active signal)

not_some : (code : Option ℕ) → not (is_some code) ≡ true → code ≡ None
not_some None e = refl
not_some (Some code) e = absurd cc

pub none_forbidden : (hook : Hook) (active : List ActiveSignal) → All (λ a. refused_in hook a.signal ≡ None) (allowed_in hook active)
unfolding allowed_in
none_forbidden hook active =
    All-weaker (λ a. not (is_forbidden hook a.signal) ≡ true) (λ a. refused_in hook a.signal ≡ None) (λ a passes. not_some (refused_in hook a.signal) passes)
    (filter (λ a. not (is_forbidden hook a.signal)) active) (filter_passes (λ a. not (is_forbidden hook a.signal)) active)

pub among-allowed : (hook : Hook) (active : List ActiveSignal) (signal : Signal) → refused_in hook signal ≡ None → among signal (allowed_in hook active) ≡ among signal active
unfolding allowed_in
among-allowed hook active signal allowed = among-filter (λ s. not (is_forbidden hook s)) signal active ∙ rw allowed refl

pub among-without : (signal : Signal) (active : List ActiveSignal) → among signal (without signal active) ≡ None
unfolding without
among-without signal active = among-filter (λ s. not (is_same_signal s signal)) signal active ∙ rw (same_itself signal) refl

pub among-without_other : (signal other : Signal) (active : List ActiveSignal) → other ≢ signal → among other (without signal active) ≡ among other active
unfolding without
among-without_other signal other active apart = among-filter (λ s. not (is_same_signal s signal)) other active ∙ rw (other_false other signal apart) refl

pub in_order-without_time_outs : (active : List ActiveSignal) → IsInTableOrder active → IsInTableOrder (without_time_outs active)
unfolding without_time_outs
in_order-without_time_outs active = in_order-filter (λ s. not (is_time_out s)) active

pub in_order-allowed_in : (hook : Hook) (active : List ActiveSignal) → IsInTableOrder active → IsInTableOrder (allowed_in hook active)
unfolding allowed_in
in_order-allowed_in hook active = in_order-filter (λ s. not (is_forbidden hook s)) active

pub in_order-without : (signal : Signal) (active : List ActiveSignal) → IsInTableOrder active → IsInTableOrder (without signal active)
unfolding without
in_order-without signal active = in_order-filter (λ s. not (is_same_signal s signal)) active
