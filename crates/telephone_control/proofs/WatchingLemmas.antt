-- How those who watch are told something one behind the other.
use Rattle.std.proofs.Common.{◌≡◌, ℕ, Bool, true, false, zero, suc, ◌+◌, ◌-◌, ◌<◌, length, take, get_or, List, [], ◌∷◌, ◌++◌, Option, Some, inl, inr, refl, ap, ◌∙◌, subst, Result, Ok, Err, IfErr, OnErr, arith}
use Rattle.std.proofs.lemmas.List.{take_more}
use Rattle.std.specs.Prelude.{slice_get}
use Rattle.std.specs.declared.net.socket_addr.SocketAddr.{SocketAddr}
use Rattle.line_changes.specs.declared.change.Change.{Change}
use Rattle.line_changes.specs.declared.watchers.Watcher.{Watcher}
use Rattle.line_changes.specs.declared.watchers.Watchers.{Watchers}
use Rattle.line_changes.specs.Watching.{is_watched}
use Rattle.live_io.specs.Hearing.{AnswersTo}
use Rattle.gateway_core.specs.Changing.{is_marked}
use Rattle.gateway_core.specs.GatewayState.{GatewayState}
use Rattle.gateway_core.specs.Stands.{Stands}
use Rattle.plain_machine.specs.declared.setup.Setup.{Setup}
use Rattle.plain_machine.specs.Event.{GatewayEvent}
use Rattle.plain_machine.specs.Lists.{plain}
use Rattle.plain_machine.specs.Machine.{Machine}
use Rattle.telephone_control.specs.declared.watch.Watch.{Watch}
use Rattle.line_changes.specs.Seen.{SeenLine}
use Rattle.line_changes.specs.Telling.{Told, with_changes}
use Rattle.telephone_control.specs.Seeing.{seen_of}
use Rattle.telephone_control.specs.Watching.{changes_behind, sender_at, RefusesLine, TellsEach, TellsIf, TellsLine, TellsLines, TellsSome, IsUnasked}

tells_behind : {S : Type 0} (answers : S → SocketAddr → List ℕ → S → Type 0) (now : ℕ) (places : List (Option Watcher)) (held : Option Watcher)
    (text : List ℕ) (was mid is : S) → TellsEach answers now places was text mid → AnswersTo answers (sender_at now held) mid text is
    → TellsEach answers now (places ++ held ∷ []) was text is
tells_behind {S} answers now [] held text was mid is some one =
    (is, subst (λ (s : S). AnswersTo answers (sender_at now held) s text is) some one, refl)
tells_behind answers now (first ∷ places) held text was mid is some one =
    (some.0, some.1, tells_behind answers now places held text some.0 mid is some.2 one)

-- who has the next place is told it too
pub tells_one_more : {S : Type 0} (answers : S → SocketAddr → List ℕ → S → Type 0) (now : ℕ) (places : List (Option Watcher)) (place : ℕ)
    (held : Option Watcher) (text : List ℕ) (was mid is : S) → place < length places → TellsEach answers now (take place places) was text mid
    → AnswersTo answers (sender_at now (get_or places place held)) mid text is → TellsEach answers now (take (place + 1) places) was text is
tells_one_more answers now places place held text was mid is inside some one =
    rw (take_more places place held inside) (tells_behind answers now (take place places) (get_or places place held) text was mid is some one)

-- an error says so, whatever it is
pub refused_so : {A E : Type 0} (done : Result A E) (P : Type 0) → P → IfErr done (λ e. P)
refused_so (Ok a) P so = tt
refused_so (Err e) P so = so

-- of no line anything is told yet
pub tells_none_yet : {S : Type 0} (answers : S → SocketAddr → List ℕ → S → Type 0) (marks : List Bool) (setup : Setup) (m : Machine) (around : S)
    (watch : Watch) → TellsLines answers marks setup m 0 around watch around watch
unfolding TellsLines
tells_none_yet answers marks setup m around watch = (refl, refl)

tells_suc : {S : Type 0} (answers : S → SocketAddr → List ℕ → S → Type 0) (marks : List Bool) (setup : Setup) (m : Machine) (line : ℕ)
    (before : S) (was : Watch) (between : S) (mid : Watch) (after : S) (is : Watch) → TellsLines answers marks setup m line before was between mid
    → TellsIf (is_marked marks (suc line)) answers setup m (suc line) between mid after is
    → TellsLines answers marks setup m (suc line) before was after is
unfolding TellsLines
tells_suc answers marks setup m line before was between mid after is some one = (between, mid, some, one)

-- what changed at the next line is told behind that
pub tells_next_line : {S : Type 0} (answers : S → SocketAddr → List ℕ → S → Type 0) (marks : List Bool) (setup : Setup) (m : Machine) (line : ℕ)
    (before : S) (was : Watch) (between : S) (mid : Watch) (after : S) (is : Watch) → TellsLines answers marks setup m line before was between mid
    → TellsIf (is_marked marks (line + 1)) answers setup m (line + 1) between mid after is
    → TellsLines answers marks setup m (line + 1) before was after is
tells_next_line answers marks setup m line before was between mid after is some one =
    let same : line + 1 ≡ suc line = omega arith in
    rw same (tells_suc answers marks setup m line before was between mid after is some (rw same at one))

-- who watches does so still
watches_if : {S : Type 0} (marked : Bool) (answers : S → SocketAddr → List ℕ → S → Type 0) (setup : Setup) (m : Machine) (line : ℕ) (before : S)
    (was : Watch) (after : S) (is : Watch) → TellsIf marked answers setup m line before was after is → is.watchers ≡ was.watchers
watches_if true answers setup m line before was after is one = one.watchers
watches_if false answers setup m line before was after is (around, same) = ap (λ (w : Watch). w.watchers) same

pub still_watch : {S : Type 0} (answers : S → SocketAddr → List ℕ → S → Type 0) (marks : List Bool) (setup : Setup) (m : Machine) (line : ℕ)
    (before : S) (was : Watch) (after : S) (is : Watch) → TellsLines answers marks setup m line before was after is → is.watchers ≡ was.watchers
unfolding TellsLines
still_watch answers marks setup m zero before was after is (around, same) = ap (λ (w : Watch). w.watchers) same
still_watch answers marks setup m (suc line) before was after is (between, mid, some, one) =
    watches_if (is_marked marks (suc line)) answers setup m (suc line) between mid after is one
    ∙ still_watch answers marks setup m line before was between mid some

-- where memory is refused some of these changes were told, by names for what was told and for what changed
pub some_put : {A E : Type 0} (done : Result A E) (moment line : ℕ) (told were is : Told) (list changes : List Change) → told ≡ were → list ≡ changes
    → OnErr done ((count : ℕ) × (is ≡ with_changes moment line told (take count list)))
    → OnErr done ((count : ℕ) × (is ≡ with_changes moment line were (take count changes)))
some_put done moment line told were is list changes same_told same_list put =
    subst (λ (l : List Change). OnErr done ((count : ℕ) × (is ≡ with_changes moment line were (take count l)))) same_list
    (subst (λ (t : Told). OnErr done ((count : ℕ) × (is ≡ with_changes moment line t (take count list)))) same_told put)

-- memory is refused before anything of a line is told
pub refuses_all : (setup : Setup) (m : Machine) (line : ℕ) (was : Watch) → RefusesLine setup m line was was
refuses_all setup m line was = record { kept = refl; number = inl refl }

-- or behind some of what changed there
pub refuses_some : (setup : Setup) (m : Machine) (line moment count : ℕ) (was is : Watch) (seen : SeenLine) → moment ≡ m.now
    → seen_of setup m line ≡ Some seen → is.seen ≡ was.seen
    → is.told ≡ with_changes moment line (record was.told { text = [] }) (take count (changes_behind (slice_get was.seen.items (line - 1)) seen))
    → RefusesLine setup m line was is
refuses_some setup m line moment count was is seen now so kept told = record {
  kept = kept;
  number = inr (
    seen,
    count,
    so,
    ap (λ (t : Told). t.number) (subst
        (λ (n : ℕ). is.told ≡ with_changes n line (record was.told { text = [] }) (take count (changes_behind (slice_get was.seen.items (line - 1)) seen)))
        now told),
  );
}

-- the line behind so many
pub marked_next : (marks : List Bool) (line : ℕ) → is_marked marks (line + 1) ≡ true → is_marked marks (suc line) ≡ true
marked_next marks line marked =
    let same : line + 1 ≡ suc line = omega arith in
    subst (λ (n : ℕ). is_marked marks n ≡ true) same marked

pub refuses_next : (setup : Setup) (m : Machine) (line : ℕ) (was is : Watch) → RefusesLine setup m (line + 1) was is
    → RefusesLine setup m (suc line) was is
refuses_next setup m line was is refuses =
    let same : line + 1 ≡ suc line = omega arith in
    subst (λ (n : ℕ). RefusesLine setup m n was is) same refuses

-- who watched does so no more
pub refused_and_over : {S : Type 0} (answers : S → SocketAddr → List ℕ → S → Type 0) (marks : List Bool) (setup : Setup) (m : Machine) (before : S)
    (was : Watch) (after : S) (left : Watch) (watchers : Watchers) → TellsSome answers marks setup m before was after left
    → TellsSome answers marks setup m before was after (record left { watchers = watchers })
refused_and_over answers marks setup m before was after left watchers (line, mid, few, marked, lines, refuses) =
    (line, mid, few, marked, lines, record { kept = refuses.kept; number = refuses.number })

-- ---- memory is refused for a watch

pub unasked : (gateway : GatewayState) (was : Watch) → IsUnasked gateway was was
unasked gateway was = record { rest = refl; kept = λ events stands watched. refl }

-- whatever failed
pub err_if : {T E P : Type 0} (result : Result T E) → P → IfErr result (λ (e : E). P)
err_if (Ok value) p = tt
err_if (Err fault) p = p

-- behind a look at the lines, which who watches doesn't have
pub unasked_behind : (gateway : GatewayState) (was is : Watch) → is ≡ record was { watchers = is.watchers; seen = is.seen } → is.watchers ≡ was.watchers
    → ((events : List GatewayEvent) → Stands gateway events → is_watched (plain gateway.setup events).now was.watchers.places ≡ true → is.seen ≡ was.seen)
    → IsUnasked gateway was is
unasked_behind gateway was is rest watchers kept = record {
  rest = rest ∙ ap (λ (w : Watchers). let x : Watch = record was { watchers = w; seen = is.seen } in x) watchers;
  kept = kept;
}
