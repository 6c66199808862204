-- A trace that replays to its end has what the moves that it says show.
use Rattle.std.proofs.Common.{◌≡◌, ℕ, ◌-◌, Bool, true, false, List, [], ◌∷◌, ◌++◌, length, take, drop, Option, Some, None, refl, sym, ap, subst, ◌∙◌, append_assoc, append-nil, true≢false, arith, eqb-true, drop_of_length-le, zero-le}
use Rattle.std.specs.Prelude.{◌==◌, ◌&&◌, if◌then◌else◌, is_some, is_none, option_and_then, bytes_eq, codes}
use Rattle.std.specs.Bool.{⊤}
use Rattle.std.specs.List.{flat_map}
use Rattle.std.proofs.lemmas.Grind.{flat_map-append}
use Rattle.std.proofs.lemmas.List.{take-append-drop}
use Rattle.std.proofs.lemmas.Slice.Eq.{bytes_eq-Decides}
use Rattle.std.specs.declared.net.socket_addr.SocketAddrV4.{SocketAddrV4}
use Rattle.mg_bytes.specs.Words.{words}
use Rattle.plain_machine.specs.declared.setup.Setup.{Setup}
use Rattle.plain_machine.specs.Event.{GatewayEvent, datagram}
use Rattle.rgw_scripts.specs.declared.step.ScriptLine.{ScriptLine}
use Rattle.rgw_scripts.specs.declared.step.ScriptLine.TheVariants.{Empty, From, Whole}
use Rattle.rgw_scripts.specs.Script.{line_in}
use Rattle.rgw_scripts.specs.Moves.{Move, Shown, give, move_went, went}
use Rattle.rgw_scripts.proofs.MoveLemmas.{went_more}
use Rattle.traces.specs.Telling.{mark, begins, is_whole, is_mark, told}
use Rattle.traces.specs.Replaying.{Comes, goes_on, tells, differs, is_broken, next, moved, played, came, compared, proceeded, by_opened, may_end, move_in}
use Rattle.traces.specs.Running.{Run, opening_run, with_line, run_from}

-- what went out and what is owed is what the moves show; and nothing is owed where a datagram is open
record Holds (setup : Setup) (run : Run) : Type 0 where
  told : run.told ++ run.at.owed ≡ flat_map told (went setup [] run.moves).shown
  taken : run.at.taken ≡ (went setup [] run.moves).taken
  where_open : is_some run.at.opened ≡ true → run.at.owed ≡ []

-- and so it is after a line
abbrev Kept : Setup → Run → List ℕ → Comes → Type 0
Kept setup run piece (goes_on moves after) = Holds setup (record { at = after; told = run.told; moves = run.moves ++ moves })
Kept setup run piece (tells after) = Holds setup (record { at = after; told = run.told ++ piece; moves = run.moves })
Kept setup run piece differs = ⊤
Kept setup run piece is_broken = ⊤

kept_if : (setup : Setup) (run : Run) (piece : List ℕ) (b : Bool) (x y : Comes) → (b ≡ true → Kept setup run piece x) → (b ≡ false → Kept setup run piece y)
    → Kept setup run piece (if b then x else y)
kept_if setup run piece true x y when_true when_false = when_true refl
kept_if setup run piece false x y when_true when_false = when_false refl

no_bytes : (xs : List ℕ) → (length xs == 0) ≡ true → xs ≡ []
no_bytes [] none = refl
no_bytes (x ∷ xs) none = absurd (omega (arith, eqb-true (length (x ∷ xs)) 0 none))

both : (a b : Bool) → (a && b) ≡ true → a ≡ true
both true b e = refl
both false b e = absurd (true≢false (sym e))

-- a move
kept_moved : (setup : Setup) (run : Run) (piece : List ℕ) (move : Move) → Holds setup run → run.at.owed ≡ [] → Kept setup run piece (moved setup run.at.taken move)
unfolding went
kept_moved setup run piece move h none =
    let before = went setup [] run.moves in
    let step = move_went setup run.at.taken move in
    let more : went setup [] (run.moves ++ move ∷ []) ≡ record { shown = before.shown ++ (step.shown ++ []); taken = step.taken } =
    went_more setup [] run.moves (move ∷ []) ∙ ap (λ (t : List GatewayEvent). record { shown = before.shown ++ ((move_went setup t move).shown ++ []); taken = (move_went setup t move).taken }) (sym h.taken) in
    let front : run.told ≡ flat_map told before.shown = sym (append-nil run.told) ∙ ap (λ (o : List ℕ). run.told ++ o) (sym none) ∙ h.told in
    record {
      told = ap (λ (f : List ℕ). f ++ flat_map told step.shown) front ∙ sym (flat_map-append told before.shown step.shown)
          ∙ ap (λ (s : List Shown). flat_map told (before.shown ++ s)) (sym (append-nil step.shown)) ∙ sym (ap (λ w. flat_map told w.shown) more);
      taken = sym (ap (λ w. w.taken) more);
      where_open = λ e. absurd (true≢false (sym e));
    }

kept_played : (setup : Setup) (run : Run) (piece : List ℕ) (move : Option Move) → Holds setup run → run.at.owed ≡ [] → Kept setup run piece (played setup run.at.taken move)
kept_played setup run piece None h none = tt
kept_played setup run piece (Some move) h none = kept_moved setup run piece move h none

-- what came in
kept_came : (setup : Setup) (run : Run) (piece : List ℕ) (line : Option ScriptLine) → Holds setup run → run.at.owed ≡ [] → Kept setup run piece (came setup run.at.taken line)
kept_came setup run piece None h none = tt
kept_came setup run piece (Some Empty) h none = tt
kept_came setup run piece (Some (From source)) h none = record {
  told = ap (λ (o : List ℕ). run.told ++ o) (sym none) ∙ h.told ∙ ap (λ (m : List Move). flat_map told (went setup [] m).shown) (sym (append-nil run.moves));
  taken = h.taken ∙ ap (λ (m : List Move). (went setup [] m).taken) (sym (append-nil run.moves));
  where_open = λ e. refl;
}
kept_came setup run piece (Some (Whole step)) h none = kept_played setup run piece (move_in step) h none

-- nothing is changed
kept_alike : (setup : Setup) (run : Run) (piece : List ℕ) → Holds setup run → Kept setup run piece (goes_on [] run.at)
kept_alike setup run piece h = record {
  told = h.told ∙ ap (λ (m : List Move). flat_map told (went setup [] m).shown) (sym (append-nil run.moves));
  taken = h.taken ∙ ap (λ (m : List Move). (went setup [] m).taken) (sym (append-nil run.moves));
  where_open = h.where_open;
}

-- a line that went out
front_of : (piece owed : List ℕ) → begins piece owed ≡ true → owed ≡ piece ++ drop (length piece) owed
front_of piece owed e =
    sym (take-append-drop (length piece) owed) ∙ ap (λ (p : List ℕ). p ++ drop (length piece) owed) ((bytes_eq-Decides (take (length piece) owed) piece).0 e)

kept_told : (setup : Setup) (run : Run) (piece : List ℕ) → Holds setup run → begins piece run.at.owed ≡ true
    → Kept setup run piece (tells (record run.at { owed = drop (length piece) run.at.owed }))
kept_told setup run piece h e = record {
  told = append_assoc run.told piece (drop (length piece) run.at.owed) ∙ ap (λ (o : List ℕ). run.told ++ o) (sym (front_of piece run.at.owed e)) ∙ h.told;
  taken = h.taken;
  where_open = λ some. ap (drop (length piece)) (h.where_open some) ∙ drop_of_length-le [] {i = length piece} zero-le;
}

kept_compared : (setup : Setup) (run : Run) (piece line : List ℕ) → Holds setup run → Kept setup run piece (compared run.at piece line)
kept_compared setup run piece line h =
    kept_if setup run piece (begins piece run.at.owed) _ _ (kept_told setup run piece h)
    (λ other. kept_if setup run piece (length run.at.owed == 0 && is_mark line) (goes_on [] run.at) differs (λ is. kept_alike setup run piece h) (λ is. tt))

-- a line where no datagram is open
kept_proceeded : (setup : Setup) (run : Run) (piece line : List ℕ) → Holds setup run → Kept setup run piece (proceeded setup run.at piece line)
kept_proceeded setup run piece line h =
    kept_if setup run piece (begins mark line) _ _ (λ is. kept_compared setup run piece line h)
    (λ is. kept_if setup run piece (length run.at.owed == 0) _ _ (λ none. kept_came setup run piece (line_in (words line)) h (no_bytes run.at.owed none)) (λ some. tt))

kept_by_opened : (setup : Setup) (run : Run) (piece line : List ℕ) (opened : Option SocketAddrV4) → opened ≡ run.at.opened → Holds setup run
    → Kept setup run piece (by_opened setup run.at piece line opened)
kept_by_opened setup run piece line None is h = kept_proceeded setup run piece line h
kept_by_opened setup run piece line (Some source) is h =
    kept_if setup run piece (bytes_eq line (codes "--")) _ _
    (λ end. kept_moved setup run piece (give (datagram source [])) h (h.where_open (ap (λ (o : Option SocketAddrV4). is_some o) (sym is))))
    (λ other. tt)

kept_next : (setup : Setup) (run : Run) (piece : List ℕ) → Holds setup run → Kept setup run piece (next setup run.at piece)
unfolding next
kept_next setup run piece h =
    kept_if setup run piece (is_whole piece) _ _ (λ whole. kept_by_opened setup run piece (take (length piece - 1) piece) run.at.opened refl h) (λ half. tt)

-- all lines
behind : (setup : Setup) (run end : Run) (piece : List ℕ) (pieces : List (List ℕ)) (comes : Comes) → Kept setup run piece comes
    → ((after : Run) → Holds setup after → run_from setup after pieces ≡ Some end → Holds setup end)
    → option_and_then (λ after. run_from setup after pieces) (with_line run piece comes) ≡ Some end → Holds setup end
behind setup run end piece pieces (goes_on moves after) kept rest e = rest (record { at = after; told = run.told; moves = run.moves ++ moves }) kept e
behind setup run end piece pieces (tells after) kept rest e = rest (record { at = after; told = run.told ++ piece; moves = run.moves }) kept e
behind setup run end piece pieces differs kept rest e = absurd cc
behind setup run end piece pieces is_broken kept rest e = absurd cc

all_lines : (setup : Setup) (run end : Run) (pieces : List (List ℕ)) → Holds setup run → run_from setup run pieces ≡ Some end → Holds setup end
unfolding run_from
all_lines setup run end [] h e = let same : run ≡ end = cc in subst (Holds setup) same h
all_lines setup run end (piece ∷ pieces) h e =
    behind setup run end piece pieces (next setup run.at piece) (kept_next setup run piece h) (λ after held more. all_lines setup after end pieces held more) e

opening_holds : (setup : Setup) → Holds setup opening_run
unfolding went
opening_holds setup = record { told = refl; taken = refl; where_open = λ e. refl }

-- what replays to its end has just that
pub what_replays_is_shown : (setup : Setup) (pieces : List (List ℕ)) (end : Run) → run_from setup opening_run pieces ≡ Some end → may_end end.at ≡ true
    → end.told ≡ flat_map told (went setup [] end.moves).shown
what_replays_is_shown setup pieces end e done =
    let h = all_lines setup opening_run end pieces (opening_holds setup) e in
    let none : end.at.owed ≡ [] = no_bytes end.at.owed (both (length end.at.owed == 0) (is_none end.at.opened) done) in
    sym (append-nil end.told) ∙ ap (λ (o : List ℕ). end.told ++ o) (sym none) ∙ h.told
