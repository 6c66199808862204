-- Commands of lines that keep apart fit each line.
use Rattle.std.proofs.Common.{◌≡◌, Bool, true, false, ◌&&◌, List, [], ◌∷◌, ℕ, ◌==◌, ◌||◌, map, Option, Some, None, refl, sym, ap, ◌∙◌}
use Rattle.std.specs.List.{list_all, list_any}
use Rattle.std.proofs.lemmas.Bool.{and_parts, eqb-true, both_ways}
use Rattle.machine_laws.proofs.EachLemmas.{Each, each_weaker, each_unflat}
use Rattle.std.specs.Prelude.{not}
use Rattle.std.proofs.lemmas.Bool.Decides.{Decides-eqb}
use Rattle.mgcp_text.specs.declared.message.Message.TheVariants as messages
use Rattle.mgcp_text.specs.Reading.{Outcome, message, no_header, bad_version, bad_body}
use Rattle.transmission.specs.Span.{is_named}
use Rattle.plain_machine.specs.declared.setup.Setup.{Setup}
use Rattle.plain_machine.specs.Event.{GatewayEvent}
use Rattle.plain_machine.specs.Machine.{opening}
use Rattle.plain_machine.specs.Arriving.{TextArrival, arrivals_of}
use Rattle.plain_machine.specs.Transactions.{asked_as}
use Rattle.machine_laws.specs.Apart.{is_for_one, ReadCommand, read_as, commands_at, commands_read, has_to_do_with, same_line, keeps_apart, LinesKeepApart}
use Rattle.machine_laws.specs.Isolation.{AsUnderItsOwn}
use Rattle.machine_laws.specs.OwnEvents.{line_read, is_another}
use Rattle.machine_laws.proofs.EventLemmas.{as_under_its_own}
use Rattle.machine_laws.proofs.FittingWords.{IsApart, Fits}
use Rattle.machine_laws.proofs.WalkLemmas.{events_fit}

-- What a test says of each.

pub each_passes : {X : Type 0} (p : X → Bool) (xs : List X) → list_all p xs ≡ true → Each (λ x. p x ≡ true) xs
each_passes p [] all = tt
each_passes p (x ∷ xs) all = let both = and_parts (p x) (list_all p xs) all in (both.0, each_passes p xs both.1)

-- Tests

none_any : {X : Type 0} (p : X → Bool) (xs : List X) → Each (λ x. p x ≡ false) xs → list_any p xs ≡ false
none_any p [] all = refl
none_any p (x ∷ xs) all = ap (λ (b : Bool). b || list_any p xs) all.0 ∙ none_any p xs all.1

or_true : (b : Bool) → (b || true) ≡ true
or_true true = refl
or_true false = refl

-- each of a list is among it
abbrev Among : {X : Type 0} → List X → X → Type 0
Among {X} xs x = (p : X → Bool) → p x ≡ true → list_any p xs ≡ true

all_among : {X : Type 0} (xs : List X) → Each (Among xs) xs
all_among [] = tt
all_among {X} (x ∷ xs) = (
  λ p is. ap (λ (b : Bool). b || list_any p xs) is,
  each_weaker (Among xs) (Among (x ∷ xs)) (λ y in_rest p is. ap (λ (b : Bool). p x || b) (in_rest p is) ∙ or_true (p x)) xs (all_among xs),
)

pub each_two : {X : Type 0} (P Q : X → Type 0) (xs : List X) → Each P xs → Each Q xs → Each (λ x. P x × Q x) xs
each_two P Q [] a b = tt
each_two P Q (x ∷ xs) a b = ((a.0, b.0), each_two P Q xs a.1 b.1)

line_same : (one other : Option ℕ) → same_line one other ≡ true → one ≡ other
line_same None None e = refl
line_same None (Some other) e = absurd cc
line_same (Some line) None e = absurd cc
line_same (Some line) (Some other) e = ap Some (eqb-true line other e)

-- those that have to do with each other read as one line
read_alike : (one other : ReadCommand) → keeps_apart one other ≡ true → has_to_do_with one.asked other.asked ≡ true → one.line ≡ other.line
read_alike one other apart touch = line_same one.line other.line (ap (λ (b : Bool). not b || same_line one.line other.line) (sym touch) ∙ apart)

-- the ids of the commands that read as this line or as none
abbrev is_kept_by : ℕ → List ReadCommand → ℕ → Bool
is_kept_by line commands id = list_any (λ (c : ReadCommand). c.asked.id == id && not (is_another line c.line)) commands

module _ (line : ℕ) (commands : List ReadCommand) where
  abbrev own_id : ℕ → ReadCommand → Bool
  own_id id c = c.asked.id == id && not (is_another line c.line)

  abbrev CommandFits : ReadCommand → Type 0
  CommandFits c = IsApart (is_kept_by line commands) (is_another line c.line) c.asked.id c.asked.confirms

  its_own : (c : ReadCommand) → is_another line c.line ≡ false → own_id c.asked.id c ≡ true
  its_own c own = ap (λ (b : Bool). b && not (is_another line c.line)) ((Decides-eqb c.asked.id c.asked.id).1 refl) ∙ ap not own

  none_own : (c : ReadCommand) (id : ℕ) → is_another line c.line ≡ true → ((b : ReadCommand) → b.asked.id ≡ id → keeps_apart c b ≡ true → c.line ≡ b.line)
      → Each (λ (b : ReadCommand). keeps_apart c b ≡ true) commands → is_kept_by line commands id ≡ false
  none_own c id other same apart =
      none_any (own_id id) commands (each_weaker (λ (b : ReadCommand). keeps_apart c b ≡ true) (λ (b : ReadCommand). own_id id b ≡ false)
      (λ b keeps. by_id b keeps (b.asked.id == id) refl) commands apart) where
        by_id : (b : ReadCommand) → keeps_apart c b ≡ true → (x : Bool) → (b.asked.id == id) ≡ x → (x && not (is_another line b.line)) ≡ false
        by_id b keeps false e = refl
        by_id b keeps true e = ap not (ap (is_another line) (sym (same b (eqb-true b.asked.id id e) keeps)) ∙ other)

  same_id : (c b : ReadCommand) → b.asked.id ≡ c.asked.id → has_to_do_with c.asked b.asked ≡ true
  same_id c b is = ap (λ (x : Bool). x || is_named b.asked.id c.asked.confirms) ((Decides-eqb c.asked.id b.asked.id).1 (sym is))

  named_id : (c b : ReadCommand) (i : ℕ) → b.asked.id ≡ i → is_named i c.asked.confirms ≡ true → has_to_do_with c.asked b.asked ≡ true
  named_id c b i is named =
      ap (λ (x : Bool). c.asked.id == b.asked.id || x) (ap (λ (id : ℕ). is_named id c.asked.confirms) is ∙ named) ∙ or_true (c.asked.id == b.asked.id)

  command_fits : (c : ReadCommand) → Each (λ (b : ReadCommand). keeps_apart c b ≡ true) commands → Among commands c → CommandFits c
  command_fits c apart among = record {
    kept = λ own. among (own_id c.asked.id) (its_own c own);
    foreign = λ other. none_own c c.asked.id other (λ b is keeps. read_alike c b keeps (same_id c b is)) apart;
    unnamed = λ other i kept. by_named i other kept (is_named i c.asked.confirms) refl;
  } where
    by_named : (i : ℕ) → is_another line c.line ≡ true → is_kept_by line commands i ≡ true → (x : Bool) → is_named i c.asked.confirms ≡ x → x ≡ false
    by_named i other kept false e = refl
    by_named i other kept true e =
        absurd (both_ways (is_kept_by line commands i) (none_own c i other (λ b is keeps. read_alike c b keeps (named_id c b i is e)) apart) kept)

arrival_fits : (setup : Setup) (line : ℕ) (commands : List ReadCommand) (a : TextArrival) → is_for_one setup a.outcome ≡ true
    → Each (CommandFits line commands) (commands_at setup a) → Fits setup (is_kept_by line commands) line a.outcome
arrival_fits setup line commands a one each = by_outcome a.outcome one each where
  by_outcome : (outcome : Outcome) → is_for_one setup outcome ≡ true
      → Each (CommandFits line commands) (map (read_as (line_read setup outcome)) (asked_as a.source a.moment outcome))
      → Fits setup (is_kept_by line commands) line outcome
  by_outcome no_header one each = tt
  by_outcome (bad_version id) one each = each.0.kept refl
  by_outcome (bad_body id) one each = each.0.kept refl
  by_outcome (message (messages.Command verb id name params body)) one each = (one, each.0)
  by_outcome (message (messages.Response code id params body)) one each = tt

pub lines_that_keep_apart : (setup : Setup) (line : ℕ) (events : List GatewayEvent) → LinesKeepApart setup events → AsUnderItsOwn setup line events
lines_that_keep_apart setup line events h =
    let commands : List ReadCommand = commands_read setup events in
    let keep : ℕ → Bool = is_kept_by line commands in
    let ApartFrom : ReadCommand → Type 0 = λ c. Each (λ (b : ReadCommand). keeps_apart c b ≡ true) commands in
    let apart : Each ApartFrom commands =
    each_weaker (λ (c : ReadCommand). list_all (keeps_apart c) commands ≡ true) ApartFrom (λ c is. each_passes (keeps_apart c) commands is) commands
    (each_passes (λ (c : ReadCommand). list_all (keeps_apart c) commands) commands h.apart) in
    let both = each_two ApartFrom (Among commands) commands apart (all_among commands) in
    let fit : Each (CommandFits line commands) commands =
    each_weaker (λ (c : ReadCommand). ApartFrom c × Among commands c) (CommandFits line commands) (λ c is. command_fits line commands c is.0 is.1) commands both in
    let reads = each_unflat (CommandFits line commands) (commands_at setup) (arrivals_of events) fit in
    let singles = each_passes (λ (a : TextArrival). is_for_one setup a.outcome) (arrivals_of events) h.one_each in
    let arrivals = each_weaker (λ (a : TextArrival). (is_for_one setup a.outcome ≡ true) × Each (CommandFits line commands) (commands_at setup a))
    (λ (a : TextArrival). Fits setup keep line a.outcome) (λ a is. arrival_fits setup line commands a is.0 is.1) (arrivals_of events)
    (each_two (λ (a : TextArrival). is_for_one setup a.outcome ≡ true) (λ (a : TextArrival). Each (CommandFits line commands) (commands_at setup a)) (arrivals_of events) singles reads) in
    as_under_its_own setup keep line events (events_fit setup keep line (opening setup) events [] refl arrivals h.remembered)
