-- The flights that places hold.
use Rattle.std.proofs.Common.{◌≡◌, ℕ, suc, ◌+◌, ◌<◌, ◌≤◌, Bool, true, false, not, ◌==◌, if◌then◌else◌, List, [], ◌∷◌, ◌++◌, length, Option, Some, None, refl, sym, ap, ◌∙◌, arith, drop, get_or}
use Rattle.std.specs.Prelude.{cond, find, filter, nat_le, nat_lt, position, slice_set}
use Rattle.std.specs.List.{position_or_len}
use Rattle.std.specs.Option.{is_some}
use Rattle.std.proofs.lemmas.Bool.Decides.{nat_tests}
use Rattle.std.proofs.lemmas.Bool.{ltb-true, ltb-false}
use Rattle.std.proofs.lemmas.List.{set-set, set-get_or, drop_all}
use Rattle.std.proofs.Math.Seq.{drop-cons}
use Rattle.retransmission.specs.Flight.{InFlight}
use Rattle.call_agent.specs.declared.flights.Saved.{Saved}
use Rattle.call_agent.specs.Choosing.{has_id, sooner, first_flight, with_flight, without_flight}
use Rattle.call_agent.specs.Flights.{Commands, flight_in, flights_in, holds_id, exchanged, sooner_of, sooner_at, put_back, restored, settled, undone}

abbrev value_or : ℕ → Option ℕ → ℕ
value_or n None = n
value_or n (Some m) = m

one_more : (n : ℕ) → 1 + n ≡ suc n
one_more n = omega arith

-- ---- by id

-- this place holds the first with this id
pub record IsAt (id : ℕ) (places : List (Option InFlight)) (place : ℕ) : Type 0 where
  pub is : place ≡ position_or_len (holds_id id) places
  pub within : place < length places

pub at_place : (id place : ℕ) (places : List (Option InFlight)) → position (holds_id id) places ≡ Some place → IsAt id places place
at_place id place places found = by_test (nat_lt (position_or_len (holds_id id) places) (length places)) refl found where
  by_test : (b : Bool) → nat_lt (position_or_len (holds_id id) places) (length places) ≡ b → cond b (Some (position_or_len (holds_id id) places)) None ≡ Some place
      → IsAt id places place
  by_test true less same =
      let below : position_or_len (holds_id id) places < length places = ltb-true (position_or_len (holds_id id) places) (length places) less in
      let here : position_or_len (holds_id id) places ≡ place = ap (value_or place) same in
      record { is = sym here; within = omega (arith, below, here) }
  by_test false less same = absurd cc

pub at_none : (id : ℕ) (places : List (Option InFlight)) → position (holds_id id) places ≡ None → length places ≤ position_or_len (holds_id id) places
at_none id places none = by_test (nat_lt (position_or_len (holds_id id) places) (length places)) refl none where
  by_test : (b : Bool) → nat_lt (position_or_len (holds_id id) places) (length places) ≡ b → cond b (Some (position_or_len (holds_id id) places)) None ≡ None
      → length places ≤ position_or_len (holds_id id) places
  by_test true less same = absurd cc
  by_test false less same = ltb-false (position_or_len (holds_id id) places) (length places) less

exchanged_at : (id : ℕ) (becomes : Option InFlight) (places : List (Option InFlight)) → position_or_len (holds_id id) places < length places
    → flights_in (slice_set places (position_or_len (holds_id id) places) becomes) ≡ exchanged id becomes (flights_in places)
unfolding exchanged
exchanged_at id becomes [] within = absurd (omega (arith, within))
exchanged_at id becomes (None ∷ places) within =
    ap (λ (i : ℕ). flights_in (slice_set (None ∷ places) i becomes)) (one_more (position_or_len (holds_id id) places)) ∙ exchanged_at id becomes places (omega (arith, within))
exchanged_at id becomes (Some flight ∷ places) within = by_test (has_id id flight) refl within (λ inside. exchanged_at id becomes places inside) where
  place_by : Bool → ℕ
  place_by b = cond (not b) (1 + position_or_len (holds_id id) places) 0

  by_test : (b : Bool) → has_id id flight ≡ b → place_by b < suc (length places)
      → (position_or_len (holds_id id) places < length places
      → flights_in (slice_set places (position_or_len (holds_id id) places) becomes) ≡ exchanged id becomes (flights_in places))
      → flights_in (slice_set (Some flight ∷ places) (place_by b) becomes)
      ≡ (if b then flight_in becomes ++ flights_in places else flight ∷ exchanged id becomes (flights_in places))
  by_test true is inside rest = refl
  by_test false is inside rest =
      ap (λ (i : ℕ). flights_in (slice_set (Some flight ∷ places) i becomes)) (one_more (position_or_len (holds_id id) places))
      ∙ ap (λ (x : List InFlight). flight ∷ x) (rest (omega (arith, inside)))

pub exchanged_there : (id place : ℕ) (becomes : Option InFlight) (places is : List (Option InFlight)) → position (holds_id id) places ≡ Some place → is ≡ slice_set places place becomes
    → flights_in is ≡ exchanged id becomes (flights_in places)
exchanged_there id place becomes places is found set =
    let at = at_place id place places found in
    ap flights_in set
    ∙ ap (λ (i : ℕ). flights_in (slice_set places i becomes)) at.is
    ∙ exchanged_at id becomes places (let w = at.within in omega (arith, w, at.is))

-- where none has this id
exchanged_past : (id : ℕ) (becomes : Option InFlight) (places : List (Option InFlight)) → length places ≤ position_or_len (holds_id id) places
    → exchanged id becomes (flights_in places) ≡ flights_in places
unfolding exchanged
exchanged_past id becomes [] past = refl
exchanged_past id becomes (None ∷ places) past = exchanged_past id becomes places (omega (arith, past))
exchanged_past id becomes (Some flight ∷ places) past = by_test (has_id id flight) past (λ more. exchanged_past id becomes places more) where
  by_test : (b : Bool) → suc (length places) ≤ cond (not b) (1 + position_or_len (holds_id id) places) 0
      → (length places ≤ position_or_len (holds_id id) places → exchanged id becomes (flights_in places) ≡ flights_in places)
      → (if b then flight_in becomes ++ flights_in places else flight ∷ exchanged id becomes (flights_in places)) ≡ flight ∷ flights_in places
  by_test true more rest = absurd (omega (arith, more))
  by_test false more rest = ap (λ (x : List InFlight). flight ∷ x) (rest (omega (arith, more)))

pub exchanged_nowhere : (id : ℕ) (becomes : Option InFlight) (places : List (Option InFlight)) → position (holds_id id) places ≡ None
    → exchanged id becomes (flights_in places) ≡ flights_in places
exchanged_nowhere id becomes places none = exchanged_past id becomes places (at_none id places none)

pub exchanged_with : (flight : InFlight) (flights : List InFlight) → exchanged flight.id (Some flight) flights ≡ with_flight flight flights
unfolding exchanged with_flight
exchanged_with flight [] = refl
exchanged_with flight (first ∷ flights) = by_test (first.id == flight.id) (exchanged_with flight flights) where
  by_test : (b : Bool) → exchanged flight.id (Some flight) flights ≡ with_flight flight flights
      → (if b then flight ∷ flights else first ∷ exchanged flight.id (Some flight) flights) ≡ (if b then flight ∷ flights else first ∷ with_flight flight flights)
  by_test true rest = refl
  by_test false rest = ap (λ (x : List InFlight). first ∷ x) rest

pub exchanged_without : (id : ℕ) (flights : List InFlight) → exchanged id None flights ≡ without_flight id flights
unfolding exchanged without_flight
exchanged_without id [] = refl
exchanged_without id (first ∷ flights) = by_test (first.id == id) (exchanged_without id flights) where
  by_test : (b : Bool) → exchanged id None flights ≡ without_flight id flights
      → (if b then flights else first ∷ exchanged id None flights) ≡ (if b then flights else first ∷ without_flight id flights)
  by_test true rest = refl
  by_test false rest = ap (λ (x : List InFlight). first ∷ x) rest

found_at : (id : ℕ) (places : List (Option InFlight)) (d : Option InFlight) → position_or_len (holds_id id) places < length places
    → find (has_id id) (flights_in places) ≡ get_or places (position_or_len (holds_id id) places) d
found_at id [] d within = absurd (omega (arith, within))
found_at id (None ∷ places) d within =
    found_at id places d (omega (arith, within)) ∙ sym (ap (λ (i : ℕ). get_or (None ∷ places) i d) (one_more (position_or_len (holds_id id) places)))
found_at id (Some flight ∷ places) d within = by_test (has_id id flight) within (λ inside. found_at id places d inside) where
  place_by : Bool → ℕ
  place_by b = cond (not b) (1 + position_or_len (holds_id id) places) 0

  by_test : (b : Bool) → place_by b < suc (length places)
      → (position_or_len (holds_id id) places < length places → find (has_id id) (flights_in places) ≡ get_or places (position_or_len (holds_id id) places) d)
      → cond b (Some flight) (find (has_id id) (flights_in places)) ≡ get_or (Some flight ∷ places) (place_by b) d
  by_test true inside rest = refl
  by_test false inside rest =
      rest (omega (arith, inside)) ∙ sym (ap (λ (i : ℕ). get_or (Some flight ∷ places) i d) (one_more (position_or_len (holds_id id) places)))

pub found_there : (id place : ℕ) (places : List (Option InFlight)) (d : Option InFlight) → position (holds_id id) places ≡ Some place → find (has_id id) (flights_in places) ≡ get_or places place d
found_there id place places d found =
    let at = at_place id place places found in
    found_at id places d (let w = at.within in omega (arith, w, at.is)) ∙ ap (λ (i : ℕ). get_or places i d) (sym at.is)

found_past : (id : ℕ) (places : List (Option InFlight)) → length places ≤ position_or_len (holds_id id) places → find (has_id id) (flights_in places) ≡ None
found_past id [] past = refl
found_past id (None ∷ places) past = found_past id places (omega (arith, past))
found_past id (Some flight ∷ places) past = by_test (has_id id flight) past (λ more. found_past id places more) where
  by_test : (b : Bool) → suc (length places) ≤ cond (not b) (1 + position_or_len (holds_id id) places) 0
      → (length places ≤ position_or_len (holds_id id) places → find (has_id id) (flights_in places) ≡ None)
      → cond b (Some flight) (find (has_id id) (flights_in places)) ≡ None
  by_test true more rest = absurd (omega (arith, more))
  by_test false more rest = rest (omega (arith, more))

pub found_nowhere : (id : ℕ) (places : List (Option InFlight)) → position (holds_id id) places ≡ None → find (has_id id) (flights_in places) ≡ None
found_nowhere id places none = found_past id places (at_none id places none)

-- ---- what is due first

-- the first of those so far and of the rest
abbrev pub joined_first : Option InFlight → Option InFlight → Option InFlight
joined_first None rest = rest
joined_first (Some first) rest = sooner first rest

sooner_joins : (first flight : InFlight) (rest : Option InFlight) → joined_first (sooner_of (Some first) flight) rest ≡ sooner first (sooner flight rest)
sooner_joins first flight None = by_test (nat_le first.due flight.due) where
  by_test : (b : Bool) → joined_first (if b then Some first else Some flight) None ≡ (if b then Some first else Some flight)
  by_test true = refl
  by_test false = refl
sooner_joins first flight (Some last) = by_tests (nat_le first.due flight.due) (nat_le flight.due last.due) (nat_le first.due last.due) refl refl refl where
  by_tests : (a b c : Bool) → nat_le first.due flight.due ≡ a → nat_le flight.due last.due ≡ b → nat_le first.due last.due ≡ c
      → joined_first (if a then Some first else Some flight) (Some last) ≡ sooner first (if b then Some flight else Some last)
  by_tests true true true e f g = rw (e, g) refl
  by_tests true true false e f g = absurd (grind (arith, nat_tests, e, f, g))
  by_tests true false true e f g = rw g refl
  by_tests true false false e f g = rw g refl
  by_tests false true c e f g = rw (e, f) refl
  by_tests false false true e f g = absurd (grind (arith, nat_tests, e, f, g))
  by_tests false false false e f g = rw (f, g) refl

pub sooner_next : (first : Option InFlight) (flight : InFlight) (rest : List InFlight) → joined_first (sooner_of first flight) (first_flight rest) ≡ joined_first first (first_flight (flight ∷ rest))
unfolding first_flight
sooner_next None flight rest = refl
sooner_next (Some first) flight rest = sooner_joins first flight (first_flight rest)

pub joined_none : (first : Option InFlight) → joined_first first None ≡ first
joined_none None = refl
joined_none (Some first) = refl

-- ---- what was saved

restored_snoc : (log : List Saved) (saved : Saved) (places : List (Option InFlight)) → restored (log ++ saved ∷ []) places ≡ restored log (put_back saved places)
unfolding restored
restored_snoc [] saved places = refl
restored_snoc (first ∷ log) saved places = ap (put_back first) (restored_snoc log saved places)

exchanged_back : (places is : List (Option InFlight)) (place : ℕ) (was becomes : Option InFlight) → was ≡ get_or places place was → is ≡ slice_set places place becomes → slice_set is place was ≡ places
exchanged_back places is place was becomes had set =
    ap (λ (x : List (Option InFlight)). slice_set x place was) set
    ∙ set-set places place becomes was
    ∙ ap (λ (x : Option InFlight). slice_set places place x) had
    ∙ set-get_or places place was

-- what is changed is saved as it was
pub saved_more : (log log' : List Saved) (saved : Saved) (places is : List (Option InFlight)) (place : ℕ) (was becomes : Option InFlight) → saved ≡ record { place = place; flight = was }
    → was ≡ get_or places place was → is ≡ slice_set places place becomes → log' ≡ log ++ saved ∷ [] → restored log' is ≡ restored log places
saved_more log log' saved places is place was becomes it had set grown =
    ap (λ (x : List Saved). restored x is) grown
    ∙ restored_snoc log saved is
    ∙ ap (λ (s : Saved). restored log (put_back s is)) it
    ∙ ap (restored log) (exchanged_back places is place was becomes had set)

pub not_saved : (saved : Saved) (places is back : List (Option InFlight)) (place : ℕ) (was becomes : Option InFlight) → saved ≡ record { place = place; flight = was }
    → was ≡ get_or places place was → is ≡ slice_set places place becomes → back ≡ put_back saved is → back ≡ places
not_saved saved places is back place was becomes it had set put = put ∙ ap (λ (s : Saved). put_back s is) it ∙ exchanged_back places is place was becomes had set

-- what was saved last is put back
pub restored_less : (log log' : List Saved) (saved : Saved) (was is : List (Option InFlight)) → log ≡ log' ++ saved ∷ [] → is ≡ put_back saved was → restored log' is ≡ restored log was
restored_less log log' saved was is popped set = ap (restored log') set ∙ sym (restored_snoc log' saved was) ∙ ap (λ (x : List Saved). restored x was) (sym popped)

pub restored_none : (log : List Saved) (places : List (Option InFlight)) → log ≡ [] → restored log places ≡ places
unfolding restored
restored_none log places none = rw none refl

-- empty places go
pub kept_flights : (places : List (Option InFlight)) → flights_in (filter is_some places) ≡ flights_in places
kept_flights [] = refl
kept_flights (None ∷ places) = kept_flights places
kept_flights (Some flight ∷ places) = ap (λ (x : List InFlight). flight ∷ x) (kept_flights places)

-- ---- what is kept

abbrev pub kept : ℕ → List (Option InFlight) → List Saved → Commands
kept next places log = record { next = next; is = flights_in places; found = flights_in (restored log places) }

pub untouched : (now : Commands) (id next : ℕ) (becomes : Option InFlight) (places : List (Option InFlight)) (log : List Saved) → now ≡ kept next places log → position (holds_id id) places ≡ None
    → now ≡ record now { is = exchanged id becomes now.is }
untouched now id next becomes places log is none =
    ap (λ (x : List InFlight). let g : Commands = record now { is = x } in g)
    (ap (λ (g : Commands). g.is) is ∙ sym (exchanged_nowhere id becomes places none) ∙ sym (ap (λ (g : Commands). exchanged id becomes g.is) is))

pub exchanged_done : (now : Commands) (id next place : ℕ) (becomes was : Option InFlight) (places is : List (Option InFlight)) (log log' : List Saved) (saved : Saved) → now ≡ kept next places log
    → position (holds_id id) places ≡ Some place → was ≡ get_or places place was → is ≡ slice_set places place becomes → log' ≡ log ++ saved ∷ []
    → saved ≡ record { place = place; flight = was } → kept next is log' ≡ record now { is = exchanged id becomes now.is }
exchanged_done now id next place becomes was places is log log' saved here found had set grown it = rw here
    (ap (λ (x : List InFlight). let g : Commands = record { next = next; is = x; found = flights_in (restored log' is) } in g) (exchanged_there id place becomes places is found set)
    ∙ ap (λ (x : List (Option InFlight)). let g : Commands = record { next = next; is = exchanged id becomes (flights_in places); found = flights_in x } in g)
    (saved_more log log' saved places is place was becomes it had set grown))

pub exchanged_undone : (now : Commands) (next place : ℕ) (becomes was : Option InFlight) (places is back : List (Option InFlight)) (log log' : List Saved) (saved : Saved) → now ≡ kept next places log
    → was ≡ get_or places place was → is ≡ slice_set places place becomes → back ≡ put_back saved is → saved ≡ record { place = place; flight = was } → log' ≡ log → kept next back log' ≡ now
exchanged_undone now next place becomes was places is back log log' saved here had set put it same =
    ap (kept next back) same ∙ ap (λ (x : List (Option InFlight)). kept next x log) (not_saved saved places is back place was becomes it had set put) ∙ sym here

pub settled_kept : (now : Commands) (next : ℕ) (places is : List (Option InFlight)) (log none : List Saved) → now ≡ kept next places log → is ≡ filter is_some places → none ≡ []
    → kept next is none ≡ settled now
settled_kept now next places is log none here filtered empty = rw (here, empty)
    (ap (λ (x : List (Option InFlight)). let g : Commands = record { next = next; is = flights_in is; found = flights_in x } in g) (restored_none [] is refl)
    ∙ ap (λ (x : List InFlight). let g : Commands = record { next = next; is = x; found = x } in g) (ap flights_in filtered ∙ kept_flights places))

pub all_put_back : (now : Commands) (next : ℕ) (places : List (Option InFlight)) (log : List Saved) → next ≡ now.next → log ≡ [] → flights_in (restored log places) ≡ now.found
    → kept next places log ≡ undone now
all_put_back now next places log still empty same =
    ap (λ (n : ℕ). kept n places log) still
    ∙ ap (λ (x : List InFlight). let g : Commands = record { next = now.next; is = x; found = flights_in (restored log places) } in g) (sym (ap flights_in (restored_none log places empty)) ∙ same)
    ∙ ap (λ (x : List InFlight). let g : Commands = record { next = now.next; is = now.found; found = x } in g) same

-- the first so far goes on over one place
pub first_next : (places : List (Option InFlight)) (i : ℕ) (here first next : Option InFlight) → i < length places → here ≡ get_or places i here → next ≡ sooner_at first here
    → joined_first next (first_flight (flights_in (drop (i + 1) places))) ≡ joined_first first (first_flight (flights_in (drop i places)))
first_next places i here first next within had is =
    let more : suc i ≡ i + 1 = omega arith in
    ap (λ (x : Option InFlight). joined_first x (first_flight (flights_in (drop (i + 1) places)))) is
    ∙ by_place here
    ∙ sym (ap (λ (x : List (Option InFlight)). joined_first first (first_flight (flights_in x)))
    (drop-cons places i here within ∙ ap (λ (x : Option InFlight). x ∷ drop (suc i) places) (sym had) ∙ ap (λ (n : ℕ). here ∷ drop n places) more)) where
      by_place : (here : Option InFlight) → joined_first (sooner_at first here) (first_flight (flights_in (drop (i + 1) places)))
          ≡ joined_first first (first_flight (flight_in here ++ flights_in (drop (i + 1) places)))
      by_place None = refl
      by_place (Some flight) = sooner_next first flight (flights_in (drop (i + 1) places))

pub first_end : (places : List (Option InFlight)) (i : ℕ) (first : Option InFlight) → length places ≤ i → joined_first first (first_flight (flights_in (drop i places))) ≡ first
unfolding first_flight
first_end places i first past = ap (λ (x : List (Option InFlight)). joined_first first (first_flight (flights_in x))) (drop_all i places past) ∙ joined_none first
