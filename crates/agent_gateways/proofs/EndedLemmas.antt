-- Which of the commands in flight is over, place by place.
use Rattle.std.proofs.Common.{◌≡◌, ℕ, zero, suc, ◌+◌, ◌≤◌, Bool, true, false, List, [], ◌∷◌, ◌++◌, length, take, drop, Option, Some, None, refl, sym, ap, subst, ◌∙◌, arith}
use Rattle.std.specs.Prelude.{slice_get, slice_set, remove}
use Rattle.std.proofs.lemmas.List.{length-set}
use Rattle.std.proofs.lemmas.Option.{none-some, same_Some}
use Rattle.agent_gateways.specs.declared.flight.Flight.{Flight}
use Rattle.agent_gateways.specs.Ended.{is_ended, asked, ended_next, ended_of, is_ended_in, asked_in}

-- these were asked, and none of them is over
abbrev pub passed : List Flight → Option Flight × List Flight → Option Flight × List Flight
passed flights found = (found.0, flights ++ found.1)

abbrev found_with : Option Flight → List Flight → Option Flight × List Flight
found_with ended left = (ended, left)

goes_on : (over : Bool) (flight : Flight) (others : List Flight) (later : Option Flight × List Flight) → over ≡ false
    → passed (flight ∷ []) later ≡ passed [] (ended_next over flight others later)
goes_on true flight others later e = absurd cc
goes_on false flight others later e = refl

ends : (over : Bool) (flight : Flight) (others : List Flight) (later : Option Flight × List Flight) → over ≡ true
    → found_with (Some flight) others ≡ passed [] (ended_next over flight others later)
ends true flight others later e = refl
ends false flight others later e = absurd cc

module _ (response : Option (ℕ × ℕ)) (moment : ℕ) where
  -- the one at a place isn't over: it is passed
  passed_one : (place : ℕ) (flights : List Flight) (flight : Flight) → slice_get flights place ≡ Some flight
      → is_ended response moment flight ≡ false
      → passed (take (suc place) (slice_set flights place (asked response moment flight)))
      (ended_of response moment (drop (suc place) (slice_set flights place (asked response moment flight))))
      ≡ passed (take place flights) (ended_of response moment (drop place flights))
  unfolding ended_of
  passed_one place [] flight there on = absurd (none-some flight there)
  passed_one zero (first ∷ more) flight there on =
      subst (λ (f : Flight). passed (asked response moment f ∷ []) (ended_of response moment more)
      ≡ passed [] (ended_next (is_ended response moment first) (asked response moment first) more (ended_of response moment more)))
      (same_Some first flight there)
      (goes_on (is_ended response moment first) (asked response moment first) more (ended_of response moment more)
      (subst (λ (f : Flight). is_ended response moment f ≡ false) (sym (same_Some first flight there)) on))
  passed_one (suc place) (first ∷ more) flight there on =
      ap (λ (found : Option Flight × List Flight). passed (first ∷ []) found) (passed_one place more flight there on)

  -- none is there
  passed_none : (place : ℕ) (flights : List Flight) → slice_get flights place ≡ None
      → passed (take (suc place) flights) (ended_of response moment (drop (suc place) flights))
      ≡ passed (take place flights) (ended_of response moment (drop place flights))
  unfolding ended_of
  passed_none zero [] none = refl
  passed_none (suc place) [] none = refl
  passed_none zero (first ∷ more) none = absurd (none-some first (sym none))
  passed_none (suc place) (first ∷ more) none =
      ap (λ (found : Option Flight × List Flight). passed (first ∷ []) found) (passed_none place more none)

  -- the one at a place is over: those before it aren't, and those behind it aren't asked
  taken_one : (place : ℕ) (flights : List Flight) (flight : Flight) → slice_get flights place ≡ Some flight
      → is_ended response moment flight ≡ true
      → found_with (slice_get (slice_set flights place (asked response moment flight)) place)
      (remove (slice_set flights place (asked response moment flight)) place)
      ≡ passed (take place flights) (ended_of response moment (drop place flights))
  unfolding ended_of
  taken_one place [] flight there over = absurd (none-some flight there)
  taken_one zero (first ∷ more) flight there over =
      subst (λ (f : Flight). found_with (Some (asked response moment f)) more
      ≡ passed [] (ended_next (is_ended response moment first) (asked response moment first) more (ended_of response moment more)))
      (same_Some first flight there)
      (ends (is_ended response moment first) (asked response moment first) more (ended_of response moment more)
      (subst (λ (f : Flight). is_ended response moment f ≡ true) (sym (same_Some first flight there)) over))
  taken_one (suc place) (first ∷ more) flight there over =
      ap (λ (found : Option Flight × List Flight). passed (first ∷ []) found) (taken_one place more flight there over)

  -- no more are there: none is over
  pub all_passed : (place : ℕ) (flights : List Flight) → length flights ≤ place
      → found_with None flights ≡ passed (take place flights) (ended_of response moment (drop place flights))
  unfolding ended_of
  all_passed zero [] past = refl
  all_passed (suc place) [] past = refl
  all_passed zero (first ∷ more) past = absurd (omega (arith, past))
  all_passed (suc place) (first ∷ more) past =
      ap (λ (found : Option Flight × List Flight). passed (first ∷ []) found) (all_passed place more (omega (arith, past)))

  pub passed_at : (place next : ℕ) (flights mid : List Flight) (over : Bool) (found : Option Flight) → slice_get flights place ≡ found
      → over ≡ is_ended_in response moment found → over ≡ false → mid ≡ asked_in response moment flights place found → next ≡ suc place
      → passed (take next mid) (ended_of response moment (drop next mid))
      ≡ passed (take place flights) (ended_of response moment (drop place flights))
  passed_at place next flights mid over None there so on left step =
      ap (λ (n : ℕ). passed (take n mid) (ended_of response moment (drop n mid))) step
      ∙ ap (λ (xs : List Flight). passed (take (suc place) xs) (ended_of response moment (drop (suc place) xs))) left
      ∙ passed_none place flights there
  passed_at place next flights mid over (Some flight) there so on left step =
      ap (λ (n : ℕ). passed (take n mid) (ended_of response moment (drop n mid))) step
      ∙ ap (λ (xs : List Flight). passed (take (suc place) xs) (ended_of response moment (drop (suc place) xs))) left
      ∙ passed_one place flights flight there (sym so ∙ on)

  pub taken_at : (place : ℕ) (flights mid : List Flight) (over : Bool) (found ended : Option Flight) (left : List Flight)
      → slice_get flights place ≡ found → over ≡ is_ended_in response moment found → over ≡ true
      → mid ≡ asked_in response moment flights place found → ended ≡ slice_get mid place → left ≡ remove mid place
      → found_with ended left ≡ passed (take place flights) (ended_of response moment (drop place flights))
  taken_at place flights mid over None ended left there so is mid_so ended_so left_so = absurd cc
  taken_at place flights mid over (Some flight) ended left there so is mid_so ended_so left_so =
      ap (λ (one : Option Flight). found_with one left) (ended_so ∙ ap (λ (xs : List Flight). slice_get xs place) mid_so)
      ∙ ap (λ (xs : List Flight). found_with (slice_get (slice_set flights place (asked response moment flight)) place) xs)
      (left_so ∙ ap (λ (xs : List Flight). remove xs place) mid_so)
      ∙ taken_one place flights flight there (sym so ∙ is)

  -- as many are there as before
  pub asked_count : (place : ℕ) (flights mid : List Flight) (found : Option Flight) → mid ≡ asked_in response moment flights place found
      → length mid ≡ length flights
  asked_count place flights mid None mid_so = ap (λ (xs : List Flight). length xs) mid_so
  asked_count place flights mid (Some flight) mid_so =
      ap (λ (xs : List Flight). length xs) mid_so ∙ length-set flights place (asked response moment flight)
