-- What lines tell, for whole courses from the opening on.
use Rattle.std.proofs.Common.{◌≡◌, suc, ◌+◌, Bool, true, List, [], ◌∷◌, ◌++◌, length, refl, ap, ◌∙◌, arith, ℕ, ◌≤◌, min, Some, inl, inr, sym, subst}
use Rattle.std.specs.Prelude.{filter, if◌then◌else◌, ◌⊎◌}
use Rattle.packages.specs.declared.observed.Observed.{Observed}
use Rattle.events_and_signals.proofs.GivenLaws.{counted_out}
use Rattle.told_laws.specs.Among.{AreAmong, IsToldInOrder}
use Rattle.events_and_signals.specs.declared.request.Request.{Request}
use Rattle.events_and_signals.specs.Held.{most_lost}
use Rattle.plain_machine.specs.declared.setup.Setup.{Setup}
use Rattle.plain_machine.specs.declared.endpoint.Endpoint.{Endpoint}
use Rattle.plain_machine.specs.Event.{GatewayEvent}
use Rattle.plain_machine.specs.Lists.{plain}
use Rattle.plain_machine.specs.Machine.{endpoint_at, serves}
use Rattle.machine_laws.proofs.OwningLemmas.{place_of}
use Rattle.world_laws.specs.Course.{CourseStep, accepts, notifies, course_of}
use Rattle.world_laws.specs.Dialled.{done_in, told_along}
use Rattle.world_laws.specs.Rounds.{of_telephone}
use Rattle.told_laws.specs.Walking.{nothing_asked, EmbedsNone, Walks, Stays, WalksButLost, AreActs, TellsAFront}
use Rattle.told_laws.proofs.AmongLemmas.{ToldInOrder, among_front, calls_in_order, opening_in_order, told_alone}
use Rattle.told_laws.proofs.LineBounds.{Exists, there_or_quiet}
use Rattle.told_laws.proofs.InTurn.{from_opening}
use Rattle.told_laws.proofs.WalkLemmas.{walks_map}
use Rattle.told_laws.proofs.WalkCourses.{StandsAt, Walked, calls_walk, none_lost, opening_walks, stays}
use Rattle.told_laws.proofs.WalkFrontLemmas.{tells_a_front}
use Rattle.world_laws.proofs.OverLists.{always}

-- What the worked examples are compared by.

-- Some among others

pub none_among : (some : List Observed) → AreAmong some [] → some ≡ []
none_among [] so = refl
none_among (event ∷ some) (n, so) =
    let count : suc (length some) + n ≡ 0 = counted_out n (event ∷ some) [] so in absurd (omega (arith, count))

-- What a notification tells begins with the first that waits, where R has that told.
pub tells_first : (test : Observed → Bool) (first other : Observed) (front held rest more : List Observed) → test first ≡ true → first ∷ rest ≡ front ++ held
    → other ∷ more ≡ filter test front → other ≡ first
tells_first test first other [] held rest more is order told = absurd cc
tells_first test first other (x ∷ front) held rest more is order told =
    let same : x ≡ first = cc in
    let has : test x ≡ true = (ap test same ∙ is) in
    let begins : filter test (x ∷ front) ≡ x ∷ filter test front =
    ap (λ (b : Bool). if b then x ∷ filter test front else filter test front) has in
    cc

pub none_left_among : (first : Observed) (left : List Observed) → AreAmong (first ∷ left) (first ∷ []) → left ≡ []
none_left_among first [] so = refl
none_left_among first (x ∷ left) (n, so) =
    let count : length (first ∷ x ∷ left) + n ≡ length (first ∷ []) = counted_out n (first ∷ x ∷ left) (first ∷ []) so in absurd (omega (arith, count))

-- a line that there is has a number from 1 on
numbered : (setup : Setup) (line : ℕ) (events : List GatewayEvent) (endpoint : Endpoint) → endpoint_at (plain setup events).endpoints line ≡ Some endpoint → 1 ≤ line
numbered setup line events endpoint at = (place_of (plain setup events).endpoints line endpoint at).0

-- What is told was done

pub course_in_order : (setup : Setup) (line : ℕ) (events : List GatewayEvent) (endpoint : Endpoint) → endpoint_at (plain setup events).endpoints line ≡ Some endpoint
    → IsToldInOrder (course_of setup line events) endpoint.line
course_in_order setup line events endpoint at =
    let all = always setup ToldInOrder calls_in_order line (numbered setup line events endpoint at) opening_in_order events in
    (all.holds endpoint at).holds.among

pub told_in_order : (setup : Setup) (line : ℕ) (events : List GatewayEvent) → AreAmong (of_telephone (told_along (course_of setup line events))) (done_in (course_of setup line events))
told_in_order setup line events = by_line (there_or_quiet setup line events) where
  Told : List Observed → Type 0
  Told told = AreAmong (of_telephone told) (done_in (course_of setup line events))

  by_line : Exists setup events line ⊎ (told_along (course_of setup line events) ≡ []) → Told (told_along (course_of setup line events))
  by_line (inl there) = told_alone (course_of setup line events) there.0.line (course_in_order setup line events there.0 there.1)
  by_line (inr none) = subst Told (sym none) (among_front [] (done_in (course_of setup line events)))

-- How that walks through what was done

pub walked_then : (setup : Setup) (line : ℕ) (events : List GatewayEvent) (endpoint : Endpoint) → endpoint_at (plain setup events).endpoints line ≡ Some endpoint
    → Walked nothing_asked [] 0 (serves (plain setup events).endpoints) (course_of setup line events) endpoint.line
walked_then setup line events endpoint at =
    from_opening setup line (numbered setup line events endpoint at) (Walked nothing_asked [] 0) (calls_walk nothing_asked [] 0) opening_walks events endpoint at

pub counted_since : (n lost : ℕ) → min most_lost (0 + n) ≤ lost → min most_lost n ≤ lost
counted_since n lost counted = omega (arith, counted)

pub course_walks_but_lost : (setup : Setup) (line : ℕ) (events : List GatewayEvent) (endpoint : Endpoint) → endpoint_at (plain setup events).endpoints line ≡ Some endpoint
    → WalksButLost (course_of setup line events) endpoint.line
course_walks_but_lost setup line events endpoint at =
    let f = walked_then setup line events endpoint at in
    record {
      lost = f.lost;
      left = f.left;
      others = f.others;
      counted = counted_since f.lost endpoint.line.quarantined.lost f.counted;
      walk = walks_map f.left (StandsAt (serves (plain setup events).endpoints) endpoint.line) (Stays endpoint.line) nothing_asked []
          (λ p w stands. stays endpoint.line p w stands.0) f.walk;
    }

pub none_of_them : (n lost : ℕ) → min most_lost n ≤ lost → lost ≡ 0 → n ≡ 0
none_of_them n lost counted none = omega (arith, counted, none)

pub course_walks : (setup : Setup) (line : ℕ) (events : List GatewayEvent) (endpoint : Endpoint) → endpoint_at (plain setup events).endpoints line ≡ Some endpoint
    → endpoint.line.quarantined.lost ≡ 0 → Walks nothing_asked [] (course_of setup line events) (Stays endpoint.line)
course_walks setup line events endpoint at none =
    let w = course_walks_but_lost setup line events endpoint at in
    subst (λ (c : List CourseStep). Walks nothing_asked [] c (Stays endpoint.line))
    (none_lost w.lost w.left (course_of setup line events) w.others (none_of_them w.lost endpoint.line.quarantined.lost w.counted none)) w.walk

pub first_tells : (setup : Setup) (line : ℕ) (events : List GatewayEvent) (endpoint : Endpoint) (before between after : List CourseStep) (request : Request)
    (identifier : List ℕ) (observed : List Observed) → endpoint_at (plain setup events).endpoints line ≡ Some endpoint
    → EmbedsNone request.events → endpoint.line.quarantined.lost ≡ 0
    → course_of setup line events ≡ before ++ accepts request ∷ (between ++ notifies identifier observed ∷ after) → AreActs between
    → TellsAFront request (of_telephone (told_along before)) (done_in before) (done_in between) observed
first_tells setup line events endpoint before between after request identifier observed at bare none order only =
    tells_a_front before between after request identifier observed (Stays endpoint.line) only bare
    (subst (λ (c : List CourseStep). Walks nothing_asked [] c (Stays endpoint.line)) order (course_walks setup line events endpoint at none))
