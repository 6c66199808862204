-- What the first notification behind a request tells.
use Rattle.std.proofs.Common.{◌≡◌, ℕ, Bool, true, false, List, [], ◌∷◌, ◌++◌, refl, sym, ap, subst, ◌∙◌, append_assoc, append-nil}
use Rattle.std.specs.Prelude.{filter, if◌then◌else◌}
use Rattle.std.proofs.lemmas.Bool.{true≢false}
use Rattle.std.proofs.lemmas.List.Elements.{filter-append}
use Rattle.packages.specs.declared.handling.Quarantined.{Quarantined}
use Rattle.packages.specs.declared.handling.Quarantined.TheVariants.{Process, Discard}
use Rattle.packages.specs.declared.observed.Observed.{Observed}
use Rattle.event_syntax.specs.declared.request.EmbeddedRequest.{EmbeddedRequest}
use Rattle.event_syntax.specs.declared.request.Reaction.{Reaction}
use Rattle.event_syntax.specs.declared.request.Reaction.TheVariants.{Plain, Embed, AccumulateAndEmbed}
use Rattle.events_and_signals.specs.Choice.{is_kept}
use Rattle.events_and_signals.specs.Naming.{event_of}
use Rattle.events_and_signals.specs.Requests.{EventRequests}
use Rattle.events_and_signals.specs.declared.request.Request.{Request}
use Rattle.mg_line.specs.Acting.{observed_at}
use Rattle.mg_line.specs.Answering.{is_loop}
use Rattle.world_laws.specs.Rounds.{is_of_telephone, of_telephone}
use Rattle.told_laws.specs.Among.{AreAmong}
use Rattle.world_laws.specs.Course.{CourseStep, acts, accepts, notifies}
use Rattle.world_laws.specs.Dialled.{done_in, told_along}
use Rattle.told_laws.specs.Walking.{reaction_to, collects, are_quiet, left_by, EmbedsNone, Place, nothing_asked, behind_request, behind_notification, End, with_act, told_of_front, Brings, behind_embedded, Embeds, no_more, by_event, Walks, AreActs, TellsAFront, TellsWhatWasKept, TellsOf}
use Rattle.world_laws.specs.Keeping.{is_bare}
use Rattle.told_laws.proofs.AmongLemmas.{some_left, some_kept, among_none, among_same, among_is, among_front, among_both, among_pass}

-- a walk along two courses
pub walks_split : (course more : List CourseStep) (end : End) (place : Place) (waiting : List Observed) → Walks place waiting (course ++ more) end
    → Walks place waiting course (λ (p : Place) (w : List Observed). Walks p w more end)
walks_split [] more end place waiting walk = (place, waiting, no_more place waiting, walk)
walks_split (acts act ∷ course) more end place waiting (next, left, moves, walk) =
    (next, left, moves, walks_split course more end next (with_act next.requests left (observed_at act)) walk)
walks_split (accepts request ∷ course) more end place waiting (next, left, moves, (past, held, order, quiet, shut, walk)) =
    let then_walks = walks_split course more end (behind_request request) (left_by request.handling.quarantined held) walk in
    (next, left, moves, (past, held, order, quiet, shut, then_walks))
walks_split (notifies identifier observed ∷ course) more end place waiting (next, left, moves, (front, held, order, told, walk)) =
    (next, left, moves, (front, held, order, told, walks_split course more end (behind_notification next) held walk))

-- Where a walk ends

filter_by : (test : Observed → Bool) (event : Observed) (rest : List Observed) (b : Bool) → test event ≡ b → AreAmong (filter test rest) rest
    → AreAmong (filter test (event ∷ rest)) (event ∷ rest)
filter_by test event rest true is so =
    subst (λ (xs : List Observed). AreAmong xs (event ∷ rest)) (sym (ap (λ (b : Bool). if b then event ∷ filter test rest else filter test rest) is))
    (some_kept event (filter test rest) rest so)
filter_by test event rest false is so =
    subst (λ (xs : List Observed). AreAmong xs (event ∷ rest)) (sym (ap (λ (b : Bool). if b then event ∷ filter test rest else filter test rest) is))
    (some_left event (filter test rest) rest so)

among_filter : (test : Observed → Bool) (list : List Observed) → AreAmong (filter test list) list
among_filter test [] = among_none []
among_filter test (event ∷ list) = filter_by test event list (test event) refl (among_filter test list)

act_by : (waiting : List Observed) (event : Observed) (b : Bool) → AreAmong (if b then waiting ++ event ∷ [] else waiting) (waiting ++ event ∷ [])
act_by waiting event true = among_same (waiting ++ event ∷ [])
act_by waiting event false = among_front waiting (event ∷ [])

left_among : (handling : Quarantined) (past held : List Observed) → AreAmong (left_by handling held) (past ++ held)
left_among Process past held = among_both [] past held held (among_none past) (among_same held)
left_among Discard past held = among_none (past ++ held)

-- what is carried on, and what waits
abbrev pub all_of : Place → List Observed → List Observed
all_of place waiting = place.carried ++ waiting

told_among : (place : Place) (front : List Observed) → AreAmong (told_of_front place front) (place.carried ++ front)
told_among place front =
    among_both place.carried place.carried (filter (collects place.requests) front) front (among_same place.carried) (among_filter (collects place.requests) front)

brings_among : (reaction : Reaction) (gathered carried all : List Observed) (request : EmbeddedRequest) → Brings reaction gathered request carried
    → AreAmong gathered all → AreAmong carried all
brings_among (Plain action) gathered carried all request brings so = absurd brings
brings_among (Embed embedded) gathered carried all request (same, none) so = subst (λ (xs : List Observed). AreAmong xs all) (sym none) (among_none all)
brings_among (AccumulateAndEmbed embedded) gathered carried all request (same, is) so = subst (λ (xs : List Observed). AreAmong xs all) (sym is) so

embeds_among : (place next : Place) (waiting left : List Observed) → Embeds place waiting next left → AreAmong (all_of next left) (all_of place waiting)
embeds_among place next waiting left (no_more p w) = among_same (all_of place waiting)
embeds_among place next waiting left (by_event p n w front rest l carried event request unshut order quiet brings behind) =
    let one : List Observed = of_telephone (event ∷ []) in
    let gathered = told_of_front place (front ++ one) in
    let so : AreAmong carried (place.carried ++ (front ++ one)) =
    brings_among (reaction_to place.requests event) gathered carried (place.carried ++ (front ++ one)) request brings (told_among place (front ++ one)) in
    let same : (place.carried ++ (front ++ one)) ++ rest ≡ all_of place waiting =
    append_assoc place.carried (front ++ one) rest
    ∙ ap (λ (xs : List Observed). place.carried ++ xs) (append_assoc front one rest)
    ∙ ap (λ (xs : List Observed). place.carried ++ xs) (sym order) in
    among_pass (all_of next left) (carried ++ rest) (all_of place waiting)
    (embeds_among (behind_embedded place request carried) next rest left behind)
    (subst (λ (xs : List Observed). AreAmong (carried ++ rest) xs) same
    (among_both carried (place.carried ++ (front ++ one)) rest rest so (among_same rest)))

pub record Ends (end : End) (told all : List Observed) : Type 0 where
  pub place : Place
  pub waiting : List Observed
  pub stands : end place waiting
  pub among : AreAmong (told ++ all_of place waiting) all

ends_in : (end : End) (told all more : List Observed) → AreAmong all more → Ends end told all → Ends end told more
ends_in end told all more so e = record {
  place = e.place;
  waiting = e.waiting;
  stands = e.stands;
  among = among_pass (told ++ all_of e.place e.waiting) all more e.among so;
}

-- from where embedded requests came into force
ends_from : (end : End) (told done : List Observed) (place next : Place) (waiting left : List Observed) → Embeds place waiting next left
    → Ends end told (all_of next left ++ done) → Ends end told (all_of place waiting ++ done)
ends_from end told done place next waiting left moves e =
    ends_in end told (all_of next left ++ done) (all_of place waiting ++ done)
    (among_both (all_of next left) (all_of place waiting) done done (embeds_among place next waiting left moves) (among_same done)) e

pub walk_ends : (course : List CourseStep) (end : End) (place : Place) (waiting : List Observed) → Walks place waiting course end
    → Ends end (of_telephone (told_along course)) (all_of place waiting ++ done_in course)
walk_ends [] end place waiting (next, left, moves, walk) =
    ends_from end [] [] place next waiting left moves
    (record { place = next; waiting = left; stands = walk; among = among_is (all_of next left) (all_of next left ++ []) (sym (append-nil (all_of next left))) })
walk_ends (acts act ∷ course) end place waiting (next, left, moves, walk) =
    let event = observed_at act in
    let now : List Observed = with_act next.requests left event in
    ends_from end (of_telephone (told_along course)) (event ∷ done_in course) place next waiting left moves
    (ends_in end (of_telephone (told_along course)) (all_of next now ++ done_in course) (all_of next left ++ event ∷ done_in course)
    (subst (λ (xs : List Observed). AreAmong (all_of next now ++ done_in course) xs)
    (ap (λ (xs : List Observed). xs ++ done_in course) (sym (append_assoc next.carried left (event ∷ [])))
    ∙ append_assoc (all_of next left) (event ∷ []) (done_in course))
    (among_both (all_of next now) (next.carried ++ (left ++ event ∷ [])) (done_in course) (done_in course)
    (among_both next.carried next.carried now (left ++ event ∷ []) (among_same next.carried) (act_by left event (is_kept next.requests event)))
    (among_same (done_in course))))
    (walk_ends course end next now walk))
walk_ends (accepts request ∷ course) end place waiting (next, here, moves, (past, held, order, quiet, shut, walk)) =
    let left = left_by request.handling.quarantined held in
    ends_from end (of_telephone (told_along course)) (done_in course) place next waiting here moves
    (ends_in end (of_telephone (told_along course)) (left ++ done_in course) (all_of next here ++ done_in course)
    (among_both left (all_of next here) (done_in course) (done_in course)
    (among_both [] next.carried left here (among_none next.carried)
    (subst (λ (w : List Observed). AreAmong left w) (sym order) (left_among request.handling.quarantined past held)))
    (among_same (done_in course)))
    (walk_ends course end (behind_request request) left walk))
walk_ends (notifies identifier observed ∷ course) end place waiting (next, here, moves, (front, held, order, told, walk)) =
    let e = walk_ends course end (behind_notification next) held walk in
    let more = of_telephone (told_along course) in
    let all = all_of e.place e.waiting in
    ends_from end (of_telephone (observed ++ told_along course)) (done_in course) place next waiting here moves
    (record {
      place = e.place;
      waiting = e.waiting;
      stands = e.stands;
      among = subst (λ (xs : List Observed). AreAmong xs (all_of next here ++ done_in course))
          (sym
          (ap (λ (xs : List Observed). xs ++ all) (filter-append is_of_telephone observed (told_along course))
          ∙ ap (λ (xs : List Observed). (xs ++ more) ++ all) told.0
          ∙ append_assoc (told_of_front next front) more all))
          (subst (λ (xs : List Observed). AreAmong (told_of_front next front ++ (more ++ all)) xs)
          (sym
          (ap (λ (w : List Observed). (next.carried ++ w) ++ done_in course) order
          ∙ ap (λ (xs : List Observed). xs ++ done_in course) (sym (append_assoc next.carried front held))
          ∙ append_assoc (next.carried ++ front) held (done_in course)))
          (among_both (told_of_front next front) (next.carried ++ front) (more ++ all) (held ++ done_in course) (told_among next front) e.among));
    })

-- Where no request is embedded

-- no event brings one
abbrev pub NoneBrought : Place → Type 0
NoneBrought place = (event : Observed) (gathered carried : List Observed) (request : EmbeddedRequest) → place.is_shut ≡ false
    → Brings (reaction_to place.requests event) gathered request carried → ⊥

bare_brings : (reaction : Reaction) (gathered carried : List Observed) (request : EmbeddedRequest) → is_bare reaction ≡ true
    → Brings reaction gathered request carried → ⊥
bare_brings (Plain action) gathered carried request bare brings = brings
bare_brings (Embed embedded) gathered carried request bare brings = true≢false (sym bare)
bare_brings (AccumulateAndEmbed embedded) gathered carried request bare brings = true≢false (sym bare)

pub none_by_requests : (place : Place) → EmbedsNone place.requests → NoneBrought place
none_by_requests place bare event gathered carried request unshut brings =
    bare_brings (reaction_to place.requests event) gathered carried request (bare (event_of event)) brings

pub none_where_shut : (place : Place) → place.is_shut ≡ true → NoneBrought place
none_where_shut place shut event gathered carried request unshut brings = true≢false (sym shut ∙ unshut)

pub embeds_none : (P : Place → List Observed → Type 0) (place next : Place) (waiting left : List Observed) → NoneBrought place → Embeds place waiting next left
    → P next left → P place waiting
embeds_none P place next waiting left never (no_more p w) stands = stands
embeds_none P place next waiting left never (by_event p n w front rest l carried event request unshut order quiet brings behind) stands =
    absurd (never event (told_of_front place (front ++ of_telephone (event ∷ []))) carried request unshut brings)

-- Acts alone: those that are kept wait behind the others

kept_by : (place : Place) (waiting : List Observed) (event : Observed) (rest : List Observed) (b : Bool)
    → (if b then waiting ++ event ∷ [] else waiting) ++ filter (is_kept place.requests) rest
    ≡ waiting ++ (if b then event ∷ filter (is_kept place.requests) rest else filter (is_kept place.requests) rest)
kept_by place waiting event rest true = append_assoc waiting (event ∷ []) (filter (is_kept place.requests) rest)
kept_by place waiting event rest false = refl

pub acts_alone : (course : List CourseStep) (end : End) (place : Place) (waiting : List Observed) → AreActs course → NoneBrought place
    → Walks place waiting course end → end place (waiting ++ filter (is_kept place.requests) (done_in course))
acts_alone [] end place waiting only never (next, left, moves, walk) =
    subst (end place) (sym (append-nil waiting)) (embeds_none end place next waiting left never moves walk)
acts_alone (acts act ∷ course) end place waiting only never (next, left, moves, walk) =
    subst (end place) (kept_by place waiting (observed_at act) (done_in course) (is_kept place.requests (observed_at act)))
    (acts_alone course end place (with_act place.requests waiting (observed_at act)) only never
    (embeds_none (λ (p : Place) (w : List Observed). Walks p (with_act p.requests w (observed_at act)) course end) place next waiting left never moves walk))
acts_alone (accepts request ∷ course) end place waiting only never walk = absurd only
acts_alone (notifies identifier observed ∷ course) end place waiting only never walk = absurd only

-- What is told of what waits behind a request, and of the acts since
pub front_told : (between after : List CourseStep) (request : Request) (identifier : List ℕ) (observed : List Observed) (end : End) (left : List Observed)
    → AreActs between → EmbedsNone request.events → Walks (behind_request request) left (between ++ notifies identifier observed ∷ after) end
    → (front : List Observed) × (rest : List Observed) × (left ++ filter (is_kept request.events) (done_in between) ≡ front ++ rest)
    × (of_telephone observed ≡ filter (collects request.events) front) × Walks (behind_notification (behind_request request)) rest after end
front_told between after request identifier observed end left only bare walk =
    let place : Place = behind_request request in
    let never : NoneBrought place = none_by_requests place bare in
    let waiting : List Observed = left ++ filter (is_kept request.events) (done_in between) in
    let told =
    acts_alone between (λ (p : Place) (w : List Observed). Walks p w (notifies identifier observed ∷ after) end) place left only never
    (walks_split between (notifies identifier observed ∷ after) end place left walk) in
    let then_told =
    embeds_none
    (λ (p : Place) (w : List Observed). (front : List Observed) × (rest : List Observed) × (w ≡ front ++ rest)
    × TellsOf p front observed × Walks (behind_notification p) rest after end) place told.0 waiting told.1 never told.2 told.3 in
    (then_told.0, then_told.1, then_told.2, then_told.3.0, then_told.4)

-- The law, of a walk

pub tells_a_front : (before between after : List CourseStep) (request : Request) (identifier : List ℕ) (observed : List Observed) (end : End) → AreActs between
    → EmbedsNone request.events → Walks nothing_asked [] (before ++ accepts request ∷ (between ++ notifies identifier observed ∷ after)) end
    → TellsAFront request (of_telephone (told_along before)) (done_in before) (done_in between) observed
tells_a_front before between after request identifier observed end only bare walk =
    let more = accepts request ∷ (between ++ notifies identifier observed ∷ after) in
    let first = walk_ends before (λ (p : Place) (w : List Observed). Walks p w more end) nothing_asked [] (walks_split before more end nothing_asked [] walk) in
    at_request first.place first.waiting first.among first.stands where
      at_request : (place : Place) (waiting : List Observed) → AreAmong (of_telephone (told_along before) ++ all_of place waiting) (done_in before)
          → Walks place waiting (accepts request ∷ (between ++ notifies identifier observed ∷ after)) end
          → TellsAFront request (of_telephone (told_along before)) (done_in before) (done_in between) observed
      at_request place waiting among (next, here, moves, (past, held, order, quiet, shut, rest)) =
          let told = of_telephone (told_along before) in
          let then_told =
          front_told between after request identifier observed end (left_by request.handling.quarantined held) only bare rest in
          let inside : AreAmong held (all_of place waiting) =
          among_pass held (all_of next here) (all_of place waiting)
          (among_both [] next.carried held here (among_none next.carried)
          (subst (λ (w : List Observed). AreAmong held w) (sym order) (among_both [] past held held (among_none past) (among_same held))))
          (embeds_among place next waiting here moves) in
          record {
            held = held;
            front = then_told.0;
            rest = then_told.1;
            before = among_pass (told ++ held) (told ++ all_of place waiting) (done_in before)
                (among_both told told held (all_of place waiting) (among_same told) inside) among;
            order = then_told.2;
            told_so = then_told.3;
          }

-- Behind a notification, in step: what is kept of the acts since is quarantined still at the next request

module _ (before some between after : List CourseStep) (latest request : Request) (first second : List ℕ) (earlier observed : List Observed) (end : End)
    (in_step : is_loop latest.handling.notifying ≡ false) (kept : AreActs some) (only : AreActs between) (bare : EmbedsNone latest.events)
    (then_bare : EmbedsNone request.events) where
  abbrev told_before : List Observed
  told_before = of_telephone (told_along before) ++ of_telephone earlier

  abbrev then_asked : List CourseStep
  then_asked = accepts request ∷ (between ++ notifies second observed ∷ after)

  -- the request, behind what was kept
  at_request : (place : Place) (left : List Observed) → place.requests ≡ latest.events → place.is_shut ≡ true → AreAmong (told_before ++ left) (done_in before)
      → Walks place (left ++ filter (is_kept place.requests) (done_in some)) then_asked end
      → TellsWhatWasKept latest request told_before (done_in before) (done_in some) (done_in between) observed
  at_request place left asks is among (next, here, moves, walk) =
      taken
      (embeds_none
      (λ (p : Place) (w : List Observed). (occurred : List Observed) × (held : List Observed) × (w ≡ occurred ++ held)
      × (are_quiet p.requests occurred ≡ true) × (p.is_shut ≡ true → occurred ≡ [])
      × Walks (behind_request request) (left_by request.handling.quarantined held) (between ++ notifies second observed ∷ after) end) place next
      (left ++ filter (is_kept place.requests) (done_in some)) here (none_where_shut place is) moves walk) where
        taken : (occurred : List Observed) × (held : List Observed) × (left ++ filter (is_kept place.requests) (done_in some) ≡ occurred ++ held)
            × (are_quiet place.requests occurred ≡ true) × (place.is_shut ≡ true → occurred ≡ [])
            × Walks (behind_request request) (left_by request.handling.quarantined held) (between ++ notifies second observed ∷ after) end
            → TellsWhatWasKept latest request told_before (done_in before) (done_in some) (done_in between) observed
        taken (past, held, order, quiet, shut, rest) =
            let all : left ++ filter (is_kept latest.events) (done_in some) ≡ held =
            ap (λ (r : EventRequests). left ++ filter (is_kept r) (done_in some)) (sym asks) ∙ order ∙ ap (λ (xs : List Observed). xs ++ held) (shut is) in
            let told = front_told between after request second observed end (left_by request.handling.quarantined held) only then_bare rest in
            record {
              left = left;
              front = told.0;
              rest = told.1;
              before = among;
              order = ap (λ (xs : List Observed). left_by request.handling.quarantined xs ++ filter (is_kept request.events) (done_in between)) all ∙ told.2;
              told_so = told.3;
            }
