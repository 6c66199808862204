-- How what a line tells walks through what was done at its telephone.
use Rattle.std.proofs.Common.{◌≡◌, ◌≢◌, ℕ, ◌+◌, min, Bool, true, false, List, [], ◌∷◌, ◌++◌, Option, Some, None, refl, sym, ap, subst, ◌∙◌, inl, inr, ◌⊎◌, append_assoc, append-nil}
use Rattle.std.specs.Prelude.{filter, not, ◌&&◌, nat_lt, length, if◌then◌else◌}
use Rattle.std.proofs.lemmas.Bool.{true≢false}
use Rattle.packages.specs.declared.handling.Handling.{Handling}
use Rattle.packages.specs.declared.observed.Observed.{Observed}
use Rattle.event_syntax.specs.declared.request.EmbeddedRequest.{EmbeddedRequest}
use Rattle.event_syntax.specs.declared.request.Reaction.{Reaction}
use Rattle.event_syntax.specs.declared.request.Reaction.TheVariants.{Embed, AccumulateAndEmbed}
use Rattle.events_and_signals.specs.Choice.{is_kept}
use Rattle.events_and_signals.specs.Requests.{EventRequests, with_embedded}
use Rattle.events_and_signals.specs.Held.{Held, one_lost, one_kept, holding, most_lost}
use Rattle.mg_line.specs.State.{State}
use Rattle.mg_line.specs.State.TheVariants.{Normal, Notification, Lockstep}
use Rattle.mg_line.specs.Line.{LineState, Notice, LineDone, still}
use Rattle.mg_line.specs.Occurring.{occurred}
use Rattle.mg_line.specs.Detecting.{quarantining, detected_in, detected, with_quarantined, unless_notified, drained_of, drained, resumed}
use Rattle.mg_line.specs.Acting.{observed_at}
use Rattle.mg_line.specs.Answering.{is_loop}
use Rattle.mg_line.proofs.DrainLemmas.{occurred_keeps}
use Rattle.mg_line.proofs.LoseLemmas.{unasked_events_do_nothing}
use Rattle.world_laws.specs.Rounds.{is_of_telephone, of_telephone}
use Rattle.world_laws.specs.Course.{CourseStep, acts, accepts, notifies}
use Rattle.told_laws.specs.Walking.{is_collected, is_quiet, reaction_to, collects, are_quiet, left_by, Place, nothing_asked, behind_request, behind_notification, End, with_act, told_of_front, Brings, behind_embedded, Embeds, no_more, by_event, Then, Walks, TellsOf, is_waiting, awaits_request}
use Rattle.told_laws.proofs.AmongLemmas.{IsDrained}
use Rattle.told_laws.proofs.OccursLemmas.{GathersAll, TellsAll, Collects, Same, Ignores, Turns, OccursBy, occurred_occurs, with_one, one_if, phone_more, collected_by, ignored_by, quiet_by, next_in, one_more, split_one, but_last_by}
use Rattle.told_laws.proofs.StateLemmas.{occurred_state}
use Rattle.world_laws.proofs.EndpointLemmas.{steps_of}

-- Embedded requests

pub here : (end : End) (place : Place) (waiting : List Observed) → end place waiting → Then place waiting end
here end place waiting stands = (place, waiting, no_more place waiting, stands)

embeds_both : (place middle next : Place) (waiting left last : List Observed) → Embeds place waiting middle left → Embeds middle left next last → Embeds place waiting next last
embeds_both place middle next waiting left last (no_more p w) more = more
embeds_both place middle next waiting left last (by_event p n w front rest l carried event request unshut order quiet brings behind) more =
    by_event place next waiting front rest last carried event request unshut order quiet brings
    (embeds_both (behind_embedded place request carried) middle next rest left last behind more)

-- they change neither whether it is in step, nor whether a request is waited for
pub embeds_keeps : (place next : Place) (waiting left : List Observed) → Embeds place waiting next left
    → (next.in_step ≡ place.in_step) × (next.is_shut ≡ place.is_shut)
embeds_keeps place next waiting left (no_more p w) = (refl, refl)
embeds_keeps place next waiting left (by_event p n w front rest l carried event request unshut order quiet brings behind) =
    embeds_keeps (behind_embedded place request carried) next rest left behind

-- Walks

pub walks_map : (course : List CourseStep) (one other : End) (place : Place) (waiting : List Observed)
    → ((p : Place) (w : List Observed) → one p w → other p w) → Walks place waiting course one → Walks place waiting course other
walks_map [] one other place waiting to (next, left, moves, walk) = (next, left, moves, to next left walk)
walks_map (acts act ∷ course) one other place waiting to (next, left, moves, walk) =
    (next, left, moves, walks_map course one other next (with_act next.requests left (observed_at act)) to walk)
walks_map (accepts request ∷ course) one other place waiting to (next, left, moves, (past, held, order, quiet, shut, walk)) =
    let then_walks = walks_map course one other (behind_request request) (left_by request.handling.quarantined held) to walk in
    (next, left, moves, (past, held, order, quiet, shut, then_walks))
walks_map (notifies identifier observed ∷ course) one other place waiting to (next, left, moves, (front, held, order, told, walk)) =
    (next, left, moves, (front, held, order, told, walks_map course one other (behind_notification next) held to walk))

-- from where embedded requests came into force
pub walks_from : (course : List CourseStep) (end : End) (place middle : Place) (waiting there : List Observed) → Embeds place waiting middle there
    → Walks middle there course end → Walks place waiting course end
walks_from [] end place middle waiting there first (next, left, moves, walk) =
    (next, left, embeds_both place middle next waiting there left first moves, walk)
walks_from (acts act ∷ course) end place middle waiting there first (next, left, moves, walk) =
    (next, left, embeds_both place middle next waiting there left first moves, walk)
walks_from (accepts request ∷ course) end place middle waiting there first (next, left, moves, walk) =
    (next, left, embeds_both place middle next waiting there left first moves, walk)
walks_from (notifies identifier observed ∷ course) end place middle waiting there first (next, left, moves, walk) =
    (next, left, embeds_both place middle next waiting there left first moves, walk)

-- one course behind another
pub walks_both : (course more : List CourseStep) (end : End) (place : Place) (waiting : List Observed)
    → Walks place waiting course (λ (p : Place) (w : List Observed). Walks p w more end) → Walks place waiting (course ++ more) end
walks_both [] more end place waiting (next, left, moves, walk) = walks_from more end place next waiting left moves walk
walks_both (acts act ∷ course) more end place waiting (next, left, moves, walk) =
    (next, left, moves, walks_both course more end next (with_act next.requests left (observed_at act)) walk)
walks_both (accepts request ∷ course) more end place waiting (next, left, moves, (past, held, order, quiet, shut, walk)) =
    let then_walks = walks_both course more end (behind_request request) (left_by request.handling.quarantined held) walk in
    (next, left, moves, (past, held, order, quiet, shut, then_walks))
walks_both (notifies identifier observed ∷ course) more end place waiting (next, left, moves, (front, held, order, told, walk)) =
    (next, left, moves, (front, held, order, told, walks_both course more end (behind_notification next) held walk))

-- Where a line stands in the walk

-- it is in step where the line is
abbrev pub StepsIn : LineState → Place → Type 0
StepsIn line place = place.in_step ≡ not (is_loop line.handling.notifying)

-- and a request is waited for where the line waits for one
abbrev pub ShutAs : LineState → Place → Type 0
ShutAs line place = (place.is_shut ≡ awaits_request line) ⊎ (place ≡ nothing_asked)

-- where events occur none is
pub open_in_normal : (line : LineState) → line.state ≡ Normal → awaits_request line ≡ false
open_in_normal line normal = ap (λ (s : State). is_waiting s && (not (is_loop line.handling.notifying) && not line.renewed)) normal

-- nor where one came
none_of_both : (one other : Bool) → (one && (other && false)) ≡ false
none_of_both true true = refl
none_of_both true false = refl
none_of_both false other = refl

pub renewed_open : (line : LineState) → line.renewed ≡ true → awaits_request line ≡ false
renewed_open line renewed =
    ap (λ (b : Bool). is_waiting line.state && (not (is_loop line.handling.notifying) && not b)) renewed
    ∙ none_of_both (is_waiting line.state) (not (is_loop line.handling.notifying))

and_true : (b : Bool) → (b && true) ≡ b
and_true true = refl
and_true false = refl

-- behind a notification one is, in step
waits_behind : (line : LineState) → line.state ≡ Notification → line.renewed ≡ false → awaits_request line ≡ not (is_loop line.handling.notifying)
waits_behind line waits fresh =
    ap (λ (s : State). is_waiting s && (not (is_loop line.handling.notifying) && not line.renewed)) waits
    ∙ ap (λ (b : Bool). not (is_loop line.handling.notifying) && not b) fresh
    ∙ and_true (not (is_loop line.handling.notifying))

waits_same : (line other : LineState) → other.handling ≡ line.handling → other.state ≡ line.state → other.renewed ≡ line.renewed
    → awaits_request other ≡ awaits_request line
waits_same line other handling state renewed =
    ap (λ (s : State). is_waiting s && (not (is_loop other.handling.notifying) && not other.renewed)) state
    ∙ ap (λ (h : Handling). is_waiting line.state && (not (is_loop h.notifying) && not other.renewed)) handling
    ∙ ap (λ (b : Bool). is_waiting line.state && (not (is_loop line.handling.notifying) && not b)) renewed

shut_on : (line other : LineState) (place : Place) → awaits_request other ≡ awaits_request line → ShutAs line place → ShutAs other place
shut_on line other place same (inl is) = inl (is ∙ sym same)
shut_on line other place same (inr is) = inr is

-- what has occurred since the last notification, where events occur
pub record Has (line : LineState) (place : Place) (past : List Observed) : Type 0 where
  pub asks : line.requests ≡ place.requests
  pub accumulated : of_telephone line.accumulated ≡ told_of_front place past
  pub quiet : are_quiet place.requests past ≡ true
  pub steps : StepsIn line place
  pub unshut : place.is_shut ≡ false

-- a line that notified, in step, and was sent no request since: nothing has occurred
pub record IsShut (line : LineState) (past : List Observed) : Type 0 where
  pub none_past : past ≡ []
  pub awaits : line.state ≢ Normal
  pub fresh : line.renewed ≡ false

-- and what is quarantined behind it
pub record At (line : LineState) (place : Place) (waiting : List Observed) : Type 0 where
  pub past : List Observed
  pub held : List Observed
  pub order : waiting ≡ past ++ held
  pub asks : line.requests ≡ place.requests
  pub accumulated : of_telephone line.accumulated ≡ told_of_front place past
  pub quiet : are_quiet place.requests past ≡ true
  pub quarantined : of_telephone line.quarantined.events ≡ held
  pub steps : StepsIn line place
  pub shuts : place.is_shut ≡ true → place.in_step ≡ true
  pub shut : place.is_shut ≡ true → IsShut line past
  pub own : ShutAs line place

pub has_at : (line : LineState) (place : Place) (past : List Observed) → awaits_request line ≡ false → Has line place past
    → At line place (past ++ of_telephone line.quarantined.events)
has_at line place past opens has = record {
  past = past;
  held = of_telephone line.quarantined.events;
  order = refl;
  asks = has.asks;
  accumulated = has.accumulated;
  quiet = has.quiet;
  quarantined = refl;
  steps = has.steps;
  shuts = λ (is : place.is_shut ≡ true). absurd (true≢false (sym is ∙ has.unshut));
  shut = λ (is : place.is_shut ≡ true). absurd (true≢false (sym is ∙ has.unshut));
  own = inl (has.unshut ∙ sym opens);
}

-- a call, and what it tells
abbrev pub WalksOn : Place → List Observed → LineDone → Type 0
WalksOn place waiting done = Walks place waiting (steps_of done.notice) (At done.line)

silent_walks : (place : Place) (waiting : List Observed) (done : LineDone) → done.notice ≡ None → At done.line place waiting
    → WalksOn place waiting done
silent_walks place waiting done silent at =
    subst (λ (n : Option Notice). Walks place waiting (steps_of n) (At done.line)) (sym silent) (here (At done.line) place waiting at)

telling_walks : (place : Place) (front held : List Observed) (done : LineDone) (notice : Notice) → done.notice ≡ Some notice
    → TellsOf place front notice.observed → At done.line (behind_notification place) held
    → WalksOn place (front ++ held) done
telling_walks place front held done notice tells told at =
    let behind : Then (behind_notification place) held (At done.line) = here (At done.line) (behind_notification place) held at in
    subst (λ (n : Option Notice). Walks place (front ++ held) (steps_of n) (At done.line)) (sym tells)
    (place, front ++ held, no_more place (front ++ held), (front, held, refl, told, behind))

-- An event occurs

steps_on : (line other : LineState) (place : Place) → Same other line → StepsIn line place → StepsIn other place
steps_on line other place same steps = steps ∙ ap (λ (handling : Handling). not (is_loop handling.notifying)) (sym same.1)

ignored_has : (line : LineState) (place : Place) (past : List Observed) (event : Observed) (done : LineDone) → Has line place past
    → Ignores (reaction_to place.requests event) line done → Has done.line place (with_one past event)
ignored_has line place past event done has ignores = record {
  asks = ignores.same.0 ∙ has.asks;
  accumulated = ap of_telephone ignores.gathers.gathered
      ∙ has.accumulated
      ∙ ap (λ (xs : List Observed). place.carried ++ xs) (sym (ignored_by place.requests past event (is_of_telephone event) ignores.uncollected));
  quiet = quiet_by place.requests past event (is_of_telephone event) has.quiet ignores.quiet;
  steps = steps_on line done.line place ignores.same has.steps;
  unshut = has.unshut;
}

collected_all : (line : LineState) (place : Place) (past : List Observed) (event : Observed) → Has line place past
    → is_collected (reaction_to place.requests event) ≡ true → of_telephone (line.accumulated ++ event ∷ []) ≡ told_of_front place (with_one past event)
collected_all line place past event has collected =
    phone_more line.accumulated event
    ∙ ap (λ (xs : List Observed). xs ++ one_if (is_of_telephone event) event) has.accumulated
    ∙ append_assoc place.carried (filter (collects place.requests) past) (one_if (is_of_telephone event) event)
    ∙ ap (λ (xs : List Observed). place.carried ++ xs) (sym (collected_by place.requests past event (is_of_telephone event) collected))

gathered_has : (line : LineState) (place : Place) (past : List Observed) (event : Observed) (done : LineDone) → Has line place past
    → Same done.line line → is_collected (reaction_to place.requests event) ≡ true → is_quiet (reaction_to place.requests event) ≡ true
    → GathersAll (line.accumulated ++ event ∷ []) done → Has done.line place (with_one past event)
gathered_has line place past event done has same collected quiet gathers = record {
  asks = same.0 ∙ has.asks;
  accumulated = ap of_telephone gathers.gathered ∙ collected_all line place past event has collected;
  quiet = quiet_by place.requests past event (is_of_telephone event) has.quiet quiet;
  steps = steps_on line done.line place same has.steps;
  unshut = has.unshut;
}

-- once it was told nothing has occurred
told_at : (place : Place) (all : List Observed) (done : LineDone) → done.line.requests ≡ place.requests → StepsIn done.line place → TellsAll all done
    → At done.line (behind_notification place) (of_telephone done.line.quarantined.events)
told_at place all done asks steps tells = record {
  past = [];
  held = of_telephone done.line.quarantined.events;
  order = refl;
  asks = asks;
  accumulated = ap of_telephone tells.none_left;
  quiet = refl;
  quarantined = refl;
  steps = steps;
  shuts = λ (is : place.in_step ≡ true). is;
  shut = λ (is : place.in_step ≡ true). record {
    none_past = refl;
    awaits = λ normal. (let clash : Notification ≡ Normal = sym tells.awaits ∙ normal in cc);
    fresh = tells.fresh;
  };
  own = inl (steps ∙ sym (waits_behind done.line tells.awaits tells.fresh));
}

-- all that R has told, with that event
abbrev gathered_at : Place → List Observed → Observed → List Observed
gathered_at place past event = told_of_front place (past ++ of_telephone (event ∷ []))

-- A request is embedded at it: behind that nothing has occurred, and what was gathered, if it was, is carried on.
record Turned (line : LineState) (place : Place) (past : List Observed) (event : Observed) (done : LineDone) : Type 0 where
  request : EmbeddedRequest
  carried : List Observed
  brings : Brings (reaction_to place.requests event) (gathered_at place past event) request carried
  asks : done.line.requests ≡ with_embedded place.requests request
  steps : StepsIn done.line place
  how : ((done.notice ≡ None) × (of_telephone done.line.accumulated ≡ carried ++ []))
      ⊎ ((all : List Observed) × (of_telephone all ≡ carried ++ []) × TellsAll all done)

turned : (line : LineState) (place : Place) (past : List Observed) (event : Observed) (done : LineDone) → Has line place past
    → Turns (reaction_to place.requests event) line event done → Turned line place past event done
turned line place past event done has turns = by_how turns.how where
  asks : done.line.requests ≡ with_embedded place.requests turns.request
  asks = turns.asks ∙ ap (λ (r : EventRequests). with_embedded r turns.request) has.asks

  steps : StepsIn done.line place
  steps = has.steps ∙ ap (λ (handling : Handling). not (is_loop handling.notifying)) (sym turns.handled)

  all_is : reaction_to place.requests event ≡ AccumulateAndEmbed turns.request → of_telephone (line.accumulated ++ event ∷ []) ≡ gathered_at place past event ++ []
  all_is is =
      collected_all line place past event has (ap is_collected is) ∙ ap (told_of_front place) (sym (one_more past event)) ∙ sym (append-nil (gathered_at place past event))

  brings_all : reaction_to place.requests event ≡ AccumulateAndEmbed turns.request → Brings (reaction_to place.requests event) (gathered_at place past event) turns.request (gathered_at place past event)
  brings_all is = subst (λ (r : Reaction). Brings r (gathered_at place past event) turns.request (gathered_at place past event)) (sym is) (refl, refl)

  by_how : ((reaction_to place.requests event ≡ Embed turns.request) × GathersAll [] done)
      ⊎ ((reaction_to place.requests event ≡ AccumulateAndEmbed turns.request) × Collects (line.accumulated ++ event ∷ []) done)
      → Turned line place past event done
  by_how (inl (is, gathers)) = record {
    request = turns.request;
    carried = [];
    brings = subst (λ (r : Reaction). Brings r (gathered_at place past event) turns.request []) (sym is) (refl, refl);
    asks = asks;
    steps = steps;
    how = inl (gathers.silent, ap of_telephone gathers.gathered);
  }
  by_how (inr (is, (inl gathers))) = record {
    request = turns.request;
    carried = gathered_at place past event;
    brings = brings_all is;
    asks = asks;
    steps = steps;
    how = inl (gathers.silent, ap of_telephone gathers.gathered ∙ all_is is);
  }
  by_how (inr (is, (inr tells))) = record {
    request = turns.request;
    carried = gathered_at place past event;
    brings = brings_all is;
    asks = asks;
    steps = steps;
    how = inr (line.accumulated ++ event ∷ [], all_is is, tells);
  }

-- with what is quarantined behind it
turned_embeds : (line : LineState) (place : Place) (past : List Observed) (event : Observed) (done : LineDone) (waiting rest : List Observed)
    → Has line place past → (t : Turned line place past event done) → waiting ≡ past ++ (of_telephone (event ∷ []) ++ rest)
    → Embeds place waiting (behind_embedded place t.request t.carried) rest
turned_embeds line place past event done waiting rest has t order =
    let to : Place = behind_embedded place t.request t.carried in
    by_event place to waiting past rest rest t.carried event t.request has.unshut order has.quiet t.brings (no_more to rest)

turned_has : (line : LineState) (place : Place) (past : List Observed) (event : Observed) (done : LineDone) → Has line place past
    → (t : Turned line place past event done) → of_telephone done.line.accumulated ≡ t.carried ++ []
    → Has done.line (behind_embedded place t.request t.carried) []
turned_has line place past event done has t gathered =
    record { asks = t.asks; accumulated = gathered; quiet = refl; steps = t.steps; unshut = has.unshut }

-- it is told there and then
turned_tells : (line : LineState) (place : Place) (past : List Observed) (event : Observed) (done : LineDone) (waiting all : List Observed) → Has line place past
    → (t : Turned line place past event done) → waiting ≡ past ++ (of_telephone (event ∷ []) ++ of_telephone done.line.quarantined.events)
    → of_telephone all ≡ t.carried ++ [] → TellsAll all done → WalksOn place waiting done
turned_tells line place past event done waiting all has t order is tells =
    let to : Place = behind_embedded place t.request t.carried in
    let held : List Observed = of_telephone done.line.quarantined.events in
    walks_from (steps_of done.notice) (At done.line) place to waiting held (turned_embeds line place past event done waiting held has t order)
    (telling_walks to [] held done tells.notice tells.tells (ap of_telephone tells.told ∙ is, refl) (told_at to all done t.asks t.steps tells))

-- Draining

-- a quarantined event occurs, and those behind it where it isn't told
drain_turned : (line : LineState) (place : Place) (past : List Observed) (event : Observed) (rest : List Observed) (done : LineDone)
    (next : LineState → LineDone) → Has line place past → done.line.quarantined.events ≡ rest → Turned line place past event done
    → (done.notice ≡ None → (p : Place) (now : List Observed) → Has done.line p now → WalksOn p (now ++ of_telephone rest) (next done.line))
    → WalksOn place (past ++ of_telephone (event ∷ rest)) (unless_notified done.notice done next)
drain_turned line place past event rest done next has left t more = by_how t.how where
  by_how : ((done.notice ≡ None) × (of_telephone done.line.accumulated ≡ t.carried ++ []))
      ⊎ ((all : List Observed) × (of_telephone all ≡ t.carried ++ []) × TellsAll all done)
      → WalksOn place (past ++ of_telephone (event ∷ rest)) (unless_notified done.notice done next)
  by_how (inl (silent, gathered)) =
      let to : Place = behind_embedded place t.request t.carried in
      let waiting : List Observed = past ++ of_telephone (event ∷ rest) in
      subst (λ (n : Option Notice). WalksOn place waiting (unless_notified n done next)) (sym silent)
      (walks_from (steps_of (next done.line).notice) (At (next done.line).line) place to waiting (of_telephone rest)
      (turned_embeds line place past event done waiting (of_telephone rest) has t (ap (λ (xs : List Observed). past ++ xs) (split_one event rest)))
      (more silent to [] (turned_has line place past event done has t gathered)))
  by_how (inr (all, is, tells)) =
      let waiting : List Observed = past ++ of_telephone (event ∷ rest) in
      subst (λ (n : Option Notice). WalksOn place waiting (unless_notified n done next)) (sym tells.tells)
      (turned_tells line place past event done waiting all has t
      (ap (λ (xs : List Observed). past ++ xs) (split_one event rest)
      ∙ ap (λ (xs : List Observed). past ++ (of_telephone (event ∷ []) ++ of_telephone xs)) (sym left))
      is tells)

drain_more : (line : LineState) (place : Place) (past : List Observed) (event : Observed) (rest : List Observed) (done : LineDone)
    (next : LineState → LineDone) → Has line place past → done.line.quarantined.events ≡ rest
    → OccursBy (reaction_to place.requests event) line event done
    → (done.notice ≡ None → (p : Place) (now : List Observed) → Has done.line p now → WalksOn p (now ++ of_telephone rest) (next done.line))
    → WalksOn place (past ++ of_telephone (event ∷ rest)) (unless_notified done.notice done next)
drain_more line place past event rest done next has left (inl ignores) more =
    subst (λ (n : Option Notice). WalksOn place (past ++ of_telephone (event ∷ rest)) (unless_notified n done next)) (sym ignores.gathers.silent)
    (subst (λ (w : List Observed). WalksOn place w (next done.line)) (sym (next_in past event rest))
    (more ignores.gathers.silent place (with_one past event) (ignored_has line place past event done has ignores)))
drain_more line place past event rest done next has left (inr (inl takes)) more = by_how takes.how where
  by_how : (((is_quiet (reaction_to place.requests event) ≡ true) × GathersAll (line.accumulated ++ event ∷ []) done)
      ⊎ TellsAll (line.accumulated ++ event ∷ []) done)
      → WalksOn place (past ++ of_telephone (event ∷ rest)) (unless_notified done.notice done next)
  by_how (inl later) =
      subst (λ (n : Option Notice). WalksOn place (past ++ of_telephone (event ∷ rest)) (unless_notified n done next)) (sym later.1.silent)
      (subst (λ (w : List Observed). WalksOn place w (next done.line)) (sym (next_in past event rest))
      (more later.1.silent place (with_one past event) (gathered_has line place past event done has takes.same takes.collected later.0 later.1)))
  by_how (inr tells) =
      subst (λ (n : Option Notice). WalksOn place (past ++ of_telephone (event ∷ rest)) (unless_notified n done next)) (sym tells.tells)
      (subst (λ (w : List Observed). WalksOn place w done) (sym (next_in past event rest))
      (subst (λ (held : List Observed). WalksOn place (with_one past event ++ of_telephone held) done) left
      (telling_walks place (with_one past event) (of_telephone done.line.quarantined.events) done tells.notice tells.tells (
        ap of_telephone tells.told ∙ collected_all line place past event has takes.collected,
        but_last_by place.requests past event (is_of_telephone event) has.quiet takes.bare,
      )
      (told_at place (line.accumulated ++ event ∷ []) done (takes.same.0 ∙ has.asks) (steps_on line done.line place takes.same has.steps) tells))))
drain_more line place past event rest done next has left (inr (inr turns)) more =
    drain_turned line place past event rest done next has left (turned line place past event done has turns) more

drains : (was : List Observed) (line : LineState) (moment : ℕ) (place : Place) (past : List Observed) → line.quarantined.events ≡ was
    → line.state ≡ Normal → Has line place past → WalksOn place (past ++ of_telephone was) (drained_of was line moment)
unfolding drained_of
drains [] line moment place past same normal has =
    here (At line) place (past ++ of_telephone [])
    (subst (λ (held : List Observed). At line place (past ++ of_telephone held)) same (has_at line place past (open_in_normal line normal) has))
drains (event ∷ events) line moment place past same normal has =
    let from : LineState = with_quarantined line events in
    let done : LineDone = occurred from event moment in
    let left : done.line.quarantined.events ≡ events = ap (λ (held : Held). held.events) (occurred_keeps from event moment) in
    let from_has : Has from place past =
    record { asks = has.asks; accumulated = has.accumulated; quiet = has.quiet; steps = has.steps; unshut = has.unshut } in
    drain_more from place past event events done (λ next. drained_of events next moment) from_has left
    (subst (λ (r : EventRequests). OccursBy (reaction_to r event) from event done) has.asks (occurred_occurs from event moment))
    (λ (silent : done.notice ≡ None) (p : Place) (now : List Observed) (then_has : Has done.line p now).
    drains events done.line moment p now left (occurred_state from event moment silent ∙ normal) then_has)

pub resumes : (line : LineState) (moment : ℕ) (place : Place) (past : List Observed) → Has line place past
    → WalksOn place (past ++ of_telephone line.quarantined.events) (resumed line moment)
unfolding resumed drained
resumes line moment place past has =
    drains line.quarantined.events (record line { state = Normal }) moment place past refl refl
    (record { asks = has.asks; accumulated = has.accumulated; quiet = has.quiet; steps = has.steps; unshut = has.unshut })

at_has : (line : LineState) (place : Place) (waiting : List Observed) → (at : At line place waiting) → place.is_shut ≡ false → Has line place at.past
at_has line place waiting at unshut =
    record { asks = at.asks; accumulated = at.accumulated; quiet = at.quiet; steps = at.steps; unshut = unshut }

-- where it isn't so that a line waits for a request
pub open_by : (place : Place) (b : Bool) → place.is_shut ≡ b → (place.is_shut ≡ true → ⊥) → place.is_shut ≡ false
open_by place true e never = absurd (never e)
open_by place false e never = e

at_normal : (line : LineState) (place : Place) (waiting : List Observed) → At line place waiting → line.state ≡ Normal → place.is_shut ≡ false
at_normal line place waiting at normal = open_by place place.is_shut refl (λ (is : place.is_shut ≡ true). (at.shut is).awaits normal)

at_order : (line : LineState) (place : Place) (waiting : List Observed) → (at : At line place waiting)
    → waiting ≡ at.past ++ of_telephone line.quarantined.events
at_order line place waiting at = at.order ∙ ap (λ (held : List Observed). at.past ++ held) (sym at.quarantined)

pub at_resumes : (line : LineState) (moment : ℕ) (place : Place) (waiting : List Observed) → At line place waiting → place.is_shut ≡ false
    → WalksOn place waiting (resumed line moment)
at_resumes line moment place waiting at unshut =
    subst (λ (w : List Observed). WalksOn place w (resumed line moment)) (sym (at_order line place waiting at))
    (resumes line moment place at.past (at_has line place waiting at unshut))

-- Events are detected

-- in the state normal nothing is quarantined
empty_held : (line : LineState) (place : Place) (waiting : List Observed) → (at : At line place waiting) → line.quarantined.events ≡ []
    → waiting ≡ at.past
empty_held line place waiting at empty =
    at_order line place waiting at ∙ ap (λ (held : List Observed). at.past ++ of_telephone held) empty ∙ append-nil at.past

-- behind what occurred nothing is held
alone_at : (done : LineDone) (place : Place) (now : List Observed) → done.line.state ≡ Normal → Has done.line place now
    → done.line.quarantined.events ≡ [] → At done.line place now
alone_at done place now normal has left =
    subst (At done.line place) (ap (λ (held : List Observed). now ++ of_telephone held) left ∙ append-nil now)
    (has_at done.line place now (open_in_normal done.line normal) has)

told_alone : (place : Place) (front : List Observed) (done : LineDone) (notice : Notice) → done.notice ≡ Some notice
    → TellsOf place front notice.observed → At done.line (behind_notification place) [] → WalksOn place front done
told_alone place front done notice tells told at =
    subst (λ (w : List Observed). WalksOn place w done) (append-nil front) (telling_walks place front [] done notice tells told at)

turned_order : (past : List Observed) (event : Observed) (rest : List Observed) → rest ≡ []
    → with_one past event ≡ past ++ (of_telephone (event ∷ []) ++ of_telephone rest)
turned_order past event rest none =
    sym
    (ap (λ (xs : List Observed). past ++ (of_telephone (event ∷ []) ++ of_telephone xs)) none
    ∙ ap (λ (xs : List Observed). past ++ xs) (append-nil (of_telephone (event ∷ [])))
    ∙ one_more past event)

turned_alone : (line : LineState) (event : Observed) (place : Place) (past : List Observed) (done : LineDone) → Has line place past
    → (done.notice ≡ None → done.line.state ≡ Normal) → done.line.quarantined.events ≡ [] → Turned line place past event done
    → WalksOn place (with_one past event) done
turned_alone line event place past done has normal left t = by_how t.how where
  by_how : ((done.notice ≡ None) × (of_telephone done.line.accumulated ≡ t.carried ++ []))
      ⊎ ((all : List Observed) × (of_telephone all ≡ t.carried ++ []) × TellsAll all done)
      → WalksOn place (with_one past event) done
  by_how (inl (silent, gathered)) =
      let to : Place = behind_embedded place t.request t.carried in
      walks_from (steps_of done.notice) (At done.line) place to (with_one past event) []
      (turned_embeds line place past event done (with_one past event) [] has t (turned_order past event [] refl))
      (silent_walks to [] done silent (alone_at done to [] (normal silent) (turned_has line place past event done has t gathered) left))
  by_how (inr (all, is, tells)) =
      turned_tells line place past event done (with_one past event) all has t (turned_order past event done.line.quarantined.events left) is tells

alone : (line : LineState) (event : Observed) (place : Place) (past : List Observed) (done : LineDone) → Has line place past
    → (done.notice ≡ None → done.line.state ≡ Normal) → done.line.quarantined.events ≡ []
    → OccursBy (reaction_to place.requests event) line event done → WalksOn place (with_one past event) done
alone line event place past done has normal left (inl ignores) =
    silent_walks place (with_one past event) done ignores.gathers.silent
    (alone_at done place (with_one past event) (normal ignores.gathers.silent) (ignored_has line place past event done has ignores) left)
alone line event place past done has normal left (inr (inl takes)) = by_how takes.how where
  by_how : (((is_quiet (reaction_to place.requests event) ≡ true) × GathersAll (line.accumulated ++ event ∷ []) done)
      ⊎ TellsAll (line.accumulated ++ event ∷ []) done) → WalksOn place (with_one past event) done
  by_how (inl later) =
      silent_walks place (with_one past event) done later.1.silent
      (alone_at done place (with_one past event) (normal later.1.silent)
      (gathered_has line place past event done has takes.same takes.collected later.0 later.1) left)
  by_how (inr tells) =
      told_alone place (with_one past event) done tells.notice tells.tells (
        ap of_telephone tells.told ∙ collected_all line place past event has takes.collected,
        but_last_by place.requests past event (is_of_telephone event) has.quiet takes.bare,
      )
      (subst (At done.line (behind_notification place)) (ap of_telephone left)
      (told_at place (line.accumulated ++ event ∷ []) done (takes.same.0 ∙ has.asks) (steps_on line done.line place takes.same has.steps) tells))
alone line event place past done has normal left (inr (inr turns)) =
    turned_alone line event place past done has normal left (turned line place past event done has turns)

-- as where it were the last one that is quarantined
occurs_alone : (line : LineState) (event : Observed) (moment : ℕ) (place : Place) (waiting : List Observed) → At line place waiting
    → line.state ≡ Normal → line.quarantined.events ≡ [] → WalksOn place (with_one waiting event) (occurred line event moment)
occurs_alone line event moment place waiting at normal empty =
    let done : LineDone = occurred line event moment in
    let left : done.line.quarantined.events ≡ [] = ap (λ (held : Held). held.events) (occurred_keeps line event moment) ∙ empty in
    let same : waiting ≡ at.past = empty_held line place waiting at empty in
    let occurs : OccursBy (reaction_to place.requests event) line event done =
    subst (λ (r : EventRequests). OccursBy (reaction_to r event) line event done) at.asks (occurred_occurs line event moment) in
    subst (λ (w : List Observed). WalksOn place (with_one w event) done) (sym same)
    (alone line event place at.past done (at_has line place waiting at (at_normal line place waiting at normal))
    (λ (silent : done.notice ≡ None). occurred_state line event moment silent ∙ normal) left occurs)

-- while no event occurs it is quarantined, where it is kept and there is room, and else lost
held_or_lost : (held : Held) (event : Observed)
    → (((holding held event).events ≡ held.events ++ event ∷ []) × ((holding held event).lost ≡ held.lost)) ⊎ (holding held event ≡ one_lost held)
unfolding holding
held_or_lost held event = by_room (nat_lt (length held.events) held.room) where
  by_room : (b : Bool)
      → (((if b then one_kept held event else one_lost held).events ≡ held.events ++ event ∷ [])
      × ((if b then one_kept held event else one_lost held).lost ≡ held.lost))
      ⊎ ((if b then one_kept held event else one_lost held) ≡ one_lost held)
  by_room true = inl (refl, refl)
  by_room false = inr refl

-- it has grown, or the count has
abbrev HeldOrLost : LineState → Observed → Type 0
HeldOrLost line event =
    (((quarantining line event).quarantined.events ≡ line.quarantined.events ++ event ∷ [])
    × ((quarantining line event).quarantined.lost ≡ line.quarantined.lost))
    ⊎ ((quarantining line event).quarantined ≡ one_lost line.quarantined)

kept_or_lost : (line : LineState) (event : Observed) → is_kept line.requests event ≡ true → HeldOrLost line event
unfolding quarantining
kept_or_lost line event kept = by_kept (is_kept line.requests event) kept where
  by_kept : (b : Bool) → b ≡ true
      → (((if b then holding line.quarantined event else line.quarantined).events ≡ line.quarantined.events ++ event ∷ [])
      × ((if b then holding line.quarantined event else line.quarantined).lost ≡ line.quarantined.lost))
      ⊎ ((if b then holding line.quarantined event else line.quarantined) ≡ one_lost line.quarantined)
  by_kept true is = held_or_lost line.quarantined event
  by_kept false is = absurd (true≢false (sym is))

-- a telephone's event, which is kept
waits_at : (line : LineState) (event : Observed) (place : Place) (waiting : List Observed) → At line place waiting
    → is_of_telephone event ≡ true → (quarantining line event).quarantined.events ≡ line.quarantined.events ++ event ∷ []
    → At (quarantining line event) place (waiting ++ event ∷ [])
unfolding quarantining
waits_at line event place waiting at phone grew = record {
  past = at.past;
  held = at.held ++ event ∷ [];
  order = ap (λ (w : List Observed). w ++ event ∷ []) at.order ∙ append_assoc at.past at.held (event ∷ []);
  asks = at.asks;
  accumulated = at.accumulated;
  quiet = at.quiet;
  quarantined = ap of_telephone grew
      ∙ phone_more line.quarantined.events event
      ∙ ap (λ (b : Bool). of_telephone line.quarantined.events ++ one_if b event) phone
      ∙ ap (λ (held : List Observed). held ++ event ∷ []) at.quarantined;
  steps = at.steps;
  shuts = at.shuts;
  shut = λ (is : place.is_shut ≡ true).
      (let shut = at.shut is in record { none_past = shut.none_past; awaits = shut.awaits; fresh = shut.fresh });
  own = at.own;
}

-- what is no telephone's changes nothing of that
pub other_held : (line : LineState) (event : Observed) → is_of_telephone event ≡ false
    → of_telephone (quarantining line event).quarantined.events ≡ of_telephone line.quarantined.events
unfolding quarantining holding
other_held line event other = by_kept (is_kept line.requests event) where
  more : of_telephone (line.quarantined.events ++ event ∷ []) ≡ of_telephone line.quarantined.events
  more =
      phone_more line.quarantined.events event
      ∙ ap (λ (b : Bool). of_telephone line.quarantined.events ++ one_if b event) other
      ∙ append-nil (of_telephone line.quarantined.events)

  by_room : (b : Bool) → of_telephone (if b then one_kept line.quarantined event else one_lost line.quarantined).events ≡ of_telephone line.quarantined.events
  by_room true = more
  by_room false = refl

  by_kept : (b : Bool) → of_telephone (if b then holding line.quarantined event else line.quarantined).events ≡ of_telephone line.quarantined.events
  by_kept true = by_room (nat_lt (length line.quarantined.events) line.quarantined.room)
  by_kept false = refl

-- what a line keeps for the walk
pub record Keeps (line other : LineState) : Type 0 where
  pub asks : Same other line
  pub accumulated : other.accumulated ≡ line.accumulated
  pub quarantined : of_telephone other.quarantined.events ≡ of_telephone line.quarantined.events
  pub awaits : line.state ≢ Normal → other.state ≢ Normal
  pub renewed : other.renewed ≡ line.renewed
  pub waits : awaits_request other ≡ awaits_request line

pub other_at : (line other : LineState) (place : Place) (waiting : List Observed) → At line place waiting → Keeps line other → At other place waiting
other_at line other place waiting at keeps = record {
  past = at.past;
  held = at.held;
  order = at.order;
  asks = keeps.asks.0 ∙ at.asks;
  accumulated = ap of_telephone keeps.accumulated ∙ at.accumulated;
  quiet = at.quiet;
  quarantined = keeps.quarantined ∙ at.quarantined;
  steps = steps_on line other place keeps.asks at.steps;
  shuts = at.shuts;
  shut = λ (is : place.is_shut ≡ true).
      (let shut = at.shut is in
      record { none_past = shut.none_past; awaits = keeps.awaits shut.awaits; fresh = keeps.renewed ∙ shut.fresh });
  own = shut_on line other place keeps.waits at.own;
}

pub keeps_same : (line other : LineState) → Same other line → other.accumulated ≡ line.accumulated → other.quarantined ≡ line.quarantined
    → other.state ≡ line.state → other.renewed ≡ line.renewed → Keeps line other
keeps_same line other asks acc held state renewed = record {
  asks = asks;
  accumulated = acc;
  quarantined = ap (λ (h : Held). of_telephone h.events) held;
  awaits = λ (awaits : line.state ≢ Normal) (normal : other.state ≡ Normal). awaits (sym state ∙ normal);
  renewed = renewed;
  waits = waits_same line other asks.1 state renewed;
}

quarantining_keeps : (line : LineState) (event : Observed) → is_of_telephone event ≡ false → Keeps line (quarantining line event)
unfolding quarantining
quarantining_keeps line event other = record {
  asks = (refl, refl);
  accumulated = refl;
  quarantined = other_held line event other;
  awaits = λ (awaits : line.state ≢ Normal). awaits;
  renewed = refl;
  waits = refl;
}

-- an act: kept, dropped or lost

-- none is lost
pub record ActWalks (line : LineState) (event : Observed) (done : LineDone) : Type 0 where
  pub walks : (place : Place) (waiting : List Observed) → At line place waiting → WalksOn place (with_act place.requests waiting event) done
  pub same : done.line.quarantined.lost ≡ line.quarantined.lost

-- it is lost, and counted, and nothing else comes of it
pub record Loses (line : LineState) (done : LineDone) : Type 0 where
  pub silent : done.notice ≡ None
  pub keeps : Keeps line done.line
  pub counted : done.line.quarantined.lost ≡ min most_lost (line.quarantined.lost + 1)

act_is : (line : LineState) (event : Observed) (place : Place) (waiting : List Observed) (b : Bool) → At line place waiting
    → is_kept line.requests event ≡ b → (if b then waiting ++ event ∷ [] else waiting) ≡ with_act place.requests waiting event
act_is line event place waiting b at kept =
    ap (λ (c : Bool). if c then waiting ++ event ∷ [] else waiting) (sym kept ∙ ap (λ (r : EventRequests). is_kept r event) at.asks)

lost_loses : (line : LineState) (event : Observed) → (quarantining line event).quarantined ≡ one_lost line.quarantined
    → Loses line (still (quarantining line event))
unfolding quarantining
lost_loses line event lost = record {
  silent = refl;
  keeps = record {
    asks = (refl, refl);
    accumulated = refl;
    quarantined = ap (λ (held : Held). of_telephone held.events) lost;
    awaits = λ (awaits : line.state ≢ Normal). awaits;
    renewed = refl;
    waits = refl;
  };
  counted = ap (λ (held : Held). held.lost) lost;
}

held_walks : (line : LineState) (event : Observed) → is_of_telephone event ≡ true → is_kept line.requests event ≡ true → HeldOrLost line event
    → ActWalks line event (still (quarantining line event)) ⊎ Loses line (still (quarantining line event))
held_walks line event phone kept (inl grew) =
    inl
    (record {
      walks = λ (place : Place) (waiting : List Observed) (at : At line place waiting).
          subst (λ (w : List Observed). WalksOn place w (still (quarantining line event))) (act_is line event place waiting true at kept)
          (here (At (quarantining line event)) place (waiting ++ event ∷ []) (waits_at line event place waiting at phone grew.0));
      same = grew.1;
    })
held_walks line event phone kept (inr lost) = inr (lost_loses line event lost)

kept_in : (state : State) (line : LineState) (event : Observed) (moment : ℕ) → line.state ≡ state → IsDrained line
    → is_of_telephone event ≡ true → is_kept line.requests event ≡ true
    → ActWalks line event (detected_in state line event moment) ⊎ Loses line (detected_in state line event moment)
kept_in Normal line event moment is drained phone kept =
    inl
    (record {
      walks = λ (place : Place) (waiting : List Observed) (at : At line place waiting).
          subst (λ (w : List Observed). WalksOn place w (occurred line event moment))
          (ap (λ (b : Bool). if b then waiting ++ event ∷ [] else waiting) phone ∙ act_is line event place waiting true at kept)
          (occurs_alone line event moment place waiting at is (drained is));
      same = ap (λ (held : Held). held.lost) (occurred_keeps line event moment);
    })
kept_in Notification line event moment is drained phone kept = held_walks line event phone kept (kept_or_lost line event kept)
kept_in Lockstep line event moment is drained phone kept = held_walks line event phone kept (kept_or_lost line event kept)

kept_walks : (line : LineState) (event : Observed) (moment : ℕ) → IsDrained line → is_of_telephone event ≡ true
    → is_kept line.requests event ≡ true → ActWalks line event (detected line event moment) ⊎ Loses line (detected line event moment)
unfolding detected
kept_walks line event moment drained phone kept = kept_in line.state line event moment refl drained phone kept

act_by : (line : LineState) (event : Observed) (moment : ℕ) (b : Bool) → is_kept line.requests event ≡ b → IsDrained line
    → is_of_telephone event ≡ true → ActWalks line event (detected line event moment) ⊎ Loses line (detected line event moment)
act_by line event moment true kept drained phone = kept_walks line event moment drained phone kept
act_by line event moment false kept drained phone =
    inl
    (record {
      walks = λ (place : Place) (waiting : List Observed) (at : At line place waiting).
          subst (λ (w : List Observed). WalksOn place w (detected line event moment)) (act_is line event place waiting false at kept)
          (subst (WalksOn place waiting) (sym (unasked_events_do_nothing.detecting line event moment kept)) (here (At line) place waiting at));
      same = ap (λ (done : LineDone). done.line.quarantined.lost) (unasked_events_do_nothing.detecting line event moment kept);
    })

pub act_walks : (line : LineState) (event : Observed) (moment : ℕ) → IsDrained line → is_of_telephone event ≡ true
    → ActWalks line event (detected line event moment) ⊎ Loses line (detected line event moment)
act_walks line event moment drained phone = act_by line event moment (is_kept line.requests event) refl drained phone

-- the hook state is none of the walk's
pub from_hooked : (line other : LineState) (event : Observed) (done : LineDone) → Keeps line other → other.quarantined.lost ≡ line.quarantined.lost
    → ActWalks other event done ⊎ Loses other done → ActWalks line event done ⊎ Loses line done
from_hooked line other event done keeps same (inl walks) =
    inl
    (record {
      walks = λ (place : Place) (waiting : List Observed) (at : At line place waiting).
          walks.walks place waiting (other_at line other place waiting at keeps);
      same = walks.same ∙ same;
    })
from_hooked line other event done keeps same (inr loses) =
    inr
    (record {
      silent = loses.silent;
      keeps = record {
        asks = (loses.keeps.asks.0 ∙ keeps.asks.0, loses.keeps.asks.1 ∙ keeps.asks.1);
        accumulated = loses.keeps.accumulated ∙ keeps.accumulated;
        quarantined = loses.keeps.quarantined ∙ keeps.quarantined;
        awaits = λ (awaits : line.state ≢ Normal). loses.keeps.awaits (keeps.awaits awaits);
        renewed = loses.keeps.renewed ∙ keeps.renewed;
        waits = loses.keeps.waits ∙ keeps.waits;
      };
      counted = loses.counted ∙ ap (λ (n : ℕ). min most_lost (n + 1)) same;
    })

-- what is no act: an end

end_in : (state : State) (line : LineState) (event : Observed) (moment : ℕ) (place : Place) (waiting : List Observed) → line.state ≡ state
    → IsDrained line → is_of_telephone event ≡ false → At line place waiting → WalksOn place waiting (detected_in state line event moment)
unfolding quarantining
end_in Normal line event moment place waiting is drained other at =
    subst (λ (w : List Observed). WalksOn place w (occurred line event moment)) (ap (λ (b : Bool). if b then waiting ++ event ∷ [] else waiting) other)
    (occurs_alone line event moment place waiting at is (drained is))
end_in Notification line event moment place waiting is drained other at =
    here (At (quarantining line event)) place waiting (other_at line (quarantining line event) place waiting at (quarantining_keeps line event other))
end_in Lockstep line event moment place waiting is drained other at =
    here (At (quarantining line event)) place waiting (other_at line (quarantining line event) place waiting at (quarantining_keeps line event other))

pub end_walks : (line : LineState) (event : Observed) (moment : ℕ) (place : Place) (waiting : List Observed) → IsDrained line
    → is_of_telephone event ≡ false → At line place waiting → WalksOn place waiting (detected line event moment)
unfolding detected
end_walks line event moment place waiting drained other at = end_in line.state line event moment place waiting refl drained other at
