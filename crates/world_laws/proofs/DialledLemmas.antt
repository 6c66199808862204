-- What a line follows, how often it notifies, and what it keeps of what is dialled, over a whole course.
use Rattle.std.proofs.Common.{◌≡◌, ℕ, ◌≤◌, Bool, true, false, List, [], ◌∷◌, ◌++◌, Option, Some, None, refl, sym, ap, subst, ◌∙◌, append-nil, append_assoc, arith}
use Rattle.std.specs.Prelude.{IfSome}
use Rattle.std.proofs.lemmas.Grind.{flat_map-append}
use Rattle.packages.specs.declared.handling.Handling.{Handling}
use Rattle.packages.specs.declared.handling.Notifying.TheVariants.{Step as InStep}
use Rattle.packages.specs.declared.observed.Observed.{Observed}
use Rattle.events_and_signals.specs.Held.{most_lost}
use Rattle.mg_line.specs.declared.phone.Act.{Act}
use Rattle.events_and_signals.specs.declared.request.Request.{Request}
use Rattle.mg_line.specs.Acting.{observed_at, phoned}
use Rattle.mg_line.specs.Answering.{answered}
use Rattle.mg_line.specs.Falling.{fired}
use Rattle.mg_line.specs.Line.{LineState, Notice, LineDone, opening_line}
use Rattle.mg_line.specs.Opening.{opened}
use Rattle.mg_line.specs.Requesting.{asked}
use Rattle.mg_line.proofs.LoseLemmas.{lost_only_grows}
use Rattle.world_laws.specs.Course.{CourseStep, acts, accepts, notifies}
use Rattle.world_laws.specs.Dialled.{done_at, done_in, told_at, told_along, AskForAll, latest_from, AsksIfAny}
use Rattle.world_laws.specs.Following.{FollowFrom, AreInStep, OnceFrom, Follows, IsResting, StaysResting}
use Rattle.world_laws.specs.Keeping.{happened_in, told_of, IsUntouched, KeepsAll, Conserves, StaysUntouched}
use Rattle.world_laws.proofs.OutLemmas.{IsCounted, acts_count, fires_count}
use Rattle.world_laws.proofs.FollowingLemmas.{follows_the_latest, rests_until_asked, rests_once_notified}
use Rattle.world_laws.proofs.KeepingLemmas.{happened_both, nothing_is_skipped, nothing_is_made_up}
use Rattle.world_laws.proofs.EndpointLemmas.{steps_of, Calls}

-- What is followed

-- the identifier of the latest request
abbrev pub followed : List ℕ → List CourseStep → List ℕ
followed latest [] = latest
followed latest (acts act ∷ course) = followed latest course
followed latest (accepts request ∷ course) = followed request.identifier course
followed latest (notifies identifier observed ∷ course) = followed latest course

followed_both : (latest : List ℕ) (some more : List CourseStep) → followed latest (some ++ more) ≡ followed (followed latest some) more
followed_both latest [] more = refl
followed_both latest (acts act ∷ some) more = followed_both latest some more
followed_both latest (accepts request ∷ some) more = followed_both request.identifier some more
followed_both latest (notifies identifier observed ∷ some) more = followed_both latest some more

follow_both : (latest : List ℕ) (some more : List CourseStep) → FollowFrom latest some → FollowFrom (followed latest some) more → FollowFrom latest (some ++ more)
follow_both latest [] more one two = two
follow_both latest (acts act ∷ some) more one two = follow_both latest some more one two
follow_both latest (accepts request ∷ some) more one two = follow_both request.identifier some more one two
follow_both latest (notifies identifier observed ∷ some) more one two = (one.0, follow_both latest some more one.1 two)

module _ (first : List ℕ) where
  pub record Followed (serving : Bool) (course : List CourseStep) (line : LineState) : Type 0 where
    pub follow : FollowFrom first course
    pub latest : line.identifier ≡ followed first course

  told_follows : (identifier : List ℕ) (notice : Option Notice) → IfSome notice (λ n. n.identifier ≡ identifier) → FollowFrom identifier (steps_of notice)
  told_follows identifier None told = tt
  told_follows identifier (Some notice) told = (told, tt)

  told_stays : (identifier : List ℕ) (notice : Option Notice) → followed identifier (steps_of notice) ≡ identifier
  told_stays identifier None = refl
  told_stays identifier (Some notice) = refl

  goes_on : (serving serving' : Bool) (course : List CourseStep) (identifier : List ℕ) (handling : Handling) (done : LineDone) → FollowFrom first course → followed first course ≡ identifier
      → Follows identifier handling done → Followed serving' (course ++ steps_of done.notice) done.line
  goes_on serving serving' course identifier handling done follow latest follows = record {
    follow = follow_both first course (steps_of done.notice) follow
        (subst (λ (x : List ℕ). FollowFrom x (steps_of done.notice)) (sym latest) (told_follows identifier done.notice follows.told));
    latest = follows.identifier_is
        ∙ sym (followed_both first course (steps_of done.notice) ∙ ap (λ (x : List ℕ). followed x (steps_of done.notice)) latest ∙ told_stays identifier done.notice);
  }

  pub calls_follow : Calls Followed
  calls_follow = record {
    act = λ serving course line act moment f.
        goes_on serving serving (course ++ acts act ∷ []) line.identifier line.handling (phoned line act moment)
        (follow_both first course (acts act ∷ []) f.follow tt) (followed_both first course (acts act ∷ []) ∙ sym f.latest)
        (follows_the_latest.act line act moment);
    request = λ course line request moment f.
        goes_on true true (course ++ accepts request ∷ []) request.identifier request.handling (asked line request moment)
        (follow_both first course (accepts request ∷ []) f.follow tt) (followed_both first course (accepts request ∷ []))
        (follows_the_latest.request line request moment);
    answering = λ serving course line moment f.
        goes_on serving serving course line.identifier line.handling (answered line moment) f.follow (sym f.latest) (follows_the_latest.answering line moment);
    serving = λ course line moment f.
        goes_on false true course line.identifier line.handling (opened line moment) f.follow (sym f.latest) (follows_the_latest.serving line moment);
    firing = λ serving course line at due moment is f.
        goes_on serving serving course line.identifier line.handling (fired line due moment) f.follow (sym f.latest) (follows_the_latest.firing line due moment);
  }

-- Once for each request

-- it notified since the latest request
abbrev pub has_notified : Bool → List CourseStep → Bool
has_notified notified [] = notified
has_notified notified (acts act ∷ course) = has_notified notified course
has_notified notified (accepts request ∷ course) = has_notified false course
has_notified notified (notifies identifier observed ∷ course) = has_notified true course

notified_both : (notified : Bool) (some more : List CourseStep) → has_notified notified (some ++ more) ≡ has_notified (has_notified notified some) more
notified_both notified [] more = refl
notified_both notified (acts act ∷ some) more = notified_both notified some more
notified_both notified (accepts request ∷ some) more = notified_both false some more
notified_both notified (notifies identifier observed ∷ some) more = notified_both true some more

once_both : (notified : Bool) (some more : List CourseStep) → OnceFrom notified some → OnceFrom (has_notified notified some) more → OnceFrom notified (some ++ more)
once_both notified [] more one two = two
once_both notified (acts act ∷ some) more one two = once_both notified some more one two
once_both notified (accepts request ∷ some) more one two = once_both false some more one two
once_both notified (notifies identifier observed ∷ some) more one two = (one.0, once_both true some more one.1 two)

in_step_front : (some more : List CourseStep) → AreInStep (some ++ more) → AreInStep some
in_step_front [] more all = tt
in_step_front (acts act ∷ some) more all = in_step_front some more all
in_step_front (accepts request ∷ some) more all = (all.0, in_step_front some more all.1)
in_step_front (notifies identifier observed ∷ some) more all = in_step_front some more all

in_step_back : (some more : List CourseStep) → AreInStep (some ++ more) → AreInStep more
in_step_back [] more all = all
in_step_back (acts act ∷ some) more all = in_step_back some more all
in_step_back (accepts request ∷ some) more all = in_step_back some more all.1
in_step_back (notifies identifier observed ∷ some) more all = in_step_back some more all

-- a line that notified since the latest request rests, and so it does before the gateway serves
pub record Once (serving : Bool) (course : List CourseStep) (line : LineState) : Type 0 where
  pub once : OnceFrom false course
  pub step : line.handling.notifying ≡ InStep
  pub rested : has_notified false course ≡ true → IsResting line
  pub closed : serving ≡ false → IsResting line × (has_notified false course ≡ false)

abbrev pub OnceInStep : Bool → List CourseStep → LineState → Type 0
OnceInStep serving course line = AreInStep course → Once serving course line

-- what rests tells nothing
silent_once : (serving : Bool) (course : List CourseStep) (done : LineDone) → OnceFrom false course → StaysResting done → (serving ≡ false → has_notified false course ≡ false)
    → Once serving (course ++ steps_of done.notice) done.line
silent_once serving course done once rests closed =
    subst (λ (notice : Option Notice). Once serving (course ++ steps_of notice) done.line) (sym rests.silent)
    (subst (λ (c : List CourseStep). Once serving c done.line) (sym (append-nil course))
    (record { once = once; step = rests.line.step; rested = λ is. rests.line; closed = λ is. (rests.line, closed is) }))

-- what may tell something, where nothing was told since the latest request
told_once : (course : List CourseStep) (done : LineDone) (notice : Option Notice) → OnceFrom false course → has_notified false course ≡ false → done.line.handling.notifying ≡ InStep
    → IfSome notice (λ n. IsResting done.line) → Once true (course ++ steps_of notice) done.line
told_once course done None once not step rests =
    subst (λ (c : List CourseStep). Once true c done.line) (sym (append-nil course)) (record {
      once = once;
      step = step;
      rested = λ is. absurd (let clash : false ≡ true = sym not ∙ is in cc);
      closed = λ is. absurd cc;
    })
told_once course done (Some notice) once not step rests = record {
  once = once_both false course (notifies notice.identifier notice.observed ∷ []) once (not, tt);
  step = step;
  rested = λ is. rests;
  closed = λ is. absurd cc;
}

-- either it rests, or it tells as it may
either_once : (serving : Bool) (course : List CourseStep) (line : LineState) (done : LineDone) → Once serving course line → done.line.handling.notifying ≡ InStep
    → (IsResting line → StaysResting done) → IfSome done.notice (λ n. IsResting done.line) → Once serving (course ++ steps_of done.notice) done.line
either_once false course line done o step rests told = silent_once false course done o.once (rests (o.closed refl).0) (λ is. (o.closed refl).1)
either_once true course line done o step rests told = by_notified (has_notified false course) refl where
  by_notified : (b : Bool) → has_notified false course ≡ b → Once true (course ++ steps_of done.notice) done.line
  by_notified true is = silent_once true course done o.once (rests (o.rested is)) (λ no. absurd cc)
  by_notified false is = told_once course done done.notice o.once is step told

acted_once : (serving : Bool) (course : List CourseStep) (line : LineState) (act : Act) → Once serving course line → Once serving (course ++ acts act ∷ []) line
acted_once serving course line act o = record {
  once = once_both false course (acts act ∷ []) o.once tt;
  step = o.step;
  rested = λ is. o.rested (sym (notified_both false course (acts act ∷ [])) ∙ is);
  closed = λ no. let both = o.closed no in (both.0, notified_both false course (acts act ∷ []) ∙ both.1);
}

handled_step : (identifier : List ℕ) (handling : Handling) (done : LineDone) → Follows identifier handling done → handling.notifying ≡ InStep → done.line.handling.notifying ≡ InStep
handled_step identifier handling done follows step = ap (λ (h : Handling). h.notifying) follows.handling_is ∙ step

pub calls_once : Calls OnceInStep
calls_once = record {
  act = λ serving course line act moment f all.
      let front = in_step_front (course ++ acts act ∷ []) (steps_of (phoned line act moment).notice) all in
      let o = acted_once serving course line act (f (in_step_front course (acts act ∷ []) front)) in
      either_once serving (course ++ acts act ∷ []) line (phoned line act moment) o
      (handled_step line.identifier line.handling (phoned line act moment) (follows_the_latest.act line act moment) o.step)
      (rests_until_asked.act line act moment) (rests_once_notified.act line act moment o.step);
  request = λ course line request moment f all.
      let front = in_step_front (course ++ accepts request ∷ []) (steps_of (asked line request moment).notice) all in
      let o = f (in_step_front course (accepts request ∷ []) front) in
      let step = (in_step_back course (accepts request ∷ []) front).0 in
      told_once (course ++ accepts request ∷ []) (asked line request moment) (asked line request moment).notice
      (once_both false course (accepts request ∷ []) o.once tt) (notified_both false course (accepts request ∷ []))
      (handled_step request.identifier request.handling (asked line request moment) (follows_the_latest.request line request moment) step)
      (rests_once_notified.request line request moment step);
  answering = λ serving course line moment f all.
      let o = f (in_step_front course (steps_of (answered line moment).notice) all) in
      either_once serving course line (answered line moment) o
      (handled_step line.identifier line.handling (answered line moment) (follows_the_latest.answering line moment) o.step)
      (rests_until_asked.answering line moment) (rests_once_notified.answering line moment o.step);
  serving = λ course line moment f all.
      let o = f (in_step_front course (steps_of (opened line moment).notice) all) in
      told_once course (opened line moment) (opened line moment).notice o.once (o.closed refl).1
      (handled_step line.identifier line.handling (opened line moment) (follows_the_latest.serving line moment) o.step)
      (rests_once_notified.serving line moment o.step);
  firing = λ serving course line at due moment is f all.
      let o = f (in_step_front course (steps_of (fired line due moment).notice) all) in
      either_once serving course line (fired line due moment) o
      (handled_step line.identifier line.handling (fired line due moment) (follows_the_latest.firing line due moment) o.step)
      (rests_until_asked.firing line due moment) (rests_once_notified.firing line due moment o.step);
}

pub opening_once : OnceInStep false [] opening_line
opening_once = λ all.
    let resting : IsResting opening_line = record { step = refl; waits = tt; renewed = refl } in
    record { once = tt; step = refl; rested = λ is. absurd cc; closed = λ no. (resting, refl) }

-- Until the telephone does something

pub done_both : (some more : List CourseStep) → done_in (some ++ more) ≡ done_in some ++ done_in more
done_both some more = flat_map-append done_at some more

pub told_both : (some more : List CourseStep) → told_along (some ++ more) ≡ told_along some ++ told_along more
told_both some more = flat_map-append told_at some more

latest_both : (latest : Option Request) (some more : List CourseStep) → latest_from latest (some ++ more) ≡ latest_from (latest_from latest some) more
latest_both latest [] more = refl
latest_both latest (acts act ∷ some) more = latest_both latest some more
latest_both latest (accepts request ∷ some) more = latest_both (Some request) some more
latest_both latest (notifies identifier observed ∷ some) more = latest_both latest some more

pub none_done : (notice : Option Notice) → done_in (steps_of notice) ≡ []
none_done None = refl
none_done (Some notice) = refl

pub told_is : (notice : Option Notice) → told_along (steps_of notice) ≡ told_of notice
told_is None = refl
told_is (Some notice) = append-nil notice.observed

latest_stays : (latest : Option Request) (notice : Option Notice) → latest_from latest (steps_of notice) ≡ latest
latest_stays latest None = refl
latest_stays latest (Some notice) = refl

front_none : (some more : List Observed) → some ++ more ≡ [] → some ≡ []
front_none [] more e = refl
front_none (x ∷ some) more e = absurd cc

-- before any act nothing of a telephone is kept, and a line that is asked for all keeps all
pub record Begins (course : List CourseStep) (line : LineState) : Type 0 where
  pub untouched : IsUntouched line
  pub told : happened_in (told_along course) ≡ []
  pub keeps : AsksIfAny (latest_from None course) → KeepsAll line

abbrev pub BeginsUntouched : Bool → List CourseStep → LineState → Type 0
BeginsUntouched serving course line = done_in course ≡ [] → Begins course line

-- nothing more is told of it
pub told_none : (course : List CourseStep) (notice : Option Notice) → happened_in (told_along course) ≡ [] → happened_in (told_of notice) ≡ []
    → happened_in (told_along (course ++ steps_of notice)) ≡ []
told_none course notice before now =
    ap happened_in (told_both course (steps_of notice)) ∙ ap (λ (x : List Observed). happened_in (told_along course ++ x)) (told_is notice)
    ∙ happened_both (told_along course) (told_of notice) ∙ ap (λ (x : List Observed). x ++ happened_in (told_of notice)) before ∙ now

-- nothing was done before, where nothing was done up to what is told then
none_before : (course : List CourseStep) (notice : Option Notice) → done_in (course ++ steps_of notice) ≡ [] → done_in course ≡ []
none_before course notice none = front_none (done_in course) (done_in (steps_of notice)) (sym (done_both course (steps_of notice)) ∙ none)

-- a call that isn't an act or a request
other_begins : (course : List CourseStep) (line : LineState) (done : LineDone) → Begins course line → StaysUntouched done → (KeepsAll line → KeepsAll done.line)
    → Begins (course ++ steps_of done.notice) done.line
other_begins course line done b stays keeps =
    let latest = latest_both None course (steps_of done.notice) ∙ latest_stays (latest_from None course) done.notice in
    record {
      untouched = stays.line;
      told = told_none course done.notice b.told stays.told;
      keeps = λ asks. keeps (b.keeps (subst AsksIfAny latest asks));
    }

request_begins : (course : List CourseStep) (line : LineState) (request : Request) (moment : ℕ) → Begins course line
    → Begins ((course ++ accepts request ∷ []) ++ steps_of (asked line request moment).notice) (asked line request moment).line
request_begins course line request moment b =
    let done : LineDone = asked line request moment in
    let front : List CourseStep = course ++ accepts request ∷ [] in
    let latest : latest_from None (front ++ steps_of done.notice) ≡ Some request =
    latest_both None front (steps_of done.notice) ∙ latest_stays (latest_from None front) done.notice ∙ latest_both None course (accepts request ∷ []) in
    let stays = nothing_is_made_up.request line request moment b.untouched in
    record {
      untouched = stays.line;
      told = told_none front done.notice (ap happened_in (told_both course (accepts request ∷ []) ∙ append-nil (told_along course)) ∙ b.told) stays.told;
      keeps = λ asks. (nothing_is_made_up.begins line request moment (subst AsksIfAny latest asks) b.untouched).keeps;
    }

pub calls_begin : Calls BeginsUntouched
calls_begin = record {
  act = λ serving course line act moment b none.
      absurd (acted_some (done_in course) (observed_at act)
      (sym (done_both course (acts act ∷ [])) ∙ none_before (course ++ acts act ∷ []) (phoned line act moment).notice none));
  request = λ course line request moment b none.
      let front = none_before (course ++ accepts request ∷ []) (asked line request moment).notice none in
      request_begins course line request moment (b (front_none (done_in course) [] (sym (done_both course (accepts request ∷ [])) ∙ front)));
  answering = λ serving course line moment b none.
      let before = b (none_before course (answered line moment).notice none) in
      other_begins course line (answered line moment) before (nothing_is_made_up.answering line moment before.untouched)
      (λ k. (nothing_is_skipped.answering line moment k).keeps);
  serving = λ course line moment b none.
      let before = b (none_before course (opened line moment).notice none) in
      other_begins course line (opened line moment) before (nothing_is_made_up.serving line moment before.untouched)
      (λ k. (nothing_is_skipped.serving line moment k).keeps);
  firing = λ serving course line at due moment is b none.
      let before = b (none_before course (fired line due moment).notice none) in
      other_begins course line (fired line due moment) before (nothing_is_made_up.firing line at due moment before.untouched is)
      (λ k. (nothing_is_skipped.firing line at due moment k is).keeps);
} where
  acted_some : (some : List Observed) (event : Observed) → some ++ event ∷ [] ≡ [] → ⊥
  acted_some [] event e = cc
  acted_some (x ∷ some) event e = cc

pub opening_begins : BeginsUntouched false [] opening_line
opening_begins = λ none. record { untouched = record { untimed = refl; accumulated = refl; quarantined = refl }; told = refl; keeps = λ asks. absurd asks }

-- the count of what is lost

pub calls_count : Calls (λ serving course line. IsCounted line)
calls_count = record {
  act = λ serving course line act moment few. acts_count line act moment few;
  request = λ course line request moment few. subst (λ (n : ℕ). n ≤ most_lost) (sym (lost_only_grows.request line request moment)) few;
  answering = λ serving course line moment few. subst (λ (n : ℕ). n ≤ most_lost) (sym (lost_only_grows.answering line moment)) few;
  serving = λ course line moment few. subst (λ (n : ℕ). n ≤ most_lost) (sym (lost_only_grows.serving line moment)) few;
  firing = λ serving course line at due moment is few. fires_count line due moment few;
}

-- And from then on

pub ask_front : (some more : List CourseStep) → AskForAll (some ++ more) → AskForAll some
ask_front [] more all = tt
ask_front (acts act ∷ some) more all = ask_front some more all
ask_front (accepts request ∷ some) more all = (all.0, ask_front some more all.1)
ask_front (notifies identifier observed ∷ some) more all = ask_front some more all

pub ask_back : (some more : List CourseStep) → AskForAll (some ++ more) → AskForAll more
ask_back [] more all = all
ask_back (acts act ∷ some) more all = ask_back some more all
ask_back (accepts request ∷ some) more all = ask_back some more all.1
ask_back (notifies identifier observed ∷ some) more all = ask_back some more all

-- all that was done is told or kept, as long as nothing is lost
pub record ToldOnce (course : List CourseStep) (line : LineState) : Type 0 where
  pub keeps : KeepsAll line
  pub whole : done_in course ≡ happened_in (told_along course) ++ happened_in line.quarantined.events

pub record Told (serving : Bool) (course : List CourseStep) (line : LineState) : Type 0 where
  pub counted : line.quarantined.lost ≤ most_lost
  pub once : AskForAll course → line.quarantined.lost ≡ 0 → ToldOnce course line

pub grown : (done told held new now left : List Observed) → done ≡ happened_in told ++ held → happened_in now ++ left ≡ held ++ new
    → done ++ new ≡ happened_in (told ++ now) ++ left
grown done told held new now left whole conserves =
    ap (λ (x : List Observed). x ++ new) whole ∙ append_assoc (happened_in told) held new ∙ ap (λ (x : List Observed). happened_in told ++ x) (sym conserves)
    ∙ sym (append_assoc (happened_in told) (happened_in now) left) ∙ ap (λ (x : List Observed). x ++ left) (sym (happened_both told now))

-- a call with what is new in the course, and in what was done
told_goes : (course step : List CourseStep) (line : LineState) (done : LineDone) (new : List Observed) → ToldOnce course line → Conserves line new done
    → done_in step ≡ new → told_along step ≡ [] → ToldOnce ((course ++ step) ++ steps_of done.notice) done.line
told_goes course step line done new t conserves does tells = record {
  keeps = conserves.keeps;
  whole = done_both (course ++ step) (steps_of done.notice) ∙ ap (λ (x : List Observed). done_in (course ++ step) ++ x) (none_done done.notice) ∙ append-nil (done_in (course ++ step))
      ∙ done_both course step ∙ ap (λ (x : List Observed). done_in course ++ x) does
      ∙ grown (done_in course) (told_along course) (happened_in line.quarantined.events) new (told_of done.notice) (happened_in done.line.quarantined.events) t.whole conserves.whole
      ∙ ap (λ (x : List Observed). happened_in x ++ happened_in done.line.quarantined.events)
      (sym (told_both (course ++ step) (steps_of done.notice) ∙ ap (λ (x : List Observed). told_along (course ++ step) ++ x) (told_is done.notice)
      ∙ ap (λ (x : List Observed). x ++ told_of done.notice) (told_both course step ∙ ap (λ (x : List Observed). told_along course ++ x) tells ∙ append-nil (told_along course))));
}

told_plain : (course : List CourseStep) (line : LineState) (done : LineDone) → ToldOnce course line → Conserves line [] done → ToldOnce (course ++ steps_of done.notice) done.line
told_plain course line done t conserves =
    subst (λ (c : List CourseStep). ToldOnce (c ++ steps_of done.notice) done.line) (append-nil course) (told_goes course [] line done [] t conserves refl refl)

pub calls_told : Calls Told
calls_told = record {
  act = λ serving course line act moment f. record {
    counted = acts_count line act moment f.counted;
    once = λ all none.
        let front = ask_front (course ++ acts act ∷ []) (steps_of (phoned line act moment).notice) all in
        let grows = (lost_only_grows.act line act moment).grows f.counted in
        let t = f.once (ask_front course (acts act ∷ []) front) (omega (arith, grows, none)) in
        told_goes course (acts act ∷ []) line (phoned line act moment) (observed_at act ∷ []) t (nothing_is_skipped.act line act moment t.keeps none) refl refl;
  };
  request = λ course line request moment f. record {
    counted = subst (λ (n : ℕ). n ≤ most_lost) (sym (lost_only_grows.request line request moment)) f.counted;
    once = λ all none.
        let front = ask_front (course ++ accepts request ∷ []) (steps_of (asked line request moment).notice) all in
        let t = f.once (ask_front course (accepts request ∷ []) front) (sym (lost_only_grows.request line request moment) ∙ none) in
        told_goes course (accepts request ∷ []) line (asked line request moment) [] t
        (nothing_is_skipped.request line request moment (ask_back course (accepts request ∷ []) front).0 t.keeps) refl refl;
  };
  answering = λ serving course line moment f. record {
    counted = subst (λ (n : ℕ). n ≤ most_lost) (sym (lost_only_grows.answering line moment)) f.counted;
    once = λ all none.
        let t = f.once (ask_front course (steps_of (answered line moment).notice) all) (sym (lost_only_grows.answering line moment) ∙ none) in
        told_plain course line (answered line moment) t (nothing_is_skipped.answering line moment t.keeps);
  };
  serving = λ course line moment f. record {
    counted = subst (λ (n : ℕ). n ≤ most_lost) (sym (lost_only_grows.serving line moment)) f.counted;
    once = λ all none.
        let t = f.once (ask_front course (steps_of (opened line moment).notice) all) (sym (lost_only_grows.serving line moment) ∙ none) in
        told_plain course line (opened line moment) t (nothing_is_skipped.serving line moment t.keeps);
  };
  firing = λ serving course line at due moment is f. record {
    counted = fires_count line due moment f.counted;
    once = λ all none.
        let grows = (lost_only_grows.firing line due moment).grows f.counted in
        let t = f.once (ask_front course (steps_of (fired line due moment).notice) all) (omega (arith, grows, none)) in
        told_plain course line (fired line due moment) t (nothing_is_skipped.firing line at due moment t.keeps is);
  };
}

-- and so it begins
pub told_from : (serving : Bool) (line : LineState) → IsUntouched line → KeepsAll line → line.quarantined.lost ≤ most_lost → Told serving [] line
told_from serving line untouched keeps counted =
    record { counted = counted; once = λ all none. record { keeps = keeps; whole = sym untouched.quarantined } }
