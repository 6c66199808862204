-- What an event does that occurs: it is ignored, or collected, and then all are told, or none; or R embeds a request at it.
use Rattle.std.proofs.Common.{◌≡◌, ℕ, Bool, true, false, List, [], ◌∷◌, ◌++◌, Option, Some, None, refl, sym, ap, ◌∙◌, inl, inr, ◌⊎◌, append_assoc, append-nil}
use Rattle.std.specs.Prelude.{filter, ◌&&◌, nat_le, length, if◌then◌else◌}
use Rattle.std.specs.List.{list_all}
use Rattle.std.proofs.lemmas.Bool.{and_parts}
use Rattle.std.proofs.lemmas.List.Elements.{filter-append}
use Rattle.mg_bytes.specs.declared.letter.Letter.{Letter}
use Rattle.digit_map.specs.declared.verdict.Verdict.{Verdict}
use Rattle.digit_map.specs.declared.verdict.Verdict.TheVariants.{Perfect, Partial, Impossible}
use Rattle.packages.specs.declared.handling.Handling.{Handling}
use Rattle.packages.specs.declared.observed.Observed.{Observed}
use Rattle.event_syntax.specs.declared.request.Action.TheVariants.{Notify, Accumulate, Dial, Ignore}
use Rattle.event_syntax.specs.declared.request.EmbeddedRequest.{EmbeddedRequest}
use Rattle.event_syntax.specs.declared.request.Reaction.{Reaction}
use Rattle.event_syntax.specs.declared.request.Reaction.TheVariants.{Plain, Embed, AccumulateAndEmbed}
use Rattle.events_and_signals.specs.Choice.{Chosen, chosen}
use Rattle.events_and_signals.specs.Naming.{event_of}
use Rattle.events_and_signals.specs.Requests.{EventRequests, with_embedded}
use Rattle.mg_line.specs.State.TheVariants.{Notification}
use Rattle.mg_line.specs.Line.{LineState, Notice, LineDone, still, most_accumulated}
use Rattle.mg_line.specs.Occurring.{notified, notified_if_full, with_event, letter_of, verdict_by, judged, timed, with_letter, dialled_by, embedded, acted, signals_after, occurred}
use Rattle.world_laws.specs.Keeping.{is_bare}
use Rattle.world_laws.specs.Rounds.{is_of_telephone, of_telephone}
use Rattle.told_laws.specs.Walking.{is_collected, is_quiet, reaction_to, collects, are_quiet, quiet_before, quiet_but_last}

-- What an event does that occurs

pub record GathersAll (all : List Observed) (done : LineDone) : Type 0 where
  pub silent : done.notice ≡ None
  pub gathered : done.line.accumulated ≡ all

pub record TellsAll (all : List Observed) (done : LineDone) : Type 0 where
  pub notice : Notice
  pub tells : done.notice ≡ Some notice
  pub told : notice.observed ≡ all
  pub none_left : done.line.accumulated ≡ []
  pub awaits : done.line.state ≡ Notification
  pub fresh : done.line.renewed ≡ false

abbrev pub Collects : List Observed → LineDone → Type 0
Collects all done = GathersAll all done ⊎ TellsAll all done

-- R, T and Q stay
abbrev pub Same : LineState → LineState → Type 0
Same one other = (one.requests ≡ other.requests) × (one.handling ≡ other.handling)

-- it does nothing; or it is collected, and told at once, or not; or a request is embedded at it
pub record Ignoring (reaction : Reaction) (requests : EventRequests) (handling : Handling) (acc : List Observed) (done : LineDone) : Type 0 where
  pub gathers : GathersAll acc done
  pub uncollected : is_collected reaction ≡ false
  pub quiet : is_quiet reaction ≡ true
  pub same : (done.line.requests ≡ requests) × (done.line.handling ≡ handling)

pub record Taking (reaction : Reaction) (requests : EventRequests) (handling : Handling) (all : List Observed) (done : LineDone) : Type 0 where
  pub collected : is_collected reaction ≡ true
  pub bare : is_bare reaction ≡ true
  pub how : ((is_quiet reaction ≡ true) × GathersAll all done) ⊎ TellsAll all done
  pub same : (done.line.requests ≡ requests) × (done.line.handling ≡ handling)

pub record Turning (reaction : Reaction) (requests : EventRequests) (handling : Handling) (all : List Observed) (done : LineDone) : Type 0 where
  pub request : EmbeddedRequest
  pub asks : done.line.requests ≡ with_embedded requests request
  pub handled : done.line.handling ≡ handling
  pub how : ((reaction ≡ Embed request) × GathersAll [] done) ⊎ ((reaction ≡ AccumulateAndEmbed request) × Collects all done)

-- the same on a line
abbrev pub Ignores : Reaction → LineState → LineDone → Type 0
Ignores reaction line done = Ignoring reaction line.requests line.handling line.accumulated done

abbrev pub Takes : Reaction → LineState → Observed → LineDone → Type 0
Takes reaction line event done = Taking reaction line.requests line.handling (line.accumulated ++ event ∷ []) done

abbrev pub Turns : Reaction → LineState → Observed → LineDone → Type 0
Turns reaction line event done = Turning reaction line.requests line.handling (line.accumulated ++ event ∷ []) done

abbrev pub OccursBy : Reaction → LineState → Observed → LineDone → Type 0
OccursBy reaction line event done = Ignores reaction line done ⊎ (Takes reaction line event done ⊎ Turns reaction line event done)

pub full_by : (all : List Observed) (b : Bool) (one other : LineDone) → TellsAll all one → GathersAll all other → Collects all (if b then one else other)
full_by all true one other tells gathers = inr tells
full_by all false one other tells gathers = inl gathers

pub notified_tells : (line : LineState) → TellsAll line.accumulated (notified line)
unfolding notified
notified_tells line =
    record {
      notice = record { identifier = line.identifier; observed = line.accumulated };
      tells = refl;
      told = refl;
      none_left = refl;
      awaits = refl;
      fresh = refl;
    }

pub full_collects : (line : LineState) → Collects line.accumulated (notified_if_full line)
unfolding notified_if_full
full_collects line =
    full_by line.accumulated (nat_le most_accumulated (length line.accumulated)) (notified line) (still line) (notified_tells line)
    (record { silent = refl; gathered = refl })

pub timed_collects : (line : LineState) (letter : Letter) (moment : ℕ) → Collects line.accumulated (notified_if_full (timed line letter moment))
unfolding timed
timed_collects line letter moment = full_collects (timed line letter moment)

pub judged_collects : (verdict : Verdict) (line : LineState) (letter : Letter) (moment : ℕ) → Collects line.accumulated (judged verdict line letter moment)
judged_collects Perfect line letter moment = inr (notified_tells line)
judged_collects Impossible line letter moment = inr (notified_tells line)
judged_collects Partial line letter moment = timed_collects line letter moment

pub dialled_collects : (letter : Option Letter) (line : LineState) (moment : ℕ) → Collects line.accumulated (dialled_by letter line moment)
unfolding with_letter
dialled_collects None line moment = full_collects line
dialled_collects (Some letter) line moment =
    judged_collects (verdict_by line.digit_map (line.dialled ++ letter ∷ [])) (record line { dialled = line.dialled ++ letter ∷ [] }) letter moment

pub either_same : (line : LineState) (b : Bool) (one other : LineDone) → Same one.line line → Same other.line line → Same (if b then one else other).line line
either_same line true one other h k = h
either_same line false one other h k = k

pub full_same : (line : LineState) → Same (notified_if_full line).line line
unfolding notified_if_full notified
full_same line = either_same line (nat_le most_accumulated (length line.accumulated)) (notified line) (still line) (refl, refl) (refl, refl)

pub judged_same : (verdict : Verdict) (line : LineState) (letter : Letter) (moment : ℕ) → Same (judged verdict line letter moment).line line
unfolding notified timed
judged_same Perfect line letter moment = (refl, refl)
judged_same Impossible line letter moment = (refl, refl)
judged_same Partial line letter moment = full_same (timed line letter moment)

pub dialled_same : (letter : Option Letter) (line : LineState) (moment : ℕ) → Same (dialled_by letter line moment).line line
unfolding with_letter
dialled_same None line moment = full_same line
dialled_same (Some letter) line moment =
    judged_same (verdict_by line.digit_map (line.dialled ++ letter ∷ [])) (record line { dialled = line.dialled ++ letter ∷ [] }) letter moment

quiet_bare : (reaction : Reaction) → is_quiet reaction ≡ true → is_bare reaction ≡ true
quiet_bare (Plain action) quiet = refl
quiet_bare (Embed request) quiet = absurd cc
quiet_bare (AccumulateAndEmbed request) quiet = absurd cc

takes_quiet : (reaction : Reaction) (line : LineState) (event : Observed) (done : LineDone) → is_collected reaction ≡ true → is_quiet reaction ≡ true
    → Same done.line line → Collects (line.accumulated ++ event ∷ []) done → Takes reaction line event done
takes_quiet reaction line event done collected quiet same (inl gathers) = record { collected = collected; bare = quiet_bare reaction quiet; how = inl (quiet, gathers); same = same }
takes_quiet reaction line event done collected quiet same (inr tells) = record { collected = collected; bare = quiet_bare reaction quiet; how = inr tells; same = same }

acted_occurs : (reaction : Reaction) (line : LineState) (event : Observed) (moment : ℕ) → OccursBy reaction line event (acted reaction line event moment)
unfolding acted notified embedded
acted_occurs (Plain Ignore) line event moment =
    inl (record { gathers = record { silent = refl; gathered = refl }; uncollected = refl; quiet = refl; same = (refl, refl) })
acted_occurs (Plain Notify) line event moment =
    inr (inl (record { collected = refl; bare = refl; how = inr (notified_tells (with_event line event)); same = (refl, refl) }))
acted_occurs (Plain Accumulate) line event moment =
    let to : LineState = with_event line event in
    inr (inl (takes_quiet (Plain Accumulate) line event (notified_if_full to) refl refl (full_same to) (full_collects to)))
acted_occurs (Plain Dial) line event moment =
    let to : LineState = with_event line event in
    let letter = letter_of (event_of event) in
    inr (inl (takes_quiet (Plain Dial) line event (dialled_by letter to moment) refl refl (dialled_same letter to moment) (dialled_collects letter to moment)))
acted_occurs (Embed request) line event moment =
    inr (inr (record { request = request; asks = refl; handled = refl; how = inl (refl, record { silent = refl; gathered = refl }) }))
acted_occurs (AccumulateAndEmbed request) line event moment =
    let to : LineState = embedded (with_event line event) request moment in
    inr (inr (record { request = request; asks = (full_same to).0; handled = (full_same to).1; how = inr (refl, full_collects to) }))

pub occurred_occurs : (line : LineState) (event : Observed) (moment : ℕ) → OccursBy (reaction_to line.requests event) line event (occurred line event moment)
unfolding occurred
occurred_occurs line event moment =
    let choice : Chosen = chosen line.requests.requested (event_of event) in
    acted_occurs choice.reaction (signals_after choice line) event moment

-- Lists, with one event more, where that is a telephone's

abbrev pub with_one : List Observed → Observed → List Observed
with_one list event = if is_of_telephone event then list ++ event ∷ [] else list

abbrev pub one_if : Bool → Observed → List Observed
one_if b event = if b then event ∷ [] else []

pub phone_more : (acc : List Observed) (event : Observed) → of_telephone (acc ++ event ∷ []) ≡ of_telephone acc ++ one_if (is_of_telephone event) event
phone_more acc event = filter-append is_of_telephone acc (event ∷ [])

pub collected_by : (requests : EventRequests) (occurred_list : List Observed) (event : Observed) (b : Bool) → collects requests event ≡ true
    → filter (collects requests) (if b then occurred_list ++ event ∷ [] else occurred_list) ≡ filter (collects requests) occurred_list ++ one_if b event
collected_by requests list event true is =
    filter-append (collects requests) list (event ∷ [])
    ∙ ap (λ (b : Bool). filter (collects requests) list ++ (if b then event ∷ [] else [])) is
collected_by requests list event false is = sym (append-nil (filter (collects requests) list))

pub ignored_by : (requests : EventRequests) (list : List Observed) (event : Observed) (b : Bool) → collects requests event ≡ false
    → filter (collects requests) (if b then list ++ event ∷ [] else list) ≡ filter (collects requests) list
ignored_by requests list event true is =
    filter-append (collects requests) list (event ∷ [])
    ∙ ap (λ (b : Bool). filter (collects requests) list ++ (if b then event ∷ [] else [])) is
    ∙ append-nil (filter (collects requests) list)
ignored_by requests list event false is = refl

-- a quiet one more
all_more : (test : Observed → Bool) (list : List Observed) (event : Observed) → list_all test list ≡ true → test event ≡ true → list_all test (list ++ event ∷ []) ≡ true
all_more test [] event all is = ap (λ (b : Bool). b && true) is
all_more test (one ∷ list) event all is =
    let parts = and_parts (test one) (list_all test list) all in
    ap (λ (b : Bool). b && list_all test (list ++ event ∷ [])) parts.0 ∙ all_more test list event parts.1 is

pub quiet_by : (requests : EventRequests) (list : List Observed) (event : Observed) (b : Bool) → are_quiet requests list ≡ true
    → is_quiet (reaction_to requests event) ≡ true → are_quiet requests (if b then list ++ event ∷ [] else list) ≡ true
quiet_by requests list event true quiet is = all_more (λ (one : Observed). is_quiet (reaction_to requests one)) list event quiet is
quiet_by requests list event false quiet is = quiet

-- and any one behind quiet ones is the last of them
quiet_next : (requests : EventRequests) (one : Observed) (list : List Observed) (event : Observed) → are_quiet requests (one ∷ list) ≡ true
    → is_bare (reaction_to requests event) ≡ true → quiet_before requests one (list ++ event ∷ []) ≡ true
quiet_next requests one [] event quiet bare =
    ap (λ (b : Bool). b && is_bare (reaction_to requests event)) (and_parts (is_quiet (reaction_to requests one)) true quiet).0 ∙ bare
quiet_next requests one (next ∷ list) event quiet bare =
    let parts = and_parts (is_quiet (reaction_to requests one)) (are_quiet requests (next ∷ list)) quiet in
    ap (λ (b : Bool). b && quiet_before requests next (list ++ event ∷ [])) parts.0 ∙ quiet_next requests next list event parts.1 bare

quiet_alone : (requests : EventRequests) (one : Observed) (list : List Observed) → are_quiet requests (one ∷ list) ≡ true
    → quiet_before requests one list ≡ true
quiet_alone requests one [] quiet = quiet_bare (reaction_to requests one) (and_parts (is_quiet (reaction_to requests one)) true quiet).0
quiet_alone requests one (next ∷ list) quiet =
    let parts = and_parts (is_quiet (reaction_to requests one)) (are_quiet requests (next ∷ list)) quiet in
    ap (λ (b : Bool). b && quiet_before requests next list) parts.0 ∙ quiet_alone requests next list parts.1

pub but_last_by : (requests : EventRequests) (list : List Observed) (event : Observed) (b : Bool) → are_quiet requests list ≡ true
    → is_bare (reaction_to requests event) ≡ true → quiet_but_last requests (if b then list ++ event ∷ [] else list) ≡ true
but_last_by requests [] event true quiet bare = bare
but_last_by requests [] event false quiet bare = refl
but_last_by requests (one ∷ list) event true quiet bare = quiet_next requests one list event quiet bare
but_last_by requests (one ∷ list) event false quiet bare = quiet_alone requests one list quiet

-- the order, as the next one occurs
pub next_by : (list : List Observed) (event : Observed) (rest : List Observed) (b : Bool)
    → list ++ (if b then event ∷ rest else rest) ≡ (if b then list ++ event ∷ [] else list) ++ rest
next_by list event rest true = sym (append_assoc list (event ∷ []) rest)
next_by list event rest false = refl

pub next_in : (list : List Observed) (event : Observed) (rest : List Observed) → list ++ of_telephone (event ∷ rest) ≡ with_one list event ++ of_telephone rest
next_in list event rest = next_by list event (of_telephone rest) (is_of_telephone event)

-- the event itself, where it is a telephone's
one_by : (list : List Observed) (event : Observed) (b : Bool) → list ++ (if b then event ∷ [] else []) ≡ (if b then list ++ event ∷ [] else list)
one_by list event true = refl
one_by list event false = append-nil list

pub one_more : (list : List Observed) (event : Observed) → list ++ of_telephone (event ∷ []) ≡ with_one list event
one_more list event = one_by list event (is_of_telephone event)

split_by : (event : Observed) (rest : List Observed) (b : Bool) → (if b then event ∷ rest else rest) ≡ (if b then event ∷ [] else []) ++ rest
split_by event rest true = refl
split_by event rest false = refl

pub split_one : (event : Observed) (rest : List Observed) → of_telephone (event ∷ rest) ≡ of_telephone (event ∷ []) ++ of_telephone rest
split_one event rest = split_by event (of_telephone rest) (is_of_telephone event)
