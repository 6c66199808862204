-- What is sent under a post: its commands, each under an id of its own, and again for less than 20,000 ms.
use Rattle.std.proofs.Common.{◌≡◌, ◌≢◌, ℕ, ◌+◌, ◌%◌, ◌<◌, ◌≤◌, Bool, true, false, ◌==◌, if◌then◌else◌, inl, inr, refl, arith, ◌-◌, ◌&&◌, List, [], ◌∷◌, ◌++◌, length, Option, Some, None, sym, ap, ◌∙◌, subst, append-nil, codes, ◌/◌}
use Rattle.std.proofs.lemmas.Bool.{eqb-true, and_from, eq-eqb, ne_eqb, cases_lt}
use Rattle.plain_machine.specs.declared.setup.Setup.{Setup}
use Rattle.plain_machine.specs.Setup.{firsts, IsSetUp, most_lines}
use Rattle.plain_machine.specs.Posting.{numbers, first_number, number_after, id_on, line_of_id, with_command, given_up, repeated_as, resent_by, resent_on}
use Rattle.machine_laws.specs.Numbering.{start_on, IsBehind, IsTaken, IsInTurn}
use Rattle.std.specs.Prelude.{AllPairs, IfSome, filter, option_map, ◌⊎◌}
use Rattle.std.specs.Option.{unwrap_or}
use Rattle.std.specs.Str.{bytes_eq}
use Rattle.std.proofs.lemmas.Slice.Eq.{bytes_eq-Decides}
use Rattle.std.proofs.lemmas.List.{length-append}
use Rattle.std.proofs.lemmas.List.Elements.{filter-append}
use Rattle.std.proofs.lemmas.List.Quantifiers.{all_pairs_push}
use Rattle.mgcp_text.specs.declared.message.Param.{Param}
use Rattle.mgcp_text.specs.declared.message.Verb.{Verb}
use Rattle.mgcp_text.specs.declared.message.Verb.TheVariants.{Rsip}
use Rattle.mgcp_text.specs.declared.message.Message.TheVariants as messages
use Rattle.mgcp_text.specs.Reading.{message, read_text}
use Rattle.mgcp_text.specs.Writing.{written, is_writable}
use Rattle.mgcp_text.proofs.RoundLaws.{read_again}
use Rattle.endpoint_names.specs.Name.{name_text}
use Rattle.retransmission.specs.declared.repeat.Repeat.{Repeat}
use Rattle.retransmission.specs.declared.repeat.Repeat.TheVariants.{Sent as SentAgain, GivenUp}
use Rattle.retransmission.specs.declared.reply.Reply.{Reply}
use Rattle.retransmission.specs.declared.reply.Reply.TheVariants.{Answered as AnsweredReply, Provisional, Stranger}
use Rattle.retransmission.specs.Sends.{sending_time}
use Rattle.retransmission.specs.Flight.{InFlight, sent_to, sent_first, repeat_of, repeated, reply_of, heard_as, heard}
use Rattle.retransmission.proofs.LifeLaws.{repeat_same, sent_later, sent_soon}
use Rattle.retransmission.specs.declared.restart.Restart.{Restart}
use Rattle.retransmission.specs.declared.restart.Restart.TheVariants.{Waiting, Announced, Serving}
use Rattle.retransmission.specs.declared.heard.Heard.{Heard}
use Rattle.retransmission.specs.declared.heard.Heard.TheVariants.{Nothing, PutOff, Redirected, Answered}
use Rattle.plain_machine.specs.declared.post.Post.{Post}
use Rattle.plain_machine.specs.declared.response.Response.{Response}
use Rattle.plain_machine.specs.Effect.{Effect, silently}
use Rattle.plain_machine.specs.Message.{Begun, own_of, resent, Sent, text_of}
use Rattle.plain_machine.specs.Announcing.{announced_lines, method_of, announcement, announced, announced_by, announced_on, put_off, replied}
use Rattle.machine_laws.proofs.FlightLaws.{next_below, line_of_its_id as line_is}
use Rattle.machine_laws.proofs.NotificationLemmas.{announcement_writable}
use Rattle.machine_laws.proofs.EachLemmas.{Each, EachAfter, all_from_each, each_after_push, each_both, each_push, each_weaker, one_before, one_behind, one_weaker}
use Rattle.machine_laws.proofs.LogTurns.{EffectKeeps, silent_keeps}
use Rattle.machine_laws.proofs.FlightLemmas.{IsSame}
use Rattle.retransmission.specs.Issued.{is_command_as}
use Rattle.machine_laws.specs.Saying.{Carries, OneOf, count_of}
use Rattle.small_rules.specs.Numbering.{first_at}
use Rattle.machine_laws.specs.Starting.{BeganUnder, longest_life, safe_time, shortest_life}

-- The numbers of a line's commands, in turn: from where they begin, and behind the greatest from the least on.

pub first_low : (line : ℕ) → first_number line ≤ 1
first_low line = by_test (line == 0) where
  by_test : (b : Bool) → (if b then 1 else 0) ≤ 1
  by_test true = omega arith
  by_test false = omega arith

pub start_below : (setup : Setup) (line : ℕ) → start_on setup line < numbers
start_below setup line = let low = first_low line in omega (arith, low)

none_more : (n : ℕ) → n + 0 ≡ n
none_more n = omega arith

-- a line that began nothing has its start next
pub begins_there : (setup : Setup) (line : ℕ) → 1 ≤ line → start_on setup line + 0 ≡ setup.first % firsts
begins_there setup line some = by_test (line == 0) refl where
  by_test : (b : Bool) → (line == 0) ≡ b → (if b then 1 else 0) + setup.first % firsts + 0 ≡ setup.first % firsts
  by_test true same = absurd (let none = eqb-true line 0 same in omega (arith, some, none))
  by_test false other = omega arith

pub own_begins_there : (setup : Setup) → start_on setup 0 + 0 ≡ 1 + setup.first % firsts
own_begins_there setup = none_more (1 + setup.first % firsts)

-- one more
pub behind_next : (line start count number : ℕ) → start < numbers → first_number line + (count + 1) < numbers → IsBehind line start count number
    → IsBehind line start (count + 1) (number_after line number)
behind_next line start count number low few behind = by_test (number + 1 == numbers) refl behind where
  by_test : (b : Bool) → (number + 1 == numbers) ≡ b → IsBehind line start count number → IsBehind line start (count + 1) (if b then first_number line else number + 1)
  by_test true e (inl one) = inr (let last = eqb-true (number + 1) numbers e in omega (arith, last, one))
  by_test true e (inr over) = absurd (let last = eqb-true (number + 1) numbers e in omega (arith, last, over, low, few))
  by_test false e (inl one) = inl (omega (arith, one))
  by_test false e (inr over) = inr (omega (arith, over))

pub taken_more : (line start count more id : ℕ) → count ≤ more → IsTaken line start count id → IsTaken line start more id
taken_more line start count more id all t = record { place = t.place; number = t.number; fewer = omega (arith, all, t.fewer); behind = t.behind; is = t.is }

-- while not all are used up the next is none of those
pub taken_apart : (line start count number id : ℕ) → first_number line + count < numbers → IsBehind line start count number → IsTaken line start count id → id ≢ id_on line number
taken_apart line start count number id few behind t = λ same. by_case t.behind behind (one_number t.is same) where
  one_number : id ≡ id_on line t.number → id ≡ id_on line number → t.number ≡ number
  one_number one two = omega (arith, one, two)

  by_case : IsBehind line start t.place t.number → IsBehind line start count number → t.number ≡ number → ⊥
  by_case (inl one) (inl two) same = omega (arith, one, two, same, t.fewer)
  by_case (inl one) (inr two) same = omega (arith, one, two, same, few)
  by_case (inr one) (inl two) same = omega (arith, one, two, same, few, t.fewer)
  by_case (inr one) (inr two) same = omega (arith, one, two, same, t.fewer)

-- a command of a gateway's own: it is read as a command with its id, and began by this moment
pub record WasBegun (until : ℕ) (one : Begun) : Type 0 where
  pub name : List ℕ
  pub reads : is_command_as one.id name (read_text one.text) ≡ true
  pub past : one.moment ≤ until

-- fewer than all numbers of a line are used up
abbrev pub Few : ℕ → List Begun → Type 0
Few line log = first_number line + count_of line log < numbers

abbrev pub AllFew : List Begun → Type 0
AllFew log = (line : ℕ) → Few line log

abbrev pub Apart : List Begun → Type 0
Apart log = AllPairs (λ (a b : Begun). a.id ≢ b.id) log

pub record Logged (setup : Setup) (until : ℕ) (log : List Begun) : Type 0 where
  pub begun : Each (WasBegun until) log
  pub apart : AllFew log → Apart log
  pub turns : AllFew log → EachAfter (IsInTurn setup) [] log

-- the command in flight is one that began
pub record InLog (until : ℕ) (log : List Begun) (flight : InFlight) : Type 0 where
  pub known : OneOf (IsSame flight) log
  pub later : flight.first ≤ flight.due
  pub past : flight.first ≤ until

-- if it is of this line, it is one of its first commands, of which there are so many
abbrev pub OneOfFirst : Setup → ℕ → ℕ → Begun → Type 0
OneOfFirst setup line count b = line_of_id b.id ≡ line → IsTaken line (start_on setup line) count b.id

-- the line's next number is the one behind the numbers of all that it began
pub record Counts (setup : Setup) (line number : ℕ) (log : List Begun) : Type 0 where
  pub behind : IsBehind line (start_on setup line) (count_of line log) number
  pub taken : Each (OneOfFirst setup line (count_of line log)) log

pub record Posted (setup : Setup) (until : ℕ) (log : List Begun) (line : ℕ) (post : Post) : Type 0 where
  pub below : post.number < numbers
  pub counts : Few line log → Counts setup line post.number log
  pub flight : IfSome post.pending (InLog until log)

pub record Own (until : ℕ) (log : List Begun) (sent : Sent) : Type 0 where
  pub carries : OneOf (Carries (text_of sent.said) sent.moment) log
  pub early : sent.moment ≤ until

-- a turn of a post keeps all that
abbrev pub PostGood : Setup → ℕ → List Begun → ℕ → Effect Post → Type 0
PostGood setup until log line turn = EffectKeeps (λ (x : List Begun). Posted setup until x line) (Own until) (Logged setup until) log line turn

-- Counting

pub count_both : (line : ℕ) (log more : List Begun) → count_of line (log ++ more) ≡ count_of line log + count_of line more
count_both line log more =
    ap (λ (x : List Begun). length x) (filter-append (λ (one : Begun). line_of_id one.id == line) log more)
    ∙ length-append (filter (λ (one : Begun). line_of_id one.id == line) log) (filter (λ (one : Begun). line_of_id one.id == line) more)

pub few_before : (line : ℕ) (log more : List Begun) → Few line (log ++ more) → Few line log
few_before line log more few = let both = count_both line log more in omega (arith, both, few)

pub count_one : (line : ℕ) (one : Begun) → line_of_id one.id ≡ line → count_of line (one ∷ []) ≡ 1
count_one line one is = rw (eq-eqb (line_of_id one.id) line is) refl

pub count_none : (line : ℕ) (new : List Begun) → Each (λ (b : Begun). line_of_id b.id ≢ line) new → count_of line new ≡ 0
count_none line [] all = refl
count_none line (b ∷ new) all = rw (ne_eqb (line_of_id b.id) line all.0) (count_none line new all.1)

-- A log that grows

known_on : (log new : List Begun) (flight : InFlight) → OneOf (IsSame flight) log → OneOf (IsSame flight) (log ++ new)
known_on log new flight known = one_before (IsSame flight) log new known

in_log_on : (until : ℕ) (log new : List Begun) (found : Option InFlight) → IfSome found (InLog until log) → IfSome found (InLog until (log ++ new))
in_log_on until log new None is = tt
in_log_on until log new (Some flight) is = record { known = known_on log new flight is.known; later = is.later; past = is.past }

-- so it counts, where so many of the log are the line's
counts_so : (setup : Setup) (line number count : ℕ) (log : List Begun) → count ≡ count_of line log → IsBehind line (start_on setup line) count number
    → Each (OneOfFirst setup line count) log → Counts setup line number log
counts_so setup line number count log same behind taken = record {
  behind = subst (λ (n : ℕ). IsBehind line (start_on setup line) n number) same behind;
  taken = subst (λ (n : ℕ). Each (OneOfFirst setup line n) log) same taken;
}

-- what other lines begin changes nothing
pub others_stay : (setup : Setup) (until : ℕ) (log new : List Begun) (line : ℕ) (post : Post) → Each (λ (b : Begun). line_of_id b.id ≢ line) new → Posted setup until log line post
    → Posted setup until (log ++ new) line post
others_stay setup until log new line post apart s = record {
  below = s.below;
  counts = λ few.
      let was = s.counts (few_before line log new few) in
      counts_so setup line post.number (count_of line log) (log ++ new) (sym as_many) was.behind
      (each_both (OneOfFirst setup line (count_of line log)) log new was.taken
      (each_weaker (λ (b : Begun). line_of_id b.id ≢ line) (OneOfFirst setup line (count_of line log)) (λ b other. λ same. absurd (other same)) new apart));
  flight = in_log_on until log new post.pending s.flight;
} where
  as_many : count_of line (log ++ new) ≡ count_of line log
  as_many = let both = count_both line log new in let none = count_none line new apart in omega (arith, both, none)

pub own_more : (until : ℕ) (log new : List Begun) (sent : Sent) → Own until log sent → Own until (log ++ new) sent
own_more until log new sent own = record { carries = one_before (Carries (text_of sent.said) sent.moment) log new own.carries; early = own.early }

-- A turn in which nothing begins and nothing is sent

pub post_still : (setup : Setup) (until : ℕ) (log : List Begun) (line : ℕ) (post : Post) → Logged setup until log → Posted setup until log line post → PostGood setup until log line (silently post)
post_still setup until log line post logged s = silent_keeps (λ (x : List Begun). Posted setup until x line) (Own until) (Logged setup until) log line post logged s

-- A command begins

pub same_command : (id : ℕ) (name : List ℕ) → (id == id && bytes_eq name name) ≡ true
same_command id name = and_from (id == id) (bytes_eq name name) (eq-eqb id id refl) ((bytes_eq-Decides name name).1 refl)

pub command_good : (setup : Setup) (until : ℕ) (log : List Begun) (line moment : ℕ) (post : Post) (verb : Verb) (name : List ℕ) (params : List Param) (body : List ℕ)
    → is_writable (messages.Command verb (id_on line post.number) name params body) ≡ true → moment ≤ until → Logged setup until log → Posted setup until log line post
    → PostGood setup until log line (with_command line moment post (messages.Command verb (id_on line post.number) name params body))
command_good setup until log line moment post verb name params body writable past logged s = record {
  log_holds = record {
    begun = each_push (WasBegun until) log b logged.begun
        (record { name = name; reads = ap (is_command_as id name) reads ∙ same_command id name; past = past });
    apart = λ few. all_pairs_push (λ (a c : Begun). a.id ≢ c.id) log b (logged.apart (λ i. few_before i log (b ∷ []) (few i)))
        (all_from_each (λ (a : Begun). a.id ≢ id) log
        (each_weaker (OneOfFirst setup line (count_of line log)) (λ (a : Begun). a.id ≢ id) (other (few_before line log (b ∷ []) (few line)))
        log (s.counts (few_before line log (b ∷ []) (few line))).taken));
    turns = λ few. each_after_push (IsInTurn setup) [] log b (logged.turns (λ i. few_before i log (b ∷ []) (few i)))
        (in_turn (s.counts (few_before line log (b ∷ []) (few line))).behind);
  };
  of = (of_line, tt);
  holds = record {
    below = next_below line post.number s.below;
    counts = λ few.
        let before = few_before line log (b ∷ []) few in
        let old = s.counts before in
        let total : count_of line (log ++ b ∷ []) ≡ count_of line log + 1 = count_both line log (b ∷ []) ∙ ap (λ (x : ℕ). count_of line log + x) (count_one line b of_line) in
        let left : first_number line + (count_of line log + 1) < numbers = (let f : first_number line + count_of line (log ++ b ∷ []) < numbers = few in omega (arith, f, total)) in
        counts_so setup line (number_after line post.number) (count_of line log + 1) (log ++ b ∷ []) (sym total)
        (behind_next line (start_on setup line) (count_of line log) post.number (start_below setup line) left old.behind)
        (each_push (OneOfFirst setup line (count_of line log + 1)) log b
        (each_weaker (OneOfFirst setup line (count_of line log)) (OneOfFirst setup line (count_of line log + 1))
        (λ a taken. λ of. taken_more line (start_on setup line) (count_of line log) (count_of line log + 1) a.id (omega arith) (taken of)) log old.taken)
        (λ of. record { place = count_of line log; number = post.number; fewer = omega arith; behind = old.behind; is = refl }));
    flight = record { known = one_behind (IsSame flight) log (b ∷ []) (inl (record { id = refl; text = refl; moment = refl })); later = omega arith; past = past };
  };
  sent_holds = (record { carries = one_behind (Carries text moment) log (b ∷ []) (inl (record { text = refl; since = omega arith; within = omega arith })); early = past }, tt);
} where
  id : ℕ
  id = id_on line post.number

  text : List ℕ
  text = written (messages.Command verb (id_on line post.number) name params body)

  b : Begun
  b = record { id = id; moment = moment; text = text }

  flight : InFlight
  flight = sent_first id post.entity.route text moment

  of_line : line_of_id (id_on line post.number) ≡ line
  of_line = line_is line post.number s.below

  in_turn : IsBehind line (start_on setup line) (count_of line log) post.number → IsInTurn setup log b
  in_turn behind = record {
    number = post.number;
    below = s.below;
    behind = subst (λ (l : ℕ). IsBehind l (start_on setup l) (count_of l log) post.number) (sym of_line) behind;
    is = ap (λ (l : ℕ). id_on l post.number) (sym of_line);
  }

  -- none of those before it has its id
  other : Few line log → (a : Begun) → OneOfFirst setup line (count_of line log) a → a.id ≢ id_on line post.number
  other few a taken = λ same.
      taken_apart line (start_on setup line) (count_of line log) post.number a.id few (s.counts few).behind (taken (ap (λ (x : ℕ). line_of_id x) same ∙ of_line)) same

  reads : read_text text ≡ message (messages.Command verb (id_on line post.number) name params body)
  reads = read_again (messages.Command verb (id_on line post.number) name params body) writable

-- What falls due of a post

pub resent_good : (setup : Setup) (until : ℕ) (log : List Begun) (line moment : ℕ) (post : Post) (flight : InFlight) → post.pending ≡ Some flight → moment ≡ flight.due → moment ≤ until
    → Logged setup until log → Posted setup until log line post → PostGood setup until log line (resent_on setup line moment post)
resent_good setup until log line moment post flight pending due past logged s =
    subst (λ (found : Option InFlight). PostGood setup until log line (resent_by found setup line moment post)) (sym pending) (by_repeat (repeat_of flight moment) refl) where
      in_log : InLog until log flight
      in_log = subst (λ (found : Option InFlight). IfSome found (InLog until log)) pending s.flight

      by_repeat : (repeat : Repeat) → repeat_of flight moment ≡ repeat → PostGood setup until log line (repeated_as repeat setup line moment post flight)
      by_repeat GivenUp is = post_still setup until log line (given_up setup line moment post) logged (record { below = s.below; counts = s.counts; flight = tt })
      by_repeat SentAgain is =
          let same = repeat_same flight moment in
          let later = sent_later flight moment is in
          let few : moment - flight.first < sending_time = sent_soon flight moment is in
          record {
            log_holds = subst (Logged setup until) (sym (append-nil log)) logged;
            of = tt;
            holds = subst (λ (x : List Begun). Posted setup until x line (record post { pending = Some (repeated flight moment) })) (sym (append-nil log)) (record {
              below = s.below;
              counts = s.counts;
              flight = record {
                known = one_weaker (IsSame flight) (IsSame (repeated flight moment))
                    (λ one e. record { id = e.id ∙ sym same.same_id; text = e.text ∙ sym same.same_text; moment = e.moment ∙ sym same.same_start }) log in_log.known;
                later = omega (arith, later, due, in_log.later, same.same_start);
                past = omega (arith, in_log.past, same.same_start);
              };
            });
            sent_holds = subst (λ (x : List Begun). Own until x (record { to = sent_to (repeated flight moment); moment = moment; owner = own_of line; said = resent flight }) × Unit {0}) (sym (append-nil log)) (
              record {
                carries = one_weaker (IsSame flight) (Carries flight.text moment)
                    (λ one e. record { text = sym e.text; since = omega (arith, e.moment, in_log.later, due); within = omega (arith, e.moment, few, in_log.later, due) }) log in_log.known;
                early = past;
              },
              tt,
            );
          }

-- An announcement

pub announced_good : (setup : Setup) (until : ℕ) (log : List Begun) (line moment : ℕ) (post : Post) → IsSetUp setup → line ≤ most_lines → 1 ≤ id_on line post.number → moment ≤ until → Logged setup until log
    → Posted setup until log line post → PostGood setup until log line (announced setup line moment post)
unfolding announced announcement
announced_good setup until log line moment post set_up few some past logged s =
    command_good setup until log line moment (record post { restart = Announced }) Rsip (name_text (announced_lines line) setup.names.domain)
    ((record { code = codes "RM"; value = method_of line }) ∷ []) [] (announcement_writable setup line post.number set_up few s.below some) past logged
    (record { below = s.below; counts = s.counts; flight = s.flight })

pub announcing_good : (setup : Setup) (until : ℕ) (log : List Begun) (line moment : ℕ) (post : Post) → IsSetUp setup → line ≤ most_lines → 1 ≤ id_on line post.number → moment ≤ until → Logged setup until log
    → Posted setup until log line post → PostGood setup until log line (announced_on setup line moment post)
announcing_good setup until log line moment post set_up few some past logged s = by_restart post.restart where
  by_restart : (restart : Restart) → PostGood setup until log line (announced_by restart setup line moment post)
  by_restart (Waiting since) = announced_good setup until log line moment post set_up few some past logged s
  by_restart Announced = post_still setup until log line post logged s
  by_restart Serving = post_still setup until log line post logged s

-- A response

heard_in_log : (until : ℕ) (log : List Begun) (flight : InFlight) (id code : ℕ) → InLog until log flight → InLog until log (heard flight id code until)
unfolding heard
heard_in_log until log flight id code is = by_reply (reply_of flight id code) where
  by_reply : (reply : Reply) → InLog until log (heard_as reply flight until)
  by_reply AnsweredReply = is
  by_reply Provisional = record {
    known = one_weaker (IsSame flight) (IsSame (heard_as Provisional flight until)) (λ one e. record { id = e.id; text = e.text; moment = e.moment }) log is.known;
    later = omega (arith, is.past);
    past = is.past;
  }
  by_reply Stranger = is

put_off_stands : (setup : Setup) (until : ℕ) (log : List Begun) (line : ℕ) (response : Response) (post : Post) → Posted setup until log line post → Posted setup until log line (put_off response until post)
put_off_stands setup until log line response post s = by_pending post.pending s.flight where
  by_pending : (pending : Option InFlight) → IfSome pending (InLog until log)
      → Posted setup until log line (record post { pending = option_map (λ message. heard message response.id response.code until) pending })
  by_pending None is = record { below = s.below; counts = s.counts; flight = tt }
  by_pending (Some flight) is = record { below = s.below; counts = s.counts; flight = heard_in_log until log flight response.id response.code is }

pub replied_good : (heard : Heard) (setup : Setup) (until : ℕ) (log : List Begun) (line : ℕ) (response : Response) (post : Post) → IsSetUp setup → line ≤ most_lines → 1 ≤ id_on line post.number → Logged setup until log
    → Posted setup until log line post → PostGood setup until log line (replied heard setup line until response post)
unfolding replied
replied_good Nothing setup until log line response post set_up few some logged s = post_still setup until log line post logged s
replied_good PutOff setup until log line response post set_up few some logged s =
    post_still setup until log line (put_off response until post) logged (put_off_stands setup until log line response post s)
replied_good (Redirected agent) setup until log line response post set_up few some logged s =
    announced_good setup until log line until (record post { entity = agent }) set_up few some (omega arith) logged (record { below = s.below; counts = s.counts; flight = s.flight })
replied_good (Answered agent) setup until log line response post set_up few some logged s =
    post_still setup until log line (record post { entity = unwrap_or agent post.entity; pending = None; restart = Serving }) logged
    (record { below = s.below; counts = s.counts; flight = tt })

-- Two starts have first numbers so far apart that no number comes again too soon.

-- so much more than a number, among those with which ids may begin
abbrev IsMore : ℕ → ℕ → ℕ → Type 0
IsMore first next more = (next ≡ first + more) ⊎ (next + firsts ≡ first + more)

rounded : (number more : ℕ) → more < firsts → IsMore (number % firsts) ((number + more) % firsts) more
rounded number more few = by_case (cases_lt (number % firsts + more) firsts) where
  by_case : (number % firsts + more < firsts) ⊎ (firsts ≤ number % firsts + more) → IsMore (number % firsts) ((number + more) % firsts) more
  by_case (inl low) = inl (omega (arith, low))
  by_case (inr high) = inr (omega (arith, high, few))

-- a number of both comes in the later one after almost all others
far_behind : (line first next more place other number : ℕ) → place < more → IsMore first next more → IsBehind line (first_number line + first) place number
    → IsBehind line (first_number line + next) other number → firsts ≤ other + more
far_behind line first next more place other number before greater one two = by_case (first_low line) greater one two where
  by_case : first_number line ≤ 1 → IsMore first next more → IsBehind line (first_number line + first) place number → IsBehind line (first_number line + next) other number
      → firsts ≤ other + more
  by_case low (inl on) (inl here) (inl there) = omega (arith, on, here, there, before)
  by_case low (inl on) (inl here) (inr there) = omega (arith, on, here, there, low)
  by_case low (inl on) (inr here) (inl there) = omega (arith, on, here, there, before, low)
  by_case low (inl on) (inr here) (inr there) = omega (arith, on, here, there, before)
  by_case low (inr round) (inl here) (inl there) = omega (arith, round, here, there)
  by_case low (inr round) (inl here) (inr there) = omega (arith, round, here, there, low)
  by_case low (inr round) (inr here) (inl there) = omega (arith, round, here, there, before, low)
  by_case low (inr round) (inr here) (inr there) = omega (arith, round, here, there)

pub starts_apart : (line earlier moment later again number : ℕ) → earlier + shortest_life ≤ later → moment ≤ later → moment ≤ earlier + longest_life
    → BeganUnder line earlier moment number → BeganUnder line later again number → moment + safe_time ≤ again
starts_apart line earlier moment later again number apart over within one two = by_case (cases_lt later (moment + safe_time)) where
  near : (more : ℕ) → earlier / 50 + more ≡ later / 50 → later < moment + safe_time → moment + safe_time ≤ again
  near more sum soon =
      let few : more < 8641202 = omega (arith, sum, soon, within) in
      let before : one.place < more = omega (arith, sum, apart, over, one.since, one.few) in
      let greater = subst (λ (n : ℕ). IsMore (first_at earlier) (n % firsts) more) sum (rounded (earlier / 50) more (omega (arith, few))) in
      let far : firsts ≤ two.place + more = far_behind line (first_at earlier) (first_at later) more one.place two.place number before greater one.behind two.behind in
      omega (arith, far, few, over, two.since, two.few)

  by_case : (later < moment + safe_time) ⊎ (moment + safe_time ≤ later) → moment + safe_time ≤ again
  by_case (inl soon) = near (later / 50 - earlier / 50) (omega (arith, apart)) soon
  by_case (inr late) = omega (arith, late, two.since)
