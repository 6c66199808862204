-- What a gateway has in flight is a command that began, and what it sends of its own is the text of one; each began under the number
-- behind as many as its line began before it; with a setup as configurations give it each of them is read as a command. So it is at
-- each turn, whatever was refused.
use Rattle.std.proofs.Common.{◌≡◌, ◌≢◌, ℕ, ◌+◌, ◌<◌, ◌≤◌, true, List, [], ◌∷◌, ◌++◌, Option, Some, None, Ok, inl, refl, sym, ap, ◌∙◌, subst, arith, append-nil, codes}
use Rattle.std.specs.Prelude.{IfSome, option_map}
use Rattle.std.specs.Option.{unwrap_or}
use Rattle.std.proofs.lemmas.Nat.{div-mul-add}
use Rattle.command_forms.specs.declared.forms.Asks.TheVariants.{Does}
use Rattle.command_forms.specs.declared.forms.Deed.{Deed}
use Rattle.command_forms.specs.declared.forms.Target.{Target}
use Rattle.command_forms.specs.Command.{Command}
use Rattle.command_forms.specs.Order.{form_of}
use Rattle.command_forms.proofs.FormLemmas.{deed_has_values}
use Rattle.endpoint_names.specs.declared.entity.Entity.{Entity}
use Rattle.endpoint_names.specs.declared.name.Pattern.TheVariants.{One}
use Rattle.endpoint_names.specs.Name.{name_text}
use Rattle.packages.specs.Observed.{observed_text}
use Rattle.mg_line.specs.Line.{LineDone, Notice}
use Rattle.mg_line.specs.Acting.{phoned}
use Rattle.mg_line.specs.Answering.{answered}
use Rattle.mg_line.specs.Falling.{fired}
use Rattle.mg_line.specs.Opening.{opened}
use Rattle.mgcp_text.specs.declared.confirmation.KValue.{KValue}
use Rattle.mgcp_text.specs.declared.message.Message.TheVariants as messages
use Rattle.mgcp_text.specs.declared.message.Param.{Param}
use Rattle.mgcp_text.specs.declared.message.Verb.{Verb}
use Rattle.mgcp_text.specs.declared.message.Verb.TheVariants.{Ntfy, Rsip}
use Rattle.mgcp_text.specs.Writing.{is_writable, written}
use Rattle.mgcp_text.proofs.RoundLaws.{read_again}
use Rattle.retransmission.specs.declared.repeat.Repeat.{Repeat}
use Rattle.retransmission.specs.declared.repeat.Repeat.TheVariants.{GivenUp, Sent as SentAgain}
use Rattle.retransmission.specs.Flight.{InFlight, heard, repeat_of, repeated, sent_first, sent_to}
use Rattle.retransmission.proofs.LifeLaws.{IsSameMessage, repeat_same, reply_same}
use Rattle.retransmission.specs.declared.heard.Heard.{Heard}
use Rattle.retransmission.specs.declared.heard.Heard.TheVariants.{Answered, Nothing, PutOff, Redirected}
use Rattle.retransmission.specs.declared.restart.Restart.{Restart}
use Rattle.retransmission.specs.declared.restart.Restart.TheVariants.{Announced, Serving, Waiting}
use Rattle.timers.specs.declared.kind.DueKind.{DueKind}
use Rattle.timers.specs.declared.kind.DueKind.TheVariants.{Announce, OfLine, Resend}
use Rattle.plain_machine.specs.declared.endpoint.Endpoint.{Endpoint}
use Rattle.plain_machine.specs.declared.post.Post.{Post}
use Rattle.plain_machine.specs.declared.response.Response.{Response}
use Rattle.plain_machine.specs.declared.setup.Setup.{Setup}
use Rattle.plain_machine.specs.Announcing.{announced, announced_by, announced_lines, announced_on, announcement, heard_on, method_of, put_off, replied, replied_on}
use Rattle.plain_machine.specs.Effect.{Effect, silently}
use Rattle.plain_machine.specs.Falling.{happened_on, happened_under}
use Rattle.plain_machine.specs.Message.{Begun, Sent, own_of, resent, text_of}
use Rattle.plain_machine.specs.Notifying.{noted, notification, posted, with_notice}
use Rattle.plain_machine.specs.Posting.{first_number, given_up, id_on, line_of_id, number_after, numbers, repeated_as, resent_by, resent_on, with_command}
use Rattle.plain_machine.specs.Requesting.{asked_if, deed_on, with_connections, with_entity}
use Rattle.plain_machine.specs.Responding.{opened_on, redirected_on, responded_as, responded_on}
use Rattle.plain_machine.specs.Setup.{IsSetUp, most_lines}
use Rattle.retransmission.specs.Issued.{is_command_as}
use Rattle.machine_laws.specs.Numbering.{start_on, IsBehind, IsInTurn}
use Rattle.machine_laws.specs.Saying.{OneOf, count_of}
use Rattle.machine_laws.proofs.NotificationLemmas.{announcement_writable, told_writable}
use Rattle.machine_laws.proofs.CommandLaws.{OwnSound, Sound, asked_if_done, noted_sound, own_responded_sound, responded_sound, sound_own_turns, sound_turns}
use Rattle.machine_laws.proofs.EachLemmas.{Each, EachAfter, each_after_push, each_push, one_before, one_behind, one_weaker}
use Rattle.machine_laws.proofs.FlightLaws.{next_below}
use Rattle.machine_laws.proofs.FlightLemmas.{IsSame}
use Rattle.machine_laws.proofs.PostLogs.{behind_next, start_below, AllFew, Few, count_both, count_none, count_one, few_before, same_command}
use Rattle.machine_laws.proofs.LogTurns.{EffectKeeps, silent_keeps, whole_keeps, Good, LogTurns, OwnGood}
use Rattle.machine_laws.proofs.NoticeLemmas.{IsDone, IsTold, answered_done, fired_done, opened_done, phoned_done}
use Rattle.machine_laws.proofs.GatewayEvents.{IsCommand}

-- what a post has in flight is one of these, and its next number is one of a line's: that behind as many as the line began, while
-- not all are used up
pub record Flies (setup : Setup) (line : ℕ) (log : List Begun) (post : Post) : Type 0 where
  pub below : post.number < numbers
  pub behind : Few line log → IsBehind line (start_on setup line) (count_of line log) post.number
  pub flight : IfSome post.pending (λ (message : InFlight). OneOf (IsSame message) log)

-- what is sent is the text of one of these, and sent by this moment
pub record IsOwn (until : ℕ) (log : List Begun) (sent : Sent) : Type 0 where
  pub text : OneOf (λ (b : Begun). text_of sent.said ≡ b.text) log
  pub early : sent.moment ≤ until

-- with a setup as configurations give it each of these is read as a command; and each began in turn, while not all numbers are used up
pub record AreCommands (setup : Setup) (log : List Begun) : Type 0 where
  pub read : IsSetUp setup → Each IsCommand log
  pub turns : AllFew log → EachAfter (IsInTurn setup) [] log

pub record LineFlies (setup : Setup) (log : List Begun) (line : ℕ) (endpoint : Endpoint) : Type 0 where
  pub post : Flies setup line log endpoint.post
  pub sound : IsSetUp setup → Sound line endpoint

pub record OwnFlies (setup : Setup) (log : List Begun) (own : Post) : Type 0 where
  pub post : Flies setup 0 log own
  pub sound : IsSetUp setup → OwnSound own

abbrev PostGood : Setup → ℕ → List Begun → ℕ → Effect Post → Type 0
PostGood setup until log line turn = EffectKeeps (Flies setup line) (IsOwn until) (AreCommands setup) log line turn

abbrev GoodTurn : Setup → ℕ → List Begun → ℕ → Effect Endpoint → Type 0
GoodTurn setup until log line turn = Good (LineFlies setup) (IsOwn until) (AreCommands setup) log line turn

abbrev GoodOwn : Setup → ℕ → List Begun → Effect Post → Type 0
GoodOwn setup until log turn = OwnGood (OwnFlies setup) (IsOwn until) (AreCommands setup) log turn

-- A log that grows

flight_on : (log new : List Begun) (found : Option InFlight) → IfSome found (λ (message : InFlight). OneOf (IsSame message) log) → IfSome found (λ (message : InFlight). OneOf (IsSame message) (log ++ new))
flight_on log new None is = tt
flight_on log new (Some message) is = one_before (IsSame message) log new is

-- what other lines begin changes nothing
flies_on : (setup : Setup) (line : ℕ) (log new : List Begun) (post : Post) → Each (λ (b : Begun). line_of_id b.id ≢ line) new → Flies setup line log post
    → Flies setup line (log ++ new) post
flies_on setup line log new post apart f = record {
  below = f.below;
  behind = λ few. subst (λ (n : ℕ). IsBehind line (start_on setup line) n post.number) (sym as_many) (f.behind (few_before line log new few));
  flight = flight_on log new post.pending f.flight;
} where
  as_many : count_of line (log ++ new) ≡ count_of line log
  as_many = let both = count_both line log new in let none = count_none line new apart in omega (arith, both, none)

pub own_on : (until : ℕ) (log new : List Begun) (sent : Sent) → IsOwn until log sent → IsOwn until (log ++ new) sent
own_on until log new sent own = record { text = one_before (λ (b : Begun). text_of sent.said ≡ b.text) log new own.text; early = own.early }

-- the same message, later
same_known : (log : List Begun) (was is : InFlight) → IsSameMessage was is → OneOf (IsSame was) log → OneOf (IsSame is) log
same_known log was is same known =
    one_weaker (IsSame was) (IsSame is) (λ one e. record { id = e.id ∙ sym same.same_id; text = e.text ∙ sym same.same_text; moment = e.moment ∙ sym same.same_start }) log known

-- A post

post_still : (setup : Setup) (until : ℕ) (log : List Begun) (line : ℕ) (post : Post) → AreCommands setup log → Flies setup line log post → PostGood setup until log line (silently post)
post_still setup until log line post commands f = silent_keeps (Flies setup line) (IsOwn until) (AreCommands setup) log line post commands f

-- a command begins
command_flies : (setup : Setup) (until : ℕ) (log : List Begun) (line moment : ℕ) (post : Post) (verb : Verb) (name : List ℕ) (params : List Param) (body : List ℕ)
    → (IsSetUp setup → is_writable (messages.Command verb (id_on line post.number) name params body) ≡ true) → moment ≤ until → AreCommands setup log → Flies setup line log post
    → PostGood setup until log line (with_command line moment post (messages.Command verb (id_on line post.number) name params body))
command_flies setup until log line moment post verb name params body writable past commands f = record {
  log_holds = record {
    read = λ set_up. each_push IsCommand log b (commands.read set_up) (record {
      name = name;
      reads = ap (is_command_as id name) (read_again (messages.Command verb (id_on line post.number) name params body) (writable set_up)) ∙ same_command id name;
    });
    turns = λ few. each_after_push (IsInTurn setup) [] log b (commands.turns (λ i. few_before i log (b ∷ []) (few i)))
        (in_turn (f.behind (few_before line log (b ∷ []) (few line))));
  };
  of = (of_line, tt);
  holds = record {
    below = next_below line post.number f.below;
    behind = next_behind;
    flight = one_behind (IsSame flight) log (b ∷ []) (inl (record { id = refl; text = refl; moment = refl }));
  };
  sent_holds = (record { text = one_behind (λ (a : Begun). text ≡ a.text) log (b ∷ []) (inl refl); early = past }, tt);
} where
  id : ℕ
  id = id_on line post.number

  text : List ℕ
  text = written (messages.Command verb (id_on line post.number) name params body)

  b : Begun
  b = record { id = id; moment = moment; text = text }

  flight : InFlight
  flight = sent_first id post.entity.route text moment

  of_line : line_of_id (id_on line post.number) ≡ line
  of_line = div-mul-add line numbers post.number f.below

  in_turn : IsBehind line (start_on setup line) (count_of line log) post.number → IsInTurn setup log b
  in_turn behind = record {
    number = post.number;
    below = f.below;
    behind = subst (λ (l : ℕ). IsBehind l (start_on setup l) (count_of l log) post.number) (sym of_line) behind;
    is = ap (λ (l : ℕ). id_on l post.number) (sym of_line);
  }

  next_behind : Few line (log ++ b ∷ []) → IsBehind line (start_on setup line) (count_of line (log ++ b ∷ [])) (number_after line post.number)
  next_behind few =
      let total : count_of line (log ++ b ∷ []) ≡ count_of line log + 1 = count_both line log (b ∷ []) ∙ ap (λ (x : ℕ). count_of line log + x) (count_one line b of_line) in
      let left : first_number line + (count_of line log + 1) < numbers = (let all : first_number line + count_of line (log ++ b ∷ []) < numbers = few in omega (arith, all, total)) in
      subst (λ (n : ℕ). IsBehind line (start_on setup line) n (number_after line post.number)) (sym total)
      (behind_next line (start_on setup line) (count_of line log) post.number (start_below setup line) left (f.behind (few_before line log (b ∷ []) few)))

-- it is sent again, or given up
resent_flies : (setup : Setup) (until : ℕ) (log : List Begun) (line moment : ℕ) (post : Post) → moment ≤ until → AreCommands setup log → Flies setup line log post
    → PostGood setup until log line (resent_on setup line moment post)
resent_flies setup until log line moment post past commands f = by_pending post.pending f.flight where
  by_repeat : (flight : InFlight) → OneOf (IsSame flight) log → (repeat : Repeat) → PostGood setup until log line (repeated_as repeat setup line moment post flight)
  by_repeat flight known GivenUp = post_still setup until log line (given_up setup line moment post) commands (record { below = f.below; behind = f.behind; flight = tt })
  by_repeat flight known SentAgain = record {
    log_holds = subst (AreCommands setup) (sym (append-nil log)) commands;
    of = tt;
    holds = subst (λ (x : List Begun). Flies setup line x (record post { pending = Some (repeated flight moment) })) (sym (append-nil log))
        (record { below = f.below; behind = f.behind; flight = same_known log flight (repeated flight moment) (repeat_same flight moment) known });
    sent_holds = subst (λ (x : List Begun). IsOwn until x (record { to = sent_to (repeated flight moment); moment = moment; owner = own_of line; said = resent flight }) × Unit {0}) (sym (append-nil log))
        (record { text = one_weaker (IsSame flight) (λ (b : Begun). flight.text ≡ b.text) (λ b e. sym e.text) log known; early = past }, tt);
  }

  by_pending : (pending : Option InFlight) → IfSome pending (λ (message : InFlight). OneOf (IsSame message) log) → PostGood setup until log line (resent_by pending setup line moment post)
  by_pending None known = post_still setup until log line post commands f
  by_pending (Some flight) known = by_repeat flight known (repeat_of flight moment)

-- with such a setup it can be announced
abbrev CanAnnounce : Setup → ℕ → Post → Type 0
CanAnnounce setup line post = IsSetUp setup → (line ≤ most_lines) × (1 ≤ id_on line post.number)

announced_flies : (setup : Setup) (until : ℕ) (log : List Begun) (line moment : ℕ) (post : Post) → CanAnnounce setup line post → moment ≤ until → AreCommands setup log → Flies setup line log post
    → PostGood setup until log line (announced setup line moment post)
unfolding announced announcement
announced_flies setup until log line moment post can past commands f =
    command_flies setup until log line moment (record post { restart = Announced }) Rsip (name_text (announced_lines line) setup.names.domain)
    ((record { code = codes "RM"; value = method_of line }) ∷ []) []
    (λ set_up. announcement_writable setup line post.number set_up (can set_up).0 f.below (can set_up).1) past commands
    (record { below = f.below; behind = f.behind; flight = f.flight })

announcing_flies : (setup : Setup) (until : ℕ) (log : List Begun) (line moment : ℕ) (post : Post) → CanAnnounce setup line post → moment ≤ until → AreCommands setup log → Flies setup line log post
    → PostGood setup until log line (announced_on setup line moment post)
announcing_flies setup until log line moment post can past commands f = by_restart post.restart where
  by_restart : (restart : Restart) → PostGood setup until log line (announced_by restart setup line moment post)
  by_restart (Waiting since) = announced_flies setup until log line moment post can past commands f
  by_restart Announced = post_still setup until log line post commands f
  by_restart Serving = post_still setup until log line post commands f

put_off_flies : (setup : Setup) (line : ℕ) (log : List Begun) (until : ℕ) (response : Response) (post : Post) → Flies setup line log post
    → Flies setup line log (put_off response until post)
put_off_flies setup line log until response post f = by_pending post.pending f.flight where
  by_pending : (pending : Option InFlight) → IfSome pending (λ (message : InFlight). OneOf (IsSame message) log)
      → Flies setup line log (record post { pending = option_map (λ message. heard message response.id response.code until) pending })
  by_pending None known = record { below = f.below; behind = f.behind; flight = tt }
  by_pending (Some flight) known =
      record { below = f.below; behind = f.behind; flight = same_known log flight (heard flight response.id response.code until) (reply_same flight response.id response.code until) known }

replied_flies : (heard : Heard) (setup : Setup) (until : ℕ) (log : List Begun) (line : ℕ) (response : Response) (post : Post) → CanAnnounce setup line post → AreCommands setup log → Flies setup line log post
    → PostGood setup until log line (replied heard setup line until response post)
unfolding replied
replied_flies Nothing setup until log line response post can commands f = post_still setup until log line post commands f
replied_flies PutOff setup until log line response post can commands f =
    post_still setup until log line (put_off response until post) commands (put_off_flies setup line log until response post f)
replied_flies (Redirected agent) setup until log line response post can commands f =
    announced_flies setup until log line until (record post { entity = agent }) can (omega arith) commands (record { below = f.below; behind = f.behind; flight = f.flight })
replied_flies (Answered agent) setup until log line response post can commands f =
    post_still setup until log line (record post { entity = unwrap_or agent post.entity; pending = None; restart = Serving }) commands (record { below = f.below; behind = f.behind; flight = tt })

-- An endpoint, and the gateway itself

post_turn : (setup : Setup) (until : ℕ) (log : List Begun) (line : ℕ) (endpoint : Endpoint) (turn : Effect Post) → (IsSetUp setup → Sound line (posted endpoint turn).value)
    → PostGood setup until log line turn → GoodTurn setup until log line (posted endpoint turn)
post_turn setup until log line endpoint turn sound good =
    whole_keeps (Flies setup line) (λ (x : List Begun). LineFlies setup x line) (IsOwn until) (AreCommands setup) log line
    (λ (post : Post). record endpoint { post = post }) turn (λ flies. record { post = flies; sound = sound }) good

still : (setup : Setup) (until : ℕ) (log : List Begun) (line : ℕ) (endpoint : Endpoint) → AreCommands setup log → LineFlies setup log line endpoint → GoodTurn setup until log line (silently endpoint)
still setup until log line endpoint commands f = silent_keeps (λ (x : List Begun). LineFlies setup x line) (IsOwn until) (AreCommands setup) log line endpoint commands f

own_turn : (setup : Setup) (until : ℕ) (log : List Begun) (turn : Effect Post) → (IsSetUp setup → OwnSound turn.value) → PostGood setup until log 0 turn → GoodOwn setup until log turn
own_turn setup until log turn sound good =
    record { log_holds = good.log_holds; of = good.of; holds = record { post = good.holds; sound = sound }; sent_holds = good.sent_holds }

line_can : (setup : Setup) (log : List Begun) (line : ℕ) (endpoint : Endpoint) → LineFlies setup log line endpoint → CanAnnounce setup line endpoint.post
line_can setup log line endpoint f set_up = let s = f.sound set_up in let one : 1 ≤ line = s.some in (s.few, omega (arith, one))

own_can : (setup : Setup) (log : List Begun) (own : Post) → OwnFlies setup log own → CanAnnounce setup 0 own
own_can setup log own f set_up = (omega arith, (f.sound set_up).some)

entity_flies : (setup : Setup) (log : List Begun) (line : ℕ) (endpoint : Endpoint) (agent : Option Entity) → LineFlies setup log line endpoint → LineFlies setup log line (with_entity agent endpoint)
entity_flies setup log line endpoint agent f = record {
  post = record { below = f.post.below; behind = f.post.behind; flight = f.post.flight };
  sound = λ set_up. let s = f.sound set_up in record { some = s.some; few = s.few; below = s.below; fine = s.fine; flight = s.flight };
}

-- A notification

noted_flies : (setup : Setup) (until : ℕ) (log : List Begun) (line moment : ℕ) (endpoint : Endpoint) (done : LineDone) → moment ≤ until → AreCommands setup log
    → LineFlies setup log line endpoint → (IsSetUp setup → IsDone done) → GoodTurn setup until log line (noted setup line moment endpoint done)
unfolding noted notification
noted_flies setup until log line moment endpoint done past commands f is =
    by_notice done.notice (λ set_up. (is set_up).told)
    (λ set_up. let s = f.sound set_up in (noted_sound setup line moment endpoint done set_up s.some s.few s.below (is set_up) s.flight).0) where
      was : Endpoint
      was = record endpoint { line = done.line }

      by_notice : (notice : Option Notice) → (IsSetUp setup → IfSome notice IsTold) → (IsSetUp setup → Sound line (with_notice setup line moment was notice).value)
          → GoodTurn setup until log line (with_notice setup line moment was notice)
      by_notice None told sound = still setup until log line was commands (record { post = f.post; sound = sound })
      by_notice (Some notice) told sound =
          post_turn setup until log line was _ sound
          (command_flies setup until log line moment endpoint.post Ntfy (name_text (One line) setup.names.domain)
          ((record { code = codes "X"; value = notice.identifier }) ∷ (record { code = codes "O"; value = observed_text notice.observed }) ∷ []) []
          (λ set_up. let s = f.sound set_up in told_writable setup line endpoint.post.number notice set_up s.some s.few s.below (told set_up)) past commands f.post)

-- What falls due

happened_flies : (setup : Setup) (until : ℕ) (log : List Begun) (kind : DueKind) (line moment : ℕ) (endpoint : Endpoint) → moment ≤ until → AreCommands setup log → LineFlies setup log line endpoint
    → (IsSetUp setup → Sound line (happened_on kind setup line moment endpoint).value) → GoodTurn setup until log line (happened_on kind setup line moment endpoint)
unfolding happened_on
happened_flies setup until log (OfLine due) line moment endpoint past commands f sound =
    noted_flies setup until log line moment endpoint (fired endpoint.line due moment) past commands f (λ set_up. fired_done endpoint.line due moment (f.sound set_up).fine)
happened_flies setup until log Resend line moment endpoint past commands f sound =
    post_turn setup until log line endpoint (resent_on setup line moment endpoint.post) sound (resent_flies setup until log line moment endpoint.post past commands f.post)
happened_flies setup until log Announce line moment endpoint past commands f sound =
    post_turn setup until log line endpoint (announced_on setup line moment endpoint.post) sound
    (announcing_flies setup until log line moment endpoint.post (line_can setup log line endpoint f) past commands f.post)

own_happened_flies : (setup : Setup) (until : ℕ) (log : List Begun) (kind : DueKind) (moment : ℕ) (own : Post) → moment ≤ until → AreCommands setup log → OwnFlies setup log own
    → (IsSetUp setup → OwnSound (happened_under kind setup 0 moment own).value) → GoodOwn setup until log (happened_under kind setup 0 moment own)
unfolding happened_under
own_happened_flies setup until log (OfLine due) moment own past commands f sound = own_turn setup until log (silently own) sound (post_still setup until log 0 own commands f.post)
own_happened_flies setup until log Resend moment own past commands f sound =
    own_turn setup until log (resent_on setup 0 moment own) sound (resent_flies setup until log 0 moment own past commands f.post)
own_happened_flies setup until log Announce moment own past commands f sound =
    own_turn setup until log (announced_on setup 0 moment own) sound (announcing_flies setup until log 0 moment own (own_can setup log own f) past commands f.post)

-- A response

responded_flies : (setup : Setup) (until : ℕ) (log : List Begun) (line : ℕ) (response : Response) (endpoint : Endpoint) → AreCommands setup log → LineFlies setup log line endpoint
    → GoodTurn setup until log line (responded_on setup line until response endpoint)
unfolding responded_on replied
responded_flies setup until log line response endpoint commands f =
    by_heard (heard_on endpoint.post response) (λ set_up. (responded_sound setup set_up line until response endpoint (f.sound set_up)).0) where
      goes : (heard : Heard) → PostGood setup until log line (replied heard setup line until response endpoint.post)
      goes heard = replied_flies heard setup until log line response endpoint.post (line_can setup log line endpoint f) commands f.post

      by_heard : (heard : Heard) → (IsSetUp setup → Sound line (responded_as heard setup line until response endpoint).value)
          → GoodTurn setup until log line (responded_as heard setup line until response endpoint)
      by_heard Nothing sound = still setup until log line endpoint commands f
      by_heard PutOff sound = post_turn setup until log line endpoint (replied PutOff setup line until response endpoint.post) sound (goes PutOff)
      by_heard (Redirected agent) sound = post_turn setup until log line endpoint (replied (Redirected agent) setup line until response endpoint.post) sound (goes (Redirected agent))
      by_heard (Answered agent) sound =
          let post : Post = record endpoint.post { entity = unwrap_or agent endpoint.post.entity; pending = None; restart = Serving } in
          noted_flies setup until log line until (record endpoint { post = post }) (answered endpoint.line until) (omega arith) commands
          (record {
            post = record { below = f.post.below; behind = f.post.behind; flight = tt };
            sound = λ set_up. let s = f.sound set_up in record { some = s.some; few = s.few; below = s.below; fine = s.fine; flight = tt };
          })
          (λ set_up. answered_done endpoint.line until (f.sound set_up).fine)

own_responded_flies : (setup : Setup) (until : ℕ) (log : List Begun) (response : Response) (own : Post) → AreCommands setup log → OwnFlies setup log own
    → GoodOwn setup until log (replied_on setup 0 until response own)
unfolding replied_on
own_responded_flies setup until log response own commands f =
    own_turn setup until log (replied (heard_on own response) setup 0 until response own) (λ set_up. (own_responded_sound setup set_up until response own (f.sound set_up)).0)
    (replied_flies (heard_on own response) setup until log 0 response own (own_can setup log own f) commands f.post)

-- The lines hear of the gateway's answer

redirected_flies : (setup : Setup) (until : ℕ) (log : List Begun) (agent : Entity) (line : ℕ) (endpoint : Endpoint) → AreCommands setup log → LineFlies setup log line endpoint
    → GoodTurn setup until log line (redirected_on agent line endpoint)
unfolding redirected_on
redirected_flies setup until log agent line endpoint commands f =
    still setup until log line (with_entity (Some agent) endpoint) commands (entity_flies setup log line endpoint (Some agent) f)

opened_flies : (setup : Setup) (until : ℕ) (log : List Begun) (agent : Option Entity) (line : ℕ) (endpoint : Endpoint) → AreCommands setup log → LineFlies setup log line endpoint
    → GoodTurn setup until log line (opened_on agent setup until line endpoint)
unfolding opened_on
opened_flies setup until log agent line endpoint commands f =
    noted_flies setup until log line until (with_entity agent endpoint) (opened endpoint.line until) (omega arith) commands (entity_flies setup log line endpoint agent f)
    (λ set_up. opened_done endpoint.line until (f.sound set_up).fine)

-- A deed

deed_flies : (setup : Setup) (until : ℕ) (command : Command) (confirms : KValue) (target : Target) (deed : Deed) → form_of command confirms setup.names ≡ Ok (Does target deed)
    → (log : List Begun) (line : ℕ) (endpoint : Endpoint) → AreCommands setup log → LineFlies setup log line endpoint → GoodTurn setup until log line (deed_on setup deed until line endpoint)
unfolding deed_on
deed_flies setup until command confirms target deed is log line endpoint commands f =
    let there = entity_flies setup log line endpoint deed.entity f in
    noted_flies setup until log line until (with_connections deed (with_entity deed.entity endpoint)) (asked_if deed.request endpoint.line until) (omega arith) commands
    (record {
      post = there.post;
      sound = λ set_up. let s = there.sound set_up in record { some = s.some; few = s.few; below = s.below; fine = s.fine; flight = s.flight };
    })
    (λ set_up. asked_if_done command.params endpoint.line deed.request until (deed_has_values command confirms setup.names target deed is).request (f.sound set_up).fine)

pub own_turns : (setup : Setup) (until : ℕ) → LogTurns setup until (LineFlies setup) (OwnFlies setup) (IsOwn until) (AreCommands setup)
own_turns setup until = record {
  act = λ log line act endpoint commands f.
      noted_flies setup until log line until endpoint (phoned endpoint.line act until) (omega arith) commands f (λ set_up. phoned_done endpoint.line act until (f.sound set_up).fine);
  deed = deed_flies setup until;
  response = responded_flies setup until;
  happening = λ log line item endpoint commands f due past.
      happened_flies setup until log item.kind line item.moment endpoint past commands f
      (λ set_up. ((sound_turns setup set_up).happening true item.kind line item.moment endpoint (f.sound set_up)).0);
  redirecting = redirected_flies setup until;
  opening = opened_flies setup until;
  own_response = own_responded_flies setup until;
  own_happening = λ log item own commands f due past.
      own_happened_flies setup until log item.kind item.moment own past commands f
      (λ set_up. ((sound_own_turns setup set_up).happening item.kind item.moment own (f.sound set_up)).0);
  others = λ log new line endpoint apart f. record { post = flies_on setup line log new endpoint.post apart f.post; sound = f.sound };
  own_others = λ log new own apart f. record { post = flies_on setup 0 log new own apart f.post; sound = f.sound };
  more = own_on until;
}
