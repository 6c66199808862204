-- What a gateway sends of its own: the commands of each line, and of the gateway itself, under ids of their own, and again for
-- less than 20,000 ms.
use Rattle.std.proofs.Common.{◌≡◌, ℕ, ◌≤◌, true, List, [], ◌∷◌, Option, Some, None, Ok, inl, inr, refl, subst, arith}
use Rattle.std.specs.Prelude.{◌⊎◌, IfSome, codes}
use Rattle.std.specs.Option.{unwrap_or}
use Rattle.mgcp_text.specs.declared.confirmation.KValue.{KValue}
use Rattle.mgcp_text.specs.declared.message.Verb.TheVariants.{Ntfy}
use Rattle.endpoint_names.specs.declared.entity.Entity.{Entity}
use Rattle.endpoint_names.specs.declared.name.Pattern.TheVariants.{One}
use Rattle.endpoint_names.specs.Name.{name_text}
use Rattle.packages.specs.Observed.{observed_text}
use Rattle.command_forms.specs.declared.forms.Asks.TheVariants.{Does}
use Rattle.command_forms.specs.declared.forms.Deed.{Deed}
use Rattle.command_forms.specs.declared.forms.Target.{Target}
use Rattle.command_forms.specs.Command.{Command}
use Rattle.command_forms.specs.Order.{form_of}
use Rattle.command_forms.proofs.FormLemmas.{deed_has_values}
use Rattle.retransmission.specs.Flight.{InFlight}
use Rattle.retransmission.specs.declared.restart.Restart.TheVariants.{Serving}
use Rattle.retransmission.specs.declared.heard.Heard.{Heard}
use Rattle.retransmission.specs.declared.heard.Heard.TheVariants.{Nothing, PutOff, Redirected, Answered}
use Rattle.mg_line.specs.Line.{LineDone, Notice}
use Rattle.mg_line.specs.Acting.{phoned}
use Rattle.mg_line.specs.Answering.{answered}
use Rattle.mg_line.specs.Opening.{opened}
use Rattle.mg_line.specs.Falling.{fired}
use Rattle.timers.specs.declared.kind.LineDue.{LineDue}
use Rattle.timers.specs.declared.kind.DueKind.TheVariants.{OfLine, Resend, Announce}
use Rattle.timers.specs.declared.due_item.DueItem.{DueItem}
use Rattle.plain_machine.specs.declared.post.Post.{Post}
use Rattle.plain_machine.specs.declared.response.Response.{Response}
use Rattle.plain_machine.specs.declared.setup.Setup.{Setup}
use Rattle.plain_machine.specs.declared.endpoint.Endpoint.{Endpoint}
use Rattle.plain_machine.specs.Effect.{Effect, silently}
use Rattle.plain_machine.specs.Setup.{IsSetUp}
use Rattle.plain_machine.specs.Posting.{id_on, resent_on}
use Rattle.plain_machine.specs.Announcing.{announced_on, heard_on, replied, replied_on}
use Rattle.plain_machine.specs.Notifying.{posted, notification, with_notice, noted}
use Rattle.plain_machine.specs.Requesting.{with_entity, with_connections, asked_if, deed_on}
use Rattle.plain_machine.specs.Falling.{due_on, happened_on, happened_under, post_due}
use Rattle.plain_machine.specs.Responding.{responded_as, responded_on, redirected_on, opened_on}
use Rattle.machine_laws.proofs.CommandLaws.{Sound, OwnSound, sound_turns, sound_own_turns, noted_sound, responded_sound, own_responded_sound, asked_if_done}
use Rattle.machine_laws.proofs.NoticeLemmas.{IsDone, IsTold, phoned_done, answered_done, opened_done, fired_done}
use Rattle.machine_laws.proofs.NotificationLemmas.{told_writable}
use Rattle.plain_machine.proofs.FirstLemmas.{OfItsLine, OfItsCommand, OfItsAnnouncement, due_cases, post_cases}
use Rattle.machine_laws.proofs.LogTurns.{Good, LogTurns, OwnGood, silent_keeps, whole_keeps}
use Rattle.machine_laws.proofs.PostLogs.{Logged, Own, PostGood, Posted, announcing_good, command_good, others_stay, own_more, replied_good, resent_good}
use Rattle.plain_machine.specs.Message.{Begun}

pub record LineStands (setup : Setup) (until : ℕ) (log : List Begun) (line : ℕ) (endpoint : Endpoint) : Type 0 where
  pub sound : Sound line endpoint
  pub post : Posted setup until log line endpoint.post

pub record OwnStands (setup : Setup) (until : ℕ) (log : List Begun) (own : Post) : Type 0 where
  pub sound : OwnSound own
  pub post : Posted setup until log 0 own

abbrev GoodTurn : Setup → ℕ → List Begun → ℕ → Effect Endpoint → Type 0
GoodTurn setup until log line turn = Good (LineStands setup until) (Own until) (Logged setup until) log line turn

-- a turn of its post, after which the endpoint is sound
post_turn : (setup : Setup) (until : ℕ) (log : List Begun) (line : ℕ) (endpoint : Endpoint) (turn : Effect Post) → Sound line (posted endpoint turn).value → PostGood setup until log line turn
    → GoodTurn setup until log line (posted endpoint turn)
post_turn setup until log line endpoint turn sound good =
    whole_keeps (λ (x : List Begun). Posted setup until x line) (λ (x : List Begun). LineStands setup until x line) (Own until) (Logged setup until) log line
    (λ (post : Post). record endpoint { post = post }) turn (λ posted. record { sound = sound; post = posted }) good

-- a turn in which nothing is sent
still : (setup : Setup) (until : ℕ) (log : List Begun) (line : ℕ) (endpoint : Endpoint) → Logged setup until log → LineStands setup until log line endpoint → GoodTurn setup until log line (silently endpoint)
still setup until log line endpoint logged s = silent_keeps (λ (x : List Begun). LineStands setup until x line) (Own until) (Logged setup until) log line endpoint logged s

-- the same of the gateway itself
own_turn : (setup : Setup) (until : ℕ) (log : List Begun) (turn : Effect Post) → OwnSound turn.value → PostGood setup until log 0 turn
    → OwnGood (OwnStands setup until) (Own until) (Logged setup until) log turn
own_turn setup until log turn sound good =
    record { log_holds = good.log_holds; of = good.of; holds = record { sound = sound; post = good.holds }; sent_holds = good.sent_holds }

-- with another notified entity it stands as well
entity_stands : (setup : Setup) (until : ℕ) (log : List Begun) (line : ℕ) (endpoint : Endpoint) (agent : Option Entity) → LineStands setup until log line endpoint → LineStands setup until log line (with_entity agent endpoint)
entity_stands setup until log line endpoint agent s = record {
  sound = record { some = s.sound.some; few = s.sound.few; below = s.sound.below; fine = s.sound.fine; flight = s.sound.flight };
  post = record { below = s.post.below; counts = s.post.counts; flight = s.post.flight };
}

-- A notification

noted_good : (setup : Setup) (until : ℕ) → IsSetUp setup → (log : List Begun) (line moment : ℕ) (endpoint : Endpoint) (done : LineDone) → moment ≤ until → Logged setup until log
    → LineStands setup until log line endpoint → IsDone done → GoodTurn setup until log line (noted setup line moment endpoint done)
unfolding noted notification
noted_good setup until set_up log line moment endpoint done past logged s is =
    by_notice done.notice is.told (noted_sound setup line moment endpoint done set_up s.sound.some s.sound.few s.sound.below is s.sound.flight).0 where
      was : Endpoint
      was = record endpoint { line = done.line }

      by_notice : (notice : Option Notice) → IfSome notice IsTold → Sound line (with_notice setup line moment was notice).value
          → GoodTurn setup until log line (with_notice setup line moment was notice)
      by_notice None told sound = still setup until log line was logged (record { sound = sound; post = s.post })
      by_notice (Some notice) told sound =
          post_turn setup until log line was _ sound
          (command_good setup until log line moment endpoint.post Ntfy (name_text (One line) setup.names.domain)
          ((record { code = codes "X"; value = notice.identifier }) ∷ (record { code = codes "O"; value = observed_text notice.observed }) ∷ []) []
          (told_writable setup line endpoint.post.number notice set_up s.sound.some s.sound.few s.sound.below told) past logged s.post)

-- What falls due

some_id : (line : ℕ) (endpoint : Endpoint) → Sound line endpoint → 1 ≤ id_on line endpoint.post.number
some_id line endpoint s = let one : 1 ≤ line = s.some in omega (arith, one)

happening_good : (setup : Setup) (until : ℕ) → IsSetUp setup → (log : List Begun) (line : ℕ) (item : DueItem) (endpoint : Endpoint) → Logged setup until log → LineStands setup until log line endpoint
    → due_on (line, endpoint) ≡ Some item → item.moment ≤ until → GoodTurn setup until log line (happened_on item.kind setup line item.moment endpoint)
unfolding happened_on
happening_good setup until set_up log line item endpoint logged s due past = by_case (due_cases line endpoint item due) where
  sounds : Sound line (happened_on item.kind setup line item.moment endpoint).value
  sounds = ((sound_turns setup set_up).happening true item.kind line item.moment endpoint s.sound).0

  Happens : DueItem → Type 0
  Happens i = i.moment ≤ until → Sound line (happened_on i.kind setup line i.moment endpoint).value → GoodTurn setup until log line (happened_on i.kind setup line i.moment endpoint)

  of_line : (due : LineDue) (moment : ℕ) → moment ≤ until → GoodTurn setup until log line (happened_on (OfLine due) setup line moment endpoint)
  of_line due moment by = noted_good setup until set_up log line moment endpoint (fired endpoint.line due moment) by logged s (fired_done endpoint.line due moment s.sound.fine)

  of_command : (message : InFlight) → endpoint.post.pending ≡ Some message → message.due ≤ until → Sound line (happened_on Resend setup line message.due endpoint).value
      → GoodTurn setup until log line (happened_on Resend setup line message.due endpoint)
  of_command message pending by sound =
      post_turn setup until log line endpoint (resent_on setup line message.due endpoint.post) sound (resent_good setup until log line message.due endpoint.post message pending refl by logged s.post)

  of_announcement : (moment : ℕ) → moment ≤ until → Sound line (happened_on Announce setup line moment endpoint).value → GoodTurn setup until log line (happened_on Announce setup line moment endpoint)
  of_announcement moment by sound =
      post_turn setup until log line endpoint (announced_on setup line moment endpoint.post) sound
      (announcing_good setup until log line moment endpoint.post set_up s.sound.few (some_id line endpoint s.sound) by logged s.post)

  by_post : OfItsCommand line endpoint.post item ⊎ OfItsAnnouncement line endpoint.post item → GoodTurn setup until log line (happened_on item.kind setup line item.moment endpoint)
  by_post (inl of) = subst Happens of.same (λ by sound. of_command of.message of.pending by sound) past sounds
  by_post (inr of) = subst Happens of.same (λ by sound. of_announcement of.until by sound) past sounds

  by_case : OfItsLine line endpoint item ⊎ (post_due line endpoint.post ≡ Some item) → GoodTurn setup until log line (happened_on item.kind setup line item.moment endpoint)
  by_case (inl of) = subst Happens of.same (λ by sound. of_line of.found.1 of.found.0 by) past sounds
  by_case (inr is) = by_post (post_cases line endpoint.post item is)

own_happening_good : (setup : Setup) (until : ℕ) → IsSetUp setup → (log : List Begun) (item : DueItem) (own : Post) → Logged setup until log → OwnStands setup until log own
    → post_due 0 own ≡ Some item → item.moment ≤ until → OwnGood (OwnStands setup until) (Own until) (Logged setup until) log (happened_under item.kind setup 0 item.moment own)
unfolding happened_under
own_happening_good setup until set_up log item own logged s due past = by_post (post_cases 0 own item due) where
  sounds : OwnSound (happened_under item.kind setup 0 item.moment own).value
  sounds = ((sound_own_turns setup set_up).happening item.kind item.moment own s.sound).0

  Happens : DueItem → Type 0
  Happens i = i.moment ≤ until → OwnSound (happened_under i.kind setup 0 i.moment own).value → OwnGood (OwnStands setup until) (Own until) (Logged setup until) log (happened_under i.kind setup 0 i.moment own)

  of_command : (message : InFlight) → own.pending ≡ Some message → message.due ≤ until → OwnSound (happened_under Resend setup 0 message.due own).value
      → OwnGood (OwnStands setup until) (Own until) (Logged setup until) log (happened_under Resend setup 0 message.due own)
  of_command message pending by sound =
      own_turn setup until log (resent_on setup 0 message.due own) sound (resent_good setup until log 0 message.due own message pending refl by logged s.post)

  of_announcement : (moment : ℕ) → moment ≤ until → OwnSound (happened_under Announce setup 0 moment own).value
      → OwnGood (OwnStands setup until) (Own until) (Logged setup until) log (happened_under Announce setup 0 moment own)
  of_announcement moment by sound =
      own_turn setup until log (announced_on setup 0 moment own) sound
      (announcing_good setup until log 0 moment own set_up (omega arith) s.sound.some by logged s.post)

  by_post : OfItsCommand 0 own item ⊎ OfItsAnnouncement 0 own item → OwnGood (OwnStands setup until) (Own until) (Logged setup until) log (happened_under item.kind setup 0 item.moment own)
  by_post (inl of) = subst Happens of.same (λ by sound. of_command of.message of.pending by sound) past sounds
  by_post (inr of) = subst Happens of.same (λ by sound. of_announcement of.until by sound) past sounds

-- A response

responded_good : (setup : Setup) (until : ℕ) → IsSetUp setup → (log : List Begun) (line : ℕ) (response : Response) (endpoint : Endpoint) → Logged setup until log → LineStands setup until log line endpoint
    → GoodTurn setup until log line (responded_on setup line until response endpoint)
unfolding responded_on replied
responded_good setup until set_up log line response endpoint logged s = by_heard (heard_on endpoint.post response) (responded_sound setup set_up line until response endpoint s.sound).0 where
  goes : (heard : Heard) → PostGood setup until log line (replied heard setup line until response endpoint.post)
  goes heard = replied_good heard setup until log line response endpoint.post set_up s.sound.few (some_id line endpoint s.sound) logged s.post

  by_heard : (heard : Heard) → Sound line (responded_as heard setup line until response endpoint).value → GoodTurn setup until log line (responded_as heard setup line until response endpoint)
  by_heard Nothing sound = still setup until log line endpoint logged s
  by_heard PutOff sound = post_turn setup until log line endpoint (replied PutOff setup line until response endpoint.post) sound (goes PutOff)
  by_heard (Redirected agent) sound = post_turn setup until log line endpoint (replied (Redirected agent) setup line until response endpoint.post) sound (goes (Redirected agent))
  by_heard (Answered agent) sound =
      let post : Post = record endpoint.post { entity = unwrap_or agent endpoint.post.entity; pending = None; restart = Serving } in
      noted_good setup until set_up log line until (record endpoint { post = post }) (answered endpoint.line until) (omega arith) logged
      (record {
        sound = record { some = s.sound.some; few = s.sound.few; below = s.sound.below; fine = s.sound.fine; flight = tt };
        post = record { below = s.post.below; counts = s.post.counts; flight = tt };
      })
      (answered_done endpoint.line until s.sound.fine)

own_responded_good : (setup : Setup) (until : ℕ) → IsSetUp setup → (log : List Begun) (response : Response) (own : Post) → Logged setup until log → OwnStands setup until log own
    → OwnGood (OwnStands setup until) (Own until) (Logged setup until) log (replied_on setup 0 until response own)
unfolding replied_on
own_responded_good setup until set_up log response own logged s =
    own_turn setup until log (replied (heard_on own response) setup 0 until response own) (own_responded_sound setup set_up until response own s.sound).0
    (replied_good (heard_on own response) setup until log 0 response own set_up (omega arith) s.sound.some logged s.post)

-- The lines hear of the gateway's answer

redirected_good : (setup : Setup) (until : ℕ) (log : List Begun) (agent : Entity) (line : ℕ) (endpoint : Endpoint) → Logged setup until log → LineStands setup until log line endpoint
    → GoodTurn setup until log line (redirected_on agent line endpoint)
unfolding redirected_on
redirected_good setup until log agent line endpoint logged s =
    still setup until log line (with_entity (Some agent) endpoint) logged (entity_stands setup until log line endpoint (Some agent) s)

opened_good : (setup : Setup) (until : ℕ) → IsSetUp setup → (log : List Begun) (agent : Option Entity) (line : ℕ) (endpoint : Endpoint) → Logged setup until log → LineStands setup until log line endpoint
    → GoodTurn setup until log line (opened_on agent setup until line endpoint)
unfolding opened_on
opened_good setup until set_up log agent line endpoint logged s =
    noted_good setup until set_up log line until (with_entity agent endpoint) (opened endpoint.line until) (omega arith) logged
    (entity_stands setup until log line endpoint agent s) (opened_done endpoint.line until s.sound.fine)

-- A deed

deed_good : (setup : Setup) (until : ℕ) → IsSetUp setup → (command : Command) (confirms : KValue) (target : Target) (deed : Deed)
    → form_of command confirms setup.names ≡ Ok (Does target deed) → (log : List Begun) (line : ℕ) (endpoint : Endpoint) → Logged setup until log → LineStands setup until log line endpoint
    → GoodTurn setup until log line (deed_on setup deed until line endpoint)
unfolding deed_on
deed_good setup until set_up command confirms target deed is log line endpoint logged s =
    let with' = entity_stands setup until log line endpoint deed.entity s in
    noted_good setup until set_up log line until (with_connections deed (with_entity deed.entity endpoint)) (asked_if deed.request endpoint.line until) (omega arith) logged
    (record { sound = record { some = with'.sound.some; few = with'.sound.few; below = with'.sound.below; fine = with'.sound.fine; flight = with'.sound.flight }; post = with'.post })
    (asked_if_done command.params endpoint.line deed.request until (deed_has_values command confirms setup.names target deed is).request s.sound.fine)

pub log_turns : (setup : Setup) (until : ℕ) → IsSetUp setup → LogTurns setup until (LineStands setup until) (OwnStands setup until) (Own until) (Logged setup until)
log_turns setup until set_up = record {
  act = λ log line act endpoint logged s.
      noted_good setup until set_up log line until endpoint (phoned endpoint.line act until) (omega arith) logged s (phoned_done endpoint.line act until s.sound.fine);
  deed = deed_good setup until set_up;
  response = responded_good setup until set_up;
  happening = happening_good setup until set_up;
  redirecting = redirected_good setup until;
  opening = opened_good setup until set_up;
  own_response = own_responded_good setup until set_up;
  own_happening = own_happening_good setup until set_up;
  others = λ log new line endpoint apart s. record { sound = s.sound; post = others_stay setup until log new line endpoint.post apart s.post };
  own_others = λ log new own apart s. record { sound = s.sound; post = others_stay setup until log new 0 own apart s.post };
  more = own_more until;
}
