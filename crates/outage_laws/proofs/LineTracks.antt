-- Where a line is with its commands, where each response is an answer: which one is in flight, or was given up last, and what it sent of
-- it. So does each turn of the line leave it.
use Rattle.std.proofs.Common.{◌≡◌, ◌≢◌, ℕ, ◌+◌, ◌<◌, ◌≤◌, Bool, true, false, ◌==◌, if◌then◌else◌, List, [], ◌∷◌, ◌++◌, Option, Some, None, inl, inr, refl, sym, ap, ◌∙◌, subst, arith, append-nil}
use Rattle.std.specs.Prelude.{◌⊎◌, IfSome}
use Rattle.std.specs.Option.{unwrap_or}
use Rattle.std.proofs.lemmas.Bool.{eqb-true}
use Rattle.std.proofs.lemmas.Option.{none-some}
use Rattle.std.specs.declared.net.socket_addr.SocketAddrV4.{SocketAddrV4}
use Rattle.endpoint_names.specs.declared.entity.Entity.{Entity}
use Rattle.endpoint_names.specs.declared.route.Route.{Route}
use Rattle.mgcp_text.specs.Writing.{written}
use Rattle.mg_line.specs.declared.phone.Act.{Act}
use Rattle.mg_line.specs.State.TheVariants.{Notification}
use Rattle.mg_line.specs.Line.{LineDone, Notice}
use Rattle.mg_line.specs.Acting.{phoned}
use Rattle.mg_line.specs.Answering.{answered}
use Rattle.mg_line.specs.Opening.{opened}
use Rattle.mg_line.specs.Falling.{fired}
use Rattle.mg_line.specs.Laws.{AwaitsIfNotified}
use Rattle.mg_line.proofs.OnceLemmas.{notifies_once}
use Rattle.retransmission.specs.declared.repeat.Repeat.{Repeat}
use Rattle.retransmission.specs.declared.repeat.Repeat.TheVariants.{Sent as SentAgain, GivenUp}
use Rattle.retransmission.specs.declared.reply.Reply.TheVariants.{Stranger}
use Rattle.retransmission.specs.Sends.{most_repeats}
use Rattle.retransmission.specs.Flight.{InFlight, repeat_of, repeated, reply_by, sent_first}
use Rattle.retransmission.proofs.LifeLaws.{repeat_same}
use Rattle.retransmission.specs.declared.restart.Restart.{Restart}
use Rattle.retransmission.specs.declared.restart.Restart.TheVariants.{Waiting, Announced, Serving}
use Rattle.retransmission.specs.declared.heard.Heard.{Heard}
use Rattle.retransmission.specs.declared.heard.Heard.TheVariants.{Nothing}
use Rattle.retransmission.specs.Restarting.{announced_at, heard_of}
use Rattle.timers.specs.declared.due_item.DueItem.{DueItem}
use Rattle.timers.specs.declared.kind.DueKind.TheVariants.{Resend, Announce}
use Rattle.command_forms.specs.declared.forms.Deed.{Deed}
use Rattle.plain_machine.specs.declared.response.Response.{Response}
use Rattle.plain_machine.specs.declared.setup.Setup.{Setup}
use Rattle.plain_machine.specs.declared.endpoint.Endpoint.{Endpoint}
use Rattle.plain_machine.specs.Announcing.{announcement, announced, announced_by, heard_by, heard_on, replied}
use Rattle.plain_machine.specs.Effect.{Effect, silently}
use Rattle.plain_machine.specs.Falling.{due_on, happened_on, if_by, post_due}
use Rattle.plain_machine.specs.Flights.{IsClosed}
use Rattle.plain_machine.specs.Message.{Begun, Sent}
use Rattle.plain_machine.specs.Notifying.{notification, noted, posted, with_notice}
use Rattle.plain_machine.specs.Posting.{id_on, repeated_as, resent_by, wait_of}
use Rattle.plain_machine.specs.Requesting.{asked_if, deed_on, with_connections, with_entity}
use Rattle.plain_machine.specs.Responding.{opened_on, redirected_on, responded_as, responded_on}
use Rattle.plain_machine.proofs.FirstLemmas.{FirstBy, OfItsAnnouncement, OfItsCommand, OfItsLine, announcement_by, command_by, due_cases, post_by, post_cases}
use Rattle.machine_laws.specs.Saying.{begun_at, begun_in}
use Rattle.machine_laws.proofs.FlightLaws.{WaitsOn, asked_waits, fired_waits, phoned_waits, asked_awaits, noted_silent}
use Rattle.world_laws.specs.Landing.{is_final}
use Rattle.world_laws.specs.Copies.{answer_wait}
use Rattle.world_laws.proofs.LineLaws.{heard_is}
use Rattle.world_laws.proofs.OnTurns.{IsIt, IsOn, WentOut, all_out, its_sends, on_again, on_begins, on_more, went_on, Rests, answer_begins, flight_waits, rests_again, rests_is, rests_on}
use Rattle.world_laws.proofs.PostedLemmas.{SaysAt}
use Rattle.told_laws.proofs.LineEvents.{TurnKeeps, TurnsAt}
use Rattle.outage_laws.proofs.OldestServes.{IsStretch, order_on, stretch_begins, stretch_on}
use Rattle.outage_laws.proofs.TrackLemmas.{last_due, none_by}

-- a response that is an answer, and not 521
abbrev pub IsPlainResponse : Response → Type 0
IsPlainResponse response = (is_final response.code ≡ true) × (response.code ≢ 521)

-- what falls due does so behind this moment; or at any time

abbrev pub Behind : ℕ → ℕ → Type 0
Behind now due = now < due

abbrev pub Anytime : ℕ → Type 0
Anytime due = Unit {0}

later_past : (first now later : ℕ) → first ≤ now → now ≤ later → first ≤ later
later_past first now later past on = omega (arith, past, on)

over_past : (first now later : ℕ) → first + answer_wait ≤ now → now ≤ later → first + answer_wait ≤ later
over_past first now later over on = omega (arith, over, on)

given_up_over : (due first moment now : ℕ) → due ≡ first + answer_wait → first ≡ moment → due ≤ now → moment + answer_wait ≤ now
given_up_over due first moment now last is by = omega (arith, last, is, by)

waits_until : (due first moment wait : ℕ) → due ≡ first + answer_wait → first ≡ moment → due + wait ≡ moment + answer_wait + wait
waits_until due first moment wait last is = omega (arith, last, is)

module _ (setup : Setup) (line : ℕ) where
  -- what is in flight, which began behind these; what falls due does so as Up says
  pub record Flies (Up : ℕ → Type 0) (sent old : List Sent) (now : ℕ) (flight : InFlight) : Type 0 where
    pub b : Begun
    pub mine : List Sent
    pub order : sent ≡ old ++ mine
    pub stretch : IsStretch mine b
    pub is : IsIt b flight
    pub on : IsOn mine flight
    pub past : flight.first ≤ now
    pub up : Up flight.due

  -- what was given up last: all its sends went out, and the line is to announce itself at this moment
  pub record IsGivenUp (sent : List Sent) (now until : ℕ) : Type 0 where
    pub b : Begun
    pub old : List Sent
    pub mine : List Sent
    pub order : sent ≡ old ++ mine
    pub stretch : IsStretch mine b
    pub went : WentOut mine b.text b.moment most_repeats
    pub over : b.moment + answer_wait ≤ now
    pub begins : until ≡ b.moment + answer_wait + wait_of setup line

  pub record Announces (Up : ℕ → Type 0) (sent : List Sent) (now : ℕ) (pending : Option InFlight) : Type 0 where
    pub flight : InFlight
    pub flies : pending ≡ Some flight
    pub old : List Sent
    pub its : Flies Up sent old now flight
    pub before : IsGivenUp old now flight.first

  pub record Waits (Up : ℕ → Type 0) (sent : List Sent) (now until : ℕ) (pending : Option InFlight) : Type 0 where
    pub none : pending ≡ None
    pub before : IsGivenUp sent now until
    pub up : Up until

  abbrev pub FliesSo : (ℕ → Type 0) → List Sent → ℕ → InFlight → Type 0
  FliesSo Up sent now flight = (old : List Sent) × Flies Up sent old now flight

  abbrev pub TracksBy : (ℕ → Type 0) → List Sent → ℕ → Restart → Option InFlight → Type 0
  TracksBy Up sent now (Waiting until) pending = Waits Up sent now until pending
  TracksBy Up sent now Announced pending = Announces Up sent now pending
  TracksBy Up sent now Serving pending = IfSome pending (FliesSo Up sent now)

  pub record LineTracks (Up : ℕ → Type 0) (now : ℕ) (sent : List Sent) (endpoint : Endpoint) : Type 0 where
    pub rests : Rests endpoint.post.restart endpoint.post.pending endpoint.line.state
    pub tracks : TracksBy Up sent now endpoint.post.restart endpoint.post.pending

  -- More is sent that begins nothing, and time goes on

  module _ (Up Next : ℕ → Type 0) (up : (due : ℕ) → Up due → Next due) (sent more : List Sent) (none : begun_in more ≡ []) (now later : ℕ) (past : now ≤ later) where
    flies_on : (old : List Sent) (flight : InFlight) → Flies Up sent old now flight → Flies Next (sent ++ more) old later flight
    flies_on old flight f = record {
      b = f.b;
      mine = f.mine ++ more;
      order = order_on sent old f.mine more f.order;
      stretch = stretch_on f.mine more f.b none f.stretch;
      is = f.is;
      on = on_more f.mine more flight f.on;
      past = later_past flight.first now later f.past past;
      up = up flight.due f.up;
    }

    given_up_on : (until : ℕ) → IsGivenUp sent now until → IsGivenUp (sent ++ more) later until
    given_up_on until g = record {
      b = g.b;
      old = g.old;
      mine = g.mine ++ more;
      order = order_on sent g.old g.mine more g.order;
      stretch = stretch_on g.mine more g.b none g.stretch;
      went = went_on g.mine more g.b.text g.b.moment most_repeats g.went;
      over = over_past g.b.moment now later g.over past;
      begins = g.begins;
    }

    still_given_up : (until : ℕ) (old : List Sent) → IsGivenUp old now until → IsGivenUp old later until
    still_given_up until old g = record {
      b = g.b;
      old = g.old;
      mine = g.mine;
      order = g.order;
      stretch = g.stretch;
      went = g.went;
      over = over_past g.b.moment now later g.over past;
      begins = g.begins;
    }

    pending_on : (pending : Option InFlight) → IfSome pending (FliesSo Up sent now) → IfSome pending (FliesSo Next (sent ++ more) later)
    pending_on None f = tt
    pending_on (Some flight) f = (f.0, flies_on f.0 flight f.1)

    by_on : (restart : Restart) (pending : Option InFlight) → TracksBy Up sent now restart pending → TracksBy Next (sent ++ more) later restart pending
    by_on (Waiting until) pending w = record { none = w.none; before = given_up_on until w.before; up = up until w.up }
    by_on Announced pending a = record {
      flight = a.flight;
      flies = a.flies;
      old = a.old;
      its = flies_on a.old a.flight a.its;
      before = still_given_up a.flight.first a.old a.before;
    }
    by_on Serving pending f = pending_on pending f

    pub tracks_on : (endpoint : Endpoint) → LineTracks Up now sent endpoint → LineTracks Next later (sent ++ more) endpoint
    tracks_on endpoint t = record { rests = t.rests; tracks = by_on endpoint.post.restart endpoint.post.pending t.tracks }

  -- A turn at a moment, which is no later than now; what begins then falls due as Up says

  module _ (Up : ℕ → Type 0) (moment now : ℕ) (past : moment ≤ now) (soon : Up (moment + 500)) where
    abbrev Kept : List Sent → Effect Endpoint → Type 0
    Kept sent turn = TurnKeeps (LineTracks Up now) sent turn

    same : (due : ℕ) → Up due → Up due
    same due is = is

    silent_on : (sent : List Sent) (endpoint : Endpoint) → LineTracks Up now sent endpoint → LineTracks Up now (sent ++ []) endpoint
    silent_on sent endpoint t = tracks_on Up Up same sent [] refl now now (omega arith) endpoint t

    -- one begins
    begins_flies : (sent : List Sent) (one : Sent) (id : ℕ) (route : Route SocketAddrV4) (text : List ℕ) → begun_at one ≡ (record { id = id; moment = moment; text = text }) ∷ [] → SaysAt text moment one
        → Flies Up (sent ++ one ∷ []) sent now (sent_first id route text moment)
    begins_flies sent one id route text is says = record {
      b = record { id = id; moment = moment; text = text };
      mine = one ∷ [];
      order = refl;
      stretch = stretch_begins one (record { id = id; moment = moment; text = text }) is;
      is = record { id = refl; first = refl; text = refl };
      on = on_begins [] one id route text moment says;
      past = past;
      up = soon;
    }

    -- while it waits for an answer nothing is told
    waits_tracks : (sent : List Sent) (endpoint : Endpoint) (done : LineDone) → WaitsOn done → LineTracks Up now sent endpoint → Kept sent (noted setup line moment endpoint done)
    waits_tracks sent endpoint done on t =
        let on_so = silent_on sent endpoint t in
        let still : Kept sent (silently (record endpoint { line = done.line })) = record {
          rests = rests_on endpoint.post.restart endpoint.post.pending endpoint.line.state done.line.state t.rests on.state;
          tracks = on_so.tracks;
        } in
        subst (Kept sent) (sym (noted_silent setup line moment endpoint done on.silent)) still

    -- else something may be
    free_tracks : (sent : List Sent) (endpoint : Endpoint) (done : LineDone) → endpoint.post.restart ≡ Serving → endpoint.post.pending ≡ None → AwaitsIfNotified done
        → Kept sent (noted setup line moment endpoint done)
    unfolding noted notification
    free_tracks sent endpoint done serving none awaits = by_notice done.notice awaits where
      by_notice : (notice : Option Notice) → AwaitsIfNotified (record { line = done.line; notice = notice })
          → Kept sent (with_notice setup line moment (record endpoint { line = done.line }) notice)
      by_notice None awaits = record {
        rests = subst (λ (r : Restart). Rests r endpoint.post.pending done.line.state) (sym serving) (subst (λ (p : Option InFlight). Rests Serving p done.line.state) (sym none) tt);
        tracks = subst (λ (r : Restart). TracksBy Up (sent ++ []) now r endpoint.post.pending) (sym serving)
            (subst (λ (p : Option InFlight). TracksBy Up (sent ++ []) now Serving p) (sym none) tt);
      }
      by_notice (Some notice) awaits = record {
        rests = subst (λ (r : Restart). Rests r (with_notice setup line moment (record endpoint { line = done.line }) (Some notice)).value.post.pending done.line.state) (sym serving) awaits.state;
        tracks = subst (λ (r : Restart). TracksBy Up (sent ++ (with_notice setup line moment (record endpoint { line = done.line }) (Some notice)).sent) now r
            (with_notice setup line moment (record endpoint { line = done.line }) (Some notice)).value.post.pending) (sym serving)
            (sent, begins_flies sent _ (id_on line endpoint.post.number) endpoint.post.entity.route (written (notification setup line (id_on line endpoint.post.number) notice)) refl (refl, refl));
      }

    noted_tracks : (sent : List Sent) (endpoint : Endpoint) (done : LineDone) → AwaitsIfNotified done → (endpoint.line.state ≡ Notification → WaitsOn done) → LineTracks Up now sent endpoint
        → Kept sent (noted setup line moment endpoint done)
    noted_tracks sent endpoint done awaits waits t = by_rests (rests_is endpoint.post.restart endpoint.post.pending endpoint.line.state t.rests) where
      by_rests : (endpoint.line.state ≡ Notification) ⊎ ((endpoint.post.restart ≡ Serving) × (endpoint.post.pending ≡ None)) → Kept sent (noted setup line moment endpoint done)
      by_rests (inl is) = waits_tracks sent endpoint done (waits is) t
      by_rests (inr free) = free_tracks sent endpoint done free.0 free.1 awaits

    pub act_tracks : (sent : List Sent) (act : Act) (endpoint : Endpoint) → LineTracks Up now sent endpoint → Kept sent (noted setup line moment endpoint (phoned endpoint.line act moment))
    act_tracks sent act endpoint t = noted_tracks sent endpoint (phoned endpoint.line act moment) (notifies_once.act endpoint.line act moment) (phoned_waits endpoint.line act moment) t

    pub deed_tracks : (sent : List Sent) (deed : Deed) (endpoint : Endpoint) → LineTracks Up now sent endpoint → Kept sent (deed_on setup deed moment line endpoint)
    unfolding deed_on
    deed_tracks sent deed endpoint t =
        noted_tracks sent (with_connections deed (with_entity deed.entity endpoint)) (asked_if deed.request endpoint.line moment)
        (asked_awaits deed.request endpoint.line moment) (asked_waits deed.request endpoint.line moment) (record { rests = t.rests; tracks = t.tracks })

    pub opened_tracks : (sent : List Sent) (agent : Option Entity) (endpoint : Endpoint) → IsClosed endpoint → Kept sent (opened_on agent setup moment line endpoint)
    unfolding opened_on
    opened_tracks sent agent endpoint closed =
        free_tracks sent (with_entity agent endpoint) (opened endpoint.line moment) closed.restart closed.pending (notifies_once.serving endpoint.line moment)

    pub redirected_tracks : (sent : List Sent) (agent : Entity) (endpoint : Endpoint) → LineTracks Up now sent endpoint → Kept sent (redirected_on agent line endpoint)
    unfolding redirected_on
    redirected_tracks sent agent endpoint t = let on_so = silent_on sent endpoint t in record { rests = t.rests; tracks = on_so.tracks }

    -- A response

    pub responded_tracks : (sent : List Sent) (response : Response) (endpoint : Endpoint) → IsPlainResponse response → LineTracks Up now sent endpoint
        → Kept sent (responded_on setup line moment response endpoint)
    unfolding responded_on replied
    responded_tracks sent response endpoint plain t = by_pending endpoint.post.pending refl where
      silent : heard_on endpoint.post response ≡ Nothing → Kept sent (responded_as (heard_on endpoint.post response) setup line moment response endpoint)
      silent is = subst (λ (h : Heard). Kept sent (responded_as h setup line moment response endpoint)) (sym is) (silent_on sent endpoint t)

      by_test : (flight : InFlight) → endpoint.post.pending ≡ Some flight → (b : Bool) → (flight.id == response.id) ≡ b
          → Kept sent (responded_as (heard_on endpoint.post response) setup line moment response endpoint)
      by_test flight flies true mine =
          let heard = heard_is endpoint.post response flight flies (eqb-true flight.id response.id mine) plain.0 plain.1 in
          let to : Endpoint = record endpoint { post = record endpoint.post { entity = unwrap_or heard.0 endpoint.post.entity; pending = None; restart = Serving } } in
          subst (λ (h : Heard). Kept sent (responded_as h setup line moment response endpoint)) (sym heard.1)
          (free_tracks sent to (answered endpoint.line moment) refl refl (notifies_once.answering endpoint.line moment))
      by_test flight flies false far =
          silent (ap (λ (p : Option InFlight). heard_by p endpoint.post.restart response) flies
          ∙ ap (λ (b : Bool). heard_of endpoint.post.restart (if b then reply_by response.code else Stranger) response.code response.entity) far)

      by_pending : (pending : Option InFlight) → endpoint.post.pending ≡ pending → Kept sent (responded_as (heard_on endpoint.post response) setup line moment response endpoint)
      by_pending None none = silent (ap (λ (p : Option InFlight). heard_by p endpoint.post.restart response) none)
      by_pending (Some flight) flies = by_test flight flies (flight.id == response.id) refl

    -- What falls due of its line

    pub fired_tracks : (sent : List Sent) (item : DueItem) (endpoint : Endpoint) (of : OfItsLine line endpoint item) → of.found.0 ≡ moment → LineTracks Up now sent endpoint
        → Kept sent (happened_on item.kind setup line item.moment endpoint)
    unfolding happened_on
    fired_tracks sent item endpoint of is t =
        subst (λ (i : DueItem). Kept sent (happened_on i.kind setup line i.moment endpoint)) of.same
        (subst (λ (m : ℕ). Kept sent (noted setup line m endpoint (fired endpoint.line of.found.1 m))) (sym is)
        (noted_tracks sent endpoint (fired endpoint.line of.found.1 moment) (notifies_once.firing endpoint.line of.found.1 moment) (fired_waits endpoint.line of.found.1 moment) t))

  -- At the clock

  soon_behind : (now : ℕ) → now < now + 500
  soon_behind now = omega arith

  pub now_turns : (now : ℕ) → TurnsAt setup line now IsPlainResponse (LineTracks (Behind now) now)
  now_turns now = record {
    act = λ sent act endpoint t. act_tracks (Behind now) now now (omega arith) (soon_behind now) sent act endpoint t;
    deed = λ sent deed endpoint t. deed_tracks (Behind now) now now (omega arith) (soon_behind now) sent deed endpoint t;
    response = λ sent response endpoint plain t. responded_tracks (Behind now) now now (omega arith) (soon_behind now) sent response endpoint plain t;
    redirecting = λ sent agent endpoint t. redirected_tracks (Behind now) now now (omega arith) (soon_behind now) sent agent endpoint t;
    opening = λ sent agent endpoint closed t. opened_tracks (Behind now) now now (omega arith) (soon_behind now) sent agent endpoint closed;
    answering = λ sent one endpoint is t. tracks_on (Behind now) (Behind now) (λ due up. up) sent (one ∷ []) (answer_begins one is) now now (omega arith) endpoint t;
  }

  -- By a tick

  module _ (moment : ℕ) where
    abbrev Turned : List Sent → Effect Endpoint → Type 0
    Turned sent turn = TurnKeeps (LineTracks Anytime moment) sent turn

    -- it is sent again
    again_flies : (sent old : List Sent) (one : Sent) (flight : InFlight) → begun_in (one ∷ []) ≡ [] → repeat_of flight flight.due ≡ SentAgain → SaysAt flight.text flight.due one
        → Flies Anytime sent old moment flight → Flies Anytime (sent ++ one ∷ []) old moment (repeated flight flight.due)
    again_flies sent old one flight none resends says f =
        let same = repeat_same flight flight.due in record {
          b = f.b;
          mine = f.mine ++ one ∷ [];
          order = order_on sent old f.mine (one ∷ []) f.order;
          stretch = stretch_on f.mine (one ∷ []) f.b none f.stretch;
          is = record { id = same.same_id ∙ f.is.id; first = same.same_start ∙ f.is.first; text = same.same_text ∙ f.is.text };
          on = on_again f.mine one flight resends says f.on;
          past = subst (λ (first : ℕ). first ≤ moment) (sym same.same_start) f.past;
          up = tt;
        }

    -- or given up
    gives_up : (sent old : List Sent) (flight : InFlight) → flight.due ≤ moment → repeat_of flight flight.due ≡ GivenUp → Flies Anytime sent old moment flight
        → IsGivenUp (sent ++ []) moment (flight.due + wait_of setup line)
    gives_up sent old flight by up f =
        subst (λ (x : List Sent). IsGivenUp x moment (flight.due + wait_of setup line)) (sym (append-nil sent)) (record {
          b = f.b;
          old = old;
          mine = f.mine;
          order = f.order;
          stretch = f.stretch;
          went = its_sends f.mine f.b flight most_repeats f.is (all_out f.mine flight up f.on);
          over = given_up_over flight.due flight.first f.b.moment moment (last_due setup f.mine flight f.on up) f.is.first by;
          begins = waits_until flight.due flight.first f.b.moment (wait_of setup line) (last_due setup f.mine flight f.on up) f.is.first;
        })

    again_by : (sent : List Sent) (one : Sent) (restart : Restart) (flight : InFlight) → begun_in (one ∷ []) ≡ [] → repeat_of flight flight.due ≡ SentAgain → SaysAt flight.text flight.due one
        → TracksBy Anytime sent moment restart (Some flight) → TracksBy Anytime (sent ++ one ∷ []) moment restart (Some (repeated flight flight.due))
    again_by sent one (Waiting until) flight none resends says w = absurd (none-some flight (sym w.none))
    again_by sent one Announced flight none resends says a =
        let same : a.flight ≡ flight = ap (λ (o : Option InFlight). unwrap_or o flight) (sym a.flies) in record {
          flight = repeated flight flight.due;
          flies = refl;
          old = a.old;
          its = again_flies sent a.old one flight none resends says (subst (Flies Anytime sent a.old moment) same a.its);
          before = subst (λ (first : ℕ). IsGivenUp a.old moment first) (ap (λ (x : InFlight). x.first) same ∙ sym (repeat_same flight flight.due).same_start) a.before;
        }
    again_by sent one Serving flight none resends says f = (f.0, again_flies sent f.0 one flight none resends says f.1)

    flies_by : (sent : List Sent) (restart : Restart) (flight : InFlight) → TracksBy Anytime sent moment restart (Some flight) → FliesSo Anytime sent moment flight
    flies_by sent (Waiting until) flight w = absurd (none-some flight (sym w.none))
    flies_by sent Announced flight a =
        (a.old, subst (Flies Anytime sent a.old moment) (ap (λ (o : Option InFlight). unwrap_or o flight) (sym a.flies)) a.its)
    flies_by sent Serving flight f = f

    command_tracks : (sent : List Sent) (endpoint : Endpoint) (flight : InFlight) → endpoint.post.pending ≡ Some flight → flight.due ≤ moment → LineTracks Anytime moment sent endpoint
        → Turned sent (happened_on Resend setup line flight.due endpoint)
    unfolding happened_on
    command_tracks sent endpoint flight flies by t =
        subst (λ (pending : Option InFlight). Turned sent (posted endpoint (resent_by pending setup line flight.due endpoint.post))) (sym flies) (by_repeat (repeat_of flight flight.due) refl) where
          rests : Rests endpoint.post.restart (Some flight) endpoint.line.state
          rests = subst (λ (pending : Option InFlight). Rests endpoint.post.restart pending endpoint.line.state) flies t.rests

          tracks : TracksBy Anytime sent moment endpoint.post.restart (Some flight)
          tracks = subst (TracksBy Anytime sent moment endpoint.post.restart) flies t.tracks

          by_repeat : (repeat : Repeat) → repeat_of flight flight.due ≡ repeat → Turned sent (posted endpoint (repeated_as repeat setup line flight.due endpoint.post flight))
          by_repeat SentAgain resends = record {
            rests = rests_again endpoint.post.restart flight (repeated flight flight.due) endpoint.line.state rests;
            tracks = again_by sent _ endpoint.post.restart flight refl resends (refl, refl) tracks;
          }
          by_repeat GivenUp up =
              let its = flies_by sent endpoint.post.restart flight tracks in record {
                rests = (refl, flight_waits endpoint.post.restart flight endpoint.line.state rests);
                tracks = record { none = refl; before = gives_up sent its.0 flight by up its.1; up = tt };
              }

    announces_anew : (sent : List Sent) (until : ℕ) (endpoint : Endpoint) → until ≤ moment → endpoint.line.state ≡ Notification → IsGivenUp sent moment until
        → Turned sent (posted endpoint (announced setup line until endpoint.post))
    unfolding announced announcement
    announces_anew sent until endpoint by waits before = record {
      rests = waits;
      tracks = record {
        flight = sent_first (id_on line endpoint.post.number) endpoint.post.entity.route (written (announcement setup line (id_on line endpoint.post.number))) until;
        flies = refl;
        old = sent;
        its = begins_flies Anytime until moment by tt sent _ (id_on line endpoint.post.number) endpoint.post.entity.route
            (written (announcement setup line (id_on line endpoint.post.number))) refl (refl, refl);
        before = before;
      };
    }

    announcement_tracks : (sent : List Sent) (until : ℕ) (endpoint : Endpoint) → endpoint.post.restart ≡ Waiting until → until ≤ moment → LineTracks Anytime moment sent endpoint
        → Turned sent (happened_on Announce setup line until endpoint)
    unfolding happened_on
    announcement_tracks sent until endpoint waits by t =
        let rests : Rests (Waiting until) endpoint.post.pending endpoint.line.state = subst (λ (r : Restart). Rests r endpoint.post.pending endpoint.line.state) waits t.rests in
        let tracks : Waits Anytime sent moment until endpoint.post.pending = subst (λ (r : Restart). TracksBy Anytime sent moment r endpoint.post.pending) waits t.tracks in
        subst (λ (r : Restart). Turned sent (posted endpoint (announced_by r setup line until endpoint.post))) (sym waits) (announces_anew sent until endpoint by rests.1 tracks.before)

    pub happens_tracks : (sent : List Sent) (item : DueItem) (endpoint : Endpoint) → due_on (line, endpoint) ≡ Some item → item.moment ≤ moment → LineTracks Anytime moment sent endpoint
        → Turned sent (happened_on item.kind setup line item.moment endpoint)
    happens_tracks sent item endpoint due by t = by_case (due_cases line endpoint item due) where
      Happens : DueItem → Type 0
      Happens i = Turned sent (happened_on i.kind setup line i.moment endpoint)

      by_post : OfItsCommand line endpoint.post item ⊎ OfItsAnnouncement line endpoint.post item → Happens item
      by_post (inl of) =
          subst Happens of.same (command_tracks sent endpoint of.message of.pending (subst (λ (i : DueItem). i.moment ≤ moment) (sym of.same) by) t)
      by_post (inr of) =
          subst Happens of.same (announcement_tracks sent of.until endpoint of.waits (subst (λ (i : DueItem). i.moment ≤ moment) (sym of.same) by) t)

      by_case : OfItsLine line endpoint item ⊎ (post_due line endpoint.post ≡ Some item) → Happens item
      by_case (inl of) = fired_tracks Anytime of.found.0 moment (subst (λ (i : DueItem). i.moment ≤ moment) (sym of.same) by) tt sent item endpoint of refl t
      by_case (inr is) = by_post (post_cases line endpoint.post item is)

    -- and then nothing is due until behind it
    due_behind : (endpoint : Endpoint) (due : ℕ) → if_by moment (due_on (line, endpoint)) ≡ None → FirstBy (due_on (line, endpoint)) due → moment < due
    due_behind endpoint due none first =
        let later : moment < first.item.moment = none_by setup moment first.item (sym (ap (if_by moment) first.is) ∙ none) in
        let before : first.item.moment ≤ due = first.before in
        omega (arith, later, before)

    flight_behind : (endpoint : Endpoint) (flight : InFlight) → if_by moment (due_on (line, endpoint)) ≡ None → endpoint.post.pending ≡ Some flight → moment < flight.due
    flight_behind endpoint flight none flies =
        due_behind endpoint flight.due none (post_by line endpoint flight.due (command_by line endpoint.post flight flight.due flies (omega arith)))

    wait_behind : (endpoint : Endpoint) (until : ℕ) → if_by moment (due_on (line, endpoint)) ≡ None → endpoint.post.restart ≡ Waiting until → moment < until
    wait_behind endpoint until none waits =
        due_behind endpoint until none (post_by line endpoint until (announcement_by line endpoint.post until until (ap (λ (r : Restart). announced_at r) waits) (omega arith)))

    flies_rested : (sent old : List Sent) (flight : InFlight) → moment < flight.due → Flies Anytime sent old moment flight → Flies (Behind moment) sent old moment flight
    flies_rested sent old flight behind f =
        record { b = f.b; mine = f.mine; order = f.order; stretch = f.stretch; is = f.is; on = f.on; past = f.past; up = behind }

    by_rested : (sent : List Sent) (restart : Restart) (pending : Option InFlight) → ((until : ℕ) → restart ≡ Waiting until → moment < until)
        → ((flight : InFlight) → pending ≡ Some flight → moment < flight.due) → TracksBy Anytime sent moment restart pending → TracksBy (Behind moment) sent moment restart pending
    by_rested sent (Waiting until) pending waits flies w = record { none = w.none; before = w.before; up = waits until refl }
    by_rested sent Announced pending waits flies a =
        record { flight = a.flight; flies = a.flies; old = a.old; its = flies_rested sent a.old a.flight (flies a.flight a.flies) a.its; before = a.before }
    by_rested sent Serving None waits flies f = tt
    by_rested sent Serving (Some flight) waits flies f = (f.0, flies_rested sent f.0 flight (flies flight refl) f.1)

    pub rested : (sent : List Sent) (endpoint : Endpoint) → LineTracks Anytime moment sent endpoint → if_by moment (due_on (line, endpoint)) ≡ None → LineTracks (Behind moment) moment sent endpoint
    rested sent endpoint t none = record {
      rests = t.rests;
      tracks = by_rested sent endpoint.post.restart endpoint.post.pending (λ until waits. wait_behind endpoint until none waits) (λ flight flies. flight_behind endpoint flight none flies) t.tracks;
    }

  -- it begins a tick
  pub anytime : (now moment : ℕ) (sent : List Sent) (endpoint : Endpoint) → now ≤ moment → LineTracks (Behind now) now sent endpoint → LineTracks Anytime moment sent endpoint
  anytime now moment sent endpoint past t =
      subst (λ (x : List Sent). LineTracks Anytime moment x endpoint) (append-nil sent) (tracks_on (Behind now) Anytime (λ due up. tt) sent [] refl now moment past endpoint t)

  -- a line that has nothing in flight and nothing to announce
  pub none_tracks : (now : ℕ) (endpoint : Endpoint) → endpoint.post.restart ≡ Serving → endpoint.post.pending ≡ None → LineTracks (Behind now) now [] endpoint
  none_tracks now endpoint serving none = record {
    rests = subst (λ (r : Restart). Rests r endpoint.post.pending endpoint.line.state) (sym serving) (subst (λ (p : Option InFlight). Rests Serving p endpoint.line.state) (sym none) tt);
    tracks = subst (λ (r : Restart). TracksBy (Behind now) [] now r endpoint.post.pending) (sym serving) (subst (λ (p : Option InFlight). TracksBy (Behind now) [] now Serving p) (sym none) tt);
  }
