-- Where the gateway itself is with its announcements while none is answered: by their starts, one behind the other, and what went out.
use Rattle.std.proofs.Common.{◌≡◌, ℕ, Option, Some, None, ap, ◌∙◌, zero, suc, ◌+◌, ◌-◌, ◌<◌, ◌≤◌, Bool, true, false, if◌then◌else◌, List, [], ◌∷◌, ◌++◌, inl, inr, refl, sym, subst, arith, append-nil, append_assoc}
use Rattle.std.specs.Prelude.{option_map, ◌⊎◌, nat_le}
use Rattle.retransmission.specs.Flight.{InFlight, repeat_of, repeated, sent_first}
use Rattle.retransmission.specs.Restarting.{announced_at}
use Rattle.timers.specs.Order.{earlier}
use Rattle.plain_machine.specs.declared.post.Post.{Post}
use Rattle.plain_machine.specs.Falling.{announcement_item, command_item, post_due, happened_under, if_by}
use Rattle.std.specs.Option.{unwrap_or}
use Rattle.std.proofs.lemmas.Bool.{leb-true, leb-false}
use Rattle.std.proofs.lemmas.Option.{none-some}
use Rattle.mgcp_text.specs.Writing.{written}
use Rattle.retransmission.specs.declared.repeat.Repeat.{Repeat}
use Rattle.retransmission.specs.declared.repeat.Repeat.TheVariants.{Sent as SentAgain, GivenUp}
use Rattle.retransmission.specs.Sends.{most_repeats, sending_time}
use Rattle.retransmission.proofs.LifeLaws.{repeat_same}
use Rattle.retransmission.specs.declared.restart.Restart.{Restart}
use Rattle.retransmission.specs.declared.restart.Restart.TheVariants.{Waiting, Announced}
use Rattle.timers.specs.declared.due_item.DueItem.{DueItem}
use Rattle.timers.specs.declared.kind.DueKind.TheVariants.{Resend, Announce}
use Rattle.plain_machine.specs.declared.setup.Setup.{Setup}
use Rattle.plain_machine.specs.Announcing.{announcement}
use Rattle.plain_machine.specs.Effect.{Effect, silently}
use Rattle.plain_machine.specs.Machine.{opening}
use Rattle.plain_machine.specs.Message.{Begun, Sent}
use Rattle.plain_machine.specs.Posting.{id_on, number_after, repeated_as, resent_by, wait_of, with_command}
use Rattle.machine_laws.specs.Passing.{PassesAlone, goes_on, own_happens, rests}
use Rattle.machine_laws.specs.Saying.{OneOf, begun_in}
use Rattle.machine_laws.proofs.AnnouncementLaws.{waits_anew, waits_due, waits_sent}
use Rattle.machine_laws.proofs.EachLemmas.{Each, each_both, one_before, one_behind}
use Rattle.world_laws.specs.Copies.{answer_wait}
use Rattle.world_laws.proofs.ChanceLemmas.{offset_low}
use Rattle.world_laws.proofs.OnTurns.{IsIt, IsOn, WentOut, all_out, its_sends, on_again, on_begins, on_more, went_on, begun_both}
use Rattle.world_laws.proofs.PassLaws.{given_up, offset, offset_last}

-- What a response that is no answer does to what is in flight, and what 521 does.

pub falls_due : (line : ℕ) (post : Post) (message : InFlight) → post.pending ≡ Some message → announced_at post.restart ≡ None → post_due line post ≡ Some (command_item line message)
unfolding post_due
falls_due line post message flies none =
    ap (λ (pending : Option InFlight). earlier (option_map (command_item line) pending) (option_map (announcement_item line) (announced_at post.restart))) flies
    ∙ ap (λ (at : Option ℕ). earlier (Some (command_item line message)) (option_map (announcement_item line) at)) none

-- The announcements, where none is answered

-- when each begins
unfoldable pub start_of : Setup → ℕ → ℕ
start_of setup zero = 0 + wait_of setup 0
start_of setup (suc k) = start_of setup k + answer_wait + wait_of setup 0

-- its number
unfoldable pub number_of : Setup → ℕ → ℕ
number_of setup zero = (opening setup).endpoints.own.number
number_of setup (suc k) = number_after 0 (number_of setup k)

abbrev pub numbered : Setup → ℕ → ℕ → Begun
numbered setup number moment = record { id = id_on 0 number; moment = moment; text = written (announcement setup 0 (id_on 0 number)) }

abbrev pub announcement_at : Setup → ℕ → Begun
announcement_at setup k = numbered setup (number_of setup k) (start_of setup k)

pub start_next : (setup : Setup) (k : ℕ) → start_of setup (suc k) ≡ start_of setup k + answer_wait + setup.restart_wait
unfolding start_of
start_next setup k = refl

pub start_first : (setup : Setup) → start_of setup 0 ≡ 0 + setup.restart_wait
unfolding start_of
start_first setup = refl

number_next : (setup : Setup) (k : ℕ) → number_of setup (suc k) ≡ number_after 0 (number_of setup k)
unfolding number_of
number_next setup k = refl

-- one behind the other
pub start_rises : (setup : Setup) (j k : ℕ) → j < k → start_of setup j + answer_wait ≤ start_of setup k
start_rises setup j zero less = absurd (omega (arith, less))
start_rises setup j (suc k) less = by_test (nat_le (suc j) k) refl (λ low. start_rises setup j k low) where
  next : start_of setup (suc k) ≡ start_of setup k + answer_wait + setup.restart_wait
  next = start_next setup k

  by_test : (b : Bool) → nat_le (suc j) k ≡ b → (j < k → start_of setup j + answer_wait ≤ start_of setup k) → start_of setup j + answer_wait ≤ start_of setup (suc k)
  by_test true low on =
      let few : suc j ≤ k = leb-true (suc j) k low in
      let more : start_of setup j + answer_wait ≤ start_of setup k = on (omega (arith, few)) in
      omega (arith, more, next)
  by_test false high on =
      let many : k < suc j = leb-false (suc j) k high in
      let same : k ≡ j = omega (arith, many, less) in
      let at : start_of setup k ≡ start_of setup j = ap (start_of setup) same in
      omega (arith, at, next)

-- Where the gateway is

module _ (setup : Setup) where
  -- all sends of this one went out, so many of them
  pub record Went (sent : List Sent) (k until : ℕ) : Type 0 where
    pub out : WentOut sent (announcement_at setup k).text (announcement_at setup k).moment until
    pub begun : OneOf (λ (one : Begun). one ≡ announcement_at setup k) (begun_in sent)

  abbrev pub AllWent : List Sent → ℕ → Type 0
  AllWent sent k = (j : ℕ) → j < k → Went sent j most_repeats

  -- all before are over
  abbrev pub AllOver : ℕ → ℕ → Type 0
  AllOver k now = (j : ℕ) → j < k → start_of setup j + answer_wait ≤ now

  -- it waits for the next, which begins behind now, as Up says
  pub record IsWaiting (Up : ℕ → Type 0) (sent : List Sent) (now : ℕ) (own : Post) : Type 0 where
    pub k : ℕ
    pub number : own.number ≡ number_of setup k
    pub none : own.pending ≡ None
    pub waits : own.restart ≡ Waiting (start_of setup k)
    pub went : AllWent sent k
    pub over : AllOver k now
    pub up : Up (start_of setup k)

  -- or that is in flight
  pub record IsFlying (Up : ℕ → Type 0) (sent : List Sent) (now : ℕ) (own : Post) : Type 0 where
    pub k : ℕ
    pub number : own.number ≡ number_of setup (suc k)
    pub flight : InFlight
    pub flies : own.pending ≡ Some flight
    pub announces : own.restart ≡ Announced
    pub is : IsIt (announcement_at setup k) flight
    pub on : IsOn sent flight
    pub begun : OneOf (λ (one : Begun). one ≡ announcement_at setup k) (begun_in sent)
    pub past : flight.first ≤ now
    pub went : AllWent sent k
    pub over : AllOver k now
    pub up : Up flight.due

  abbrev pub Tracked : (ℕ → Type 0) → List Sent → ℕ → Post → Type 0
  Tracked Up sent now own = IsWaiting Up sent now own ⊎ IsFlying Up sent now own

  -- more is sent

  begun_on : (sent more : List Sent) (b : Begun) → OneOf (λ (one : Begun). one ≡ b) (begun_in sent) → OneOf (λ (one : Begun). one ≡ b) (begun_in (sent ++ more))
  begun_on sent more b one = subst (OneOf (λ (one : Begun). one ≡ b)) (sym (begun_both sent more)) (one_before (λ (one : Begun). one ≡ b) (begun_in sent) (begun_in more) one)

  begun_with : (sent : List Sent) (one : Sent) (b : Begun) → begun_in (one ∷ []) ≡ b ∷ [] → (a : Begun) → b ≡ a → OneOf (λ (x : Begun). x ≡ a) (begun_in (sent ++ one ∷ []))
  begun_with sent one b is a same =
      subst (OneOf (λ (x : Begun). x ≡ a)) (sym (begun_both sent (one ∷ [])))
      (one_behind (λ (x : Begun). x ≡ a) (begun_in sent) (begun_in (one ∷ [])) (subst (OneOf (λ (x : Begun). x ≡ a)) (sym is) (inl same)))

  went_more : (sent more : List Sent) (k until : ℕ) → Went sent k until → Went (sent ++ more) k until
  went_more sent more k until went = record {
    out = went_on sent more (announcement_at setup k).text (announcement_at setup k).moment until went.out;
    begun = begun_on sent more (announcement_at setup k) went.begun;
  }

  pub tracked_on : (Up Next : ℕ → Type 0) → ((due : ℕ) → Up due → Next due) → (sent more : List Sent) (now later : ℕ) → now ≤ later → (own : Post) → Tracked Up sent now own
      → Tracked Next (sent ++ more) later own
  tracked_on Up Next up sent more now later past own (inl w) = inl (record {
    k = w.k;
    number = w.number;
    none = w.none;
    waits = w.waits;
    went = λ j less. went_more sent more j most_repeats (w.went j less);
    over = λ j less. (let was = w.over j less in omega (arith, was, past));
    up = up (start_of setup w.k) w.up;
  })
  tracked_on Up Next up sent more now later past own (inr f) = inr (record {
    k = f.k;
    number = f.number;
    flight = f.flight;
    flies = f.flies;
    announces = f.announces;
    is = f.is;
    on = on_more sent more f.flight f.on;
    begun = begun_on sent more (announcement_at setup f.k) f.begun;
    past = (let was = f.past in omega (arith, was, past));
    went = λ j less. went_more sent more j most_repeats (f.went j less);
    over = λ j less. (let was = f.over j less in omega (arith, was, past));
    up = up f.flight.due f.up;
  })

  -- What falls due

  abbrev pub Anytime : ℕ → Type 0
  Anytime due = Unit {0}

  announces_so : (own : Post) (until : ℕ) → own.restart ≡ Waiting until
      → happened_under Announce setup 0 until own ≡ with_command 0 until (record own { restart = Announced }) (announcement setup 0 (id_on 0 own.number))
  unfolding happened_under
  announces_so own until waits = waits_sent setup 0 until until own waits

  announce : (sent : List Sent) (moment : ℕ) (own : Post) (w : IsWaiting Anytime sent moment own) → start_of setup w.k ≤ moment
      → let turn = with_command 0 (start_of setup w.k) (record own { restart = Announced }) (announcement setup 0 (id_on 0 own.number)) in Tracked Anytime (sent ++ turn.sent) moment turn.value
  unfolding announcement
  announce sent moment own w by = inr (record {
    k = w.k;
    number = ap (number_after 0) w.number ∙ sym (number_next setup w.k);
    flight = sent_first (id_on 0 own.number) own.entity.route (written (announcement setup 0 (id_on 0 own.number))) (start_of setup w.k);
    flies = refl;
    announces = refl;
    is = record {
      id = ap (id_on 0) w.number;
      first = refl;
      text = ap (λ (n : ℕ). written (announcement setup 0 (id_on 0 n))) w.number;
    };
    on = on_begins sent _ (id_on 0 own.number) own.entity.route (written (announcement setup 0 (id_on 0 own.number))) (start_of setup w.k) (refl, refl);
    begun = begun_with sent _ (numbered setup own.number (start_of setup w.k)) refl (announcement_at setup w.k)
        (ap (λ (n : ℕ). numbered setup n (start_of setup w.k)) w.number);
    past = by;
    went = λ j less. went_more sent _ j most_repeats (w.went j less);
    over = w.over;
    up = tt;
  })

  again_so : (own : Post) (flight : InFlight) → own.pending ≡ Some flight → repeat_of flight flight.due ≡ SentAgain
      → happened_under Resend setup 0 flight.due own ≡ repeated_as SentAgain setup 0 flight.due own flight
  unfolding happened_under
  again_so own flight flies again =
      ap (λ (pending : Option InFlight). resent_by pending setup 0 flight.due own) flies ∙ ap (λ (repeat : Repeat). repeated_as repeat setup 0 flight.due own flight) again

  again : (sent : List Sent) (moment : ℕ) (own : Post) (f : IsFlying Anytime sent moment own) → repeat_of f.flight f.flight.due ≡ SentAgain
      → let turn = repeated_as SentAgain setup 0 f.flight.due own f.flight in Tracked Anytime (sent ++ turn.sent) moment turn.value
  again sent moment own f resends =
      let same = repeat_same f.flight f.flight.due in inr (record {
        k = f.k;
        number = f.number;
        flight = repeated f.flight f.flight.due;
        flies = refl;
        announces = f.announces;
        is = record { id = same.same_id ∙ f.is.id; first = same.same_start ∙ f.is.first; text = same.same_text ∙ f.is.text };
        on = on_again sent _ f.flight resends (refl, refl) f.on;
        begun = begun_on sent _ (announcement_at setup f.k) f.begun;
        past = subst (λ (first : ℕ). first ≤ moment) (sym same.same_start) f.past;
        went = λ j less. went_more sent _ j most_repeats (f.went j less);
        over = f.over;
        up = tt;
      })

  -- one that is given up is due at its end
  pub last_due : (sent : List Sent) (flight : InFlight) → IsOn sent flight → repeat_of flight flight.due ≡ GivenUp → flight.due ≡ flight.first + answer_wait
  last_due sent flight on up = by_case (given_up flight flight.due up) where
    most : flight.repeats ≤ most_repeats
    most = on.few

    at_last : most_repeats ≤ flight.repeats → flight.due ≡ flight.first + answer_wait
    at_last many =
        let all : flight.repeats + 1 ≡ most_repeats + 1 = omega (arith, many, most) in
        let at : offset (flight.repeats + 1) ≡ answer_wait = ap offset all ∙ offset_last in
        let next : flight.due ≡ flight.first + offset (flight.repeats + 1) = on.next in
        omega (arith, at, next)

    by_few : (x : Bool) → nat_le most_repeats flight.repeats ≡ x → sending_time ≤ flight.due - flight.first → flight.due ≡ flight.first + answer_wait
    by_few true many late = at_last (leb-true most_repeats flight.repeats many)
    by_few false fewer late =
        absurd (
        let less : flight.repeats < most_repeats = leb-false most_repeats flight.repeats fewer in
        let low = offset_low flight.repeats less in
        let next : flight.due ≡ flight.first + offset (flight.repeats + 1) = on.next in
        omega (arith, late, low, next))

    by_case : (most_repeats ≤ flight.repeats) ⊎ (sending_time ≤ flight.due - flight.first) → flight.due ≡ flight.first + answer_wait
    by_case (inl many) = at_last many
    by_case (inr late) = by_few (nat_le most_repeats flight.repeats) refl late

  gives_up : (sent : List Sent) (moment : ℕ) (own : Post) (f : IsFlying Anytime sent moment own) → f.flight.due ≤ moment → repeat_of f.flight f.flight.due ≡ GivenUp
      → Tracked Anytime (sent ++ []) moment (record own { pending = None; restart = Waiting (f.flight.due + wait_of setup 0) })
  gives_up sent moment own f by up = inl (record {
    k = suc f.k;
    number = f.number;
    none = refl;
    waits = ap (λ (until : ℕ). Waiting until) begins;
    went = λ j less. went_more sent [] j most_repeats (each j less);
    over = λ j less. each_over j less;
    up = tt;
  }) where
    due : f.flight.due ≡ start_of setup f.k + answer_wait
    due =
        let last : f.flight.due ≡ f.flight.first + answer_wait = last_due sent f.flight f.on up in
        let first : f.flight.first ≡ start_of setup f.k = f.is.first in
        omega (arith, last, first)

    begins : f.flight.due + wait_of setup 0 ≡ start_of setup (suc f.k)
    begins =
        let next : start_of setup (suc f.k) ≡ start_of setup f.k + answer_wait + setup.restart_wait = start_next setup f.k in
        let at = due in
        omega (arith, next, at)

    mine : Went sent f.k most_repeats
    mine = record { out = its_sends sent (announcement_at setup f.k) f.flight most_repeats f.is (all_out sent f.flight up f.on); begun = f.begun }

    same_or : (j : ℕ) (b : Bool) → nat_le (suc j) f.k ≡ b → j < suc f.k → (j < f.k) ⊎ (f.k ≡ j)
    same_or j true low less = inl (let few : suc j ≤ f.k = leb-true (suc j) f.k low in omega (arith, few))
    same_or j false high less = inr (let many : f.k < suc j = leb-false (suc j) f.k high in omega (arith, many, less))

    went_by : (j : ℕ) → (j < f.k) ⊎ (f.k ≡ j) → Went sent j most_repeats
    went_by j (inl less) = f.went j less
    went_by j (inr same) = subst (λ (n : ℕ). Went sent n most_repeats) same mine

    each : (j : ℕ) → j < suc f.k → Went sent j most_repeats
    each j less = went_by j (same_or j (nat_le (suc j) f.k) refl less)

    over_by : (j : ℕ) → (j < f.k) ⊎ (f.k ≡ j) → start_of setup j + answer_wait ≤ moment
    over_by j (inl less) = f.over j less
    over_by j (inr same) =
        let at : start_of setup f.k ≡ start_of setup j = ap (start_of setup) same in
        let last = due in
        omega (arith, at, last, by)

    each_over : (j : ℕ) → j < suc f.k → start_of setup j + answer_wait ≤ moment
    each_over j less = over_by j (same_or j (nat_le (suc j) f.k) refl less)

  -- Up to a moment

  -- what is due by it is what is due first, and no later
  by_item : (moment : ℕ) (first item : DueItem) → if_by moment (Some first) ≡ Some item → (first ≡ item) × (first.moment ≤ moment)
  by_item moment first item e = by_test (nat_le first.moment moment) refl e where
    by_test : (b : Bool) → nat_le first.moment moment ≡ b → (if b then Some first else None) ≡ Some item → (first ≡ item) × (first.moment ≤ moment)
    by_test true low same = (ap (λ (o : Option DueItem). unwrap_or o first) same, leb-true first.moment moment low)
    by_test false high same = absurd (none-some item same)

  pub none_by : (moment : ℕ) (first : DueItem) → if_by moment (Some first) ≡ None → moment < first.moment
  none_by moment first e = by_test (nat_le first.moment moment) refl e where
    by_test : (b : Bool) → nat_le first.moment moment ≡ b → (if b then Some first else None) ≡ None → moment < first.moment
    by_test true low same = absurd (none-some first (sym same))
    by_test false high same = leb-false first.moment moment high

  waiting_due : (sent : List Sent) (moment : ℕ) (own : Post) (w : IsWaiting Anytime sent moment own) → post_due 0 own ≡ Some (announcement_item 0 (start_of setup w.k))
  waiting_due sent moment own w = waits_due 0 (start_of setup w.k) own w.waits w.none

  flying_due : (sent : List Sent) (moment : ℕ) (own : Post) (f : IsFlying Anytime sent moment own) → post_due 0 own ≡ Some (command_item 0 f.flight)
  flying_due sent moment own f = falls_due 0 own f.flight f.flies (ap (λ (r : Restart). announced_at r) f.announces)

  abbrev Turned : List Sent → ℕ → Effect Post → Type 0
  Turned sent moment turn = Tracked Anytime (sent ++ turn.sent) moment turn.value

  gives_so : (own : Post) (flight : InFlight) → own.pending ≡ Some flight → repeat_of flight flight.due ≡ GivenUp
      → happened_under Resend setup 0 flight.due own ≡ silently (record own { pending = None; restart = Waiting (flight.due + wait_of setup 0) })
  unfolding happened_under
  gives_so own flight flies up = waits_anew setup 0 flight.due own flight flies up

  -- one thing happens
  item_happens : (sent : List Sent) (moment : ℕ) (own : Post) (item : DueItem) → Tracked Anytime sent moment own → if_by moment (post_due 0 own) ≡ Some item → Turned sent moment (own_happens setup item own)
  item_happens sent moment own item (inl w) due =
      let is = by_item moment (announcement_item 0 (start_of setup w.k)) item (sym (ap (if_by moment) (waiting_due sent moment own w)) ∙ due) in
      subst (λ (i : DueItem). Turned sent moment (own_happens setup i own)) is.0
      (subst (Turned sent moment) (sym (announces_so own (start_of setup w.k) w.waits)) (announce sent moment own w is.1))
  item_happens sent moment own item (inr f) due =
      let is = by_item moment (command_item 0 f.flight) item (sym (ap (if_by moment) (flying_due sent moment own f)) ∙ due) in
      subst (λ (i : DueItem). Turned sent moment (own_happens setup i own)) is.0 (by_repeat (repeat_of f.flight f.flight.due) refl is.1) where
        by_repeat : (repeat : Repeat) → repeat_of f.flight f.flight.due ≡ repeat → f.flight.due ≤ moment → Turned sent moment (happened_under Resend setup 0 f.flight.due own)
        by_repeat SentAgain is by = subst (Turned sent moment) (sym (again_so own f.flight f.flies is)) (again sent moment own f is)
        by_repeat GivenUp is by = subst (Turned sent moment) (sym (gives_so own f.flight f.flies is)) (gives_up sent moment own f by is)

  -- and then nothing is due until behind it
  rested : (sent : List Sent) (moment : ℕ) (own : Post) → Tracked Anytime sent moment own → if_by moment (post_due 0 own) ≡ None → Tracked (λ (due : ℕ). moment < due) sent moment own
  rested sent moment own (inl w) none = inl (record {
    k = w.k;
    number = w.number;
    none = w.none;
    waits = w.waits;
    went = w.went;
    over = w.over;
    up = none_by moment (announcement_item 0 (start_of setup w.k)) (sym (ap (if_by moment) (waiting_due sent moment own w)) ∙ none);
  })
  rested sent moment own (inr f) none = inr (record {
    k = f.k;
    number = f.number;
    flight = f.flight;
    flies = f.flies;
    announces = f.announces;
    is = f.is;
    on = f.on;
    begun = f.begun;
    past = f.past;
    went = f.went;
    over = f.over;
    up = none_by moment (command_item 0 f.flight) (sym (ap (if_by moment) (flying_due sent moment own f)) ∙ none);
  })

  pub passed : (moment : ℕ) (was : Post) (is : Effect Post) → PassesAlone (post_due 0) (own_happens setup) moment was is → (sent : List Sent) → Tracked Anytime sent moment was
      → Tracked (λ (due : ℕ). moment < due) (sent ++ is.sent) moment is.value
  passed moment was is (rests w t none same) sent s =
      subst (λ (turn : Effect Post). Tracked (λ (due : ℕ). moment < due) (sent ++ turn.sent) moment turn.value) (sym same)
      (subst (λ (x : List Sent). Tracked (λ (due : ℕ). moment < due) x moment was) (sym (append-nil sent)) (rested sent moment was s none))
  passed moment was is (goes_on w item rest t some own same) sent s =
      let turn = own_happens setup item was in
      subst (λ (t : Effect Post). Tracked (λ (due : ℕ). moment < due) (sent ++ t.sent) moment t.value) (sym same)
      (subst (λ (x : List Sent). Tracked (λ (due : ℕ). moment < due) x moment rest.value) (append_assoc sent turn.sent rest.sent)
      (passed moment turn.value rest own (sent ++ turn.sent) (item_happens sent moment was item s some)))

  -- What begins by it

  -- one of them begins
  abbrev pub IsAnnounced : Begun → Type 0
  IsAnnounced b = (j : ℕ) × (b ≡ announcement_at setup j)

  abbrev pub AreAnnounced : Effect Post → Type 0
  AreAnnounced turn = Each IsAnnounced (begun_in turn.sent)

  announced_begins : (own : Post) (k : ℕ) → own.number ≡ number_of setup k
      → AreAnnounced (with_command 0 (start_of setup k) (record own { restart = Announced }) (announcement setup 0 (id_on 0 own.number)))
  unfolding announcement
  announced_begins own k number = ((k, ap (λ (n : ℕ). numbered setup n (start_of setup k)) number), tt)

  item_begins : (sent : List Sent) (moment : ℕ) (own : Post) (item : DueItem) → Tracked Anytime sent moment own → if_by moment (post_due 0 own) ≡ Some item → AreAnnounced (own_happens setup item own)
  item_begins sent moment own item (inl w) due =
      let is = by_item moment (announcement_item 0 (start_of setup w.k)) item (sym (ap (if_by moment) (waiting_due sent moment own w)) ∙ due) in
      subst (λ (i : DueItem). AreAnnounced (own_happens setup i own)) is.0
      (subst AreAnnounced (sym (announces_so own (start_of setup w.k) w.waits)) (announced_begins own w.k w.number))
  item_begins sent moment own item (inr f) due =
      let is = by_item moment (command_item 0 f.flight) item (sym (ap (if_by moment) (flying_due sent moment own f)) ∙ due) in
      subst (λ (i : DueItem). AreAnnounced (own_happens setup i own)) is.0 (by_repeat (repeat_of f.flight f.flight.due) refl) where
        by_repeat : (repeat : Repeat) → repeat_of f.flight f.flight.due ≡ repeat → AreAnnounced (happened_under Resend setup 0 f.flight.due own)
        by_repeat SentAgain is = subst AreAnnounced (sym (again_so own f.flight f.flies is)) tt
        by_repeat GivenUp is = subst AreAnnounced (sym (gives_so own f.flight f.flies is)) tt

  -- nothing else does
  pub begun_passed : (moment : ℕ) (was : Post) (is : Effect Post) → PassesAlone (post_due 0) (own_happens setup) moment was is → (sent : List Sent) → Tracked Anytime sent moment was → AreAnnounced is
  begun_passed moment was is (rests w t none same) sent s = subst AreAnnounced (sym same) tt
  begun_passed moment was is (goes_on w item rest t some own same) sent s =
      let turn = own_happens setup item was in
      subst AreAnnounced (sym same)
      (subst (Each IsAnnounced) (sym (begun_both turn.sent rest.sent))
      (each_both IsAnnounced (begun_in turn.sent) (begun_in rest.sent) (item_begins sent moment was item s some)
      (begun_passed moment turn.value rest own (sent ++ turn.sent) (item_happens sent moment was item s some))))

  -- as it opens
  pub opening_tracked : Tracked (λ (due : ℕ). Unit {0}) [] 0 (opening setup).endpoints.own
  unfolding start_of number_of
  opening_tracked = inl (record {
    k = 0;
    number = refl;
    none = refl;
    waits = refl;
    went = λ j less. absurd (omega (arith, less));
    over = λ j less. absurd (omega (arith, less));
    up = tt;
  })
