-- Where the ids of lives lie apart: no command of a life is taken for a repeat of another's, and no answer to one is one to another's.
use Rattle.std.proofs.Common.{◌≡◌, ◌≢◌, ℕ, ◌+◌, ◌-◌, ◌<◌, ◌≤◌, Bool, true, false, if◌then◌else◌, List, [], ◌∷◌, ◌++◌, length, Option, Some, None, inl, inr, refl, sym, ap, ◌∙◌, subst, arith}
use Rattle.std.specs.Prelude.{◌⊎◌, All, Any, IfSome, option_map, slice_get, is_none}
use Rattle.std.proofs.lemmas.Bool.{and_parts, and_from, cases_lt}
use Rattle.std.proofs.lemmas.List.{length-append}
use Rattle.mgcp_text.specs.declared.message.Param.{Param}
use Rattle.mgcp_text.specs.declared.message.Message.TheVariants as messages
use Rattle.mgcp_text.specs.Reading.{message, read_text}
use Rattle.transmission.specs.Memory.{memory_time}
use Rattle.transmission.specs.Packing.{same_address}
use Rattle.transmission.specs.Texts.{texts_of}
use Rattle.retransmission.specs.Flight.{InFlight}
use Rattle.plain_machine.specs.declared.endpoint.Endpoint.{Endpoint}
use Rattle.plain_machine.specs.declared.setup.Setup.{Setup}
use Rattle.plain_machine.specs.Setup.{IsSetUp}
use Rattle.plain_machine.specs.Event.{datagram}
use Rattle.plain_machine.specs.Machine.{endpoint_at}
use Rattle.plain_machine.specs.Message.{Begun}
use Rattle.machine_laws.specs.Saying.{OneOf}
use Rattle.machine_laws.specs.Starting.{safe_time}
use Rattle.machine_laws.proofs.EachLemmas.{Each, all_from_each, each_at, each_from_all, each_weaker, is_none-None, one_of_each, one_to}
use Rattle.agent_core.specs.declared.packet.End.{End}
use Rattle.agent_core.specs.declared.packet.Posted.{Posted}
use Rattle.agent_core.specs.declared.packet.End.TheVariants.{AgentEnd as agent_end}
use Rattle.agent_core.specs.World.{delivering, delivery_refusal, gateway_address, oldest_packet}
use Rattle.world_laws.proofs.WorldLaws.{Comes, Holding, not_late}
use Rattle.outage_laws.specs.Lives.{Brought, Life, Letter, LivesWorld, LivesStep, clock_of, gateway_of, handed, handed_from, lived, lived_refusal, lives_after, lives_are_taken, lives_of, lives_opening, number_of, plain_lives, stepping, to_life}
use Rattle.outage_laws.specs.Apart.{AreApart, BeginsLater, IsTakenFor, LieApart, OfLife, begun_of}
use Rattle.outage_laws.proofs.PairLemmas.{Pairs, of_earlier, of_last, of_life_each, of_life_weaker, of_life_within, of_pair, pairs_from}
use Rattle.outage_laws.proofs.LifeSays.{IsLife, life_past, line_flies, own_flies}
use Rattle.outage_laws.proofs.AnswersSoon.{AnswersSoon, IsRecent}
use Rattle.outage_laws.proofs.HandedLaws.{step_none, with_event}
use Rattle.outage_laws.proofs.LinkedLives.{IsBegunBy, IsBrought, IsLetter, IsPacketOf, LinkedWorld, lives_stand}

-- a command of each
both_begun : (P Q : Begun → Type 0) (C : Type 0) (earlier later : Life) → ((a b : Begun) → BeginsLater a b → P a → Q b → C) → AreApart earlier later → OneOf P (begun_of earlier) → OneOf Q (begun_of later) → C
both_begun P Q C earlier later step apart one two =
    one_to (λ (a : Begun). All (BeginsLater a) (begun_of later) × P a) C
    (λ a both. one_to (λ (b : Begun). BeginsLater a b × Q b) C (λ b all. step a b all.0 both.1 all.1) (begun_of later)
    (one_of_each (BeginsLater a) Q (begun_of later) (each_from_all (BeginsLater a) (begun_of later) both.0) two))
    (begun_of earlier) (one_of_each (λ (a : Begun). All (BeginsLater a) (begun_of later)) P (begun_of earlier)
    (each_from_all (λ (a : Begun). All (BeginsLater a) (begun_of later)) (begun_of earlier) apart) one)

-- Commands that come to the agent

module _ (lives : List Life) (pairs : Pairs AreApart lives) where
  -- neither of an earlier life than the command that it is taken for, nor of a later one
  not_later : (before one : Brought) → IsBrought lives before → IsBrought lives one → IsTakenFor before one → before.life < one.life → ⊥
  not_later before one came comes is less =
      let young : one.reached.asked.moment - before.reached.asked.moment < memory_time = is.1.1 in
      let same : before.reached.asked.id ≡ one.reached.asked.id = is.1.0 in
      of_pair AreApart (IsBegunBy before.reached) (IsBegunBy one.reached) ⊥ lives before.life one.life
      (λ earlier later apart here there. both_begun (Comes before.reached) (Comes one.reached) ⊥ earlier later
      (λ a b begins c d. absurd (let far : a.moment + safe_time ≤ b.moment = begins (c.id ∙ same ∙ sym d.id) in let within = c.within in let since = d.since in omega (arith, far, within, since, young))) apart here there)
      pairs less came comes

  not_earlier : (before one : Brought) → IsBrought lives before → IsBrought lives one → IsTakenFor before one → one.life < before.life → ⊥
  not_earlier before one came comes is less =
      let first : before.reached.asked.moment ≤ one.reached.asked.moment = is.0 in
      let same : before.reached.asked.id ≡ one.reached.asked.id = is.1.0 in
      of_pair AreApart (IsBegunBy one.reached) (IsBegunBy before.reached) ⊥ lives one.life before.life
      (λ earlier later apart here there. both_begun (Comes one.reached) (Comes before.reached) ⊥ earlier later
      (λ a b begins c d. absurd (let far : a.moment + safe_time ≤ b.moment = begins (c.id ∙ sym same ∙ sym d.id) in let within = c.within in let since = d.since in omega (arith, far, within, since, first))) apart here there)
      pairs less comes came

  one_life : (before one : Brought) → IsBrought lives before → IsBrought lives one → IsTakenFor before one → before.life ≡ one.life
  one_life before one came comes is = by_case (cases_lt before.life one.life) (cases_lt one.life before.life) where
    by_case : (before.life < one.life) ⊎ (one.life ≤ before.life) → (one.life < before.life) ⊎ (before.life ≤ one.life) → before.life ≡ one.life
    by_case (inl less) other = absurd (not_later before one came comes is less)
    by_case (inr least) (inl less) = absurd (not_earlier before one came comes is less)
    by_case (inr least) (inr most) = omega (arith, least, most)

pub none_is_taken_for_another : (setup : Setup) (steps : List LivesStep) → IsSetUp setup → lives_are_taken setup (lives_opening setup) steps ≡ true → LieApart (lives_of (plain_lives setup steps))
    → All (λ (before : Brought). All (λ (one : Brought). IsTakenFor before one → before.life ≡ one.life) (plain_lives setup steps).brought) (plain_lives setup steps).brought
none_is_taken_for_another setup steps set_up taken apart =
    let w = plain_lives setup steps in
    let lives = lives_of w in
    let came = (lives_stand setup steps set_up taken).linked.came in
    all_from_each (λ (before : Brought). All (λ (one : Brought). IsTakenFor before one → before.life ≡ one.life) w.brought) w.brought
    (each_weaker (IsBrought lives) (λ (before : Brought). All (λ (one : Brought). IsTakenFor before one → before.life ≡ one.life) w.brought)
    (λ before here. all_from_each (λ (one : Brought). IsTakenFor before one → before.life ≡ one.life) w.brought
    (each_weaker (IsBrought lives) (λ (one : Brought). IsTakenFor before one → before.life ≡ one.life) (λ one there. one_life lives (pairs_from AreApart lives apart) before one here there) w.brought came))
    w.brought came)

-- Answers that come to a life

-- the steps before one are taken, and it is
pub record TakenThen (setup : Setup) (w : LivesWorld) (steps : List LivesStep) (step : LivesStep) : Type 0 where
  pub before : lives_are_taken setup w steps ≡ true
  pub none : lived_refusal setup (lives_after setup w steps) step ≡ None
  pub last : lives_after setup w (steps ++ step ∷ []) ≡ lived setup (lives_after setup w steps) step

pub taken_then : (setup : Setup) (w : LivesWorld) (steps : List LivesStep) (step : LivesStep) → lives_are_taken setup w (steps ++ step ∷ []) ≡ true → TakenThen setup w steps step
unfolding lives_after lives_are_taken
taken_then setup w [] step taken = record { before = refl; none = is_none-None (lived_refusal setup w step) (and_parts (is_none (lived_refusal setup w step)) true taken).0; last = refl }
taken_then setup w (first ∷ steps) step taken =
    let both = and_parts (is_none (lived_refusal setup w first)) (lives_are_taken setup (lived setup w first) (steps ++ step ∷ [])) taken in
    let rest = taken_then setup (lived setup w first) steps step both.1 in
    record { before = and_from (is_none (lived_refusal setup w first)) (lives_are_taken setup (lived setup w first) steps) both.0 rest.before; none = rest.none; last = rest.last }

-- an answer to an earlier life comes before the life that goes on begins a command with its id
too_soon : (lives : List Life) (life : Life) (number last now moment id : ℕ) → Pairs AreApart lives → IsLife now life → number < last → now - moment ≤ oldest_packet
    → OfLife (λ (one : Life). OneOf (IsRecent id moment) (begun_of one)) lives number → OfLife (λ (one : Life). one ≡ life) lives last → All (λ (b : Begun). b.id ≢ id) (begun_of life)
too_soon lives life number last now moment id pairs is less late recent there =
    all_from_each (λ (b : Begun). b.id ≢ id) (begun_of life)
    (of_pair AreApart (λ (one : Life). OneOf (IsRecent id moment) (begun_of one)) (λ (one : Life). one ≡ life) (Each (λ (b : Begun). b.id ≢ id) (begun_of life)) lives number last
    (λ earlier later apart one same. others earlier (subst (AreApart earlier) same apart) one)
    pairs less recent there) where
      past : Each (λ (b : Begun). b.moment ≤ life.start + (gateway_of life).now) (begun_of life)
      past = life_past now life is

      others : (earlier : Life) → AreApart earlier life → OneOf (IsRecent id moment) (begun_of earlier) → Each (λ (b : Begun). b.id ≢ id) (begun_of life)
      others earlier apart one =
          one_to (λ (a : Begun). All (BeginsLater a) (begun_of life) × IsRecent id moment a) (Each (λ (b : Begun). b.id ≢ id) (begun_of life))
          (λ a both. not_yet a both.1 (begun_of life) past (each_from_all (BeginsLater a) (begun_of life) both.0)) (begun_of earlier)
          (one_of_each (λ (a : Begun). All (BeginsLater a) (begun_of life)) (IsRecent id moment) (begun_of earlier)
          (each_from_all (λ (a : Begun). All (BeginsLater a) (begun_of life)) (begun_of earlier) apart) one) where
            not_yet : (a : Begun) → IsRecent id moment a → (log : List Begun) → Each (λ (b : Begun). b.moment ≤ life.start + (gateway_of life).now) log → Each (BeginsLater a) log
                → Each (λ (b : Begun). b.id ≢ id) log
            not_yet a recent [] past begins = tt
            not_yet a recent (b ∷ log) past begins = (
              (λ same.
                  absurd (let far : a.moment + safe_time ≤ b.moment = begins.0 (recent.0 ∙ sym same) in let here : b.moment ≤ life.start + (gateway_of life).now = past.0 in let clock = is.past in
                  let young : moment < a.moment + memory_time = recent.1 in omega (arith, far, here, clock, young, late))),
              not_yet a recent log past.1 begins.1,
            )

below_last : (number : ℕ) (over : List Life) (life : Life) → number < length (over ++ life ∷ []) → number ≢ length over → number < length over
below_last number over life within other = by_case (cases_lt number (length over)) where
  by_case : (number < length over) ⊎ (length over ≤ number) → number < length over
  by_case (inl less) = less
  by_case (inr least) = absurd (other (let all = length-append over (life ∷ []) in omega (arith, least, within, all)))

abbrev NoneWith : LivesWorld → List ℕ → Type 0
NoneWith w text = (code id : ℕ) (params : List Param) (body : List ℕ) → read_text text ≡ message (messages.Response code id params body)
    → All (λ (b : Begun). b.id ≢ id) (begun_of w.life)

-- a packet of the agent's is handed over, which answered another life
handed_to_another : (setup : Setup) (w : LivesWorld) (letter : Letter) → LinkedWorld setup w → IsLetter (lives_of w) (clock_of setup w) letter → letter.post.end ≡ agent_end
    → clock_of setup w - letter.post.packet.moment ≤ oldest_packet → letter.life ≢ number_of w
    → (next : LivesWorld) → next ≡ handed_from agent_end setup letter.life w letter.post.packet → LinkedWorld setup next → LieApart (lives_of next) → All (NoneWith next) (texts_of letter.post.packet.bytes)
handed_to_another setup w letter l is end late other next same linked apart =
    by_test (same_address letter.post.packet.to (gateway_address w.life.setup)) next same linked apart where
      post : Posted
      post = letter.post

      holds : OfLife (λ (life : Life). Holding (AnswersSoon (begun_of life)) (clock_of setup w) post.packet.bytes post.packet.moment) (lives_of w) letter.life
      holds =
          of_life_weaker (IsPacketOf agent_end (clock_of setup w) letter.post) (λ (life : Life). Holding (AnswersSoon (begun_of life)) (clock_of setup w) post.packet.bytes post.packet.moment)
          (lives_of w) letter.life (λ life packet. packet) (subst (λ (e : End). OfLife (IsPacketOf e (clock_of setup w) letter.post) (lives_of w) letter.life) end is)

      earlier : letter.life < number_of w
      earlier =
          let within : letter.life < length (lives_of w) = of_life_within (λ (life : Life). Holding (AnswersSoon (begun_of life)) (clock_of setup w) post.packet.bytes post.packet.moment) (lives_of w) letter.life holds in
          below_last letter.life w.over w.life within other

      -- whatever the life that goes on became
      by_life : (life : Life) → IsLife (clock_of setup w) life → Pairs AreApart (w.over ++ life ∷ [])
          → Each (λ (text : List ℕ). (code id : ℕ) (params : List Param) (body : List ℕ) → read_text text ≡ message (messages.Response code id params body)
          → All (λ (b : Begun). b.id ≢ id) (begun_of life)) (texts_of post.packet.bytes)
      by_life life is_life pairs =
          each_weaker (λ (text : List ℕ). OfLife (λ (one : Life). AnswersSoon (begun_of one) text post.packet.moment × (post.packet.moment ≤ clock_of setup w)) (w.over ++ life ∷ []) letter.life)
          (λ (text : List ℕ). (code id : ℕ) (params : List Param) (body : List ℕ) → read_text text ≡ message (messages.Response code id params body)
          → All (λ (b : Begun). b.id ≢ id) (begun_of life))
          (λ text soon. λ code id params body reads.
          too_soon (w.over ++ life ∷ []) life letter.life (number_of w) (clock_of setup w) post.packet.moment id pairs is_life earlier late
          (of_life_weaker (λ (one : Life). AnswersSoon (begun_of one) text post.packet.moment × (post.packet.moment ≤ clock_of setup w)) (λ (one : Life). OneOf (IsRecent id post.packet.moment) (begun_of one))
          (w.over ++ life ∷ []) letter.life (λ one s. s.0 code id params body reads) soon)
          (of_last (λ (one : Life). one ≡ life) w.over life refl))
          (texts_of post.packet.bytes)
          (of_life_each (λ (one : Life) (text : List ℕ). AnswersSoon (begun_of one) text post.packet.moment × (post.packet.moment ≤ clock_of setup w)) (texts_of post.packet.bytes) (w.over ++ life ∷ []) letter.life
          (of_earlier (λ (one : Life). Holding (AnswersSoon (begun_of one)) (clock_of setup w) post.packet.bytes post.packet.moment) w.over w.life life letter.life other holds))

      last_is : (over : List Life) (life : Life) (now : ℕ) → Each (IsLife now) (over ++ life ∷ []) → IsLife now life
      last_is [] life now each = each.0
      last_is (one ∷ over) life now each = last_is over life now each.1

      by_test : (b : Bool) (next : LivesWorld) → next ≡ (if b then to_life w (datagram post.packet.sender post.packet.bytes) else w) → LinkedWorld setup next → LieApart (lives_of next)
          → All (NoneWith next) (texts_of post.packet.bytes)
      by_test false next same linked apart =
          subst (λ (v : LivesWorld). LieApart (lives_of v) → All (NoneWith v) (texts_of post.packet.bytes)) (sym same)
          (λ far. all_from_each (NoneWith w) (texts_of post.packet.bytes) (by_life w.life (last_is w.over w.life (clock_of setup w) l.each) (pairs_from AreApart (lives_of w) far))) apart
      by_test true next same linked apart =
          subst (λ (v : LivesWorld). LinkedWorld setup v → LieApart (lives_of v) → All (NoneWith v) (texts_of post.packet.bytes)) (sym same)
          (λ links far. all_from_each (NoneWith (to_life w (datagram post.packet.sender post.packet.bytes))) (texts_of post.packet.bytes)
          (by_life (with_event w.life (datagram post.packet.sender post.packet.bytes))
          (last_is w.over (with_event w.life (datagram post.packet.sender post.packet.bytes)) (clock_of setup w) links.each)
          (pairs_from AreApart (w.over ++ with_event w.life (datagram post.packet.sender post.packet.bytes) ∷ []) far))) linked apart

delivered_is : (setup : Setup) (w : LivesWorld) (number : ℕ) → lived setup w (stepping (delivering number)) ≡ handed (slice_get w.letters number) setup w
unfolding lived
delivered_is setup w number = refl

late_is : (setup : Setup) (w : LivesWorld) (number : ℕ) (letter : Letter) → slice_get w.letters number ≡ Some letter → lived_refusal setup w (stepping (delivering number)) ≡ None
    → clock_of setup w - letter.post.packet.moment ≤ oldest_packet
unfolding lived_refusal
late_is setup w number letter at none =
    not_late letter.post (clock_of setup w) (subst (λ (found : Option Letter). delivery_refusal (option_map (λ (l : Letter). l.post) found) (clock_of setup w) ≡ None) at (step_none _ none))

pub none_is_answered_for_another : (setup : Setup) (steps : List LivesStep) (number : ℕ) (letter : Letter) → IsSetUp setup
    → lives_are_taken setup (lives_opening setup) (steps ++ stepping (delivering number) ∷ []) ≡ true → LieApart (lives_of (plain_lives setup (steps ++ stepping (delivering number) ∷ [])))
    → slice_get (plain_lives setup steps).letters number ≡ Some letter → letter.post.end ≡ agent_end → letter.life ≢ number_of (plain_lives setup steps)
    → All (λ (text : List ℕ). (code id : ℕ) (params : List Param) (body : List ℕ) → read_text text ≡ message (messages.Response code id params body)
    → All (λ (b : Begun). b.id ≢ id) (begun_of (plain_lives setup (steps ++ stepping (delivering number) ∷ [])).life)) (texts_of letter.post.packet.bytes)
none_is_answered_for_another setup steps number letter set_up taken apart at end other =
    let t = taken_then setup (lives_opening setup) steps (stepping (delivering number)) taken in
    let w = plain_lives setup steps in
    let s = lives_stand setup steps set_up t.before in
    let after = lives_stand setup (steps ++ stepping (delivering number) ∷ []) set_up taken in
    let is : IsLetter (lives_of w) (clock_of setup w) letter =
    subst (λ (found : Option Letter). IfSome found (IsLetter (lives_of w) (clock_of setup w))) at (each_at (IsLetter (lives_of w) (clock_of setup w)) w.letters number s.linked.packets) in
    handed_to_another setup w letter s.linked is end (late_is setup w number letter at t.none) other (plain_lives setup (steps ++ stepping (delivering number) ∷ []))
    (t.last ∙ delivered_is setup w number ∙ ap (λ (found : Option Letter). handed found setup w) at ∙ ap (λ (e : End). handed_from e setup letter.life w letter.post.packet) end)
    after.linked apart

-- What a life has in flight it began

-- what is so of every life is so of these
of_every : (P : Life → Type 0) (lives : List Life) → ((life : Life) → P life) → Each P lives
of_every P [] is = tt
of_every P (life ∷ lives) is = (is life, of_every P lives is)

pub lines_have_begun : (setup : Setup) (steps : List LivesStep) → All (λ (life : Life). (line : ℕ) (endpoint : Endpoint) → endpoint_at (gateway_of life).endpoints line ≡ Some endpoint
    → IfSome endpoint.post.pending (λ (message : InFlight). Any (λ (b : Begun). b.id ≡ message.id) (begun_of life))) (lives_of (plain_lives setup steps))
lines_have_begun setup steps =
    let P : Life → Type 0 = λ life. (line : ℕ) (endpoint : Endpoint) → endpoint_at (gateway_of life).endpoints line ≡ Some endpoint
    → IfSome endpoint.post.pending (λ (message : InFlight). Any (λ (b : Begun). b.id ≡ message.id) (begun_of life)) in
    all_from_each P (lives_of (plain_lives setup steps)) (of_every P (lives_of (plain_lives setup steps)) line_flies)

pub gateways_have_begun : (setup : Setup) (steps : List LivesStep)
    → All (λ (life : Life). IfSome (gateway_of life).endpoints.own.pending (λ (message : InFlight). Any (λ (b : Begun). b.id ≡ message.id) (begun_of life))) (lives_of (plain_lives setup steps))
gateways_have_begun setup steps =
    let P : Life → Type 0 = λ life. IfSome (gateway_of life).endpoints.own.pending (λ (message : InFlight). Any (λ (b : Begun). b.id ≡ message.id) (begun_of life)) in
    all_from_each P (lives_of (plain_lives setup steps)) (of_every P (lives_of (plain_lives setup steps)) own_flies)
