-- A command of the gateway's own that is handed to the agent is taken and answered at once.
use Rattle.std.proofs.Common.{◌≡◌, ◌≢◌, ℕ, suc, ◌+◌, ◌<◌, ◌≤◌, Bool, true, false, not, ◌==◌, if◌then◌else◌, List, [], ◌∷◌, ◌++◌, length, Option, Some, inl, inr, refl, sym, ap, ◌∙◌, subst, arith, map}
use Rattle.std.specs.Prelude.{◌⊎◌, All, Any, filter, slice_get, unwrap_or}
use Rattle.std.proofs.lemmas.Bool.{eqb-true, eqb-false}
use Rattle.retransmission.specs.Sends.{most_repeats}
use Rattle.plain_machine.specs.declared.setup.Setup.{Setup}
use Rattle.plain_machine.specs.Setup.{IsSetUp}
use Rattle.plain_machine.specs.Message.{Begun}
use Rattle.machine_laws.specs.Saying.{OneOf}
use Rattle.machine_laws.proofs.EachLemmas.{Each, each_from_all, each_weaker, one_from_any, any_from_one, one_mapped, one_of_each, one_to, one_unmapped, one_weaker}
use Rattle.agent_core.specs.declared.packet.Posted.{Posted}
use Rattle.agent_core.specs.declared.packet.End.TheVariants.{AgentEnd as agent_end, GatewayEnd as gateway_end}
use Rattle.agent_core.specs.World.{World, WorldStep, agent_in, delivering, now_in, plain_world, steps_are_taken, world_opening, agent_of, gateway_address, posted_as, to_agent}
use Rattle.world_laws.specs.Copies.{IsCopy, IsIssued, HasAnswer}
use Rattle.world_laws.specs.Chances.{chances, last_chance, IsSentAfter, IsCarried}
use Rattle.world_laws.proofs.LookLemmas.{each_two, one_beyond}
use Rattle.world_laws.proofs.PostedFinal.{taken_front, address_itself, gateway_sender, agent_more, handed_to_agent, step_more}
use Rattle.world_laws.proofs.ChanceLaws.{sent_eight_times, goes_in, HasMessage, packed_has}
use Rattle.world_laws.proofs.ServedLaws.{served_by}
use Rattle.std.specs.declared.net.socket_addr.SocketAddrV4.{SocketAddrV4}
use Rattle.mgcp_text.specs.Reading.{read_text}
use Rattle.transmission.specs.declared.entry.KeptFirst.{KeptFirst}
use Rattle.transmission.specs.declared.entry.Entry.{Entry}
use Rattle.transmission.specs.Memory.{most_firsts}
use Rattle.transmission.specs.Kept.{firsts_in, young_firsts}
use Rattle.transmission.specs.declared.output.OutDatagram.{OutDatagram}
use Rattle.transmission.specs.Packing.{packed, same_address}
use Rattle.transmission.specs.Texts.{texts_of}
use Rattle.transmission.specs.Transacting.{message_to}
use Rattle.transmission.proofs.PackingLaws.{IsMessage}
use Rattle.endpoint_names.specs.Route.{at}
use Rattle.plain_machine.specs.Event.{datagram}
use Rattle.retransmission.specs.Issued.{is_command_as}
use Rattle.machine_laws.proofs.PostLogs.{WasBegun}
use Rattle.machine_laws.proofs.GatewayEvents.{IsAnsweredBy}
use Rattle.call_agent.specs.Agent.{AgentMachine}
use Rattle.call_agent.specs.Hearing.{agent_effect, hears, took_all}
use Rattle.call_agent.specs.declared.setup.AgentSetup.{AgentSetup}
use Rattle.world_laws.specs.Reached.{Reached, issued_in, key_kept, key_reached, own_in, taken_in}
use Rattle.world_laws.proofs.AgentLaws.{event_on, never}
use Rattle.world_laws.proofs.LinkLaws.{world_linked, datagram_answers as machine_is}
use Rattle.world_laws.proofs.TakenLaws.{agent_keys}
use Rattle.world_laws.proofs.WorldLaws.{world_sound}
use Rattle.world_laws.specs.Taking.{AgentHasRoom, IsOwn, IsTaken, agent_history}
use Rattle.world_laws.proofs.MatchLemmas.{Answers, texts_answer}
use Rattle.world_laws.proofs.UnconfirmedLaws.{nothing_confirmed}

-- Of eight copies one that the network carries is enough.

-- Fewer numbers don't meet all of more

abbrev pub AreApart : List ℕ → Type 0
AreApart [] = Unit {0}
AreApart (x ∷ xs) = Each (λ (y : ℕ). x ≢ y) xs × AreApart xs

abbrev other_than : ℕ → List ℕ → List ℕ
other_than n xs = filter (λ (x : ℕ). not (x == n)) xs

others_each : (P : ℕ → Type 0) (n : ℕ) (xs : List ℕ) → Each P xs → Each (λ (x : ℕ). P x × (x ≢ n)) (other_than n xs)
others_each P n [] all = tt
others_each P n (x ∷ xs) all = by_test (x == n) refl (others_each P n xs all.1) where
  by_test : (b : Bool) → (x == n) ≡ b → Each (λ (x : ℕ). P x × (x ≢ n)) (other_than n xs)
      → Each (λ (x : ℕ). P x × (x ≢ n)) (if not b then x ∷ other_than n xs else other_than n xs)
  by_test true same rest = rest
  by_test false far rest = ((all.0, eqb-false x n far), rest)

others_apart : (n : ℕ) (xs : List ℕ) → AreApart xs → AreApart (other_than n xs)
others_apart n [] apart = tt
others_apart n (x ∷ xs) apart = by_test (x == n) (others_apart n xs apart.1) where
  by_test : (b : Bool) → AreApart (other_than n xs) → AreApart (if not b then x ∷ other_than n xs else other_than n xs)
  by_test true rest = rest
  by_test false rest =
      (each_weaker (λ (y : ℕ). (x ≢ y) × (y ≢ n)) (λ (y : ℕ). x ≢ y) (λ y both. both.0) (other_than n xs) (others_each (λ (y : ℕ). x ≢ y) n xs apart.0), rest)

-- of numbers that are all others none is taken away
none_taken : (n : ℕ) (xs : List ℕ) → Each (λ (x : ℕ). n ≢ x) xs → length xs ≤ length (other_than n xs)
none_taken n [] all = omega arith
none_taken n (x ∷ xs) all = by_test (x == n) refl (none_taken n xs all.1) where
  by_test : (b : Bool) → (x == n) ≡ b → length xs ≤ length (other_than n xs) → suc (length xs) ≤ length (if not b then x ∷ other_than n xs else other_than n xs)
  by_test true same less = absurd (all.0 (sym (eqb-true x n same)))
  by_test false far less = omega (arith, less)

-- one at most is
one_taken : (n : ℕ) (xs : List ℕ) → AreApart xs → length xs ≤ suc (length (other_than n xs))
one_taken n [] apart = omega arith
one_taken n (x ∷ xs) apart = by_test (x == n) refl (one_taken n xs apart.1) where
  by_test : (b : Bool) → (x == n) ≡ b → length xs ≤ suc (length (other_than n xs)) → suc (length xs) ≤ suc (length (if not b then x ∷ other_than n xs else other_than n xs))
  by_test true same less =
      let same_all : Each (λ (y : ℕ). n ≢ y) xs = subst (λ (i : ℕ). Each (λ (y : ℕ). i ≢ y) xs) (eqb-true x n same) apart.0 in
      let all = none_taken n xs same_all in
      omega (arith, all)
  by_test false far less = omega (arith, less)

-- one of them is none of the fewer
pub one_spared : (P : ℕ → Type 0) (lost xs : List ℕ) → AreApart xs → length lost < length xs → Each P xs → (x : ℕ) × P x × (OneOf (λ (n : ℕ). n ≡ x) lost → ⊥)
one_spared P [] [] apart few all = absurd (omega (arith, few))
one_spared P [] (x ∷ xs) apart few all = (x, all.0, λ none. none)
one_spared P (n ∷ lost) xs apart few all =
    let most = one_taken n xs apart in
    let spared = one_spared (λ (x : ℕ). P x × (x ≢ n)) lost (other_than n xs) (others_apart n xs apart) (omega (arith, few, most)) (others_each P n xs all) in
    (spared.0, spared.1.0, by_one spared.0 spared.1.1 spared.2) where
      by_one : (x : ℕ) → x ≢ n → (OneOf (λ (m : ℕ). m ≡ x) lost → ⊥) → (n ≡ x) ⊎ OneOf (λ (m : ℕ). m ≡ x) lost → ⊥
      by_one x far none (inl here) = far (sym here)
      by_one x far none (inr there) = none there

-- The numbers of the eight copies

module _ (setup : Setup) (w : World) (b : Begun) where
  numbers : (waits : List ℕ) → Each (IsSentAfter setup w b) waits → List ℕ
  numbers [] all = []
  numbers (wait ∷ waits) all = all.0.number ∷ numbers waits all.1

  same_post : (one other : Posted) → Some one ≡ Some other → one ≡ other
  same_post one other same = ap (λ (o : Option Posted). unwrap_or o one) same

  -- two copies of two moments have two numbers
  two_numbers : (wait other : ℕ) (one : IsSentAfter setup w b wait) (next : IsSentAfter setup w b other) → wait ≢ other → one.number ≢ next.number
  two_numbers wait other one next apart same =
      let post : one.copy.post ≡ next.copy.post =
      same_post one.copy.post next.copy.post (sym one.copy.found ∙ ap (slice_get w.posted) same ∙ next.copy.found) in
      let moments : b.moment + wait ≡ b.moment + other = sym one.moment ∙ ap (λ (p : Posted). p.packet.moment) post ∙ next.moment in
      apart (omega (arith, moments))

  one_apart : (wait : ℕ) (one : IsSentAfter setup w b wait) (waits : List ℕ) (all : Each (IsSentAfter setup w b) waits) → Each (λ (other : ℕ). wait ≢ other) waits
      → Each (λ (n : ℕ). one.number ≢ n) (numbers waits all)
  unfolding numbers
  one_apart wait one [] all apart = tt
  one_apart wait one (other ∷ waits) all apart = (two_numbers wait other one all.0 apart.0, one_apart wait one waits all.1 apart.1)

  all_apart : (waits : List ℕ) (all : Each (IsSentAfter setup w b) waits) → AreApart waits → AreApart (numbers waits all)
  unfolding numbers
  all_apart [] all apart = tt
  all_apart (wait ∷ waits) all apart = (one_apart wait all.0 waits all.1 apart.0, all_apart waits all.1 apart.1)

  all_copies : (waits : List ℕ) (all : Each (IsSentAfter setup w b) waits) → Each (IsCopy setup w agent_end b.text) (numbers waits all)
  unfolding numbers
  all_copies [] all = tt
  all_copies (wait ∷ waits) all = (all.0.copy, all_copies waits all.1)

  as_many : (waits : List ℕ) (all : Each (IsSentAfter setup w b) waits) → length (numbers waits all) ≡ length waits
  unfolding numbers
  as_many [] all = refl
  as_many (wait ∷ waits) all = ap (λ (n : ℕ). suc n) (as_many waits all.1)

far : (a b : ℕ) → a < b → a ≢ b
far a b less same = absurd (omega (arith, less, same))

pub chances_apart : AreApart chances
chances_apart = ((far 0 500 (omega arith), (far 0 1500 (omega arith), (far 0 3500 (omega arith), (far 0 7500 (omega arith), (far 0 11500 (omega arith), (far 0 15500 (omega arith), (far 0 last_chance (omega arith), tt))))))), ((far 500 1500 (omega arith), (far 500 3500 (omega arith), (far 500 7500 (omega arith), (far 500 11500 (omega arith), (far 500 15500 (omega arith), (far 500 last_chance (omega arith), tt)))))), ((far 1500 3500 (omega arith), (far 1500 7500 (omega arith), (far 1500 11500 (omega arith), (far 1500 15500 (omega arith), (far 1500 last_chance (omega arith), tt))))), ((far 3500 7500 (omega arith), (far 3500 11500 (omega arith), (far 3500 15500 (omega arith), (far 3500 last_chance (omega arith), tt)))), ((far 7500 11500 (omega arith), (far 7500 15500 (omega arith), (far 7500 last_chance (omega arith), tt))), ((far 11500 15500 (omega arith), (far 11500 last_chance (omega arith), tt)), ((far 15500 last_chance (omega arith), tt), (tt, tt))))))))

pub chances_low : Each (λ (wait : ℕ). wait ≤ last_chance) chances
chances_low = (omega arith, (omega arith, (omega arith, (omega arith, (omega arith, (omega arith, (omega arith, (omega arith, tt))))))))

-- A carried copy is answered

carried_has : (setup : Setup) (steps : List WorldStep) (b : Begun) (number : ℕ) → IsSetUp setup → steps_are_taken setup world_opening steps ≡ true → IsCarried setup steps b number
    → HasAnswer b.id (agent_in setup (plain_world setup steps))
carried_has setup steps b number set_up taken c =
    let first = c.before ++ delivering number ∷ [] in
    let whole = ((first ++ c.between) ++ delivering c.answer.number ∷ []) ++ c.later in
    let all : steps_are_taken setup world_opening whole ≡ true = subst (λ (x : List WorldStep). steps_are_taken setup world_opening x ≡ true) c.order taken in
    let start = taken_front setup world_opening first c.between (taken_front setup world_opening (first ++ c.between) (delivering c.answer.number ∷ [])
    (taken_front setup world_opening ((first ++ c.between) ++ delivering c.answer.number ∷ []) c.later all)) in
    subst (λ (x : List WorldStep). HasAnswer b.id (agent_in setup (plain_world setup x))) (sym c.order)
    (served_by setup first b c.answer.number c.answer.text set_up start c.issued c.answer.copy c.answer.stored c.between c.later all c.soon)

pub one_is_enough : (setup : Setup) (steps : List WorldStep) (b : Begun) (lost : List ℕ) → IsSetUp setup → steps_are_taken setup world_opening steps ≡ true
    → let w = plain_world setup steps in IsIssued setup w b → b.moment + last_chance ≤ now_in setup w → length lost ≤ most_repeats
    → ((number : ℕ) → IsCopy setup w agent_end b.text number → (Any (λ (n : ℕ). n ≡ number) lost → ⊥) → IsCarried setup steps b number) → HasAnswer b.id (agent_in setup w)
one_is_enough setup steps b lost set_up taken issued late few carries = by_case (sent_eight_times setup steps b set_up taken issued) where
  w : World
  w = plain_world setup steps

  soon_enough : (waits : List ℕ) → Each (λ (wait : ℕ). wait ≤ last_chance) waits → Each (λ (wait : ℕ). b.moment + wait ≤ now_in setup w → IsSentAfter setup w b wait) waits
      → Each (IsSentAfter setup w b) waits
  soon_enough waits low sent = each_weaker (λ (wait : ℕ). (wait ≤ last_chance) × (b.moment + wait ≤ now_in setup w → IsSentAfter setup w b wait)) (IsSentAfter setup w b)
      (λ wait both. both.1 (omega (arith, late, both.0))) waits (each_two (λ (wait : ℕ). wait ≤ last_chance) (λ (wait : ℕ). b.moment + wait ≤ now_in setup w → IsSentAfter setup w b wait) waits low sent)

  by_case : HasAnswer b.id (agent_in setup w) ⊎ All (λ (wait : ℕ). b.moment + wait ≤ now_in setup w → IsSentAfter setup w b wait) chances → HasAnswer b.id (agent_in setup w)
  by_case (inl has) = has
  by_case (inr sent) =
      let all = soon_enough chances chances_low (each_from_all (λ (wait : ℕ). b.moment + wait ≤ now_in setup w → IsSentAfter setup w b wait) chances sent) in
      let many : length (numbers setup w b chances all) ≡ most_repeats + 1 = as_many setup w b chances all in
      let spared = one_spared (IsCopy setup w agent_end b.text) lost (numbers setup w b chances all) (all_apart setup w b chances all chances_apart) (omega (arith, few, many)) (all_copies setup w b chances all) in
      carried_has setup steps b spared.0 set_up taken
      (carries spared.0 spared.1 (λ any. spared.2 (one_from_any (λ (n : ℕ). n ≡ spared.0) lost any)))

-- this text goes to this address at this moment
abbrev Tells : SocketAddrV4 → ℕ → List ℕ → Posted → Type 0
Tells to now text post =
    (post.end ≡ agent_end) × (post.packet.to ≡ to) × (post.packet.moment ≡ now) × OneOf (λ (one : List ℕ). one ≡ text) (texts_of post.packet.bytes)

posts_it : (from to : SocketAddrV4) (now : ℕ) (text : List ℕ) (sent : List OutDatagram) → All IsMessage sent → OneOf (λ (out : OutDatagram). out ≡ message_to to now text) sent
    → OneOf (Tells to now text) (map (posted_as agent_end from) (packed sent))
posts_it from to now text sent goes said =
    one_mapped (Tells to now text) (posted_as agent_end from) (packed sent)
    (one_weaker (HasMessage (message_to to now text)) (λ (out : OutDatagram). Tells to now text (posted_as agent_end from out))
    (λ out has. (refl, has.there, has.moment, has.inside)) (packed sent) (packed_has sent (message_to to now text) goes said))

pub says_is : (setup : AgentSetup) (m : AgentMachine) (source : SocketAddrV4) (bytes : List ℕ)
    → (agent_effect setup m (hears (datagram source bytes))).sent ≡ (took_all setup m source (texts_of bytes)).sent
unfolding agent_effect
says_is setup m source bytes = refl

-- a first that the agent keeps was taken
kept_taken : (id : ℕ) (text : List ℕ) (firsts : List KeptFirst) (ones : List Reached) → map key_kept firsts ≡ map key_reached ones → OneOf (IsAnsweredBy id text) firsts
    → OneOf (λ (one : Reached). one.asked.id ≡ id) ones
kept_taken id text firsts ones same one =
    one_unmapped (λ (key : ℕ × ℕ). key.0 ≡ id) key_reached ones
    (subst (OneOf (λ (key : ℕ × ℕ). key.0 ≡ id)) same
    (one_mapped (λ (key : ℕ × ℕ). key.0 ≡ id) key_kept firsts (one_weaker (IsAnsweredBy id text) (λ (first : KeptFirst). first.id ≡ id) (λ first is. is.0) firsts one)))

pub agent_takes : (setup : Setup) (steps : List WorldStep) (number : ℕ) (b : Begun) (name : List ℕ) → IsSetUp setup → steps_are_taken setup world_opening (steps ++ delivering number ∷ []) ≡ true
    → is_command_as b.id name (read_text b.text) ≡ true → (copy : IsCopy setup (plain_world setup steps) gateway_end b.text number)
    → let w = plain_world setup steps in let after = plain_world setup (steps ++ delivering number ∷ []) in after ≡ to_agent setup w (hears (datagram copy.post.packet.sender copy.post.packet.bytes))
    → AgentHasRoom setup after → IsTaken setup w after b.id
agent_takes setup steps number b name set_up taken reads copy is room = by_answers answers where
  w : World
  w = plain_world setup steps

  after : World
  after = plain_world setup (steps ++ delivering number ∷ [])

  m : AgentMachine
  m = agent_in setup w

  source : SocketAddrV4
  source = copy.post.packet.sender

  bytes : List ℕ
  bytes = copy.post.packet.bytes

  front : steps_are_taken setup world_opening steps ≡ true
  front = taken_front setup world_opening steps (delivering number ∷ []) taken

  sent : List OutDatagram
  sent = (took_all (agent_of setup) m source (texts_of bytes)).sent

  history : agent_history setup after ≡ (took_all (agent_of setup) m source (texts_of bytes)).machine.history
  history = ap (agent_history setup) is ∙ ap (λ (x : AgentMachine). x.history) (agent_more setup w (hears (datagram source bytes)))
      ∙ ap (λ (x : AgentMachine). x.history) (machine_is (agent_of setup) m source bytes)

  now : m.now ≡ now_in setup after
  now = sym (ap (λ (x : AgentMachine). x.now) (ap (agent_in setup) is ∙ agent_more setup w (hears (datagram source bytes)))
      ∙ (event_on (agent_of setup) (issued_in setup w) m (hears (datagram source bytes)) (world_sound setup steps front).agrees.agent (never m source bytes)).now)
      ∙ (world_sound setup (steps ++ delivering number ∷ []) taken).clock

  answers : Answers b.id m.now source (agent_history setup after) sent
  answers =
      subst (λ (h : List Entry). Answers b.id m.now source h sent) (sym history)
      (texts_answer (agent_of setup) m source (texts_of bytes) b.id name b.text reads (one_from_any (λ (one : List ℕ). one ≡ b.text) (texts_of bytes) copy.inside)
      (subst (λ (h : List Entry). length (young_firsts m.now h) < most_firsts) history
      (subst (λ (t : ℕ). length (young_firsts t (agent_history setup after)) < most_firsts) (sym now) room)))

  goes : All IsMessage sent
  goes =
      subst (All IsMessage) (says_is (agent_of setup) m source bytes)
      (goes_in setup w (hears (datagram source bytes)) (world_sound setup steps front).agrees.agent (never m source bytes))

  posted : after.posted ≡ w.posted ++ map (posted_as agent_end (at setup.agent.route 0)) (packed sent)
  posted =
      ap (λ (x : World). x.posted) is
      ∙ ap (λ (out : List OutDatagram). w.posted ++ map (posted_as agent_end (at setup.agent.route 0)) (packed out)) (says_is (agent_of setup) m source bytes)

  from_gateway : source ≡ gateway_address setup
  from_gateway = gateway_sender setup steps number copy.post copy.found copy.sender

  by_answers : Answers b.id m.now source (agent_history setup after) sent → IsTaken setup w after b.id
  by_answers (inl confirmed) = absurd (nothing_confirmed setup (steps ++ delivering number ∷ []) b.id set_up taken confirmed)
  by_answers (inr says) =
      let told = one_beyond (Tells source m.now says.text) w.posted (map (posted_as agent_end (at setup.agent.route 0)) (packed sent))
      (posts_it (at setup.agent.route 0) source m.now says.text sent goes says.goes) in
      record {
        took = any_from_one (λ (one : Reached). one.asked.id ≡ b.id) (taken_in after)
            (kept_taken b.id says.text (firsts_in (agent_history setup after)) (taken_in after) (agent_keys setup (steps ++ delivering number ∷ []) set_up taken) says.stored);
        text = says.text;
        stored = any_from_one (IsAnsweredBy b.id says.text) (firsts_in (agent_history setup after)) says.stored;
        number = told.0;
        since = told.2;
        copy = record {
          post = told.1;
          found = subst (λ (x : List Posted). slice_get x told.0 ≡ Some told.1) (sym posted) told.3;
          sender = told.4.0;
          goes = ap (λ (a : SocketAddrV4). same_address a (gateway_address setup)) (told.4.1 ∙ from_gateway) ∙ address_itself (gateway_address setup);
          inside = any_from_one (λ (one : List ℕ). one ≡ says.text) (texts_of told.1.packet.bytes) told.4.3;
        };
        moment = told.4.2 ∙ now;
      }

pub taken_at_once : (setup : Setup) (steps : List WorldStep) (number : ℕ) (b : Begun) → IsSetUp setup → steps_are_taken setup world_opening (steps ++ delivering number ∷ []) ≡ true
    → let w = plain_world setup steps in let after = plain_world setup (steps ++ delivering number ∷ []) in IsOwn setup w b → IsCopy setup w gateway_end b.text number
    → AgentHasRoom setup after → IsTaken setup w after b.id
taken_at_once setup steps number b set_up taken own copy room =
    let w = plain_world setup steps in
    let front = taken_front setup world_opening steps (delivering number ∷ []) taken in
    let l = world_linked setup steps set_up front in
    let was : WasBegun (now_in setup w) b =
    one_to (λ (one : Begun). WasBegun (now_in setup w) one × (one ≡ b)) (WasBegun (now_in setup w) b) (λ one both. subst (WasBegun (now_in setup w)) both.1 both.0) (own_in setup w)
    (one_of_each (WasBegun (now_in setup w)) (λ (one : Begun). one ≡ b) (own_in setup w) l.links.gateway.stands.logged.begun (one_from_any (λ (one : Begun). one ≡ b) (own_in setup w) own)) in
    agent_takes setup steps number b was.name set_up taken was.reads copy (step_more setup steps (delivering number) ∙ handed_to_agent setup w b.text number copy) room
