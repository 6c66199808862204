-- What is a copy in the worlds of the worked examples, what is handed over there and where it goes, and what is set up.
use Rattle.std.proofs.Common.{◌≡◌, ℕ, zero, suc, ◌+◌, Bool, true, false, ◌||◌, ◌&&◌, ◌==◌, List, [], ◌∷◌, ◌++◌, drop, length, Option, Some, None, inl, inr, refl, sym, ap, ◌∙◌, subst, arith}
use Rattle.std.specs.Prelude.{nat_le, option_map, slice_get, unwrap_or, Any, not}
use Rattle.std.proofs.lemmas.Bool.{and_parts, leb-true, eqb-true}
use Rattle.std.proofs.lemmas.Bool.Decides.{Decides-eqb}
use Rattle.std.proofs.lemmas.Option.{none-some}
use Rattle.std.proofs.Math.Seq.{drop-append_seam}
use Rattle.transmission.specs.Texts.{texts_of}
use Rattle.plain_machine.specs.declared.setup.Setup.{Setup}
use Rattle.plain_machine.specs.Example.{two_lines}
use Rattle.plain_machine.specs.Event.{GatewayEvent}
use Rattle.plain_machine.specs.Posting.{line_of_id}
use Rattle.plain_machine.specs.Setup.{IsSetUp}
use Rattle.plain_machine.specs.Message.{Begun}
use Rattle.machine_laws.specs.Saying.{OneOf}
use Rattle.machine_laws.proofs.EachLemmas.{any_from_one, one_from_any}
use Rattle.agent_core.specs.declared.packet.End.{End}
use Rattle.agent_core.specs.declared.packet.End.TheVariants.{AgentEnd as agent_end, GatewayEnd as gateway_end}
use Rattle.agent_core.specs.declared.packet.Packet.{Packet}
use Rattle.agent_core.specs.declared.packet.Posted.{Posted}
use Rattle.agent_core.specs.World.{World, WorldStep, delivering, dialling, issuing, now_in, plain_world, ticking, world_opening}
use Rattle.world_laws.specs.Reached.{own_in}
use Rattle.world_laws.specs.Copies.{arrives, IsCopy}
use Rattle.world_laws.specs.Fairness.{GoesToAgent, IsFair, IsHandedOver, ReachTheAgent}
use Rattle.world_laws.specs.DeliveryExample.{took_between_with, took_with}
use Rattle.world_laws.proofs.Computing.{on_examples}
use Rattle.world_laws.proofs.TakenLaws.{took_more}
use Rattle.world_laws.proofs.PostedFinal.{steps_more}

pub among_at : (texts : List (List ℕ)) (place : ℕ) (text : List ℕ) → slice_get texts place ≡ Some text → OneOf (λ (one : List ℕ). one ≡ text) texts
among_at [] place text at = absurd (none-some text at)
among_at (first ∷ texts) zero text at = inl (ap (λ (o : Option (List ℕ)). unwrap_or o first) at)
among_at (first ∷ texts) (suc place) text at = inr (among_at texts place text at)

-- whose packet this is, whether it goes to the other end, and which text is at this place among its messages
abbrev pub Seen : Type 0
Seen = End × Bool × List ℕ

abbrev pub seen_as : End → Bool → List ℕ → Seen
seen_as end goes text = (end, goes, text)

abbrev pub seen : Setup → ℕ → Option Posted → Option Seen
seen setup place None = None
seen setup place (Some post) = option_map (seen_as post.end (arrives post.end setup post.packet)) (slice_get (texts_of post.packet.bytes) place)

pub seen_parts : (from end : End) (goes : Bool) (there : Option (List ℕ)) (text : List ℕ) → option_map (seen_as from goes) there ≡ Some (seen_as end true text)
    → (from ≡ end) × (goes ≡ true) × (there ≡ Some text)
seen_parts from end goes None text is = absurd cc
seen_parts from end goes (Some one) text is = (
  ap (λ (o : Option Seen). (unwrap_or o (seen_as from goes one)).0) is,
  ap (λ (o : Option Seen). (unwrap_or o (seen_as from goes one)).1) is,
  ap (λ (o : Option Seen). Some (unwrap_or o (seen_as from goes one)).2) is,
)

unfoldable copy_seen : (setup : Setup) (w : World) (end : End) (text : List ℕ) (number place : ℕ) (there : Option Posted) → slice_get w.posted number ≡ there
    → seen setup place there ≡ Some (seen_as end true text) → IsCopy setup w end text number
copy_seen setup w end text number place None at is = absurd cc
copy_seen setup w end text number place (Some post) at is =
    let parts = seen_parts post.end end (arrives post.end setup post.packet) (slice_get (texts_of post.packet.bytes) place) text is in
    record {
      post = post;
      found = at;
      sender = parts.0;
      goes = subst (λ (x : End). arrives x setup post.packet ≡ true) parts.0 parts.1;
      inside = any_from_one (λ (one : List ℕ). one ≡ text) (texts_of post.packet.bytes) (among_at (texts_of post.packet.bytes) place text parts.2);
    }

-- the packet with this number has this text at this place among its messages
unfoldable pub copy_at : (setup : Setup) (w : World) (end : End) (text : List ℕ) (number place : ℕ) → seen setup place (slice_get w.posted number) ≡ Some (seen_as end true text)
    → IsCopy setup w end text number
unfolding copy_seen
copy_at setup w end text number place is = copy_seen setup w end text number place (slice_get w.posted number) refl is

-- What isn't handed over

abbrev hands : ℕ → WorldStep → Bool
hands number (issuing verb name rest) = false
hands number (dialling line act) = false
hands number (ticking moment) = false
hands number (delivering other) = other == number

-- these steps hand the packet with this number over
abbrev pub hand_over : ℕ → List WorldStep → Bool
hand_over number [] = false
hand_over number (step ∷ steps) = hands number step || hand_over number steps

either_holds : (a b : Bool) → b ≡ true → (a || b) ≡ true
either_holds true b is = refl
either_holds false b is = is

handed_there : (number : ℕ) (before later : List WorldStep) → hand_over number ((before ++ delivering number ∷ []) ++ later) ≡ true
handed_there number [] later = ap (λ (b : Bool). b || hand_over number later) ((Decides-eqb number number).1 refl)
handed_there number (step ∷ before) later = either_holds (hands number step) (hand_over number ((before ++ delivering number ∷ []) ++ later)) (handed_there number before later)

pub none_handed : (setup : Setup) (steps : List WorldStep) (within number : ℕ) (post : Posted) → hand_over number steps ≡ false → IsHandedOver setup steps within number post → ⊥
none_handed setup steps within number post none handed =
    absurd (let e : false ≡ true = sym none ∙ ap (hand_over number) handed.order ∙ handed_there number handed.before handed.later in cc)

-- so a network that should have handed it over isn't fair
pub not_fair : (setup : Setup) (steps : List WorldStep) (within number : ℕ) (post : Posted) → slice_get (plain_world setup steps).posted number ≡ Some post
    → nat_le (post.packet.moment + within) (now_in setup (plain_world setup steps)) ≡ true → hand_over number steps ≡ false → IsFair setup steps within → ⊥
not_fair setup steps within number post found old none fair =
    none_handed setup steps within number post none (fair number post found (leb-true (post.packet.moment + within) (now_in setup (plain_world setup steps)) old))

-- Whether all packets of the gateway go to the agent, computed

abbrev goes_by : End → Setup → Packet → Bool
goes_by agent_end setup packet = true
goes_by gateway_end setup packet = arrives gateway_end setup packet

abbrev all_go : Setup → List Posted → Bool
all_go setup [] = true
all_go setup (post ∷ posts) = goes_by post.end setup post.packet && all_go setup posts

it_goes : (setup : Setup) (posts : List Posted) (number : ℕ) (post : Posted) → all_go setup posts ≡ true → slice_get posts number ≡ Some post → post.end ≡ gateway_end
    → arrives gateway_end setup post.packet ≡ true
it_goes setup [] number post all found from = absurd (none-some post found)
it_goes setup (first ∷ posts) zero post all found from =
    let both = and_parts (goes_by first.end setup first.packet) (all_go setup posts) all in
    let same : first ≡ post = ap (λ (o : Option Posted). unwrap_or o first) found in
    subst (λ (e : End). goes_by e setup post.packet ≡ true) from (subst (λ (x : Posted). goes_by x.end setup x.packet ≡ true) same both.0)
it_goes setup (first ∷ posts) (suc number) post all found from =
    it_goes setup posts number post (and_parts (goes_by first.end setup first.packet) (all_go setup posts) all).1 found from

pub to_agent : (setup : Setup) (steps : List WorldStep) (text : List ℕ) → all_go setup (plain_world setup steps).posted ≡ true → GoesToAgent setup (plain_world setup steps) text
to_agent setup steps text all = λ number post found from inside. it_goes setup (plain_world setup steps).posted number post all found from

-- where one goes elsewhere, what is in it doesn't reach the agent

pub goes_astray : (setup : Setup) (steps : List WorldStep) (text : List ℕ) (number : ℕ) (post : Posted) → slice_get (plain_world setup steps).posted number ≡ Some post → post.end ≡ gateway_end
    → arrives gateway_end setup post.packet ≡ false → OneOf (λ (one : List ℕ). one ≡ text) (texts_of post.packet.bytes) → GoesToAgent setup (plain_world setup steps) text → ⊥
goes_astray setup steps text number post found from lost inside goes =
    let clash : false ≡ true = sym lost ∙ goes number post found from (any_from_one (λ (one : List ℕ). one ≡ text) (texts_of post.packet.bytes) inside) in cc

pub not_reaching : (setup : Setup) (steps : List WorldStep) (line number : ℕ) (b : Begun) (post : Posted) → OneOf (λ (one : Begun). one ≡ b) (own_in setup (plain_world setup steps))
    → line_of_id b.id ≡ line → slice_get (plain_world setup steps).posted number ≡ Some post → post.end ≡ gateway_end → arrives gateway_end setup post.packet ≡ false
    → OneOf (λ (one : List ℕ). one ≡ b.text) (texts_of post.packet.bytes) → ReachTheAgent setup steps line → ⊥
not_reaching setup steps line number b post own of found from lost inside reach =
    goes_astray setup steps b.text number post found from lost inside (reach b (any_from_one (λ (one : Begun). one ≡ b) (own_in setup (plain_world setup steps)) own) of)

-- What a gateway took up to one of the steps, and then since; computed twice, and compared, it would be dear
pub took_split : (setup : Setup) (first all : List WorldStep) → all ≡ first ++ drop (length first) all → took_with setup all ≡ took_with setup first ++ took_between_with setup first all
took_split setup first all order =
    let w = plain_world setup first in
    let more = took_more setup w (drop (length first) all) in
    let is : took_with setup all ≡ w.gateway_took ++ more.0 =
    ap (took_with setup) order ∙ ap (λ (x : World). x.gateway_took) (steps_more setup world_opening first (drop (length first) all)) ∙ more.1 in
    is ∙ ap (λ (x : List GatewayEvent). w.gateway_took ++ x) (sym (ap (drop (length w.gateway_took)) is ∙ drop-append_seam w.gateway_took more.0))

-- What is set up, and what isn't

pub two_lines_set_up : IsSetUp two_lines
unfolding on_examples
two_lines_set_up = record { domain = refl; agent = refl; lines = omega arith; address = refl; ports = omega arith; first = omega arith }

-- Where the packets of a world are, when they were sent, and what none of them tells; for worked examples, in which it computes.

abbrev pub all_sent_at : ℕ → List Posted → Bool
all_sent_at moment [] = true
all_sent_at moment (post ∷ posts) = (post.packet.moment == moment) && all_sent_at moment posts

pub sent_at : (moment : ℕ) (posts : List Posted) (number : ℕ) (post : Posted) → all_sent_at moment posts ≡ true
    → slice_get posts number ≡ Some post → post.packet.moment ≡ moment
sent_at moment [] number post all found = absurd (none-some post found)
sent_at moment (first ∷ posts) zero post all found =
    let same : first ≡ post = ap (λ (o : Option Posted). unwrap_or o first) found in
    subst (λ (p : Posted). p.packet.moment ≡ moment) same
    (eqb-true first.packet.moment moment (and_parts (first.packet.moment == moment) (all_sent_at moment posts) all).0)
sent_at moment (first ∷ posts) (suc number) post all found =
    sent_at moment posts number post (and_parts (first.packet.moment == moment) (all_sent_at moment posts) all).1 found

-- no text of a packet is so long

abbrev differ : ℕ → List (List ℕ) → Bool
differ long [] = true
differ long (text ∷ texts) = not (length text == long) && differ long texts

abbrev pub all_differ : ℕ → List Posted → Bool
all_differ long [] = true
all_differ long (post ∷ posts) = differ long (texts_of post.packet.bytes) && all_differ long posts

not_both : (b : Bool) → not b ≡ true → b ≡ true → ⊥
not_both true one two = absurd cc
not_both false one two = absurd cc

none_is : (text : List ℕ) (texts : List (List ℕ)) → differ (length text) texts ≡ true → OneOf (λ (one : List ℕ). one ≡ text) texts → ⊥
none_is text [] all is = absurd is
none_is text (one ∷ texts) all (inl is) =
    not_both (length one == length text) (and_parts (not (length one == length text)) (differ (length text) texts) all).0
    ((Decides-eqb (length one) (length text)).1 (ap (λ (t : List ℕ). length t) is))
none_is text (one ∷ texts) all (inr is) =
    none_is text texts (and_parts (not (length one == length text)) (differ (length text) texts) all).1 is

pub none_tells : (text : List ℕ) (posts : List Posted) (number : ℕ) (post : Posted) → all_differ (length text) posts ≡ true
    → slice_get posts number ≡ Some post → Any (λ (one : List ℕ). one ≡ text) (texts_of post.packet.bytes) → ⊥
none_tells text [] number post all found inside = absurd (none-some post found)
none_tells text (first ∷ posts) zero post all found inside =
    let same : first ≡ post = ap (λ (o : Option Posted). unwrap_or o first) found in
    none_is text (texts_of post.packet.bytes)
    (subst (λ (p : Posted). differ (length text) (texts_of p.packet.bytes) ≡ true) same
    (and_parts (differ (length text) (texts_of first.packet.bytes)) (all_differ (length text) posts) all).0)
    (one_from_any (λ (one : List ℕ). one ≡ text) (texts_of post.packet.bytes) inside)
none_tells text (first ∷ posts) (suc number) post all found inside =
    none_tells text posts number post
    (and_parts (differ (length text) (texts_of first.packet.bytes)) (all_differ (length text) posts) all).1 found inside
