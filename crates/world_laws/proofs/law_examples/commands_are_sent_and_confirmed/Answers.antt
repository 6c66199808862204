use Rattle.std.proofs.Common.{◌≡◌, ℕ, Bool, true, false, ◌||◌, ◌&&◌, ◌==◌, List, [], ◌∷◌, ◌++◌, ◌∙◌, drop, refl, sym, ap, arith}
use Rattle.std.proofs.lemmas.Bool.{and_from, or_left, or_right}
use Rattle.std.proofs.lemmas.Bool.Decides.{Decides-eqb}
use Rattle.transmission.specs.Arrival.{Arrival}
use Rattle.transmission.specs.Answers.{IsConfirmed, is_confirmed}
use Rattle.transmission.specs.HistoryExample.{comes, comes_with, to}
use Rattle.transmission.proofs.AnswerLaws.{confirmed_is, is_confirmed_from}
use Rattle.plain_machine.specs.Example.{two_lines}
use Rattle.agent_core.specs.declared.packet.End.TheVariants.{AgentEnd}
use Rattle.world_laws.specs.Example.{world}
use Rattle.world_laws.specs.Copies.{IsConfirmedAmong, gateway_firsts}
use Rattle.world_laws.specs.DeliveryExample.{asked, audit}
use Rattle.world_laws.specs.LawExample.{confirmed}
use Rattle.world_laws.proofs.Computing.{on_examples}
use Rattle.world_laws.proofs.ExampleLemmas.{copy_at, sent_at}
use Rattle.world_laws.proofs.law_examples.commands_are_sent_and_confirmed.Goals as goal

-- whether one of these has the id, and one behind it confirms it
abbrev is_named_behind : ℕ → List Arrival → Bool
is_named_behind id [] = false
is_named_behind id (one ∷ later) = (one.id == id && is_confirmed id later) || is_named_behind id later

named_behind : (id : ℕ) (before : List Arrival) (one : Arrival) (later : List Arrival) → one.id ≡ id → IsConfirmed id later
    → is_named_behind id (before ++ one ∷ later) ≡ true
named_behind id [] one later same named =
    or_left (one.id == id && is_confirmed id later) (is_named_behind id later)
    (and_from (one.id == id) (is_confirmed id later) ((Decides-eqb one.id id).1 same) (is_confirmed_from id later named))
named_behind id (x ∷ before) one later same named =
    or_right (x.id == id && is_confirmed id (before ++ one ∷ later)) (is_named_behind id (before ++ one ∷ later))
    (named_behind id before one later same named)

not_confirmed : (id : ℕ) (firsts : List Arrival) → is_named_behind id firsts ≡ false → IsConfirmedAmong id firsts → ⊥
not_confirmed id firsts none among =
    let named = named_behind id among.before among.one among.later among.same among.named in
    let clash : false ≡ true = sym none ∙ ap (is_named_behind id) among.order ∙ named in cc

pub returns : goal.returns
unfolding on_examples copy_at
returns c = record {
  sent = record { number = 2; copy = copy_at two_lines (world asked) AgentEnd audit.text 2 0 refl; moment = refl };
  not_sent = λ sent.
      (let at = sent_at 1 (world asked).posted sent.number sent.copy.post refl sent.copy.found in
      let late : 1 ≡ 501 = sym at ∙ sent.moment in
      absurd (omega (arith, late)));
  confirmed = record { before = []; one = _; later = _; order = refl; same = refl; named = confirmed_is 1 (drop 1 (gateway_firsts two_lines (world confirmed))) refl };
  not_confirmed = not_confirmed 2 (gateway_firsts two_lines (world confirmed)) refl;
  named_before = not_confirmed 2 (comes_with (to 2 2 ∷ []) 1 0 65 ∷ comes 2 0 66 ∷ []) refl;
  of_no_first = not_confirmed 7 (comes 1 0 65 ∷ comes_with (to 7 7 ∷ []) 2 0 66 ∷ []) refl;
}
