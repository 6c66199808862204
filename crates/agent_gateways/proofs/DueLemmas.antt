-- What falls due next, gateway by gateway.
use Rattle.std.proofs.Common.{◌≡◌, ℕ, ◌+◌, ◌<◌, ◌≤◌, List, length, get_or, drop, Option, refl, sym, ap, subst, ◌∙◌}
use Rattle.std.proofs.lemmas.List.{drop_more, at_drop_all}
use Rattle.turns.specs.Clock.{earlier}
use Rattle.agent_gateways.specs.declared.gateway.Gateway.{Gateway}
use Rattle.agent_gateways.specs.declared.gateway.Wake.{Wake}
use Rattle.agent_gateways.specs.Dues.{FallsDueAt, FallsDueFrom}
use Rattle.agent_gateways.specs.Wakes.{first_moment}

-- of what an agent does next, and of what is sent again that was put off, the earlier one
pub earlier_so : (own flies wake due : Option ℕ) (wakes : List Wake) → due ≡ earlier own wake → own ≡ flies → wake ≡ first_moment wakes
    → due ≡ earlier flies (first_moment wakes)
earlier_so own flies wake due wakes due_is own_is wake_is =
    due_is ∙ ap (λ (first : Option ℕ). earlier first wake) own_is ∙ ap (λ (other : Option ℕ). earlier flies other) wake_is

-- one more of them is asked
asks : (gateways : List Gateway) (place : ℕ) (gateway : Gateway) (least own next due : Option ℕ) → place < length gateways
    → gateway ≡ get_or gateways place gateway → FallsDueAt gateway own → next ≡ earlier least own
    → FallsDueFrom next (drop (place + 1) gateways) due → FallsDueFrom least (drop place gateways) due
asks gateways place gateway least own next due within item own_is next_is falls =
    subst (λ (left : List Gateway). FallsDueFrom least left due) (sym (drop_more gateways place gateway within)) (
      own,
      subst (λ (one : Gateway). FallsDueAt one own) item own_is,
      subst (λ (from : Option ℕ). FallsDueFrom from (drop (place + 1) gateways) due) next_is falls,
    )

pub asks_one : (given gateways : List Gateway) (place : ℕ) (gateway : Gateway) (least own next due : Option ℕ) → given ≡ gateways
    → place < length given → gateway ≡ get_or given place gateway → FallsDueAt gateway own → next ≡ earlier least own
    → FallsDueFrom next (drop (place + 1) gateways) due → FallsDueFrom least (drop place gateways) due
asks_one given gateways place gateway least own next due same within item own_is next_is falls =
    subst (λ (list : List Gateway). FallsDueFrom next (drop (place + 1) list) due → FallsDueFrom least (drop place list) due) same
    (asks given place gateway least own next due within item own_is next_is) falls

-- all were
asked : (gateways : List Gateway) (place : ℕ) (least : Option ℕ) → length gateways ≤ place → FallsDueFrom least (drop place gateways) least
asked gateways place least past =
    subst (λ (left : List Gateway). FallsDueFrom least left least)
    (sym (at_drop_all (λ (left : List Gateway). left) gateways place past)) refl

pub asked_all : (given gateways : List Gateway) (place : ℕ) (least : Option ℕ) → given ≡ gateways → length given ≤ place
    → FallsDueFrom least (drop place gateways) least
asked_all given gateways place least same past =
    subst (λ (list : List Gateway). FallsDueFrom least (drop place list) least) same (asked given place least past)
