-- The values of a list are counted, and what is put behind words stands behind them.
use Rattle.std.proofs.Common.{◌≡◌, ℕ, List, [], ◌∷◌, ◌++◌, length, refl, ap, ◌∙◌, suc, append_assoc}
use Rattle.toml.specs.View.{items_view}
use Rattle.toml.specs.declared.value.Value.{Value}
use Rattle.gateway_config.specs.Pieces.{item_count}

pub counted : (values : List Value) → length values ≡ item_count (items_view values)
counted [] = refl
counted (value ∷ values) = ap suc (counted values)

pub behind : (out words next more last : List ℕ) → next ≡ out ++ words → last ≡ next ++ more → last ≡ out ++ (words ++ more)
behind out words next more last put then_put = then_put ∙ ap (λ (text : List ℕ). text ++ more) put ∙ append_assoc out words more
