use Rattle.std.proofs.Common.{◌≡◌, ◌++◌, List, ℕ, ap, ◌∙◌}
use Rattle.std.specs.Prelude.{codes}
use Rattle.plain_machine.specs.ConfigFault.{config_key_name}
use Rattle.gateway_config.specs.Wording.{document_told}
use Rattle.gateway_config.proofs.PieceLemmas.{behind}
use Rattle.gateway_config.proofs.wording.put_document_flaw.Goals as goal

pub returns-in-AnyAddress : goal.returns-in-AnyAddress
returns-in-AnyAddress c =
    rw c.in-AnyAddress.is (behind _ _ _ _ _ (c.put-in-AnyAddress.ensures ∙ ap (λ (words : List ℕ). c.args.out.now ++ words) c.name-in-AnyAddress.ensures) c.put-in-AnyAddress-2.ensures)
