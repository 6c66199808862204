use Rattle.std.proofs.Common.{◌≡◌, ℕ, List, [], ◌∷◌, length, ◌∙◌, arith}
use Rattle.transmission.specs.Texts.{texts_of}
use Rattle.transmission.specs.Example.{dot_lines}
use Rattle.transmission.proofs.TextLaws.{texts-dot_lines}
use Rattle.plain_machine.specs.Example.{example, agent, machine_at, from_agent}
use Rattle.gateway_core.specs.Outcomes.{outcomes_of, outcomes_after}
use Rattle.gateway_core.specs.Example.{told}
use Rattle.gateway_core.proofs.TextLemmas.{length-text_outcomes}
use Rattle.gateway_core.proofs.examples.as_many_texts_are_told_of_as_there_can_be.Goals as goal

each_told : (bytes : List ℕ) → length (told (from_agent bytes ∷ [])) ≡ length (texts_of bytes)
unfolding outcomes_of outcomes_after
each_told bytes = length-text_outcomes example (machine_at 1000) agent (texts_of bytes)

pub returns : goal.returns
returns c = each_told (dot_lines 2000) ∙ texts-dot_lines 2000 (omega arith)
