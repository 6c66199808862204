use Rattle.agent_gateways.proofs.examples.a_board_has_its_lines.Goals as goal

pub returns-clause-these : goal.returns-clause-these
returns-clause-these c = λ config board of. of.2
