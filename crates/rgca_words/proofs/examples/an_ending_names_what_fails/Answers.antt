use Rattle.std.proofs.Common.{◌≡◌, ℕ, List, ◌++◌, ◌∙◌, codes, ap, subst}
use Rattle.live_system.specs.Ending.{ending_text as common_text}
use Rattle.live_system.specs.Wording.{joined}
use Rattle.output_queues.specs.Reasons.{reason_of}
use Rattle.rgca_words.specs.Texts.{ending_text}
use Rattle.rgca_words.proofs.PieceLemmas.{joined_pieces}
use Rattle.rgca_words.proofs.examples.an_ending_names_what_fails.Goals as goal

-- it is what is said of an ending with these names

pub returns-clause-read : goal.returns-clause-read
unfolding ending_text common_text
returns-clause-read c = λ read written text kind says.
    subst (λ (name : List ℕ). text ≡ name ++ (codes ": read fault" ++ (reason_of kind ++ codes "\n"))) says.2.0 says.3

pub returns-clause-written : goal.returns-clause-written
unfolding ending_text common_text
returns-clause-written c = λ read written text kind says.
    subst (λ (name : List ℕ). text ≡ name ++ (codes ": write fault" ++ (reason_of kind ++ codes "\n"))) says.2.1 says.3

pub returns-clause-config : goal.returns-clause-config
unfolding ending_text
returns-clause-config c = λ read written text line says.
    subst (λ (name : List ℕ). text ≡ name ++ (codes ": " ++ (line.items ++ codes "\n"))) says.2.0 says.3

pub returns-clause-usage : goal.returns-clause-usage
unfolding ending_text common_text
returns-clause-usage c = λ read written text says.
    says.3 ∙ ap (λ (usage : List ℕ). codes "usage: " ++ (usage ++ codes "\n")) says.4.0

pub returns-clause-help : goal.returns-clause-help
unfolding ending_text common_text
returns-clause-help c = λ read written text says.
    says.3 ∙ joined_pieces says.0.help.now ∙ ap (λ (pieces : List (List ℕ)). joined pieces) says.4.1

pub returns-clause-version : goal.returns-clause-version
unfolding ending_text common_text
returns-clause-version c = λ read written text says.
    says.3 ∙ joined_pieces says.0.version.now ∙ ap (λ (pieces : List (List ℕ)). joined pieces) says.4.2
