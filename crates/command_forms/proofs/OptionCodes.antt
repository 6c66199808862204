-- Which codes the faults of L have.
use Rattle.std.proofs.Common.{◌≡◌, ℕ, ◌≤◌, List, arith, rules, Err}
use Rattle.std.specs.Prelude.{IfErr}
use Rattle.connections.specs.Options.{options_in, options_of}
use Rattle.command_forms.proofs.StepLemmas.{is_err}

-- a fault of L is 541 or 535
pub of_faulty : (P : ℕ → Type 0) (value : List ℕ) → P 541 → P 535 → IfErr (options_of value) P
unfolding options_of options_in
of_faulty P value other none = search rules

pub options_small : (value : List ℕ) (code : ℕ) → options_of value ≡ Err code → code ≤ 999
options_small value code e = is_err (λ c. c ≤ 999) (options_of value) code (of_faulty (λ c. c ≤ 999) value (omega arith) (omega arith)) e
