-- What the agent of a world was told of a line is what its firsts told of that line, joined.
use Rattle.std.proofs.Common.{◌≡◌, ℕ, zero, suc, ◌-◌, ◌≤◌, Bool, true, false, ◌==◌, if◌then◌else◌, List, [], ◌∷◌, ◌++◌, length, replicate, Option, Some, None, refl, sym, ap, ◌∙◌, rules, arith, append-nil, append_assoc}
use Rattle.std.specs.Prelude.{flat_map, fold}
use Rattle.std.specs.List.{slice_index_or}
use Rattle.std.proofs.lemmas.Bool.{eqb-true, eqb-false}
use Rattle.std.proofs.lemmas.List.{get_or-set_same, get_or-set_other, length-replicate, length-set}
use Rattle.mgcp_text.specs.declared.message.Param.{Param}
use Rattle.mgcp_text.specs.declared.message.Verb.{Verb}
use Rattle.mgcp_text.specs.declared.message.Verb.TheVariants.{Epcf, Rqnt, Ntfy, Crcx, Mdcx, Dlcx, Auep, Aucx, Rsip, Other}
use Rattle.mgcp_text.specs.declared.message.Message.TheVariants as messages
use Rattle.mgcp_text.specs.Reading.{Outcome, message, no_header, bad_version, bad_body}
use Rattle.endpoint_names.specs.Name.{line_named, name_of}
use Rattle.packages.specs.declared.observed.Observed.{Observed}
use Rattle.plain_machine.specs.Answering.{line_meant}
use Rattle.plain_machine.specs.Setup.{IsSetUp}
use Rattle.plain_machine.specs.declared.setup.Setup.{Setup}
use Rattle.machine_laws.proofs.EachLemmas.{Each, each_both}
use Rattle.call_agent.specs.declared.setup.AgentSetup.{AgentSetup}
use Rattle.call_agent.specs.declared.taking.Taken.{Taken}
use Rattle.call_agent.specs.Agent.{observed_on}
use Rattle.call_agent.specs.Taking.{command_of, taken_of, taken_on, with_taken}
use Rattle.agent_core.specs.World.{WorldStep, agent_in, agent_of, plain_world, steps_are_taken, world_opening}
use Rattle.world_laws.specs.Reached.{Reached, taken_in, taken_of_command, taken_with, told_of}
use Rattle.world_laws.proofs.TakenLaws.{taken_is}

-- it is of a line that there is
abbrev IsOf : ℕ → Taken → Type 0
IsOf lines told = (1 ≤ told.line) × (told.line ≤ lines)

line_named_within : (local : List ℕ) (lines line : ℕ) → line_named local lines ≡ Some line → (1 ≤ line) × (line ≤ lines)
unfolding line_named
line_named_within local zero line e = absurd cc
line_named_within local (suc n) line e = search (rules, line_named_within local n line)

meant_within : (name domain : List ℕ) (lines line : ℕ) → line_meant (name_of name domain lines) ≡ Some line → (1 ≤ line) × (line ≤ lines)
unfolding name_of
meant_within name domain lines line e = search (rules, line_named_within)

told_each : (setup : AgentSetup) (verb : Verb) (name : List ℕ) (params : List Param) → Each (IsOf setup.lines) (taken_of setup verb name params)
told_each setup Ntfy name params = by_line (line_meant (name_of name setup.domain setup.lines)) refl where
  by_line : (found : Option ℕ) → line_meant (name_of name setup.domain setup.lines) ≡ found → Each (IsOf setup.lines) (taken_on found params)
  by_line None is = tt
  by_line (Some line) is = (meant_within name setup.domain setup.lines line is, tt)
told_each setup Rsip name params = tt
told_each setup Epcf name params = tt
told_each setup Rqnt name params = tt
told_each setup Crcx name params = tt
told_each setup Mdcx name params = tt
told_each setup Dlcx name params = tt
told_each setup Auep name params = tt
told_each setup Aucx name params = tt
told_each setup Other name params = tt

outcome_each : (setup : AgentSetup) (outcome : Outcome) → Each (IsOf setup.lines) (taken_of_command (command_of setup outcome))
outcome_each setup no_header = tt
outcome_each setup (bad_version id) = tt
outcome_each setup (bad_body id) = tt
outcome_each setup (message (messages.Command verb id name params body)) = told_each setup verb name params
outcome_each setup (message (messages.Response code id params body)) = tt

all_each : (setup : AgentSetup) (ones : List Reached) → Each (IsOf setup.lines) (flat_map (taken_with setup) ones)
all_each setup [] = tt
all_each setup (one ∷ ones) =
    each_both (IsOf setup.lines) (taken_with setup one) (flat_map (taken_with setup) ones) (outcome_each setup one.outcome) (all_each setup ones)

-- One place of a list

nothing_at : (n i : ℕ) → ◌≡◌ {A = List Observed} (slice_index_or (replicate n []) i []) []
nothing_at zero i = refl
nothing_at (suc n) zero = refl
nothing_at (suc n) (suc i) = nothing_at n i

-- What is told

told_one : (lines : List (List Observed)) (told : Taken) (line : ℕ) → 1 ≤ line → IsOf (length lines) told
    → slice_index_or (with_taken lines told) (line - 1) [] ≡ slice_index_or lines (line - 1) [] ++ told_of line told
told_one lines told line some of = by_test (told.line == line) refl where
  by_test : (b : Bool) → (told.line == line) ≡ b → slice_index_or (with_taken lines told) (line - 1) [] ≡ slice_index_or lines (line - 1) [] ++ (if b then told.observed else [])
  by_test true same =
      let e : told.line ≡ line = eqb-true told.line line same in
      ap (λ (i : ℕ). slice_index_or (with_taken lines told) (i - 1) []) (sym e)
      ∙ get_or-set_same lines (told.line - 1) (slice_index_or lines (told.line - 1) [] ++ told.observed) [] (let least : 1 ≤ told.line = of.0 in let most : told.line ≤ length lines = of.1 in omega (arith, least, most))
      ∙ ap (λ (i : ℕ). slice_index_or lines (i - 1) [] ++ told.observed) e
  by_test false other =
      get_or-set_other lines (told.line - 1) (line - 1) (slice_index_or lines (told.line - 1) [] ++ told.observed) []
      (λ e. eqb-false told.line line other (let least : 1 ≤ told.line = of.0 in omega (arith, e, some, least)))
      ∙ sym (append-nil (slice_index_or lines (line - 1) []))

told_all : (n : ℕ) (lines : List (List Observed)) (all : List Taken) (line : ℕ) → length lines ≡ n → 1 ≤ line → Each (IsOf n) all
    → slice_index_or (fold with_taken lines all) (line - 1) [] ≡ slice_index_or lines (line - 1) [] ++ flat_map (told_of line) all
told_all n lines [] line same some each = sym (append-nil (slice_index_or lines (line - 1) []))
told_all n lines (told ∷ all) line same some each =
    let least : 1 ≤ told.line = each.0.0 in
    let most : told.line ≤ n = each.0.1 in
    told_all n (with_taken lines told) all line (length-set lines (told.line - 1) (slice_index_or lines (told.line - 1) [] ++ told.observed) ∙ same) some each.1
    ∙ ap (λ (x : List Observed). x ++ flat_map (told_of line) all) (told_one lines told line some (least, omega (arith, most, same)))
    ∙ append_assoc (slice_index_or lines (line - 1) []) (told_of line told) (flat_map (told_of line) all)

none_of_0 : (n : ℕ) (all : List Taken) → Each (IsOf n) all → flat_map (told_of 0) all ≡ []
none_of_0 n [] each = refl
none_of_0 n (told ∷ all) each = by_test (told.line == 0) refl (none_of_0 n all each.1) where
  by_test : (b : Bool) → (told.line == 0) ≡ b → flat_map (told_of 0) all ≡ [] → (if b then told.observed else []) ++ flat_map (told_of 0) all ≡ []
  by_test true same rest = let least : 1 ≤ told.line = each.0.0 in absurd (omega (arith, least, eqb-true told.line 0 same))
  by_test false other rest = rest

at_least_1 : (line : ℕ) → (line ≡ 0 → ⊥) → 1 ≤ line
at_least_1 zero some = absurd (some refl)
at_least_1 (suc n) some = omega arith

-- where this is what all of it makes of nothing, what stands at a line's place is what was told of that line
told_lines : (lines : ℕ) (taken : List (List Observed)) (all : List Taken) (line : ℕ) → taken ≡ fold with_taken (replicate lines []) all → Each (IsOf lines) all
    → (if line == 0 then [] else slice_index_or taken (line - 1) []) ≡ flat_map (told_of line) all
told_lines lines taken all line is each = by_test (line == 0) refl where
  by_test : (b : Bool) → (line == 0) ≡ b → (if b then [] else slice_index_or taken (line - 1) []) ≡ flat_map (told_of line) all
  by_test true same = sym (ap (λ (i : ℕ). flat_map (told_of i) all) (eqb-true line 0 same) ∙ none_of_0 lines all each)
  by_test false other =
      ap (λ (x : List (List Observed)). slice_index_or x (line - 1) []) is
      ∙ told_all lines (replicate lines []) all line (length-replicate lines []) (at_least_1 line (eqb-false line 0 other)) each
      ∙ ap (λ (x : List Observed). x ++ flat_map (told_of line) all) (nothing_at lines (line - 1))

-- what the agent of a world was told of a line
pub told_is : (setup : Setup) (steps : List WorldStep) (line : ℕ) → IsSetUp setup → steps_are_taken setup world_opening steps ≡ true
    → observed_on line (agent_in setup (plain_world setup steps))
    ≡ flat_map (told_of line) (flat_map (taken_with (agent_of setup)) (taken_in (plain_world setup steps)))
told_is setup steps line set_up taken =
    let w = plain_world setup steps in
    told_lines (agent_of setup).lines (agent_in setup w).taken (flat_map (taken_with (agent_of setup)) (taken_in w)) line (taken_is setup steps set_up taken) (all_each (agent_of setup) (taken_in w))
