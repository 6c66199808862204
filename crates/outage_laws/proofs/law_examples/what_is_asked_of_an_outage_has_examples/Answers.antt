use Rattle.std.proofs.Common.{◌≡◌, ℕ, true, Option, None, Some, inl, inr, refl, arith}
use Rattle.std.specs.Prelude.{is_some}
use Rattle.std.specs.Option.{unwrap_or}
use Rattle.std.proofs.lemmas.Bool.{leb-true}
use Rattle.plain_machine.specs.Example.{two_lines}
use Rattle.plain_machine.specs.declared.endpoint.Endpoint.{Endpoint}
use Rattle.plain_machine.specs.Lists.{plain, sent_of}
use Rattle.plain_machine.specs.Machine.{endpoint_at, opening_endpoint}
use Rattle.plain_machine.specs.Message.{Begun}
use Rattle.machine_laws.specs.Belonging.{of_line}
use Rattle.machine_laws.specs.Saying.{begun_in}
use Rattle.machine_laws.proofs.EachLemmas.{any_from_one}
use Rattle.agent_core.specs.World.{gateway_in}
use Rattle.world_laws.specs.Chances.{chances, last_chance}
use Rattle.world_laws.specs.DeliveryExample.{took_first}
use Rattle.world_laws.specs.Example.{world}
use Rattle.world_laws.proofs.ExampleLemmas.{to_agent}
use Rattle.outage_laws.specs.Example.{asked_again, connected_in_step, connected_late, serving_late}
use Rattle.outage_laws.specs.LawExample.{announced_anew, line_announced}
use Rattle.outage_laws.proofs.Computing.{on_examples}
use Rattle.outage_laws.proofs.law_examples.what_is_asked_of_an_outage_has_examples.Goals as goal

-- what is there is what stands there

it_stands : (found : Option Endpoint) (other : Endpoint) → is_some found ≡ true → found ≡ Some (unwrap_or found other)
it_stands None other is = absurd cc
it_stands (Some endpoint) other is = refl

there_line : is_some (endpoint_at (gateway_in two_lines (world connected_late)).endpoints 1) ≡ true
unfolding on_examples
there_line = refl

there_was : is_some (endpoint_at (plain two_lines (took_first connected_in_step)).endpoints 1) ≡ true
unfolding on_examples
there_was = refl

there_is : is_some (endpoint_at (gateway_in two_lines (world asked_again)).endpoints 1) ≡ true
unfolding on_examples
there_is = refl

-- computed clause by clause

pub returns-clause-of_line : goal.returns-clause-of_line
unfolding on_examples
returns-clause-of_line c = any_from_one (λ (one : Begun). one ≡ line_announced) (begun_in (of_line 1 (sent_of two_lines (world connected_late).gateway_took))) (inr (inl refl))

pub returns-clause-sent_since : goal.returns-clause-sent_since
unfolding on_examples
returns-clause-sent_since c = omega arith

pub returns-clause-by_then : goal.returns-clause-by_then
unfolding on_examples
returns-clause-by_then c = leb-true _ _ refl

pub returns-clause-paused : goal.returns-clause-paused
unfolding on_examples
returns-clause-paused c = leb-true _ _ refl

pub returns-clause-of_gateway : goal.returns-clause-of_gateway
unfolding on_examples
returns-clause-of_gateway c = any_from_one (λ (one : Begun). one ≡ announced_anew) (begun_in (of_line 0 (sent_of two_lines (world serving_late).gateway_took))) (inr (inl refl))

pub returns-clause-own_since : goal.returns-clause-own_since
unfolding on_examples
returns-clause-own_since c = omega arith

pub returns-clause-own_by_then : goal.returns-clause-own_by_then
unfolding on_examples
returns-clause-own_by_then c = leb-true _ _ refl

pub returns-clause-own_paused : goal.returns-clause-own_paused
unfolding on_examples
returns-clause-own_paused c = leb-true _ _ refl

pub returns-clause-chance : goal.returns-clause-chance
unfolding on_examples
returns-clause-chance c = any_from_one (λ (one : ℕ). one ≡ last_chance) chances (inr (inr (inr (inr (inr (inr (inr (inl refl))))))))

pub returns-clause-in_time : goal.returns-clause-in_time
unfolding on_examples
returns-clause-in_time c = omega arith

pub returns-clause-serves_late : goal.returns-clause-serves_late
unfolding on_examples
returns-clause-serves_late c = leb-true _ _ refl

pub returns-clause-connects_late : goal.returns-clause-connects_late
unfolding on_examples
returns-clause-connects_late c = leb-true _ _ refl

pub returns-clause-lasts : goal.returns-clause-lasts
unfolding on_examples
returns-clause-lasts c = omega arith

pub returns-clause-reaches : goal.returns-clause-reaches
unfolding on_examples
returns-clause-reaches c = λ b of since. to_agent two_lines connected_late b.text refl

pub returns-clause-line : goal.returns-clause-line
returns-clause-line c = it_stands (endpoint_at (gateway_in two_lines (world connected_late)).endpoints 1) (opening_endpoint two_lines 1) there_line

pub returns-clause-was : goal.returns-clause-was
returns-clause-was c = it_stands (endpoint_at (plain two_lines (took_first connected_in_step)).endpoints 1) (opening_endpoint two_lines 1) there_was

pub returns-clause-is : goal.returns-clause-is
returns-clause-is c = it_stands (endpoint_at (gateway_in two_lines (world asked_again)).endpoints 1) (opening_endpoint two_lines 1) there_is

pub returns-clause-held : goal.returns-clause-held
unfolding on_examples
returns-clause-held c = refl
