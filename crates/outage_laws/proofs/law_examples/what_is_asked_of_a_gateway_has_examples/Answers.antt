use Rattle.std.proofs.Common.{◌≡◌, ◌≤◌, inl, refl, arith}
use Rattle.transmission.specs.Arrival.{Arrival}
use Rattle.transmission.specs.HistoryExample.{comes}
use Rattle.transmission.specs.Firsts.{young_of}
use Rattle.plain_machine.specs.Example.{two_lines}
use Rattle.plain_machine.specs.Lists.{sent_of}
use Rattle.plain_machine.specs.Message.{Begun}
use Rattle.machine_laws.specs.Belonging.{of_line}
use Rattle.machine_laws.specs.Saying.{begun_in}
use Rattle.machine_laws.proofs.EachLemmas.{all_from_each, any_from_one}
use Rattle.outage_laws.specs.LawExample.{lifted_alone, lifted_later, two_came}
use Rattle.outage_laws.proofs.Computing.{on_examples}
use Rattle.outage_laws.proofs.law_examples.what_is_asked_of_a_gateway_has_examples.Goals as goal

pub returns : goal.returns
unfolding on_examples
returns c = record {
  begun = any_from_one (λ (one : Begun). one ≡ lifted_later) (begun_in (of_line 1 (sent_of two_lines lifted_alone))) (inl refl);
  line = refl;
  flies = refl;
  own_flies = refl;
  taken = refl;
  young = any_from_one (λ (one : Arrival). one ≡ comes 1 5 65) (young_of 10 two_came) (inl refl);
  old = omega arith;
  came = all_from_each (λ (first : Arrival). first.moment ≤ 10) two_came (omega arith, (omega arith, tt));
  all_old = omega arith;
}
