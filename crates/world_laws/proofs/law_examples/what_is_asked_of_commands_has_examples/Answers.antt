use Rattle.std.proofs.Common.{◌≡◌, List, [], ◌∷◌, ◌++◌, ◌∙◌, codes, inl, refl, sym}
use Rattle.std.proofs.lemmas.Bool.{leb-true, ltb-true}
use Rattle.plain_machine.specs.Example.{two_lines}
use Rattle.plain_machine.specs.Message.{Begun}
use Rattle.machine_laws.proofs.EachLemmas.{any_from_one}
use Rattle.agent_core.specs.declared.packet.End.TheVariants.{AgentEnd, GatewayEnd}
use Rattle.agent_core.specs.World.{WorldStep, delivering, now_in, ticking}
use Rattle.world_laws.specs.Reached.{issued_in}
use Rattle.world_laws.specs.Example.{world}
use Rattle.world_laws.specs.Chances.{IsCarried}
use Rattle.world_laws.specs.Copies.{gateway_firsts}
use Rattle.world_laws.specs.DeliveryExample.{answered, asked, audit, up_to}
use Rattle.world_laws.specs.LawExample.{first_seven, saved}
use Rattle.world_laws.proofs.Computing.{on_examples}
use Rattle.world_laws.proofs.CopyExamples.{last_copy_is}
use Rattle.world_laws.proofs.ExampleLemmas.{copy_at, two_lines_set_up}
use Rattle.world_laws.proofs.StoredLemmas.{IsStoredAs}
use Rattle.world_laws.proofs.law_examples.what_is_asked_of_commands_has_examples.Goals as goal

-- the last copy is handed over
abbrev handed : List WorldStep
handed = (asked ++ up_to 20) ++ delivering 9 ∷ []

last_carried : IsCarried two_lines saved audit 9
unfolding on_examples copy_at
last_carried =
    let copy = copy_at two_lines (world handed) GatewayEnd (codes "200 1 OK\r\n") 10 0 refl in
    let sent : copy.post.packet.moment ≡ 20001 = refl in
    let now : now_in two_lines (world handed) ≡ 20001 = refl in
    record {
      before = asked ++ up_to 20;
      between = ticking 21001 ∷ ticking 22001 ∷ ticking 23001 ∷ ticking 23500 ∷ [];
      later = [];
      issued = any_from_one (λ (one : Begun). one ≡ audit) (issued_in two_lines (world handed)) (inl refl);
      answer = record {
        text = codes "200 1 OK\r\n";
        stored = any_from_one (IsStoredAs 1 (codes "200 1 OK\r\n")) (gateway_firsts two_lines (world handed))
            (inl (refl {a = 1}, refl {a = codes "200 1 OK\r\n"}));
        number = 10;
        since = leb-true _ _ refl;
        copy = copy;
        moment = sent ∙ sym now;
      };
      order = refl;
      soon = ltb-true _ _ refl;
    }

pub returns : goal.returns
unfolding on_examples
returns c = record {
  run = (two_lines_set_up, refl);
  issued = any_from_one (λ (one : Begun). one ≡ audit) (issued_in two_lines (world asked)) (inl refl);
  copy = copy_at two_lines (world asked) AgentEnd audit.text 2 0 refl;
  room = ltb-true _ _ refl;
  answer = copy_at two_lines (world (asked ++ delivering 2 ∷ [])) GatewayEnd (codes "200 1 OK\r\n") 3 0 refl;
  run_on = (two_lines_set_up, refl);
  issued_still = any_from_one (λ (one : Begun). one ≡ audit) (issued_in two_lines (world (asked ++ delivering 2 ∷ []))) (inl refl);
  in_time = ltb-true _ _ refl;
  reads = refl;
  issued_then = any_from_one (λ (one : Begun). one ≡ audit) (issued_in two_lines (world answered)) (inl refl);
  by_then = leb-true _ _ refl;
  run_late = (two_lines_set_up, refl);
  issued_late = any_from_one (λ (one : Begun). one ≡ audit) (issued_in two_lines (world saved)) (inl refl);
  late = leb-true _ _ refl;
  few = leb-true _ _ refl;
  carried = last_copy_is two_lines (world saved) AgentEnd audit.text (IsCarried two_lines saved audit) first_seven 9 refl last_carried;
}
