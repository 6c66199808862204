use Rattle.std.proofs.Common.{◌≡◌, List, [], ◌∷◌, ◌++◌, ◌∙◌, codes, inl, refl, sym}
use Rattle.std.proofs.lemmas.Bool.{leb-true, ltb-true}
use Rattle.plain_machine.specs.Example.{two_lines}
use Rattle.plain_machine.specs.Message.{Begun}
use Rattle.machine_laws.proofs.EachLemmas.{any_from_one}
use Rattle.agent_core.specs.World.{WorldStep, delivering, now_in, ticking}
use Rattle.world_laws.specs.Reached.{issued_in}
use Rattle.world_laws.specs.Example.{world}
use Rattle.world_laws.specs.Copies.{gateway_firsts}
use Rattle.world_laws.specs.DeliveryExample.{asked, audit, up_to}
use Rattle.agent_core.specs.declared.packet.End.TheVariants.{GatewayEnd}
use Rattle.world_laws.proofs.Computing.{on_examples}
use Rattle.world_laws.proofs.ExampleLemmas.{copy_at}
use Rattle.world_laws.proofs.StoredLemmas.{IsStoredAs}
use Rattle.world_laws.proofs.delivery_examples.the_last_copy_is_enough.Goals as goal

-- the last copy is handed over
abbrev answered : List WorldStep
answered = (asked ++ up_to 20) ++ delivering 9 ∷ []

pub returns : goal.returns
unfolding on_examples copy_at
returns c = record {
  moments = refl;
  taken = refl;
  soon = refl;
  carried =
      (let copy = copy_at two_lines (world answered) GatewayEnd (codes "200 1 OK\r\n") 10 0 refl in
      let sent : copy.post.packet.moment ≡ 20001 = refl in
      let now : now_in two_lines (world answered) ≡ 20001 = refl in
      record {
        before = asked ++ up_to 20;
        between = ticking 21001 ∷ ticking 22001 ∷ ticking 23001 ∷ ticking 23500 ∷ [];
        later = [];
        issued = any_from_one (λ (one : Begun). one ≡ audit) (issued_in two_lines (world answered)) (inl refl);
        answer = record {
          text = codes "200 1 OK\r\n";
          stored = any_from_one (IsStoredAs 1 (codes "200 1 OK\r\n")) (gateway_firsts two_lines (world answered))
              (inl (refl {a = 1}, refl {a = codes "200 1 OK\r\n"}));
          number = 10;
          since = leb-true _ _ refl;
          copy = copy;
          moment = sent ∙ sym now;
        };
        order = refl;
        soon = ltb-true _ _ refl;
      });
  too_late = refl;
  all_lost = refl;
  seven_lost = refl;
  goes_back = refl;
  not_taken = refl;
  not_had = refl;
}
