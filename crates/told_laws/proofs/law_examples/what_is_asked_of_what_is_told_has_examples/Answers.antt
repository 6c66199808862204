use Rattle.std.proofs.Common.{◌≡◌, [], ◌∷◌, ◌++◌, codes, inl, refl}
use Rattle.std.proofs.lemmas.Bool.{leb-true}
use Rattle.mg_bytes.specs.declared.letter.Letter.TheVariants as letters
use Rattle.packages.specs.declared.event.LineEvent.TheVariants as events
use Rattle.plain_machine.specs.Example.{two_lines}
use Rattle.plain_machine.specs.Message.{Begun}
use Rattle.machine_laws.proofs.EachLemmas.{any_from_one}
use Rattle.agent_core.specs.declared.packet.End.TheVariants.{GatewayEnd}
use Rattle.agent_core.specs.World.{delivering}
use Rattle.world_laws.specs.Reached.{issued_in}
use Rattle.world_laws.specs.Copies.{gateway_firsts}
use Rattle.world_laws.specs.Example.{world}
use Rattle.world_laws.specs.DeliveryExample.{asked, audit}
use Rattle.world_laws.proofs.Computing.{on_examples}
use Rattle.world_laws.proofs.ExampleLemmas.{copy_at, two_lines_set_up}
use Rattle.world_laws.proofs.StoredLemmas.{IsStoredAs}
use Rattle.told_laws.specs.Example.{wants_both}
use Rattle.told_laws.specs.Walking.{EmbedsNone}
use Rattle.told_laws.proofs.law_examples.what_is_asked_of_what_is_told_has_examples.Goals as goal

-- each event by itself
none_embedded : EmbedsNone wants_both.events
unfolding on_examples
none_embedded events.OffHook = refl
none_embedded events.OnHook = refl
none_embedded events.Flash = refl
none_embedded events.LineComplete = refl
none_embedded events.GenericComplete = refl
none_embedded (events.Letter letters.Zero) = refl
none_embedded (events.Letter letters.One) = refl
none_embedded (events.Letter letters.Two) = refl
none_embedded (events.Letter letters.Three) = refl
none_embedded (events.Letter letters.Four) = refl
none_embedded (events.Letter letters.Five) = refl
none_embedded (events.Letter letters.Six) = refl
none_embedded (events.Letter letters.Seven) = refl
none_embedded (events.Letter letters.Eight) = refl
none_embedded (events.Letter letters.Nine) = refl
none_embedded (events.Letter letters.Star) = refl
none_embedded (events.Letter letters.Hash) = refl
none_embedded (events.Letter letters.A) = refl
none_embedded (events.Letter letters.B) = refl
none_embedded (events.Letter letters.C) = refl
none_embedded (events.Letter letters.D) = refl
none_embedded (events.Letter letters.Timer) = refl

pub returns : goal.returns
unfolding on_examples copy_at
returns c = record {
  line = refl;
  embeds_none = none_embedded;
  none_lost = refl;
  course = refl;
  acts_alone = tt;
  set_up = two_lines_set_up;
  issued = any_from_one (λ (one : Begun). one ≡ audit) (issued_in two_lines (world (asked ++ delivering 2 ∷ []))) (inl refl);
  answered = record {
    text = codes "200 1 OK\r\n";
    stored = any_from_one (IsStoredAs 1 (codes "200 1 OK\r\n")) (gateway_firsts two_lines (world (asked ++ delivering 2 ∷ []))) (inl (refl, refl));
    number = 3;
    since = leb-true _ _ refl;
    copy = copy_at two_lines (world (asked ++ delivering 2 ∷ [])) GatewayEnd (codes "200 1 OK\r\n") 3 0 refl;
    moment = refl;
  };
}
