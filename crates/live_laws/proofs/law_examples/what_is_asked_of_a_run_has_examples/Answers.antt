use Rattle.std.proofs.Common.{◌≡◌, ℕ, ◌<◌, List, [], ◌∷◌, ◌∙◌, None, Some, refl, sym, ap, subst, arith}
use Rattle.std.proofs.lemmas.Bool.{ltb-true}
use Rattle.plain_machine.specs.Event.{GatewayEvent, tick}
use Rattle.plain_machine.specs.Example.{two_lines}
use Rattle.plain_machine.specs.Happening.{effect}
use Rattle.plain_machine.specs.Lists.{plain}
use Rattle.plain_machine.specs.Machine.{opening}
use Rattle.plain_machine.specs.Message.{Sent}
use Rattle.plain_machine.specs.Packing.{put_out}
use Rattle.plain_machine.specs.Refusing.{Ends}
use Rattle.plain_machine.specs.Setup.{IsSetUp}
use Rattle.plain_machine.proofs.Computing.{on_examples as machine_examples}
use Rattle.gateway_core.specs.Stands.{Stands, Took}
use Rattle.gateway_core.proofs.AlikeLemmas.{account_alike, effect_alike, outcomes_alike}
use Rattle.gateway_core.proofs.StandLemmas.{ends_alike, stands_for_nothing, took_one}
use Rattle.live_play.specs.Running.{Live, Ran, live}
use Rattle.live_play.proofs.RunLemmas.{hands_one, ran_sent, ran_stays}
use Rattle.traces.specs.Writing.{after_input, input_text, opening_script, passed}
use Rattle.rgw_scripts.specs.Moves.{sends as shows}
use Rattle.live_laws.specs.LawExample.{announced_entries, announced_gateway, announced_live, announcement, opened_gateway, opened_live}
use Rattle.live_laws.proofs.law_examples.what_is_asked_of_a_run_has_examples.Goals as goal

set_up : IsSetUp two_lines
unfolding machine_examples
set_up = record { domain = refl; agent = refl; lines = omega arith; address = refl; ports = omega arith; first = omega arith }

stands : Stands opened_gateway []
stands = stands_for_nothing opened_gateway set_up refl refl refl

-- what it sends then
sends_it : put_out (effect two_lines (opening two_lines) (tick 1)).sent ≡ announcement ∷ []
unfolding machine_examples
sends_it = refl

took : Took opened_gateway (tick 1 ∷ []) announced_gateway [] (announcement ∷ [])
unfolding machine_examples
took =
    took_one opened_gateway announced_gateway (tick 1) [] (announcement ∷ []) refl refl
    (λ m alike.
    let both = effect_alike two_lines (opening two_lines) m (tick 1) alike refl in
    record { alike = both.machine; outputs = sym sends_it ∙ ap (λ (sent : List Sent). put_out sent) both.sent })
    (λ m alike. outcomes_alike two_lines (opening two_lines) m (tick 1) alike)
    (λ m alike. account_alike two_lines (opening two_lines) m (tick 1) alike refl)

-- nothing but want of memory would refuse it
ends_well : (before : List GatewayEvent) → Stands opened_gateway before → Ends (plain two_lines before) (tick 1) None
unfolding machine_examples
ends_well before s = ends_alike opened_gateway two_lines before (tick 1) None refl s tt

-- before anything is handed out
abbrev between : Live
between = live announced_gateway (after_input opening_script (passed 1) (shows (announcement ∷ [])))
    (Some (input_text opening_script (passed 1) (shows (announcement ∷ [])))) (Some [])

ran : Ran opened_live announced_entries announced_live
ran =
    ran_sent opened_live between announced_live (passed 1) (tick 1) (announcement ∷ []) [] refl tt took ends_well refl refl refl
    (hands_one between announced_live 0 announcement refl refl refl refl)

-- its clock is at 0
not_yet : (before : List GatewayEvent) → Stands opened_gateway before → (plain two_lines before).now < 1
not_yet before s = subst (λ (now : ℕ). now < 1) s.alike.now (omega arith)

pub returns : goal.returns
returns c = record {
  stands = stands;
  ran = ran;
  ran_on = ran_stays announced_live;
  took = took;
  play = ran.play [] stands;
  by_ticks = ran.ticks;
  later = (not_yet [] stands, tt);
  writable = (ltb-true _ _ refl, tt);
  went = λ admission. record {
    ran = ran;
    received = refl;
    others = 0;
    refused = refl;
    events = refl;
    inputs = (ltb-true _ _ refl, tt);
    later = λ before s. (not_yet before s, tt);
  };
  few = ltb-true _ _ refl;
}
