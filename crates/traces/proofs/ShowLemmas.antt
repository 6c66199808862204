-- What a gateway shows at one move.
use Rattle.std.proofs.Common.{◌≡◌, ℕ, ◌≤◌, List, [], ◌∷◌, Some, None, Result, Ok, Err, refl, sym, ◌∙◌, append-nil}
use Rattle.std.specs.Prelude.{MatchResult, IfOk, OnErr, nat_le, ◌&&◌, true, false}
use Rattle.std.specs.Result.{result_err}
use Rattle.std.specs.List.{flat_map}
use Rattle.std.proofs.Common.{⊎_elim}
use Rattle.std.proofs.lemmas.Bool.{le-leb, leb-true, cases_Bool}
use Rattle.transmission.specs.declared.output.OutDatagram.{OutDatagram}
use Rattle.machine_rules.specs.declared.refusal.Refusal.{Refusal}
use Rattle.machine_rules.specs.declared.refusal.Refusal.TheVariants.{OutOfMemory, NoSuchLine}
use Rattle.plain_machine.specs.Event.{GatewayEvent}
use Rattle.plain_machine.specs.Lists.{plain}
use Rattle.plain_machine.specs.Refusing.{Ends}
use Rattle.plain_machine.proofs.EndLaws.{ends_fine, ends_cause}
use Rattle.gateway_core.specs.GatewayState.{GatewayState}
use Rattle.gateway_core.specs.Stands.{Stands, Took}
use Rattle.rgw_scripts.specs.Status.{LineStatus, status_of}
use Rattle.rgw_scripts.specs.Printing.{printed_line, refusal_line, shown_line}
use Rattle.rgw_scripts.specs.Moves.{give, ask, move_went}
use Rattle.traces.specs.Telling.{told_text, told_output, told}
use Rattle.traces.specs.Replaying.{Showed}

-- an event that is taken
taken : (g h : GatewayState) (event : GatewayEvent) (outputs : List OutDatagram) (text : List ℕ) → Took g (event ∷ []) h [] outputs
    → ((before : List GatewayEvent) → Stands g before → Ends (plain g.setup before) event None)
    → text ≡ flat_map told_output outputs → Showed g (give event) h text
unfolding move_went told
taken g h event outputs text took ends is = record {
  setup = took.setup;
  stands = λ before s. rw (ends_fine (plain g.setup before) event (ends before s)) (took.stands before s);
  shows = λ before s. rw (ends_fine (plain g.setup before) event (ends before s), ← took.sent before s)
      (is ∙ sym (append-nil (flat_map told_output outputs)));
}

-- an event that is refused
refused : (g h : GatewayState) (event : GatewayEvent) (refusal : Refusal) (text : List ℕ) → Took g [] h [] []
    → (refusal ≡ OutOfMemory → ⊥)
    → ((before : List GatewayEvent) → Stands g before → Ends (plain g.setup before) event (Some refusal))
    → text ≡ told_text (printed_line (refusal_line refusal)) → Showed g (give event) h text
unfolding move_went told
refused g h event refusal text took other ends is = record {
  setup = took.setup;
  stands = λ before s. rw (ends_cause (plain g.setup before) event refusal other (ends before s)) (rw (append-nil before) at (took.stands before s));
  shows = λ before s. rw (ends_cause (plain g.setup before) event refusal other (ends before s))
      (is ∙ sym (append-nil (told_text (printed_line (refusal_line refusal)))));
}

-- what came of an event
pub showed : (g h : GatewayState) (event : GatewayEvent) (given : Result (List OutDatagram) Refusal) (text : List ℕ)
    → IfOk given (λ outputs. Took g (event ∷ []) h [] outputs) → OnErr given (Took g [] h [] [])
    → ((before : List GatewayEvent) → Stands g before → Ends (plain g.setup before) event (result_err given))
    → MatchResult given (λ outputs. text ≡ flat_map told_output outputs)
    (λ refusal. (refusal ≡ OutOfMemory → ⊥) × (text ≡ told_text (printed_line (refusal_line refusal))))
    → Showed g (give event) h text
showed g h event (Ok outputs) text took none ends is = taken g h event outputs text took ends is
showed g h event (Err refusal) text took none ends is = refused g h event refusal text none is.0 ends is.1

-- a line
pub showed_line : (g : GatewayState) (line : ℕ) (status : LineStatus) (text : List ℕ) → 1 ≤ line → line ≤ g.setup.names.lines
    → ((before : List GatewayEvent) → Stands g before → status_of (plain g.setup before) line ≡ Some status)
    → text ≡ told_text (printed_line (shown_line status)) → Showed g (ask line) g text
unfolding move_went told
showed_line g line status text low high is same = record {
  setup = refl;
  stands = λ before s. s;
  shows = λ before s. rw (le-leb 1 line low, le-leb line g.setup.names.lines high, is before s) (same ∙ sym (append-nil (told_text (printed_line (shown_line status)))));
}

pub both_not : (line lines : ℕ) → (1 ≤ line → line ≤ lines → ⊥) → (nat_le 1 line && nat_le line lines) ≡ false
both_not line lines none = ⊎_elim
    (λ (low : nat_le 1 line ≡ true). ⊎_elim
    (λ (high : nat_le line lines ≡ true). absurd (none (leb-true 1 line low) (leb-true line lines high)))
    (λ (high : nat_le line lines ≡ false). rw (low, high) refl)
    (cases_Bool (nat_le line lines)))
    (λ (low : nat_le 1 line ≡ false). rw low refl)
    (cases_Bool (nat_le 1 line))

-- a line that there isn't
pub showed_none : (g : GatewayState) (line : ℕ) (text : List ℕ) → (1 ≤ line → line ≤ g.setup.names.lines → ⊥)
    → text ≡ told_text (printed_line (refusal_line NoSuchLine)) → Showed g (ask line) g text
unfolding move_went told
showed_none g line text none same = record {
  setup = refl;
  stands = λ before s. s;
  shows = λ before s. rw (both_not line g.setup.names.lines none) (same ∙ sym (append-nil (told_text (printed_line (refusal_line NoSuchLine)))));
}
