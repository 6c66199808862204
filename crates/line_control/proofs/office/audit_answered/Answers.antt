use Rattle.std.proofs.Common.{◌≡◌, ℕ, Bool, true, false, List, refl, sym, ap, subst, ◌∙◌, rules}
use Rattle.std.specs.Prelude.{slice_get}
use Rattle.call_processing.specs.Exchange.{ExchangeState}
use Rattle.line_control.specs.declared.care.Care.{Care}
use Rattle.line_control.specs.declared.care.Duty.TheVariants.{Audit}
use Rattle.line_control.specs.Duties.{found}
use Rattle.line_control.specs.Orders.{cared, has_told, is_put_off_in}
use Rattle.line_control.specs.Turns.{kept_behind, TakesAudit, AnswersAudit}
use Rattle.line_control.proofs.TurnLemmas.{takes_audit}
use Rattle.line_control.proofs.office.audit_answered.Goals as goal

taken : (is_put_off : Bool) (line : ℕ) (text : List ℕ) (was : ExchangeState) (behind mid : List Care) (is : ExchangeState) (kept : List Care)
    → is_put_off ≡ false → mid ≡ behind → TakesAudit (has_told (slice_get mid line)) line text was mid is kept → AnswersAudit is_put_off line text was behind is kept
taken is_put_off line text was behind mid is kept over same takes =
    subst (λ (b : Bool). AnswersAudit b line text was behind is kept) (sym over)
    (subst (λ (cares : List Care). TakesAudit (has_told (slice_get cares line)) line text was cares is kept) same takes)

pub returns-then-has_told : goal.returns-then-has_told
returns-then-has_told c =
    let over : is_put_off_in c.args.code (slice_get c.args.cares.now.items c.args.line) ≡ false = search rules in
    let told : has_told (slice_get c.change_at-was.new.cares.items c.args.line) ≡ true = search rules in
    taken _ c.args.line c.args.text.now c.args.exchange.now (kept_behind Audit c.args.line c.args.moment c.args.code c.args.cares.now.items)
    c.change_at-was.new.cares.items c.args.exchange.now c.change_at-was.new.cares.items over c.change_at-was.ensures.cares
    (subst (λ (b : Bool). TakesAudit b c.args.line c.args.text.now c.args.exchange.now c.change_at-was.new.cares.items c.args.exchange.now
    c.change_at-was.new.cares.items) (sym told) (refl, refl))

pub returns : goal.returns
returns c =
    let over : is_put_off_in c.args.code (slice_get c.args.cares.now.items c.args.line) ≡ false = search rules in
    let not_told : has_told (slice_get c.change_at-was.new.cares.items c.args.line) ≡ false = search rules in
    let takes = takes_audit _ c.tell_hook-told.result c.args.line c.args.text.now c.args.exchange.now c.change_at-was.new.cares.items
    c.tell_hook-told.new.exchange c.change_at.new.cares.items not_told c.tell_hook-told.ensures.event (
      c.tell_hook-told.ensures.exchange,
      c.change_at.ensures.cares
          ∙ ap (λ (is_off : Bool). cared (found is_off) c.change_at-was.new.cares.items c.args.line) c.is_off_hook-is_off.ensures,
    ) in
    taken _ c.args.line c.args.text.now c.args.exchange.now (kept_behind Audit c.args.line c.args.moment c.args.code c.args.cares.now.items)
    c.change_at-was.new.cares.items c.tell_hook-told.new.exchange c.change_at.new.cares.items over c.change_at-was.ensures.cares takes
