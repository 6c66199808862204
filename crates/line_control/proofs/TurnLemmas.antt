-- What an audit comes to.
use Rattle.std.proofs.Common.{◌≡◌, ◌⊎◌, inl, inr, ℕ, Bool, false, List, sym, subst}
use Rattle.call_processing.specs.declared.told.Told.{Told}
use Rattle.call_processing.specs.declared.told.Told.TheVariants.{Flash}
use Rattle.call_processing.specs.Exchange.{ExchangeState}
use Rattle.line_control.specs.declared.care.Care.{Care}
use Rattle.line_control.specs.Turns.{told_by_audit, TellsAudit, TakesAudit}

pub takes_audit : (has_told : Bool) (event : Told) (line : ℕ) (text : List ℕ) (was : ExchangeState) (cares : List Care) (is : ExchangeState) (kept : List Care)
    → has_told ≡ false → (event ≡ told_by_audit was line text) ⊎ (event ≡ Flash) → TellsAudit event line was cares is kept
    → TakesAudit has_told line text was cares is kept
takes_audit has_told event line text was cares is kept not_told (inl read) tells = subst (λ (b : Bool). TakesAudit b line text was cares is kept) (sym not_told)
    (inl (subst (λ (e : Told). TellsAudit e line was cares is kept) read tells))
takes_audit has_told event line text was cares is kept not_told (inr unread) tells = subst (λ (b : Bool). TakesAudit b line text was cares is kept) (sym not_told)
    (inr (subst (λ (e : Told). TellsAudit e line was cares is kept) unread tells))
