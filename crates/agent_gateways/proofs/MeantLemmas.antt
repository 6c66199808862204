-- Who waits behind it that the lines of a gateway are announced which a name means.
use Rattle.std.proofs.Common.{◌≡◌, ◌⊎◌, inl, inr, ℕ, ◌+◌, ◌<◌, ◌≤◌, Bool, true, false, refl, sym, ap, subst, ◌∙◌, arith}
use Rattle.std.specs.Prelude.{◌-◌, ◌==◌, nat_le, IfSome}
use Rattle.std.proofs.lemmas.Bool.{and_from, eqb-true, eqb-false, le-leb}
use Rattle.endpoint_names.specs.declared.name.Pattern.{Pattern}
use Rattle.endpoint_names.specs.declared.name.Pattern.TheVariants.{One}
use Rattle.call_processing.specs.Exchange.{ExchangeState, phase_of}
use Rattle.call_processing.specs.Phases.{named_by}
use Rattle.line_control.specs.declared.office.Office.{Office}
use Rattle.line_control.specs.Waiting.{IsWaiting, Touches, WaitOn}
use Rattle.line_control.proofs.WaitingLemmas.{still_named, waited_on}
use Rattle.agent_gateways.specs.Steps.{exchange_announced, has_line, is_meant, line_behind, TouchesIf, TouchesMeant}
use Rattle.agent_gateways.proofs.AnnounceLemmas.{exchange_before}

-- the other end waits of the call that a line is in, by the exchange as it is
abbrev EndWaits : ExchangeState → ℕ → Office → Type 0
EndWaits exchange line is = IfSome (named_by (phase_of exchange line)) (λ other. IsWaiting is.worklist other)

-- whoever waited waits still, also where nothing has happened
waits_on_if : (named : Bool) (line : ℕ) (was is : Office) → TouchesIf named line was is → WaitOn was.worklist is.worklist
waits_on_if true line was is touches = touches.others
waits_on_if false line was is same =
    subst (λ (office : Office). WaitOn was.worklist office.worklist) (sym same) (λ other waiting. waiting, refl)

touched_so : (named : Bool) (line : ℕ) (was is : Office) → named ≡ true → TouchesIf named line was is → Touches line was is
touched_so named line was is named_so touches = subst (λ (b : Bool). TouchesIf b line was is) named_so touches

last_or_before : (k before : ℕ) (same : Bool) → (k == before) ≡ same → k < before + 1 → (k < before) ⊎ (k ≡ before)
last_or_before k before true is below = inr (eqb-true k before is)
last_or_before k before false is below = inl (omega (arith, eqb-false k before is, below))

module _ (is_restart : Bool) (pattern : Pattern) (first before line : ℕ) (named : Bool) (was mid is : Office)
    (so_far : TouchesMeant is_restart pattern first before was mid)
    (done : mid.exchange ≡ exchange_announced is_restart pattern first before was.exchange) (named_so : named ≡ is_meant pattern before)
    (line_so : line ≡ line_behind first before) (next : TouchesIf named line mid is) where
  meant_at : (k : ℕ) → (k < before) ⊎ (k ≡ before) → is_meant pattern k ≡ true → IsWaiting is.worklist (line_behind first k)
  meant_at k (inl earlier) meant = (waits_on_if named line mid is next).0 (line_behind first k) (so_far.meant k earlier meant)
  meant_at k (inr last) meant =
      let named_true : named ≡ true = named_so ∙ ap (λ (n : ℕ). is_meant pattern n) (sym last) ∙ meant in
      subst (λ (place : ℕ). IsWaiting is.worklist place) (line_so ∙ ap (λ (n : ℕ). line_behind first n) (sym last))
      (touched_so named line mid is named_true next).itself

  left_at : (k : ℕ) → (k < before) ⊎ (k ≡ before) → is_meant pattern k ≡ true
      → EndWaits (exchange_announced is_restart pattern first k was.exchange) (line_behind first k) is
  left_at k (inl earlier) meant =
      still_named (named_by (phase_of (exchange_announced is_restart pattern first k was.exchange) (line_behind first k))) mid.worklist
      is.worklist (waits_on_if named line mid is next) (so_far.left k earlier meant)
  left_at k (inr last) meant =
      let named_true : named ≡ true = named_so ∙ ap (λ (n : ℕ). is_meant pattern n) (sym last) ∙ meant in
      subst (λ (n : ℕ). EndWaits (exchange_announced is_restart pattern first n was.exchange) (line_behind first n) is) (sym last)
      (subst (λ (exchange : ExchangeState). EndWaits exchange (line_behind first before) is) done
      (subst (λ (place : ℕ). EndWaits mid.exchange place is) line_so (touched_so named line mid is named_true next).left))

  -- the lines before this one are announced, and it is, if it is meant
  pub meant_more : TouchesMeant is_restart pattern first (before + 1) was is
  meant_more = record {
    meant = λ k below meant. meant_at k (last_or_before k before (k == before) refl below) meant;
    left = λ k below meant. left_at k (last_or_before k before (k == before) refl below) meant;
    others = waited_on was.worklist mid.worklist is.worklist so_far.others (waits_on_if named line mid is next);
  }

-- before the first none is
pub meant_none : (is_restart : Bool) (pattern : Pattern) (first : ℕ) (was : Office) → TouchesMeant is_restart pattern first 0 was was
meant_none is_restart pattern first was = record {
  meant = λ k below meant. absurd (omega (arith, below));
  left = λ k below meant. absurd (omega (arith, below));
  others = (λ other waiting. waiting, refl);
}

module _ (is_restart named : Bool) (line first lines place : ℕ) (was is : Office) (named_so : named ≡ has_line line lines)
    (place_so : place ≡ line_behind first (line - 1)) (touches : TouchesIf named place was is) where
  place_at : (k : ℕ) → line ≡ k + 1 → place ≡ line_behind first k
  place_at k at_it = let same : line - 1 ≡ k = omega (arith, at_it) in place_so ∙ ap (λ (n : ℕ). line_behind first n) same

  touched_at : (k : ℕ) → k < lines → line ≡ k + 1 → Touches place was is
  touched_at k below at_it =
      let has : has_line line lines ≡ true
      = and_from (nat_le 1 line) (nat_le line lines) (le-leb 1 line (omega (arith, at_it))) (le-leb line lines (omega (arith, at_it, below)))
      in touched_so named place was is (named_so ∙ has) touches

  before_at : (k : ℕ) → line ≡ k + 1 → exchange_announced is_restart (One line) first k was.exchange ≡ was.exchange
  before_at k at_it = exchange_before is_restart line first k was.exchange (λ (some : 1 ≤ line). omega (arith, at_it))

  -- of a name that means one line that one alone is, if the gateway has it
  pub one_meant : TouchesMeant is_restart (One line) first lines was is
  one_meant = record {
    meant = λ k below meant.
        let at_it : line ≡ k + 1 = eqb-true line (k + 1) meant in
        subst (λ (there : ℕ). IsWaiting is.worklist there) (place_at k at_it) (touched_at k below at_it).itself;
    left = λ k below meant.
        let at_it : line ≡ k + 1 = eqb-true line (k + 1) meant in
        subst (λ (exchange : ExchangeState). EndWaits exchange (line_behind first k) is) (sym (before_at k at_it))
        (subst (λ (there : ℕ). EndWaits was.exchange there is) (place_at k at_it) (touched_at k below at_it).left);
    others = waits_on_if named place was is touches;
  }
