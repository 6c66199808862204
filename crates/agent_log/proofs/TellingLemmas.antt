-- What is told, one text behind another, and where nothing is.
use Rattle.std.proofs.Common.{inl, inr, ◌≡◌, ℕ, Bool, true, false, List, [], ◌∷◌, ◌++◌, Option, Some, refl, sym, ap, subst, ◌∙◌, append_assoc, append-nil}
use Rattle.std.specs.Prelude.{if◌then◌else◌, codes, decimal}
use Rattle.std.specs.Borrow.{Bor}
use Rattle.output_queues.specs.declared.record.Record.{Record}
use Rattle.output_queues.specs.declared.record.RecordState.{RecordState}
use Rattle.output_queues.specs.declared.record.RecordState.TheVariants as records
use Rattle.output_queues.specs.Recording.{is_told}
use Rattle.agent_log.specs.Refusals.{code_told, is_code, refusal_line}
use Rattle.agent_log.specs.Stations.{number_at}
use Rattle.agent_log.specs.Telling.{call_line, line_of_pieces, Tells}
use Rattle.agent_log.specs.declared.station.Station.{Station}

pub tells_text : (text : List ℕ) (was is : Record) → is_told was.state ≡ true → is.state ≡ was.state
    → is.out.items ≡ was.out.items ++ text → Tells text was is
tells_text text was is on same grew = inl (same, rw on grew)

pub tells_nothing : (text : List ℕ) (was is : Record) → is_told was.state ≡ false → is ≡ was → Tells text was is
tells_nothing text was is off same = inl (ap (λ (r : Record). r.state) same, rw off (ap (λ (r : Record). r.out.items) same))

pub tells_refusal : (text : List ℕ) (was is : Record) → is.state ≡ records.OutOfMemory → is.out.items ≡ [] → Tells text was is
tells_refusal text was is state none = inr (state, none)

pub ruleset telling = (tells_text, tells_nothing, tells_refusal)

none_grown : (on : Bool) (were : List ℕ) → were ≡ (if on then were ++ [] else were)
none_grown true were = sym (append-nil were)
none_grown false were = refl

pub tells_none : (was is : Record) → is ≡ was → Tells [] was is
tells_none was is same =
    inl (ap (λ (r : Record). r.state) same, ap (λ (r : Record). r.out.items) same ∙ none_grown (is_told was.state) was.out.items)

both_grown : (on : Bool) (were a b : List ℕ)
    → (if on then (if on then were ++ a else were) ++ b else (if on then were ++ a else were)) ≡ (if on then were ++ (a ++ b) else were)
both_grown true were a b = append_assoc were a b
both_grown false were a b = refl

pub tells_both : (a b : List ℕ) (was mid is : Record) → Tells a was mid → Tells b mid is → Tells (a ++ b) was is
tells_both a b was mid is (inl one) (inl two) =
    inl (
      two.0 ∙ one.0,
      two.1 ∙ ap (λ (s : RecordState). if is_told s then mid.out.items ++ b else mid.out.items) one.0
          ∙ ap (λ (m : List ℕ). if is_told was.state then m ++ b else m) one.1 ∙ both_grown (is_told was.state) was.out.items a b,
    )
tells_both a b was mid is (inl one) (inr end) = inr end
tells_both a b was mid is (inr gone) (inl two) =
    inr (
      two.0 ∙ gone.0,
      two.1 ∙ ap (λ (s : RecordState). if is_told s then mid.out.items ++ b else mid.out.items) gone.0 ∙ gone.1,
    )
tells_both a b was mid is (inr gone) (inr end) = inr end

-- A line of pieces is that of a call, or that of a refusal

pub call_told : (stations : List Station) (call line other : ℕ) (begin number between caller to called words : Bor (List ℕ))
    (was is : Record)
    → begin.now ≡ codes "call " → number.now ≡ decimal call → between.now ≡ codes ": " → caller.now ≡ number_at stations line
    → to.now ≡ codes " -> " → called.now ≡ number_at stations other
    → Tells (line_of_pieces (begin ∷ number ∷ between ∷ caller ∷ to ∷ called ∷ words ∷ [])) was is
    → Tells (call_line stations call line other words.now) was is
unfolding call_line line_of_pieces
call_told stations call line other begin number between caller to called words was is b n m c t d tells =
    rw (b, n, m, c, t, d) at tells

pub refusal_told : (code : ℕ) (begin number words digits : Bor (List ℕ)) (was is : Record)
    → begin.now ≡ codes "line " → digits.now ≡ decimal code
    → Tells (line_of_pieces (begin ∷ number ∷ words ∷ digits ∷ [])) was is
    → Tells (refusal_line number.now words.now code) was is
unfolding refusal_line line_of_pieces
refusal_told code begin number words digits was is b d tells = rw (b, d) at tells

-- it is new
pub code_new : (number words : List ℕ) (was is : Option ℕ) (code : ℕ) (before now : Record) → is ≡ Some code → is_code was code ≡ false
    → Tells (refusal_line number words code) before now → Tells (code_told number words was is) before now
code_new number words was is code before now some new tells =
    subst (λ (one : Option ℕ). Tells (code_told number words was one) before now) (sym some)
    (subst (λ (same : Bool). Tells (if same then [] else refusal_line number words code) before now) (sym new) tells)
