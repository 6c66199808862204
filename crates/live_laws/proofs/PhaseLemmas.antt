-- The phases of lines as both ends of calls change them.
use Rattle.std.proofs.Common.{◌≡◌, ◌≢◌, ℕ, zero, suc, Bool, true, false, List, replicate, Option, Some, None, refl, sym, ap, subst, ◌∙◌, inl, inr, ◌⊎◌}
use Rattle.std.specs.Prelude.{slice_get, slice_set, if◌then◌else◌}
use Rattle.std.proofs.lemmas.Bool.{cases_eq, true≢false}
use Rattle.call_processing.specs.declared.phase.Side.{Side}
use Rattle.call_processing.specs.declared.phase.Side.TheVariants.{Caller, Called}
use Rattle.call_processing.specs.declared.phase.Part.{Part}
use Rattle.call_processing.specs.declared.phase.Tone.{Tone}
use Rattle.call_processing.specs.declared.phase.Phase.{Phase}
use Rattle.call_processing.specs.declared.phase.Phase.TheVariants.{Resting, Hearing, InCall}
use Rattle.call_processing.specs.Phases.{across, other_end, left, rings, is_in_call}
use Rattle.call_processing.specs.Calls.{joined}
use Rattle.call_processing.proofs.ElementLemmas.{set_here, set_other, set_there}

-- the line that a line in a call names is in the same call, and names it
abbrev pub AreMutual : List Phase → Type 0
AreMutual phases = (line : ℕ) (part : Part) → slice_get phases line ≡ Some (InCall part)
    → slice_get phases part.other ≡ Some (InCall (other_end line part))

-- Parts

pub same_part : (part its : Part) → ◌≡◌ {A = Option Phase} (Some (InCall part)) (Some (InCall its)) → part ≡ its
same_part part its e = cc

across_twice : (side : Side) → across (across side) ≡ side
across_twice Caller = refl
across_twice Called = refl

-- the other end of the other end
pub other_twice : (line : ℕ) (part : Part) → other_end part.other (other_end line part) ≡ part
other_twice line part =
    let with_side : Side → Part = λ side. record { call = part.call; other = part.other; side = side; answered = part.answered } in
    ap with_side (across_twice part.side)

no_side : (side : Side) → side ≡ across side → ⊥
no_side Caller e = absurd cc
no_side Called e = absurd cc

pub not_itself : (phases : List Phase) (line : ℕ) (part : Part) → AreMutual phases → slice_get phases line ≡ Some (InCall part) → part.other ≢ line
not_itself phases line part named e same =
    let there : slice_get phases line ≡ Some (InCall (other_end line part)) =
    sym (ap (slice_get phases) same) ∙ named line part e in
    let one : part ≡ other_end line part = same_part part (other_end line part) (sym e ∙ there) in
    no_side part.side (ap (λ (p : Part). p.side) one)

left_by : (tone : Tone) (b : Bool) → is_in_call (Some (if b then Resting else Hearing tone)) ≡ false
left_by tone true = refl
left_by tone false = refl

pub left_free : (tone : Tone) (part : Part) → is_in_call (Some (left tone part)) ≡ false
left_free tone part = left_by tone (rings part)

-- Who is in a call, after one was set that isn't

pub not_free : (found : Option Phase) (part : Part) → is_in_call found ≡ false → found ≡ Some (InCall part) → ⊥
not_free found part free e = true≢false (sym (ap is_in_call e) ∙ free)

kept_here : (phases : List Phase) (i : ℕ) (phase : Phase) (part : Part) → is_in_call (Some phase) ≡ false
    → ((slice_get (slice_set phases i phase) i ≡ Some phase) ⊎ (slice_get (slice_set phases i phase) i ≡ None))
    → slice_get (slice_set phases i phase) i ≡ Some (InCall part) → ⊥
kept_here phases i phase part free (inl is) e = not_free (Some phase) part free (sym is ∙ e)
kept_here phases i phase part free (inr none) e = not_free None part refl (sym none ∙ e)

kept_by : (phases : List Phase) (i line : ℕ) (phase : Phase) (part : Part) → is_in_call (Some phase) ≡ false
    → slice_get (slice_set phases i phase) line ≡ Some (InCall part) → ((i ≡ line) ⊎ (i ≡ line → ⊥))
    → (i ≢ line) × (slice_get phases line ≡ Some (InCall part))
kept_by phases i line phase part free e (inl same) =
    absurd (kept_here phases i phase part free (set_there phases i phase)
    (ap (slice_get (slice_set phases i phase)) same ∙ e))
kept_by phases i line phase part free e (inr apart) = (apart, sym (set_other phases i line phase apart) ∙ e)

pub kept : (phases : List Phase) (i line : ℕ) (phase : Phase) (part : Part) → is_in_call (Some phase) ≡ false
    → slice_get (slice_set phases i phase) line ≡ Some (InCall part) → (i ≢ line) × (slice_get phases line ≡ Some (InCall part))
kept phases i line phase part free e = kept_by phases i line phase part free e (cases_eq i line)

free_at : (phases : List Phase) (i : ℕ) (phase : Phase) → is_in_call (Some phase) ≡ false
    → ((slice_get (slice_set phases i phase) i ≡ Some phase) ⊎ (slice_get (slice_set phases i phase) i ≡ None))
    → is_in_call (slice_get (slice_set phases i phase) i) ≡ false
free_at phases i phase free (inl is) = ap is_in_call is ∙ free
free_at phases i phase free (inr none) = ap is_in_call none

pub free_here : (phases : List Phase) (i : ℕ) (phase : Phase) → is_in_call (Some phase) ≡ false → is_in_call (slice_get (slice_set phases i phase) i) ≡ false
free_here phases i phase free = free_at phases i phase free (set_there phases i phase)

free_by : (phases : List Phase) (i line : ℕ) (phase : Phase) → is_in_call (Some phase) ≡ false → is_in_call (slice_get phases line) ≡ false
    → ((i ≡ line) ⊎ (i ≡ line → ⊥)) → is_in_call (slice_get (slice_set phases i phase) line) ≡ false
free_by phases i line phase free was (inl same) =
    sym (ap (λ (n : ℕ). is_in_call (slice_get (slice_set phases i phase) n)) same) ∙ free_here phases i phase free
free_by phases i line phase free was (inr apart) = ap is_in_call (set_other phases i line phase apart) ∙ was

pub free_still : (phases : List Phase) (i line : ℕ) (phase : Phase) → is_in_call (Some phase) ≡ false → is_in_call (slice_get phases line) ≡ false
    → is_in_call (slice_get (slice_set phases i phase) line) ≡ false
free_still phases i line phase free was = free_by phases i line phase free was (cases_eq i line)

-- Who names whom

-- nobody names a line that is in no call
pub unnamed : (phases : List Phase) (i line : ℕ) (part : Part) → AreMutual phases → is_in_call (slice_get phases i) ≡ false
    → slice_get phases line ≡ Some (InCall part) → i ≢ part.other
unnamed phases i line part named free e same =
    not_free (slice_get phases i) (other_end line part) free (ap (slice_get phases) same ∙ named line part e)

-- the two ends of a call name each other alone
pub named_once : (phases : List Phase) (i line : ℕ) (its part : Part) → AreMutual phases → slice_get phases i ≡ Some (InCall its)
    → slice_get phases line ≡ Some (InCall part) → its.other ≢ line → i ≢ part.other
named_once phases i line its part named here e apart same =
    apart (ap (λ (p : Part). p.other) (same_part its (other_end line part) (sym here ∙ ap (slice_get phases) same ∙ named line part e)))

pub named_once_there : (phases : List Phase) (i line : ℕ) (its part : Part) → AreMutual phases → slice_get phases i ≡ Some (InCall its)
    → slice_get phases line ≡ Some (InCall part) → i ≢ line → its.other ≢ part.other
named_once_there phases i line its part named here e apart same =
    apart (ap (λ (p : Part). p.other)
    (same_part (other_end i its) (other_end line part) (sym (named i its here) ∙ ap (slice_get phases) same ∙ named line part e)))

-- What keeps it so

-- one that nobody names goes to a phase without a call
pub set_mutual : (phases : List Phase) (i : ℕ) (phase : Phase) → is_in_call (Some phase) ≡ false
    → ((line : ℕ) (part : Part) → slice_get phases line ≡ Some (InCall part) → i ≢ line → i ≢ part.other) → AreMutual phases
    → AreMutual (slice_set phases i phase)
set_mutual phases i phase free nobody named line part e =
    let k = kept phases i line phase part free e in
    set_other phases i part.other phase (nobody line part k.1 k.0) ∙ named line part k.1

-- both ends of a call do
pub parted_mutual : (phases : List Phase) (i : ℕ) (its : Part) (one other : Phase) → is_in_call (Some one) ≡ false → is_in_call (Some other) ≡ false
    → slice_get phases i ≡ Some (InCall its) → AreMutual phases → AreMutual (slice_set (slice_set phases i one) its.other other)
parted_mutual phases i its one other free free_too here named line part e =
    let k = kept (slice_set phases i one) its.other line other part free_too e in
    let l = kept phases i line one part free k.1 in
    set_other (slice_set phases i one) its.other part.other other (named_once_there phases i line its part named here l.1 l.0)
    ∙ set_other phases i part.other one (named_once phases i line its part named here l.1 k.0)
    ∙ named line part l.1

-- two come to be in a call that nobody else names

module _ (phases : List Phase) (i : ℕ) (its : Part) (was that : Phase) (apart : i ≢ its.other)
    (here : slice_get phases i ≡ Some was) (there : slice_get phases its.other ≡ Some that)
    (nobody : (line : ℕ) (part : Part) → slice_get phases line ≡ Some (InCall part) → i ≢ line → its.other ≢ line → (i ≢ part.other) × (its.other ≢ part.other))
    (named : AreMutual phases) where
  pub joined_there : slice_get (joined phases i its) its.other ≡ Some (InCall (other_end i its))
  joined_there =
      set_here (slice_set phases i (InCall its)) its.other (InCall (other_end i its)) that
      (set_other phases i its.other (InCall its) apart ∙ there)

  pub joined_here : slice_get (joined phases i its) i ≡ Some (InCall its)
  joined_here =
      set_other (slice_set phases i (InCall its)) its.other i (InCall (other_end i its)) (λ (e : its.other ≡ i). apart (sym e))
      ∙ set_here phases i (InCall its) was here

  abbrev Names : ℕ → Part → Type 0
  Names line part = slice_get (joined phases i its) part.other ≡ Some (InCall (other_end line part))

  of_other : (line : ℕ) (part : Part) → its.other ≡ line → slice_get (joined phases i its) line ≡ Some (InCall part) → Names line part
  of_other line part same e =
      let one : other_end i its ≡ part =
      same_part (other_end i its) part (sym joined_there ∙ ap (slice_get (joined phases i its)) same ∙ e) in
      let back : Names its.other (other_end i its) =
      joined_here ∙ ap (λ (p : Part). Some (InCall p)) (sym (other_twice i its)) in
      subst (λ (n : ℕ). Names n part) same (subst (λ (p : Part). Names its.other p) one back)

  of_line : (line : ℕ) (part : Part) → i ≡ line → slice_get (joined phases i its) line ≡ Some (InCall part) → Names line part
  of_line line part same e =
      let one : its ≡ part = same_part its part (sym joined_here ∙ ap (slice_get (joined phases i its)) same ∙ e) in
      subst (λ (n : ℕ). Names n part) same (subst (λ (p : Part). Names i p) one joined_there)

  of_others : (line : ℕ) (part : Part) → i ≢ line → its.other ≢ line → slice_get (joined phases i its) line ≡ Some (InCall part) → Names line part
  of_others line part far far_too e =
      let was_in : slice_get phases line ≡ Some (InCall part) =
      sym (set_other phases i line (InCall its) far)
      ∙ sym (set_other (slice_set phases i (InCall its)) its.other line (InCall (other_end i its)) far_too)
      ∙ e in
      let unnamed_by = nobody line part was_in far far_too in
      set_other (slice_set phases i (InCall its)) its.other part.other (InCall (other_end i its)) unnamed_by.1
      ∙ set_other phases i part.other (InCall its) unnamed_by.0
      ∙ named line part was_in

  of_any : (line : ℕ) (part : Part) → slice_get (joined phases i its) line ≡ Some (InCall part) → ((its.other ≡ line) ⊎ (its.other ≡ line → ⊥))
      → ((i ≡ line) ⊎ (i ≡ line → ⊥)) → Names line part
  of_any line part e (inl same) is = of_other line part same e
  of_any line part e (inr far_too) (inl same) = of_line line part same e
  of_any line part e (inr far_too) (inr far) = of_others line part far far_too e

  pub joined_mutual : AreMutual (joined phases i its)
  joined_mutual line part e = of_any line part e (cases_eq its.other line) (cases_eq i line)

-- at the opening

resting_at : (count line : ℕ) (part : Part) → slice_get (replicate count Resting) line ≡ Some (InCall part) → ⊥
resting_at zero line part e = absurd cc
resting_at (suc count) zero part e = absurd cc
resting_at (suc count) (suc line) part e = resting_at count line part e

pub resting_mutual : (count : ℕ) → AreMutual (replicate count Resting)
resting_mutual count line part e = absurd (resting_at count line part e)
