use Rattle.std.proofs.Common.{◌≡◌, List, [], ◌∷◌, ◌++◌, refl, sym, ap, ◌∙◌}
use Rattle.packages.specs.declared.observed.Observed.{Observed}
use Rattle.events_and_signals.specs.Given.{none, kept}
use Rattle.world_laws.specs.OnceExample.{five, lifted, six}
use Rattle.told_laws.specs.Example.{has_keys_collected}
use Rattle.told_laws.specs.Walking.{collects}
use Rattle.told_laws.proofs.Computing.{on_examples}
use Rattle.told_laws.proofs.ToldCourses.{none_among, none_left_among, tells_first}
use Rattle.told_laws.proofs.examples.a_front_is_told.Goals as goal

pub returns : goal.returns
unfolding on_examples
returns c = record {
  all = record { held = []; front = five ∷ six ∷ []; rest = []; before = (0, none); order = refl; told_so = refl };
  front = record { held = []; front = five ∷ []; rest = six ∷ []; before = (0, none); order = refl; told_so = refl };
  quarantined = record {
    held = five ∷ [];
    front = five ∷ six ∷ [];
    rest = [];
    before = (0, kept 0 lifted (five ∷ []) (five ∷ []) (kept 0 five [] [] none));
    order = refl;
    told_so = refl;
  };
  skipped =
      λ h.
      (let empty : h.held ≡ [] = none_among h.held h.before in
      let order : five ∷ six ∷ [] ≡ h.front ++ h.rest = (sym (ap (λ (xs : List Observed). xs ++ five ∷ six ∷ []) empty) ∙ h.order) in
      let same : six ≡ five = tells_first (collects has_keys_collected.events) five six h.front h.rest (six ∷ []) [] refl order h.told_so in
      cc);
  kept_meanwhile = record {
    left = [];
    front = five ∷ six ∷ [];
    rest = [];
    before = (0, kept 0 lifted [] [] none);
    order = refl;
    told_so = refl;
  };
  not_kept = record { left = []; front = six ∷ []; rest = []; before = (0, kept 0 lifted [] [] none); order = refl; told_so = refl };
  dropped =
      λ h.
      (let empty : h.left ≡ [] = none_left_among lifted h.left h.before in
      let order : five ∷ six ∷ [] ≡ h.front ++ h.rest = (sym (ap (λ (xs : List Observed). (xs ++ five ∷ []) ++ six ∷ []) empty) ∙ h.order) in
      let same : six ≡ five = tells_first (collects has_keys_collected.events) five six h.front h.rest (six ∷ []) [] refl order h.told_so in
      cc);
}
