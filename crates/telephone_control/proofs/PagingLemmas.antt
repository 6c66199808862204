-- What a board shows behind another picture.
use Rattle.std.proofs.Common.{◌≡◌, ◌≢◌, sym, ap, ◌∙◌, subst, Option, Some}
use Rattle.std.specs.Global.{Box}
use Rattle.std.specs.Box.{with_value}
use Rattle.page_state.specs.declared.picture.Picture.{Picture}
use Rattle.page_state.specs.MetricsShowing.{lines_of}
use Rattle.page_state.specs.Sums.{next_number}
use Rattle.page_state.specs.BoardShowing.{BoardState}
use Rattle.telephone_control.specs.Paging.{Shows, ShowsOn}

-- it shows this picture, under a number that is so by that
pub shows_next : (was is : BoardState) (picture : Picture) → is.picture ≡ picture
    → (lines_of was.picture ≡ lines_of picture → is.version ≡ was.version)
    → (lines_of was.picture ≢ lines_of picture → is.version ≡ next_number was.version) → is.ring ≡ was.ring → is.acts ≡ was.acts → Shows was is
shows_next was is picture shown same changed ring acts = record {
  same = λ lines. same (lines ∙ ap (λ (p : Picture). lines_of p) shown);
  changed = λ other. changed (λ lines. other (lines ∙ sym (ap (λ (p : Picture). lines_of p) shown)));
  ring = ring;
  acts = acts;
}

-- of a board that is there a picture of this kind is shown
pub shows_on : (P : Picture → Type 0) (board : Option (Box BoardState)) (was : Box BoardState) (before is : BoardState) (picture : Picture)
    → board ≡ Some was → before ≡ was.value → P picture → is.picture ≡ picture → (lines_of before.picture ≡ lines_of picture → is.version ≡ before.version)
    → (lines_of before.picture ≢ lines_of picture → is.version ≡ next_number before.version) → is.ring ≡ before.ring → is.acts ≡ before.acts
    → ShowsOn P board (Some (with_value was is))
shows_on P board was before is picture there value holds shown same changed ring acts =
    subst (λ (b : Option (Box BoardState)). ShowsOn P b (Some (with_value was is))) (sym there)
    (subst P (sym shown) holds, subst (λ (b : BoardState). Shows b is) value (shows_next before is picture shown same changed ring acts))
