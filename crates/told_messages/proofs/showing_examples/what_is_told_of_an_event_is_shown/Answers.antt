use Rattle.std.proofs.Common.{◌≡◌, [], ◌∷◌, refl, inl, ◌∙◌}
use Rattle.page_state.specs.BoardShowing.{BoardState}
use Rattle.told_messages.specs.Showing.{Turned}
use Rattle.told_messages.specs.ShowingExample.{noise, came, ended, board_of}
use Rattle.told_messages.proofs.Computing.{on_examples}
use Rattle.told_messages.proofs.showing_examples.what_is_told_of_an_event_is_shown.Goals as goal

neither : (was is : BoardState) → Turned 5020 [] [] was is → is ≡ was
neither was is turned = turned.2 ∙ turned.1

pub returns : goal.returns
unfolding on_examples
returns c = record {
  text = λ b. inl refl;
  no_text = λ was is same. same;
  given_up = λ b. (board_of b 8 (came [] ∷ ended [] ∷ []), inl refl, inl refl);
  nothing_given_up = λ was is same. same;
  both = λ b. (
    board_of b 7 (came (noise ∷ []) ∷ []),
    inl refl,
    (board_of b 8 (came (noise ∷ []) ∷ ended [] ∷ []), inl refl, inl refl),
  );
  neither = neither;
  no_page = λ is none. none;
  page = λ was is labelled. labelled;
  page_stays = λ was gone. gone;
}
