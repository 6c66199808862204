use Rattle.std.proofs.Common.{◌≡◌, codes, [], ◌∷◌, refl, ap, inl, inr}
use Rattle.page_state.specs.declared.ring.Kind.TheVariants.{Sent}
use Rattle.page_state.specs.Sums.{next_number}
use Rattle.page_state.specs.BoardShowing.{BoardState}
use Rattle.message_counts.specs.Example.{host}
use Rattle.told_messages.specs.Showing.{Happened, Labelled}
use Rattle.told_messages.specs.ShowingExample.{noise, came, went, board_of, IsElseSame}
use Rattle.told_messages.proofs.Computing.{on_examples}
use Rattle.told_messages.proofs.showing_examples.what_happens_is_shown.Goals as goal

numbered : (was is : BoardState) → Happened 5020 Sent (host 9) (codes "200 7") was is → is.ring.last ≡ next_number was.ring.last
numbered was is (inl e) = ap (λ (b : BoardState). b.ring.last) e
numbered was is (inr e) = ap (λ (b : BoardState). b.ring.last) e

nothing_else : (was is : BoardState) → Happened 5020 Sent (host 9) (codes "200 7") was is → IsElseSame was is
nothing_else was is (inl e) =
    (ap (λ (b : BoardState). b.picture) e, ap (λ (b : BoardState). b.version) e, ap (λ (b : BoardState). b.acts) e)
nothing_else was is (inr e) =
    (ap (λ (b : BoardState). b.picture) e, ap (λ (b : BoardState). b.version) e, ap (λ (b : BoardState). b.acts) e)

no_number : (was is : BoardState) → Labelled (noise ∷ []) was is → is.ring.last ≡ was.ring.last
no_number was is (inl e) = ap (λ (b : BoardState). b.ring.last) e
no_number was is (inr e) = ap (λ (b : BoardState). b.ring.last) e

no_more : (was is : BoardState) → Labelled (noise ∷ []) was is → IsElseSame was is
no_more was is (inl e) =
    (ap (λ (b : BoardState). b.picture) e, ap (λ (b : BoardState). b.version) e, ap (λ (b : BoardState). b.acts) e)
no_more was is (inr e) =
    (ap (λ (b : BoardState). b.picture) e, ap (λ (b : BoardState). b.version) e, ap (λ (b : BoardState). b.acts) e)

pub returns : goal.returns
unfolding on_examples
returns c = record {
  kept = λ b. inl refl;
  not_kept = λ b. inr refl;
  numbered = numbered;
  nothing_else = nothing_else;
  labelled = λ b. inl refl;
  unlabelled = λ b. inr refl;
  no_number = no_number;
  no_more = no_more;
  sent = λ b. (board_of b 8 (came [] ∷ went [] ∷ []), inl refl, inl refl);
}
