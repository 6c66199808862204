-- Moves one after the other.
use Rattle.std.proofs.Common.{◌≡◌, List, [], ◌∷◌, ◌++◌, refl, sym, ap, ◌∙◌, append_assoc}
use Rattle.plain_machine.specs.declared.setup.Setup.{Setup}
use Rattle.plain_machine.specs.Event.{GatewayEvent}
use Rattle.rgw_scripts.specs.Moves.{Move, Shown, Went, move_went, went, followed}

followed_more : (first : Went) (second third : List GatewayEvent → Went) → followed (followed first second) third ≡ followed first (λ taken. followed (second taken) third)
followed_more first second third =
    let middle : Went = second first.taken in
    let last : Went = third middle.taken in
    ap (λ (s : List Shown). record { shown = s; taken = last.taken }) (append_assoc first.shown middle.shown last.shown)

-- moves, and then more
pub went_more : (setup : Setup) (before : List GatewayEvent) (xs ys : List Move) → went setup before (xs ++ ys) ≡ followed (went setup before xs) (λ taken. went setup taken ys)
unfolding went
went_more setup before [] ys = refl
went_more setup before (x ∷ xs) ys =
    let first : Went = move_went setup before x in
    ap (λ (next : Went). followed first (λ (taken : List GatewayEvent). next)) (went_more setup first.taken xs ys)
    ∙ sym (followed_more first (λ taken. went setup taken xs) (λ taken. went setup taken ys))
