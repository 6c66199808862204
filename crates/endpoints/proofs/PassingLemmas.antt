-- An act that is passed over, in what the event found.
use Rattle.std.proofs.Common.{inl, inr, ◌≡◌, ℕ, zero, suc, ◌-◌, ◌<◌, Bool, true, false, List, [], ◌∷◌, length, get_or, Option, refl, sym, ◌∙◌, ap, arith}
use Rattle.std.specs.Prelude.{◌⊎◌}
use Rattle.std.specs.Option.{unwrap_or}
use Rattle.mg_line.specs.declared.phone.Act.{Act}
use Rattle.plain_machine.specs.declared.post.Post.{Post}
use Rattle.plain_machine.specs.declared.endpoint.Endpoint.{Endpoint}
use Rattle.plain_machine.specs.declared.setup.Setup.{Setup}
use Rattle.plain_machine.specs.Message.{Sent}
use Rattle.plain_machine.specs.Effect.{Effect, silently}
use Rattle.plain_machine.specs.Acting.{acted_on, acted}
use Rattle.plain_machine.specs.Machine.{Endpoints, with_endpoint, with_turn, on_line}
use Rattle.plain_machine.proofs.EffectLaws.{on_this}
use Rattle.endpoints.specs.Telling.{IsLine}
use Rattle.endpoints.specs.declared.saves.Saved.{Saved}
use Rattle.endpoints.specs.Saving.{endpoints_of, restored, found_in, is_saved}
use Rattle.endpoints.specs.Changing.{ComesToo}
use Rattle.endpoints.proofs.StoreLemmas.{endpoint_there}
use Rattle.endpoints.proofs.SavingLemmas.{restored_over, restored_apart, restored_elsewhere, restored_length}

first_of : (list : List Endpoint) (k : ℕ) → k < length list → Endpoint
first_of [] k inside = absurd (omega (arith, inside))
first_of (one ∷ more) k inside = one

got_any : (list : List Endpoint) (k : ℕ) (a b : Endpoint) → k < length list → get_or list k a ≡ get_or list k b
got_any [] k a b inside = absurd (omega (arith, inside))
got_any (one ∷ more) zero a b inside = refl
got_any (one ∷ more) (suc k) a b inside = got_any more k a b (omega (arith, inside))

effect_is : (x y : Endpoints) (sent : List Sent) → x ≡ y → sent ≡ [] → ◌≡◌ {A = Effect Endpoints} (record { value = x; sent = sent }) (silently y)
effect_is x y sent same none = λ i. record { value = same i; sent = none i }

-- the endpoint of the line is saved
stays : (log : List Saved) (own : Option Post) (was is : Endpoints) (line : ℕ) (turn : Effect Endpoint) → is_saved (line - 1) log ≡ true
    → with_turn was line turn ≡ silently is → found_in log own is ≡ found_in log own was
stays log own was is line turn saved turned =
    let becomes : with_endpoint was line turn.value ≡ is = ap (λ (t : Effect Endpoints). t.value) turned in
    ap (λ (e : Endpoints). found_in log own e) (sym becomes)
    ∙ ap (λ (list : List Endpoint). endpoints_of list (unwrap_or own was.own)) (restored_over log was.list (line - 1) turn.value saved)

-- it isn't
comes : (log : List Saved) (own : Option Post) (was is : Endpoints) (line : ℕ) (turn : Endpoint → Effect Endpoint) (endpoint : Endpoint) → IsLine line
    → line - 1 < length was.list → endpoint ≡ get_or was.list (line - 1) endpoint → is_saved (line - 1) log ≡ false
    → with_turn was line (turn endpoint) ≡ silently is → on_line (found_in log own was) line turn ≡ silently (found_in log own is)
comes log own was is line turn endpoint number within here none turned =
    let found : Endpoints = found_in log own was in
    let becomes : with_endpoint was line (turn endpoint).value ≡ is = ap (λ (t : Effect Endpoints). t.value) turned in
    let silent : (turn endpoint).sent ≡ [] = ap (λ (t : Effect Endpoints). t.sent) turned in
    let inside : line - 1 < length (restored log was.list) = omega (arith, within, restored_length log was.list) in
    let there : endpoint ≡ get_or (restored log was.list) (line - 1) endpoint = here ∙ sym (restored_elsewhere log was.list (line - 1) endpoint none) in
    on_this found line endpoint turn (endpoint_there (restored log was.list) (unwrap_or own was.own) line endpoint number.some inside there)
    ∙ effect_is (with_endpoint found line (turn endpoint).value) (found_in log own is) (turn endpoint).sent
    (ap (λ (list : List Endpoint). endpoints_of list (unwrap_or own was.own)) (sym (restored_apart log was.list (line - 1) (turn endpoint).value none))
    ∙ ap (λ (e : Endpoints). found_in log own e) becomes)
    silent

comes_if : (saved : Bool) (setup : Setup) (moment line : ℕ) (act : Act) (log : List Saved) (own : Option Post) (was is : Endpoints) (endpoint : Endpoint)
    → is_saved (line - 1) log ≡ saved → IsLine line → line - 1 < length was.list → endpoint ≡ get_or was.list (line - 1) endpoint
    → with_turn was line (acted_on setup line moment act endpoint) ≡ silently is
    → ComesToo (λ found. acted setup found line moment act) (found_in log own was) (found_in log own is)
comes_if true setup moment line act log own was is endpoint saved number within here turned =
    inl (stays log own was is line (acted_on setup line moment act endpoint) saved turned)
comes_if false setup moment line act log own was is endpoint none number within here turned =
    inr (comes log own was is line (acted_on setup line moment act) endpoint number within here none turned)

pub comes_too : (setup : Setup) (moment line : ℕ) (act : Act) (log : List Saved) (own : Option Post) (was is : Endpoints) → IsLine line → line - 1 < length was.list
    → acted setup was line moment act ≡ silently is → ComesToo (λ found. acted setup found line moment act) (found_in log own was) (found_in log own is)
comes_too setup moment line act log own was is number within acts =
    let endpoint = get_or was.list (line - 1) (first_of was.list (line - 1) within) in
    let here : endpoint ≡ get_or was.list (line - 1) endpoint = got_any was.list (line - 1) (first_of was.list (line - 1) within) endpoint within in
    comes_if (is_saved (line - 1) log) setup moment line act log own was is endpoint refl number within here
    (sym (on_this was line endpoint (acted_on setup line moment act) (endpoint_there was.list was.own line endpoint number.some within here)) ∙ acts)
