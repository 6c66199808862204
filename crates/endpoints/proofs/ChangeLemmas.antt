-- What a change in place does to the store.
use Rattle.std.proofs.Common.{◌≡◌, ℕ, ◌-◌, Bool, List, [], Option, Some, None, false, ◌∷◌, ◌++◌, length, refl, sym, ap, ◌∙◌, get_or, set}
use Rattle.std.proofs.lemmas.List.{length-set}
use Rattle.std.specs.Prelude.{slice_set}
use Rattle.std.specs.Option.{unwrap_or}
use Rattle.std.specs.Global.{Vec}
use Rattle.plain_machine.specs.declared.label.OutMessage.{OutMessage}
use Rattle.plain_machine.specs.declared.post.Post.{Post}
use Rattle.plain_machine.specs.declared.endpoint.Endpoint.{Endpoint}
use Rattle.plain_machine.specs.Effect.{Effect, silently}
use Rattle.plain_machine.specs.Machine.{Endpoints, with_endpoint, with_own, on_line, on_own}
use Rattle.endpoints.specs.Effects.{HasEffect}
use Rattle.endpoints.specs.declared.saves.Saved.{Saved}
use Rattle.endpoints.specs.StoreState.{StoreState, committed}
use Rattle.endpoints.specs.Saving.{endpoints_of, restored, found_in, IsSavedToo}
use Rattle.endpoints.specs.Changing.{Call, LineChanges, GatewayChanges}
use Rattle.endpoints.specs.Tells.{Goes}
use Rattle.endpoints.proofs.StoreLemmas.{goes_on_line, goes_on_own}
use Rattle.endpoints.proofs.SavingLemmas.{changed_found, restored_less, restored_none}

pub store_is : {e e' f f' : Endpoints} → e ≡ e' → f ≡ f' → ◌≡◌ {A = StoreState} (record { endpoints = e; found = f }) (record { endpoints = e'; found = f' })
store_is same found = rw (same, found) refl

-- the store with these endpoints, and what was saved
abbrev pub store_of : List Saved → Option Post → Endpoints → StoreState
store_of log own endpoints = record { endpoints = endpoints; found = found_in log own endpoints }

-- an endpoint is changed
pub line_changed : (log log' : List Saved) (own : Option Post) (endpoints is : Endpoints) (place line : ℕ) (was becomes : Endpoint) (touched touched' : List Bool) (store : StoreState)
    → store ≡ store_of log own endpoints → place ≡ line - 1 → was ≡ get_or endpoints.list place was → IsSavedToo place was touched touched' log log'
    → is ≡ record endpoints { list = slice_set endpoints.list place becomes }
    → store_of log' own is ≡ record store { endpoints = with_endpoint store.endpoints line becomes }
line_changed log log' own endpoints is place line was becomes touched touched' store view at here saved set_is =
    store_is (set_is ∙ ap (λ (p : ℕ). let e : Endpoints = record endpoints { list = slice_set endpoints.list p becomes } in e) at)
    (ap (found_in log' own) set_is
    ∙ ap (λ (x : List Endpoint). endpoints_of x (unwrap_or own endpoints.own)) (changed_found place was becomes touched touched' log log' endpoints.list here saved))
    ∙ ap (λ (f : StoreState). let g : StoreState = record f { endpoints = with_endpoint f.endpoints line becomes } in g) (sym view)

-- the post of the gateway itself is changed
pub own_changed : (log : List Saved) (saved own : Option Post) (endpoints is : Endpoints) (becomes : Post) (store : StoreState) → store ≡ store_of log saved endpoints
    → own ≡ Some (unwrap_or saved endpoints.own) → is ≡ with_own endpoints becomes
    → store_of log own is ≡ record store { endpoints = with_own store.endpoints becomes }
own_changed log saved own endpoints is becomes store view kept set_is =
    store_is set_is
    (ap (λ (o : Option Post). found_in log o is) kept ∙ ap (λ (e : Endpoints). endpoints_of (restored log e.list) (unwrap_or saved endpoints.own)) set_is)
    ∙ ap (λ (f : StoreState). let g : StoreState = record f { endpoints = with_own f.endpoints becomes } in g) (sym view)

-- a change by a rule of one endpoint
pub goes_changed : {F T : Type 0} (g : Call F Endpoint (Vec OutMessage) T) (f : F) (line : ℕ) (was : StoreState) (with : Vec OutMessage) (r : T) (is : StoreState) (left : Vec OutMessage) (turn : Endpoint → Effect Endpoint)
    → (changes : LineChanges g f line was with r is left)
    → HasEffect (turn changes.leaves.shown.now) changes.leaves.leaves.now changes.leaves.lent.now.items changes.leaves.back.now.items
    → Goes (on_line was.endpoints line turn) was is with.items left.items
goes_changed g f line was with r is left turn changes has =
    let leaves = changes.leaves in
    let turned : HasEffect (turn changes.endpoint) changes.becomes with.items left.items =
    rw (sym leaves.shows, leaves.becomes, sym leaves.lends, leaves.gives) has in
    goes_on_line was.endpoints line changes.endpoint changes.becomes turn was is with.items left.items refl (sym changes.here) turned changes.store

-- and of the gateway itself
pub own_goes_changed : {F T : Type 0} (g : Call F Post (Vec OutMessage) T) (f : F) (was : StoreState) (with : Vec OutMessage) (r : T) (is : StoreState) (left : Vec OutMessage) (turn : Post → Effect Post)
    → (changes : GatewayChanges g f was with r is left)
    → HasEffect (turn changes.leaves.shown.now) changes.leaves.leaves.now changes.leaves.lent.now.items changes.leaves.back.now.items
    → Goes (on_own was.endpoints turn) was is with.items left.items
own_goes_changed g f was with r is left turn changes has =
    let leaves = changes.leaves in
    let turned : HasEffect (turn was.endpoints.own) changes.becomes with.items left.items =
    rw (sym leaves.shows, leaves.becomes, sym leaves.lends, leaves.gives) has in
    goes_on_own was.endpoints.own changes.becomes turn was is with.items left.items refl turned changes.store

-- a change that sends nothing
pub goes_silent : {F C T : Type 0} (g : Call F Endpoint C T) (f : F) (line : ℕ) (was : StoreState) (with : C) (r : T) (is : StoreState) (left : C) (turn : Endpoint → Effect Endpoint)
    → (changes : LineChanges g f line was with r is left) → silently changes.leaves.leaves.now ≡ turn changes.leaves.shown.now
    → Goes (on_line was.endpoints line turn) was is [] []
goes_silent g f line was with r is left turn changes same =
    let leaves = changes.leaves in
    let turned : silently changes.becomes ≡ turn changes.endpoint = ap silently leaves.becomes ∙ same ∙ ap turn leaves.shows in
    goes_on_line was.endpoints line changes.endpoint changes.becomes turn was is [] [] refl (sym changes.here)
    (record { value = ap (λ (t : Effect Endpoint). t.value) turned; sent = rw (sym turned) refl }) changes.store

-- what was saved last is put back
pub back_found : (log log' : List Saved) (saved : Saved) (own : Option Post) (was is found : Endpoints) → log ≡ log' ++ saved ∷ []
    → is ≡ record was { list = slice_set was.list saved.place saved.endpoint } → found_in log own was ≡ found → found_in log' own is ≡ found
back_found log log' saved own was is found popped set_is same =
    ap (found_in log' own) set_is
    ∙ ap (λ (x : List Endpoint). endpoints_of x (unwrap_or own was.own)) (restored_less log log' saved was.list popped)
    ∙ same

back_length : (endpoints is : Endpoints) (place : ℕ) (endpoint : Endpoint) → is ≡ record endpoints { list = slice_set endpoints.list place endpoint }
    → length is.list ≡ length endpoints.list
back_length endpoints is place endpoint set_is = ap (λ (e : Endpoints). length e.list) set_is ∙ length-set endpoints.list place endpoint

pub back_flags : (touched touched' : List Bool) (place at : ℕ) (endpoint : Endpoint) (endpoints is : Endpoints) → length touched ≡ length endpoints.list
    → touched' ≡ set touched at false → is ≡ record endpoints { list = slice_set endpoints.list place endpoint } → length touched' ≡ length is.list
back_flags touched touched' place at endpoint endpoints is flags unmarked set_is =
    ap length unmarked ∙ length-set touched at false ∙ flags ∙ sym (back_length endpoints is place endpoint set_is)

-- nothing is saved any more
pub none_saved : (log : List Saved) (endpoints was : Endpoints) → log ≡ [] → endpoints ≡ was → store_of log None endpoints ≡ committed was
none_saved log endpoints was none same =
    store_is same (ap (λ (x : List Endpoint). endpoints_of x endpoints.own) (restored_none log endpoints.list none) ∙ same)

-- all endpoints are put back, and nothing of the gateway itself was changed
pub list_back : (log log' : List Saved) (own own' : Option Post) (endpoints found : Endpoints) → log ≡ [] → log' ≡ [] → own ≡ None → own' ≡ None → found_in log own endpoints ≡ found
    → store_of log' own' endpoints ≡ committed found
list_back log log' own own' endpoints found none still unsaved gone same =
    ap (λ (o : Option Post). store_of log' o endpoints) gone
    ∙ none_saved log' endpoints found still
    (ap (λ (x : List Endpoint). endpoints_of x endpoints.own) (sym (restored_none log endpoints.list none))
    ∙ ap (λ (o : Option Post). found_in log o endpoints) (sym unsaved) ∙ same)

-- and the post of the gateway itself is put back
pub own_back : (log log' : List Saved) (own : Post) (saved saved' : Option Post) (endpoints is found : Endpoints) → log ≡ [] → log' ≡ [] → saved ≡ Some own → saved' ≡ None
    → found_in log saved endpoints ≡ found → is ≡ with_own endpoints own → store_of log' saved' is ≡ committed found
own_back log log' own saved saved' endpoints is found none still kept gone same set_is =
    ap (λ (o : Option Post). store_of log' o is) gone
    ∙ none_saved log' is found still
    (set_is
    ∙ ap (λ (x : List Endpoint). endpoints_of x own) (sym (restored_none log endpoints.list none))
    ∙ ap (λ (o : Option Post). found_in log o endpoints) (sym kept) ∙ same)
