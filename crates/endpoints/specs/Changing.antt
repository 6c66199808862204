-- Changes in place: what a call makes of what it is lent.
use Rattle.std.specs.Prelude.{◌≡◌, ◌⊎◌, ℕ, Some, slice_set, slice_index_or}
use Rattle.std.specs.Borrow.{MutBor}
use denote.Param.Members.{Once}
use Rattle.plain_machine.specs.declared.post.Post.{Post}
use Rattle.plain_machine.specs.declared.endpoint.Endpoint.{Endpoint}
use Rattle.plain_machine.specs.Effect.{Effect, silently}
use Rattle.plain_machine.specs.Machine.{Endpoints, endpoint_at, with_endpoint, with_own}
use Rattle.endpoints.specs.Ids.{HasId}
use Rattle.endpoints.specs.StoreState.{StoreState}

-- what is lent to a call, and what it gives back with its result: something that changes, and what else the change sees
abbrev pub Lent : Type 0 → Type 0 → Type 0
Lent A C = MutBor A × (MutBor C × Unit {0})

abbrev pub Call : Type 0 → Type 0 → Type 0 → Type 0 → Type 1
Call F A C T = Once F (Lent A C) (T × Lent A C)

-- a call, lent this, gives r and leaves that
pub record Leaves {F A C T : Type 0} (g : Call F A C T) (f : F) (was : A) (with : C) (r : T) (is : A) (left : C) : Type 0 where
  pub shown : MutBor A
  pub leaves : MutBor A
  pub lent : MutBor C
  pub back : MutBor C
  pub called : g.post f (shown, (lent, tt)) (r, (leaves, (back, tt)))
  pub shows : shown.now ≡ was
  pub lends : lent.now ≡ with
  pub becomes : is ≡ leaves.now
  pub gives : left ≡ back.now

-- the endpoint at this place becomes what a call leaves of it
pub record EndpointChanges {F C T : Type 0} (g : Call F Endpoint C T) (f : F) (place : ℕ) (was : Endpoints) (with : C) (r : T)
    (is : Endpoints) (left : C) : Type 0 where
  pub endpoint : Endpoint
  pub becomes : Endpoint
  pub here : endpoint ≡ slice_index_or was.list place endpoint
  pub leaves : Leaves g f endpoint with r becomes left
  pub endpoints : is ≡ record was { list = slice_set was.list place becomes }

-- the post of the gateway itself becomes what a call leaves of it
pub record OwnChanges {F C T : Type 0} (g : Call F Post C T) (f : F) (was : Endpoints) (with : C) (r : T)
    (is : Endpoints) (left : C) : Type 0 where
  pub becomes : Post
  pub leaves : Leaves g f was.own with r becomes left
  pub endpoints : is ≡ with_own was becomes

-- of what has an id for its next command, a call leaves what has one
abbrev pub KeepsId : {F C T : Type 0} → Call F Post C T → F → Type 0
KeepsId g f = (shown leaves : MutBor Post) (lent back : MutBor _) (r : _) → HasId 0 shown.now.number
    → g.post f (shown, (lent, tt)) (r, (leaves, (back, tt))) → HasId 0 leaves.now.number

-- the endpoint of a line becomes what a call leaves of it, and what the event found can still be had
pub record LineChanges {F C T : Type 0} (g : Call F Endpoint C T) (f : F) (line : ℕ) (was : StoreState) (with : C) (r : T)
    (is : StoreState) (left : C) : Type 0 where
  pub endpoint : Endpoint
  pub becomes : Endpoint
  pub here : endpoint_at was.endpoints line ≡ Some endpoint
  pub leaves : Leaves g f endpoint with r becomes left
  pub store : is ≡ record was { endpoints = with_endpoint was.endpoints line becomes }

-- and so does the post of the gateway itself
pub record GatewayChanges {F C T : Type 0} (g : Call F Post C T) (f : F) (was : StoreState) (with : C) (r : T)
    (is : StoreState) (left : C) : Type 0 where
  pub becomes : Post
  pub leaves : Leaves g f was.endpoints.own with r becomes left
  pub store : is ≡ record was { endpoints = with_own was.endpoints becomes }

-- of what isn't saved: what the event found stays, where it has the endpoint of the line already, and else the same comes to it
abbrev pub ComesToo : (Endpoints → Effect Endpoints) → Endpoints → Endpoints → Type 0
ComesToo turn found found' = (found' ≡ found) ⊎ (turn found ≡ silently found')
