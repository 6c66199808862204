-- What a rule does to the store.
use Rattle.std.specs.Prelude.{◌≡◌, List, ◌++◌, Result, Ok, Err}
use Rattle.std.specs.declared.alloc.AllocError.{AllocError}
use Rattle.plain_machine.specs.declared.label.OutMessage.{OutMessage}
use Rattle.plain_machine.specs.Machine.{Endpoints}
use Rattle.plain_machine.specs.Effect.{Effect}
use Rattle.plain_machine.specs.Labelling.{messages_of}
use Rattle.endpoints.specs.StoreState.{StoreState}

-- the endpoints become what is told, the messages grow by what is sent, and what the event found can still be had
pub record Goes (told : Effect Endpoints) (was is : StoreState) (were are : List OutMessage) : Type 0 where
  pub endpoints : is.endpoints ≡ told.value
  pub found : is.found ≡ was.found
  pub sent : are ≡ were ++ messages_of told.sent

-- so it goes; or memory is refused, and what the event found can still be had
abbrev pub Tells : {A : Type 0} → Result A AllocError → Effect Endpoints → StoreState → StoreState → List OutMessage
    → List OutMessage → Type 0
Tells (Ok x) told was is were are = Goes told was is were are
Tells (Err fault) told was is were are = is.found ≡ was.found
