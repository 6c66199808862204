-- The store as contracts see it.
use Rattle.plain_machine.specs.Machine.{Endpoints}

-- the endpoints, and as the event that happens found them
pub record StoreState : Type 0 where
  pub endpoints : Endpoints
  pub found : Endpoints

-- nothing was changed yet
abbrev pub committed : Endpoints → StoreState
committed endpoints = record { endpoints = endpoints; found = endpoints }
