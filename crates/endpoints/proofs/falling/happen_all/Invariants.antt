use Rattle.std.proofs.Common.{◌≡◌, ◌++◌, List}
use Rattle.plain_machine.specs.declared.label.OutMessage.{OutMessage}
use Rattle.plain_machine.specs.Falling.{pass}
use Rattle.plain_machine.specs.GivingUp.{given_up_until}
use Rattle.plain_machine.proofs.FallingLaws.{left}
use Rattle.endpoints.specs.StoreState.{StoreState}
use Rattle.endpoints.specs.Tells.{Goes}
use Rattle.endpoints.proofs.falling.happen_all.Given as goal

-- what completes the rest completes the whole
abbrev pub invariant-loop-item : goal.invariant-loop-item
invariant-loop-item l = record {
  completes : (is : StoreState) (are : List OutMessage) → Goes (pass l.context.setup.now l.store.endpoints l.moment) l.store is l.out.items are
      → Goes (pass l.context.setup.now l.fn.store.endpoints l.moment) l.fn.store is l.fn.out.items are;
  given_up : l.given_up.items ++ given_up_until l.context.setup.now l.store.endpoints l.moment
      ≡ l.fn.given_up.items ++ given_up_until l.context.setup.now l.fn.store.endpoints l.moment;
  found : l.store.found ≡ l.fn.store.found;
}

abbrev pub decreases-loop-item : goal.decreases-loop-item
decreases-loop-item l = left l.store.endpoints l.moment
