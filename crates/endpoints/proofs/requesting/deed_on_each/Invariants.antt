use Rattle.std.proofs.Common.{◌≡◌, List}
use Rattle.plain_machine.specs.declared.label.OutMessage.{OutMessage}
use Rattle.plain_machine.specs.Machine.{on_lines}
use Rattle.plain_machine.specs.Requesting.{deed_on, deed_on_all}
use Rattle.endpoints.specs.StoreState.{StoreState}
use Rattle.endpoints.specs.Tells.{Goes}
use Rattle.endpoints.proofs.StoreLemmas.{meant_from}
use Rattle.endpoints.proofs.requesting.deed_on_each.Given as goal

-- what completes the rest completes the whole
abbrev pub invariant-loop-place : goal.invariant-loop-place
invariant-loop-place l = record {
  completes : (is : StoreState) (are : List OutMessage)
      → Goes (on_lines (meant_from l.lines l.place l.fn.store.endpoints.list) l.store.endpoints (deed_on l.context.setup.now l.deed l.moment)) l.store is l.sent.items are
      → Goes (deed_on_all l.context.setup.now l.fn.store.endpoints l.lines l.deed l.moment) l.fn.store is l.fn.sent.items are;
  found : l.store.found ≡ l.fn.store.found;
}
