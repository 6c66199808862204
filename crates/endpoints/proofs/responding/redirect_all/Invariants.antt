use Rattle.std.proofs.Common.{◌≡◌, List, []}
use Rattle.command_forms.specs.declared.forms.Target.TheVariants.{All}
use Rattle.plain_machine.specs.declared.label.OutMessage.{OutMessage}
use Rattle.plain_machine.specs.Machine.{on_lines}
use Rattle.plain_machine.specs.Responding.{redirected_on, on_all}
use Rattle.endpoints.specs.StoreState.{StoreState}
use Rattle.endpoints.specs.Tells.{Goes}
use Rattle.endpoints.proofs.StoreLemmas.{meant_from}
use Rattle.endpoints.proofs.responding.redirect_all.Given as goal

-- what completes the rest completes the whole
abbrev pub invariant-loop-place : goal.invariant-loop-place
invariant-loop-place l = record {
  completes : (is : StoreState) (are : List OutMessage)
      → Goes (on_lines (meant_from All l.place l.fn.store.endpoints.list) l.store.endpoints (redirected_on l.agent)) l.store is [] are
      → Goes (on_all l.fn.store.endpoints (redirected_on l.agent)) l.fn.store is [] are;
  found : l.store.found ≡ l.fn.store.found;
}
