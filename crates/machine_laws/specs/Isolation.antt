-- A line under its own events alone (RFC 3435, 2.1.1: what goes on at one endpoint is no matter of another).
use Rattle.std.specs.Prelude.{◌≡◌, ℕ, true, List}
use Rattle.plain_machine.specs.declared.setup.Setup.{Setup}
use Rattle.plain_machine.specs.Event.{GatewayEvent}
use Rattle.plain_machine.specs.Lists.{are_taken, plain, sent_of, hook_of, signals_of, connections_of, lost_of}
use Rattle.plain_machine.specs.Machine.{opening}
use Rattle.machine_laws.specs.Belonging.{of_line}
use Rattle.machine_laws.specs.OwnEvents.{own_events}

-- all that stands on the line, and all that it sends and is answered, is as it is under its own events alone, and these
-- are taken where all are
pub record AsUnderItsOwn (setup : Setup) (line : ℕ) (events : List GatewayEvent) : Type 0 where
  pub hook : hook_of (plain setup events) line ≡ hook_of (plain setup (own_events setup line events)) line
  pub signals : signals_of (plain setup events) line ≡ signals_of (plain setup (own_events setup line events)) line
  pub connections : connections_of (plain setup events) line ≡ connections_of (plain setup (own_events setup line events)) line
  pub lost : lost_of (plain setup events) line ≡ lost_of (plain setup (own_events setup line events)) line
  pub sent : of_line line (sent_of setup events) ≡ of_line line (sent_of setup (own_events setup line events))
  pub taken : are_taken setup (opening setup) events ≡ true
      → are_taken setup (opening setup) (own_events setup line events) ≡ true
