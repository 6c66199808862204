use Rattle.std.proofs.Common.{◌≡◌, drop}
use Rattle.std.specs.Prelude.{find, ◌==◌}
use Rattle.plain_machine.specs.ConfigFault.{config_fault_number}
use Rattle.rgw_scripts.specs.Fault.{config_faults}
use Rattle.rgw_scripts.proofs.played.name_of_config_fault.Given as goal

abbrev pub invariant-loop-fault : goal.invariant-loop-fault
invariant-loop-fault l =
    find (λ fault. config_fault_number fault == l.number) (drop l.fault-index config_faults) ≡ find (λ fault. config_fault_number fault == l.number) config_faults
