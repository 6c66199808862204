use Rattle.packages.proofs.TableLaws.{package_has_one, signal_has_one, event_has_one}
use Rattle.packages.proofs.package_laws.each_has_one_row.Goals as goal

pub returns : goal.returns
returns c = record { packages = package_has_one; signals = signal_has_one; events = event_has_one }
