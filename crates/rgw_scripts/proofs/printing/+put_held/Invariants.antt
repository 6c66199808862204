use Rattle.std.proofs.Common.{length}
use Rattle.rgw_scripts.proofs.printing.+put_held.Given as goal

abbrev pub decreases-put_held : goal.decreases-put_held
decreases-put_held l = length l.places.now
