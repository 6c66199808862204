use Rattle.std.proofs.Common.{ℕ, Bool, cond, [], refl, sym, ap}
use Rattle.message_counts.specs.Tallying.{with_received, with_stranger}
use Rattle.live_gateway.specs.declared.desk.Desk.{Desk}
use Rattle.live_laws.specs.TurnExample.{one}
use Rattle.live_gateway.proofs.CountingLemmas.{heard_given, strange_kept}
use Rattle.live_laws.proofs.TurnExampleLemmas.{nobody_looked, nobody_sends}
use Rattle.live_laws.proofs.turning_examples.what_an_exchange_gives_has_examples.Goals as goal

pub returns-clause-unlooked : goal.returns-clause-unlooked
returns-clause-unlooked c = λ was is none l. nobody_looked was.admission was.exchange l.looked l.found l.room none l.counts

pub returns-clause-room : goal.returns-clause-room
returns-clause-room c = λ was is looks. looks.whole

pub returns-clause-nothing : goal.returns-clause-nothing
returns-clause-nothing c = λ looked was is tries. ap (λ (desk : Desk ℕ ℕ). desk.exchange) tries.0

pub returns-clause-heard : goal.returns-clause-heard
returns-clause-heard c = λ admission may. sym (heard_given admission one may)

pub returns-clause-strange : goal.returns-clause-strange
returns-clause-strange c = λ admission other. sym (strange_kept admission one other)

pub returns-clause-counts : goal.returns-clause-counts
returns-clause-counts c = λ admission tally other. ap (λ (b : Bool). cond b (with_received tally) (with_stranger tally)) other

pub returns-clause-unsent : goal.returns-clause-unsent
returns-clause-unsent c = λ was is none sends. nobody_sends was is one.0 [] sends.0 none sends.1

pub returns-clause-unlost : goal.returns-clause-unlost
returns-clause-unlost c = λ same. cc

pub returns-clause-marks : goal.returns-clause-marks
returns-clause-marks c = refl

pub returns-clause-losses : goal.returns-clause-losses
returns-clause-losses c = refl

pub returns-clause-clock : goal.returns-clause-clock
returns-clause-clock c = refl
