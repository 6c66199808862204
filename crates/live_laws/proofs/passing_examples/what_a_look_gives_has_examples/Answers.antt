use Rattle.std.proofs.Common.{◌≡◌, ℕ, refl, sym, ◌∙◌, ap}
use Rattle.live_journal.specs.declared.capture.Capture.{Capture}
use Rattle.live_gateway.specs.declared.exchange.Exchange.{Exchange}
use Rattle.live_laws.specs.Example.{at_port}
use Rattle.live_laws.proofs.WayExampleLemmas.{not_given, handed_alone, looked_there}
use Rattle.live_laws.proofs.passing_examples.what_a_look_gives_has_examples.Goals as goal

pub returns-clause-lost : goal.returns-clause-lost
returns-clause-lost c = λ admission was is lost. not_given (at_port 9 2727, 5) lost.0

pub returns-clause-lost_quietly : goal.returns-clause-lost_quietly
returns-clause-lost_quietly c = λ admission was is lost. (
  ap (λ (e : Exchange ℕ). e.journal.tally) lost.1,
  ap (λ (e : Exchange ℕ). e.network) lost.1,
)

pub returns-clause-unlost : goal.returns-clause-unlost
returns-clause-unlost c = λ admission was is hands. hands

pub returns-clause-over : goal.returns-clause-over
returns-clause-over c = λ admission given was is goes. ap (λ (e : Exchange ℕ). e.journal) goes.only

pub returns-clause-stranger : goal.returns-clause-stranger
returns-clause-stranger c = λ admission was is goes. ap (λ (e : Exchange ℕ). e.network) goes.2

pub returns-clause-unheard : goal.returns-clause-unheard
returns-clause-unheard c = λ admission was is goes. not_given (at_port 9 2727, 1) goes.0

pub returns-clause-nothing : goal.returns-clause-nothing
returns-clause-nothing c = λ admission given was is takes. takes

pub returns-clause-unlooked : goal.returns-clause-unlooked
returns-clause-unlooked c = λ admission given was is looks. looks.looked.looked

pub returns-clause-whole : goal.returns-clause-whole
returns-clause-whole c = λ admission given room was is looks. looks.whole

pub returns-clause-handed : goal.returns-clause-handed
returns-clause-handed c = handed_alone

pub returns-clause-heard : goal.returns-clause-heard
returns-clause-heard c = λ given was is gives. gives.0

pub returns-clause-strange : goal.returns-clause-strange
returns-clause-strange c = λ given was is gives. gives.0

pub returns-clause-none : goal.returns-clause-none
returns-clause-none c = λ admission given was is gives. gives

pub returns-clause-never : goal.returns-clause-never
returns-clause-never c = λ admission given was is looks. looks.looked.looked

pub returns-clause-direct : goal.returns-clause-direct
returns-clause-direct c = looked_there

pub returns-clause-counted : goal.returns-clause-counted
returns-clause-counted c = λ was is notes. (notes.tally, notes.written)

pub returns-clause-logged : goal.returns-clause-logged
returns-clause-logged c = λ was is notes told. (notes.logged.1 told).0

pub returns-clause-captured : goal.returns-clause-captured
returns-clause-captured c = λ was is notes. ap (λ (capture : Capture). capture.here) notes.captured.1

pub returns-clause-by_network : goal.returns-clause-by_network
returns-clause-by_network c = λ admission given room was is looks. looks

pub returns-clause-by_socket : goal.returns-clause-by_socket
returns-clause-by_socket c = λ admission given room was is looks. looks.looked.looked
