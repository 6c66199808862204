use Rattle.std.proofs.Common.{◌≡◌, [], refl, ap}
use Rattle.plain_machine.specs.declared.setup.Setup.{Setup}
use Rattle.plain_machine.specs.Machine.{opening}
use Rattle.gateway_core.specs.Accounts.{Account, no_account, account_after, last_account}
use Rattle.gateway_core.proofs.StandLemmas.{account_on}
use Rattle.gateway_core.proofs.laws.what_the_last_event_sent_is_told.Goals as goal

nothing_told : (setup : Setup) → last_account setup [] ≡ no_account
unfolding account_after
nothing_told setup = refl

pub returns-clause-none : goal.returns-clause-none
returns-clause-none c = λ setup. nothing_told setup

pub returns-clause-sent : goal.returns-clause-sent
returns-clause-sent c = λ setup before event. ap (λ (a : Account). a.sent) (account_on setup (opening setup) no_account before event)

pub returns-clause-given_up : goal.returns-clause-given_up
returns-clause-given_up c = λ setup before event. ap (λ (a : Account). a.given_up) (account_on setup (opening setup) no_account before event)
