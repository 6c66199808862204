-- What the code tells of an event, as contracts see it.
use Rattle.gateway_core.specs.declared.account.Account as code
use Rattle.gateway_core.specs.Accounts.{Account}

abbrev pub account_in : code.Account → Account
account_in told = record { sent = told.sent.items; given_up = told.given_up.items }
