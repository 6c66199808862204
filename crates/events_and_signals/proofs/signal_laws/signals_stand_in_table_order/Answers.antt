use Rattle.events_and_signals.proofs.RequestLaws.{in_order-applied, in_order-without_time_outs, in_order-allowed_in, in_order-without}
use Rattle.events_and_signals.proofs.signal_laws.signals_stand_in_table_order.Goals as goal

pub returns-clause-applied : goal.returns-clause-applied
returns-clause-applied c = in_order-applied

pub returns-clause-without_time_outs : goal.returns-clause-without_time_outs
returns-clause-without_time_outs c = in_order-without_time_outs

pub returns-clause-hook : goal.returns-clause-hook
returns-clause-hook c = in_order-allowed_in

pub returns-clause-without : goal.returns-clause-without
returns-clause-without c = in_order-without
