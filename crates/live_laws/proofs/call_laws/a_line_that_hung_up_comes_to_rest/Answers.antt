use Rattle.live_laws.proofs.RestLaws.{stays_at_rest, three_at_most, three_in_all, so_many_in_all, rest_after_three, rest_where_idle}
use Rattle.live_laws.proofs.call_laws.a_line_that_hung_up_comes_to_rest.Goals as goal

pub returns-clause-no_call : goal.returns-clause-no_call
returns-clause-no_call c = stays_at_rest

pub returns-clause-at_most : goal.returns-clause-at_most
returns-clause-at_most c = three_at_most

pub returns-clause-in_all : goal.returns-clause-in_all
returns-clause-in_all c = so_many_in_all

pub returns-clause-none_put_off : goal.returns-clause-none_put_off
returns-clause-none_put_off c = three_in_all

pub returns-clause-after_three : goal.returns-clause-after_three
returns-clause-after_three c = rest_after_three

pub returns-clause-goes_on : goal.returns-clause-goes_on
returns-clause-goes_on c = rest_where_idle
