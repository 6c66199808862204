use Rattle.connections.proofs.OrderLaws.{no_call, no_id, not_renewed, renewed_no_codec, renewed_no_mode, renewed_no_version}
use Rattle.connections.proofs.laws.a_modification_is_refused_in_this_order.Goals as goal

pub returns-clause-no_call : goal.returns-clause-no_call
returns-clause-no_call c = no_call

pub returns-clause-no_id : goal.returns-clause-no_id
returns-clause-no_id c = no_id

pub returns-clause-not_renewed : goal.returns-clause-not_renewed
returns-clause-not_renewed c = not_renewed

pub returns-clause-no_codec : goal.returns-clause-no_codec
returns-clause-no_codec c = renewed_no_codec

pub returns-clause-no_mode : goal.returns-clause-no_mode
returns-clause-no_mode c = renewed_no_mode

pub returns-clause-no_version : goal.returns-clause-no_version
returns-clause-no_version c = renewed_no_version
