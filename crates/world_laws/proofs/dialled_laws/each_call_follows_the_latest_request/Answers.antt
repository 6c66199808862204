use Rattle.world_laws.proofs.FollowingLemmas.{follows_the_latest, rests_until_asked, rests_once_notified}
use Rattle.world_laws.proofs.dialled_laws.each_call_follows_the_latest_request.Goals as goal

pub returns-clause-follows : goal.returns-clause-follows
returns-clause-follows c = follows_the_latest

pub returns-clause-rests : goal.returns-clause-rests
returns-clause-rests c = rests_until_asked

pub returns-clause-notified : goal.returns-clause-notified
returns-clause-notified c = rests_once_notified
