use Rattle.std.proofs.Common.{rules}
use Rattle.call_agent.proofs.PassLemmas.{flew_again, flew_up}
use Rattle.call_agent.proofs.ticking.fly_on.Goals as goal

pub returns-in_ok-put-in-Sent : goal.returns-in_ok-put-in-Sent
returns-in_ok-put-in-Sent c =
    flew_again c.args.flight c.repeat.new.self c.repeat.result c.due-moment.result _ _ _ _ c.to.result c.of-text.result c.due-moment.ensures.kept c.repeat.ensures.done c.in-Sent.is
    c.repeat.ensures.kept c.in_ok-put-in-Sent.ensures.ok c.to.ensures.kept (search rules) c.in_ok-send-in-Sent.ensures.ok

pub returns-in_ok-give_up-in-GivenUp : goal.returns-in_ok-give_up-in-GivenUp
returns-in_ok-give_up-in-GivenUp c =
    flew_up c.args.flight c.repeat.new.self c.id.result c.repeat.result c.due-moment.result _ _ _ c.due-moment.ensures.kept c.repeat.ensures.done c.in-GivenUp.is
    c.repeat.ensures.kept c.id.ensures c.in_ok-give_up-in-GivenUp.ensures.ok
