use Rattle.std.proofs.Common.{rules, refl, ◌≡◌, Some}
use Rattle.endpoints.proofs.ResentLemmas.{sent_again}
use Rattle.endpoints.proofs.rules.posting.resent_on.Goals as goal

pub returns-in_ok-send-in-Sent-clause-turn : goal.returns-in_ok-send-in-Sent-clause-turn
returns-in_ok-send-in-Sent-clause-turn c =
    let flying : c.args.post.now.pending ≡ Some c.in-Some.message = search rules in
    sent_again c.args.context.setup.now _ _ c.args.post.now _ c.in-Some.message c.repeat.new.self _ _ _ _ _ flying c.in-Sent.ensures.done c.repeat.ensures.kept c.to.ensures.kept
    (search rules) c.again_label-label.ensures c.in_ok-send-in-Sent.ensures.ok refl
