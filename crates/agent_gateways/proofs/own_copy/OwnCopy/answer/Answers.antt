use Rattle.std.proofs.Common.{◌≡◌, true, false, refl, sym, ◌∙◌, rules}
use Rattle.std.specs.Prelude.{◌==◌}
use Rattle.retransmission.specs.declared.reply.Reply.TheVariants.{Stranger}
use Rattle.agent_gateways.proofs.CopyLemmas.{hears_so, own_kept, own_reply, replies_so}
use Rattle.agent_gateways.proofs.own_copy.OwnCopy.answer.Goals as goal

pub returns-then-self-number-clause-reply : goal.returns-then-self-number-clause-reply
returns-then-self-number-clause-reply c =
    let other : false ≡ (c.self.inside.id == c.args.id) = search rules in
    replies_so c.self.inside.id c.args.id c.self.inside.text c.self.inside.timing c.args.self.now false c.args.code Stranger
    c.self.view_is other refl

pub returns-then-self-number-clause-kept : goal.returns-then-self-number-clause-kept
returns-then-self-number-clause-kept c =
    let other : false ≡ (c.self.inside.id == c.args.id) = search rules in
    sym c.self.view_is
    ∙ hears_so c.self.inside.id c.args.id c.self.inside.text c.self.inside.timing c.self.inside.timing c.args.self.now false
    c.args.code c.args.moment c.self.view_is other refl

pub returns-clause-reply : goal.returns-clause-reply
returns-clause-reply c =
    let own : true ≡ (c.self.inside.id == c.args.id) = search rules in
    replies_so c.self.inside.id c.args.id c.self.inside.text c.self.inside.timing c.args.self.now true c.args.code _ c.self.view_is own
    (own_reply true c.self.inside.timing c.id-own.result c.args.code _ refl c.id-own.ensures c.answer.ensures.reply)

pub returns-clause-kept : goal.returns-clause-kept
returns-clause-kept c =
    let own : true ≡ (c.self.inside.id == c.args.id) = search rules in
    hears_so c.self.inside.id c.args.id c.self.inside.text c.self.inside.timing _ c.args.self.now true c.args.code c.args.moment c.self.view_is own
    (own_kept true c.self.inside.timing _ c.id-own.result c.args.code c.args.moment refl c.id-own.ensures c.answer.ensures.kept)
