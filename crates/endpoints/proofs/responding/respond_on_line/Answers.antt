use Rattle.endpoints.proofs.StoreLemmas.{goes_unheard}
use Rattle.endpoints.proofs.responding.respond_on_line.Goals as goal

pub returns-in-Nothing-clause-told : goal.returns-in-Nothing-clause-told
returns-in-Nothing-clause-told c =
    goes_unheard c.args.context.setup.now c.args.occasion.line c.args.occasion.moment c.args.response.now _ c.args.store.now c.args.out.now.items c.in-Some.ensures.value c.in-Nothing.ensures
