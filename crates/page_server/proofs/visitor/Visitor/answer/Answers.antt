use Rattle.std.proofs.Common.{refl}
use Rattle.page_server.proofs.VisitLemmas.{worked}
use Rattle.page_server.proofs.visitor.Visitor.answer.Goals as goal

pub returns-clause-site : goal.returns-clause-site
returns-clause-site c = (worked c.args.desk.now c.advance.ensures.calls.0 c.advance.new.service c.advance.ensures.calls.2).0

pub returns-clause-names : goal.returns-clause-names
returns-clause-names c = (worked c.args.desk.now c.advance.ensures.calls.0 c.advance.new.service c.advance.ensures.calls.2).1

pub returns-clause-same_reference : goal.returns-clause-same_reference
returns-clause-same_reference c = (worked c.args.desk.now c.advance.ensures.calls.0 c.advance.new.service c.advance.ensures.calls.2).2

pub returns-clause-answered : goal.returns-clause-answered
returns-clause-answered c = record {
  answers = (
    c.advance.ensures.calls.0,
    c.advance.ensures.calls.1,
    (worked c.args.desk.now c.advance.ensures.calls.0 c.advance.new.service c.advance.ensures.calls.2).3,
  );
  all = c.advance.ensures.rests;
  quiet = c.advance.ensures.quiet;
  limits = c.advance.ensures.config;
  rest = refl;
}
