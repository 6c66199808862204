use Rattle.std.proofs.Common.{codes}
use Rattle.output_queues.specs.Written.{name_text}
use Rattle.output_queues.proofs.WrittenLemmas.{three_put}
use Rattle.output_queues.proofs.written.put_names.Goals as goal

pub returns : goal.returns
returns c =
    three_put c.args.out.now c.put_name.new.out c.put_name-2.new.out c.put_name-3.new.out
    (name_text c.args.written.output (codes "standard output")) (name_text c.args.written.error (codes "standard error"))
    (name_text c.args.written.capture c.args.capture.now) c.put_name.ensures c.put_name-2.ensures c.put_name-3.ensures
