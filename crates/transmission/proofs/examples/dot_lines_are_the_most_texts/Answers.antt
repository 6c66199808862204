use Rattle.std.proofs.Common.{arith}
use Rattle.transmission.proofs.TextLaws.{length-dot_lines, texts-dot_lines, too_many-dot_lines}
use Rattle.transmission.proofs.examples.dot_lines_are_the_most_texts.Goals as goal

pub returns-clause-whole : goal.returns-clause-whole
returns-clause-whole c = length-dot_lines 2000

pub returns-clause-most : goal.returns-clause-most
returns-clause-most c = texts-dot_lines 2000 (omega arith)

pub returns-clause-longer : goal.returns-clause-longer
returns-clause-longer c = too_many-dot_lines 2001 (omega arith)
