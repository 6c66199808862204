use Rattle.rgca_words.specs.Texts.{ending_text}
use Rattle.rgca_words.proofs.ending.Ending.put_text.Goals as goal

pub returns-in-Common : goal.returns-in-Common
unfolding ending_text
returns-in-Common c = rw (c.in-Common.is) c.put_text.ensures

pub returns-in-Moved : goal.returns-in-Moved
unfolding ending_text
returns-in-Moved c = rw (c.in-Moved.is) c.put_moved.ensures
