use Rattle.rgwd_words.specs.Texts.{ending_text}
use Rattle.rgwd_words.proofs.ending.Ending.put_text.Goals as goal

pub returns-in-Common : goal.returns-in-Common
unfolding ending_text
returns-in-Common c = rw (c.in-Common.is) c.put_text.ensures

pub returns-in-BadAgents : goal.returns-in-BadAgents
unfolding ending_text
returns-in-BadAgents c = rw (c.in-BadAgents.is) c.put_pieces.ensures

pub returns-in-BadHosts : goal.returns-in-BadHosts
unfolding ending_text
returns-in-BadHosts c = rw (c.in-BadHosts.is) c.put_pieces-in-BadHosts.ensures

pub returns-in-BadSize : goal.returns-in-BadSize
unfolding ending_text
returns-in-BadSize c = rw (c.in-BadSize.is) c.put_around.ensures

pub returns-in-BadFiles : goal.returns-in-BadFiles
unfolding ending_text
returns-in-BadFiles c = rw (c.in-BadFiles.is) c.put_around-in-BadFiles.ensures

pub returns-in-AnyAddress : goal.returns-in-AnyAddress
unfolding ending_text
returns-in-AnyAddress c = rw (c.in-AnyAddress.is) c.put_pieces-in-AnyAddress.ensures

pub returns-in-NoTimeOfDay : goal.returns-in-NoTimeOfDay
unfolding ending_text
returns-in-NoTimeOfDay c = rw (c.in-NoTimeOfDay.is) c.put_pieces-in-NoTimeOfDay.ensures

pub returns-in-NoAnswer : goal.returns-in-NoAnswer
unfolding ending_text
returns-in-NoAnswer c = rw (c.in-NoAnswer.is) c.put_unanswered.ensures
