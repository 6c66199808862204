use Rattle.log_format.specs.Notes.{note_text}
use Rattle.log_format.proofs.DraftLemmas.{put_two, put_three}
use Rattle.log_format.proofs.note.put_note_text.Goals as goal

pub returns-in-AnsweredAgain : goal.returns-in-AnsweredAgain
unfolding note_text
returns-in-AnsweredAgain c = rw (c.in-AnsweredAgain.is) c.put_repeat.ensures

pub returns-in-Unanswered : goal.returns-in-Unanswered
unfolding note_text
returns-in-Unanswered c = rw (c.in-Unanswered.is) c.put_repeat-in-Unanswered.ensures

pub returns-in-SentAgain : goal.returns-in-SentAgain
unfolding note_text
returns-in-SentAgain c = rw (c.in-SentAgain.is) c.put_repeat-in-SentAgain.ensures

pub returns-in-Refused : goal.returns-in-Refused
unfolding note_text
returns-in-Refused c = rw (c.in-Refused.is) c.put_refusal.ensures

pub returns-in-Unreadable : goal.returns-in-Unreadable
unfolding note_text
returns-in-Unreadable c = rw (c.in-Unreadable.is) c.put.ensures

pub returns-in-TooLong : goal.returns-in-TooLong
unfolding note_text
returns-in-TooLong c = rw (c.in-TooLong.is) c.put_around.ensures

pub returns-in-Unsent : goal.returns-in-Unsent
unfolding note_text
returns-in-Unsent c = rw (c.in-Unsent.is) c.put-in-Unsent.ensures

pub returns-in-Lost : goal.returns-in-Lost
unfolding note_text
returns-in-Lost c = rw (c.in-Lost.is) c.put-in-Lost.ensures

pub returns-in-Late : goal.returns-in-Late
unfolding note_text
returns-in-Late c = rw (c.in-Late.is) c.put_around-in-Late.ensures

pub returns-in-Copied : goal.returns-in-Copied
unfolding note_text
returns-in-Copied c =
    rw (c.in-Copied.is) (put_three _ _ _ _ _ _ _ c.put_around-in-Copied.ensures c.put_decimal.ensures c.put-in-Copied.ensures)

pub returns-in-OutOfMemory : goal.returns-in-OutOfMemory
unfolding note_text
returns-in-OutOfMemory c = rw (c.in-OutOfMemory.is) c.put-in-OutOfMemory.ensures

pub returns-in-Stranger : goal.returns-in-Stranger
unfolding note_text
returns-in-Stranger c = rw (c.in-Stranger.is) (put_two _ _ _ _ _ c.put-in-Stranger.ensures c.put_untold.ensures)

pub returns-in-Unheard : goal.returns-in-Unheard
unfolding note_text
returns-in-Unheard c = rw (c.in-Unheard.is) (put_two _ _ _ _ _ c.put-in-Unheard.ensures c.put_host.ensures)

pub returns-in-NoRoom : goal.returns-in-NoRoom
unfolding note_text
returns-in-NoRoom c =
    rw (c.in-NoRoom.is) (put_three _ _ _ _ _ _ _ c.put-in-NoRoom.ensures c.write_number.ensures c.put-in-NoRoom-2.ensures)
