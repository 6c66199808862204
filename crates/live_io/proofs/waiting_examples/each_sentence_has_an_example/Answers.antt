use Rattle.live_io.proofs.waiting_examples.each_sentence_has_an_example.Goals as goal

pub returns-clause-room : goal.returns-clause-room
returns-clause-room c = λ before after was is taken heard none. (heard.looks none).2
