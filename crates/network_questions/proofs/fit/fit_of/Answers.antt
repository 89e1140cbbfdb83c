use Rattle.network_questions.proofs.fit.fit_of.Goals as goal

pub returns : goal.returns
returns c = record { room = c.in_ok-room.room; is = c.in_ok-room.ensures; shows = c.in_ok-shown.ensures }
