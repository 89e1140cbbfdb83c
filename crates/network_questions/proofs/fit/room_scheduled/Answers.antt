use Rattle.network_questions.proofs.fit.room_scheduled.Goals as goal

pub returns : goal.returns
returns c = record {
  run = c.in_ok-played.played;
  is_run = record { written = c.requires.written; stands = c.in_ok-played.ensures.run; played = c.in_ok-played.ensures.played };
  front = c.in_ok-front.front.items;
  until = c.in_ok-front.ensures;
  room_is = c.in_ok-room.ensures;
}
