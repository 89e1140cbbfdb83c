use Rattle.packet_answers.specs.Plays.{run_in}
use Rattle.packet_answers.proofs.rows.channel_rows.Goals as goal

pub returns : goal.returns
returns c = record { run = run_in c.in_ok-played.played; played = c.in_ok-played.ensures.played; tells = c.in_ok-told.ensures }
