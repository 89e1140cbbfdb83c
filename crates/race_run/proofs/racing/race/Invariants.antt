use Rattle.step_stamp.specs.Seats.{stamps_table}
use Rattle.call_script.specs.Tasks.{network_of}
use Rattle.race_run.proofs.racing.race.Given as goal

abbrev pub ghosts-race_over : goal.ghosts-race_over
ghosts-race_over g a = record { table = stamps_table a.opened.0; owners = a.owners.items; links = (network_of a.plan.now).links }
