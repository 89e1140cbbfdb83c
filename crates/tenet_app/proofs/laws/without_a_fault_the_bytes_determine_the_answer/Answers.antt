use Rattle.tenet_app.proofs.AuditDue.{audits-determine}
use Rattle.tenet_app.proofs.LoadDue.{loads-determine}
use Rattle.tenet_app.proofs.PlayDue.{bytes-determine}
use Rattle.tenet_app.proofs.RaceLaws.{races-are-due}
use Rattle.tenet_app.proofs.laws.without_a_fault_the_bytes_determine_the_answer.Goals as goal

pub returns : goal.returns
returns c = record { plays = bytes-determine; races = races-are-due; makes = loads-determine; audits = audits-determine }
