use Rattle.packet_answers.specs.Plays.{run_in}
use Rattle.packet_questions.proofs.JudgedTables.{audit-of}
use Rattle.packet_questions.proofs.audit.audit_of.Goals as goal

pub returns : goal.returns
returns c = audit-of c.args.network.now.plan c.args.network.now.schedule (run_in c.in_ok-played.played) c.in_ok-promises.promises.list.items c.in_ok-audit.audit c.in_ok-played.ensures.played c.in_ok-promises.ensures c.in_ok-audit.ensures
