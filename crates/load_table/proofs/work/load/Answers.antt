use Rattle.net_units.specs.Numbers.{level_number}
use Rattle.load_table.proofs.WorkOfRows.{load-sum}
use Rattle.load_table.proofs.work.load.Goals as goal

pub returns : goal.returns
returns c = load-sum c.args.link.now c.args.rows.now (level_number c.args.level) c.args.window c.from.result c.work_up_to.result c.from.ensures c.work_up_to.ensures.value
