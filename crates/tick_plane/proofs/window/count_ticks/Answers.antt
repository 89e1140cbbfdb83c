-- So many ticks more, or none.
use Rattle.std.proofs.Common.{ap, ◌∙◌, ◌-◌, arith}
use Rattle.tick_plane.specs.AskedRuns.{asks_in}
use Rattle.tick_plane.proofs.AskedRuns.{no-ticks, ticks-more}
use Rattle.tick_plane.proofs.window.count_ticks.Goals as goal

pub returns-in_ok-push : goal.returns-in_ok-push
returns-in_ok-push c = ap asks_in c.in_ok-push.ensures.items ∙ ticks-more c.args.asked.now.items (c.args.until - c.args.from)

pub returns-else-from-until : goal.returns-else-from-until
returns-else-from-until c = no-ticks (asks_in c.args.asked.now.items) (c.args.until - c.args.from) (let over = c.if-from-until.false in omega (arith, over))
