use Rattle.std.proofs.Common.{drop, sym}
use Rattle.std.proofs.lemmas.List.{take-append-drop}
use Rattle.race_run.proofs.weaving.front_to.Goals as goal

pub returns-clause-front : goal.returns-clause-front
returns-clause-front c = (drop c.min-count.result c.args.order.now, sym (take-append-drop c.min-count.result c.args.order.now))
