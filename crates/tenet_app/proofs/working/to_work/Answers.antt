-- Fewer words than three, or more than four, ask for no workers.
use Rattle.std.proofs.Common.{map, string_bytes, arith}
use Rattle.std.proofs.lemmas.List.{length-map}
use Rattle.tenet_app.proofs.WorkerWords.{work-short, work-long}
use Rattle.tenet_app.proofs.working.to_work.Goals as goal

pub returns-in_default-clause-asked : goal.returns-in_default-clause-asked
returns-in_default-clause-asked c =
    work-short (map string_bytes c.args.words.now)
    (let same = length-map c.args.words.now string_bytes in let few = c.in_default.len_below in omega (arith, same, few))

pub returns-in_default-2-clause-asked : goal.returns-in_default-2-clause-asked
returns-in_default-2-clause-asked c =
    work-long (map string_bytes c.args.words.now)
    (let same = length-map c.args.words.now string_bytes in let many = c.in_default.len_at_least in omega (arith, same, many))
