use Rattle.std.proofs.Common.{subst, arith}
use Rattle.step_stamp.specs.Lists.{Has}
use Rattle.step_stamp.proofs.OpeningSteps.{opens-link}
use Rattle.step_stamp.proofs.stamps.Stamps.link_seat.Goals as goal

pub split_seat-requires : goal.split_seat-requires
split_seat-requires g c = (c.requires.table, omega (arith, c.args.self.now.words), opens-link _ _ g.C.Chosen.number _ (subst (λ n. Has n c.args.first.now.me.0.links) c.requires.chosen c.requires.mine))
