use Rattle.std.proofs.Common.{◌++◌, length, drop, replicate, ap, ◌∙◌}
use Rattle.hop_reservation.proofs.DistinctLinks.{filled-is}
use Rattle.hop_reservation.proofs.route.with_first.Goals as goal

pub returns : goal.returns
returns c = ap (λ front. front ++ drop (length c.args.hops.now) (replicate 16 c.args.first)) c.copy_from_slice.ensures.after ∙ filled-is c.args.first c.args.hops.now c.requires.first
