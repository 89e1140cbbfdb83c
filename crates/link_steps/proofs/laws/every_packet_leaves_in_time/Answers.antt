use Rattle.link_steps.proofs.HopHolds.{hop-guarantee}
use Rattle.link_steps.proofs.laws.every_packet_leaves_in_time.Goals as goal

pub returns : goal.returns
returns c = hop-guarantee
