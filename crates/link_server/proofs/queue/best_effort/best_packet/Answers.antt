-- It names channel 0, and its level is below all levels.
use Rattle.std.proofs.Common.{◌≡◌, Option, Some, subst, arith}
use Rattle.link_server.proofs.Words.{IfSome, channel_number, ChanNo}
use Rattle.link_server.proofs.Replies.Pour.{best-made}
use Rattle.link_server.proofs.queue.best_effort.best_packet.Goals as goal

some-is : (found : Option ChanNo) (chan : ChanNo) → IfSome found (λ c. channel_number c ≡ 0) → found ≡ Some chan → channel_number chan ≡ 0
some-is found chan value is = subst (λ o. IfSome o (λ c. channel_number c ≡ 0)) is value

pub returns : goal.returns
returns c = best-made c.args.bounds.now c.args.place c.args.size c.args.clock _ _ (some-is c.new.result c.unwrap-chan.result c.new.ensures.value c.unwrap-chan.ensures) (omega (arith, c.len.ensures))
