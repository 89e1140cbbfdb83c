-- What one entry makes of the reservation of a channel, and which replies there are to the asks that send, close and arrive, said of
-- histories.
use Rattle.link_steps.specs.Replies.{reply_at, reply_to}
use Rattle.link_steps.specs.Scan.{clock_of, scan_of}
use Rattle.link_steps.proofs.LegalChannels.{legal-channels}
use Rattle.std.proofs.Common.{refl}
use Rattle.link_steps.specs.declared.asks.Ask.TheVariants.{Release}
use Rattle.channel_laws.specs.Laws.{EntriesChangeTheirReservation, AsksAreAnswered, PlannedPacketsMayMove}
use Rattle.channel_laws.proofs.ArriveReplies.{arrive-answered}
use Rattle.channel_laws.proofs.SendReplies.{submit-committed, release-committed, best-answered}
use Rattle.channel_laws.proofs.UnsentPlans.{unsent-left}
use Rattle.channel_laws.proofs.UnsentSubmits.{unplanned-submit}
use Rattle.channel_laws.proofs.FewLeft.{few-cancelled}
use Rattle.channel_laws.proofs.TermsAfter.{held-off, comes-mild, held-offered, held-relaxed, held-denied}

pub entries-change : EntriesChangeTheirReservation
unfolding scan_of
entries-change = record {
  others = λ shape h e chan may off opened. held-off shape chan (clock_of h) (scan_of shape h) e.ask e.reply off opened (legal-channels shape h may);
  mild = λ shape h e chan terms may mild held. comes-mild shape chan (clock_of h) (scan_of shape h) e.ask e.reply terms mild (legal-channels shape h may) held;
  offered = λ shape h chan contract kind delay up_reach first next level reach none. held-offered shape chan (clock_of h) (scan_of shape h) contract kind delay up_reach first next level reach none;
  relaxed = λ shape h chan level up_bound clock. held-relaxed shape chan (clock_of h) (scan_of shape h) level up_bound clock;
  denied = λ shape h chan may. held-denied shape chan (clock_of h) (scan_of shape h) (legal-channels shape h may);
}

pub asks-answered : AsksAreAnswered
unfolding reply_to reply_at
asks-answered = record {
  submits = λ link h chan terms count gap size held first phase. submit-committed (clock_of h) size chan (scan_of link.shape h).rows terms held first phase;
  releases = λ link h chan terms upstream held first phase. release-committed (clock_of h) upstream chan (scan_of link.shape h).rows terms held first phase;
  best = λ link h ask clock count gap size is. best-answered link h ask clock count gap size is;
  arrives = λ link h packet. arrive-answered link.shape (clock_of h) (scan_of link.shape h).packets packet _;
}

pub packets-may-move : PlannedPacketsMayMove
unfolding reply_to reply_at
packets-may-move = record {
  joins = λ link h chan terms count gap size held first phase none small. unplanned-submit (clock_of h) size chan (scan_of link.shape h).rows terms held first phase (λ row found. unsent-left link.shape chan h row none found) small;
  leaves = λ shape h chan upstream reply legal may. few-cancelled shape h (Release chan upstream) reply chan upstream legal refl may;
}
