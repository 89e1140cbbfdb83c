-- A step that tells nothing but that it was made: the link's clock and its counts stay, nothing is said of a source or of an offer, and
-- no packet departs. Arrivals are such steps, and they are about half of those in which something happens.
use Rattle.std.specs.Prelude.{◌≡◌, ℕ, None, List, []}
use Rattle.net_units.specs.declared.numbers.LinkNo.{LinkNo}
use Rattle.link_steps.specs.Scan.{clock_with}
use Rattle.link_steps.specs.declared.asks.Ask.{Ask}
use Rattle.link_steps.specs.declared.replies.Reply.{Reply}
use Rattle.run_record.specs.Rows.{offer_by, rows_by}
use Rattle.run_record.specs.declared.done.Done.{Done}
use Rattle.channel_report.specs.Links.{best_lost_by, best_sent_by, dropped_by, pours_refused_by, sent_by}
use Rattle.channel_report.specs.Sources.{act_of}
use Rattle.channel_report.specs.declared.source_act.Act.TheVariants.{Nothing}

pub record TellsNothing (ask : Ask) (reply : Reply) : Type 0 where
  pub clock : (t : ℕ) → clock_with ask t ≡ t
  pub sent : sent_by reply ≡ 0
  pub dropped : dropped_by reply ≡ 0
  pub best_sent : best_sent_by reply ≡ 0
  pub best_lost : best_lost_by reply ≡ 0
  pub pours : pours_refused_by ask reply ≡ 0
  pub source : act_of ask reply ≡ Nothing
  pub offer : offer_by ask reply ≡ None
  pub rows : (run : List Done) (link : LinkNo) → rows_by run link reply ≡ []
