-- What the replies of a run say of its packets. A packet that a tick reports as sent is one that has left the link: the link has
-- its start, and the tick reports the packet, its departure and its next link.
use Rattle.std.specs.Prelude.{◌≡◌, ℕ, ◌≤◌, Bool, Some, List}
use Rattle.std.specs.List.{slice_get}
use Rattle.net_units.specs.Numbers.{link_number}
use Rattle.link_steps.specs.declared.asks.Ask.TheVariants.{Tick}
use Rattle.link_steps.specs.declared.replies.Entry.{Entry}
use Rattle.link_steps.specs.declared.replies.Reply.TheVariants.{Ticked}
use Rattle.link_steps.specs.declared.replies.Sent.{Sent}
use Rattle.link_steps.specs.declared.shape.LinkShape.{LinkShape}
use Rattle.link_steps.specs.Replies.{sent_of}
use Rattle.link_steps.specs.Scan.{clock_of, starts_of}
use Rattle.link_steps.specs.Service.{Start, leaves_at}
use Rattle.link_steps.specs.Split.{Link}
use Rattle.link_steps.specs.Lists.{Among}
use Rattle.call_script.specs.Fits.{NetworkFits}
use Rattle.call_script.specs.Tasks.{Network}
use Rattle.run_record.specs.Runs.{part_of}
use Rattle.run_record.specs.declared.done.Done.{Done}
use Rattle.run_engine.specs.runs.Runs.{IsRun}

-- the start of a packet that was sent
pub record SentBy (shape : LinkShape) (h : List Entry) (sent : Sent) : Type 0 where
  pub start : Start
  pub among : Among start (starts_of shape h)
  pub left : leaves_at shape.rate start ≤ clock_of h
  pub is : sent ≡ sent_of shape start

-- each packet that the reply to a tick tells as sent has left its link
abbrev pub TicksReportWhatHasLeft : Type 0
TicksReportWhatHasLeft = (network : Network) (run : List Done) (done : Done) (link : Link) (clock full : ℕ) (sent : Sent) (best_sent best_lost : Bool) → NetworkFits network → IsRun network run → Among done run → slice_get network.links (link_number done.link) ≡ Some link → done.ask ≡ Tick → done.reply ≡ Ticked clock full (Some sent) best_sent best_lost → SentBy link.shape (part_of (link_number done.link) run) sent
