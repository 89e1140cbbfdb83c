-- A network whose parts fit. It has 1 to 32 links, whose splits fit them. Its requests go over its links, each hop with the bounds
-- and the propagation of its link. It sends packets at its links, with numbers within their limits, and best-effort ones at links
-- that take them. What it moves, it moves between two requests with the same contract.
use Rattle.std.specs.Prelude.{◌≡◌, ◌≢◌, ℕ, ◌≤◌, Option, Some, List, length}
use Rattle.std.specs.List.{slice_get}
use Rattle.net_units.specs.Numbers.{link_number, channel_number}
use Rattle.net_units.specs.declared.numbers.ChanNo.{ChanNo}
use Rattle.net_units.specs.declared.numbers.LinkNo.{LinkNo}
use Rattle.link_steps.specs.Legal.{AskFits, SubmitFits}
use Rattle.link_steps.specs.Lists.{Each}
use Rattle.link_steps.specs.Split.{Link, SplitFits}
use Rattle.setup_protocol.specs.Hops.{RequestFits}
use Rattle.setup_protocol.specs.declared.request.Request.{Request}
use Rattle.call_script.specs.Scripts.{packets_ask}
use Rattle.call_script.specs.Tasks.{Network}
use Rattle.call_script.specs.declared.tasks.Task.{Task}
use Rattle.call_script.specs.declared.tasks.Task.TheVariants.{Opens, Sends, Closes, Moves}

-- the link is there, and the ask for packets meets its conditions
pub record SendFits (links : List Link) (at : LinkNo) (chan : Option ChanNo) (count gap size : ℕ) : Type 0 where
  pub link : Link
  pub linked : slice_get links (link_number at) ≡ Some link
  pub packets : AskFits link.shape (packets_ask chan count gap size)

-- a move between two requests with the same contract
pub record MoveFits (links : List Link) (old new : Request) (gap size : ℕ) : Type 0 where
  pub of_old : RequestFits links old
  pub of_new : RequestFits links new
  pub same : old.contract ≡ new.contract
  pub apart : channel_number old.chan ≢ channel_number new.chan
  pub packets : SubmitFits 1 gap size

abbrev pub TaskFits : List Link → Task → Type 0
TaskFits links (Opens request) = RequestFits links request
TaskFits links (Sends link chan count gap size) = SendFits links link chan count gap size
TaskFits links (Closes request) = RequestFits links request
TaskFits links (Moves old new gap size) = MoveFits links old new gap size

pub record NetworkFits (network : Network) : Type 0 where
  pub some : 1 ≤ length network.links
  pub few : length network.links ≤ 32
  pub splits : Each SplitFits network.links
  pub tasks : Each (Each (TaskFits network.links)) network.scripts
  pub rounds : network.rounds ≤ 1048576
