-- Every ask of a run goes to a link of the network: what an actor asks next is asked of a link that is there.
use Rattle.std.specs.Prelude.{◌≡◌, ℕ, Some, List}
use Rattle.std.specs.List.{slice_get}
use Rattle.net_units.specs.Numbers.{link_number}
use Rattle.net_units.specs.declared.numbers.LinkNo.{LinkNo}
use Rattle.link_steps.specs.declared.asks.Ask.{Ask}
use Rattle.link_steps.specs.Split.{Link}
use Rattle.call_script.specs.Fits.{NetworkFits}
use Rattle.call_script.specs.Tasks.{Network}
use Rattle.run_engine.specs.runs.Runs.{next_for, IsRun}
use Rattle.run_record.specs.declared.done.Done.{Done}

-- the link of this number is there
pub record IsLinkThere (links : List Link) (to : LinkNo) : Type 0 where
  pub link : Link
  pub found : slice_get links (link_number to) ≡ Some link

abbrev pub EveryAskGoesToALink : Type 0
EveryAskGoesToALink = (network : Network) (past : List Done) (actor : ℕ) (to : LinkNo) (ask : Ask) → NetworkFits network → IsRun network past → next_for network actor past ≡ Some (to, ask) → IsLinkThere network.links to
