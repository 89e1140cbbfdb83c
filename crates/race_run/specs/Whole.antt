-- When the journals and the passes of a closed network are whole for the network of a plan. The journals are those of its links,
-- in their order. Each is legal, its stamps rise, and no stamp stands twice in all of them. The passes are those of the actors,
-- in their order: the callers and then the plane. Each entry of each journal is, at its place, the own entry of exactly one
-- pass and has that pass's actor, and each own entry stands so in its journal. The own entries of each pass, which are in order
-- of stamp, are what its actor asks, each after the replies before it, and after all of them it has no ask left.
--
-- The weave of journals is all their entries in order of stamp, each with its journal's link.
use Rattle.std.specs.Prelude.{◌≡◌, suc, None, List, map, reverse}
use Rattle.net_units.specs.Numbers.{actor_number}
use Rattle.net_units.specs.declared.numbers.ActorNo.{ActorNo}
use Rattle.net_units.specs.declared.numbers.LinkNo.{LinkNo}
use Rattle.link_steps.specs.Lists.{Each}
use Rattle.step_stamp.specs.Lists.{up_to}
use Rattle.link_ledger.specs.Tokens.{Token}
use Rattle.link_ledger.specs.declared.entries.Entry.{Entry}
use Rattle.link_ledger.specs.declared.entries.Journal.{Journal}
use Rattle.link_ledger.specs.declared.entries.OwnEntry.{OwnEntry}
use Rattle.shared_network.specs.Calls.{reply_in}
use Rattle.shared_network.specs.Closing.{IsClosed}
use Rattle.shared_network.specs.Gathering.{token_actor}
use Rattle.call_script.specs.Tasks.{Network}
use Rattle.run_record.specs.declared.done.Done.{Done}
use Rattle.run_engine.specs.runs.Parts.{IsAsked, next_after}
use Rattle.run_engine.specs.runs.Runs.{plane_no}
use Rattle.run_engine.specs.runs.Weave.{Stamped, run_of}

-- ---- the passes

-- an own entry as an entry of a run
abbrev pub own_done : ActorNo → OwnEntry → Done
own_done actor e = record { actor = actor; link = e.link; ask = e.ask; reply = e.reply }

-- the own entries are what the actor asks, and then it has no ask left
pub record HasMadeAll (network : Network) (pass : Token) : Type 0 where
  pub asked : IsAsked network (actor_number pass.actor) (reverse (map (own_done pass.actor) pass.own))
  pub over : next_after network (actor_number pass.actor) (reverse (map reply_in pass.own)) ≡ None

-- ---- whole

pub record IsWhole (network : Network) (passes : List Token) (journals : List Journal) : Type 0 where
  pub closed : IsClosed network.links passes journals
  pub actors : map token_actor passes ≡ up_to (suc (plane_no network))
  pub made_all : Each (HasMadeAll network) passes

-- ---- the weave

-- an entry of the journal of a link as an entry of a run, with its stamp
abbrev pub stamped_on : LinkNo → Entry → Stamped
stamped_on link e = record { stamp = e.stamp; done = record { actor = e.actor; link = link; ask = e.ask; reply = e.reply } }

-- the entries of a journal, newest first
abbrev pub stamped_in : Journal → List Stamped
stamped_in journal = reverse (map (stamped_on journal.link) journal.entries)

-- all entries of all journals in order of stamp, newest first
abbrev pub weave_of : List Journal → List Done
weave_of journals = run_of (map stamped_in journals)
