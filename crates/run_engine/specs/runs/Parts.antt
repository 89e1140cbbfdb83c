-- The parts of a list of entries: what each actor asked, by its own replies.
use Rattle.std.specs.Prelude.{◌≡◌, ℕ, nat_eq, if◌then◌else◌, Option, Some, List, [], ◌∷◌, length, map, filter}
use Rattle.std.specs.List.{slice_get}
use Rattle.net_units.specs.Numbers.{link_number}
use Rattle.net_units.specs.declared.numbers.LinkNo.{LinkNo}
use Rattle.link_steps.specs.declared.asks.Ask.{Ask}
use Rattle.link_steps.specs.declared.replies.Reply.{Reply}
use Rattle.link_steps.specs.Split.{Link}
use Rattle.call_script.specs.Scripts.{script_ask}
use Rattle.call_script.specs.Tasks.{Network}
use Rattle.tick_plane.specs.Planes.{plane_of, plane_ask}
use Rattle.run_record.specs.Runs.{is_by}
use Rattle.run_record.specs.declared.done.Done.{Done}
use Rattle.run_engine.specs.runs.Runs.{plane_no}

abbrev pub reply_of : Done → Reply
reply_of done = done.reply

-- what an actor asks next after its own replies
abbrev pub next_after : Network → ℕ → List Reply → Option (LinkNo × Ask)
next_after network actor replies = if nat_eq actor (plane_no network) then plane_ask network.rounds (plane_of (length network.links) replies) else script_ask (slice_get network.scripts actor) replies

-- the entries, all of one actor and newest first, are asked by its rules
abbrev pub IsAsked : Network → ℕ → List Done → Type 0
IsAsked network actor [] = Unit {0}
IsAsked network actor (done ∷ before) = IsAsked network actor before × (next_after network actor (map reply_of before) ≡ Some (done.link, done.ask))

-- the entries of the actor of this number
abbrev pub own_of : ℕ → List Done → List Done
own_of actor run = filter (is_by actor) run

-- the entry is on a link of the network
pub record IsLinked (network : Network) (done : Done) : Type 0 where
  pub link : Link
  pub linked : slice_get network.links (link_number done.link) ≡ Some link
