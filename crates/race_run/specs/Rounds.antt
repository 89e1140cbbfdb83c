-- Where the plane stands between two of its rounds, with its pass. It has the links and the rounds of the network. All that the pass
-- has asked are arrives and ticks, which are the plane's, each after the replies before it, and the plane has taken the
-- replies. Nothing has been asked in the round that comes next: no packet has arrived in it, and no link has made its tick.
use Rattle.std.specs.Prelude.{◌≡◌, ℕ, ◌+◌, ◌<◌, ◌⊎◌, List, [], ◌∷◌, ◌++◌, length, map, reverse}
use Rattle.net_units.specs.Numbers.{actor_number}
use Rattle.tick_plane.specs.PlaneAccount.{PlaneAccount}
use Rattle.tick_plane.specs.Planes.{plane_of}
use Rattle.link_ledger.specs.Tokens.{Token}
use Rattle.link_ledger.specs.declared.entries.OwnEntry.{OwnEntry}
use Rattle.shared_network.specs.Calls.{reply_in}
use Rattle.shared_network.specs.Planes.{IsPlanes, rounds_in}
use Rattle.call_script.specs.Tasks.{Network}
use Rattle.run_engine.specs.runs.Runs.{plane_no}
use Rattle.run_engine.specs.runs.Turns.{plane_most}

-- the pass is the plane's, and has made the plane's steps so far and no others
pub record PlaneIsOn (network : Network) (plane : PlaneAccount) (pass : Token) : Type 0 where
  pub links : plane.links ≡ length network.links
  pub rounds : plane.rounds ≡ network.rounds
  pub planes : IsPlanes (length network.links) plane pass.own
  pub only : rounds_in pass.own ≡ pass.own
  pub is : actor_number pass.actor ≡ plane_no network

-- the round in which the plane of this many links asks next, after these entries of it
abbrev pub round_after : ℕ → List OwnEntry → ℕ
round_after links own = (plane_of links (reverse (map reply_in own))).round

-- each of these entries was asked in a round before this one
abbrev pub AreAskedBefore : ℕ → ℕ → List OwnEntry → Type 0
AreAskedBefore links round own = (before after : List OwnEntry) (e : OwnEntry) → own ≡ before ++ e ∷ after → round_after links before < round

-- it stands between two rounds
pub record PlaneIsAt (network : Network) (plane : PlaneAccount) (pass : Token) : Type 0 where
  pub on : PlaneIsOn network plane pass
  pub between : plane.at.ticked ≡ 0
  pub early : AreAskedBefore (length network.links) plane.at.round pass.own

-- ---- a step

-- the pass has made one step more
pub record AddsOne (pass pass' : Token) : Type 0 where
  pub entry : OwnEntry
  pub own : pass'.own ≡ pass.own ++ entry ∷ []

-- the plane has taken the reply to one more ask: it is in the same round, or has ended it, and the greatest number of steps that it
-- may have left falls
pub record IsStepped (plane plane' : PlaneAccount) : Type 0 where
  pub round : (plane'.at.round ≡ plane.at.round) ⊎ ((plane'.at.round ≡ plane.at.round + 1) × (plane'.at.ticked ≡ 0))
  pub fewer : plane_most plane'.links plane'.rounds plane'.at < plane_most plane.links plane.rounds plane.at
