-- A race is made in pieces, each by a thread: a piece for each caller's script, and one for the plane's rounds beside the
-- callers. A piece has the pass of its actor. It may begin where the pass may step the links and has made no step, or the plane
-- stands before its first round. It has ended where the script is made to its end, or the plane has made these rounds. The
-- pass is then the same actor's, and may go on.
use Rattle.std.specs.Prelude.{◌≡◌, ℕ, suc, ◌<◌, Result, Ok, Err, IfOk, List, [], ◌∷◌, length, map}
use Rattle.atomic_table.specs.Seated.{TableId}
use Rattle.net_units.specs.Numbers.{actor_number}
use Rattle.net_units.specs.declared.numbers.ActorNo.{ActorNo}
use Rattle.net_units.specs.declared.OutOfMemory.{OutOfMemory}
use Rattle.link_steps.specs.Lists.{Each}
use Rattle.link_steps.specs.Split.{Link}
use Rattle.step_stamp.specs.Lists.{up_to}
use Rattle.link_ledger.specs.Tokens.{Token, stamps_drawn}
use Rattle.shared_network.specs.Gathering.{token_actor}
use Rattle.shared_network.specs.Ready.{IsNew, MayStep, PassGoesOn}
use Rattle.tick_plane.specs.PlaneAccount.{PlaneAccount}
use Rattle.call_script.specs.Parts.{PlanParts}
use Rattle.call_script.specs.Tasks.{network_of}
use Rattle.race_run.specs.Rounds.{PlaneIsAt}
use Rattle.race_run.specs.Whole.{HasMadeAll}
use Rattle.race_run.specs.declared.pieces.Piece.{Piece}
use Rattle.race_run.specs.declared.pieces.Piece.TheVariants.{Script, Rounds}

abbrev pub pass_of : Piece → Token
pass_of (Script pass) = pass
pass_of (Rounds plane pass) = pass

-- ---- the passes

-- the passes of a plan's actors, the callers and then the plane, which have made no step
pub record AreNew (table : TableId) (owners : List ActorNo) (links : List Link) (parts : PlanParts) (passes : List Token) : Type 0 where
  pub actors : map token_actor passes ≡ up_to (suc (length parts.callers))
  pub new : Each (IsNew table owners links (suc (length parts.callers))) passes

-- ---- one piece

-- a caller's pass that has made no step
pub record IsUnbegun (parts : PlanParts) (pass : Token) : Type 0 where
  pub caller : actor_number pass.actor < length parts.callers
  pub own : pass.own ≡ []
  pub drawn : stamps_drawn pass ≡ 0

-- the plane stands where this many of its rounds are made
pub record IsAtRound (parts : PlanParts) (round : ℕ) (plane : PlaneAccount) (pass : Token) : Type 0 where
  pub at : PlaneIsAt (network_of parts) plane pass
  pub round_is : plane.at.round ≡ round

abbrev pub Begins : PlanParts → Piece → Type 0
Begins parts (Script pass) = IsUnbegun parts pass
Begins parts (Rounds plane pass) = IsAtRound parts 0 plane pass

pub record MayBegin (table : TableId) (owners : List ActorNo) (links : List Link) (parts : PlanParts) (piece : Piece) : Type 0 where
  pub may_step : MayStep table owners links (pass_of piece)
  pub begins : Begins parts piece

-- a piece has come to its end as this one
abbrev pub Ends : PlanParts → Piece → Piece → Type 0
Ends parts (Script pass) (Script pass') = HasMadeAll (network_of parts) pass'
Ends parts (Script pass) (Rounds plane' pass') = ⊥
Ends parts (Rounds plane pass) (Script pass') = ⊥
Ends parts (Rounds plane pass) (Rounds plane' pass') = IsAtRound parts parts.rounds plane' pass'

pub record HasEnded (table : TableId) (owners : List ActorNo) (links : List Link) (parts : PlanParts) (piece piece' : Piece) : Type 0 where
  pub goes : PassGoesOn table owners links (pass_of piece) (pass_of piece')
  pub actor : (pass_of piece').actor ≡ (pass_of piece).actor
  pub ends : Ends parts piece piece'

-- unless memory ran out
abbrev pub IsMade : TableId → List ActorNo → List Link → PlanParts → Piece → Result Piece OutOfMemory → Type 0
IsMade table owners links parts piece result = IfOk result (HasEnded table owners links parts piece)

-- ---- all pieces

-- what a script came to, and what the plane's rounds did
abbrev pub IsOfScript : Result Piece OutOfMemory → Type 0
IsOfScript (Ok (Script pass)) = Unit {0}
IsOfScript (Ok (Rounds plane pass)) = ⊥
IsOfScript (Err wanted) = Unit {0}

abbrev pub IsOfRounds : Result Piece OutOfMemory → Type 0
IsOfRounds (Ok (Script pass)) = ⊥
IsOfRounds (Ok (Rounds plane pass)) = Unit {0}
IsOfRounds (Err wanted) = Unit {0}

-- the scripts stand before the plane's rounds
abbrev pub AreInOrder : List (Result Piece OutOfMemory) → Type 0
AreInOrder [] = ⊥
AreInOrder (made ∷ []) = IsOfRounds made
AreInOrder (made ∷ next ∷ rest) = IsOfScript made × AreInOrder (next ∷ rest)

-- P holds of each element of the one list and that of the other at its place, and the lists are equally long
abbrev pub Pairwise : {X Y : Type 0} → (X → Y → Type 0) → List X → List Y → Type 0
Pairwise P [] [] = Unit {0}
Pairwise P [] (y ∷ ys) = ⊥
Pairwise P (x ∷ xs) [] = ⊥
Pairwise P (x ∷ xs) (y ∷ ys) = P x y × Pairwise P xs ys
