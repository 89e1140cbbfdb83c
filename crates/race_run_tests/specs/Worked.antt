-- Words for the plans that are worked by hand: their links have the levels 10, 20 and 40 and a propagation of 2 and no quotas, and
-- the request of each number is opened by the caller of that number, which opens no other.
use Rattle.std.specs.Prelude.{◌≡◌, ℕ, suc, List, [], ◌∷◌}
use Rattle.net_units.specs.Numbers.{link_number, actor_number, channel_number}
use Rattle.hop_reservation.specs.declared.route.Hop.{Hop}
use Rattle.link_steps.specs.Lists.{Each}
use Rattle.call_script.specs.Parts.{openings_in}
use Rattle.call_script.specs.declared.entries.LinkEntry.{LinkEntry}
use Rattle.call_script.specs.declared.entries.RequestEntry.{RequestEntry}
use Rattle.call_script.specs.declared.entries.CallerEntry.{CallerEntry}

-- P holds of each element and its number, the first of which has the number n
abbrev pub EachWithNumber : {X : Type 0} → (ℕ → X → Type 0) → ℕ → List X → Type 0
EachWithNumber P n [] = Unit {0}
EachWithNumber P n (x ∷ xs) = P n x × EachWithNumber P (suc n) xs

pub record IsWorkedHop (hop : Hop) : Type 0 where
  pub bounds : hop.bounds ≡ 10 ∷ 20 ∷ 40 ∷ []
  pub prop : hop.prop ≡ 2

pub record IsWorkedLink (n : ℕ) (entry : LinkEntry) : Type 0 where
  pub number : link_number entry.shape.link ≡ n
  pub bounds : entry.shape.bounds ≡ 10 ∷ 20 ∷ 40 ∷ []
  pub prop : entry.shape.prop ≡ 2
  pub unsplit : entry.quotas ≡ []

pub record IsWorkedRequest (n : ℕ) (entry : RequestEntry) : Type 0 where
  pub caller : actor_number entry.caller ≡ n
  pub chan : channel_number entry.request.chan ≡ n
  pub hops : Each IsWorkedHop entry.request.route

-- the caller opens its channel alone
pub record IsWorkedCaller (n : ℕ) (entry : CallerEntry) : Type 0 where
  pub opens : openings_in n entry.ops ≡ record { caller = n; chan = n } ∷ []

-- ---- a plan with a move

-- the one caller opens the request
pub record IsMovedRequest (n : ℕ) (entry : RequestEntry) : Type 0 where
  pub caller : actor_number entry.caller ≡ 0
  pub chan : channel_number entry.request.chan ≡ n
  pub hops : Each IsWorkedHop entry.request.route

-- it opens two channels
pub record IsMover (entry : CallerEntry) : Type 0 where
  pub opens : openings_in 0 entry.ops ≡ record { caller = 0; chan = 0 } ∷ record { caller = 0; chan = 1 } ∷ []

-- it is the one caller
abbrev pub AreMovers : List CallerEntry → Type 0
AreMovers [] = ⊥
AreMovers (caller ∷ []) = IsMover caller
AreMovers (caller ∷ next ∷ callers) = ⊥
