-- The plane's last rounds follow once all callers have ended. Each entry of the plane that is asked in one of these rounds, be it an
-- arrival or a tick, has a stamp above all stamps of the callers. So from there on, in order of stamp, no caller makes a step any more.
use Rattle.std.specs.Prelude.{◌≡◌, ℕ, ◌<◌, ◌≤◌, List, [], ◌∷◌, ◌++◌, length}
use Rattle.link_steps.specs.Lists.{Each}
use Rattle.link_ledger.specs.Tokens.{Token}
use Rattle.link_ledger.specs.declared.entries.OwnEntry.{OwnEntry}
use Rattle.call_script.specs.Parts.{PlanParts}
use Rattle.race_run.specs.Rounds.{round_after}

abbrev pub own_in : Token → List OwnEntry
own_in pass = pass.own

-- no stamp is above this number
abbrev pub AreUpTo : ℕ → List OwnEntry → Type 0
AreUpTo most own = Each (λ (e : OwnEntry). e.stamp ≤ most) own

-- the entry has a stamp above all of these
abbrev pub IsAboveAll : List (List OwnEntry) → OwnEntry → Type 0
IsAboveAll callers e = Each (Each (λ (o : OwnEntry). o.stamp < e.stamp)) callers

-- the plane has its own entries and then some that come after all of the callers
pub record GoesLast (callers : List (List OwnEntry)) (pass pass' : Token) : Type 0 where
  pub last : List OwnEntry
  pub own : pass'.own ≡ pass.own ++ last
  pub above : Each (IsAboveAll callers) last

-- the own entries of the callers and of the plane, in this order: each of the plane that is asked in round `rounds` or later comes
-- after all of the callers
pub record TailIsLast (parts : PlanParts) (own : List (List OwnEntry)) : Type 0 where
  pub callers : List (List OwnEntry)
  pub plane : List OwnEntry
  pub are : own ≡ callers ++ plane ∷ []
  pub above : (before after : List OwnEntry) (e : OwnEntry) → plane ≡ before ++ e ∷ after → parts.rounds ≤ round_after (length parts.links) before → IsAboveAll callers e
