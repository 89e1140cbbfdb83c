-- A regulator holds a packet until it is eligible. Its eligible tick is the least tick that isn't below the
-- one from which it could go, `low`, and with which the eligible ticks of the channel's packets so far still
-- keep the contract. `low` is the tick at which the packet arrived, or under delay-jitter control the later
-- tick at which it is due (rate-jitter and delay-jitter regulators: Zhang & Ferrari 1993; the exact tick is
-- this project's).
use Rattle.std.specs.Prelude.{ℕ, zero, suc, ◌+◌, ◌-◌, ◌≤◌, Bool, if◌then◌else◌, List, [], ◌∷◌, ◌++◌, max, take}
use Rattle.net_units.specs.declared.Kind.{Kind}
use Rattle.net_units.specs.declared.Kind.TheVariants.{Rate, Jitter}
use Rattle.traffic_contract.specs.Contract.{Traffic, burst_of}
use Rattle.traffic_contract.specs.Keeping.{Keeps, may_follow}

-- e is the least tick from `low` on of which P holds
pub record IsLeastFrom (low : ℕ) (P : ℕ → Type 0) (e : ℕ) : Type 0 where
  pub reached : low ≤ e
  pub holds : P e
  pub least : (t : ℕ) → low ≤ t → P t → e ≤ t

-- e is the eligible tick of a packet that may go from `low` on, after the eligible ticks `past`, in order of time
abbrev pub IsEligible : Traffic → List ℕ → ℕ → ℕ → Type 0
IsEligible c past low e = IsLeastFrom low (λ t. Keeps c (past ++ t ∷ [])) e

-- the first of `count` ticks from `low` on that passes the test, or the one after them
unfoldable pub first_from : (ℕ → Bool) → ℕ → ℕ → ℕ
first_from test low zero = low
first_from test low (suc count) = if test low then low else first_from test (low + 1) count

-- the newest of these ticks, newest first, or 0
abbrev pub newest : List ℕ → ℕ
newest [] = 0
newest (t ∷ past) = t

-- the eligible tick after the eligible ticks `past`, newest first: the first tick from `low` on that may follow
-- them. It comes at most an interval after the newest
unfoldable pub eligible : Traffic → List ℕ → ℕ → ℕ
eligible c past low = first_from (may_follow c past) low (newest past + c.interval - low)

-- the tick from which a packet may go that arrives at `at` and is due at `due`: under delay-jitter control it waits until
-- it is due
abbrev pub earliest_tick : Kind → ℕ → ℕ → ℕ
earliest_tick Rate at due = at
earliest_tick Jitter at due = max at due

-- the newest of these ticks, newest first, as many as a burst: no older one holds a packet back
abbrev pub newest_burst : Traffic → List ℕ → List ℕ
newest_burst contract ticks = take (burst_of contract) ticks
