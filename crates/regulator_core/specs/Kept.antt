-- A regulator keeps the contract and the kind of control of its channel, and the newest of the eligible ticks that it
-- has answered, as many as the contract's burst. No older tick can hold a packet back, so the regulator stands for
-- every list of ticks that keeps the contract and has these as its newest ones: its next answer is the eligible tick
-- after each of them, and so after the whole list that it has answered. Under rate-jitter control a packet may go from
-- its arrival on, under delay-jitter control no earlier than it is due (Zhang & Ferrari 1993).
use Rattle.std.specs.Prelude.{◌≡◌, ℕ, ◌+◌, List, [], ◌∷◌, reverse}
use Rattle.net_units.specs.declared.Kind.{Kind}
use Rattle.traffic_contract.specs.Eligible.{newest_burst}
use Rattle.traffic_contract.specs.Contract.{Traffic}
use Rattle.traffic_contract.specs.Keeping.{Keeps}

-- the contract and kind of a regulator, and the newest of the eligible ticks that it has answered, newest first
pub record KeptTicks : Type 0 where
  pub contract : Traffic
  pub kind : Kind
  pub recent : List ℕ

abbrev pub kept_ticks : Traffic → Kind → List ℕ → KeptTicks
kept_ticks contract kind recent = record { contract = contract; kind = kind; recent = recent }

-- what is kept after one more eligible tick e
abbrev pub regulator_with : KeptTicks → ℕ → KeptTicks
regulator_with kept e = kept_ticks kept.contract kept.kind (newest_burst kept.contract (e ∷ kept.recent))

-- the first tick that is at least `least` ticks after the newest of these, or 0 where there is none
abbrev pub first_after : ℕ → List ℕ → ℕ
first_after least [] = 0
first_after least (t ∷ past) = t + least

-- the regulator stands for the eligible ticks `past`, newest first: they keep the contract in order of time, and
-- the newest of them are the kept ones
pub record RegulatorStandsFor (kept : KeptTicks) (past : List ℕ) : Type 0 where
  pub keeps : Keeps kept.contract (reverse past)
  pub latest : newest_burst kept.contract past ≡ kept.recent
