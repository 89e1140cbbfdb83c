-- Worked values, found by computing with the definitions, for a contract of a packet every 5 ticks and two in any 20,
-- of up to 2 units: what a regulator answers and keeps.
use Rattle.std.proofs.Common.{◌≡◌, ℕ, [], ◌∷◌, refl}
use Rattle.net_units.specs.declared.Kind.TheVariants.{Rate, Jitter}
use Rattle.traffic_contract.specs.Contract.{Traffic, terms_of}
use Rattle.traffic_contract.specs.Keeping.{may_follow, keeps_newest_first}
use Rattle.traffic_contract.specs.Eligible.{first_from, eligible, earliest_tick}
use Rattle.regulator_core.specs.Kept.{KeptTicks, kept_ticks, regulator_with}
use Rattle.regulator_core.specs.Shifted.{shifted_by}

abbrev paced : Traffic
paced = terms_of 5 10 20 2

-- the answer to a packet that arrives at `at` and is due at `due`
abbrev answer : KeptTicks → ℕ → ℕ → ℕ
answer kept at due = eligible kept.contract kept.recent (earliest_tick kept.kind at due)

-- ---- rate-jitter control: packets that arrive at 0, 2, 4 and 50

first-is-eligible-at-0 : answer (kept_ticks paced Rate []) 0 0 ≡ 0
unfolding eligible first_from may_follow
first-is-eligible-at-0 = refl

second-waits-for-least-gap : answer (kept_ticks paced Rate (0 ∷ [])) 2 0 ≡ 5
unfolding eligible first_from may_follow
second-waits-for-least-gap = refl

third-waits-for-interval : answer (kept_ticks paced Rate (5 ∷ 0 ∷ [])) 4 0 ≡ 20
unfolding eligible first_from may_follow
third-waits-for-interval = refl

third-puts-the-first-out : regulator_with (kept_ticks paced Rate (5 ∷ 0 ∷ [])) 20 ≡ kept_ticks paced Rate (20 ∷ 5 ∷ [])
third-puts-the-first-out = refl

fourth-needs-no-wait : answer (kept_ticks paced Rate (20 ∷ 5 ∷ [])) 50 0 ≡ 50
unfolding eligible first_from may_follow
fourth-needs-no-wait = refl

-- a tick at which it is due doesn't count there
due-tick-does-not-count : answer (kept_ticks paced Rate []) 4 22 ≡ 4
unfolding eligible first_from may_follow
due-tick-does-not-count = refl

-- ---- delay-jitter control

early-packet-waits-until-due : answer (kept_ticks paced Jitter []) 4 22 ≡ 22
unfolding eligible first_from may_follow
early-packet-waits-until-due = refl

-- ---- ticks that are put off by 7 keep the contract as they did

shifted-ticks : shifted_by 7 (20 ∷ 5 ∷ 0 ∷ []) ≡ 27 ∷ 12 ∷ 7 ∷ []
shifted-ticks = refl

shifted-ticks-keep : keeps_newest_first paced (27 ∷ 12 ∷ 7 ∷ []) ≡ keeps_newest_first paced (20 ∷ 5 ∷ 0 ∷ [])
unfolding keeps_newest_first may_follow
shifted-ticks-keep = refl
