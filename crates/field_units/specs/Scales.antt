-- A scale is the tick in which a scenario counts time, and the unit in which it counts sizes. A number of the field that has no
-- number in the scenario is refused with the tick or the unit with which it would have one.
use Rattle.std.specs.Prelude.{ℕ, ◌≤◌, ◌≡◌, Result, Ok, Err}
use Rattle.field_units.specs.declared.scale.Misfit.{Misfit}
use Rattle.field_units.specs.declared.scale.Misfit.TheVariants.{ShorterTick, LongerTick, LargerUnit, Never}

-- a number is one that a scenario can have
abbrev pub IsFrom : ℕ → ℕ → ℕ → Type 0
IsFrom least most n = (least ≤ n) × (n ≤ most)

-- what a refusal says of a number that is `number tick unit` at each scale: the tick, or the unit, with which it would do, or
-- that it doesn't with any tick and unit
abbrev pub Cures : Misfit → (ℕ → ℕ → ℕ) → ℕ → ℕ → ℕ → ℕ → Type 0
Cures (ShorterTick time) number least most tick unit = (1 ≤ time.picoseconds) × (time.picoseconds ≤ tick) × IsFrom least most (number time.picoseconds unit)
Cures (LongerTick time) number least most tick unit = (tick ≤ time.picoseconds) × IsFrom least most (number time.picoseconds unit)
Cures (LargerUnit size) number least most tick unit = (unit ≤ size.bits) × IsFrom least most (number tick size.bits)
Cures Never number least most tick unit = (t u : ℕ) → 1 ≤ t → 1 ≤ u → ¬ IsFrom least most (number t u)

-- an answer is the number at this scale where that is one of a scenario's, and else a refusal that says what would do
abbrev pub Scales : Result ℕ Misfit → (ℕ → ℕ → ℕ) → ℕ → ℕ → ℕ → ℕ → Type 0
Scales (Ok n) number least most tick unit = (n ≡ number tick unit) × IsFrom least most n
Scales (Err misfit) number least most tick unit = (¬ IsFrom least most (number tick unit)) × Cures misfit number least most tick unit
