use Rattle.std.proofs.Common.{◌+◌, ◌*◌, ◌/◌, ◌<◌, ◌≤◌, arith}
use Rattle.std.proofs.lemmas.Nat.{le-div}
use Rattle.std.proofs.Math.Nat.{add-mul, mul-le-mul_right, one-le-mul}
use Rattle.field_units.specs.Moments.{tick_of}
use Rattle.field_units.proofs.RoundedTicks.{ceil_quotient-under, whole_ticks-fit}
use Rattle.field_units.proofs.laws.a_promise_in_ticks_is_kept.Goals as goal

pub returns : goal.returns
returns c tick parts wanted moment arrival some any long arrives =
    let under : tick_of (tick * parts) moment * (tick * parts) < moment + tick * parts = ceil_quotient-under moment (tick * parts) (one-le-mul some any) in
    let fits : wanted / tick * (tick * parts) ≤ wanted * parts = whole_ticks-fit wanted tick parts in
    let whole : 1 ≤ wanted / tick = le-div 1 wanted tick some (omega (arith, long)) in
    let later : (arrival + 1) * (tick * parts) ≤ (tick_of (tick * parts) moment + wanted / tick) * (tick * parts) = mul-le-mul_right (tick * parts) (omega (arith, arrives, whole)) in
    omega (arith, under, fits, later, add-mul arrival 1 (tick * parts), add-mul (tick_of (tick * parts) moment) (wanted / tick) (tick * parts))
