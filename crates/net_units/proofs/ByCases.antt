-- Facts by cases: what holds anyway holds where a call has ended in an error, and no test both holds and fails.
use Rattle.std.proofs.Common.{◌≡◌, Bool, true, false, Result, Ok, Err, OnErr, sym, ◌∙◌}

pub on-err : {X E : Type 0} {P : Type 0} (result : Result X E) → P → OnErr result P
on-err (Ok x) holds = tt
on-err (Err e) holds = holds

pub no-both : (b : Bool) → b ≡ true → b ≡ false → ⊥
no-both b holds fails = (let same : true ≡ false = sym holds ∙ fails in cc)
