-- The sum begins with the part of the one more.
use Rattle.std.proofs.Common.{◌≡◌, ℕ, ◌+◌, ◌∙◌, ◌∷◌, ◌++◌, [], ap, arith}
use Rattle.std.specs.Prelude.{nat_le}
use Rattle.net_units.specs.Numbers.{level_number}
use Rattle.traffic_contract.specs.Admission.{total}
use Rattle.traffic_contract.proofs.AdmissionTest.{total-push}
use Rattle.link_steps.specs.Shape.{blocking_of}
use Rattle.link_steps.specs.Split.{level_part}
use Rattle.call_script.proofs.rules.quotas.level_fits_with.Goals as goal

pub returns : goal.returns
returns c =
    let quotas = c.args.quotas.now ++ c.args.more.now ∷ [] in
    let m = level_number c.args.level in
    let push = total-push (level_part (level_number c.args.level)) c.args.quotas.now c.args.more.now in
    let sum : c.from.result + c.from-2.result + total (level_part (level_number c.args.level)) c.args.quotas.now ≡ blocking_of c.args.shape.now + total (level_part (level_number c.args.level)) quotas =
    omega (arith, push, c.from.ensures, c.blocking.ensures.value, c.from-2.ensures, c.load_at.ensures) in
    c.loads_fit.ensures ∙ ap (λ (n : ℕ). nat_le n c.at.result) sum ∙ ap (nat_le (blocking_of c.args.shape.now + total (level_part m) quotas)) c.at.ensures.value
