use Rattle.std.proofs.Common.{◌≡◌, length, sym, ap, ◌∙◌, arith}
use Rattle.std.proofs.lemmas.Bool.{eqb-true}
use Rattle.net_units.proofs.KnownByNumber.{same-actor}
use Rattle.net_units.specs.Numbers.{actor_number}
use Rattle.call_script.specs.Tasks.{network_of}
use Rattle.run_engine.specs.schedules.Quiet.{the_plane}
use Rattle.run_engine.proofs.Keeping.NextPlaneStep.{own-number}
use Rattle.race_run.proofs.telling.is_plane.Goals as goal

pub returns : goal.returns
returns c = λ yes.
    let parts = c.args.plan.now in
    let number = c.get.ensures.value in
    let from = c.from.ensures in
    let same = ap length c.callers.ensures.value in
    let is : c.from.result ≡ length c.callers.result.now = eqb-true c.from.result (length c.callers.result.now) yes in
    let place : actor_number c.args.actor ≡ length parts.callers = omega (arith, number, from, is, same) in
    same-actor c.args.actor (the_plane (network_of parts)) (place ∙ sym (own-number parts c.callers.ensures.valid))
