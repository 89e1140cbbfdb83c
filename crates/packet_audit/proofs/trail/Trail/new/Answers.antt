use Rattle.std.proofs.Common.{true, None, refl}
use Rattle.packet_audit.specs.declared.trail.Trail.{Trail}
use Rattle.packet_audit.proofs.TrailsOfRows.{none-stand}
use Rattle.packet_audit.proofs.trail.Trail.new.Goals as goal

pub returns : goal.returns
returns c =
    let made : Trail = record { sent = c.new.result; keeps = true; spread = None } in
    λ promise. none-stand promise made c.new.ensures.items refl refl
