-- The lane has handed on a quiet tick.
use Rattle.std.proofs.Common.{◌∷◌, [], get_or, set, sym, subst}
use Rattle.link_steps.specs.Quiet.{quiet_reply}
use Rattle.plane_workers.specs.Lanes.{HandsOn, HasHanded}
use Rattle.plane_workers.proofs.LanesHandOn.{if-some, put-hands}
use Rattle.plane_workers.proofs.telling.next_quiet.Goals as goal

pub returns-clause-told : goal.returns-clause-told
returns-clause-told c =
    if-some {P = λ clock. HasHanded (quiet_reply clock ∷ []) (get_or c.args.lanes.now c.args.number c.index-lanes-number.result) c.next_quiet.new.self} {Q = λ clock. HandsOn c.args.number (quiet_reply clock) c.args.lanes.now (set c.args.lanes.now c.args.number c.next_quiet.new.self)} c.next_quiet.result
    (λ clock handed. put-hands c.args.lanes.now c.args.number (quiet_reply clock) c.index-lanes-number.result c.next_quiet.new.self c.requires.inside c.index-lanes-number.is
    (subst (λ lane. HasHanded (quiet_reply clock ∷ []) lane c.next_quiet.new.self) (sym c.index-lanes-number.is) handed))
    c.next_quiet.ensures.told
