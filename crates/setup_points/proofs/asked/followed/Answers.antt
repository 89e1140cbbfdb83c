use Rattle.std.proofs.Common.{List, [], ◌∷◌, ◌++◌, ap, ◌∙◌}
use Rattle.call_script.specs.declared.schedule.Do.{Do}
use Rattle.setup_points.proofs.Fronts.{followed-by}
use Rattle.setup_points.proofs.asked.followed.Goals as goal

pub returns : goal.returns
returns c =
    let last : Do = record { line = 0; actor = c.args.actor; count = c.args.more } in
    followed-by c.args.front.now c.push.new.self.items last (c.in_ok-push.ensures.items ∙ ap (λ (front : List Do). front ++ last ∷ []) (c.in_ok-extend_from_slice.ensures.items ∙ ap (λ (none : List Do). none ++ c.args.front.now) c.new-items.ensures.items))
