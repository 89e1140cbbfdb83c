-- The one open.
use Rattle.std.proofs.Common.{◌≡◌, List, [], ◌∷◌, ◌++◌, ap, ◌∙◌}
use Rattle.call_script.specs.Parts.{openings_in}
use Rattle.call_script.specs.declared.operations.Op.{Op}
use Rattle.call_script.specs.declared.operations.Op.TheVariants.{Open, Pour}
use Rattle.call_script_tests.proofs.tests.script.Goals as goal
use Rattle.call_script_tests.proofs.tests.script.Goals.{then-pours+in_ok-link_no+in_ok-push-2, else-pours}

pub returns : goal.returns
unfolding openings_in
returns c =
    let first : c.push.new.self.items ≡ Open c.in_ok-channel.field-0 ∷ [] = c.in_ok-push.ensures.items ∙ ap (λ (ops : List Op). ops ++ Open c.in_ok-channel.field-0 ∷ []) c.new-ops.ensures.items in
    elim c.if-pours.branch [
      | then-pours+in_ok-link_no+in_ok-push-2 w ↦
          ap (openings_in 0) (c.in_ok-made.ensures ∙ ap (λ v. v.items) w.ops-is ∙ w.in_ok-push-2.ensures.items ∙ ap (λ (ops : List Op). ops ++ Pour w.in_ok-link_no.field-0 1 1 4 ∷ []) first)
          ∙ ap (λ n. record { caller = 0; chan = n } ∷ []) c.in_ok-channel.ensures
      | else-pours w ↦ ap (openings_in 0) (c.in_ok-made.ensures ∙ ap (λ v. v.items) w.ops-is ∙ first) ∙ ap (λ n. record { caller = 0; chan = n } ∷ []) c.in_ok-channel.ensures
    ]
