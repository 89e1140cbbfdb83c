use Rattle.std.proofs.Common.{List, ℕ, ◌++◌, ap, ◌∙◌}
use Rattle.network_variants.proofs.CutLines.{line-cut, none-joined}
use Rattle.network_variants.proofs.cutting.lines_of.Goals as goal

pub loop-rest-init : goal.loop-rest-init
loop-rest-init c = ap (λ (xs : List ℕ). xs ++ c.args.file.now) (none-joined c.new-lines.result.items c.new-lines.ensures.items)

pub loop-rest-preserved : goal.loop-rest-preserved
loop-rest-preserved c =
    line-cut c.loop-rest.lines.items c.push.new.self.items c.in_ok-from_slice.field-0 c.loop-rest.rest.now c.split_at.result.1.now c.args.file.now c.first_line.result
    c.loop-rest.invariant (c.in_ok-from_slice.ensures.items ∙ c.split_at.ensures.front) c.split_at.ensures.back c.in_ok-push.ensures.items
