use Rattle.std.proofs.Common.{◌+◌, [], ◌∷◌, ◌++◌, sym, subst, ap, ◌∙◌}
use Rattle.route_finder.proofs.TableRows.{HasTable, rows-first, rows-next}
use Rattle.route_finder.proofs.least.Least.new.Goals as goal

pub loop-links-init : goal.loop-links-init
loop-links-init c =
    let items = c.in_ok-push.ensures.items ∙ ap (λ rows. rows ++ c.row_by_none.result ∷ []) c.in_ok-rows.ensures.items in
    subst (HasTable c.args.edges.now c.args.to 0) (sym items) (rows-first c.args.edges.now c.args.to c.row_by_none.result c.row_by_none.ensures.entries)

pub loop-links-preserved : goal.loop-links-preserved
loop-links-preserved c =
    subst (HasTable c.args.edges.now c.args.to (c.loop-links.links + 1)) (sym c.in_ok-push-2.ensures.items)
    (rows-next c.args.edges.now c.args.to c.loop-links.links c.loop-links.rows.items c.index.result.now c.row_by_one_more-row.result c.loop-links.invariant c.index.ensures c.row_by_one_more-row.ensures.entries c.row_by_one_more-row.ensures.small)
