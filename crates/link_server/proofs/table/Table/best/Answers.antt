-- The sums answer for the reservations of the account.
use Rattle.std.proofs.Common.{◌≡◌, None, Some, subst}
use Rattle.std.specs.Prelude.{IfErr, MatchResult}
use Rattle.link_server.proofs.Words.{level_number, best_level, refused_sum}
use Rattle.link_server.proofs.RowsOfTable.Sums.{same-admission}
use Rattle.link_server.proofs.table.Table.best.Goals as goal

pub returns-clause-level : goal.returns-clause-level
returns-clause-level c =
    let t = c.self.inside in
    rw (← c.self.view_is) (subst
    (λ all. MatchResult c.best.result (λ level. best_level t.sums.server all c.args.contract.now ≡ Some (level_number level)) (λ _. best_level t.sums.server all c.args.contract.now ≡ None))
    (same-admission (λ all. all) t.sums t.rows.items c.self.invariant.parts.same) c.best.ensures.level)

pub returns-clause-sum : goal.returns-clause-sum
returns-clause-sum c =
    let t = c.self.inside in
    rw (← c.self.view_is) (subst (λ all. IfErr c.best.result (λ none. none.sum ≡ refused_sum t.sums.server all c.args.contract.now))
    (same-admission (λ all. all) t.sums t.rows.items c.self.invariant.parts.same) c.best.ensures.sum)
