-- The search begins with the blocking, and no window that fits a level is too short for the level before.
use Rattle.std.proofs.Common.{◌≡◌, ap, subst, sym, arith}
use Rattle.rcsp_admission.specs.Room.{NoneBefore}
use Rattle.rcsp_admission.specs.Sums.{admitted_rows}
use Rattle.rcsp_admission.proofs.LastFullLevel.{search-begins, search-next}
use Rattle.rcsp_admission.proofs.level_sums.LevelSums.last_full.Goals as goal

pub loop-index-init : goal.loop-index-init
loop-index-init c =
    let same : c.self.inside.blocking ≡ c.args.self.now.server.blocking = ap (λ s. s.server.blocking) c.self.view_is in (
      record { upto = omega arith; no_room = λ some. absurd (omega (arith, some)); room = λ m above within. absurd (omega (arith, above, within)) },
      λ w fits. (let least = search-begins c.args.self.now.server (admitted_rows c.args.self.now.rows) c.args.contract.now 0 w fits in omega (arith, least, same, c.from-from.ensures)),
    )

pub has_room-requires-clause-none : goal.has_room-requires-clause-none
has_room-requires-clause-none c =
    subst (λ m. NoneBefore c.args.self.now.server (admitted_rows c.args.self.now.rows) c.args.contract.now m c.loop-index.from) (sym c.level_at-level.ensures)
    (search-next c.args.self.now.server (admitted_rows c.args.self.now.rows) c.args.contract.now c.loop-index.index c.loop-index.from c.loop-index.invariant.1)
