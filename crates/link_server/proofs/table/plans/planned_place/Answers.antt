-- The row of the channel is the one at its place, if there is one.
use Rattle.std.proofs.Common.{map, sym, subst}
use Rattle.link_server.specs.KeyedList.{position}
use Rattle.link_server.proofs.Words.{IfNone, Each, row_in}
use Rattle.link_server.specs.Planned.{IsPlannedAhead}
use Rattle.link_server.specs.Plans.{RestsIfOf}
use Rattle.link_server.specs.Sources.{IsReady}
use Rattle.link_server.proofs.Calendars.Expiry.{each-at}
use Rattle.link_server.proofs.Calendars.PlanRows.{absent-rests, place-rests}
use Rattle.link_server.proofs.table.plans.planned_place.Goals as goal

pub returns-in_err-key-clause-none : goal.returns-in_err-key-clause-none
returns-in_err-key-clause-none c =
    subst (λ found. IfNone found (Each (RestsIfOf c.args.clock c.args.number) (map row_in c.args.rows.now.items))) (sym c.from_residual-in_err-key.ensures)
    (absent-rests c.args.clock c.in_ok-new.field-0 c.args.number c.args.rows.now.items c.in_ok-new.ensures.value c.in_err-key.ensures.none)

pub is_for-requires : goal.is_for-requires
is_for-requires c = record { ahead = subst (λ row. IsPlannedAhead c.args.clock row.planned) (sym c.index.ensures) (each-at (IsReady c.args.clock) c.args.rows.now.items (position c.args.rows.now.keys c.in_ok-key.key) c.index.result.now c.in_ok-key.ensures.some.inside c.requires.ready).ahead }

pub returns-clause-none : goal.returns-clause-none
returns-clause-none c =
    place-rests c.args.clock c.in_ok-new.field-0 c.args.number (position c.args.rows.now.keys c.in_ok-key.key) c.args.rows.now.items c.args.index.now.keys.items c.args.rows.now.keys c.index.result.now c.in_ok-new.ensures.value c.requires.indexed c.in_ok-key.ensures.some c.index.ensures
    (c.is_for.ensures c.if-is_for.false)
