-- The row of the channel is the one under its key, if there is one.
use Rattle.std.proofs.Common.{◌<◌, ◌^◌, map, not, sym, ap, ◌∙◌, subst}
use Rattle.link_server.specs.KeyedList.{position}
use Rattle.link_server.proofs.Words.{IfNone, Each, row_in}
use Rattle.traffic_contract.specs.Eligible.{newest as newest_of}
use Rattle.link_server.specs.Holds.{StaysIfOf}
use Rattle.link_server.specs.Sources.{IsReady}
use Rattle.link_server.proofs.Calendars.HoldRows.{absent-stays, place-stays}
use Rattle.link_server.proofs.Calendars.Expiry.{each-at, stays-is}
use Rattle.link_server.proofs.table.expiry.ended_key.Goals as goal

pub returns-in_err-key-clause-none : goal.returns-in_err-key-clause-none
returns-in_err-key-clause-none c =
    subst (λ found. IfNone found (Each (StaysIfOf c.args.bounds.now c.args.clock c.args.number) (map row_in c.args.rows.now.items))) (sym c.from_residual-in_err-key.ensures)
    (absent-stays c.args.bounds.now c.args.clock c.in_ok-new.field-0 c.args.number c.args.rows.now.items c.in_ok-new.ensures.value c.in_err-key.ensures.none)

pub has_ended-requires : goal.has_ended-requires
has_ended-requires c =
    let ready = each-at (IsReady c.args.clock) c.args.rows.now.items (position c.args.rows.now.keys c.in_ok-key.key) c.index.result.now c.in_ok-key.ensures.some.inside c.requires.ready in
    let last = ready.last in
    let newest = c.index.result.now.newest in
    let same = ap (λ row. (row_in row).recent) c.index.ensures in
    subst (λ n. n < 2 ^ 63) (sym (newest ∙ ap newest_of same)) last

pub returns-clause-none : goal.returns-clause-none
returns-clause-none c =
    place-stays c.args.bounds.now c.args.clock c.in_ok-new.field-0 c.args.number (position c.args.rows.now.keys c.in_ok-key.key) c.args.rows.now.items c.args.index.now.keys.items c.args.rows.now.keys c.index.result.now c.in_ok-new.ensures.value c.requires.indexed c.in_ok-key.ensures.some c.index.ensures
    (stays-is c.args.bounds.now c.args.clock c.index.result.now c.has_ended.result c.has_ended.ensures ∙ ap not c.if-has_ended.false)
