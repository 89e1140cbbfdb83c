-- The index leads to the channel's row, if it has one.
use Rattle.std.proofs.Common.{◌∙◌, sym, subst}
use Rattle.link_server.proofs.Words.{IfNone, IsAbsent}
use Rattle.link_server.specs.KeyedList.{position}
use Rattle.link_server.proofs.RowsOfTable.Index.{absent-past, absent-beyond, absent-other, place-led, is-row-of}
use Rattle.link_server.proofs.table.rows.key_of.Goals as goal

pub returns-in_err-key-clause-none : goal.returns-in_err-key-clause-none
returns-in_err-key-clause-none c =
    subst (λ found. IfNone found (IsAbsent c.args.chan c.args.rows.now.items)) (sym c.from_residual.ensures)
    (absent-past c.args.index.now.keys.items c.args.rows.now.keys c.args.chan c.args.rows.now.items c.requires (sym c.in_err-key.ensures))

pub returns-in_err-row-clause-none : goal.returns-in_err-row-clause-none
returns-in_err-row-clause-none c =
    subst (λ found. IfNone found (IsAbsent c.args.chan c.args.rows.now.items)) (sym c.from_residual-in_err-row.ensures)
    (absent-beyond c.args.index.now.keys.items c.args.rows.now.keys c.args.chan c.args.rows.now.items c.in_ok-key.key c.requires (sym c.in_ok-key.ensures) c.in_err-row.ensures.none)

pub returns-then-get-clause-some : goal.returns-then-get-clause-some
returns-then-get-clause-some c =
    let under = c.in_ok-row.ensures.some in
    place-led c.args.index.now.keys.items c.args.rows.now.keys c.args.chan c.args.rows.now.items (position c.args.rows.now.keys c.in_ok-key.key) c.requires under.inside
    (is-row-of c.args.chan c.args.rows.now.items (position c.args.rows.now.keys c.in_ok-key.key) c.in_ok-row.row.now under.inside under.there (sym c.get-2.ensures.value ∙ c.if-get.true ∙ c.get-3.ensures.value))

pub returns-clause-none : goal.returns-clause-none
returns-clause-none c =
    absent-other c.args.index.now.keys.items c.args.rows.now.keys c.args.chan c.args.rows.now.items c.in_ok-key.key c.in_ok-row.row.now c.requires (sym c.in_ok-key.ensures) c.in_ok-row.ensures.some.there (λ same. c.if-get.false (c.get-2.ensures.value ∙ same ∙ sym c.get-3.ensures.value))
