-- The row gives back its share of each part.
use Rattle.std.proofs.Common.{◌≤◌, map, sym, ap, ◌∙◌, subst}
use Rattle.link_server.proofs.Words.{whole_of, channel_number, held_units, reservation_in, summed, IsPlaceOf, IsWithinLevels}
use Rattle.rcsp_admission.specs.Sums.{Holds, without_key}
use Rattle.link_server.specs.KeyedList.{position}
use Rattle.link_server.specs.Keeping.{IsKeeping, places_for}
use Rattle.link_server.proofs.RowsOfTable.Keeping.{keeps-removed, row-held, row-places}
use Rattle.link_server.proofs.RowsOfTable.Places.{all-without}
use Rattle.link_server.proofs.RowsOfTable.Sums.{place-holds, summed-without}
use Rattle.link_server.proofs.RowsOfTable.Parts.{place-only}
use Rattle.link_server.proofs.table.rows.take_out.Goals as goal
use Rattle.link_server.proofs.table.rows.take_out.Goals.{After-index-row}

-- it is its channel's, and the only one
only : (c : After-index-row) → IsPlaceOf c.index-row.result.now.chan c.args.rows.now.items (position c.args.rows.now.keys c.args.key)
only c = place-only c.args.rows.now.items (position c.args.rows.now.keys c.args.key) c.index-row.result.now c.requires.distinct c.index-row.ensures c.requires.inside

pub give_back-requires-clause-held : goal.give_back-requires-clause-held
give_back-requires-clause-held c =
    subst (λ row. held_units c.args.bounds.now (reservation_in row) ≤ c.args.keeping.now.budget.held) (sym c.index-row.ensures)
    (row-held (whole_of c.args.keeping.now.budget) c.args.bounds.now c.args.keeping.now c.args.rows.now.items (position c.args.rows.now.keys c.args.key) c.index-row.result.now c.requires.parts.keeps c.requires.inside)

pub give_back-requires-clause-places : goal.give_back-requires-clause-places
give_back-requires-clause-places c =
    subst (λ row. places_for c.args.bounds.now (reservation_in row) ≤ c.args.keeping.now.places) (sym c.index-row.ensures)
    (row-places (whole_of c.args.keeping.now.budget) c.args.bounds.now c.args.keeping.now c.args.rows.now.items (position c.args.rows.now.keys c.args.key) c.index-row.result.now c.requires.parts.keeps c.requires.inside)

pub remove-requires : goal.remove-requires
remove-requires c =
    let row = c.index-row.result.now in
    let held = place-holds row.chan c.args.rows.now.items (position c.args.rows.now.keys c.args.key) (only (goal.at.remove-requires c).After-index-row) in
    record { held = subst (λ n. Holds c.args.sums.now.rows n) (sym c.get.ensures.value) (subst (λ rows. Holds rows (channel_number row.chan)) (sym c.requires.parts.same) held) }

pub returns-clause-parts : goal.returns-clause-parts
returns-clause-parts c =
    let parts = c.requires.parts in
    let rows = c.args.rows.now.items in
    let row = c.index-row.result.now in
    let gone = ap (λ list. list.items) c.remove-2.ensures.others in
    record {
      same =
          c.remove.ensures.rows
          ∙ ap (λ all. without_key all c.get.result) parts.same
          ∙ ap (λ n. without_key (map summed rows) n) c.get.ensures.value
          ∙ summed-without row.chan rows (position c.args.rows.now.keys c.args.key) c.requires.distinct (only (goal.at.returns-clause-parts c).After-index-row)
          ∙ ap (map summed) (sym gone);
      within = rw gone (all-without (IsWithinLevels _) rows (position c.args.rows.now.keys c.args.key) parts.within);
      keeps =
          subst (λ all. IsKeeping (whole_of c.args.keeping.now.budget) c.args.bounds.now c.give_back.new.self (map reservation_in all)) (sym gone)
          (keeps-removed (whole_of c.args.keeping.now.budget) c.args.bounds.now c.args.keeping.now c.give_back.new.self rows (position c.args.rows.now.keys c.args.key) row parts.keeps c.requires.inside c.index-row.ensures c.give_back.ensures.budget c.give_back.ensures.places);
    }
