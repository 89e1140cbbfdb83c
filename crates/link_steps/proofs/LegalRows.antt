-- The rows of an admissible history have contracts.
use Rattle.std.proofs.Common.{ℕ, suc, ◌+◌, List, [], ◌∷◌, length}
use Rattle.std.specs.Prelude.{filter}
use Rattle.link_steps.specs.declared.replies.Entry.{Entry}
use Rattle.link_steps.specs.declared.shape.LinkShape.{LinkShape}
use Rattle.link_steps.specs.Admissible.{IsAdmissible}
use Rattle.link_steps.specs.Hold.{stays}
use Rattle.link_steps.specs.Account.{HasContract, HasContracts, account_row, account_at, account_of}
use Rattle.link_steps.specs.Lists.{Each}
use Rattle.link_steps.specs.Scan.{Scan, clock_of, is_row_of, arrived_row, with_arrival, without_expired, with_sources, with_best, after_tick, scan_of}
use Rattle.link_steps.specs.Service.{Arrival}
use Rattle.link_steps.specs.Rows.{Row, new_row}
use Rattle.link_steps.specs.Sources.{SourceStep, Rests, Brings, Drops, step_of, row_after, taken_by, rows_after}
use Rattle.link_steps.specs.Effects.{Effect, Adds, Changes, Removes, Takes, Ticks, changed_row, is_changed, with_effect}
use Rattle.link_steps.proofs.EntryEffects.{EffectFits, each-admissible}
use Rattle.link_steps.proofs.AccountOfRows.{RowHasContract}
use Rattle.link_steps.proofs.SearchAndFilter.{Each-append, Each-filter, Each-map, Each-change_first, Each-without_first}

rows_after-contracts : (bounds : List ℕ) (here : List Arrival) (t taken : ℕ) (rows : List Row) → Each RowHasContract rows → Each RowHasContract (rows_after bounds here t taken rows)
unfolding rows_after
rows_after-contracts bounds here t taken [] each = tt
rows_after-contracts bounds here t taken (row ∷ rows) each =
    (row_after-contract (step_of bounds here t row) each.0, rows_after-contracts bounds here t (taken + taken_by (step_of bounds here t row)) rows each.1) where
      row_after-contract : (step : SourceStep) → RowHasContract row → RowHasContract (row_after step t (suc taken) row)
      row_after-contract (Brings size) is = is
      row_after-contract Rests is = is
      row_after-contract Drops is = is

effect-contracts : (shape : LinkShape) (t : ℕ) (scan : Scan) (effect : Effect) → EffectFits shape t scan effect → Each RowHasContract scan.rows → Each RowHasContract (with_effect shape t scan effect).rows
unfolding with_effect with_arrival after_tick with_best with_sources without_expired
effect-contracts shape t scan (Adds terms) fits each = Each-append RowHasContract scan.rows (new_row terms ∷ []) each (fits.asked.is_contract, tt)
effect-contracts shape t scan (Changes chan change) fits each = Each-change_first RowHasContract (is_changed chan change) (changed_row t change) scan.rows (λ row is. is) each
effect-contracts shape t scan (Removes chan) fits each = Each-without_first RowHasContract (is_row_of chan) scan.rows each
effect-contracts shape t scan (Takes packet row) fits each = Each-change_first RowHasContract (is_row_of packet.chan) (arrived_row t (suc (length scan.packets)) packet) scan.rows (λ r is. is) each
effect-contracts shape t scan Ticks fits each =
    rows_after-contracts shape.bounds _ t (length scan.packets) (filter (stays shape.bounds t) scan.rows) (Each-filter RowHasContract (stays shape.bounds t) scan.rows each)
effect-contracts shape t scan _ fits each = each

-- the rows held after an admissible history have contracts
pub legal-contracts : (shape : LinkShape) (h : List Entry) → IsAdmissible shape h → Each RowHasContract (scan_of shape h).rows
legal-contracts shape h legal = each-admissible (λ t scan. Each RowHasContract scan.rows) shape tt (λ past effect may. effect-contracts shape (clock_of past) (scan_of shape past) effect) h legal

-- and so has its account
pub account-contracts : (shape : LinkShape) (h : List Entry) → IsAdmissible shape h → HasContracts (account_of shape h)
unfolding account_at
account-contracts shape h legal = Each-map HasContract (account_row (clock_of h)) (scan_of shape h).rows (legal-contracts shape h legal)
