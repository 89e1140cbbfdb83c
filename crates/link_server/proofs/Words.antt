-- The words of the libraries below that most proofs of this crate use, passed on so that a proof names one file for them.
pub use Rattle.buffer_budget.specs.Parts.{whole_of}
pub use Rattle.link_server.specs.Account.{account}
pub use Rattle.link_server.specs.QueueAccount.{QueueAccount}
pub use Rattle.link_server.specs.TableAccount.{TableAccount}
pub use Rattle.link_server.specs.Rows.{IsAbsent, IsFirstPlace, IsPlaceOf, IsWithinLevels, NoRowPasses, is_served_row_of, reservation_in, row_in, summed}
pub use Rattle.link_server.specs.State.{account_in}
pub use Rattle.link_server.specs.declared.link_state.LinkState.{LinkState}
pub use Rattle.link_server.specs.declared.queue.held_packet.HeldPacket.{HeldPacket}
pub use Rattle.link_server.specs.declared.table.served_row.Offered.{Offered}
pub use Rattle.link_server.specs.declared.table.served_row.ServedRow.{ServedRow}
pub use Rattle.link_server.specs.declared.table.served_row.Wanted.{Wanted}
pub use Rattle.link_steps.specs.Admissible.{MayOffer}
pub use Rattle.link_steps.specs.BestEffort.{best_packet, is_best}
pub use Rattle.link_steps.specs.Buffer.{free_units, has_slot, held_packets, held_units, need_of, slots_of}
pub use Rattle.link_steps.specs.Account.{HasContract, Account, AccountRow, StandsFor, from_sources, held_rows, is_eligible_by, is_account_at_hop, is_account_of, is_other, account_after, account_after_step, account_arrived, account_arrived_row, account_closed, account_packet, account_planned, account_relaxed, account_reply, account_stays, account_terms, account_with, new_account, empty_account, served, start_at, waits_here, with_account_rows}
pub use Rattle.link_steps.specs.Legal.{AskFits, ReserveFits}
pub use Rattle.link_steps.specs.Levels.{level_of}
pub use Rattle.link_steps.specs.Lists.{Each}
pub use Rattle.link_steps.specs.Quiet.{RowRests}
pub use Rattle.link_steps.specs.Refusals.{busy, not_in_phase}
pub use Rattle.link_steps.specs.Reservation.{Reservation, admitted, is_of, is_phase, tentative}
pub use Rattle.link_steps.specs.Rows.{SourcePacket, is_for, left_at, planned_from}
pub use Rattle.link_steps.specs.Scan.{clock_of, names_first_hop, scan_of}
pub use Rattle.link_steps.specs.Service.{Arrival, Start}
pub use Rattle.link_steps.specs.Shape.{server_of}
pub use Rattle.link_steps.specs.Sources.{Brings, Drops, Rests, SourceStep, arrival_at, dropped_by, lead_with, source_step, taken_by}
pub use Rattle.link_steps.specs.Split.{whole}
pub use Rattle.link_steps.specs.declared.asks.Ask.{Ask}
pub use Rattle.link_steps.specs.declared.asks.Ask.TheVariants.{Arrive, Deny, Pour, Relax, Release, Submit, Tick}
pub use Rattle.link_steps.specs.declared.asks.Packet.{Packet}
pub use Rattle.link_steps.specs.declared.replies.Phase.{Phase}
pub use Rattle.link_steps.specs.declared.replies.Phase.TheVariants.{Closing, Committed, Tentative}
pub use Rattle.link_steps.specs.declared.replies.Refusal.{Refusal}
pub use Rattle.link_steps.specs.declared.replies.Reply.{Reply}
pub use Rattle.link_steps.specs.declared.replies.Reply.TheVariants.{Offer, Planned, Refused}
pub use Rattle.link_steps.specs.declared.shape.LinkShape.{LinkShape}
pub use Rattle.net_units.specs.LevelBounds.{last_bound, reach_of}
pub use Rattle.net_units.specs.Numbers.{channel_number, level_number}
pub use Rattle.net_units.specs.declared.numbers.ChanNo.{ChanNo}
pub use Rattle.net_units.specs.declared.numbers.Level.{Level}
pub use Rattle.rcsp_admission.specs.Sums.{Held, Holds, IsDistinct, Sums, row_held, key_of}
pub use Rattle.std.specs.List.{insert, list_any, remove}
pub use Rattle.std.specs.List.Sorted.{IsPermutation}
pub use Rattle.std.specs.Prelude.{IfNone, IfSome, filter, find, if◌then◌else◌, nat_eq, nat_le, nat_lt, slice_get}
pub use Rattle.tick_calendar.specs.Calendar.{Entry, Timetable, TakesDue}
pub use Rattle.traffic_contract.specs.Admission.{best_level, refused_sum, total}
pub use Rattle.traffic_contract.specs.Contract.{IsContract, Traffic, most_in}
pub use Rattle.traffic_contract.specs.Eligible.{newest}
