-- The words of the crates below that most proofs here cite, passed on from one place. Declares nothing.
pub use Rattle.std.specs.List.{All, AllByRecursion, slice_get}
unfoldable pub use Rattle.std.specs.List.{IsDistinct}
pub use Rattle.std.specs.List.Sorted.{IsNonDecreasingBy, IsPermutation}
pub use Rattle.std.specs.Option.{option_map}
pub use Rattle.std.specs.Prelude.{Err, IfOk, IsOk, IsTrue, List, Ok, OnOk, Result, Some, filter, find, nat_eq, nat_lt, reverse, slice_index_or, unwrap_or, ◌==◌, ◌≡◌}
pub use Rattle.std.specs.Vec.Iter.{into_iter_items, into_iter_len}
pub use Rattle.std.proofs.lemmas.Bool.{cases_Bool, cases_eq, cases_lt, cond_both, eq-eqb, eqb-false, eqb-true, le-ltb, ne_eqb}
pub use Rattle.std.proofs.lemmas.List.{append-nil, append_assoc, drop_all, length-append, length-map, length-reverse, length_push, map-append, map-id, reverse-append, take_all}
pub use Rattle.std.proofs.lemmas.List.Elements.{All-cons, All-head, All-nil, All-tail, filter-append, same_from_all_zip}
pub use Rattle.std.proofs.lemmas.List.Sorted.{All-permutation, IsNonDecreasingBy-from_sort_by_key, IsPermutation-map, IsPermutation-refl, IsPermutation-reverse, IsPermutation-sym, length_permutation}
pub use Rattle.std.proofs.lemmas.Option.{same_Some, slice_get-map, slice_get_read, slice_get_within}
pub use Rattle.net_units.specs.Numbers.{actor_number, channel_number, level_number, link_number}
pub use Rattle.net_units.specs.declared.numbers.ActorNo.{ActorNo}
pub use Rattle.net_units.specs.declared.numbers.ChanNo.{ChanNo}
pub use Rattle.net_units.specs.declared.numbers.LinkNo.{LinkNo}
pub use Rattle.traffic_contract.specs.Contract.{IsContract, Traffic}
pub use Rattle.hop_reservation.specs.Routes.{IsRoute, link_of}
pub use Rattle.hop_reservation.specs.declared.route.Hop.{Hop}
pub use Rattle.link_steps.specs.Legal.{AskFits, PacketFits, SubmitFits}
unfoldable pub use Rattle.link_steps.specs.Legal.{IsLegal}
pub use Rattle.link_steps.specs.Lists.{Each}
pub use Rattle.link_steps.specs.Replies.{deny_reply, relax_reply, submit_to, tick_reply}
unfoldable pub use Rattle.link_steps.specs.Replies.{reply_at, reply_to}
pub use Rattle.link_steps.specs.Reservation.{Reservation, committed, is_phase, tentative}
pub use Rattle.link_steps.specs.Scan.{Scan, clock_with, is_row_at_hop, names_first_hop}
unfoldable pub use Rattle.link_steps.specs.Scan.{after, clock_of, scan_of}
pub use Rattle.link_steps.specs.Split.{Link, SplitFits}
pub use Rattle.link_steps.specs.declared.asks.Ask.{Ask}
pub use Rattle.link_steps.specs.declared.asks.Ask.TheVariants.{Arrive, Deny, Relax, Release, Reserve, Submit, Tick}
pub use Rattle.link_steps.specs.declared.replies.Reply.{Reply}
pub use Rattle.channel_move.specs.Moving.{Move, answers, answers_next, further, next_of_move, shifted_in, shifted_of, told_by}
pub use Rattle.setup_protocol.specs.Hops.{IsHopOf, RequestFits}
pub use Rattle.setup_protocol.specs.Setup.{Accepts, Denies, Outcome, Progress, Relaxing, Reserving, Settled, Undoing, after_test, asked, at_destination, bound_given, hop_link, is_expected, is_offer, level_in, next_ask, progress_of, relaxing, reserve_of, settled_in, undoing}
unfoldable pub use Rattle.setup_protocol.specs.Setup.{after_offers, offers_in, reach_after}
pub use Rattle.setup_protocol.specs.Teardown.{first_count, is_closing, next_release, told_count}
pub use Rattle.setup_protocol.specs.declared.request.Request.{Request}
pub use Rattle.channel_laws.specs.Asks.{IsOff, MayReplyTo}
pub use Rattle.channel_laws.specs.Reservations.{IsArriveReply, IsReleased, held_by}
pub use Rattle.channel_laws.specs.Unsent.{FewCancelled, IsPlanned, IsUnsent, NoneSent}
pub use Rattle.tick_plane.specs.Planes.{IsDueLater, Plane, answers_arrive, answers_tick, ask_due, flight_in, is_due, next_due, plane_after, plane_ask, plane_expects, plane_start, plane_with}
unfoldable pub use Rattle.tick_plane.specs.Planes.{plane_of}
pub use Rattle.atomic_table.specs.Seated.{TableId}
pub use Rattle.link_ledger.specs.Journals.{done_in, entries_of, history_entry_of, history_in, journal_of, mark_in, marks_in}
unfoldable pub use Rattle.link_ledger.specs.Journals.{told_after}
pub use Rattle.link_ledger.specs.Own.{IsAtPlace, IsExact, own_at, own_drawn, own_entry, own_mark}
pub use Rattle.link_ledger.specs.Owners.{IsBelow, IsOwner, NextBelow, OwnsAsk}
pub use Rattle.link_ledger.specs.Tokens.{IsLink, Steps, Token, last_seen, shape_at, stamps_drawn}
pub use Rattle.link_ledger.specs.declared.entries.Entry.{Entry}
pub use Rattle.link_ledger.specs.declared.entries.Journal.{Journal}
pub use Rattle.link_ledger.specs.declared.entries.OwnEntry.{OwnEntry}
pub use Rattle.step_stamp.specs.Lists.{Differ, Has}
unfoldable pub use Rattle.step_stamp.specs.Lists.{up_to}
pub use Rattle.step_stamp.specs.Marks.{NoTwice, RisesFrom, StampsRise, drawn_for, longer, marks_of}
pub use Rattle.step_stamp.specs.Opening.{AreLinks, ArePasses, IsNewLink, IsNewPass}
pub use Rattle.step_stamp.specs.Seats.{Gathered, link_view, pass_table, pass_view, seat_actor, seat_link}
pub use Rattle.step_stamp.specs.Views.{first_view, known_of, new_pass, saw}
unfoldable pub use Rattle.step_stamp.specs.Views.{shelf_of}
pub use Rattle.step_stamp.specs.declared.marks.Mark.{Mark}
pub use Rattle.step_stamp.specs.declared.views.View.{View}
