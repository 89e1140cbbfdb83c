use Rattle.std.proofs.Common.{◌≡◌, ℕ, ◌≤◌, ◌+◌, length, map, vec_capacity}
use Rattle.shared_network.proofs.Words.{into_iter_items, Each, Has, Differ, pass_table, pass_view}
use Rattle.shared_network.specs.Closing.{number_of}
use Rattle.shared_network.specs.Gathering.{IsBelow, IsSettled}
use Rattle.shared_network.proofs.Numbering.SeatsJoined.{StaysGathered}
use Rattle.shared_network.proofs.closing.take_journals.Given as goal

-- some journals are there, of different links, whose lists the joined seat has; of the other links it knows what it knew
abbrev pub invariant-loop-link : goal.invariant-loop-link
invariant-loop-link g l = record {
  settled : Each (IsSettled g.H.Home.links (pass_view l.fn.seat)) l.journals.items;
  below : Each (IsBelow (length g.H.Home.links)) l.journals.items;
  apart : Differ (map number_of l.journals.items);
  here : (k : ℕ) → Has k (map number_of l.journals.items) → Has k (pass_view l.seat).links;
  stays : StaysGathered (pass_view l.fn.seat) (pass_view l.seat);
  table : pass_table l.seat ≡ g.H.Home.table;
  all : length l.journals.items + length (into_iter_items l.link-iterator) ≡ length l.fn.links.items;
  room : length l.fn.links.items ≤ vec_capacity l.journals;
}
