-- What is known once a network is closed. The journals are those of its links, in their order. Each is legal, its stamps
-- rise, and no stamp stands twice in all of them. Each own entry of each pass stands in its journal at its place, with its
-- stamp, ask and reply. Each entry of each journal is the own entry of exactly one pass, and has that pass's actor. The own
-- entries of a pass are in order of stamp.
use Rattle.std.specs.Prelude.{◌≡◌, ◌≢◌, ℕ, ◌+◌, ◌-◌, ◌≤◌, false, Some, List, length, map}
use Rattle.std.specs.List.{slice_get}
use Rattle.net_units.specs.Numbers.{link_number}
use Rattle.net_units.specs.declared.numbers.ActorNo.{ActorNo}
use Rattle.link_steps.specs.Journals.{IsLegalJournal}
use Rattle.link_steps.specs.Lists.{Each}
use Rattle.link_steps.specs.Split.{Link}
use Rattle.step_stamp.specs.Lists.{Has, up_to}
use Rattle.step_stamp.specs.Marks.{StampsRise}
use Rattle.link_ledger.specs.Journals.{marks_in, done_in}
use Rattle.link_ledger.specs.Own.{own_entry, own_mark}
use Rattle.link_ledger.specs.Tokens.{Token, IsLink}
use Rattle.link_ledger.specs.declared.entries.Entry.{Entry}
use Rattle.link_ledger.specs.declared.entries.Journal.{Journal}
use Rattle.link_ledger.specs.declared.entries.OwnEntry.{OwnEntry}

abbrev pub number_of : Journal → ℕ
number_of journal = link_number journal.link

-- an own entry stands in its link's journal, at its place
pub record StandsIn (journals : List Journal) (actor : ActorNo) (e : OwnEntry) : Type 0 where
  pub journal : Journal
  pub found : slice_get journals (link_number e.link) ≡ Some journal
  pub least : 1 ≤ e.place
  pub here : slice_get journal.entries (e.place - 1) ≡ Some (own_entry actor e)

-- the entry at place k + 1 of the journal of link l is the own entry of exactly one of the passes, and has its actor
pub record IsOfOne (passes : List Token) (l k : ℕ) (x : Entry) : Type 0 where
  pub index : ℕ
  pub pass : Token
  pub found : slice_get passes index ≡ Some pass
  pub entry : OwnEntry
  pub own : Has entry pass.own
  pub link : link_number entry.link ≡ l
  pub place : entry.place ≡ k + 1
  pub same : own_entry pass.actor entry ≡ x
  pub only : (j : ℕ) (other : Token) (e : OwnEntry) → slice_get passes j ≡ Some other → Has e other.own → link_number e.link ≡ l → e.place ≡ k + 1 → j ≡ index

pub record IsClosed (links : List Link) (passes : List Token) (journals : List Journal) : Type 0 where
  pub numbers : map number_of journals ≡ up_to (length links)
  pub legal : (l : ℕ) (link : Link) (journal : Journal) → IsLink links l link → slice_get journals l ≡ Some journal → IsLegalJournal link (map done_in journal.entries)
  pub rises : Each (λ (journal : Journal). StampsRise (marks_in journal.entries)) journals
  pub apart : (k l : ℕ) (one other : Journal) (x y : Entry) → k ≢ l → slice_get journals k ≡ Some one → slice_get journals l ≡ Some other → Has x one.entries → Has y other.entries → x.stamp ≢ y.stamp
  pub stands : Each (λ (pass : Token). Each (StandsIn journals pass.actor) pass.own) passes
  pub of_one : (l k : ℕ) (journal : Journal) (x : Entry) → slice_get journals l ≡ Some journal → slice_get journal.entries k ≡ Some x → IsOfOne passes l k x
  pub in_order : Each (λ (pass : Token). StampsRise (map (own_mark pass.actor) pass.own)) passes

-- what a pass keeps when it gives its seat up: its actor and its own entries
pub record KeptPass : Type 0 where
  pub actor : ActorNo
  pub own : List OwnEntry

abbrev pub kept_pass : Token → KeptPass
kept_pass pass = record { actor = pass.actor; own = pass.own }

-- the passes have given their seats up, and keep the rest
pub record HaveGivenUp (passes closed : List Token) : Type 0 where
  pub kept : map kept_pass closed ≡ map kept_pass passes
  pub gone : Each (λ (pass : Token). pass.has_seat ≡ false) closed
