-- How a network is closed: the seats of all passes are joined into one, which then has all actors and all that was drawn, and
-- knows of each link what any pass knew. Then each link's seat is joined into that one, which shows that each mark of the
-- link's list was drawn, and that no two seats are of one link.
use Rattle.std.specs.Prelude.{◌≡◌, ℕ, ◌<◌, ◌≤◌, List, [], ◌∷◌, ◌++◌, length, map}
use Rattle.std.specs.List.Sorted.{IsPermutation}
use mathlib.Core.List.{IsPrefix}
use Rattle.atomic_table.specs.Seated.{TableId}
use Rattle.net_units.specs.Numbers.{actor_number}
use Rattle.net_units.specs.declared.numbers.ActorNo.{ActorNo}
use Rattle.link_steps.specs.Journals.{IsLegalJournal}
use Rattle.link_steps.specs.Lists.{Each}
use Rattle.link_steps.specs.Split.{Link}
use Rattle.step_stamp.specs.Lists.{Has, up_to}
use Rattle.step_stamp.specs.Marks.{StampsRise, NoTwice, drawn_for}
use Rattle.step_stamp.specs.Views.{known_of}
use Rattle.step_stamp.specs.declared.marks.Drawn.{Drawn}
use Rattle.step_stamp.specs.declared.marks.Mark.{Mark}
use Rattle.step_stamp.specs.declared.views.View.{View}
use Rattle.link_ledger.specs.Journals.{marks_in, done_in}
use Rattle.link_ledger.specs.Tokens.{Token, IsLink}
use Rattle.link_ledger.specs.declared.entries.Journal.{Journal}
use Rattle.shared_network.specs.Closing.{number_of}
use Rattle.shared_network.specs.Ready.{MayStep}

abbrev pub token_actor : Token → ℕ
token_actor pass = actor_number pass.actor

-- all passes of an opening, in any order of their actors, each of which may step
pub record AreAll (table : TableId) (owners : List ActorNo) (links : List Link) (passes : List Token) : Type 0 where
  pub some : 1 ≤ length passes
  pub actors : IsPermutation (up_to (length passes)) (map token_actor passes)
  pub among : Each (λ (pass : Token). pass.view.among ≡ length passes) passes
  pub may_step : Each (MayStep table owners links) passes

-- all that these passes have drawn
unfoldable pub all_drawn : List Token → List Drawn
all_drawn [] = []
all_drawn (pass ∷ passes) = pass.view.drawn ++ all_drawn passes

-- a pass's seat was joined into this view, which knows what it knew
abbrev pub IsPartOf : View → Token → Type 0
IsPartOf v pass = (l : ℕ) → IsPrefix (known_of l pass.view) (known_of l v)

-- the seats of these passes were joined into this view, for an opening of `actors` actors
pub record AreGathered (actors : ℕ) (passes : List Token) (v : View) : Type 0 where
  pub drawn : v.drawn ≡ all_drawn passes
  pub once : NoTwice v.drawn
  pub actors_are : v.actors ≡ map token_actor passes
  pub among : v.among ≡ actors
  pub parts : Each (IsPartOf v) passes

-- a link's seat was joined into this view: what it knew begins the journal, and all marks there were drawn
pub record IsSettled (links : List Link) (v : View) (journal : Journal) : Type 0 where
  pub legal : (link : Link) → IsLink links (number_of journal) link → IsLegalJournal link (map done_in journal.entries)
  pub rises : StampsRise (marks_in journal.entries)
  pub begins : IsPrefix (known_of (number_of journal) v) (marks_in journal.entries)
  pub drawn : (m : Mark) → Has m (marks_in journal.entries) → Has (drawn_for (number_of journal) m) v.drawn

-- its link is one of this many
abbrev pub IsBelow : ℕ → Journal → Type 0
IsBelow links journal = number_of journal < links

-- all of them, in the order of their numbers
pub record AreSettled (links : List Link) (v : View) (journals : List Journal) : Type 0 where
  pub numbers : map number_of journals ≡ up_to (length links)
  pub settled : Each (IsSettled links v) journals
