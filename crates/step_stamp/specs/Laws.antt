-- What the rule on the word comes to, stated of all views together. Each stamp from 1 to the word was drawn once: it stands in
-- the drawn list of exactly one view, and no drawn list has a stamp twice. Each link's list stands in exactly one view, and each
-- actor is in exactly one.
use Rattle.std.specs.Prelude.{◌≡◌, ℕ, ◌<◌, ◌≤◌, List, slice_index}
use mathlib.Core.Option.{some}
use lib.ListN.{get_elem?}
use Rattle.step_stamp.specs.declared.marks.Drawn.{Drawn}
use Rattle.step_stamp.specs.declared.views.Opening.{Opening}
use Rattle.step_stamp.specs.declared.views.View.{View}
use Rattle.step_stamp.specs.Lists.{Has}
use Rattle.step_stamp.specs.Marks.{NoTwice}
use Rattle.step_stamp.specs.Rule.{Stands, HoldsList, HoldsActor, KeepsRule}

-- P holds of exactly one view
pub record IsOfOne (views : List View) (P : View → Type 0) : Type 0 where
  pub by : ℕ
  pub stands : Stands views by P
  pub only : (j : ℕ) (u : View) → get_elem? views j ≡ some u → P u → j ≡ by

-- it has drawn a mark with this stamp
pub record HasDrawn (stamp : ℕ) (v : View) : Type 0 where
  pub drawn : Drawn
  pub here : Has drawn v.drawn
  pub stamp_is : drawn.mark.stamp ≡ stamp

pub record StandOnce (about : Opening) (words : List ℕ) (views : List View) : Type 0 where
  pub stamps : (n : ℕ) → 1 ≤ n → n ≤ slice_index words 0 → IsOfOne views (HasDrawn n)
  pub once : (j : ℕ) (u : View) → get_elem? views j ≡ some u → NoTwice u.drawn
  pub lists : (l : ℕ) → l < about.links → IsOfOne views (HoldsList l)
  pub actors : (a : ℕ) → a < about.actors → IsOfOne views (HoldsActor a)

abbrev pub EachStandsOnce : Type 0
EachStandsOnce = (about : Opening) (words : List ℕ) (views : List View) → KeepsRule about words views → StandOnce about words views
