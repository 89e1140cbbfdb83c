-- A pass keeps an entry of its own for each step that it has made. The marks of these entries are all that its seat has
-- drawn. What the seat knows of a link has of its actor exactly these, in their order, each at its place. So the marks
-- that it knows, whose replies follow from the rules, show it the whole journal up to there.
use Rattle.std.specs.Prelude.{◌≡◌, ℕ, ◌+◌, ◌-◌, ◌<◌, ◌≤◌, ◌==◌, ◌⊎◌, Some, List, [], ◌∷◌, ◌++◌, length, map, filter, slice_get}
use mathlib.Core.List.{IsPrefix}
use Rattle.net_units.specs.Numbers.{actor_number, link_number}
use Rattle.net_units.specs.declared.numbers.ActorNo.{ActorNo}
use Rattle.link_steps.specs.Legal.{IsLegal}
use Rattle.link_steps.specs.Lists.{Each}
use Rattle.link_steps.specs.Replies.{reply_to}
use Rattle.link_steps.specs.Split.{Link}
use Rattle.link_steps.specs.declared.asks.Ask.{Ask}
use Rattle.link_steps.specs.declared.replies.Reply.{Reply}
use Rattle.step_stamp.specs.Lists.{Has}
use Rattle.step_stamp.specs.Marks.{StampsRise, drawn_for, marks_of}
use Rattle.step_stamp.specs.Views.{known_of}
use Rattle.step_stamp.specs.declared.marks.Drawn.{Drawn}
use Rattle.step_stamp.specs.declared.marks.Mark.{Mark}
use Rattle.step_stamp.specs.declared.views.View.{View}
use Rattle.link_ledger.specs.Journals.{marks_in, history_in, journal_of, entries_of}
use Rattle.link_ledger.specs.declared.entries.Entry.{Entry}
use Rattle.link_ledger.specs.declared.entries.OwnEntry.{OwnEntry}

-- an own entry as a mark, as a mark drawn for its link, and as an entry of the link's journal
abbrev pub own_mark : ActorNo → OwnEntry → Mark
own_mark actor e = record { stamp = e.stamp; actor = actor; ask = e.ask }

abbrev pub own_drawn : ActorNo → OwnEntry → Drawn
own_drawn actor e = drawn_for (link_number e.link) (own_mark actor e)

abbrev pub own_entry : ActorNo → OwnEntry → Entry
own_entry actor e = record { stamp = e.stamp; actor = actor; ask = e.ask; reply = e.reply }

-- the own entries of a link
abbrev pub own_at : ℕ → List OwnEntry → List OwnEntry
own_at l own = filter (λ (e : OwnEntry). link_number e.link == l) own

-- an own entry stands at its place in what is known of its link
pub record IsAtPlace (actor : ActorNo) (v : View) (e : OwnEntry) : Type 0 where
  pub least : 1 ≤ e.place
  pub here : slice_get (known_of (link_number e.link) v) (e.place - 1) ≡ Some (own_mark actor e)

-- what a view knows, beside the own entries
pub record IsExact (actor : ActorNo) (v : View) (own : List OwnEntry) : Type 0 where
  pub drawn : v.drawn ≡ map (own_drawn actor) own
  pub known : (l : ℕ) → marks_of (actor_number actor) (known_of l v) ≡ map (own_mark actor) (own_at l own)
  pub placed : Each (IsAtPlace actor v) own

-- the actor's entries in the journal that a view knows of a link are the own entries of that link, replies included
abbrev pub Owns : Link → ℕ → ActorNo → View → List OwnEntry → Type 0
Owns link l actor v own = entries_of (actor_number actor) (journal_of link (known_of l v)) ≡ map (own_entry actor) (own_at l own)

-- the reply of an own entry is the one of the rules after the asks that are known before its mark, wherever that stands
abbrev pub IsAnswered : Link → List Mark → ActorNo → OwnEntry → Type 0
IsAnswered link known actor e = (before after : List Mark) → known ≡ before ++ own_mark actor e ∷ after → e.reply ≡ reply_to link (history_in (journal_of link before)) e.ask

-- each own entry of the link is answered so
abbrev pub AreAnswered : Link → ℕ → ActorNo → View → List OwnEntry → Type 0
AreAnswered link l actor v own = Each (IsAnswered link (known_of l v) actor) (own_at l own)

-- one step under the lock, as the seat of the pass tells it: the journal before it, of which the pass knew a beginning, and the
-- entry made, which is the journal's next one. Its stamp is above all that the pass had seen, and so above those of all marks
-- that it knew of this link or of any other
pub record Acted (link : Link) (l : ℕ) (actor : ActorNo) (ask : Ask) (pass pass' : View) (entries : List Entry) (e : OwnEntry) : Type 0 where
  pub legal : IsLegal link (history_in (entries ++ own_entry actor e ∷ []))
  pub begins : IsPrefix (known_of l pass) (marks_in entries)
  pub rises : StampsRise (marks_in entries)
  pub own : (m : Mark) → Has m (marks_in entries) → Has (actor_number m.actor) pass.actors → Has (drawn_for l m) pass.drawn
  pub knows : known_of l pass' ≡ marks_in entries ++ own_mark actor e ∷ []
  pub others : (k : ℕ) → (k ≡ l → ⊥) → known_of k pass' ≡ known_of k pass
  pub drawn : pass'.drawn ≡ pass.drawn ++ drawn_for l (own_mark actor e) ∷ []
  pub actors : pass'.actors ≡ pass.actors
  pub among : pass'.among ≡ pass.among
  pub above : pass.seen < e.stamp
  pub above_known : (k : ℕ) → Each (λ (m : Mark). m.stamp < e.stamp) (known_of k pass)
  pub above_drawn : Each (λ (d : Drawn). d.mark.stamp < e.stamp) pass.drawn
  pub saw : pass'.seen ≡ e.stamp
  pub link_is : link_number e.link ≡ l
  pub ask_is : e.ask ≡ ask
  pub place : e.place ≡ length entries + 1
  pub reply : e.reply ≡ reply_to link (history_in entries) ask

-- the journal after a step that wanted memory: as it was, or with one entry of this actor and ask at its end
abbrev pub EnteredOneAtMost : ActorNo → Ask → List Entry → List Entry → Type 0
EnteredOneAtMost actor ask entries entries' = (entries' ≡ entries) ⊎ ((stamp : ℕ) × (reply : Reply) × (entries' ≡ entries ++ record { stamp = stamp; actor = actor; ask = ask; reply = reply } ∷ []))

-- a step that wanted memory: it has drawn one stamp at most
pub record DrewOneAtMost (pass pass' : View) : Type 0 where
  pub lost : List Drawn
  pub one : length lost ≤ 1
  pub drawn : pass'.drawn ≡ pass.drawn ++ lost
