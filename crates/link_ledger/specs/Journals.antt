-- The journal of a link lists its steps in the order in which they were made: the stamp, the actor, the ask and the reply of
-- each. What was asked and replied is the link's history, which is legal where each reply is the one that the rules of a
-- link give at that point. So the marks of a journal, its stamps, actors and asks, determine its replies.
use Rattle.std.specs.Prelude.{ℕ, ◌==◌, List, [], ◌∷◌, map, filter}
use Rattle.net_units.specs.Numbers.{actor_number}
use Rattle.link_steps.specs.Journals.{history_of}
use Rattle.link_steps.specs.Replies.{reply_to}
use Rattle.link_steps.specs.Split.{Link}
use Rattle.link_steps.specs.declared.replies.Entry.{Entry as Done}
use Rattle.link_steps.specs.declared.replies.Reply.{Reply}
use Rattle.step_stamp.specs.declared.marks.Mark.{Mark}
use Rattle.link_ledger.specs.declared.entries.Entry.{Entry}

-- an entry as a mark, and as an ask with its reply
abbrev pub mark_in : Entry → Mark
mark_in e = record { stamp = e.stamp; actor = e.actor; ask = e.ask }

abbrev pub done_in : Entry → Done
done_in e = record { ask = e.ask; reply = e.reply }

-- the marks of a journal, and its history, newest first
abbrev pub marks_in : List Entry → List Mark
marks_in entries = map mark_in entries

abbrev pub history_in : List Entry → List Done
history_in entries = history_of (map done_in entries)

-- the entries of an actor
abbrev pub entries_of : ℕ → List Entry → List Entry
entries_of actor entries = filter (λ (e : Entry). actor_number e.actor == actor) entries

-- a mark with a reply
abbrev pub journal_entry_of : Mark → Reply → Entry
journal_entry_of m reply = record { stamp = m.stamp; actor = m.actor; ask = m.ask; reply = reply }

abbrev pub history_entry_of : Mark → Reply → Done
history_entry_of m reply = record { ask = m.ask; reply = reply }

-- the journal that marks tell after a history: each ask gets the reply of the rules
unfoldable pub told_after : Link → List Done → List Mark → List Entry
told_after link past [] = []
told_after link past (m ∷ ms) = journal_entry_of m (reply_to link past m.ask) ∷ told_after link (history_entry_of m (reply_to link past m.ask) ∷ past) ms

-- and from the beginning
abbrev pub journal_of : Link → List Mark → List Entry
journal_of link marks = told_after link [] marks
