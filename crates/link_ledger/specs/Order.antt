-- What holds of a link whenever its lock is free. The link stands for what its journal records; that history is legal and
-- has the hop guarantee; the journal's marks are the list of the link's seat; its stamps rise, and the seat has seen them;
-- each ask about a channel was asked by its owner, and each reserve's next link is one of the network's. No stamp is over
-- 65 * 2^40, so the journal is shorter than 2^47, and the link's clock is early enough for every step.
use Rattle.std.specs.Prelude.{◌≡◌, ℕ, ◌*◌, ◌^◌, ◌≤◌, List}
use Rattle.net_units.specs.declared.numbers.ActorNo.{ActorNo}
use Rattle.atomic_table.specs.Seated.{TableId}
use Rattle.link_steps.specs.HopGuarantee.{HopGuarantee}
use Rattle.link_steps.specs.Legal.{IsLegal}
use Rattle.link_steps.specs.Lists.{Each}
use Rattle.link_steps.specs.Split.{Link, SplitFits}
use Rattle.link_steps.specs.declared.replies.Entry.{Entry as Done}
use Rattle.step_stamp.specs.Marks.{StampsRise}
use Rattle.step_stamp.specs.declared.marks.Mark.{Mark}
use Rattle.link_ledger.specs.Journals.{marks_in, history_in}
use Rattle.link_ledger.specs.Owners.{OwnsAsk, NextBelow}
use Rattle.link_ledger.specs.declared.entries.Entry.{Entry}

-- a link under its lock, to a contract: its number, the link as the rules see it, its journal, the list of its seat and the
-- largest stamp that the seat has seen, and the stamps that it belongs to
pub record HeldLink : Type 0 where
  pub number : ℕ
  pub rules : Link
  pub entries : List Entry
  pub list : List Mark
  pub seen : ℕ
  pub table : TableId

-- `stands` says which histories the link stands for
pub record IsInOrder (stands : List Done → Type 0) (owners : List ActorNo) (links : ℕ) (held : HeldLink) : Type 0 where
  pub split : SplitFits held.rules
  pub stands_for : stands (history_in held.entries)
  pub legal : IsLegal held.rules (history_in held.entries)
  pub guaranteed : HopGuarantee held.rules.shape (history_in held.entries)
  pub marks : marks_in held.entries ≡ held.list
  pub rises : StampsRise held.list
  pub most_seen : Each (λ (m : Mark). m.stamp ≤ held.seen) held.list
  pub owned : Each (λ (m : Mark). OwnsAsk owners m.actor m.ask) held.list
  pub next : Each (λ (m : Mark). NextBelow links m.ask) held.list
  pub most : Each (λ (m : Mark). m.stamp ≤ 65 * 2 ^ 40) held.list

-- the same of marks alone, as a pass knows them
pub record AreInOrder (owners : List ActorNo) (links : ℕ) (marks : List Mark) : Type 0 where
  pub rises : StampsRise marks
  pub owned : Each (λ (m : Mark). OwnsAsk owners m.actor m.ask) marks
  pub next : Each (λ (m : Mark). NextBelow links m.ask) marks
  pub most : Each (λ (m : Mark). m.stamp ≤ 65 * 2 ^ 40) marks

-- out of the lock: nothing is said of the link itself
abbrev pub IsOrdered : List ActorNo → ℕ → HeldLink → Type 0
IsOrdered owners links held = IsInOrder (λ h. Unit {0}) owners links held
