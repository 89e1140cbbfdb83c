use Rattle.std.proofs.Common.{◌≡◌, ℕ, List, length, map, take, drop}
use Rattle.link_steps.specs.declared.replies.Entry.{Entry}
use Rattle.link_steps.specs.Split.{Link}
use Rattle.plane_workers.specs.Batches.{AreAhead, MadeInTurn}
use Rattle.plane_workers.specs.Desks.{rules_at, stands_at, left_at}
use Rattle.plane_workers.specs.declared.desk.Desk.{Desk}
use Rattle.plane_workers.proofs.BatchReplies.{HasAll}
use Rattle.plane_workers.proofs.batches.gather.Given as goal

-- the replies so far, and the asks that are left
abbrev pub invariant-loop-to : goal.invariant-loop-to
invariant-loop-to g l = record {
  long : length l.desks ≡ length l.initial.desks;
  same : map (λ (d : Desk g.row.L.Denot). d.link) l.desks ≡ map (λ (d : Desk g.row.L.Denot). d.link) l.initial.desks;
  has : HasAll left_at (drop l.to-index l.asks) l.desks;
  told : (links : List Link) (hs : ℕ → List Entry) → AreAhead (rules_at g.L.LinkStep.link_of) (stands_at g.L.LinkStep.stands_for) left_at links hs l.asks l.initial.desks
      → (mid : ℕ → List Entry) × (MadeInTurn links hs (take l.to-index l.asks) l.replies.items mid × AreAhead (rules_at g.L.LinkStep.link_of) (stands_at g.L.LinkStep.stands_for) left_at links mid (drop l.to-index l.asks) l.desks);
}
