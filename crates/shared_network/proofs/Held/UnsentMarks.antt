-- Marks in which nothing is submitted on a channel: those of its owner tell it, since nobody else asks for the channel.
use Rattle.std.proofs.Common.{◌≡◌, ℕ, eqb, true, false, cond, List, [], ◌∷◌, map, refl}
use Rattle.shared_network.proofs.Words.{eqb-false, actor_number, channel_number, ActorNo, ChanNo, Each, marks_of, Mark, IsOff, IsUnsent, NoneSent, mark_in, done_in, marks_in, history_in, OwnsAsk, IsOwner, Entry}
use Rattle.link_steps.specs.declared.replies.Entry.{Entry as Done}
use Rattle.link_steps.proofs.SearchAndFilter.{Each-if, Each-map, Each-mapped}
use Rattle.link_steps.proofs.ListParts.{Each-reverse}
use Rattle.shared_network.proofs.Held.HoldsByOwner.{off-ask, off-marks}
use Rattle.channel_laws.proofs.UnsentSubmits.{off-unsent}

abbrev pub AreUnsent : ℕ → List Mark → Type 0
AreUnsent c ms = Each (λ (m : Mark). IsUnsent c m.ask) ms

pub owner-unsent : (owners : List ActorNo) (a : ActorNo) (chan : ChanNo) (ms : List Mark) → IsOwner owners a chan → Each (λ (m : Mark). OwnsAsk owners m.actor m.ask) ms → AreUnsent (channel_number chan) (marks_of (actor_number a) ms) → AreUnsent (channel_number chan) ms
owner-unsent owners a chan [] owner owned each = tt
owner-unsent owners a chan (m ∷ ms) owner owned each =
    elim (eqb (actor_number m.actor) (actor_number a)) as (λ b. eqb (actor_number m.actor) (actor_number a) ≡ b → AreUnsent (channel_number chan) (cond b (m ∷ marks_of (actor_number a) ms) (marks_of (actor_number a) ms)) → AreUnsent (channel_number chan) (m ∷ ms)) [
      | true ↦ λ on is. (is.0, owner-unsent owners a chan ms owner owned.1 is.1)
      | false ↦ λ off is. (off-unsent (channel_number chan) m.ask (off-ask owners a m.actor chan m.ask owner (eqb-false (actor_number m.actor) (actor_number a) off) owned.0), owner-unsent owners a chan ms owner owned.1 is)
    ] refl each

-- marks without one of the owner
pub others-unsent : (owners : List ActorNo) (a : ActorNo) (chan : ChanNo) (ms : List Mark) → IsOwner owners a chan → marks_of (actor_number a) ms ≡ [] → Each (λ (m : Mark). OwnsAsk owners m.actor m.ask) ms → AreUnsent (channel_number chan) ms
others-unsent owners a chan ms owner none owned = Each-if (λ (m : Mark). IsOff (channel_number chan) m.ask) (λ (m : Mark). IsUnsent (channel_number chan) m.ask) ms (λ m off. off-unsent (channel_number chan) m.ask off) (off-marks owners a chan ms owner none owned)

-- the history of entries with such marks
pub history-unsent : (c : ℕ) (entries : List Entry) → AreUnsent c (marks_in entries) → NoneSent c (history_in entries)
history-unsent c entries unsent =
    Each-reverse (λ (d : Done). IsUnsent c d.ask) (map done_in entries) (Each-map (λ (d : Done). IsUnsent c d.ask) done_in entries (Each-mapped (λ (m : Mark). IsUnsent c m.ask) mark_in entries unsent))
