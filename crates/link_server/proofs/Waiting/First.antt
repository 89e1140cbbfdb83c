-- The packet that is first in the queues is the next, and leaves with its key.
use Rattle.std.proofs.Common.{◌≡◌, ℕ, List, [], ◌++◌, Option, Some, None, map, sym, ap, ◌∙◌, subst}
use Rattle.std.proofs.lemmas.List.Sorted.{IsPermutation-trans}
use Rattle.link_server.proofs.Words.{IsPermutation, Entry, HeldPacket}
use Rattle.slab.specs.Slab.{Slab, Updates}
use Rattle.link_steps.proofs.SearchAndFilter.{Each-append}
use Rattle.link_server.specs.Keys.{packet_at, packets_at, queues_at, keys_of, AreKeyed, AreInOrder}
use Rattle.link_server.specs.Line.{IsAfter, AreAfter, IsNext}
use Rattle.link_server.specs.Queues.{joined, first_of, after_first}
use Rattle.link_server.proofs.Waiting.Keys.{packets-left}
use Rattle.link_server.proofs.Waiting.Queues.{after-map, after-none, first-map, joined-map, joined-none}
use Rattle.link_server.proofs.Waiting.Order.{first-next, order-left}

-- where the queues are empty none is eligible
pub none-next : (slots : List (Option HeldPacket)) (all later : List HeldPacket) (queues left : List (List ℕ)) (tick : ℕ) → None ≡ first_of queues → left ≡ after_first queues → AreAfter tick later → IsPermutation all (later ++ joined (queues_at slots queues))
    → AreAfter tick (later ++ joined (queues_at slots left)) × IsPermutation all (later ++ joined (queues_at slots left))
none-next slots all later queues left tick none is after moved =
    let same : left ≡ queues = is ∙ after-none queues (sym none) in
    let empty : joined (queues_at slots queues) ≡ [] = joined-map (packet_at slots) queues ∙ ap (map (packet_at slots)) (joined-none queues (sym none)) in (
      subst (λ qs. AreAfter tick (later ++ joined (queues_at slots qs))) (sym same)
          (subst (λ packets. AreAfter tick (later ++ packets)) (sym empty) (Each-append (IsAfter tick) later [] after tt)),
      subst (λ qs. IsPermutation all (later ++ joined (queues_at slots qs))) (sym same) moved,
    )

module _ (old new : Slab HeldPacket) (later : List Entry) (queues left : List (List ℕ)) (key until : ℕ) (keyed : AreKeyed old.slots later queues) (order : AreInOrder (packets_at old.slots (keys_of later)) (queues_at old.slots queues) until) (first : first_of queues ≡ Some key) (is : left ≡ after_first queues) (updates : Updates old new key None) where
  packets-same : packets_at new.slots (keys_of later) ≡ packets_at old.slots (keys_of later)
  packets-same = (packets-left old new later queues key keyed first updates).0

  queues-same : queues_at new.slots left ≡ after_first (queues_at old.slots queues)
  queues-same = ap (queues_at new.slots) is ∙ (packets-left old new later queues key keyed first updates).1 ∙ after-map (packet_at old.slots) queues

  pub left-order : AreInOrder (packets_at new.slots (keys_of later)) (queues_at new.slots left) until
  left-order =
      subst (λ packets. AreInOrder packets (queues_at new.slots left) until) (sym packets-same)
      (subst (λ qs. AreInOrder (packets_at old.slots (keys_of later)) qs until) (sym queues-same) (order-left (packets_at old.slots (keys_of later)) (queues_at old.slots queues) until order))

  pub left-next : (all : List HeldPacket) (packet : HeldPacket) → packet_at old.slots key ≡ packet → AreAfter until (packets_at old.slots (keys_of later)) → IsPermutation all (packets_at old.slots (keys_of later) ++ joined (queues_at old.slots queues))
      → IsNext until all (packets_at new.slots (keys_of later) ++ joined (queues_at new.slots left)) packet
  left-next all packet told after moved =
      let next = first-next until (packets_at old.slots (keys_of later)) (queues_at old.slots queues) packet order after (first-map (packet_at old.slots) queues key first ∙ ap Some told) in
      subst (λ packets. IsNext until all (packets ++ joined (queues_at new.slots left)) packet) (sym packets-same)
      (subst (λ qs. IsNext until all (packets_at old.slots (keys_of later) ++ joined qs) packet) (sym queues-same) (record {
        others = IsPermutation-trans _ _ _ moved next.others;
        eligible = next.eligible;
        after = next.after;
      }))
