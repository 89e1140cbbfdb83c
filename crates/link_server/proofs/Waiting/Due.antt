-- The key that falls due first goes on to the queue of its level.
use Rattle.std.proofs.Common.{◌≡◌, ℕ, ◌+◌, ◌-◌, ◌<◌, ◌≤◌, Bool, true, false, if◌then◌else◌, nat_eq, List, ◌∷◌, ◌++◌, Option, None, is_some, get_or, length, refl, sym, ap, ◌∙◌, subst, arith}
use Rattle.std.proofs.lemmas.Bool.{eq-eqb}
use Rattle.std.proofs.lemmas.List.{map-append, length-append, length-map}
use Rattle.std.specs.List.{All}
use Rattle.link_server.proofs.Words.{IsPermutation, Each, HeldPacket}
use Rattle.tick_calendar.specs.Calendar.{Entry, TakesDue}
use Rattle.link_server.specs.Keys.{packet_at, packets_at, queues_at, key_of, keys_of, times, count_at_key, IsUnderTick, AreKeyed, AreInOrder}
use Rattle.link_server.specs.Line.{AreAfter, AreFrom}
use Rattle.link_server.specs.Queues.{joined, pushed}
use Rattle.link_server.proofs.Waiting.Keys.{keyed-moved, times-append, under-tick}
use Rattle.link_server.proofs.Waiting.Queues.{moved-between, pushed-map}
use Rattle.link_server.proofs.Waiting.Order.{order-moved}
use Rattle.link_steps.proofs.ListParts.{Each-from_All, Each-parts}

-- ---- where none is due

pub all-after : (slots : List (Option HeldPacket)) (entries : List Entry) (tick : ℕ) → Each (IsUnderTick slots) entries → All (λ entry. tick < entry.0) entries → AreAfter tick (packets_at slots (keys_of entries))
all-after slots entries tick under after = under-tick slots (λ t. tick < t) entries under (Each-from_All (λ entry. tick < entry.0) entries after)

pub all-from-tick : (slots : List (Option HeldPacket)) (entries : List Entry) (tick : ℕ) → Each (IsUnderTick slots) entries → All (λ entry. tick ≤ entry.0) entries → AreFrom tick (packets_at slots (keys_of entries))
all-from-tick slots entries tick under from = under-tick slots (λ t. tick ≤ t) entries under (Each-from_All (λ entry. tick ≤ entry.0) entries from)

-- ---- where one is

module _ (slots : List (Option HeldPacket)) (old new : List Entry) (queues : List (List ℕ)) (until key : ℕ) (packet : HeldPacket) (taken : TakesDue old new until key) (keyed : AreKeyed slots old queues) (order : AreInOrder (packets_at slots (keys_of old)) (queues_at slots queues) until) (told : packet_at slots key ≡ packet) where
  parted : AreKeyed slots (taken.before ++ (taken.tick, key) ∷ taken.after) queues
  parted = subst (λ entries. AreKeyed slots entries queues) taken.was keyed

  packets-were : packets_at slots (keys_of old) ≡ packets_at slots (keys_of taken.before) ++ packet ∷ packets_at slots (keys_of taken.after)
  packets-were =
      ap (λ entries. packets_at slots (keys_of entries)) taken.was
      ∙ ap (packets_at slots) (map-append key_of taken.before ((taken.tick, key) ∷ taken.after))
      ∙ map-append (packet_at slots) (keys_of taken.before) (key ∷ keys_of taken.after)
      ∙ ap (λ r. packets_at slots (keys_of taken.before) ++ r ∷ packets_at slots (keys_of taken.after)) told

  packets-are : packets_at slots (keys_of new) ≡ packets_at slots (keys_of taken.before) ++ packets_at slots (keys_of taken.after)
  packets-are =
      ap (λ entries. packets_at slots (keys_of entries)) taken.left
      ∙ ap (packets_at slots) (map-append key_of taken.before taken.after)
      ∙ map-append (packet_at slots) (keys_of taken.before) (keys_of taken.after)

  queues-are : (place : ℕ) → queues_at slots (pushed queues place key) ≡ pushed (queues_at slots queues) place packet
  queues-are place = pushed-map (packet_at slots) queues place key ∙ ap (pushed (queues_at slots queues) place) told

  order-were : AreInOrder (packets_at slots (keys_of taken.before) ++ packet ∷ packets_at slots (keys_of taken.after)) (queues_at slots queues) until
  order-were = subst (λ later. AreInOrder later (queues_at slots queues) until) packets-were order

  pub due-fewer : length (packets_at slots (keys_of new)) < length (packets_at slots (keys_of old))
  due-fewer =
      let were = ap length packets-were ∙ length-append (packets_at slots (keys_of taken.before)) (packet ∷ packets_at slots (keys_of taken.after)) in
      let are = ap length packets-are ∙ length-append (packets_at slots (keys_of taken.before)) (packets_at slots (keys_of taken.after)) in
      omega (arith, were, are)

  module _ (inside : packet.level - 1 < length queues) where
    pub due-keyed : AreKeyed slots new (pushed queues (packet.level - 1) key)
    due-keyed =
        subst (λ entries. AreKeyed slots entries (pushed queues (packet.level - 1) key)) (sym taken.left)
        (keyed-moved slots taken.before taken.after queues taken.tick key (packet.level - 1) inside parted)

    pub due-packets : IsPermutation (packets_at slots (keys_of old) ++ joined (queues_at slots queues)) (packets_at slots (keys_of new) ++ joined (queues_at slots (pushed queues (packet.level - 1) key)))
    due-packets =
        let before = packets_at slots (keys_of taken.before) in
        let after = packets_at slots (keys_of taken.after) in
        let long = length-map queues (packets_at slots) in
        subst (λ later. IsPermutation (later ++ joined (queues_at slots queues)) (packets_at slots (keys_of new) ++ joined (queues_at slots (pushed queues (packet.level - 1) key)))) (sym packets-were)
        (subst (λ later. IsPermutation ((before ++ packet ∷ after) ++ joined (queues_at slots queues)) (later ++ joined (queues_at slots (pushed queues (packet.level - 1) key)))) (sym packets-are)
        (subst (λ ready. IsPermutation ((before ++ packet ∷ after) ++ joined (queues_at slots queues)) ((before ++ after) ++ joined ready)) (sym (queues-are (packet.level - 1)))
        (moved-between before after (queues_at slots queues) (packet.level - 1) packet (omega (arith, long, inside)))))

  pub due-order : AreInOrder (packets_at slots (keys_of new)) (queues_at slots (pushed queues (packet.level - 1) key)) until
  due-order =
      let before = packets_at slots (keys_of taken.before) in
      let after = packets_at slots (keys_of taken.after) in
      let under = Each-parts (IsUnderTick slots) taken.before ((taken.tick, key) ∷ taken.after) parted.under in
      let own : taken.tick ≡ packet.eligible = under.1.0 ∙ ap (λ (r : HeldPacket). r.eligible) told in
      let due = taken.due in
      subst (λ later. AreInOrder later (queues_at slots (pushed queues (packet.level - 1) key)) until) (sym packets-are)
      (subst (λ ready. AreInOrder (before ++ after) ready until) (sym (queues-are (packet.level - 1)))
      (order-moved before after (queues_at slots queues) until packet order-were
      (subst (λ tick. Each (λ s. tick < s.eligible) before) own (under-tick slots (λ t. taken.tick < t) taken.before under.0 (Each-from_All (λ entry. taken.tick < entry.0) taken.before taken.earliest)))
      (subst (λ tick. Each (λ s. tick ≤ s.eligible) after) own (under-tick slots (λ t. taken.tick ≤ t) taken.after under.1.1 (Each-from_All (λ entry. taken.tick ≤ entry.0) taken.after taken.least)))
      (omega (arith, own, due))))

-- the key that is taken out is held
pub due-held : (slots : List (Option HeldPacket)) (old new : List Entry) (queues : List (List ℕ)) (until key : ℕ) → TakesDue old new until key → AreKeyed slots old queues → count_at_key slots key ≡ 1
due-held slots old new queues until key taken keyed =
    let once = keyed.once key in
    let parts = times-append key (keys_of old) (joined queues) in
    let were = ap (λ entries. times key (keys_of entries)) taken.was ∙ ap (times key) (map-append key_of taken.before ((taken.tick, key) ∷ taken.after)) ∙ times-append key (keys_of taken.before) (key ∷ keys_of taken.after) in
    let one : ◌≡◌ {A = ℕ} (if nat_eq key key then 1 else 0) 1 = rw (eq-eqb key key refl) refl in
    let most = held-most (is_some (get_or slots key None)) in
    omega (arith, once, parts, were, one, most) where
      held-most : (b : Bool) → (if b then 1 else 0) ≤ 1
      held-most true = omega arith
      held-most false = omega arith

-- one entry less is left
pub due-one : {old new : List Entry} {until key : ℕ} → TakesDue old new until key → length new + 1 ≡ length old
due-one taken =
    let were = ap length taken.was ∙ length-append taken.before ((taken.tick, _) ∷ taken.after) in
    let are = ap length taken.left ∙ length-append taken.before taken.after in
    omega (arith, were, are)
