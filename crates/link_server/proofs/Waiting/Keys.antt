-- Each key has its packet: as one comes, goes on to a queue, or leaves.
use Rattle.std.proofs.Common.{◌≡◌, ℕ, if◌then◌else◌, ◌+◌, ◌<◌, ◌≤◌, Bool, true, false, nat_eq, List, [], ◌∷◌, ◌++◌, Option, Some, None, is_some, count_by, get_or, length, refl, sym, ap, ◌∙◌, subst, arith, inl, inr, cond}
use Rattle.std.proofs.lemmas.Bool.{cases_Bool, eq-eqb, eqb-false, eqb-true, ne_eqb}
use Rattle.std.proofs.lemmas.List.{append-nil, map-append, length-append, length-map}
use Rattle.std.proofs.lemmas.List.Recursion.{is_sum_by}
use Rattle.std.proofs.lemmas.List.Sorted.{sum_by-IsPermutation, length_permutation}
use Rattle.std.specs.List.{sum_by}
use Rattle.link_server.proofs.Words.{IsPermutation, Each, Entry, HeldPacket}
use Rattle.slab.specs.Slab.{Slab, Updates, get}
use Rattle.link_steps.proofs.SearchAndFilter.{Each-append}
use Rattle.link_steps.proofs.ListParts.{Each-parts}
use Rattle.link_server.specs.Keys.{packet_told, packet_at, packets_at, queues_at, key_of, keys_of, keys_in, times, count_at_key, IsUnderTick, AreKeyed}
use Rattle.link_server.specs.Queues.{joined, first_of, after_first, pushed}
use Rattle.link_server.proofs.Waiting.Queues.{comes-before, moved-between, joined-first, joined-map, pushed-map}

-- ---- how often a key is among others

share : ℕ → ℕ → ℕ
share key k = cond (nat_eq k key) 1 0

times-sum : (key : ℕ) (keys : List ℕ) → times key keys ≡ sum_by (share key) keys
unfolding share
times-sum key = is_sum_by (times key) (share key) refl (λ k keys. refl)

-- in whatever order
times-same : (key : ℕ) (xs ys : List ℕ) → IsPermutation xs ys → times key ys ≡ times key xs
times-same key xs ys same = times-sum key ys ∙ sum_by-IsPermutation (share key) xs ys same ∙ sym (times-sum key xs)

pub times-append : (key : ℕ) (xs ys : List ℕ) → times key (xs ++ ys) ≡ times key xs + times key ys
times-append key [] ys = omega arith
times-append key (x ∷ xs) ys = let rest = times-append key xs ys in omega (arith, rest)

-- ---- packets that stay

-- another key has the packet that it had
same-packet : (old new : Slab HeldPacket) (key : ℕ) (slot : Option HeldPacket) (k : ℕ) → Updates old new key slot → nat_eq k key ≡ false → packet_at new.slots k ≡ packet_at old.slots k
same-packet old new key slot k updates other = ap packet_told (updates.others k (eqb-false k key other))

own-packet : (old new : Slab HeldPacket) (key : ℕ) (packet : HeldPacket) → Updates old new key (Some packet) → packet_at new.slots key ≡ packet
own-packet old new key packet updates = ap packet_told updates.changed

module _ (old new : Slab HeldPacket) (key : ℕ) (slot : Option HeldPacket) (updates : Updates old new key slot) where
  pub same-packets : (keys : List ℕ) → times key keys ≡ 0 → packets_at new.slots keys ≡ packets_at old.slots keys
  same-packets [] none = refl
  same-packets (k ∷ keys) none =
      elim (cases_Bool (nat_eq k key)) [
        | inl at ↦ absurd (let one : ◌≡◌ {A = ℕ} (if nat_eq k key then 1 else 0) 1 = rw at refl in omega (arith, one, none))
        | inr other ↦ (
            let rest = same-packets keys (omega (arith, none)) in
            ap (λ (r : HeldPacket). r ∷ packets_at new.slots keys) (same-packet old new key slot k updates other) ∙ ap (λ (rs : List HeldPacket). packet_at old.slots k ∷ rs) rest)
      ]

  pub same-queues : (queues : List (List ℕ)) → times key (joined queues) ≡ 0 → queues_at new.slots queues ≡ queues_at old.slots queues
  same-queues [] none = refl
  same-queues (queue ∷ queues) none =
      let parts = times-append key queue (joined queues) in
      ap (λ (rs : List HeldPacket). rs ∷ queues_at new.slots queues) (same-packets queue (omega (arith, parts, none)))
      ∙ ap (λ (rs : List (List HeldPacket)). packets_at old.slots queue ∷ rs) (same-queues queues (omega (arith, parts, none)))

  same-under : (later : List Entry) → times key (keys_of later) ≡ 0 → Each (IsUnderTick old.slots) later → Each (IsUnderTick new.slots) later
  same-under [] none under = tt
  same-under (entry ∷ later) none under =
      elim (cases_Bool (nat_eq entry.1 key)) [
        | inl at ↦ absurd (let one : ◌≡◌ {A = ℕ} (if nat_eq entry.1 key then 1 else 0) 1 = rw at refl in omega (arith, one, none))
        | inr other ↦ (under.0 ∙ sym (ap (λ (r : HeldPacket). r.eligible) (same-packet old new key slot entry.1 updates other)), same-under later (omega (arith, none)) under.1)
      ]

-- ---- which keys are held

held-other : (old new : Slab HeldPacket) (key : ℕ) (slot : Option HeldPacket) (k : ℕ) → Updates old new key slot → nat_eq k key ≡ false → count_at_key new.slots k ≡ count_at_key old.slots k
held-other old new key slot k updates other = ap (λ (o : Option HeldPacket). if is_some o then 1 else 0) (updates.others k (eqb-false k key other))

held-own : (old new : Slab HeldPacket) (key : ℕ) (slot : Option HeldPacket) → Updates old new key slot → count_at_key new.slots key ≡ (if is_some slot then 1 else 0)
held-own old new key slot updates = ap (λ (o : Option HeldPacket). if is_some o then 1 else 0) updates.changed

held-none : (old : Slab HeldPacket) (key : ℕ) → get old key ≡ None → count_at_key old.slots key ≡ 0
held-none old key none = ap (λ (o : Option HeldPacket). if is_some o then 1 else 0) none

-- ---- a key comes

-- the keys with one more
came : (later : List Entry) (queues : List (List ℕ)) (tick key : ℕ) → IsPermutation (key ∷ keys_in later queues) (keys_in (later ++ (tick, key) ∷ []) queues)
came later queues tick key =
    subst (λ (keys : List ℕ). IsPermutation (key ∷ keys_in later queues) (keys ++ joined queues)) (sym (map-append key_of later ((tick, key) ∷ []))) (comes-before (keys_of later) key (joined queues))

-- a key that isn't held is none of these
none-held : (slots : List (Option HeldPacket)) (later : List Entry) (queues : List (List ℕ)) (key : ℕ) → AreKeyed slots later queues → count_at_key slots key ≡ 0 → (times key (keys_of later) ≡ 0) × (times key (joined queues) ≡ 0)
none-held slots later queues key keyed none =
    let once = keyed.once key in
    let parts = times-append key (keys_of later) (joined queues) in
    (omega (arith, once, parts, none), omega (arith, once, parts, none))

pub keyed-came : (old new : Slab HeldPacket) (later : List Entry) (queues : List (List ℕ)) (key : ℕ) (packet : HeldPacket) → AreKeyed old.slots later queues → get old key ≡ None → Updates old new key (Some packet) → count_by is_some new.slots ≡ count_by is_some old.slots + 1
    → AreKeyed new.slots (later ++ (packet.eligible, key) ∷ []) queues
keyed-came old new later queues key packet keyed none updates more =
    let apart = none-held old.slots later queues key keyed (held-none old key none) in
    let moved = came later queues packet.eligible key in
    record {
      once = λ k.
          let all = times-same k _ _ moved in
          let were = keyed.once k in
          elim (cases_Bool (nat_eq k key)) [
            | inl at ↦ (
                let same = eqb-true k key at in
                let one : ◌≡◌ {A = ℕ} (if nat_eq key k then 1 else 0) 1 = rw (eq-eqb key k (sym same)) refl in
                let held : count_at_key new.slots k ≡ 1 = ap (count_at_key new.slots) same ∙ held-own old new key (Some packet) updates in
                let not : count_at_key old.slots k ≡ 0 = ap (count_at_key old.slots) same ∙ held-none old key none in
                omega (arith, all, were, one, held, not))
            | inr other ↦ (
                let zero_more : ◌≡◌ {A = ℕ} (if nat_eq key k then 1 else 0) 0 = rw (ne_eqb key k (λ same. eqb-false k key other (sym same))) refl in
                let held = held-other old new key (Some packet) k updates other in
                omega (arith, all, were, zero_more, held))
          ];
      counted = (let long = length_permutation _ _ moved in let were = keyed.counted in omega (arith, long, were, more));
      under = Each-append (IsUnderTick new.slots) later ((packet.eligible, key) ∷ []) (same-under old new key (Some packet) updates later apart.0 keyed.under) (sym (ap (λ (r : HeldPacket). r.eligible) (own-packet old new key packet updates)), tt);
    }

-- the packets with one more
pub packets-came : (old new : Slab HeldPacket) (later : List Entry) (queues : List (List ℕ)) (key : ℕ) (packet : HeldPacket) → AreKeyed old.slots later queues → get old key ≡ None → Updates old new key (Some packet)
    → (packets_at new.slots (keys_of (later ++ (packet.eligible, key) ∷ [])) ≡ packets_at old.slots (keys_of later) ++ packet ∷ []) × (queues_at new.slots queues ≡ queues_at old.slots queues)
packets-came old new later queues key packet keyed none updates =
    let apart = none-held old.slots later queues key keyed (held-none old key none) in (
      ap (packets_at new.slots) (map-append key_of later ((packet.eligible, key) ∷ [])) ∙ map-append (packet_at new.slots) (keys_of later) (key ∷ [])
          ∙ ap (λ (r : HeldPacket). packets_at new.slots (keys_of later) ++ r ∷ []) (own-packet old new key packet updates)
          ∙ ap (λ (rs : List HeldPacket). rs ++ packet ∷ []) (same-packets old new key (Some packet) updates (keys_of later) apart.0),
      same-queues old new key (Some packet) updates queues apart.1,
    )

-- ---- a key goes on to a queue

pub keyed-moved : (slots : List (Option HeldPacket)) (before after : List Entry) (queues : List (List ℕ)) (tick key place : ℕ) → place < length queues → AreKeyed slots (before ++ (tick, key) ∷ after) queues → AreKeyed slots (before ++ after) (pushed queues place key)
keyed-moved slots before after queues tick key place inside keyed = record {
  once = λ k. times-same k _ _ moved ∙ keyed.once k;
  counted = keyed.counted ∙ sym (length_permutation _ _ moved);
  under = (let parts = Each-parts (IsUnderTick slots) before ((tick, key) ∷ after) keyed.under in Each-append (IsUnderTick slots) before after parts.0 parts.1.1);
} where
  moved : IsPermutation (keys_in (before ++ (tick, key) ∷ after) queues) (keys_in (before ++ after) (pushed queues place key))
  moved =
      rw (map-append key_of before ((tick, key) ∷ after), map-append key_of before after) (moved-between (keys_of before) (keys_of after) queues place key inside)

-- ---- a key comes into a queue

module _ (old new : Slab HeldPacket) (later : List Entry) (queues : List (List ℕ)) (key place : ℕ) (packet : HeldPacket) where
  pub keyed-ready : place < length queues → AreKeyed old.slots later queues → get old key ≡ None → Updates old new key (Some packet) → count_by is_some new.slots ≡ count_by is_some old.slots + 1 → AreKeyed new.slots later (pushed queues place key)
  keyed-ready inside keyed none updates more =
      subst (λ entries. AreKeyed new.slots entries (pushed queues place key)) (append-nil later)
      (keyed-moved new.slots later [] queues packet.eligible key place inside (keyed-came old new later queues key packet keyed none updates more))

  pub packets-ready : AreKeyed old.slots later queues → get old key ≡ None → Updates old new key (Some packet)
      → (packets_at new.slots (keys_of later) ≡ packets_at old.slots (keys_of later)) × (queues_at new.slots (pushed queues place key) ≡ pushed (queues_at old.slots queues) place packet)
  packets-ready keyed none updates =
      let apart = none-held old.slots later queues key keyed (held-none old key none) in (
        same-packets old new key (Some packet) updates (keys_of later) apart.0,
        pushed-map (packet_at new.slots) queues place key
            ∙ ap (pushed (queues_at new.slots queues) place) (own-packet old new key packet updates)
            ∙ ap (λ qs. pushed qs place packet) (same-queues old new key (Some packet) updates queues apart.1),
      )

-- ---- a key leaves

-- the key of the first in the queues is held, and is none of the others
pub first-held : (slots : List (Option HeldPacket)) (later : List Entry) (queues : List (List ℕ)) (key : ℕ) → AreKeyed slots later queues → first_of queues ≡ Some key
    → (count_at_key slots key ≡ 1) × (times key (keys_of later) ≡ 0) × (times key (joined (after_first queues)) ≡ 0)
first-held slots later queues key keyed first =
    let once = keyed.once key in
    let parts = times-append key (keys_of later) (joined queues) in
    let split = ap (times key) (joined-first queues key first) in
    let one : ◌≡◌ {A = ℕ} (if nat_eq key key then 1 else 0) 1 = rw (eq-eqb key key refl) refl in
    let most = held-most (is_some (get_or slots key None)) in
    (omega (arith, once, parts, split, one, most), omega (arith, once, parts, split, one, most), omega (arith, once, parts, split, one, most)) where
      held-most : (b : Bool) → (if b then 1 else 0) ≤ 1
      held-most true = omega arith
      held-most false = omega arith

pub keyed-left : (old new : Slab HeldPacket) (later : List Entry) (queues : List (List ℕ)) (key : ℕ) → AreKeyed old.slots later queues → first_of queues ≡ Some key → Updates old new key None → count_by is_some new.slots + 1 ≡ count_by is_some old.slots
    → AreKeyed new.slots later (after_first queues)
keyed-left old new later queues key keyed first updates fewer =
    let apart = first-held old.slots later queues key keyed first in
    let split = joined-first queues key first in
    record {
      once = λ k.
          let were = keyed.once k in
          let parts = times-append k (keys_of later) (joined queues) in
          let parts_after = times-append k (keys_of later) (joined (after_first queues)) in
          let head = ap (times k) split in
          elim (cases_Bool (nat_eq k key)) [
            | inl at ↦ (
                let same = eqb-true k key at in
                let held : count_at_key new.slots k ≡ 0 = ap (count_at_key new.slots) same ∙ held-own old new key None updates in
                let first_none : times k (keys_of later) ≡ 0 = ap (λ n. times n (keys_of later)) same ∙ apart.1 in
                let then_none : times k (joined (after_first queues)) ≡ 0 = ap (λ n. times n (joined (after_first queues))) same ∙ apart.2 in
                omega (arith, parts_after, held, first_none, then_none))
            | inr other ↦ (
                let zero_more : ◌≡◌ {A = ℕ} (if nat_eq key k then 1 else 0) 0 = rw (ne_eqb key k (λ same. eqb-false k key other (sym same))) refl in
                let held = held-other old new key None k updates other in
                omega (arith, were, parts, parts_after, head, zero_more, held))
          ];
      counted =
          let were = keyed.counted in
          let parts = length-append (keys_of later) (joined queues) in
          let parts_after = length-append (keys_of later) (joined (after_first queues)) in
          let head = ap length split in
          omega (arith, were, parts, parts_after, head, fewer);
      under = same-under old new key None updates later apart.1 keyed.under;
    }

pub packets-left : (old new : Slab HeldPacket) (later : List Entry) (queues : List (List ℕ)) (key : ℕ) → AreKeyed old.slots later queues → first_of queues ≡ Some key → Updates old new key None
    → (packets_at new.slots (keys_of later) ≡ packets_at old.slots (keys_of later)) × (queues_at new.slots (after_first queues) ≡ queues_at old.slots (after_first queues))
packets-left old new later queues key keyed first updates =
    let apart = first-held old.slots later queues key keyed first in
    (same-packets old new key None updates (keys_of later) apart.1, same-queues old new key None updates (after_first queues) apart.2)

-- ---- keys and their packets

-- there are as many packets as keys
pub long-packets : (slots : List (Option HeldPacket)) (later : List Entry) (queues : List (List ℕ)) → length (packets_at slots (keys_of later) ++ joined (queues_at slots queues)) ≡ length (keys_in later queues)
long-packets slots later queues =
    let all = length-append (packets_at slots (keys_of later)) (joined (queues_at slots queues)) in
    let keys = length-append (keys_of later) (joined queues) in
    let first = length-map (keys_of later) (packet_at slots) in
    let rest = ap length (joined-map (packet_at slots) queues) ∙ length-map (joined queues) (packet_at slots) in
    omega (arith, all, keys, first, rest)

pub is-held : (slots : List (Option HeldPacket)) (key : ℕ) → count_at_key slots key ≡ 1 → is_some (get_or slots key None) ≡ true
is-held slots key held = some (is_some (get_or slots key None)) held where
  some : (b : Bool) → ◌≡◌ {A = ℕ} (if b then 1 else 0) 1 → b ≡ true
  some true one = refl
  some false one = absurd (omega (arith, one))

-- what the ticks of entries have, the eligible ticks of their packets have
pub under-tick : (slots : List (Option HeldPacket)) (P : ℕ → Type 0) (entries : List Entry) → Each (IsUnderTick slots) entries → Each (λ entry. P entry.0) entries → Each (λ packet. P packet.eligible) (packets_at slots (keys_of entries))
under-tick slots P [] under each = tt
under-tick slots P (entry ∷ entries) under each = (subst P under.0 each.0, under-tick slots P entries under.1 each.1)
