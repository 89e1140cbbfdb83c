-- The values under the keys of a list, as one is changed, comes, or leaves.
use Rattle.std.proofs.Common.{◌≡◌, ◌≢◌, ℕ, zero, suc, ◌+◌, ◌<◌, ◌≤◌, List, [], ◌∷◌, ◌++◌, Option, Some, None, IsSome, is_some, count_by, length, get_or, set, remove, refl, sym, ap, ◌∙◌, subst, true≢false, cond, inl, inr, arith}
use Rattle.std.proofs.lemmas.List.{get_or-set_same, get_or-set_other, get_or_past, length-append}
use Rattle.std.proofs.lemmas.List.Elements.{filter_map-append}
use Rattle.std.proofs.lemmas.List.Edits.{length-remove}
use Rattle.std.proofs.lemmas.List.Sums.{sum_by-set}
use Rattle.std.proofs.lemmas.Bool.{cases_Bool, cases_lt, cases_eq, eqb-false}
use Rattle.std.specs.Prelude.{nat_eq}
use Rattle.slab.specs.Slab.{Slab, Updates, get}
use Rattle.std.specs.List.{cons_option}
use Rattle.link_server.specs.KeyedList.{Listed, position, slot_at, items_at, AreHeld, IsNoneOf, AreApart, AreKeys}

-- ---- keys that stand once

pub apart-last : (key : ℕ) (keys : List ℕ) → IsNoneOf keys key → AreApart keys → AreApart (keys ++ key ∷ [])
apart-last key [] none apart = (tt, tt)
apart-last key (other ∷ keys) none apart = (last keys apart.0, apart-last key keys none.1 apart.1) where
  last : (keys : List ℕ) → IsNoneOf keys other → IsNoneOf (keys ++ key ∷ []) other
  last [] nothing = (λ same. none.0 (sym same), tt)
  last (k ∷ keys) others = (others.0, last keys others.1)

none-left : (other : ℕ) (keys : List ℕ) (place : ℕ) → place < length keys → IsNoneOf keys other → IsNoneOf (remove keys place) other
none-left other [] place inside none = absurd (omega (arith, inside))
none-left other (k ∷ keys) zero inside none = none.1
none-left other (k ∷ keys) (suc place) inside none = (none.0, none-left other keys place (omega (arith, inside)) none.1)

pub apart-left : (keys : List ℕ) (place : ℕ) → place < length keys → AreApart keys → AreApart (remove keys place)
apart-left [] place inside apart = absurd (omega (arith, inside))
apart-left (k ∷ keys) zero inside apart = apart.1
apart-left (k ∷ keys) (suc place) inside apart = (none-left k keys place (omega (arith, inside)) apart.0, apart-left keys place (omega (arith, inside)) apart.1)

-- it is none of those that are left
left-none : (keys : List ℕ) (place d : ℕ) → place < length keys → AreApart keys → IsNoneOf (remove keys place) (get_or keys place d)
left-none [] place d inside apart = absurd (omega (arith, inside))
left-none (k ∷ keys) zero d inside apart = apart.0
left-none (k ∷ keys) (suc place) d inside apart = (other keys place apart.0 (omega (arith, inside)), left-none keys place d (omega (arith, inside)) apart.1) where
  other : (keys : List ℕ) (place : ℕ) → IsNoneOf keys k → place < length keys → k ≢ get_or keys place d
  other [] place none inside = absurd (omega (arith, inside))
  other (j ∷ keys) zero none inside = λ same. none.0 (sym same)
  other (j ∷ keys) (suc place) none inside = other keys place none.1 (omega (arith, inside))

-- a key that stands past them all is none of them
none-of : (keys : List ℕ) (key : ℕ) → length keys ≤ position keys key → IsNoneOf keys key
unfolding position
none-of [] key past = tt
none-of (other ∷ keys) key past =
    elim (cases_Bool (nat_eq other key)) [
      | inl same ↦ absurd (let here = rw same at past in omega (arith, here))
      | inr not ↦ (let later = rw not at past in ((λ same. eqb-false other key not same), none-of keys key (omega (arith, later))))
    ]

module _ {T : Type 0} where
  -- ---- each key has a value

  -- as many values as keys
  pub length-items : (slots : List (Option T)) (keys : List ℕ) → AreHeld slots keys → length (items_at slots keys) ≡ length keys
  length-items slots [] held = refl
  length-items slots (key ∷ keys) held = one (slot_at slots key) held.0 (length-items slots keys held.1) where
    one : (slot : Option T) → IsSome slot → length (items_at slots keys) ≡ length keys → length (cons_option slot (items_at slots keys)) ≡ suc (length keys)
    one None some rest = absurd (true≢false (sym some))
    one (Some value) some rest = ap suc rest

  pub held-at : (slots : List (Option T)) (keys : List ℕ) (place d : ℕ) → AreHeld slots keys → place < length keys → IsSome (slot_at slots (get_or keys place d))
  held-at slots [] place d held inside = absurd (omega (arith, inside))
  held-at slots (key ∷ keys) zero d held inside = held.0
  held-at slots (key ∷ keys) (suc place) d held inside = held-at slots keys place d held.1 (omega (arith, inside))

  -- the value at a place is the one under the key there
  pub item-at : (slots : List (Option T)) (keys : List ℕ) (place d : ℕ) (value e : T) → AreHeld slots keys → place < length keys → slot_at slots (get_or keys place d) ≡ Some value → value ≡ get_or (items_at slots keys) place e
  item-at slots [] place d value e held inside at = absurd (omega (arith, inside))
  item-at slots (key ∷ keys) zero d value e held inside at = sym (ap (λ (slot : Option T). get_or (cons_option slot (items_at slots keys)) 0 e) at)
  item-at slots (key ∷ keys) (suc place) d value e held inside at = one (slot_at slots key) held.0 (item-at slots keys place d value e held.1 (omega (arith, inside)) at) where
    one : (slot : Option T) → IsSome slot → value ≡ get_or (items_at slots keys) place e → value ≡ get_or (cons_option slot (items_at slots keys)) (suc place) e
    one None some rest = absurd (true≢false (sym some))
    one (Some first) some rest = rest

  -- a key that is seen among the others stands among them
  pub key-inside : (slots : List (Option T)) (keys : List ℕ) (spare key : ℕ) (list : Listed T) → AreKeys slots keys → record { items = items_at slots keys; keys = keys; spare = spare } ≡ list → position list.keys key < length list.items → position keys key < length keys
  key-inside slots keys spare key list are same inside =
      let long = length-items slots keys are.held in
      let own = subst (λ (l : Listed T). position l.keys key < length l.items) (sym same) inside in
      omega (arith, own, long)

  -- ---- other keys keep their values

  abbrev SameBut : List (Option T) → List (Option T) → ℕ → Type 0
  SameBut old new key = (other : ℕ) → other ≢ key → slot_at new other ≡ slot_at old other

  same-items : (old new : List (Option T)) (key : ℕ) → SameBut old new key → (keys : List ℕ) → IsNoneOf keys key → items_at new keys ≡ items_at old keys
  same-items old new key same [] none = refl
  same-items old new key same (other ∷ keys) none =
      ap (λ (slot : Option T). cons_option slot (items_at new keys)) (same other none.0) ∙ ap (cons_option (slot_at old other)) (same-items old new key same keys none.1)

  same-held : (old new : List (Option T)) (key : ℕ) → SameBut old new key → (keys : List ℕ) → IsNoneOf keys key → AreHeld old keys → AreHeld new keys
  same-held old new key same [] none held = tt
  same-held old new key same (other ∷ keys) none held = (subst IsSome (sym (same other none.0)) held.0, same-held old new key same keys none.1 held.1)

  -- ---- one is changed

  -- where it has a value, the key is one of the slots
  some-inside : (slots : List (Option T)) (key : ℕ) → IsSome (slot_at slots key) → key < length slots
  some-inside slots key some = elim (cases_lt key (length slots)) [
    | inl inside ↦ inside
    | inr past ↦ absurd (true≢false (sym some ∙ ap is_some (get_or_past slots key None past)))
  ]

  module _ (slots : List (Option T)) (key : ℕ) (value : T) where
    slot-set : IsSome (slot_at slots key) → slot_at (set slots key (Some value)) key ≡ Some value
    slot-set some = get_or-set_same slots key (Some value) None (some-inside slots key some)

    slot-others : SameBut slots (set slots key (Some value)) key
    slot-others other apart = get_or-set_other slots key other (Some value) None apart

    count-set : IsSome (slot_at slots key) → count_by is_some (set slots key (Some value)) ≡ count_by is_some slots
    count-set some =
        let was = sum_by-set (λ (slot : Option T). cond (is_some slot) 1 0) slots key (Some value) None (some-inside slots key some) in
        let one = ap {B = ℕ} (λ b. cond b 1 0) some in
        omega (arith, was, one)

    held-set : (keys : List ℕ) → AreHeld slots keys → AreHeld (set slots key (Some value)) keys
    held-set [] held = tt
    held-set (other ∷ keys) held = (
      elim (cases_eq other key) [
        | inl same ↦ subst (λ k. IsSome (slot_at (set slots key (Some value)) k)) (sym same) (ap is_some (slot-set (subst (λ k. IsSome (slot_at slots k)) same held.0)))
        | inr apart ↦ subst IsSome (sym (slot-others other apart)) held.0
      ],
      held-set keys held.1,
    )

  pub items-set : (slots : List (Option T)) (keys : List ℕ) (place d : ℕ) (value : T) → AreHeld slots keys → AreApart keys → place < length keys → items_at (set slots (get_or keys place d) (Some value)) keys ≡ set (items_at slots keys) place value
  items-set slots [] place d value held apart inside = absurd (omega (arith, inside))
  items-set slots (key ∷ keys) zero d value held apart inside =
      ap (λ (slot : Option T). cons_option slot (items_at (set slots key (Some value)) keys)) (slot-set slots key value held.0)
      ∙ ap (λ (rest : List T). value ∷ rest) (same-items slots (set slots key (Some value)) key (slot-others slots key value) keys apart.0)
      ∙ first (slot_at slots key) held.0 where
        first : (slot : Option T) → IsSome slot → value ∷ items_at slots keys ≡ set (cons_option slot (items_at slots keys)) 0 value
        first None some = absurd (true≢false (sym some))
        first (Some was) some = refl
  items-set slots (key ∷ keys) (suc place) d value held apart inside =
      ap (λ (slot : Option T). cons_option slot (items_at (set slots (get_or keys place d) (Some value)) keys)) (slot-others slots (get_or keys place d) value key (other keys place apart.0 (omega (arith, inside))))
      ∙ ap (cons_option (slot_at slots key)) (items-set slots keys place d value held.1 apart.1 (omega (arith, inside)))
      ∙ later (slot_at slots key) held.0 where
        other : (keys : List ℕ) (place : ℕ) → IsNoneOf keys key → place < length keys → key ≢ get_or keys place d
        other [] place none inside = absurd (omega (arith, inside))
        other (k ∷ keys) zero none inside = λ same. none.0 (sym same)
        other (k ∷ keys) (suc place) none inside = other keys place none.1 (omega (arith, inside))

        later : (slot : Option T) → IsSome slot → cons_option slot (set (items_at slots keys) place value) ≡ set (cons_option slot (items_at slots keys)) (suc place) value
        later None some = absurd (true≢false (sym some))
        later (Some was) some = refl

  pub keys-set : (slots : List (Option T)) (keys : List ℕ) (place d : ℕ) (value : T) → AreKeys slots keys → place < length keys → AreKeys (set slots (get_or keys place d) (Some value)) keys
  keys-set slots keys place d value are inside = record {
    held = held-set slots (get_or keys place d) value keys are.held;
    apart = are.apart;
    whole = count-set slots (get_or keys place d) value (held-at slots keys place d are.held inside) ∙ are.whole;
  }

  -- ---- a key with a value is one of theirs

  -- as many slots have a value as these keys at least, which are apart
  many : (keys : List ℕ) (slots : List (Option T)) → AreHeld slots keys → AreApart keys → length keys ≤ count_by is_some slots
  many [] slots held apart = omega arith
  many (key ∷ keys) slots held apart =
      let rest = many keys (set slots key None) (same-held slots (set slots key None) key (λ other not. get_or-set_other slots key other None None not) keys apart.0 held.1) apart.1 in
      let fewer = sum_by-set (λ (slot : Option T). cond (is_some slot) 1 0) slots key None None (some-inside slots key held.0) in
      let one = ap {B = ℕ} (λ b. cond b 1 0) held.0 in
      omega (arith, rest, fewer, one)

  pub some-listed : (slots : List (Option T)) (keys : List ℕ) (key : ℕ) → AreKeys slots keys → IsSome (slot_at slots key) → position keys key < length keys
  some-listed slots keys key are some = elim (cases_lt (position keys key) (length keys)) [
    | inl inside ↦ inside
    | inr past ↦ absurd (let more = many (key ∷ keys) slots (some, are.held) (none-of keys key past, are.apart) in let whole = are.whole in omega (arith, more, whole))
  ]

  -- ---- one comes

  -- a key without a value is none of theirs
  vacant-none : (slots : List (Option T)) (key : ℕ) → slot_at slots key ≡ None → (keys : List ℕ) → AreHeld slots keys → IsNoneOf keys key
  vacant-none slots key vacant [] held = tt
  vacant-none slots key vacant (other ∷ keys) held = (λ same. true≢false (sym (subst (λ k. IsSome (slot_at slots k)) same held.0) ∙ ap is_some vacant), vacant-none slots key vacant keys held.1)

  held-last : (slots : List (Option T)) (key : ℕ) → IsSome (slot_at slots key) → (keys : List ℕ) → AreHeld slots keys → AreHeld slots (keys ++ key ∷ [])
  held-last slots key some [] held = (some, tt)
  held-last slots key some (other ∷ keys) held = (held.0, held-last slots key some keys held.1)

  module _ (old new : Slab T) (key : ℕ) (value : T) (keys : List ℕ) (are : AreKeys old.slots keys) (vacant : get old key ≡ None) (updates : Updates old new key (Some value)) where
    pub none-yet : IsNoneOf keys key
    none-yet = vacant-none old.slots key vacant keys are.held

    pub items-came : items_at new.slots (keys ++ key ∷ []) ≡ items_at old.slots keys ++ value ∷ []
    items-came =
        filter_map-append (slot_at new.slots) keys (key ∷ [])
        ∙ ap (λ (slot : Option T). items_at new.slots keys ++ cons_option slot []) updates.changed
        ∙ ap (λ (values : List T). values ++ value ∷ []) (same-items old.slots new.slots key updates.others keys none-yet)

    pub keys-came : count_by is_some new.slots ≡ count_by is_some old.slots + 1 → AreKeys new.slots (keys ++ key ∷ [])
    keys-came more = record {
      held = held-last new.slots key (ap is_some updates.changed) keys (same-held old.slots new.slots key updates.others keys none-yet are.held);
      apart = apart-last key keys none-yet are.apart;
      whole = (let were = are.whole in let long = length-append keys (key ∷ []) in omega (arith, were, long, more));
    }

  -- ---- one leaves

  held-left : (slots : List (Option T)) (keys : List ℕ) (place : ℕ) → place < length keys → AreHeld slots keys → AreHeld slots (remove keys place)
  held-left slots [] place inside held = absurd (omega (arith, inside))
  held-left slots (k ∷ keys) zero inside held = held.1
  held-left slots (k ∷ keys) (suc place) inside held = (held.0, held-left slots keys place (omega (arith, inside)) held.1)

  items-removed : (slots : List (Option T)) (keys : List ℕ) (place : ℕ) → place < length keys → AreHeld slots keys → items_at slots (remove keys place) ≡ remove (items_at slots keys) place
  items-removed slots [] place inside held = absurd (omega (arith, inside))
  items-removed slots (k ∷ keys) zero inside held = one (slot_at slots k) held.0 where
    one : (slot : Option T) → IsSome slot → items_at slots keys ≡ remove (cons_option slot (items_at slots keys)) 0
    one None some = absurd (true≢false (sym some))
    one (Some value) some = refl
  items-removed slots (k ∷ keys) (suc place) inside held =
      ap (cons_option (slot_at slots k)) (items-removed slots keys place (omega (arith, inside)) held.1) ∙ one (slot_at slots k) held.0 where
        one : (slot : Option T) → IsSome slot → cons_option slot (remove (items_at slots keys) place) ≡ remove (cons_option slot (items_at slots keys)) (suc place)
        one None some = absurd (true≢false (sym some))
        one (Some value) some = refl

  module _ (old new : Slab T) (keys : List ℕ) (place d : ℕ) (are : AreKeys old.slots keys) (inside : place < length keys) (updates : Updates old new (get_or keys place d) None) where
    pub items-left : items_at new.slots (remove keys place) ≡ remove (items_at old.slots keys) place
    items-left =
        same-items old.slots new.slots (get_or keys place d) updates.others (remove keys place) (left-none keys place d inside are.apart)
        ∙ items-removed old.slots keys place inside are.held

    pub keys-left : count_by is_some new.slots + 1 ≡ count_by is_some old.slots → AreKeys new.slots (remove keys place)
    keys-left fewer = record {
      held = same-held old.slots new.slots (get_or keys place d) updates.others (remove keys place) (left-none keys place d inside are.apart) (held-left old.slots keys place inside are.held);
      apart = apart-left keys place inside are.apart;
      whole = (let were = are.whole in let long = length-remove keys place inside in omega (arith, were, long, fewer));
    }
