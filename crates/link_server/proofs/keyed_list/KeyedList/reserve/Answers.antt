-- The memory that is taken changes no value, no key and no stamp, and stamps that are numbered anew are those of the same keys.
use Rattle.std.proofs.Common.{◌≡◌, ℕ, List, Option, length, ap, sym, subst, arith}
use Rattle.link_server.specs.KeyedList.{AreKeys, AreStamps}
use Rattle.link_server.proofs.KeyPlaces.{stamps-many}
use Rattle.link_server.proofs.keyed_list.KeyedList.reserve.Goals as goal

still : {T : Type 0} (slots more : List (Option T)) (keys wide stamps long : List ℕ) (under : List ℕ) (next : ℕ) → more ≡ slots → wide ≡ keys → long ≡ stamps → AreKeys slots keys → (AreStamps keys stamps under next → AreStamps wide long under next) × AreKeys more wide
still slots more keys wide stamps long under next slotted keyed stamped are = (
  λ were. subst (λ ss. AreStamps wide ss under next) (sym stamped) (subst (λ ks. AreStamps ks stamps under next) (sym keyed) were),
  subst (λ s. AreKeys s wide) (sym slotted) (subst (AreKeys slots) (sym keyed) are),
)

pub invariant_of-self-in_err-reserve_stamps : goal.invariant_of-self-in_err-reserve_stamps
invariant_of-self-in_err-reserve_stamps g c =
    let t = c.self.inside in
    let are = c.self.invariant.0 in
    let both = still t.slots.slots c.reserve.new.self.slots t.keys.items c.reserve-2.new.self.items t.stamps.items c.reserve-3.new.self.items t.stamp_under.items t.next (ap (λ slab. slab.slots) c.reserve.ensures.rest_kept) c.reserve-2.ensures.items c.reserve-3.ensures.items are in
    let room = c.self.invariant.1.1 in
    let many = ap length c.reserve-2.ensures.items in (
      both.1,
      (
        c.reserve_stamps.ensures.stamps c.reserve-2.new.self.items c.reserve-3.new.self.items t.next (both.0 c.self.invariant.1.0),
        record {
          stamps_left = (let left = room.stamps_left in omega (arith, left));
          slots_hold = (let hold = room.slots_hold in omega (arith, hold, many, c.reserve.ensures.capacity));
          keys_hold = (let hold = room.keys_hold in omega (arith, hold, many, c.reserve-2.ensures.capacity));
          stamps_hold = (let hold = room.stamps_hold in omega (arith, hold, many, c.reserve-3.ensures.capacity));
          under_holds = λ some. absurd (omega (arith, some));
        },
      ),
    )

-- the keys have their stamps
pub renew_stamps-self-inside-requires-clause-are : goal.renew_stamps-self-inside-requires-clause-are
renew_stamps-self-inside-requires-clause-are g c =
    let t = c.self.inside in
    let both = still t.slots.slots c.reserve.new.self.slots t.keys.items c.reserve-2.new.self.items t.stamps.items c.reserve-3.new.self.items t.stamp_under.items t.next (ap (λ slab. slab.slots) c.reserve.ensures.rest_kept) c.reserve-2.ensures.items c.reserve-3.ensures.items c.self.invariant.0 in
    subst (λ keys. AreStamps keys c.reserve-3.new.self.items c.reserve_stamps.new.under.items t.next) (sym c.deref.ensures.value)
    (c.reserve_stamps.ensures.stamps c.reserve-2.new.self.items c.reserve-3.new.self.items t.next (both.0 c.self.invariant.1.0))

pub invariant_of-self-2 : goal.invariant_of-self-2
invariant_of-self-2 g c =
    let t = c.self.inside in
    let are = c.self.invariant.0 in
    let both = still t.slots.slots c.reserve.new.self.slots t.keys.items c.reserve-2.new.self.items t.stamps.items c.reserve-3.new.self.items t.stamp_under.items t.next (ap (λ slab. slab.slots) c.reserve.ensures.rest_kept) c.reserve-2.ensures.items c.reserve-3.ensures.items are in
    let many = ap length c.reserve-2.ensures.items in
    let as_many = stamps-many t.keys.items t.stamps.items t.stamp_under.items t.next c.self.invariant.1.0 in
    let whole = both.1.whole in (
      both.1,
      (
        subst (λ keys. AreStamps keys c.renew_stamps-self-inside.new.stamps.items c.renew_stamps-self-inside.new.under.items c.renew_stamps-self-inside.result) c.deref.ensures.value c.renew_stamps-self-inside.ensures.are,
        record {
          stamps_left = c.renew_stamps-self-inside.ensures.left;
          slots_hold = omega (arith, whole, c.in_ok-reserve.ensures.room);
          keys_hold = omega (arith, many, t.keys.ok, c.reserve-2.ensures.len, c.in_ok-reserve-2.ensures.ok);
          stamps_hold = omega (arith, many, as_many, t.stamps.ok, c.reserve-3.ensures.len, c.in_ok-reserve-3.ensures.ok, c.renew_stamps-self-inside.ensures.capacity);
          under_holds = λ some. (let above = c.in_ok-reserve_stamps.ensures.room in omega (arith, above, c.capacity.ensures.value, c.renew_stamps-self-inside.ensures.long));
        },
      ),
    )
