-- There is at most one proof that a line's keys and packets are as they have to be.
use Rattle.std.specs.Prelude.{ℕ, suc, List, [], ◌∷◌, Option}
use Rattle.std.specs.Coded.{×_prop, Unit-prop, le_prop}
use mathlib.Core.HLevel.{×₃_prop}
use native.Mathlib.Nat.{ℕ_set}
use Rattle.tick_calendar.specs.Calendar.{Entry}
use Rattle.link_server.specs.declared.queue.held_packet.HeldPacket.{HeldPacket}
use Rattle.link_server.specs.Keys.{AreKeyed, AreInOrder}
use Rattle.link_server.specs.Order.{IsAtLevel, IsSooner, IsSoonerThanEach, ArrivedBefore, AreByArrival, AreByTick, AreByLevel}
use Rattle.link_server.specs.SoundProp.{Each-prop}

-- ---- order

IsSoonerThanEach-prop : (packets : List HeldPacket) (r : HeldPacket) → IsProp (IsSoonerThanEach packets r)
IsSoonerThanEach-prop packets r = Each-prop (IsSooner r) (λ s. Prim.hlevel le_prop) packets

AreByArrival-prop : (packets : List HeldPacket) → IsProp (AreByArrival packets)
AreByArrival-prop [] = Unit-prop
AreByArrival-prop (r ∷ packets) = ×_prop (Each-prop (ArrivedBefore r) (λ s. le_prop) packets) (AreByArrival-prop packets)

AreByTick-prop : (packets : List HeldPacket) → IsProp (AreByTick packets)
AreByTick-prop [] = Unit-prop
AreByTick-prop (r ∷ packets) = ×_prop (IsSoonerThanEach-prop packets r) (AreByTick-prop packets)

AreByLevel-prop : (level : ℕ) (queues : List (List HeldPacket)) → IsProp (AreByLevel level queues)
AreByLevel-prop level [] = Unit-prop
AreByLevel-prop level (queue ∷ queues) = ×₃_prop (Each-prop (IsAtLevel level) (λ r. Prim.hlevel ℕ_set) queue) (AreByTick-prop queue) (AreByLevel-prop (suc level) queues)

pub AreInOrder-prop : (later : List HeldPacket) (queues : List (List HeldPacket)) (until : ℕ) → IsProp (AreInOrder later queues until)
AreInOrder-prop later queues until = Prim.hlevel (le_prop, Each-prop, AreByArrival-prop, AreByLevel-prop, IsSoonerThanEach-prop)

-- ---- keys

pub AreKeyed-prop : (slots : List (Option HeldPacket)) (later : List Entry) (queues : List (List ℕ)) → IsProp (AreKeyed slots later queues)
AreKeyed-prop slots later queues = Prim.hlevel (ℕ_set, Each-prop)
