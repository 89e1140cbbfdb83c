-- No key stands among those before it, so each gets a stamp of its own.
use Rattle.std.proofs.Common.{◌+◌, ◌<◌, ℕ, List, [], ◌∷◌, ◌++◌, length, take, get_or, set, refl, sym, ap, ◌∙◌, subst, arith}
use Rattle.std.proofs.lemmas.List.{length-set, length-take-le, take_more}
use Rattle.link_server.specs.KeyedList.{AreApart, AreStamps}
use Rattle.link_server.proofs.KeyPlaces.{none-before, stamps-came, stamps-many, stamps-none}
use Rattle.link_server.proofs.keyed_list.renew_stamps.Goals as goal

-- one key more
one-more : (keys : List ℕ) (i : ℕ) (stamps under : List ℕ) (stamp : ℕ) → AreApart keys → i < length keys → get_or keys i 0 < length under → AreStamps (take i keys) stamps under stamp → AreStamps (take (i + 1) keys) (stamps ++ stamp ∷ []) (set under (get_or keys i 0) stamp) (stamp + 1)
one-more keys i stamps under stamp apart inside below are =
    subst (λ ks. AreStamps ks (stamps ++ stamp ∷ []) (set under (get_or keys i 0) stamp) (stamp + 1)) (sym (take_more keys i 0 inside))
    (stamps-came (take i keys) stamps under stamp are (get_or keys i 0) (none-before keys i 0 apart inside) below)

pub loop-key-init : goal.loop-key-init
loop-key-init c = record {
  are = subst (λ items. AreStamps [] items c.args.under.now.items 0) (sym c.clear.ensures.items) (stamps-none c.args.under.now.items);
  counted = refl;
  capacity = refl;
  long = refl;
}

pub push_reserved-requires : goal.push_reserved-requires
push_reserved-requires c =
    let keys = c.args.keys.now in
    let i = c.loop-key.key-index in
    let so_far = stamps-many (take i keys) c.loop-key.stamps.items c.loop-key.under.items c.loop-key.stamp c.loop-key.invariant.are in
    let few = length-take-le i keys (omega (arith, c.loop-key-test.true)) in
    let before = stamps-many keys c.args.stamps.now.items c.args.under.now.items c.args.next c.requires.are in
    omega (arith, so_far, few, before, c.loop-key-test.true, c.loop-key.stamps.ok, c.args.stamps.now.ok, c.loop-key.invariant.capacity, c.clear.ensures.capacity)

pub index_mut-requires : goal.index_mut-requires
index_mut-requires c =
    let below = c.requires.are.inside c.loop-key.key-index 0 c.loop-key-test.true in
    omega (arith, below, c.loop-key.invariant.long, c.loop-key.under.ok)

pub loop-key-preserved : goal.loop-key-preserved
loop-key-preserved c =
    let keys = c.args.keys.now in
    let i = c.loop-key.key-index in
    let under = c.loop-key.under.items in
    let stamp = c.loop-key.stamp in
    let first = c.requires.are.inside c.loop-key.key-index 0 c.loop-key-test.true in
    let long = c.loop-key.invariant.long in
    let below : get_or keys i 0 < length under = omega (arith, first, long) in
    record {
      are = subst (λ items. AreStamps (take (i + 1) keys) items (set under (get_or keys i 0) stamp) (stamp + 1)) (sym c.push_reserved.ensures.items)
          (one-more keys i c.loop-key.stamps.items under stamp c.requires.apart c.loop-key-test.true below c.loop-key.invariant.are);
      counted = ap (λ n. n + 1) c.loop-key.invariant.counted;
      capacity = c.push_reserved.ensures.capacity ∙ c.loop-key.invariant.capacity;
      long = length-set under (get_or keys i 0) stamp ∙ long;
    }
