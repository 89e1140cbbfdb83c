-- The rule through a change of views. What is owed is that the views changed fit as the ones before them did: where a view
-- is cut in two or two are put together and all lists stay; where one link or one actor goes to a new view; and where all
-- that a view has goes to another for good.
use Rattle.std.proofs.Common.{◌≡◌, ◌≢◌, ℕ, zero, suc, eqb, ◌≤◌, cond, List, [], ◌∷◌, ◌++◌, length, set, refl, sym, ap, ◌∙◌, subst, inl, ⊎_elim, arith}
use Rattle.std.proofs.lemmas.Bool.{cond_both, eq-eqb, eqb-true}
use mathlib.Core.Option.{some, some-ne-none, some-injective}
use mathlib.Core.List.{IsPrefix}
use lib.ListN.{get_elem?}
use Rattle.atomic_table.specs.Table.{State, Splits, Joins}
use Rattle.atomic_table.proofs.Lists.{at_set, at_snoc}
use Rattle.link_steps.specs.Lists.{Each}
use Rattle.step_stamp.specs.declared.marks.Drawn.{Drawn}
use Rattle.step_stamp.specs.declared.marks.Mark.{Mark}
use Rattle.step_stamp.specs.declared.views.Opening.{Opening}
use Rattle.step_stamp.specs.declared.views.View.{View}
use Rattle.step_stamp.specs.Lists.{Has}
use Rattle.step_stamp.specs.Placing.{hand_at, Placed}
use Rattle.step_stamp.specs.Rule.{Tally, Begins, OfOneLink, Fits, Stands, HoldsList, HoldsActor, KeepsRule}
use Rattle.step_stamp.specs.Marks.{NoTwice}
use Rattle.step_stamp.specs.Views.{shelf, known_of, nobody, copy}
use Rattle.step_stamp.proofs.ListMembers.{begins-nothing}
use Rattle.step_stamp.proofs.MarkPlaces.{hand-set, hand-more, placed-same}
use Rattle.step_stamp.proofs.NewestShelf.{shelf-cases, no-known, no-shelf}
use Rattle.step_stamp.proofs.ViewsRemain.{length-set, stands-cut, stands-joined, stands-moved}

-- ---- a fact of each view

-- after a change of one
pub views-set : (F : ℕ → View → Type 0) (views : List View) (id : ℕ) (w : View) → ((j : ℕ) (u : View) → (j ≡ id → ⊥) → get_elem? views j ≡ some u → F j u) → F id w
    → (j : ℕ) (u : View) → get_elem? (set views id w) j ≡ some u → F j u
views-set F views id w others mine j u e =
    ⊎_elim
    (λ (x : (j ≡ id) × (w ≡ u)). subst (λ (y : ℕ × View). F y.0 y.1) (λ i. (sym x.0 i, x.1 i)) mine)
    (λ (x : (j ≢ id) × (get_elem? views j ≡ some u)). others j u x.0 x.1)
    (at_set views id j w u e)

-- with a new one, wherever it stands, and at the end
views-more : (F : ℕ → View → Type 0) (views : List View) (w : View) → ((j : ℕ) (u : View) → get_elem? views j ≡ some u → F j u) → ((j : ℕ) → F j w)
    → (j : ℕ) (u : View) → get_elem? (views ++ w ∷ []) j ≡ some u → F j u
views-more F views w others new j u e = ⊎_elim (λ was. others j u was) (λ (same : w ≡ u). subst (F j) same (new j)) (at_snoc views w u j e)

pub views-end : (F : ℕ → View → Type 0) (views : List View) (w : View) (n : ℕ) → length views ≡ n → ((j : ℕ) (u : View) → get_elem? views j ≡ some u → F j u) → F n w
    → (j : ℕ) (u : View) → get_elem? (views ++ w ∷ []) j ≡ some u → F j u
views-end F [] w n long others mine zero u e = subst (λ (x : ℕ × View). F x.0 x.1) (λ i. (sym long i, some-injective w u e i)) mine
views-end F [] w n long others mine (suc j) u e = absurd (some-ne-none u (sym e))
views-end F (x ∷ views) w n long others mine zero u e = others zero u e
views-end F (x ∷ views) w n long others mine (suc j) u e =
    views-end (λ k. F (suc k)) views w (length views) refl (λ k y at. others (suc k) y at) (subst (λ k. F k w) (sym long) mine) j u e

-- of two views apart, what the second one has once the first has changed
pub other-view : (F : ℕ → View → Type 0) (views : List View) (id other : ℕ) (both w : View) → (other ≡ id → ⊥) → ((j : ℕ) (u : View) → get_elem? views j ≡ some u → F j u) → get_elem? (set views id both) other ≡ some w → F other w
other-view F views id other both w apart all there =
    ⊎_elim (λ (t : (other ≡ id) × (both ≡ w)). absurd (apart t.0)) (λ (t : (other ≢ id) × (get_elem? views other ≡ some w)). all other w t.1) (at_set views id other both w there)

-- ---- hands through a change that leaves each mark where it is

pub hands-cut : (views : List View) (id : ℕ) (v left right : View) → get_elem? views id ≡ some v → left.hand ≡ v.hand → right.hand ≡ [] → (k : ℕ) → hand_at (set views id left ++ right ∷ []) k ≡ hand_at views k
hands-cut views id v left right at same none k = hand-more (set views id left) right none k ∙ hand-set views id v left at same k

pub hands-joined : (views : List View) (id : ℕ) (v : View) (other : ℕ) (w both : View) → get_elem? views id ≡ some v → get_elem? (set views id both) other ≡ some w → both.hand ≡ v.hand → w.hand ≡ []
    → (k : ℕ) → hand_at (set (set views id both) other nobody) k ≡ hand_at views k
hands-joined views id v other w both at there same none k = hand-set (set views id both) other w nobody there (sym none) k ∙ hand-set views id v both at same k

-- ---- views that fit anywhere

-- nobody speaks of no link
no-link : OfOneLink nobody
no-link = record { link = 0; lists = λ k h. absurd h; drawn = refl; alone = tt }

-- a view with an actor, or with a list of a link, isn't spent
pub acts-live : (a : ℕ) (v : View) → Has a v.actors → v ≡ nobody → ⊥
acts-live a v has is = subst (λ (x : View). Has a x.actors) is has

pub lists-live : (l : ℕ) (v : View) → Has l v.links → v ≡ nobody → ⊥
lists-live l v has is = subst (λ (x : View). Has l x.links) is has

-- a view with an actor isn't one without
pub acts_some : {X : Type 0} (a : ℕ) (actors : List ℕ) → Has a actors → actors ≡ [] → X
acts_some a actors has none = absurd (subst (Has a) none has)

-- one without a shelf knows nothing, so it has seen all that
pub no-shelf-seen : (top l : ℕ) → Each (λ (m : Mark). m.stamp ≤ top) (known_of l nobody)
no-shelf-seen top l = subst (Each (λ (m : Mark). m.stamp ≤ top)) (sym (no-known l)) tt

-- one that knows nothing
pub nobody-fits : (t : Tally) (j : ℕ) → Fits t j nobody
nobody-fits t j = record { seen = omega arith; saw = record { known = λ l. no-shelf-seen 0 l; drawn = tt }; among = inl refl; apart = tt; once = tt; knows = λ l. no-shelf (t.log l) l; has = λ l h. absurd h; acts = λ a h. absurd h; drew = tt; holds = tt; spent = λ _. refl; lone = λ _. no-link }

-- a copy with a part of what a view knows
pub copy-fits : (t : Tally) (id j : ℕ) (v : View) (hand : List Drawn) (l : ℕ) (known : List Mark) → (v ≡ nobody → ⊥) → Fits t id v → Each (λ (d : Drawn). Has d t.draws) hand → NoTwice hand → IsPrefix known (t.log l)
    → Each (λ (m : Mark). m.stamp ≤ v.seen) known → Fits t j (copy v hand (shelf l known [] []))
copy-fits t id j v hand l known live f holds once begins seen = record {
  seen = f.seen;
  saw = record {
    known = λ k. shelf-cases (λ s. Each (λ (m : Mark). m.stamp ≤ v.seen) s.known) k (shelf l known [] []) [] (λ _. seen) (λ _. no-shelf-seen v.seen k);
    drawn = tt;
  };
  among = f.among;
  knows = λ k. shelf-cases (λ s. Begins (t.log k) s) k (shelf l known [] []) []
      (λ (e : l ≡ k). record { known = subst (λ n. IsPrefix known (t.log n)) e begins; first = begins-nothing (t.log k); second = begins-nothing (t.log k) })
      (λ _. no-shelf (t.log k) k);
  has = λ k h. absurd h;
  apart = tt;
  acts = λ a h. absurd h;
  drew = tt;
  holds = holds;
  once = once;
  spent = λ none. absurd (live (f.spent none));
  lone = λ _. record { link = l; lists = λ k h. absurd h; drawn = refl; alone = (refl, tt) };
}

-- ---- who has something of another has it still; what the other had is moved

pub stays : (other id at k : ℕ) → at ≡ k → (k ≡ other → ⊥) → cond (eqb at other) id at ≡ k
stays other id at k is elsewhere = cond_both (eqb at other) id at (λ n. n ≡ k) (λ on. absurd (elsewhere (sym is ∙ eqb-true at other on))) (λ _. is)

pub moves : (other id at : ℕ) → at ≡ other → cond (eqb at other) id at ≡ id
moves other id at is = ap (λ b. cond b id at) (eq-eqb at other is)

module _ {S : Type 0} where
  abbrev pub Law : Opening → State S View → Type 0
  Law about s = KeepsRule about s.words s.views

  -- a view is cut in two, and all lists stay
  pub splits : (about : Opening) (id : ℕ) (v left right : View) → left.links ≡ v.links → left.actors ≡ v.actors
      → ((s : State S View) → get_elem? s.views id ≡ some v → (draws : List Drawn) (log : ℕ → List Mark) → Placed draws log (hand_at s.views) → Placed draws log (hand_at (set s.views id left ++ right ∷ [])))
      → ((t : Tally) → Fits t id v → Fits t id left × ((j : ℕ) → Fits t j right)) → Splits (Law about) id v left right
  splits about id v left right links actors hands how s h at =
      let t = h.tally in
      let parts = how t (h.fits id v at) in
      record {
        tally = t;
        opening = h.opening;
        word = h.word;
        numbered = h.numbered;
        room = h.room;
        acting = h.acting;
        rises = h.rises;
        drawn = h.drawn;
        placed = hands s at h.tally.draws h.tally.log h.placed;
        seated = λ l lt. stands-cut (HoldsList l) s.views id (t.seat l) v left right at (λ has. subst (Has l) (sym links) has) (h.seated l lt);
        owned = λ a lt. stands-cut (HoldsActor a) s.views id (t.owner a) v left right at (λ has. subst (Has a) (sym actors) has) (h.owned a lt);
        fits = views-more (Fits t) (set s.views id left) right (views-set (Fits t) s.views id left (λ j u _ e. h.fits j u e) parts.0) parts.1;
      }

  -- a view is put together with a copy, and all lists stay
  pub joins : (about : Opening) (id : ℕ) (v : View) (other : ℕ) (w both : View) → both.hand ≡ v.hand → w.hand ≡ [] → both.links ≡ v.links → both.actors ≡ v.actors → w.links ≡ [] → w.actors ≡ []
      → ((t : Tally) → Fits t id v → Fits t other w → Fits t id both) → Joins (Law about) id v other w both nobody
  joins about id v other w both same none links actors no_links no_actors how s h at apart there =
      let t = h.tally in
      let theirs = other-view (Fits t) s.views id other both w apart h.fits there in
      record {
        tally = t;
        opening = h.opening;
        word = h.word;
        numbered = h.numbered;
        room = h.room;
        acting = h.acting;
        rises = h.rises;
        drawn = h.drawn;
        placed = placed-same h.tally.draws h.tally.log (hand_at s.views) (hand_at (set (set s.views id both) other nobody)) (hands-joined s.views id v other w both at there same none) h.placed;
        seated = λ l lt. stands-joined (HoldsList l) s.views id other (t.seat l) v w both at there (λ has. subst (Has l) (sym links) has) (λ has. subst (Has l) no_links has) (h.seated l lt);
        owned = λ a lt. stands-joined (HoldsActor a) s.views id other (t.owner a) v w both at there (λ has. subst (Has a) (sym actors) has) (λ has. subst (Has a) no_actors has) (h.owned a lt);
        fits = views-set (Fits t) (set s.views id both) other nobody
            (λ j u _ e. views-set (Fits t) s.views id both (λ i x _ e'. h.fits i x e') (how t (h.fits id v at) theirs) j u e)
            (nobody-fits t other);
      }

  -- a view is cut in two, and what it had of one link or one actor goes to the new one
  pub hands-on : (about : Opening) (id : ℕ) (v left right : View) → left.hand ≡ v.hand → right.hand ≡ [] → (seat_now owner_now : (ℕ → ℕ) → ℕ → ℕ → ℕ)
      → ((views : List View) → get_elem? views id ≡ some v → (seat : ℕ → ℕ) (l : ℕ) → Stands views (seat l) (HoldsList l) → Stands (set views id left ++ right ∷ []) (seat_now seat (length views) l) (HoldsList l))
      → ((views : List View) → get_elem? views id ≡ some v → (owner : ℕ → ℕ) (a : ℕ) → Stands views (owner a) (HoldsActor a) → Stands (set views id left ++ right ∷ []) (owner_now owner (length views) a) (HoldsActor a))
      → ((t : Tally) (new : ℕ) → Fits t id v
      → Fits (record t { seat = seat_now t.seat new; owner = owner_now t.owner new }) id left
      × Fits (record t { seat = seat_now t.seat new; owner = owner_now t.owner new }) new right
      × ((j : ℕ) (u : View) → (j ≡ id → ⊥) → Fits t j u → Fits (record t { seat = seat_now t.seat new; owner = owner_now t.owner new }) j u))
      → Splits (Law about) id v left right
  hands-on about id v left right same none seat_now owner_now lists actors how s h at =
      let t = h.tally in
      let new = length s.views in
      let now : Tally = record t { seat = seat_now t.seat new; owner = owner_now t.owner new } in
      let parts = how t new (h.fits id v at) in
      record {
        tally = now;
        opening = record { links = h.opening.links; actors = h.opening.actors; most = h.opening.most };
        word = h.word;
        numbered = h.numbered;
        room = h.room;
        acting = h.acting;
        rises = h.rises;
        drawn = h.drawn;
        placed = placed-same h.tally.draws h.tally.log (hand_at s.views) (hand_at (set s.views id left ++ right ∷ [])) (hands-cut s.views id v left right at same none) h.placed;
        seated = λ l lt. lists s.views at t.seat l (h.seated l lt);
        owned = λ a lt. actors s.views at t.owner a (h.owned a lt);
        fits = views-end (Fits now) (set s.views id left) right new (length-set s.views id left) (views-set (Fits now) s.views id left (λ j u apart e. parts.2 j u apart (h.fits j u e)) parts.0) parts.1;
      }

  -- two views are put together for good: what the other had is this one's
  pub joins-all : (about : Opening) (id : ℕ) (v : View) (other : ℕ) (w both : View) → both.hand ≡ v.hand → w.hand ≡ []
      → ((l : ℕ) → Has l v.links → Has l both.links) → ((l : ℕ) → Has l w.links → Has l both.links) → ((a : ℕ) → Has a v.actors → Has a both.actors) → ((a : ℕ) → Has a w.actors → Has a both.actors)
      → ((t : Tally) → (other ≡ id → ⊥) → Fits t id v → Fits t other w
      → Fits (record t { seat = λ k. cond (eqb (t.seat k) other) id (t.seat k); owner = λ k. cond (eqb (t.owner k) other) id (t.owner k) }) id both)
      → Joins (Law about) id v other w both nobody
  joins-all about id v other w both same none links their_links actors their_actors how s h at apart there =
      let t = h.tally in
      let theirs = other-view (Fits t) s.views id other both w apart h.fits there in
      let now : Tally = record t { seat = λ k. cond (eqb (t.seat k) other) id (t.seat k); owner = λ k. cond (eqb (t.owner k) other) id (t.owner k) } in
      record {
        tally = now;
        opening = record { links = h.opening.links; actors = h.opening.actors; most = h.opening.most };
        word = h.word;
        numbered = h.numbered;
        room = h.room;
        acting = h.acting;
        rises = h.rises;
        drawn = h.drawn;
        placed = placed-same h.tally.draws h.tally.log (hand_at s.views) (hand_at (set (set s.views id both) other nobody)) (hands-joined s.views id v other w both at there same none) h.placed;
        seated = λ l lt. stands-moved (HoldsList l) s.views id other (t.seat l) v w both at apart there (links l) (their_links l) (h.seated l lt);
        owned = λ a lt. stands-moved (HoldsActor a) s.views id other (t.owner a) v w both at apart there (actors a) (their_actors a) (h.owned a lt);
        fits = λ j u e. ⊎_elim
            (λ (x : (j ≡ other) × (nobody ≡ u)). subst (Fits now j) x.1 (nobody-fits now j))
            (λ (x : (j ≢ other) × (get_elem? (set s.views id both) j ≡ some u)).
            views-set (λ k y. (k ≡ other → ⊥) → Fits now k y) s.views id both
            (λ k y _ e' elsewhere.
            let g = h.fits k y e' in
            record {
              seen = g.seen;
              saw = g.saw;
              among = g.among;
              knows = g.knows;
              has = λ l has. let old = g.has l has in record { here = stays other id (t.seat l) k old.here elsewhere; whole = old.whole; small = old.small };
              apart = g.apart;
              acts = λ a has. let old = g.acts a has in record { here = stays other id (t.owner a) k old.here elsewhere; whole = old.whole; small = old.small };
              drew = g.drew;
              holds = g.holds;
              once = g.once;
              spent = g.spent;
              lone = g.lone;
            })
            (λ _. how t apart (h.fits id v at) theirs)
            j u x.1 x.0)
            (at_set (set s.views id both) other j nobody u e);
      }
