-- Opening: the rule at the first word and the first seat, the seats of links and passes cut from it one by one, and what
-- stands of the seats made so far.
use Rattle.std.proofs.Common.{◌≡◌, ℕ, zero, suc, eqb, ◌+◌, ◌<◌, ◌≤◌, not, cond, List, length, set, [], ◌∷◌, ◌++◌, refl, sym, ap, ◌∙◌, subst, inl, inr, ⊎_elim, arith, ne_eqb}
use Rattle.std.proofs.lemmas.Bool.{cond_both, eq-eqb, eqb-true, cases_eq}
use Rattle.std.proofs.lemmas.List.{map-append}
use mathlib.Core.Option.{some-ne-none}
use Rattle.atomic_table.specs.Seated.{TableId}
use Rattle.atomic_table.specs.Table.{Splits}
use Rattle.net_units.specs.Numbers.{actor_number}
use Rattle.link_steps.specs.Lists.{Each}
use Rattle.link_steps.proofs.SearchAndFilter.{Each-append}
use Rattle.step_stamp.specs.declared.marks.Drawn.{Drawn}
use Rattle.step_stamp.specs.declared.seats.LinkSeat.{LinkSeat}
use Rattle.step_stamp.specs.declared.seats.PassSeat.{PassSeat}
use Rattle.step_stamp.specs.declared.views.Opening.{Opening}
use Rattle.step_stamp.specs.declared.views.Shelf.{Shelf}
use Rattle.step_stamp.specs.declared.views.View.{View}
use Rattle.step_stamp.specs.Lists.{Has, Differ, below, up_to, without_number}
use Rattle.step_stamp.specs.Marks.{of_actor}
use Rattle.step_stamp.specs.declared.marks.Mark.{Mark}
use Rattle.step_stamp.specs.Opening.{IsNewLink, IsNewPass, AreLinks, ArePasses, IsFirst}
use Rattle.step_stamp.specs.Rule.{Tally, Begins, HasList, HasActor, Fits, Stands, HoldsList, HoldsActor, KeepsRule}
use Rattle.step_stamp.specs.Seats.{link_table, pass_table, link_view, pass_view, seat_link, seat_actor, list_of}
use Rattle.step_stamp.specs.Views.{shelf, shelf_of, known_of, first_view, new_link, less_link, new_pass, less_actor}
use Rattle.step_stamp.proofs.ListMembers.{has-kept, has-passed, differ-kept, begins-nothing}
use Rattle.step_stamp.proofs.NewestShelf.{shelf-cases, shelf-here, no-known, no-shelf}
use Rattle.step_stamp.proofs.MarkPlaces.{hand-more, no-hand}
use Rattle.step_stamp.proofs.ViewsRemain.{length-set, stands-cut, stands-end}
use Rattle.step_stamp.proofs.RuleThroughChanges.{Law, views-end, no-shelf-seen, hands-on, acts-live, acts_some, lists-live}

-- ---- numbers below n, and without one

below-has : (k n : ℕ) → k < n → Has k (below n)
unfolding below
below-has k zero lt = absurd (omega arith)
below-has k (suc n) lt = ⊎_elim (λ (e : k ≡ n). inl (sym e)) (λ other. inr (below-has k n (omega (arith, other)))) (cases_eq k n)

below-small : (k n : ℕ) → Has k (below n) → k < n
unfolding below
below-small k zero has = absurd has
below-small k (suc n) has = ⊎_elim (λ (e : n ≡ k). omega (arith, e)) (λ t. let rest = below-small k n t in omega (arith, rest)) has

below-differ : (n : ℕ) → Differ (below n)
unfolding below
below-differ zero = tt
below-differ (suc n) = ((λ has. let small = below-small n n has in omega (arith, small)), below-differ n)

apart-from : (n k : ℕ) (ns : List ℕ) → Has k (without_number n ns) → k ≡ n → ⊥
apart-from n k [] has e = has
apart-from n k (x ∷ ns) has e =
    cond_both (not (eqb x n)) (x ∷ without_number n ns) (without_number n ns) (λ l. Has k l → ⊥)
    (λ on h. ⊎_elim (λ (same : x ≡ k). absurd (cc (on, ap not (eq-eqb x n (same ∙ e))))) (λ t. apart-from n k ns t e) h)
    (λ _ h. apart-from n k ns h e) has

has-others : (n k : ℕ) (ns : List ℕ) → (k ≡ n → ⊥) → Has k ns → Has k (without_number n ns)
has-others n k ns other has = has-passed (λ x. not (eqb x n)) k ns (ap not (ne_eqb k n other)) has

-- a number is moved for one place alone
moved-here : (l new was : ℕ) → cond (eqb l l) new was ≡ new
moved-here l new was = ap (λ b. cond b new was) (eq-eqb l l refl)

moved-else : (k l new was : ℕ) → (k ≡ l → ⊥) → cond (eqb k l) new was ≡ was
moved-else k l new was other = cond_both (eqb k l) new was (λ n. n ≡ was) (λ on. absurd (other (eqb-true k l on))) (λ _. refl)

-- ---- the rule at the opening

pub begins : (about : Opening) → 1 ≤ about.actors → about.actors ≤ 65 → KeepsRule about (0 ∷ []) (first_view about.links about.actors ∷ [])
begins about some most =
    let links : ℕ = about.links in
    let actors : ℕ = about.actors in
    let t : Tally = record { draws = []; log = λ l. []; seat = λ l. 0; owner = λ a. 0; links = links; actors = actors } in
    record {
      tally = t;
      opening = record { links = refl; actors = refl; most = most };
      word = refl;
      numbered = tt;
      room = λ a. omega arith;
      acting = tt;
      rises = λ l. tt;
      drawn = λ l. tt;
      placed = record {
        place = λ s. 0;
        in_hand = λ k. subst (Each (λ (d : Drawn). Has d [] × (0 ≡ suc k))) (sym (hand-more [] (first_view links actors) refl k ∙ no-hand k)) tt;
        entered = λ l. tt;
        stands = λ d has. absurd has;
      };
      seated = λ l lt. record { view = first_view links actors; found = refl; fact = below-has l links lt };
      owned = λ a lt. record { view = first_view links actors; found = refl; fact = below-has a actors lt };
      fits = views-end (Fits t) [] (first_view links actors) 0 refl (λ j u e. absurd (some-ne-none u (sym e)))
          (record {
            seen = omega arith;
            saw = record { known = λ l. no-shelf-seen 0 l; drawn = tt };
            among = inr refl;
            knows = λ l. no-shelf [] l;
            has = λ l has. record { here = refl; whole = no-known l; small = below-small l links has };
            apart = below-differ links;
            acts = λ a has. record { here = refl; whole = refl; small = below-small a actors has };
            drew = tt;
            holds = tt;
            once = tt;
            spent = λ none. absurd (omega (arith, some, none));
            lone = λ _. record { link = 0; lists = λ k _. inr refl; drawn = refl; alone = tt };
          });
    }

module _ {S : Type 0} where
  pub opens-link : (about : Opening) (id l : ℕ) (v : View) → Has l v.links → Splits {S = S} (Law about) id v (less_link l v) (new_link l v)
  opens-link about id l v mine = hands-on about id v (less_link l v) (new_link l v) refl refl (λ seat new k. cond (eqb k l) new (seat k)) (λ owner new. owner)
      (λ views at seat k stands. cond_both (eqb k l) (length views) (seat k) (λ by. Stands (set views id (less_link l v) ++ new_link l v ∷ []) by (HoldsList k))
      (λ on. stands-end (HoldsList k) (set views id (less_link l v)) (length views) (new_link l v) (length-set views id (less_link l v)) (inl (sym (eqb-true k l on))))
      (λ off. stands-cut (HoldsList k) views id (seat k) v (less_link l v) (new_link l v) at (λ has. has-others l k v.links (λ e. absurd (cc (off, eq-eqb k l e))) has) stands))
      (λ views at owner a stands. stands-cut (HoldsActor a) views id (owner a) v (less_link l v) (new_link l v) at (λ has. has) stands)
      (λ t new f.
      let was = f.has l mine in
      let now : Tally = record t { seat = λ k. cond (eqb k l) new (t.seat k) } in
      let taken_over : HasList now new l (new_link l v) = record { here = moved-here l new (t.seat l); whole = ap (λ (s : Shelf). s.known) (shelf-here l (known_of l v) [] [] []) ∙ was.whole; small = was.small } in (
        record {
          seen = f.seen;
          saw = record { known = f.saw.known; drawn = f.saw.drawn };
          among = f.among;
          knows = f.knows;
          has = λ k has.
              let old = f.has k (has-kept (λ x. not (eqb x l)) k v.links has) in
              record { here = moved-else k l new (t.seat k) (λ e. apart-from l k v.links has e) ∙ old.here; whole = old.whole; small = old.small };
          apart = differ-kept (λ x. not (eqb x l)) v.links f.apart;
          acts = λ a has. (let old = f.acts a has in record { here = old.here; whole = old.whole; small = old.small });
          drew = f.drew;
          holds = f.holds;
          once = f.once;
          spent = λ none. absurd (lists-live l v mine (f.spent none));
          lone = λ none.
              let o = f.lone none in
              record { link = o.link; lists = λ k has. o.lists k (has-kept (λ x. not (eqb x l)) k v.links has); drawn = o.drawn; alone = o.alone };
        },
        record {
          seen = f.seen;
          saw = record {
            known = λ k. shelf-cases (λ s. Each (λ (m : Mark). m.stamp ≤ v.seen) s.known) k (shelf l (known_of l v) [] []) [] (λ _. f.saw.known l) (λ _. no-shelf-seen v.seen k);
            drawn = tt;
          };
          among = f.among;
          knows = λ k. shelf-cases (λ s. Begins (t.log k) s) k (shelf l (known_of l v) [] []) []
              (λ (e : l ≡ k). subst (λ n. Begins (t.log n) (shelf l (known_of l v) [] [])) e (record { known = (f.knows l).known; first = begins-nothing (t.log l); second = begins-nothing (t.log l) }))
              (λ _. no-shelf (t.log k) k);
          has = λ k has. ⊎_elim (λ (e : l ≡ k). subst (λ n. HasList now new n (new_link l v)) e taken_over) (λ no. absurd no) has;
          apart = ((λ none. none), tt);
          acts = λ a h. absurd h;
          drew = tt;
          holds = tt;
          once = tt;
          spent = λ none. absurd (lists-live l v mine (f.spent none));
          lone = λ _. record { link = l; lists = λ k has. ⊎_elim (λ (e : l ≡ k). inl (sym e)) (λ no. absurd no) has; drawn = refl; alone = (refl, tt) };
        },
        λ j u apart g. record {
          seen = g.seen;
          saw = g.saw;
          among = g.among;
          knows = g.knows;
          has = λ k has.
              let old = g.has k has in
              record { here = moved-else k l new (t.seat k) (λ e. absurd (apart (sym old.here ∙ ap t.seat e ∙ was.here))) ∙ old.here; whole = old.whole; small = old.small };
          apart = g.apart;
          acts = λ a has. (let old = g.acts a has in record { here = old.here; whole = old.whole; small = old.small });
          drew = g.drew;
          holds = g.holds;
          once = g.once;
          spent = g.spent;
          lone = g.lone;
        },
      ))

  pub opens-pass : (about : Opening) (id a : ℕ) (v : View) → Has a v.actors → v.drawn ≡ [] → v.shelves ≡ [] → Splits {S = S} (Law about) id v (less_actor a v) (new_pass a v)
  opens-pass about id a v mine nothing bare = hands-on about id v (less_actor a v) (new_pass a v) refl refl (λ seat new. seat) (λ owner new k. cond (eqb k a) new (owner k))
      (λ views at seat l stands. stands-cut (HoldsList l) views id (seat l) v (less_actor a v) (new_pass a v) at (λ has. has) stands)
      (λ views at owner k stands. cond_both (eqb k a) (length views) (owner k) (λ by. Stands (set views id (less_actor a v) ++ new_pass a v ∷ []) by (HoldsActor k))
      (λ on. stands-end (HoldsActor k) (set views id (less_actor a v)) (length views) (new_pass a v) (length-set views id (less_actor a v)) (inl (sym (eqb-true k a on))))
      (λ off. stands-cut (HoldsActor k) views id (owner k) v (less_actor a v) (new_pass a v) at (λ has. has-others a k v.actors (λ e. absurd (cc (off, eq-eqb k a e))) has) stands))
      (λ t new f.
      let was = f.acts a mine in
      let now : Tally = record t { owner = λ k. cond (eqb k a) new (t.owner k) } in
      let taken_over : HasActor now new a [] = record { here = moved-here a new (t.owner a); whole = sym (ap (of_actor a) nothing) ∙ was.whole; small = was.small } in (
        record {
          seen = f.seen;
          saw = record { known = f.saw.known; drawn = f.saw.drawn };
          among = f.among;
          knows = f.knows;
          has = λ l has. (let old = f.has l has in record { here = old.here; whole = old.whole; small = old.small });
          apart = f.apart;
          acts = λ k has.
              let old = f.acts k (has-kept (λ x. not (eqb x a)) k v.actors has) in
              record { here = moved-else k a new (t.owner k) (λ e. apart-from a k v.actors has e) ∙ old.here; whole = old.whole; small = old.small };
          drew = subst (Each (λ (d : Drawn). Has (actor_number d.mark.actor) (less_actor a v).actors)) (sym nothing) tt;
          holds = f.holds;
          once = f.once;
          spent = λ none. absurd (acts-live a v mine (f.spent none));
          lone = λ _. record { link = 0; lists = λ k _. inr bare; drawn = nothing; alone = subst (Each (λ (s : Shelf). s.link ≡ 0)) (sym bare) tt };
        },
        record {
          seen = f.seen;
          saw = record { known = λ k. no-shelf-seen v.seen k; drawn = tt };
          among = f.among;
          knows = λ k. no-shelf (t.log k) k;
          has = λ k h. absurd h;
          apart = tt;
          acts = λ k has. ⊎_elim (λ (e : a ≡ k). subst (λ n. HasActor now new n []) e taken_over) (λ no. absurd no) has;
          drew = tt;
          holds = tt;
          once = tt;
          spent = λ none. absurd (acts-live a v mine (f.spent none));
          lone = acts_some a (a ∷ []) (inl refl);
        },
        λ j u apart g. record {
          seen = g.seen;
          saw = g.saw;
          among = g.among;
          knows = g.knows;
          has = λ l has. (let old = g.has l has in record { here = old.here; whole = old.whole; small = old.small });
          apart = g.apart;
          acts = λ k has.
              let old = g.acts k has in
              record { here = moved-else k a new (t.owner k) (λ e. absurd (apart (sym old.here ∙ ap t.owner e ∙ was.here))) ∙ old.here; whole = old.whole; small = old.small };
          drew = g.drew;
          holds = g.holds;
          once = g.once;
          spent = g.spent;
          lone = g.lone;
        },
      ))

-- ---- what the first seat still has, and the seats made so far

pub first-is : (links actors : ℕ) (v : View) → v ≡ first_view links actors → IsFirst links actors 0 0 v
first-is links actors v is =
    subst (IsFirst links actors 0 0) (sym is)
    (record { links_left = λ k le lt. below-has k links lt; actors_left = λ k le lt. below-has k actors lt; among = refl; seen = refl; drawn = refl; hand = refl; shelves = refl })

pub first-less_link : (links actors n m : ℕ) (v : View) → IsFirst links actors n m v → IsFirst links actors (n + 1) m (less_link n v)
first-less_link links actors n m v f =
    record {
      links_left = λ k le lt. has-others n k v.links (λ e. omega (arith, e, le)) (f.links_left k (omega (arith, le)) lt);
      actors_left = f.actors_left;
      among = f.among;
      seen = f.seen;
      drawn = f.drawn;
      hand = f.hand;
      shelves = f.shelves;
    }

pub first-less_actor : (links actors n m : ℕ) (v : View) → IsFirst links actors n m v → IsFirst links actors n (m + 1) (less_actor m v)
first-less_actor links actors n m v f =
    record {
      links_left = f.links_left;
      actors_left = λ k le lt. has-others m k v.actors (λ e. omega (arith, e, le)) (f.actors_left k (omega (arith, le)) lt);
      among = f.among;
      seen = f.seen;
      drawn = f.drawn;
      hand = f.hand;
      shelves = f.shelves;
    }

pub no-links : (t : TableId) (n : ℕ) (xs : List LinkSeat) → xs ≡ [] → AreLinks t n 0 xs
unfolding up_to
no-links t n xs is = subst (AreLinks t n 0) (sym is) (record { numbers = refl; new = tt })

pub no-passes : (t : TableId) (n : ℕ) (xs : List PassSeat) → xs ≡ [] → ArePasses t n 0 xs
unfolding up_to
no-passes t n xs is = subst (ArePasses t n 0) (sym is) (record { numbers = refl; new = tt })

pub links-more : (t : TableId) (n links actors m : ℕ) (xs ys : List LinkSeat) (s : LinkSeat) (v : View) → AreLinks t actors n xs → ys ≡ xs ++ s ∷ [] → seat_link s ≡ n → link_table s ≡ t → link_view s ≡ new_link n v → IsFirst links actors n m v
    → AreLinks t actors (n + 1) ys
unfolding up_to
links-more t n links actors m xs ys s v are is number table view f =
    let one : n + 1 ≡ suc n = omega arith in
    let known : list_of s ≡ [] =
    ap (λ k. known_of k (link_view s)) number ∙ ap (known_of n) view ∙ ap (λ (sh : Shelf). sh.known) (shelf-here n (known_of n v) [] [] []) ∙ ap (λ ss. (shelf_of n ss).known) f.shelves ∙ no-known n in
    let new : IsNewLink t actors s = record { from_table = table; unseen = ap (λ (x : View). x.seen) view ∙ f.seen; empty = known; among = ap (λ (x : View). x.among) view ∙ f.among } in
    subst (λ (x : ℕ × List LinkSeat). AreLinks t actors x.0 x.1) (λ i. (sym one i, sym is i))
    (record { numbers = map-append seat_link xs (s ∷ []) ∙ (λ i. are.numbers i ++ number i ∷ []); new = Each-append (IsNewLink t actors) xs (s ∷ []) are.new (new, tt) })

pub passes-more : (t : TableId) (n links actors m : ℕ) (xs ys : List PassSeat) (s : PassSeat) (v : View) → ArePasses t actors n xs → ys ≡ xs ++ s ∷ [] → seat_actor s ≡ n → pass_table s ≡ t → pass_view s ≡ new_pass n v → IsFirst links actors m n v
    → ArePasses t actors (n + 1) ys
unfolding up_to
passes-more t n links actors m xs ys s v are is number table view f =
    let one : n + 1 ≡ suc n = omega arith in
    let new : IsNewPass t actors s = record { from_table = table; view_is = view ∙ (λ i. record { seen = f.seen i; among = f.among i; links = []; actors = sym number i ∷ []; drawn = []; hand = []; shelves = [] }) } in
    subst (λ (x : ℕ × List PassSeat). ArePasses t actors x.0 x.1) (λ i. (sym one i, sym is i))
    (record { numbers = map-append seat_actor xs (s ∷ []) ∙ (λ i. are.numbers i ++ number i ∷ []); new = Each-append (IsNewPass t actors) xs (s ∷ []) are.new (new, tt) })
