-- A pass meets a link: a copy of what the pass knows of the link joins the link's seat, and then a copy of the link's list
-- joins the pass. Both keep the rule, and from what the rule then tells follow the clauses of a meeting.
use Rattle.std.proofs.Common.{◌≡◌, ℕ, ◌≤◌, max, List, [], ◌∷◌, ◌++◌, set, refl, sym, ap, ◌∙◌, subst, inl, ⊎_elim, arith}
use Rattle.std.proofs.lemmas.List.{append-nil}
use Rattle.std.proofs.Math.Nat.{le-max_left, le-max_right, max-le}
use mathlib.Core.List.{IsPrefix}
use Rattle.atomic_table.specs.Table.{Splits, Joins}
use Rattle.link_steps.specs.Lists.{Each}
use Rattle.link_steps.proofs.SearchAndFilter.{Each-if}
use Rattle.step_stamp.specs.declared.marks.Drawn.{Drawn}
use Rattle.step_stamp.specs.declared.marks.Mark.{Mark}
use Rattle.step_stamp.specs.declared.views.Opening.{Opening}
use Rattle.step_stamp.specs.declared.views.Shelf.{Shelf}
use Rattle.step_stamp.specs.declared.views.View.{View}
use Rattle.step_stamp.specs.Lists.{Has}
use Rattle.step_stamp.specs.Marks.{StampsRise, drawn_marks, longer}
use Rattle.step_stamp.specs.Placing.{hand_at}
use Rattle.step_stamp.specs.Rule.{Begins, OfOneLink, Learnt}
use Rattle.step_stamp.specs.Seats.{Meets}
use Rattle.step_stamp.specs.Views.{shelf, known_of, second_of, shown, entered, taken, nobody}
use Rattle.step_stamp.proofs.RisingStamps.{longer-both, longer-whole, longer-second, in-their-order}
use Rattle.step_stamp.proofs.NewestShelf.{shelf-cases, shelf-here, shelf-else, known-shown}
use Rattle.step_stamp.proofs.MarkPlaces.{placed-same}
use Rattle.step_stamp.proofs.RuleThroughChanges.{Law, hands-cut, splits, joins, copy-fits, acts-live, acts_some, lists-live}

-- stamps that the one or the other had seen are at most what is seen after a join, those of drawn marks too
pub most-left : (v w : View) (ms : List Mark) → Each (λ (m : Mark). m.stamp ≤ v.seen) ms → Each (λ (m : Mark). m.stamp ≤ max v.seen w.seen) ms
most-left v w ms most = Each-if (λ (m : Mark). m.stamp ≤ v.seen) (λ (m : Mark). m.stamp ≤ max v.seen w.seen) ms (λ m le. omega (arith, le, le-max_left v.seen w.seen)) most

pub most-right : (v w : View) (ms : List Mark) → Each (λ (m : Mark). m.stamp ≤ w.seen) ms → Each (λ (m : Mark). m.stamp ≤ max v.seen w.seen) ms
most-right v w ms most = Each-if (λ (m : Mark). m.stamp ≤ w.seen) (λ (m : Mark). m.stamp ≤ max v.seen w.seen) ms (λ m le. omega (arith, le, le-max_right v.seen w.seen)) most

pub drawn-left : (v w : View) (ds : List Drawn) → Each (λ (d : Drawn). d.mark.stamp ≤ v.seen) ds → Each (λ (d : Drawn). d.mark.stamp ≤ max v.seen w.seen) ds
drawn-left v w ds most = Each-if (λ (d : Drawn). d.mark.stamp ≤ v.seen) (λ (d : Drawn). d.mark.stamp ≤ max v.seen w.seen) ds (λ d le. omega (arith, le, le-max_left v.seen w.seen)) most

pub drawn-right : (v w : View) (ds : List Drawn) → Each (λ (d : Drawn). d.mark.stamp ≤ w.seen) ds → Each (λ (d : Drawn). d.mark.stamp ≤ max v.seen w.seen) ds
drawn-right v w ds most = Each-if (λ (d : Drawn). d.mark.stamp ≤ w.seen) (λ (d : Drawn). d.mark.stamp ≤ max v.seen w.seen) ds (λ d le. omega (arith, le, le-max_right v.seen w.seen)) most

-- a link's seat speaks of that link alone once a copy for it has joined
pub still-lone : (l : ℕ) (v w : View) → v.links ≡ l ∷ [] → (v.actors ≡ [] → OfOneLink v) → v.actors ≡ [] → OfOneLink (entered l v w)
still-lone l v w links lone none =
    let was = lone none in
    record {
      link = l;
      lists = λ k has. ⊎_elim (λ (e : l ≡ k). inl (sym e)) (λ no. absurd no) (subst (Has k) links has);
      drawn = was.drawn;
      alone = (
        refl,
        ⊎_elim
            (λ (e : l ≡ was.link). subst (λ n. Each (λ (s : Shelf). s.link ≡ n) v.shelves) (sym e) was.alone)
            (λ (empty : v.shelves ≡ []). subst (Each (λ (s : Shelf). s.link ≡ l)) (sym empty) tt)
            (was.lists l (subst (Has l) (sym links) (inl refl))),
      );
    }

module _ {S : Type 0} where
  pub shows : (about : Opening) (id l : ℕ) (v : View) → (v ≡ nobody → ⊥) → Splits {S = S} (Law about) id v v (shown l v)
  shows about id l v live = splits about id v v (shown l v) refl refl (λ s at draws log p. placed-same draws log (hand_at s.views) (hand_at (set s.views id v ++ shown l v ∷ [])) (hands-cut s.views id v v (shown l v) at refl refl) p) (λ t f. (f, λ j. copy-fits t id j v [] l (known_of l v) live f tt tt (f.knows l).known (f.saw.known l)))

  -- a copy of a link's seat joins a pass
  pub takes : (about : Opening) (id l a : ℕ) (v : View) (other : ℕ) (w : View) → Has a v.actors → w.hand ≡ [] → w.links ≡ [] → w.actors ≡ [] → Joins {S = S} (Law about) id v other w (taken l v w) nobody
  takes about id l a v other w acts empty no_links no_actors = joins about id v other w (taken l v w) refl empty refl refl no_links no_actors
      (λ t f g.
      let list = longer (known_of l v) (known_of l w) in
      let sh = shelf l list (known_of l v) (known_of l w) in
      record {
        seen = max-le f.seen g.seen;
        saw = record {
          known = λ k. shelf-cases (λ s. Each (λ (m : Mark). m.stamp ≤ max v.seen w.seen) s.known) k sh v.shelves
              (λ _. longer-both (Each (λ (m : Mark). m.stamp ≤ max v.seen w.seen)) (known_of l v) (known_of l w) (most-left v w (known_of l v) (f.saw.known l)) (most-right v w (known_of l w) (g.saw.known l)))
              (λ _. most-left v w (known_of k v) (f.saw.known k));
          drawn = drawn-left v w v.drawn f.saw.drawn;
        };
        among = f.among;
        knows = λ k. shelf-cases (λ s. Begins (t.log k) s) k sh v.shelves
            (λ (e : l ≡ k). subst (λ n. Begins (t.log n) sh) e
            (record { known = longer-both (λ ms. IsPrefix ms (t.log l)) (known_of l v) (known_of l w) (f.knows l).known (g.knows l).known; first = (f.knows l).known; second = (g.knows l).known }))
            (λ _. f.knows k);
        has = λ k h.
            let was = f.has k h in
            record {
              here = was.here;
              whole = shelf-cases (λ s. s.known ≡ t.log k) k sh v.shelves
                  (λ (e : l ≡ k). longer-whole (t.log k) (known_of l v) (known_of l w) (subst (λ n. known_of n v ≡ t.log k) (sym e) was.whole) (subst (λ n. IsPrefix (known_of l w) (t.log n)) e (g.knows l).known))
                  (λ _. was.whole);
              small = was.small;
            };
        apart = f.apart;
        acts = f.acts;
        drew = f.drew;
        holds = f.holds;
        once = f.once;
        spent = λ none. absurd (acts-live a v acts (f.spent none));
        lone = acts_some a v.actors acts;
      })

  -- a copy with no mark in hand joins a link's seat
  pub meets : (about : Opening) (id l : ℕ) (v : View) (other : ℕ) (w : View) → v.links ≡ l ∷ [] → w.hand ≡ [] → w.links ≡ [] → w.actors ≡ [] → Joins {S = S} (Law about) id v other w (entered l v w) nobody
  meets about id l v other w links empty no_links no_actors = joins about id v other w (entered l v w) refl empty refl refl no_links no_actors
      (λ t f g.
      let same : known_of l v ++ drawn_marks w.hand ≡ known_of l v = ap (λ ds. known_of l v ++ drawn_marks ds) empty ∙ append-nil (known_of l v) in
      let sh = shelf l (known_of l v ++ drawn_marks w.hand) (known_of l v) (known_of l w) in
      record {
        seen = max-le f.seen g.seen;
        saw = record {
          known = λ k. shelf-cases (λ s. Each (λ (m : Mark). m.stamp ≤ max v.seen w.seen) s.known) k sh v.shelves
              (λ _. subst (Each (λ (m : Mark). m.stamp ≤ max v.seen w.seen)) (sym same) (most-left v w (known_of l v) (f.saw.known l)))
              (λ _. most-left v w (known_of k v) (f.saw.known k));
          drawn = drawn-left v w v.drawn f.saw.drawn;
        };
        among = f.among;
        knows = λ k. shelf-cases (λ s. Begins (t.log k) s) k sh v.shelves
            (λ (e : l ≡ k). subst (λ n. Begins (t.log n) sh) e
            (record { known = subst (λ ms. IsPrefix ms (t.log l)) (sym same) (f.knows l).known; first = (f.knows l).known; second = (g.knows l).known }))
            (λ _. f.knows k);
        has = λ k h.
            let was = f.has k h in
            record {
              here = was.here;
              whole = shelf-cases (λ s. s.known ≡ t.log k) k sh v.shelves
                  (λ (e : l ≡ k). same ∙ ap (λ n. known_of n v) e ∙ was.whole)
                  (λ _. was.whole);
              small = was.small;
            };
        apart = f.apart;
        acts = f.acts;
        drew = f.drew;
        holds = f.holds;
        once = f.once;
        spent = λ none. absurd (lists-live l v (subst (Has l) (sym links) (inl refl)) (f.spent none));
        lone = still-lone l v w links f.lone;
      })

-- ---- what a meeting tells

pub met-facts : (l : ℕ) (v k : View) → k.links ≡ l ∷ [] → Learnt (entered l k (shown l v)) → Learnt (taken l v (shown l (entered l k (shown l v))))
    → Meets l v k (taken l v (shown l (entered l k (shown l v)))) (entered l k (shown l v))
met-facts l v k links of_link of_pass =
    let k' = entered l k (shown l v) in
    let p' = taken l v (shown l k') in
    let here : Has l k.links = subst (Has l) (sym links) (inl refl) in
    let shelf_k = shelf-here l (known_of l k ++ []) (known_of l k) (known_of l (shown l v)) k.shelves in
    let kept : known_of l k' ≡ known_of l k = ap (λ (s : Shelf). s.known) shelf_k ∙ append-nil (known_of l k) in
    let second : second_of l k' ≡ known_of l v = ap (λ (s : Shelf). s.second) shelf_k ∙ known-shown l v in
    let begins : IsPrefix (known_of l v) (known_of l k) = subst (λ (x : List Mark × List Mark). IsPrefix x.0 x.1) (λ i. (second i, kept i)) (of_link.joined l here) in
    let rises : StampsRise (known_of l k) = subst StampsRise kept (of_link.rises l here) in
    let knows : known_of l p' ≡ known_of l k =
    ap (λ (s : Shelf). s.known) (shelf-here l (longer (known_of l v) (known_of l (shown l k'))) (known_of l v) (known_of l (shown l k')) v.shelves)
    ∙ ap (longer (known_of l v)) (known-shown l k' ∙ kept)
    ∙ longer-second (known_of l v) (known_of l k) begins in
    record {
      begins = begins;
      rises = rises;
      own = λ m has acts. of_pass.own l m (subst (Has m) (sym knows) has) acts;
      in_turn = λ a acts. in-their-order a l (known_of l k) v.drawn rises (of_pass.in_turn a)
          (λ m has is. of_pass.own l m (subst (Has m) (sym knows) has) (subst (λ n. Has n v.actors) (sym is) acts));
      knows = knows;
      keeps = kept;
      others = λ j other. ap (λ (s : Shelf). s.known) (shelf-else l j (shelf l (longer (known_of l v) (known_of l (shown l k'))) (known_of l v) (known_of l (shown l k'))) v.shelves refl other);
      saw = refl;
      both_saw = refl;
      drawn = refl;
      actors = refl;
      among = refl;
      link_among = refl;
    }
