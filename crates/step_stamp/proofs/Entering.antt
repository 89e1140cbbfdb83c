-- A mark goes into a link's list: the pass hands it over to a copy, and the copy joins the link's seat. The list still
-- rises then, since the stamp is above all that the seat had seen.
use Rattle.std.proofs.Common.{◌≡◌, ℕ, eqb, ◌<◌, ◌≤◌, max, cond, List, [], ◌∷◌, ◌++◌, length, refl, sym, ap, ◌∙◌, subst, inl, ⊎_elim, set, arith}
use Rattle.std.proofs.lemmas.Bool.{cond_both, eq-eqb, eqb-true}
use Rattle.std.proofs.Math.Nat.{le-max_right, max-le, max-eq_right}
use mathlib.Core.List.{IsPrefix}
use Rattle.atomic_table.specs.Table.{Splits, Joins}
use Rattle.link_steps.specs.Lists.{Each}
use Rattle.link_steps.proofs.SearchAndFilter.{Each-append}
use Rattle.step_stamp.specs.declared.marks.Drawn.{Drawn}
use Rattle.step_stamp.specs.declared.marks.Mark.{Mark}
use Rattle.step_stamp.specs.declared.views.Opening.{Opening}
use Rattle.step_stamp.specs.declared.views.Shelf.{Shelf}
use Rattle.step_stamp.specs.declared.views.View.{View}
use Rattle.step_stamp.specs.Lists.{Has}
use Rattle.step_stamp.specs.Marks.{StampsRise, drawn_for, drawn_marks}
use Rattle.step_stamp.specs.Placing.{hand_at}
use Rattle.step_stamp.specs.Rule.{Tally, Begins, HasList, Fits, HoldsList, HoldsActor}
use Rattle.step_stamp.specs.Seats.{EntersMark}
use Rattle.step_stamp.specs.Views.{shelf, shelf_of, known_of, emptied, handed, entered, nobody}
use Rattle.step_stamp.proofs.ListMembers.{begins-nothing, begins-itself, begins-longer}
use Rattle.step_stamp.proofs.RisingStamps.{rises-append}
use Rattle.step_stamp.proofs.Meeting.{most-left, drawn-left, still-lone}
use Rattle.step_stamp.proofs.NewestShelf.{shelf-cases, shelf-here}
use Rattle.step_stamp.proofs.MarkPlaces.{hand-was, hand-here, hand-else, hand-set, hand-before, hand-end, hand-beyond, at-short, placed-moved, placed-entered}
use Rattle.step_stamp.proofs.ViewsRemain.{length-set, stands-joined}
use Rattle.step_stamp.proofs.RuleThroughChanges.{Law, splits, copy-fits, nobody-fits, views-set, other-view, acts-live, acts_some, lists-live}

-- the lists with one mark more at link l
with_mark : ℕ → Mark → (ℕ → List Mark) → ℕ → List Mark
with_mark l m log k = cond (eqb k l) (log l ++ m ∷ []) (log k)

log-cases : (l : ℕ) (m : Mark) (log : ℕ → List Mark) (P : ℕ → List Mark → Type 0) → P l (log l ++ m ∷ []) → ((k : ℕ) → (k ≡ l → ⊥) → P k (log k)) → (k : ℕ) → P k (with_mark l m log k)
unfolding with_mark
log-cases l m log P here else k = cond_both (eqb k l) (log l ++ m ∷ []) (log k) (P k) (λ on. subst (λ j. P j (log l ++ m ∷ [])) (sym (eqb-true k l on)) here) (λ no. else k (λ e. absurd (cc (no, eq-eqb k l e))))

with_mark-here : (l : ℕ) (m : Mark) (log : ℕ → List Mark) → with_mark l m log l ≡ log l ++ m ∷ []
unfolding with_mark
with_mark-here l m log = ap (λ b. cond b (log l ++ m ∷ []) (log l)) (eq-eqb l l refl)

with_mark-else : (l : ℕ) (m : Mark) (log : ℕ → List Mark) (k : ℕ) → (k ≡ l → ⊥) → with_mark l m log k ≡ log k
with_mark-else l m log k = log-cases l m log (λ j ms. (j ≡ l → ⊥) → ms ≡ log j) (λ no. absurd (no refl)) (λ j _ _. refl) k

-- what began a list still begins it
begins-still : (l : ℕ) (m : Mark) (log : ℕ → List Mark) (k : ℕ) (sh : Shelf) → Begins (log k) sh → Begins (with_mark l m log k) sh
begins-still l m log k sh = log-cases l m log (λ j ms. Begins (log j) sh → Begins ms sh)
    (λ b. record { known = begins-longer sh.known (log l) (m ∷ []) b.known; first = begins-longer sh.first (log l) (m ∷ []) b.first; second = begins-longer sh.second (log l) (m ∷ []) b.second })
    (λ j _ b. b) k

-- a view that hasn't the list fits as before
apart-fits : (t : Tally) (l j : ℕ) (m : Mark) (u : View) → (t.seat l ≡ j → ⊥) → Fits t j u → Fits (record t { log = with_mark l m t.log }) j u
apart-fits t l j m u apart g = record {
  seen = g.seen;
  saw = g.saw;
  among = g.among;
  knows = λ k. begins-still l m t.log k (shelf_of k u.shelves) (g.knows k);
  has = λ k has.
      let was = g.has k has in
      let same : with_mark l m t.log k ≡ t.log k = log-cases l m t.log (λ j' ms. (k ≡ j') → ms ≡ t.log j') (λ (e : k ≡ l). absurd (apart (ap t.seat (sym e) ∙ was.here))) (λ j' _ _. refl) k refl in
      record { here = was.here; whole = was.whole ∙ sym same; small = was.small };
  apart = g.apart;
  acts = λ a h. let was = g.acts a h in record { here = was.here; whole = was.whole; small = was.small };
  drew = g.drew;
  holds = g.holds;
  once = g.once;
  spent = g.spent;
  lone = g.lone;
}

-- the link's seat with the mark
entered-fits : (t : Tally) (id other l : ℕ) (v w : View) (m : Mark) → Fits t id v → Fits t other w → v.links ≡ l ∷ [] → w.hand ≡ drawn_for l m ∷ [] → m.stamp ≤ w.seen → Fits (record t { log = with_mark l m t.log }) id (entered l v w)
entered-fits t id other l v w m f g links hand most =
    let own = f.has l (subst (Has l) (sym links) (inl refl)) in
    let now_here = with_mark-here l m t.log in
    let more : known_of l v ++ drawn_marks w.hand ≡ known_of l v ++ m ∷ [] = ap (λ ds. known_of l v ++ drawn_marks ds) hand in
    let marks : known_of l v ++ drawn_marks w.hand ≡ t.log l ++ m ∷ [] = more ∙ ap (λ ms. ms ++ m ∷ []) own.whole in
    let sh = shelf l (known_of l v ++ drawn_marks w.hand) (known_of l v) (known_of l w) in
    let after : Tally = record t { log = with_mark l m t.log } in
    record {
      seen = max-le f.seen g.seen;
      saw = record {
        known = λ k. shelf-cases (λ s. Each (λ (x : Mark). x.stamp ≤ max v.seen w.seen) s.known) k sh v.shelves
            (λ _. subst (Each (λ (x : Mark). x.stamp ≤ max v.seen w.seen)) (sym more)
            (Each-append (λ (x : Mark). x.stamp ≤ max v.seen w.seen) (known_of l v) (m ∷ []) (most-left v w (known_of l v) (f.saw.known l)) (omega (arith, most, le-max_right v.seen w.seen), tt)))
            (λ _. most-left v w (known_of k v) (f.saw.known k));
        drawn = drawn-left v w v.drawn f.saw.drawn;
      };
      among = f.among;
      knows = λ k. shelf-cases (λ s. Begins (after.log k) s) k sh v.shelves
          (λ (e : l ≡ k). subst (λ q. Begins (after.log q) sh) e
          (record { known = subst (IsPrefix (known_of l v ++ drawn_marks w.hand)) (marks ∙ sym now_here) (begins-itself (known_of l v ++ drawn_marks w.hand)); first = (begins-still l m t.log l (shelf_of l v.shelves) (f.knows l)).known; second = (begins-still l m t.log l (shelf_of l w.shelves) (g.knows l)).known }))
          (λ _. begins-still l m t.log k (shelf_of k v.shelves) (f.knows k));
      has = λ k has.
          let k_is : l ≡ k = ⊎_elim (λ (e : l ≡ k). e) (λ no. absurd no) (subst (Has k) links has) in
          let here : HasList after id l (entered l v w) =
          record {
            here = own.here;
            whole = ap (λ (s : Shelf). s.known) (shelf-here l (known_of l v ++ drawn_marks w.hand) (known_of l v) (known_of l w) v.shelves) ∙ marks ∙ sym now_here;
            small = own.small;
          } in
          subst (λ q. HasList after id q (entered l v w)) k_is here;
      apart = f.apart;
      acts = λ a h. let was = f.acts a h in record { here = was.here; whole = was.whole; small = was.small };
      drew = f.drew;
      holds = f.holds;
      once = f.once;
      spent = λ none. absurd (lists-live l v (subst (Has l) (sym links) (inl refl)) (f.spent none));
      lone = still-lone l v w links f.lone;
    }

module _ {S : Type 0} where
  pub hands-over : (about : Opening) (id l a : ℕ) (v : View) → Has a v.actors → Splits {S = S} (Law about) id v (emptied v) (handed l v)
  hands-over about id l a v own = splits about id v (emptied v) (handed l v) refl refl
      (λ s at draws log p.
      let cut = set s.views id (emptied v) in
      let short = at-short s.views id v at in
      let long : length cut ≡ length s.views = length-set s.views id (emptied v) in
      placed-moved draws log (hand_at s.views) (hand_at (cut ++ handed l v ∷ [])) id (length s.views) short (hand-beyond s.views)
      (subst (λ n. hand_at (cut ++ handed l v ∷ []) n ≡ v.hand) long (hand-end cut (handed l v)) ∙ sym (hand-was s.views id v at))
      (hand-before cut (handed l v) id (λ e. absurd (short (e ∙ long))) ∙ hand-here s.views id v (emptied v) at)
      (λ k not_a not_b. hand-before cut (handed l v) k (λ e. absurd (not_b (e ∙ long))) ∙ hand-else s.views id (emptied v) k not_a)
      p)
      (λ t f. (
        record { seen = f.seen; saw = record { known = f.saw.known; drawn = f.saw.drawn }; among = f.among; knows = f.knows; has = λ k h. (let was = f.has k h in record { here = was.here; whole = was.whole; small = was.small }); apart = f.apart; acts = f.acts; drew = f.drew; holds = tt; once = tt; spent = λ none. absurd (acts-live a v own (f.spent none)); lone = acts_some a v.actors own },
        λ j. copy-fits t id j v v.hand l [] (acts-live a v own) f f.holds f.once (begins-nothing (t.log l)) tt,
      ))

  -- a link's list takes the mark that a copy has in hand
  pub enters : (about : Opening) (id l : ℕ) (v : View) (other : ℕ) (w : View) (m : Mark) → v.links ≡ l ∷ [] → w.hand ≡ drawn_for l m ∷ [] → w.links ≡ [] → w.actors ≡ [] → v.seen < m.stamp → m.stamp ≤ w.seen → Joins {S = S} (Law about) id v other w (entered l v w) nobody
  enters about id l v other w m links hand no_links no_actors above most s h at apart there =
      let t = h.tally in
      let f = h.fits id v at in
      let both = entered l v w in
      let g = other-view (Fits t) s.views id other both w apart h.fits there in
      let own = f.has l (subst (Has l) (sym links) (inl refl)) in
      let after : Tally = record t { log = with_mark l m t.log } in
      let in_draws : Has (drawn_for l m) t.draws = (subst (Each (λ (d : Drawn). Has d t.draws)) hand g.holds).0 in
      record {
        tally = after;
        opening = record { links = h.opening.links; actors = h.opening.actors; most = h.opening.most };
        word = h.word;
        numbered = h.numbered;
        room = h.room;
        acting = h.acting;
        rises = log-cases l m t.log (λ k ms. StampsRise ms) (rises-append 0 v.seen (t.log l) m (h.rises l) (subst (Each (λ (x : Mark). x.stamp ≤ v.seen)) own.whole (f.saw.known l)) (omega arith) above) (λ k _. h.rises k);
        drawn = log-cases l m t.log (λ k ms. Each (λ (x : Mark). Has (drawn_for k x) t.draws) ms) (Each-append (λ (x : Mark). Has (drawn_for l x) t.draws) (t.log l) (m ∷ []) (h.drawn l) (in_draws, tt)) (λ k _. h.drawn k);
        placed = placed-entered t.draws t.log after.log (hand_at s.views) (hand_at (set (set s.views id both) other nobody)) other l m
            (sym (hand-set s.views id v both at refl other) ∙ hand-was (set s.views id both) other w there ∙ hand)
            (with_mark-here l m t.log)
            (λ k no_l. with_mark-else l m t.log k no_l)
            (hand-here (set s.views id both) other w nobody there)
            (λ k elsewhere. hand-else (set s.views id both) other nobody k elsewhere ∙ hand-set s.views id v both at refl k)
            h.placed;
        seated = λ k lt. stands-joined (HoldsList k) s.views id other (t.seat k) v w both at there (λ has. has) (λ has. subst (Has k) no_links has) (h.seated k lt);
        owned = λ a lt. stands-joined (HoldsActor a) s.views id other (t.owner a) v w both at there (λ has. has) (λ has. subst (Has a) no_actors has) (h.owned a lt);
        fits = views-set (Fits after) (set s.views id both) other nobody
            (λ j u _ e. views-set (Fits after) s.views id both
            (λ i x elsewhere e'. apart-fits t l i m x (λ has. elsewhere (sym has ∙ own.here)) (h.fits i x e'))
            (entered-fits t id other l v w m f g links hand most) j u e)
            (nobody-fits after other);
      }

-- ---- what entering tells

pub entered-facts : (l : ℕ) (k w : View) (m : Mark) → w.hand ≡ drawn_for l m ∷ [] → w.seen ≡ m.stamp → k.seen < m.stamp → EntersMark l k (entered l k w) m
entered-facts l k w m hand saw above = record {
  list = ap (λ (s : Shelf). s.known) (shelf-here l (known_of l k ++ drawn_marks w.hand) (known_of l k) (known_of l w) k.shelves) ∙ ap (λ ds. known_of l k ++ drawn_marks ds) hand;
  saw = ap (max k.seen) saw ∙ max-eq_right (omega (arith, above));
  among = refl;
}
