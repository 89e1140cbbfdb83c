-- A draw keeps the rule: the word rises by one, and the mark drawn is the last of all draws, its actor's and in hand. Its
-- stamp is in range, since 65 actors draw at most 2^40 marks each.
use Rattle.std.proofs.Common.{◌≡◌, ℕ, ◌+◌, ◌*◌, ◌%◌, ◌^◌, ◌<◌, ◌≤◌, List, [], ◌∷◌, ◌++◌, length, set, refl, sym, ap, ◌∙◌, subst, inl, ⊎_elim, arith, length-append}
use Rattle.std.specs.Prelude.{slice_index, slice_set}
use Rattle.std.proofs.lemmas.Bool.{cond_both, eq-eqb, eqb-true, cases_eq}
use Rattle.std.proofs.lemmas.List.{append-nil}
use Rattle.std.proofs.lemmas.List.Elements.{filter-append}
use mathlib.Core.Option.{some}
use lib.ListN.{get_elem?}
use Rattle.atomic_table.specs.Table.{Me, Act, Valid, carried_after, keeps, Allows}
use Rattle.net_units.specs.Numbers.{actor_number}
use Rattle.net_units.proofs.ListPlaces.{length-passed}
use Rattle.link_steps.specs.Lists.{Each}
use Rattle.link_steps.proofs.SearchAndFilter.{Each-if, Each-append}
use Rattle.step_stamp.specs.declared.marks.Drawn.{Drawn}
use Rattle.step_stamp.specs.declared.marks.Mark.{Mark}
use Rattle.step_stamp.specs.declared.views.Opening.{Opening}
use Rattle.step_stamp.specs.declared.views.View.{View}
use Rattle.step_stamp.specs.Lists.{Has}
use Rattle.step_stamp.specs.Marks.{by_actor, of_actor, drawn_for}
use Rattle.step_stamp.specs.Placing.{hand_at}
use Rattle.step_stamp.specs.Rule.{Tally, HasSeen, Fits, HoldsList, HoldsActor, KeepsRule}
use Rattle.step_stamp.specs.Views.{known_of, drew}
use Rattle.step_stamp.proofs.ListMembers.{has-left, has-right, each-has}
use Rattle.step_stamp.proofs.RisingStamps.{numbered-append, no-twice-more, most-drawn}
use Rattle.step_stamp.proofs.MarkPlaces.{hand-here, hand-was, hand-else, placed-drawn, numbered-most}
use Rattle.step_stamp.proofs.ViewsRemain.{stands-set}
use Rattle.step_stamp.proofs.RuleThroughChanges.{Law, views-set, acts-live, acts_some}

-- ---- what each actor has drawn after a draw by one

others-same : (a b : ℕ) (ds : List Drawn) (d : Drawn) → actor_number d.mark.actor ≡ a → (b ≡ a → ⊥) → of_actor b (ds ++ d ∷ []) ≡ of_actor b ds
others-same a b ds d is other = filter-append (by_actor b) ds (d ∷ []) ∙ cond_both (by_actor b d) (d ∷ []) [] (λ l. of_actor b ds ++ l ≡ of_actor b ds) (λ on. absurd (other (sym (eqb-true (actor_number d.mark.actor) b on) ∙ is))) (λ _. append-nil (of_actor b ds))

own-more : (a : ℕ) (ds : List Drawn) (d : Drawn) → actor_number d.mark.actor ≡ a → of_actor a (ds ++ d ∷ []) ≡ of_actor a ds ++ d ∷ []
own-more a ds d is = filter-append (by_actor a) ds (d ∷ []) ∙ cond_both (by_actor a d) (d ∷ []) [] (λ l. of_actor a ds ++ l ≡ of_actor a ds ++ d ∷ []) (λ _. refl) (λ no. absurd (cc (no, eq-eqb (actor_number d.mark.actor) a is)))

-- ---- the views after a draw

-- another view fits as before
apart-fits : (t : Tally) (a j : ℕ) (d : Drawn) (u : View) → actor_number d.mark.actor ≡ a → (t.owner a ≡ j → ⊥) → Fits t j u → Fits (record t { draws = t.draws ++ d ∷ [] }) j u
apart-fits t a j d u is apart g =
    let long : length (t.draws ++ d ∷ []) ≡ length t.draws + 1 = length-append t.draws (d ∷ []) in
    record {
      seen = omega (arith, g.seen, long);
      saw = g.saw;
      among = g.among;
      knows = g.knows;
      has = λ l has. let was = g.has l has in record { here = was.here; whole = was.whole; small = was.small };
      apart = g.apart;
      acts = λ b has.
          let was = g.acts b has in
          record { here = was.here; whole = was.whole ∙ sym (others-same a b t.draws d is (λ e. absurd (apart (sym (ap t.owner e) ∙ was.here)))); small = was.small };
      drew = g.drew;
      holds = Each-if (λ (x : Drawn). Has x t.draws) (λ (x : Drawn). Has x (t.draws ++ d ∷ [])) u.hand (λ x has. has-left x t.draws (d ∷ []) has) g.holds;
      once = g.once;
      spent = g.spent;
      lone = g.lone;
    }

-- the view that draws
drew-fits : (t : Tally) (id a : ℕ) (v : View) (d : Drawn) → Fits t id v → Has a v.actors → actor_number d.mark.actor ≡ a → d.mark.stamp ≡ length t.draws + 1 → Each (λ (e : Drawn). e.mark.stamp ≡ d.mark.stamp → ⊥) v.hand
    → Fits (record t { draws = t.draws ++ d ∷ [] }) id (drew (d ∷ []) (length t.draws + 1) v)
drew-fits t id a v d f acts is stamp new =
    let now = t.draws ++ d ∷ [] in
    let long : length now ≡ length t.draws + 1 = length-append t.draws (d ∷ []) in
    let mine = f.acts a acts in
    record {
      seen = omega (arith, long);
      saw = record {
        known = λ l. Each-if (λ (m : Mark). m.stamp ≤ v.seen) (λ (m : Mark). m.stamp ≤ length t.draws + 1) (known_of l v) (λ m le. omega (arith, le, f.seen)) (f.saw.known l);
        drawn = Each-append (λ (x : Drawn). x.mark.stamp ≤ length t.draws + 1) v.drawn (d ∷ [])
            (Each-if (λ (x : Drawn). x.mark.stamp ≤ v.seen) (λ (x : Drawn). x.mark.stamp ≤ length t.draws + 1) v.drawn (λ x le. omega (arith, le, f.seen)) f.saw.drawn)
            (omega (arith, stamp), tt);
      };
      among = f.among;
      knows = f.knows;
      has = λ l has. let was = f.has l has in record { here = was.here; whole = was.whole; small = was.small };
      apart = f.apart;
      acts = λ b has.
          let was = f.acts b has in
          record {
            here = was.here;
            whole = ⊎_elim
                (λ (b_is : b ≡ a). ap (λ k. of_actor k (v.drawn ++ d ∷ [])) b_is ∙ own-more a v.drawn d is ∙ ap (λ l. l ++ d ∷ []) mine.whole ∙ sym (own-more a t.draws d is) ∙ sym (ap (λ k. of_actor k now) b_is))
                (λ other. others-same a b v.drawn d is other ∙ was.whole ∙ sym (others-same a b t.draws d is other))
                (cases_eq b a);
            small = was.small;
          };
      drew = Each-append (λ (x : Drawn). Has (actor_number x.mark.actor) v.actors) v.drawn (d ∷ []) f.drew (subst (λ k. Has k v.actors) (sym is) acts, tt);
      holds = Each-append (λ (x : Drawn). Has x now) v.hand (d ∷ []) (Each-if (λ (x : Drawn). Has x t.draws) (λ (x : Drawn). Has x now) v.hand (λ x has. has-left x t.draws (d ∷ []) has) f.holds) (has-right d t.draws (d ∷ []) (inl refl), tt);
      once = no-twice-more v.hand d f.once new;
      spent = λ none. absurd (acts-live a v acts (f.spent none));
      lone = acts_some a v.actors acts;
    }

-- ---- the rule after a draw

draw-kept : (about : Opening) (words : List ℕ) (views : List View) (id a : ℕ) (v : View) (d : Drawn) (h : KeepsRule about words views) → get_elem? views id ≡ some v → Has a v.actors → length v.drawn < 2 ^ 40
    → actor_number d.mark.actor ≡ a → d.mark.stamp ≡ length h.tally.draws + 1 → KeepsRule about ((length h.tally.draws + 1) ∷ []) (set views id (drew (d ∷ []) (length h.tally.draws + 1) v))
draw-kept about words views id a v d h at acts few is stamp =
    let t = h.tally in
    let f = h.fits id v at in
    let mine = f.acts a acts in
    let now = t.draws ++ d ∷ [] in
    let after : Tally = record t { draws = now } in
    let long : length now ≡ length t.draws + 1 = length-append t.draws (d ∷ []) in
    record {
      tally = after;
      opening = record { links = h.opening.links; actors = h.opening.actors; most = h.opening.most };
      word = ap (λ n. n ∷ []) (sym long);
      numbered = numbered-append 0 t.draws d h.numbered (omega (arith, stamp));
      room = λ b. ⊎_elim
          (λ (e : b ≡ a).
          let own : length (of_actor a now) ≡ length (of_actor a t.draws) + 1 = ap length (own-more a t.draws d is) ∙ length-append (of_actor a t.draws) (d ∷ []) in
          let same : length (of_actor a v.drawn) ≡ length (of_actor a t.draws) = ap length mine.whole in
          let le = length-passed (by_actor a) v.drawn in
          subst (λ k. length (of_actor k now) ≤ 2 ^ 40) (sym e) (omega (arith, own, same, le, few)))
          (λ other. subst (λ l. length l ≤ 2 ^ 40) (sym (others-same a b t.draws d is other)) (h.room b))
          (cases_eq b a);
      acting = Each-append (λ (x : Drawn). actor_number x.mark.actor < t.actors) t.draws (d ∷ []) h.acting (subst (λ k. k < t.actors) (sym is) mine.small, tt);
      rises = h.rises;
      drawn = λ l. Each-if (λ (m : Mark). Has (drawn_for l m) t.draws) (λ (m : Mark). Has (drawn_for l m) now) (t.log l) (λ m has. has-left (drawn_for l m) t.draws (d ∷ []) has) (h.drawn l);
      placed = placed-drawn t.draws t.log (hand_at views) (hand_at (set views id (drew (d ∷ []) (length t.draws + 1) v))) id d
          (λ e has is. let most = numbered-most 0 t.draws e h.numbered has in omega (arith, is, most, stamp))
          (λ l x has is. let most = numbered-most 0 t.draws (drawn_for l x) h.numbered (each-has (λ (m : Mark). Has (drawn_for l m) t.draws) x (t.log l) (h.drawn l) has) in omega (arith, is, most, stamp))
          (hand-here views id v (drew (d ∷ []) (length t.draws + 1) v) at ∙ ap (λ ds. ds ++ d ∷ []) (sym (hand-was views id v at)))
          (λ k other. hand-else views id (drew (d ∷ []) (length t.draws + 1) v) k other)
          h.placed;
      seated = λ l lt. stands-set (HoldsList l) views id (t.seat l) v (drew (d ∷ []) (length t.draws + 1) v) at (λ has. has) (h.seated l lt);
      owned = λ b lt. stands-set (HoldsActor b) views id (t.owner b) v (drew (d ∷ []) (length t.draws + 1) v) at (λ has. has) (h.owned b lt);
      fits = views-set (Fits after) views id (drew (d ∷ []) (length t.draws + 1) v)
          (λ j u apart e. apart-fits t a j d u is (λ owns. apart (sym owns ∙ mine.here)) (h.fits j u e))
          (drew-fits t id a v d f acts is stamp (Each-if (λ (e : Drawn). Has e t.draws) (λ (e : Drawn). e.mark.stamp ≡ d.mark.stamp → ⊥) v.hand (λ e has same. let most = numbered-most 0 t.draws e h.numbered has in omega (arith, same, most, stamp)) f.holds));
    }

module _ {S : Type 0} where
  pub draws : (about : Opening) (slots id l a : ℕ) (me : Me S View) (marks : ℕ → List Drawn) (mark : ℕ → Mark) → ((n : ℕ) → marks n ≡ drawn_for l (mark n) ∷ []) → ((n : ℕ) → (mark n).stamp ≡ n) → ((n : ℕ) → actor_number (mark n).actor ≡ a)
      → Has a me.0.actors → length me.0.drawn < 2 ^ 40
      → Allows (Law about) slots id me 0 (λ n. (n + 1) % 2 ^ 64) (λ found after. (after ≡ (drew (marks (found + 1)) (found + 1) me.0, me.1)) × (me.0.seen ≤ found) × (found + 1 ≤ 65 * 2 ^ 40) × HasSeen me.0)
  draws about slots id l a me marks mark marks_are stamps by acts few s h many at lt =
      let n = length h.tally.draws in
      let d = drawn_for l (mark (n + 1)) in
      let kept = draw-kept about s.words s.views id a me.0 d h at acts few (by (n + 1)) (stamps (n + 1)) in
      let top : n + 1 ≤ 65 * 2 ^ 40 = subst (λ k. k ≤ 65 * 2 ^ 40) (sym (ap (λ ws. slice_index ws 0) kept.word)) (most-drawn (2 ^ 40) kept.tally.draws kept.room) in
      let f = h.fits id me.0 at in
      let T : ℕ → Me S View → Type 0 = λ found after. (after ≡ (drew (marks (found + 1)) (found + 1) me.0, me.1)) × (me.0.seen ≤ found) × (found + 1 ≤ 65 * 2 ^ 40) × HasSeen me.0 in
      let P : List ℕ → Type 0 = λ ws. (w : View) × (act : Act S) × Valid s.homes me.1 act × KeepsRule about (slice_set ws 0 ((slice_index ws 0 + 1) % 2 ^ 64)) (set s.views id w)
      × T (slice_index ws 0) (w, carried_after me.1 act) in
      let small : (n + 1) % 2 ^ 64 ≡ n + 1 = omega (arith, top) in
      let one : d ∷ [] ≡ marks (n + 1) = sym (marks_are (n + 1)) in
      let K : KeepsRule about (((n + 1) % 2 ^ 64) ∷ []) (set s.views id (drew (marks (n + 1)) (n + 1) me.0)) =
      subst (λ (x : ℕ × List Drawn). KeepsRule about (x.0 ∷ []) (set s.views id (drew x.1 (n + 1) me.0))) (λ i. (sym small i, one i)) kept in
      let built : P (n ∷ []) = (drew (marks (n + 1)) (n + 1) me.0, keeps, tt, K, (refl, f.seen, top, f.saw)) in
      subst P (sym h.word) built
