-- What the rule tells of a view: by a load that changes nothing, and by one that counts as seen.
use Rattle.std.proofs.Common.{◌≡◌, ℕ, eqb, ◌^◌, ◌<◌, ◌≤◌, List, [], ◌∷◌, length, set, refl, sym, ap, ◌∙◌, subst, inl, ⊎_elim, arith}
use Rattle.std.specs.Prelude.{slice_index, slice_set}
use Rattle.std.proofs.lemmas.Bool.{eq-eqb, eqb-true}
use mathlib.Core.Option.{some}
use mathlib.Core.List.{IsPrefix}
use lib.ListN.{get_elem?}
use Rattle.atomic_table.specs.Table.{Me, keeps, Allows}
use Rattle.atomic_table.proofs.Lists.{set_again}
use Rattle.net_units.specs.Numbers.{actor_number}
use Rattle.link_steps.proofs.SearchAndFilter.{Each-if}
use Rattle.step_stamp.specs.declared.marks.Drawn.{Drawn}
use Rattle.step_stamp.specs.declared.marks.Mark.{Mark}
use Rattle.step_stamp.specs.declared.views.Opening.{Opening}
use Rattle.step_stamp.specs.declared.views.View.{View}
use Rattle.step_stamp.specs.Lists.{Has}
use Rattle.step_stamp.specs.Marks.{StampsRise, drawn_marks, by_actor, of_actor, marks_of, drawn_for}
use Rattle.step_stamp.specs.Placing.{hand_at}
use Rattle.step_stamp.specs.Rule.{Fits, HoldsList, HoldsActor, KeepsRule, Learnt}
use Rattle.step_stamp.specs.Views.{known_of, first_of, second_of, saw}
use Rattle.step_stamp.proofs.ListMembers.{has-prefix, each-has, has-passed, has-kept, passes-test, filter-none, prefixes}
use Rattle.step_stamp.proofs.RisingStamps.{numbered-rise, draws-filter, same-stamp, no-twice, most-drawn}
use Rattle.step_stamp.proofs.MarkPlaces.{hand-set, placed-same}
use Rattle.step_stamp.proofs.ViewsRemain.{stands-set}
use Rattle.step_stamp.proofs.RuleThroughChanges.{Law, views-set, acts-live, acts_some}

-- what a view has drawn was drawn
pub drawn-of : (about : Opening) (words : List ℕ) (views : List View) (id : ℕ) (v : View) (h : KeepsRule about words views) → get_elem? views id ≡ some v → (d : Drawn) → Has d v.drawn → Has d h.tally.draws
drawn-of about words views id v h at d has =
    let a = actor_number d.mark.actor in
    let acts = each-has (λ (x : Drawn). Has (actor_number x.mark.actor) v.actors) d v.drawn (h.fits id v at).drew has in
    has-kept (by_actor a) d h.tally.draws (subst (Has d) ((h.fits id v at).acts a acts).whole (has-passed (by_actor a) d v.drawn (eq-eqb a a refl) has))

-- what the rule says of a view
pub learnt : (about : Opening) (words : List ℕ) (views : List View) (id : ℕ) (v : View) → KeepsRule about words views → get_elem? views id ≡ some v → Learnt v
learnt about words views id v h at =
    let f = h.fits id v at in
    let t = h.tally in
    record {
      saw = f.saw;
      apart = f.apart;
      begun = λ l has. subst (IsPrefix (first_of l v)) (sym (f.has l has).whole) (f.knows l).first;
      joined = λ l has. subst (IsPrefix (second_of l v)) (sym (f.has l has).whole) (f.knows l).second;
      in_line = λ l. prefixes (first_of l v) (second_of l v) (t.log l) (f.knows l).first (f.knows l).second;
      rises = λ l has. subst StampsRise (sym (f.has l has).whole) (h.rises l);
      few = most-drawn (2 ^ 40) v.drawn (λ a. few-of a (of_actor a v.drawn) refl);
      once = no-twice v.drawn (λ a. rise-of a (of_actor a v.drawn) refl) (λ d e hd he. same-stamp 0 t.draws d e (numbered-rise 0 t.draws h.numbered) (drawn-of about words views id v h at d hd) (drawn-of about words views id v h at e he));
      in_turn = λ a. rise-of a (of_actor a v.drawn) refl;
      own = λ l m known acts. own-of l m known acts;
      all = λ least every l m known. own-of l m known (every (actor_number m.actor) (below-among least (actor_number m.actor) (each-has (λ (d : Drawn). actor_number d.mark.actor < t.actors) (drawn_for l m) t.draws h.acting (made-of l m known))));
    }
  where
    -- a mark known is drawn
    made-of : (l : ℕ) (m : Mark) → Has m (known_of l v) → Has (drawn_for l m) h.tally.draws
    made-of l m known =
        each-has (λ (x : Mark). Has (drawn_for l x) h.tally.draws) m (h.tally.log l) (h.drawn l) (has-prefix m (known_of l v) (h.tally.log l) ((h.fits id v at).knows l).known known)

    -- and by this view where it has the actor
    own-of : (l : ℕ) (m : Mark) → Has m (known_of l v) → Has (actor_number m.actor) v.actors → Has (drawn_for l m) v.drawn
    own-of l m known acts =
        let a = actor_number m.actor in
        let mine : Has (drawn_for l m) (of_actor a h.tally.draws) = has-passed (by_actor a) (drawn_for l m) h.tally.draws (eq-eqb a a refl) (made-of l m known) in
        has-kept (by_actor a) (drawn_for l m) v.drawn (subst (Has (drawn_for l m)) (sym ((h.fits id v at).acts a acts).whole) mine)

    below-among : 1 ≤ v.among → (a : ℕ) → a < h.tally.actors → a < v.among
    below-among least a lt = ⊎_elim (λ (none : v.among ≡ 0). absurd (omega (arith, none, least))) (λ (is : v.among ≡ h.tally.actors). omega (arith, is, lt)) (h.fits id v at).among

    -- the actor of a mark drawn is one of the view's
    acts-of : (d : Drawn) → Has d v.drawn → Has (actor_number d.mark.actor) v.actors
    acts-of d has = each-has (λ (x : Drawn). Has (actor_number x.mark.actor) v.actors) d v.drawn (h.fits id v at).drew has

    -- where an actor has drawn a mark here, all that it drew is here
    whole-of : (a : ℕ) (d : Drawn) (ds : List Drawn) → of_actor a v.drawn ≡ d ∷ ds → of_actor a h.tally.draws ≡ d ∷ ds
    whole-of a d ds is =
        let there : Has d (of_actor a v.drawn) = subst (Has d) (sym is) (inl refl) in
        let a_is : actor_number d.mark.actor ≡ a = eqb-true (actor_number d.mark.actor) a (passes-test (by_actor a) d v.drawn there) in
        sym ((h.fits id v at).acts a (subst (λ k. Has k v.actors) a_is (acts-of d (has-kept (by_actor a) d v.drawn there)))).whole ∙ is

    rise-of : (a : ℕ) (ds : List Drawn) → of_actor a v.drawn ≡ ds → StampsRise (drawn_marks ds)
    rise-of a [] is = tt
    rise-of a (d ∷ ds) is = subst (λ xs. StampsRise (drawn_marks xs)) (whole-of a d ds is) (draws-filter (by_actor a) 0 h.tally.draws (numbered-rise 0 h.tally.draws h.numbered))

    few-of : (a : ℕ) (ds : List Drawn) → of_actor a v.drawn ≡ ds → length ds ≤ 2 ^ 40
    few-of a [] is = omega arith
    few-of a (d ∷ ds) is = subst (λ (xs : List Drawn). length xs ≤ 2 ^ 40) (whole-of a d ds is) (h.room a)

no-drawn : (n : ℕ) (ds : List Drawn) → n ≡ length ds → n ≡ 0 → ds ≡ []
no-drawn n [] count none = refl
no-drawn n (d ∷ ds) count none = absurd (omega (arith, count, none))

-- a pass that has drawn nothing knows no mark of its actor
pub fresh-still : (a n : ℕ) (v w : View) → Learnt v → w ≡ v → Has a v.actors → n ≡ length v.drawn → n ≡ 0 → (l : ℕ) → marks_of a (known_of l w) ≡ []
fresh-still a n v w told is acts count none l =
    ap (λ (x : View). marks_of a (known_of l x)) is
    ∙ filter-none (λ (m : Mark). eqb (actor_number m.actor) a) (known_of l v)
    (λ m has on. subst (Has (drawn_for l m)) (no-drawn n v.drawn count none) (told.own l m has (subst (λ k. Has k v.actors) (sym (eqb-true (actor_number m.actor) a on)) acts)))

module _ {S : Type 0} where
  -- a load tells this of the view
  pub learns : (about : Opening) (slots id : ℕ) (me : Me S View) → Allows (Law about) slots id me 0 (λ n. n) (λ found after. (after ≡ me) × Learnt me.0)
  learns about slots id me s h many at lt =
      let same : slice_set s.words 0 (slice_index s.words 0) ≡ s.words = subst (λ ws. slice_set ws 0 (slice_index ws 0) ≡ ws) (sym h.word) refl in (
        me.0,
        keeps,
        tt,
        subst (λ ws. KeepsRule about ws (set s.views id me.0)) (sym same) (subst (KeepsRule about s.words) (sym (set_again s.views id me.0 at)) h),
        (refl, learnt about s.words s.views id me.0 h at),
      )

  -- a load counts as seen
  pub sees : (about : Opening) (slots id a : ℕ) (me : Me S View) → Has a me.0.actors → Allows (Law about) slots id me 0 (λ n. n) (λ found after. (after ≡ (saw found me.0, me.1)) × (me.0.seen ≤ found))
  sees about slots id a me acts s h many at lt =
      let t = h.tally in
      let same : slice_set s.words 0 (slice_index s.words 0) ≡ s.words = subst (λ ws. slice_set ws 0 (slice_index ws 0) ≡ ws) (sym h.word) refl in
      let n : slice_index s.words 0 ≡ length t.draws = ap (λ ws. slice_index ws 0) h.word in
      let f = h.fits id me.0 at in
      let most : me.0.seen ≤ slice_index s.words 0 = subst (λ k. me.0.seen ≤ k) (sym n) f.seen in (
        saw (slice_index s.words 0) me.0,
        keeps,
        tt,
        subst (λ ws. KeepsRule about ws (set s.views id (saw (slice_index s.words 0) me.0))) (sym same)
            (record {
              tally = t;
              opening = h.opening;
              word = h.word;
              numbered = h.numbered;
              room = h.room;
              acting = h.acting;
              rises = h.rises;
              drawn = h.drawn;
              placed = placed-same t.draws t.log (hand_at s.views) (hand_at (set s.views id (saw (slice_index s.words 0) me.0))) (hand-set s.views id me.0 (saw (slice_index s.words 0) me.0) at refl) h.placed;
              seated = λ l small. stands-set (HoldsList l) s.views id (t.seat l) me.0 (saw (slice_index s.words 0) me.0) at (λ has. has) (h.seated l small);
              owned = λ b small. stands-set (HoldsActor b) s.views id (t.owner b) me.0 (saw (slice_index s.words 0) me.0) at (λ has. has) (h.owned b small);
              fits = views-set (Fits t) s.views id (saw (slice_index s.words 0) me.0) (λ j u _ e. h.fits j u e)
                  (record {
                    seen = omega (arith, n);
                    saw = record {
                      known = λ l. Each-if (λ (m : Mark). m.stamp ≤ me.0.seen) (λ (m : Mark). m.stamp ≤ slice_index s.words 0) (known_of l me.0) (λ m le. omega (arith, le, most)) (f.saw.known l);
                      drawn = Each-if (λ (d : Drawn). d.mark.stamp ≤ me.0.seen) (λ (d : Drawn). d.mark.stamp ≤ slice_index s.words 0) me.0.drawn (λ d le. omega (arith, le, most)) f.saw.drawn;
                    };
                    among = f.among;
                    knows = f.knows;
                    has = λ l has. let was = f.has l has in record { here = was.here; whole = was.whole; small = was.small };
                    apart = f.apart;
                    acts = f.acts;
                    drew = f.drew;
                    holds = f.holds;
                    once = f.once;
                    spent = λ none. absurd (acts-live a me.0 acts (f.spent none));
                    lone = acts_some a me.0.actors acts;
                  });
            }),
        (refl, most),
      )
