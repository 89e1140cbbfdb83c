-- Closing: the seat of a link joins a pass, which then has the link's list, and a pass joins a pass, which then has all
-- that the other had.
use Rattle.std.proofs.Common.{◌≡◌, ◌⊎◌, ℕ, ◌≤◌, max, List, [], ◌∷◌, ◌++◌, refl, sym, ap, ◌∙◌, subst, inl, ⊎_elim}
use Rattle.std.proofs.lemmas.Bool.{eqb-true}
use Rattle.std.proofs.lemmas.List.{append-nil}
use Rattle.std.proofs.lemmas.List.Elements.{filter-append}
use Rattle.std.proofs.Math.Nat.{max-le}
use mathlib.Core.List.{IsPrefix}
use Rattle.atomic_table.specs.Table.{Joins}
use Rattle.net_units.specs.Numbers.{actor_number}
use Rattle.link_steps.specs.Lists.{Each}
use Rattle.link_steps.proofs.SearchAndFilter.{Each-if, Each-append}
use Rattle.step_stamp.specs.declared.marks.Drawn.{Drawn}
use Rattle.step_stamp.specs.declared.marks.Mark.{Mark}
use Rattle.step_stamp.specs.declared.views.Opening.{Opening}
use Rattle.step_stamp.specs.declared.views.Shelf.{Shelf}
use Rattle.step_stamp.specs.declared.views.View.{View}
use Rattle.step_stamp.specs.Lists.{Has, Differ}
use Rattle.step_stamp.specs.Marks.{StampsRise, NoTwice, by_actor, of_actor, longer}
use Rattle.step_stamp.specs.Rule.{Tally, Begins, Fits, Learnt}
use Rattle.step_stamp.specs.Seats.{Settled, Gathered}
use Rattle.step_stamp.specs.Views.{shelf, shelf_of, known_of, first_of, settled, merged, gathered, nobody}
use Rattle.step_stamp.proofs.ListMembers.{has-left, has-right, has-split, each-has, filter-none, differ-both, differ-last, begins-nothing}
use Rattle.step_stamp.proofs.RisingStamps.{longer-both, longer-whole, longer-other}
use Rattle.step_stamp.proofs.Meeting.{most-left, most-right, drawn-left, drawn-right}
use Rattle.step_stamp.proofs.NewestShelf.{shelf-cases, shelf-here, shelf-else, shelf-made, shelf-none, no-known, no-shelf}
use Rattle.step_stamp.proofs.RuleThroughChanges.{Law, no-shelf-seen, stays, moves, joins-all, acts-live, acts_some}

-- a view has drawn nothing of an actor that another view has
none-of : (t : Tally) (a j other : ℕ) (u : View) → Fits t j u → t.owner a ≡ other → (other ≡ j → ⊥) → of_actor a u.drawn ≡ []
none-of t a j other u g owns apart =
    filter-none (by_actor a) u.drawn
    (λ d has on.
    let acts = each-has (λ (x : Drawn). Has (actor_number x.mark.actor) u.actors) d u.drawn g.drew has in
    apart (sym owns ∙ (g.acts a (subst (λ k. Has k u.actors) (eqb-true (actor_number d.mark.actor) a on) acts)).here))

module _ {S : Type 0} where
  pub settles : (about : Opening) (id l a : ℕ) (v : View) (other : ℕ) (w : View) → Has a v.actors → w.hand ≡ [] → w.links ≡ l ∷ [] → w.actors ≡ [] → Joins {S = S} (Law about) id v other w (settled l v w) nobody
  settles about id l a v other w acts empty links no_actors = joins-all about id v other w (settled l v w) refl empty
      (λ k has. has-left k v.links w.links has) (λ k has. has-right k v.links w.links has) (λ b has. has) (λ b has. absurd (subst (Has b) no_actors has))
      (λ t apart f g.
      let own = g.has l (subst (Has l) (sym links) (inl refl)) in
      let sh = shelf l (known_of l w) (known_of l v) (known_of l w) in
      let known : (k : ℕ) → ((l ≡ k → ⊥) → known_of k v ≡ t.log k) → known_of k (settled l v w) ≡ t.log k =
      λ k else. shelf-cases (λ s. s.known ≡ t.log k) k sh v.shelves (λ (e : l ≡ k). own.whole ∙ ap t.log e) else in
      record {
        seen = max-le f.seen g.seen;
        saw = record {
          known = λ k. shelf-cases (λ s. Each (λ (m : Mark). m.stamp ≤ max v.seen w.seen) s.known) k sh v.shelves (λ _. most-right v w (known_of l w) (g.saw.known l)) (λ _. most-left v w (known_of k v) (f.saw.known k));
          drawn = drawn-left v w v.drawn f.saw.drawn;
        };
        among = f.among;
        knows = λ k. shelf-cases (λ s. Begins (t.log k) s) k sh v.shelves
            (λ (e : l ≡ k). subst (λ n. Begins (t.log n) sh) e (record { known = (g.knows l).known; first = (f.knows l).known; second = (g.knows l).known }))
            (λ _. f.knows k);
        has = λ k has. ⊎_elim
            (λ mine.
            let old = f.has k mine in
            record { here = stays other id (t.seat k) id old.here (λ e. absurd (apart (sym e))); whole = known k (λ _. old.whole); small = old.small })
            (λ theirs.
            let k_is : l ≡ k = ⊎_elim (λ (e : l ≡ k). e) (λ no. absurd no) (subst (Has k) links theirs) in
            let old = g.has k theirs in
            record { here = moves other id (t.seat k) old.here; whole = known k (λ no. absurd (no k_is)); small = old.small })
            (has-split k v.links w.links has);
        apart = differ-both v.links w.links f.apart g.apart (λ k mine theirs. apart (sym (g.has k theirs).here ∙ (f.has k mine).here));
        acts = λ a has. (let old = f.acts a has in record { here = stays other id (t.owner a) id old.here (λ e. absurd (apart (sym e))); whole = old.whole; small = old.small });
        drew = f.drew;
        holds = f.holds;
        once = f.once;
        spent = λ none. absurd (acts-live a v acts (f.spent none));
        lone = acts_some a v.actors acts;
      })

  pub gathers : (about : Opening) (id a : ℕ) (v : View) (other : ℕ) (w : View) → Has a v.actors → w.hand ≡ [] → Joins {S = S} (Law about) id v other w (gathered v w) nobody
  gathers about id a v other w acts empty = joins-all about id v other w (gathered v w) (ap (λ ds. v.hand ++ ds) empty ∙ append-nil v.hand) empty
      (λ k has. has-left k v.links w.links has) (λ k has. has-right k v.links w.links has) (λ b has. has-left b v.actors w.actors has) (λ b has. has-right b v.actors w.actors has)
      (λ t apart f g.
      let at_link : ℕ → Shelf = λ l. shelf l (longer (known_of l v) (known_of l w)) (known_of l v) (known_of l w) in
      let ss = v.shelves ++ w.shelves in
      let made : (l : ℕ) (P : Shelf → Type 0) → P (at_link l) → (((s : Shelf) → Has s ss → s.link ≡ l → ⊥) → P (shelf_of l [])) → P (shelf_of l (gathered v w).shelves) =
      λ l P here none. shelf-made P (merged v w) at_link (λ s. refl) (λ k. refl) l ss here none in
      let seen : List Mark → Type 0 = Each (λ (m : Mark). m.stamp ≤ max v.seen w.seen) in
      record {
        seen = max-le f.seen g.seen;
        saw = record {
          known = λ l. made l (λ s. seen s.known)
              (longer-both seen (known_of l v) (known_of l w) (most-left v w (known_of l v) (f.saw.known l)) (most-right v w (known_of l w) (g.saw.known l)))
              (λ _. no-shelf-seen (max v.seen w.seen) l);
          drawn = Each-append (λ (d : Drawn). d.mark.stamp ≤ max v.seen w.seen) v.drawn w.drawn (drawn-left v w v.drawn f.saw.drawn) (drawn-right v w w.drawn g.saw.drawn);
        };
        among = f.among;
        knows = λ l. made l (λ s. Begins (t.log l) s)
            (record { known = longer-both (λ ms. IsPrefix ms (t.log l)) (known_of l v) (known_of l w) (f.knows l).known (g.knows l).known; first = (f.knows l).known; second = (g.knows l).known })
            (λ _. no-shelf (t.log l) l);
        has = λ k has. ⊎_elim
            (λ mine.
            let old = f.has k mine in
            record {
              here = stays other id (t.seat k) id old.here (λ e. absurd (apart (sym e)));
              whole = made k (λ s. s.known ≡ t.log k) (longer-whole (t.log k) (known_of k v) (known_of k w) old.whole (g.knows k).known)
                  (λ no. sym (ap (λ (s : Shelf). s.known) (shelf-none k v.shelves (λ s has'. no s (has-left s v.shelves w.shelves has')))) ∙ old.whole);
              small = old.small;
            })
            (λ theirs.
            let old = g.has k theirs in
            record {
              here = moves other id (t.seat k) old.here;
              whole = made k (λ s. s.known ≡ t.log k) (longer-other (t.log k) (known_of k v) (known_of k w) old.whole (f.knows k).known)
                  (λ no. sym (ap (λ (s : Shelf). s.known) (shelf-none k w.shelves (λ s has'. no s (has-right s v.shelves w.shelves has')))) ∙ old.whole);
              small = old.small;
            })
            (has-split k v.links w.links has);
        apart = differ-both v.links w.links f.apart g.apart (λ k mine theirs. apart (sym (g.has k theirs).here ∙ (f.has k mine).here));
        acts = λ a has. ⊎_elim
            (λ mine.
            let old = f.acts a mine in
            record {
              here = stays other id (t.owner a) id old.here (λ e. absurd (apart (sym e)));
              whole = filter-append (by_actor a) v.drawn w.drawn ∙ ap (λ ds. of_actor a v.drawn ++ ds) (none-of t a other id w g old.here (λ e. apart (sym e))) ∙ append-nil (of_actor a v.drawn) ∙ old.whole;
              small = old.small;
            })
            (λ theirs.
            let old = g.acts a theirs in
            record {
              here = moves other id (t.owner a) old.here;
              whole = filter-append (by_actor a) v.drawn w.drawn ∙ ap (λ ds. ds ++ of_actor a w.drawn) (none-of t a id other v f old.here apart) ∙ old.whole;
              small = old.small;
            })
            (has-split a v.actors w.actors has);
        drew = Each-append (λ (d : Drawn). Has (actor_number d.mark.actor) (v.actors ++ w.actors)) v.drawn w.drawn
            (Each-if (λ (d : Drawn). Has (actor_number d.mark.actor) v.actors) (λ (d : Drawn). Has (actor_number d.mark.actor) (v.actors ++ w.actors)) v.drawn (λ d has. has-left (actor_number d.mark.actor) v.actors w.actors has) f.drew)
            (Each-if (λ (d : Drawn). Has (actor_number d.mark.actor) w.actors) (λ (d : Drawn). Has (actor_number d.mark.actor) (v.actors ++ w.actors)) w.drawn (λ d has. has-right (actor_number d.mark.actor) v.actors w.actors has) g.drew);
        holds = Each-append (λ (d : Drawn). Has d t.draws) v.hand w.hand f.holds g.holds;
        once = subst NoTwice (sym (ap (λ ds. v.hand ++ ds) empty ∙ append-nil v.hand)) f.once;
        spent = λ none. absurd (acts-live a v acts (f.spent none));
        lone = acts_some a (v.actors ++ w.actors) (has-left a v.actors w.actors acts);
      })

-- ---- what a join for good tells

pub settled-facts : (l : ℕ) (v w : View) → w.links ≡ l ∷ [] → 1 ≤ v.among → Learnt (settled l v w) → Settled l v w (settled l v w)
settled-facts l v w links some told =
    let now = settled l v w in
    let here : Has l now.links = has-right l v.links w.links (subst (Has l) (sym links) (inl refl)) in
    let on_shelf = shelf-here l (known_of l w) (known_of l v) (known_of l w) v.shelves in
    let knows : known_of l now ≡ known_of l w = ap (λ (s : Shelf). s.known) on_shelf in
    let first : first_of l now ≡ known_of l v = ap (λ (s : Shelf). s.first) on_shelf in
    record {
      begins = subst (λ (x : List Mark × List Mark). IsPrefix x.0 x.1) (λ i. (first i, knows i)) (told.begun l here);
      rises = subst StampsRise knows (told.rises l here);
      own = λ m has acts. told.own l m (subst (Has m) (sym knows) has) acts;
      all = λ every m has. told.all some every l m (subst (Has m) (sym knows) has);
      new = differ-last l v.links (subst (λ ls. Differ (v.links ++ ls)) links told.apart);
      links = ap (λ ls. v.links ++ ls) links;
      knows = knows;
      others = λ k other. ap (λ (s : Shelf). s.known) (shelf-else l k (shelf l (known_of l w) (known_of l v) (known_of l w)) v.shelves refl other);
      drawn = refl;
      actors = refl;
      saw = refl;
      among = refl;
    }

pub gathered-facts : (v w : View) → Learnt (gathered v w) → Gathered v w (gathered v w)
gathered-facts v w told =
    let at_link : ℕ → Shelf = λ l. shelf l (longer (known_of l v) (known_of l w)) (known_of l v) (known_of l w) in
    let ss = v.shelves ++ w.shelves in
    let nothing : (l : ℕ) → ((s : Shelf) → Has s ss → s.link ≡ l → ⊥) → (known_of l v ≡ []) × (known_of l w ≡ []) =
    λ l never. (
      ap (λ (s : Shelf). s.known) (shelf-none l v.shelves (λ s has. never s (has-left s v.shelves w.shelves has))) ∙ no-known l,
      ap (λ (s : Shelf). s.known) (shelf-none l w.shelves (λ s has. never s (has-right s v.shelves w.shelves has))) ∙ no-known l,
    ) in
    record {
      drawn = refl;
      once = told.once;
      actors = refl;
      knows = λ l. shelf-made (λ s. s.known ≡ longer (known_of l v) (known_of l w)) (merged v w) at_link (λ s. refl) (λ k. refl) l ss refl
          (λ never. let none = nothing l never in no-known l ∙ (λ i. longer (sym none.0 i) (sym none.1 i)));
      in_line = λ l.
          shelf-made (λ s. (IsPrefix s.first s.second ⊎ IsPrefix s.second s.first) → IsPrefix (known_of l v) (known_of l w) ⊎ IsPrefix (known_of l w) (known_of l v)) (merged v w) at_link (λ s. refl) (λ k. refl) l ss
          (λ line. line)
          (λ never _. inl (subst (λ ms. IsPrefix ms (known_of l w)) (sym (nothing l never).0) (begins-nothing (known_of l w))))
          (told.in_line l);
      saw = refl;
      among = refl;
    }
