-- Each stamp from 1 to the word stands in the drawn list of one view: its actor is in one view, which has all that the actor
-- drew. So it is with each link's list and with each actor, since the rule names a view that is there and no other has them.
use Rattle.std.proofs.Common.{◌≡◌, ℕ, suc, ◌+◌, ◌<◌, ◌≤◌, List, [], ◌∷◌, length, refl, sym, ap, ◌∙◌, subst, inl, inr, ⊎_elim, arith}
use Rattle.std.specs.Prelude.{slice_index}
use Rattle.std.proofs.lemmas.Bool.{eq-eqb, cases_eq}
use Rattle.net_units.specs.Numbers.{actor_number}
use Rattle.step_stamp.specs.declared.marks.Drawn.{Drawn}
use Rattle.step_stamp.specs.declared.views.Opening.{Opening}
use Rattle.step_stamp.specs.declared.views.View.{View}
use Rattle.step_stamp.specs.Laws.{IsOfOne, HasDrawn, StandOnce, EachStandsOnce}
use Rattle.step_stamp.specs.Lists.{Has}
use Rattle.step_stamp.specs.Marks.{Numbered, by_actor}
use Rattle.step_stamp.specs.Rule.{KeepsRule}
use Rattle.step_stamp.proofs.Learning.{learnt, drawn-of}
use Rattle.step_stamp.proofs.ListMembers.{each-has, has-passed, has-kept}
use Rattle.step_stamp.proofs.RisingStamps.{numbered-rise, same-stamp}

-- numbered draws have a draw of each number
numbered-has : (n : ℕ) (ds : List Drawn) (k : ℕ) → Numbered n ds → n < k → k ≤ n + length ds → (d : Drawn) × Has d ds × (d.mark.stamp ≡ k)
numbered-has n [] k numbered lt le = absurd (omega arith)
numbered-has n (d ∷ ds) k numbered lt le =
    ⊎_elim
    (λ (e : k ≡ suc n). (d, inl refl, numbered.0 ∙ sym e))
    (λ other. let rest = numbered-has (suc n) ds k numbered.1 (omega (arith, other)) (omega arith) in (rest.0, inr rest.1, rest.2))
    (cases_eq k (suc n))

module _ (about : Opening) (words : List ℕ) (views : List View) (h : KeepsRule about words views) where
  -- a draw stands in the view that has its actor
  stands-there : (d : Drawn) → Has d h.tally.draws → IsOfOne views (HasDrawn d.mark.stamp)
  stands-there d has =
      let a = actor_number d.mark.actor in
      let at = h.owned a (each-has (λ (x : Drawn). actor_number x.mark.actor < h.tally.actors) d h.tally.draws h.acting has) in
      let f = h.fits (h.tally.owner a) at.view at.found in
      let there : Has d at.view.drawn = has-kept (by_actor a) d at.view.drawn (subst (Has d) (sym (f.acts a at.fact).whole) (has-passed (by_actor a) d h.tally.draws (eq-eqb a a refl) has)) in
      record {
        by = h.tally.owner a;
        stands = record { view = at.view; found = at.found; fact = record { drawn = d; here = there; stamp_is = refl } };
        only = λ j u found is.
            let g = h.fits j u found in
            let same : is.drawn ≡ d = same-stamp 0 h.tally.draws is.drawn d (numbered-rise 0 h.tally.draws h.numbered) (drawn-of about words views j u h found is.drawn is.here) has is.stamp_is in
            let acts : Has a u.actors = subst (λ (x : Drawn). Has (actor_number x.mark.actor) u.actors) same (each-has (λ (x : Drawn). Has (actor_number x.mark.actor) u.actors) is.drawn u.drawn g.drew is.here) in
            sym (g.acts a acts).here;
      }

  stand-once : StandOnce about words views
  stand-once = record {
    stamps = λ n least most.
        let word : slice_index words 0 ≡ length h.tally.draws = ap (λ ws. slice_index ws 0) h.word in
        let d = numbered-has 0 h.tally.draws n h.numbered (omega arith) (omega (arith, word, most)) in
        subst (λ k. IsOfOne views (HasDrawn k)) d.2 (stands-there d.0 d.1);
    once = λ j u found. (learnt about words views j u h found).once;
    lists = λ l lt. record {
      by = h.tally.seat l;
      stands = h.seated l (subst (λ n. l < n) (sym h.opening.links) lt);
      only = λ j u found has. sym ((h.fits j u found).has l has).here;
    };
    actors = λ a lt. record {
      by = h.tally.owner a;
      stands = h.owned a (subst (λ n. a < n) (sym h.opening.actors) lt);
      only = λ j u found has. sym ((h.fits j u found).acts a has).here;
    };
  }

pub each_once : EachStandsOnce
each_once about words views h = stand-once about words views h
