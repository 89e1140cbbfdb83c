-- A list whose part on each link is legal there, and whose part for each actor is asked by its own rules, is a run.
use Rattle.std.proofs.Common.{◌≡◌, ◌≢◌, ℕ, List, [], ◌∷◌, length, map, Some, refl, sym, ap, ◌∙◌, subst, inl, inr}
use Rattle.run_engine.proofs.Words.{cases_Bool, eqb-true, eqb-false, eq-eqb, ne_eqb, slice_get, nat_eq, link_number, actor_number, Link, IsLegal, Each, Done, script_ask, Network, plane_of, plane_ask, is_by, part_of, replies_to, plane_no, next_for, IsRun}
use Rattle.run_engine.specs.runs.Parts.{reply_of, next_after, IsAsked, own_of, IsLinked}
use Rattle.run_engine.proofs.Runs.RunLegal.{part-on, part-off}

own-replies : (actor : ℕ) (run : List Done) → replies_to actor run ≡ map reply_of (own_of actor run)
unfolding replies_to
own-replies actor [] = refl
own-replies actor (done ∷ past) =
    elim (cases_Bool (is_by actor done)) [
      | inl by ↦ rw by (ap (λ rs. done.reply ∷ rs) (own-replies actor past))
      | inr off ↦ rw off (own-replies actor past)
    ]

pub next-is : (network : Network) (actor : ℕ) (run : List Done) → next_for network actor run ≡ next_after network actor (map reply_of (own_of actor run))
unfolding next_for
next-is network actor run =
    elim (cases_Bool (nat_eq actor (plane_no network))) [
      | inl plane ↦ (let e = eqb-true actor (plane_no network) plane in rw plane (ap (λ a. plane_ask network.rounds (plane_of (length network.links) (replies_to a run))) (sym e) ∙ ap (λ rs. plane_ask network.rounds (plane_of (length network.links) rs)) (own-replies actor run)))
      | inr caller ↦ rw caller (ap (script_ask (slice_get network.scripts actor)) (own-replies actor run))
    ]

own-by : (actor : ℕ) (done : Done) (past : List Done) → actor_number done.actor ≡ actor → own_of actor (done ∷ past) ≡ done ∷ own_of actor past
own-by actor done past is = rw (eq-eqb (actor_number done.actor) actor is) refl

own-off : (actor : ℕ) (done : Done) (past : List Done) → actor_number done.actor ≢ actor → own_of actor (done ∷ past) ≡ own_of actor past
own-off actor done past other = rw (ne_eqb (actor_number done.actor) actor other) refl

pub parts-run : (network : Network) (run : List Done) → Each (IsLinked network) run → ((n : ℕ) (link : Link) → slice_get network.links n ≡ Some link → IsLegal link (part_of n run)) → ((actor : ℕ) → IsAsked network actor (own_of actor run)) → IsRun network run
unfolding IsRun IsLegal
parts-run network [] linked legal asked = tt
parts-run network (done ∷ past) linked legal asked =
    let own = subst (IsLegal linked.0.link) (part-on (link_number done.link) done past refl) (legal (link_number done.link) linked.0.link linked.0.linked) in
    let mine = subst (IsAsked network (actor_number done.actor)) (own-by (actor_number done.actor) done past refl) (asked (actor_number done.actor)) in (
      parts-run network past linked.1
          (λ n link found. elim (cases_Bool (nat_eq (link_number done.link) n)) [
            | inl on ↦ (subst (IsLegal link) (part-on n done past (eqb-true (link_number done.link) n on)) (legal n link found)).0
            | inr off ↦ subst (IsLegal link) (part-off n done past (eqb-false (link_number done.link) n off)) (legal n link found)
          ])
          (λ actor. elim (cases_Bool (nat_eq (actor_number done.actor) actor)) [
            | inl by ↦ (subst (IsAsked network actor) (own-by actor done past (eqb-true (actor_number done.actor) actor by)) (asked actor)).0
            | inr off ↦ subst (IsAsked network actor) (own-off actor done past (eqb-false (actor_number done.actor) actor off)) (asked actor)
          ]),
      record { link = linked.0.link; linked = linked.0.linked; asked = next-is network (actor_number done.actor) past ∙ mine.1; answered = own.1.answered },
    )
