-- Seats joined at closing: each keeps what the others knew, and the links' seats then tell that all was drawn.
use Rattle.std.proofs.Common.{◌≡◌, ℕ, zero, suc, ◌<◌, ◌≤◌, ◌⊎◌, false, List, [], ◌∷◌, ◌++◌, map, refl, sym, ap, ◌∙◌, subst, inl, inr, arith}
use Rattle.shared_network.proofs.Words.{cases_lt, append_assoc, append-nil, map-append, same_Some, slice_get, TableId, ActorNo, Each, Link, Has, up_to, RisesFrom, StampsRise, NoTwice, drawn_for, longer, Gathered, known_of, Mark, View, done_in, marks_in, own_mark, own_drawn, Token, IsLink, Journal, OwnEntry}
use mathlib.Core.List.{IsPrefix}
use Rattle.link_steps.specs.Journals.{IsLegalJournal}
use Rattle.link_steps.proofs.SearchAndFilter.{Each-if, Each-append}
use Rattle.step_stamp.specs.Seats.{Settled}
use Rattle.step_stamp.specs.declared.marks.Drawn.{Drawn}
use Rattle.step_stamp.proofs.ListMembers.{each-has, has-left, has-right, begins-then, begins-itself}
use Rattle.step_stamp.proofs.RisingStamps.{longer-whole, longer-second}
use Rattle.shared_network.specs.Closing.{kept_pass, number_of, HaveGivenUp}
use Rattle.shared_network.specs.Gathering.{token_actor, all_drawn, IsPartOf, AreGathered, IsSettled}
use Rattle.shared_network.specs.Ready.{MayStep}

-- ---- prefixes

-- each of two lists in line begins the longer one
longer-both : (xs ys : List Mark) → IsPrefix xs ys ⊎ IsPrefix ys xs → IsPrefix xs (longer xs ys) × IsPrefix ys (longer xs ys)
longer-both xs ys (inl first) = (subst (IsPrefix xs) (sym (longer-second xs ys first)) first, subst (IsPrefix ys) (sym (longer-second xs ys first)) (begins-itself ys))
longer-both xs ys (inr second) = (subst (IsPrefix xs) (sym (longer-whole xs xs ys refl second)) (begins-itself xs), subst (IsPrefix ys) (sym (longer-whole xs xs ys refl second)) second)

-- ---- one pass after the other

all_drawn-more : (passes : List Token) (pass : Token) → all_drawn (passes ++ pass ∷ []) ≡ all_drawn passes ++ pass.view.drawn
unfolding all_drawn
all_drawn-more [] pass = append-nil pass.view.drawn
all_drawn-more (p ∷ passes) pass = ap (λ ds. p.view.drawn ++ ds) (all_drawn-more passes pass) ∙ sym (append_assoc p.view.drawn (all_drawn passes) pass.view.drawn)

-- rising stamps stand once
once-rises : (low : ℕ) (actor : ActorNo) (own : List OwnEntry) → RisesFrom low (map (own_mark actor) own) → NoTwice (map (own_drawn actor) own)
once-rises low actor [] rises = tt
once-rises low actor (e ∷ own) rises = (above e.stamp e.stamp own (omega arith) rises.1, once-rises e.stamp actor own rises.1) where
  above : (bar from : ℕ) (es : List OwnEntry) → bar ≤ from → RisesFrom from (map (own_mark actor) es) → Each (λ (d : Drawn). d.mark.stamp ≡ bar → ⊥) (map (own_drawn actor) es)
  above bar from [] le up = tt
  above bar from (o ∷ es) le up = let first = up.0 in ((λ is. omega (arith, is, first, le)), above bar o.stamp es (omega (arith, first, le)) up.1)

-- the first seat
pub gathered-first : (table : TableId) (owners : List ActorNo) (links : List Link) (n : ℕ) (pass : Token) (v : View) → MayStep table owners links pass → pass.view.among ≡ n → v ≡ pass.view → AreGathered n (pass ∷ []) v
unfolding all_drawn
gathered-first table owners links n pass v may among is =
    subst (AreGathered n (pass ∷ [])) (sym is)
    (record {
      drawn = sym (append-nil pass.view.drawn);
      once = subst NoTwice (sym may.exact.drawn) (once-rises 0 pass.actor pass.own may.rises);
      actors_are = may.acts;
      among = among;
      parts = ((λ l. begins-itself (known_of l pass.view)), tt);
    })

-- and one more
pub gathered-next : (table : TableId) (owners : List ActorNo) (links : List Link) (n : ℕ) (passes : List Token) (pass : Token) (v w v' : View) → MayStep table owners links pass → w ≡ pass.view → AreGathered n passes v → Gathered v w v' → AreGathered n (passes ++ pass ∷ []) v'
gathered-next table owners links n passes pass v w v' may is so joined = record {
  drawn = joined.drawn ∙ (λ i. so.drawn i ++ (is i).drawn) ∙ sym (all_drawn-more passes pass);
  once = joined.once;
  actors_are = joined.actors ∙ (λ i. so.actors_are i ++ (is i).actors) ∙ ap (λ ns. map token_actor passes ++ ns) may.acts ∙ sym (map-append token_actor passes (pass ∷ []));
  among = joined.among ∙ so.among;
  parts = Each-append (IsPartOf v') passes (pass ∷ []) (Each-if (IsPartOf v) (IsPartOf v') passes (λ p part l. begins-then (known_of l p.view) (known_of l v) (known_of l v') (part l) (both l).0) so.parts)
      ((λ l. subst (λ (x : View). IsPrefix (known_of l x) (known_of l v')) is (both l).1), tt);
} where
  both : (l : ℕ) → IsPrefix (known_of l v) (known_of l v') × IsPrefix (known_of l w) (known_of l v')
  both l = (let one = longer-both (known_of l v) (known_of l w) (joined.in_line l) in (subst (IsPrefix (known_of l v)) (sym (joined.knows l)) one.0, subst (IsPrefix (known_of l w)) (sym (joined.knows l)) one.1))

-- ---- the passes without their seats

pub given-none : (closed : List Token) → closed ≡ [] → HaveGivenUp [] closed
given-none closed none = subst (HaveGivenUp []) (sym none) (record { kept = refl; gone = tt })

pub given-more : (done closed closed' : List Token) (pass gone : Token) → HaveGivenUp done closed → closed' ≡ closed ++ gone ∷ [] → gone.actor ≡ pass.actor → gone.own ≡ pass.own → gone.has_seat ≡ false → HaveGivenUp (done ++ pass ∷ []) closed'
given-more done closed closed' pass gone so more actor own has =
    subst (HaveGivenUp (done ++ pass ∷ [])) (sym more)
    (record {
      kept = map-append kept_pass closed (gone ∷ []) ∙ (λ i. so.kept i ++ record { actor = actor i; own = own i } ∷ []) ∙ sym (map-append kept_pass done (pass ∷ []));
      gone = Each-append (λ (p : Token). p.has_seat ≡ false) closed (gone ∷ []) so.gone (has, tt);
    })

-- what holds of all holds of one among them
pub after : {X : Type 0} (P : X → Type 0) (all done rest : List X) (x : X) → done ++ x ∷ rest ≡ all → Each P all → P x
after P all done rest x is each = each-has P x all each (subst (Has x) is (has-right x done (x ∷ rest) (inl refl)))

-- ---- the links

-- what was joined stays, but for what is known of the links whose lists are there now
pub record StaysGathered (v v' : View) : Type 0 where
  pub drawn : v'.drawn ≡ v.drawn
  pub actors : v'.actors ≡ v.actors
  pub among : v'.among ≡ v.among
  pub knows : (l : ℕ) → (Has l v'.links → ⊥) → known_of l v' ≡ known_of l v

pub stays-first : (v : View) → StaysGathered v v
stays-first v = record { drawn = refl; actors = refl; among = refl; knows = λ l _. refl }

-- a link's seat is joined, and its journal told
pub settled-next : (links : List Link) (v0 v v' k : View) (l : ℕ) (journal : Journal) (rules : Link) → StaysGathered v0 v → ((a : ℕ) → a < v0.among → Has a v0.actors) → number_of journal ≡ l → Settled l v k v' → marks_in journal.entries ≡ known_of l k → IsLink links l rules → IsLegalJournal rules (map done_in journal.entries)
    → IsSettled links v0 journal × StaysGathered v0 v'
settled-next links v0 v v' k l journal rules stays acts number joined marks is_link legal = (
  record {
    legal = λ link found. subst (λ (x : Link). IsLegalJournal x (map done_in journal.entries)) (same_Some rules link (sym is_link ∙ ap (λ j. slice_get links j) (sym number) ∙ found)) legal;
    rises = subst StampsRise (sym marks) joined.rises;
    begins = subst (λ j. IsPrefix (known_of j v0) (marks_in journal.entries)) (sym number) (subst (IsPrefix (known_of l v0)) (sym marks) (subst (λ ms. IsPrefix ms (known_of l k)) (stays.knows l joined.new) joined.begins));
    drawn = λ m has. subst (λ j. Has (drawn_for j m) v0.drawn) (sym number) (subst (Has (drawn_for l m)) stays.drawn (joined.all all m (subst (Has m) marks has)));
  },
  record {
    drawn = joined.drawn ∙ stays.drawn;
    actors = joined.actors ∙ stays.actors;
    among = joined.among ∙ stays.among;
    knows = λ j none.
        joined.others j (λ same. none (subst (Has j) (sym joined.links) (has-right j v.links (l ∷ []) (inl (sym same)))))
        ∙ stays.knows j (λ has. none (subst (Has j) (sym joined.links) (has-left j v.links (l ∷ []) has)));
  },
) where
  all : (a : ℕ) → a < v.among → Has a v.actors
  all a below = subst (Has a) (sym stays.actors) (acts a (let among = stays.among in omega (arith, below, among)))

-- all actors of the opening stand in its list
pub up_to-has : (n a : ℕ) → a < n → Has a (up_to n)
unfolding up_to
up_to-has zero a below = absurd (omega (arith, below))
up_to-has (suc n) a below =
    elim (cases_lt a n) [
      | inl less ↦ has-left a (up_to n) (n ∷ []) (up_to-has n a less)
      | inr from ↦ (let is : n ≡ a = omega (arith, below, from) in has-right a (up_to n) (n ∷ []) (inl is))
    ]
