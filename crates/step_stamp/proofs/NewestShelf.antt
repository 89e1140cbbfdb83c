-- Facts on shelves: which one is the newest of a link, after one more and where each is made anew.
use Rattle.std.proofs.Common.{◌≡◌, ℕ, eqb, List, [], ◌∷◌, map, refl, sym, ap, ◌∙◌, subst, inl, inr, ⊎_elim}
use Rattle.std.proofs.lemmas.Bool.{cond_both, eq-eqb, eqb-true}
use Rattle.step_stamp.specs.declared.marks.Mark.{Mark}
use Rattle.step_stamp.specs.declared.views.Shelf.{Shelf}
use Rattle.step_stamp.specs.declared.views.View.{View}
use Rattle.step_stamp.specs.Lists.{Has}
use Rattle.step_stamp.specs.Rule.{Begins}
use Rattle.step_stamp.specs.Views.{shelf, shelf_of, known_of, shown}
use Rattle.step_stamp.proofs.ListMembers.{begins-nothing}

-- what stands on the newest shelf of a link
pub shelf-cases : (P : Shelf → Type 0) (l : ℕ) (s : Shelf) (ss : List Shelf) → (s.link ≡ l → P s) → ((s.link ≡ l → ⊥) → P (shelf_of l ss)) → P (shelf_of l (s ∷ ss))
unfolding shelf_of
shelf-cases P l s ss here else =
    cond_both (eqb s.link l) s (shelf_of l ss) P (λ on. here (eqb-true s.link l on)) (λ no. else (λ e. absurd (cc (no, eq-eqb s.link l e))))

pub shelf-here : (l : ℕ) (known first second : List Mark) (ss : List Shelf) → shelf_of l (shelf l known first second ∷ ss) ≡ shelf l known first second
shelf-here l known first second ss = shelf-cases (λ s. s ≡ shelf l known first second) l (shelf l known first second) ss (λ _. refl) (λ other. absurd (other refl))

-- of another link a new shelf says nothing
pub shelf-else : (l k : ℕ) (s : Shelf) (ss : List Shelf) → s.link ≡ l → (k ≡ l → ⊥) → shelf_of k (s ∷ ss) ≡ shelf_of k ss
shelf-else l k s ss is other = shelf-cases (λ x. x ≡ shelf_of k ss) k s ss (λ e. absurd (other (sym e ∙ is))) (λ _. refl)

-- no shelf: nothing is known
pub no-known : (l : ℕ) → (shelf_of l []).known ≡ []
unfolding shelf_of
no-known l = refl

pub no-shelf : (list : List Mark) (l : ℕ) → Begins list (shelf_of l [])
unfolding shelf_of
no-shelf list l = record { known = begins-nothing list; first = begins-nothing list; second = begins-nothing list }

-- what a copy shows
pub known-shown : (l : ℕ) (v : View) → known_of l (shown l v) ≡ known_of l v
known-shown l v = ap (λ (s : Shelf). s.known) (shelf-here l (known_of l v) [] [] [])

-- the shelf of a link where each is made from its link alone: made, or none
pub shelf-made : (P : Shelf → Type 0) (f : Shelf → Shelf) (g : ℕ → Shelf) → ((s : Shelf) → f s ≡ g s.link) → ((l : ℕ) → (g l).link ≡ l) → (l : ℕ) (ss : List Shelf) → P (g l) → (((s : Shelf) → Has s ss → s.link ≡ l → ⊥) → P (shelf_of l [])) → P (shelf_of l (map f ss))
shelf-made P f g made link l [] here none = none (λ s h. absurd h)
shelf-made P f g made link l (s ∷ ss) here none =
    shelf-cases P l (f s) (map f ss)
    (λ e. subst P (sym (made s ∙ ap g (sym (ap (λ (x : Shelf). x.link) (made s) ∙ link s.link) ∙ e))) here)
    (λ other. shelf-made P f g made link l ss here (λ no. none (λ t has e. ⊎_elim (λ (is : s ≡ t). other (ap (λ (x : Shelf). x.link) (made s) ∙ link s.link ∙ ap (λ (x : Shelf). x.link) is ∙ e)) (λ in_ss. no t in_ss e) has)))

-- where no shelf is of the link
pub shelf-none : (l : ℕ) (ss : List Shelf) → ((s : Shelf) → Has s ss → s.link ≡ l → ⊥) → shelf_of l ss ≡ shelf_of l []
shelf-none l [] never = refl
shelf-none l (s ∷ ss) never = shelf-cases (λ x. x ≡ shelf_of l []) l s ss (λ e. absurd (never s (inl refl) e)) (λ _. shelf-none l ss (λ t has. never t (inr has)))
