-- Links are told apart by their numbers, and a network's locked links stand in the order of theirs.
use Rattle.std.proofs.Common.{◌≡◌, ℕ, ◌<◌, Some, None, Option, List, length, map, refl, sym, ap, ◌∙◌, subst}
use Rattle.shared_network.proofs.Words.{same_Some, slice_get-map, length-map, slice_get, Result, Ok, Err, IfOk, OnOk, AskFits, Link, Ask, up_to, shape_at}
use Rattle.std.specs.Prelude.{option_map}
use Rattle.link_steps.specs.declared.shape.LinkShape.{LinkShape}
use Rattle.shared_network.specs.Sight.{FitsAt}
use Rattle.shared_network.proofs.Numbering.NumbersFromZero.{up_to-get, up_to-length}

-- as many elements as numbers
pub numbered-length : {X : Type 0} (number : X → ℕ) (xs : List X) (n : ℕ) → map number xs ≡ up_to n → length xs ≡ n
numbered-length number xs n are = sym (length-map xs number) ∙ ap length are ∙ up_to-length n

-- the k-th has the number k
pub numbered-at : {X : Type 0} (number : X → ℕ) (xs : List X) (n k : ℕ) (x : X) → map number xs ≡ up_to n → k < n → slice_get xs k ≡ Some x → number x ≡ k
numbered-at number xs n k x are below found =
    same_Some (number x) k (sym (ap (option_map number) found) ∙ sym (slice_get-map number xs k) ∙ ap (λ ns. slice_get ns k) are ∙ up_to-get n k below)

-- the conditions on an ask at the link, said of the shape that is kept beside its lock
shaped : (found : Option Link) (shape : LinkShape) → option_map (λ (link : Link). link.shape) found ≡ Some shape → (link : Link) × (found ≡ Some link) × (link.shape ≡ shape)
shaped None shape is = absurd (let clash : None ≡ Some shape = is in cc)
shaped (Some link) shape is = (link, refl, same_Some link.shape shape is)

pub fits-shape : (links : List Link) (l : ℕ) (shape : LinkShape) (ask : Ask) → shape_at links l ≡ Some shape → FitsAt links l ask → AskFits shape ask
fits-shape links l shape ask is fits =
    let found = shaped (slice_get links l) shape is in
    subst (λ s. AskFits s ask) found.2 (fits found.0 found.1)

-- two facts of an answer
pub both-ok : {T E : Type 0} (P Q : T → Type 0) (R : Type 0) (r : Result T E) → ((x : T) → P x → Q x → R) → IfOk r P → IfOk r Q → OnOk r R
both-ok P Q R (Ok x) follows p q = follows x p q
both-ok P Q R (Err e) follows p q = p

pub ok-then : {T E : Type 0} (P : T → Type 0) (R : Type 0) (r : Result T E) → ((x : T) → P x → R) → IfOk r P → OnOk r R
ok-then P R (Ok x) follows p = follows x p
ok-then P R (Err e) follows p = p
