-- The pages of a list's items, told one after another behind a head, are the head and the items' lines.
use Rattle.std.proofs.Common.{◌≡◌, ℕ, Option, Result, Ok, Err, List, [], ◌++◌, sym, ap, ◌∙◌, subst, append_assoc, append-nil}
use Rattle.std.proofs.lemmas.Grind.{flat_map-append}
use Rattle.std.specs.List.{flat_map}
use Rattle.std.specs.Result.{IsErrAnd}
use Rattle.byte_ends.specs.Gathering.{WritesPart}
use Rattle.text_writer.proofs.TextsTold.{both-told, first-failed}
use Rattle.text_writer.specs.Telling.{IsWhy, Tells, Told}
use Rattle.text_writer.specs.declared.fault.ReportFault.{ReportFault}

-- the head, and the lines of all items before those left, were told
pub record ToldUpTo {X : Type 0} (line : X → List ℕ) (head : List ℕ) (xs left : List X) (a b : Option (List ℕ)) (g g' : List ℕ) (f f' : ℕ) : Type 0 where
  pub before : List X
  pub all : before ++ left ≡ xs
  pub told : Told a b g g' f f' (head ++ flat_map line before)

pub head-told : {X : Type 0} (line : X → List ℕ) (head : List ℕ) (xs left : List X) (a b : Option (List ℕ)) (g g' : List ℕ) (f f' : ℕ) → left ≡ xs → Told a b g g' f f' head → ToldUpTo line head xs left a b g g' f f'
head-told line head xs left a b g g' f f' all told = record { before = []; all = all; told = subst (Told a b g g' f f') (sym (append-nil head)) told }

-- the next page, and after it the items that are left then
pub page-told : {X : Type 0} (line : X → List ℕ) (head : List ℕ) (xs left page left' : List X) (a b c : Option (List ℕ)) (g g' g'' : List ℕ) (f f' f'' : ℕ) → left ≡ page ++ left'
    → ToldUpTo line head xs left a b g g' f f' → Told b c g' g'' f' f'' (flat_map line page) → ToldUpTo line head xs left' a c g g'' f f''
page-told line head xs left page left' a b c g g' g'' f f' f'' is so_far next = record {
  before = so_far.before ++ page;
  all = append_assoc so_far.before page left' ∙ ap (λ rest. so_far.before ++ rest) (sym is) ∙ so_far.all;
  told = subst (Told a c g g'' f f'') (append_assoc head (flat_map line so_far.before) (flat_map line page) ∙ ap (λ lines. head ++ lines) (sym (flat_map-append line so_far.before page)))
      (both-told (Ok tt) a b c g g' g'' f f' f'' (head ++ flat_map line so_far.before) (flat_map line page) so_far.told next);
}

-- a fault at a page
pub page-failed : {X : Type 0} (line : X → List ℕ) (head : List ℕ) (xs left page left' : List X) (a b c : Option (List ℕ)) (g g' g'' : List ℕ) (f f' f'' : ℕ) (result : Result (Unit {0}) ReportFault) (why : ReportFault) → IsErrAnd result (λ fault. fault ≡ why) → left ≡ page ++ left'
    → ToldUpTo line head xs left a b g g' f f' → WritesPart b c (g' ++ flat_map line page) × IsWhy why f' f'' → Tells result a c g g'' f f'' (head ++ flat_map line xs)
page-failed line head xs left page left' a b c g g' g'' f f' f'' result why fault is so_far failing =
    let told = head ++ flat_map line so_far.before in
    let here = both-told (Err why) a b c g g' g'' f f' f'' told (flat_map line page) so_far.told failing in
    let lines : flat_map line so_far.before ++ (flat_map line page ++ flat_map line left') ≡ flat_map line xs =
    ap (λ rest. flat_map line so_far.before ++ rest) (sym (flat_map-append line page left')) ∙ sym (flat_map-append line so_far.before (page ++ left'))
    ∙ ap (flat_map line) (ap (λ rest. so_far.before ++ rest) (sym is) ∙ so_far.all) in
    subst (Tells result a c g g'' f f'') (append_assoc told (flat_map line page) (flat_map line left') ∙ append_assoc head (flat_map line so_far.before) (flat_map line page ++ flat_map line left') ∙ ap (λ rest. head ++ rest) lines)
    (first-failed result why a c g g'' f f'' (told ++ flat_map line page) (flat_map line left') fault here)

-- no item is left
pub pages-told : {X : Type 0} (line : X → List ℕ) (head : List ℕ) (xs left : List X) (a b : Option (List ℕ)) (g g' : List ℕ) (f f' : ℕ) → left ≡ [] → ToldUpTo line head xs left a b g g' f f' → Told a b g g' f f' (head ++ flat_map line xs)
pages-told line head xs left a b g g' f f' none so_far =
    subst (λ items. Told a b g g' f f' (head ++ flat_map line items)) (sym (append-nil so_far.before) ∙ ap (λ rest. so_far.before ++ rest) (sym none) ∙ so_far.all) so_far.told
