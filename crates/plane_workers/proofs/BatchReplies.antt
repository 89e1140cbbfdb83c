-- Asks of several links: each reply that is left is that of its link's next ask.
use Rattle.std.proofs.Common.{◌≡◌, ◌≢◌, ℕ, suc, ◌<◌, ◌≤◌, List, [], ◌∷◌, ◌++◌, length, map, drop, Option, Some, None, option_map, refl, sym, ap, ◌∙◌, subst, inl, inr, arith}
use Rattle.std.proofs.lemmas.List.{drop_all, length-map}
use Rattle.std.proofs.lemmas.Bool.{cases_Bool, cases_lt, eqb-true, eqb-false, eq-eqb, ne_eqb}
use Rattle.std.proofs.lemmas.Option.{same_Some, slice_get_within, slice_get-map}
use Rattle.run_engine.proofs.Keeping.Lookups.{held}
use Rattle.std.specs.List.{slice_get}
use Rattle.std.specs.Prelude.{nat_eq, Result, Ok, Err, OnOk, false}
use Rattle.std.specs.Result.{is_err}
use Rattle.net_units.specs.Numbers.{link_number}
use Rattle.net_units.specs.declared.numbers.LinkNo.{LinkNo}
use Rattle.link_steps.specs.declared.asks.Ask.{Ask}
use Rattle.link_steps.specs.declared.replies.Entry.{Entry}
use Rattle.link_steps.specs.declared.replies.Reply.{Reply}
use Rattle.link_steps.specs.Replies.{reply_to}
use Rattle.link_steps.specs.Split.{Link}
use Rattle.link_steps.specs.Scan.{clock_with}
use Rattle.link_steps.specs.declared.asks.Ask.TheVariants.{Reserve}
use Rattle.plane_workers.specs.Answered.{IsAnswered, ticks_in, entry_after, answered}
use Rattle.plane_workers.specs.Batches.{with_entry, IsMade, MadeInTurn, AreAhead, own_asks}
use Rattle.plane_workers.specs.Windows.{LinkIsAhead}
use Rattle.plane_workers.proofs.RepliesAhead.{ahead-head, ahead-tail}

own-more : (n : ℕ) (to : LinkNo × Ask) (asks : List (LinkNo × Ask)) → link_number to.0 ≡ n → own_asks n (to ∷ asks) ≡ to.1 ∷ own_asks n asks
own-more n to asks is = rw (eq-eqb (link_number to.0) n is) refl

own-other : (n : ℕ) (to : LinkNo × Ask) (asks : List (LinkNo × Ask)) → link_number to.0 ≢ n → own_asks n (to ∷ asks) ≡ own_asks n asks
own-other n to asks off = rw (ne_eqb (link_number to.0) n off) refl

with-own : (hs : ℕ → List Entry) (n m : ℕ) (e : Entry) → m ≡ n → with_entry hs n e m ≡ e ∷ hs m
with-own hs n m e is = rw (eq-eqb m n is) refl

with-other : (hs : ℕ → List Entry) (n m : ℕ) (e : Entry) → m ≢ n → with_entry hs n e m ≡ hs m
with-other hs n m e off = rw (ne_eqb m n off) refl

-- one ask more, at the end
pub in-turn-more : (links : List Link) (hs mid after : ℕ → List Entry) (asks : List (LinkNo × Ask)) (replies : List Reply) (to : LinkNo × Ask) (reply : Reply) → MadeInTurn links hs asks replies mid → IsMade links mid to reply after → MadeInTurn links hs (asks ++ to ∷ []) (replies ++ reply ∷ []) after
in-turn-more links hs mid after [] [] to reply was is = (
  after,
  record {
    link = is.link;
    linked = is.linked;
    replied = is.replied ∙ ap (λ h. reply_to is.link h to.1) (was (link_number to.0));
    entered = λ n. is.entered n ∙ ap (λ h. with_entry mid (link_number to.0) (entry_after is.link h to.1) n) (was (link_number to.0)) ∙ moved n;
  },
  (λ n. refl),
) where
  moved : (n : ℕ) → with_entry mid (link_number to.0) (entry_after is.link (hs (link_number to.0)) to.1) n ≡ with_entry hs (link_number to.0) (entry_after is.link (hs (link_number to.0)) to.1) n
  moved n =
      elim (cases_Bool (nat_eq n (link_number to.0))) [
        | inl on ↦ rw on (ap (λ h. entry_after is.link (hs (link_number to.0)) to.1 ∷ h) (was n))
        | inr off ↦ rw off (was n)
      ]
in-turn-more links hs mid after [] (r ∷ rs) to reply was is = absurd was
in-turn-more links hs mid after (a ∷ more) [] to reply was is = absurd was
in-turn-more links hs mid after (a ∷ more) (r ∷ rs) to reply was is = (was.0, was.1, in-turn-more links was.0 mid after more rs to reply was.2 is)

module _ {X : Type 0} (rules : X → Link) (stands : X → List Entry → Type 0) (left : X → List Reply) where
  -- the histories with the next ask
  abbrev pub after-ask : Link → (ℕ → List Entry) → LinkNo × Ask → ℕ → List Entry
  after-ask link hs to n = with_entry hs (link_number to.0) (entry_after link (hs (link_number to.0)) to.1) n

  module _ (links : List Link) (hs : ℕ → List Entry) (to : LinkNo × Ask) (asks : List (LinkNo × Ask)) (old new : List X) (x y : X) (reply : Reply) (are : AreAhead rules stands left links hs (to ∷ asks) old) (found : slice_get old (link_number to.0) ≡ Some x) (told : left x ≡ reply ∷ left y) where
    is : LinkIsAhead (rules x) (stands x) (left x) (hs (link_number to.0)) (own_asks (link_number to.0) (to ∷ asks))
    is = are.ahead (link_number to.0) x found

    replies-so : reply ≡ reply_to (rules x) (hs (link_number to.0)) to.1
    replies-so = ahead-head (rules x) (stands x) (left x) (left y) (hs (link_number to.0)) to.1 _ _ reply is (own-more (link_number to.0) to asks refl) told

    pub made-so : IsMade links hs to reply (after-ask (rules x) hs to)
    made-so = record { link = rules x; linked = are.linked (link_number to.0) x found; replied = replies-so; entered = λ n. refl }

    pub ahead-so : length new ≡ length old → ((n : ℕ) → n ≢ link_number to.0 → slice_get new n ≡ slice_get old n) → slice_get new (link_number to.0) ≡ Some y → rules y ≡ rules x → ((h : List Entry) → stands x h → stands y h) → AreAhead rules stands left links (after-ask (rules x) hs to) asks new
    ahead-so long others own same stay = record {
      linked = λ n z at.
          elim (cases_Bool (nat_eq n (link_number to.0))) [
            | inl on ↦
                (let here = eqb-true n (link_number to.0) on in
                let is-y : z ≡ y = same_Some z y (sym at ∙ ap (slice_get new) here ∙ own) in
                ap (slice_get links) here ∙ are.linked (link_number to.0) x found ∙ ap Some (sym same ∙ ap rules (sym is-y)))
            | inr off ↦ are.linked n z (sym (others n (eqb-false n (link_number to.0) off)) ∙ at)
          ];
      ahead = λ n z at.
          elim (cases_Bool (nat_eq n (link_number to.0))) [
            | inl on ↦
                (let here = eqb-true n (link_number to.0) on in
                let is-y : z ≡ y = same_Some z y (sym at ∙ ap (slice_get new) here ∙ own) in
                subst (λ (w : ℕ × X). LinkIsAhead (rules w.1) (stands w.1) (left w.1) (after-ask (rules x) hs to w.0) (own_asks w.0 asks)) (λ i. (sym here i, sym is-y i)) (own-ahead same stay))
            | inr off ↦
                (let other = eqb-false n (link_number to.0) off in
                subst (λ h. LinkIsAhead (rules z) (stands z) (left z) h (own_asks n asks)) (sym (with-other hs (link_number to.0) n (entry_after (rules x) (hs (link_number to.0)) to.1) other))
                (subst (λ own. LinkIsAhead (rules z) (stands z) (left z) (hs n) own) (own-other n to asks (λ same. other (sym same))) (are.ahead n z (sym (others n other) ∙ at))))
          ];
    } where
      own-ahead : rules y ≡ rules x → ((h : List Entry) → stands x h → stands y h) → LinkIsAhead (rules y) (stands y) (left y) (after-ask (rules x) hs to (link_number to.0)) (own_asks (link_number to.0) asks)
      own-ahead same stay =
          let tail = ahead-tail (rules x) (stands x) (left x) (left y) (hs (link_number to.0)) to.1 _ _ reply is (own-more (link_number to.0) to asks refl) told in
          let entry : record { ask = to.1; reply = reply } ∷ hs (link_number to.0) ≡ after-ask (rules x) hs to (link_number to.0) = ap (λ r. record { ask = to.1; reply = r } ∷ hs (link_number to.0)) replies-so ∙ sym (with-own hs (link_number to.0) (link_number to.0) (entry_after (rules x) (hs (link_number to.0)) to.1) refl) in
          subst (λ h. LinkIsAhead (rules y) (stands y) (left y) h (own_asks (link_number to.0) asks)) entry
          (subst (λ r. LinkIsAhead r (stands y) (left y) (record { ask = to.1; reply = reply } ∷ hs (link_number to.0)) (own_asks (link_number to.0) asks)) (sym same)
          (record { stands_on = stay _ tail.stands_on; replied = tail.replied }))

  -- at the end each stands for its history
  pub ahead-end : (links : List Link) (hs : ℕ → List Entry) (desks : List X) → AreAhead rules stands left links hs [] desks → (n : ℕ) (x : X) → slice_get desks n ≡ Some x → stands x (hs n)
  unfolding answered
  ahead-end links hs desks are n x found = (are.ahead n x found).stands_on

one-tick : (ask : Ask) → clock_with ask 0 ≤ 1
one-tick (Reserve chan contract kind delay up_reach first next) = omega arith
one-tick _ = omega arith

-- ---- the asks that are left

pub own-ticks : (n : ℕ) (asks : List (LinkNo × Ask)) → ticks_in (own_asks n asks) ≤ length asks
unfolding ticks_in
own-ticks n [] = omega arith
own-ticks n (to ∷ asks) =
    let rest = own-ticks n asks in
    elim (cases_Bool (nat_eq (link_number to.0) n)) [
      | inl own ↦ rw own (let one = one-tick to.1 in omega (arith, rest, one))
      | inr off ↦ rw off (omega (arith, rest))
    ]

-- the same value at each place
pub mapped-same : {X Y : Type 0} (f : X → Y) (old new : List X) → length new ≡ length old → ((n : ℕ) (x y : X) → slice_get old n ≡ Some x → slice_get new n ≡ Some y → f y ≡ f x) → map f new ≡ map f old
mapped-same f [] [] long same = refl
mapped-same f [] (y ∷ ys) long same = absurd (omega (arith, long))
mapped-same f (x ∷ xs) [] long same = absurd (omega (arith, long))
mapped-same f (x ∷ xs) (y ∷ ys) long same =
    (let first = same 0 x y refl refl in
    let rest = mapped-same f xs ys (omega (arith, long)) (λ n a b found after. same (suc n) a b found after) in
    λ i. first i ∷ rest i)

-- how many replies are left is how many asks are
abbrev pub HasAll : {X : Type 0} → (X → List Reply) → List (LinkNo × Ask) → List X → Type 0
HasAll left asks desks = (n : ℕ) (x : _) → slice_get desks n ≡ Some x → length (left x) ≡ length (own_asks n asks)

pub has-first : {X : Type 0} (left : X → List Reply) (to : LinkNo × Ask) (asks : List (LinkNo × Ask)) (desks : List X) (x : X) → HasAll left (to ∷ asks) desks → slice_get desks (link_number to.0) ≡ Some x → 0 < length (left x)
has-first left to asks desks x has found =
    let all = has (link_number to.0) x found in
    let own = ap length (own-more (link_number to.0) to asks refl) in
    omega (arith, all, own)

pub has-rest : {X : Type 0} (left : X → List Reply) (to : LinkNo × Ask) (asks : List (LinkNo × Ask)) (old new : List X) (x y : X) (reply : Reply) → HasAll left (to ∷ asks) old → slice_get old (link_number to.0) ≡ Some x → slice_get new (link_number to.0) ≡ Some y → left x ≡ reply ∷ left y → ((n : ℕ) → n ≢ link_number to.0 → slice_get new n ≡ slice_get old n) → HasAll left asks new
has-rest left to asks old new x y reply has found after told others n z at =
    elim (cases_Bool (nat_eq n (link_number to.0))) [
      | inl on ↦
          (let here = eqb-true n (link_number to.0) on in
          let is-y : z ≡ y = same_Some z y (sym at ∙ ap (slice_get new) here ∙ after) in
          let all = has (link_number to.0) x found in
          let own = ap length (own-more (link_number to.0) to asks refl) in
          let one = ap length told in
          ap (λ w. length (left w)) is-y ∙ omega (arith, all, own, one) ∙ ap (λ m. length (own_asks m asks)) (sym here))
      | inr off ↦
          (let other = eqb-false n (link_number to.0) off in
          has n z (sym (others n other) ∙ at) ∙ ap length (own-other n to asks (λ same. other (sym same))))
    ]

pub when-no_err : {T E P : Type 0} (answer : Result T E) → false ≡ is_err answer → OnOk answer P → P
when-no_err (Ok x) is own = own
when-no_err (Err e) is own = cc

pub nonempty-left : {X : Type 0} (xs : List X) (n : ℕ) → 0 < length (drop n xs) → n < length xs
nonempty-left xs n some =
    elim (cases_lt n (length xs)) [
      | inl within ↦ within
      | inr past ↦ absurd (let none = ap length (drop_all n xs past) in omega (arith, some, none))
    ]

-- ---- a batch begins and ends

record OldDesk {D : Type 0} (old : List D) (n : ℕ) : Type 0 where
  desk : D
  found : slice_get old n ≡ Some desk

old-desk : {D : Type 0} (old new : List D) (n : ℕ) (y : D) → length new ≡ length old → slice_get new n ≡ Some y → OldDesk old n
old-desk old new n y long found = (let within = slice_get_within new n y found in let x = held old n (omega (arith, within, long)) in record { desk = x.item; found = x.found })

module _ {D X : Type 0} (link : D → X) (rules : X → Link) (stands : X → List Entry → Type 0) (left : D → List Reply) (links : List X) (old new : List D) (asks : List (LinkNo × Ask)) (are : map link old ≡ links) where
  pub desk-link : (n : ℕ) (d : D) → slice_get old n ≡ Some d → slice_get links n ≡ Some (link d)
  desk-link n d found = ap (λ ls. slice_get ls n) (sym are) ∙ slice_get-map link old n ∙ ap (option_map link) found

  module _ (long : length new ≡ length old) (answers : (n : ℕ) (x y : D) → slice_get old n ≡ Some x → slice_get new n ≡ Some y → IsAnswered rules stands (link x) (link y) (own_asks n asks) (left y)) where
    pub batch-has : HasAll left asks new
    batch-has n y found = (let x = old-desk old new n y long found in (answers n x.desk y x.found found).long)

    pub batch-rules : map rules (map link new) ≡ map rules links
    batch-rules = mapped-same rules (map link old) (map link new) (length-map new link ∙ long ∙ sym (length-map old link)) (λ n a b found after.
        by-desks n a b (slice_get old n) (slice_get new n) refl refl (sym (slice_get-map link old n) ∙ found) (sym (slice_get-map link new n) ∙ after)) ∙ ap (map rules) are where
          by-desks : (n : ℕ) (a b : X) (x y : Option D) → slice_get old n ≡ x → slice_get new n ≡ y → option_map link x ≡ Some a → option_map link y ≡ Some b → rules b ≡ rules a
          by-desks n a b None y is is' found after = cc
          by-desks n a b (Some x) None is is' found after = cc
          by-desks n a b (Some x) (Some y) is is' found after = ap rules (sym (same_Some (link y) b after)) ∙ (answers n x y is is').same ∙ ap rules (same_Some (link x) a found)

    pub batch-begins : (hs : ℕ → List Entry) → ((n : ℕ) (l : X) → slice_get links n ≡ Some l → stands l (hs n)) → AreAhead (λ d. rules (link d)) (λ d. stands (link d)) left (map rules links) hs asks new
    batch-begins hs at = record {
      linked = λ n y found. (let x = old-desk old new n y long found in slice_get-map rules links n ∙ ap (option_map rules) (desk-link n x.desk x.found) ∙ ap Some (sym (answers n x.desk y x.found found).same));
      ahead = λ n y found.
          (let x = old-desk old new n y long found in
          let is = answers n x.desk y x.found found in
          let stood = at n (link x.desk) (desk-link n x.desk x.found) in
          subst (λ r. LinkIsAhead r (stands (link y)) (left y) (hs n) (own_asks n asks)) (sym is.same) (record { stands_on = is.stands_on (hs n) stood; replied = is.replied (hs n) stood }));
    }

-- the link of a desk is one of the links
pub link-of : {D X : Type 0} (link : D → X) (stands : ℕ → X → Type 0) (links : List X) (desks : List D) → links ≡ map link desks → ((n : ℕ) (d : D) → slice_get desks n ≡ Some d → stands n (link d)) → (n : ℕ) (l : X) → slice_get links n ≡ Some l → stands n l
link-of link stands links desks are each n l found = by-found (slice_get desks n) refl (sym (slice_get-map link desks n) ∙ ap (λ ls. slice_get ls n) (sym are) ∙ found) where
  by-found : (at : Option _) → slice_get desks n ≡ at → option_map link at ≡ Some l → stands n l
  by-found None is same = cc
  by-found (Some d) is same = subst (stands n) (same_Some (link d) l same) (each n d is)
