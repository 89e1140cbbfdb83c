-- At opening: the links are locked in the order of their numbers, and a pass that was never used may step every link.
use Rattle.std.proofs.Common.{◌≡◌, ℕ, true, false, List, [], ◌∷◌, ◌++◌, length, map, refl, sym, ap, ◌∙◌, subst, arith}
use Rattle.shared_network.proofs.Words.{append_assoc, length-append, slice_get, TableId, actor_number, ActorNo, IsLegal, Each, Link, SplitFits, up_to, IsNewLink, IsNewPass, shelf_of, first_view, new_pass, View, told_after, Token, IsLink, scan_of}
use Rattle.link_steps.proofs.SearchAndFilter.{Each-if}
use Rattle.step_stamp.specs.declared.seats.LinkSeat.{LinkSeat}
use Rattle.step_stamp.specs.declared.seats.PassSeat.{PassSeat}
use Rattle.shared_network.specs.Holds.{hold_from}
use Rattle.shared_network.specs.Ready.{KnowsLink, MayStep, IsNew}
use Rattle.shared_network.specs.Sight.{IsUnusedLink}
use Rattle.shared_network.proofs.Numbering.NumbersFromZero.{up_to-length, up_to-next, get-after}

-- ---- locking the links

-- some links are locked, with these numbers; these numbers of seats are left, and the links of these rules
pub record Locking (links : List Link) (made seats : List ℕ) (rules : List Link) : Type 0 where
  pub front : List Link
  pub rules_are : front ++ rules ≡ links
  pub long : length front ≡ length made
  pub numbers : made ++ seats ≡ up_to (length links)

pub locking-start : (links rules : List Link) (seats : List ℕ) → rules ≡ links → seats ≡ up_to (length links) → Locking links [] seats rules
locking-start links rules seats rules_are numbers = record { front = []; rules_are = rules_are; long = refl; numbers = numbers }

-- as many seats are left as links
pub locking-left : (links : List Link) (made seats : List ℕ) (rules : List Link) → Locking links made seats rules → length seats ≡ length rules
locking-left links made seats rules l =
    let whole = ap length l.rules_are in
    let numbers = ap length l.numbers ∙ up_to-length (length links) in
    let one = length-append l.front rules in
    let other = length-append made seats in
    omega (arith, whole, numbers, one, other, l.long)

-- the next link has the number of the next seat
pub locking-link : (links : List Link) (made seats : List ℕ) (rules : List Link) (s : ℕ) (r : Link) → Locking links made (s ∷ seats) (r ∷ rules) → IsLink links s r
locking-link links made seats rules s r l =
    let number : s ≡ length l.front = up_to-next (length links) made seats s l.numbers ∙ sym l.long in
    ap (slice_get links) number ∙ ap (λ ls. slice_get ls (length l.front)) (sym l.rules_are) ∙ get-after l.front rules r

-- and is locked
pub locking-next : (links : List Link) (made seats : List ℕ) (rules : List Link) (s : ℕ) (r : Link) → Locking links made (s ∷ seats) (r ∷ rules) → Locking links (made ++ s ∷ []) seats rules
locking-next links made seats rules s r l = record {
  front = l.front ++ r ∷ [];
  rules_are = append_assoc l.front (r ∷ []) rules ∙ l.rules_are;
  long = (let one = length-append l.front (r ∷ []) in let other = length-append made (s ∷ []) in omega (arith, one, other, l.long));
  numbers = append_assoc made (s ∷ []) seats ∙ l.numbers;
}

-- no link is left
pub locking-end : (links : List Link) (made seats : List ℕ) (rules : List Link) → Locking links made seats rules → rules ≡ [] → made ≡ up_to (length links)
locking-end links made seats rules l none = by-seats seats (locking-left links made seats rules l ∙ ap length none) l.numbers where
  by-seats : (ss : List ℕ) → length ss ≡ 0 → made ++ ss ≡ up_to (length links) → made ≡ up_to (length links)
  by-seats [] none is = sym (append-end made) ∙ is where
    append-end : (xs : List ℕ) → xs ++ [] ≡ xs
    append-end [] = refl
    append-end (x ∷ xs) = ap (λ ys. x ∷ ys) (append-end xs)
  by-seats (s ∷ ss) none is = absurd (omega (arith, none))

-- a new seat was never used
pub new-unused : (table : TableId) (n : ℕ) (seats : List LinkSeat) → Each (IsNewLink table n) seats → Each (IsUnusedLink table) seats
new-unused table n seats new = Each-if (IsNewLink table n) (IsUnusedLink table) seats (λ seat is. record { from_table = is.from_table; empty = is.empty }) new

-- ---- a new pass

module _ (table : TableId) (owners : List ActorNo) (links : List Link) (n : ℕ) where
  -- a new pass of this actor
  abbrev token : ActorNo → Token
  token actor = record { actor = actor; has_seat = true; table = table; view = new_pass (actor_number actor) (first_view 0 n); own = []; spent = false }

  knows-new : (actor : ActorNo) (l : ℕ) (link : Link) → KnowsLink owners (length links) link l (token actor)
  unfolding shelf_of told_after IsLegal hold_from scan_of
  knows-new actor l link = record {
    legal = tt;
    order = record { rises = tt; owned = tt; next = tt; most = tt };
    owns = refl;
    holds = λ chan owner. refl;
  }

  may-new : (actor : ActorNo) → MayStep table owners links (token actor)
  unfolding shelf_of
  may-new actor = record {
    has_seat = refl;
    table_is = refl;
    unspent = refl;
    acts = refl;
    exact = record { drawn = refl; known = λ l. refl; placed = tt };
    linked = tt;
    rises = tt;
    most = tt;
    knows = λ l link is. knows-new actor l link;
  }

  pub pass-new : (seat : PassSeat) (pass : Token) → IsNewPass table n seat → pass.actor ≡ seat.actor → pass.has_seat ≡ true → pass.table ≡ seat.seat.table_id → pass.view ≡ seat.seat.me.0 → pass.own ≡ [] → pass.spent ≡ false → IsNew table owners links n pass
  pass-new seat pass new actor has from view own spent =
      let view_is : pass.view ≡ new_pass (actor_number pass.actor) (first_view 0 n) = view ∙ new.view_is ∙ ap (λ (a : ActorNo). new_pass (actor_number a) (first_view 0 n)) (sym actor) in
      let same : token pass.actor ≡ pass = λ i. record { actor = pass.actor; has_seat = sym has i; table = sym (from ∙ new.from_table) i; view = sym view_is i; own = sym own i; spent = sym spent i } in
      record {
        may_step = subst (MayStep table owners links) same (may-new pass.actor);
        own = own;
        drawn = ap (λ (v : View). v.drawn) view_is;
        among = ap (λ (v : View). v.among) view_is;
      }

-- links that stand for the empty history have splits that fit them
pub links-fit : {X : Type 0} (rules : X → Link) (stands : X → Type 0) (xs : List X) → ((x : X) → stands x → SplitFits (rules x)) → Each stands xs → Each SplitFits (map rules xs)
links-fit rules stands [] fits each = tt
links-fit rules stands (x ∷ xs) fits each = (fits x each.0, links-fit rules stands xs fits each.1)
