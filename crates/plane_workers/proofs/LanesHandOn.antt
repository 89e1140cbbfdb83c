-- Lanes that hand on the reply to what the plane asks next, or the quiet ticks of its next rounds.
use Rattle.std.proofs.Common.{◌≡◌, ℕ, ◌+◌, ◌<◌, ◌≤◌, List, [], ◌∷◌, length, take, get_or, set, Some, None, Option, true, refl, sym, ap, ◌∙◌, subst, inl, inr, arith, length-set}
use Rattle.std.proofs.lemmas.Bool.{cases_eq}
use Rattle.std.proofs.lemmas.Option.{same_Some, slice_get_within}
use Rattle.std.specs.List.{slice_get}
use Rattle.std.specs.Prelude.{IfSome}
use Rattle.net_units.specs.Numbers.{link_number}
use Rattle.net_units.specs.declared.numbers.LinkNo.{LinkNo}
use Rattle.link_quota.specs.Any.{any_rules, AnyStands}
use Rattle.link_quota.specs.declared.any_link.AnyLink.{AnyLink}
use Rattle.link_steps.specs.Lists.{Each}
use Rattle.link_steps.specs.Quiet.{quiet_reply}
use Rattle.link_steps.specs.declared.asks.Ask.{Ask}
use Rattle.link_steps.specs.declared.asks.Ask.TheVariants.{Tick}
use Rattle.link_steps.specs.declared.replies.Reply.{Reply}
use Rattle.link_steps.proofs.SearchAndFilter.{Each-append, Each-if}
use Rattle.call_script.proofs.Walks.{before-at}
use Rattle.tick_plane.specs.PlaneAccount.{PlaneAccount}
use Rattle.tick_plane.specs.Planes.{Plane, ask_due, next_due, plane_ask, plane_expects}
use Rattle.tick_plane.specs.declared.flight.Flight.{Flight}
use Rattle.tick_plane.proofs.PlaneFlights.{asks-due}
use Rattle.run_engine.proofs.Keeping.Lookups.{held, found-at, get-set-same, get-set-other}
use Rattle.plane_workers.specs.Lanes.{HandsOn, HasHanded, HaveHanded, IsQuietNext, lane_left, lane_rules, lane_stands}
use Rattle.plane_workers.specs.Said.{quiets}
use Rattle.plane_workers.specs.declared.lane.Lane.{Lane}
use Rattle.plane_workers.proofs.DeskHandsOut.{HandsOut}
use Rattle.plane_workers.proofs.WindowRests.{HaveRestedOn}

-- ---- one reply

pub lane-handed : (plane : PlaneAccount) (old new : List Lane) (link : LinkNo) (ask : Ask) (reply : Reply) (number : ℕ) → Some (link, ask) ≡ plane_ask plane.rounds plane.at → number ≡ link_number link → link_number link < length old → HandsOn number reply old new → HandsOut lane_rules lane_stands lane_left plane old new link ask reply
lane-handed plane old new link ask reply number asked is within on =
    let long = on.long in
    let x = held old (link_number link) within in
    let y = held new (link_number link) (omega (arith, within, long)) in
    let own = on.own x.item y.item (ap (slice_get old) is ∙ x.found) (ap (slice_get new) is ∙ y.found) in
    record {
      asked = asked;
      before = x.item;
      after = y.item;
      found = x.found;
      there = y.found;
      told = own.1;
      same = ap any_rules own.0;
      stay = λ h stands. subst (λ (l : AnyLink). AnyStands l h) (sym own.0) stands;
      long = on.long;
      others = λ n off. on.others n (λ at. off (at ∙ is));
    }

-- the plane expects a quiet tick where it asks for one
tick-asked : (ticked : ℕ) (due : Option Flight) (clock : ℕ) (to : LinkNo) (ask : Ask) → plane_expects due (quiet_reply clock) ≡ true → ask_due ticked due ≡ (to, ask) → (due ≡ None) × (ask ≡ Tick)
tick-asked ticked None clock to ask expects asks = (refl, sym (ap (λ (p : LinkNo × Ask). p.1) asks))
tick-asked ticked (Some flight) clock to ask expects asks = cc

pub quiet-asked : (rounds : ℕ) (plane : Plane) (clock : ℕ) (to : LinkNo) (ask : Ask) → plane_expects (next_due plane) (quiet_reply clock) ≡ true → plane_ask rounds plane ≡ Some (to, ask) → (next_due plane ≡ None) × (ask ≡ Tick)
quiet-asked rounds plane clock to ask expects asked = tick-asked plane.ticked (next_due plane) clock to ask expects (asks-due rounds plane to ask asked).asks

-- ---- quiet ticks of all

pub rested-on : (t n : ℕ) (old new : List Lane) → HaveHanded t n old new → HaveRestedOn lane_rules lane_stands lane_left t n old new
rested-on t n old new have = record {
  same = have.same;
  rules_stay = λ k x y found after. ap any_rules (have.each k x y found after).link;
  stands_stay = λ k x y found after h stands. subst (λ (l : AnyLink). AnyStands l h) (sym (have.each k x y found after).link) stands;
  told = λ k x y found after. (have.each k x y found after).told;
}

-- the first i have handed them on, and the others are as they were
pub record HaveHandedTo (t n : ℕ) (old new : List Lane) (i : ℕ) : Type 0 where
  pub same : length new ≡ length old
  pub made : (k : ℕ) (x y : Lane) → k < i → slice_get old k ≡ Some x → slice_get new k ≡ Some y → HasHanded (quiets t n) x y
  pub left : (k : ℕ) → i ≤ k → slice_get new k ≡ slice_get old k

pub lane-stays : (t n : ℕ) (old mid : List Lane) (i : ℕ) (x : Lane) → i < length mid → x ≡ get_or mid i x → HaveHandedTo t n old mid i → slice_get old i ≡ Some x
lane-stays t n old mid i x within is before = sym (before.left i (omega arith)) ∙ found-at mid mid i i x refl refl within is

pub handed-more : (t n : ℕ) (old mid : List Lane) (i : ℕ) (x y : Lane) → i < length mid → x ≡ get_or mid i x → HasHanded (quiets t n) x y → HaveHandedTo t n old mid i → HaveHandedTo t n old (set mid i y) (i + 1)
handed-more t n old mid i x y within is handed before = record {
  same = length-set mid i y ∙ before.same;
  made = λ k was after less found there. elim (cases_eq k i) [
    | inl here ↦
        (let at : slice_get (set mid i y) i ≡ Some after = ap (slice_get (set mid i y)) (sym here) ∙ there in
        let put : after ≡ y = get-set-same mid i y after at in
        let kept : slice_get old i ≡ Some was = ap (slice_get old) (sym here) ∙ found in
        let same : x ≡ was = same_Some x was (sym (lane-stays t n old mid i x within is before) ∙ kept) in
        subst (λ l. HasHanded (quiets t n) l after) same (subst (HasHanded (quiets t n) x) (sym put) handed))
    | inr apart ↦ before.made k was after (omega (arith, less, apart)) found (sym (get-set-other mid i k y apart) ∙ there)
  ];
  left = λ k from. get-set-other mid i k y (λ same. absurd (omega (arith, same, from))) ∙ before.left k (omega (arith, from));
}

pub all-handed : (t n : ℕ) (old new : List Lane) (i : ℕ) → length new ≤ i → HaveHandedTo t n old new i → HaveHanded t n old new
all-handed t n old new i all to = record {
  same = to.same;
  each = λ k x y found after. to.made k x y (let within = slice_get_within new k y after in omega (arith, within, all)) found after;
}

-- ---- how many come next

fewer-next : (t n more : ℕ) (lanes : List Lane) → n ≤ more → Each (IsQuietNext t more) lanes → Each (IsQuietNext t n) lanes
fewer-next t n more lanes few each = Each-if (IsQuietNext t more) (IsQuietNext t n) lanes (λ lane next. record { run = next.run; next = next.next; at = next.at; many = (let many = next.many in omega (arith, many, few)) }) each

less-next : (t n more : ℕ) (lane : Lane) → n ≤ more → IsQuietNext t more lane → IsQuietNext t n lane
less-next t n more lane few next = record { run = next.run; next = next.next; at = next.at; many = (let many = next.many in omega (arith, many, few)) }

pub least-next : (t : ℕ) (lanes : List Lane) (i : ℕ) (lane : Lane) (own ticks now : ℕ) → i < length lanes → lane ≡ get_or lanes i lane → (1 ≤ own → IsQuietNext t own lane) → now ≤ ticks → now ≤ own → (1 ≤ ticks → Each (IsQuietNext t ticks) (take i lanes)) → 1 ≤ now → Each (IsQuietNext t now) (take (i + 1) lanes)
least-next t lanes i lane own ticks now within is next few fewer before some =
    subst (Each (IsQuietNext t now)) (sym (before-at lanes i lane within is))
    (Each-append (IsQuietNext t now) (take i lanes) (lane ∷ []) (fewer-next t now ticks (take i lanes) few (before (omega (arith, few, some)))) (less-next t now own lane fewer (next (omega (arith, fewer, some))), tt))

-- ---- one lane, put back

pub put-hands : (lanes : List Lane) (number : ℕ) (reply : Reply) (x y : Lane) → number < length lanes → x ≡ get_or lanes number x → HasHanded (reply ∷ []) x y → HandsOn number reply lanes (set lanes number y)
put-hands lanes number reply x y within is handed = record {
  long = length-set lanes number y;
  others = λ n off. get-set-other lanes number n y off;
  own = λ a b was after.
      (let same : x ≡ a = same_Some x a (sym (found-at lanes lanes number number x refl refl within is) ∙ was) in
      let put : b ≡ y = get-set-same lanes number y b after in
      (ap (λ (l : Lane). l.link) put ∙ handed.link ∙ ap (λ (l : Lane). l.link) same, ap lane_left (sym same) ∙ handed.told ∙ ap (λ rs. reply ∷ rs) (ap lane_left (sym put))));
}

pub if-some : {T : Type 0} {P Q : T → Type 0} (answer : Option T) → ((x : T) → P x → Q x) → IfSome answer P → IfSome answer Q
if-some (Some x) more own = more x own
if-some None more own = own
