-- The plane's last rounds: a pass's stamps rise above what it has seen, it has seen those of all callers, and so the stamps of
-- what it asks then are above all of these.
use Rattle.std.proofs.Common.{◌≡◌, ℕ, ◌+◌, ◌<◌, ◌≤◌, List, [], ◌∷◌, ◌++◌, length, map, take, get_or, refl, sym, ap, ◌∙◌, subst, add-one, arith}
use Rattle.std.proofs.lemmas.List.{map-append}
use Rattle.std.proofs.Math.Seq.{take-suc}
use Rattle.link_steps.specs.Lists.{Each}
use Rattle.link_steps.proofs.SearchAndFilter.{Each-if, Each-append}
use Rattle.link_ledger.specs.Tokens.{Token, last_seen}
use Rattle.link_ledger.specs.declared.entries.OwnEntry.{OwnEntry}
use Rattle.net_units.specs.Numbers.{actor_number}
use Rattle.shared_network.specs.Added.{AddsAbove}
use Rattle.shared_network.specs.Closing.{KeptPass, kept_pass, HaveGivenUp}
use Rattle.shared_network.specs.Planes.{IsPlanes, rounds_in}
use Rattle.tick_plane.specs.PlaneAccount.{PlaneAccount}
use Rattle.call_script.specs.Parts.{PlanParts}
use Rattle.call_script.specs.Tasks.{network_of}
use Rattle.call_script.proofs.PlansFit.{links-are}
use Rattle.race_run.specs.Pieces.{IsAtRound}
use Rattle.race_run.specs.Rounds.{AreAskedBefore, round_after}
use Rattle.race_run.specs.Tail.{own_in, AreUpTo, IsAboveAll, GoesLast, TailIsLast}
use Rattle.race_run.proofs.PieceSteps.EarlierRounds.{Cut, In, Past, cut-at, each-middle}

-- ---- the largest stamp

pub each-taken : {X : Type 0} (P : X → Type 0) (xs : List X) (i : ℕ) (x : X) → i < length xs → x ≡ get_or xs i x → Each P (take i xs) → P x → Each P (take (i + 1) xs)
each-taken P xs i x inside is so_far here =
    subst (Each P) (ap (λ y. take i xs ++ y ∷ []) is ∙ sym (take-suc xs i x inside) ∙ ap (λ n. take n xs) (sym (add-one i))) (Each-append P (take i xs) (x ∷ []) so_far (here, tt))

up-to-more : (most top : ℕ) (own : List OwnEntry) → most ≤ top → AreUpTo most own → AreUpTo top own
up-to-more most top own le each = Each-if (λ (e : OwnEntry). e.stamp ≤ most) (λ (e : OwnEntry). e.stamp ≤ top) own (λ e at. omega (arith, at, le)) each

pub latest-more : (most top : ℕ) (entries : List OwnEntry) (i : ℕ) (e : OwnEntry) → i < length entries → e ≡ get_or entries i e → AreUpTo most (take i entries) → most ≤ top → e.stamp ≤ top → AreUpTo top (take (i + 1) entries)
latest-more most top entries i e inside is so_far le here = each-taken (λ (x : OwnEntry). x.stamp ≤ top) entries i e inside is (up-to-more most top (take i entries) le so_far) here

pub all-more : (most top : ℕ) (passes : List Token) (i : ℕ) (pass : Token) → i < length passes → pass ≡ get_or passes i pass → Each (λ (p : Token). AreUpTo most p.own) (take i passes) → most ≤ top → AreUpTo top pass.own → Each (λ (p : Token). AreUpTo top p.own) (take (i + 1) passes)
all-more most top passes i pass inside is so_far le here =
    each-taken (λ (p : Token). AreUpTo top p.own) passes i pass inside is (Each-if (λ (p : Token). AreUpTo most p.own) (λ (p : Token). AreUpTo top p.own) (take i passes) (λ p each. up-to-more most top p.own le each) so_far) here

-- ---- what comes last

above-all : (callers : List (List OwnEntry)) (least : ℕ) (last : List OwnEntry) → Each (AreUpTo least) callers → Each (λ (e : OwnEntry). least < e.stamp) last → Each (IsAboveAll callers) last
above-all callers least last upto above =
    Each-if (λ (e : OwnEntry). least < e.stamp) (IsAboveAll callers) last
    (λ e lt. Each-if (AreUpTo least) (Each (λ (o : OwnEntry). o.stamp < e.stamp)) callers
    (λ own each. Each-if (λ (o : OwnEntry). o.stamp ≤ least) (λ (o : OwnEntry). o.stamp < e.stamp) own (λ o le. omega (arith, le, lt)) each)
    upto)
    above

pub goes-last : (callers : List (List OwnEntry)) (stamp : ℕ) (pass seen pass' : Token) → Each (AreUpTo stamp) callers → stamp ≤ last_seen seen → seen.own ≡ pass.own → AddsAbove (last_seen seen) seen pass' → GoesLast callers pass pass'
goes-last callers stamp pass seen pass' upto least same adds = record {
  last = adds.entries;
  own = adds.own ∙ ap (λ own. own ++ adds.entries) same;
  above = above-all callers stamp adds.entries upto (Each-if (λ (e : OwnEntry). last_seen seen < e.stamp) (λ (e : OwnEntry). stamp < e.stamp) adds.entries (λ e lt. omega (arith, lt, least)) adds.above);
}

-- the plane stands there with any pass that has the same entries
pub at-same : (parts : PlanParts) (round : ℕ) (plane : PlaneAccount) (pass pass' : Token) → pass'.actor ≡ pass.actor → pass'.own ≡ pass.own → IsAtRound parts round plane pass → IsAtRound parts round plane pass'
at-same parts round plane pass pass' actor own at =
    let on = at.at.on in
    record {
      at = record {
        on = record {
          links = on.links;
          rounds = on.rounds;
          planes = subst (IsPlanes (length (network_of parts).links) plane) (sym own) on.planes;
          only = subst (λ es. rounds_in es ≡ es) (sym own) on.only;
          is = ap actor_number actor ∙ on.is;
        };
        between = at.at.between;
        early = subst (AreAskedBefore (length (network_of parts).links) plane.at.round) (sym own) at.at.early;
      };
      round_is = at.round_is;
    }

-- an entry of the plane is one of its rounds beside the callers, or comes after them
late-above : (links rounds : ℕ) (callers : List (List OwnEntry)) (first last before after : List OwnEntry) (e : OwnEntry) → AreAskedBefore links rounds first → Each (IsAboveAll callers) last → Cut OwnEntry first last before after e → rounds ≤ round_after links before → IsAboveAll callers e
late-above links rounds callers first last before after e early above (In rest is) late = (let soon = early before rest e is in absurd (omega (arith, soon, late)))
late-above links rounds callers first last before after e early above (Past front is all) late = each-middle (IsAboveAll callers) front after e (subst (Each (IsAboveAll callers)) is above)

-- the callers, and the plane with the rounds that it has made after them
pub tail-last : (parts : PlanParts) (callers all : List Token) (plane : PlaneAccount) (pass pass' : Token) → IsAtRound parts parts.rounds plane pass → GoesLast (map own_in callers) pass pass' → all ≡ callers ++ pass' ∷ [] → TailIsLast parts (map own_in all)
tail-last parts callers all plane pass pass' at goes are =
    let early : AreAskedBefore (length parts.links) parts.rounds pass.own = subst (λ (x : ℕ × ℕ). AreAskedBefore x.0 x.1 pass.own) (λ i. (links-are parts i, at.round_is i)) at.at.early in
    record {
      callers = map own_in callers;
      plane = pass'.own;
      are = ap (map own_in) are ∙ map-append own_in callers (pass' ∷ []);
      above = λ before after e is late. late-above (length parts.links) parts.rounds (map own_in callers) pass.own goes.last before after e early goes.above (cut-at pass.own goes.last before after e (sym goes.own ∙ is)) late;
    }

-- it stays so where passes give their seats up
own-kept : (passes : List Token) → map (λ (p : KeptPass). p.own) (map kept_pass passes) ≡ map own_in passes
own-kept [] = refl
own-kept (p ∷ passes) = ap (λ rest. p.own ∷ rest) (own-kept passes)

pub tail-kept : (parts : PlanParts) (passes closed : List Token) → HaveGivenUp passes closed → TailIsLast parts (map own_in passes) → TailIsLast parts (map own_in closed)
tail-kept parts passes closed given is = subst (TailIsLast parts) (sym (own-kept passes) ∙ ap (map (λ (p : KeptPass). p.own)) (sym given.kept) ∙ own-kept closed) is
