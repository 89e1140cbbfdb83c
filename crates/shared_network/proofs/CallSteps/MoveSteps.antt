-- A step of a move releases the next hop of the channel that is left, or submits on the other channel, which happens once at
-- most; and each step leaves fewer asks.
use Rattle.std.proofs.Common.{◌≡◌, ℕ, suc, ◌+◌, ◌-◌, ◌<◌, ◌≤◌, false, Option, Some, None, List, [], ◌∷◌, ◌++◌, refl, sym, ap, subst, arith}
use Rattle.shared_network.proofs.Words.{cond_both, ne_eqb, eqb-false, nat_eq, LinkNo, Ask, Release, Submit, Reply, names_first_hop, Move, shifted_in, told_by, next_of_move}
use Rattle.channel_move.specs.Stages.{stage_after}
use Rattle.channel_move.specs.declared.mover.Stage.{Stage}
use Rattle.channel_move.specs.declared.mover.Stage.TheVariants.{Leaving, Joining, Releasing}
use Rattle.channel_move.specs.declared.shifted.Shifted.{Shifted}
use Rattle.channel_move.proofs.AskByStage.{HopAsked, MoveAsks, AsksFirst, AsksSubmit, AsksRest, move-asks, rest-length}
use Rattle.channel_move.proofs.StageGrows.{releasing-grows}

-- ---- stages

-- how many hops of the channel that is left have replied
abbrev pub left_by : Stage → ℕ
left_by Leaving = 0
left_by (Joining told) = 1
left_by (Releasing told made) = made

-- how many asks are left at most, of a route of so many hops
abbrev pub asks_left : ℕ → Stage → ℕ
asks_left hops Leaving = hops + 1
asks_left hops (Joining told) = hops
asks_left hops (Releasing told made) = hops - made

-- it may still submit
abbrev pub MaySubmit : Stage → Type 0
MaySubmit Leaving = Unit {0}
MaySubmit (Joining told) = Unit {0}
MaySubmit (Releasing told made) = ⊥

-- ---- one step

pub record ReleaseStep (move : Move) (replies : List Reply) (to : LinkNo) (ask : Ask) (reply : Reply) : Type 0 where
  pub place : ℕ
  pub upstream : Option ℕ
  pub at : HopAsked move.leaving_route place to
  pub is : ask ≡ Release move.leaving upstream
  pub first : nat_eq place 0 ≡ names_first_hop upstream
  pub before : left_by (stage_after replies) ≡ place
  pub now : left_by (stage_after (replies ++ reply ∷ [])) ≡ suc place
  pub submits : MaySubmit (stage_after (replies ++ reply ∷ [])) → MaySubmit (stage_after replies)
  pub less : (hops : ℕ) → place < hops → asks_left hops (stage_after (replies ++ reply ∷ [])) < asks_left hops (stage_after replies)

pub record SubmitStep (move : Move) (replies : List Reply) (to : LinkNo) (ask : Ask) (reply : Reply) : Type 0 where
  pub first : Reply
  pub alone : replies ≡ first ∷ []
  pub some : 1 ≤ shifted_in first
  pub at : HopAsked move.joining_route 0 to
  pub is : ask ≡ Submit move.joining (shifted_in first) move.gap move.size
  pub before : left_by (stage_after replies) ≡ 1
  pub now : left_by (stage_after (replies ++ reply ∷ [])) ≡ 1
  pub may : MaySubmit (stage_after replies)
  pub once : MaySubmit (stage_after (replies ++ reply ∷ [])) → ⊥
  pub less : (hops : ℕ) → 1 ≤ hops → asks_left hops (stage_after (replies ++ reply ∷ [])) < asks_left hops (stage_after replies)

pub data MoveStep (move : Move) (replies : List Reply) (to : LinkNo) (ask : Ask) (reply : Reply) : Type 0 where
  AsRelease : ReleaseStep move replies to ask reply → MoveStep move replies to ask reply
  AsSubmit : SubmitStep move replies to ask reply → MoveStep move replies to ask reply

first-step : (move : Move) (to : LinkNo) (ask : Ask) (reply : Reply) → HopAsked move.leaving_route 0 to → ask ≡ Release move.leaving None → ReleaseStep move [] to ask reply
first-step move to ask reply at is =
    let by : (P : Stage → Type 0) → P (Releasing (told_by reply) 1) → P (Joining (told_by reply)) → P (stage_after (reply ∷ [])) =
    λ P made joining. cond_both (nat_eq (shifted_in reply) 0) (Releasing (told_by reply) 1) (Joining (told_by reply)) P (λ none. made) (λ some. joining) in
    record {
      place = 0;
      upstream = None;
      at = at;
      is = is;
      first = refl;
      before = refl;
      now = by (λ s. left_by s ≡ 1) refl refl;
      submits = λ may. tt;
      less = λ hops within. by (λ s. asks_left hops s < hops + 1) (omega arith) (omega arith);
    }

submit-step : (move : Move) (to : LinkNo) (ask : Ask) (reply first : Reply) → nat_eq (shifted_in first) 0 ≡ false → HopAsked move.joining_route 0 to → ask ≡ Submit move.joining (shifted_in first) move.gap move.size → SubmitStep move (first ∷ []) to ask reply
submit-step move to ask reply first some at is =
    let before : stage_after (first ∷ []) ≡ Joining (told_by first) = rw some refl in
    let now : stage_after (first ∷ reply ∷ []) ≡ Releasing (told_by first) 1 = rw some refl in
    let least = eqb-false (shifted_in first) 0 some in
    record {
      first = first;
      alone = refl;
      some = omega (arith, least);
      at = at;
      is = is;
      before = ap left_by before;
      now = ap left_by now;
      may = subst MaySubmit (sym before) tt;
      once = λ may. subst MaySubmit now may;
      less = λ hops some. (let was = ap (asks_left hops) before in let left = ap (asks_left hops) now in omega (arith, was, left, some));
    }

rest-step : (move : Move) (replies : List Reply) (to : LinkNo) (ask : Ask) (reply : Reply) (told : Shifted) (made : ℕ) → stage_after replies ≡ Releasing told made → HopAsked move.leaving_route made to → ask ≡ Release move.leaving (Some told.kept) → ReleaseStep move replies to ask reply
rest-step move replies to ask reply told made stage at is =
    let now : stage_after (replies ++ reply ∷ []) ≡ Releasing told (suc made) = releasing-grows replies reply told made stage in
    let least = (rest-length replies told made stage).1 in
    record {
      place = made;
      upstream = Some told.kept;
      at = at;
      is = is;
      first = ne_eqb made 0 (λ e. omega (arith, e, least));
      before = ap left_by stage;
      now = ap left_by now;
      submits = λ may. absurd (subst MaySubmit now may);
      less = λ hops within. (let was = ap (asks_left hops) stage in let left = ap (asks_left hops) now in omega (arith, was, left, within));
    }

pub move-step : (move : Move) (replies : List Reply) (to : LinkNo) (ask : Ask) (reply : Reply) → next_of_move move replies ≡ Some (to, ask) → MoveStep move replies to ask reply
move-step move replies to ask reply asks = by (move-asks move replies to ask asks) where
  by : MoveAsks move replies to ask → MoveStep move replies to ask reply
  by (AsksFirst none at is) = AsRelease (subst (λ rs. ReleaseStep move rs to ask reply) (sym none) (first-step move to ask reply at is))
  by (AsksSubmit first one some at is) = AsSubmit (subst (λ rs. SubmitStep move rs to ask reply) (sym one) (submit-step move to ask reply first some at is))
  by (AsksRest told made stage at is) = AsRelease (rest-step move replies to ask reply told made stage at is)
