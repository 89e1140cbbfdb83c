-- The pieces of a race. Those of passes that have made no step may begin. Where all have ended, each caller's pass has made all
-- that its caller asks, and the plane stands after its rounds beside the callers.
use Rattle.std.proofs.Common.{◌≡◌, ℕ, suc, ◌<◌, Some, Result, Ok, Err, List, [], ◌∷◌, ◌++◌, map, length, get_or, refl, sym, ap, ◌∙◌, subst, arith}
use Rattle.std.proofs.lemmas.List.{length-append, map-append}
use Rattle.std.proofs.lemmas.Option.{slice_get_within}
use Rattle.std.specs.List.{slice_get}
use Rattle.atomic_table.specs.Seated.{TableId}
use Rattle.net_units.specs.Numbers.{actor_number}
use Rattle.net_units.specs.declared.numbers.ActorNo.{ActorNo}
use Rattle.net_units.specs.declared.OutOfMemory.{OutOfMemory}
use Rattle.link_steps.specs.Lists.{Each}
use Rattle.link_steps.specs.Split.{Link}
use Rattle.link_steps.proofs.SearchAndFilter.{Each-append, Each-map}
use Rattle.step_stamp.specs.Lists.{up_to}
use Rattle.link_ledger.specs.Tokens.{Token, actors_opened}
use Rattle.link_ledger.proofs.OwnStaysExact.{get-left, get-last}
use Rattle.shared_network.specs.Gathering.{AreAll, token_actor}
use Rattle.shared_network.specs.Ready.{IsNew, MayStep, PassGoesOn}
use Rattle.shared_network.proofs.Numbering.ActorOrder.{actors-in_order}
use Rattle.shared_network.proofs.Numbering.LinkNumbers.{numbered-at, numbered-length}
use Rattle.tick_plane.specs.PlaneAccount.{PlaneAccount}
use Rattle.call_script.specs.Parts.{PlanParts}
use Rattle.call_script.specs.Tasks.{network_of}
use Rattle.run_engine.specs.runs.Runs.{plane_no}
use Rattle.race_run.specs.Pieces.{AreInOrder, AreNew, HasEnded, IsAtRound, IsMade, IsOfRounds, IsOfScript, MayBegin, Pairwise}
use Rattle.race_run.specs.Whole.{HasMadeAll}
use Rattle.race_run.specs.declared.pieces.Piece.{Piece}
use Rattle.race_run.specs.declared.pieces.Piece.TheVariants.{Script, Rounds}
use Rattle.link_steps.proofs.ListParts.{Each-at, Each-by_place, Each-parts}
use Rattle.run_engine.proofs.Keeping.KeptActors.{plane-number}

-- ---- lists side by side

-- P holds at each place
pub pairwise-at : {X Y : Type 0} (P : X → Y → Type 0) (xs : List X) (ys : List Y) → length ys ≡ length xs → ((i : ℕ) (x : X) (y : Y) → i < length xs → get_or xs i x ≡ x → get_or ys i y ≡ y → P x y) → Pairwise P xs ys
pairwise-at P [] [] long all = tt
pairwise-at P [] (y ∷ ys) long all = absurd (omega (arith, long))
pairwise-at P (x ∷ xs) [] long all = absurd (omega (arith, long))
pairwise-at P (x ∷ xs) (y ∷ ys) long all = (all 0 x y (omega arith) refl refl, pairwise-at P xs ys (omega (arith, long)) (λ i z w below here there. all (suc i) z w (omega (arith, below)) here there))

each-along : {X Y : Type 0} (R : X → Y → Type 0) (P : X → Type 0) (Q : Y → Type 0) → ((x : X) (y : Y) → R x y → P x → Q y) → (xs : List X) (ys : List Y) → Pairwise R xs ys → Each P xs → Each Q ys
each-along R P Q step [] [] pairs each = tt
each-along R P Q step [] (y ∷ ys) pairs each = absurd pairs
each-along R P Q step (x ∷ xs) [] pairs each = absurd pairs
each-along R P Q step (x ∷ xs) (y ∷ ys) pairs each = (step x y pairs.0 each.0, each-along R P Q step xs ys pairs.1 each.1)

each-of : {X Y : Type 0} (R : X → Y → Type 0) (Q : Y → Type 0) → ((x : X) (y : Y) → R x y → Q y) → (xs : List X) (ys : List Y) → Pairwise R xs ys → Each Q ys
each-of R Q step [] [] pairs = tt
each-of R Q step [] (y ∷ ys) pairs = absurd pairs
each-of R Q step (x ∷ xs) [] pairs = absurd pairs
each-of R Q step (x ∷ xs) (y ∷ ys) pairs = (step x y pairs.0, each-of R Q step xs ys pairs.1)

map-along : {X Y Z : Type 0} (R : X → Y → Type 0) (f : X → Z) (g : Y → Z) → ((x : X) (y : Y) → R x y → g y ≡ f x) → (xs : List X) (ys : List Y) → Pairwise R xs ys → map g ys ≡ map f xs
map-along R f g step [] [] pairs = refl
map-along R f g step [] (y ∷ ys) pairs = absurd pairs
map-along R f g step (x ∷ xs) [] pairs = absurd pairs
map-along R f g step (x ∷ xs) (y ∷ ys) pairs = (let first = step x y pairs.0 in let rest = map-along R f g step xs ys pairs.1 in λ i. first i ∷ rest i)

-- ---- the plane's number

-- ---- the beginning

module _ (table : TableId) (owners : List ActorNo) (links : List Link) (parts : PlanParts) (callers : List Token) (last : Token) (all : AreNew table owners links parts (callers ++ last ∷ [])) where
  many : length callers ≡ length parts.callers
  many = (let whole = numbered-length token_actor (callers ++ last ∷ []) (suc (length parts.callers)) all.actors in let cut = length-append callers (last ∷ []) in omega (arith, whole, cut))

  -- the last pass is the plane's
  pub last-plane : actor_number last.actor ≡ plane_no (network_of parts)
  last-plane = numbered-at token_actor (callers ++ last ∷ []) (suc (length parts.callers)) (length parts.callers) last all.actors (omega arith) (ap (slice_get (callers ++ last ∷ [])) (sym many) ∙ get-last callers last) ∙ sym (plane-number parts)

  parted : Each (IsNew table owners links (suc (length parts.callers))) callers × Each (IsNew table owners links (suc (length parts.callers))) (last ∷ [])
  parted = Each-parts (IsNew table owners links (suc (length parts.callers))) callers (last ∷ []) all.new

  pub last-own : last.own ≡ []
  last-own = parted.1.0.own

  -- each pass before it is a caller's
  caller-begins : (k : ℕ) (pass : Token) → slice_get callers k ≡ Some pass → MayBegin table owners links parts (Script pass)
  caller-begins k pass found =
      let inside = slice_get_within callers k pass found in
      let is = numbered-at token_actor (callers ++ last ∷ []) (suc (length parts.callers)) k pass all.actors (let m = many in omega (arith, inside, m)) (get-left callers (last ∷ []) k pass found) in
      let new = Each-at (IsNew table owners links (suc (length parts.callers))) callers k pass parted.0 found in
      record { may_step = new.may_step; begins = record { caller = (let m = many in omega (arith, inside, is, m)); own = new.own; drawn = ap length new.drawn } }

  pub all-begin : (plane : PlaneAccount) → IsAtRound parts 0 plane last → Each (MayBegin table owners links parts) (map (λ (p : Token). Script p) callers ++ Rounds plane last ∷ [])
  all-begin plane at =
      Each-append (MayBegin table owners links parts) (map (λ (p : Token). Script p) callers) (Rounds plane last ∷ [])
      (Each-map (MayBegin table owners links parts) (λ (p : Token). Script p) callers (Each-by_place (λ (p : Token). MayBegin table owners links parts (Script p)) callers caller-begins))
      (record { may_step = parted.1.0.may_step; begins = at }, tt)

-- ---- the order

pub in-order : (front : List (Result Piece OutOfMemory)) (last : Result Piece OutOfMemory) → AreInOrder (front ++ last ∷ []) → Each IsOfScript front × IsOfRounds last
in-order [] last order = (tt, order)
in-order (x ∷ []) last order = ((order.0, tt), order.1)
in-order (x ∷ y ∷ front) last order = (let rest = in-order (y ∷ front) last order.1 in ((order.0, rest.0), rest.1))

module _ (table : TableId) (owners : List ActorNo) (links : List Link) (parts : PlanParts) where
  of-script : (pass : Token) (made : Result Piece OutOfMemory) → IsMade table owners links parts (Script pass) made → IsOfScript made
  of-script pass (Ok (Script p)) ended = tt
  of-script pass (Ok (Rounds plane p)) ended = ended.ends
  of-script pass (Err wanted) ended = tt

  of-rounds : (plane : PlaneAccount) (pass : Token) (made : Result Piece OutOfMemory) → IsMade table owners links parts (Rounds plane pass) made → IsOfRounds made
  of-rounds plane pass (Ok (Script p)) ended = ended.ends
  of-rounds plane pass (Ok (Rounds plane' p)) ended = tt
  of-rounds plane pass (Err wanted) ended = tt

  by-pieces : (callers : List Token) (plane : PlaneAccount) (last : Token) (made : List (Result Piece OutOfMemory)) → Pairwise (IsMade table owners links parts) (map (λ (p : Token). Script p) callers ++ Rounds plane last ∷ []) made → AreInOrder made
  by-pieces [] plane last [] pairs = absurd pairs
  by-pieces [] plane last (r ∷ []) pairs = of-rounds plane last r pairs.0
  by-pieces [] plane last (r ∷ s ∷ made) pairs = absurd pairs.1
  by-pieces (c ∷ cs) plane last [] pairs = absurd pairs
  by-pieces (c ∷ []) plane last (r ∷ []) pairs = absurd pairs.1
  by-pieces (c ∷ d ∷ cs) plane last (r ∷ []) pairs = absurd pairs.1
  by-pieces (c ∷ cs) plane last (r ∷ s ∷ made) pairs = (of-script c r pairs.0, by-pieces cs plane last (s ∷ made) pairs.1)

  pub made-in_order : (pieces : List Piece) (made : List (Result Piece OutOfMemory)) (callers : List Token) (plane : PlaneAccount) (last : Token) → pieces ≡ map (λ (p : Token). Script p) callers ++ Rounds plane last ∷ [] → Pairwise (IsMade table owners links parts) pieces made → AreInOrder made
  made-in_order pieces made callers plane last are pairs = by-pieces callers plane last made (subst (λ (ps : List Piece). Pairwise (IsMade table owners links parts) ps made) are pairs)

-- ---- the end

module _ (table : TableId) (owners : List ActorNo) (links : List Link) (parts : PlanParts) where
  abbrev ScriptEnds : Token → Token → Type 0
  ScriptEnds pass pass' = HasEnded table owners links parts (Script pass) (Script pass')

  -- the callers' pieces, and that of the plane
  pub record AreMade (callers : List Token) (plane : PlaneAccount) (last : Token) (callers' : List Token) (plane' : PlaneAccount) (last' : Token) : Type 0 where
    pub scripts : Pairwise ScriptEnds callers callers'
    pub rounds : HasEnded table owners links parts (Rounds plane last) (Rounds plane' last')

  pub all-made : (callers callers' : List Token) (plane plane' : PlaneAccount) (last last' : Token) → Pairwise (IsMade table owners links parts) (map (λ (p : Token). Script p) callers ++ Rounds plane last ∷ []) (map (λ (p : Token). Ok (Script p)) callers' ++ Ok (Rounds plane' last') ∷ []) → AreMade callers plane last callers' plane' last'
  all-made [] [] plane plane' last last' pairs = record { scripts = tt; rounds = pairs.0 }
  all-made [] (p ∷ ps) plane plane' last last' pairs = absurd (let first : HasEnded table owners links parts (Rounds plane last) (Script p) = pairs.0 in first.ends)
  all-made (c ∷ cs) [] plane plane' last last' pairs = absurd (let first : HasEnded table owners links parts (Script c) (Rounds plane' last') = pairs.0 in first.ends)
  all-made (c ∷ cs) (p ∷ ps) plane plane' last last' pairs = (let rest = all-made cs ps plane plane' last last' pairs.1 in record { scripts = (pairs.0, rest.scripts); rounds = rest.rounds })

  pub made-of : (pieces : List Piece) (made : List (Result Piece OutOfMemory)) (callers callers' : List Token) (plane plane' : PlaneAccount) (last last' : Token) → pieces ≡ map (λ (p : Token). Script p) callers ++ Rounds plane last ∷ [] → made ≡ map (λ (p : Token). Ok (Script p)) callers' ++ Ok (Rounds plane' last') ∷ [] → Pairwise (IsMade table owners links parts) pieces made → AreMade callers plane last callers' plane' last'
  made-of pieces made callers callers' plane plane' last last' are came pairs =
      all-made callers callers' plane plane' last last'
      (subst (λ (ps : List Piece). Pairwise (IsMade table owners links parts) ps (map (λ (p : Token). Ok (Script p)) callers' ++ Ok (Rounds plane' last') ∷ [])) are
      (subst (λ (rs : List (Result Piece OutOfMemory)). Pairwise (IsMade table owners links parts) pieces rs) came pairs))

  -- the plane's pass after the rounds that follow the callers
  pub record IsLast (pass pass' : Token) : Type 0 where
    pub made : HasMadeAll (network_of parts) pass'
    pub goes : PassGoesOn table owners links pass pass'
    pub actor : pass'.actor ≡ pass.actor

  module _ (callers callers' : List Token) (plane plane' : PlaneAccount) (last last' final : Token) (all : AreNew table owners links parts (callers ++ last ∷ [])) (made : AreMade callers plane last callers' plane' last') (ends : IsLast last' final) where
    same-actors : map token_actor (callers' ++ final ∷ []) ≡ map token_actor (callers ++ last ∷ [])
    same-actors =
        map-append token_actor callers' (final ∷ [])
        ∙ (λ i. map-along ScriptEnds token_actor token_actor (λ p q ended. ap actor_number ended.actor) callers callers' made.scripts i ++ actor_number ((ends.actor ∙ made.rounds.actor) i) ∷ [])
        ∙ sym (map-append token_actor callers (last ∷ []))

    pub made-actors : map token_actor (callers' ++ final ∷ []) ≡ up_to (suc (plane_no (network_of parts)))
    made-actors = same-actors ∙ all.actors ∙ ap (λ n. up_to (suc n)) (sym (plane-number parts))

    pub made-all : Each (HasMadeAll (network_of parts)) (callers' ++ final ∷ [])
    made-all = Each-append (HasMadeAll (network_of parts)) callers' (final ∷ []) (each-of ScriptEnds (HasMadeAll (network_of parts)) (λ p q ended. ended.ends) callers callers' made.scripts) (ends.made, tt)

    pub made-are_all : AreAll table owners links (callers' ++ final ∷ [])
    made-are_all =
        let n = suc (length parts.callers) in
        let long : length (callers' ++ final ∷ []) ≡ n = numbered-length token_actor (callers' ++ final ∷ []) n (same-actors ∙ all.actors) in
        let news = Each-parts (IsNew table owners links n) callers (last ∷ []) all.new in
        record {
          some = omega (arith, long);
          actors = actors-in_order (length (callers' ++ final ∷ [])) (map token_actor (callers' ++ final ∷ [])) (same-actors ∙ all.actors ∙ ap up_to (sym long));
          among = subst (λ k. Each (λ (p : Token). actors_opened p ≡ k) (callers' ++ final ∷ [])) (sym long)
              (Each-append (λ (p : Token). actors_opened p ≡ n) callers' (final ∷ [])
              (each-along ScriptEnds (IsNew table owners links n) (λ (p : Token). actors_opened p ≡ n) (λ p q ended new. ended.goes.among ∙ new.among) callers callers' made.scripts news.0)
              (ends.goes.among ∙ made.rounds.goes.among ∙ news.1.0.among, tt));
          may_step = Each-append (MayStep table owners links) callers' (final ∷ []) (each-of ScriptEnds (MayStep table owners links) (λ p q ended. ended.goes.may_step) callers callers' made.scripts) (ends.goes.may_step, tt);
        }
