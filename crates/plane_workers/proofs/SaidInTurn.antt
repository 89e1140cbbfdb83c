-- What a link has said, handed on one reply after the other.
use Rattle.std.proofs.Common.{◌≡◌, ℕ, zero, suc, ◌+◌, ◌-◌, ◌<◌, ◌≤◌, List, [], ◌∷◌, ◌++◌, length, drop, set, None, Some, refl, sym, ap, ◌∙◌, inl, inr, arith}
use Rattle.std.proofs.lemmas.Bool.{cases_lt}
use Rattle.std.proofs.lemmas.List.{append_assoc, append-nil, drop_all, drop-set}
use Rattle.std.proofs.lemmas.Option.{same_Some}
use Rattle.std.specs.List.{slice_get}
use Rattle.link_steps.specs.Quiet.{quiet_reply}
use Rattle.link_steps.specs.declared.replies.Reply.{Reply}
use Rattle.plane_workers.specs.Said.{quiets, said_in, run_in}
use Rattle.plane_workers.specs.declared.lane.Said.{Said}
use Rattle.plane_workers.specs.declared.lane.Said.TheVariants.{Quiet, Replied}
use Rattle.plane_workers.specs.declared.quiet_run.QuietRun.{QuietRun}
use Rattle.plane_workers.proofs.QuietReplies.{one-quiet, quiets-both, said-both}

pub none-said : said_in [] ≡ []
unfolding said_in
none-said = refl

run-first : (run : QuietRun) (more : List Said) → said_in (Quiet run ∷ more) ≡ quiets run.clock run.ticks ++ said_in more
unfolding said_in
run-first run more = refl

reply-first : (reply : Reply) (more : List Said) → said_in (Replied reply ∷ more) ≡ reply ∷ said_in more
unfolding said_in
reply-first reply more = refl

-- where one is left, the place is among them
pub left-inside : (said : List Said) (i : ℕ) (reply : Reply) (rest : List Reply) → said_in (drop i said) ≡ reply ∷ rest → i < length said
left-inside said i reply rest left =
    elim (cases_lt i (length said)) [
      | inl within ↦ within
      | inr past ↦ absurd (let none : reply ∷ rest ≡ [] = sym left ∙ ap said_in (drop_all i said past) ∙ none-said in cc)
    ]

-- the next are quiet ticks
pub record RunFirst (said : List Said) (i : ℕ) (run : QuietRun) : Type 0 where
  pub inside : i < length said
  pub first : drop i said ≡ Quiet run ∷ drop (suc i) said

pub run-front : (said : List Said) (i : ℕ) (run : QuietRun) → run_in (drop i said) ≡ Some run → RunFirst said i run
run-front [] zero run is = cc
run-front [] (suc i) run is = cc
run-front (Quiet own ∷ more) zero run is = record { inside = omega arith; first = ap (λ r. Quiet r ∷ more) (same_Some own run is) }
run-front (Replied reply ∷ more) zero run is = cc
run-front (x ∷ more) (suc i) run is = (let rest = run-front more i run is in record { inside = (let within = rest.inside in omega (arith, within)); first = rest.first })

module _ (said : List Said) (i : ℕ) (run : QuietRun) (is : run_in (drop i said) ≡ Some run) where
  at : RunFirst said i run
  at = run-front said i run is

  next : suc i ≡ i + 1
  next = omega arith

  -- all of them are handed on
  pub hand-all : (n : ℕ) → n ≡ run.ticks → said_in (drop i said) ≡ quiets run.clock n ++ said_in (drop (i + 1) said)
  hand-all n all = ap said_in at.first ∙ run-first run (drop (suc i) said) ∙ ap (λ k. quiets run.clock k ++ said_in (drop (suc i) said)) (sym all) ∙ ap (λ k. quiets run.clock n ++ said_in (drop k said)) next

  -- some of them are
  pub hand-some : (n : ℕ) (after : QuietRun) → n ≤ run.ticks → after.clock ≡ run.clock + n → after.ticks ≡ run.ticks - n → said_in (drop i said) ≡ quiets run.clock n ++ said_in (drop i (set said i (Quiet after)))
  hand-some n after few clock ticks =
      let count : run.ticks ≡ n + after.ticks = omega (arith, few, ticks) in
      ap said_in at.first ∙ run-first run (drop (suc i) said)
      ∙ ap (λ k. quiets run.clock k ++ said_in (drop (suc i) said)) count
      ∙ ap (λ rs. rs ++ said_in (drop (suc i) said)) (quiets-both run.clock n after.ticks)
      ∙ append_assoc (quiets run.clock n) (quiets (run.clock + n) after.ticks) (said_in (drop (suc i) said))
      ∙ ap (λ t. quiets run.clock n ++ (quiets t after.ticks ++ said_in (drop (suc i) said))) (sym clock)
      ∙ ap (λ k. quiets run.clock n ++ (quiets after.clock after.ticks ++ said_in (drop k said))) next
      ∙ ap (λ rs. quiets run.clock n ++ rs) (sym (ap said_in (drop-set said i (Quiet after) at.inside) ∙ run-first after (drop (i + 1) said)))

-- the next one is written out
pub first-reply : (said : List Said) (i : ℕ) (reply : Reply) → drop i said ≡ Replied reply ∷ drop (i + 1) said → said_in (drop i said) ≡ reply ∷ said_in (drop (i + 1) said)
first-reply said i reply is = ap said_in is ∙ reply-first reply (drop (i + 1) said)

-- ---- one more is kept

pub keep-run : (old new : List Said) (run : QuietRun) → new ≡ old ++ Quiet run ∷ [] → said_in new ≡ said_in old ++ quiets run.clock run.ticks
keep-run old new run are = ap said_in are ∙ said-both old (Quiet run ∷ []) ∙ ap (λ rs. said_in old ++ rs) (run-first run [] ∙ ap (λ rs. quiets run.clock run.ticks ++ rs) none-said ∙ append-nil (quiets run.clock run.ticks))

pub keep-reply : (old new : List Said) (reply : Reply) → new ≡ old ++ Replied reply ∷ [] → said_in new ≡ said_in old ++ reply ∷ []
keep-reply old new reply are = ap said_in are ∙ said-both old (Replied reply ∷ []) ∙ ap (λ rs. said_in old ++ rs) (reply-first reply [] ∙ ap (λ rs. reply ∷ rs) none-said)

pub keep-one : (old new : List Said) (run : QuietRun) → new ≡ old ++ Quiet run ∷ [] → run.ticks ≡ 1 → said_in new ≡ said_in old ++ quiet_reply run.clock ∷ []
keep-one old new run are one = keep-run old new run are ∙ ap (λ n. said_in old ++ quiets run.clock n) one ∙ ap (λ rs. said_in old ++ rs) (one-quiet run.clock)

-- where the next isn't a run of quiet ticks, it is written out
pub written-out : (said : List Said) (i : ℕ) (run : QuietRun) (more : List Said) → run_in (drop i said) ≡ None → drop i said ≡ Quiet run ∷ more → ⊥
written-out said i run more none is = (let clash : Some run ≡ None = sym (ap run_in is) ∙ none in cc)

-- ---- the one at a place

pub found-run : (said : List Said) (i : ℕ) (run : QuietRun) → slice_get said i ≡ Some (Quiet run) → run_in (drop i said) ≡ Some run
found-run [] i run is = cc
found-run (x ∷ more) zero run is = ap (λ xs. run_in xs) (ap (λ y. y ∷ more) (same_Some x (Quiet run) is))
found-run (x ∷ more) (suc i) run is = found-run more i run is

pub found-reply : (said : List Said) (i : ℕ) (reply : Reply) → slice_get said i ≡ Some (Replied reply) → run_in (drop i said) ≡ None
found-reply [] i reply is = cc
found-reply (x ∷ more) zero reply is = ap (λ xs. run_in xs) (ap (λ y. y ∷ more) (same_Some x (Replied reply) is))
found-reply (x ∷ more) (suc i) reply is = found-reply more i reply is

pub found-none : (said : List Said) (i : ℕ) → slice_get said i ≡ None → run_in (drop i said) ≡ None
found-none [] zero is = refl
found-none [] (suc i) is = refl
found-none (x ∷ more) zero is = cc
found-none (x ∷ more) (suc i) is = found-none more i is
