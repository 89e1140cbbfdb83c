-- The stage of a move after one reply more.
use Rattle.std.proofs.Common.{◌≡◌, ℕ, suc, List, [], ◌∷◌, ◌++◌, length, refl, ap, ◌∙◌, inl, inr, arith}
use Rattle.std.proofs.lemmas.Bool.{cases_Bool}
use Rattle.std.proofs.lemmas.List.{length_push}
use Rattle.std.specs.Prelude.{nat_eq}
use Rattle.link_steps.specs.declared.replies.Reply.{Reply}
use Rattle.channel_move.specs.Moving.{shifted_in, told_by}
use Rattle.channel_move.specs.Stages.{stage_after, joining_after}
use Rattle.channel_move.specs.declared.mover.Stage.{Stage}
use Rattle.channel_move.specs.declared.mover.Stage.TheVariants.{Leaving, Joining, Releasing}
use Rattle.channel_move.specs.declared.shifted.Shifted.{Shifted}

-- a stage after one reply more, which a move that isn't over takes
abbrev pub grown : Stage → Stage
grown Leaving = Leaving
grown (Joining told) = Releasing told 1
grown (Releasing told made) = Releasing told (suc made)

one-more : (replies : List Reply) (reply : Reply) → length (replies ++ reply ∷ []) ≡ suc (length replies)
one-more replies reply = (let one = length_push replies reply in omega (arith, one))

joining-grows : (told : Shifted) (replies : List Reply) (reply : Reply) → joining_after told (replies ++ reply ∷ []) ≡ grown (joining_after told replies)
joining-grows told [] reply = refl
joining-grows told (planned ∷ replies) reply = ap (λ n. Releasing told (suc n)) (one-more replies reply)

pub stage-grows : (first : Reply) (replies : List Reply) (reply : Reply) → stage_after (first ∷ replies ++ reply ∷ []) ≡ grown (stage_after (first ∷ replies))
stage-grows first replies reply =
    elim (cases_Bool (nat_eq (shifted_in first) 0)) [
      | inl none ↦ rw none (ap (λ n. Releasing (told_by first) (suc n)) (one-more replies reply))
      | inr some ↦ rw some (joining-grows (told_by first) replies reply)
    ]

pub releasing-grows : (replies : List Reply) (reply : Reply) (told : Shifted) (made : ℕ) → stage_after replies ≡ Releasing told made → stage_after (replies ++ reply ∷ []) ≡ Releasing told (suc made)
releasing-grows [] reply told made is = absurd (let clash : Leaving ≡ Releasing told made = is in cc)
releasing-grows (first ∷ replies) reply told made is = stage-grows first replies reply ∙ ap grown is
