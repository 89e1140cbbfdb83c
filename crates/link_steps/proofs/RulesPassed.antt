-- What a reply that is no refusal says of the rules that were tried.
use Rattle.std.proofs.Common.{◌≡◌, ℕ, ◌≤◌, Bool, true, false, ◌&&◌, List, [], ◌∷◌, Option, Some, None, refl, subst}
use Rattle.std.proofs.lemmas.Bool.{leb-true, and_parts}
use Rattle.std.specs.Prelude.{nat_le}
use Rattle.net_units.specs.Numbers.{level_number}
use Rattle.net_units.specs.declared.numbers.Level.{Level}
use Rattle.link_steps.specs.declared.replies.Refusal.{Refusal}
use Rattle.link_steps.specs.declared.replies.Reply.{Reply}
use Rattle.link_steps.specs.declared.replies.Reply.TheVariants.{Refused}
use Rattle.link_steps.specs.Refusals.{RefusalRule, refused_unless, refused_or, first_refusal, no_level, unfit}
use Rattle.link_steps.specs.Reservation.{Reservation}

-- the reply refuses nothing
abbrev pub IsAnswer : Reply → Type 0
IsAnswer (Refused refusal) = ⊥
IsAnswer _ = Unit {0}

-- an answer comes only where the rule is kept, and is then the reply of the rules after it
pub kept-rule : (rule : RefusalRule) (reply answer : Reply) → IsAnswer answer → answer ≡ refused_or rule reply → (rule ≡ None) × (answer ≡ reply)
kept-rule None reply answer is same = (refl, same)
kept-rule (Some refusal) reply answer is same = absurd (subst IsAnswer same is)

-- an answer is the reply of the rules where none applies
pub answers-reply : (rules : List RefusalRule) (reply answer : Reply) → IsAnswer answer → answer ≡ first_refusal rules reply → answer ≡ reply
answers-reply [] reply answer is same = same
answers-reply (rule ∷ rules) reply answer is same = answers-reply rules reply answer is (kept-rule rule (first_refusal rules reply) answer is same).1

-- a rule that gives no refusal holds
pub unless-none : (holds : Bool) (refusal : Refusal) → refused_unless holds refusal ≡ None → holds ≡ true
unless-none true refusal none = refl
unless-none false refusal none = cc

-- the rule on the level finds one
pub no_level-some : (best : Option ℕ) (sum bound : ℕ) → no_level best sum bound ≡ None → (level : ℕ) × (best ≡ Some level)
no_level-some None sum bound none = cc
no_level-some (Some level) sum bound none = (level, refl)

-- a relax that fits has a level from the offer to the reach, and a bound before within the reach before
pub unfit-none : (terms : Reservation) (level : Level) (up_bound : ℕ) → unfit terms level up_bound ≡ None → (level_number terms.level ≤ level_number level) × (level_number level ≤ level_number terms.reach) × (up_bound ≤ terms.up_reach)
unfit-none terms level up_bound none =
    let both = and_parts (nat_le (level_number terms.level) (level_number level) && nat_le (level_number level) (level_number terms.reach)) (nat_le up_bound terms.up_reach) (unless-none _ _ none) in
    let levels = and_parts (nat_le (level_number terms.level) (level_number level)) (nat_le (level_number level) (level_number terms.reach)) both.0 in
    (leb-true (level_number terms.level) (level_number level) levels.0, leb-true (level_number level) (level_number terms.reach) levels.1, leb-true up_bound terms.up_reach both.1)
