-- How many words ask for workers: three, or four.
use Rattle.std.proofs.Common.{◌≡◌, ◌<◌, ℕ, List, [], ◌∷◌, None, length, refl, arith}
use Rattle.tenet_app.specs.Working.{work_words}

pub work-short : (words : List (List ℕ)) → length words < 3 → None ≡ work_words words
work-short [] few = refl
work-short (a ∷ []) few = refl
work-short (a ∷ b ∷ []) few = refl
work-short (a ∷ b ∷ c ∷ words) few = absurd (omega (arith, few))

pub work-long : (words : List (List ℕ)) → 4 < length words → None ≡ work_words words
work-long [] many = refl
work-long (a ∷ []) many = refl
work-long (a ∷ b ∷ []) many = refl
work-long (a ∷ b ∷ c ∷ []) many = absurd (omega (arith, many))
work-long (a ∷ b ∷ c ∷ d ∷ []) many = absurd (omega (arith, many))
work-long (a ∷ b ∷ c ∷ d ∷ e ∷ words) many = refl
