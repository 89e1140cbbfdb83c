-- The plane's entries so far were asked in rounds before the one in which it stands: so it is at the start, and over each step that
-- is asked in an earlier round.
use Rattle.std.proofs.Common.{◌≡◌, ℕ, ◌<◌, ◌≤◌, List, [], ◌∷◌, ◌++◌, refl, sym, ap, ◌∙◌, subst, arith}
use Rattle.std.proofs.lemmas.List.{append-nil}
use Rattle.link_steps.specs.Lists.{Each}
use Rattle.link_ledger.specs.declared.entries.OwnEntry.{OwnEntry}
use Rattle.race_run.specs.Rounds.{AreAskedBefore, round_after}
use Rattle.net_units.proofs.ListPlaces.{head-same, tail-same}

-- ---- a place in two lists, one after the other

-- an element with those before and after it: it is of the first list, or of the second one
pub data Cut (X : Type 0) (first last before after : List X) (x : X) : Type 0 where
  In : (rest : List X) → first ≡ before ++ x ∷ rest → Cut X first last before after x
  Past : (front : List X) → last ≡ front ++ x ∷ after → before ≡ first ++ front → Cut X first last before after x

cut-more : {X : Type 0} (y b : X) (first last before after : List X) (x : X) → y ≡ b → Cut X first last before after x → Cut X (y ∷ first) last (b ∷ before) after x
cut-more y b first last before after x same (In rest is) = In rest (λ i. same i ∷ is i)
cut-more y b first last before after x same (Past front is all) = Past front is (λ i. sym same i ∷ all i)

pub cut-at : {X : Type 0} (first last before after : List X) (x : X) → first ++ last ≡ before ++ x ∷ after → Cut X first last before after x
cut-at [] last before after x is = Past before is refl
cut-at (y ∷ first) last [] after x is = In first (ap (λ z. z ∷ first) (head-same y (first ++ last) x after is))
cut-at (y ∷ first) last (b ∷ before) after x is = cut-more y b first last before after x (head-same y (first ++ last) b (before ++ x ∷ after) is) (cut-at first last before after x (tail-same y (first ++ last) b (before ++ x ∷ after) is))

pub each-middle : {X : Type 0} (P : X → Type 0) (before after : List X) (x : X) → Each P (before ++ x ∷ after) → P x
each-middle P [] after x each = each.0
each-middle P (b ∷ before) after x each = each-middle P before after x each.1

no-middle : {X : Type 0} (before after : List X) (x : X) → [] ≡ before ++ x ∷ after → ⊥
no-middle [] after x is = cc
no-middle (b ∷ before) after x is = cc

-- ---- the entries so far

pub none-asked : (links round : ℕ) (own : List OwnEntry) → own ≡ [] → AreAskedBefore links round own
none-asked links round own none before after e is = absurd (no-middle before after e (sym none ∙ is))

pub asked-later : (links round later : ℕ) (own : List OwnEntry) → round ≤ later → AreAskedBefore links round own → AreAskedBefore links later own
asked-later links round later own le early before after e is = (let soon = early before after e is in omega (arith, soon, le))

one-more : (links round : ℕ) (own before after : List OwnEntry) (one e : OwnEntry) → AreAskedBefore links round own → round_after links own < round → Cut OwnEntry own (one ∷ []) before after e → round_after links before < round
one-more links round own before after one e early now (In rest is) = early before rest e is
one-more links round own before after one e early now (Past [] is all) = subst (λ b. round_after links b < round) (sym (all ∙ append-nil own)) now
one-more links round own before after one e early now (Past (f ∷ front) is all) = absurd (no-middle front after e (tail-same one [] f (front ++ e ∷ after) is))

pub asked-one : (links round : ℕ) (own own' : List OwnEntry) (one : OwnEntry) → AreAskedBefore links round own → round_after links own < round → own' ≡ own ++ one ∷ [] → AreAskedBefore links round own'
asked-one links round own own' one early now are before after e is = one-more links round own before after one e early now (cut-at own (one ∷ []) before after e (sym are ∙ is))
