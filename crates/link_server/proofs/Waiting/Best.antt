-- How many best-effort packets wait: those in line, since the one on the link waits no more.
use Rattle.std.proofs.Common.{◌≡◌, ℕ, Bool, true, false, ◌&&◌, List, [], ◌∷◌, Option, Some, None, length, refl, sym, ap, ◌∙◌, inl, inr}
use Rattle.std.proofs.lemmas.Bool.{cases_Bool}
use Rattle.link_server.proofs.Words.{filter, is_best, is_other, waits_here, Arrival, Start}
use Rattle.link_server.specs.Arrived.{all_here, arrived, HaveOwnNumbers, AreNumberedUpTo}
use Rattle.link_server.proofs.Waiting.Arrived.{arrived-departed, count-arrived}

-- those that wait are the best-effort packets but for the one on the link
best-others : (bounds : List ℕ) (start : Start) (here : List Arrival) → filter (is_best bounds) (filter (is_other start) here) ≡ filter (waits_here bounds (Some start)) here
best-others bounds start [] = refl
best-others bounds start (p ∷ here) =
    let rest = best-others bounds start here in
    elim (cases_Bool (is_other start p)) [
      | inl other ↦ (
          elim (cases_Bool (is_best bounds p)) [
            | inl best ↦ rw (other, best) (ap (λ ps. p ∷ ps) rest)
            | inr channel ↦ rw (other, channel) rest
          ])
      | inr own ↦ rw own (rw (none-waits (is_best bounds p)) rest)
    ] where
      none-waits : (b : Bool) → (b && false) ≡ false
      none-waits true = refl
      none-waits false = refl

pub best-waiting : (bounds : List ℕ) (on : Option Start) (waiting : List Arrival) (taken : ℕ) → HaveOwnNumbers (all_here on waiting) → AreNumberedUpTo taken (all_here on waiting)
    → length (filter (waits_here bounds on) (arrived (all_here on waiting) taken)) ≡ length (filter (is_best bounds) waiting)
best-waiting bounds None waiting taken own numbered = count-arrived (is_best bounds) waiting taken numbered
best-waiting bounds (Some start) waiting taken own numbered =
    ap length (sym (best-others bounds start (arrived (start.packet ∷ waiting) taken)))
    ∙ ap (λ ps. length (filter (is_best bounds) ps)) (arrived-departed start waiting taken own)
    ∙ count-arrived (is_best bounds) waiting taken numbered.1
