-- No row ever has more packets left than one submit may plan, so a release cancels no more.
use Rattle.std.proofs.Common.{◌≡◌, ℕ, suc, ◌≤◌, Bool, true, false, List, [], ◌∷◌, ◌++◌, length, Option, Some, None, refl, sym, ap, ◌∙◌, subst, inl, inr, arith}
use Rattle.std.proofs.lemmas.Bool.{cases_lt, lt-leb, le-leb}
use Rattle.std.specs.Prelude.{find}
use Rattle.net_units.specs.Limits.{most_packets}
use Rattle.link_steps.specs.declared.asks.Ask.{Ask}
use Rattle.link_steps.specs.declared.asks.Ask.TheVariants.{Submit, Release}
use Rattle.link_steps.specs.declared.replies.Entry.{Entry}
use Rattle.link_steps.specs.declared.replies.Reply.{Reply}
use Rattle.link_steps.specs.declared.replies.Reply.TheVariants as Is
use Rattle.link_steps.specs.declared.shape.LinkShape.{LinkShape}
use Rattle.link_steps.specs.Admissible.{MayAnswer, IsAdmissible}
use Rattle.link_steps.specs.Legal.{AskFits}
use Rattle.link_steps.specs.Lists.{Each}
use Rattle.link_steps.specs.Replies.{submit_to, release_to, reply_at, release_reply}
use Rattle.link_steps.specs.Rows.{Row, SourcePacket, left_at, planned_from}
use Rattle.link_steps.specs.Scan.{Scan, clock_of, scan_of, is_row_at_hop, names_first_hop}
use Rattle.link_steps.specs.Reservation.{Reservation, is_phase}
use Rattle.link_steps.specs.declared.replies.Phase.TheVariants.{Committed}
use Rattle.net_units.specs.declared.numbers.ChanNo.{ChanNo}
use Rattle.std.proofs.lemmas.List.{nil_from_length}
use Rattle.link_steps.proofs.AccountOfRows.{left-planned, left-cancelled}
use Rattle.link_steps.proofs.SearchAndFilter.{Each-find}
use Rattle.link_steps.proofs.ReservationFound.{submit-tells}
use Rattle.link_steps.proofs.PlanRises.{planned-count}
use Rattle.channel_laws.specs.Unsent.{FewCancelled}
use Rattle.channel_laws.proofs.PlanLaw.{On, IsPlanLaw, SubmitKeeps, after-keeps}

left-shrinks : (t : ℕ) (plan : List SourcePacket) → length (left_at (suc t) plan) ≤ length (left_at t plan)
left-shrinks t [] = omega arith
left-shrinks t (p ∷ plan) =
    let rest = left-shrinks t plan in
    elim (cases_lt p.tick t) [
      | inl made ↦ rw (lt-leb t p.tick made, lt-leb (suc t) p.tick (omega (arith, made))) rest
      | inr left ↦ elim (cases_lt p.tick (suc t)) [
        | inl now ↦ rw (le-leb t p.tick left, lt-leb (suc t) p.tick now) (omega (arith, rest))
        | inr more ↦ rw (le-leb t p.tick left, le-leb (suc t) p.tick more) (omega (arith, rest))
      ]
    ]

abbrev FewLeft : ℕ → ℕ → Bool → List SourcePacket → Type 0
FewLeft t own b plan = length (left_at t plan) ≤ most_packets

few-law : IsPlanLaw FewLeft
few-law = record {
  later = λ t own b plan few. (let less = left-shrinks t plan in omega (arith, few, less));
  fresh = λ t own b. omega arith;
  made = λ t own b plan few. subst (λ xs. length xs ≤ most_packets) (sym (left-cancelled t plan)) (omega arith);
}

few-submits : (shape : LinkShape) (t : ℕ) (scan : Scan) (ask : Ask) (reply : Reply) → AskFits shape ask → MayAnswer shape t scan ask reply → SubmitKeeps FewLeft t scan ask reply
unfolding MayAnswer reply_at
few-submits shape t scan (Submit chan count gap size) (Is.Planned clock) fits same = λ row found few.
    (let told : Is.Planned clock ≡ submit_to t size (Some row) = same ∙ ap (submit_to t size) found in
    let none : length (left_at t row.plan) ≡ 0 = (submit-tells t size row.terms (length (left_at t row.plan)) clock told).1 in
    let empty : left_at t row.plan ≡ [] = nil_from_length (left_at t row.plan) none in
    let all : left_at t (row.plan ++ planned_from t gap size count) ≡ planned_from t gap size count = left-planned t count gap size row.plan ∙ ap (λ xs. xs ++ planned_from t gap size count) empty in
    subst (λ xs. length xs ≤ most_packets) (sym all) (subst (λ n. n ≤ most_packets) (sym (planned-count t gap size count)) fits.count_most))
few-submits shape t scan _ _ fits same = tt

pub few-left : (shape : LinkShape) (h : List Entry) → IsAdmissible shape h → Each (On FewLeft (clock_of h)) (scan_of shape h).rows
unfolding IsAdmissible scan_of clock_of
few-left shape [] legal = tt
few-left shape (e ∷ past) legal = after-keeps FewLeft few-law shape (clock_of past) (scan_of shape past) e.ask e.reply (few-submits shape (clock_of past) (scan_of shape past) e.ask e.reply legal.1.fits legal.1.answered) (few-left shape past legal.0)

-- ---- so a release cancels no more

closing-few : (t : ℕ) (upstream : Option ℕ) (terms : Reservation) (taken left : ℕ) → left ≤ most_packets → FewCancelled (release_reply upstream terms taken left)
unfolding release_reply
closing-few t upstream terms taken left few = by (is_phase terms.phase Committed) upstream refl where
  by : (b : Bool) (up : Option ℕ) → is_phase terms.phase Committed ≡ b → FewCancelled (release_reply up terms taken left)
  by true None is = rw is few
  by true (Some told) is = rw is (omega arith)
  by false up is = rw is tt

pub few-cancelled : (shape : LinkShape) (h : List Entry) (ask : Ask) (reply : Reply) (chan : ChanNo) (upstream : Option ℕ) → IsAdmissible shape h → ask ≡ Release chan upstream → MayAnswer shape (clock_of h) (scan_of shape h) ask reply → FewCancelled reply
unfolding MayAnswer reply_at
few-cancelled shape h (Release own up) reply chan upstream legal is same = subst FewCancelled (sym same) (by (find (is_row_at_hop own (names_first_hop up)) (scan_of shape h).rows) refl) where
  by : (found : Option Row) → find (is_row_at_hop own (names_first_hop up)) (scan_of shape h).rows ≡ found → FewCancelled (release_to (clock_of h) up found)
  by None none = tt
  by (Some row) some = closing-few (clock_of h) up row.terms (length row.ticks) (length (left_at (clock_of h) row.plan)) (Each-find (On FewLeft (clock_of h)) (is_row_at_hop own (names_first_hop up)) (scan_of shape h).rows row (few-left shape h legal) some)
few-cancelled shape h _ reply chan upstream legal is same = cc
