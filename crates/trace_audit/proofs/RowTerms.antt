-- What a row's terms tell: its channel was accepted, and has that hop over its link.
use Rattle.std.proofs.Common.{◌≡◌, ℕ, zero, suc, List, [], ◌∷◌, Option, Some, None, refl, sym, ap, ◌∙◌, inl, inr, ◌-◌, arith}
use Rattle.std.specs.Prelude.{nat_eq}
use Rattle.std.proofs.lemmas.Bool.{cases_Bool, eqb-true, eqb-false}
use Rattle.std.proofs.lemmas.Option.{same_Some}
use Rattle.std.specs.List.{slice_get}
use Rattle.net_units.specs.Allotted.{levels_of}
use Rattle.net_units.specs.Numbers.{link_number, channel_number}
use Rattle.net_units.specs.declared.levels.Levels.{Levels}
use Rattle.hop_reservation.specs.declared.route.Hop.{Hop}
use Rattle.call_script.specs.Parts.{PlanParts}
use Rattle.call_script.specs.declared.entries.RequestEntry.{RequestEntry}
use Rattle.run_record.specs.declared.rows.HopRow.{HopRow}
use Rattle.trace_audit.specs.declared.terms.Terms.{Terms}
use Rattle.trace_audit.specs.Terms.{hop_terms, terms_of_hop, terms_of_request, levels_given, terms_at, over_link, terms_of_row}

-- the request of a channel, and the levels with which it was accepted
pub record IsGiven (plan : PlanParts) (levels : List (Option Levels)) (c : ℕ) : Type 0 where
  pub entry : RequestEntry
  pub given : Levels
  pub requested : slice_get plan.requests c ≡ Some entry
  pub accepted : slice_get levels c ≡ Some (Some given)

-- a hop of its route
pub record IsHopAt (plan : PlanParts) (levels : List (Option Levels)) (c i : ℕ) (terms : Terms) : Type 0 where
  pub channel : IsGiven plan levels c
  pub hop : Hop
  pub stands : slice_get channel.entry.request.route i ≡ Some hop
  pub is : terms ≡ hop_terms plan channel.entry.request (levels_of channel.given) i hop

pub given-at : (levels : List (Option Levels)) (c : ℕ) (given : Levels) → levels_given levels c ≡ Some given → slice_get levels c ≡ Some (Some given)
given-at [] c given is = absurd (let clash : None ≡ Some given = is in cc)
given-at (first ∷ levels) zero given is = ap (λ o. Some o) is
given-at (first ∷ levels) (suc c) given is = given-at levels c given is

pub hop-told : (plan : PlanParts) (levels : List (Option Levels)) (c i : ℕ) (terms : Terms) → terms_at plan levels c i ≡ Some terms → IsHopAt plan levels c i terms
unfolding terms_at
hop-told plan levels c i terms is = by-entry (slice_get plan.requests c) (levels_given levels c) refl refl is where
  by-hop : (entry : RequestEntry) (given : Levels) (found : Option Hop) → slice_get plan.requests c ≡ Some entry → slice_get levels c ≡ Some (Some given) → slice_get entry.request.route i ≡ found → terms_of_hop plan entry.request (levels_of given) i found ≡ Some terms → IsHopAt plan levels c i terms
  by-hop entry given None requested accepted found is = absurd (let clash : None ≡ Some terms = is in cc)
  by-hop entry given (Some hop) requested accepted found is = record {
    channel = record { entry = entry; given = given; requested = requested; accepted = accepted };
    hop = hop;
    stands = found;
    is = sym (same_Some (hop_terms plan entry.request (levels_of given) i hop) terms is);
  }

  by-entry : (entry : Option RequestEntry) (given : Option Levels) → slice_get plan.requests c ≡ entry → levels_given levels c ≡ given → terms_of_request plan entry given i ≡ Some terms → IsHopAt plan levels c i terms
  by-entry None given requested accepted is = absurd (let clash : None ≡ Some terms = is in cc)
  by-entry (Some entry) None requested accepted is = absurd (let clash : None ≡ Some terms = is in cc)
  by-entry (Some entry) (Some given) requested accepted is = by-hop entry given (slice_get entry.request.route i) requested (given-at levels c given accepted) refl is

-- of a row
pub record IsKnown (plan : PlanParts) (levels : List (Option Levels)) (row : HopRow) (terms : Terms) : Type 0 where
  pub index : ℕ
  pub place : row.hop ≡ suc index
  pub at : terms_at plan levels (channel_number row.chan) index ≡ Some terms
  pub link : link_number terms.link ≡ link_number row.link

pub row-known : (plan : PlanParts) (levels : List (Option Levels)) (row : HopRow) (terms : Terms) → terms_of_row plan levels row ≡ Some terms → IsKnown plan levels row terms
unfolding terms_of_row
row-known plan levels row terms is =
    elim (cases_Bool (nat_eq row.hop 0)) [
      | inl none ↦ absurd (let clash : None ≡ Some terms = rw none at is in cc)
      | inr some ↦ by-link (terms_at plan levels (channel_number row.chan) (row.hop - 1)) (eqb-false row.hop 0 some) refl (rw some at is)
    ] where
      by-link : (found : Option Terms) → (row.hop ≡ 0 → ⊥) → terms_at plan levels (channel_number row.chan) (row.hop - 1) ≡ found → over_link (link_number row.link) found ≡ Some terms → IsKnown plan levels row terms
      by-link None some at is = absurd (let clash : None ≡ Some terms = is in cc)
      by-link (Some found) some at is =
          elim (cases_Bool (nat_eq (link_number found.link) (link_number row.link))) [
            | inl on ↦
                (let same : found ≡ terms = same_Some found terms (rw on at is) in
                record { index = row.hop - 1; place = omega (arith, some); at = at ∙ ap (λ t. Some t) same; link = sym (ap (λ (t : Terms). link_number t.link) same) ∙ eqb-true (link_number found.link) (link_number row.link) on })
            | inr off ↦ absurd (let clash : None ≡ Some terms = rw off at is in cc)
          ]
