-- In a table whose rows all pass, the nearest row of a first hop, at a row or above it, is of the row's packet. So each row of a last hop
-- tells the delay of its packet.
use Rattle.std.proofs.Common.{◌≡◌, ℕ, ◌-◌, ◌+◌, List, [], ◌∷◌, ◌++◌, length, Option, Some, true, false, refl, sym, ap, ◌∙◌, subst, inl, inr, suc}
use Rattle.run_engine.proofs.Words.{cases_Bool, and_parts, eqb-true, eqb-false, eq-eqb, nat_eq, filter, channel_number, Among, Request, PlanParts}
use Rattle.net_units.specs.declared.levels.Levels.{Levels}
use Rattle.run_record.specs.declared.rows.HopRow.{HopRow}
use Rattle.trace_audit.specs.Checks.{AllPass}
use Rattle.trace_audit.proofs.TableInOrder.{Follows, GoesOn, IsNext, IsLater, follows-told, order-parts}
use Rattle.trace_audit.proofs.PassingRow.{passes-told}
use Rattle.channel_report.specs.Delays.{last_prop}
use Rattle.report_laws.proofs.ToldDelays.{DelayOf, first-is, later}
use Rattle.report_laws.specs.RowDelays.{first_in, is_last, delay_by, row_delays_of}

-- the nearest row of a first hop is of one packet with this row
pub record HasFirst (rows : List HopRow) (row : HopRow) : Type 0 where
  pub first : HopRow
  pub found : first_in rows ≡ Some first
  pub chan : channel_number row.chan ≡ channel_number first.chan
  pub number : row.number ≡ first.number

pub has-first : (plan : PlanParts) (levels : List (Option Levels)) (row : HopRow) (above : List HopRow) → AllPass plan levels (row ∷ above) → HasFirst (row ∷ above) row
unfolding first_in AllPass
has-first plan levels row [] pass =
    elim (cases_Bool (nat_eq row.hop 1)) [
      | inl one ↦ record { first = row; found = rw one refl; chan = refl; number = refl }
      | inr other ↦ absurd (let begun = (order-parts [] row (passes-told plan levels [] row pass.1).order).0 in let one = eqb-true row.hop 1 (and_parts (nat_eq row.hop 1) (nat_eq row.number 1) begun).0 in eqb-false row.hop 1 other one)
    ]
has-first plan levels row (last ∷ above) pass =
    elim (cases_Bool (nat_eq row.hop 1)) [
      | inl one ↦ record { first = row; found = rw one refl; chan = refl; number = refl }
      | inr other ↦ by-row other (has-first plan levels last above pass.0) (follows-told last row (order-parts (last ∷ above) row (passes-told plan levels (last ∷ above) row pass.1).order).0)
    ] where
      by-row : nat_eq row.hop 1 ≡ false → HasFirst (last ∷ above) last → Follows last row → HasFirst (row ∷ last ∷ above) row
      by-row other near (GoesOn chan number hop) = record { first = near.first; found = rw other near.found; chan = chan ∙ near.chan; number = number ∙ near.number }
      by-row other near (IsNext chan number hop) = absurd (eqb-false row.hop 1 other hop)
      by-row other near (IsLater chan number hop) = absurd (eqb-false row.hop 1 other hop)

-- ---- the delay of a row of the last hop

pub one-delay : (request : Request) (row : HopRow) (above : List HopRow) → (near : HasFirst (row ∷ above) row) → is_last request row ≡ true → delay_by request (first_in (row ∷ above)) row ≡ (row.departed + last_prop request.route - near.first.at) ∷ []
one-delay request row above near last =
    let parts = and_parts (nat_eq (channel_number row.chan) (channel_number request.chan)) (nat_eq row.hop (length request.route)) last in
    let chan = eq-eqb (channel_number row.chan) (channel_number near.first.chan) near.chan in
    let number = eq-eqb row.number near.first.number near.number in
    ap (λ found. delay_by request found row) near.found ∙ rw (parts.0, parts.1, chan, number) refl

pub none-delay : (request : Request) (row : HopRow) (found : Option HopRow) → is_last request row ≡ false → delay_by request found row ≡ []
none-delay request row found other = rw other refl

pub delays-count : (plan : PlanParts) (levels : List (Option Levels)) (request : Request) (rows : List HopRow) → AllPass plan levels rows → length (row_delays_of request rows) ≡ length (filter (is_last request) rows)
unfolding row_delays_of AllPass
delays-count plan levels request [] pass = refl
delays-count plan levels request (row ∷ above) pass =
    let rest = delays-count plan levels request above pass.0 in
    elim (cases_Bool (is_last request row)) [
      | inl last ↦ (let kept : length (filter (is_last request) (row ∷ above)) ≡ suc (length (filter (is_last request) above)) = rw last refl in
          ap (λ ds. length (ds ++ row_delays_of request above)) (one-delay request row above (has-first plan levels row above pass) last) ∙ ap suc rest ∙ sym kept)
      | inr other ↦ (let kept : length (filter (is_last request) (row ∷ above)) ≡ length (filter (is_last request) above) = rw other refl in
          ap (λ ds. length (ds ++ row_delays_of request above)) (none-delay request row (first_in (row ∷ above)) other) ∙ rest ∙ sym kept)
    ]

-- the delay that a row of the last hop tells
pub record TellsDelay (request : Request) (rows : List HopRow) (row : HopRow) : Type 0 where
  pub delay : ℕ
  pub among : Among delay (row_delays_of request rows)
  pub of : DelayOf request rows delay
  pub row_is : of.row ≡ row

among-later : (delay : ℕ) (xs ys : List ℕ) → Among delay ys → Among delay (xs ++ ys)
among-later delay [] ys among = among
among-later delay (x ∷ xs) ys among = inr (among-later delay xs ys among)

pub tells-delay : (plan : PlanParts) (levels : List (Option Levels)) (request : Request) (rows : List HopRow) (row : HopRow) → AllPass plan levels rows → Among row rows → is_last request row ≡ true → TellsDelay request rows row
unfolding row_delays_of AllPass later
tells-delay plan levels request [] row pass among last = absurd among
tells-delay plan levels request (top ∷ above) row pass (inl same) last =
    subst (TellsDelay request (top ∷ above)) (sym same) (here (subst (λ r. is_last request r ≡ true) same last)) where
      here : is_last request top ≡ true → TellsDelay request (top ∷ above) top
      here is =
          let near = has-first plan levels top above pass in
          let first = first-is (top ∷ above) near.first near.found in
          let parts = and_parts (nat_eq (channel_number top.chan) (channel_number request.chan)) (nat_eq top.hop (length request.route)) is in
          record {
            delay = top.departed + last_prop request.route - near.first.at;
            among = subst (λ ds. Among (top.departed + last_prop request.route - near.first.at) (ds ++ row_delays_of request above)) (sym (one-delay request top above near is)) (inl refl);
            of = record {
              row = top;
              among = inl refl;
              chan = eqb-true (channel_number top.chan) (channel_number request.chan) parts.0;
              last = eqb-true top.hop (length request.route) parts.1;
              first = near.first;
              first_among = first.0;
              first_chan = near.chan;
              first_number = near.number;
              first_hop = first.1;
              is = refl;
            };
            row_is = refl;
          }
tells-delay plan levels request (top ∷ above) row pass (inr there) last =
    let rest = tells-delay plan levels request above row pass.0 there last in
    record {
      delay = rest.delay;
      among = among-later rest.delay (delay_by request (first_in (top ∷ above)) top) (row_delays_of request above) rest.among;
      of = later request top above rest.delay rest.of;
      row_is = rest.row_is;
    }
