-- Each delay that the report counts comes from two rows of one packet, that of its first hop and that of its last; and the least and the
-- greatest of some delays are among them.
use Rattle.std.proofs.Common.{◌≡◌, ℕ, ◌+◌, ◌-◌, List, [], ◌∷◌, length, Option, Some, None, refl, sym, ap, ◌∙◌, subst, inl, inr, arith}
use Rattle.run_engine.proofs.Words.{cases_Bool, cases_lt, eqb-true, same_Some, nat_eq, channel_number, Each, Among, Request}
use Rattle.std.specs.Prelude.{min, max}
use Rattle.link_steps.proofs.SearchAndFilter.{Each-append, Each-if}
use Rattle.run_record.specs.declared.rows.HopRow.{HopRow}
use Rattle.channel_report.specs.Delays.{last_prop, least_with, least_of, worst_with, worst_of}
use Rattle.report_laws.specs.RowDelays.{first_in, delay_by, row_delays_of}

-- the rows of a packet at its first hop and at its last, and its delay
pub record DelayOf (request : Request) (rows : List HopRow) (delay : ℕ) : Type 0 where
  pub row : HopRow
  pub among : Among row rows
  pub chan : channel_number row.chan ≡ channel_number request.chan
  pub last : row.hop ≡ length request.route
  pub first : HopRow
  pub first_among : Among first rows
  pub first_chan : channel_number row.chan ≡ channel_number first.chan
  pub first_number : row.number ≡ first.number
  pub first_hop : first.hop ≡ 1
  pub is : delay ≡ row.departed + last_prop request.route - first.at

-- the nearest row of a first hop
pub first-is : (rows : List HopRow) (first : HopRow) → first_in rows ≡ Some first → Among first rows × (first.hop ≡ 1)
unfolding first_in
first-is [] first is = cc
first-is (row ∷ before) first is =
    elim (cases_Bool (nat_eq row.hop 1)) [
      | inl one ↦ (let same : row ≡ first = same_Some row first (rw one at is) in (inl (sym same), ap (λ r. r.hop) (sym same) ∙ eqb-true row.hop 1 one))
      | inr other ↦ (let rest = first-is before first (rw other at is) in (inr rest.0, rest.1))
    ]

delay-by : (request : Request) (row : HopRow) (before : List HopRow) (found : Option HopRow) → first_in (row ∷ before) ≡ found → Each (DelayOf request (row ∷ before)) (delay_by request found row)
delay-by request row before None is =
    elim (cases_Bool (nat_eq (channel_number row.chan) (channel_number request.chan))) [
      | inl own ↦ elim (cases_Bool (nat_eq row.hop (length request.route))) [ inl last ↦ rw (own, last) tt | inr short ↦ rw (own, short) tt ]
      | inr other ↦ rw other tt
    ]
delay-by request row before (Some first) is =
    elim (cases_Bool (nat_eq (channel_number row.chan) (channel_number request.chan))) [
      | inl own ↦ elim (cases_Bool (nat_eq row.hop (length request.route))) [
        | inl last ↦ elim (cases_Bool (nat_eq (channel_number row.chan) (channel_number first.chan))) [
          | inl chan ↦ elim (cases_Bool (nat_eq row.number first.number)) [
            | inl number ↦
                (let near = first-is (row ∷ before) first is in
                rw (own, last, chan, number) (
                  record {
                    row = row;
                    among = inl refl;
                    chan = eqb-true (channel_number row.chan) (channel_number request.chan) own;
                    last = eqb-true row.hop (length request.route) last;
                    first = first;
                    first_among = near.0;
                    first_chan = eqb-true (channel_number row.chan) (channel_number first.chan) chan;
                    first_number = eqb-true row.number first.number number;
                    first_hop = near.1;
                    is = refl;
                  },
                  tt,
                ))
            | inr apart ↦ rw (own, last, chan, apart) tt
          ]
          | inr apart ↦ rw (own, last, apart) tt
        ]
        | inr short ↦ rw (own, short) tt
      ]
      | inr other ↦ rw other tt
    ]

unfoldable pub later : (request : Request) (row : HopRow) (before : List HopRow) (delay : ℕ) → DelayOf request before delay → DelayOf request (row ∷ before) delay
later request row before delay of = record {
  row = of.row;
  among = inr of.among;
  chan = of.chan;
  last = of.last;
  first = of.first;
  first_among = inr of.first_among;
  first_chan = of.first_chan;
  first_number = of.first_number;
  first_hop = of.first_hop;
  is = of.is;
}

pub delays-are : (request : Request) (rows : List HopRow) → Each (DelayOf request rows) (row_delays_of request rows)
unfolding row_delays_of
delays-are request [] = tt
delays-are request (row ∷ before) =
    Each-append (DelayOf request (row ∷ before)) (delay_by request (first_in (row ∷ before)) row) (row_delays_of request before) (delay-by request row before (first_in (row ∷ before)) refl)
    (Each-if (DelayOf request before) (DelayOf request (row ∷ before)) (row_delays_of request before) (λ delay of. later request row before delay of) (delays-are request before))

-- ---- the least and the greatest

least-step : (delay least : ℕ) (delays : List ℕ) (found : Option ℕ) → ((own : ℕ) → found ≡ Some own → Among own delays) → Some (least_with delay found) ≡ Some least → Among least (delay ∷ delays)
least-step delay least delays None among is = inl (sym (same_Some delay least is))
least-step delay least delays (Some own) among is =
    let same : min delay own ≡ least = same_Some (min delay own) least is in
    elim (cases_lt own delay) [
      | inl less ↦ (let e : own ≡ least = omega (arith, same, less) in inr (subst (λ x. Among x delays) e (among own refl)))
      | inr more ↦ (let e : least ≡ delay = omega (arith, same, more) in inl e)
    ]

pub least-among : (delays : List ℕ) (least : ℕ) → least_of delays ≡ Some least → Among least delays
unfolding least_of
least-among [] least is = cc
least-among (delay ∷ delays) least is = least-step delay least delays (least_of delays) (λ own some. least-among delays own some) is

worst-step : (delay worst : ℕ) (delays : List ℕ) (found : Option ℕ) → ((own : ℕ) → found ≡ Some own → Among own delays) → Some (worst_with delay found) ≡ Some worst → Among worst (delay ∷ delays)
worst-step delay worst delays None among is = inl (sym (same_Some delay worst is))
worst-step delay worst delays (Some own) among is =
    let same : max delay own ≡ worst = same_Some (max delay own) worst is in
    elim (cases_lt delay own) [
      | inl less ↦ (let e : own ≡ worst = omega (arith, same, less) in inr (subst (λ x. Among x delays) e (among own refl)))
      | inr more ↦ (let e : worst ≡ delay = omega (arith, same, more) in inl e)
    ]

pub worst-among : (delays : List ℕ) (worst : ℕ) → worst_of delays ≡ Some worst → Among worst delays
unfolding worst_of
worst-among [] worst is = cc
worst-among (delay ∷ delays) worst is = worst-step delay worst delays (worst_of delays) (λ own some. worst-among delays own some) is
