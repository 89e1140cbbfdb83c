-- The delay of one row, and the rows so far.
use Rattle.std.proofs.Common.{◌≡◌, ℕ, ◌+◌, ◌<◌, Option, List, [], ◌∷◌, ◌++◌, length, get_or, take, reverse, refl, sym, ap, ◌∙◌, inl, inr}
use Rattle.run_engine.proofs.Words.{nat_eq, cases_Bool, eq-eqb, ne_eqb, take_more, reverse-append, channel_number, Request}
use Rattle.run_record.specs.declared.rows.HopRow.{HopRow}
use Rattle.channel_report.specs.Delays.{last_prop}
use Rattle.report_laws.specs.RowDelays.{delay_by, delay_from, first_in, nearer}

-- the delay of a row of the channel at its last hop
pub by-last : (request : Request) (first : Option HopRow) (row : HopRow) (prop : ℕ) (delays : List ℕ) → channel_number row.chan ≡ channel_number request.chan → row.hop ≡ length request.route → last_prop request.route ≡ prop → delay_from prop row first ≡ delays → delay_by request first row ≡ delays
by-last request first row prop delays own last props is = rw (eq-eqb (channel_number row.chan) (channel_number request.chan) own, eq-eqb row.hop (length request.route) last, props) is

-- one at another hop
pub by-earlier : (request : Request) (first : Option HopRow) (row : HopRow) → (row.hop ≡ length request.route → ⊥) → delay_by request first row ≡ []
by-earlier request first row earlier = elim (cases_Bool (nat_eq (channel_number row.chan) (channel_number request.chan))) [ inl own ↦ rw (own, ne_eqb row.hop (length request.route) earlier) refl | inr other ↦ rw other refl ]

-- ---- rows so far

pub front-more : (rows : List HopRow) (i : ℕ) (row : HopRow) → i < length rows → row ≡ get_or rows i row → reverse (take (i + 1) rows) ≡ row ∷ reverse (take i rows)
front-more rows i row inside is =
    ap reverse (take_more rows i row inside ∙ ap (λ r. take i rows ++ r ∷ []) (sym is)) ∙ reverse-append (take i rows) (row ∷ [])

pub first-more : (row : HopRow) (before : List HopRow) → nearer row (first_in before) ≡ first_in (row ∷ before)
unfolding first_in
first-more row before = refl
