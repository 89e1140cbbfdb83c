-- The delays of one channel after one more row.
use Rattle.std.proofs.Common.{◌≡◌, ℕ, suc, ◌+◌, Option, List, [], ◌∷◌, length, refl, sym, ap, ◌∙◌, arith}
use Rattle.net_units.specs.Numbers.{channel_number}
use Rattle.std.proofs.lemmas.Bool.{ne_eqb}
use Rattle.run_record.specs.declared.rows.HopRow.{HopRow}
use Rattle.setup_protocol.specs.declared.request.Request.{Request}
use Rattle.channel_report.specs.Delays.{worst_of}
use Rattle.report_laws.specs.RowDelays.{delay_by, delay_from, first_in, row_delays_of}
use Rattle.report_laws.proofs.DelaysRowByRow.{by-earlier, by-last}
use Rattle.packet_answers.specs.ChannelDelays.{IsEndOf, delays_as, with_delay}
use Rattle.packet_answers.specs.declared.delays.Delays.{Delays}
use Rattle.packet_answers.specs.declared.delays.End.{End}

pub delay-more : (request : Request) (row : HopRow) (before : List HopRow) (first : Option HopRow) (delay : ℕ) (old new : Delays) → first ≡ first_in (row ∷ before) → delay_by request first row ≡ delay ∷ []
    → new ≡ with_delay delay old → old ≡ delays_as (row_delays_of request before) → new ≡ delays_as (row_delays_of request (row ∷ before))
unfolding row_delays_of worst_of
delay-more request row before first delay old new near is more was =
    let here : delay_by request (first_in (row ∷ before)) row ≡ delay ∷ [] = ap (λ f. delay_by request f row) (sym near) ∙ is in
    more ∙ ap (with_delay delay) was ∙ sym (rw (here) (let one : suc (length (row_delays_of request before)) ≡ length (row_delays_of request before) + 1 = omega arith in rw one refl))

pub delay-same : (request : Request) (row : HopRow) (before : List HopRow) (first : Option HopRow) (old : Delays) → first ≡ first_in (row ∷ before) → delay_by request first row ≡ []
    → old ≡ delays_as (row_delays_of request before) → old ≡ delays_as (row_delays_of request (row ∷ before))
unfolding row_delays_of
delay-same request row before first old near is was =
    let here : delay_by request (first_in (row ∷ before)) row ≡ [] = ap (λ f. delay_by request f row) (sym near) ∙ is in
    was ∙ sym (rw (here) refl)

-- a row of another channel
pub by-other : (request : Request) (end : End) (first : Option HopRow) (row : HopRow) → IsEndOf request end → (channel_number row.chan ≡ channel_number end.chan → ⊥) → delay_by request first row ≡ []
by-other request end first row ends other = rw (ne_eqb (channel_number row.chan) (channel_number request.chan) (λ same. other (same ∙ sym ends.own))) refl

-- of another hop
pub by-hop : (request : Request) (end : End) (first : Option HopRow) (row : HopRow) → IsEndOf request end → (row.hop ≡ end.hops → ⊥) → delay_by request first row ≡ []
by-hop request end first row ends other = by-earlier request first row (λ same. other (same ∙ sym ends.last))

-- of its own last hop
pub by-end : (request : Request) (end : End) (first : Option HopRow) (row : HopRow) (delays : List ℕ) → IsEndOf request end → channel_number row.chan ≡ channel_number end.chan → row.hop ≡ end.hops → delay_from end.prop row first ≡ delays → delay_by request first row ≡ delays
by-end request end first row delays ends own last is = by-last request first row end.prop delays (own ∙ ends.own) (last ∙ ends.last) (sym ends.props) is
