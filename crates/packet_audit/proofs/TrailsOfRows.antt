-- What is kept of a channel's rows is what they say: with no row, and with one row more.
use Rattle.std.proofs.Common.{◌≡◌, ℕ, Bool, true, false, Some, None, List, [], ◌∷◌, ◌++◌, map, reverse, refl, sym, ap, ◌∙◌}
use Rattle.std.proofs.lemmas.List.{reverse-append}
use Rattle.std.specs.Prelude.{◌&&◌}
use Rattle.traffic_contract.specs.Contract.{Traffic}
use Rattle.traffic_contract.specs.Keeping.{keeps_newest_first, may_follow}
use Rattle.packet_audit.specs.Promises.{sent_of, delay_of, is_kept, spread_of, widened}
use Rattle.packet_audit.specs.Trails.{TrailStands}
use Rattle.packet_audit.specs.declared.rows.Promise.{Promise}
use Rattle.packet_audit.specs.declared.rows.Row.{Row}
use Rattle.packet_audit.specs.declared.trail.Trail.{Trail}

-- ---- no row

pub none-stand : (promise : Promise) (trail : Trail) → trail.sent.items ≡ [] → trail.keeps ≡ true → trail.spread ≡ None → TrailStands promise trail []
unfolding keeps_newest_first spread_of
none-stand promise trail none keeps spread = record { sent = ap reverse none; keeps = keeps; spread = spread }

-- ---- one row more

pub sent-more : (ticks after : List ℕ) (row : Row) (own : List Row) → after ≡ ticks ++ row.sent ∷ [] → reverse ticks ≡ map sent_of own → reverse after ≡ map sent_of (row ∷ own)
sent-more ticks after row own more is = ap reverse more ∙ reverse-append ticks (row.sent ∷ []) ∙ ap (λ ts. row.sent ∷ ts) is

kept-more : (contract : Traffic) (past : List ℕ) (sent : ℕ) (keeps : Bool) (row : Row) (own : List Row) → past ≡ map sent_of own → keeps ≡ is_kept contract own → row.sent ≡ sent
    → may_follow contract past sent && keeps ≡ is_kept contract (row ∷ own)
unfolding keeps_newest_first
kept-more contract past sent keeps row own is kept same =
    ap (λ ts. may_follow contract ts sent && keeps) is ∙ ap (λ t. may_follow contract (map sent_of own) t && keeps) (sym same) ∙ ap (λ k. may_follow contract (map sent_of own) row.sent && k) kept

pub kept-then : (contract : Traffic) (past : List ℕ) (sent : ℕ) (keeps : Bool) (row : Row) (own : List Row) → past ≡ map sent_of own → keeps ≡ is_kept contract own → row.sent ≡ sent → may_follow contract past sent ≡ true
    → keeps ≡ is_kept contract (row ∷ own)
kept-then contract past sent keeps row own is kept same holds = sym (ap (λ h. h && keeps) holds) ∙ kept-more contract past sent keeps row own is kept same

pub kept-else : (contract : Traffic) (past : List ℕ) (sent : ℕ) (keeps : Bool) (row : Row) (own : List Row) → past ≡ map sent_of own → keeps ≡ is_kept contract own → row.sent ≡ sent → may_follow contract past sent ≡ false
    → false ≡ is_kept contract (row ∷ own)
kept-else contract past sent keeps row own is kept same fails = sym (ap (λ h. h && keeps) fails) ∙ kept-more contract past sent keeps row own is kept same

pub spread-more : (row : Row) (own : List Row) → Some (widened (delay_of row) (spread_of own)) ≡ spread_of (row ∷ own)
unfolding spread_of
spread-more row own = refl
