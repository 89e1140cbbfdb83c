-- A row's step in a tick, by the packet that is planned for it and by whether a slot is free.
use Rattle.std.proofs.Common.{◌≡◌, ℕ, suc, ◌+◌, ◌-◌, ◌≤◌, Bool, true, false, List, [], ◌∷◌, ◌++◌, length, Option, Some, None, refl, sym, ap, ◌∙◌, arith}
use Rattle.std.proofs.lemmas.Option.{none-some}
use Rattle.std.specs.Prelude.{find, unwrap_or}
use Rattle.link_server.proofs.Words.{nat_lt, slots_of, SourcePacket, is_for, Arrival, SourceStep, Rests, Brings, Drops, source_step, arrival_at, taken_by, dropped_by, reservation_in, row_in, ServedRow, HeldPacket}
use Rattle.link_steps.specs.Account.{AccountRow, account_step, account_tick, account_with, account_packet, account_after_step, past_tick}
use Rattle.link_server.specs.Departed.{IsCounted}
use Rattle.link_server.specs.Planned.{left_in, size_of}
use Rattle.link_server.specs.Sources.{own_step, step_in}
use Rattle.link_server.specs.Packets.{arrival_in}

pub rests-where-none : (slot : Bool) (planned : Option SourcePacket) → None ≡ size_of planned → source_step slot planned ≡ Rests
rests-where-none true None none = refl
rests-where-none false None none = refl
rests-where-none slot (Some p) none = absurd (none-some p.size none)

loses-where-full : (planned : Option SourcePacket) (size : ℕ) → Some size ≡ size_of planned → source_step false planned ≡ Drops
loses-where-full None size some = absurd (none-some size (sym some))
loses-where-full (Some p) size some = refl

brings-where-free : (planned : Option SourcePacket) (size : ℕ) → Some size ≡ size_of planned → source_step true planned ≡ Brings size
brings-where-free None size some = absurd (none-some size (sym some))
brings-where-free (Some p) size some = ap (λ found. Brings (unwrap_or found 0)) (sym some)

-- with no packet planned for the tick the source rests
pub step-rests : (bounds : List ℕ) (t : ℕ) (row : ServedRow) → None ≡ size_of (find (is_for t) (left_in row.planned)) → own_step bounds t row ≡ Rests
step-rests bounds t row none = rests-where-none (nat_lt (row.taken - row.departed) (slots_of bounds (reservation_in row))) (find (is_for t) (left_in row.planned)) none

-- whether a slot is free doesn't change as the packet is no longer left; with each slot taken it is lost, and else brought
step-by-slot : (bounds : List ℕ) (t : ℕ) (free : Bool) (row next : ServedRow) → next.departed ≡ row.departed → row_in next ≡ past_tick t (row_in row) → free ≡ nat_lt (next.taken - next.departed) (slots_of bounds (reservation_in next))
    → own_step bounds t row ≡ source_step free (find (is_for t) (left_in row.planned))
step-by-slot bounds t free row next departed same slot =
    ap (λ b. source_step b (find (is_for t) (left_in row.planned)))
    (sym (slot ∙ ap (λ (r : AccountRow). nat_lt (r.taken - next.departed) (slots_of bounds r.terms)) same ∙ ap (λ n. nat_lt (row.taken - n) (slots_of bounds (reservation_in row))) departed))

pub step-loses : (bounds : List ℕ) (t size : ℕ) (free : Bool) (row next : ServedRow) → Some size ≡ size_of (find (is_for t) (left_in row.planned)) → next.departed ≡ row.departed → row_in next ≡ past_tick t (row_in row) → free ≡ nat_lt (next.taken - next.departed) (slots_of bounds (reservation_in next)) → free ≡ false
    → own_step bounds t row ≡ Drops
step-loses bounds t size free row next some departed same slot full =
    step-by-slot bounds t free row next departed same slot ∙ ap (λ b. source_step b (find (is_for t) (left_in row.planned))) full ∙ loses-where-full (find (is_for t) (left_in row.planned)) size some

pub step-brings : (bounds : List ℕ) (t size : ℕ) (free : Bool) (row next : ServedRow) → Some size ≡ size_of (find (is_for t) (left_in row.planned)) → next.departed ≡ row.departed → row_in next ≡ past_tick t (row_in row) → free ≡ nat_lt (next.taken - next.departed) (slots_of bounds (reservation_in next)) → free ≡ true
    → own_step bounds t row ≡ Brings size
step-brings bounds t size free row next some departed same slot is =
    step-by-slot bounds t free row next departed same slot ∙ ap (λ b. source_step b (find (is_for t) (left_in row.planned))) is ∙ brings-where-free (find (is_for t) (left_in row.planned)) size some

-- it is the account's, where the row's packets are counted
pub step-counted : (bounds : List ℕ) (here : List Arrival) (t : ℕ) (row : ServedRow) → IsCounted here (row_in row) row.departed → own_step bounds t row ≡ step_in bounds here t row
unfolding account_step
step-counted bounds here t row counted =
    let all = counted.taken in
    ap (λ n. source_step (nat_lt n (slots_of bounds (reservation_in row))) (find (is_for t) (left_in row.planned))) (omega (arith, all))

-- a step takes as many packets as it brings, and loses one at most
pub packet-length : (step : SourceStep) (t place : ℕ) (row : AccountRow) → length (account_packet step t place row) ≡ taken_by step
packet-length (Brings size) t place row = refl
packet-length Rests t place row = refl
packet-length Drops t place row = refl

pub lost_by-most : (step : SourceStep) → dropped_by step ≤ 1
lost_by-most (Brings size) = omega arith
lost_by-most Rests = omega arith
lost_by-most Drops = omega arith

-- the packet that a row takes whose packet for the tick is no longer left, after those here
pub brought-here : (t size taken place : ℕ) (here : List Arrival) (packet : HeldPacket) (new old : ServedRow) → place ≡ taken + 1 → row_in new ≡ past_tick t (row_in old)
    → arrival_in packet ≡ arrival_at (reservation_in new) new.lead place (suc new.taken) size t (account_tick (row_in new) t)
    → here ++ arrival_in packet ∷ [] ≡ here ++ account_packet (Brings size) t (suc taken) (row_in old)
brought-here t size taken place here packet new old number same taking =
    let next : place ≡ suc taken = omega (arith, number) in
    ap (λ p. here ++ p ∷ []) (taking
    ∙ ap (λ row. arrival_at row.terms row.lead place (suc row.taken) size t (account_tick row t)) same
    ∙ ap (λ n. arrival_at (reservation_in old) old.lead n (suc old.taken) size t (account_tick (row_in old) t)) next)

-- and the row afterwards
pub brought-row : (t size taken place : ℕ) (last new old : ServedRow) → place ≡ taken + 1 → row_in new ≡ past_tick t (row_in old)
    → row_in last ≡ account_with place (account_tick (row_in new) t) (row_in new)
    → row_in last ≡ account_after_step (Brings size) t (suc taken) (row_in old)
brought-row t size taken place last new old number same taking =
    let next : place ≡ suc taken = omega (arith, number) in
    taking
    ∙ ap (λ row. account_with place (account_tick row t) row) same
    ∙ ap (λ n. account_with n (account_tick (row_in old) t) (past_tick t (row_in old))) next
