-- The rows of a table are counted, with what is here of their packets, through the changes of the table and of the queue.
use Rattle.std.proofs.Common.{◌≡◌, ℕ, zero, suc, ◌-◌, ◌<◌, Bool, true, false, ◌&&◌, Some, List, [], ◌∷◌, ◌++◌, length, map, get_or, set, refl, sym, ap, ◌∙◌, subst, arith}
use Rattle.link_server.proofs.Words.{nat_eq, nat_lt, if◌then◌else◌, remove, ChanNo, is_account_of, held_packets, Arrival, QueueAccount, AccountRow, TableAccount, LinkState, ServedRow, row_in, is_served_row_of, IsAbsent}
use Rattle.link_steps.specs.Lists.{change_first}
use Rattle.std.proofs.lemmas.Bool.{cond_both}
use Rattle.link_server.specs.Departed.{AreCounted, IsCounted, departed_after, departed_in}
use Rattle.link_server.specs.declared.queue.held_packet.Gone.{Gone}

module _ (here : List Arrival) where
  -- one row is changed
  pub rows-changed : (test : AccountRow → Bool) (change : AccountRow → AccountRow) → ((row : AccountRow) (n : ℕ) → IsCounted here row n → IsCounted here (change row) n) → (rows : List AccountRow) (ns : List ℕ) → AreCounted here rows ns → AreCounted here (change_first test change rows) ns
  unfolding change_first
  rows-changed test change keeps [] ns each = each
  rows-changed test change keeps (row ∷ rows) (n ∷ ns) each =
      cond_both (test row) (change row ∷ rows) (row ∷ change_first test change rows) (λ all. AreCounted here all (n ∷ ns)) (λ _. (keeps row n each.0, each.1)) (λ _. (each.0, rows-changed test change keeps rows ns each.1))
  rows-changed test change keeps (row ∷ rows) [] each = absurd each

  -- taken out
  pub counted-removed : (rows : List AccountRow) (ns : List ℕ) (i : ℕ) → AreCounted here rows ns → AreCounted here (remove rows i) (remove ns i)
  counted-removed [] [] zero each = tt
  counted-removed [] [] (suc i) each = tt
  counted-removed (row ∷ rows) (n ∷ ns) zero each = each.1
  counted-removed (row ∷ rows) (n ∷ ns) (suc i) each = (each.0, counted-removed rows ns i each.1)
  counted-removed [] (n ∷ ns) i each = absurd each
  counted-removed (row ∷ rows) [] i each = absurd each

  -- and added
  pub counted-added : (rows : List AccountRow) (ns : List ℕ) (row : AccountRow) (n : ℕ) → AreCounted here rows ns → IsCounted here row n → AreCounted here (rows ++ row ∷ []) (ns ++ n ∷ [])
  counted-added [] [] row n each new = (new, tt)
  counted-added (r ∷ rows) (m ∷ ns) row n each new = (each.0, counted-added rows ns row n each.1 new)
  counted-added [] (m ∷ ns) row n each new = absurd each
  counted-added (r ∷ rows) [] row n each new = absurd each

  -- so is the row that stands at a place
  pub counted-at : (rows : List ServedRow) (i : ℕ) (d : ServedRow) → i < length rows → AreCounted here (map row_in rows) (map departed_in rows) → IsCounted here (row_in (get_or rows i d)) (get_or rows i d).departed
  counted-at [] i d inside each = absurd (omega arith)
  counted-at (row ∷ rows) zero d inside each = each.0
  counted-at (row ∷ rows) (suc i) d inside each = counted-at rows i d (omega (arith, inside)) each.1

-- ---- a packet departs

-- of no row
pub none-departs : (gone : Gone) (rows : List ServedRow) → IsAbsent gone.chan rows → map departed_in rows ≡ departed_after (Some gone) (map row_in rows) (map departed_in rows)
none-departs gone [] absent = refl
none-departs gone (row ∷ rows) absent =
    let rest = none-departs gone rows (λ k d inside. absent (suc k) d (omega (arith, inside))) in
    rw (absent 0 row (omega arith)) (ap (λ all. row.departed ∷ all) rest)

-- of the row at a place, the only one of its channel, if it has its lead and one here
pub one-departs : (gone : Gone) (rows : List ServedRow) (i : ℕ) (new d : ServedRow) → i < length rows → is_served_row_of gone.chan (get_or rows i d) ≡ true
    → ((k : ℕ) (d : ServedRow) → k < length rows → (k ≡ i → ⊥) → is_served_row_of gone.chan (get_or rows k d) ≡ false)
    → new.departed ≡ (if nat_eq (get_or rows i d).lead gone.lead && nat_lt (get_or rows i d).departed (get_or rows i d).taken then suc (get_or rows i d).departed else (get_or rows i d).departed)
    → map departed_in (set rows i new) ≡ departed_after (Some gone) (map row_in rows) (map departed_in rows)
one-departs gone [] i new d inside own others counts = absurd (omega arith)
one-departs gone (row ∷ rows) zero new d inside own others counts =
    let rest = none-departs gone rows (λ k e within. others (suc k) e (omega (arith, within)) (λ same. absurd (omega (arith, same)))) in
    rw own (ap (λ n. n ∷ map departed_in rows) counts ∙ ap (λ all. (if nat_eq row.lead gone.lead && nat_lt row.departed row.taken then suc row.departed else row.departed) ∷ all) rest)
one-departs gone (row ∷ rows) (suc i) new d inside own others counts =
    let rest = one-departs gone rows i new d (omega (arith, inside)) own (λ k e within other. others (suc k) e (omega (arith, within)) (λ same. other (omega (arith, same)))) counts in
    rw (others 0 row (omega arith) (λ same. absurd (omega (arith, same)))) (ap (λ all. row.departed ∷ all) rest)

-- ---- a link

-- a row is changed that keeps its channel, its lead and its packets
pub counted-changed : (link : LinkState) (new : TableAccount) (looked : ℕ) (chan : ChanNo) (change : AccountRow → AccountRow) → ((row : AccountRow) (n : ℕ) → IsCounted link.queue.here row n → IsCounted link.queue.here (change row) n) → new ≡ record link.table { rows = change_first (is_account_of chan) change link.table.rows; looked = looked }
    → AreCounted link.queue.here new.rows new.departed
counted-changed link new looked chan change keeps same =
    subst (λ (table : TableAccount). AreCounted link.queue.here table.rows table.departed) (sym same) (rows-changed link.queue.here (is_account_of chan) change keeps link.table.rows link.table.departed link.counted)

-- the queue changes, and no packet comes or goes
pub counted-still : (link : LinkState) (queue : QueueAccount) (table : TableAccount) → queue.here ≡ link.queue.here → table ≡ link.table → AreCounted queue.here table.rows table.departed
counted-still link queue table here same = subst (λ all. AreCounted all table.rows table.departed) (sym here) (subst (λ (t : TableAccount). AreCounted link.queue.here t.rows t.departed) (sym same) link.counted)

-- what a row tells of its packets here
pub held-here : (here : List Arrival) (row : ServedRow) → IsCounted here (row_in row) row.departed → row.taken - row.departed ≡ held_packets row.lead here
held-here here row is = (let counted = is.taken in omega (arith, counted))
