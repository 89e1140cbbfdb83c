-- What the parts of a table tell, the account's rows say; and tables that agree in each part are the same.
use Rattle.std.proofs.Common.{◌≡◌, ℕ, ◌-◌, ◌<◌, List, [], ◌∷◌, length, map, get_or, Some, None, refl, sym, ap, ◌∙◌, subst, arith}
use Rattle.std.proofs.lemmas.List.{get_or-map, length-map}
use Rattle.std.proofs.lemmas.Option.{same_Some}
use Rattle.link_server.proofs.Words.{IsDistinct, find, channel_number, ChanNo, is_account_of, is_served_row_of, IsAbsent, level_number, Sums, Held, row_held, Tentative, Reservation, whole_of, total, LinkShape, AccountRow, account_terms, server_of, LinkState, ServedRow, TableAccount, reservation_in, row_in, summed, IsPlaceOf, IsWithinLevels}
use Rattle.link_server.specs.Changes.{HasRow}
use Rattle.link_server.specs.Index.{channel_in, channels_in, IsIndex}
use Rattle.link_server.specs.Keeping.{IsKeeping}
use Rattle.link_server.specs.RowParts.{AreParts}
use Rattle.link_server.specs.declared.table.keeping.Keeping.{Keeping}
use Rattle.link_steps.specs.Buffer.{held_units, free_units}
use Rattle.link_server.specs.declared.table.Table.TheInside.{Inside}
use Rattle.link_server.specs.TableParts.{table_seen, IsTable}
use Rattle.link_server.proofs.RowsOfTable.Places.{kept-absent}
use Rattle.link_server.proofs.Calendars.Expiry.{place-distinct}
use Rattle.link_server.proofs.RowsOfTable.Keeping.{own-whole}
use Rattle.link_server.proofs.RowsOfTable.Placed.{found-at}

-- tables that agree in each part are the same
pub table-same : (table other : TableAccount) → table.rows ≡ other.rows → table.departed ≡ other.departed → table.server ≡ other.server → table.buffer ≡ other.buffer → table.looked ≡ other.looked → table ≡ other
table-same table other rows departed server buffer looked = λ i. record { rows = rows i; departed = departed i; server = server i; buffer = buffer i; looked = looked i }

-- a table with the server and the buffer of a shape is one of the shape
pub of-shape : (shape : LinkShape) (table : TableAccount) → table.server ≡ server_of shape → table.buffer ≡ shape.buffer → table ≡ record table { server = server_of shape; buffer = shape.buffer }
of-shape shape table server buffer = λ i. record { rows = table.rows; departed = table.departed; server = server i; buffer = buffer i; looked = table.looked }

-- what its rows leave of the buffer is free by the link's rule
pub free-is : (link : LinkState) → link.table.buffer - total (held_units link.table.server.bounds) (map account_terms link.table.rows) ≡ free_units link.shape (map account_terms link.table.rows)
unfolding free_units
free-is link = ap (λ (table : TableAccount). table.buffer - total (held_units table.server.bounds) (map account_terms link.table.rows)) link.of_shape

-- a table stays one of the link's shape
pub still-of : (link : LinkState) (new : TableAccount) → new.server ≡ link.table.server → new.buffer ≡ link.table.buffer → new ≡ record new { server = server_of link.shape; buffer = link.shape.buffer }
still-of link new server buffer = of-shape link.shape new (server ∙ ap (λ (table : TableAccount). table.server) link.of_shape) (buffer ∙ ap (λ (table : TableAccount). table.buffer) link.of_shape)

-- as many rows are seen as there are
pub as-many : (t : Inside) (seen : TableAccount) → table_seen t ≡ seen → length t.rows.items ≡ length seen.rows
as-many t seen same = sym (length-map t.rows.items row_in) ∙ ap (λ (table : TableAccount). length table.rows) same

-- the bounds are those of the server that is seen
pub bounds-seen : (t : Inside) (seen : TableAccount) → IsTable t → table_seen t ≡ seen → t.bounds ≡ seen.server.bounds
bounds-seen t seen is same = sym is.same_bounds ∙ ap (λ (table : TableAccount). table.server.bounds) same

-- a row at levels of the table is at levels of the link
pub at-levels : (link : LinkState) (row : ServedRow) → IsWithinLevels (length link.table.server.bounds) row → IsWithinLevels (length link.shape.bounds) row
at-levels link row within = subst (λ n. IsWithinLevels n row) (ap (λ (table : TableAccount). length table.server.bounds) link.of_shape) within

-- ---- one row

-- the channel's row stands there, and what is seen of it is so
pub record IsRowAt (P : AccountRow → Type 0) (t : Inside) (i : ℕ) (d : ServedRow) : Type 0 where
  pub inside : i < length t.rows.items
  pub is : P (row_in (get_or t.rows.items i d))

pub row-at : (P : AccountRow → Type 0) (t : Inside) (seen : TableAccount) (chan : ChanNo) (i : ℕ) (d : ServedRow) → table_seen t ≡ seen → IsPlaceOf chan t.rows.items i → HasRow P chan seen.rows → IsRowAt P t i d
row-at P t seen chan i d same place has =
    let found = subst (λ (table : TableAccount). find (is_account_of chan) table.rows ≡ Some has.row) (sym same) has.found in
    record { inside = place.inside; is = subst P (same_Some has.row (row_in (get_or t.rows.items i d)) (sym found ∙ found-at chan t.rows.items i d place)) has.holds }

-- a row that stands there is seen, and where none does none is seen
pub row-seen : (t : Inside) (seen : TableAccount) (chan : ChanNo) (i : ℕ) (row : ServedRow) → table_seen t ≡ seen → IsPlaceOf chan t.rows.items i → row ≡ get_or t.rows.items i row → find (is_account_of chan) seen.rows ≡ Some (row_in row)
row-seen t seen chan i row same place at = subst (λ (table : TableAccount). find (is_account_of chan) table.rows ≡ Some (row_in row)) same (found-at chan t.rows.items i row place ∙ ap (λ (r : ServedRow). Some (row_in r)) (sym at))

pub none-seen : (t : Inside) (seen : TableAccount) (chan : ChanNo) → table_seen t ≡ seen → IsAbsent chan t.rows.items → find (is_account_of chan) seen.rows ≡ None
none-seen t seen chan same absent = subst (λ (table : TableAccount). find (is_account_of chan) table.rows ≡ None) same (kept-absent (is_served_row_of chan) (is_account_of chan) (λ row. refl) t.rows.items absent)

-- a channel that has a row in the account has one in the table
pub has-place : (P : AccountRow → Type 0) (t : Inside) (seen : TableAccount) (chan : ChanNo) → table_seen t ≡ seen → HasRow P chan seen.rows → IsAbsent chan t.rows.items → ⊥
has-place P t seen chan same has absent = (let both : Some has.row ≡ None = sym has.found ∙ none-seen t seen chan same absent in cc)

-- it is its channel's, and the only one
pub place-only : (rows : List ServedRow) (i : ℕ) (row : ServedRow) → IsDistinct (map summed rows) → row ≡ get_or rows i row → i < length rows → IsPlaceOf row.chan rows i
place-only rows i row distinct at inside = subst (λ (r : ServedRow). IsPlaceOf r.chan rows i) (sym at) (place-distinct rows i row distinct inside)

-- ---- what stays

-- a reservation but for its phase and its count
abbrev pub fixed : Reservation → Reservation
fixed terms = record terms { phase = Tentative; count = 0 }

abbrev pub fixed_in : ServedRow → Reservation
fixed_in row = fixed (reservation_in row)

pub fixed-same : (rows old : List ServedRow) → map reservation_in rows ≡ map reservation_in old → map fixed_in rows ≡ map fixed_in old
fixed-same rows old same = sym (each-fixed rows) ∙ ap (map fixed) same ∙ each-fixed old where
  each-fixed : (all : List ServedRow) → map fixed (map reservation_in all) ≡ map fixed_in all
  each-fixed [] = refl
  each-fixed (row ∷ all) = ap (λ rest. fixed_in row ∷ rest) (each-fixed all)

-- rows whose reservations are so the same, and that keep as much, have the same parts, and are as many
pub as-long : (rows old : List ServedRow) → map fixed_in rows ≡ map fixed_in old → length rows ≡ length old
as-long rows old same = sym (length-map rows fixed_in) ∙ ap length same ∙ length-map old fixed_in

pub parts-still : (buffer : ℕ) (bounds : List ℕ) (rows old : List ServedRow) (sums : Sums) (keeping : Keeping) → AreParts buffer bounds old sums keeping → map fixed_in rows ≡ map fixed_in old → IsKeeping buffer bounds keeping (map reservation_in rows)
    → AreParts buffer bounds rows sums keeping
parts-still buffer bounds rows old sums keeping parts same keeps =
    let summed-same = sym (held-fixed rows) ∙ ap (map held_of) same ∙ held-fixed old in
    record {
      same = parts.same ∙ sym summed-same;
      within = λ k d inside. still-within (get_or rows k d) (get_or old k d) (fixed-at k d inside) (parts.within k d (omega (arith, inside, as-long rows old same)));
      keeps = keeps;
    } where
      held_of : Reservation → Held
      held_of terms = row_held (channel_number terms.chan) terms.contract (level_number terms.level)

      held-fixed : (all : List ServedRow) → map held_of (map fixed_in all) ≡ map summed all
      held-fixed [] = refl
      held-fixed (row ∷ all) = ap (λ rest. summed row ∷ rest) (held-fixed all)

      fixed-at : (k : ℕ) (d : ServedRow) → k < length rows → fixed_in (get_or rows k d) ≡ fixed_in (get_or old k d)
      fixed-at k d inside = sym (get_or-map fixed_in rows k d (fixed_in d) inside) ∙ ap (λ all. get_or all k (fixed_in d)) same ∙ get_or-map fixed_in old k d (fixed_in d) (omega (arith, inside, as-long rows old same))

      still-within : (new was : ServedRow) → fixed_in new ≡ fixed_in was → IsWithinLevels (length bounds) was → IsWithinLevels (length bounds) new
      still-within new was alike within =
          let at = ap (λ terms. level_number terms.level) alike in
          let far = ap (λ terms. level_number terms.reach) alike in
          let near = within.level in
          let most = within.reach in
          record { level = omega (arith, at, near); reach = omega (arith, far, most) }

-- they have the same channels
pub index-still : (index keys : List ℕ) (rows old : List ServedRow) → IsIndex index keys (channels_in old) → map fixed_in rows ≡ map fixed_in old → IsIndex index keys (channels_in rows)
index-still index keys rows old is same = subst (IsIndex index keys) (sym (channels-fixed old) ∙ ap (map channel_of) (sym same) ∙ channels-fixed rows) is where
  channel_of : Reservation → ℕ
  channel_of terms = channel_number terms.chan

  channels-fixed : (all : List ServedRow) → map channel_of (map fixed_in all) ≡ channels_in all
  channels-fixed [] = refl
  channels-fixed (row ∷ all) = ap (λ rest. channel_in row ∷ rest) (channels-fixed all)

-- the numbers tell the buffer themselves
pub own-parts : (buffer : ℕ) (bounds : List ℕ) (rows : List ServedRow) (sums : Sums) (keeping : Keeping) → AreParts buffer bounds rows sums keeping → AreParts (whole_of keeping.budget) bounds rows sums keeping
own-parts buffer bounds rows sums keeping parts = record { same = parts.same; within = parts.within; keeps = own-whole buffer bounds keeping (map reservation_in rows) parts.keeps }
