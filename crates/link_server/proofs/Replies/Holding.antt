-- A row that is held at an offer that the link may make leaves the account sound, where its places are made room for, and
-- goes with the admission sums.
use Rattle.std.proofs.Common.{◌≡◌, ℕ, suc, ◌+◌, ◌≤◌, List, [], ◌∷◌, ◌++◌, None, true, map, refl, sym, ap, ◌∙◌, subst, arith}
use Rattle.std.proofs.lemmas.List.{map_push}
use Rattle.std.proofs.lemmas.List.Elements.{All-push}
use Rattle.link_server.proofs.Words.{channel_number, level_number, Offer, LinkShape, find, ReserveFits, Reservation, admitted, tentative, server_of, TableAccount, ServedRow, Offered, Wanted}
use Rattle.traffic_contract.proofs.AdmissionTest.{Decides-admits}
use Rattle.traffic_contract.specs.Admission.{Passes, admits, with_row}
use Rattle.rcsp_admission.specs.Sums.{Sums, Held, Holds, row_held, admitted_rows}
use Rattle.link_steps.specs.Buffer.{slots_of, free_units}
use Rattle.link_steps.specs.Account.{Account, AccountRow, is_account_of, account_terms, account_after, new_account}
use Rattle.link_server.specs.Rows.{row_in, summed, IsWithinLevels, AreWithin}
use Rattle.link_server.specs.Changes.{MayAdd}
use Rattle.link_steps.proofs.RulesAsMeant.{need-kept}
use Rattle.link_steps.proofs.ReservationFound.{may-reach}
use Rattle.link_server.specs.Sound.{IsSound, most_places}
use Rattle.link_server.specs.Wants.{ask_for, MayHold}
use Rattle.link_server.proofs.RowsOfTable.Places.{terms-none, kept-none}
use Rattle.link_server.proofs.Sound.Numbers.{most_places-push}
use Rattle.link_server.proofs.Sound.Setup.{sound-reserve}
use Rattle.link_server.proofs.RowsOfTable.Sums.{absent-new, same-admission}

-- the terms of the row
abbrev pub held_terms : Wanted → Offered → Reservation
held_terms wanted offer = tentative wanted.chan wanted.contract wanted.kind wanted.first wanted.next wanted.up_reach offer.level offer.reach

-- the account with it is sound
pub sound-held : (shape : LinkShape) (room : ℕ) (k : Account) (wanted : Wanted) (offer : Offered) (row : AccountRow) → ReserveFits wanted.contract wanted.up_reach wanted.first → IsSound shape room k
    → MayHold shape (map account_terms k.rows) wanted offer → row ≡ new_account (held_terms wanted offer)
    → most_places shape.bounds k.here k.rows + suc (slots_of shape.bounds row.terms) + suc shape.best ≤ room
    → IsSound shape room (account_after shape k (ask_for wanted) (Offer offer.level offer.reach))
unfolding account_after
sound-held shape room k wanted offer row fits sound may same enough =
    let push = most_places-push shape.bounds k.here k.rows (new_account (held_terms wanted offer)) in
    let slots : slots_of shape.bounds row.terms ≡ slots_of shape.bounds (held_terms wanted offer) = ap (λ kept. slots_of shape.bounds kept.terms) same in
    sound-reserve shape room k wanted.chan wanted.contract wanted.kind wanted.delay wanted.up_reach wanted.first wanted.next offer.level offer.reach fits sound may (omega (arith, push, slots, enough))

-- the row may be added to the table of a link that may make the offer
pub may-add : (shape : LinkShape) (table : TableAccount) (wanted : Wanted) (offer : Offered) (row : AccountRow) → table ≡ record table { server = server_of shape; buffer = shape.buffer } → MayHold shape (map account_terms table.rows) wanted offer → row ≡ new_account (held_terms wanted offer) → MayAdd table row
unfolding free_units
may-add shape table wanted offer row of_shape may same =
    let bounds = ap (λ (t : TableAccount). t.server.bounds) of_shape in
    let need = need-kept shape.bounds wanted.chan wanted.contract wanted.kind wanted.first wanted.next wanted.up_reach offer.level offer.reach in
    let reach = may-reach shape (map account_terms table.rows) wanted.chan wanted.contract wanted.delay wanted.up_reach offer.level offer.reach may in
    let free = may.free in
    let may_new : MayAdd (record table { server = server_of shape; buffer = shape.buffer }) (new_account (held_terms wanted offer)) = record {
      phase = refl;
      none_left = refl;
      new = terms-none wanted.chan table.rows may.new;
      level = may.level_most;
      reach = reach;
      passes = may.passes;
      free = omega (arith, need, free);
    } in
    subst (λ t. MayAdd t row) (sym of_shape) (subst (MayAdd (record table { server = server_of shape; buffer = shape.buffer })) (sym same) may_new)

-- ---- the admission sums

-- its key is new to them
pub key-new : (rows : List ServedRow) (sums : Sums) (row : ServedRow) (key : ℕ) → sums.rows ≡ map summed rows → key ≡ channel_number row.chan → find (is_account_of row.chan) (map row_in rows) ≡ None → Holds sums.rows key → ⊥
key-new rows sums row key same number new held =
    absent-new row.chan rows (kept-none row.chan rows new) (subst (λ all. Holds all (channel_number row.chan)) same (subst (λ n. Holds sums.rows n) number held))

-- they pass with it
pub sums-pass : (rows : List ServedRow) (sums : Sums) (row : ServedRow) → sums.rows ≡ map summed rows → admits sums.server (map admitted (map account_terms (map row_in rows))) row.contract (level_number row.level) ≡ true → Passes sums.server (with_row (admitted_rows sums.rows) row.contract (level_number row.level))
sums-pass rows sums row same passes =
    (Decides-admits sums.server (admitted_rows sums.rows) row.contract (level_number row.level)).0
    (same-admission (λ all. admits sums.server all row.contract (level_number row.level)) sums rows same ∙ passes)

-- they hold it at its level
pub summed-pushed : (rows : List ServedRow) (row : ServedRow) (key : ℕ) (sums : List Held) → key ≡ channel_number row.chan → sums ≡ map summed rows
    → sums ++ row_held key row.contract (level_number row.level) ∷ [] ≡ map summed (rows ++ row ∷ [])
summed-pushed rows row key sums number held =
    ap (λ all. all ++ row_held key row.contract (level_number row.level) ∷ []) held
    ∙ ap (λ n. map summed rows ++ row_held n row.contract (level_number row.level) ∷ []) number
    ∙ sym (map_push summed rows row)

-- at levels of the link
pub within-pushed : (levels : ℕ) (rows : List ServedRow) (row : ServedRow) → AreWithin levels rows → IsWithinLevels levels row → AreWithin levels (rows ++ row ∷ [])
within-pushed levels rows row within last = All-push (IsWithinLevels levels) rows row within last
