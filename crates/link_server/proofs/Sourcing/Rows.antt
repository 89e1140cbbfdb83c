-- The rows make their steps of a tick one after another: what the first have done, and what those after do after them,
-- is together what all do.
use Rattle.std.proofs.Common.{◌≡◌, ℕ, zero, suc, ◌+◌, ◌-◌, ◌<◌, ◌≤◌, Bool, true, false, List, [], ◌∷◌, ◌++◌, length, map, take, drop, get_or, set, refl, sym, ap, ◌∙◌, subst, arith}
use Rattle.link_server.proofs.Words.{if◌then◌else◌, Each, Arrival, Rests, taken_by, dropped_by, row_in, ServedRow}
use Rattle.std.proofs.lemmas.List.{drop_more, drop-drop, get_or-drop, set-get_or, drop-set-lt, take_more_set, map_push, append_assoc, length-append, append-nil, drop_all, take_all}
use Rattle.link_steps.specs.Account.{AccountRow, account_packet, account_after_step, account_packets, account_rows_after, account_dropped}
use Rattle.link_server.specs.Plans.{IsQuiet}
use Rattle.link_server.specs.Sources.{step_in, brought_by, served_rows_after, lost_by_rows, IsReady, AreReady}
use Rattle.link_server.proofs.Calendars.Expiry.{a-row}
use Rattle.link_server.proofs.Calendars.Quiet.{quiet-step, quiet-past}
use Rattle.link_server.proofs.Sourcing.Steps.{packet-length, lost_by-most}

-- the first i of the rows have made their step
pub record HaveStepped (bounds : List ℕ) (was : List Arrival) (t before : ℕ) (old : List ServedRow) (i : ℕ) (rows : List ServedRow) (now : List Arrival) (count dropped : ℕ) : Type 0 where
  pub after : drop i rows ≡ drop i old
  pub front : map row_in (take i rows) ++ served_rows_after bounds was t count (drop i old) ≡ served_rows_after bounds was t before old
  pub here : now ++ brought_by bounds was t count (drop i old) ≡ was ++ brought_by bounds was t before old
  pub taken : count + length (brought_by bounds was t count (drop i old)) ≡ before + length (brought_by bounds was t before old)
  pub lost : dropped + lost_by_rows bounds was t (drop i old) ≡ lost_by_rows bounds was t old
  pub few : dropped ≤ i

-- at the beginning none has
pub none-stepped : (bounds : List ℕ) (was : List Arrival) (t before : ℕ) (old : List ServedRow) → HaveStepped bounds was t before old 0 old was before 0
none-stepped bounds was t before old = record { after = refl; front = refl; here = refl; taken = refl; lost = omega arith; few = omega arith }

-- rows that are the same from one on are the same after it
after-next : (old rows : List ServedRow) (i : ℕ) → drop i rows ≡ drop i old → drop (i + 1) old ≡ drop (i + 1) rows
after-next old rows i after = sym (drop-drop 1 i old) ∙ ap (drop 1) (sym after) ∙ drop-drop 1 i rows

-- the packets that they take are those of that one, and then those of the rows after it
brought-from : (bounds : List ℕ) (was : List Arrival) (t taken : ℕ) (old : List ServedRow) (i : ℕ) (rows : List ServedRow) (d : ServedRow) → drop i rows ≡ drop i old → i < length rows
    → length (brought_by bounds was t taken (drop i old)) ≡ taken_by (step_in bounds was t (get_or rows i d)) + length (brought_by bounds was t (taken + taken_by (step_in bounds was t (get_or rows i d))) (drop (i + 1) old))
unfolding account_packets
brought-from bounds was t taken old i rows d after inside =
    let step = step_in bounds was t (get_or rows i d) in
    ap (λ all. length (brought_by bounds was t taken all)) (sym after ∙ drop_more rows i d inside)
    ∙ length-append (account_packet step t (suc taken) (row_in (get_or rows i d))) (brought_by bounds was t (taken + taken_by step) (drop (i + 1) rows))
    ∙ ap (λ n. n + length (brought_by bounds was t (taken + taken_by step) (drop (i + 1) rows))) (packet-length step t (suc taken) (row_in (get_or rows i d)))
    ∙ ap (λ all. taken_by step + length (brought_by bounds was t (taken + taken_by step) all)) (sym (after-next old rows i after))

-- so before its step there is room for its packet, where there is room for all
pub packets-now : (bounds : List ℕ) (was : List Arrival) (t taken : ℕ) (old : List ServedRow) (i : ℕ) (rows : List ServedRow) (d : ServedRow) → drop i rows ≡ drop i old → i < length rows
    → taken_by (step_in bounds was t (get_or rows i d)) ≤ length (brought_by bounds was t taken (drop i old))
packets-now bounds was t taken old i rows d after inside = let split = brought-from bounds was t taken old i rows d after inside in omega (arith, split)

-- what is so of each row is so of those from one on
each-after : (P : AccountRow → Type 0) (rows : List ServedRow) (i : ℕ) → Each P (map row_in rows) → Each P (map row_in (drop i rows))
each-after P [] zero each = each
each-after P [] (suc i) each = each
each-after P (row ∷ rows) zero each = each
each-after P (row ∷ rows) (suc i) each = each-after P rows i each.1

-- so it is ready for its step
pub ready-now : (t : ℕ) (old : List ServedRow) (i : ℕ) (rows : List ServedRow) (d : ServedRow) → drop i rows ≡ drop i old → AreReady t old → i < length rows → IsReady t (row_in (get_or rows i d))
ready-now t old i rows d after ready inside =
    (subst (λ all. Each (IsReady t) (map row_in all)) (sym after ∙ drop_more rows i d inside) (each-after (IsReady t) old i ready)).0

-- one row more has made its step
pub one-stepped : (bounds : List ℕ) (was : List Arrival) (t before : ℕ) (old : List ServedRow) (i : ℕ) (rows : List ServedRow) (here : List Arrival) (taken lost : ℕ) (d new : ServedRow) (now : List Arrival) (taken' lost' : ℕ)
    → HaveStepped bounds was t before old i rows here taken lost
    → i < length rows
    → row_in new ≡ account_after_step (step_in bounds was t (get_or rows i d)) t (suc taken) (row_in (get_or rows i d))
    → now ≡ here ++ account_packet (step_in bounds was t (get_or rows i d)) t (suc taken) (row_in (get_or rows i d))
    → taken' ≡ taken + taken_by (step_in bounds was t (get_or rows i d))
    → lost' ≡ lost + dropped_by (step_in bounds was t (get_or rows i d))
    → HaveStepped bounds was t before old (i + 1) (set rows i new) now taken' lost'
unfolding account_packets account_rows_after account_dropped
one-stepped bounds was t before old i rows here taken lost d new now taken' lost' so inside stepped brought more dropped =
    let row = get_or rows i d in
    let step = step_in bounds was t row in
    let rest : drop i old ≡ row ∷ drop (i + 1) rows = sym so.after ∙ drop_more rows i d inside in
    let front = after-next old rows i so.after in
    let packets = brought-from bounds was t taken old i rows d so.after inside in
    let same : length (brought_by bounds was t taken' (drop (i + 1) old)) ≡ length (brought_by bounds was t (taken + taken_by step) (drop (i + 1) old)) = ap (λ n. length (brought_by bounds was t n (drop (i + 1) old))) more in
    let losses : lost_by_rows bounds was t (drop i old) ≡ dropped_by step + lost_by_rows bounds was t (drop (i + 1) old) =
    ap (lost_by_rows bounds was t) rest ∙ ap (λ after. dropped_by step + lost_by_rows bounds was t after) (sym front) in
    record {
      after = drop-set-lt (i + 1) rows i new (omega arith) ∙ sym front;
      front =
          ap (λ all. map row_in all ++ served_rows_after bounds was t taken' (drop (i + 1) old)) (take_more_set rows i new inside)
          ∙ ap (λ all. all ++ served_rows_after bounds was t taken' (drop (i + 1) old)) (map_push row_in (take i rows) new)
          ∙ append_assoc (map row_in (take i rows)) (row_in new ∷ []) (served_rows_after bounds was t taken' (drop (i + 1) old))
          ∙ ap (λ r. map row_in (take i rows) ++ (r ∷ served_rows_after bounds was t taken' (drop (i + 1) old))) stepped
          ∙ ap (λ n. map row_in (take i rows) ++ (account_after_step step t (suc taken) (row_in row) ∷ served_rows_after bounds was t n (drop (i + 1) old))) more
          ∙ ap (λ after. map row_in (take i rows) ++ (account_after_step step t (suc taken) (row_in row) ∷ served_rows_after bounds was t (taken + taken_by step) after)) front
          ∙ ap (λ all. map row_in (take i rows) ++ served_rows_after bounds was t taken all) (sym rest)
          ∙ so.front;
      here =
          ap (λ all. all ++ brought_by bounds was t taken' (drop (i + 1) old)) brought
          ∙ append_assoc here (account_packet step t (suc taken) (row_in row)) (brought_by bounds was t taken' (drop (i + 1) old))
          ∙ ap (λ n. here ++ (account_packet step t (suc taken) (row_in row) ++ brought_by bounds was t n (drop (i + 1) old))) more
          ∙ ap (λ after. here ++ (account_packet step t (suc taken) (row_in row) ++ brought_by bounds was t (taken + taken_by step) after)) front
          ∙ ap (λ all. here ++ brought_by bounds was t taken all) (sym rest)
          ∙ so.here;
      taken = let all = so.taken in omega (arith, all, packets, same, more);
      lost = let all = so.lost in omega (arith, all, losses, dropped);
      few = let few = so.few in let one = lost_by-most step in omega (arith, few, one, dropped);
    }

-- rows that are the same from one on have the same row there
pub same-row : (old : List ServedRow) (i : ℕ) (rows : List ServedRow) (d : ServedRow) → drop i rows ≡ drop i old → get_or rows i d ≡ get_or old i d
same-row old i rows d after =
    let first : i + 0 ≡ i = omega arith in
    ap (λ n. get_or rows n d) (sym first)
    ∙ sym (get_or-drop i rows 0 d)
    ∙ ap (λ all. get_or all 0 d) after
    ∙ get_or-drop i old 0 d
    ∙ ap (λ n. get_or old n d) first

-- a row with no packet for the tick has made its step as it is
quiet-stepped : (bounds : List ℕ) (was : List Arrival) (t before : ℕ) (old : List ServedRow) (i : ℕ) (rows : List ServedRow) (here : List Arrival) (taken lost : ℕ) (d : ServedRow)
    → HaveStepped bounds was t before old i rows here taken lost → i < length rows → IsQuiet (suc t) (row_in (get_or old i d)) → HaveStepped bounds was t before old (i + 1) rows here taken lost
quiet-stepped bounds was t before old i rows here taken lost d so inside quiet =
    let row = get_or rows i d in
    let its : IsQuiet (suc t) (row_in row) = subst (λ r. IsQuiet (suc t) (row_in r)) (sym (same-row old i rows d so.after)) quiet in
    let rests : step_in bounds was t row ≡ Rests = quiet-step bounds was (suc t) t (row_in row) its (omega arith) in
    subst (λ all. HaveStepped bounds was t before old (i + 1) all here taken lost) (set-get_or rows i d)
    (one-stepped bounds was t before old i rows here taken lost d row here taken lost so inside
    (sym (ap (λ step. account_after_step step t (suc taken) (row_in row)) rests ∙ quiet-past bounds (suc t) t (row_in row) its (omega arith)))
    (sym (ap (λ step. here ++ account_packet step t (suc taken) (row_in row)) rests ∙ append-nil here))
    (let none : taken_by (step_in bounds was t row) ≡ 0 = ap taken_by rests in omega (arith, none))
    (let none : dropped_by (step_in bounds was t row) ≡ 0 = ap dropped_by rests in omega (arith, none)))

-- and so for rows one after another
quiet-between : (bounds : List ℕ) (was : List Arrival) (t before : ℕ) (old : List ServedRow) (i n : ℕ) (rows : List ServedRow) (here : List Arrival) (taken lost : ℕ)
    → HaveStepped bounds was t before old i rows here taken lost → i + n ≤ length rows → ((place : ℕ) (d : ServedRow) → i ≤ place → place < i + n → IsQuiet (suc t) (row_in (get_or old place d))) → HaveStepped bounds was t before old (i + n) rows here taken lost
quiet-between bounds was t before old i zero rows here taken lost so within quiet =
    subst (λ n. HaveStepped bounds was t before old n rows here taken lost) (omega arith) so
quiet-between bounds was t before old i (suc n) rows here taken lost so within quiet =
    let d = a-row rows i (omega (arith, within)) in
    subst (λ m. HaveStepped bounds was t before old m rows here taken lost) (omega arith)
    (quiet-between bounds was t before old (i + 1) n rows here taken lost
    (quiet-stepped bounds was t before old i rows here taken lost d so (omega (arith, within)) (quiet i d (omega arith) (omega arith)))
    (omega (arith, within))
    (λ place d from below. quiet place d (omega (arith, from)) (omega (arith, below))))

pub quiet-up-to : (bounds : List ℕ) (was : List Arrival) (t before : ℕ) (old : List ServedRow) (i j : ℕ) (rows : List ServedRow) (here : List Arrival) (taken lost : ℕ)
    → HaveStepped bounds was t before old i rows here taken lost → i ≤ j → j ≤ length rows → ((place : ℕ) (d : ServedRow) → i ≤ place → place < j → IsQuiet (suc t) (row_in (get_or old place d))) → HaveStepped bounds was t before old j rows here taken lost
quiet-up-to bounds was t before old i j rows here taken lost so from within quiet =
    subst (λ m. HaveStepped bounds was t before old m rows here taken lost) (omega (arith, from))
    (quiet-between bounds was t before old i (j - i) rows here taken lost so (omega (arith, from, within)) (λ place d after below. quiet place d after (omega (arith, below, from))))

-- at the end all have
pub record StandsStepped (bounds : List ℕ) (was : List Arrival) (t before : ℕ) (old rows : List ServedRow) (now : List Arrival) (count dropped : ℕ) : Type 0 where
  pub all : map row_in rows ≡ served_rows_after bounds was t before old
  pub here : now ≡ was ++ brought_by bounds was t before old
  pub taken : count ≡ before + length (brought_by bounds was t before old)
  pub lost : dropped ≡ lost_by_rows bounds was t old

pub all-stepped : (bounds : List ℕ) (was : List Arrival) (t before : ℕ) (old : List ServedRow) (i : ℕ) (rows : List ServedRow) (here : List Arrival) (taken lost : ℕ)
    → HaveStepped bounds was t before old i rows here taken lost → length old ≤ i → length rows ≤ i → StandsStepped bounds was t before old rows here taken lost
unfolding account_packets account_rows_after account_dropped
all-stepped bounds was t before old i rows here taken lost so past end =
    let none : drop i old ≡ [] = drop_all i old past in
    let full : take i rows ≡ rows = take_all i rows end in
    record {
      all =
          sym (append-nil (map row_in rows)) ∙ ap (λ all. map row_in all ++ []) (sym full)
          ∙ ap (λ after. map row_in (take i rows) ++ served_rows_after bounds was t taken after) (sym none) ∙ so.front;
      here = sym (append-nil here) ∙ ap (λ after. here ++ brought_by bounds was t taken after) (sym none) ∙ so.here;
      taken =
          let nothing : length (brought_by bounds was t taken (drop i old)) ≡ 0 = ap (λ after. length (brought_by bounds was t taken after)) none in
          let all = so.taken in
          omega (arith, nothing, all);
      lost =
          let nothing : lost_by_rows bounds was t (drop i old) ≡ 0 = ap (lost_by_rows bounds was t) none in
          let all = so.lost in
          omega (arith, nothing, all);
    }

-- a packet that is lost is counted
pub lost-more : (b : Bool) (lost n new : ℕ) → (if b then 1 else 0) ≡ n → b ≡ true → new ≡ lost + 1 → new ≡ lost + n
lost-more true lost n new one is more = omega (arith, one, more)
lost-more false lost n new one is more = absurd (let f : false ≡ true = is in cc)

pub lost-same : (b : Bool) (lost n new : ℕ) → (if b then 1 else 0) ≡ n → b ≡ false → new ≡ lost → new ≡ lost + n
lost-same true lost n new none is same = absurd (let f : true ≡ false = is in cc)
lost-same false lost n new none is same = omega (arith, none, same)
