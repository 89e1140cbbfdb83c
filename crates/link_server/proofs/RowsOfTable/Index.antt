-- An index leads to the keys of the rows as they come, change and go, and by it the row of a channel is found.
use Rattle.std.proofs.Common.{◌≡◌, ◌≢◌, ℕ, zero, suc, ◌+◌, ◌<◌, ◌≤◌, Bool, true, false, List, [], ◌∷◌, ◌++◌, length, map, get_or, set, Some, None, refl, sym, ap, ◌∙◌, subst, arith}
use Rattle.std.proofs.Common.{◌⊎◌, inl, inr}
use Rattle.std.proofs.Math.ListN.{get_or-append}
use Rattle.std.proofs.Math.Seq.{get_or-append_seam, map-set_same}
use Rattle.std.proofs.lemmas.Bool.{cases_Bool, cases_lt, eq-eqb, eqb-true, ne_eqb, and_left, false_from_ne_true}
use Rattle.std.proofs.lemmas.List.{length-set, get_or-set_same, get_or-set_other, length-map, length-append, get_or-map, get_or_default, map_push}
use Rattle.std.proofs.lemmas.List.Edits.{length-remove, get_or-remove_below, get_or-remove_above}
use Rattle.std.proofs.lemmas.Option.{slice_get-get_or, get_or_from_slice_get}
use Rattle.std.specs.List.{Contains, remove}
use Rattle.link_server.proofs.Words.{slice_get, channel_number, ChanNo, Held, Holds, IsDistinct, key_of, ServedRow}
use Rattle.link_server.specs.Index.{channel_in, channels_in, IsIndex, LeadsTo}
use Rattle.link_server.specs.KeyedList.{position, IsNoneOf}
use Rattle.link_server.specs.Rows.{is_served_row_of, is_served_at_hop, summed, NoRowPasses, IsAbsent, IsPlaceOf}
use Rattle.link_server.proofs.KeyedValues.{apart-last, apart-left}
use Rattle.link_server.proofs.KeyPlaces.{position-is}

-- ---- a channel has one row

-- it leads from a channel to one key
leads-once : (index : List ℕ) (channel i j : ℕ) → LeadsTo index channel i → LeadsTo index channel j → i ≡ j
leads-once index channel i j one other = sym one.there ∙ other.there

-- the key of another channel is put
others-led : (index : List ℕ) (channel other i to : ℕ) → other ≢ channel → LeadsTo index other to → LeadsTo (set index channel i) other to
others-led index channel other i to apart led =
    let before = led.inside in
    let long = length-set index channel i in
    record { inside = omega (arith, long, before); there = get_or-set_other index channel other i 0 apart ∙ led.there }

-- and its own
own-led : (index : List ℕ) (channel to : ℕ) → channel < length index → LeadsTo (set index channel to) channel to
own-led index channel to inside =
    let long = length-set index channel to in
    record { inside = omega (arith, long, inside); there = get_or-set_same index channel to 0 inside }

-- the key at a place stands there
key-place : (index keys channels : List ℕ) (k : ℕ) → IsIndex index keys channels → k < length channels → position keys (get_or keys k 0) ≡ k
key-place index keys channels k is inside = position-is keys k 0 is.apart (let long = is.long in omega (arith, long, inside))

one-channel : (index keys channels : List ℕ) (i j : ℕ) → IsIndex index keys channels → i < length channels → j < length channels → get_or channels i 0 ≡ get_or channels j 0 → i ≡ j
one-channel index keys channels i j is first second same =
    let one = leads-once index (get_or channels j 0) (get_or keys i 0) (get_or keys j 0) (subst (λ n. LeadsTo index n (get_or keys i 0)) same (is.leads i 0 first)) (is.leads j 0 second) in
    sym (key-place index keys channels i is first) ∙ ap (position keys) one ∙ key-place index keys channels j is second

pub one-place : (index keys : List ℕ) (rows : List ServedRow) (i j : ℕ) (d e : ServedRow) → IsIndex index keys (channels_in rows) → i < length rows → j < length rows → channel_in (get_or rows i d) ≡ channel_in (get_or rows j e) → i ≡ j
one-place index keys rows i j d e is first second same =
    let long = length-map rows channel_in in
    one-channel index keys (channels_in rows) i j is (omega (arith, long, first)) (omega (arith, long, second)) (get_or-map channel_in rows i d 0 first ∙ same ∙ sym (get_or-map channel_in rows j e 0 second))

-- no row but that at its place is a channel's
pub index-others : (index keys : List ℕ) (rows : List ServedRow) (i : ℕ) (chan : ChanNo) (d : ServedRow) → IsIndex index keys (channels_in rows) → i < length rows → is_served_row_of chan (get_or rows i d) ≡ true
    → (k : ℕ) (e : ServedRow) → k < length rows → (k ≡ i → ⊥) → is_served_row_of chan (get_or rows k e) ≡ false
index-others index keys rows i chan d is inside own k e within other =
    ne_eqb (channel_in (get_or rows k e)) (channel_number chan) (λ same. other (one-place index keys rows k i e d is within inside (same ∙ sym (eqb-true (channel_in (get_or rows i d)) (channel_number chan) own))))

-- so a row of the channel is its first
pub place-led : (index keys : List ℕ) (chan : ChanNo) (rows : List ServedRow) (i : ℕ) → IsIndex index keys (channels_in rows) → i < length rows → ((d : ServedRow) → is_served_row_of chan (get_or rows i d) ≡ true) → IsPlaceOf chan rows i
place-led index keys chan rows i is inside here = record {
  inside = inside;
  here = here;
  before = λ k d below. index-others index keys rows i chan d is inside (here d) k d (omega (arith, below, inside)) (λ same. absurd (omega (arith, below, same)));
}

-- a row of the channel's number is the channel's
pub is-row-of : (chan : ChanNo) (rows : List ServedRow) (i : ℕ) (row : ServedRow) → i < length rows → row ≡ get_or rows i row → channel_number row.chan ≡ channel_number chan → (d : ServedRow) → is_served_row_of chan (get_or rows i d) ≡ true
is-row-of chan rows i row inside at same d =
    subst (λ r. is_served_row_of chan r ≡ true) (at ∙ get_or_default rows i row d inside) (eq-eqb (channel_number row.chan) (channel_number chan) same)

-- no two rows have the same channel, so the sums hold each once
-- rows that the sums see as the same have the same channels
summed-channels : (rows : List ServedRow) → map key_of (map summed rows) ≡ channels_in rows
summed-channels [] = refl
summed-channels (row ∷ rows) = ap (λ all. channel_in row ∷ all) (summed-channels rows)

pub index-distinct : (index keys : List ℕ) (rows : List ServedRow) → IsIndex index keys (channels_in rows) → IsDistinct (map summed rows)
index-distinct index keys rows is = record { apart = λ i j d before inside same. apart i j d before inside same } where
  many : length (map summed rows) ≡ length (channels_in rows)
  many = length-map rows summed ∙ sym (length-map rows channel_in)

  key-at : (i : ℕ) (d : Held) → i < length (map summed rows) → (get_or (map summed rows) i d).key ≡ get_or (channels_in rows) i 0
  key-at i d inside = sym (get_or-map key_of (map summed rows) i d 0 inside) ∙ ap (λ all. get_or all i 0) (summed-channels rows)

  apart : (i j : ℕ) (d : Held) → i < j → j < length (map summed rows) → (get_or (map summed rows) i d).key ≡ (get_or (map summed rows) j d).key → ⊥
  apart i j d before inside same =
      let one = one-channel index keys (channels_in rows) i j is (omega (arith, many, before, inside)) (omega (arith, many, inside)) (sym (key-at i d (omega (arith, before, inside))) ∙ same ∙ key-at j d inside) in
      omega (arith, one, before)

-- ---- a channel is found

-- its row stands where the key that the index has for it does
found-place : (index keys : List ℕ) (chan : ChanNo) (rows : List ServedRow) (key k : ℕ) (d : ServedRow) → IsIndex index keys (channels_in rows) → slice_get index (channel_number chan) ≡ Some key → k < length rows → is_served_row_of chan (get_or rows k d) ≡ true → position keys key ≡ k
found-place index keys chan rows key k d is found inside own =
    let within : k < length (channels_in rows) = (let long = length-map rows channel_in in omega (arith, long, inside)) in
    let led = subst (λ n. LeadsTo index n (get_or keys k 0)) (get_or-map channel_in rows k d 0 inside ∙ eqb-true (channel_in (get_or rows k d)) (channel_number chan) own) (is.leads k 0 within) in
    ap (position keys) (sym (get_or_from_slice_get index (channel_number chan) key 0 found) ∙ led.there) ∙ key-place index keys (channels_in rows) k is within

-- it has no key, or one that is free, or another channel's
pub absent-past : (index keys : List ℕ) (chan : ChanNo) (rows : List ServedRow) → IsIndex index keys (channels_in rows) → slice_get index (channel_number chan) ≡ None → IsAbsent chan rows
absent-past index keys chan rows is past k d inside =
    false_from_ne_true (is_served_row_of chan (get_or rows k d))
    (λ own.
    (let long = length-map rows channel_in in
    let led = subst (λ n. LeadsTo index n (get_or keys k 0)) (get_or-map channel_in rows k d 0 inside ∙ eqb-true (channel_in (get_or rows k d)) (channel_number chan) own) (is.leads k 0 (omega (arith, long, inside))) in
    let found : Some (get_or index (channel_number chan) 0) ≡ None = sym (slice_get-get_or index (channel_number chan) 0 led.inside) ∙ past in cc))

pub absent-beyond : (index keys : List ℕ) (chan : ChanNo) (rows : List ServedRow) (key : ℕ) → IsIndex index keys (channels_in rows) → slice_get index (channel_number chan) ≡ Some key → length rows ≤ position keys key → IsAbsent chan rows
absent-beyond index keys chan rows key is found past k d inside =
    false_from_ne_true (is_served_row_of chan (get_or rows k d)) (λ own. (let same = found-place index keys chan rows key k d is found inside own in omega (arith, same, past, inside)))

pub absent-other : (index keys : List ℕ) (chan : ChanNo) (rows : List ServedRow) (key : ℕ) (row : ServedRow) → IsIndex index keys (channels_in rows) → slice_get index (channel_number chan) ≡ Some key → row ≡ get_or rows (position keys key) row → channel_number row.chan ≢ channel_number chan → IsAbsent chan rows
absent-other index keys chan rows key row is found at other k d inside =
    false_from_ne_true (is_served_row_of chan (get_or rows k d))
    (λ own.
    (let same = found-place index keys chan rows key k d is found inside own in
    let here : get_or rows k d ≡ row = get_or_default rows k d row inside ∙ ap (λ n. get_or rows n row) (sym same) ∙ sym at in
    other (ap channel_in (sym here) ∙ eqb-true (channel_in (get_or rows k d)) (channel_number chan) own)))

-- ---- a channel at its first hop, or at a later one

-- where the channel has no row, none is at it
pub no-row-at-hop : (chan : ChanNo) (first : Bool) (rows : List ServedRow) → IsAbsent chan rows → NoRowPasses (is_served_at_hop chan first) rows
no-row-at-hop chan first rows absent k d inside = and_left (is_served_row_of chan (get_or rows k d)) _ (absent k d inside)

-- where the channel's row isn't at it, no row is
pub no-other-hop : (index keys : List ℕ) (chan : ChanNo) (first : Bool) (rows : List ServedRow) (i : ℕ) (row : ServedRow) → IsIndex index keys (channels_in rows) → IsPlaceOf chan rows i → row ≡ get_or rows i row → is_served_at_hop chan first row ≡ false → NoRowPasses (is_served_at_hop chan first) rows
no-other-hop index keys chan first rows i row is place at not k d inside =
    elim (cases_Bool (is_served_row_of chan (get_or rows k d))) [
      | inl own ↦
          (let same = one-place index keys rows i k row d is place.inside inside (eqb-true (channel_in (get_or rows i row)) (channel_number chan) (place.here row) ∙ sym (eqb-true (channel_in (get_or rows k d)) (channel_number chan) own)) in
          subst (λ r. is_served_at_hop chan first r ≡ false) (at ∙ ap (λ n. get_or rows n row) same ∙ get_or_default rows k row d inside) not)
      | inr other ↦ and_left (is_served_row_of chan (get_or rows k d)) _ other
    ]

-- ---- rows that come, change and go

-- a row that changes keeps its channel
pub index-changed : (index keys : List ℕ) (rows : List ServedRow) (i : ℕ) (new d : ServedRow) → IsIndex index keys (channels_in rows) → channel_in new ≡ channel_in (get_or rows i d) → IsIndex index keys (channels_in (set rows i new))
index-changed index keys rows i new d is same = subst (IsIndex index keys) (sym (map-set_same channel_in rows i new d same)) is

-- a new channel at the end
index-pushed : (index keys channels : List ℕ) (channel key : ℕ) → IsIndex index keys channels → channel < length index → IsNoneOf keys key → ((k d : ℕ) → k < length channels → get_or channels k d ≢ channel) → IsIndex (set index channel key) (keys ++ key ∷ []) (channels ++ channel ∷ [])
index-pushed index keys channels channel key is room none new = record {
  long = (let long = is.long in omega (arith, long, more, more-keys));
  apart = apart-last key keys none is.apart;
  leads = λ k d inside. pushed k d inside (cases_lt k (length channels));
} where
  more : length (channels ++ channel ∷ []) ≡ length channels + 1
  more = length-append channels (channel ∷ [])

  more-keys : length (keys ++ key ∷ []) ≡ length keys + 1
  more-keys = length-append keys (key ∷ [])

  pushed : (k d : ℕ) → k < length (channels ++ channel ∷ []) → (k < length channels) ⊎ (length channels ≤ k) → LeadsTo (set index channel key) (get_or (channels ++ channel ∷ []) k d) (get_or (keys ++ key ∷ []) k 0)
  pushed k d inside (inl below) =
      let long = is.long in
      subst (λ n. LeadsTo (set index channel key) n (get_or (keys ++ key ∷ []) k 0)) (sym (get_or-append channels (channel ∷ []) d k below))
      (subst (LeadsTo (set index channel key) (get_or channels k d)) (sym (get_or-append keys (key ∷ []) 0 k (omega (arith, long, below))))
      (others-led index channel (get_or channels k d) key (get_or keys k 0) (new k d below) (is.leads k d below)))
  pushed k d inside (inr past) =
      let long = is.long in
      let last : k ≡ length channels = omega (arith, more, inside, past) in
      let end : k ≡ length keys = omega (arith, last, long) in
      subst (λ n. LeadsTo (set index channel key) n (get_or (keys ++ key ∷ []) k 0)) (sym (ap (λ n. get_or (channels ++ channel ∷ []) n d) last ∙ get_or-append_seam channels channel [] d))
      (subst (LeadsTo (set index channel key) channel) (sym (ap (λ n. get_or (keys ++ key ∷ []) n 0) end ∙ get_or-append_seam keys key [] 0)) (own-led index channel key room))

-- a row of a channel that none has
pub row-pushed : (index keys : List ℕ) (rows : List ServedRow) (row : ServedRow) (key : ℕ) → IsIndex index keys (channels_in rows) → channel_in row < length index → IsNoneOf keys key → (Holds (map summed rows) (channel_in row) → ⊥) → IsIndex (set index (channel_in row) key) (keys ++ key ∷ []) (channels_in (rows ++ row ∷ []))
row-pushed index keys rows row key is room none new =
    subst (IsIndex (set index (channel_in row) key) (keys ++ key ∷ [])) (sym (map_push channel_in rows row))
    (index-pushed index keys (channels_in rows) (channel_in row) key is room none
    (λ k d inside same. new (subst (λ all. Contains all (channel_in row)) (sym (summed-channels rows)) (k, inside, get_or_default (channels_in rows) k (channel_in row) d inside ∙ same))))

-- where a row is taken out
channels-without : (rows : List ServedRow) (i : ℕ) → channels_in (remove rows i) ≡ remove (channels_in rows) i
channels-without [] zero = refl
channels-without [] (suc i) = refl
channels-without (row ∷ rows) zero = refl
channels-without (row ∷ rows) (suc i) = ap (λ all. channel_in row ∷ all) (channels-without rows i)

pub index-without : (index keys : List ℕ) (rows : List ServedRow) (i : ℕ) → IsIndex index keys (channels_in rows) → i < length rows → IsIndex index (remove keys i) (channels_in (remove rows i))
index-without index keys rows i is inside = subst (IsIndex index (remove keys i)) (sym (channels-without rows i)) (record {
  long = (let same = is.long in omega (arith, same, fewer, fewer-keys, as-long));
  apart = apart-left keys i within is.apart;
  leads = λ k d below. left k d below (cases_lt k i);
}) where
  as-long : length (channels_in rows) ≡ length rows
  as-long = length-map rows channel_in

  within : i < length keys
  within = (let same = is.long in omega (arith, same, as-long, inside))

  fewer : length (remove (channels_in rows) i) + 1 ≡ length rows
  fewer = (let less = length-remove (channels_in rows) i (omega (arith, as-long, inside)) in omega (arith, less, as-long, inside))

  fewer-keys : length (remove keys i) + 1 ≡ length keys
  fewer-keys = (let less = length-remove keys i within in omega (arith, less, within))

  left : (k d : ℕ) → k < length (remove (channels_in rows) i) → (k < i) ⊎ (i ≤ k) → LeadsTo index (get_or (remove (channels_in rows) i) k d) (get_or (remove keys i) k 0)
  left k d below (inl before) =
      subst (λ n. LeadsTo index n (get_or (remove keys i) k 0)) (sym (get_or-remove_below (channels_in rows) i d k before (omega (arith, as-long, inside))))
      (subst (LeadsTo index (get_or (channels_in rows) k d)) (sym (get_or-remove_below keys i 0 k before within)) (is.leads k d (omega (arith, below, fewer, as-long))))
  left k d below (inr past) =
      subst (λ n. LeadsTo index n (get_or (remove keys i) k 0)) (sym (get_or-remove_above (channels_in rows) i d k past (omega (arith, as-long, inside))))
      (subst (LeadsTo index (get_or (channels_in rows) (k + 1) d)) (sym (get_or-remove_above keys i 0 k past within)) (is.leads (k + 1) d (omega (arith, below, fewer, as-long))))
