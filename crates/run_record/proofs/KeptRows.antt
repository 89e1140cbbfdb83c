-- Rows that get their hops one after the other; and hops that the offers tell, which stay the same whatever offers follow.
use Rattle.std.proofs.Common.{◌≡◌, ℕ, zero, suc, ◌+◌, ◌<◌, Some, None, List, [], ◌∷◌, ◌++◌, length, map, take, drop, get_or, set, min, refl, sym, ap, ◌∙◌, inl, inr, nat_eq, arith, append_assoc, append-nil}
use Rattle.std.proofs.lemmas.Bool.{cases_Bool}
use Rattle.net_units.specs.Numbers.{channel_number, link_number}
use Rattle.net_units.specs.declared.numbers.LinkNo.{LinkNo}
use Rattle.link_steps.specs.declared.replies.Reply.{Reply}
use Rattle.link_steps.specs.declared.replies.Reply.TheVariants.{Offer, Relaxed, Denied, Planned, Closing, Taken, Ticked, Refused}
use Rattle.link_steps.specs.declared.replies.Sent.{Sent}
use Rattle.run_record.specs.Rows.{next_place, place_in, hop_among, links_of, is_to, offer_by, departures_in, row_of, rows_by}
use Rattle.run_record.specs.ToldHops.{with_hop}
use Rattle.run_record.specs.declared.done.Done.{Done}
use Rattle.run_record.specs.declared.rows.HopRow.{HopRow}

-- ---- one element after the other

-- the first n are mapped
abbrev pub mapped_to : {X : Type 0} → (X → X) → ℕ → List X → List X
mapped_to f n xs = map f (take n xs) ++ drop n xs

-- the next one isn't yet
pub next-plain : {X : Type 0} (f : X → X) (xs : List X) (n : ℕ) (d : X) → n < length xs → get_or (mapped_to f n xs) n d ≡ get_or xs n d
next-plain f [] n d inside = absurd (omega (arith, inside))
next-plain f (x ∷ xs) zero d inside = refl
next-plain f (x ∷ xs) (suc n) d inside = next-plain f xs n d (omega (arith, inside))

map-next : {X : Type 0} (f : X → X) (xs : List X) (n : ℕ) (d : X) → n < length xs → set (mapped_to f n xs) n (f (get_or xs n d)) ≡ mapped_to f (suc n) xs
map-next f [] n d inside = absurd (omega (arith, inside))
map-next f (x ∷ xs) zero d inside = refl
map-next f (x ∷ xs) (suc n) d inside = ap (λ rest. f x ∷ rest) (map-next f xs n d (omega (arith, inside)))

pub mapped-next : {X : Type 0} (f : X → X) (xs now : List X) (n : ℕ) (x put : X) → n < length xs → now ≡ mapped_to f n xs → x ≡ get_or now n x → put ≡ f x → set now n put ≡ mapped_to f (n + 1) xs
mapped-next f xs now n x put inside is read same =
    let one : suc n ≡ n + 1 = omega arith in
    let plain : x ≡ get_or xs n x = read ∙ ap (λ ys. get_or ys n x) is ∙ next-plain f xs n x inside in
    ap (λ ys. set ys n put) is ∙ ap (set (mapped_to f n xs) n) (same ∙ ap f plain) ∙ map-next f xs n x inside ∙ ap (λ m. mapped_to f m xs) one

pub mapped-all : {X : Type 0} (f : X → X) (xs : List X) → mapped_to f (length xs) xs ≡ map f xs
mapped-all f [] = refl
mapped-all f (x ∷ xs) = ap (λ rest. f x ∷ rest) (mapped-all f xs)

-- ---- places

pub links-more : (c : ℕ) (run later : List Done) → links_of c (run ++ later) ≡ links_of c run ++ links_of c later
unfolding links_of
links-more c [] later = refl
links-more c (done ∷ run) later = elim (cases_Bool (is_to c (offer_by done.ask done.reply))) [
  | inl offers ↦ rw offers (ap (λ ns. link_number done.link ∷ ns) (links-more c run later))
  | inr none ↦ rw none (links-more c run later)
]

place-stays : (n : ℕ) (ns more : List ℕ) → (place_in n ns ≡ 0 → ⊥) → place_in n (ns ++ more) ≡ place_in n ns
unfolding place_in
place-stays n [] more there = absurd (there refl)
place-stays n (m ∷ ns) more there = elim (cases_Bool (nat_eq m n)) [
  | inl is ↦ rw is refl
  | inr other ↦ rw other (ap next_place (place-stays n ns more (λ none. there (rw other (ap next_place none)))))
]

-- a hop that the offers tell stays the same, whatever offers follow
pub hops-stay : (run later : List Done) (c n : ℕ) → (hop_among n (links_of c run) ≡ 0 → ⊥) → hop_among n (links_of c (run ++ later)) ≡ hop_among n (links_of c run)
hops-stay run later c n there =
    ap (hop_among n) (links-more c run later)
    ∙ ap (min 255) (place-stays n (links_of c run) (links_of c later) (λ none. there (ap (min 255) none)))

-- ---- departures

pub departures-more : (run entries : List Done) (done : Done) → departures_in run (entries ++ done ∷ []) ≡ departures_in run entries ++ rows_by run done.link done.reply
unfolding departures_in
departures-more run [] done = append-nil (rows_by run done.link done.reply)
departures-more run (first ∷ entries) done =
    ap (λ rest. rows_by run first.link first.reply ++ rest) (departures-more run entries done)
    ∙ sym (append_assoc (rows_by run first.link first.reply) (departures_in run entries) (rows_by run done.link done.reply))

-- the row of a tick, by its hop
abbrev row-at : LinkNo → ℕ → Sent → ℕ → HopRow
row-at link clock sent hop = record {
  chan = sent.packet.chan;
  number = sent.packet.number;
  hop = hop;
  link = link;
  size = sent.packet.size;
  at = sent.at;
  eligible = sent.eligible;
  departed = suc clock;
}

head-same : {X : Type 0} (x y : X) → x ∷ [] ≡ y ∷ [] → x ≡ y
head-same x y same = ap (first-or x) same where
  first-or : {X : Type 0} → X → List X → X
  first-or d [] = d
  first-or d (z ∷ zs) = z

none-told : {X : Type 0} (x : X) → [] ≡ x ∷ [] → ⊥
none-told x same = (let clash : [] ≡ x ∷ [] = same in cc)

-- a row whose hop the offers tell is the same whatever offers follow
pub row-stays : (run later : List Done) (link : LinkNo) (reply : Reply) (told : HopRow) → rows_by run link reply ≡ told ∷ [] → (told.hop ≡ 0 → ⊥) → rows_by (run ++ later) link reply ≡ told ∷ []
row-stays run later link (Ticked clock full (Some sent) best_sent best_lost) told is there =
    let c = channel_number sent.packet.chan in
    let n = link_number link in
    let hop : hop_among n (links_of c run) ≡ told.hop = ap (λ (row : HopRow). row.hop) (head-same (row_of (links_of c run) link clock sent) told is) in
    ap (λ h. row-at link clock sent h ∷ []) (hops-stay run later c n (λ none. there (sym hop ∙ none))) ∙ is
row-stays run later link (Ticked clock full None best_sent best_lost) told is there = absurd (none-told told is)
row-stays run later link (Offer level reach) told is there = absurd (none-told told is)
row-stays run later link (Relaxed clock) told is there = absurd (none-told told is)
row-stays run later link Denied told is there = absurd (none-told told is)
row-stays run later link (Planned clock) told is there = absurd (none-told told is)
row-stays run later link (Closing count cancelled) told is there = absurd (none-told told is)
row-stays run later link (Taken clock eligible) told is there = absurd (none-told told is)
row-stays run later link (Refused refusal) told is there = absurd (none-told told is)

-- a row with the hop that other offers tell is the one that they tell
pub row-again : (run other : List Done) (link : LinkNo) (reply : Reply) (told : HopRow) → rows_by run link reply ≡ told ∷ [] → map (with_hop other) (told ∷ []) ≡ rows_by other link reply
row-again run other link (Ticked clock full (Some sent) best_sent best_lost) told is = ap (map (with_hop other)) (sym is)
row-again run other link (Ticked clock full None best_sent best_lost) told is = absurd (none-told told is)
row-again run other link (Offer level reach) told is = absurd (none-told told is)
row-again run other link (Relaxed clock) told is = absurd (none-told told is)
row-again run other link Denied told is = absurd (none-told told is)
row-again run other link (Planned clock) told is = absurd (none-told told is)
row-again run other link (Closing count cancelled) told is = absurd (none-told told is)
row-again run other link (Taken clock eligible) told is = absurd (none-told told is)
row-again run other link (Refused refusal) told is = absurd (none-told told is)
