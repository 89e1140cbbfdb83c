-- What the scripts of a load are made of: how many requests there are, that their names differ, what is opened and closed, and the load
-- of the packets.
use Rattle.std.proofs.Common.{◌≡◌, ◌≢◌, ℕ, zero, suc, ◌+◌, ◌*◌, ◌<◌, ◌≤◌, Bool, true, false, not, nat_eq, ◌||◌, List, [], ◌∷◌, ◌++◌, length, refl, ap, ◌∙◌, inl, inr, arith}
use Rattle.std.proofs.Math.Nat.{min-eq_right}
use Rattle.std.proofs.lemmas.Bool.{cases_Bool, cases_lt, eqb-true, eq-eqb, ne_eqb, or_left, or_right}
use Rattle.std.proofs.lemmas.List.{append-nil, length-append, map-append}
use Rattle.std.proofs.lemmas.List.Folds.{list_any-append}
use Rattle.std.proofs.lemmas.Nat.{mul-le}
use Rattle.std.specs.List.{list_any, slice_get}
use Rattle.std.specs.Prelude.{◌%◌}
use Rattle.net_units.specs.Numbers.{actor_number, channel_number, actor_at, channel_at}
use Rattle.link_steps.proofs.SearchAndFilter.{Each-append}
use Rattle.link_steps.specs.Lists.{Each}
use Rattle.call_script.proofs.ScriptLoads.{load-append, over-push}
use Rattle.call_script.specs.Rules.{is_named, is_new, request_names, is_in, hops_of, loads_with, loads_after, ops_load, ops_over, load_in}
use Rattle.call_script.specs.declared.entries.RequestEntry.{RequestEntry}
use Rattle.call_script.specs.declared.operations.Op.TheVariants.{Open, Send}
use Rattle.call_script.specs.declared.roles.Role.TheVariants as role
use Rattle.load_maker.proofs.DrawnWithinLimits.{load-fits}
use Rattle.load_maker.proofs.NameText.{names-apart}
use Rattle.load_maker.proofs.RouteFits.{crosses}
use Rattle.load_maker.proofs.CallerShares.{share-own, share-other}
use Rattle.load_maker.specs.Draws.{state_after}
use Rattle.load_maker.specs.Loads.{load_at}
use Rattle.load_maker.specs.Made.{request_name, request_entry_of, belongs_to, share, first_channel, close_before, ops_for, own_requests, own_ops, caller_entry, requests_to, callers_to}
use Rattle.load_maker.specs.declared.load.Load.{Load}

-- ---- numbers

pub channel-is : (n : ℕ) → n < 1048576 → channel_number (channel_at n) ≡ n
channel-is n few = min-eq_right (omega (arith, few))

pub actor-is : (n : ℕ) → n ≤ 64 → actor_number (actor_at n) ≡ n
actor-is n few = min-eq_right few

-- ---- a request more

pub requests-own : (number first caller n : ℕ) → belongs_to caller n ≡ true → own_requests number first caller (suc n) ≡ own_requests number first caller n ++ request_entry_of (load_at number n) n caller (first + share caller n) ∷ []
unfolding own_requests
requests-own number first caller n own = rw own refl

pub requests-other : (number first caller n : ℕ) → belongs_to caller n ≡ false → own_requests number first caller (suc n) ≡ own_requests number first caller n
unfolding own_requests
requests-other number first caller n other = rw other (append-nil (own_requests number first caller n))

pub ops-own : (number first caller n : ℕ) → belongs_to caller n ≡ true → own_ops number first caller (suc n) ≡ own_ops number first caller n ++ ops_for (load_at number n) first (share caller n)
unfolding own_ops
ops-own number first caller n own = rw own refl

pub ops-other : (number first caller n : ℕ) → belongs_to caller n ≡ false → own_ops number first caller (suc n) ≡ own_ops number first caller n
unfolding own_ops
ops-other number first caller n other = rw other (append-nil (own_ops number first caller n))

-- ---- how many there are

pub own-length : (number first caller n : ℕ) → length (own_requests number first caller n) ≡ share caller n
unfolding own_requests share
own-length number first caller zero = refl
own-length number first caller (suc n) =
    let rest = own-length number first caller n in
    elim (cases_Bool (belongs_to caller n)) [
      | inl own ↦ (let both = length-append (own_requests number first caller n) (request_entry_of (load_at number n) n caller (first + share caller n) ∷ []) in rw own (omega (arith, both, rest)))
      | inr other ↦ (let both = length-append (own_requests number first caller n) [] in rw other (omega (arith, both, rest)))
    ]

pub requests-length : (number size n : ℕ) → length (requests_to number size n) ≡ first_channel size n
unfolding requests_to first_channel
requests-length number size zero = refl
requests-length number size (suc n) =
    let rest = requests-length number size n in
    let own = own-length number (first_channel size n) n size in
    let both = length-append (requests_to number size n) (own_requests number (first_channel size n) n size) in
    omega (arith, rest, own, both)

pub callers-length : (number size n : ℕ) → length (callers_to number size n) ≡ n
unfolding callers_to
callers-length number size zero = refl
callers-length number size (suc n) =
    let rest = callers-length number size n in
    let both = length-append (callers_to number size n) (caller_entry number size n ∷ []) in
    omega (arith, rest, both)

-- ---- names

neither : (a b : Bool) → not a ≡ true → not b ≡ true → not (a || b) ≡ true
neither false b one two = two
neither true b one two = cc

new-both : (xs ys : List (List ℕ)) (name : List ℕ) → is_new xs name ≡ true → is_new ys name ≡ true → is_new (xs ++ ys) name ≡ true
new-both xs ys name one two = ap not (list_any-append (is_named name) xs ys) ∙ neither (list_any (is_named name) xs) (list_any (is_named name) ys) one two

pub new-entries : (xs ys : List RequestEntry) (name : List ℕ) → is_new (request_names xs) name ≡ true → is_new (request_names ys) name ≡ true → is_new (request_names (xs ++ ys)) name ≡ true
new-entries xs ys name one two = ap (λ names. is_new names name) (map-append (λ (e : RequestEntry). e.name) xs ys) ∙ new-both (request_names xs) (request_names ys) name one two

new-one : (n m : ℕ) → n < 1024 → m < 1024 → n ≢ m → is_new (request_name m ∷ []) (request_name n) ≡ true
new-one n m few_n few_m apart = rw (names-apart n m few_n few_m apart) refl

pub own-new : (number first caller n m : ℕ) → n < 1024 → m ≤ 1024 → ((i : ℕ) → i < m → belongs_to caller i ≡ true → n ≢ i) → is_new (request_names (own_requests number first caller m)) (request_name n) ≡ true
unfolding own_requests
own-new number first caller n zero few_n few_m apart = refl
own-new number first caller n (suc m) few_n few_m apart =
    let rest = own-new number first caller n m few_n (omega (arith, few_m)) (λ i less own. apart i (omega (arith, less)) own) in
    elim (cases_Bool (belongs_to caller m)) [
      | inl own ↦ rw own (new-entries (own_requests number first caller m) (request_entry_of (load_at number m) m caller (first + share caller m) ∷ []) (request_name n) rest (new-one n m few_n (omega (arith, few_m)) (apart m (omega arith) own)))
      | inr other ↦ rw other (new-entries (own_requests number first caller m) [] (request_name n) rest refl)
    ]

pub requests-new : (number size n callers : ℕ) → n < 1024 → size ≤ 1024 → callers ≤ n % 4 → is_new (request_names (requests_to number size callers)) (request_name n) ≡ true
unfolding requests_to
requests-new number size n zero few_n few within = refl
requests-new number size n (suc callers) few_n few within =
    new-entries (requests_to number size callers) (own_requests number (first_channel size callers) callers size) (request_name n)
    (requests-new number size n callers few_n few (omega (arith, within)))
    (own-new number (first_channel size callers) callers n size few_n few (λ i less own same. (
    let is : i % 4 ≡ callers = eqb-true (i % 4) callers own in
    let also : n % 4 ≡ i % 4 = ap (λ k. k % 4) same in
    omega (arith, is, also, within))))

-- ---- routes are short

abbrev pub IsShort : RequestEntry → Type 0
IsShort entry = length entry.request.route ≤ 4

pub entry-short : (number n caller chan : ℕ) → IsShort (request_entry_of (load_at number n) n caller chan)
entry-short number n caller chan = (let fits = load-fits (state_after (6 * n) number) in (crosses (load_at number n).first (load_at number n).hops fits.some fits.within).long)

pub own-short : (number first caller n : ℕ) → Each IsShort (own_requests number first caller n)
unfolding own_requests
own-short number first caller zero = tt
own-short number first caller (suc n) =
    elim (cases_Bool (belongs_to caller n)) [
      | inl own ↦ rw own (Each-append IsShort (own_requests number first caller n) (request_entry_of (load_at number n) n caller (first + share caller n) ∷ []) (own-short number first caller n) (entry-short number n caller (first + share caller n), tt))
      | inr other ↦ rw other (Each-append IsShort (own_requests number first caller n) [] (own-short number first caller n) tt)
    ]

pub requests-short : (number size n : ℕ) → Each IsShort (requests_to number size n)
unfolding requests_to
requests-short number size zero = tt
requests-short number size (suc n) = Each-append IsShort (requests_to number size n) (own_requests number (first_channel size n) n size) (requests-short number size n) (own-short number (first_channel size n) n size)

pub hops-few : (requests : List RequestEntry) → Each IsShort requests → (n : ℕ) → hops_of (slice_get requests n) ≤ 4
hops-few [] short zero = omega arith
hops-few [] short (suc n) = omega arith
hops-few (entry ∷ requests) short zero = short.0
hops-few (entry ∷ requests) short (suc n) = hops-few requests short.1 n

-- ---- the packets, whatever the requests have to carry so far: none move

close-load : (requests : List RequestEntry) (loads : List ℕ) (first place : ℕ) → ops_load requests loads (close_before first place) ≡ 0
unfolding ops_load
close-load requests loads first zero = refl
close-load requests loads first (suc zero) = refl
close-load requests loads first (suc (suc place)) = refl

pub send-load : (requests : List RequestEntry) → Each IsShort requests → (count n : ℕ) → count ≤ 16 → count * hops_of (slice_get requests n) ≤ 64
send-load requests short count n few = mul-le count (hops_of (slice_get requests n)) 16 4 few (hops-few requests short n)

one-load : (requests : List RequestEntry) (loads : List ℕ) (load : Load) (first place : ℕ) → Each IsShort requests → load.count ≤ 16 → ops_load requests loads (ops_for load first place) ≤ 64
unfolding ops_load
one-load requests loads load first place short few =
    let sent = send-load requests short load.count (channel_number (channel_at (first + place))) few in
    let opened = loads_with loads (Open (channel_at (first + place))) in
    let closed = close-load requests (loads_with opened (Send (channel_at (first + place)) load.count load.contract.xave load.contract.smax)) first place in
    omega (arith, sent, closed)

pub own-load : (requests : List RequestEntry) (loads : List ℕ) (number first caller n : ℕ) → Each IsShort requests → ops_load requests loads (own_ops number first caller n) ≤ 64 * share caller n
unfolding own_ops share ops_load
own-load requests loads number first caller zero short = omega arith
own-load requests loads number first caller (suc n) short =
    let rest = own-load requests loads number first caller n short in
    let so_far = own_ops number first caller n in
    elim (cases_Bool (belongs_to caller n)) [
      | inl own ↦
          (let one = one-load requests (loads_after loads so_far) (load_at number n) first (share caller n) short (load-fits (state_after (6 * n) number)).count in
          let both = load-append requests loads so_far (ops_for (load_at number n) first (share caller n)) in
          rw own (omega (arith, rest, one, both)))
      | inr other ↦ rw (other, append-nil so_far) rest
    ]

pub callers-load : (requests : List RequestEntry) (number size n : ℕ) → Each IsShort requests → load_in requests (callers_to number size n) ≤ 64 * first_channel size n
unfolding callers_to first_channel ops_over ops_load
callers-load requests number size zero short = omega arith
callers-load requests number size (suc n) short =
    let rest = callers-load requests number size n short in
    let before = ops_over (callers_to number size n) in
    let own = own-load requests (loads_after [] before) number (first_channel size n) n size short in
    let over = ap (ops_load requests []) (over-push (callers_to number size n) (caller_entry number size n)) in
    let both = load-append requests [] before (own_ops number (first_channel size n) n size) in
    omega (arith, rest, own, over, both)

-- ---- what is opened and closed

close-off : (first place chan : ℕ) → first + place < 1048576 → suc (first + place) ≤ chan + 2 → list_any (is_in role.Closes chan) (close_before first place) ≡ false
close-off first zero chan small below = refl
close-off first (suc zero) chan small below = refl
close-off first (suc (suc place)) chan small below =
    let is = channel-is (first + place) (omega (arith, small)) in
    let off : nat_eq (channel_number (channel_at (first + place))) chan ≡ false = ne_eqb (channel_number (channel_at (first + place))) chan (λ same. omega (arith, is, same, below)) in
    rw off refl

-- a channel that isn't two before the next one isn't closed yet
pub closed-off : (number first caller n chan : ℕ) → first + share caller n < 1048576 → first + share caller n ≤ chan + 2 → list_any (is_in role.Closes chan) (own_ops number first caller n) ≡ false
unfolding own_ops
closed-off number first caller zero chan small below = refl
closed-off number first caller (suc n) chan small below =
    elim (cases_Bool (belongs_to caller n)) [
      | inl own ↦
          (let more = share-own caller n own in
          let rest = closed-off number first caller n chan (omega (arith, small, more)) (omega (arith, below, more)) in
          let one = close-off first (share caller n) chan (omega (arith, small, more)) (omega (arith, below, more)) in
          rw (own, list_any-append (is_in role.Closes chan) (own_ops number first caller n) (ops_for (load_at number n) first (share caller n)), rest) one)
      | inr other ↦
          (let same = share-other caller n other in
          let rest = closed-off number first caller n chan (omega (arith, small, same)) (omega (arith, below, same)) in
          rw (other, append-nil (own_ops number first caller n)) rest)
    ]

-- no channel is left by a move
none-left : (load : Load) (first place chan : ℕ) → list_any (is_in role.Leaves chan) (ops_for load first place) ≡ false
none-left load first zero chan = refl
none-left load first (suc zero) chan = refl
none-left load first (suc (suc place)) chan = refl

pub left-off : (number first caller n chan : ℕ) → list_any (is_in role.Leaves chan) (own_ops number first caller n) ≡ false
unfolding own_ops
left-off number first caller zero chan = refl
left-off number first caller (suc n) chan =
    let rest = left-off number first caller n chan in
    elim (cases_Bool (belongs_to caller n)) [
      | inl own ↦ rw (own, list_any-append (is_in role.Leaves chan) (own_ops number first caller n) (ops_for (load_at number n) first (share caller n)), rest) (none-left (load_at number n) first (share caller n) chan)
      | inr other ↦ rw (other, append-nil (own_ops number first caller n)) rest
    ]

-- each channel of a caller so far is opened
pub opened-at : (number first caller n place : ℕ) → place < share caller n → first + place < 1048576 → list_any (is_in role.Opens (first + place)) (own_ops number first caller n) ≡ true
unfolding own_ops share
opened-at number first caller zero place below small = absurd (omega (arith, below))
opened-at number first caller (suc n) place below small =
    elim (cases_Bool (belongs_to caller n)) [
      | inl own ↦
          (let more : share caller (suc n) ≡ suc (share caller n) = share-own caller n own in
          let open_it = ops_for (load_at number n) first (share caller n) in
          rw (own, list_any-append (is_in role.Opens (first + place)) (own_ops number first caller n) open_it) (
          elim (cases_lt place (share caller n)) [
            | inl before ↦ or_left _ _ (opened-at number first caller n place before small)
            | inr last ↦ or_right (list_any (is_in role.Opens (first + place)) (own_ops number first caller n)) _ (or_left _ _ (
                let is = channel-is (first + share caller n) (let same : place ≡ share caller n = omega (arith, last, below, more) in omega (arith, same, small)) in
                eq-eqb (channel_number (channel_at (first + share caller n))) (first + place) (omega (arith, is, last, below, more))))
          ]))
      | inr other ↦ (let same = share-other caller n other in rw (other, append-nil (own_ops number first caller n)) (opened-at number first caller n place (omega (arith, below, same)) small))
    ]
