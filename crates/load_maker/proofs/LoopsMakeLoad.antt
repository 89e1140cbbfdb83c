-- What the loops of the making come to.
use Rattle.std.proofs.Common.{◌≡◌, ℕ, suc, ◌+◌, ◌*◌, ◌-◌, ◌<◌, ◌≤◌, true, false, List, [], ◌∷◌, ◌++◌, length, take, drop, decimal, sym, ap, ◌∙◌, subst, append_assoc, arith}
use Rattle.std.proofs.lemmas.Bool.{eq-eqb, ne_eqb}
use Rattle.std.proofs.lemmas.List.{append-nil, length-append}
use Rattle.std.specs.Prelude.{◌%◌, ◌≢◌}
use Rattle.net_units.specs.Text.{is_name}
use Rattle.hop_reservation.specs.Routes.{IsRoute}
use Rattle.hop_reservation.specs.declared.route.Hop.{Hop}
use Rattle.setup_protocol.specs.declared.request.Control.{Control}
use Rattle.traffic_contract.specs.Contract.{Traffic}
use Rattle.call_script.specs.declared.entries.CallerEntry.{CallerEntry}
use Rattle.call_script.specs.declared.entries.RequestEntry.{RequestEntry}
use Rattle.call_script.specs.declared.operations.Op.{Op}
use Rattle.call_script.specs.Parts.{PlanParts, parts_of}
use Rattle.call_script.specs.Plans.{IsPlan}
use Rattle.call_script.specs.declared.entries.LinkEntry.{LinkEntry}
use Rattle.call_script.specs.declared.version.Version.TheVariants.{One}
use Rattle.load_maker.proofs.Growth.{made-is-plan}
use Rattle.load_maker.proofs.DrawnWithinLimits.{after-six}
use Rattle.load_maker.proofs.NameText.{request-name}
use Rattle.load_maker.proofs.RouteFits.{crosses}
use Rattle.load_maker.proofs.LoadScripts.{own-length, requests-own, requests-other, ops-own, ops-other, requests-length}
use Rattle.load_maker.proofs.CallerShares.{share-most, first-below}
use Rattle.load_maker.specs.Draws.{next_state, state_after, told_by, draw}
use Rattle.load_maker.specs.Loads.{contract_drawn, control_of, load_from, load_at}
use Rattle.load_maker.specs.Made.{short_name, hop_at, request_entry_of, belongs_to, share, first_channel, ops_for, own_requests, own_ops, caller_entry, requests_to, callers_to, made_links, made_parts}
use Rattle.load_maker.specs.declared.load.Load.{Load}

pub never : false ≡ true → ⊥
never same = cc

-- ---- names and routes

pub named : (n : ℕ) (bytes : List ℕ) → bytes ≡ 114 ∷ decimal (n + 1) → n < 1024 → is_name bytes ≡ true
named n bytes same few =
    let one : n + 1 ≡ suc n = omega arith in
    ap is_name (same ∙ ap (λ (k : ℕ). 114 ∷ decimal k) one) ∙ request-name n few

pub route-there : (first hops : ℕ) (one two three four : Hop) → one ≡ hop_at 0 → two ≡ hop_at 1 → three ≡ hop_at 2 → four ≡ hop_at 3 → 1 ≤ hops → first + hops ≤ 4 → IsRoute (take (first + hops - first) (drop first (one ∷ two ∷ three ∷ four ∷ [])))
route-there first hops one two three four is_one is_two is_three is_four some within =
    let long : first + hops - first ≡ hops = omega arith in
    rw (long, is_one, is_two, is_three, is_four) (crosses first hops some within).route

-- ---- a load

pub load-is : (x s1 s2 s3 s4 s5 s6 d1 d2 d3 d4 d5 d6 : ℕ) (contract : Traffic) (control : Control)
    → s1 ≡ next_state x → s2 ≡ next_state s1 → s3 ≡ next_state s2 → s4 ≡ next_state s3 → s5 ≡ next_state s4 → s6 ≡ next_state s5
    → d1 ≡ told_by s1 → d2 ≡ told_by s2 → d3 ≡ told_by s3 → d4 ≡ told_by s4 → d5 ≡ told_by s5 → d6 ≡ told_by s6
    → contract ≡ contract_drawn (d3 % 4) → control ≡ control_of (d5 % 2)
    → ◌≡◌ {A = Load} (record { hops = 1 + d1 % 4; first = d2 % (5 - (1 + d1 % 4)); contract = contract; delay = 105 * (1 + d1 % 4) + 400 * (d4 % 4); control = control; count = 1 + d6 % 16 }) (load_from x)
unfolding state_after
load-is x s1 s2 s3 s4 s5 s6 d1 d2 d3 d4 d5 d6 contract control i1 i2 i3 i4 i5 i6 v1 v2 v3 v4 v5 v6 is_contract is_control =
    let a1 : s1 ≡ state_after 1 x = i1 in
    let a2 : s2 ≡ state_after 2 x = i2 ∙ ap next_state a1 in
    let a3 : s3 ≡ state_after 3 x = i3 ∙ ap next_state a2 in
    let a4 : s4 ≡ state_after 4 x = i4 ∙ ap next_state a3 in
    let a5 : s5 ≡ state_after 5 x = i5 ∙ ap next_state a4 in
    let a6 : s6 ≡ state_after 6 x = i6 ∙ ap next_state a5 in
    let w1 : d1 ≡ draw 1 x = v1 ∙ ap told_by a1 in
    let w2 : d2 ≡ draw 2 x = v2 ∙ ap told_by a2 in
    let w3 : d3 ≡ draw 3 x = v3 ∙ ap told_by a3 in
    let w4 : d4 ≡ draw 4 x = v4 ∙ ap told_by a4 in
    let w5 : d5 ≡ draw 5 x = v5 ∙ ap told_by a5 in
    let w6 : d6 ≡ draw 6 x = v6 ∙ ap told_by a6 in
    let k : contract ≡ contract_drawn (draw 3 x % 4) = is_contract ∙ ap (λ d. contract_drawn (d % 4)) w3 in
    let j : control ≡ control_of (draw 5 x % 2) = is_control ∙ ap (λ d. control_of (d % 2)) w5 in
    λ i. record {
      hops = 1 + w1 i % 4;
      first = w2 i % (5 - (1 + w1 i % 4));
      contract = k i;
      delay = 105 * (1 + w1 i % 4) + 400 * (w4 i % 4);
      control = j i;
      count = 1 + w6 i % 16;
    }

-- ---- the requests of a caller

pub no-requests : (number caller : ℕ) (requests : List RequestEntry) → requests ≡ requests ++ own_requests number (length requests) caller 0
unfolding own_requests
no-requests number caller requests = sym (append-nil requests)

pub no-ops : (number first caller : ℕ) (ops : List Op) → ops ≡ [] → ops ≡ own_ops number first caller 0
unfolding own_ops
no-ops number first caller ops none = none

pub no-draws : (number state : ℕ) → state ≡ number → state ≡ state_after (6 * 0) number
unfolding state_after
no-draws number state is = is

pub draws-more : (number n state next : ℕ) → state ≡ state_after (6 * n) number → next ≡ state_after 6 state → next ≡ state_after (6 * (n + 1)) number
draws-more number n state next is moved = moved ∙ ap (state_after 6) is ∙ after-six n number

-- the next request's channel
pub chan-is : (number caller n : ℕ) (old before : List RequestEntry) → before ≡ old ++ own_requests number (length old) caller n → length before ≡ length old + share caller n
chan-is number caller n old before is =
    let both = length-append old (own_requests number (length old) caller n) in
    let own = own-length number (length old) caller n in
    let same : length before ≡ length (old ++ own_requests number (length old) caller n) = ap length is in
    omega (arith, both, own, same)

pub chan-small : (number caller n size chan : ℕ) (old before : List RequestEntry) → before ≡ old ++ own_requests number (length old) caller n → chan ≡ length before → length old ≤ 1024 → n < size → size ≤ 1024 → chan < 1048576
chan-small number caller n size chan old before is same few less most =
    let number_is = chan-is number caller n old before is in
    let own = share-most caller n in
    omega (arith, number_is, own, same, few, less, most)

pub place-small : (number caller n size chan first : ℕ) (old before : List RequestEntry) → before ≡ old ++ own_requests number (length old) caller n → chan ≡ length before → first ≡ length old → length old ≤ 1024 → n < size → size ≤ 1024 → first + (chan - first) < 1048576
place-small number caller n size chan first old before is same begun few less most =
    let number_is = chan-is number caller n old before is in
    let own = share-most caller n in
    omega (arith, number_is, own, same, begun, few, less, most)

load-here : (number n state : ℕ) (load : Load) → load ≡ load_from state → state ≡ state_after (6 * n) number → load ≡ load_at number n
load-here number n state load from is = from ∙ ap load_from is

own-is : (caller n from : ℕ) → n % 4 ≡ from → from ≡ caller → belongs_to caller n ≡ true
own-is caller n from same is = eq-eqb (n % 4) caller (same ∙ is)

next-is : (n : ℕ) → suc n ≡ n + 1
next-is n = omega arith

pub requests-more : (number caller n from chan state : ℕ) (load : Load) (entry : RequestEntry) (old before after : List RequestEntry) → n % 4 ≡ from → from ≡ caller → load ≡ load_from state → state ≡ state_after (6 * n) number
    → before ≡ old ++ own_requests number (length old) caller n → chan ≡ length before → entry ≡ request_entry_of load n caller chan → after ≡ before ++ entry ∷ [] → after ≡ old ++ own_requests number (length old) caller (n + 1)
requests-more number caller n from chan state load entry old before after same is loads draws so_far there made more =
    let own = own-is caller n from same is in
    let here = load-here number n state load loads draws in
    let number_is : chan ≡ length old + share caller n = there ∙ chan-is number caller n old before so_far in
    let entry_is : entry ≡ request_entry_of (load_at number n) n caller (length old + share caller n) = made ∙ ap (λ (l : Load). request_entry_of l n caller chan) here ∙ ap (request_entry_of (load_at number n) n caller) number_is in
    more ∙ ap (λ (xs : List RequestEntry). xs ++ entry ∷ []) so_far ∙ append_assoc old (own_requests number (length old) caller n) (entry ∷ [])
    ∙ ap (λ (e : RequestEntry). old ++ (own_requests number (length old) caller n ++ e ∷ [])) entry_is ∙ ap (λ xs. old ++ xs) (sym (requests-own number (length old) caller n own)) ∙ ap (λ k. old ++ own_requests number (length old) caller k) (next-is n)

pub ops-more : (number caller n from chan state first : ℕ) (load : Load) (old before : List RequestEntry) (ops after : List Op) → n % 4 ≡ from → from ≡ caller → load ≡ load_from state → state ≡ state_after (6 * n) number
    → before ≡ old ++ own_requests number (length old) caller n → chan ≡ length before → first ≡ length old → ops ≡ own_ops number (length old) caller n → after ≡ ops ++ ops_for load first (chan - first) → after ≡ own_ops number (length old) caller (n + 1)
ops-more number caller n from chan state first load old before ops after same is loads draws so_far there begun ops_far more =
    let own = own-is caller n from same is in
    let here = load-here number n state load loads draws in
    let number_is = chan-is number caller n old before so_far in
    let place : chan - first ≡ share caller n = omega (arith, number_is, there, begun) in
    let all : ops_for load first (chan - first) ≡ ops_for (load_at number n) (length old) (share caller n) = ap (λ (l : Load). ops_for l first (chan - first)) here ∙ ap (λ f. ops_for (load_at number n) f (chan - first)) begun ∙ ap (ops_for (load_at number n) (length old)) place in
    more ∙ ap (λ (xs : List Op). xs ++ ops_for load first (chan - first)) ops_far ∙ ap (λ xs. own_ops number (length old) caller n ++ xs) all ∙ sym (ops-own number (length old) caller n own) ∙ ap (own_ops number (length old) caller) (next-is n)

other-is : (caller n from : ℕ) → n % 4 ≢ from → from ≡ caller → belongs_to caller n ≡ false
other-is caller n from apart is = ne_eqb (n % 4) caller (λ same. apart (same ∙ sym is))

pub requests-stay : (number caller n from : ℕ) (old before after : List RequestEntry) → n % 4 ≢ from → from ≡ caller → before ≡ old ++ own_requests number (length old) caller n → after ≡ before → after ≡ old ++ own_requests number (length old) caller (n + 1)
requests-stay number caller n from old before after apart is so_far same =
    same ∙ so_far ∙ ap (λ xs. old ++ xs) (sym (requests-other number (length old) caller n (other-is caller n from apart is))) ∙ ap (λ k. old ++ own_requests number (length old) caller k) (next-is n)

pub ops-stay : (number first caller n from : ℕ) (ops after : List Op) → n % 4 ≢ from → from ≡ caller → ops ≡ own_ops number first caller n → after ≡ ops → after ≡ own_ops number first caller (n + 1)
ops-stay number first caller n from ops after apart is so_far same =
    same ∙ so_far ∙ sym (ops-other number first caller n (other-is caller n from apart is)) ∙ ap (own_ops number first caller) (next-is n)

-- ---- the callers

pub nobody-yet : (number size : ℕ) (requests : List RequestEntry) → requests ≡ [] → requests ≡ requests_to number size 0
unfolding requests_to
nobody-yet number size requests none = none

pub no-callers : (number size : ℕ) (callers : List CallerEntry) → callers ≡ [] → callers ≡ callers_to number size 0
unfolding callers_to
no-callers number size callers none = none

first-is : (number size n : ℕ) (old : List RequestEntry) → old ≡ requests_to number size n → length old ≡ first_channel size n
first-is number size n old is = ap length is ∙ requests-length number size n

pub caller-requests : (number size n : ℕ) (old new : List RequestEntry) → old ≡ requests_to number size n → new ≡ old ++ own_requests number (length old) n size → new ≡ requests_to number size (n + 1)
unfolding requests_to
caller-requests number size n old new is more =
    let all : new ≡ requests_to number size (suc n) = more ∙ ap (λ xs. xs ++ own_requests number (length old) n size) is ∙ ap (λ f. requests_to number size n ++ own_requests number f n size) (first-is number size n old is) in
    all ∙ ap (requests_to number size) (next-is n)

pub caller-entries : (number size n : ℕ) (requests : List RequestEntry) (name : List ℕ) (ops : List Op) (old new : List CallerEntry) → requests ≡ requests_to number size n → name ≡ short_name 107 n → ops ≡ own_ops number (length requests) n size → old ≡ callers_to number size n → new ≡ old ++ record { name = name; group = 0; ops = ops } ∷ [] → new ≡ callers_to number size (n + 1)
unfolding callers_to
caller-entries number size n requests name ops old new are name_is ops_are is more =
    let script : ops ≡ own_ops number (first_channel size n) n size = ops_are ∙ ap (λ f. own_ops number f n size) (first-is number size n requests are) in
    let entry : ◌≡◌ {A = CallerEntry} (record { name = name; group = 0; ops = ops }) (caller_entry number size n) = λ i. record { name = name_is i; group = 0; ops = script i } in
    let all : new ≡ callers_to number size (suc n) = more ∙ ap (λ (xs : List CallerEntry). xs ++ record { name = name; group = 0; ops = ops } ∷ []) is ∙ ap (λ (e : CallerEntry). callers_to number size n ++ e ∷ []) entry in
    all ∙ ap (callers_to number size) (next-is n)

pub requests-few : (number size n : ℕ) (old : List RequestEntry) → old ≡ requests_to number size n → n < 4 → size ≤ 1024 → length old ≤ 1024
requests-few number size n old is less few =
    let long = first-is number size n old is in
    let all = first-below size n less in
    omega (arith, long, all, few)

-- ---- the plan

pub parts-are : (number size n : ℕ) (links : List LinkEntry) (requests : List RequestEntry) (callers : List CallerEntry) → links ≡ made_links → requests ≡ requests_to number size n → callers ≡ callers_to number size n → 4 ≤ n → n ≤ 4 → parts_of One links requests callers 4000 1000 ≡ made_parts number size
parts-are number size n links requests callers links_are requests_are callers_are least most =
    let four : n ≡ 4 = omega (arith, least, most) in
    let all_requests : requests ≡ requests_to number size 4 = requests_are ∙ ap (requests_to number size) four in
    let all_callers : callers ≡ callers_to number size 4 = callers_are ∙ ap (callers_to number size) four in
    λ i. record { version = One; links = links_are i; groups = []; requests = all_requests i; callers = all_callers i; rounds = 4000; tail = 1000 }

pub plan-of : (number size : ℕ) (parts : PlanParts) → size ≤ 1024 → parts ≡ made_parts number size → IsPlan parts
plan-of number size parts few is = subst IsPlan (sym is) (made-is-plan number size few)
