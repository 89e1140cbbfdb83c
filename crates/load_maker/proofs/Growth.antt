-- The parts of a load's plan grow a line at a time, so they keep the rules of a plan.
use Rattle.std.proofs.Common.{◌≡◌, ℕ, zero, suc, ◌+◌, ◌*◌, ◌<◌, ◌≤◌, true, false, ◌||◌, Some, List, [], ◌∷◌, ◌++◌, length, refl, sym, ap, ◌∙◌, subst, inl, inr, append_assoc, arith}
use Rattle.std.proofs.lemmas.Bool.{cases_Bool, eqb-true, eq-eqb, or_left, or_right}
use Rattle.std.proofs.lemmas.List.{append-nil, length-append}
use Rattle.std.proofs.lemmas.List.Folds.{list_any-append}
use Rattle.std.proofs.lemmas.Option.{same_Some}
use Rattle.std.specs.List.{All, list_any, slice_get}
use Rattle.std.specs.Prelude.{◌%◌}
use Rattle.net_units.specs.Numbers.{link_number, channel_number, channel_at}
use Rattle.net_units.specs.declared.numbers.ChanNo.{ChanNo}
use Rattle.link_steps.proofs.SearchAndFilter.{Each-append}
use Rattle.link_steps.specs.Lists.{Each}
use Rattle.call_script.proofs.ScriptLoads.{load-append, over-push}
use Rattle.call_script.proofs.Growing.{caller-keeps, open-keeps, send-keeps, close-keeps, rounds-keep, tail-keeps, grown-is-plan}
use Rattle.call_script.specs.Growing.{last_ops, with_rounds, MayOpen, MaySend, IsOpenedThere, KeepSoFar}
use Rattle.call_script.specs.Groups.{KeepGroups}
use Rattle.call_script.specs.Parts.{PlanParts, parts_of, openings_of, LeavesUnused}
use Rattle.call_script.specs.Plans.{IsPlan}
use Rattle.call_script.specs.Rules.{each_after, have_version, have_names, are_there, are_in_range, are_few, are_joined, are_unclosed, pours_are_taken, is_new, caller_names, is_in, loads_after, ops_load, ops_over, load_in, moves_are_fit}
use Rattle.call_script.specs.declared.entries.CallerEntry.{CallerEntry}
use Rattle.call_script.specs.declared.entries.LinkEntry.{LinkEntry}
use Rattle.call_script.specs.declared.entries.RequestEntry.{RequestEntry}
use Rattle.call_script.specs.declared.operations.Op.{Op}
use Rattle.call_script.specs.declared.operations.Op.TheVariants.{Open, Send, Close}
use Rattle.call_script.specs.declared.roles.Role.TheVariants as role
use Rattle.call_script.specs.declared.roles.Role.{Role}
use Rattle.call_script.specs.declared.version.Version.TheVariants.{One}
use Rattle.load_maker.proofs.DrawnWithinLimits.{load-fits}
use Rattle.load_maker.proofs.RouteFits.{crosses}
use Rattle.load_maker.proofs.LoadScripts.{channel-is, actor-is, own-length, requests-length, callers-length, new-entries, own-new, requests-new, IsShort, entry-short, own-short, requests-short, send-load, own-load, callers-load, closed-off, left-off, opened-at}
use Rattle.load_maker.proofs.CallerShares.{share-below, first-below}
use Rattle.load_maker.specs.Draws.{state_after}
use Rattle.load_maker.specs.Loads.{load_at}
use Rattle.load_maker.specs.Made.{short_name, link_entry, made_links, request_entry_of, belongs_to, share, first_channel, close_before, ops_for, own_requests, own_ops, requests_to, callers_to, made_parts}
use Rattle.call_script.proofs.GroupRulesStay.{no-groups, none-unused, groups-with-link}
use Rattle.call_script.proofs.OneMoreOperation.{added-last, last-of}

-- ---- the caller at hand

-- a caller of these operations
abbrev caller_of : List ℕ → List Op → CallerEntry
caller_of name ops = record { name = name; group = 0; ops = ops }

-- the parts with these requests and callers, and after them the caller at hand
abbrev at_hand : List RequestEntry → List CallerEntry → List ℕ → List Op → PlanParts
at_hand requests before name ops = parts_of One made_links requests (before ++ caller_of name ops ∷ []) 0 0

-- what the operations of the caller at hand are to the channel of this number
at-last : (requests : List RequestEntry) (before : List CallerEntry) (name : List ℕ) (ops : List Op) (n : ℕ) (what : Role) → n < 1048576
    → list_any (is_in what (channel_number (channel_at n))) (last_ops (before ++ caller_of name ops ∷ [])) ≡ list_any (is_in what n) ops
at-last requests before name ops n what few =
    ap (λ k. list_any (is_in what k) (last_ops (before ++ caller_of name ops ∷ []))) (channel-is n few) ∙ ap (list_any (is_in what n)) (last-of before (caller_of name ops))

-- a channel of this number is opened, and not closed
opened-there : (requests : List RequestEntry) (before : List CallerEntry) (name : List ℕ) (ops : List Op) (n : ℕ) → n < 1048576 → list_any (is_in role.Opens n) ops ≡ true → list_any (is_in role.Closes n) ops ≡ false → IsOpenedThere (at_hand requests before name ops) (channel_at n)
opened-there requests before name ops n few opened closed =
    record {
      opened = at-last requests before name ops n role.Opens few ∙ opened;
      unclosed = at-last requests before name ops n role.Closes few ∙ closed;
    }

-- ---- a send and a close more

send-more : (requests : List RequestEntry) (before : List CallerEntry) (name : List ℕ) (ops : List Op) (chan : ChanNo) (count gap size : ℕ) → KeepSoFar (at_hand requests before name ops) → MaySend (at_hand requests before name ops) chan count gap size
    → KeepSoFar (at_hand requests before name (ops ++ Send chan count gap size ∷ []))
send-more requests before name ops chan count gap size keep may =
    subst (λ callers. KeepSoFar (parts_of One made_links requests callers 0 0)) (added-last (Send chan count gap size) before (caller_of name ops)) (send-keeps (at_hand requests before name ops) chan count gap size keep may)

close-one : (requests : List RequestEntry) (before : List CallerEntry) (name : List ℕ) (ops : List Op) (chan : ChanNo) → KeepSoFar (at_hand requests before name ops) → IsOpenedThere (at_hand requests before name ops) chan → KeepSoFar (at_hand requests before name (ops ++ Close chan ∷ []))
close-one requests before name ops chan keep there =
    subst (λ callers. KeepSoFar (parts_of One made_links requests callers 0 0)) (added-last (Close chan) before (caller_of name ops)) (close-keeps (at_hand requests before name ops) chan keep there)

none-more : (requests : List RequestEntry) (before : List CallerEntry) (name : List ℕ) (ops : List Op) → KeepSoFar (at_hand requests before name ops) → KeepSoFar (at_hand requests before name (ops ++ []))
none-more requests before name ops keep = subst (λ all. KeepSoFar (at_hand requests before name all)) (sym (append-nil ops)) keep

close-more : (requests : List RequestEntry) (before : List CallerEntry) (name : List ℕ) (ops : List Op) (first place : ℕ) → first + place < 1048576 → KeepSoFar (at_hand requests before name ops)
    → ((earlier : ℕ) → place ≡ suc (suc earlier) → list_any (is_in role.Opens (first + earlier)) ops ≡ true) → ((earlier : ℕ) → place ≡ suc (suc earlier) → list_any (is_in role.Closes (first + earlier)) ops ≡ false)
    → KeepSoFar (at_hand requests before name (ops ++ close_before first place))
close-more requests before name ops first zero small keep opened closed = none-more requests before name ops keep
close-more requests before name ops first (suc zero) small keep opened closed = none-more requests before name ops keep
close-more requests before name ops first (suc (suc place)) small keep opened closed =
    close-one requests before name ops (channel_at (first + place)) keep (opened-there requests before name ops (first + place) (omega (arith, small)) (opened place refl) (closed place refl))

-- ---- a request more

-- where a caller's next request is made
record Next (number size caller n : ℕ) : Type 0 where
  within : n < size
  few : size ≤ 1024
  caller_few : caller < 4
  own : belongs_to caller n ≡ true

abbrev first_of : ℕ → ℕ → ℕ
first_of size caller = first_channel size caller

-- the requests so far, and the operations of the caller so far
abbrev so_far : ℕ → ℕ → ℕ → ℕ → List RequestEntry
so_far number size caller n = requests_to number size caller ++ own_requests number (first_of size caller) caller n

abbrev ops_far : ℕ → ℕ → ℕ → ℕ → List Op
ops_far number size caller n = own_ops number (first_of size caller) caller n

-- the channel of the next request
abbrev next_of : ℕ → ℕ → ℕ → ℕ
next_of size caller n = first_of size caller + share caller n

next-few : (number size caller n : ℕ) → Next number size caller n → next_of size caller n < 1024
next-few number size caller n next =
    let below = share-below caller n size next.within next.own in
    let all = first-below size caller next.caller_few in
    omega (arith, below, all, next.few)

far-length : (number size caller n : ℕ) → length (so_far number size caller n) ≡ next_of size caller n
far-length number size caller n =
    let before = requests-length number size caller in
    let own = own-length number (first_of size caller) caller n in
    let both = length-append (requests_to number size caller) (own_requests number (first_of size caller) caller n) in
    omega (arith, before, own, both)

far-short : (number size caller n : ℕ) → Each IsShort (so_far number size caller n)
far-short number size caller n = Each-append IsShort (requests_to number size caller) (own_requests number (first_of size caller) caller n) (requests-short number size caller) (own-short number (first_of size caller) caller n)

abbrev entry_at : ℕ → ℕ → ℕ → ℕ → RequestEntry
entry_at number size caller n = request_entry_of (load_at number n) n caller (next_of size caller n)

may-open : (number size caller n : ℕ) (name : List ℕ) → Next number size caller n → MayOpen (at_hand (so_far number size caller n) (callers_to number size caller) name (ops_far number size caller n)) (entry_at number size caller n)
may-open number size caller n name next =
    let fits = load-fits (state_after (6 * n) number) in
    let way = crosses (load_at number n).first (load_at number n).hops fits.some fits.within in
    let small = next-few number size caller n next in
    let long = far-length number size caller n in
    let is : n % 4 ≡ caller = eqb-true (n % 4) caller next.own in
    let before = callers-length number size caller in
    let both = length-append (callers_to number size caller) (caller_of name (ops_far number size caller n) ∷ []) in
    let who = actor-is caller (omega (arith, next.caller_few)) in
    record {
      version = refl;
      name =
          new-entries (requests_to number size caller) (own_requests number (first_of size caller) caller n) _
          (requests-new number size n caller (omega (arith, next.within, next.few)) next.few (omega (arith, is)))
          (own-new number (first_of size caller) caller n n (omega (arith, next.within, next.few)) (omega (arith, next.within, next.few)) (λ i less own same. omega (arith, less, same)));
      few = omega (arith, small, long);
      number = channel-is (next_of size caller n) (omega (arith, small)) ∙ sym long;
      caller = omega (arith, before, both, who);
      there = way.there;
      joined = way.joined;
      range = rw (fits.delay, fits.control) refl;
      hops = way.follows;
      terms = record { contract = fits.contract; route = way.route };
    }

-- the packets so far, and those of one request more, are few
load-few : (number size caller n : ℕ) (requests : List RequestEntry) (name : List ℕ) (more : List Op) (extra : ℕ) → Next number size caller n → Each IsShort requests → ((loads : List ℕ) → ops_load requests loads more ≡ 0) → extra ≤ 64
    → load_in requests (callers_to number size caller ++ caller_of name (ops_far number size caller n ++ more) ∷ []) + extra ≤ 262144
load-few number size caller n requests name more extra next short none few =
    let earlier = ops_over (callers_to number size caller) in
    let own_ones = ops_far number size caller n in
    let before = callers-load requests number size caller short in
    let own = own-load requests (loads_after [] earlier) number (first_of size caller) caller n short in
    let small = next-few number size caller n next in
    let over = ap (ops_load requests []) (over-push (callers_to number size caller) (caller_of name (own_ones ++ more))) in
    let both = load-append requests [] earlier (own_ones ++ more) in
    let ops = load-append requests (loads_after [] earlier) own_ones more in
    let last = none (loads_after (loads_after [] earlier) own_ones) in
    omega (arith, before, own, small, over, both, ops, last, few)

-- an open adds none
opens-load : (requests : List RequestEntry) (loads : List ℕ) (chan : ℕ) → ops_load requests loads (Open (channel_at chan) ∷ []) ≡ 0
unfolding ops_load
opens-load requests loads chan = refl

request-more : (number size caller n : ℕ) (name : List ℕ) → Next number size caller n → KeepSoFar (at_hand (so_far number size caller n) (callers_to number size caller) name (ops_far number size caller n))
    → KeepSoFar (at_hand (so_far number size caller n ++ entry_at number size caller n ∷ []) (callers_to number size caller) name (ops_far number size caller n ++ ops_for (load_at number n) (first_of size caller) (share caller n)))
request-more number size caller n name next keep =
    let requests = so_far number size caller n ++ entry_at number size caller n ∷ [] in
    let before = callers_to number size caller in
    let load = load_at number n in
    let chan = next_of size caller n in
    let ops = ops_far number size caller n in
    let opens_it = Open (channel_at chan) in
    let sends_it = Send (channel_at chan) load.count load.contract.xave load.contract.smax in
    let fits = load-fits (state_after (6 * n) number) in
    let small = next-few number size caller n next in
    let short : Each IsShort requests = Each-append IsShort (so_far number size caller n) (entry_at number size caller n ∷ []) (far-short number size caller n) (entry-short number n caller chan, tt) in
    let is = channel-is chan (omega (arith, small)) in
    let first_opened : KeepSoFar (at_hand requests before name (ops ++ opens_it ∷ [])) =
    subst (λ callers. KeepSoFar (parts_of One made_links requests callers 0 0)) (added-last opens_it before (caller_of name ops)) (open-keeps (at_hand (so_far number size caller n) before name ops) (entry_at number size caller n) keep (may-open number size caller n name next)) in
    let opened_now : list_any (is_in role.Opens chan) (ops ++ opens_it ∷ []) ≡ true = list_any-append (is_in role.Opens chan) ops (opens_it ∷ []) ∙ or_right (list_any (is_in role.Opens chan) ops) _ (or_left _ _ (eq-eqb (channel_number (channel_at chan)) chan is)) in
    let closed_not : list_any (is_in role.Closes chan) (ops ++ opens_it ∷ []) ≡ false = list_any-append (is_in role.Closes chan) ops (opens_it ∷ []) ∙ ap (λ b. b || false) (closed-off number (first_of size caller) caller n chan (omega (arith, small)) (omega arith)) in
    let left_not : list_any (is_in role.Leaves chan) (ops ++ opens_it ∷ []) ≡ false = list_any-append (is_in role.Leaves chan) ops (opens_it ∷ []) ∙ ap (λ b. b || false) (left-off number (first_of size caller) caller n chan) in
    let may_send : MaySend (at_hand requests before name (ops ++ opens_it ∷ [])) (channel_at chan) load.count load.contract.xave load.contract.smax = record {
      channel = opened-there requests before name (ops ++ opens_it ∷ []) chan (omega (arith, small)) opened_now closed_not;
      unleft = at-last requests before name (ops ++ opens_it ∷ []) chan role.Leaves (omega (arith, small)) ∙ left_not;
      range = fits.packets;
      load = load-few number size caller n requests name (opens_it ∷ []) _ next short (λ loads. opens-load requests loads chan) (send-load requests short load.count (channel_number (channel_at chan)) fits.count);
    } in
    let then_sent = send-more requests before name (ops ++ opens_it ∷ []) (channel_at chan) load.count load.contract.xave load.contract.smax first_opened may_send in
    let both : (ops ++ opens_it ∷ []) ++ sends_it ∷ [] ≡ ops ++ (opens_it ∷ sends_it ∷ []) = append_assoc ops (opens_it ∷ []) (sends_it ∷ []) in
    let now_sent : KeepSoFar (at_hand requests before name (ops ++ (opens_it ∷ sends_it ∷ []))) = subst (λ all. KeepSoFar (at_hand requests before name all)) both then_sent in
    let closed : KeepSoFar (at_hand requests before name ((ops ++ (opens_it ∷ sends_it ∷ [])) ++ close_before (first_of size caller) (share caller n))) =
    close-more requests before name (ops ++ (opens_it ∷ sends_it ∷ [])) (first_of size caller) (share caller n) (omega (arith, small)) now_sent
    (λ earlier same. list_any-append (is_in role.Opens (first_of size caller + earlier)) ops (opens_it ∷ sends_it ∷ []) ∙ or_left _ _ (opened-at number (first_of size caller) caller n earlier (omega (arith, same)) (omega (arith, small, same))))
    (λ earlier same. list_any-append (is_in role.Closes (first_of size caller + earlier)) ops (opens_it ∷ sends_it ∷ []) ∙ ap (λ b. b || false) (closed-off number (first_of size caller) caller n (first_of size caller + earlier) (omega (arith, small)) (omega (arith, same)))) in
    subst (λ all. KeepSoFar (at_hand requests before name all)) (append_assoc ops (opens_it ∷ sends_it ∷ []) (close_before (first_of size caller) (share caller n))) closed

-- ---- the requests of a caller

grown-far : (number size caller n : ℕ) (name : List ℕ) → n ≤ size → size ≤ 1024 → caller < 4 → KeepSoFar (at_hand (requests_to number size caller) (callers_to number size caller) name []) → KeepSoFar (at_hand (so_far number size caller n) (callers_to number size caller) name (ops_far number size caller n))
unfolding own_requests own_ops
grown-far number size caller zero name within few caller_few keep = subst (λ requests. KeepSoFar (at_hand requests (callers_to number size caller) name [])) (sym (append-nil (requests_to number size caller))) keep
grown-far number size caller (suc n) name within few caller_few keep =
    let rest = grown-far number size caller n name (omega (arith, within)) few caller_few keep in
    elim (cases_Bool (belongs_to caller n)) [
      | inl own ↦ rw own (
          subst (λ requests. KeepSoFar (at_hand requests (callers_to number size caller) name (ops_far number size caller n ++ ops_for (load_at number n) (first_of size caller) (share caller n))))
          (append_assoc (requests_to number size caller) (own_requests number (first_of size caller) caller n) (entry_at number size caller n ∷ []))
          (request-more number size caller n name (record { within = within; few = few; caller_few = caller_few; own = own }) rest))
      | inr other ↦ rw (other, append-nil (own_requests number (first_of size caller) caller n), append-nil (own_ops number (first_of size caller) caller n)) rest
    ]

-- ---- a caller more

abbrev parts_to : ℕ → ℕ → ℕ → PlanParts
parts_to number size n = parts_of One made_links (requests_to number size n) (callers_to number size n) 0 0

caller-more : (number size caller : ℕ) → size ≤ 1024 → caller < 4 → is_new (caller_names (callers_to number size caller)) (short_name 107 caller) ≡ true → KeepSoFar (parts_to number size caller) → KeepSoFar (parts_to number size (suc caller))
unfolding requests_to callers_to
caller-more number size caller few caller_few new keep =
    grown-far number size caller size (short_name 107 caller) (omega arith) few caller_few
    (caller-keeps (parts_to number size caller) (short_name 107 caller) 0 keep (record { version = refl; there = refl; new = new; few = let long = callers-length number size caller in omega (arith, long, caller_few) }))

-- ---- the plan

numbered : (n : ℕ) (entry : LinkEntry) → slice_get made_links n ≡ Some entry → link_number entry.shape.link ≡ n
numbered (suc (suc (suc (suc n)))) entry found = cc
numbered _ entry found = ap (λ (e : LinkEntry). link_number e.shape.link) (sym (same_Some _ _ found))

unused-all : (n : ℕ) (entry : LinkEntry) → slice_get made_links n ≡ Some entry → All (LeavesUnused entry.shape.bounds) entry.quotas
unused-all (suc (suc (suc (suc n)))) entry found = cc
unused-all _ entry found = none-unused entry (ap (λ (e : LinkEntry). e.quotas) (sym (same_Some _ _ found)))

-- there are no groups
groups-none : KeepGroups One [] made_links []
groups-none =
    groups-with-link One [] (link_entry 0 ∷ link_entry 1 ∷ link_entry 2 ∷ []) (link_entry 3) [] refl
    (groups-with-link One [] (link_entry 0 ∷ link_entry 1 ∷ []) (link_entry 2) [] refl
    (groups-with-link One [] (link_entry 0 ∷ []) (link_entry 1) [] refl (groups-with-link One [] [] (link_entry 0) [] refl (no-groups One))))

links-keep : (number size : ℕ) → KeepSoFar (parts_to number size 0)
unfolding requests_to callers_to have_version have_names are_there are_in_range are_few are_joined are_unclosed pours_are_taken moves_are_fit openings_of each_after ops_over ops_load
links-keep number size = record {
  version = refl;
  names = refl;
  there = refl;
  range = refl;
  few = refl;
  joined = refl;
  unclosed = refl;
  load = omega arith;
  pours = refl;
  moves = refl;
  groups = groups-none;
  planned = record { links = numbered; requests = λ n entry found. cc; openings = refl; hops = λ n entry found. cc; unused = unused-all };
  terms = tt;
}

callers-keep : (number size : ℕ) → size ≤ 1024 → KeepSoFar (parts_to number size 4)
unfolding callers_to
callers-keep number size few =
    let one : KeepSoFar (parts_to number size 1) = caller-more number size 0 few (omega arith) refl (links-keep number size) in
    let two : KeepSoFar (parts_to number size 2) = caller-more number size 1 few (omega arith) refl one in
    let three : KeepSoFar (parts_to number size 3) = caller-more number size 2 few (omega arith) refl two in
    caller-more number size 3 few (omega arith) refl three

pub made-is-plan : (number size : ℕ) → size ≤ 1024 → IsPlan (made_parts number size)
made-is-plan number size few =
    let keep = callers-keep number size few in
    let beside = rounds-keep (parts_to number size 4) 4000 keep (omega arith) in
    let after = tail-keeps (with_rounds 4000 (parts_to number size 4)) 1000 beside (omega arith) in
    grown-is-plan (made_parts number size) after (record { links = omega arith; ticks = omega arith })
