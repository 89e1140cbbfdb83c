-- What is kept of the requests of the last caller, with one more operation.
use Rattle.std.proofs.Common.{◌≡◌, ◌≢◌, ℕ, zero, suc, ◌+◌, ◌-◌, ◌<◌, ◌≤◌, Bool, true, false, ◌||◌, List, [], ◌∷◌, ◌++◌, length, max, set, get_or, Some, refl, sym, ◌∙◌, ap, subst, inl, inr, arith, length-set, get_or-set_other}
use Rattle.std.proofs.Math.Bool.{or-false, or-true}
use Rattle.std.proofs.lemmas.Bool.{cases_Bool, eqb-true, eqb-false, ne_eqb, and_parts, not-true}
use Rattle.std.proofs.lemmas.Grind.{get_or-set_at}
use Rattle.std.proofs.lemmas.List.{length-append, length-map}
use Rattle.std.proofs.lemmas.List.Folds.{list_any-append}
use Rattle.std.specs.List.{list_any, slice_get}
use Rattle.std.specs.Prelude.{nat_eq, not}
use Rattle.net_units.specs.Numbers.{channel_number}
use Rattle.net_units.specs.declared.numbers.ChanNo.{ChanNo}
use Rattle.link_steps.specs.Lists.{Each}
use Rattle.call_script.specs.Growing.{add_op, last_ops, HasDone}
use Rattle.call_script.specs.Parts.{openings_in, openings_of, opening_of}
use Rattle.call_script.specs.Rules.{is_in, load_at, loads_with, loads_after, loads_in, load_of, load_in, ops_load, ops_over, may_move}
use Rattle.call_script.specs.declared.entries.CallerEntry.{CallerEntry}
use Rattle.call_script.specs.declared.entries.RequestEntry.{RequestEntry}
use Rattle.call_script.specs.declared.operations.Op.{Op}
use Rattle.call_script.specs.declared.operations.Op.TheVariants.{Open, Send, Close, Pour, Move}
use Rattle.call_script.specs.declared.roles.Role.{Role}
use Rattle.call_script.specs.declared.roles.Role.TheVariants as role
use Rattle.call_script.proofs.ScriptLoads.{loads-append, load-push, added-over, added-loads}
use Rattle.call_script.proofs.OpeningsInOrder.{opened-has}
use Rattle.call_script.proofs.RulesAreKept.{packets-fit}
use Rattle.scenario_reader.specs.Drafts.{Said, parts_said, own_request, uses_said}
use Rattle.scenario_reader.specs.Kept.{IsDraft, IsKeptBeside}
use Rattle.scenario_reader.specs.line.Operation.{MayDo, MayPutOp}
use Rattle.scenario_reader.specs.Uses.{IsLight, blank, use_at, with_use, sent, shut, left, joined, used_by}
use Rattle.scenario_reader.specs.declared.uses.Uses.{Uses}
use Rattle.scenario_reader.proofs.Finding.NamedByPlace.{own-is}

-- ---- the operations of the last caller, with one more

last-added : (op : Op) (callers : List CallerEntry) → 1 ≤ length callers → last_ops (add_op op callers) ≡ last_ops callers ++ op ∷ []
last-added op [] some = absurd (omega arith)
last-added op (caller ∷ []) some = refl
last-added op (caller ∷ next ∷ callers) some = last-more op caller (next ∷ callers) (omega arith) ∙ last-added op (next ∷ callers) (omega arith)
  where
    last-more : (op : Op) (caller : CallerEntry) (callers : List CallerEntry) → 1 ≤ length callers → last_ops (caller ∷ add_op op callers) ≡ last_ops (add_op op callers)
    last-more op caller [] some = absurd (omega arith)
    last-more op caller (next ∷ []) some = refl
    last-more op caller (next ∷ other ∷ callers) some = refl

role-added : (what : Role) (op : Op) (callers : List CallerEntry) (c : ℕ) → 1 ≤ length callers → list_any (is_in what c) (last_ops (add_op op callers)) ≡ (list_any (is_in what c) (last_ops callers) || is_in what c op)
role-added what op callers c some =
    ap (list_any (is_in what c)) (last-added op callers some) ∙ list_any-append (is_in what c) (last_ops callers) (op ∷ [])
    ∙ ap (λ b. list_any (is_in what c) (last_ops callers) || b) (or-false (is_in what c op))

pub op-load : (requests : List RequestEntry) (op : Op) (callers : List CallerEntry) → 1 ≤ length callers → load_in requests (add_op op callers) ≡ load_in requests callers + load_of requests (loads_in callers) op
op-load requests op [] some = absurd (omega arith)
op-load requests op (caller ∷ callers) some = ap (ops_load requests []) (added-over op caller callers) ∙ load-push requests [] (ops_over (caller ∷ callers)) op

loads-added : (op : Op) (callers : List CallerEntry) → 1 ≤ length callers → loads_in (add_op op callers) ≡ loads_with (loads_in callers) op
loads-added op [] some = absurd (omega arith)
loads-added op (caller ∷ callers) some = added-loads op caller callers

-- the last caller itself
record IsLast (callers : List CallerEntry) : Type 0 where
  caller : CallerEntry
  found : slice_get callers (length callers - 1) ≡ Some caller
  ops : last_ops callers ≡ caller.ops

last-there : (callers : List CallerEntry) → 1 ≤ length callers → IsLast callers
last-there [] some = absurd (omega arith)
last-there (caller ∷ []) some = record { caller = caller; found = refl; ops = refl }
last-there (caller ∷ next ∷ callers) some =
    let rest = last-there (next ∷ callers) (omega arith) in
    let place : length (caller ∷ next ∷ callers) - 1 ≡ suc (length (next ∷ callers) - 1) = omega arith in
    record { caller = rest.caller; found = ap (slice_get (caller ∷ next ∷ callers)) place ∙ rest.found; ops = rest.ops }

-- ---- what was done with a request, with one operation more

abbrev pub after_op : Op → ChanNo → List ℕ → Uses → Uses
after_op op chan loads was = record {
  closed = was.closed || is_in role.Closes (channel_number chan) op;
  left = was.left || is_in role.Leaves (channel_number chan) op;
  used = was.used || is_in role.Uses (channel_number chan) op;
  joined = was.joined || is_in role.Joins (channel_number chan) op;
  load = load_at (loads_with loads op) chan;
}

pub same-use : (a b : Uses) → a.closed ≡ b.closed → a.left ≡ b.left → a.used ≡ b.used → a.joined ≡ b.joined → a.load ≡ b.load → a ≡ b
same-use a b closed left used joined load = λ i. record { closed = closed i; left = left i; used = used i; joined = joined i; load = load i }

-- what the callers' operations say, with one more
pub uses-added : (said now : Said) (op : Op) (chan : ChanNo) → 1 ≤ length said.callers → now.callers ≡ add_op op said.callers → uses_said now chan ≡ after_op op chan (loads_in said.callers) (uses_said said chan)
uses-added said now op chan some is =
    same-use (uses_said now chan) (after_op op chan (loads_in said.callers) (uses_said said chan)) (added role.Closes) (added role.Leaves) (added role.Uses) (added role.Joins)
    (ap (λ callers. load_at (loads_in callers) chan) is ∙ ap (λ loads. load_at loads chan) (loads-added op said.callers some))
  where
    added : (what : Role) → list_any (is_in what (channel_number chan)) (last_ops now.callers) ≡ (list_any (is_in what (channel_number chan)) (last_ops said.callers) || is_in what (channel_number chan) op)
    added what = ap (λ callers. list_any (is_in what (channel_number chan)) (last_ops callers)) is ∙ role-added what op said.callers (channel_number chan) some

-- a mark that stays, and one that is set
stays : (was test : Bool) → test ≡ false → was ≡ (was || test)
stays was test none = sym (ap (λ t. was || t) none ∙ or-false was)

turns : (was test : Bool) → test ≡ true → true ≡ (was || test)
turns was test one = sym (ap (λ t. was || t) one ∙ or-true was)

-- a load more after them
pub load-before : (loads : List ℕ) (n : ℕ) → get_or (loads ++ 0 ∷ []) n 0 ≡ get_or loads n 0
load-before [] zero = refl
load-before [] (suc n) = refl
load-before (load ∷ loads) zero = refl
load-before (load ∷ loads) (suc n) = load-before loads n

-- an operation that is nothing to the channel
nothing-done : (op : Op) (loads : List ℕ) (chan : ChanNo) (was : Uses) → was.load ≡ load_at loads chan → is_in role.Uses (channel_number chan) op ≡ false → is_in role.Closes (channel_number chan) op ≡ false → is_in role.Leaves (channel_number chan) op ≡ false → is_in role.Joins (channel_number chan) op ≡ false
    → load_at (loads_with loads op) chan ≡ load_at loads chan → was ≡ after_op op chan loads was
nothing-done op loads chan was known unused unclosed unleft unjoined same =
    same-use was (after_op op chan loads was) (stays was.closed _ unclosed) (stays was.left _ unleft) (stays was.used _ unused) (stays was.joined _ unjoined) (known ∙ sym same)

-- ---- the same of what is kept

-- what is kept of the load that a move carries
abbrev pub Carries : List Uses → List ℕ → Op → Type 0
Carries uses loads (Open chan) = Unit {0}
Carries uses loads (Send chan count gap size) = Unit {0}
Carries uses loads (Close chan) = Unit {0}
Carries uses loads (Pour link count gap size) = Unit {0}
Carries uses loads (Move old new) = ((use_at uses old).load ≡ load_at loads old) × (channel_number old ≢ channel_number new)

module _ (uses : List Uses) (loads : List ℕ) (chan : ChanNo) (was : Uses) (long : length loads ≡ length uses) (within : channel_number chan < length uses) (is : use_at uses chan ≡ was) (known : was.load ≡ load_at loads chan) where
  -- the index of the channel
  of-chan : (own : ChanNo) → channel_number own ≡ channel_number chan → use_at uses own ≡ was
  of-chan own same = ap (λ n. get_or uses n blank) same ∙ is

  load-there : (own : ChanNo) (load : ℕ) → channel_number own ≡ channel_number chan → load_at (set loads (channel_number own) load) chan ≡ load
  load-there own load same = get_or-set_at loads (channel_number own) (channel_number chan) load 0 (sym same) (omega (arith, same, within, long))

  load-elsewhere : (own : ChanNo) (load : ℕ) → channel_number own ≢ channel_number chan → load_at (set loads (channel_number own) load) chan ≡ load_at loads chan
  load-elsewhere own load other = get_or-set_other loads (channel_number own) (channel_number chan) load 0 (λ same. other (sym same))

  use-there : (now : List Uses) (own : ChanNo) (one : Uses) → length now ≡ length uses → channel_number own ≡ channel_number chan → use_at (with_use own one now) chan ≡ one
  use-there now own one same_length same = get_or-set_at now (channel_number own) (channel_number chan) one blank (sym same) (omega (arith, same, within, same_length))

  use-elsewhere : (now : List Uses) (own : ChanNo) (one : Uses) → channel_number own ≢ channel_number chan → use_at (with_use own one now) chan ≡ use_at now chan
  use-elsewhere now own one other = get_or-set_other now (channel_number own) (channel_number chan) one blank (λ same. other (sym same))

  load-of-own : (own : ChanNo) → channel_number own ≡ channel_number chan → load_at loads own ≡ was.load
  load-of-own own same = ap (λ n. get_or loads n 0) same ∙ sym known

  sent-used : (own : ChanNo) (count gap size : ℕ) → use_at (used_by (Send own count gap size) uses) chan ≡ after_op (Send own count gap size) chan loads was
  sent-used own count gap size =
      elim (cases_Bool (nat_eq (channel_number own) (channel_number chan))) [
        | inl here ↦
            (let same : channel_number own ≡ channel_number chan = eqb-true (channel_number own) (channel_number chan) here in
            use-there uses own (sent count (use_at uses own)) refl same ∙ ap (sent count) (of-chan own same)
            ∙ same-use (sent count was) (after_op (Send own count gap size) chan loads was) (stays was.closed false refl) (stays was.left false refl) (turns was.used (nat_eq (channel_number own) (channel_number chan)) here) (stays was.joined false refl)
            (sym (load-there own (max count (load_at loads own)) same ∙ ap (max count) (load-of-own own same))))
        | inr off ↦
            (let other = eqb-false (channel_number own) (channel_number chan) off in
            use-elsewhere uses own (sent count (use_at uses own)) other ∙ is
            ∙ nothing-done (Send own count gap size) loads chan was known off refl refl refl (load-elsewhere own (max count (load_at loads own)) other))
      ]

  closed-used : (own : ChanNo) → use_at (used_by (Close own) uses) chan ≡ after_op (Close own) chan loads was
  closed-used own =
      elim (cases_Bool (nat_eq (channel_number own) (channel_number chan))) [
        | inl here ↦
            (let same : channel_number own ≡ channel_number chan = eqb-true (channel_number own) (channel_number chan) here in
            use-there uses own (shut (use_at uses own)) refl same ∙ ap shut (of-chan own same)
            ∙ same-use (shut was) (after_op (Close own) chan loads was) (turns was.closed (nat_eq (channel_number own) (channel_number chan)) here) (stays was.left false refl) (turns was.used (nat_eq (channel_number own) (channel_number chan)) here) (stays was.joined false refl) known)
        | inr off ↦ use-elsewhere uses own (shut (use_at uses own)) (eqb-false (channel_number own) (channel_number chan) off) ∙ is ∙ nothing-done (Close own) loads chan was known off off refl refl refl
      ]

  moved-used : (old new : ChanNo) → (use_at uses old).load ≡ load_at loads old → channel_number old ≢ channel_number new → use_at (used_by (Move old new) uses) chan ≡ after_op (Move old new) chan loads was
  moved-used old new carried apart =
      let mid = with_use old (left (use_at uses old)) uses in
      let load = (use_at uses old).load in
      elim (cases_Bool (nat_eq (channel_number new) (channel_number chan))) [
        | inl onto ↦
            (let same : channel_number new ≡ channel_number chan = eqb-true (channel_number new) (channel_number chan) onto in
            let off : nat_eq (channel_number old) (channel_number chan) ≡ false = ne_eqb (channel_number old) (channel_number chan) (λ here. apart (here ∙ sym same)) in
            let before : use_at mid new ≡ was = ap (λ n. get_or mid n blank) same ∙ use-elsewhere uses old (left (use_at uses old)) (eqb-false (channel_number old) (channel_number chan) off) ∙ is in
            use-there mid new (joined load (use_at mid new)) (length-set uses (channel_number old) (left (use_at uses old))) same ∙ ap (joined load) before
            ∙ same-use (joined load was) (after_op (Move old new) chan loads was) (stays was.closed false refl) (stays was.left (nat_eq (channel_number old) (channel_number chan)) off) (stays was.used (nat_eq (channel_number old) (channel_number chan)) off) (turns was.joined (nat_eq (channel_number new) (channel_number chan)) onto)
            (sym (load-there new (max (load_at loads old) (load_at loads new)) same ∙ ap (λ n. max n (load_at loads new)) (sym carried) ∙ ap (max load) (load-of-own new same))))
        | inr off_new ↦
            (let elsewhere = eqb-false (channel_number new) (channel_number chan) off_new in
            let behind = use-elsewhere mid new (joined load (use_at mid new)) elsewhere in
            let same_load = load-elsewhere new (max (load_at loads old) (load_at loads new)) elsewhere in
            elim (cases_Bool (nat_eq (channel_number old) (channel_number chan))) [
              | inl from ↦
                  (let same : channel_number old ≡ channel_number chan = eqb-true (channel_number old) (channel_number chan) from in
                  behind ∙ use-there uses old (left (use_at uses old)) refl same ∙ ap left (of-chan old same)
                  ∙ same-use (left was) (after_op (Move old new) chan loads was) (stays was.closed false refl) (turns was.left (nat_eq (channel_number old) (channel_number chan)) from) (turns was.used (nat_eq (channel_number old) (channel_number chan)) from) (stays was.joined (nat_eq (channel_number new) (channel_number chan)) off_new) (known ∙ sym same_load))
              | inr off ↦
                  behind ∙ use-elsewhere uses old (left (use_at uses old)) (eqb-false (channel_number old) (channel_number chan) off) ∙ is
                  ∙ nothing-done (Move old new) loads chan was known off refl off off_new same_load
            ])
      ]

  pub op-used : (op : Op) → Carries uses loads op → use_at (used_by op uses) chan ≡ after_op op chan loads was
  op-used (Open own) carries = is ∙ nothing-done (Open own) loads chan was known refl refl refl refl (load-before loads (channel_number chan))
  op-used (Send own count gap size) carries = sent-used own count gap size
  op-used (Close own) carries = closed-used own
  op-used (Pour link count gap size) carries = is ∙ nothing-done (Pour link count gap size) loads chan was known refl refl refl refl refl
  op-used (Move old new) carries = moved-used old new carries.0 carries.1

-- ---- lengths

pub used-length : (op : Op) (uses : List Uses) → length (used_by op uses) ≡ length uses
used-length (Open chan) uses = refl
used-length (Send chan count gap size) uses = length-set uses (channel_number chan) _
used-length (Close chan) uses = length-set uses (channel_number chan) _
used-length (Pour link count gap size) uses = refl
used-length (Move old new) uses = length-set (with_use old (left (use_at uses old)) uses) (channel_number new) _ ∙ length-set uses (channel_number old) _

-- a load for each channel that is opened
loads-long : (n : ℕ) (loads : List ℕ) (ops : List Op) → length (loads_after loads ops) ≡ length loads + length (openings_in n ops)
unfolding loads_after openings_in
loads-long n loads [] = omega arith
loads-long n loads (Open chan ∷ ops) = (let rest = loads-long n (loads ++ 0 ∷ []) ops in let more : length (loads ++ 0 ∷ []) ≡ length loads + 1 = length-append loads (0 ∷ []) in omega (arith, rest, more))
loads-long n loads (Send chan count gap size ∷ ops) = (let rest = loads-long n (set loads (channel_number chan) (max count (load_at loads chan))) ops in omega (arith, rest, length-set loads (channel_number chan) (max count (load_at loads chan))))
loads-long n loads (Close chan ∷ ops) = loads-long n loads ops
loads-long n loads (Pour link count gap size ∷ ops) = loads-long n loads ops
loads-long n loads (Move old new ∷ ops) =
    (let load = max (load_at loads old) (load_at loads new) in let rest = loads-long n (set loads (channel_number new) load) ops in omega (arith, rest, length-set loads (channel_number new) load))

over-long : (n : ℕ) (loads : List ℕ) (callers : List CallerEntry) → length (loads_after loads (ops_over callers)) ≡ length loads + length (openings_of n callers)
unfolding loads_after ops_over openings_of
over-long n loads [] = omega arith
over-long n loads (caller ∷ callers) =
    let first = loads-long n loads caller.ops in
    let rest = over-long (suc n) (loads_after loads caller.ops) callers in
    let both = ap length (loads-append loads caller.ops (ops_over callers)) in
    let openings = length-append (openings_in n caller.ops) (openings_of (suc n) callers) in
    omega (arith, first, rest, both, openings)

pub loads-are : (said : Said) → IsDraft said → length (loads_in said.callers) ≡ length said.requests
loads-are said d =
    let all = over-long 0 [] said.callers in
    let openings = ap length d.keeps.planned.openings ∙ length-map said.requests opening_of in
    omega (arith, all, openings)

-- ---- small loads

use-light : (uses : List Uses) (n : ℕ) → Each IsLight uses → IsLight (get_or uses n blank)
use-light [] n light = omega arith
use-light (one ∷ uses) zero light = light.0
use-light (one ∷ uses) (suc n) light = use-light uses n light.1

with-light : (uses : List Uses) (n : ℕ) (one : Uses) → Each IsLight uses → IsLight one → Each IsLight (set uses n one)
with-light [] n one light is = tt
with-light (was ∷ uses) zero one light is = (is, light.1)
with-light (was ∷ uses) (suc n) one light is = (light.0, with-light uses n one light.1 is)

pub used-light : (said : Said) (op : Op) (uses : List Uses) → MayDo (parts_said said) op → Each IsLight uses → Each IsLight (used_by op uses)
used-light said (Open chan) uses may light = light
used-light said (Send chan count gap size) uses may light =
    let was = use-light uses (channel_number chan) light in
    with-light uses (channel_number chan) (sent count (use_at uses chan)) light (omega (arith, was, (packets-fit count gap size may.range).count_most))
used-light said (Close chan) uses may light = with-light uses (channel_number chan) (shut (use_at uses chan)) light (use-light uses (channel_number chan) light)
used-light said (Pour link count gap size) uses may light = light
used-light said (Move old new) uses may light =
    let mid = with_use old (left (use_at uses old)) uses in
    let from = use-light uses (channel_number old) light in
    let left_light = with-light uses (channel_number old) (left (use_at uses old)) light from in
    let onto = use-light mid (channel_number new) left_light in
    with-light mid (channel_number new) (joined (use_at uses old).load (use_at mid new)) left_light (omega (arith, from, onto))

-- ---- what is kept of a request that the last caller has opened

pub kept-use : (said : Said) (links requests callers : List (List ℕ)) (uses : List Uses) (load : ℕ) (chan : ChanNo) → IsDraft said → IsKeptBeside said links requests callers uses load → 1 ≤ length said.callers → HasDone role.Opens (parts_said said) chan
    → use_at uses chan ≡ uses_said said chan
kept-use said links requests callers uses load chan d k some opened =
    let last = last-there said.callers some in
    let has = opened-has (parts_said said) (length said.callers - 1) (channel_number chan) last.caller d.keeps.planned last.found (ap (list_any (is_in role.Opens (channel_number chan))) (sym last.ops) ∙ opened) in
    let number = d.keeps.planned.requests (channel_number chan) has.entry has.found in
    k.same_uses (channel_number chan) has.entry has.found has.by ∙ by-number has.entry.request.chan number
  where
    by-number : (other : ChanNo) → channel_number other ≡ channel_number chan → uses_said said other ≡ uses_said said chan
    by-number other same = λ i. record {
      closed = list_any (is_in role.Closes (same i)) (last_ops said.callers);
      left = list_any (is_in role.Leaves (same i)) (last_ops said.callers);
      used = list_any (is_in role.Uses (same i)) (last_ops said.callers);
      joined = list_any (is_in role.Joins (same i)) (last_ops said.callers);
      load = get_or (loads_in said.callers) (same i) 0;
    }

-- and by a request's name
pub own-use : (said : Said) (links requests callers : List (List ℕ)) (uses : List Uses) (load : ℕ) (name : List ℕ) (entry : RequestEntry) → IsDraft said → IsKeptBeside said links requests callers uses load → own_request said name ≡ Some entry
    → use_at uses entry.request.chan ≡ uses_said said entry.request.chan
own-use said links requests callers uses load name entry d k e =
    let own = own-is said name entry e in
    ap (λ n. get_or uses n blank) (d.keeps.planned.requests own.place entry own.found) ∙ k.same_uses own.place entry own.found own.by

pub op-carries : (said : Said) (links requests callers : List (List ℕ)) (uses : List Uses) (load : ℕ) (op : Op) → IsDraft said → IsKeptBeside said links requests callers uses load → 1 ≤ length said.callers → MayDo (parts_said said) op → Carries uses (loads_in said.callers) op
op-carries said links requests callers uses load (Open chan) d k some may = tt
op-carries said links requests callers uses load (Send chan count gap size) d k some may = tt
op-carries said links requests callers uses load (Close chan) d k some may = tt
op-carries said links requests callers uses load (Pour link count gap size) d k some may = tt
op-carries said links requests callers uses load (Move old new) d k some may = (
  ap (λ (one : Uses). one.load) (kept-use said links requests callers uses load old d k some may.channel.opened),
  eqb-false (channel_number old) (channel_number new) (not-true (nat_eq (channel_number old) (channel_number new))
      (and_parts (may_move said.links (slice_get said.requests (channel_number old)) (slice_get said.requests (channel_number new))) (not (nat_eq (channel_number old) (channel_number new))) may.fit).1),
)

-- what a move that may be added carries
pub move-carries : (said now : Said) (links requests callers : List (List ℕ)) (uses : List Uses) (load : ℕ) (op : Op) (old new : ChanNo) → said ≡ now → op ≡ Move old new → IsDraft said → IsKeptBeside said links requests callers uses load → MayPutOp now op
    → (use_at uses old).load ≡ load_at (loads_in now.callers) old
move-carries said now links requests callers uses load op old new view is d k may =
    let here = subst (λ (s : Said). MayPutOp s op) (sym view) may in
    let move_here = subst (MayPutOp said) is here in
    (op-carries said links requests callers uses load (Move old new) d k here.some move_here.op).0 ∙ ap (λ (s : Said). load_at (loads_in s.callers) old) view
