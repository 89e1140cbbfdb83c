-- A plan's requests alone, with copies of one of them, may be planned. Copies are added one at a time.
use Rattle.std.proofs.Common.{◌≡◌, ℕ, zero, suc, ◌+◌, ◌⊎◌, inl, inr, Some, None, List, [], ◌∷◌, ◌++◌, length, map, refl, sym, ap, ◌∙◌, subst, arith, append_assoc}
use Rattle.std.proofs.lemmas.List.{length-append, append-nil, map-append}
use Rattle.std.proofs.lemmas.Option.{same_Some}
use Rattle.std.specs.List.{slice_get}
use Rattle.net_units.specs.Numbers.{channel_number}
use Rattle.net_units.specs.declared.numbers.ChanNo.{ChanNo}
use Rattle.link_steps.specs.Lists.{Each}
use Rattle.link_steps.proofs.ListParts.{Each-push}
use Rattle.call_script.specs.Parts.{PlanParts, parts_with, Opening, openings_in, openings_of, opening_of, FollowsLink, ArePlanned}
use Rattle.call_script.specs.declared.entries.CallerEntry.{CallerEntry}
use Rattle.call_script.specs.declared.entries.LinkEntry.{LinkEntry}
use Rattle.call_script.specs.declared.entries.RequestEntry.{RequestEntry}
use Rattle.call_script.specs.declared.operations.Op.{Op}
use Rattle.call_script.specs.declared.operations.Op.TheVariants.{Open}
use Rattle.call_script.specs.declared.version.Version.{Version}
use Rattle.call_script.specs.Plans.{IsPlan}
use Rattle.call_script.proofs.OneMoreOperation.{callers-more}
use Rattle.question_plans.specs.Alone.{changed, opens_of}
use Rattle.question_plans.specs.declared.change.Change.TheVariants.{Nothing}
use Rattle.question_plans.specs.More.{IsCopy, open_of, AreChannelsFrom, AddsCopy, AddsOpener, HasCopies, IsWithMore, IsWithMoreAfter}
use Rattle.question_plans.proofs.RequestsAlone.{callers-open-the-same}

-- ---- one copy more

numbered-more : (n : ℕ) (entries : List RequestEntry) (entry : RequestEntry) → AreChannelsFrom n entries → channel_number entry.request.chan ≡ n + length entries → AreChannelsFrom n (entries ++ entry ∷ [])
unfolding AreChannelsFrom
numbered-more n [] entry numbered number = (omega (arith, number), tt)
numbered-more n (first ∷ entries) entry numbered number = (numbered.0, numbered-more (suc n) entries entry numbered.1 (omega (arith, number)))

pub no-copies : (like : RequestEntry) (caller : ℕ) (old new : List RequestEntry) (ops : List Op) → new ≡ old → ops ≡ [] → HasCopies like caller old 0 new ops
unfolding AreChannelsFrom
no-copies like caller old new ops same none = record {
  copies = [];
  added = same ∙ sym (append-nil old);
  many = refl;
  are = tt;
  numbered = tt;
  opened = none;
}

pub copies-more : (like : RequestEntry) (caller : ℕ) (old so_far new : List RequestEntry) (count : ℕ) (before after : List Op) (chan : ChanNo)
    → HasCopies like caller old count so_far before → AddsCopy like caller so_far new chan → after ≡ before ++ Open chan ∷ [] → HasCopies like caller old (count + 1) new after
copies-more like caller old so_far new count before after chan has adds opens = record {
  copies = has.copies ++ adds.copy ∷ [];
  added = adds.added ∙ ap (λ xs. xs ++ adds.copy ∷ []) has.added ∙ append_assoc old has.copies (adds.copy ∷ []);
  many = omega (arith, length-append has.copies (adds.copy ∷ []), has.many);
  are = Each-push (IsCopy like caller) has.copies adds.copy has.are adds.is;
  numbered = numbered-more (length old) has.copies adds.copy has.numbered (omega (arith, adds.number, ap length has.added, length-append old has.copies));
  opened = opens ∙ ap (λ ops. ops ++ Open chan ∷ []) has.opened ∙ ap (λ c. map open_of has.copies ++ Open c ∷ []) (sym adds.chan_is) ∙ sym (map-append open_of has.copies (adds.copy ∷ []));
}

-- ---- what the callers open

copies-opened : (like : RequestEntry) (n : ℕ) (copies : List RequestEntry) → Each (IsCopy like n) copies → openings_in n (map open_of copies) ≡ map opening_of copies
unfolding openings_in
copies-opened like n [] each = refl
copies-opened like n (copy ∷ copies) each =
    ap (λ (k : ℕ). record { caller = k; chan = channel_number copy.request.chan } ∷ openings_in n (map open_of copies)) (sym each.0.caller_is)
    ∙ ap (λ (rest : List Opening). opening_of copy ∷ rest) (copies-opened like n copies each.1)

pub length-mapped : {X Y : Type 0} (f : X → Y) (xs : List X) → length (map f xs) ≡ length xs
length-mapped f [] = refl
length-mapped f (x ∷ xs) = omega (arith, length-mapped f xs)

openings-with : (requests : List RequestEntry) (before : List CallerEntry) (like : RequestEntry) (copies : List RequestEntry) (caller : CallerEntry) → openings_of 0 before ≡ map opening_of requests → Each (IsCopy like (length before)) copies → caller.ops ≡ map open_of copies
    → openings_of 0 (before ++ caller ∷ []) ≡ map opening_of (requests ++ copies)
openings-with requests before like copies caller opened are ops =
    callers-more 0 before caller
    ∙ ap (λ (k : ℕ). openings_of 0 before ++ openings_in k caller.ops) (let same : 0 + length before ≡ length before = omega arith in same)
    ∙ ap (λ ops. openings_of 0 before ++ openings_in (length before) ops) ops
    ∙ ap (λ (last : List Opening). openings_of 0 before ++ last) (copies-opened like (length before) copies are)
    ∙ ap (λ (front : List Opening). front ++ map opening_of copies) opened
    ∙ sym (map-append opening_of requests copies)

-- ---- which request stands where

-- one of the plan's, or a copy
place-of : (requests copies : List RequestEntry) (n : ℕ) (entry : RequestEntry) → slice_get (requests ++ copies) n ≡ Some entry → (slice_get requests n ≡ Some entry) ⊎ ((k : ℕ) × (slice_get copies k ≡ Some entry) × (n ≡ length requests + k))
place-of [] copies n entry found = inr (n, found, omega arith)
place-of (first ∷ requests) copies zero entry found = inl found
place-of (first ∷ requests) copies (suc n) entry found = elim (place-of requests copies n entry found) [
  | inl old ↦ inl old
  | inr new ↦ inr (new.0, new.1, omega (arith, new.2))
]

numbered-at : (n k : ℕ) (copies : List RequestEntry) (entry : RequestEntry) → AreChannelsFrom n copies → slice_get copies k ≡ Some entry → channel_number entry.request.chan ≡ n + k
unfolding AreChannelsFrom
numbered-at n k [] entry numbered found = absurd (let clash : None ≡ Some entry = found in cc)
numbered-at n zero (copy ∷ copies) entry numbered found = omega (arith, numbered.0, ap (λ (e : RequestEntry). channel_number e.request.chan) (same_Some copy entry found))
numbered-at n (suc k) (copy ∷ copies) entry numbered found = omega (arith, numbered-at (suc n) k copies entry numbered.1 found)

copy-at : (like : RequestEntry) (caller k : ℕ) (copies : List RequestEntry) (entry : RequestEntry) → Each (IsCopy like caller) copies → slice_get copies k ≡ Some entry → IsCopy like caller entry
copy-at like caller k [] entry each found = absurd (let clash : None ≡ Some entry = found in cc)
copy-at like caller zero (copy ∷ copies) entry each found = subst (IsCopy like caller) (same_Some copy entry found) each.0
copy-at like caller (suc k) (copy ∷ copies) entry each found = copy-at like caller k copies entry each.1 found

-- ---- the plan

copies-may-be-planned : (parts : PlanParts) (version : Version) (groups : List (List ℕ)) (rounds tail : ℕ) (number : ℕ) (like : RequestEntry) (copies : List RequestEntry) (before : List CallerEntry) (caller : CallerEntry) → ArePlanned parts
    → slice_get parts.requests number ≡ Some like → openings_of 0 before ≡ openings_of 0 parts.callers → Each (IsCopy like (length before)) copies → AreChannelsFrom (length parts.requests) copies → caller.ops ≡ map open_of copies
    → ArePlanned (parts_with version parts.links groups (parts.requests ++ copies) (before ++ caller ∷ []) rounds tail)
copies-may-be-planned parts version groups rounds tail number like copies before caller planned found opened are numbered ops = record {
  links = planned.links;
  requests = λ n entry at. number-of n entry (place-of parts.requests copies n entry at);
  openings = openings-with parts.requests before like copies caller (opened ∙ planned.openings) are ops;
  hops = λ n entry at. follows n entry (place-of parts.requests copies n entry at);
  unused = planned.unused;
} where
  number-of : (n : ℕ) (entry : RequestEntry) → (slice_get parts.requests n ≡ Some entry) ⊎ ((k : ℕ) × (slice_get copies k ≡ Some entry) × (n ≡ length parts.requests + k)) → channel_number entry.request.chan ≡ n
  number-of n entry (inl old) = planned.requests n entry old
  number-of n entry (inr new) = numbered-at (length parts.requests) new.0 copies entry numbered new.1 ∙ sym new.2

  follows : (n : ℕ) (entry : RequestEntry) → (slice_get parts.requests n ≡ Some entry) ⊎ ((k : ℕ) × (slice_get copies k ≡ Some entry) × (n ≡ length parts.requests + k)) → Each (FollowsLink parts.links) entry.request.route
  follows n entry (inl old) = planned.hops n entry old
  follows n entry (inr new) = subst (Each (FollowsLink parts.links)) (sym (copy-at like (length before) new.0 copies entry are new.1).route) (planned.hops number like found)

-- a plan with copies that one more caller opens may be planned, where the callers before it open what the plan's callers do
opener-may-be-planned : (parts : PlanParts) (number count : ℕ) (version : Version) (links : List LinkEntry) (groups : List (List ℕ)) (requests : List RequestEntry) (before callers : List CallerEntry) (rounds tail : ℕ)
    → ArePlanned parts → links ≡ parts.links → length before ≡ length parts.callers → openings_of 0 before ≡ openings_of 0 parts.callers → AddsOpener parts number count before requests callers → ArePlanned (parts_with version links groups requests callers rounds tail)
opener-may-be-planned parts number count version links groups requests before callers rounds tail planned same many opened is =
    subst (λ (xs : List LinkEntry). ArePlanned (parts_with version xs groups requests callers rounds tail)) (sym same)
    (subst (λ (xs : List RequestEntry). ArePlanned (parts_with version parts.links groups xs callers rounds tail)) (sym is.copies.added)
    (subst (λ (xs : List CallerEntry). ArePlanned (parts_with version parts.links groups (parts.requests ++ is.copies.copies) xs rounds tail)) (sym is.put)
    (copies-may-be-planned parts version groups rounds tail number is.like is.copies.copies before is.caller planned is.found opened (subst (λ n. Each (IsCopy is.like n) is.copies.copies) (sym many) is.copies.are) is.copies.numbered is.copies.opened)))

-- a plan's requests alone, with copies after them, may be planned with any version
pub more-may-be-planned : (parts : PlanParts) (number count : ℕ) (version : Version) (links : List LinkEntry) (groups : List (List ℕ)) (requests : List RequestEntry) (callers : List CallerEntry)
    → IsPlan parts → IsWithMore parts number count (parts_with parts.version links groups requests callers 0 0) → ArePlanned (parts_with version links groups requests callers 0 0)
more-may-be-planned parts number count version links groups requests callers plan is =
    opener-may-be-planned parts number count version links groups requests (map opens_of parts.callers) callers 0 0 plan.planned is.links (length-mapped opens_of parts.callers) (callers-open-the-same 0 parts.callers) (record {
      like = is.like;
      found = is.found;
      caller = is.caller;
      group = is.group;
      copies = is.copies;
      put = is.callers;
    })

-- a plan with copies after all that its callers do may be planned, with any version and any rounds
pub after-may-be-planned : (parts : PlanParts) (number count : ℕ) (version : Version) (links : List LinkEntry) (groups : List (List ℕ)) (requests : List RequestEntry) (callers : List CallerEntry) (rounds tail : ℕ)
    → IsPlan parts → IsWithMoreAfter parts number count (parts_with parts.version links groups requests callers parts.rounds parts.tail) → ArePlanned (parts_with version links groups requests callers rounds tail)
after-may-be-planned parts number count version links groups requests callers rounds tail plan is =
    opener-may-be-planned parts number count version links groups requests parts.callers callers rounds tail plan.planned is.links refl refl is.opener

-- with no change the requests are the same
pub unchanged : (requests : List RequestEntry) → map (changed Nothing) requests ≡ requests
unchanged [] = refl
unchanged (entry ∷ requests) = ap (λ rest. entry ∷ rest) (unchanged requests)
