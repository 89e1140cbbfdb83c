-- What the callers of a plan open: each request once, by its caller, in the order of the requests. So a caller's openings have
-- numbers one after the other, and a channel that is opened has a request of the caller that opens it.
use Rattle.std.proofs.Common.{◌≡◌, ℕ, zero, suc, ◌+◌, ◌<◌, ◌⊎◌, true, Option, Some, None, List, [], ◌∷◌, ◌++◌, length, map, refl, sym, ap, ◌∙◌, subst, inl, inr, nat_eq, option_map, arith}
use Rattle.std.proofs.lemmas.Bool.{cases_Bool, eqb-true}
use Rattle.std.proofs.lemmas.Option.{same_Some}
use Rattle.std.specs.List.{list_any, slice_get}
use Rattle.std.specs.Prelude.{◌||◌}
use Rattle.net_units.specs.Numbers.{actor_number, channel_number}
use Rattle.net_units.specs.declared.numbers.ChanNo.{ChanNo}
use Rattle.link_steps.specs.Lists.{Among}
use Rattle.call_script.specs.Operations.{attributes_of}
use Rattle.call_script.specs.Parts.{PlanParts, Opening, opening_by, openings_in, openings_of, opening_of, ArePlanned}
use Rattle.call_script.specs.Rules.{hits, is_in}
use Rattle.call_script.specs.declared.entries.CallerEntry.{CallerEntry}
use Rattle.call_script.specs.declared.entries.RequestEntry.{RequestEntry}
use Rattle.call_script.specs.declared.operations.Op.{Op}
use Rattle.call_script.specs.declared.roles.Role.TheVariants as role
use Rattle.link_steps.proofs.ListParts.{Among-left, Among-right, Among-parts}

-- ---- openings with numbers one after the other

abbrev pub OpeningsAreNumbered : ℕ → List Opening → Type 0
OpeningsAreNumbered m [] = Unit {0}
OpeningsAreNumbered m (opening ∷ openings) = (opening.chan ≡ m) × OpeningsAreNumbered (suc m) openings

numbered-map : (m : ℕ) (requests : List RequestEntry) → ((n : ℕ) (entry : RequestEntry) → slice_get requests n ≡ Some entry → channel_number entry.request.chan ≡ m + n) → OpeningsAreNumbered m (map opening_of requests)
numbered-map m [] own = tt
numbered-map m (entry ∷ requests) own =
    let here : channel_number entry.request.chan ≡ m = own 0 entry refl ∙ omega arith in
    (here, numbered-map (suc m) requests (λ n e found. own (suc n) e found ∙ omega arith))

numbered-left : (m : ℕ) (xs ys : List Opening) → OpeningsAreNumbered m (xs ++ ys) → OpeningsAreNumbered m xs
numbered-left m [] ys are = tt
numbered-left m (x ∷ xs) ys are = (are.0, numbered-left (suc m) xs ys are.1)

-- what stands after a list that is numbered begins with some number
numbered-right : (m : ℕ) (xs ys : List Opening) → OpeningsAreNumbered m (xs ++ ys) → (from : ℕ) × OpeningsAreNumbered from ys
numbered-right m [] ys are = (m, are)
numbered-right m (x ∷ xs) ys are = numbered-right (suc m) xs ys are.1

callers-numbered : (m first : ℕ) (callers : List CallerEntry) (n at : ℕ) (caller : CallerEntry) → slice_get callers n ≡ Some caller → first + n ≡ at → OpeningsAreNumbered m (openings_of first callers) → (from : ℕ) × OpeningsAreNumbered from (openings_in at caller.ops)
unfolding openings_of
callers-numbered m first [] n at caller found same are = cc
callers-numbered m first (c ∷ callers) zero at caller found same are =
    let here : first ≡ at = omega (arith, same) in
    (m, subst (λ ops. OpeningsAreNumbered m (openings_in at ops)) (ap (λ (e : CallerEntry). e.ops) (same_Some c caller found)) (subst (λ k. OpeningsAreNumbered m (openings_in k c.ops)) here (numbered-left m (openings_in first c.ops) (openings_of (suc first) callers) are)))
callers-numbered m first (c ∷ callers) (suc n) at caller found same are =
    let rest = numbered-right m (openings_in first c.ops) (openings_of (suc first) callers) are in
    callers-numbered rest.0 (suc first) callers n at caller found (omega (arith, same)) rest.1

-- those of a caller of a plan
pub caller-numbered : (parts : PlanParts) (n : ℕ) (caller : CallerEntry) → ArePlanned parts → slice_get parts.callers n ≡ Some caller → (from : ℕ) × OpeningsAreNumbered from (openings_in n caller.ops)
caller-numbered parts n caller planned found =
    callers-numbered 0 0 parts.callers n n caller found (omega arith)
    (subst (OpeningsAreNumbered 0) (sym planned.openings) (numbered-map 0 parts.requests (λ k entry at. planned.requests k entry at ∙ omega arith)))

-- ---- what is opened has a request

opens-among : (n c : ℕ) (ops : List Op) → list_any (is_in role.Opens c) ops ≡ true → Among (record { caller = n; chan = c }) (openings_in n ops)
unfolding openings_in
opens-among n c [] any = cc
opens-among n c (op ∷ ops) any = by (attributes_of op).opens any (opens-among n c ops) where
  by : (opens : Option ChanNo) → (hits (λ own. nat_eq own c) (option_map channel_number opens) || list_any (is_in role.Opens c) ops) ≡ true → (list_any (is_in role.Opens c) ops ≡ true → Among (record { caller = n; chan = c }) (openings_in n ops))
      → Among (record { caller = n; chan = c }) (opening_by n opens ++ openings_in n ops)
  by None among rest = rest among
  by (Some chan) among rest =
      elim (cases_Bool (nat_eq (channel_number chan) c)) [
        | inl same ↦ inl (ap (λ (k : ℕ). record { caller = n; chan = k }) (sym (eqb-true (channel_number chan) c same)))
        | inr other ↦ inr (rest (rw other at among))
      ]

caller-among : (first : ℕ) (callers : List CallerEntry) (n at : ℕ) (caller : CallerEntry) (opening : Opening) → slice_get callers n ≡ Some caller → first + n ≡ at → Among opening (openings_in at caller.ops) → Among opening (openings_of first callers)
unfolding openings_of
caller-among first [] n at caller opening found same among = cc
caller-among first (c ∷ callers) zero at caller opening found same among =
    let here : at ≡ first = omega (arith, same) in
    Among-left opening (openings_in first c.ops) (openings_of (suc first) callers)
    (subst (λ k. Among opening (openings_in k c.ops)) here (subst (λ ops. Among opening (openings_in at ops)) (ap (λ (e : CallerEntry). e.ops) (sym (same_Some c caller found))) among))
caller-among first (c ∷ callers) (suc n) at caller opening found same among =
    Among-right opening (openings_in first c.ops) (openings_of (suc first) callers) (caller-among (suc first) callers n at caller opening found (omega (arith, same)) among)

-- a request that is to be opened so
record HasOpening (requests : List RequestEntry) (opening : Opening) : Type 0 where
  n : ℕ
  entry : RequestEntry
  found : slice_get requests n ≡ Some entry
  is : opening_of entry ≡ opening

opening-at : (requests : List RequestEntry) (opening : Opening) → Among opening (map opening_of requests) → HasOpening requests opening
opening-at [] opening among = absurd among
opening-at (entry ∷ requests) opening (inl same) = record { n = 0; entry = entry; found = refl; is = sym same }
opening-at (entry ∷ requests) opening (inr among) = (let rest = opening-at requests opening among in record { n = suc rest.n; entry = rest.entry; found = rest.found; is = rest.is })

-- the request of this channel, which the caller of this number opens
pub record IsOpenedBy (parts : PlanParts) (n c : ℕ) : Type 0 where
  pub entry : RequestEntry
  pub found : slice_get parts.requests c ≡ Some entry
  pub by : actor_number entry.caller ≡ n

pub opened-has : (parts : PlanParts) (n c : ℕ) (caller : CallerEntry) → ArePlanned parts → slice_get parts.callers n ≡ Some caller → list_any (is_in role.Opens c) caller.ops ≡ true → IsOpenedBy parts n c
opened-has parts n c caller planned found any =
    let among = caller-among 0 parts.callers n n caller (record { caller = n; chan = c }) found (omega arith) (opens-among n c caller.ops any) in
    let at = opening-at parts.requests (record { caller = n; chan = c }) (subst (Among (record { caller = n; chan = c })) planned.openings among) in
    let number : at.n ≡ c = sym (planned.requests at.n at.entry at.found) ∙ ap (λ (o : Opening). o.chan) at.is in
    record { entry = at.entry; found = ap (slice_get parts.requests) (sym number) ∙ at.found; by = ap (λ (o : Opening). o.caller) at.is }

-- ---- the caller of a request is there

own-caller : (n : ℕ) (ops : List Op) (opening : Opening) → Among opening (openings_in n ops) → opening.caller ≡ n
unfolding openings_in
own-caller n [] opening among = absurd among
own-caller n (op ∷ ops) opening among = by (attributes_of op).opens among (own-caller n ops opening) where
  by : (opens : Option ChanNo) → Among opening (opening_by n opens ++ openings_in n ops) → (Among opening (openings_in n ops) → opening.caller ≡ n) → opening.caller ≡ n
  by None own rest = rest own
  by (Some chan) (inl same) rest = ap (λ (o : Opening). o.caller) same
  by (Some chan) (inr own) rest = rest own

openings-inside : (first : ℕ) (callers : List CallerEntry) (opening : Opening) → Among opening (openings_of first callers) → opening.caller < first + length callers
unfolding openings_of
openings-inside first [] opening among = absurd among
openings-inside first (c ∷ callers) opening among = by (Among-parts opening (openings_in first c.ops) (openings_of (suc first) callers) among) (openings-inside (suc first) callers opening) where
  by : Among opening (openings_in first c.ops) ⊎ Among opening (openings_of (suc first) callers) → (Among opening (openings_of (suc first) callers) → opening.caller < suc first + length callers) → opening.caller < first + length (c ∷ callers)
  by (inl own) later = (let same : opening.caller ≡ first = own-caller first c.ops opening own in omega arith)
  by (inr rest) later = (let below : opening.caller < suc first + length callers = later rest in omega arith)

pub owner-inside : (parts : PlanParts) (c : ℕ) (entry : RequestEntry) → ArePlanned parts → slice_get parts.requests c ≡ Some entry → actor_number entry.caller < length parts.callers
owner-inside parts c entry planned found =
    let among : Among (opening_of entry) (openings_of 0 parts.callers) = subst (Among (opening_of entry)) (sym planned.openings) (mapped parts.requests c found) in
    let below : actor_number entry.caller < 0 + length parts.callers = openings-inside 0 parts.callers (opening_of entry) among in
    omega arith where
      mapped : (requests : List RequestEntry) (n : ℕ) → slice_get requests n ≡ Some entry → Among (opening_of entry) (map opening_of requests)
      mapped [] n none = cc
      mapped (e ∷ requests) zero at = inl (ap opening_of (sym (same_Some e entry at)))
      mapped (e ∷ requests) (suc n) at = inr (mapped requests n at)
