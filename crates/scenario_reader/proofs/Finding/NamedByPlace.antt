-- What a name stands for is found by its place among the names.
use Rattle.std.proofs.Common.{◌≡◌, ℕ, ◌+◌, ◌≤◌, Bool, not, cond, List, [], ◌∷◌, Option, Some, None, length, map, position, find, refl, sym, ◌∙◌, ap, arith, inl, inr, nat_eq}
use Rattle.std.proofs.lemmas.Grind.{common_steps}
use Rattle.std.proofs.lemmas.Bool.{cases_Bool, eqb-true}
use Rattle.std.proofs.lemmas.List.{length-map}
use Rattle.std.proofs.lemmas.List.Folds.{find_at}
use Rattle.std.proofs.lemmas.Option.{slice_get_past, same_Some, slice_get_cases}
use Rattle.std.proofs.lemmas.List.Quantifiers.{position-Some}
use Rattle.std.specs.List.{position_or_len, slice_get}
use Rattle.net_units.specs.Numbers.{actor_number}
use Rattle.call_script.specs.Rules.{is_named, link_names, request_names}
use Rattle.call_script.specs.declared.entries.LinkEntry.{LinkEntry}
use Rattle.call_script.specs.declared.entries.RequestEntry.{RequestEntry}
use Rattle.scenario_reader.specs.Drafts.{Said, link_named, request_named, last_caller, if_own, own_request}

-- a place among what is told of things is that among the things
place-told : {X Y : Type 0} (tell : X → Y) (test : Y → Bool) (xs : List X) → position_or_len test (map tell xs) ≡ position_or_len (λ x. test (tell x)) xs
place-told tell test [] = refl
place-told tell test (x ∷ xs) = ap (λ n. cond (not (test (tell x))) (1 + n) 0) (place-told tell test xs)

-- the place where one is found
place-some : {X : Type 0} (test : X → Bool) (xs : List X) (n : ℕ) → position test xs ≡ Some n → position_or_len test xs ≡ n
place-some test xs n e = grind (arith, common_steps)

-- where none is found it is after all
place-none : {X : Type 0} (test : X → Bool) (xs : List X) → position test xs ≡ None → length xs ≤ position_or_len test xs
place-none test xs e = grind (arith, common_steps)

-- what stands at the place of a name has that name, and is the first that has it
pub named-at : {X : Type 0} (name_of : X → List ℕ) (name : List ℕ) (xs : List X) (n : ℕ) → position (is_named name) (map name_of xs) ≡ Some n
    → slice_get xs n ≡ find (λ x. is_named name (name_of x)) xs
named-at name_of name xs n e =
    ap (slice_get xs) (sym (place-some (is_named name) (map name_of xs) n e) ∙ place-told name_of (is_named name) xs) ∙ sym (find_at (λ x. is_named name (name_of x)) xs)

-- a name without a place is that of none
pub named-none : {X : Type 0} (name_of : X → List ℕ) (name : List ℕ) (xs : List X) → position (is_named name) (map name_of xs) ≡ None
    → find (λ x. is_named name (name_of x)) xs ≡ None
named-none name_of name xs e =
    let past = place-none (is_named name) (map name_of xs) e in
    find_at (λ x. is_named name (name_of x)) xs
    ∙ slice_get_past xs (position_or_len (λ x. is_named name (name_of x)) xs) (omega (arith, past, place-told name_of (is_named name) xs, length-map xs name_of))

-- ---- in the words of a scenario

pub link-at-place : (links : List LinkEntry) (names : List (List ℕ)) (name : List ℕ) (n : ℕ) → names ≡ link_names links → Some n ≡ position (is_named name) names
    → slice_get links n ≡ link_named links name
link-at-place links names name n same e = named-at (λ (entry : LinkEntry). entry.name) name links n (ap (position (is_named name)) (sym same) ∙ sym e)

pub no-link-there : (links : List LinkEntry) (names : List (List ℕ)) (name : List ℕ) → names ≡ link_names links → None ≡ position (is_named name) names
    → link_named links name ≡ None
no-link-there links names name same e = named-none (λ (entry : LinkEntry). entry.name) name links (ap (position (is_named name)) (sym same) ∙ sym e)

pub request-at-place : (requests : List RequestEntry) (names : List (List ℕ)) (name : List ℕ) (n : ℕ) → names ≡ request_names requests → Some n ≡ position (is_named name) names
    → slice_get requests n ≡ request_named requests name
request-at-place requests names name n same e = named-at (λ (entry : RequestEntry). entry.name) name requests n (ap (position (is_named name)) (sym same) ∙ sym e)

pub no-request-there : (requests : List RequestEntry) (names : List (List ℕ)) (name : List ℕ) → names ≡ request_names requests → None ≡ position (is_named name) names
    → request_named requests name ≡ None
no-request-there requests names name same e = named-none (λ (entry : RequestEntry). entry.name) name requests (ap (position (is_named name)) (sym same) ∙ sym e)

-- ---- own requests

-- a request that the last caller has opened
pub record IsOwn (said : Said) (entry : RequestEntry) : Type 0 where
  pub place : ℕ
  pub found : slice_get said.requests place ≡ Some entry
  pub by : actor_number entry.caller ≡ last_caller said

own-parts : (caller : ℕ) (found : Option RequestEntry) (entry : RequestEntry) → if_own caller found ≡ Some entry → (found ≡ Some entry) × (actor_number entry.caller ≡ caller)
own-parts caller None entry e = cc
own-parts caller (Some other) entry e =
    elim (cases_Bool (nat_eq (actor_number other.caller) caller)) [
      | inl own ↦ (let same = rw own at e in (same, ap (λ (r : RequestEntry). actor_number r.caller) (sym (same_Some other entry same)) ∙ eqb-true (actor_number other.caller) caller own))
      | inr apart ↦ absurd (let none = rw apart at e in cc)
    ]

pub own-is : (said : Said) (name : List ℕ) (entry : RequestEntry) → own_request said name ≡ Some entry → IsOwn said entry
own-is said name entry e =
    let p = own-parts (last_caller said) (request_named said.requests name) entry e in
    let test = λ (r : RequestEntry). is_named name r.name in
    record {
      place = position_or_len (λ (r : RequestEntry). is_named name r.name) said.requests;
      found = sym (find_at (λ (r : RequestEntry). is_named name r.name) said.requests) ∙ p.0;
      by = p.1;
    }

-- ---- links that are known

-- the link at the place of its name
pub record IsLinkAt (links : List LinkEntry) (n : ℕ) : Type 0 where
  pub entry : LinkEntry
  pub at : slice_get links n ≡ Some entry

pub link-known : (links : List LinkEntry) (name : List ℕ) (n : ℕ) → position (is_named name) (link_names links) ≡ Some n → IsLinkAt links n
link-known links name n e =
    elim (slice_get_cases links n).1 [
      | inl at ↦ record { entry = at.0; at = at.2 }
      | inr past ↦ (let within = (position-Some (is_named name) (link_names links) n [] e).0 in let beyond = past.0 in absurd (omega (arith, within, beyond, length-map links (λ (entry : LinkEntry). entry.name))))
    ]
