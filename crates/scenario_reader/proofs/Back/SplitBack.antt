-- The groups of a plan are read one after another, and then the quotas of its links.
use Rattle.std.proofs.Common.{◌≡◌, ℕ, zero, suc, ◌+◌, ◌≤◌, Bool, true, false, nat_le, List, [], ◌∷◌, ◌++◌, length, map, flat_map, Some, refl, sym, ◌∙◌, ap, subst, append_assoc, arith}
use Rattle.std.proofs.lemmas.Bool.{and_parts, and_from, le-leb, leb-true, not-true}
use Rattle.std.proofs.lemmas.List.{append-nil}
use Rattle.std.proofs.lemmas.Option.{same_Some}
use Rattle.std.specs.List.{slice_get, list_all}
use Rattle.net_units.specs.LevelBounds.{bound_at}
use Rattle.net_units.specs.Numbers.{link_number}
use Rattle.net_units.specs.Text.{is_name}
use Rattle.traffic_contract.specs.Admission.{total}
use Rattle.traffic_contract.proofs.AdmissionTest.{total-append}
use Rattle.link_steps.specs.Lists.{Each}
use Rattle.link_steps.specs.Room.{all_from}
use Rattle.link_steps.specs.Shape.{blocking_of}
use Rattle.link_steps.specs.Split.{level_part, buffer_part}
use Rattle.link_steps.specs.declared.quota.Quota.{Quota}
use Rattle.link_steps.specs.declared.shape.LinkShape.{LinkShape}
use Rattle.call_script.specs.Growing.{with_its_quota, add_quota}
use Rattle.call_script.specs.Groups.{is_of_new_group, quota_is_there, quota_in_range, level_fits, quotas_fit}
use Rattle.call_script.specs.Parts.{LeavesUnused}
use Rattle.call_script.specs.Rules.{each_after, is_new, are_distinct, link_names, link_has_version}
use Rattle.call_script.specs.Versions.{has_groups}
use Rattle.call_script.specs.declared.entries.LinkEntry.{LinkEntry}
use Rattle.call_script.specs.declared.version.Version.{Version}
use Rattle.call_script.proofs.Growing.{length-more}
use Rattle.scenario_reader.specs.BothWays.{HasNames, HasEightLoads}
use Rattle.scenario_reader.specs.Drafts.{has_quotas}
use Rattle.scenario_reader.specs.line.Link.{link_fields}
use Rattle.scenario_reader.specs.line.Group.{group_fields}
use Rattle.scenario_reader.specs.line.Quota.{quota_fields, quota_lines}
use Rattle.scenario_reader.proofs.kind.Group.{GroupsStand, group-here, group-read}
use Rattle.scenario_reader.proofs.Back.NamedBack.{position-back}
use Rattle.scenario_reader.proofs.kind.Quota.{IsNextQuota, quota-reads}
use Rattle.scenario_reader.proofs.Back.SaysBack.{front, not-none}
use Rattle.scenario_reader.proofs.Back.SaysBack.{Reads, reads-none, reads-on}
use Rattle.scenario_reader.proofs.Back.WalkBack.{at-seam}

-- ---- links whose quotas weren't read yet

abbrev pub with_quotas : LinkEntry → List Quota → LinkEntry
with_quotas entry quotas = record { name = entry.name; from = entry.from; to = entry.to; shape = entry.shape; quotas = quotas }

abbrev pub bare : LinkEntry → LinkEntry
bare entry = with_quotas entry []

pub bare-names : (links : List LinkEntry) → link_names (map bare links) ≡ link_names links
bare-names [] = refl
bare-names (entry ∷ links) = ap (λ (names : List (List ℕ)). entry.name ∷ names) (bare-names links)

pub bare-lines : (links : List LinkEntry) → map link_fields (map bare links) ≡ map link_fields links
bare-lines [] = refl
bare-lines (entry ∷ links) = ap (λ (lines : List (List (List ℕ))). link_fields entry ∷ lines) (bare-lines links)

pub bare-unsplit : (links : List LinkEntry) → has_quotas (map bare links) ≡ false
bare-unsplit [] = refl
bare-unsplit (entry ∷ links) = bare-unsplit links

pub bare-each : (links : List LinkEntry) → Each (λ (entry : LinkEntry). entry.quotas ≡ []) (map bare links)
bare-each [] = tt
bare-each (entry ∷ links) = (refl, bare-each links)

pub bare-named : (links : List LinkEntry) → Each HasNames links → Each HasNames (map bare links)
bare-named [] named = tt
bare-named (entry ∷ links) named = (record { name = named.0.name; from = named.0.from; to = named.0.to }, bare-named links named.1)

pub bare-kept : (version : Version) (links : List LinkEntry) → list_all (link_has_version version) links ≡ true → list_all (link_has_version version) (map bare links) ≡ true
bare-kept version [] kept = refl
bare-kept version (entry ∷ links) kept =
    let both = and_parts (link_has_version version entry) (list_all (link_has_version version) links) kept in
    and_from (link_has_version version entry) (list_all (link_has_version version) (map bare links)) both.0 (bare-kept version links both.1)

pub bare-numbers : (links : List LinkEntry) (first : ℕ) → ((k : ℕ) (entry : LinkEntry) → slice_get links k ≡ Some entry → link_number entry.shape.link ≡ first + k)
    → (k : ℕ) (entry : LinkEntry) → slice_get (map bare links) k ≡ Some entry → link_number entry.shape.link ≡ first + k
bare-numbers [] first numbers k entry found = cc
bare-numbers (link ∷ links) first numbers zero entry found = ap (λ (e : LinkEntry). link_number e.shape.link) (sym (same_Some (bare link) entry found)) ∙ numbers 0 link refl
bare-numbers (link ∷ links) first numbers (suc k) entry found = bare-numbers links (suc first) (λ n e at. numbers (suc n) e at ∙ omega arith) k entry found ∙ omega arith

-- ---- groups

-- the groups that are left
pub record GroupsLeft (version : Version) (groups rest : List (List ℕ)) : Type 0 where
  pub has : 1 ≤ length rest → has_groups version ≡ true
  pub named : Each (λ (name : List ℕ). is_name name ≡ true) rest
  pub new : each_after is_new groups rest ≡ true
  pub few : length groups + length rest ≤ 4

pub groups-read : (version : Version) (links : List LinkEntry) (groups rest : List (List ℕ)) → 1 ≤ length links → has_quotas links ≡ false → GroupsLeft version groups rest → Reads (map group_fields rest) (front version links groups [] []) (front version links (groups ++ rest) [] [])
unfolding each_after
groups-read version links groups [] some unsplit left = subst (λ (gs : List (List ℕ)). Reads [] (front version links groups [] []) (front version links gs [] [])) (sym (append-nil groups)) (reads-none (front version links groups [] []))
groups-read version links groups (name ∷ rest) some unsplit left =
    let new = and_parts (is_new groups name) (each_after is_new (groups ++ name ∷ []) rest) left.new in
    let all = left.few in
    let longer = length-more groups name in
    let has = left.has (omega arith) in
    let one = group-read version links groups name has some unsplit left.named.0 (not-true _ new.0) (omega (arith, all)) in
    let others = groups-read version links (groups ++ name ∷ []) rest some unsplit (record { has = λ more. has; named = left.named.1; new = new.1; few = omega (arith, all, longer) }) in
    subst (λ (gs : List (List ℕ)). Reads (map group_fields (name ∷ rest)) (front version links groups [] []) (front version links gs [] [])) (append_assoc groups (name ∷ []) rest)
    (reads-on (group_fields name ∷ []) (map group_fields rest) (front version links groups [] []) (front version links (groups ++ name ∷ []) [] []) (front version links ((groups ++ name ∷ []) ++ rest) [] []) one others)

-- ---- the first quotas of a link fit it where all of them do

all-through : (test other : ℕ → Bool) (m count : ℕ) → ((k : ℕ) → test k ≡ true → other k ≡ true) → all_from test m count ≡ true → all_from other m count ≡ true
unfolding all_from
all-through test other m zero through all = refl
all-through test other m (suc count) through all =
    let both = and_parts (test m) (all_from test (suc m) count) all in
    and_from (other m) (all_from other (suc m) count) (through m both.0) (all-through test other (suc m) count through both.1)

fits-front : (shape : LinkShape) (quotas more : List Quota) → quotas_fit shape (quotas ++ more) ≡ true → quotas_fit shape quotas ≡ true
fits-front shape quotas more fit =
    let both = and_parts (all_from (level_fits shape (quotas ++ more)) 1 (length shape.bounds)) (nat_le (total buffer_part (quotas ++ more)) shape.buffer) fit in
    and_from (all_from (level_fits shape quotas) 1 (length shape.bounds)) (nat_le (total buffer_part quotas) shape.buffer)
    (all-through (level_fits shape (quotas ++ more)) (level_fits shape quotas) 1 (length shape.bounds) level both.0)
    (let sum = total-append buffer_part quotas more in
    let within : total buffer_part (quotas ++ more) ≤ shape.buffer = leb-true _ _ both.1 in
    le-leb (total buffer_part quotas) shape.buffer (omega (arith, sum, within)))
  where
    level : (m : ℕ) → level_fits shape (quotas ++ more) m ≡ true → level_fits shape quotas m ≡ true
    level m fits =
        let sum = total-append (level_part m) quotas more in
        let within : blocking_of shape + total (level_part m) (quotas ++ more) ≤ bound_at shape.bounds m = leb-true _ _ fits in
        le-leb (blocking_of shape + total (level_part m) quotas) (bound_at shape.bounds m) (omega (arith, sum, within))

-- ---- the quotas of one link

-- those that are left
pub record QuotasLeft (version : Version) (groups : List (List ℕ)) (entry : LinkEntry) (done left : List Quota) : Type 0 where
  pub has : 1 ≤ length left → has_groups version ≡ true
  pub own : each_after is_of_new_group done left ≡ true
  pub there : list_all (quota_is_there groups) left ≡ true
  pub range : list_all quota_in_range left ≡ true
  pub fit : quotas_fit entry.shape (done ++ left) ≡ true
  pub eight : Each HasEightLoads left
  pub unused : Each (LeavesUnused entry.shape.bounds) left

-- the link stands at its place
record StandsThere (before : List LinkEntry) (entry : LinkEntry) (after : List LinkEntry) : Type 0 where
  name : is_name entry.name ≡ true
  number : link_number entry.shape.link ≡ length before
  apart : are_distinct (link_names (before ++ entry ∷ after)) ≡ true

names-with : (before : List LinkEntry) (entry : LinkEntry) (after : List LinkEntry) (quotas : List Quota) → link_names (before ++ with_quotas entry quotas ∷ after) ≡ link_names (before ++ entry ∷ after)
names-with [] entry after quotas = refl
names-with (first ∷ before) entry after quotas = ap (λ (names : List (List ℕ)). first.name ∷ names) (names-with before entry after quotas)

add-here : (before : List LinkEntry) (link : LinkEntry) (after : List LinkEntry) (n : ℕ) (quota : Quota) → n ≡ length before → add_quota n quota (before ++ link ∷ after) ≡ before ++ with_its_quota quota link ∷ after
add-here [] link after zero quota same = refl
add-here [] link after (suc n) quota same = cc
add-here (first ∷ before) link after zero quota same = cc
add-here (first ∷ before) link after (suc n) quota same = ap (λ (links : List LinkEntry). first ∷ links) (add-here before link after n quota (omega (arith, same)))

some-links : (before : List LinkEntry) (link : LinkEntry) (after : List LinkEntry) → 1 ≤ length (before ++ link ∷ after)
some-links [] link after = omega arith
some-links (first ∷ before) link after = omega arith

quota-read : (version : Version) (groups : List (List ℕ)) (before after : List LinkEntry) (entry : LinkEntry) (done : List Quota) (quota : Quota) → has_groups version ≡ true → GroupsStand groups → StandsThere before entry after
    → is_of_new_group done quota ≡ true → quota_is_there groups quota ≡ true → quota_in_range quota ≡ true → quotas_fit entry.shape (done ++ quota ∷ []) ≡ true → HasEightLoads quota → LeavesUnused entry.shape.bounds quota
    → Reads (quota_fields groups entry quota ∷ []) (front version (before ++ with_quotas entry done ∷ after) groups [] []) (front version (before ++ with_quotas entry (done ++ quota ∷ []) ∷ after) groups [] [])
quota-read version groups before after entry done quota has stand here new there range fit eight unused =
    let link = with_quotas entry done in
    let links = before ++ with_quotas entry done ∷ after in
    let said = front version (before ++ with_quotas entry done ∷ after) groups [] [] in
    let some = some-links before link after in
    let inside = and_parts (nat_le 1 quota.group) (nat_le quota.group (length groups)) there in
    let distinct = ap are_distinct (names-with before entry after done) ∙ here.apart in
    let at : slice_get links (link_number entry.shape.link) ≡ Some link = at-seam before link after (link_number entry.shape.link) here.number in
    let is : IsNextQuota said link quota = record {
      name = here.name;
      place = position-back (λ (e : LinkEntry). e.name) links (link_number entry.shape.link) link distinct at;
      at = at;
      group = group-here groups quota.group stand (leb-true 1 quota.group inside.0) (leb-true quota.group (length groups) inside.1);
      new = new;
      range = range;
      fit = fit;
      eight = eight;
      unused = unused;
    } in
    subst (λ (ls : List LinkEntry). Reads (quota_fields groups entry quota ∷ []) said (front version ls groups [] [])) (add-here before link after (link_number entry.shape.link) quota here.number)
    (quota-reads version said link quota refl (rw (has, not-none links some) refl) is)

link-quotas-read : (version : Version) (groups : List (List ℕ)) (before after : List LinkEntry) (entry : LinkEntry) (done left : List Quota) → GroupsStand groups → StandsThere before entry after → QuotasLeft version groups entry done left
    → Reads (map (quota_fields groups entry) left) (front version (before ++ with_quotas entry done ∷ after) groups [] []) (front version (before ++ with_quotas entry (done ++ left) ∷ after) groups [] [])
unfolding each_after
link-quotas-read version groups before after entry done [] stand here qs =
    subst (λ (quotas : List Quota). Reads [] (front version (before ++ with_quotas entry done ∷ after) groups [] []) (front version (before ++ with_quotas entry quotas ∷ after) groups [] [])) (sym (append-nil done))
    (reads-none (front version (before ++ with_quotas entry done ∷ after) groups [] []))
link-quotas-read version groups before after entry done (quota ∷ left) stand here qs =
    let own = and_parts (is_of_new_group done quota) (each_after is_of_new_group (done ++ quota ∷ []) left) qs.own in
    let there = and_parts (quota_is_there groups quota) (list_all (quota_is_there groups) left) qs.there in
    let range = and_parts (quota_in_range quota) (list_all quota_in_range left) qs.range in
    let has = qs.has (omega arith) in
    let together : quotas_fit entry.shape ((done ++ quota ∷ []) ++ left) ≡ true = ap (quotas_fit entry.shape) (append_assoc done (quota ∷ []) left) ∙ qs.fit in
    let one = quota-read version groups before after entry done quota has stand here own.0 there.0 range.0 (fits-front entry.shape (done ++ quota ∷ []) left together) qs.eight.0 qs.unused.0 in
    let others = link-quotas-read version groups before after entry (done ++ quota ∷ []) left stand here (record {
      has = λ more. has;
      own = own.1;
      there = there.1;
      range = range.1;
      fit = together;
      eight = qs.eight.1;
      unused = qs.unused.1;
    }) in
    subst (λ (quotas : List Quota). Reads (map (quota_fields groups entry) (quota ∷ left)) (front version (before ++ with_quotas entry done ∷ after) groups [] []) (front version (before ++ with_quotas entry quotas ∷ after) groups [] [])) (append_assoc done (quota ∷ []) left)
    (reads-on (quota_fields groups entry quota ∷ []) (map (quota_fields groups entry) left) (front version (before ++ with_quotas entry done ∷ after) groups [] []) (front version (before ++ with_quotas entry (done ++ quota ∷ []) ∷ after) groups [] [])
    (front version (before ++ with_quotas entry ((done ++ quota ∷ []) ++ left) ∷ after) groups [] []) one others)

-- ---- the quotas of all links

pub record SharesLeft (version : Version) (groups : List (List ℕ)) (before rest : List LinkEntry) : Type 0 where
  pub named : Each HasNames rest
  pub apart : are_distinct (link_names (before ++ rest)) ≡ true
  pub numbers : (k : ℕ) (entry : LinkEntry) → slice_get rest k ≡ Some entry → link_number entry.shape.link ≡ length before + k
  pub quotas : Each (λ (entry : LinkEntry). QuotasLeft version groups entry [] entry.quotas) rest

bare-after : (before rest : List LinkEntry) (entry : LinkEntry) → link_names (before ++ entry ∷ map bare rest) ≡ link_names (before ++ entry ∷ rest)
bare-after [] rest entry = ap (λ (names : List (List ℕ)). entry.name ∷ names) (bare-names rest)
bare-after (first ∷ before) rest entry = ap (λ (names : List (List ℕ)). first.name ∷ names) (bare-after before rest entry)

pub shares-read : (version : Version) (groups : List (List ℕ)) (before rest : List LinkEntry) → GroupsStand groups → SharesLeft version groups before rest
    → Reads (flat_map (quota_lines groups) rest) (front version (before ++ map bare rest) groups [] []) (front version (before ++ rest) groups [] [])
shares-read version groups before [] stand left = reads-none (front version (before ++ []) groups [] [])
shares-read version groups before (entry ∷ rest) stand left =
    let here : StandsThere before entry (map bare rest) = record {
      name = left.named.0.name;
      number = left.numbers 0 entry refl ∙ omega arith;
      apart = ap are_distinct (bare-after before rest entry) ∙ left.apart;
    } in
    let longer = length-more before entry in
    let one = link-quotas-read version groups before (map bare rest) entry [] entry.quotas stand here left.quotas.0 in
    let others = shares-read version groups (before ++ entry ∷ []) rest stand (record {
      named = left.named.1;
      apart = ap (λ (links : List LinkEntry). are_distinct (link_names links)) (append_assoc before (entry ∷ []) rest) ∙ left.apart;
      numbers = λ k e found. left.numbers (suc k) e found ∙ omega (arith, longer);
      quotas = left.quotas.1;
    }) in
    reads-on (quota_lines groups entry) (flat_map (quota_lines groups) rest) (front version (before ++ map bare (entry ∷ rest)) groups [] []) (front version (before ++ entry ∷ map bare rest) groups [] []) (front version (before ++ entry ∷ rest) groups [] []) one
    (subst (λ (links : List LinkEntry). Reads (flat_map (quota_lines groups) rest) (front version (before ++ entry ∷ map bare rest) groups [] []) (front version links groups [] [])) (append_assoc before (entry ∷ []) rest)
    (subst (λ (links : List LinkEntry). Reads (flat_map (quota_lines groups) rest) (front version links groups [] []) (front version ((before ++ entry ∷ []) ++ rest) groups [] [])) (append_assoc before (entry ∷ []) (map bare rest)) others))
