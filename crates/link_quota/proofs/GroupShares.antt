-- The share and the quota of a group, where it has one and where it has none.
use Rattle.std.proofs.Common.{◌≡◌, ℕ, ◌+◌, ◌-◌, List, replicate, get_or, sym, ap, ◌∙◌, subst, arith}
use Rattle.std.proofs.lemmas.List.{get_or-replicate}
use Rattle.std.proofs.lemmas.Option.{slice_get-get_or, get_or_from_slice_get}
use Rattle.std.specs.List.{slice_index}
use Rattle.net_units.proofs.BoundsInOrder.{bounds-parts}
use Rattle.link_steps.specs.declared.quota.Quota.{Quota}
use Rattle.link_steps.specs.Reservation.{Reservation}
use Rattle.link_steps.specs.Split.{Link, level_part, buffer_part}
use Rattle.link_steps.proofs.QuotasFitLink.{AreWithin}
use Rattle.link_quota.specs.Places.{HasNoQuota, IsQuotaPlace, IsQuotaOf}
use Rattle.link_quota.specs.Shares.{IsShare, AreShares}
use Rattle.link_quota.specs.declared.share.Share.{Share}
use Rattle.link_quota.proofs.QuotaPlaces.{place-inside, part-at, part-none}

pub share-there : (link : Link) (held : List Reservation) (shares : List Share) (group place : ℕ) (d : Share) → IsQuotaPlace link.split.quotas group place → AreShares link held shares → IsShare link group held (get_or shares place d)
share-there link held shares group place d at are =
    let inside = place-inside link.split.quotas group place shares at are.long in
    subst (λ g. IsShare link g held (get_or shares place d)) at.is (are.each place at.quota (get_or shares place d) at.here (slice_get-get_or shares place d inside))

pub quota-there : (link : Link) (group place : ℕ) (d : Quota) → (at : IsQuotaPlace link.split.quotas group place) → IsQuotaOf link group (get_or link.split.quotas place d)
quota-there link group place d at =
    let same = get_or_from_slice_get link.split.quotas place at.quota d at.here in
    record {
      levels = λ m from upto. ap (λ (q : Quota). slice_index q.levels (m - 1)) same ∙ sym (part-at (level_part m) link.split.quotas group place at);
      buffer = ap (λ (q : Quota). q.buffer) same ∙ sym (part-at buffer_part link.split.quotas group place at);
    }

pub none-share : (link : Link) (held : List Reservation) (group : ℕ) (share : Share) → HasNoQuota link.split.quotas group → AreWithin link held → share.loads ≡ replicate 8 0 → share.units ≡ 0 → IsShare link group held share
none-share link held group share none within loads units = record {
  loads = λ i inside.
      let most = (bounds-parts link.shape.bounds link.shape.bounds_rise).most in
      let zero_is : slice_index share.loads i ≡ 0 = ap (λ ls. slice_index ls i) loads ∙ get_or-replicate 8 i 0 0 (omega (arith, inside, most)) in
      let part = part-none (level_part (i + 1)) link.split.quotas group none in
      let less = within.levels group (i + 1) (omega arith) (omega (arith, inside)) in
      omega (arith, zero_is, part, less);
  units =
      let part = part-none buffer_part link.split.quotas group none in
      let less = within.buffer group in
      omega (arith, units, part, less);
}

pub none-quota : (link : Link) (group : ℕ) (quota : Quota) → HasNoQuota link.split.quotas group → quota.levels ≡ replicate 8 0 → quota.buffer ≡ 0 → IsQuotaOf link group quota
none-quota link group quota none levels buffer = record {
  levels = λ m from upto.
      let most = (bounds-parts link.shape.bounds link.shape.bounds_rise).most in
      ap (λ ls. slice_index ls (m - 1)) levels ∙ get_or-replicate 8 (m - 1) 0 0 (omega (arith, from, upto, most)) ∙ sym (part-none (level_part m) link.split.quotas group none);
  buffer = buffer ∙ sym (part-none buffer_part link.split.quotas group none);
}
