-- A new link holds no rows.
use Rattle.std.proofs.lemmas.List.{length_push}
use Rattle.link_quota.specs.declared.share.Share.{Share}
use Rattle.std.proofs.Common.{◌≡◌, ◌∙◌, List, [], ◌∷◌, ◌++◌, ◌+◌, length, rules, sym, ap, subst, arith}
use Rattle.link_server.specs.State.{account_in}
use Rattle.traffic_contract.specs.Admission.{total}
use Rattle.link_quota.specs.Closing.{closing_part}
use Rattle.link_quota.specs.Shares.{AreShares}
use Rattle.link_quota.proofs.SharesRowByRow.{AreNoneTo, none-push, shares-none}
use Rattle.link_quota.proofs.SomeLegalHistory.{stood-new, held-new}
use Rattle.link_server.proofs.LinkRests.{due-now}
use Rattle.link_quota.proofs.quota_link.QuotaLink.new.Goals as goal

pub invariant_of-result : goal.invariant_of-result
invariant_of-result c =
    let shape = c.in_ok-link.ensures.shape in
    let stands = c.in_ok-link.ensures.stands in
    let long = c.loop.invariant.0 in
    let past = c.loop-test.false in
    let end = c.loop.auto.index-end in
    let quotas = ap length c.quotas-items.ensures in
    record {
      fits = rw shape c.requires;
      shared =
          subst (λ held. AreShares (record { shape = c.in_ok-link.link.shape; split = c.args.split }) held c.loop.shares.items) (sym (held-new c.in_ok-link.link stands))
          (shares-none (record { shape = c.in_ok-link.link.shape; split = c.args.split }) c.loop.shares.items c.loop.index (omega (arith, long)) (omega (arith, long, past, end, quotas)) c.loop.invariant.1);
      listed = λ splits f. ap (total f) (let empty : c.new-2.result.items ≡ [] = search rules in empty) ∙ ap (total (closing_part c.in_ok-link.link.shape.bounds f)) (sym (held-new c.in_ok-link.link stands));
      room = λ splits. (let none = ap length (held-new c.in_ok-link.link stands) in omega (arith, none));
      stood = stood-new (record { shape = c.in_ok-link.link.shape; split = c.args.split }) (account_in c.in_ok-link.link) stands;
      rests = due-now c.in_ok-link.link.shape (account_in c.in_ok-link.link);
    }

pub loop-preserved : goal.loop-preserved
loop-preserved c =
    let all : c.push_reserved.new.self.items ≡ c.loop.shares.items ++ c.none.result ∷ [] = c.push_reserved.ensures.items ∙ ap (λ (s : List Share). s ++ c.none.result ∷ []) c.reserve.ensures.items in
    let long = c.loop.invariant.0 in (
      ap length all ∙ length_push c.loop.shares.items c.none.result ∙ ap (λ n. n + 1) long,
      subst (λ (s : List Share). AreNoneTo s (c.loop.index + 1)) (sym all) (none-push c.loop.shares.items c.loop.index c.none.result long c.none.ensures.loads c.none.ensures.units c.loop.invariant.1),
    )
