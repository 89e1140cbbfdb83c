use Rattle.std.proofs.Common.{◌≡◌, map, length, sym, subst, ◌∙◌}
use Rattle.link_steps.specs.Journals.{IsLegalJournal}
use Rattle.link_steps.proofs.LegalJournals.{journals-are-histories}
use Rattle.step_stamp.specs.Seats.{seat_link, list_of, link_view, link_table}
use Rattle.link_ledger.specs.Journals.{done_in}
use Rattle.link_ledger.specs.Order.{HeldLink, IsOrdered}
use Rattle.link_ledger.specs.Tokens.{IsLink}
use Rattle.link_ledger.proofs.locked.LockedLink.into_journal.Goals as goal

pub returns-clause-journal : goal.returns-clause-journal
returns-clause-journal g c =
    let held : HeldLink = c.into_inner.result in
    let parts = c.into_parts-entries.ensures in
    let order = parts.order in
    let told : c.new.result ≡ held.entries = c.new.ensures ∙ parts.entries in
    let same : held ≡ record { number = seat_link c.into_parts-entries.result.1; rules = held.rules; entries = c.new.result; list = list_of c.into_parts-entries.result.1; seen = (link_view c.into_parts-entries.result.1).seen; table = link_table c.into_parts-entries.result.1 } =
    λ i. record { number = sym parts.seat.1 i; rules = held.rules; entries = sym told i; list = sym parts.seat.2 i; seen = sym parts.seat.3 i; table = sym parts.seat.0 i } in (
      held.rules,
      subst (λ n. IsLink g.H.Home.links n held.rules) (sym parts.seat.1) parts.rules,
      subst (λ es. IsLegalJournal held.rules (map done_in es)) (sym told) ((journals-are-histories held.rules (map done_in held.entries)).1 order.legal),
      subst (IsOrdered g.H.Home.owners (length g.H.Home.links)) same order,
    )
