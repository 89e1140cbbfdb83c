use Rattle.std.proofs.Common.{◌≡◌, ◌+◌, ◌<◌, ℕ, List, [], ◌∷◌, ◌++◌, length, map, sym, ap, ◌∙◌, subst, ⊎_elim, arith}
use Rattle.shared_network.proofs.Words.{length-append, map-append, slice_get_within, link_number, Each, Has, Differ, pass_view, link_view, seat_link, View, Journal}
use Rattle.link_steps.proofs.SearchAndFilter.{Each-append}
use Rattle.step_stamp.proofs.ListMembers.{has-left, has-right, has-split, differ-both}
use Rattle.shared_network.specs.Closing.{number_of}
use Rattle.shared_network.specs.Gathering.{IsBelow, IsSettled}
use Rattle.shared_network.proofs.Numbering.SeatsJoined.{settled-next}
use Rattle.shared_network.proofs.closing.take_journals.Goals as goal

pub loop-link-preserved : goal.loop-link-preserved
loop-link-preserved g c =
    let so = c.loop-link.invariant in
    let n : ℕ = length g.H.Home.links in
    let journals : List Journal = c.loop-link.journals.items in
    let journal : Journal = c.into_journal-journal.result.0 in
    let told = c.into_journal-journal.ensures in
    let l : ℕ = seat_link c.into_journal-journal.result.1 in
    let v : View = pass_view c.loop-link.seat in
    let v' : View = pass_view c.settle.new.self in
    let joined = c.settle.ensures.joined in
    let pushed = c.push_reserved.ensures.items in
    let capacity = c.push_reserved.ensures.capacity in
    let more : length c.push_reserved.new.self.items ≡ length journals + 1 = ap length pushed ∙ length-append journals (journal ∷ []) in
    let number : number_of journal ≡ l = ap link_number told.link in
    let numbers : map number_of c.push_reserved.new.self.items ≡ map number_of journals ++ l ∷ [] = ap (map number_of) pushed ∙ map-append number_of journals (journal ∷ []) ∙ ap (λ k. map number_of journals ++ k ∷ []) number in
    let next = settled-next g.H.Home.links (pass_view c.args.seat) v v' (link_view c.into_journal-journal.result.1) l journal told.journal.0 so.stays c.requires.acts number joined told.marks told.journal.1 told.journal.2 in
    record {
      settled = subst (Each (IsSettled g.H.Home.links (pass_view c.args.seat))) (sym pushed) (Each-append (IsSettled g.H.Home.links (pass_view c.args.seat)) journals (journal ∷ []) so.settled (next.0, tt));
      below = subst (Each (IsBelow n)) (sym pushed) (Each-append (IsBelow n) journals (journal ∷ []) so.below (subst (λ k. k < n) (sym number) (slice_get_within g.H.Home.links l told.journal.0 told.journal.1), tt));
      apart = subst Differ (sym numbers) (differ-both (map number_of journals) (l ∷ []) so.apart ((λ none. none), tt)
          (λ k before last. ⊎_elim (λ (e : l ≡ k). joined.new (subst (λ j. Has j v.links) (sym e) (so.here k before))) (λ none. none) last));
      here = λ k has. subst (Has k) (sym joined.links)
          (⊎_elim (λ before. has-left k v.links (l ∷ []) (so.here k before)) (λ last. has-right k v.links (l ∷ []) last) (has-split k (map number_of journals) (l ∷ []) (subst (Has k) numbers has)));
      stays = next.1;
      table = c.settle.ensures.same.0 ∙ so.table;
      all = (let long = ap length c.in-Some.ensures.steps.0 in let all = so.all in omega (arith, long, more, all));
      room = (let room = so.room in omega (arith, capacity, room));
    }
