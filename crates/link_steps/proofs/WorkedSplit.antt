-- Two groups on one link, each within its quotas: what each reserve is replied, in order.
use Rattle.std.proofs.Common.{◌≡◌, ◌∙◌, [], ◌∷◌, refl}
use Rattle.link_steps.specs.declared.replies.Refusal.TheVariants.{NoLevel}
use Rattle.link_steps.specs.declared.replies.Reply.TheVariants.{Relaxed, Refused}
use Rattle.link_steps.specs.Split.{Link}
use Rattle.link_steps.proofs.Play.{legal_replies, replied, replied-legal}
use Rattle.link_steps.proofs.WorkedLink.{shape_a, voice, chan1, chan2, chan3, chan4, chan5, chan9, reserve, relax, offer}

-- channels 1 to 3 are of group 1, and 4, 5 and 9 of group 2
abbrev split_a : Link
split_a = record {
  shape = shape_a;
  split = record {
    quotas = record { group = 1; buffer = 50; levels = 4 ∷ 8 ∷ 20 ∷ 0 ∷ 0 ∷ 0 ∷ 0 ∷ 0 ∷ [] } ∷ record { group = 2; buffer = 50; levels = 2 ∷ 8 ∷ 16 ∷ 0 ∷ 0 ∷ 0 ∷ 0 ∷ 0 ∷ [] } ∷ [];
    groups = 0 ∷ 1 ∷ 1 ∷ 1 ∷ 2 ∷ 2 ∷ 0 ∷ 0 ∷ 0 ∷ 2 ∷ [];
  };
}

-- each group has its own best levels, and refusals of its own
each-by-its-quota : legal_replies split_a []
    (reserve chan1 voice 12 ∷ relax chan1 1 ∷ reserve chan2 voice 22 ∷ relax chan2 2 ∷ reserve chan3 voice 100 ∷ reserve chan4 voice 22 ∷ relax chan4 2 ∷ reserve chan5 voice 22 ∷ relax chan5 2 ∷ reserve chan9 voice 100 ∷ [])
    ≡ (offer 1 1 ∷ Relaxed 0 ∷ offer 2 2 ∷ Relaxed 0 ∷ Refused (NoLevel 24 20) ∷ offer 2 2 ∷ Relaxed 0 ∷ offer 2 2 ∷ Relaxed 0 ∷ Refused (NoLevel 24 16) ∷ [])
unfolding replied
each-by-its-quota = replied-legal split_a _ ∙ refl
