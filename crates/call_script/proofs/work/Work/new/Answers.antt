-- An opening begins with a setup that has an ask left, a send with its one ask.
use Rattle.std.proofs.Common.{Some, ap, refl, sym}
use Rattle.hop_reservation.specs.Routes.{IsRoute}
use Rattle.call_script.proofs.WorkByReplies.{fresh-setup}
use Rattle.call_script.proofs.work.Work.new.Goals as goal

pub returns-in-Opens : goal.returns-in-Opens
returns-in-Opens c = λ tasks.
    let route : IsRoute c.in-Opens.request.route = rw c.in-Opens.is at c.requires in
    rw c.in-Opens.is (record {
      channel = refl;
      same = c.new.ensures.request;
      stands = c.new.ensures.stands;
      left = fresh-setup c.new.result c.in-Opens.request c.new.ensures.request route.least c.new.ensures.stands;
    })

pub returns-in-Sends : goal.returns-in-Sends
returns-in-Sends c = λ tasks. rw c.in-Sends.is (record { fresh = refl; asks = ap (λ ask. Some (c.in-Sends.link, ask)) (sym c.packets_ask.ensures) })
