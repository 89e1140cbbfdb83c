-- A link that rests keeps all it kept, but for its clock.
use Rattle.std.proofs.Common.{arith}
use Rattle.link_server.proofs.Words.{whole, account_in}
use Rattle.link_server.proofs.LinkRests.{later-sound, later-stood}
use Rattle.link_server.proofs.EveryHistoryAgrees.{rows-have}
use Rattle.link_steps.proofs.QuietTicks.{later-rests, quiet-ticks}
use Rattle.link_server.proofs.link_state.LinkState.rest.Goals as goal

pub invariant_of-self : goal.invariant_of-self
invariant_of-self c =
    let link = c.args.self.now in
    let rests = c.requires.rests in
    record {
      of_shape = link.of_shape;
      looked = (let looked = link.looked.0 in omega (arith, looked), let looked = link.looked.1 in omega (arith, looked));
      few = link.few;
      same_bounds = link.same_bounds;
      same_rate = link.same_rate;
      sound = later-sound link.shape link.queue.room rests.0 c.args.ticks (account_in link) rests.1.0 rests.1.1 link.sound;
      stood = later-stood link.shape rests.0 c.args.ticks (account_in link) (rows-have link) rests.1.0 rests.1.1 link.stood;
      counted = link.counted;
      rests = λ before. later-rests link.shape link.due c.args.ticks (account_in link) (link.rests (omega (arith, before)));
    }

pub returns-clause-made : goal.returns-clause-made
returns-clause-made c = λ h stands.
    let link = c.args.self.now in
    let rests = c.requires.rests in
    (quiet-ticks (whole link.shape) rests.0 c.args.ticks (account_in link) h (rows-have link) stands rests.1.0 rests.1.1).stands

pub returns-clause-legal : goal.returns-clause-legal
returns-clause-legal c = λ m h few stands.
    let link = c.args.self.now in
    let rests = c.requires.rests in
    (quiet-ticks (whole link.shape) rests.0 c.args.ticks (account_in link) h (rows-have link) stands rests.1.0 rests.1.1).replied m few
