-- Each packet in the slab has its key in line, once.
use Rattle.std.proofs.Common.{sym, ◌∙◌}
use Rattle.link_server.specs.Ready.{queues_of}
use Rattle.link_server.proofs.Waiting.Keys.{long-packets}
use Rattle.link_server.proofs.queue.line.Line.len.Goals as goal

pub returns : goal.returns
returns c = (let line = c.args.self.now in c.len.ensures ∙ line.keyed.counted ∙ sym (long-packets line.packets.slots line.later.entries (queues_of line.ready)))
