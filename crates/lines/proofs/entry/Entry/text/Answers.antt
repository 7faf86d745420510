-- What is written reads back.
use Rattle.lines.specs.Entries.{entered}
use Rattle.lines.proofs.Rereading.{rereads}
use Rattle.lines.proofs.entry.Entry.text.Goals as goal

pub returns-clause-again : goal.returns-clause-again
returns-clause-again c = rereads (entered c.args.self.now)
