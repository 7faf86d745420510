-- Each kind by its own function.
use Rattle.lines.proofs.read.line_of.Goals as goal

pub returns-in-Row-clause-told : goal.returns-in-Row-clause-told
returns-in-Row-clause-told c = rw c.in-Row.is c.row.ensures.told

pub returns-in-Card-clause-told : goal.returns-in-Card-clause-told
returns-in-Card-clause-told c = rw c.in-Card.is c.card.ensures.told

pub returns-in-Key-clause-told : goal.returns-in-Key-clause-told
returns-in-Key-clause-told c = rw c.in-Key.is c.key.ensures.told

pub returns-in-Dummy-clause-told : goal.returns-in-Dummy-clause-told
returns-in-Dummy-clause-told c = rw c.in-Dummy.is c.dummy.ensures.told
