-- Of the numbers in the table, each is what its search found.
use Rattle.std.proofs.Common.{arith}
use Rattle.opening.proofs.Searches.{find_first, find_twice}
use Rattle.opening.proofs.table.fit_cards.Goals as goal

pub returns-in-Some : goal.returns-in-Some
returns-in-Some c = grind (arith, find_first)

pub returns-in-Some-first_number_twice : goal.returns-in-Some-first_number_twice
returns-in-Some-first_number_twice c = grind (arith, find_first, find_twice c.args.cards.now)

pub returns : goal.returns
returns c = grind (arith, find_first, find_twice c.args.cards.now)
