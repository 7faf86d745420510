-- The width falls.
use Rattle.lines.proofs.hex.+put_number.Given as goal

abbrev pub decreases-put-number : goal.decreases-put-number
decreases-put-number g l = l.width
