-- `chains::chains_below`: the measure of its calls of itself.
use Rattle.chains.proofs.+chains_below.Given as goal

-- proposed from what the function passes where it calls itself
abbrev pub decreases-chains_below : goal.decreases-chains_below
decreases-chains_below l = l.v
