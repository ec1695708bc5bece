-- How far runs of lines go.
use Rattle.std.proofs.lemmas.List.Sums.{prefix_len-le-length}

-- a run is no longer than the lines that it is a front of
pub ruleset runs = (prefix_len-le-length)
