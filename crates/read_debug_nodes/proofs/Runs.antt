-- How far runs of bytes go.
use Rattle.std.proofs.lemmas.List.Sums.{prefix_len-le-length}

-- a run is no longer than the bytes that it is a front of
pub ruleset runs = (prefix_len-le-length)
