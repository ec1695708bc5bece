-- Pieces that are appended one behind the other.
use Rattle.std.proofs.Common.{◌≡◌, ℕ, List, ◌++◌, append_assoc}

-- two pieces and an end
pub two_more : (a b l d e : List ℕ) → ((a ++ b) ++ (l ++ d)) ++ e ≡ a ++ b ++ l ++ d ++ e
two_more a b l d e = simp append_assoc

-- three labelled numbers
pub three_labelled : (a l b m c n : List ℕ) → ((a ++ l) ++ (b ++ m)) ++ (c ++ n) ≡ a ++ l ++ b ++ m ++ c ++ n
three_labelled a l b m c n = simp append_assoc
