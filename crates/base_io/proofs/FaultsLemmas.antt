-- One call after another, on the counts of faults.
use Rattle.std.proofs.Common.{ℕ, ◌≤◌, inl, inr, arith}
use Rattle.std.proofs.lemmas.Bool.{cases_lt}
use Rattle.base_io.specs.Faults.{CountRose}

-- a count that rose in a later call rose in both together
pub CountRose-later : (old mid new : ℕ) → old ≤ mid → CountRose mid new → CountRose old new
CountRose-later old mid new kept (inl rose) = inl (omega arith)
CountRose-later old mid new kept (inr stands) = inr stands

-- a count that rose in an earlier call rose in both together
pub CountRose-earlier : (old mid new : ℕ) → old ≤ mid → CountRose old mid → mid ≤ new → CountRose old new
CountRose-earlier old mid new before (inl rose) kept = inl (omega arith)
CountRose-earlier old mid new before (inr stands) kept =
    elim (cases_lt mid new) [ inl more ↦ inl (omega arith) | inr same ↦ inr (omega arith) ]
