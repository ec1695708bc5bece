-- The log of calls of a source or a sink over memory.
use Rattle.std.specs.Prelude.{ℕ, ◌+◌, List, Contains}
use Rattle.base_io.specs.Faults.{risen}

-- the numbers of the calls that fail, how many calls there were, and how many of them were faults
pub record Calls : Type 0 where
  pub fails : List ℕ
  pub made : ℕ
  pub faults : ℕ

-- the log before the first call
abbrev pub no_calls : List ℕ → Calls
no_calls fails = record { fails = fails; made = 0; faults = 0 }

-- the next call must fail. The first call has the number 1
abbrev pub IsToFail : Calls → Type 0
IsToFail calls = Contains calls.fails (calls.made + 1)

-- the log after one more call
abbrev pub after_call : Calls → Calls
after_call calls = record calls { made = risen calls.made }

-- the log after one more call, which was a fault
abbrev pub after_fault : Calls → Calls
after_fault calls = record calls { made = risen calls.made; faults = risen calls.faults }
