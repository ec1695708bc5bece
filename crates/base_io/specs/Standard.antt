-- The source and the sink over the standard library.
use Rattle.std.specs.Prelude.{ℕ, List, Option}

-- a source or a sink over the standard library: the bytes that the library knows of the reader or writer, if it does,
-- and the count of faults
pub record Standard : Type 0 where
  pub known : Option (List ℕ)
  pub faults : ℕ
