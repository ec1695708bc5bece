-- The source and the sink over memory.
use Rattle.std.specs.Prelude.{◌≡◌, ℕ, ◌<◌, List, length}
use Rattle.base_io.specs.Calls.{Calls}

-- a source over memory: the bytes left, and the calls so far
pub record MemoryInput : Type 0 where
  pub left : List ℕ
  pub calls : Calls

-- a sink over memory: the bytes written, how many bytes it has room for, and the calls so far
pub record MemoryOutput : Type 0 where
  pub written : List ℕ
  pub room : ℕ
  pub calls : Calls

-- the piece isn't empty, and the sink's room is full
abbrev pub MeetsFullRoom : MemoryOutput → List ℕ → Type 0
MeetsFullRoom sink bytes = (0 < length bytes) × (length sink.written ≡ sink.room)
