-- The change of a stream in a run.
use Rattle.std.specs.Prelude.{◌≡◌, ℕ, List, Option}
use Rattle.base_io.specs.Faults.{CountRose}
use Rattle.base_io.specs.Told.{Takes, TakesCount, IsAtEnd, Appends, AppendsPrefix, AppendsUnlessFault}

-- the state of a stream: the bytes left in it or written to it, if they are known, and the number of faults so far
pub record Stream : Type 0 where
  pub bytes : Option (List ℕ)
  pub faults : ℕ

-- the states of a stream before and after
pub record Change : Type 0 where
  pub before : Stream
  pub after : Stream

-- the change between two values of a source or sink, where `bytes` and `faults` are the state of each
abbrev pub change : {S : Type 0} → (bytes : S → Option (List ℕ)) → (faults : S → ℕ) → (before after : S) → Change
change bytes faults before after =
    record { before = record { bytes = bytes before; faults = faults before }; after = record { bytes = bytes after; faults = faults after } }

-- no fault occurred: the number of faults is unchanged
abbrev pub IsSteady : Change → Type 0
IsSteady c = c.after.faults ≡ c.before.faults

-- a fault occurred: the number rose, or is at its maximum
abbrev pub MetFault : Change → Type 0
MetFault c = CountRose c.before.faults c.after.faults

-- the stream is unchanged: nothing was read, and no fault was counted
abbrev pub IsUnread : Change → Type 0
IsUnread c = c.after ≡ c.before

-- all bytes left were read, without a fault, and they were these
pub record IsReadWhole (input : Change) (text : List ℕ) : Type 0 where
  pub takes : Takes input.before.bytes input.after.bytes text
  pub ended : IsAtEnd input.after.bytes
  pub steady : IsSteady input

-- this many bytes were read, without a fault
pub record IsReadFor (input : Change) (count : ℕ) : Type 0 where
  pub takes : TakesCount input.before.bytes input.after.bytes count
  pub steady : IsSteady input

-- these bytes were written, without a fault
pub record IsWrittenWhole (output : Change) (text : List ℕ) : Type 0 where
  pub appends : Appends output.before.bytes output.after.bytes text
  pub steady : IsSteady output

-- a prefix of these bytes was written
abbrev pub IsWrittenInPart : Change → (text : List ℕ) → Type 0
IsWrittenInPart output text = AppendsPrefix output.before.bytes output.after.bytes text

-- these bytes were written, or a prefix of them and a fault occurred
abbrev pub IsTold : Change → (text : List ℕ) → Type 0
IsTold output text = AppendsUnlessFault output.before.bytes output.after.bytes output.before.faults output.after.faults text
