-- The program of a generated function.
use Rattle.std.specs.Prelude.{ℕ, [], ◌∷◌}
use Rattle.read_metadata.specs.Metadata.{metadata_of}
use Rattle.mir_exposure.specs.declared.exposure.Exposure.TheVariants.{Nothing}
use Rattle.gen_function.specs.Generator.{generated}
use Rattle.read_proof.specs.read_program.declared.program.Program.{Program}

-- the program whose one function is the generated one, without metadata and debug value substitutions
abbrev pub generated_program : (number blocks : ℕ) → Program
generated_program number count = record {
  functions = record { func = generated number count; subs = []; pool = []; exposure = Nothing } ∷ [];
  meta = metadata_of [];
}
