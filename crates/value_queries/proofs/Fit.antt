-- A constant of 64 bits is one that a list may name.
use Rattle.std.specs.Prelude.{ℤ, pos, negsuc, FitsSigned}
use Rattle.std.specs.Int.{w64}
use Rattle.std.proofs.Common.{arith}
use Rattle.std.proofs.lemmas.Int.{ints}
use Rattle.rv64_instr.specs.declared.place.Place.TheVariants.{Const}
use Rattle.sem_mir.specs.PreferredLocation.{IsPlace}

pub fits_named : (c : ℤ) → FitsSigned w64 c → IsPlace (Const c)
fits_named (pos n) fits = omega (arith, ints)
fits_named (negsuc n) fits = omega (arith, ints)
