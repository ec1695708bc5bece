-- Errors of passes, as errors of compilation.
use Rattle.std.proofs.Common.{◌≡◌, refl}
use Rattle.compile_passes.specs.declared.error.PassesError.{PassesError}
use Rattle.compile_passes.specs.declared.error.PassesError.TheVariants as passing
use Rattle.compile_function.specs.declared.error.CompileError.TheVariants as compiling
use Rattle.compile_function.specs.Fault.{of_passes}

-- the one that is NoRegister is that of linear scan
pub register_error : (e : PassesError) → of_passes e ≡ compiling.NoRegister → e ≡ passing.NoRegister
register_error passing.NoRegister is = refl
register_error passing.Memory is = cc
