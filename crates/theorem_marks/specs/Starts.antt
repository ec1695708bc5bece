-- Starts with given arguments and results of calls.
use Rattle.std.specs.Prelude.{ℕ, ◌<◌, ◌^◌, List, All}
use Rattle.rv64_instr.specs.declared.symbol.Symbol.{Symbol}
use Rattle.sem_machine.specs.Image.{Image}
use Rattle.run_command.specs.Source.{BeginsAsked}
use Rattle.mir_func.specs.Function.{Function}
use Rattle.sem_mir.specs.State.{State}

-- For any addresses of symbols, 64-bit arguments and values, and a 64-bit limit of steps, a run of any function can start, together with the machine on
-- any image.
abbrev pub RunsCanStart : Type 0
RunsCanStart = (source : Function) (image : Image) (addresses : List (Symbol × ℕ)) (arguments values : List ℕ) (limit : ℕ) →
    All (λ a. a < 2 ^ 64) arguments → All (λ v. v < 2 ^ 64) values → limit < 2 ^ 64 →
    (s : State) × BeginsAsked source image addresses arguments values limit s
