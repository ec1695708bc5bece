-- A generated function has no virtual register, so linear scan leaves none in it.
use Rattle.std.proofs.Common.{ℕ, List, [], ◌∷◌, All}
use Rattle.std.proofs.lemmas.List.Elements.{All-nil, All-cons, All-contains}
use Rattle.mir_exposure.specs.declared.exposure.Exposure.TheVariants.{Nothing}
use Rattle.gen_function.specs.Generator.{generated}
use Rattle.gen_program.proofs.ReadLemmas.{generated_is_physical}
use Rattle.pass_trait.specs.Sizes.{IsPhysical}
use Rattle.compile_program.specs.read_program.declared.closing.Parsed.{Parsed}
use Rattle.compile_program.specs.Program.{HasVirtualRegister}
use Rattle.gen_sizes.specs.Laws.{GeneratedHaveRegisters}

-- linear scan leaves no virtual register in a function without one
pub alone_gets : (reserve : List ℕ) (q : Parsed) → IsPhysical q.func → HasVirtualRegister reserve (q ∷ []) → ⊥
alone_gets reserve q physical has =
    let P : Parsed → Type 0 = λ p. IsPhysical p.func in
    let among : IsPhysical has.function.func = All-contains P (q ∷ []) has.function (All-cons P q [] physical (All-nil P)) has.among in
    has.virtual.named among

pub generated_have_registers : GeneratedHaveRegisters
generated_have_registers number count reserve few =
    alone_gets reserve (record { func = generated number count; subs = []; pool = []; exposure = Nothing }) (generated_is_physical number count few)
