-- Outputs of two programs that may differ in their debug items.
use Rattle.std.specs.Prelude.{◌≡◌, ℕ, List}
use Rattle.listing_text.specs.declared.output.Output.{Output}
use Rattle.invariance_code.specs.Alike.{HaveAlikeCode}
use Rattle.read_program.specs.declared.closing.Parsed.{Parsed}
use Rattle.read_program.specs.declared.program.Program.{Program}
use Rattle.pass_list.specs.declared.kind.PassKind.{PassKind}
use Rattle.tool_driver.specs.Program.{IsOutputOf, steps_of}
use Rattle.theorem_invariance.specs.Text.{OneByOne}

-- Two functions that were read expose the same and have equal code up to debug items (see `HaveAlikeCode`). What is exposed is no debug item: it is nothing
-- unless functions are read in the linked language.
abbrev pub AreReadAlike : Parsed → Parsed → Type 0
AreReadAlike f g = (f.exposure ≡ g.exposure) × HaveAlikeCode f.func g.func

-- Two programs have as many functions, which pairwise expose the same and have equal code up to debug items.
abbrev pub HaveAlikeFunctions : Program → Program → Type 0
HaveAlikeFunctions p q = OneByOne AreReadAlike p.functions q.functions

-- Outputs of two such programs, compiled with the same passes, have the same `.text`.
abbrev pub OutputsOfAlikeCode : Type 0
OutputsOfAlikeCode = (reserve : List ℕ) (passes : List PassKind) (p q : Program) (o o' : Output) → HaveAlikeFunctions p q →
    IsOutputOf (steps_of reserve passes) p o → IsOutputOf (steps_of reserve passes) q o' → o.text ≡ o'.text
