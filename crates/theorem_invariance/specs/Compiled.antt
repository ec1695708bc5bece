-- Outputs that are compiled of passed functions, with and without debug items.
use Rattle.std.specs.Prelude.{◌≡◌, ℕ, List, map}
use Rattle.mir_func.specs.Function.{Function}
use Rattle.emit_code.specs.Rule.{Layout}
use Rattle.listing_text.specs.declared.output.ListedFunction.{ListedFunction}
use Rattle.listing_text.specs.declared.output.Output.{Output}
use Rattle.dwarf_loclists.specs.declared.range.Range.{Range}
use Rattle.invariance_code.specs.Alike.{HaveAlikeCode}
use Rattle.compile_theorem.specs.Compiled.{AreCompiled, IsCompiledProgram}
use Rattle.compile_theorem.specs.Source.{PassedFunction}
use Rattle.theorem_invariance.specs.Text.{AreLaid, OneByOne}

-- the functions that passes made, without their sources
abbrev pub functions_of : List PassedFunction → List Function
functions_of sources = map (λ s. s.function) sources

-- The functions have layouts one after the other from address `base`, and `text` is their bytes.
pub record HaveLayouts (base : ℕ) (text : List ℕ) (fs : List Function) : Type 0 where
  pub layouts : List Layout
  pub laid : AreLaid base text fs layouts

-- Compiled functions have layouts one after the other.
abbrev pub CompiledIsLaid : Type 0
CompiledIsLaid = (names : ℕ → List ℕ) (sources : List PassedFunction) (base first : ℕ) (text : List ℕ) (lists : List (List Range)) (fs : List ListedFunction) →
    AreCompiled names base first text lists sources fs → HaveLayouts base text (functions_of sources)

-- Two outputs of passed functions with pairwise equal code up to debug items have the same `.text`.
abbrev pub CompiledHasSameText : Type 0
CompiledHasSameText = (names names' : ℕ → List ℕ) (sources others : List PassedFunction) (o o' : Output) →
    OneByOne HaveAlikeCode (functions_of sources) (functions_of others) → IsCompiledProgram names sources o → IsCompiledProgram names' others o' →
    o.text ≡ o'.text
