-- The theorem that listings are printable.
use Rattle.std.specs.Prelude.{ℕ, ◌+◌, ◌*◌, ◌<◌, ◌^◌, List, length, All, Option}
use Rattle.mir_func.specs.declared.debug_substitution.DebugSubstitution.{DebugSubstitution}
use Rattle.mir_func.specs.SoundFrame.{IsFramed}
use Rattle.emit_code.specs.Rule.{Layout, words_of}
use Rattle.emit_code.specs.Laid.{IsWorded}
use Rattle.listing_text.specs.declared.output.ListedVariable.{ListedVariable}
use Rattle.listing_text.specs.Shown.{IsPrintableVariable, IsPrintableEntry, IsPrintableFunction}
use Rattle.listing_meaning.specs.Listing.{listing_of}
use Rattle.listing_function.specs.Printable.{IsPrintableFramed}

-- The listing of a layout below 2^32 of a printable function, with printable variables and substitutions, is printable.
abbrev pub ListingsArePrintable : Type 0
ListingsArePrintable = (inlined : ℕ → Option ℕ) (l : Layout) (variables : List ListedVariable) (substitutions : List DebugSubstitution) → IsFramed l.framed →
    IsWorded l → IsPrintableFramed inlined l.framed → l.base + 4 * length (words_of l) < 2 ^ 32 → All IsPrintableVariable variables →
    All IsPrintableEntry substitutions → IsPrintableFunction inlined (listing_of l variables substitutions)
