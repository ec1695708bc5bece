-- What addresses and offsets are below.
use Rattle.std.proofs.Common.{ℕ, ◌+◌, ◌<◌, ◌≤◌, ◌^◌, List, [], ◌∷◌, arith}
use Rattle.std.specs.Prelude.{All}
use Rattle.std.proofs.lemmas.List.Elements.{All-cons, All-nil}
use Rattle.mir_func.specs.Function.{FramedFunction}
use Rattle.mir_func.specs.SoundFrame.{IsFramed}
use Rattle.emit_code.specs.declared.code.EncodedInstruction.{EncodedInstruction}
use Rattle.emit_code.specs.Laid.{StandFrom}
use Rattle.mir_func.proofs.Ends.{object_within}
use Rattle.listing_function.specs.steps.Entries.{IsLow}

reaches_end : (a : ℕ) (es : List EncodedInstruction) (end : ℕ) → StandFrom a es end → a ≤ end
reaches_end a [] end stand = omega (arith, stand)
reaches_end a (e ∷ es) end stand = omega (arith, reaches_end (a + e.size) es end stand.2)

-- entries that stand before an end stand below it
pub entries_low : (a : ℕ) (es : List EncodedInstruction) (end : ℕ) → StandFrom a es end → end < 2 ^ 32 → All IsLow es
entries_low a [] end stand low = All-nil IsLow
entries_low a (e ∷ es) end stand low =
    All-cons IsLow e es (omega (arith, stand.0, reaches_end (a + e.size) es end stand.2, low)) (entries_low (a + e.size) es end stand.2 low)

-- objects lie in a small frame, or end not far above it
pub offsets_low : (f : FramedFunction) → IsFramed f → All (λ o. o.offset < 2 ^ 32) f.objects
offsets_low f framed = λ k d less.
    let within = object_within f.objects k d less in
    let reach = framed.reach in
    omega (arith, within, reach)
