-- The lists of a function's variables can be written.
use Rattle.std.proofs.Common.{◌≡◌, ℕ, zero, suc, List, [], ◌∷◌, length, Some, refl}
use Rattle.std.specs.Prelude.{All, slice_get}
use Rattle.std.proofs.lemmas.List.Elements.{All-nil, All-cons}
use Rattle.mir_func.specs.declared.variable.VarId.{VarId}
use Rattle.mir_func.specs.Graph.{Program, block_start}
use Rattle.emit_code.specs.declared.code.EncodedInstruction.{EncodedInstruction}
use Rattle.dwarf_loclists.specs.declared.range.Range.{Range}
use Rattle.dwarf_loclists.specs.Ranges.{ArePlaces}
use Rattle.compile_passes.specs.location_ranges.Lists.{AreListsOf}

pub all_each : {X Y : Type 0} (P : Y → Type 0) (xs : List X) (ys : List Y) → length ys ≡ length xs →
    ((k : ℕ) (x : X) (y : Y) → slice_get xs k ≡ Some x → slice_get ys k ≡ Some y → P y) → All P ys
all_each P [] [] same each = All-nil P
all_each P [] (y ∷ ys) same each = absurd cc
all_each P (x ∷ xs) [] same each = absurd cc
all_each P (x ∷ xs) (y ∷ ys) same each =
    let rest : length ys ≡ length xs = cc in
    All-cons P y ys (each zero x y refl refl) (all_each P xs ys rest (λ k v z at here. each (suc k) v z at here))

pub places : (g : Program) (entries : List EncodedInstruction) (variables : List VarId) (lists : List (List Range)) →
    AreListsOf g (block_start 0) entries variables lists → All ArePlaces lists
places g entries variables lists are =
    all_each ArePlaces variables lists are.for_all (λ k v ranges at here. (are.each k v ranges at here).places)
