-- The row of an entry's item, by the instruction at its point.
use Rattle.std.proofs.Common.{◌≡◌, ℕ, Some, None, refl, ap}
use Rattle.rv64_instr.specs.declared.symbol.Symbol.{Symbol}
use Rattle.rv64_instr.specs.Instruction.{Instruction}
use Rattle.rv64_instr.specs.Row.{row_of}
use Rattle.rv64_word.specs.Linked.{linked_word}
use Rattle.mir_func.specs.declared.item.ItemKind.{ItemKind}
use Rattle.mir_func.specs.declared.item.ItemKind.TheVariants.{Code, Mark, Phi}
use Rattle.mir_func.specs.Graph.{Fetch, Here, EndOfBlock, Outside}
use Rattle.sim_machine.specs.Shown.{kind_row, fetch_row}
use Rattle.sim_machine.specs.steps.Sites.{fetch_instruction, kind_instruction}

kind_found : (k : ItemKind) (i : Instruction) → kind_instruction k ≡ Some i → row_of i ≡ kind_row k
kind_found (Code j n) i e = let same : i ≡ j = cc in ap row_of same
kind_found (Mark v m) i e = let f : ⊥ = cc in absurd f
kind_found (Phi p n) i e = let f : ⊥ = cc in absurd f

-- an instruction at a point
pub row_found : (x : Fetch) (i : Instruction) → fetch_instruction x ≡ Some i → row_of i ≡ fetch_row x
row_found (Here item) i e = kind_found item.kind i e
row_found (EndOfBlock k n) i e = let f : ⊥ = cc in absurd f
row_found Outside i e = let f : ⊥ = cc in absurd f

kind_unlinked : (symbols : Symbol → ℕ) (k : ItemKind) (w : ℕ) → kind_instruction k ≡ None → w ≡ linked_word symbols (kind_row k) w
kind_unlinked symbols (Code j n) w e = let f : ⊥ = cc in absurd f
kind_unlinked symbols (Mark v m) w e = refl
kind_unlinked symbols (Phi p n) w e = refl

-- none there
pub unlinked_word : (symbols : Symbol → ℕ) (x : Fetch) (w : ℕ) → fetch_instruction x ≡ None → w ≡ linked_word symbols (fetch_row x) w
unlinked_word symbols (Here item) w e = kind_unlinked symbols item.kind w e
unlinked_word symbols (EndOfBlock k n) w e = refl
unlinked_word symbols Outside w e = refl
