-- The variables of a function are no more than its items, and their lines are the same in the words of listings and of what an output
-- promises.
use Rattle.std.proofs.Common.{◌≡◌, ℕ, suc, ◌+◌, ◌≤◌, List, [], ◌∷◌, ◌++◌, length, Bool, true, false, cond, refl, ap, arith, length-append}
use Rattle.std.specs.List.{flat_map, list_any}
use Rattle.dwarf_sections.specs.listing_text.declared.output.ListedVariable.{ListedVariable}
use Rattle.compile_passes.specs.listing_function.Variables.{variables_listed}
use Rattle.read_metadata.specs.Maps.{Maps}
use Rattle.mir_func.specs.declared.block.Block.{Block}
use Rattle.mir_func.specs.declared.item.Item.{Item}
use Rattle.mir_func.specs.declared.item.ItemKind.{ItemKind}
use Rattle.mir_func.specs.declared.item.ItemKind.TheVariants.{Code, Mark, Phi}
use Rattle.mir_func.specs.declared.variable.VarId.{VarId}
use Rattle.mir_func.specs.Sound.{items_of}
use Rattle.mir_func.specs.Variables.{is_same_variable}
use Rattle.compile_passes.specs.compile_theorem.OutputProperties.{variable_lines, variable_listed}
use Rattle.compile_function.specs.Emitted.{names_of}
use Rattle.dwarf_sections.specs.dwarf_line_table.Files.{first_uses, with_new}
use Rattle.dwarf_sections.specs.dwarf_unit.Variables.{marked, marks_of, variables_of_function}

-- ---- how many there are

new_few : (known : List VarId) (v : VarId) → length (with_new is_same_variable known v) ≤ length known + 1
new_few known v = by (list_any (is_same_variable v) known) where
  by : (b : Bool) → length (cond b known (known ++ v ∷ [])) ≤ length known + 1
  by true = omega arith
  by false = let e = length-append known (v ∷ []) in omega (arith, e)

uses_few : (known vs : List VarId) → length (first_uses is_same_variable known vs) ≤ length known + length vs
uses_few known [] = omega arith
uses_few known (v ∷ vs) =
    let first = new_few known v in
    let rest = uses_few (with_new is_same_variable known v) vs in
    omega (arith, first, rest)

kind_few : (k : ItemKind) → length (marked k) ≤ 1
kind_few (Code i k) = omega arith
kind_few (Mark v m) = omega arith
kind_few (Phi p k) = omega arith

marks_few : (items : List Item) → length (marks_of items) ≤ length items
marks_few [] = omega arith
marks_few (i ∷ items) =
    let both = length-append (marked i.kind) (marks_of items) in
    let first = kind_few i.kind in
    let rest = marks_few items in
    omega (arith, both, first, rest)

blocks_few : (blocks : List Block) → length (flat_map (λ b. marks_of b.items) blocks) ≤ length (items_of blocks)
blocks_few [] = omega arith
blocks_few (b ∷ blocks) =
    let marks = length-append (marks_of b.items) (flat_map (λ (x : Block). marks_of x.items) blocks) in
    let items = length-append b.items (items_of blocks) in
    let first = marks_few b.items in
    let rest = blocks_few blocks in
    omega (arith, marks, items, first, rest)

pub variables_few : (blocks : List Block) → length (variables_of_function blocks) ≤ length (items_of blocks)
variables_few blocks =
    let used = uses_few [] (flat_map (λ (b : Block). marks_of b.items) blocks) in
    let marks = blocks_few blocks in
    omega (arith, used, marks)

-- ---- their lines

pub lines_same : (meta : Maps) (k : ℕ) (vs : List VarId) → variables_listed meta k vs ≡ variable_lines (names_of meta) k vs
lines_same meta k [] = refl
lines_same meta k (v ∷ vs) = ap (λ (ls : List ListedVariable). variable_listed (names_of meta) k v ∷ ls) (lines_same meta (suc k) vs)
