-- The variables of a function: no two are the same, and each is a whole.
use Rattle.std.proofs.Common.{◌≡◌, ℕ, zero, suc, ◌+◌, ◌<◌, List, [], ◌∷◌, ◌++◌, length, All, Bool, true, false, ◌||◌, refl, sym, ap, ◌∙◌}
use Rattle.std.proofs.Common.{subst, inl, inr}
use Rattle.std.proofs.Common.{get_or, arith, length-append}
use Rattle.std.specs.Prelude.{if◌then◌else◌}
use Rattle.std.specs.List.{AllPairs, list_any, flat_map}
use Rattle.std.proofs.Math.ListN.{get_or-append}
use Rattle.std.proofs.Math.Seq.{get_or-append_seam}
use Rattle.std.proofs.lemmas.Bool.{cases_eq}
use Rattle.std.proofs.lemmas.List.Elements.{All-nil, All-cons, All-head, All-tail, All-append}
use Rattle.mir_func.specs.declared.block.Block.{Block}
use Rattle.mir_func.specs.declared.item.Item.{Item}
use Rattle.mir_func.specs.declared.item.ItemKind.{ItemKind}
use Rattle.mir_func.specs.declared.item.ItemKind.TheVariants.{Code, Mark, Phi}
use Rattle.mir_func.specs.declared.variable.VarId.{VarId}
use Rattle.mir_func.specs.Variables.{is_same_variable}
use Rattle.sem_mir.proofs.Assignments.{same_variable_symmetric}
use Rattle.dwarf_line_table.specs.Files.{with_new, first_uses}
use Rattle.run_command.specs.dwarf_unit.Variables.{whole, marked, marks_of, variables_of_function}

-- two variables differ
abbrev Differ : VarId → VarId → Type 0
Differ v w = is_same_variable v w ≡ false

-- ---- no two are the same

any_none : (x : VarId) (known : List VarId) → list_any (is_same_variable x) known ≡ false → (i : ℕ) (d : VarId) → i < length known → Differ (get_or known i d) x
any_none x [] none i d l = absurd (omega (arith, l))
any_none x (v ∷ known) none i d l = by_test (is_same_variable x v) refl none i l (λ later j m. any_none x known later j d m) where
  by_test : (b : Bool) → is_same_variable x v ≡ b → (b || list_any (is_same_variable x) known) ≡ false → (j : ℕ) → j < length (v ∷ known) →
      (list_any (is_same_variable x) known ≡ false → (k : ℕ) → k < length known → Differ (get_or known k d) x) → Differ (get_or (v ∷ known) j d) x
  by_test true e f j m later = absurd cc
  by_test false e f zero m later = same_variable_symmetric v x ∙ e
  by_test false e f (suc j) m later = later f j (omega (arith, m))

one_more : (known : List VarId) (x : VarId) → AllPairs Differ known → list_any (is_same_variable x) known ≡ false → AllPairs Differ (known ++ x ∷ [])
one_more known x pairs none i j d low last =
    let long : length (known ++ x ∷ []) ≡ length known + 1 = length-append known (x ∷ []) in
    let before : i < length known = omega (arith, low, last, long) in
    let first : get_or (known ++ x ∷ []) i d ≡ get_or known i d = get_or-append known (x ∷ []) d i before in
    elim (cases_eq j (length known)) as (λ _. Differ (get_or (known ++ x ∷ []) i d) (get_or (known ++ x ∷ []) j d)) [
      | inl e ↦ (
          let second : get_or (known ++ x ∷ []) j d ≡ x =
          subst (λ (k : ℕ). get_or (known ++ x ∷ []) k d ≡ x) (sym e) (get_or-append_seam known x [] d) in
          ap (λ (v : VarId). is_same_variable v (get_or (known ++ x ∷ []) j d)) first
          ∙ (ap (is_same_variable (get_or known i d)) second ∙ any_none x known none i d before))
      | inr ne ↦ (
          let inside : j < length known = omega (arith, last, long, ne) in
          let second : get_or (known ++ x ∷ []) j d ≡ get_or known j d = get_or-append known (x ∷ []) d j inside in
          ap (λ (v : VarId). is_same_variable v (get_or (known ++ x ∷ []) j d)) first
          ∙ (ap (is_same_variable (get_or known i d)) second ∙ pairs i j d low inside))
    ]

new_apart : (known : List VarId) (x : VarId) → AllPairs Differ known → AllPairs Differ (with_new is_same_variable known x)
new_apart known x pairs = by_test (list_any (is_same_variable x) known) refl where
  by_test : (b : Bool) → list_any (is_same_variable x) known ≡ b → AllPairs Differ (if b then known else known ++ x ∷ [])
  by_test true e = pairs
  by_test false e = one_more known x pairs e

uses_apart : (known xs : List VarId) → AllPairs Differ known → AllPairs Differ (first_uses is_same_variable known xs)
uses_apart known [] pairs = pairs
uses_apart known (x ∷ xs) pairs = uses_apart (with_new is_same_variable known x) xs (new_apart known x pairs)

pub variables_apart : (blocks : List Block) → AllPairs Differ (variables_of_function blocks)
variables_apart blocks = uses_apart [] (flat_map (λ b. marks_of b.items) blocks) (λ i j d low last. absurd (omega (arith, last)))

-- ---- each is a whole

abbrev IsWhole : VarId → Type 0
IsWhole v = v ≡ whole v

uses_whole : (known xs : List VarId) → All IsWhole known → All IsWhole xs → All IsWhole (first_uses is_same_variable known xs)
uses_whole known [] k h = k
uses_whole known (x ∷ xs) k h =
    uses_whole (with_new is_same_variable known x) xs (by_test (list_any (is_same_variable x) known)) (All-tail IsWhole x xs h) where
      by_test : (b : Bool) → All IsWhole (if b then known else known ++ x ∷ [])
      by_test true = k
      by_test false = All-append IsWhole known (x ∷ []) k (All-cons IsWhole x [] (All-head IsWhole x xs h) (All-nil IsWhole))

kind_whole : (kind : ItemKind) → All IsWhole (marked kind)
kind_whole (Mark v m) = All-cons IsWhole (whole v) [] refl (All-nil IsWhole)
kind_whole (Code i k) = All-nil IsWhole
kind_whole (Phi p k) = All-nil IsWhole

items_whole : (items : List Item) → All IsWhole (marks_of items)
items_whole [] = All-nil IsWhole
items_whole (i ∷ items) = All-append IsWhole (marked i.kind) (marks_of items) (kind_whole i.kind) (items_whole items)

blocks_whole : (blocks : List Block) → All IsWhole (flat_map (λ b. marks_of b.items) blocks)
blocks_whole [] = All-nil IsWhole
blocks_whole (b ∷ blocks) = All-append IsWhole (marks_of b.items) (flat_map (λ x. marks_of x.items) blocks) (items_whole b.items) (blocks_whole blocks)

pub variables_whole : (blocks : List Block) → All IsWhole (variables_of_function blocks)
variables_whole blocks = uses_whole [] (flat_map (λ b. marks_of b.items) blocks) (All-nil IsWhole) (blocks_whole blocks)
