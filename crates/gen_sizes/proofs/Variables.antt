-- A generated function has debug values for four variables at most.
-- Plan: what is known counts, for each of the four, whether it has it; a variable that joins wasn't there, so the count grows with the length.
use Rattle.std.proofs.Common.{◌≡◌, ℕ, zero, suc, ◌+◌, ◌<◌, ◌≤◌, Bool, true, false, ◌||◌, cond, if◌then◌else◌, List, [], ◌∷◌, ◌++◌, length, All, refl, sym}
use Rattle.std.proofs.Common.{ap, subst, arith, length-append}
use Rattle.std.specs.List.{flat_map, list_any}
use Rattle.std.proofs.Math.Nat.{le_trans}
use Rattle.std.proofs.lemmas.List.Elements.{All-nil, All-cons, All-head, All-tail, All-append}
use Rattle.std.proofs.lemmas.List.Folds.{list_any-append}
use Rattle.mir_func.specs.declared.block.Block.{Block}
use Rattle.mir_func.specs.declared.item.Item.{Item}
use Rattle.mir_func.specs.declared.item.ItemKind.{ItemKind}
use Rattle.mir_func.specs.declared.variable.VarId.{VarId}
use Rattle.mir_func.specs.Sound.{AllItems}
use Rattle.mir_func.specs.Variables.{is_same_variable}
use Rattle.sem_mir.proofs.Assignments.{same_variable_refl}
use Rattle.gen_function.specs.Items.{variable_of}
use Rattle.gen_function.specs.Generator.{generated}
use Rattle.dwarf_line_table.specs.Files.{with_new, first_uses}
use Rattle.compile_program.specs.dwarf_unit.Variables.{marked, marks_of, variables_of_function}
use Rattle.gen_program.proofs.Made.{IsMade, adds, copies, gives, sets, stores, loads, phis, marks, branches, jumps, returns}
use Rattle.gen_program.proofs.Steps.{of_made}

-- one of the four variables
abbrev IsOne : VarId → Type 0
IsOne v = (n : ℕ) × (n < 4) × (v ≡ variable_of n)

-- 1 if the n-th of them is known
abbrev has : List VarId → ℕ → ℕ
has known n = cond (list_any (is_same_variable (variable_of n)) known) 1 0

-- how many of them are known
abbrev held : List VarId → ℕ
held known = has known 0 + has known 1 + has known 2 + has known 3

bit : (b : Bool) → cond b 1 0 ≤ 1
bit true = omega arith
bit false = omega arith

four_bits : (a b c d : ℕ) → a ≤ 1 → b ≤ 1 → c ≤ 1 → d ≤ 1 → a + b + c + d ≤ 4
four_bits a b c d h i j k = omega (arith, h, i, j, k)

at_most : (known : List VarId) → held known ≤ 4
at_most known =
    four_bits (has known 0) (has known 1) (has known 2) (has known 3) (bit (list_any (is_same_variable (variable_of 0)) known))
    (bit (list_any (is_same_variable (variable_of 1)) known)) (bit (list_any (is_same_variable (variable_of 2)) known))
    (bit (list_any (is_same_variable (variable_of 3)) known))

-- ---- one that joins

stays : (b z : Bool) → cond b 1 0 ≤ cond (b || z) 1 0
stays true z = omega arith
stays false true = omega arith
stays false false = omega arith

joins : (b z : Bool) → b ≡ false → z ≡ true → cond b 1 0 + 1 ≤ cond (b || z) 1 0
joins true z e f = absurd cc
joins false true e f = omega arith
joins false false e f = absurd cc

kept : (known : List VarId) (x : VarId) (n : ℕ) → has known n ≤ has (known ++ x ∷ []) n
kept known x n =
    let p : VarId → Bool = is_same_variable (variable_of n) in
    subst (λ (b : Bool). has known n ≤ cond b 1 0) (sym (list_any-append p known (x ∷ []))) (stays (list_any p known) (list_any p (x ∷ [])))

joined : (known : List VarId) (n : ℕ) → list_any (is_same_variable (variable_of n)) known ≡ false → has known n + 1 ≤ has (known ++ variable_of n ∷ []) n
joined known n e =
    let p : VarId → Bool = is_same_variable (variable_of n) in
    let own : list_any p (variable_of n ∷ []) ≡ true = ap (λ (b : Bool). b || false) (same_variable_refl (variable_of n)) in
    subst (λ (b : Bool). has known n + 1 ≤ cond b 1 0) (sym (list_any-append p known (variable_of n ∷ [])))
    (joins (list_any p known) (list_any p (variable_of n ∷ [])) e own)

in_first : (a b c d e f g h : ℕ) → a + 1 ≤ e → b ≤ f → c ≤ g → d ≤ h → a + b + c + d + 1 ≤ e + f + g + h
in_first a b c d e f g h i j k l = omega (arith, i, j, k, l)

in_second : (a b c d e f g h : ℕ) → a ≤ e → b + 1 ≤ f → c ≤ g → d ≤ h → a + b + c + d + 1 ≤ e + f + g + h
in_second a b c d e f g h i j k l = omega (arith, i, j, k, l)

in_third : (a b c d e f g h : ℕ) → a ≤ e → b ≤ f → c + 1 ≤ g → d ≤ h → a + b + c + d + 1 ≤ e + f + g + h
in_third a b c d e f g h i j k l = omega (arith, i, j, k, l)

in_fourth : (a b c d e f g h : ℕ) → a ≤ e → b ≤ f → c ≤ g → d + 1 ≤ h → a + b + c + d + 1 ≤ e + f + g + h
in_fourth a b c d e f g h i j k l = omega (arith, i, j, k, l)

more : (known : List VarId) (n : ℕ) → n < 4 → list_any (is_same_variable (variable_of n)) known ≡ false → held known + 1 ≤ held (known ++ variable_of n ∷ [])
more known zero low e =
    let after : List VarId = known ++ variable_of 0 ∷ [] in
    in_first (has known 0) (has known 1) (has known 2) (has known 3) (has after 0) (has after 1) (has after 2) (has after 3)
    (joined known 0 e) (kept known (variable_of 0) 1) (kept known (variable_of 0) 2) (kept known (variable_of 0) 3)
more known (suc zero) low e =
    let after : List VarId = known ++ variable_of 1 ∷ [] in
    in_second (has known 0) (has known 1) (has known 2) (has known 3) (has after 0) (has after 1) (has after 2) (has after 3)
    (kept known (variable_of 1) 0) (joined known 1 e) (kept known (variable_of 1) 2) (kept known (variable_of 1) 3)
more known (suc (suc zero)) low e =
    let after : List VarId = known ++ variable_of 2 ∷ [] in
    in_third (has known 0) (has known 1) (has known 2) (has known 3) (has after 0) (has after 1) (has after 2) (has after 3)
    (kept known (variable_of 2) 0) (kept known (variable_of 2) 1) (joined known 2 e) (kept known (variable_of 2) 3)
more known (suc (suc (suc zero))) low e =
    let after : List VarId = known ++ variable_of 3 ∷ [] in
    in_fourth (has known 0) (has known 1) (has known 2) (has known 3) (has after 0) (has after 1) (has after 2) (has after 3)
    (kept known (variable_of 3) 0) (kept known (variable_of 3) 1) (kept known (variable_of 3) 2) (joined known 3 e)
more known (suc (suc (suc (suc n)))) low e = absurd (omega (arith, low))

longer : (len after before held : ℕ) → after ≡ len + 1 → len ≤ before → before + 1 ≤ held → after ≤ held
longer len after before held grown few further = omega (arith, grown, few, further)

new_few : (known : List VarId) (x : VarId) → IsOne x → length known ≤ held known →
    length (with_new is_same_variable known x) ≤ held (with_new is_same_variable known x)
new_few known x (n, low, is) few =
    subst (λ (v : VarId). length (with_new is_same_variable known v) ≤ held (with_new is_same_variable known v)) (sym is)
    (by_test (list_any (is_same_variable (variable_of n)) known) refl) where
      by_test : (b : Bool) → list_any (is_same_variable (variable_of n)) known ≡ b →
          length (if b then known else known ++ variable_of n ∷ []) ≤ held (if b then known else known ++ variable_of n ∷ [])
      by_test true e = few
      by_test false e =
          longer (length known) (length (known ++ variable_of n ∷ [])) (held known) (held (known ++ variable_of n ∷ []))
          (length-append known (variable_of n ∷ [])) few (more known n low e)

uses_few : (known xs : List VarId) → All IsOne xs → length known ≤ held known → length (first_uses is_same_variable known xs) ≤ 4
uses_few known [] all few = le_trans few (at_most known)
uses_few known (x ∷ xs) all few =
    uses_few (with_new is_same_variable known x) xs (All-tail IsOne x xs all) (new_few known x (All-head IsOne x xs all) few)

-- ---- the function's

marks_one : {top : ℕ} {kind : ItemKind} → IsMade top kind → All IsOne (marked kind)
marks_one (adds rd rs rt k a b c l) = All-nil IsOne
marks_one (copies rd rs k a b l) = All-nil IsOne
marks_one gives = All-nil IsOne
marks_one (sets rd n k a l m) = All-nil IsOne
marks_one (stores rs n a l) = All-nil IsOne
marks_one (loads rd n k a l m) = All-nil IsOne
marks_one (phis rs k a l) = All-nil IsOne
marks_one (marks n k l m) = All-cons IsOne (variable_of n) [] (n, l, refl) (All-nil IsOne)
marks_one (branches rs n a l) = All-nil IsOne
marks_one (jumps n l) = All-nil IsOne
marks_one returns = All-nil IsOne

abbrev MarksOnes : Item → Type 0
MarksOnes i = All IsOne (marked i.kind)

items_ones : (items : List Item) → All MarksOnes items → All IsOne (marks_of items)
items_ones [] all = All-nil IsOne
items_ones (i ∷ items) all =
    All-append IsOne (marked i.kind) (marks_of items) (All-head MarksOnes i items all) (items_ones items (All-tail MarksOnes i items all))

blocks_ones : (blocks : List Block) → AllItems MarksOnes blocks → All IsOne (flat_map (λ b. marks_of b.items) blocks)
blocks_ones [] all = All-nil IsOne
blocks_ones (b ∷ blocks) all =
    All-append IsOne (marks_of b.items) (flat_map (λ x. marks_of x.items) blocks)
    (items_ones b.items (All-head (λ (x : Block). All MarksOnes x.items) b blocks all))
    (blocks_ones blocks (All-tail (λ (x : Block). All MarksOnes x.items) b blocks all))

pub few_variables : (number count : ℕ) → count ≤ 512 → length (variables_of_function (generated number count).blocks) ≤ 4
few_variables number count few =
    uses_few [] (flat_map (λ b. marks_of b.items) (generated number count).blocks)
    (blocks_ones (generated number count).blocks (of_made MarksOnes (λ i m. marks_one m.made) number count few)) (omega arith)
