-- Reading operands one by one: what is read and what is left make the whole, by the last operand of what is read.
use Rattle.std.proofs.Common.{◌≡◌, ℕ, ◌+◌, ◌-◌, ◌<◌, ◌≤◌, List, [], ◌∷◌, ◌++◌, Option, Some, None, length, get_or, take, drop, refl, sym, ap, ◌∙◌}
use Rattle.std.proofs.Common.{append_assoc, append-nil, add-one, drop-cons, arith}
use Rattle.std.proofs.Math.Seq.{take-length}
use Rattle.std.proofs.lemmas.List.{drop_all, drop_more, length-drop}
use Rattle.rv64_instr.specs.declared.operand.Operand.{Operand}
use Rattle.read_line.specs.declared.form.RegisterForm.{RegisterForm}
use Rattle.read_line.specs.declared.form.OperandForm.{OperandForm}
use Rattle.read_item.specs.declared.place.OperandKind.{OperandKind}
use Rattle.read_item.specs.Place.{front, behind}
use Rattle.read_item.specs.Code.{before, append_to, definition, definitions, operand_at, placed, placed_behind_callee}

-- one operand more is read
pub append-before : (xs : List Operand) (o : Operand) (rest : Option (List Operand)) → append_to xs (before (Some o) rest) ≡ append_to (xs ++ o ∷ []) rest
append-before xs o None = refl
append-before xs o (Some ys) = ap (λ (zs : List Operand). Some zs) (sym (append_assoc xs (o ∷ []) ys))

-- what is left, by its first
definitions-front : (rs : List RegisterForm) (i : ℕ) (r : RegisterForm) → i < length rs → r ≡ get_or rs i r
    → definitions (drop i rs) ≡ before (definition r) (definitions (drop (i + 1) rs))
unfolding definitions
definitions-front rs i r h is =
    let parts : drop i rs ≡ r ∷ drop (i + 1) rs = drop-cons rs i r h ∙ rw (add-one, ← is) refl in
    ap definitions parts

pub definitions-none : (xs : List Operand) (rs : List RegisterForm) (i : ℕ) (r : RegisterForm) (whole : Option (List Operand)) → i < length rs
    → r ≡ get_or rs i r
    → None ≡ definition r → append_to xs (definitions (drop i rs)) ≡ whole → None ≡ whole
definitions-none xs rs i r whole h is none all =
    ap (λ (d : Option Operand). append_to xs (before d (definitions (drop (i + 1) rs)))) none ∙ (ap (append_to xs) (sym (definitions-front rs i r h is)) ∙ all)

pub definitions-some : (xs : List Operand) (rs : List RegisterForm) (i : ℕ) (r : RegisterForm) (o : Operand) (whole : Option (List Operand)) → i < length rs
    → r ≡ get_or rs i r → Some o ≡ definition r → append_to xs (definitions (drop i rs)) ≡ whole
    → append_to (xs ++ o ∷ []) (definitions (drop (i + 1) rs)) ≡ whole
definitions-some xs rs i r o whole h is some all =
    sym (append-before xs o (definitions (drop (i + 1) rs))) ∙
    (ap (λ (d : Option Operand). append_to xs (before d (definitions (drop (i + 1) rs)))) some ∙ (ap (append_to xs) (sym (definitions-front rs i r h is)) ∙
    all))

pub definitions-end : (xs : List Operand) (rs : List RegisterForm) (i : ℕ) (whole : Option (List Operand)) → length rs ≤ i
    → append_to xs (definitions (drop i rs)) ≡ whole → Some xs ≡ whole
unfolding definitions
definitions-end xs rs i whole h all =
    ap (λ (zs : List Operand). Some zs) (sym (append-nil xs)) ∙ (ap (λ (zs : List RegisterForm). append_to xs (definitions zs)) (sym (drop_all i rs h)) ∙ all)

-- what is left, by its first
placed-front : (ps : List OperandKind) (os : List OperandForm) (i : ℕ) (o : OperandForm) → i < length os → o ≡ get_or os i o
    → placed ps (drop i os) ≡ before (operand_at (front ps) o) (placed (behind ps) (drop (i + 1) os))
unfolding placed
placed-front ps os i o h is =
    let parts : drop i os ≡ o ∷ drop (i + 1) os = drop-cons os i o h ∙ rw (add-one, ← is) refl in
    ap (placed ps) parts

pub placed-none : (xs : List Operand) (ps : List OperandKind) (os : List OperandForm) (i : ℕ) (o : OperandForm) (whole : Option (List Operand)) → i < length os
    → o ≡ get_or os i o → None ≡ operand_at (front ps) o → append_to xs (placed ps (drop i os)) ≡ whole → None ≡ whole
placed-none xs ps os i o whole h is none all =
    ap (λ (d : Option Operand). append_to xs (before d (placed (behind ps) (drop (i + 1) os)))) none ∙
    (ap (append_to xs) (sym (placed-front ps os i o h is)) ∙ all)

pub placed-some : (xs : List Operand) (ps : List OperandKind) (os : List OperandForm) (i : ℕ) (o : OperandForm) (x : Operand) (whole : Option (List Operand))
    → i < length os → o ≡ get_or os i o → Some x ≡ operand_at (front ps) o → append_to xs (placed ps (drop i os)) ≡ whole
    → append_to (xs ++ x ∷ []) (placed (behind ps) (drop (i + 1) os)) ≡ whole
placed-some xs ps os i o x whole h is some all =
    sym (append-before xs x (placed (behind ps) (drop (i + 1) os))) ∙
    (ap (λ (d : Option Operand). append_to xs (before d (placed (behind ps) (drop (i + 1) os)))) some ∙
    (ap (append_to xs) (sym (placed-front ps os i o h is)) ∙ all))

pub placed-end : (xs : List Operand) (ps : List OperandKind) (os : List OperandForm) (i : ℕ) (whole : Option (List Operand)) → length os ≤ i
    → append_to xs (placed ps (drop i os)) ≡ whole → Some xs ≡ whole
unfolding placed
placed-end xs ps os i whole h all =
    ap (λ (zs : List Operand). Some zs) (sym (append-nil xs)) ∙ (ap (λ (zs : List OperandForm). append_to xs (placed ps zs)) (sym (drop_all i os h)) ∙ all)

-- ---- a call by a register

-- no operands
pub callee_none : (xs : List Operand) (ps : List OperandKind) (os : List OperandForm) → length os < 1 → Some xs ≡ append_to xs (placed_behind_callee ps os)
callee_none xs ps [] less = ap (λ (zs : List Operand). Some zs) (sym (append-nil xs))
callee_none xs ps (o ∷ os) less = absurd (omega (arith, less))

-- operands, by the first and the others
pub first_and_rest : (os : List OperandForm) (o : OperandForm) → 1 ≤ length os → o ≡ get_or os 0 o → o ∷ take (length os - 1) (drop 1 os) ≡ os
first_and_rest os o some is =
    ap (λ (n : ℕ). o ∷ take n (drop 1 os)) (sym (length-drop 1 os)) ∙ ap (λ (t : List OperandForm). o ∷ t) (take-length (drop 1 os))
    ∙ ap (λ (y : OperandForm). y ∷ drop 1 os) is ∙ sym (drop_more os 0 o (omega (arith, some)))
