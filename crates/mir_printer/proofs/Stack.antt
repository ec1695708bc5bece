-- Frame slots and stack objects, which print alike. Operands of the form of an opcode name slots alone or objects alone, so
-- two lists of operands that are one with slots for objects are one where neither names a slot, and where what is declared
-- tells the two apart.
use Rattle.std.proofs.Common.{◌≡◌, ℕ, Bool, true, false, List, [], ◌∷◌, refl, sym, ap, ◌∙◌}
use Rattle.std.specs.Prelude.{All, map}
use Rattle.std.specs.List.{list_all}
use Rattle.std.proofs.lemmas.Bool.{and_parts}
use Rattle.std.proofs.lemmas.List.Elements.{All-head, All-tail}
use Rattle.rv64_instr.specs.declared.op.Op.{Op}
use Rattle.rv64_instr.specs.declared.operand.Operand.{Operand}
use Rattle.rv64_instr.specs.declared.operand.Operand.TheVariants.{Slot, Object}
use Rattle.rv64_instr.specs.Form.{has_form, is_implicit, is_argument, is_result, is_held_tail_use}
use Rattle.mir_printer.specs.Printable.{IsAsDeclared, as_slot}

abbrev pub is_slot : Operand → Bool
is_slot (Slot n) = true
is_slot _ = false

-- P holds of each operand
abbrev pub Each : (Operand → Type 0) → List Operand → Type 0
Each P [] = Unit {0}
Each P (o ∷ os) = P o × Each P os

each_of : (P : Operand → Type 0) (os : List Operand) → All P os → Each P os
each_of P [] all = tt
each_of P (o ∷ os) all = (All-head P o os all, each_of P os (All-tail P o os all))

abbrev pub IsNoSlot : Operand → Type 0
IsNoSlot o = is_slot o ≡ false

-- ---- two operands

unslotted_one : (o p : Operand) → IsNoSlot o → IsNoSlot p → as_slot o ≡ as_slot p → o ≡ p
unslotted_one (Slot m) p a b e = absurd cc
unslotted_one o (Slot n) a b e = absurd cc
unslotted_one (Object m) (Object n) a b e = let same : m ≡ n = cc in ap Object same
unslotted_one o p a b e = cc

declared_one : (objects : ℕ → Bool) (o p : Operand) → IsAsDeclared objects o → IsAsDeclared objects p → as_slot o ≡ as_slot p → o ≡ p
declared_one objects (Object m) (Object n) a b e = let same : m ≡ n = cc in ap Object same
declared_one objects (Slot m) (Object n) a b e =
    let same : m ≡ n = cc in
    let both : objects m ≡ objects n = ap objects same in
    absurd cc
declared_one objects (Object m) (Slot n) a b e =
    let same : m ≡ n = cc in
    let both : objects m ≡ objects n = ap objects same in
    absurd cc
declared_one objects o (Object n) a b e = absurd cc
declared_one objects o p a b e = cc

-- ---- two lists

each_one : (P : Operand → Type 0) → ((o p : Operand) → P o → P p → as_slot o ≡ as_slot p → o ≡ p) → (os ps : List Operand) →
    Each P os → Each P ps → map as_slot os ≡ map as_slot ps → os ≡ ps
each_one P one [] [] all others e = refl
each_one P one [] (p ∷ ps) all others e = absurd cc
each_one P one (o ∷ os) [] all others e = absurd cc
each_one P one (o ∷ os) (p ∷ ps) all others e =
    let front : as_slot o ≡ as_slot p = cc in
    let back : map as_slot os ≡ map as_slot ps = cc in
    let first : o ≡ p = one o p all.0 others.0 front in
    let rest : os ≡ ps = each_one P one os ps all.1 others.1 back in
    cc

-- slots alone, or objects alone
pub data OneKind (os : List Operand) : Type 0 where
  no_slots : Each IsNoSlot os → OneKind os
  no_objects : map as_slot os ≡ os → OneKind os

-- what is declared tells slots and objects apart where both have the form
abbrev pub IsTold : (ℕ → Bool) → Op → List Operand → Type 0
IsTold objects op os = has_form op (map as_slot os) ≡ true → All (IsAsDeclared objects) os

pub operands_one : (objects : ℕ → Bool) (op : Op) (os ps : List Operand) → OneKind os → OneKind ps → has_form op os ≡ true → has_form op ps ≡ true →
    IsTold objects op os → IsTold objects op ps → map as_slot os ≡ map as_slot ps → os ≡ ps
operands_one objects op os ps (no_slots a) (no_slots b) form forms told tells e = each_one IsNoSlot unslotted_one os ps a b e
operands_one objects op os ps (no_objects a) k form forms told tells e =
    let left : has_form op (map as_slot os) ≡ true = ap (has_form op) a ∙ form in
    let right : has_form op (map as_slot ps) ≡ true = ap (has_form op) (sym e) ∙ left in
    each_one (IsAsDeclared objects) (declared_one objects) os ps (each_of _ os (told left)) (each_of _ ps (tells right)) e
operands_one objects op os ps (no_slots a) (no_objects b) form forms told tells e =
    let right : has_form op (map as_slot ps) ≡ true = ap (has_form op) b ∙ forms in
    let left : has_form op (map as_slot os) ≡ true = ap (has_form op) e ∙ right in
    each_one (IsAsDeclared objects) (declared_one objects) os ps (each_of _ os (told left)) (each_of _ ps (tells right)) e

-- ---- implicit operands are neither

abbrev IsPlain : Operand → Type 0
IsPlain o = IsNoSlot o × (as_slot o ≡ o)

pub implicit_plain : (o : Operand) → is_implicit o ≡ true → IsPlain o
implicit_plain (Slot n) e = absurd cc
implicit_plain (Object n) e = absurd cc
implicit_plain o e = (refl, refl)

pub argument_plain : (o : Operand) → is_argument o ≡ true → IsPlain o
argument_plain (Slot n) e = absurd cc
argument_plain (Object n) e = absurd cc
argument_plain o e = (refl, refl)

pub result_plain : (o : Operand) → is_result o ≡ true → IsPlain o
result_plain (Slot n) e = absurd cc
result_plain (Object n) e = absurd cc
result_plain o e = (refl, refl)

pub tail_plain : (o : Operand) → is_held_tail_use o ≡ true → IsPlain o
tail_plain (Slot n) e = absurd cc
tail_plain (Object n) e = absurd cc
tail_plain o e = (refl, refl)

pub no_slots_of : (p : Operand → Bool) → ((o : Operand) → p o ≡ true → IsPlain o) → (os : List Operand) → list_all p os ≡ true → Each IsNoSlot os
no_slots_of p each [] all = tt
no_slots_of p each (o ∷ os) all =
    let both = and_parts (p o) (list_all p os) all in
    ((each o both.0).0, no_slots_of p each os both.1)

pub no_objects_of : (os : List Operand) → list_all is_implicit os ≡ true → map as_slot os ≡ os
no_objects_of [] all = refl
no_objects_of (o ∷ os) all =
    let both = and_parts (is_implicit o) (list_all is_implicit os) all in
    let first : as_slot o ≡ o = (implicit_plain o both.0).1 in
    let rest : map as_slot os ≡ os = no_objects_of os both.1 in
    cc
