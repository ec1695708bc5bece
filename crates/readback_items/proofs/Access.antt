-- An access by a stack object isn't one that a slot could stand in.
use Rattle.std.proofs.Common.{◌≡◌, ℕ, ℤ, Bool, true, false, ◌||◌, List, [], ◌∷◌, ◌++◌, Option, Some, None, refl, sym, ap, subst, ◌∙◌}
use Rattle.std.specs.List.{list_any, zip}
use Rattle.std.proofs.lemmas.Bool.{or_parts}
use Rattle.rv64_instr.specs.declared.operand.Operand.{Operand}
use Rattle.rv64_instr.specs.declared.operand.Operand.TheVariants.{Def, Use, Imm, Object, Part}
use Rattle.rv64_instr.specs.declared.symbol.Half.{Half}
use Rattle.rv64_instr.specs.declared.symbol.Symbol.{Symbol}
use Rattle.rv64_instr.specs.Form.{moves_slot}
use Rattle.read_token.specs.declared.lexeme.Flag.{Flag}
use Rattle.read_token.specs.declared.lexeme.Flag.TheVariants.{Plain, Implicit, ImplicitDef}
use Rattle.read_line.specs.declared.form.OperandForm.{OperandForm}
use Rattle.read_line.specs.declared.form.OperandForm.TheVariants as form
use Rattle.read_line.specs.declared.form.RegisterForm.{RegisterForm}
use Rattle.read_item.specs.declared.place.OperandKind.{OperandKind}
use Rattle.read_item.specs.declared.place.OperandKind.TheVariants as place
use Rattle.read_item.specs.Code.{number_of, used, stand_in, stack_operand, fixed_operand, number_operand, half_operand, operand_at, before, joined, set_by}
use Rattle.read_item.specs.Code.{definition}
use Rattle.read_item.specs.Code.{definitions, placed}
use Rattle.read_item.specs.Code.{is_whole_slot, is_misplaced}
use Rattle.read_item.specs.Place.{address, front, behind}
use Rattle.readback_items.specs.Again.{is_fixed}

-- the operand before others
pub record Parts (o : Option Operand) (rest : Option (List Operand)) (x : Operand) (xs : List Operand) : Type 0 where
  pub first : o ≡ Some x
  pub rest_is : rest ≡ Some xs

pub parts : (o : Option Operand) (rest : Option (List Operand)) (x : Operand) (xs : List Operand) → before o rest ≡ Some (x ∷ xs) → Parts o rest x xs
parts None rest x xs e = absurd cc
parts (Some o) None x xs e = absurd cc
parts (Some o) (Some ys) x xs e = record { first = cc; rest_is = cc }

-- ---- the address of an object

no_object : (flag : Flag) (r : Option ℕ) (n : ℕ) → used flag r ≡ Some (Object n) → ⊥
no_object flag None n e = cc
no_object Plain (Some r) n e = cc
no_object Implicit (Some r) n e = cc
no_object ImplicitDef (Some r) n e = cc

no_object_number : (i : Option ℤ) (n : ℕ) → number_operand i ≡ Some (Object n) → ⊥
no_object_number None n e = cc
no_object_number (Some i) n e = cc

abbrev IsHalf : Operand → Type 0
IsHalf (Part half y) = Unit {0}
IsHalf _ = ⊥

-- a half of an address gives nothing else
half_is : (half : Half) (symbol : Symbol) (addend : Option ℤ) (o : Operand) → half_operand half symbol addend ≡ Some o → IsHalf o
half_is half symbol None o e = absurd cc
half_is half symbol (Some i) o e =
    let same : Part half (record { symbol = symbol; addend = i }) ≡ o = cc in subst IsHalf same tt

-- a slot's place gives no object
slot_gives : (f : OperandForm) (n : ℕ) → is_fixed f ≡ false → operand_at place.Slot f ≡ Some (Object n) → ⊥
slot_gives (form.Register r) n plain e = no_object r.flag (number_of r.flag r.name) n e
slot_gives (form.Integer i) n plain e = no_object_number i n e
slot_gives (form.Part half a) n plain e = half_is half a.symbol a.addend (Object n) e
slot_gives (form.Fixed m) n plain e = let no : true ≡ false = plain in cc
slot_gives f n plain e = cc

no_number : (flag : Flag) (r : Option ℕ) (i : ℤ) → used flag r ≡ Some (Imm i) → ⊥
no_number flag None i e = cc
no_number Plain (Some r) i e = cc
no_number Implicit (Some r) i e = cc
no_number ImplicitDef (Some r) i e = cc

number_is : (width : ℕ) (n : Option ℤ) (i : ℤ) → number_operand n ≡ Some (Imm i) → is_whole_slot width (form.Integer n) ≡ moves_slot width i
number_is width None i e = absurd cc
number_is width (Some j) i e = let same : j ≡ i = cc in ap (moves_slot width) same

-- a number in its place
pub number_whole : (width : ℕ) (f : OperandForm) (i : ℤ) → operand_at place.Number f ≡ Some (Imm i) → is_misplaced (place.Number, f) ≡ false →
    is_whole_slot width f ≡ moves_slot width i
number_whole width (form.Register r) i e in_place = absurd (no_number r.flag (number_of r.flag r.name) i e)
number_whole width (form.Integer n) i e in_place = number_is width n i e
number_whole width (form.Slot n) i e in_place = absurd cc
number_whole width (form.Fixed n) i e in_place = absurd cc
number_whole width (form.Part half a) i e in_place = absurd (half_is half a.symbol a.addend (Imm i) e)
number_whole width f i e in_place = absurd cc

-- the place of an object's address
pub object_place : (slot : Bool) (f : OperandForm) (n : ℕ) → is_fixed f ≡ false → operand_at (address slot) f ≡ Some (Object n) → slot ≡ false
object_place true f n plain e = absurd (slot_gives f n plain e)
object_place false f n plain e = refl

-- ---- the operands behind the registers that are set

no_use_set : (flag : Flag) (r : Option ℕ) (rs : ℕ) → set_by flag r ≡ Some (Use rs) → ⊥
no_use_set Plain None rs e = cc
no_use_set Plain (Some r) rs e = cc
no_use_set Implicit r rs e = cc
no_use_set ImplicitDef r rs e = cc

no_object_set : (flag : Flag) (r : Option ℕ) (n : ℕ) → set_by flag r ≡ Some (Object n) → ⊥
no_object_set Plain None n e = cc
no_object_set Plain (Some r) n e = cc
no_object_set Implicit r n e = cc
no_object_set ImplicitDef r n e = cc

no_set_used : (flag : Flag) (r : Option ℕ) (rd : ℕ) → used flag r ≡ Some (Def rd) → ⊥
no_set_used flag None rd e = cc
no_set_used Plain (Some r) rd e = cc
no_set_used Implicit (Some r) rd e = cc
no_set_used ImplicitDef (Some r) rd e = cc

no_set_number : (i : Option ℤ) (rd : ℕ) → number_operand i ≡ Some (Def rd) → ⊥
no_set_number None rd e = cc
no_set_number (Some i) rd e = cc

no_set_stack : (p : OperandKind) (n rd : ℕ) → stack_operand p n ≡ Some (Def rd) → ⊥
no_set_stack place.Object n rd e = cc
no_set_stack place.Slot n rd e = cc
no_set_stack place.Register n rd e = cc
no_set_stack place.Number n rd e = cc
no_set_stack place.Block n rd e = cc
no_set_stack place.Symbol n rd e = cc
no_set_stack place.Mask n rd e = cc
no_set_stack place.Implicit n rd e = cc

no_set_stand_in : (p : OperandKind) (rd : ℕ) → stand_in p ≡ Some (Def rd) → ⊥
no_set_stand_in place.Object rd e = cc
no_set_stand_in place.Slot rd e = cc
no_set_stand_in place.Register rd e = cc
no_set_stand_in place.Number rd e = cc
no_set_stand_in place.Block rd e = cc
no_set_stand_in place.Symbol rd e = cc
no_set_stand_in place.Mask rd e = cc
no_set_stand_in place.Implicit rd e = cc

no_set_fixed : (p : OperandKind) (n rd : ℕ) → fixed_operand p n ≡ Some (Def rd) → ⊥
no_set_fixed place.Object n rd e = cc
no_set_fixed place.Slot n rd e = cc
no_set_fixed place.Register n rd e = no_set_stand_in place.Register rd e
no_set_fixed place.Number n rd e = no_set_stand_in place.Number rd e
no_set_fixed place.Block n rd e = no_set_stand_in place.Block rd e
no_set_fixed place.Symbol n rd e = no_set_stand_in place.Symbol rd e
no_set_fixed place.Mask n rd e = no_set_stand_in place.Mask rd e
no_set_fixed place.Implicit n rd e = no_set_stand_in place.Implicit rd e

no_set : (p : OperandKind) (f : OperandForm) (rd : ℕ) → operand_at p f ≡ Some (Def rd) → ⊥
no_set p (form.Register r) rd e = no_set_used r.flag (number_of r.flag r.name) rd e
no_set p (form.Integer i) rd e = no_set_number i rd e
no_set p (form.Slot n) rd e = no_set_stack p n rd e
no_set p (form.Fixed n) rd e = no_set_fixed p n rd e
no_set p (form.Part half a) rd e = half_is half a.symbol a.addend (Def rd) e
no_set p f rd e = cc

-- what is behind operands, which is a list that begins with others
pub joined_some : (a b : Option (List Operand)) (xs : List Operand) → joined a b ≡ Some xs →
    (ys : List Operand) × (zs : List Operand) × (a ≡ Some ys) × (b ≡ Some zs) × (ys ++ zs ≡ xs)
joined_some None b xs e = absurd cc
joined_some (Some ys) None xs e = absurd cc
joined_some (Some ys) (Some zs) xs e = (ys, zs, refl, refl, cc)

pub uses_of_store : (ds : List RegisterForm) (ys zs : List Operand) (rs : ℕ) (xs : List Operand) → definitions ds ≡ Some ys → ys ++ zs ≡ Use rs ∷ xs →
    zs ≡ Use rs ∷ xs
unfolding definitions
uses_of_store [] ys zs rs xs e all = let none : List Operand = [] in let same : none ≡ ys = cc in ap (λ (l : List Operand). l ++ zs) same ∙ all
uses_of_store (d ∷ ds) [] zs rs xs e all = absurd (no_list (definition d) (definitions ds) e) where
  no_list : (o : Option Operand) (rest : Option (List Operand)) → before o rest ≡ Some [] → ⊥
  no_list None rest e = cc
  no_list (Some o) None e = cc
  no_list (Some o) (Some l) e = cc
uses_of_store (d ∷ ds) (y ∷ ys) zs rs xs e all =
    let p = parts (definition d) (definitions ds) y ys e in
    let same : y ≡ Use rs = cc in
    absurd (no_use_set d.flag (number_of d.flag d.name) rs (p.first ∙ ap (λ (o : Operand). Some o) same))

-- what is read in a place isn't set
first_set : (ps : List OperandKind) (us : List OperandForm) (rd : ℕ) (xs : List Operand) → placed ps us ≡ Some (Def rd ∷ xs) → ⊥
unfolding placed
first_set ps [] rd xs e = cc
first_set ps (u ∷ us) rd xs e = no_set (front ps) u rd (parts (operand_at (front ps) u) (placed (behind ps) us) (Def rd) xs e).first

pub uses_of_load : (ds : List RegisterForm) (ps : List OperandKind) (us : List OperandForm) (ys zs : List Operand) (rd n : ℕ) (xs : List Operand) →
    definitions ds ≡ Some ys → placed ps us ≡ Some zs → ys ++ zs ≡ Def rd ∷ Object n ∷ xs → zs ≡ Object n ∷ xs
unfolding definitions
uses_of_load ds ps us [] zs rd n xs e read all = absurd (first_set ps us rd (Object n ∷ xs) (read ∙ ap (λ (l : List Operand). Some l) all))
uses_of_load ds ps us (y ∷ []) zs rd n xs e read all = cc
uses_of_load [] ps us (y ∷ z ∷ ys) zs rd n xs e read all = absurd cc
uses_of_load (d ∷ []) ps us (y ∷ z ∷ ys) zs rd n xs e read all =
    let p = parts (definition d) (definitions []) y (z ∷ ys) e in absurd (let rest = p.rest_is in cc)
uses_of_load (d ∷ c ∷ ds) ps us (y ∷ z ∷ ys) zs rd n xs e read all =
    let p = parts (definition d) (definitions (c ∷ ds)) y (z ∷ ys) e in
    let q = parts (definition c) (definitions ds) z ys p.rest_is in
    let same : z ≡ Object n = cc in
    absurd (no_object_set c.flag (number_of c.flag c.name) n (q.first ∙ ap (λ (o : Operand). Some o) same))

-- ---- accesses

-- an address and a number behind it
module _ (width : ℕ) (n : ℕ) (i : ℤ) (rest : List Operand) where
  -- the operands of a line from an address on
  pub object_access : (us : List OperandForm) (slot : Bool) → placed (address slot ∷ place.Number ∷ []) us ≡ Some (Object n ∷ Imm i ∷ rest) →
      list_any is_misplaced (zip (address slot ∷ place.Number ∷ []) us) ≡ false → list_any is_fixed us ≡ false →
      ((u v : OperandForm) (ws : List OperandForm) → us ≡ u ∷ v ∷ ws → slot ≡ is_whole_slot width v) → moves_slot width i ≡ false
  unfolding placed
  object_access [] slot e in_place plain is = absurd cc
  object_access (u ∷ []) slot e in_place plain is =
      let p = parts (operand_at (address slot) u) (placed (place.Number ∷ []) []) (Object n) (Imm i ∷ rest) e in absurd (let more = p.rest_is in cc)
  object_access (u ∷ v ∷ ws) slot e in_place plain is =
      let p = parts (operand_at (address slot) u) (placed (place.Number ∷ []) (v ∷ ws)) (Object n) (Imm i ∷ rest) e in
      let q = parts (operand_at place.Number v) (placed [] ws) (Imm i) rest p.rest_is in
      let behind_first = or_parts (is_misplaced (address slot, u)) (is_misplaced (place.Number, v) || list_any is_misplaced (zip [] ws)) in_place in
      let second = or_parts (is_misplaced (place.Number, v)) (list_any is_misplaced (zip [] ws)) behind_first.1 in
      let own = (or_parts (is_fixed u) (list_any is_fixed (v ∷ ws)) plain).0 in
      sym (number_whole width v i q.first second.0) ∙ sym (is u v ws refl) ∙ object_place slot u n own p.first
