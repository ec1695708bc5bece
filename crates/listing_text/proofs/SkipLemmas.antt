-- What the line of a branch that skips tells, and that no item has its text.
--
-- The text of a skip begins with a `B`, as that of a conditional branch does and of no other item. In a conditional branch `%` stands
-- where a skip has `+`: behind the mnemonic, which is told by where its capitals end, and two registers with a comma behind each.
use Rattle.std.specs.Prelude.{codes, filter, map, All}
use Rattle.std.specs.List.{flat_map, list_all}
use Rattle.std.specs.Fmt.{decimal}
use Rattle.std.proofs.Common.{◌≡◌, ℕ, Bool, true, false, not, ◌&&◌, nat_eq, nat_le, nat_lt, List, [], ◌∷◌, ◌++◌, Option, Some, None, ap, sym, ◌∙◌, refl}
use Rattle.std.proofs.Common.{append_assoc, append-nil}
use Rattle.std.proofs.lemmas.List.Elements.{All-head, All-tail}
use Rattle.rv64_instr.specs.declared.op.Op.{Op}
use Rattle.rv64_instr.specs.declared.op.Op.TheVariants.{Registers, Immediate, Lui, Branch, Load, Store, Copy}
use Rattle.rv64_instr.specs.declared.op.Op.TheVariants.{PseudoBr, PseudoCall, PseudoRet, PseudoCallIndirect}
use Rattle.rv64_instr.specs.declared.op.Op.TheVariants.{PseudoTail, PseudoTailIndirect, NoReturnCall, NoReturnCallIndirect}
use Rattle.rv64_instr.specs.declared.op.BranchOp.{BranchOp}
use Rattle.rv64_instr.specs.declared.op.RegisterOp.TheVariants.{Add}
use Rattle.rv64_instr.specs.declared.op.ImmediateOp.TheVariants.{Addi}
use Rattle.rv64_instr.specs.declared.op.BranchOp.TheVariants.{Beq}
use Rattle.rv64_instr.specs.declared.op.LoadOp.TheVariants.{Lb}
use Rattle.rv64_instr.specs.declared.op.StoreOp.TheVariants.{Sb}
use Rattle.rv64_instr.specs.declared.operand.Operand.{Operand}
use Rattle.rv64_instr.specs.declared.operand.Operand.TheVariants.{Def as OfDef, Use as OfUse, Block, ImplicitDef, ImplicitUse}
use Rattle.rv64_instr.specs.Instruction.{Instruction}
use Rattle.rv64_instr.specs.Form.{has_form, fits_branch}
use Rattle.rv64_instr.specs.Mnemonic.{mnemonic_of, branch_name}
use Rattle.rv64_instr.proofs.Names.{mnemonic_of-injective}
use Rattle.mir_func.specs.declared.item.ItemKind.{ItemKind}
use Rattle.mir_func.specs.declared.item.ItemKind.TheVariants.{Code, Mark, Phi}
use Rattle.mir_func.specs.declared.location.Loc.{Loc}
use Rattle.mir_func.specs.declared.variable.VarId.{VarId}
use Rattle.mir_func.specs.declared.variable.MarkValue.{MarkValue}
use Rattle.mir_func.specs.declared.variable.MarkValue.TheVariants.{Nothing, Constant, At, Pair}
use Rattle.mir_printer.specs.Spelling.{item_text, kind_text, location_text, number_text, mark_text, phi_text, instruction_text, definitions_text, uses_text}
use Rattle.mir_printer.specs.Spelling.{is_definition, is_volatile_kind, uses_behind}
use Rattle.mir_printer.specs.Spelling.{operand_text, register_text, comma_separated}
use Rattle.mir_printer.specs.Printable.{IsNumber, HasNumbers, IsPrintableKind, Declared, IsPrintableInstruction}
use Rattle.mir_printer.proofs.Cuts.{front_one, apart, run_one}
use Rattle.mir_printer.proofs.Operands.{register_one, operand_one, Follows}
use Rattle.mir_printer.proofs.Items.{ending, item_parts}
use Rattle.listing_text.specs.declared.output.ItemLine.{ItemLine}
use Rattle.listing_text.specs.declared.output.Implicit.{Implicit}
use Rattle.listing_text.specs.declared.output.Implicit.TheVariants.{Def, Use}
use Rattle.listing_text.specs.declared.output.SkipLine.{SkipLine}
use Rattle.listing_text.specs.declared.output.Line.{Line}
use Rattle.listing_text.specs.declared.output.Line.TheVariants.{Item, Skip}
use Rattle.listing_text.specs.Hex.{address_text}
use Rattle.listing_text.specs.Output.{spaced_origin, start_text, item_line, operand_of, implicit_text, skip_text, skip_line, line_text}
use Rattle.listing_text.specs.Shown.{IsPrintableItem, IsPrintableImplicit, IsPrintableSkip, IsPrintableLine, declared_by}
use Rattle.listing_text.proofs.HexLemmas.{address_one}
use Rattle.listing_text.proofs.LineLemmas.{item_one, origin_one, no_address, line_parts, function_parts}

-- ---- implicit operands, up to the end of the line

implicit_is : (x y : Implicit) (r s : List ℕ) → IsPrintableImplicit x → IsPrintableImplicit y → Follows r → Follows s →
    operand_text (operand_of x) ++ r ≡ operand_text (operand_of y) ++ s → (x ≡ y) × (r ≡ s)
implicit_is (Def m) (Def n) r s is others follow follows e =
    let found = operand_one (ImplicitDef m) (ImplicitDef n) r s (refl, is) (refl, others) follow follows e in
    let same : ImplicitDef m ≡ ImplicitDef n = found.0 in
    let number : m ≡ n = cc in
    (ap Def number, found.1)
implicit_is (Use m) (Use n) r s is others follow follows e =
    let found = operand_one (ImplicitUse m) (ImplicitUse n) r s (refl, is) (refl, others) follow follows e in
    let same : ImplicitUse m ≡ ImplicitUse n = found.0 in
    let number : m ≡ n = cc in
    (ap Use number, found.1)
implicit_is (Def m) (Use n) r s is others follow follows e =
    let found = operand_one (ImplicitDef m) (ImplicitUse n) r s (refl, is) (refl, others) follow follows e in
    let same : ImplicitDef m ≡ ImplicitUse n = found.0 in
    absurd cc
implicit_is (Use m) (Def n) r s is others follow follows e =
    let found = operand_one (ImplicitUse m) (ImplicitDef n) r s (refl, is) (refl, others) follow follows e in
    let same : ImplicitUse m ≡ ImplicitDef n = found.0 in
    absurd cc

-- operands that go on a list, up to the end of the line
abbrev implicits_before : List Implicit → List ℕ → List ℕ
implicits_before [] r = 10 ∷ r
implicits_before (x ∷ xs) r = codes ", " ++ (operand_text (operand_of x) ++ implicits_before xs r)

implicits_are : (xs : List Implicit) (r : List ℕ) → flat_map implicit_text xs ++ (10 ∷ r) ≡ implicits_before xs r
implicits_are [] r = refl
implicits_are (x ∷ xs) r =
    let grouped : flat_map implicit_text (x ∷ xs) ++ (10 ∷ r) ≡ codes ", " ++ (operand_text (operand_of x) ++
    (flat_map implicit_text xs ++ (10 ∷ r))) = simp append_assoc in
    grouped ∙ ap (λ (t : List ℕ). codes ", " ++ (operand_text (operand_of x) ++ t)) (implicits_are xs r)

implicits_follow : (xs : List Implicit) (r : List ℕ) → Follows (implicits_before xs r)
implicits_follow [] r = record { digits = refl; bare = refl; space = refl }
implicits_follow (x ∷ xs) r = record { digits = refl; bare = refl; space = refl }

implicits_one : (xs ys : List Implicit) (r s : List ℕ) → All IsPrintableImplicit xs → All IsPrintableImplicit ys →
    implicits_before xs r ≡ implicits_before ys s → (xs ≡ ys) × (r ≡ s)
implicits_one [] [] r s all others e = (refl, front_one (10 ∷ []) r s e)
implicits_one [] (y ∷ ys) r s all others e =
    absurd (apart 10 44 r (codes " " ++ (operand_text (operand_of y) ++ implicits_before ys s)) refl e)
implicits_one (x ∷ xs) [] r s all others e =
    absurd (apart 10 44 s (codes " " ++ (operand_text (operand_of x) ++ implicits_before xs r)) refl (sym e))
implicits_one (x ∷ xs) (y ∷ ys) r s all others e =
    let first = implicit_is x y (implicits_before xs r) (implicits_before ys s) (All-head IsPrintableImplicit x xs all)
    (All-head IsPrintableImplicit y ys others) (implicits_follow xs r) (implicits_follow ys s) (front_one (codes ", ") _ _ e) in
    let rest = implicits_one xs ys r s (All-tail IsPrintableImplicit x xs all) (All-tail IsPrintableImplicit y ys others) first.1 in
    (let head : x ≡ y = first.0 in let tail : xs ≡ ys = rest.0 in cc, rest.1)

-- ---- a conditional branch up to its target

abbrev is_capital : ℕ → Bool
is_capital b = nat_le 65 b && nat_le b 90

capitals : (op : BranchOp) → list_all is_capital (branch_name op) ≡ true
capitals Beq = refl
capitals op = refl

operation_one : (a b : BranchOp) → branch_name a ≡ branch_name b → a ≡ b
operation_one a b e =
    let same : Branch a ≡ Branch b = mnemonic_of-injective (Branch a) (Branch b) e in
    cc

-- a branch up to its second register
abbrev compared : BranchOp → (first second : ℕ) → List ℕ → List ℕ
compared op first second tail = branch_name op ++ (codes " " ++ (register_text first ++ (codes ", " ++ (register_text second ++ (codes ", " ++ tail)))))

record ComparesAlike (a b : BranchOp) (first other second another : ℕ) (r s : List ℕ) : Type 0 where
  op_one : a ≡ b
  first_one : first ≡ other
  second_one : second ≡ another
  rest_one : r ≡ s

compared_one : (a b : BranchOp) (first other second another : ℕ) (r s : List ℕ) → IsNumber first → IsNumber other → IsNumber second → IsNumber another →
    compared a first second r ≡ compared b other another s → ComparesAlike a b first other second another r s
compared_one a b first other second another r s small low tiny few e =
    let name = run_one is_capital (branch_name a) (branch_name b) (codes " " ++ (register_text first ++ (codes ", " ++ (register_text second ++
    (codes ", " ++ r)))))
    (codes " " ++ (register_text other ++ (codes ", " ++ (register_text another ++ (codes ", " ++ s))))) (capitals a) (capitals b) refl refl e in
    let one = register_one first other (codes ", " ++ (register_text second ++ (codes ", " ++ r))) (codes ", " ++ (register_text another ++ (codes ", " ++ s)))
    small low refl refl (front_one (codes " ") _ _ name.1) in
    let two = register_one second another (codes ", " ++ r) (codes ", " ++ s) tiny few refl refl (front_one (codes ", ") _ _ one.1) in
    record { op_one = operation_one a b name.0; first_one = one.0; second_one = two.0; rest_one = front_one (codes ", ") r s two.1 }

-- ---- two skips

skip_is : (s : SkipLine) (r : List ℕ) → skip_text s ++ (10 ∷ r) ≡ compared s.op s.first s.second (codes "+8" ++ implicits_before s.implicit r)
skip_is s r =
    function_parts (branch_name s.op) (codes " ") (register_text s.first) (codes ", ") (register_text s.second) (codes ", +8")
    (flat_map implicit_text s.implicit)
    (10 ∷ r) ∙ ap (λ (t : List ℕ). compared s.op s.first s.second (codes "+8" ++ t)) (implicits_are s.implicit r)

skip_one : (a b : SkipLine) (r s : List ℕ) → IsPrintableSkip a → IsPrintableSkip b → skip_line a ++ r ≡ skip_line b ++ s → (a ≡ b) × (r ≡ s)
skip_one a b r s is others e =
    let whole = sym (line_parts (address_text a.address) (spaced_origin a.origin) (skip_text a) (10 ∷ []) r) ∙ (e ∙
    line_parts (address_text b.address) (spaced_origin b.origin) (skip_text b) (10 ∷ []) s) in
    let address = address_one a.address b.address (spaced_origin a.origin ++ (skip_text a ++ (10 ∷ r))) (spaced_origin b.origin ++ (skip_text b ++
    (10 ∷ s))) whole in
    let origin = origin_one a.origin b.origin (skip_text a ++ (10 ∷ r)) (skip_text b ++ (10 ∷ s)) is.origin others.origin address.1 in
    let branch = compared_one a.op b.op a.first b.first a.second b.second _ _ is.first others.first is.second others.second
    (sym (skip_is a r) ∙ (origin.1 ∙ skip_is b s)) in
    let implicit = implicits_one a.implicit b.implicit r s is.implicit others.implicit (front_one (codes "+8") _ _ branch.rest_one) in (
      λ k. record {
        address = address.0 k;
        origin = origin.0 k;
        op = branch.op_one k;
        first = branch.first_one k;
        second = branch.second_one k;
        implicit = implicit.0 k;
      },
      implicit.1,
    )

-- ---- a skip is no item

abbrev begins_with_b : List ℕ → Bool
begins_with_b [] = false
begins_with_b (b ∷ bs) = nat_eq b 66

branch_begins : (op : BranchOp) (r : List ℕ) → begins_with_b (branch_name op ++ r) ≡ true
branch_begins Beq r = refl
branch_begins op r = refl

register_begins : (p : Bool) (n : ℕ) (r : List ℕ) → nat_lt n 32 ≡ p → begins_with_b (register_text n ++ r) ≡ false
register_begins true n r is = rw is refl
register_begins false n r is = rw is refl

separated_begins : (n : ℕ) (os : List Operand) (r : List ℕ) → begins_with_b (comma_separated (map operand_text (OfDef n ∷ os)) ++ r) ≡ false
separated_begins n [] r = register_begins (nat_lt n 32) n r refl
separated_begins n (o ∷ os) r =
    let grouped : comma_separated (map operand_text (OfDef n ∷ o ∷ os)) ++ r ≡ register_text n ++ (codes ", " ++
    (comma_separated (map operand_text (o ∷ os)) ++ r)) = simp append_assoc in
    ap begins_with_b grouped ∙ register_begins (nat_lt n 32) n _ refl

-- definitions, where there are any, begin with no `B`
data Defines (os : List Operand) : Type 0 where
  nothing : filter is_definition os ≡ [] → Defines os
  something : (n : ℕ) (more : List Operand) → filter is_definition os ≡ OfDef n ∷ more → Defines os

defines : (os : List Operand) → Defines os
defines [] = nothing refl
defines (OfDef n ∷ os) = something n (filter is_definition os) refl
defines (o ∷ os) = elim (defines os) [ nothing e ↦ nothing e | something n more e ↦ something n more e ]

abbrev is_branch : Op → Bool
is_branch (Branch op) = true
is_branch _ = false

others_begin : (op : Op) (r : List ℕ) → is_branch op ≡ false → begins_with_b (mnemonic_of op ++ r) ≡ false
others_begin (Branch op) r other = absurd cc
others_begin (Registers Add) r other = refl
others_begin (Immediate Addi) r other = refl
others_begin (Load Lb) r other = refl
others_begin (Store Sb) r other = refl
others_begin op r other = refl

differ : (s t : List ℕ) → begins_with_b s ≡ true → begins_with_b t ≡ false → s ≡ t → ⊥
differ s t is other e = let both : true ≡ false = sym is ∙ (ap begins_with_b e ∙ other) in absurd cc

-- texts with commas between them begin as the first
comma_head : (t : List ℕ) (ts : List (List ℕ)) → (more : List ℕ) × (comma_separated (t ∷ ts) ≡ t ++ more)
comma_head t [] = ([], sym (append-nil t))
comma_head t (u ∷ us) = (codes ", " ++ comma_separated (u ∷ us), append_assoc t (codes ", ") (comma_separated (u ∷ us)))

branch_parts : (a b c d e f tail : List ℕ) → (codes " " ++ (a ++ b ++ (c ++ d ++ (e ++ f)))) ++ tail ≡ codes " " ++ (a ++ (b ++ (c ++ (d ++ (e ++
    (f ++ tail))))))
branch_parts a b c d e f tail = simp append_assoc

-- the operands of a branch
branch_is : (op : BranchOp) (x y n : ℕ) (rest : List Operand) (tail : List ℕ) → (more : List ℕ) ×
    (branch_name op ++ (uses_text (OfUse x ∷ OfUse y ∷ Block n ∷ rest) ++ tail) ≡ compared op x y (codes "%bb." ++ more))
branch_is op x y n rest tail =
    let head = comma_head (operand_text (Block n)) (map operand_text rest) in (
      decimal n ++ (head.0 ++ tail),
      ap (λ (t : List ℕ). branch_name op ++ ((codes " " ++ (register_text x ++ codes ", " ++ (register_text y ++ codes ", " ++ t))) ++ tail)) head.1
          ∙ (
          ap (λ (t : List ℕ). branch_name op ++ t) (branch_parts (register_text x) (codes ", ") (register_text y) (codes ", ") (operand_text
          (Block n)) head.0 tail)
          ∙ ap (λ (t : List ℕ). compared op x y t) (append_assoc (codes "%bb.") (decimal n) (head.0 ++ tail))
          ),
    )

no_branch_by : (op : BranchOp) (os : List Operand) (a : SkipLine) (r s : List ℕ) → fits_branch os ≡ true → All HasNumbers os → IsPrintableSkip a →
    compared a.op a.first a.second (codes "+8" ++ r) ≡ branch_name op ++ (uses_text (filter (λ o. not (is_definition o)) os) ++ s) → ⊥
no_branch_by op (OfUse x ∷ OfUse y ∷ Block n ∷ rest) a r s form numbers is e =
    let text = branch_is op x y n (filter (λ o. not (is_definition o)) rest) s in
    let tail = All-tail HasNumbers (OfUse x) (OfUse y ∷ Block n ∷ rest) numbers in
    let found = compared_one a.op op a.first x a.second y (codes "+8" ++ r) (codes "%bb." ++ text.0) is.first
    (All-head HasNumbers (OfUse x) (OfUse y ∷ Block n ∷ rest) numbers) is.second (All-head HasNumbers (OfUse y) (Block n ∷ rest) tail) (e ∙ text.1) in
    apart 43 37 (codes "8" ++ r) (codes "bb." ++ text.0) refl found.rest_one
no_branch_by op os a r s form numbers is e = absurd cc

no_other : (op : Op) (t : List ℕ) (a : SkipLine) (r : List ℕ) → is_branch op ≡ false → compared a.op a.first a.second r ≡ mnemonic_of op ++ t → ⊥
no_other op t a r other e = differ (compared a.op a.first a.second r) (mnemonic_of op ++ t)
    (branch_begins a.op (codes " " ++ (register_text a.first ++ (codes ", " ++ (register_text a.second ++ (codes ", " ++ r)))))) (others_begin op t other) e

no_opcode : (op : Op) (os : List Operand) (a : SkipLine) (r s : List ℕ) → has_form op os ≡ true → All HasNumbers os → IsPrintableSkip a →
    compared a.op a.first a.second (codes "+8" ++ r) ≡ mnemonic_of op ++ (uses_text (uses_behind op os) ++ s) → ⊥
no_opcode (Branch op) os a r s form numbers is e = no_branch_by op os a r s form numbers is e
no_opcode (Registers op) os a r s form numbers is e = no_other (Registers op) (uses_text (uses_behind (Registers op) os) ++ s) a
    (codes "+8" ++ r) refl e
no_opcode (Immediate op) os a r s form numbers is e = no_other (Immediate op) (uses_text (uses_behind (Immediate op) os) ++ s) a
    (codes "+8" ++ r) refl e
no_opcode Lui os a r s form numbers is e = no_other Lui (uses_text (uses_behind Lui os) ++ s) a (codes "+8" ++ r) refl e
no_opcode (Load op) os a r s form numbers is e = no_other (Load op) (uses_text (uses_behind (Load op) os) ++ s) a (codes "+8" ++ r) refl e
no_opcode (Store op) os a r s form numbers is e = no_other (Store op) (uses_text (uses_behind (Store op) os) ++ s) a (codes "+8" ++ r) refl e
no_opcode Copy os a r s form numbers is e = no_other Copy (uses_text (uses_behind Copy os) ++ s) a (codes "+8" ++ r) refl e
no_opcode PseudoBr os a r s form numbers is e = no_other PseudoBr (uses_text (uses_behind PseudoBr os) ++ s) a (codes "+8" ++ r) refl e
no_opcode PseudoCall os a r s form numbers is e = no_other PseudoCall (uses_text (uses_behind PseudoCall os) ++ s) a (codes "+8" ++ r) refl e
no_opcode PseudoRet os a r s form numbers is e = no_other PseudoRet (uses_text (uses_behind PseudoRet os) ++ s) a (codes "+8" ++ r) refl e
no_opcode PseudoCallIndirect os a r s form numbers is e =
    no_other PseudoCallIndirect (uses_text (uses_behind PseudoCallIndirect os) ++ s) a (codes "+8" ++ r) refl e
no_opcode PseudoTail os a r s form numbers is e = no_other PseudoTail (uses_text (uses_behind PseudoTail os) ++ s) a (codes "+8" ++ r) refl e
no_opcode PseudoTailIndirect os a r s form numbers is e =
    no_other PseudoTailIndirect (uses_text (uses_behind PseudoTailIndirect os) ++ s) a (codes "+8" ++ r) refl e
no_opcode NoReturnCall os a r s form numbers is e = no_other NoReturnCall (uses_text (uses_behind NoReturnCall os) ++ s) a (codes "+8" ++ r) refl e
no_opcode NoReturnCallIndirect os a r s form numbers is e =
    no_other NoReturnCallIndirect (uses_text (uses_behind NoReturnCallIndirect os) ++ s) a (codes "+8" ++ r) refl e

compared_begins : (a : SkipLine) (r : List ℕ) → begins_with_b (compared a.op a.first a.second (codes "+8" ++ r)) ≡ true
compared_begins a r = branch_begins a.op (codes " " ++ (register_text a.first ++ (codes ", " ++ (register_text a.second ++ (codes ", " ++ (codes "+8" ++ r))))))

define_parts : (a b c d tail : List ℕ) → ((a ++ b) ++ c ++ d) ++ tail ≡ a ++ (b ++ (c ++ (d ++ tail)))
define_parts a b c d tail = simp append_assoc

no_instruction_by : (objects : ℕ → Bool) (i : Instruction) (a : SkipLine) (r s : List ℕ) → IsPrintableInstruction objects i → IsPrintableSkip a →
    Defines i.operands →
    compared a.op a.first a.second (codes "+8" ++ r) ≡ instruction_text i ++ s → ⊥
no_instruction_by objects i a r s is skips (nothing none) e =
    let text : instruction_text i ++ s ≡ mnemonic_of i.op ++ (uses_text (uses_behind i.op i.operands) ++ s) =
    ap (λ (ds : List Operand). (definitions_text ds ++ mnemonic_of i.op ++ uses_text (uses_behind i.op i.operands)) ++ s) none
    ∙ append_assoc (mnemonic_of i.op) (uses_text (uses_behind i.op i.operands)) s in
    no_opcode i.op i.operands a r s is.form is.numbers skips (e ∙ text)
no_instruction_by objects i a r s is skips (something n more some) e =
    let text : instruction_text i ++ s ≡ comma_separated (map operand_text (OfDef n ∷ more)) ++ (codes " = " ++ (mnemonic_of i.op ++
    (uses_text (uses_behind i.op i.operands) ++ s))) =
    ap (λ (ds : List Operand). (definitions_text ds ++ mnemonic_of i.op ++ uses_text (uses_behind i.op i.operands)) ++ s) some
    ∙ define_parts (comma_separated (map operand_text (OfDef n ∷ more))) (codes " = ") (mnemonic_of i.op)
    (uses_text (uses_behind i.op i.operands)) s in
    differ (compared a.op a.first a.second (codes "+8" ++ r)) (comma_separated (map operand_text (OfDef n ∷ more)) ++ (codes " = " ++ (mnemonic_of i.op ++
    (uses_text (uses_behind i.op i.operands) ++ s)))) (compared_begins a r) (separated_begins n more (codes " = " ++ (mnemonic_of i.op ++
    (uses_text (uses_behind i.op i.operands) ++ s)))) (e ∙ text)

mark_begins : (v : VarId) (m : MarkValue) (s : List ℕ) → begins_with_b (mark_text v m ++ s) ≡ false
mark_begins v Nothing s = refl
mark_begins v (Constant c) s = refl
mark_begins v (At r) s = refl
mark_begins v (Pair q) s = refl

no_kind : (declared : Declared) (loc : Loc) (kind : ItemKind) (a : SkipLine) (r s : List ℕ) → IsPrintableKind declared loc kind → IsPrintableSkip a →
    compared a.op a.first a.second (codes "+8" ++ r) ≡ kind_text kind ++ s → ⊥
no_kind declared loc (Code i k) a r s is skips e =
    no_instruction_by declared.objects i a r (number_text k ++ s) is.0 skips (defines i.operands) (e ∙ append_assoc (instruction_text i) (number_text k) s)
no_kind declared loc (Mark v m) a r s is skips e =
    differ (compared a.op a.first a.second (codes "+8" ++ r)) (mark_text v m ++ s) (compared_begins a r) (mark_begins v m s) e
no_kind declared loc (Phi p k) a r s is skips e =
    differ (compared a.op a.first a.second (codes "+8" ++ r)) (phi_text p k ++ s) (compared_begins a r) refl e

-- behind the origin
no_item : (inlined : ℕ → Option ℕ) (l : ItemLine) (a : SkipLine) (r s : List ℕ) → IsPrintableItem inlined l → IsPrintableSkip a →
    skip_text a ++ (10 ∷ r) ≡ item_text l.item ++ (10 ∷ s) → ⊥
no_item inlined l a r s is skips e =
    no_kind (declared_by inlined) l.item.loc l.item.kind a (implicits_before a.implicit r)
    (location_text l.item.loc ++ ending (is_volatile_kind l.item.kind) s) is.item.kind skips (sym (skip_is a r) ∙ (e ∙ item_parts l.item s))

-- an item's line has no address, or one
no_line_at : (inlined : ℕ → Option ℕ) (at : Option ℕ) (l : ItemLine) (a : SkipLine) (r s : List ℕ) → l.address ≡ at → IsPrintableItem inlined l →
    IsPrintableSkip a →
    address_text a.address ++ (spaced_origin a.origin ++ (skip_text a ++ (10 ∷ r))) ≡ start_text at ++ (spaced_origin l.item.origin ++ (item_text l.item ++
    (10 ∷ s))) → ⊥
no_line_at inlined None l a r s here is skips e = no_address a.address _ _ skips.address e
no_line_at inlined (Some n) l a r s here is skips e =
    let address = address_one a.address n (spaced_origin a.origin ++ (skip_text a ++ (10 ∷ r)))
    (spaced_origin l.item.origin ++ (item_text l.item ++ (10 ∷ s))) e in
    let origin = origin_one a.origin l.item.origin (skip_text a ++ (10 ∷ r)) (item_text l.item ++ (10 ∷ s)) skips.origin is.origin address.1 in
    no_item inlined l a r s is skips origin.1

no_line : (inlined : ℕ → Option ℕ) (l : ItemLine) (a : SkipLine) (r s : List ℕ) → IsPrintableItem inlined l → IsPrintableSkip a →
    skip_line a ++ r ≡ item_line l ++ s → ⊥
no_line inlined l a r s is skips e =
    no_line_at inlined l.address l a r s refl is skips
    (sym (line_parts (address_text a.address) (spaced_origin a.origin) (skip_text a) (10 ∷ []) r) ∙ (e ∙
    line_parts (start_text l.address) (spaced_origin l.item.origin) (item_text l.item) (10 ∷ []) s))

-- ---- lines

pub line_one : (inlined : ℕ → Option ℕ) (l m : Line) (r s : List ℕ) → IsPrintableLine inlined l → IsPrintableLine inlined m →
    line_text l ++ r ≡ line_text m ++ s → (l ≡ m) × (r ≡ s)
line_one inlined (Item l) (Item m) r s is others e = let found = item_one inlined l m r s is others e in (ap Item found.0, found.1)
line_one inlined (Skip a) (Skip b) r s is others e = let found = skip_one a b r s is others e in (ap Skip found.0, found.1)
line_one inlined (Skip a) (Item m) r s is others e = absurd (no_line inlined m a r s others is e)
line_one inlined (Item l) (Skip b) r s is others e = absurd (no_line inlined l b s r is others (sym e))
