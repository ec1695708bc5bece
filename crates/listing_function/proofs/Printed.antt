-- A listing is printable: item by item each line tells its numbers, whose addresses are those of the entries of the layout.
use Rattle.std.proofs.Common.{◌≡◌, ℕ, suc, ◌+◌, ◌*◌, ◌<◌, ◌^◌, ℤ, pos, negsuc, Bool, true, false, List, [], ◌∷◌, ◌++◌, length}
use Rattle.std.proofs.Common.{Option, Some, None, ◌≤◌}
use Rattle.std.proofs.Common.{refl, ap, sym, subst, arith}
use Rattle.std.specs.Prelude.{All, map, IfSome, ◌+ℤ◌, sum_by, unsigned_abs}
use Rattle.std.specs.List.{flat_map, list_all}
use Rattle.std.proofs.lemmas.Bool.{and_parts}
use Rattle.std.proofs.lemmas.Bool.Decides.{nat_tests}
use Rattle.std.proofs.lemmas.Int.{ints}
use Rattle.std.proofs.lemmas.List.Concat.{flat_map-append}
use Rattle.std.proofs.lemmas.List.Elements.{All-cons, All-nil, All-head, All-tail, All-append}
use Rattle.rv64_instr.specs.declared.op.Op.{Op}
use Rattle.rv64_instr.specs.declared.op.Op.TheVariants.{Registers, Immediate, Lui, Branch as OfBranch, Load, Store, Copy}
use Rattle.rv64_instr.specs.declared.op.Op.TheVariants.{PseudoBr, PseudoCall, PseudoRet, PseudoCallIndirect}
use Rattle.rv64_instr.specs.declared.op.Op.TheVariants.{PseudoTail, PseudoTailIndirect, NoReturnCall, NoReturnCallIndirect}
use Rattle.rv64_instr.specs.declared.op.BranchOp.{BranchOp}
use Rattle.rv64_instr.specs.declared.op.ImmediateOp.{ImmediateOp}
use Rattle.rv64_instr.specs.declared.op.ImmediateOp.TheVariants.{Slli, Srli, Srai, Slliw, Srliw, Sraiw}
use Rattle.rv64_instr.specs.declared.operand.Operand.{Operand}
use Rattle.rv64_instr.specs.declared.operand.Operand.TheVariants.{Def, Use, ImplicitDef, ImplicitUse, Imm, Slot, Object, Block as OfBlock, Symbol}
use Rattle.rv64_instr.specs.Instruction.{Instruction}
use Rattle.rv64_instr.specs.declared.op.LoadOp.{LoadOp}
use Rattle.rv64_instr.specs.declared.op.StoreOp.{StoreOp}
use Rattle.rv64_instr.specs.Form.{is_implicit, is_result, is_within, has_12_bits, is_immediate, has_form, IsSigned}
use Rattle.rv64_instr.specs.Form.{fits_registers, fits_immediate, fits_upper, fits_branch, fits_load, fits_store, fits_copy, fits_jump}
use Rattle.rv64_instr.specs.Form.{fits_call, is_held_tail_use, is_held_tail_register, fits_held_call, fits_held_gone, fits_tail, fits_held_tail}
use Rattle.rv64_instr.proofs.Tails.{gone_calls}
use Rattle.mir_func.specs.declared.block.Block.{Block}
use Rattle.mir_func.specs.declared.item.Item.{Item}
use Rattle.mir_func.specs.declared.item.ItemKind.{ItemKind}
use Rattle.mir_func.specs.declared.item.ItemKind.TheVariants.{Code, Mark, Phi}
use Rattle.mir_func.specs.declared.object.Object.{Object as StackObject}
use Rattle.mir_func.specs.declared.position.Origin.{Origin}
use Rattle.mir_func.specs.declared.position.Origin.TheVariants.{Kept, Before}
use Rattle.mir_func.specs.declared.position.Pos.{Pos}
use Rattle.mir_func.specs.Objects.{offset_of}
use Rattle.mir_func.specs.Sound.{AllItems, IsFixedOffset, IsSoundObject, HasForm}
use Rattle.mir_func.specs.SoundFrame.{own_size, IsFramed}
use Rattle.emit_code.specs.LongBranch.{jump_to}
use Rattle.emit_code.specs.Listed.{by_pointer, listed}
use Rattle.emit_code.specs.Rule.{Layout, Site, Form, form_of, form_entries, address_in, added_before}
use Rattle.emit_code.specs.Rule.{entries_at, entry}
use Rattle.emit_code.specs.Rule.{entries_of, sites_in, sites_from, sites_of, words_of}
use Rattle.emit_code.proofs.Sites.{site_size}
use Rattle.emit_code.proofs.Stand.{stands, words_fill}
use Rattle.mir_printer.specs.Printable.{IsNumber, HasNumbers, IsPrintableInstruction}
use Rattle.mir_printer.specs.Printable.{IsAsDeclared}
use Rattle.listing_text.specs.Shown.{IsPrintableOrigin, IsPrintableImplicit, IsPrintableLine, IsPrintableBlock}
use Rattle.listing_text.specs.Shown.{IsPrintableObjectPlace, IsPrintableObject}
use Rattle.listing_meaning.specs.Listing.{implicits, branch_skip, line_at, form_lines, kind_lines, site_lines, blocks_listed, prologue_listed}
use Rattle.listing_meaning.specs.Listing.{body_listed, place_listed, object_listed}
use Rattle.listing_meaning.proofs.Forms.{FormView, one, call, long, viewed}
use Rattle.listing_function.specs.steps.Entries.{IsLow, IsPlaced}
use Rattle.listing_function.specs.Printable.{IsPrintableNumber, IsPrintableFramedKind, IsPrintableFramedItem, IsPrintableFramedBlock}
use Rattle.listing_function.specs.Laws.{ListingsArePrintable}
use Rattle.listing_function.proofs.Declared.{operands_declared}
use Rattle.listing_function.proofs.Low.{entries_low, offsets_low}
use Rattle.listing_function.proofs.Lowering.{operands_formed}

-- ---- numbers

pub signed : (x : ℤ) → has_12_bits x ≡ true → IsSigned x
signed (pos n) e = let less : n < 2048 = grind (arith, nat_tests, ints) in omega (arith, less)
signed (negsuc n) e = let less : n < 2048 = grind (arith, nat_tests, ints) in omega (arith, less)

shift6 : (x : ℤ) → is_within (pos 0) (pos 63) x ≡ true → IsSigned x
shift6 (pos n) e = let less : n < 64 = grind (arith, nat_tests, ints) in omega (arith, less)
shift6 (negsuc n) e = absurd (grind (arith, nat_tests, ints))

shift5 : (x : ℤ) → is_within (pos 0) (pos 31) x ≡ true → IsSigned x
shift5 (pos n) e = let less : n < 32 = grind (arith, nat_tests, ints) in omega (arith, less)
shift5 (negsuc n) e = absurd (grind (arith, nat_tests, ints))

immediate_signed : (op : ImmediateOp) (x : ℤ) → is_immediate op x ≡ true → IsSigned x
immediate_signed Slli x e = shift6 x e
immediate_signed Srli x e = shift6 x e
immediate_signed Srai x e = shift6 x e
immediate_signed Slliw x e = shift5 x e
immediate_signed Srliw x e = shift5 x e
immediate_signed Sraiw x e = shift5 x e
immediate_signed _ x e = signed x e

-- a number behind a register is in its opcode's range
module _ (b : ℕ) (x : ℤ) (rest : List Operand) where
  third_registers : (r : Operand) → fits_registers (r ∷ Use b ∷ Imm x ∷ rest) ≡ true → IsSigned x
  third_registers (Def rd) form = absurd cc
  third_registers r form = absurd cc

  third_immediate : (op : ImmediateOp) (r : Operand) → fits_immediate op (r ∷ Use b ∷ Imm x ∷ rest) ≡ true → IsSigned x
  third_immediate op (Def rd) form = immediate_signed op x (and_parts (is_immediate op x) (list_all is_implicit rest) form).0
  third_immediate op r form = absurd cc

  third_upper : (r : Operand) → fits_upper (r ∷ Use b ∷ Imm x ∷ rest) ≡ true → IsSigned x
  third_upper (Def rd) form = absurd cc
  third_upper r form = absurd cc

  third_branch : (r : Operand) → fits_branch (r ∷ Use b ∷ Imm x ∷ rest) ≡ true → IsSigned x
  third_branch (Use a) form = absurd cc
  third_branch r form = absurd cc

  third_load : (op : LoadOp) (r : Operand) → fits_load op (r ∷ Use b ∷ Imm x ∷ rest) ≡ true → IsSigned x
  third_load op (Def rd) form = signed x (and_parts (has_12_bits x) (list_all is_implicit rest) form).0
  third_load op r form = absurd cc

  third_store : (op : StoreOp) (r : Operand) → fits_store op (r ∷ Use b ∷ Imm x ∷ rest) ≡ true → IsSigned x
  third_store op (Use rs) form = signed x (and_parts (has_12_bits x) (list_all is_implicit rest) form).0
  third_store op r form = absurd cc

  third_copy : (r : Operand) → fits_copy (r ∷ Use b ∷ Imm x ∷ rest) ≡ true → IsSigned x
  third_copy (Def rd) form = absurd cc
  third_copy r form = absurd cc

  third_jump : (r : Operand) → fits_jump (r ∷ Use b ∷ Imm x ∷ rest) ≡ true → IsSigned x
  third_jump (OfBlock n) form = absurd cc
  third_jump r form = absurd cc

  third_call : (r : Operand) → fits_call (r ∷ Use b ∷ Imm x ∷ rest) ≡ true → IsSigned x
  third_call (Symbol name) form = absurd cc
  third_call r form = absurd cc

  third_result : (r : Operand) → list_all is_result (r ∷ Use b ∷ Imm x ∷ rest) ≡ true → IsSigned x
  third_result r form =
      let none : false ≡ true = (and_parts (is_result r) (list_all is_result (Use b ∷ Imm x ∷ rest)) form).1 in absurd cc

  third_held_call : (r : Operand) → fits_held_call (r ∷ Use b ∷ Imm x ∷ rest) ≡ true → IsSigned x
  third_held_call (Use n) form = absurd cc
  third_held_call r form = absurd cc

  third_held_gone : (r : Operand) → fits_held_gone (r ∷ Use b ∷ Imm x ∷ rest) ≡ true → IsSigned x
  third_held_gone (ImplicitUse n) form = absurd cc
  third_held_gone r form = absurd cc

  third_tail : (r : Operand) → fits_tail (r ∷ Use b ∷ Imm x ∷ rest) ≡ true → IsSigned x
  third_tail (Symbol name) form = absurd cc
  third_tail r form = absurd cc

  third_held_tail : (r : Operand) → fits_held_tail (r ∷ Use b ∷ Imm x ∷ rest) ≡ true → IsSigned x
  third_held_tail (ImplicitUse n) form =
      let none : false ≡ true = (and_parts (is_held_tail_register n) (list_all is_held_tail_use (Use b ∷ Imm x ∷ rest)) form).1 in absurd cc
  third_held_tail r form = absurd cc

  third : (op : Op) (r : Operand) → has_form op (r ∷ Use b ∷ Imm x ∷ rest) ≡ true → IsSigned x
  third (Registers op) r form = third_registers r form
  third (Immediate op) r form = third_immediate op r form
  third Lui r form = third_upper r form
  third (OfBranch op) r form = third_branch r form
  third (Load op) r form = third_load op r form
  third (Store op) r form = third_store op r form
  third Copy r form = third_copy r form
  third PseudoBr r form = third_jump r form
  third PseudoCall r form = third_call r form
  third PseudoRet r form = third_result r form
  third PseudoCallIndirect r form = third_held_call r form
  third PseudoTail r form = third_tail r form
  third PseudoTailIndirect r form = third_held_tail r form
  third NoReturnCall r form = third_call r (gone_calls (r ∷ Use b ∷ Imm x ∷ rest) form)
  third NoReturnCallIndirect r form = third_held_gone r form

implicits_printable : (os : List Operand) → All HasNumbers os → All IsPrintableImplicit (implicits os)
implicits_printable [] all = All-nil IsPrintableImplicit
implicits_printable (ImplicitDef r ∷ os) all =
    All-cons IsPrintableImplicit _ (implicits os) (All-head HasNumbers (ImplicitDef r) os all) (implicits_printable os (All-tail HasNumbers
    (ImplicitDef r) os all))
implicits_printable (ImplicitUse r ∷ os) all =
    All-cons IsPrintableImplicit _ (implicits os) (All-head HasNumbers (ImplicitUse r) os all) (implicits_printable os (All-tail HasNumbers
    (ImplicitUse r) os all))
implicits_printable (o ∷ os) all = implicits_printable os (All-tail HasNumbers o os all)

before_printable : (o : Origin) → IsPrintableOrigin o → IsPrintableOrigin (added_before o)
before_printable (Kept p) is = is
before_printable (Before p) is = is

pub both_sides : {X : Type 0} (P : X → Type 0) (xs ys : List X) → All P (xs ++ ys) → All P xs × All P ys
both_sides P [] ys all = (All-nil P, all)
both_sides P (x ∷ xs) ys all =
    let rest = both_sides P xs ys (All-tail P x (xs ++ ys) all) in (All-cons P x xs (All-head P x (xs ++ ys) all) rest.0, rest.1)

module _ (inlined : ℕ → Option ℕ) (l : Layout) (framed : IsFramed l.framed) where
  abbrev none : ℕ → Bool
  none = λ n. false

  numbers_by : (op : Op) (os : List Operand) → All HasNumbers os → has_form op (by_pointer l.framed os) ≡ true → All HasNumbers (by_pointer l.framed os)
  numbers_by op (r ∷ Slot n ∷ Imm i ∷ rest) all form =
      let tail = All-tail HasNumbers r (Slot n ∷ Imm i ∷ rest) all in
      let number : n < 2 ^ 32 = All-head HasNumbers (Slot n) (Imm i ∷ rest) tail in
      All-cons HasNumbers r (Use 2 ∷ Imm (pos n) ∷ rest) (All-head HasNumbers r (Slot n ∷ Imm i ∷ rest) all)
      (All-cons HasNumbers (Use 2) (Imm (pos n) ∷ rest) (omega arith) (All-cons HasNumbers (Imm (pos n)) rest (omega (arith, number))
      (All-tail HasNumbers (Imm i) rest (All-tail HasNumbers (Slot n) (Imm i ∷ rest) tail))))
  numbers_by op (r ∷ Object n ∷ Imm i ∷ rest) all form =
      let tail = All-tail HasNumbers r (Object n ∷ Imm i ∷ rest) all in
      let x : ℤ = pos (own_size l.framed + offset_of l.framed.objects n) +ℤ i in
      All-cons HasNumbers r (Use 2 ∷ Imm x ∷ rest) (All-head HasNumbers r (Object n ∷ Imm i ∷ rest) all)
      (All-cons HasNumbers (Use 2) (Imm x ∷ rest) (omega arith) (All-cons HasNumbers (Imm x) rest (third 2 x rest op r form)
      (All-tail HasNumbers (Imm i) rest (All-tail HasNumbers (Object n) (Imm i ∷ rest) tail))))
  numbers_by op os all form = all

  -- ---- one line

  instruction_printable : (c : Instruction) (k : Option ℕ) → has_form c.op c.operands ≡ true → IsPlaced l.framed (Code c k) → All HasNumbers c.operands →
      IsPrintableInstruction none (listed l.framed c)
  instruction_printable c k form placed numbers =
      let lowered = operands_formed l.framed framed c.op c.operands form placed.0.0 placed.1 placed.2 in
      record {
        form = lowered;
        numbers = numbers_by c.op c.operands numbers lowered;
        stack = λ form_too. operands_declared l.framed c.op c.operands form;
      }

  jump_printable : (n : ℕ) → IsNumber n → IsPrintableInstruction none (jump_to n)
  jump_printable n small = record {
    form = refl;
    numbers = All-cons HasNumbers (OfBlock n) [] small (All-nil HasNumbers);
    stack = λ form_too. All-cons (IsAsDeclared none) (OfBlock n) [] tt (All-nil (IsAsDeclared none));
  }

  code_printable : (a : ℕ) (i : Item) (c : Instruction) (k : Option ℕ) → IsPrintableFramedItem inlined i → a < 2 ^ 32 → IsPrintableInstruction none c →
      IfSome k IsNumber → IsPrintableLine inlined (line_at (Some a) i (Code c k))
  code_printable a i c k fit low printable number =
      record { address = low; origin = fit.origin; item = record { kind = (printable, number); loc = fit.loc } }

  -- ---- one item

  abbrev LongPrintable : (a : ℕ) (i : Item) (k : Option ℕ) (n : ℕ) → Op → List Operand → Type 0
  LongPrintable a i k n op os = All (IsPrintableLine inlined) (branch_skip a i.origin op os ++ line_at (Some (a + 4)) i (Code (jump_to n) k) ∷ [])

  long_printable : (a : ℕ) (i : Item) (k : Option ℕ) (b : BranchOp) (x y n : ℕ) (rest : List Operand) → IsPrintableFramedItem inlined i → a < 2 ^ 32 →
      a + 4 < 2 ^ 32 → All HasNumbers (Use x ∷ Use y ∷ OfBlock n ∷ rest) → IfSome k IsNumber → LongPrintable a i k n (OfBranch b)
      (Use x ∷ Use y ∷ OfBlock n ∷ rest)
  long_printable a i k b x y n rest fit low high all number =
      let second = All-tail HasNumbers (Use x) (Use y ∷ OfBlock n ∷ rest) all in
      let third_on = All-tail HasNumbers (Use y) (OfBlock n ∷ rest) second in
      All-cons (IsPrintableLine inlined) _ (line_at (Some (a + 4)) i (Code (jump_to n) k) ∷ []) (record {
        address = low;
        origin = before_printable i.origin fit.origin;
        first = All-head HasNumbers (Use x) (Use y ∷ OfBlock n ∷ rest) all;
        second = All-head HasNumbers (Use y) (OfBlock n ∷ rest) second;
        implicit = implicits_printable rest (All-tail HasNumbers (OfBlock n) rest third_on);
      })
      (All-cons (IsPrintableLine inlined) (line_at (Some (a + 4)) i (Code (jump_to n) k)) [] (code_printable (a + 4) i (jump_to n) k fit high
      (jump_printable n (All-head HasNumbers (OfBlock n) rest third_on)) number) (All-nil (IsPrintableLine inlined)))

  form_printable : (a : ℕ) (p : Pos) (i : Item) (c : Instruction) (k : Option ℕ) (f : Form) → FormView c.op c.operands f → IsPrintableFramedItem inlined i →
      All IsLow (form_entries a i.origin p f) → IsPrintableInstruction none (listed l.framed c) → All HasNumbers c.operands → IfSome k IsNumber →
      All (IsPrintableLine inlined) (form_lines l a i c k f)
  form_printable a p i c k f one fit low printable numbers number =
      All-cons (IsPrintableLine inlined) _ [] (code_printable a i (listed l.framed c) k fit (All-head IsLow (entry a 4 i.origin p false) [] low) printable
      number)
      (All-nil (IsPrintableLine inlined))
  form_printable a p i c k f (call name os os_is op_is) fit low printable numbers number =
      All-cons (IsPrintableLine inlined) _ [] (code_printable a i (listed l.framed c) k fit (All-head IsLow (entry a 8 i.origin p true) [] low) printable
      number)
      (All-nil (IsPrintableLine inlined))
  form_printable a p i c k f (long b x y n rest op_is os_is all) fit low printable numbers number =
      let first = entry a 4 (added_before i.origin) p false in
      let second = entry (a + 4) 4 i.origin p false in
      let long_one = long_printable a i k b x y n rest fit (All-head IsLow first (second ∷ []) low) (All-head IsLow second [] (All-tail IsLow first (second ∷
      []) low)) (subst (All HasNumbers) os_is numbers) number in
      subst (λ (op : Op). LongPrintable a i k n op c.operands) (sym op_is) (subst (λ (os : List Operand). LongPrintable a i k n (OfBranch b) os) (sym os_is)
      long_one)

  kind_printable : (s : Site) (kind : ItemKind) → IsPrintableFramedItem inlined s.item → HasForm kind → IsPlaced l.framed kind →
      IsPrintableFramedKind inlined s.item.loc kind →
      All IsLow (form_entries (address_in l s.point) s.item.origin s.point (form_of (l.long s.point) kind)) →
      All (IsPrintableLine inlined) (kind_lines l s kind)
  kind_printable s (Code c k) fit form placed is low =
      form_printable (address_in l s.point) s.point s.item c k (form_of (l.long s.point) (Code c k)) (viewed (l.long s.point) c.op c.operands form) fit low
      (instruction_printable c k form placed is.0) is.0 is.1
  kind_printable s (Mark v m) fit form placed is low =
      All-cons (IsPrintableLine inlined) _ [] (record { address = tt; origin = fit.origin; item = record { kind = is; loc = fit.loc } })
      (All-nil (IsPrintableLine inlined))
  kind_printable s (Phi p k) fit form placed is low =
      All-cons (IsPrintableLine inlined) _ [] (record { address = tt; origin = fit.origin; item = record { kind = is; loc = fit.loc } })
      (All-nil (IsPrintableLine inlined))

  -- ---- all of them

  items_printable : (b n : ℕ) (items : List Item) → All (IsPrintableFramedItem inlined) items → All (λ i. IsPlaced l.framed i.kind) items →
      All IsLow (flat_map (entries_at l) (sites_in b n items)) → All (IsPrintableLine inlined) (flat_map (site_lines l) (sites_in b n items))
  items_printable b n [] fit placed low = All-nil (IsPrintableLine inlined)
  items_printable b n (i ∷ items) fit placed low =
      let s : Site = record { point = record { block = b; item = n }; item = i } in
      let here = All-head (IsPrintableFramedItem inlined) i items fit in
      let both = both_sides IsLow (entries_at l s) (flat_map (entries_at l) (sites_in b (suc n) items)) low in
      All-append (IsPrintableLine inlined) (site_lines l s) (flat_map (site_lines l) (sites_in b (suc n) items))
      (kind_printable s i.kind here here.form (All-head (λ x. IsPlaced l.framed x.kind) i items placed) here.kind both.0)
      (items_printable b (suc n) items (All-tail (IsPrintableFramedItem inlined) i items fit) (All-tail (λ x. IsPlaced l.framed x.kind) i items placed) both.1)

  halves : (b : ℕ) (block : Block) (blocks : List Block) → All IsLow (flat_map (entries_at l) (sites_from b (block ∷ blocks))) →
      All IsLow (flat_map (entries_at l) (sites_in b 0 block.items)) × All IsLow (flat_map (entries_at l) (sites_from (suc b) blocks))
  halves b block blocks low =
      both_sides IsLow (flat_map (entries_at l) (sites_in b 0 block.items)) (flat_map (entries_at l) (sites_from (suc b) blocks))
      (subst (All IsLow) (flat_map-append (entries_at l) (sites_in b 0 block.items) (sites_from (suc b) blocks)) low)

  blocks_printable : (b : ℕ) (blocks : List Block) → All (IsPrintableFramedBlock inlined) blocks → AllItems (λ i. IsPlaced l.framed i.kind) blocks →
      All IsLow (flat_map (entries_at l) (sites_from b blocks)) → All (IsPrintableBlock inlined) (blocks_listed l b blocks)
  blocks_printable b [] fit placed low = All-nil (IsPrintableBlock inlined)
  blocks_printable b (block ∷ blocks) fit placed low =
      let here = All-head (IsPrintableFramedBlock inlined) block blocks fit in
      let both = halves b block blocks low in
      All-cons (IsPrintableBlock inlined) _ (blocks_listed l (suc b) blocks)
      (record {
        id = here.id;
        lines = items_printable b 0 block.items here.items (All-head (λ x. All (λ i. IsPlaced l.framed i.kind) x.items) block blocks placed) both.0;
      })
      (blocks_printable (suc b) blocks (All-tail (IsPrintableFramedBlock inlined) block blocks fit) (All-tail (λ x. All (λ i. IsPlaced
      l.framed i.kind) x.items) block blocks placed) both.1)

  prologue_printable : (blocks : List Block) → All (IsPrintableFramedBlock inlined) blocks → AllItems (λ i. IsPlaced l.framed i.kind) blocks →
      All IsLow (flat_map (entries_at l) (sites_from 0 blocks)) → All (IsPrintableLine inlined) (prologue_listed l blocks)
  prologue_printable [] fit placed low = All-nil (IsPrintableLine inlined)
  prologue_printable (p ∷ blocks) fit placed low =
      let here = All-head (IsPrintableFramedBlock inlined) p blocks fit in
      items_printable 0 0 p.items here.items (All-head (λ x. All (λ i. IsPlaced l.framed i.kind) x.items) p blocks placed) (halves 0 p blocks low).0

  body_printable : (blocks : List Block) → All (IsPrintableFramedBlock inlined) blocks → AllItems (λ i. IsPlaced l.framed i.kind) blocks →
      All IsLow (flat_map (entries_at l) (sites_from 0 blocks)) → All (IsPrintableBlock inlined) (body_listed l blocks)
  body_printable [] fit placed low = All-nil (IsPrintableBlock inlined)
  body_printable (p ∷ blocks) fit placed low =
      blocks_printable 1 blocks (All-tail (IsPrintableFramedBlock inlined) p blocks fit) (All-tail (λ x. All (λ i. IsPlaced
      l.framed i.kind) x.items) p blocks placed) (halves 0 p blocks low).1

-- an offset from the stack pointer at entry has 64 bits
near_signed : (d : ℤ) → unsigned_abs d ≤ 1073741823 → IsSigned d
near_signed (pos n) small = omega (arith, small)
near_signed (negsuc n) small = omega (arith, small)

number_printable : (id : ℕ) (fixed : Option ℤ) → IsPrintableNumber id fixed → IsNumber id
number_printable id None is = is
number_printable id (Some d) is = is.0

place_printable : (id offset : ℕ) (fixed : Option ℤ) (local : Option ℕ) → IsPrintableNumber id fixed → offset < 2 ^ 32 → IsFixedOffset fixed local →
    IsPrintableObjectPlace id (place_listed offset fixed)
place_printable id offset None local is low near = low
place_printable id offset (Some d) local is low near = (near_signed d near.0, is.1)

objects_printable : (objects : List StackObject) → All (λ o. IsPrintableNumber o.id o.fixed_offset) objects → All IsSoundObject objects →
    All (λ o. o.offset < 2 ^ 32) objects → All IsPrintableObject (map object_listed objects)
objects_printable [] ids sound low = All-nil IsPrintableObject
objects_printable (o ∷ objects) ids sound low =
    let here = All-head IsSoundObject o objects sound in
    let number = All-head (λ (x : StackObject). IsPrintableNumber x.id x.fixed_offset) o objects ids in
    All-cons IsPrintableObject (object_listed o) (map object_listed objects)
    (record {
      id = number_printable o.id o.fixed_offset number;
      size = omega (arith, here.size);
      place = place_printable o.id o.offset o.fixed_offset o.local_offset number (All-head (λ (x : StackObject). x.offset < 2 ^ 32) o objects low) here.fixed;
    })
    (objects_printable objects (All-tail (λ (x : StackObject). IsPrintableNumber x.id x.fixed_offset) o objects ids) (All-tail IsSoundObject o objects sound)
    (All-tail (λ (x : StackObject). x.offset < 2 ^ 32) o objects low))

pub printable : ListingsArePrintable
printable inlined l variables substitutions framed worded fit high vs es =
    let end : l.base + 4 * length (words_of l) ≡ l.base + sum_by (site_size l.long) (sites_of l.framed) = ap (λ (n : ℕ). l.base + n) (words_fill l worded) in
    let below : l.base + sum_by (site_size l.long) (sites_of l.framed) < 2 ^ 32 = subst (λ (n : ℕ). n < 2 ^ 32) end high in
    let low : All IsLow (entries_of l) = entries_low l.base (entries_of l) (l.base + sum_by (site_size l.long) (sites_of l.framed)) (stands l) below in
    let placed : AllItems (λ i. IsPlaced l.framed i.kind) l.framed.blocks = λ k d less j e within. (
      framed.slots k d less j e within,
      framed.objects k d less j e within,
      framed.addresses k d less j e within,
    ) in
    record {
      low = omega (arith, high);
      high = high;
      objects = objects_printable l.framed.objects fit.objects framed.each_object (offsets_low l.framed framed);
      variables = vs;
      substitutions = es;
      prologue = prologue_printable inlined l framed l.framed.blocks fit.blocks placed low;
      blocks = body_printable inlined l framed l.framed.blocks fit.blocks placed low;
    }
