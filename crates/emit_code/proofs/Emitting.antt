-- The words and the entries of an item, by what stands for it.
use Rattle.std.proofs.Common.{◌≡◌, ℕ, zero, suc, ◌+◌, ◌<◌, Bool, true, false, List, [], ◌∷◌, ◌++◌, length, map, take, get_or, Option, Some, None, refl, sym, ap}
use Rattle.std.proofs.Common.{subst, inl, inr, ◌∙◌, arith}
use Rattle.std.specs.Prelude.{◌⊎◌, ℤ, pos, ◌-ℤ◌, ◌+ℤ◌, option_map, slice_get, slice_index, if◌then◌else◌, option_and_then}
use Rattle.std.specs.List.{flat_map}
use Rattle.std.proofs.lemmas.List.{append_assoc, append-nil, get_or_read}
use Rattle.std.proofs.lemmas.List.Concat.{flat_map-append}
use Rattle.rv64_instr.specs.declared.op.Op.{Op}
use Rattle.rv64_instr.specs.declared.op.Op.TheVariants as source
use Rattle.rv64_instr.specs.declared.op.RegisterOp.{RegisterOp}
use Rattle.rv64_instr.specs.declared.op.ImmediateOp.{ImmediateOp}
use Rattle.rv64_instr.specs.declared.op.ImmediateOp.TheVariants.{Addi}
use Rattle.rv64_instr.specs.declared.op.LoadOp.{LoadOp}
use Rattle.rv64_instr.specs.declared.op.StoreOp.{StoreOp}
use Rattle.rv64_instr.specs.declared.op.BranchOp.{BranchOp}
use Rattle.rv64_instr.specs.declared.op.BranchOp.TheVariants.{Beq}
use Rattle.rv64_instr.specs.declared.operand.Operand.{Operand}
use Rattle.rv64_instr.specs.declared.operand.Operand.TheVariants.{Def, Use, Imm, Slot, Object, Block as OfBlock}
use Rattle.rv64_instr.specs.Instruction.{Instruction}
use Rattle.rv64_instr.specs.Row.{Row, row_of, implicit_uses}
use Rattle.rv64_instr.specs.LocationEffects.{has_site}
use Rattle.rv64_instr.specs.Inverse.{inverse_op, inverse}
use Rattle.rv64_word.specs.declared.machine_op.MachineOp.{MachineOp}
use Rattle.rv64_word.specs.declared.word_op.WordOp.{WordOp}
use Rattle.rv64_word.specs.declared.word_op.WordOp.TheVariants.{Registers, Immediate, Lui, Branch, Load, Store, Jal, Jalr}
use Rattle.rv64_word.specs.MachineOp.{is_encodable}
use Rattle.rv64_word.specs.Lowering.{lowered, fields_of, register_fields, immediate_fields, object_fields, upper_fields, branch_fields, load_fields}
use Rattle.rv64_word.specs.Lowering.{store_fields, copy_fields, jump_fields, in_range, machine_op, held_fields, held_call_fields}
use Rattle.mir_func.specs.declared.block.Block.{Block}
use Rattle.mir_func.specs.declared.item.Item.{Item}
use Rattle.mir_func.specs.declared.item.ItemKind.{ItemKind}
use Rattle.mir_func.specs.declared.item.ItemKind.TheVariants.{Code, Mark, Phi}
use Rattle.mir_func.specs.declared.position.Pos.{Pos}
use Rattle.mir_func.specs.Successors.{pos_in}
use Rattle.mir_func.specs.declared.exit.Exit.{Exit}
use Rattle.mir_func.specs.declared.exit.Exit.TheVariants.{Onward, Perhaps, Always, Final}
use Rattle.mir_func.specs.Exits.{row_exit}
use Rattle.emit_code.specs.declared.plan.ItemLayout.{ItemLayout}
use Rattle.emit_code.specs.declared.span.Span.{Span}
use Rattle.emit_code.specs.declared.span.Span.TheVariants.{Nothing, OneWord, CallSite, Short, Long}
use Rattle.emit_code.specs.Rule as rule
use Rattle.emit_code.specs.Rule.{Layout, Site, form_of, row_form, form_words, form_entries, kind_words, entries_at, address_in, start_of}
use Rattle.emit_code.specs.Rule.{operation_at, skip_operation, word_if, entry, added_before, items_at, sites_in, sites_from, exit_form, site_words}
use Rattle.emit_code.specs.steps.Places.{items_count, first_of}
use Rattle.emit_code.specs.steps.Spans.{row_span, span_of, site_span, sums_from, exit_span}
use Rattle.emit_code.specs.steps.Plans.{IsPlan}
use Rattle.emit_code.proofs.Sites.{sites_more, first_at, site_from}
use Rattle.emit_code.proofs.Settled.{sum_here}
use Rattle.emit_code.specs.steps.Emitted.{AllStandAt, inverted_word, jump_by}

-- ---- the skip

pub inv : MachineOp → MachineOp
inv m = record m { op = inverted_word m.op }

branch_inverted : (op : BranchOp) (operands : List Operand) (offset : ℤ) → branch_fields (inverse op) operands offset ≡ option_map inv (branch_fields op
    operands offset)
unfolding inv
branch_inverted op (Use a ∷ Use b ∷ OfBlock n ∷ rest) offset = refl
branch_inverted op operands offset = refl

registers_kept : (op : RegisterOp) (operands : List Operand) → register_fields op operands ≡ option_map inv (register_fields op operands)
unfolding inv
registers_kept op (Def rd ∷ Use a ∷ Use b ∷ rest) = refl
registers_kept op operands = refl

object_kept : (op : ImmediateOp) (rd : ℕ) (i : ℤ) → object_fields op rd i ≡ option_map inv (object_fields op rd i)
unfolding inv
object_kept Addi rd i = refl
object_kept _ rd i = refl

immediate_kept : (op : ImmediateOp) (operands : List Operand) → immediate_fields op operands 0 ≡ option_map inv (immediate_fields op operands 0)
unfolding inv
immediate_kept op (Def rd ∷ Use a ∷ Imm i ∷ rest) = refl
immediate_kept op (Def rd ∷ Object n ∷ Imm i ∷ rest) = object_kept op rd (pos 0 +ℤ i)
immediate_kept op operands = refl

upper_kept : (operands : List Operand) → upper_fields operands ≡ option_map inv (upper_fields operands)
unfolding inv
upper_kept (Def rd ∷ Imm i ∷ rest) = refl
upper_kept operands = refl

load_kept : (op : LoadOp) (operands : List Operand) → load_fields op operands 0 ≡ option_map inv (load_fields op operands 0)
unfolding inv
load_kept op (Def rd ∷ Use base ∷ Imm i ∷ rest) = refl
load_kept op (Def rd ∷ Slot n ∷ rest) = refl
load_kept op (Def rd ∷ Object n ∷ Imm i ∷ rest) = refl
load_kept op operands = refl

store_kept : (op : StoreOp) (operands : List Operand) → store_fields op operands 0 ≡ option_map inv (store_fields op operands 0)
unfolding inv
store_kept op (Use rs ∷ Use base ∷ Imm i ∷ rest) = refl
store_kept op (Use rs ∷ Slot n ∷ rest) = refl
store_kept op (Use rs ∷ Object n ∷ Imm i ∷ rest) = refl
store_kept op operands = refl

copy_kept : (operands : List Operand) → copy_fields operands ≡ option_map inv (copy_fields operands)
unfolding inv
copy_kept (Def rd ∷ Use rs ∷ rest) = refl
copy_kept operands = refl

jump_kept : (operands : List Operand) (offset : ℤ) → jump_fields operands offset ≡ option_map inv (jump_fields operands offset)
unfolding inv
jump_kept (OfBlock n ∷ rest) offset = refl
jump_kept operands offset = refl

held_call_kept : (operands : List Operand) → held_call_fields operands ≡ option_map inv (held_call_fields operands)
unfolding inv
held_call_kept (Use r ∷ rest) = refl
held_call_kept operands = refl

held_kept : (link : ℕ) (xs : List ℕ) → held_fields link xs ≡ option_map inv (held_fields link xs)
unfolding inv
held_kept link [] = refl
held_kept link (r ∷ xs) = refl

op_inverted : (op : Op) (operands : List Operand) (offset : ℤ) → fields_of (inverse_op op) operands offset 0 ≡ option_map inv (fields_of op operands offset 0)
unfolding inv
op_inverted (source.Branch op) operands offset = branch_inverted op operands offset
op_inverted (source.Registers op) operands offset = registers_kept op operands
op_inverted (source.Immediate op) operands offset = immediate_kept op operands
op_inverted source.Lui operands offset = upper_kept operands
op_inverted (source.Load op) operands offset = load_kept op operands
op_inverted (source.Store op) operands offset = store_kept op operands
op_inverted source.Copy operands offset = copy_kept operands
op_inverted source.PseudoBr operands offset = jump_kept operands offset
op_inverted source.PseudoCall operands offset = refl
op_inverted source.PseudoRet operands offset = refl
op_inverted source.PseudoCallIndirect operands offset = held_call_kept operands
op_inverted source.PseudoTail operands offset = refl
op_inverted source.PseudoTailIndirect operands offset = held_kept 0 (implicit_uses operands)
op_inverted source.NoReturnCall operands offset = refl
op_inverted source.NoReturnCallIndirect operands offset = held_kept 1 (implicit_uses operands)

branch_format : (op : BranchOp) (rd rs1 rs2 : ℕ) (imm : ℤ) → is_encodable (machine_op (Branch (inverse op)) rd rs1 rs2 imm) ≡ is_encodable (machine_op (Branch
    op) rd rs1 rs2 imm)
branch_format Beq rd rs1 rs2 imm = refl
branch_format _ rd rs1 rs2 imm = refl

word_format : (op : WordOp) (rd rs1 rs2 : ℕ) (imm : ℤ) → is_encodable (machine_op (inverted_word op) rd rs1 rs2 imm) ≡ is_encodable (machine_op op rd rs1 rs2
    imm)
word_format (Branch op) rd rs1 rs2 imm = branch_format op rd rs1 rs2 imm
word_format (Registers op) rd rs1 rs2 imm = refl
word_format (Immediate op) rd rs1 rs2 imm = refl
word_format Lui rd rs1 rs2 imm = refl
word_format (Load op) rd rs1 rs2 imm = refl
word_format (Store op) rd rs1 rs2 imm = refl
word_format Jal rd rs1 rs2 imm = refl
word_format Jalr rd rs1 rs2 imm = refl

-- the inverted operation has the same fields, in the same format
pub inverted_format : (m : MachineOp) → is_encodable (record m { op = inverted_word m.op }) ≡ is_encodable m
inverted_format m = word_format m.op m.rd m.rs1 m.rs2 m.imm

ranged : (m : MachineOp) → in_range (inv m) ≡ option_map inv (in_range m)
unfolding inv
ranged m = ap (λ (z : Bool). if z then Some (inv m) else None) (inverted_format m) ∙ mapped (is_encodable m)
  where
    mapped : (z : Bool) → (if z then Some (record m { op = inverted_word m.op }) else None) ≡ option_map (λ (x : MachineOp). record x {
      op =
          inverted_word x.op;
    }) (if z then Some m else None)
    mapped true = refl
    mapped false = refl

and_then : (o : Option MachineOp) → option_and_then in_range (option_map inv o) ≡ option_map inv (option_and_then in_range o)
and_then None = refl
and_then (Some m) = ranged m

pub skipped : (i : Instruction) → skip_operation i ≡ option_map inv (lowered (pos 8) 0 i)
skipped i = ap (option_and_then in_range) (op_inverted i.op i.operands (pos 8)) ∙ and_then (fields_of i.op i.operands (pos 8) 0)

pub skip_some : (i : Instruction) (m : MachineOp) → Some m ≡ lowered (pos 8) 0 i → Some (record m { op = inverted_word m.op }) ≡ skip_operation i
unfolding inv
skip_some i m e = ap (option_map inv) e ∙ sym (skipped i)

pub skip_none : (i : Instruction) → None ≡ lowered (pos 8) 0 i → None ≡ skip_operation i
skip_none i e = ap (option_map inv) e ∙ sym (skipped i)

-- ---- words by what stands there

one_exit : (blocks : List Block) (long : Bool) (e : Exit) (site : Bool) (s : Span) → s ≡ exit_span blocks long e site →
    (s ≡ OneWord) ⊎ ((t : ℕ) × (s ≡ Short t)) → exit_form long e site ≡ rule.OneWord
one_exit blocks true (Perhaps n) site s e (inl is) = absurd cc
one_exit blocks true (Perhaps n) site s e (inr is) = let f : s ≡ Short is.0 = is.1 in absurd cc
one_exit blocks false (Perhaps n) site s e is = refl
one_exit blocks long (Always n) site s e is = refl
one_exit blocks long Onward true s e (inl is) = absurd cc
one_exit blocks long Onward true s e (inr is) = let f : s ≡ Short is.0 = is.1 in absurd cc
one_exit blocks long Onward false s e is = refl
one_exit blocks long Final true s e (inl is) = absurd cc
one_exit blocks long Final true s e (inr is) = let f : s ≡ Short is.0 = is.1 in absurd cc
one_exit blocks long Final false s e is = refl

one_of : (blocks : List Block) (long : Bool) (row : Row) (s : Span) → s ≡ row_span blocks long row → (s ≡ OneWord) ⊎ ((t : ℕ) × (s ≡ Short t)) →
    row_form long row ≡ rule.OneWord
one_of blocks long row s e is = one_exit blocks long (row_exit row) (has_site row) s e is

pub record IsLongForm (blocks : List Block) (long : Bool) (row : Row) (t : ℕ) : Type 0 where
  pub block : ℕ
  pub form : row_form long row ≡ rule.LongBranch block
  pub target : t ≡ first_of blocks block

long_exit : (blocks : List Block) (long : Bool) (e : Exit) (site : Bool) (t : ℕ) → Long t ≡ exit_span blocks long e site →
    (block : ℕ) × (exit_form long e site ≡ rule.LongBranch block) × (t ≡ first_of blocks block)
long_exit blocks true (Perhaps n) site t e = let same : t ≡ first_of blocks n = cc in (n, refl, same)
long_exit blocks false (Perhaps n) site t e = absurd cc
long_exit blocks long (Always n) site t e = absurd cc
long_exit blocks long Onward true t e = absurd cc
long_exit blocks long Onward false t e = absurd cc
long_exit blocks long Final true t e = absurd cc
long_exit blocks long Final false t e = absurd cc

long_of : (blocks : List Block) (long : Bool) (row : Row) (t : ℕ) → Long t ≡ row_span blocks long row → IsLongForm blocks long row t
long_of blocks long row t e =
    let h = long_exit blocks long (row_exit row) (has_site row) t e in record { block = h.0; form = h.1; target = h.2 }

pub one_word : (l : Layout) (p : Pos) (a : ℕ) (i : Instruction) (k : Option ℕ) (s : Span) → s ≡ span_of l.framed.blocks (l.long p) (Code i k) →
    (s ≡ OneWord) ⊎ ((t : ℕ) × (s ≡ Short t)) → a ≡ address_in l p → word_if (operation_at l a i) ≡ kind_words l p (Code i k)
one_word l p a i k s e is at =
    ap (λ (x : ℕ). word_if (operation_at l x i)) at ∙ sym (ap (form_words l (address_in l p) i) (one_of l.framed.blocks (l.long p) (row_of i) s e is))

pub long_words : (l : Layout) (p : Pos) (a b : ℕ) (i : Instruction) (k : Option ℕ) (t : ℕ) → Long t ≡ span_of l.framed.blocks (l.long p) (Code i k) →
    a ≡ address_in l p → ((n : ℕ) → t ≡ first_of l.framed.blocks n → b ≡ start_of l n) →
    word_if (skip_operation i) ++ word_if (jump_by (pos b -ℤ pos (a + 4))) ≡ kind_words l p (Code i k)
long_words l p a b i k t e at to =
    let is = long_of l.framed.blocks (l.long p) (row_of i) t e in
    (λ j. word_if (skip_operation i) ++ word_if (jump_by (pos (to is.block is.target j) -ℤ pos (at j + 4))))
    ∙ sym (ap (form_words l (address_in l p) i) is.form)

-- ---- entries by what stands there

call_exit : (blocks : List Block) (long : Bool) (e : Exit) (site : Bool) → CallSite ≡ exit_span blocks long e site → exit_form long e site ≡ rule.CallSite
call_exit blocks true (Perhaps n) site e = absurd cc
call_exit blocks false (Perhaps n) site e = absurd cc
call_exit blocks long (Always n) site e = absurd cc
call_exit blocks long Onward true e = refl
call_exit blocks long Onward false e = absurd cc
call_exit blocks long Final true e = refl
call_exit blocks long Final false e = absurd cc

call_of : (blocks : List Block) (long : Bool) (row : Row) → CallSite ≡ row_span blocks long row → row_form long row ≡ rule.CallSite
call_of blocks long row e = call_exit blocks long (row_exit row) (has_site row) e

-- the words of a site
pub words_of_site : (l : Layout) (p : Pos) (i : Instruction) (k : Option ℕ) → CallSite ≡ span_of l.framed.blocks (l.long p) (Code i k) →
    site_words (row_of i) ≡ kind_words l p (Code i k)
words_of_site l p i k e = sym (ap (form_words l (address_in l p) i) (call_of l.framed.blocks (l.long p) (row_of i) e))

one_kind : (blocks : List Block) (long : Bool) (kind : ItemKind) (s : Span) → s ≡ span_of blocks long kind → (s ≡ OneWord) ⊎ ((t : ℕ) × (s ≡ Short t)) →
    form_of long kind ≡ rule.OneWord
one_kind blocks long (Code i k) s e is = one_of blocks long (row_of i) s e is
one_kind blocks long (Mark v m) s e (inl is) = absurd cc
one_kind blocks long (Mark v m) s e (inr is) = let f : s ≡ Short is.0 = is.1 in absurd cc
one_kind blocks long (Phi p k) s e (inl is) = absurd cc
one_kind blocks long (Phi p k) s e (inr is) = let f : s ≡ Short is.0 = is.1 in absurd cc

call_kind : (blocks : List Block) (long : Bool) (kind : ItemKind) → CallSite ≡ span_of blocks long kind → form_of long kind ≡ rule.CallSite
call_kind blocks long (Code i k) e = call_of blocks long (row_of i) e
call_kind blocks long (Mark v m) e = absurd cc
call_kind blocks long (Phi p k) e = absurd cc

exit_something : (blocks : List Block) (long : Bool) (e : Exit) (site : Bool) → Nothing ≡ exit_span blocks long e site → ⊥
exit_something blocks true (Perhaps n) site e = cc
exit_something blocks false (Perhaps n) site e = cc
exit_something blocks long (Always n) site e = cc
exit_something blocks long Onward true e = cc
exit_something blocks long Onward false e = cc
exit_something blocks long Final true e = cc
exit_something blocks long Final false e = cc

row_something : (blocks : List Block) (long : Bool) (row : Row) → Nothing ≡ row_span blocks long row → ⊥
row_something blocks long row e = exit_something blocks long (row_exit row) (has_site row) e

none_kind : (blocks : List Block) (long : Bool) (kind : ItemKind) → Nothing ≡ span_of blocks long kind → form_of long kind ≡ rule.Nothing
none_kind blocks long (Code i k) e = absurd (row_something blocks long (row_of i) e)
none_kind blocks long (Mark v m) e = refl
none_kind blocks long (Phi p k) e = refl

pub one_entry : (l : Layout) (s : Site) (a : ℕ) (x : Span) → x ≡ site_span l.framed.blocks l.long s → (x ≡ OneWord) ⊎ ((t : ℕ) × (x ≡ Short t)) →
    a ≡ address_in l s.point →
    entry a 4 s.item.origin s.point false ∷ [] ≡ entries_at l s
one_entry l s a x e is at =
    ap (λ (y : ℕ). entry y 4 s.item.origin s.point false ∷ []) at
    ∙ sym (ap (form_entries (address_in l s.point) s.item.origin s.point) (one_kind l.framed.blocks (l.long s.point) s.item.kind x e is))

pub call_entry : (l : Layout) (s : Site) (a : ℕ) → CallSite ≡ site_span l.framed.blocks l.long s → a ≡ address_in l s.point →
    entry a 8 s.item.origin s.point true ∷ [] ≡ entries_at l s
call_entry l s a e at =
    ap (λ (y : ℕ). entry y 8 s.item.origin s.point true ∷ []) at
    ∙ sym (ap (form_entries (address_in l s.point) s.item.origin s.point) (call_kind l.framed.blocks (l.long s.point) s.item.kind e))

pub no_entry : (l : Layout) (s : Site) → Nothing ≡ site_span l.framed.blocks l.long s → [] ≡ entries_at l s
no_entry l s e = sym (ap (form_entries (address_in l s.point) s.item.origin s.point) (none_kind l.framed.blocks (l.long s.point) s.item.kind e))

long_kind : (blocks : List Block) (long : Bool) (kind : ItemKind) (t : ℕ) → Long t ≡ span_of blocks long kind →
    (n : ℕ) × (form_of long kind ≡ rule.LongBranch n)
long_kind blocks long (Code i k) t e = let is = long_of blocks long (row_of i) t e in (is.block, is.form)
long_kind blocks long (Mark v m) t e = absurd cc
long_kind blocks long (Phi p k) t e = absurd cc

pub long_entries : (l : Layout) (s : Site) (a t : ℕ) → Long t ≡ site_span l.framed.blocks l.long s → a ≡ address_in l s.point →
    entry a 4 (added_before s.item.origin) s.point false ∷ entry (a + 4) 4 s.item.origin s.point false ∷ [] ≡ entries_at l s
long_entries l s a t e at =
    ap (λ (y : ℕ). entry y 4 (added_before s.item.origin) s.point false ∷ entry (y + 4) 4 s.item.origin s.point false ∷ []) at
    ∙ sym (ap (form_entries (address_in l s.point) s.item.origin s.point) (let f = long_kind l.framed.blocks (l.long s.point) s.item.kind t e in f.1))

-- ---- the loops

sites_in_more : (b m : ℕ) (items : List Item) (k j : ℕ) (i : Item) → k < length items → i ≡ get_or items k i → j ≡ m + k →
    sites_in b m (take (k + 1) items) ≡ sites_in b m (take k items) ++ record { point = pos_in b j; item = i } ∷ []
sites_in_more b m [] k j i lt is e = absurd (omega arith)
sites_in_more b m (x ∷ items) zero j i lt is e =
    let same : j ≡ m = omega arith in rw same (ap (λ (y : Item). record { point = pos_in b m; item = y } ∷ []) (sym is))
sites_in_more b m (x ∷ items) (suc k) j i lt is e =
    let front : take (suc k + 1) (x ∷ items) ≡ x ∷ take (k + 1) items = let n : suc k + 1 ≡ suc (k + 1) = omega arith in rw n refl in
    rw front (ap (λ (t : List Site). record { point = pos_in b m; item = x } ∷ t) (sites_in_more b (suc m) items k j i (omega arith) is (omega arith)))

mapped_one : {A : Type 0} (f : Site → List A) (xs : List Site) (s : Site) → flat_map f (xs ++ s ∷ []) ≡ flat_map f xs ++ f s
mapped_one f xs s = flat_map-append f xs (s ∷ []) ∙ ap (λ t. flat_map f xs ++ t) (append-nil (f s))

pub block_turn : {A : Type 0} (f : Site → List A) (b : ℕ) (items : List Item) (k : ℕ) (i : Item) (start acc new : List A) → k < length items →
    i ≡ get_or items k i →
    acc ≡ start ++ flat_map f (sites_in b 0 (take k items)) → new ≡ acc ++ f (record { point = pos_in b k; item = i }) →
    new ≡ start ++ flat_map f (sites_in b 0 (take (k + 1) items))
block_turn f b items k i start acc new lt is e turn =
    let s : Site = record { point = pos_in b k; item = i } in
    turn ∙ ap (λ t. t ++ f s) e ∙ append_assoc start (flat_map f (sites_in b 0 (take k items))) (f s)
    ∙ ap (λ t. start ++ t) (sym (mapped_one f (sites_in b 0 (take k items)) s) ∙ ap (flat_map f) (sym (sites_in_more b 0 items k k i lt is (omega arith))))

pub all_turn : {A : Type 0} (f : Site → List A) (blocks : List Block) (k : ℕ) (b : Block) (acc new : List A) → k < length blocks → b ≡ get_or blocks k b →
    acc ≡ flat_map f (sites_from 0 (take k blocks)) → new ≡ acc ++ flat_map f (sites_in k 0 b.items) → new ≡ flat_map f (sites_from 0 (take (k + 1) blocks))
all_turn f blocks k b acc new lt is e turn =
    turn ∙ ap (λ t. t ++ flat_map f (sites_in k 0 b.items)) e
    ∙ sym (ap (flat_map f) (sites_more 0 blocks k k b lt is (omega arith)) ∙ flat_map-append f (sites_from 0 (take k blocks)) (sites_in k 0 b.items))

-- ---- where a block's items stand in a plan

got : (items : List Item) (n : ℕ) (i : Item) → n < length items → i ≡ get_or items n i → slice_get items n ≡ Some i
got [] n i lt is = absurd (omega arith)
got (x ∷ items) zero i lt is = ap (λ (y : Item). Some y) (sym is)
got (x ∷ items) (suc n) i lt is = got items n i (omega arith) is

at_index : (blocks : List Block) (k : ℕ) (b : Block) → k < length blocks → b ≡ get_or blocks k b → items_at blocks k ≡ b.items
at_index [] k b lt is = absurd (omega arith)
at_index (x ∷ blocks) zero b lt is = ap (λ (y : Block). y.items) (sym is)
at_index (x ∷ blocks) (suc k) b lt is = at_index blocks k b (omega arith) is

span_got : (f : Site → Span) (sites : List Site) (k : ℕ) (s : Site) → slice_get sites k ≡ Some s → get_or (map f sites) k Nothing ≡ f s
span_got f [] k s e = absurd cc
span_got f (x ∷ sites) zero s e = let same : x ≡ s = cc in ap f same
span_got f (x ∷ sites) (suc k) s e = span_got f sites k s e

pub all_stand : (l : Layout) (p : ItemLayout) → IsPlan l p → (k : ℕ) (b : Block) → k < length l.framed.blocks → b ≡ get_or l.framed.blocks k b →
    AllStandAt l p (slice_index p.table.firsts k) k b.items
all_stand l p is k b lt at n i within item =
    let blocks = l.framed.blocks in
    let first : slice_index p.table.firsts k ≡ items_count (take k blocks) =
    ap (λ (fs : List ℕ). slice_index fs k) is.table.firsts ∙ first_at 0 k blocks (omega arith) ∙ (let z : 0 + items_count (take k blocks) ≡ items_count (take k
    blocks) = omega arith in z) in
    let index : slice_index p.table.firsts k + n ≡ items_count (take k blocks) + n = omega (arith, first) in
    let here : slice_get (items_at blocks k) n ≡ Some i = ap (λ (xs : List Item). slice_get xs n) (at_index blocks k b lt at) ∙ got b.items n i within item in
    let site = site_from 0 blocks k n (items_count (take k blocks) + n) k i here refl (omega arith) in
    record {
      span = (λ j. get_or (is.spans j) (index j) Nothing) ∙ span_got (site_span blocks l.long) (sites_from 0 blocks) (items_count (take k blocks) + n) _ site;
      address = (λ j. is.base j + slice_index (is.sums j) (index j)) ∙ ap (λ spans. l.base + slice_index (sums_from 0 spans) (items_count (take k blocks) + n))
          is.spans
          ∙ ap (λ (x : ℕ). l.base + x) (sum_here l.long blocks k n i here);
    }

-- ---- what holds of each so far

last_or : (j k : ℕ) → j < k + 1 → (j < k) ⊎ (j ≡ k)
last_or zero zero lt = inr (omega arith)
last_or zero (suc k) lt = inl (omega arith)
last_or (suc j) zero lt = absurd (omega arith)
last_or (suc j) (suc k) lt = elim (last_or j k (omega arith)) as (λ z. (suc j < suc k) ⊎ (suc j ≡ suc k)) [
  | inl h ↦ inl (omega arith)
  | inr h ↦ inr (omega
      arith)
]

pub all_more : {A : Type 0} (P : A → Type 0) (xs : List A) (k : ℕ) (x : A) → k < length xs → x ≡ get_or xs k x →
    ((j : ℕ) (d : A) → j < k → P (get_or xs j d)) → P x → (j : ℕ) (d : A) → j < k + 1 → P (get_or xs j d)
all_more P xs k x lt is below here j d less = elim (last_or j k less) as (λ z. P (get_or xs j d)) [
  | inl l ↦ below j d l
  | inr e ↦ let same : x ≡ get_or xs j d = get_or_read xs k x lt is d ∙ ap (λ n. get_or xs n d) (sym e) in subst P same here
]
