-- What a line of an item says of the item, where nothing refuses it.
use Rattle.read_item.proofs.Named.{code_is_read, address_is_linked}
use Rattle.std.proofs.Common.{◌≡◌, ◌⊎◌, inl, inr, ℕ, Bool, true, false, cond, not, ◌&&◌, ◌||◌, List, [], Option, Some, None, Result, Ok, Err}
use Rattle.std.proofs.Common.{refl, sym, ap, subst, ◌∙◌}
use Rattle.std.specs.List.{list_any, zip}
use Rattle.std.proofs.lemmas.Bool.{or_parts, and_parts, not-false, false≢true}
use Rattle.read_refusal.specs.declared.kind.RefusalKind.{RefusalKind}
use Rattle.read_refusal.specs.declared.kind.RefusalKind.TheVariants as kinds
use Rattle.rv64_instr.specs.declared.op.Op.{Op}
use Rattle.rv64_instr.specs.declared.operand.Operand.{Operand}
use Rattle.rv64_instr.specs.Form.{has_form}
use Rattle.rv64_instr.specs.Instruction.{Instruction, is_load}
use Rattle.read_metadata.specs.Maps.{Maps}
use Rattle.mir_func.specs.declared.item.ItemKind.{ItemKind}
use Rattle.mir_func.specs.declared.item.ItemKind.TheVariants.{Code}
use Rattle.read_line.specs.declared.form.ItemForm.{ItemForm}
use Rattle.read_item.specs.declared.judged.Judged.TheVariants as judged_as
use Rattle.read_item.specs.declared.judged.JudgedItem.{JudgedItem}
use Rattle.read_item.specs.declared.opcode.DebugOpcode.{DebugOpcode}
use Rattle.read_item.specs.declared.opcode.Opcode.{Opcode}
use Rattle.read_item.specs.declared.opcode.Opcode.TheVariants as opcodes
use Rattle.read_item.specs.Opcode.{opcode_of, returning, is_read}
use Rattle.read_item.specs.Address.{address_operands, halves_in, address_rules, halves_unless, address_of}
use Rattle.read_item.specs.Code.{refusal_by, operands_of, places_of, fits, is_refused_virtual, is_refused_operand, is_pointer, is_pointer_operand}
use Rattle.read_item.specs.Code.{has_implicit_callee, begins_with_virtual, names_refused}
use Rattle.read_item.specs.Code.{is_misplaced, is_long, code_rules}
use Rattle.read_item.specs.Code.{instruction, unless_refused, code_of}
use Rattle.read_item.specs.Debug.{debug_kind, is_empty, debug_rules, kind_unless, debug_of}
use Rattle.read_item.specs.declared.judged.Judged.{Judged}
use Rattle.read_item.specs.Judge.{entries_of, numbered, item_of, two_of, passed_if, judged_by, judged}
use Rattle.std.specs.Prelude.{is_none}

-- ---- rules

kept : (b : Bool) (k : RefusalKind) (rest : Option RefusalKind) → cond b (Some k) rest ≡ None → (b ≡ false) × (rest ≡ None)
kept true k rest e = absurd cc
kept false k rest e = (refl, e)

-- all of five rules are kept
five_kept : (a b c d f : Bool) (j k l m n : RefusalKind) →
    cond a (Some j) (cond b (Some k) (cond c (Some l) (cond d (Some m) (cond f (Some n) None)))) ≡ None →
    (a ≡ false) × (b ≡ false) × (c ≡ false) × (d ≡ false) × (f ≡ false)
five_kept a b c d f j k l m n e =
    let one = kept a j (cond b (Some k) (cond c (Some l) (cond d (Some m) (cond f (Some n) None)))) e in
    let two = kept b k (cond c (Some l) (cond d (Some m) (cond f (Some n) None))) one.1 in
    let three = kept c l (cond d (Some m) (cond f (Some n) None)) two.1 in
    let four = kept d m (cond f (Some n) None) three.1 in
    (one.0, two.0, three.0, four.0, (kept f n None four.1).0)

-- ---- code

-- a line of code that no rule refuses, and its instruction
pub record IsCodeLine (op : Op) (line : ItemForm) (instr : Instruction) : Type 0 where
  pub op_is : instr.op ≡ op
  pub operands : operands_of op line ≡ Some instr.operands
  pub form : has_form instr.op instr.operands ≡ true
  pub within : line.exceeds ≡ false
  pub set_known : list_any is_refused_virtual line.definitions ≡ false
  pub used_known : list_any is_refused_operand line.operands ≡ false
  pub set_others : list_any is_pointer line.definitions ≡ false
  pub used_others : list_any is_pointer_operand line.operands ≡ false
  pub in_place : list_any is_misplaced (zip (places_of op line) line.operands) ≡ false
  pub short : is_long line ≡ false
  pub volatile : instr.volatile ≡ true → line.volatile ≡ true

code_line_by : (op : Op) (line : ItemForm) (instr : Instruction) (operands : Option (List Operand)) → operands_of op line ≡ operands → fits op operands ≡ true →
    instruction op line.volatile operands ≡ instr → line.exceeds ≡ false →
    (list_any is_refused_virtual line.definitions || list_any is_refused_operand line.operands) ≡ false →
    (list_any is_pointer line.definitions || list_any is_pointer_operand line.operands) ≡ false →
    list_any is_misplaced (zip (places_of op line) line.operands) ≡ false → is_long line ≡ false → IsCodeLine op line instr
code_line_by op line instr None is fit made within known others in_place short = absurd cc
code_line_by op line instr (Some os) is fit made within known others in_place short = record {
  op_is = ap (λ (i : Instruction). i.op) (sym made);
  operands = is ∙ ap (λ (i : Instruction). Some i.operands) made;
  form = subst (λ (i : Instruction). has_form i.op i.operands ≡ true) made fit;
  within = within;
  set_known = (or_parts (list_any is_refused_virtual line.definitions) (list_any is_refused_operand line.operands) known).0;
  used_known = (or_parts (list_any is_refused_virtual line.definitions) (list_any is_refused_operand line.operands) known).1;
  set_others = (or_parts (list_any is_pointer line.definitions) (list_any is_pointer_operand line.operands) others).0;
  used_others = (or_parts (list_any is_pointer line.definitions) (list_any is_pointer_operand line.operands) others).1;
  in_place = in_place;
  short = short;
  volatile = λ e. (and_parts line.volatile (is_load op) (ap (λ (i : Instruction). i.volatile) made ∙ e)).0;
}

unless_refused_ok : {A : Type 0} (refusal : Option RefusalKind) (a b : A) → unless_refused refusal a ≡ Ok b → (refusal ≡ None) × (a ≡ b)
unless_refused_ok None a b e = (refl, cc)
unless_refused_ok (Some kind) a b e = absurd cc

pub code_line : (op : Op) (line : ItemForm) (instr : Instruction) → code_of op line ≡ Ok instr → IsCodeLine op line instr
unfolding code_of
code_line op line instr e =
    let read = unless_refused_ok (refusal_by (code_rules op line)) (instruction op line.volatile (operands_of op line)) instr e in
    let rules = five_kept (not (fits op (operands_of op line)) || line.exceeds) (names_refused op line)
    (list_any is_pointer line.definitions || list_any is_pointer_operand line.operands) (list_any is_misplaced (zip (places_of op line) line.operands))
    (is_long line) kinds.BadOperands kinds.VirtualRegister kinds.StackPointerUse kinds.StackObject kinds.TooMany read.0 in
    let parts = or_parts (not (fits op (operands_of op line))) line.exceeds rules.0 in
    code_line_by op line instr (operands_of op line) refl (not-false (fits op (operands_of op line)) parts.0) read.1 parts.1
    (or_parts (list_any is_refused_virtual line.definitions || list_any is_refused_operand line.operands)
    (has_implicit_callee op && begins_with_virtual line.operands) rules.1).0 rules.2 rules.3 rules.4

-- ---- debug lines

-- a debug line that no rule refuses, and its item
pub record IsDebugLine (op : DebugOpcode) (meta : Maps) (line : ItemForm) (kind : ItemKind) : Type 0 where
  pub kind_is : debug_kind op meta line ≡ Some kind
  pub within : line.exceeds ≡ false

kind_unless_ok : (refusal : Option RefusalKind) (kind : Option ItemKind) (k : ItemKind) → kind_unless refusal kind ≡ Ok k → (refusal ≡ None) × (kind ≡ Some k)
kind_unless_ok (Some refusal) kind k e = absurd cc
kind_unless_ok None (Some kind) k e = (refl, cc)
kind_unless_ok None None k e = absurd cc

pub debug_line : (op : DebugOpcode) (meta : Maps) (line : ItemForm) (kind : ItemKind) → debug_of op meta line ≡ Ok kind → IsDebugLine op meta line kind
unfolding debug_of
debug_line op meta line kind e =
    let read = kind_unless_ok (refusal_by (debug_rules (debug_kind op meta line) line)) (debug_kind op meta line) kind e in
    let rules = five_kept line.exceeds (not (is_empty line.definitions)) (not (is_none line.number)) (is_none (debug_kind op meta line)) (is_long line)
    kinds.BadOperands kinds.BadOperands kinds.BadOperands kinds.BadOperands kinds.TooMany read.0 in
    record { kind_is = read.1; within = rules.0 }

-- ---- two instructions of an address

-- a line of `PseudoMovAddr` that no rule refuses, and its instructions
pub record IsAddressLine (line : ItemForm) (p : Instruction × Instruction) : Type 0 where
  pub halves : halves_in (address_operands line) ≡ Some p
  pub within : line.exceeds ≡ false
  pub set_others : list_any is_pointer line.definitions ≡ false
  pub used_others : list_any is_pointer_operand line.operands ≡ false
  pub short : is_long line ≡ false

halves_unless_ok : (refusal : Option RefusalKind) (halves : Option (Instruction × Instruction)) (p : Instruction × Instruction) →
    halves_unless refusal halves ≡ Ok p → (refusal ≡ None) × (halves ≡ Some p)
halves_unless_ok (Some refusal) halves p e = absurd cc
halves_unless_ok None (Some halves) p e = (refl, cc)
halves_unless_ok None None p e = absurd cc

-- all of four rules are kept
four_kept : (a b c d : Bool) (j k l m : RefusalKind) → cond a (Some j) (cond b (Some k) (cond c (Some l) (cond d (Some m) None))) ≡ None →
    (a ≡ false) × (b ≡ false) × (c ≡ false) × (d ≡ false)
four_kept a b c d j k l m e =
    let one = kept a j (cond b (Some k) (cond c (Some l) (cond d (Some m) None))) e in
    let two = kept b k (cond c (Some l) (cond d (Some m) None)) one.1 in
    let three = kept c l (cond d (Some m) None) two.1 in
    (one.0, two.0, three.0, (kept d m None three.1).0)

pub address_line : (line : ItemForm) (p : Instruction × Instruction) → address_of line ≡ Ok p → IsAddressLine line p
unfolding address_of
address_line line p e =
    let read = halves_unless_ok (refusal_by (address_rules line)) (halves_in (address_operands line)) p e in
    let rules = four_kept (line.exceeds || is_none (halves_in (address_operands line)))
    (list_any is_refused_virtual line.definitions || list_any is_refused_operand line.operands)
    (list_any is_pointer line.definitions || list_any is_pointer_operand line.operands) (is_long line) kinds.BadOperands kinds.VirtualRegister
    kinds.StackPointerUse kinds.TooMany read.0 in
    let others = or_parts (list_any is_pointer line.definitions) (list_any is_pointer_operand line.operands) rules.2 in
    record {
      halves = read.1;
      within = (or_parts line.exceeds (is_none (halves_in (address_operands line))) rules.0).0;
      set_others = others.0;
      used_others = others.1;
      short = rules.3;
    }

-- ---- items

-- an item that names these stack entries is of a line of code, of a debug line, or one of the two of a line of `PseudoMovAddr`
pub data IsItemLine (linked : Bool) (meta : Maps) (line : ItemForm) (entries : List ℕ) : ItemKind → Type 0 where
  of_code : {op : Op} {instr : Instruction} → entries ≡ entries_of line.operands → is_read linked op ≡ true → IsCodeLine op line instr →
      IsItemLine linked meta line entries (Code instr line.number)
  of_debug : {op : DebugOpcode} {kind : ItemKind} → entries ≡ entries_of line.operands → IsDebugLine op meta line kind →
      IsItemLine linked meta line entries kind
  of_upper : {p : Instruction × Instruction} → linked ≡ true → IsAddressLine line p → IsItemLine linked meta line entries (Code p.0 None)
  of_lower : {p : Instruction × Instruction} → linked ≡ true → IsAddressLine line p → IsItemLine linked meta line entries (Code p.1 line.number)

-- an item is the one, or one of the two, that a line is judged to be
abbrev pub Judges : Result Judged RefusalKind → JudgedItem → Type 0
Judges (Ok judged_as.Passed) j = ⊥
Judges (Ok (judged_as.Item i)) j = i ≡ j
Judges (Ok (judged_as.Two first second)) j = (first ≡ j) ⊎ (second ≡ j)
Judges (Err refusal) j = ⊥

pub record IsJudged (linked : Bool) (meta : Maps) (line : ItemForm) (j : JudgedItem) : Type 0 where
  pub line_is : IsItemLine linked meta line j.entries j.kind
  pub loc : j.loc ≡ line.loc

code_item : (linked : Bool) (meta : Maps) (op : Op) (line : ItemForm) (j : JudgedItem) (read : Result Instruction RefusalKind) → code_of op line ≡ read →
    is_read linked op ≡ true → Judges (item_of line (numbered line.number read)) j → IsJudged linked meta line j
code_item linked meta op line j (Ok instr) is may said =
    subst (IsJudged linked meta line) said (record { line_is = of_code refl may (code_line op line instr is); loc = refl })
code_item linked meta op line j (Err refusal) is may said = absurd said

debug_item : (linked : Bool) (meta : Maps) (op : DebugOpcode) (line : ItemForm) (j : JudgedItem) (read : Result ItemKind RefusalKind) →
    debug_of op meta line ≡ read → Judges (item_of line read) j → IsJudged linked meta line j
debug_item linked meta op line j (Ok kind) is said =
    subst (IsJudged linked meta line) said (record { line_is = of_debug refl (debug_line op meta line kind is); loc = refl })
debug_item linked meta op line j (Err refusal) is said = absurd said

address_item : (linked : Bool) (meta : Maps) (line : ItemForm) (j : JudgedItem) (read : Result (Instruction × Instruction) RefusalKind) →
    address_of line ≡ read → linked ≡ true → Judges (two_of line read) j → IsJudged linked meta line j
address_item linked meta line j (Ok p) is may said =
    let here = address_line line p is in
    elim said [
      | inl first ↦ subst (IsJudged linked meta line) first (record { line_is = of_upper may here; loc = refl })
      | inr second ↦ subst (IsJudged linked meta line) second (record { line_is = of_lower may here; loc = refl })
    ]
address_item linked meta line j (Err refusal) is may said = absurd said

no_item : (b : Bool) (j : JudgedItem) → Judges (passed_if b) j → ⊥
no_item true j said = said
no_item false j said = said

judged_line_by : (linked : Bool) (meta : Maps) (line : ItemForm) (j : JudgedItem) (op : Option Opcode) →
    ((x : Op) → op ≡ Some (opcodes.Code x) → is_read linked (returning linked line.no_return x) ≡ true) → (op ≡ Some opcodes.Address → linked ≡ true) →
    Judges (judged_by linked op meta line) j → IsJudged linked meta line j
judged_line_by linked meta line j None may there said = absurd said
judged_line_by linked meta line j (Some (opcodes.Code op)) may there said =
    code_item linked meta (returning linked line.no_return op) line j (code_of (returning linked line.no_return op) line) refl (may op refl) said
judged_line_by linked meta line j (Some opcodes.Address) may there said = address_item linked meta line j (address_of line) refl (there refl) said
judged_line_by linked meta line j (Some (opcodes.Debug op)) may there said = debug_item linked meta op line j (debug_of op meta line) refl said
judged_line_by linked meta line j (Some opcodes.Label) may there said = absurd (no_item _ j said)
judged_line_by linked meta line j (Some opcodes.Pseudo) may there said = absurd said
judged_line_by linked meta line j (Some opcodes.CallFrame) may there said = absurd (no_item _ j said)

-- what a line says of an item that it is judged to be
pub judged_line : (linked : Bool) (meta : Maps) (line : ItemForm) (j : JudgedItem) → Judges (judged linked meta line) j → IsJudged linked meta line j
unfolding judged
judged_line linked meta line j said =
    judged_line_by linked meta line j (opcode_of linked line.opcode) (λ op is. code_is_read linked line.no_return line.opcode op is)
    (λ is. address_is_linked linked line.opcode is) said

-- ---- lines that are two instructions

no_two_items : (line : ItemForm) (first second : JudgedItem) (read : Result ItemKind RefusalKind) → item_of line read ≡ Ok (judged_as.Two first second) → ⊥
no_two_items line first second (Ok kind) e = cc
no_two_items line first second (Err refusal) e = cc

none_passed : (first second : JudgedItem) (b : Bool) → passed_if b ≡ Ok (judged_as.Two first second) → ⊥
none_passed first second true e = cc
none_passed first second false e = cc

two_by : (linked : Bool) (meta : Maps) (line : ItemForm) (first second : JudgedItem) (op : Option Opcode) →
    (op ≡ Some opcodes.Address → linked ≡ true) → judged_by linked op meta line ≡ Ok (judged_as.Two first second) → linked ≡ true
two_by linked meta line first second None there e = absurd cc
two_by linked meta line first second (Some (opcodes.Code op)) there e =
    absurd (no_two_items line first second (numbered line.number (code_of (returning linked line.no_return op) line)) e)
two_by linked meta line first second (Some opcodes.Address) there e = there refl
two_by linked meta line first second (Some (opcodes.Debug op)) there e = absurd (no_two_items line first second (debug_of op meta line) e)
two_by linked meta line first second (Some opcodes.Label) there e = absurd (none_passed first second _ e)
two_by linked meta line first second (Some opcodes.Pseudo) there e = absurd cc
two_by linked meta line first second (Some opcodes.CallFrame) there e = absurd (none_passed first second _ e)

-- the linked language alone has them
pub two_is_linked : (linked : Bool) (meta : Maps) (line : ItemForm) (first second : JudgedItem) →
    judged linked meta line ≡ Ok (judged_as.Two first second) → linked ≡ true
unfolding judged
two_is_linked linked meta line first second e =
    two_by linked meta line first second (opcode_of linked line.opcode) (λ is. address_is_linked linked line.opcode is) e

-- elsewhere an item is the only one of its line
pub judges_one : (meta : Maps) (line : ItemForm) (j : JudgedItem) → Judges (judged false meta line) j → judged false meta line ≡ Ok (judged_as.Item j)
judges_one meta line j said = by (judged false meta line) refl said where
  by : (read : Result Judged RefusalKind) → judged false meta line ≡ read → Judges read j → read ≡ Ok (judged_as.Item j)
  by (Ok judged_as.Passed) is said = absurd said
  by (Ok (judged_as.Item i)) is said = ap (λ (x : JudgedItem). Ok (judged_as.Item x)) said
  by (Ok (judged_as.Two first second)) is said = absurd (false≢true (two_is_linked false meta line first second is))
  by (Err refusal) is said = absurd said
