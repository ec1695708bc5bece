-- The word of code with a half of an address, when the program is linked, does what the code does.
use Rattle.std.proofs.Common.{◌≡◌, ℕ, ◌+◌, ◌-◌, ◌*◌, ◌/◌, ◌%◌, ◌^◌, ◌⊎◌, inl, inr, ℤ, pos, negsuc, Bool, true, false, cond, List, [], ◌∷◌}
use Rattle.std.proofs.Common.{Option, Some, None, refl, sym, ap, ◌∙◌, subst, le-leb, arith}
use Rattle.std.specs.Prelude.{IfSome, IsTrue, ◌&&◌, option_and_then, fold}
use Rattle.rv64_instr.specs.Instruction.{Instruction}
use Rattle.rv64_instr.specs.declared.op.Op.{Op}
use Rattle.rv64_instr.specs.declared.op.Op.TheVariants.{Registers, Immediate, Lui, Branch, Load, Store}
use Rattle.rv64_instr.specs.declared.op.Op.TheVariants.{Copy, PseudoBr, PseudoRet, PseudoCallIndirect, PseudoTailIndirect, NoReturnCallIndirect}
use Rattle.rv64_instr.specs.declared.op.LoadOp.{LoadOp}
use Rattle.rv64_instr.specs.declared.op.LoadOp.TheVariants.{Lb}
use Rattle.rv64_instr.specs.declared.op.StoreOp.{StoreOp}
use Rattle.rv64_instr.specs.declared.op.StoreOp.TheVariants.{Sb}
use Rattle.rv64_instr.specs.declared.operand.Operand.{Operand}
use Rattle.rv64_instr.specs.declared.operand.Operand.TheVariants.{Def, Use, Imm, Slot, Object, Part, Block}
use Rattle.rv64_instr.specs.declared.symbol.Symbol.{Symbol}
use Rattle.rv64_instr.specs.declared.symbol.LinkedAddress.{LinkedAddress}
use Rattle.rv64_instr.specs.declared.symbol.Half.{Half}
use Rattle.rv64_instr.specs.declared.symbol.Half.TheVariants.{Upper, Lower}
use Rattle.rv64_instr.specs.Arithmetic.{word}
use Rattle.rv64_instr.specs.Form.{is_within}
use Rattle.rv64_instr.specs.Linked.{half_immediate, linked_address, linked_immediate}
use Rattle.rv64_instr.specs.LocationEffects.{part_named, part_address, part_half}
use Rattle.rv64_instr.specs.Row.{Row, Sets, Loads, Stores, Content, Number, PartOf, PointedBy, ObjectAt, BesidePart, row_of, row_by, implicit_uses}
use Rattle.rv64_instr.specs.View.{Class, class_of}
use Rattle.rv64_instr.specs.View as class
use Rattle.rv64_instr.proofs.Halves.{number_part, object_part, move_part, lower_by, below_zero, held_tail_part, held_gone_part}
use Rattle.rv64_word.specs.declared.format.EncodingField.{EncodingField}
use Rattle.rv64_word.specs.declared.format.EncodingField.TheVariants.{Opcode, Rd, Funct3, Rs1, Rs2, Imm as Immediate12}
use Rattle.rv64_word.specs.declared.format.Format.{Format}
use Rattle.rv64_word.specs.declared.format.Format.TheVariants as format
use Rattle.rv64_word.specs.declared.machine_op.MachineOp.{MachineOp}
use Rattle.rv64_word.specs.declared.format.Slice.{Slice}
use Rattle.rv64_word.specs.Format.{slices_of, bits_of, spelled}
use Rattle.rv64_word.specs.Linked.{refilled, with_immediate, part_format, immediate_by, immediate_of, linked_by, linked_word}
use Rattle.rv64_word.specs.Lowering.{fields_of, in_range, lowered}
use Rattle.rv64_word.specs.MachineOp.{value_of, word_of, fits, is_encodable}
use Rattle.rv64_word.specs.MachineRow.{Does, machine_row, placed, at_offset}
use Rattle.rv64_word.specs.Operation.{encoding_of, load_encoding, store_encoding}
use Rattle.rv64_word.proofs.Fitting.{fitting, is_fit}
use Rattle.rv64_word.proofs.Reading.{collected, shown-fold}
use Rattle.rv64_word.proofs.Slices.{joined}
use Rattle.rv64_word.proofs.Words.{apart, same, lowered_acts, lowered_fits, ActsAs}

-- the operation with this immediate, where a half of an address is named
abbrev pub linked_op : (symbols : Symbol → ℕ) → Option (Half × LinkedAddress) → MachineOp → MachineOp
linked_op symbols None m = m
linked_op symbols (Some p) m = record m { imm = linked_immediate symbols p.0 p.1 }

-- ---- ranges

both : (a b : Bool) → a ≡ true → b ≡ true → (a && b) ≡ true
both true b e f = f
both false b e f = absurd cc

upper_range : (v : ℕ) → IsTrue (is_within (pos 0) (pos 1048575) (half_immediate Upper v))
unfolding half_immediate
upper_range v =
    let n = (v + 2048) / 4096 % 2 ^ 20 in
    both _ _ (le-leb 0 n (omega arith)) (le-leb n 1048575 (omega arith))

lower_range : (v : ℕ) → IsTrue (is_within (negsuc 2047) (pos 2047) (half_immediate Lower v))
unfolding half_immediate
lower_range v =
    lower_by (λ (z : ℤ). IsTrue (is_within (negsuc 2047) (pos 2047) z)) (v % 4096) (λ lt. le-leb (v % 4096) 2047 (omega (arith, lt)))
    (λ le. ap (is_within (negsuc 2047) (pos 2047)) (below_zero (v % 4096) (4095 - v % 4096) (omega arith))
    ∙ both _ _ (le-leb (4095 - v % 4096) 2047 (omega (arith, le))) refl)

-- ---- the word

-- the formats in which a half of an address stands
pub data IsPartFormat : Format → Type 0 where
  upper : IsPartFormat format.Upper
  immediate : IsPartFormat format.Immediate
  store : IsPartFormat format.Store

other : (v w : EncodingField → ℕ) (field : EncodingField) → (v field ≡ w field) ⊎ (field ≡ Immediate12) → (field ≡ Immediate12 → ⊥) → v field ≡ w field
other v w field (inl e) ne = e
other v w field (inr e) ne = absurd (ne e)

-- each slice has the same bits of both
abbrev AreAlike : List Slice → (x y : EncodingField → ℕ) → Type 0
AreAlike [] x y = Unit {0}
AreAlike (s ∷ rest) x y = (bits_of s (x s.field) ≡ bits_of s (y s.field)) × AreAlike rest x y

alike_fold : (slices : List Slice) (before : ℕ) (x y : EncodingField → ℕ) → AreAlike slices x y → fold (joined x) before slices ≡ fold (joined y) before slices
alike_fold [] before x y h = refl
alike_fold (s ∷ rest) before x y h =
    ap (λ (n : ℕ). fold (joined x) (before * 2 ^ s.width + n) rest) h.0 ∙ alike_fold rest (joined y before s) x y h.1

-- another immediate in a word that was spelled
refills : (f : Format) → IsPartFormat f → (v w : EncodingField → ℕ) → ((field : EncodingField) → (v field ≡ w field) ⊎ (field ≡ Immediate12)) →
    spelled (slices_of f) (refilled f (w Immediate12) (spelled (slices_of f) v)) ≡ spelled (slices_of f) w
refills format.Upper upper v w alike =
    let rd : v Rd ≡ w Rd = other v w Rd (alike Rd) (λ e. cc) in
    let code : v Opcode ≡ w Opcode = other v w Opcode (alike Opcode) (λ e. cc) in
    let back_rd : collected (slices_of format.Upper) Rd v / 1 % 32 ≡ w Rd / 1 % 32 = omega (arith, rd) in
    let back_code : collected (slices_of format.Upper) Opcode v / 1 % 128 ≡ w Opcode / 1 % 128 = omega (arith, code) in
    alike_fold (slices_of format.Upper) 0 (refilled format.Upper (w Immediate12) (spelled (slices_of format.Upper) v)) w (
      refl,
      (
        ap (λ (n : ℕ). n / 1 % 32) (shown-fold v (slices_of format.Upper) 0 Rd) ∙ back_rd,
        (
          ap (λ (n : ℕ). n / 1 % 128) (shown-fold v (slices_of format.Upper) 0 Opcode) ∙ back_code,
          tt,
        ),
      ),
    )
refills format.Immediate immediate v w alike =
    let first : v Rs1 ≡ w Rs1 = other v w Rs1 (alike Rs1) (λ e. cc) in
    let three : v Funct3 ≡ w Funct3 = other v w Funct3 (alike Funct3) (λ e. cc) in
    let rd : v Rd ≡ w Rd = other v w Rd (alike Rd) (λ e. cc) in
    let code : v Opcode ≡ w Opcode = other v w Opcode (alike Opcode) (λ e. cc) in
    let back_first : collected (slices_of format.Immediate) Rs1 v / 1 % 32 ≡ w Rs1 / 1 % 32 = omega (arith, first) in
    let back_three : collected (slices_of format.Immediate) Funct3 v / 1 % 8 ≡ w Funct3 / 1 % 8 = omega (arith, three) in
    let back_rd : collected (slices_of format.Immediate) Rd v / 1 % 32 ≡ w Rd / 1 % 32 = omega (arith, rd) in
    let back_code : collected (slices_of format.Immediate) Opcode v / 1 % 128 ≡ w Opcode / 1 % 128 = omega (arith, code) in
    alike_fold (slices_of format.Immediate) 0 (refilled format.Immediate (w Immediate12) (spelled (slices_of format.Immediate) v)) w (
      refl,
      (
        ap (λ (n : ℕ). n / 1 % 32) (shown-fold v (slices_of format.Immediate) 0 Rs1) ∙ back_first,
        (
          ap (λ (n : ℕ). n / 1 % 8) (shown-fold v (slices_of format.Immediate) 0 Funct3) ∙ back_three,
          (
            ap (λ (n : ℕ). n / 1 % 32) (shown-fold v (slices_of format.Immediate) 0 Rd) ∙ back_rd,
            (
              ap (λ (n : ℕ). n / 1 % 128) (shown-fold v (slices_of format.Immediate) 0 Opcode) ∙ back_code,
              tt,
            ),
          ),
        ),
      ),
    )
refills format.Store store v w alike =
    let second : v Rs2 ≡ w Rs2 = other v w Rs2 (alike Rs2) (λ e. cc) in
    let first : v Rs1 ≡ w Rs1 = other v w Rs1 (alike Rs1) (λ e. cc) in
    let three : v Funct3 ≡ w Funct3 = other v w Funct3 (alike Funct3) (λ e. cc) in
    let code : v Opcode ≡ w Opcode = other v w Opcode (alike Opcode) (λ e. cc) in
    let back_second : collected (slices_of format.Store) Rs2 v / 1 % 32 ≡ w Rs2 / 1 % 32 = omega (arith, second) in
    let back_first : collected (slices_of format.Store) Rs1 v / 1 % 32 ≡ w Rs1 / 1 % 32 = omega (arith, first) in
    let back_three : collected (slices_of format.Store) Funct3 v / 1 % 8 ≡ w Funct3 / 1 % 8 = omega (arith, three) in
    let back_code : collected (slices_of format.Store) Opcode v / 1 % 128 ≡ w Opcode / 1 % 128 = omega (arith, code) in
    alike_fold (slices_of format.Store) 0 (refilled format.Store (w Immediate12) (spelled (slices_of format.Store) v)) w (
      refl,
      (
        ap (λ (n : ℕ). n / 1 % 32) (shown-fold v (slices_of format.Store) 0 Rs2) ∙ back_second,
        (
          ap (λ (n : ℕ). n / 1 % 32) (shown-fold v (slices_of format.Store) 0 Rs1) ∙ back_first,
          (
            ap (λ (n : ℕ). n / 1 % 8) (shown-fold v (slices_of format.Store) 0 Funct3) ∙ back_three,
            (
              refl,
              (
                ap (λ (n : ℕ). n / 1 % 128) (shown-fold v (slices_of format.Store) 0 Opcode) ∙ back_code,
                tt,
              ),
            ),
          ),
        ),
      ),
    )
refills format.Register is v w alike = elim is [ ]
refills format.Shift is v w alike = elim is [ ]
refills format.WordShift is v w alike = elim is [ ]
refills format.Branch is v w alike = elim is [ ]
refills format.Jump is v w alike = elim is [ ]

-- an operation with another immediate has the same other fields
same_fields : (m : MachineOp) (i : ℤ) (field : EncodingField) → (value_of m field ≡ value_of (record m { imm = i }) field) ⊎ (field ≡ Immediate12)
same_fields m i Immediate12 = inr refl
same_fields m i _ = inl refl

relinked : (m : MachineOp) (i : ℤ) (f : Format) → IsPartFormat f → (encoding_of m.op).format ≡ f →
    with_immediate f i (word_of m) ≡ word_of (record m { imm = i })
unfolding with_immediate word_of
relinked m i f is e =
    ap (λ (g : Format). spelled (slices_of f) (refilled f (word i) (spelled (slices_of g) (value_of m)))) e
    ∙ refills f is (value_of m) (value_of (record m { imm = i })) (same_fields m i)
    ∙ sym (ap (λ (g : Format). spelled (slices_of g) (value_of (record m { imm = i }))) e)

-- ---- code with a half of an address

load_format : (o : LoadOp) → (load_encoding o).format ≡ format.Immediate
load_format Lb = refl
load_format _ = refl

store_format : (o : StoreOp) → (store_encoding o).format ≡ format.Store
store_format Sb = refl
store_format _ = refl

-- what is known of the operation of code of a row that names this half of an address
pub record Links (offset : ℤ) (object : ℕ) (row : Row) (half : Half) (m : MachineOp) : Type 0 where
  pub format_is : (encoding_of m.op).format ≡ part_format half (class_of row)
  pub is_part : IsPartFormat (part_format half (class_of row))
  pub acts : (i : ℤ) (address : ℕ) → machine_row address (record m { imm = i }) ≡ placed (at_offset address offset) object i row

none_some : (p : Half × LinkedAddress) → None ≡ Some p → ⊥
none_some p e = let f : ⊥ = cc in f

half_is : (h : Half) (y : LinkedAddress) (p : Half × LinkedAddress) → Some (h, y) ≡ Some p → h ≡ p.0
half_is h y p e = let same : (h, y) ≡ p = cc in ap (λ (q : Half × LinkedAddress). q.0) same

reduced_word : (i : ℤ) → word i ≡ (word i + 0) % 2 ^ 64
reduced_word (pos n) = omega arith
reduced_word (negsuc n) = omega arith

abbrev Linking : Option MachineOp → ℤ → ℕ → Row → Type 0
Linking found offset object row =
    (m : MachineOp) → found ≡ Some m → (p : Half × LinkedAddress) → part_named row ≡ Some p → Links offset object row p.0 m

at_found : (offset : ℤ) (object : ℕ) (row : Row) (h k : Half) (m n : MachineOp) → Some m ≡ Some n → h ≡ k → Links offset object row h m →
    Links offset object row k n
at_found offset object row h k m n e is l =
    subst (λ (z : Half). Links offset object row z n) is (subst (Links offset object row h) (same m n e) l)

fields_link : (o : Op) (operands : List Operand) (offset : ℤ) (object : ℕ) → Linking (fields_of o operands offset object) offset object (row_by o operands)
fields_link (Registers o) (Def rd ∷ Use a ∷ Use b ∷ rest) offset object m e p is = absurd (none_some p is)
fields_link (Immediate o) (Def rd ∷ Use a ∷ Imm i ∷ rest) offset object m e p is = absurd (none_some p (sym (number_part o rd a (word i)) ∙ is))
fields_link (Immediate o) (Def rd ∷ Object n ∷ Imm i ∷ rest) offset object m e p is = absurd (none_some p (sym (object_part o rd n (word i)) ∙ is))
fields_link (Immediate o) (Def rd ∷ Use a ∷ Part half y ∷ rest) offset object m e p is =
    at_found offset object _ Lower p.0 _ m e (half_is Lower y p is) (record { format_is = refl; is_part = immediate; acts = λ i address. refl })
fields_link Lui (Def rd ∷ Imm i ∷ rest) offset object m e p is = absurd (none_some p is)
fields_link Lui (Def rd ∷ Part half y ∷ rest) offset object m e p is =
    at_found offset object _ Upper p.0 _ m e (half_is Upper y p is) (record { format_is = refl; is_part = upper; acts = λ i address. refl })
fields_link (Branch o) (Use a ∷ Use b ∷ Block n ∷ rest) offset object m e p is = absurd (none_some p is)
fields_link (Load o) (Def rd ∷ Use base ∷ Imm i ∷ rest) offset object m e p is = absurd (none_some p is)
fields_link (Load o) (Def rd ∷ Slot n ∷ rest) offset object m e p is = absurd (none_some p is)
fields_link (Load o) (Def rd ∷ Object n ∷ Imm i ∷ rest) offset object m e p is = absurd (none_some p is)
fields_link (Load o) (Def rd ∷ Use base ∷ Part half y ∷ rest) offset object m e p is =
    at_found offset object _ Lower p.0 _ m e (half_is Lower y p is) (record {
      format_is = load_format o;
      is_part = immediate;
      acts = λ i address. ap (λ (k : ℕ). Does (Loads rd o (PointedBy base) k)) (reduced_word i);
    })
fields_link (Store o) (Use rs ∷ Use base ∷ Imm i ∷ rest) offset object m e p is = absurd (none_some p is)
fields_link (Store o) (Use rs ∷ Slot n ∷ rest) offset object m e p is = absurd (none_some p is)
fields_link (Store o) (Use rs ∷ Object n ∷ Imm i ∷ rest) offset object m e p is = absurd (none_some p is)
fields_link (Store o) (Use rs ∷ Use base ∷ Part half y ∷ rest) offset object m e p is =
    at_found offset object _ Lower p.0 _ m e (half_is Lower y p is) (record {
      format_is = store_format o;
      is_part = store;
      acts = λ i address. ap (λ (k : ℕ). Does (Stores o rs (PointedBy base) k)) (reduced_word i);
    })
fields_link Copy (Def rd ∷ Use rs ∷ rest) offset object m e p is = absurd (none_some p (sym (move_part rd rs) ∙ is))
fields_link PseudoBr (Block n ∷ rest) offset object m e p is = absurd (none_some p is)
fields_link PseudoRet operands offset object m e p is = absurd (none_some p is)
fields_link PseudoCallIndirect (Use r ∷ rest) offset object m e p is = absurd (none_some p is)
fields_link PseudoTailIndirect operands offset object m e p is = absurd (none_some p (sym (held_tail_part (implicit_uses operands)) ∙ is))
fields_link NoReturnCallIndirect operands offset object m e p is = absurd (none_some p (sym (held_gone_part (implicit_uses operands)) ∙ is))
fields_link o operands offset object m e p is = absurd (apart m e)

-- ---- any code

-- without a half of an address the immediate doesn't count
placed_plain : (target object : ℕ) (i j : ℤ) (row : Row) → part_named row ≡ None → placed target object i row ≡ placed target object j row
placed_plain target object i j (Sets rd o a (Content b)) e = refl
placed_plain target object i j (Sets rd o a (Number n)) e = refl
placed_plain target object i j (Sets rd o a (PartOf half y)) e = absurd (none_some (half, y) (sym e))
placed_plain target object i j (Loads rd o (PointedBy b) k) e = refl
placed_plain target object i j (Loads rd o (ObjectAt n) k) e = refl
placed_plain target object i j (Loads rd o (BesidePart b y) k) e = absurd (none_some (Lower, y) (sym e))
placed_plain target object i j (Stores o rs (PointedBy b) k) e = refl
placed_plain target object i j (Stores o rs (ObjectAt n) k) e = refl
placed_plain target object i j (Stores o rs (BesidePart b y) k) e = absurd (none_some (Lower, y) (sym e))
placed_plain target object i j _ e = refl

linked_fits : (half : Half) (c : Class) (m : MachineOp) (v : ℕ) → (encoding_of m.op).format ≡ part_format half c → IsPartFormat (part_format half c) →
    IsTrue (is_encodable m) → IsTrue (is_encodable (record m { imm = half_immediate half v }))
linked_fits half c m v e is h =
    subst (λ (f : Format). IsTrue (fits f (record m { imm = half_immediate half v }))) (sym e)
    (by_half half c is (subst (λ (f : Format). IsTrue (fits f m)) e h)) where
      in_immediate : IsTrue (fits format.Immediate m) → IsTrue (fits format.Immediate (record m { imm = half_immediate Lower v }))
      in_immediate k = let p = fitting format.Immediate m k in
          is_fit format.Immediate (record m { imm = half_immediate Lower v }) (p.0, p.1, p.2, lower_range v)

      by_half : (half : Half) (c : Class) → IsPartFormat (part_format half c) → IsTrue (fits (part_format half c) m) →
          IsTrue (fits (part_format half c) (record m { imm = half_immediate half v }))
      by_half Upper c is k = let p = fitting format.Upper m k in
          is_fit format.Upper (record m { imm = half_immediate Upper v }) (p.0, p.1, p.2, upper_range v)
      by_half Lower class.Store is k = let p = fitting format.Store m k in
          is_fit format.Store (record m { imm = half_immediate Lower v }) (p.0, p.1, p.2, lower_range v)
      by_half Lower class.Branch is k = in_immediate k
      by_half Lower class.Call is k = in_immediate k
      by_half Lower class.Return is k = in_immediate k
      by_half Lower class.Plain is k = in_immediate k
      by_half Lower class.Odd is k = in_immediate k

-- the word of code when the program is linked: it is that of an operation in range that does what the code does
pub record LinksAs (symbols : Symbol → ℕ) (offset : ℤ) (object : ℕ) (i : Instruction) (m : MachineOp) : Type 0 where
  pub word_is : linked_word symbols (row_of i) (word_of m) ≡ word_of (linked_op symbols (part_named (row_of i)) m)
  pub encodable : IsTrue (is_encodable (linked_op symbols (part_named (row_of i)) m))
  pub acts : (address : ℕ) → machine_row address (linked_op symbols (part_named (row_of i)) m)
      ≡ placed (at_offset address offset) object (immediate_of symbols (row_of i)) (row_of i)

found_fields : (o : Option MachineOp) (m : MachineOp) → option_and_then in_range o ≡ Some m → o ≡ Some m
found_fields None m e = absurd (apart m e)
found_fields (Some n) m e = by_test (is_encodable n) e where
  by_test : (b : Bool) → cond b (Some n) None ≡ Some m → Some n ≡ Some m
  by_test true e = e
  by_test false e = absurd (apart m e)

at_some : (P : MachineOp → Type 0) (o : Option MachineOp) (m : MachineOp) → IfSome o P → o ≡ Some m → P m
at_some P o m h e = subst (λ (x : Option MachineOp). IfSome x P) e h

pub lowered_links : (symbols : Symbol → ℕ) (offset : ℤ) (object : ℕ) (i : Instruction) (m : MachineOp) → lowered offset object i ≡ Some m →
    LinksAs symbols offset object i m
lowered_links symbols offset object i m e = by_part (part_named (row_of i)) refl where
  fields : fields_of i.op i.operands offset object ≡ Some m
  fields = found_fields (fields_of i.op i.operands offset object) m e

  in_fields : IsTrue (is_encodable m)
  in_fields = at_some (λ x. IsTrue (is_encodable x)) (lowered offset object i) m (lowered_fits offset object i) e

  acts : ActsAs offset object i m
  acts = at_some (ActsAs offset object i) (lowered offset object i) m (lowered_acts offset object i) e

  by_part : (p : Option (Half × LinkedAddress)) → part_named (row_of i) ≡ p → LinksAs symbols offset object i m
  by_part None is = record {
    word_is = ap (λ q. linked_by symbols (class_of (row_of i)) q (word_of m)) is ∙ sym (ap (λ q. word_of (linked_op symbols q m)) is);
    encodable = subst (λ q. IsTrue (is_encodable (linked_op symbols q m))) (sym is) in_fields;
    acts = λ address. ap (λ q. machine_row address (linked_op symbols q m)) is ∙ acts address
        ∙ placed_plain (at_offset address offset) object (pos 0) (immediate_of symbols (row_of i)) (row_of i) is;
  }
  by_part (Some p) is =
      let k = fields_link i.op i.operands offset object m fields p is in
      let n = linked_immediate symbols p.0 p.1 in
      record {
        word_is = ap (λ q. linked_by symbols (class_of (row_of i)) q (word_of m)) is
            ∙ relinked m n (part_format p.0 (class_of (row_of i))) k.is_part k.format_is
            ∙ sym (ap (λ q. word_of (linked_op symbols q m)) is);
        encodable = subst (λ q. IsTrue (is_encodable (linked_op symbols q m))) (sym is)
            (linked_fits p.0 (class_of (row_of i)) m (linked_address symbols p.1) k.format_is k.is_part in_fields);
        acts = λ address. ap (λ q. machine_row address (linked_op symbols q m)) is ∙ k.acts n address
            ∙ sym (ap (λ q. placed (at_offset address offset) object (immediate_by symbols q) (row_of i)) is);
      }

-- ---- what the code of `linked_word` finds

no_address : (y : LinkedAddress) → None ≡ Some y → ⊥
no_address y e = let f : ⊥ = cc in f

pub unnamed_word : (symbols : Symbol → ℕ) (c : Class) (p : Option (Half × LinkedAddress)) (w : ℕ) → None ≡ part_address p → w ≡ linked_by symbols c p w
unnamed_word symbols c None w e = refl
unnamed_word symbols c (Some p) w e = absurd (no_address p.1 e)

pub no_half : (symbols : Symbol → ℕ) (c : Class) (p : Option (Half × LinkedAddress)) (y : LinkedAddress) (w : ℕ) → None ≡ part_half p →
    part_address p ≡ Some y → w ≡ linked_by symbols c p w
no_half symbols c None y w e named = refl
no_half symbols c (Some p) y w e named = let f : ⊥ = cc in absurd f

pub named_word : (symbols : Symbol → ℕ) (c : Class) (p : Option (Half × LinkedAddress)) (half : Half) (y : LinkedAddress) (w : ℕ) → Some half ≡ part_half p →
    part_address p ≡ Some y → with_immediate (part_format half c) (half_immediate half (linked_address symbols y)) w ≡ linked_by symbols c p w
named_word symbols c None half y w e named = absurd (no_address y named)
named_word symbols c (Some p) half y w e named =
    let kind : half ≡ p.0 = cc in
    let at : y ≡ p.1 = cc in
    ap (λ (h : Half). with_immediate (part_format h c) (half_immediate h (linked_address symbols y)) w) kind
    ∙ ap (λ (z : LinkedAddress). with_immediate (part_format p.0 c) (half_immediate p.0 (linked_address symbols z)) w) at
