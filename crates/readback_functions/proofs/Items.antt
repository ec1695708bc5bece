-- The lines of items and of labels.
use Rattle.std.proofs.Common.{◌≡◌, ℕ, ◌+◌, ◌<◌, ◌≤◌, Bool, true, false, cond, not, ◌&&◌, List, [], ◌∷◌, ◌++◌, map, All, Option, Some, None}
use Rattle.std.proofs.Common.{◌-◌, refl, sym, ap, subst, arith, append_assoc}
use Rattle.std.specs.Prelude.{codes, filter, IfSome, IsTrue}
use Rattle.std.specs.List.{list_all, flat_map}
use Rattle.std.specs.Char.{is_ascii_uppercase}
use Rattle.std.specs.Fmt.{decimal}
use Rattle.std.proofs.lemmas.Bool.{and_parts, and_from, false≢true, lt-leb}
use Rattle.std.proofs.lemmas.Bool.Decides.{nat_tests}
use Rattle.std.proofs.lemmas.List.Elements.{All-head, All-tail, All-filter, All-weaker}
use Rattle.rv64_instr.specs.declared.operand.Operand.{Operand}
use Rattle.rv64_instr.specs.declared.operand.Operand.TheVariants.{Def, Use, ImplicitDef, ImplicitUse, Imm, Slot, Object, Part, Block as OfBlock, Symbol, Mask}
use Rattle.rv64_instr.specs.declared.operand.Operand.TheVariants.{Outgoing, GlobalRegisters}
use Rattle.rv64_instr.specs.Instruction.{Instruction}
use Rattle.rv64_instr.specs.Mnemonic.{mnemonic_of}
use Rattle.base_ids.specs.Limits.{MAX_NUMBER, FIXED}
use Rattle.read_lexer.specs.Bytes.{is_word_byte}
use Rattle.read_token.specs.Word.{word_of}
use Rattle.read_line.specs.Item.{is_upper}
use Rattle.mir_func.specs.declared.item.ItemKind.{ItemKind}
use Rattle.mir_func.specs.declared.item.ItemKind.TheVariants.{Code, Mark, Phi}
use Rattle.mir_func.specs.declared.location.Loc.{Loc}
use Rattle.mir_func.specs.declared.location.Loc.TheVariants.{Absent, Node, Inline}
use Rattle.read_item.specs.Opcode.{is_read}
use Rattle.read_program.specs.Limited.{KindIsLimited, LocIsLimited, IsOfLanguage}
use Rattle.read_program.proofs.Operands.{IsLimitedIn, all_in_language}
use Rattle.readback_items.proofs.Said.{plain_text}
use Rattle.read_program.proofs.Lists.{both}
use Rattle.mir_printer.specs.Spelling.{comma_separated, is_bare, quoted_byte, symbol_text, register_text, object_text, operand_text}
use Rattle.mir_printer.specs.Spelling.{is_definition, definitions_text}
use Rattle.mir_printer.specs.Spelling.{uses_text, instruction_text, number_text, inlined_at_text, location_text, mark_text, phi_text, kind_text}
use Rattle.readback_items.specs.Laws.{NameIsBytes, HasByteNames}
use Rattle.readback_items.proofs.Cuts.{is_safe}
use Rattle.readback_items.proofs.Opcodes.{is_opcode, mnemonics, named_uses}
use Rattle.readback_items.proofs.Phrases.{plain_entry}
use Rattle.readback_items.specs.Body.{label_line, item_line}
use Rattle.readback_functions.specs.Printed.{BlockLinesArePrinted}
use Rattle.readback_functions.proofs.Marks.{number_shows, register_shows, mark_shows, phi_shows}
use Rattle.readback_functions.proofs.Texts.{Printed, Shows, MayShow, printed_both, shows_behind, shows_before, may_show, line_of, is_visible, visible_shows}
use Rattle.readback_functions.proofs.Texts.{all_visible}
use Rattle.readback_functions.proofs.Texts.{signed_shows, quoted_shows}

-- ---- operands

bare_visible : (b : ℕ) → is_bare b ≡ true → is_visible b ≡ true
bare_visible b is = grind (arith, nat_tests, is)

symbol_shows : (name : List ℕ) → All (λ b. b < 256) name → Shows (symbol_text name)
symbol_shows [] bytes = shows_behind (64 ∷ []) (34 ∷ (flat_map quoted_byte [] ++ 34 ∷ [])) refl (quoted_shows [] bytes)
symbol_shows (b ∷ bs) bytes = by (list_all is_bare (b ∷ bs)) refl where
  by : (t : Bool) → list_all is_bare (b ∷ bs) ≡ t → Shows (64 ∷ cond t (b ∷ bs) (34 ∷ (flat_map quoted_byte (b ∷ bs) ++ 34 ∷ [])))
  by true all = shows_behind (64 ∷ []) (b ∷ bs) refl (visible_shows b bs (all_visible is_bare bare_visible (b ∷ bs) all))
  by false all = shows_behind (64 ∷ []) (34 ∷ (flat_map quoted_byte (b ∷ bs) ++ 34 ∷ [])) refl (quoted_shows (b ∷ bs) bytes)

object_shows : (n : ℕ) → IsLimitedIn false (Object n) → Shows (object_text n)
object_shows n is =
    let small = plain_entry n is in
    let text : object_text n ≡ codes "%stack." ++ decimal n =
    ap (λ (b : Bool). cond b (codes "%fixed-stack." ++ decimal (n - FIXED)) (codes "%stack." ++ decimal n)) (lt-leb FIXED n (omega (arith, small))) in
    subst Shows (sym text) (shows_behind (codes "%stack.") (decimal n) refl (number_shows n small))

operand_shows : (o : Operand) → IsLimitedIn false o → NameIsBytes o → Shows (operand_text o)
operand_shows (Def r) small bytes = register_shows r small
operand_shows (Use r) small bytes = register_shows r small
operand_shows (ImplicitDef r) small bytes = shows_behind (codes "implicit-def ") (register_text r) refl (register_shows r (omega (arith, small)))
operand_shows (ImplicitUse r) small bytes = shows_behind (codes "implicit ") (register_text r) refl (register_shows r (omega (arith, small)))
operand_shows (Imm i) small bytes = signed_shows i small
operand_shows (Slot n) small bytes = shows_behind (codes "%stack.") (decimal n) refl (number_shows n small)
operand_shows (Object n) small bytes = object_shows n small
operand_shows (Part half y) small bytes = absurd (false≢true small.0)
operand_shows (Outgoing n) small bytes = absurd small
operand_shows GlobalRegisters small bytes = absurd small
operand_shows (OfBlock n) small bytes = shows_behind (codes "%bb.") (decimal n) refl (number_shows n small)
operand_shows (Symbol name) small bytes = symbol_shows name bytes
operand_shows Mask small bytes = record { printed = refl; ends = λ so_far. refl }

record Fits (o : Operand) : Type 0 where
  limited : IsLimitedIn false o
  bytes : NameIsBytes o

-- operands with commas between them, one at least
separated_shows : (o : Operand) (os : List Operand) → All Fits (o ∷ os) → Shows (comma_separated (map operand_text (o ∷ os)))
separated_shows o [] all = let f = All-head Fits o [] all in operand_shows o f.limited f.bytes
separated_shows o (p ∷ os) all =
    let f = All-head Fits o (p ∷ os) all in
    let rest = separated_shows p os (All-tail Fits o (p ∷ os) all) in
    let behind = shows_behind (codes ", ") (comma_separated (map operand_text (p ∷ os))) refl rest in
    subst Shows (sym (append_assoc (operand_text o) (codes ", ") (comma_separated (map operand_text (p ∷ os)))))
    (shows_behind (operand_text o) (codes ", " ++ comma_separated (map operand_text (p ∷ os))) (operand_shows o f.limited f.bytes).printed behind)

definitions_printed : (os : List Operand) → All Fits os → Printed (definitions_text os)
definitions_printed [] all = refl
definitions_printed (o ∷ os) all = printed_both (comma_separated (map operand_text (o ∷ os))) (codes " = ") (separated_shows o os all).printed refl

uses_show : (os : List Operand) → All Fits os → MayShow (uses_text os)
uses_show [] all = record { printed = refl; ends = refl }
uses_show (o ∷ os) all = may_show (uses_text (o ∷ os))
    (shows_behind (codes " ") (comma_separated (map operand_text (o ∷ os))) refl (separated_shows o os all))

-- ---- opcodes

upper_visible : (b : ℕ) → is_ascii_uppercase b ≡ true → is_visible b ≡ true
upper_visible b is = grind (arith, nat_tests, is)

word_visible : (b : ℕ) → is_word_byte b ≡ true → is_visible b ≡ true
word_visible b is = grind (arith, nat_tests, is)

opcode_shows : (text : List ℕ) → is_opcode text ≡ true → Shows text
opcode_shows [] is = absurd cc
opcode_shows (b ∷ bs) is =
    let first = and_parts (is_ascii_uppercase b) (list_all is_word_byte bs && (is_upper (word_of (b ∷ bs)) && list_all is_safe (b ∷ bs))) is in
    let second = and_parts (list_all is_word_byte bs) (is_upper (word_of (b ∷ bs)) && list_all is_safe (b ∷ bs)) first.1 in
    visible_shows b bs (and_from (is_visible b) (list_all is_visible bs) (upper_visible b first.0) (all_visible is_word_byte word_visible bs second.0))

instruction_shows : (i : Instruction) → IsTrue (is_read false i.op) → All Fits i.operands → Shows (instruction_text i)
instruction_shows i read all =
    let sets = filter is_definition i.operands in
    let uses = filter (λ o. not (is_definition o)) i.operands in
    subst (λ (os : List Operand). Shows ((definitions_text sets ++ mnemonic_of i.op) ++ uses_text os)) (sym (named_uses i.op i.operands read))
    (shows_before (definitions_text sets ++ mnemonic_of i.op) (uses_text uses)
    (shows_behind (definitions_text sets) (mnemonic_of i.op) (definitions_printed sets (All-filter is_definition Fits i.operands all))
    (opcode_shows (mnemonic_of i.op) (mnemonics i.op read)))
    (uses_show uses (All-filter (λ o. not (is_definition o)) Fits i.operands all)))

-- ---- attributes

number_may : (k : Option ℕ) → IfSome k (λ n. n ≤ MAX_NUMBER) → MayShow (number_text k)
number_may None small = record { printed = refl; ends = refl }
number_may (Some n) small = may_show (number_text (Some n)) (shows_behind (codes ", debug-instr-number ") (decimal n) refl (number_shows n small))

inlined_printed : (n : Option ℕ) → IfSome n (λ m. m ≤ MAX_NUMBER) → Printed (inlined_at_text n)
inlined_printed None small = refl
inlined_printed (Some n) small = (shows_behind (codes ", inlinedAt: !") (decimal n) refl (number_shows n small)).printed

location_may : (loc : Loc) → LocIsLimited loc → MayShow (location_text loc)
location_may Absent small = record { printed = refl; ends = refl }
location_may (Node n) small = may_show (location_text (Node n)) (shows_behind (codes ", debug-location !") (decimal n) refl (number_shows n small))
location_may (Inline l) small =
    let a = codes ", debug-location !DILocation(line: " ++ decimal l.line in
    let b = a ++ codes ", column: " in
    let c = b ++ decimal l.column in
    let d = c ++ codes ", scope: !" in
    let e = d ++ decimal l.scope in
    let f = e ++ inlined_at_text l.inlined_at in
    may_show (location_text (Inline l)) (shows_behind f (codes ")")
    (printed_both e (inlined_at_text l.inlined_at)
    (printed_both d (decimal l.scope)
    (printed_both c (codes ", scope: !")
    (printed_both b (decimal l.column)
    (printed_both a (codes ", column: ")
    (printed_both (codes ", debug-location !DILocation(line: ") (decimal l.line) refl (number_shows l.line small.0).printed) refl)
    (number_shows l.column small.1).printed) refl)
    (number_shows l.scope small.2).printed)
    (inlined_printed l.inlined_at small.3))
    (record { printed = refl; ends = λ so_far. refl }))

-- ---- lines

code_shows : (i : Instruction) (k : Option ℕ) (loc : Loc) → IsTrue (is_read false i.op) → All Fits i.operands → IfSome k (λ n. n ≤ MAX_NUMBER) →
    LocIsLimited loc →
    Shows ((instruction_text i ++ number_text k) ++ location_text loc)
code_shows i k loc read all small place =
    shows_before (instruction_text i ++ number_text k) (location_text loc)
    (shows_before (instruction_text i) (number_text k) (instruction_shows i read all) (number_may k small)) (location_may loc place)

fitting : (os : List Operand) → All (IsLimitedIn false) os → All NameIsBytes os → All Fits os
fitting os limited bytes = All-weaker (λ o. IsLimitedIn false o × NameIsBytes o) Fits (λ o each. record { limited = each.0; bytes = each.1 }) os
    (both (IsLimitedIn false) NameIsBytes os limited bytes)

item_shows : (kind : ItemKind) (loc : Loc) → KindIsLimited kind → IsOfLanguage false kind → HasByteNames kind → LocIsLimited loc →
    Shows (codes "    " ++ (kind_text kind ++ location_text loc))
item_shows (Code i k) loc small language bytes place =
    shows_behind (codes "    ") ((instruction_text i ++ number_text k) ++ location_text loc) refl
    (code_shows i k loc language.1 (fitting i.operands (all_in_language false i.operands small.0 language.0) bytes) small.1 place)
item_shows (Mark v m) loc small language bytes place =
    shows_behind (codes "    ") (mark_text v m ++ location_text loc) refl
    (shows_before (mark_text v m) (location_text loc) (mark_shows v m small.0 small.1) (location_may loc place))
item_shows (Phi p k) loc small language bytes place =
    shows_behind (codes "    ") (phi_text p k ++ location_text loc) refl
    (shows_before (phi_text p k) (location_text loc) (phi_shows p k small.0 small.1) (location_may loc place))

pub block_lines_are_printed : BlockLinesArePrinted
block_lines_are_printed = record {
  labels = λ n small. line_of (label_line n) (shows_behind (codes "  bb." ++ decimal n) (codes ":")
      (shows_behind (codes "  bb.") (decimal n) refl (number_shows n small)).printed (record { printed = refl; ends = λ so_far. refl }));
  items = λ i is. line_of (item_line i)
      (subst (λ (t : List ℕ). Shows (codes "    " ++ t)) (sym (plain_text i is.language)) (item_shows i.kind i.loc is.kind is.language is.names is.loc));
}
