-- The line of each kind of item is read as the item's form.
use Rattle.std.proofs.Common.{◌≡◌, ℕ, cond, pos, ◌<◌, ◌≤◌, Bool, true, false, not, List, [], ◌∷◌, ◌++◌, map, Option, Some, None, Ok, All}
use Rattle.std.proofs.Common.{refl, sym, subst, ap, ◌∙◌, arith, append_assoc}
use Rattle.std.specs.Prelude.{codes, filter, IfSome, IsTrue}
use Rattle.std.specs.List.{flat_map}
use Rattle.std.specs.Fmt.{decimal, signed_decimal}
use Rattle.std.proofs.lemmas.Fmt.{decimal_digit}
use Rattle.std.proofs.lemmas.Bool.{false≢true}
use Rattle.std.proofs.lemmas.List.Elements.{All-head, All-tail}
use Rattle.rv64_instr.specs.declared.operand.Operand.{Operand}
use Rattle.rv64_instr.specs.declared.operand.Operand.TheVariants.{Def, Use, ImplicitDef, ImplicitUse, Imm, Slot, Object, Part, Outgoing, Block, Symbol, Mask}
use Rattle.rv64_instr.specs.declared.operand.Operand.TheVariants.{GlobalRegisters}
use Rattle.rv64_instr.specs.declared.place.Place.{Place}
use Rattle.rv64_instr.specs.declared.place.Place.TheVariants as place
use Rattle.rv64_instr.specs.Instruction.{Instruction}
use Rattle.rv64_instr.specs.Mnemonic.{mnemonic_of}
use Rattle.mir_func.specs.declared.item.Item.{Item}
use Rattle.mir_func.specs.declared.item.ItemKind.{ItemKind}
use Rattle.mir_func.specs.declared.item.ItemKind.TheVariants.{Code, Mark, Phi}
use Rattle.mir_func.specs.declared.location.Loc.{Loc}
use Rattle.mir_func.specs.declared.variable.MarkValue.{MarkValue}
use Rattle.mir_func.specs.declared.variable.MarkValue.TheVariants.{Nothing, Constant, At, Pair}
use Rattle.mir_func.specs.declared.variable.VarId.{VarId}
use Rattle.mir_func.specs.Parts.{Bytes, IsPart}
use Rattle.base_ids.specs.Limits.{MAX_NUMBER}
use Rattle.read_token.specs.declared.lexeme.Flag.TheVariants as flags
use Rattle.read_token.specs.Word.{is_plain, flag_of, keyword_of, word_of}
use Rattle.read_line.specs.declared.form.BodyLine.TheVariants as lines
use Rattle.read_line.specs.declared.form.OperandForm.{OperandForm}
use Rattle.read_line.specs.declared.form.OperandForm.TheVariants as form
use Rattle.read_line.specs.declared.form.RegisterForm.{RegisterForm}
use Rattle.read_line.specs.Body.{body_line_of}
use Rattle.read_item.specs.Opcode.{is_read}
use Rattle.read_program.proofs.Operands.{IsLimitedIn, all_in_language, not_volatile}
use Rattle.read_program.specs.Limited.{PlaceIsLimited, ValueIsLimited, VariableIsLimited, KindIsLimited, LocIsLimited, IsOfLanguage}
use Rattle.mir_printer.specs.Spelling.{comma_separated, register_text, operand_text, is_definition, definitions_text, uses_text, instruction_text, number_text}
use Rattle.mir_printer.specs.Spelling.{phi_place_text, expression_text, pair_expression_text, value_mark_text, kind_text}
use Rattle.mir_printer.specs.Spelling.{location_text, uses_behind, is_volatile_kind, with_memory_operand, item_text}
use Rattle.readback_items.specs.Forms.{register_form, no_register, operand_form, set_register, code_form, debug_form, value_form}
use Rattle.readback_items.specs.Forms.{mark_form, place_form, kind_form}
use Rattle.readback_items.specs.Laws.{NameIsBytes, HasByteNames, LinesSayForms}
use Rattle.readback_items.proofs.Debug.{MayBePart, plain_phrase, argument_phrase, reference_phrase}
use Rattle.readback_items.proofs.Items.{set_text_of, uses_text_of, line_says}
use Rattle.readback_items.proofs.Lists.{texts, forms, AreRegisters}
use Rattle.readback_items.proofs.Opcodes.{is_opcode, opcode, mnemonics, named_uses}
use Rattle.readback_items.proofs.Phrases.{Phrase, PhraseOf, register_said, absent_said, integer_said, stack_said, node_said, operand_said}

-- ---- the operands of code

record Split (os : List Operand) : Type 0 where
  sets : List ℕ
  are : AreRegisters sets
  set_texts : map operand_text (filter is_definition os) ≡ map register_text sets
  set_forms : flat_map set_register os ≡ map (register_form flags.Plain) sets
  uses : List Phrase
  use_texts : texts uses ≡ map operand_text (filter (λ o. not (is_definition o)) os)
  use_forms : forms uses ≡ map operand_form (filter (λ o. not (is_definition o)) os)

nothing : Split []
nothing = record { sets = []; are = tt; set_texts = refl; set_forms = refl; uses = []; use_texts = refl; use_forms = refl }

one_set : (r : ℕ) (os : List Operand) → r < 4128 → Split os → Split (Def r ∷ os)
one_set r os small s = record {
  sets = r ∷ s.sets;
  are = (small, s.are);
  set_texts = ap (λ (ts : List (List ℕ)). register_text r ∷ ts) s.set_texts;
  set_forms = ap (λ (fs : List RegisterForm). register_form flags.Plain r ∷ fs) s.set_forms;
  uses = s.uses;
  use_texts = s.use_texts;
  use_forms = s.use_forms;
}

-- an operand that isn't a definition
one_use : (o : Operand) (os : List Operand) → is_definition o ≡ false → set_register o ≡ [] → PhraseOf (operand_text o) (operand_form o) → Split os → Split
    (o ∷ os)
one_use o os plain none said s = record {
  sets = s.sets;
  are = s.are;
  set_texts = ap (λ (b : Bool). map operand_text (cond b (o ∷ filter is_definition os) (filter is_definition os))) plain ∙ s.set_texts;
  set_forms = ap (λ (fs : List RegisterForm). fs ++ flat_map set_register os) none ∙ s.set_forms;
  uses = said.phrase ∷ s.uses;
  use_texts = (λ i. said.text_is i ∷ s.use_texts i)
      ∙ ap (λ (b : Bool). map operand_text (cond (not b) (o ∷ filter (λ x. not (is_definition x)) os) (filter (λ x. not (is_definition x)) os))) (sym plain);
  use_forms = (λ i. said.form_is i ∷ s.use_forms i)
      ∙ ap (λ (b : Bool). map operand_form (cond (not b) (o ∷ filter (λ x. not (is_definition x)) os) (filter (λ x. not (is_definition x)) os))) (sym plain);
}

one_more : (o : Operand) (os : List Operand) → IsLimitedIn false o → NameIsBytes o → Split os → Split (o ∷ os)
one_more (Def r) os small bytes s = one_set r os small s
one_more (Use r) os small bytes s = one_use (Use r) os refl refl (operand_said (Use r) small bytes) s
one_more (ImplicitDef r) os small bytes s = one_use (ImplicitDef r) os refl refl (operand_said (ImplicitDef r) small bytes) s
one_more (ImplicitUse r) os small bytes s = one_use (ImplicitUse r) os refl refl (operand_said (ImplicitUse r) small bytes) s
one_more (Imm i) os small bytes s = one_use (Imm i) os refl refl (operand_said (Imm i) small bytes) s
one_more (Slot n) os small bytes s = one_use (Slot n) os refl refl (operand_said (Slot n) small bytes) s
one_more (Object n) os small bytes s = one_use (Object n) os refl refl (operand_said (Object n) small bytes) s
one_more (Part half y) os small bytes s = absurd (false≢true small.0)
one_more (Outgoing n) os small bytes s = absurd small
one_more GlobalRegisters os small bytes s = absurd small
one_more (Block n) os small bytes s = one_use (Block n) os refl refl (operand_said (Block n) small bytes) s
one_more (Symbol name) os small bytes s = one_use (Symbol name) os refl refl (operand_said (Symbol name) small bytes) s
one_more Mask os small bytes s = one_use Mask os refl refl (operand_said Mask small bytes) s

split : (os : List Operand) → All (IsLimitedIn false) os → All NameIsBytes os → Split os
split [] small bytes = nothing
split (o ∷ os) small bytes =
    one_more o os (All-head (IsLimitedIn false) o os small) (All-head NameIsBytes o os bytes)
    (split os (All-tail (IsLimitedIn false) o os small) (All-tail NameIsBytes o os bytes))

-- ---- texts of lists

abbrev set_text : List (List ℕ) → List ℕ
set_text [] = []
set_text (t ∷ ts) = comma_separated (t ∷ ts) ++ codes " = "

abbrev use_text : List (List ℕ) → List ℕ
use_text [] = []
use_text (t ∷ ts) = 32 ∷ comma_separated (t ∷ ts)

definitions_are : (os : List Operand) → definitions_text os ≡ set_text (map operand_text os)
definitions_are [] = refl
definitions_are (o ∷ os) = refl

uses_are : (os : List Operand) → uses_text os ≡ use_text (map operand_text os)
uses_are [] = refl
uses_are (o ∷ os) = refl

sets_are : (rs : List ℕ) → set_text (map register_text rs) ≡ set_text_of rs
sets_are [] = refl
sets_are (r ∷ rs) = refl

phrases_are : (qs : List Phrase) → use_text (texts qs) ≡ uses_text_of qs
phrases_are [] = refl
phrases_are (q ∷ qs) = refl

-- ---- code

regrouped : (a b c d e : List ℕ) → (((a ++ b) ++ c) ++ d) ++ e ≡ a ++ (b ++ (c ++ (d ++ e)))
regrouped a b c d e = simp append_assoc

code_says : (i : Instruction) (k : Option ℕ) (loc : Loc) → IsTrue (is_read false i.op) → All (IsLimitedIn false) i.operands →
    IfSome k (λ n. n ≤ MAX_NUMBER) → LocIsLimited loc
    → All NameIsBytes i.operands →
    body_line_of false (codes "    " ++ (instruction_text i ++ number_text k ++ location_text loc)) ≡ Ok (lines.Item (code_form i k loc))
code_says i k loc read small number at bytes =
    let s = split i.operands small bytes in
    let set : definitions_text (filter is_definition i.operands) ≡ set_text_of s.sets =
    definitions_are (filter is_definition i.operands) ∙ (ap set_text s.set_texts ∙ sets_are s.sets) in
    let used : uses_text (uses_behind i.op i.operands) ≡ uses_text_of s.uses =
    ap uses_text (named_uses i.op i.operands read) ∙ uses_are (filter (λ o. not (is_definition o)) i.operands)
    ∙ (ap use_text (sym s.use_texts) ∙ phrases_are s.uses) in
    ap (λ (t : List ℕ). body_line_of false (codes "    " ++ t))
    ((λ j. (((set j ++ mnemonic_of i.op) ++ used j) ++ number_text k) ++ location_text loc)
    ∙ regrouped (set_text_of s.sets) (mnemonic_of i.op) (uses_text_of s.uses) (number_text k) (location_text loc))
    ∙ (line_says s.uses k loc number at (mnemonic_of i.op) (opcode (mnemonic_of i.op) (mnemonics i.op read)) s.sets s.are
    ∙ (λ j. Ok (lines.Item (record {
      definitions = sym s.set_forms j;
      opcode = mnemonic_of i.op;
      operands = s.use_forms j;
      no_return = false;
      volatile = false;
      number = k;
      loc = loc;
      exceeds = false;
    }))))

-- ---- marks and phis

value_opcode : is_opcode (codes "DBG_VALUE") ≡ true
unfolding word_of flag_of is_plain keyword_of
value_opcode = refl

reference_opcode : is_opcode (codes "DBG_INSTR_REF") ≡ true
unfolding word_of flag_of is_plain keyword_of
reference_opcode = refl

phi_opcode : is_opcode (codes "DBG_PHI") ≡ true
unfolding word_of flag_of is_plain keyword_of
phi_opcode = refl

may_be : (o : Option Bytes) → IfSome o IsPart → MayBePart o
may_be None is = tt
may_be (Some b) is = is

value_text_is : (value node expression at : List ℕ) →
    codes "DBG_VALUE " ++ value ++ (codes ", $noreg, !" ++ node ++ codes ", " ++ expression) ++ at ≡
    codes "DBG_VALUE" ++ ((32 ∷ comma_separated (value ∷ codes "$noreg" ∷ (33 ∷ node) ∷ expression ∷ [])) ++ ([] ++ at))
value_text_is value node expression at =
    ap (λ (t : List ℕ). codes "DBG_VALUE " ++ (t ++ at)) (sym (append_assoc value (codes ", ") (codes "$noreg, !" ++ ((node ++ codes ", ") ++ expression))))

-- a pair behind a node and an expression, with commas between them
pair_grouped : (node comma expression word number operand closing at : List ℕ) →
    (((((((node ++ comma) ++ expression) ++ (comma ++ word)) ++ number) ++ comma) ++ operand) ++ closing) ++ at ≡
    ((node ++ comma) ++ ((expression ++ comma) ++ (word ++ (((number ++ comma) ++ operand) ++ closing)))) ++ at
pair_grouped node comma expression word number operand closing at = simp append_assoc

module _ (v : VarId) (loc : Loc) (small : VariableIsLimited v) (at : LocIsLimited loc) where
  value_says : (text : List ℕ) (f : OperandForm) → PhraseOf text f →
      body_line_of false (codes "    " ++ (value_mark_text text v ++ location_text loc)) ≡ Ok (lines.Item (value_form f v loc))
  value_says text f value =
      let none = absent_said in
      let node = node_said v.node small.0 in
      let expression = plain_phrase v.fragment (may_be v.fragment small.1) in
      ap (λ (t : List ℕ). body_line_of false (codes "    " ++ t))
      (value_text_is text (decimal v.node) (expression_text v.fragment) (location_text loc)
      ∙ (λ j. codes "DBG_VALUE" ++ ((32 ∷ comma_separated (sym value.text_is j ∷ sym none.text_is j ∷ sym node.text_is j ∷ sym expression.text_is j ∷ []))
      ++ ([] ++ location_text loc))))
      ∙ (line_says (value.phrase ∷ none.phrase ∷ node.phrase ∷ expression.phrase ∷ []) None loc tt at (codes "DBG_VALUE") (opcode
      (codes "DBG_VALUE") value_opcode)
      [] tt
      ∙ (λ j. Ok (lines.Item (debug_form (codes "DBG_VALUE") (value.form_is j ∷ none.form_is j ∷ node.form_is j ∷ expression.form_is j ∷ []) loc))))

  mark_says : (m : MarkValue) → ValueIsLimited m → body_line_of false (codes "    " ++ (kind_text (Mark v m) ++ location_text loc)) ≡ Ok (lines.Item
      (mark_form v m loc))
  mark_says Nothing is = value_says (codes "$noreg") no_register absent_said
  mark_says (Constant c) is = value_says (signed_decimal c) (form.Integer (Some c)) (integer_said c is)
  mark_says (At r) is = value_says (register_text r) (form.Register (register_form flags.Plain r)) (register_said r is)
  mark_says (Pair q) is =
      let node = node_said v.node small.0 in
      let expression = argument_phrase v.fragment (may_be v.fragment small.1) in
      let pair = reference_phrase q is.0 is.1 in
      ap (λ (t : List ℕ). body_line_of false (codes "    " ++ t))
      (pair_text_is (decimal v.node) (pair_expression_text v.fragment) (decimal q.number) (decimal q.operand) (location_text loc)
      ∙ (λ j. codes "DBG_INSTR_REF" ++ ((32 ∷ comma_separated (sym node.text_is j ∷ sym expression.text_is j ∷ sym pair.text_is j ∷ []))
      ++ ([] ++ location_text loc))))
      ∙ (line_says (node.phrase ∷ expression.phrase ∷ pair.phrase ∷ []) None loc tt at (codes "DBG_INSTR_REF") (opcode
      (codes "DBG_INSTR_REF") reference_opcode) [] tt
      ∙ (λ j. Ok (lines.Item (debug_form (codes "DBG_INSTR_REF") (node.form_is j ∷ expression.form_is j ∷ pair.form_is j ∷ []) loc))))
    where
      pair_text_is : (node expression number operand at : List ℕ) →
          codes "DBG_INSTR_REF !" ++ node ++ codes ", " ++ expression ++ codes ", dbg-instr-ref(" ++ number ++ codes ", " ++ operand ++ codes ")" ++ at ≡
          codes "DBG_INSTR_REF" ++ ((32 ∷ comma_separated ((33 ∷ node) ∷ expression ∷ (codes "dbg-instr-ref(" ++ number ++ codes ", " ++ operand ++ codes
          ")") ∷ []))
          ++ ([] ++ at))
      pair_text_is node expression number operand at =
          ap (λ (t : List ℕ). codes "DBG_INSTR_REF !" ++ t) (pair_grouped node (codes ", ") expression (codes "dbg-instr-ref(") number operand (codes ")") at)

place_said : (p : Option Place) → PlaceIsLimited p → PhraseOf (phi_place_text p) (place_form p)
place_said None is = absent_said
place_said (Some (place.Register r)) is = register_said r is.1
place_said (Some (place.Slot n)) is = stack_said n is
place_said (Some (place.Const c)) is = constant where
  zero_text : register_text 0 ≡ codes "$x0"
  zero_text = ap (λ (t : List ℕ). 36 ∷ 120 ∷ t) (decimal_digit 0 (omega arith))

  constant : PhraseOf (codes "$x0") (form.Register (register_form flags.Plain 0))
  constant = subst (λ (t : List ℕ). PhraseOf t (form.Register (register_form flags.Plain 0))) zero_text (register_said 0 (omega arith))

phi_text_is : (place number at : List ℕ) → codes "DBG_PHI " ++ place ++ codes ", " ++ number ++ at ≡
    codes "DBG_PHI" ++ ((32 ∷ comma_separated (place ∷ number ∷ [])) ++ ([] ++ at))
phi_text_is place number at = simp append_assoc

phi_says : (p : Option Place) (k : ℕ) (loc : Loc) → PlaceIsLimited p → k ≤ MAX_NUMBER → LocIsLimited loc →
    body_line_of false (codes "    " ++ (kind_text (Phi p k) ++ location_text loc)) ≡ Ok (lines.Item (kind_form (Phi p k) loc))
phi_says p k loc is small at =
    let source = place_said p is in
    let number = integer_said (pos k) (omega (arith, small)) in
    ap (λ (t : List ℕ). body_line_of false (codes "    " ++ t))
    (phi_text_is (phi_place_text p) (decimal k) (location_text loc)
    ∙ (λ j. codes "DBG_PHI" ++ ((32 ∷ comma_separated (sym source.text_is j ∷ sym number.text_is j ∷ [])) ++ ([] ++ location_text loc))))
    ∙ (line_says (source.phrase ∷ number.phrase ∷ []) None loc tt at (codes "DBG_PHI") (opcode (codes "DBG_PHI") phi_opcode) [] tt
    ∙ (λ j. Ok (lines.Item (debug_form (codes "DBG_PHI") (source.form_is j ∷ number.form_is j ∷ []) loc))))

kind_says : (kind : ItemKind) (loc : Loc) → KindIsLimited kind → IsOfLanguage false kind → LocIsLimited loc → HasByteNames kind →
    body_line_of false (codes "    " ++ (kind_text kind ++ location_text loc)) ≡ Ok (lines.Item (kind_form kind loc))
kind_says (Code i k) loc is language at names = code_says i k loc language.1 (all_in_language false i.operands is.0 language.0) is.1 at names
kind_says (Mark v m) loc is language at names = mark_says v loc is.0 at m is.1
kind_says (Phi p k) loc is language at names = phi_says p k loc is.0 is.1 at

-- the text of an item that isn't of the linked language has no memory operand
pub plain_text : (i : Item) → IsOfLanguage false i.kind → item_text i ≡ kind_text i.kind ++ location_text i.loc
plain_text i language = ap (λ (b : Bool). with_memory_operand b (kind_text i.kind ++ location_text i.loc)) (by i.kind language) where
  by : (kind : ItemKind) → IsOfLanguage false kind → is_volatile_kind kind ≡ false
  by (Code c k) is = not_volatile c.volatile is.2
  by (Mark v m) is = refl
  by (Phi p k) is = refl

pub lines_say_forms : LinesSayForms
lines_say_forms i is =
    ap (λ (t : List ℕ). body_line_of false (codes "    " ++ t)) (plain_text i is.language) ∙ kind_says i.kind i.loc is.kind is.language is.loc is.names
