-- What an item keeps where stack entries are read as objects: its numbers, and that its text tells it.
use Rattle.std.proofs.Common.{◌≡◌, ℕ, ℤ, pos, negsuc, ◌<◌, ◌≤◌, Bool, true, false, cond, ◌||◌, eqb, List, [], ◌∷◌, ◌++◌, map, All, Option, Some, None, refl}
use Rattle.std.proofs.Common.{sym, ap, subst, ◌∙◌, arith}
use Rattle.std.specs.Prelude.{IfSome, is_some, IsTrue, int_le}
use Rattle.std.proofs.lemmas.Bool.{and_parts, or_left, or_right, leb-true, false_from_ne_true}
use Rattle.std.proofs.lemmas.List.Elements.{All-map, All-weaker}
use Rattle.rv64_instr.specs.declared.operand.Operand.{Operand}
use Rattle.rv64_instr.specs.declared.operand.Operand.TheVariants.{Def, Use, ImplicitDef, ImplicitUse, Imm, Slot, Object, Part, Outgoing, Block, Symbol, Mask}
use Rattle.rv64_instr.specs.declared.operand.Operand.TheVariants.{GlobalRegisters}
use Rattle.rv64_instr.specs.declared.symbol.Symbol.{Symbol as Linked}
use Rattle.rv64_instr.specs.declared.symbol.Symbol.TheVariants.{Global, Constant as PoolConstant}
use Rattle.rv64_instr.specs.Form.{IsSigned, is_within}
use Rattle.rv64_instr.specs.declared.place.Place.{Place}
use Rattle.rv64_instr.specs.declared.place.Place.TheVariants as place
use Rattle.rv64_instr.specs.Instruction.{Instruction}
use Rattle.rv64_instr.specs.Row.{row_of}
use Rattle.read_metadata.specs.Maps.{Maps}
use Rattle.read_metadata.specs.Metadata.{location_at}
use Rattle.mir_func.specs.declared.item.ItemKind.{ItemKind}
use Rattle.mir_func.specs.declared.item.ItemKind.TheVariants.{Code, Mark, Phi}
use Rattle.mir_func.specs.declared.location.Loc.{Loc}
use Rattle.mir_func.specs.declared.location.Loc.TheVariants.{Absent, Node, Inline}
use Rattle.mir_func.specs.declared.variable.MarkValue.{MarkValue}
use Rattle.mir_func.specs.declared.variable.MarkValue.TheVariants.{Nothing, Constant, At, Pair}
use Rattle.mir_func.specs.declared.object.Object as func
use Rattle.mir_func.specs.Objects.{object_of}
use Rattle.mir_func.specs.Sound.{HasForm}
use Rattle.base_ids.specs.Limits.{MAX_NUMBER, FIXED}
use Rattle.read_program.specs.read_item.Debug.{inlined_at, inlined_at_node}
use Rattle.read_declarations.specs.declared.fixed.FixedEntry.{FixedEntry}
use Rattle.read_declarations.specs.declared.stack.StackEntry.{StackEntry}
use Rattle.read_declarations.specs.Fixed.{fixed_ids}
use Rattle.read_program.specs.read_body.Body.{object_named}
use Rattle.rv64_instr.specs.LocationEffects.{object_named as row_object}
use Rattle.read_program.specs.read_body.StackEntryKind.{objects_of, ids_of_objects}
use Rattle.read_program.specs.read_body.FirstUseOrder.{is_met}
use Rattle.read_program.specs.read_body.FixedObjects.{fixed_object, area_with}
use Rattle.read_program.specs.Closing.{entry_ids, all_objects}
use Rattle.read_program.specs.Objects.{operand_as, operands_as, is_object, place_as, kind_as}
use Rattle.mir_printer.specs.Printable.{IsNumber, HasSymbolNumber, HasNumbers, IsAsDeclared, IsPrintableInstruction, IsPrintablePlace, IsPrintableValue}
use Rattle.mir_printer.specs.Printable.{IsPrintableLoc, Declared}
use Rattle.mir_printer.specs.Printable.{inlined_at as text_inlined_at, IsPrintableKind}
use Rattle.read_program.specs.read_item.Opcode.{is_read}
use Rattle.read_program.specs.Limited.{SymbolIsLimited, IsLimited, ValueIsLimited, PlaceIsLimited, KindIsLimited, LocIsLimited, IsOperandOf, IsOfLanguage}
use Rattle.read_program.proofs.Entries.{object_if_named, ids_are_objects, eqb_turned}
use Rattle.read_program.proofs.FixedObjects.{met_all, with_is}
use Rattle.read_program.proofs.Items.{IsReadItem}
use Rattle.read_program.proofs.Lists.{both}
use Rattle.read_program.proofs.Operands.{NamesAmong, small_text, IsEntryNumber, of_entry, of_fixed, entry_number}
use Rattle.read_program.proofs.Printed.{form_kept, renamed, ObjectsAre, one_object}
use Rattle.read_program.proofs.Renamed.{has_form_as}

-- the small numbers among these are those of stack entries
abbrev pub AllEntries : List StackEntry → List ℕ → Type 0
AllEntries es entries = (n : ℕ) → n ≤ MAX_NUMBER → is_met n entries ≡ true → is_met n (entry_ids es) ≡ true

-- the great ones are those of fixed objects
abbrev pub AllFixed : List FixedEntry → List ℕ → Type 0
AllFixed fixed entries = (n : ℕ) → FIXED ≤ n → is_met n entries ≡ true → is_met n (fixed_ids fixed) ≡ true

-- ---- forms and numbers, in the words of those who need them

limited_number : (n : ℕ) → n ≤ MAX_NUMBER → IsNumber n
limited_number n small = omega (arith, small)

register_number : (r : ℕ) → r < 4128 → IsNumber r
register_number r small = omega (arith, small)

some_number : (n : Option ℕ) → IfSome n (λ k. k ≤ MAX_NUMBER) → IfSome n IsNumber
some_number None small = tt
some_number (Some n) small = limited_number n small

symbol_number : (symbol : Linked) → SymbolIsLimited symbol → HasSymbolNumber symbol
symbol_number (Global name) small = tt
symbol_number (PoolConstant n) small = limited_number n small

addend_signed : (i : ℤ) → is_within (negsuc 2147483647) (pos 2147483647) i ≡ true → IsSigned i
addend_signed (pos n) is =
    let small = leb-true n 2147483647 (and_parts (int_le (negsuc 2147483647) (pos n)) (int_le (pos n) (pos 2147483647)) is).1 in omega (arith, small)
addend_signed (negsuc n) is =
    let small = leb-true n 2147483647 (and_parts (int_le (negsuc 2147483647) (negsuc n)) (int_le (negsuc n) (pos 2147483647)) is).0 in omega (arith, small)

entry_wide : (n : ℕ) → IsEntryNumber n → IsNumber n
entry_wide n (of_entry small) = limited_number n small
entry_wide n (of_fixed great small) = omega (arith, small)

operand_numbers : (o : Operand) → IsLimited o → HasNumbers o
operand_numbers (Def r) small = register_number r small
operand_numbers (Use r) small = register_number r small
operand_numbers (ImplicitDef r) small = register_number r (omega (arith, small))
operand_numbers (ImplicitUse r) small = register_number r (omega (arith, small))
operand_numbers (Imm i) small = small
operand_numbers (Slot n) small = limited_number n small
operand_numbers (Object n) small = entry_wide n (entry_number n small)
operand_numbers (Part half y) small = record { symbol = symbol_number y.symbol small.symbol; addend = addend_signed y.addend small.addend }
operand_numbers (Outgoing n) small = absurd small
operand_numbers GlobalRegisters small = absurd small
operand_numbers (Block n) small = limited_number n small
operand_numbers (Symbol name) small = tt
operand_numbers Mask small = tt

value_printable : (m : MarkValue) → ValueIsLimited m → IsPrintableValue m
value_printable Nothing small = tt
value_printable (Constant i) small = small
value_printable (At r) small = register_number r small
value_printable (Pair q) small = (limited_number q.number small.0, limited_number q.operand small.1)

place_printable : (p : Option Place) → PlaceIsLimited p → IsPrintablePlace p
place_printable None small = tt
place_printable (Some (place.Register r)) small = (small.0, register_number r small.1)
place_printable (Some (place.Slot n)) small = limited_number n small
place_printable (Some (place.Const c)) small = small

loc_printable : (loc : Loc) → LocIsLimited loc → IsPrintableLoc loc
loc_printable Absent small = tt
loc_printable (Node n) small = limited_number n small
loc_printable (Inline l) small = (
  limited_number l.line small.0,
  limited_number l.column small.1,
  limited_number l.scope small.2,
  some_number
      l.inlined_at small.3,
)

-- where a location is inlined, in the metadata
inlined_alike : (meta : Maps) (loc : Loc) → inlined_at meta loc ≡ text_inlined_at (λ n. inlined_at_node (location_at meta n)) loc
inlined_alike meta Absent = refl
inlined_alike meta (Node n) = refl
inlined_alike meta (Inline l) = refl

-- ---- the object of a number, among those of stack entries and fixed ones

found_behind : (os ps : List func.Object) (n : ℕ) → is_some (object_of (os ++ ps) n) ≡ (is_some (object_of os n) || is_some (object_of ps n))
found_behind [] ps n = refl
found_behind (o ∷ os) ps n = by (eqb o.id n) (found_behind os ps n) where
  by : (b : Bool) → is_some (object_of (os ++ ps) n) ≡ (is_some (object_of os n) || is_some (object_of ps n)) →
      is_some (cond b (Some o) (object_of (os ++ ps) n)) ≡ (is_some (cond b (Some o) (object_of os n)) || is_some (object_of ps n))
  by true rest = refl
  by false rest = rest

found_fixed : (area : ℕ) (es : List FixedEntry) (n : ℕ) → is_some (object_of (map (fixed_object area) es) n) ≡ is_met n (fixed_ids es)
found_fixed area [] n = refl
found_fixed area (e ∷ es) n = ap (λ (b : Bool). is_some (cond b (Some (fixed_object area e)) (object_of (map (fixed_object area) es) n))) (eqb_turned e.id n)
    ∙ by (eqb n e.id) (found_fixed area es n) where
      by : (b : Bool) → is_some (object_of (map (fixed_object area) es) n) ≡ is_met n (fixed_ids es) →
          is_some (cond b (Some (fixed_object area e)) (object_of (map (fixed_object area) es) n)) ≡ (b || is_met n (fixed_ids es))
      by true rest = refl
      by false rest = rest

module _ (linked : Bool) (meta : Maps) (named : List ℕ) (es : List StackEntry) (fixed : List FixedEntry) where
  abbrev ids : List ℕ
  ids = ids_of_objects named es

  abbrev objects : ℕ → Bool
  objects n = is_some (object_of (all_objects named es fixed) n)

  -- an object is one of the stack entries or a fixed one
  objects_are : (n : ℕ) → objects n ≡ (is_met n ids || is_met n (fixed_ids fixed))
  objects_are n =
      let own = (objects_of named es).objects in
      ap (λ (os : List func.Object). is_some (object_of os n)) (with_is own fixed)
      ∙ found_behind own (map (fixed_object (area_with own fixed)) fixed) n
      ∙ ap (λ (b : Bool). b || is_some (object_of (map (fixed_object (area_with own fixed)) fixed) n)) (sym (ids_are_objects named n es))
      ∙ ap (λ (b : Bool). is_met n ids || b) (found_fixed (area_with own fixed) fixed n)

  abbrev declared : Declared
  declared = record { objects = objects; inlined = λ n. inlined_at_node (location_at meta n) }

  -- ---- numbers stay

  operand_limited : (o : Operand) → IsLimited o → IsLimited (operand_as ids o)
  operand_limited (Slot n) small = by (is_met n ids) where
    by : (b : Bool) → IsLimited (cond b (Object n) (Slot n))
    by true = small_text n small
    by false = small
  operand_limited (Symbol name) small = tt
  operand_limited Mask small = tt
  operand_limited _ small = small

  place_limited : (p : Option Place) → PlaceIsLimited p → PlaceIsLimited (place_as ids p)
  place_limited None small = tt
  place_limited (Some p) small = by (is_object ids p) where
    by : (b : Bool) → PlaceIsLimited (cond b None (Some p))
    by true = tt
    by false = small

  operands_limited : (os : List Operand) → All IsLimited os → All IsLimited (operands_as ids os)
  operands_limited os all = All-map IsLimited (operand_as ids) os (All-weaker IsLimited (λ o. IsLimited (operand_as ids o)) operand_limited os all)

  kind_limited : (kind : ItemKind) → HasForm kind → KindIsLimited kind → KindIsLimited (kind_as ids kind)
  kind_limited (Code i k) form small =
      subst (λ (j : Instruction). All IsLimited j.operands × IfSome k (λ n. n ≤ MAX_NUMBER)) (sym (renamed ids i form))
      (operands_limited i.operands small.0, small.1)
  kind_limited (Mark v m) form small = small
  kind_limited (Phi p k) form small = (place_limited p small.0, small.1)

  -- ---- items stay of their language

  operand_language : (o : Operand) → IsOperandOf linked o × IsLimited o → IsOperandOf linked (operand_as ids o)
  operand_language (Slot n) is = by (is_met n ids) where
    by : (b : Bool) → IsOperandOf linked (cond b (Object n) (Slot n))
    by true = λ great. absurd (omega (arith, is.1, great))
    by false = tt
  operand_language (Part half y) is = is.0
  operand_language (Object n) is = is.0
  operand_language _ is = tt

  kind_language : (kind : ItemKind) → HasForm kind → IsOfLanguage linked kind → KindIsLimited kind → IsOfLanguage linked (kind_as ids kind)
  kind_language (Code i k) form is small =
      subst (λ (j : Instruction). All (IsOperandOf linked) j.operands × IsTrue (is_read linked j.op) × (j.volatile ≡ true → linked ≡ true))
      (sym (renamed ids i form)) (
        All-map (IsOperandOf linked) (operand_as ids) i.operands
            (All-weaker (λ o. IsOperandOf linked o × IsLimited o) (λ o. IsOperandOf linked (operand_as ids o)) operand_language i.operands
            (both (IsOperandOf linked) IsLimited i.operands is.0 small.0)),
        is.1,
        is.2,
      )
  kind_language (Mark v m) form is small = tt
  kind_language (Phi p k) form is small = tt

  -- ---- operands are as they are declared

  module _ (entries : List ℕ) (found : Option ℕ) (all : AllEntries es entries) (more : AllFixed fixed entries)
      (great : All (λ n. FIXED ≤ n) (fixed_ids fixed)) (code : (n : ℕ) → found ≡ Some n → is_met n named ≡ true) where
    -- a small number is that of no fixed object
    not_fixed : (n : ℕ) → n ≤ MAX_NUMBER → is_met n (fixed_ids fixed) ≡ false
    not_fixed n small = false_from_ne_true (is_met n (fixed_ids fixed))
        (λ is. (let high = met_all (λ k. FIXED ≤ k) (fixed_ids fixed) n great is in omega (arith, small, high)))

    slot_declared : (n : ℕ) (b : Bool) → n ≤ MAX_NUMBER → is_met n ids ≡ b → objects n ≡ b
    slot_declared n true small e = objects_are n ∙ or_left (is_met n ids) (is_met n (fixed_ids fixed)) e
    slot_declared n false small e = objects_are n ∙ ap (λ (b : Bool). b || is_met n (fixed_ids fixed)) e ∙ not_fixed n small

    object_declared : (n : ℕ) → IsEntryNumber n → is_met n entries ≡ true → found ≡ Some n → objects n ≡ true
    object_declared n (of_entry small) met is =
        objects_are n ∙ or_left (is_met n ids) (is_met n (fixed_ids fixed)) (object_if_named named es n (all n small met) (code n is))
    object_declared n (of_fixed high small) met is = objects_are n ∙ or_right (is_met n ids) (is_met n (fixed_ids fixed)) (more n high met)

    abbrev Known : Operand → Type 0
    Known o = (NamesAmong entries o × ObjectsAre found o) × IsLimited o

    operand_declared : (o : Operand) → Known o → IsAsDeclared objects (operand_as ids o)
    operand_declared (Slot n) is = by (is_met n ids) refl where
      by : (b : Bool) → is_met n ids ≡ b → IsAsDeclared objects (cond b (Object n) (Slot n))
      by true e = slot_declared n true is.0.0.0 e
      by false e = slot_declared n false is.0.0.0 e
    operand_declared (Object n) is = object_declared n (entry_number n is.1) is.0.0 is.0.1
    operand_declared _ is = tt

    operands_declared : (os : List Operand) → All (NamesAmong entries) os → All (ObjectsAre found) os → All IsLimited os →
        All (IsAsDeclared objects) (operands_as ids os)
    operands_declared os names objs small = All-map (IsAsDeclared objects) (operand_as ids) os
        (All-weaker Known (λ o. IsAsDeclared objects (operand_as ids o)) operand_declared os
        (both (λ o. NamesAmong entries o × ObjectsAre found o) IsLimited os (both (NamesAmong entries) (ObjectsAre found) os names objs) small))

  -- ---- items

  module _ (entries : List ℕ) (all : AllEntries es entries) (more : AllFixed fixed entries) (great : All (λ n. FIXED ≤ n) (fixed_ids fixed)) where
    kind_printable : (kind : ItemKind) (loc : Loc) → IsReadItem linked meta entries kind loc → ((n : ℕ) → object_named kind ≡ Some n → is_met n named ≡ true) →
        IsPrintableKind declared loc (kind_as ids kind)
    kind_printable (Code i k) loc is code = (
      subst (IsPrintableInstruction objects) (sym (renamed ids i is.form)) (record {
        form = form_kept ids i.op i.operands is.form;
        numbers = All-weaker IsLimited HasNumbers operand_numbers (operands_as ids i.operands) (operands_limited i.operands is.limited.0);
        stack = λ slots. operands_declared entries (row_object (row_of i)) all more great code i.operands is.named (one_object i.op i.operands is.form)
            is.limited.0;
      }),
      some_number k is.limited.1,
    )
    kind_printable (Mark v m) loc is code = (
      record {
        node = limited_number v.node is.limited.0.0;
        inlined = is.inlined ∙ inlined_alike meta loc;
        part = is.limited.0.1;
      },
      value_printable m is.limited.1,
    )
    kind_printable (Phi p k) loc is code = (place_printable (place_as ids p) (place_limited p is.limited.0), limited_number k is.limited.1)

    -- what is kept of an item
    pub record IsKept (kind : ItemKind) (loc : Loc) : Type 0 where
      pub form : HasForm kind
      pub limited : KindIsLimited kind
      pub language : IsOfLanguage linked kind
      pub place : LocIsLimited loc
      pub printable : IsPrintableKind declared loc kind
      pub told : IsPrintableLoc loc

    pub item_kept : (kind : ItemKind) (loc : Loc) → IsReadItem linked meta entries kind loc → ((n : ℕ) → object_named kind ≡ Some n → is_met n named ≡ true) →
        IsKept (kind_as ids kind) loc
    item_kept kind loc is code = record {
      form = has_form_as ids kind is.form;
      limited = kind_limited kind is.form is.limited;
      language = kind_language kind is.form is.language is.limited;
      place = is.place;
      printable = kind_printable kind loc is code;
      told = loc_printable loc is.place;
    }
