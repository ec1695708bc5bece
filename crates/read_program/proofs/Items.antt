-- What an item keeps that comes from a line.
use Rattle.std.proofs.Common.{◌≡◌, ℕ, ℤ, pos, negsuc, zero, suc, ◌+◌, ◌<◌, ◌≤◌, Bool, true, false, cond, ◌||◌, eqb, leb, ltb, List, [], ◌∷◌, All, Option, Some, None}
use Rattle.std.proofs.Common.{refl, sym, ap, subst, ◌∙◌, arith}
use Rattle.std.specs.List.{list_any}
use Rattle.std.specs.Prelude.{IfSome}
use Rattle.std.proofs.lemmas.Bool.{or_parts, leb-true, ltb-true, eqb-false, false≢true}
use Rattle.std.proofs.lemmas.List.Elements.{All-weaker}
use Rattle.rv64_instr.specs.declared.op.Op.{Op}
use Rattle.rv64_instr.specs.declared.operand.Operand.{Operand}
use Rattle.rv64_instr.specs.declared.place.Place.{Place}
use Rattle.rv64_instr.specs.declared.place.Place.TheVariants as place
use Rattle.rv64_instr.specs.Instruction.{Instruction}
use Rattle.read_metadata.specs.Maps.{Maps}
use Rattle.mir_func.specs.declared.item.ItemKind.{ItemKind}
use Rattle.mir_func.specs.declared.item.ItemKind.TheVariants.{Code, Mark, Phi}
use Rattle.mir_func.specs.declared.location.Loc.{Loc}
use Rattle.mir_func.specs.declared.location.Loc.TheVariants.{Absent as NoLoc, Node, Inline}
use Rattle.mir_func.specs.declared.variable.MarkValue.{MarkValue}
use Rattle.mir_func.specs.declared.variable.MarkValue.TheVariants.{Nothing, Constant, At}
use Rattle.mir_func.specs.Parts.{IsPart}
use Rattle.mir_func.specs.Sound.{IsNotPointer, LeavesPointer, HasForm}
use Rattle.base_ids.specs.Limits.{MAX_NUMBER}
use Rattle.read_token.specs.declared.lexeme.Flag.{Flag}
use Rattle.read_token.specs.declared.lexeme.Flag.TheVariants as flags
use Rattle.read_token.specs.declared.lexeme.RegisterName.{RegisterName}
use Rattle.read_token.specs.declared.lexeme.RegisterName.TheVariants.{Physical, Absent, Other, Virtual}
use Rattle.read_line.specs.declared.form.Expression.{Expression}
use Rattle.read_line.specs.declared.form.Expression.TheVariants as expression
use Rattle.read_line.specs.declared.form.ItemForm.{ItemForm}
use Rattle.read_line.specs.declared.form.OperandForm.{OperandForm}
use Rattle.read_line.specs.declared.form.OperandForm.TheVariants as form
use Rattle.read_line.specs.Exceeds.{is_beyond, is_some_beyond, register_exceeds, operand_exceeds, loc_exceeds, attributes_exceed, is_wide}
use Rattle.read_item.specs.declared.debug.MarkForm.{MarkForm}
use Rattle.read_item.specs.declared.debug.PhiForm.{PhiForm}
use Rattle.read_item.specs.declared.judged.JudgedItem.{JudgedItem}
use Rattle.read_item.specs.declared.opcode.DebugOpcode.{DebugOpcode}
use Rattle.read_item.specs.declared.opcode.DebugOpcode.TheVariants as debug
use Rattle.read_item.specs.Debug.{register_value, number_value, operand_value, is_direct, is_plain, part_of, is_argument, part_of_argument, value_mark}
use Rattle.read_item.specs.Debug.{pair_value}
use Rattle.read_item.specs.Code.{VIRTUALS}
use Rattle.read_item.specs.Debug.{virtual_value, virtual_place}
use Rattle.read_item.specs.Debug.{reference_mark, list_mark, content_place, register_place, phi_place, counted, phi_by, if_counted, count_in, phi_of}
use Rattle.read_item.specs.Debug.{inlined_at, mark_kind, phi_kind, debug_kind}
use Rattle.read_item.specs.declared.place.OperandKind.TheVariants.{Number as NumberPlace}
use Rattle.read_item.specs.Code.{definitions, placed}
use Rattle.read_item.specs.Address.{address_operands, halves_in}
use Rattle.read_item.specs.Judge.{entry_of, entries_of}
use Rattle.read_body.specs.FirstUseOrder.{is_met}
use Rattle.read_item.specs.Opcode.{is_read}
use Rattle.read_program.specs.Limited.{IsLimited, ValueIsLimited, PlaceIsLimited, KindIsLimited, LocIsLimited, IsOperandOf, IsOfLanguage}
use Rattle.read_program.proofs.Lexemes.{NameFits}
use Rattle.read_program.proofs.Forms.{AllOf, FormFits, IntegerFits, ExpressionFits, ItemFits}
use Rattle.read_program.proofs.Judged.{IsCodeLine, IsAddressLine, IsItemLine, of_code, of_debug, of_upper, of_lower, IsJudged}
use Rattle.read_program.proofs.Halves.{IsReadCode, halves_read}
use Rattle.read_program.proofs.Operands.{NamesAmong, IsLimitedIn, limited_in, language_in, IsReadOperand, IsReadForm, within_limit, definitions_read}
use Rattle.read_program.proofs.Operands.{placed_read, joined_reads, operands_read}
use Rattle.read_program.proofs.Operands.{forms_read, head_met, tail_met}

-- ---- what an item keeps

-- the stack entries and fixed objects that an item names are among these
abbrev pub KindNamesAmong : List ℕ → ItemKind → Type 0
KindNamesAmong entries (Code i k) = All (NamesAmong entries) i.operands
KindNamesAmong entries (Mark v m) = Unit {0}
KindNamesAmong entries (Phi None k) = Unit {0}
KindNamesAmong entries (Phi (Some (place.Slot n)) k) = (n ≤ MAX_NUMBER) × (is_met n entries ≡ true)
KindNamesAmong entries (Phi (Some (place.Register r)) k) = Unit {0}
KindNamesAmong entries (Phi (Some (place.Const c)) k) = Unit {0}

-- a mark's variable is inlined where its location is
abbrev pub InlinedAs : Maps → Loc → ItemKind → Type 0
InlinedAs meta loc (Code i k) = Unit {0}
InlinedAs meta loc (Mark v m) = v.inlined_at ≡ inlined_at meta loc
InlinedAs meta loc (Phi p k) = Unit {0}

pub record IsReadItem (linked : Bool) (meta : Maps) (entries : List ℕ) (kind : ItemKind) (loc : Loc) : Type 0 where
  pub form : HasForm kind
  pub limited : KindIsLimited kind
  pub language : IsOfLanguage linked kind
  pub place : LocIsLimited loc
  pub inlined : InlinedAs meta loc kind
  pub named : KindNamesAmong entries kind
  pub pointer : LeavesPointer kind

-- ---- the parts of a debug line

-- an operand of a debug line
pub record IsDebugForm (linked : Bool) (entries : List ℕ) (o : OperandForm) : Type 0 where
  pub fits : FormFits linked o
  pub within : operand_exceeds o ≡ false
  pub named : (n : ℕ) → entry_of o ≡ Some n → is_met n entries ≡ true

debug_forms : (linked : Bool) (entries : List ℕ) (os : List OperandForm) → AllOf (FormFits linked) os → list_any operand_exceeds os ≡ false →
    ((n : ℕ) → is_met n (entries_of os) ≡ true → is_met n entries ≡ true) → AllOf (IsDebugForm linked entries) os
debug_forms linked entries [] fits within met = tt
debug_forms linked entries (o ∷ os) fits within met =
    let inside = or_parts (operand_exceeds o) (list_any operand_exceeds os) within in (
      record { fits = fits.0; within = inside.0; named = head_met (entry_of o) (entries_of os) entries met },
      debug_forms linked entries os fits.1 inside.1 (tail_met (entry_of o) (entries_of os) entries met),
    )

pub record IsReadMark (m : MarkForm) : Type 0 where
  pub node : m.node ≤ MAX_NUMBER
  pub part : IfSome m.fragment IsPart
  pub value : ValueIsLimited m.value

one_value : (b : Bool) (x y : MarkValue) → (b ≡ true → ValueIsLimited x) → (b ≡ false → ValueIsLimited y) → ValueIsLimited (cond b x y)
one_value true x y p q = p refl
one_value false x y p q = q refl

register_limited : (flag : Flag) (name : RegisterName) → NameFits name → ValueIsLimited (register_value flag name)
register_limited flags.Plain (Physical r) fits = one_value (eqb r 0) (Constant (pos 0)) (cond (eqb r 2) Nothing (At r)) (λ e. omega arith)
    (λ e. one_value (eqb r 2) Nothing (At r) (λ f. tt) (λ f. omega (arith, fits)))
register_limited flags.Plain Absent fits = tt
register_limited flags.Plain Other fits = tt
register_limited flags.Plain (Virtual n) fits = by (ltb n VIRTUALS) refl where
  by : (b : Bool) → ltb n VIRTUALS ≡ b → ValueIsLimited (virtual_value (cond b (Some (32 + n)) None))
  by true is = let small = ltb-true n VIRTUALS is in omega (arith, small)
  by false is = tt
register_limited flags.Implicit name fits = tt
register_limited flags.ImplicitDef name fits = tt

number_limited : (i : Option ℤ) → IntegerFits i → ValueIsLimited (number_value i)
number_limited None fits = tt
number_limited (Some i) fits = fits

operand_limited : (linked : Bool) (entries : List ℕ) (o : OperandForm) → IsDebugForm linked entries o → ValueIsLimited (operand_value o)
operand_limited linked entries (form.Register r) is = register_limited r.flag r.name is.fits
operand_limited linked entries (form.Integer i) is = number_limited i is.fits
operand_limited linked entries (form.Slot n) is = tt
operand_limited linked entries (form.Fixed n) is = tt
operand_limited linked entries (form.Part half a) is = tt
operand_limited linked entries (form.Address a) is = tt
operand_limited linked entries form.Literal is = tt
operand_limited linked entries (form.Block n) is = tt
operand_limited linked entries (form.Symbol name) is = tt
operand_limited linked entries form.Mask is = tt
operand_limited linked entries (form.Node n) is = tt
operand_limited linked entries (form.Expression e) is = tt
operand_limited linked entries (form.Reference p) is = tt

part_fits : (e : Expression) → ExpressionFits e → IfSome (part_of e) IsPart
part_fits expression.Empty fits = tt
part_fits expression.Argument fits = tt
part_fits (expression.Part f) fits = fits
part_fits (expression.PartOfArgument f) fits = tt
part_fits expression.Other fits = tt

argument_part_fits : (e : Expression) → ExpressionFits e → IfSome (part_of_argument e) IsPart
argument_part_fits expression.Empty fits = tt
argument_part_fits expression.Argument fits = tt
argument_part_fits (expression.Part f) fits = fits
argument_part_fits (expression.PartOfArgument f) fits = fits
argument_part_fits expression.Other fits = tt

value_reads : (linked : Bool) (entries : List ℕ) (os : List OperandForm) (m : MarkForm) → AllOf (IsDebugForm linked entries) os → value_mark os ≡ Some m →
    IsReadMark m
value_reads linked entries (p ∷ q ∷ form.Node v ∷ form.Expression x ∷ []) m is e =
    let same : record { node = v; fragment = part_of x; value = cond (is_plain x) (cond (is_direct q) (operand_value p) Nothing) Nothing } ≡ m = cc in
    subst IsReadMark same (record {
      node = within_limit v is.1.1.0.within;
      part = part_fits x is.1.1.1.0.fits;
      value = one_value (is_plain x) (cond (is_direct q) (operand_value p) Nothing) Nothing
          (λ plain. one_value (is_direct q) (operand_value p) Nothing (λ direct. operand_limited linked entries p is.0) (λ direct. tt)) (λ plain. tt);
    })
value_reads linked entries os m is e = absurd cc

pair_limited : (linked : Bool) (entries : List ℕ) (os : List OperandForm) → AllOf (IsDebugForm linked entries) os → ValueIsLimited (pair_value os)
pair_limited linked entries (form.Reference p ∷ []) is =
    let parts = or_parts (is_beyond p.number) (is_beyond p.operand) is.0.within in (within_limit p.number parts.0, within_limit p.operand parts.1)
pair_limited linked entries os is = tt

reference_reads : (linked : Bool) (entries : List ℕ) (os : List OperandForm) (m : MarkForm) → AllOf (IsDebugForm linked entries) os →
    reference_mark os ≡ Some m → IsReadMark m
reference_reads linked entries (form.Node v ∷ form.Expression x ∷ rest) m is e =
    let same : record { node = v; fragment = part_of_argument x; value = cond (is_argument x) (pair_value rest) Nothing } ≡ m = cc in
    subst IsReadMark same (record {
      node = within_limit v is.0.within;
      part = argument_part_fits x is.1.0.fits;
      value = one_value (is_argument x) (pair_value rest) Nothing (λ argument. pair_limited linked entries rest is.1.1) (λ argument. tt);
    })
reference_reads linked entries os m is e = absurd cc

list_reads : (linked : Bool) (entries : List ℕ) (os : List OperandForm) (m : MarkForm) → AllOf (IsDebugForm linked entries) os → list_mark os ≡ Some m →
    IsReadMark m
list_reads linked entries (form.Node v ∷ form.Expression x ∷ rest) m is e =
    let same : record { node = v; fragment = None; value = Nothing } ≡ m = cc in
    subst IsReadMark same (record { node = within_limit v is.0.within; part = tt; value = tt })
list_reads linked entries os m is e = absurd cc

-- ---- phis

pub record IsReadPlace (entries : List ℕ) (p : Option Place) : Type 0 where
  pub limited : PlaceIsLimited p
  pub named : (k : ℕ) → KindNamesAmong entries (Phi p k)

place_is : (entries : List ℕ) (p q : Option Place) → ◌≡◌ {A = Option (Option Place)} (Some p) (Some q) → IsReadPlace entries p → IsReadPlace entries q
place_is entries p q e is = let same : p ≡ q = cc in subst (IsReadPlace entries) same is

content_reads : (entries : List ℕ) (r : ℕ) → r < 32 → IsReadPlace entries (content_place r)
content_reads entries r small = by (eqb r 0) (eqb r 2) refl where
  by : (b c : Bool) → eqb r 0 ≡ b → IsReadPlace entries (cond b (Some (place.Const (pos 0))) (cond c None (Some (place.Register r))))
  by true c is = record { limited = refl; named = λ k. tt }
  by false true is = record { limited = tt; named = λ k. tt }
  by false false is = record { limited = (let other = eqb-false r 0 is in positive r other, omega (arith, small)); named = λ k. tt } where
    positive : (n : ℕ) → (n ≡ 0 → ⊥) → 0 < n
    positive zero other = absurd (other refl)
    positive (suc n) other = omega arith

register_place_reads : (entries : List ℕ) (flag : Flag) (name : RegisterName) (p : Option Place) → NameFits name → register_place flag name ≡ Some p →
    IsReadPlace entries p
register_place_reads entries flags.Plain (Physical r) p fits e = place_is entries (content_place r) p e (content_reads entries r fits)
register_place_reads entries flags.Plain Absent p fits e = place_is entries None p e (record { limited = tt; named = λ k. tt })
register_place_reads entries flags.Plain Other p fits e = absurd cc
register_place_reads entries flags.Plain (Virtual n) p fits e = by (ltb n VIRTUALS) refl e where
  by : (b : Bool) → ltb n VIRTUALS ≡ b → virtual_place (cond b (Some (32 + n)) None) ≡ Some p → IsReadPlace entries p
  by true is e =
      let small = ltb-true n VIRTUALS is in
      place_is entries (Some (place.Register (32 + n))) p e (record { limited = (omega arith, omega (arith, small)); named = λ k. tt })
  by false is e = absurd cc
register_place_reads entries flags.Implicit name p fits e = absurd cc
register_place_reads entries flags.ImplicitDef name p fits e = absurd cc

place_reads : (linked : Bool) (entries : List ℕ) (o : OperandForm) (p : Option Place) → IsDebugForm linked entries o → phi_place o ≡ Some p →
    IsReadPlace entries p
place_reads linked entries (form.Register r) p is e = register_place_reads entries r.flag r.name p is.fits e
place_reads linked entries (form.Slot n) p is e =
    place_is entries (Some (place.Slot n)) p e (record {
      limited = within_limit n is.within;
      named = λ k. (within_limit n is.within, is.named n refl);
    })
place_reads linked entries (form.Fixed n) p is e = place_is entries None p e (record { limited = tt; named = λ k. tt })
place_reads linked entries (form.Part half a) p is e = absurd cc
place_reads linked entries (form.Address a) p is e = absurd cc
place_reads linked entries form.Literal p is e = absurd cc
place_reads linked entries (form.Integer i) p is e = absurd cc
place_reads linked entries (form.Block n) p is e = absurd cc
place_reads linked entries (form.Symbol name) p is e = absurd cc
place_reads linked entries form.Mask p is e = absurd cc
place_reads linked entries (form.Node n) p is e = absurd cc
place_reads linked entries (form.Expression x) p is e = absurd cc
place_reads linked entries (form.Reference r) p is e = absurd cc

counted_limited : (i : ℤ) (n : ℕ) → counted i ≡ Some n → n ≤ MAX_NUMBER
counted_limited (pos m) n e = by (leb m MAX_NUMBER) refl e where
  by : (b : Bool) → leb m MAX_NUMBER ≡ b → cond b (Some m) None ≡ Some n → n ≤ MAX_NUMBER
  by true is e = let same : m ≡ n = cc in subst (λ (x : ℕ). x ≤ MAX_NUMBER) same (leb-true m MAX_NUMBER is)
  by false is e = absurd cc
counted_limited (negsuc m) n e = absurd cc

count_limited : (o : OperandForm) (n : ℕ) → count_in o ≡ Some n → n ≤ MAX_NUMBER
count_limited (form.Integer (Some i)) n e = counted_limited i n e
count_limited o n e = absurd cc

pub record IsReadPhi (entries : List ℕ) (p : PhiForm) : Type 0 where
  pub place : IsReadPlace entries p.place
  pub number : p.number ≤ MAX_NUMBER

phi_by_reads : (entries : List ℕ) (place : Option (Option Place)) (number : Option ℕ) (p : PhiForm) → phi_by place number ≡ Some p →
    ((q : Option Place) → place ≡ Some q → IsReadPlace entries q) → ((n : ℕ) → number ≡ Some n → n ≤ MAX_NUMBER) → IsReadPhi entries p
phi_by_reads entries (Some q) (Some n) p e place number =
    let same : record { place = q; number = n } ≡ p = cc in subst (IsReadPhi entries) same (record { place = place q refl; number = number n refl })
phi_by_reads entries (Some q) None p e place number = absurd cc
phi_by_reads entries None n p e place number = absurd cc

if_counted_some : {A : Type 0} (n : Option ℕ) (a : Option A) (x : A) → if_counted n a ≡ Some x → a ≡ Some x
if_counted_some None a x e = absurd cc
if_counted_some (Some n) a x e = e

phi_reads : (linked : Bool) (entries : List ℕ) (os : List OperandForm) (p : PhiForm) → AllOf (IsDebugForm linked entries) os → phi_of os ≡ Some p →
    IsReadPhi entries p
phi_reads linked entries [] p is e = absurd cc
phi_reads linked entries (o ∷ []) p is e = absurd cc
phi_reads linked entries (o ∷ k ∷ []) p is e = phi_by_reads entries (phi_place o) (count_in k) p e (λ q f. place_reads linked entries o q is.0 f)
    (count_limited k)
phi_reads linked entries (o ∷ k ∷ bits ∷ []) p is e =
    phi_by_reads entries (phi_place o) (count_in k) p (if_counted_some (count_in bits) (phi_by (phi_place o) (count_in k)) p e)
    (λ q f. place_reads linked entries o q is.0 f) (count_limited k)
phi_reads linked entries (o ∷ k ∷ bits ∷ more ∷ rest) p is e = absurd cc

-- ---- items

-- what isn't beyond the limits of a line
pub record IsWithin (line : ItemForm) : Type 0 where
  pub operands : list_any operand_exceeds line.operands ≡ false
  pub number : is_some_beyond line.number ≡ false
  pub loc : loc_exceeds line.loc ≡ false

line_within : (linked : Bool) (line : ItemForm) → ItemFits linked line → line.exceeds ≡ false → IsWithin line
line_within linked line fits within =
    let wide = or_parts (list_any is_wide fits.lexemes) (list_any register_exceeds line.definitions || (list_any operand_exceeds line.operands
    || attributes_exceed (record { number = line.number; loc = line.loc }))) (sym fits.exceeds ∙ within) in
    let set' = or_parts (list_any register_exceeds line.definitions) (list_any operand_exceeds line.operands
    || attributes_exceed (record { number = line.number; loc = line.loc })) wide.1 in
    let used' = or_parts (list_any operand_exceeds line.operands) (attributes_exceed (record { number = line.number; loc = line.loc })) set'.1 in
    let last = or_parts (is_some_beyond line.number) (loc_exceeds line.loc) used'.1 in
    record { operands = used'.0; number = last.0; loc = last.1 }

some_limited : (n : Option ℕ) → is_some_beyond n ≡ false → IfSome n (λ k. k ≤ MAX_NUMBER)
some_limited None within = tt
some_limited (Some k) within = within_limit k within

loc_limited : (loc : Loc) → loc_exceeds loc ≡ false → LocIsLimited loc
loc_limited NoLoc within = tt
loc_limited (Node n) within = within_limit n within
loc_limited (Inline l) within =
    let line = or_parts (is_beyond l.line) (is_beyond l.column || (is_beyond l.scope || is_some_beyond l.inlined_at)) within in
    let column = or_parts (is_beyond l.column) (is_beyond l.scope || is_some_beyond l.inlined_at) line.1 in
    let scope = or_parts (is_beyond l.scope) (is_some_beyond l.inlined_at) column.1 in
    (within_limit l.line line.0, within_limit l.column column.0, within_limit l.scope scope.0, some_limited l.inlined_at scope.1)

pub record IsReadKind (linked : Bool) (meta : Maps) (entries : List ℕ) (loc : Loc) (kind : ItemKind) : Type 0 where
  pub form : HasForm kind
  pub limited : KindIsLimited kind
  pub language : IsOfLanguage linked kind
  pub inlined : InlinedAs meta loc kind
  pub named : KindNamesAmong entries kind
  pub pointer : LeavesPointer kind

code_reads : (linked : Bool) (meta : Maps) (entries : List ℕ) (loc : Loc) (op : Op) (line : ItemForm) (instr : Instruction) → ItemFits linked line →
    is_read linked op ≡ true →
    IsCodeLine op line instr →
    ((n : ℕ) → is_met n (entries_of line.operands) ≡ true → is_met n entries ≡ true) → IsReadKind linked meta entries loc (Code instr line.number)
code_reads linked meta entries loc op line instr fits may is met =
    let within = line_within linked line fits is.within in
    let all = operands_read linked entries op line instr.operands fits.definitions is.set_others
    (forms_read linked entries line.operands fits.operands within.operands is.used_others met) is.operands in
    record {
      form = is.form;
      limited = (
        All-weaker (IsReadOperand linked entries) IsLimited (λ o r. limited_in linked o r.limited) instr.operands all,
        some_limited line.number within.number,
      );
      language = (
        All-weaker (IsReadOperand linked entries) (IsOperandOf linked) (λ o r. language_in linked o r.limited) instr.operands all,
        ap (is_read linked) is.op_is ∙ may,
        λ e. fits.volatile (is.volatile e),
      );
      inlined = tt;
      named = All-weaker (IsReadOperand linked entries) (NamesAmong entries) (λ o r. r.named) instr.operands all;
      pointer = All-weaker (IsReadOperand linked entries) IsNotPointer (λ o r. r.pointer) instr.operands all;
    }

mark_reads : (linked : Bool) (meta : Maps) (entries : List ℕ) (loc : Loc) (m : Option MarkForm) (kind : ItemKind) →
    mark_kind (inlined_at meta loc) m ≡ Some kind →
    ((x : MarkForm) → m ≡ Some x → IsReadMark x) → IsReadKind linked meta entries loc kind
mark_reads linked meta entries loc None kind e read = absurd cc
mark_reads linked meta entries loc (Some m) kind e read =
    let same : Mark (record { node = m.node; inlined_at = inlined_at meta loc; fragment = m.fragment }) m.value ≡ kind = cc in
    let is = read m refl in
    subst (IsReadKind linked meta entries loc) same (record {
      form = tt;
      limited = ((is.node, is.part), is.value);
      language = tt;
      inlined = refl;
      named =
          tt;
      pointer = tt;
    })

phi_kind_reads : (linked : Bool) (meta : Maps) (entries : List ℕ) (loc : Loc) (p : Option PhiForm) (kind : ItemKind) → phi_kind p ≡ Some kind →
    ((x : PhiForm) → p ≡ Some x → IsReadPhi entries x) → IsReadKind linked meta entries loc kind
phi_kind_reads linked meta entries loc None kind e read = absurd cc
phi_kind_reads linked meta entries loc (Some p) kind e read =
    let same : Phi p.place p.number ≡ kind = cc in
    let is = read p refl in
    subst (IsReadKind linked meta entries loc) same
    (record { form = tt; limited = (is.place.limited, is.number); language = tt; inlined = tt; named = is.place.named p.number; pointer = tt })

debug_reads : (linked : Bool) (meta : Maps) (entries : List ℕ) (op : DebugOpcode) (line : ItemForm) (kind : ItemKind) →
    AllOf (IsDebugForm linked entries) line.operands →
    debug_kind op meta line ≡ Some kind → IsReadKind linked meta entries line.loc kind
debug_reads linked meta entries debug.Value line kind forms e =
    mark_reads linked meta entries line.loc (value_mark line.operands) kind e (λ x is. value_reads linked entries line.operands x forms is)
debug_reads linked meta entries debug.InstrRef line kind forms e =
    mark_reads linked meta entries line.loc (reference_mark line.operands) kind e (λ x is. reference_reads linked entries line.operands x forms is)
debug_reads linked meta entries debug.ValueList line kind forms e =
    mark_reads linked meta entries line.loc (list_mark line.operands) kind e (λ x is. list_reads linked entries line.operands x forms is)
debug_reads linked meta entries debug.Phi line kind forms e =
    phi_kind_reads linked meta entries line.loc (phi_of line.operands) kind e (λ x is. phi_reads linked entries line.operands x forms is)

-- the two instructions of an address
address_reads : (linked : Bool) (entries : List ℕ) (line : ItemForm) (p : Instruction × Instruction) → ItemFits linked line → IsAddressLine line p →
    IsReadCode linked entries p.0 × IsReadCode linked entries p.1
address_reads linked entries line p fits is = by (address_operands line) refl is.halves where
  own : List ℕ
  own = entries_of line.operands

  forms : AllOf (IsReadForm linked own) line.operands
  forms = forms_read linked own line.operands fits.operands (line_within linked line fits is.within).operands is.used_others (λ n e. e)

  by : (o : Option (List Operand)) → address_operands line ≡ o → halves_in o ≡ Some p → IsReadCode linked entries p.0 × IsReadCode linked entries p.1
  by None there e = absurd cc
  by (Some os) there e =
      halves_read linked entries own os p
      (joined_reads linked own (definitions line.definitions) (placed (NumberPlace ∷ NumberPlace ∷ []) line.operands) os there
      (λ ys i. definitions_read linked own line.definitions ys fits.definitions is.set_others i)
      (λ ys i. placed_read linked own (NumberPlace ∷ NumberPlace ∷ []) line.operands ys forms i)) e

code_kind : (linked : Bool) (meta : Maps) (entries : List ℕ) (loc : Loc) (i : Instruction) (k : Option ℕ) → IsReadCode linked entries i →
    IfSome k (λ n. n ≤ MAX_NUMBER) → IsReadKind linked meta entries loc (Code i k)
code_kind linked meta entries loc i k is small = record {
  form = is.form;
  limited = (All-weaker (IsLimitedIn linked) IsLimited (limited_in linked) i.operands is.limited, small);
  language = (All-weaker (IsLimitedIn linked) (IsOperandOf linked) (language_in linked) i.operands is.limited, is.read, λ e. absurd (false≢true (sym is.plain ∙ e)));
  inlined = tt;
  named = is.named;
  pointer = is.pointer;
}

-- what a line within its limits says
record IsSaid (linked : Bool) (meta : Maps) (entries : List ℕ) (line : ItemForm) (kind : ItemKind) : Type 0 where
  is : IsReadKind linked meta entries line.loc kind
  within : line.exceeds ≡ false

kind_reads : (linked : Bool) (meta : Maps) (entries own : List ℕ) (line : ItemForm) (kind : ItemKind) → ItemFits linked line →
    ((n : ℕ) → is_met n own ≡ true → is_met n entries ≡ true) → IsItemLine linked meta line own kind → IsSaid linked meta entries line kind
kind_reads linked meta entries own line _ fits met (of_code {op} {instr} same may code) =
    record {
      is = code_reads linked meta entries line.loc op line instr fits may code (λ n e. met n (ap (is_met n) same ∙ e));
      within = code.within;
    }
kind_reads linked meta entries own line kind fits met (of_debug {op} same said) =
    record {
      is = debug_reads linked meta entries op line kind (debug_forms linked entries line.operands fits.operands
          (line_within linked line fits said.within).operands (λ n e. met n (ap (is_met n) same ∙ e))) said.kind_is;
      within = said.within;
    }
kind_reads linked meta entries own line _ fits met (of_upper {p} may said) =
    record { is = code_kind linked meta entries line.loc p.0 None (address_reads linked entries line p fits said).0 tt; within = said.within }
kind_reads linked meta entries own line _ fits met (of_lower {p} may said) =
    record {
      is = code_kind linked meta entries line.loc p.1 line.number (address_reads linked entries line p fits said).1
          (some_limited line.number (line_within linked line fits said.within).number);
      within = said.within;
    }

-- an item that comes from a line
pub item_reads : (linked : Bool) (meta : Maps) (entries : List ℕ) (line : ItemForm) (j : JudgedItem) → ItemFits linked line → IsJudged linked meta line j →
    ((n : ℕ) → is_met n j.entries ≡ true → is_met n entries ≡ true) → IsReadItem linked meta entries j.kind j.loc
item_reads linked meta entries line j fits is met =
    let said = kind_reads linked meta entries j.entries line j.kind fits met is.line_is in
    subst (λ (loc : Loc). IsReadItem linked meta entries j.kind loc) (sym is.loc) (record {
      form = said.is.form;
      limited = said.is.limited;
      language = said.is.language;
      place = loc_limited line.loc (line_within linked line fits said.within).loc;
      inlined = said.is.inlined;
      named = said.is.named;
      pointer = said.is.pointer;
    })
