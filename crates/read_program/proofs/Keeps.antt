-- What each item keeps of a body that was read.
use Rattle.std.proofs.Common.{◌≡◌, ℕ, Bool, true, false, cond, List, [], ◌∷◌, All, Option, Some, refl, subst, inl, inr}
use Rattle.std.specs.List.{list_all}
use Rattle.std.proofs.lemmas.Bool.{and_parts}
use Rattle.std.proofs.lemmas.List.Elements.{All-cons, All-tail}
use Rattle.rv64_instr.specs.declared.op.Op.{Op}
use Rattle.rv64_instr.specs.declared.op.Op.TheVariants.{PseudoCall, PseudoCallIndirect}
use Rattle.rv64_instr.specs.declared.operand.Operand.{Operand}
use Rattle.rv64_instr.specs.declared.operand.Operand.TheVariants.{Symbol, Use, ImplicitUse, Mask}
use Rattle.rv64_instr.specs.Form.{has_form, is_call_register, is_last_argument}
use Rattle.rv64_instr.specs.Instruction.{Instruction}
use Rattle.rv64_instr.specs.LocationEffects.{object_named as row_object}
use Rattle.rv64_instr.specs.Row.{row_by, gone_row, implicit_uses, held_gone}
use Rattle.rv64_instr.proofs.Tails.{held_callee}
use Rattle.read_metadata.specs.Maps.{Maps}
use Rattle.mir_func.specs.declared.item.ItemKind.{ItemKind}
use Rattle.mir_func.specs.declared.item.ItemKind.TheVariants.{Code, Mark, Phi}
use Rattle.mir_func.specs.declared.location.Loc.{Loc}
use Rattle.mir_func.specs.Sound.{IsNotPointer}
use Rattle.read_item.specs.Opcode.{is_read, without_return}
use Rattle.read_body.specs.declared.body.Body.{Body}
use Rattle.read_body.specs.FirstUseOrder.{is_met}
use Rattle.read_body.specs.Body.{object_named}
use Rattle.read_program.specs.Ends.{gone_operands, gone_instruction, not_returning, kind_not_returning}
use Rattle.read_program.specs.Limited.{IsLimited, IsOperandOf}
use Rattle.read_program.proofs.Comes.{ComesFromLine, EndsFromLine}
use Rattle.read_program.proofs.Forms.{line_fits}
use Rattle.read_program.proofs.Items.{IsReadItem, item_reads}
use Rattle.read_program.proofs.Judged.{judged_line}
use Rattle.read_program.proofs.Operands.{NamesAmong}

-- ---- an instruction that doesn't return, if it is a call

-- it is as it was, or has the form of one that doesn't return
pub as_gone : (P : Instruction → Type 0) (i : Instruction) → P i →
    (has_form (without_return i.op) (gone_operands i.op i.operands) ≡ true → P (gone_instruction i)) → P (not_returning i)
as_gone P i was gone = by (has_form (without_return i.op) (gone_operands i.op i.operands)) refl where
  by : (b : Bool) → has_form (without_return i.op) (gone_operands i.op i.operands) ≡ b → P (cond b (gone_instruction i) i)
  by true form = gone form
  by false form = was

gone_read : (linked : Bool) (op : Op) → linked ≡ true → is_read linked op ≡ true → is_read linked (without_return op) ≡ true
gone_read linked PseudoCall is read = is
gone_read linked PseudoCallIndirect is read = is
gone_read linked op is read = read

gone_object : (os : List Operand) (n : ℕ) → row_object (gone_row os) ≡ Some n → ⊥
gone_object [] n e = cc
gone_object (Symbol name ∷ rest) n e = cc
gone_object (o ∷ rest) n e = cc

held_object : (rs : List ℕ) (n : ℕ) → row_object (held_gone rs) ≡ Some n → ⊥
held_object [] n e = cc
held_object (r ∷ rest) n e = cc

-- it names no object that it didn't name
object_gone : (op : Op) (os : List Operand) (n : ℕ) → row_object (row_by (without_return op) (gone_operands op os)) ≡ Some n →
    row_object (row_by op os) ≡ Some n
object_gone PseudoCall os n e = absurd (gone_object os n e)
object_gone PseudoCallIndirect os n e = absurd (held_object (implicit_uses (gone_operands PseudoCallIndirect os)) n e)
object_gone op os n e = e

-- what holds of its operands, where it holds of the callee's register as an implicit use
gone_all : (P : Operand → Type 0) (op : Op) (os : List Operand) → ((r : ℕ) → P (ImplicitUse r)) → All P os → All P (gone_operands op os)
gone_all P PseudoCallIndirect (Use r ∷ rest) implicit all = All-cons P (ImplicitUse r) rest (implicit r) (All-tail P (Use r) rest all)
gone_all P op os implicit all = all

gone_limited : (op : Op) (os : List Operand) → has_form (without_return op) (gone_operands op os) ≡ true → All IsLimited os →
    All IsLimited (gone_operands op os)
gone_limited PseudoCallIndirect (Use r ∷ Mask ∷ rest) form all =
    let low = (held_callee r (and_parts (is_call_register r) (list_all is_last_argument rest) form).0).1 in
    All-cons IsLimited (ImplicitUse r) (Mask ∷ rest) low (All-tail IsLimited (Use r) (Mask ∷ rest) all)
gone_limited PseudoCallIndirect (Use r ∷ rest) form all = absurd cc
gone_limited op os form all = all

-- ---- items

-- what an item keeps that a line or the end of its block makes
pub record KeepsItem (linked : Bool) (meta : Maps) (end : Body) (kind : ItemKind) (loc : Loc) : Type 0 where
  pub item : IsReadItem linked meta end.entries kind loc
  pub object : (n : ℕ) → object_named kind ≡ Some n → is_met n end.objects ≡ true

module _ (linked : Bool) (meta : Maps) (end : Body) where
  abbrev Keeps : ItemKind → Loc → Type 0
  Keeps = KeepsItem linked meta end

  from_line : (kind : ItemKind) (loc : Loc) → ComesFromLine linked meta end kind loc → Keeps kind loc
  from_line kind loc from =
      let judged = judged_line linked meta from.form from.item from.judged in
      let is = item_reads linked meta end.entries from.form from.item (line_fits linked from.text from.form from.says) judged from.entries in
      subst (λ (l : Loc). Keeps kind l) from.loc_is
      (subst (λ (k : ItemKind). Keeps k from.item.loc) from.kind_is (record { item = is; object = from.object }))

  code_gone : (i : Instruction) (k : Option ℕ) (loc : Loc) → linked ≡ true → Keeps (Code i k) loc → Keeps (Code (not_returning i) k) loc
  code_gone i k loc is keeps = as_gone (λ (j : Instruction). Keeps (Code j k) loc) i keeps
      (λ form. record {
        item = record {
          form = form;
          limited = (gone_limited i.op i.operands form keeps.item.limited.0, keeps.item.limited.1);
          language = (
            gone_all (IsOperandOf linked) i.op i.operands (λ r. tt) keeps.item.language.0,
            gone_read linked i.op is keeps.item.language.1,
            keeps.item.language.2,
          );
          place = keeps.item.place;
          inlined = tt;
          named = gone_all (NamesAmong end.entries) i.op i.operands (λ r. tt) keeps.item.named;
          pointer = gone_all IsNotPointer i.op i.operands (λ r. tt) keeps.item.pointer;
        };
        object = λ n e. keeps.object n (object_gone i.op i.operands n e);
      })

  kind_gone : (kind : ItemKind) (loc : Loc) → linked ≡ true → Keeps kind loc → Keeps (kind_not_returning kind) loc
  kind_gone (Code i k) loc is keeps = code_gone i k loc is keeps
  kind_gone (Mark v m) loc is keeps = keeps
  kind_gone (Phi p k) loc is keeps = keeps

  -- an item of a body that was read
  pub keeps_item : (kind : ItemKind) (loc : Loc) → EndsFromLine linked meta end kind loc → Keeps kind loc
  keeps_item kind loc from = elim from.is [
    | inl same ↦ subst (λ (k : ItemKind). Keeps k loc) same (from_line from.read loc from.from)
    | inr gone ↦ subst (λ (k : ItemKind). Keeps k loc) gone.1 (kind_gone from.read loc gone.0 (from_line from.read loc from.from))
  ]
