-- What blocks keep where stack entries are read as objects.
use Rattle.std.proofs.Common.{◌≡◌, ℕ, Bool, true, false, cond, List, [], ◌∷◌, map, length, All, Option, Some, None, refl, sym, ap}
use Rattle.std.proofs.Common.{◌∙◌, arith}
use Rattle.std.specs.List.{slice_get}
use Rattle.std.specs.Prelude.{option_map}
use Rattle.std.proofs.lemmas.List.{length-map, length-append}
use Rattle.std.proofs.lemmas.List.Elements.{All-map, All-weaker}
use Rattle.std.proofs.lemmas.Option.{slice_get-map}
use Rattle.rv64_instr.specs.Form.{has_form}
use Rattle.rv64_instr.specs.Instruction.{Instruction}
use Rattle.mir_func.specs.declared.block.Block.{Block}
use Rattle.mir_func.specs.declared.item.Item.{Item}
use Rattle.mir_func.specs.declared.item.ItemKind.{ItemKind}
use Rattle.mir_func.specs.declared.item.ItemKind.TheVariants.{Code, Mark, Phi}
use Rattle.mir_func.specs.declared.location.Loc.{Loc}
use Rattle.mir_func.specs.declared.position.Origin.TheVariants.{Kept}
use Rattle.mir_func.specs.Sound.{ids_of, items_of, HasForm}
use Rattle.read_program.specs.Objects.{operands_as, kind_as, item_as, block_as, blocks_as}
use Rattle.read_program.proofs.Bodies.{IsReadBlock}

pub ids_as : (ids : List ℕ) (bs : List Block) → ids_of (blocks_as ids bs) ≡ ids_of bs
ids_as ids [] = refl
ids_as ids (b ∷ bs) = ap (λ (ns : List ℕ). b.id ∷ ns) (ids_as ids bs)

pub items_as : (ids : List ℕ) (bs : List Block) → length (items_of (blocks_as ids bs)) ≡ length (items_of bs)
items_as ids [] = refl
items_as ids (b ∷ bs) =
    length-append (map (item_as ids) b.items) (items_of (blocks_as ids bs))
    ∙ (let rest = items_as ids bs in omega (arith, length-map b.items (item_as ids), rest, length-append b.items (items_of bs)))

-- an instruction has its form still
form_as : (ids : List ℕ) (i : Instruction) → has_form i.op i.operands ≡ true →
    (b : Bool) → has_form i.op (operands_as ids i.operands) ≡ b →
    let renamed = cond b (record i { operands = operands_as ids i.operands }) i in has_form renamed.op renamed.operands ≡ true
form_as ids i form true is = is
form_as ids i form false is = form

pub has_form_as : (ids : List ℕ) (k : ItemKind) → HasForm k → HasForm (kind_as ids k)
has_form_as ids (Code i n) form = form_as ids i form (has_form i.op (operands_as ids i.operands)) refl
has_form_as ids (Mark v m) form = tt
has_form_as ids (Phi p n) form = tt

module _ (P Q : ItemKind → Loc → Type 0) (ids : List ℕ) (each : (k : ItemKind) (loc : Loc) → P k loc → Q (kind_as ids k) loc) where
  block_kept : (b : Block) → IsReadBlock P b → IsReadBlock Q (block_as ids b)
  block_kept b is = record {
    items = λ k i e. found k i (slice_get b.items k) refl (sym (slice_get-map (item_as ids) b.items k) ∙ e);
    source_end = is.source_end ∙ sym (length-map b.items (item_as ids));
    each = All-map (λ i. Q i.kind i.loc) (item_as ids) b.items
        (All-weaker (λ i. P i.kind i.loc) (λ i. Q (kind_as ids i.kind) i.loc) (λ i p. each i.kind i.loc p) b.items is.each);
  } where
    found : (k : ℕ) (i : Item) (o : Option Item) → slice_get b.items k ≡ o → option_map (item_as ids) o ≡ Some i →
        i.origin ≡ Kept (record { block = b.id; item = k })
    found k i None at e = absurd cc
    found k i (Some j) at e = let same : item_as ids j ≡ i = cc in ap (λ (x : Item). x.origin) (sym same) ∙ is.items k j at

  pub blocks_kept : (bs : List Block) → All (IsReadBlock P) bs → All (IsReadBlock Q) (blocks_as ids bs)
  blocks_kept bs all = All-map (IsReadBlock Q) (block_as ids) bs (All-weaker (IsReadBlock P) (λ b. IsReadBlock Q (block_as ids b)) block_kept bs all)
