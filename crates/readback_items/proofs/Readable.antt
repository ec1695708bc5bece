-- Each item of a function that was read is readable.
use Rattle.std.proofs.Common.{Bool, ◌≡◌, ◌≤◌, ℕ, List, ◌∷◌, All, length, Result, Ok, Err, refl, sym, ap, subst, inl, inr}
use Rattle.std.proofs.lemmas.List.Elements.{All-map, All-weaker}
use Rattle.read_refusal.specs.declared.first.Refusal.{Refusal}
use Rattle.rv64_instr.specs.declared.op.Op.{Op}
use Rattle.rv64_instr.specs.declared.op.Op.TheVariants.{PseudoCallIndirect}
use Rattle.rv64_instr.specs.declared.operand.Operand.{Operand}
use Rattle.rv64_instr.specs.declared.operand.Operand.TheVariants.{Use}
use Rattle.read_metadata.specs.Maps.{Maps}
use Rattle.read_documents.specs.declared.parts.FunctionDocument.{FunctionDocument}
use Rattle.mir_func.specs.declared.block.Block.{Block}
use Rattle.mir_func.specs.declared.item.Item.{Item}
use Rattle.mir_func.specs.declared.item.ItemKind.{ItemKind}
use Rattle.mir_func.specs.declared.item.ItemKind.TheVariants.{Code, Mark, Phi}
use Rattle.mir_func.specs.declared.location.Loc.{Loc}
use Rattle.mir_func.specs.Function.{Function}
use Rattle.mir_func.specs.Sound.{AllItems, LeavesPointer}
use Rattle.read_body.specs.read_declarations.declared.declarations.Declarations.{Declarations}
use Rattle.read_body.specs.read_declarations.Declarations.{declarations_of}
use Rattle.read_item.specs.Code.{MAX_OPERANDS}
use Rattle.read_body.specs.declared.body.Body.{Body}
use Rattle.read_body.specs.Body.{blocks_of}
use Rattle.read_body.specs.StackEntryKind.{ids_of_objects}
use Rattle.read_program.specs.declared.closing.Parsed.{Parsed}
use Rattle.read_program.specs.BodyLines.{body_of}
use Rattle.read_program.specs.Ends.{gone_operands, kind_not_returning}
use Rattle.read_program.specs.Closing.{Closes, ParsesParts}
use Rattle.read_program.specs.Objects.{item_as, block_as, blocks_as}
use Rattle.read_program.proofs.Bodies.{IsReadBlock}
use Rattle.read_program.proofs.Comes.{ComesFromLine, EndsFromLine, body_reads}
use Rattle.read_program.proofs.Judged.{judged_line}
use Rattle.read_program.proofs.Keeps.{as_gone}
use Rattle.read_program.proofs.Lists.{both}
use Rattle.read_program.proofs.Soundness.{sound_if_ends_well}
use Rattle.readback_items.specs.Code.{IsReadable}
use Rattle.readback_items.specs.Readable.{ItemsAreReadable}
use Rattle.readback_items.proofs.Kept.{IsShort, Kept, line_kept, kept_as, readable}

-- an item that comes from a line
line_is_kept : (linked : Bool) (meta : Maps) (end : Body) (kind : ItemKind) (loc : Loc) → ComesFromLine linked meta end kind loc → Kept meta loc kind
line_is_kept linked meta end kind loc from =
    let line = judged_line linked meta from.form from.item from.judged in
    subst (Kept meta loc) from.kind_is
    (subst (λ (l : Loc). Kept meta l from.item.kind) from.loc_is
    (subst (λ (l : Loc). Kept meta l from.item.kind) (sym line.loc)
    (line_kept linked meta from.form from.item.entries from.item.kind line.line_is)))

-- a call that doesn't return is as short
gone_length : (op : Op) (os : List Operand) → length (gone_operands op os) ≡ length os
gone_length PseudoCallIndirect (Use r ∷ rest) = refl
gone_length op os = refl

gone_kept : (meta : Maps) (kind : ItemKind) (loc : Loc) → Kept meta loc kind → Kept meta loc (kind_not_returning kind)
gone_kept meta (Code i k) loc kept =
    as_gone IsShort i kept (λ form. record {
      form = form;
      few = subst (λ (n : ℕ). n ≤ MAX_OPERANDS) (sym (gone_length i.op i.operands)) kept.few;
    })
gone_kept meta (Mark v m) loc kept = kept
gone_kept meta (Phi p k) loc kept = kept

-- an item of a body that was read
item_kept : (linked : Bool) (meta : Maps) (end : Body) (kind : ItemKind) (loc : Loc) → EndsFromLine linked meta end kind loc → Kept meta loc kind
item_kept linked meta end kind loc from = elim from.is [
  | inl same ↦ subst (Kept meta loc) same (line_is_kept linked meta end from.read loc from.from)
  | inr gone ↦ subst (Kept meta loc) gone.1 (gone_kept meta from.read loc (line_is_kept linked meta end from.read loc from.from))
]

module _ (linked : Bool) (meta : Maps) (end : Body) (ids : List ℕ) where
  abbrev KeptItem : Item → Type 0
  KeptItem i = Kept meta i.loc i.kind

  abbrev Comes : Item → Type 0
  Comes i = EndsFromLine linked meta end i.kind i.loc

  items_kept : (b : Block) → IsReadBlock (EndsFromLine linked meta end) b → All KeptItem (block_as ids b).items
  items_kept b is = All-map KeptItem (item_as ids) b.items
      (All-weaker Comes (λ i. KeptItem (item_as ids i)) (λ i from. kept_as ids meta i.loc i.kind (item_kept linked meta end i.kind i.loc from)) b.items is.each)

  all_kept : (bs : List Block) → All (IsReadBlock (EndsFromLine linked meta end)) bs → AllItems KeptItem (blocks_as ids bs)
  all_kept bs all = All-map (λ (b : Block). All KeptItem b.items) (block_as ids) bs
      (All-weaker (IsReadBlock (EndsFromLine linked meta end)) (λ b. All KeptItem (block_as ids b).items) items_kept bs all)

  all_readable : (bs : List Block) → AllItems KeptItem bs → AllItems (λ i. LeavesPointer i.kind) bs → AllItems (λ i. IsReadable meta i.loc i.kind) bs
  all_readable bs kept pointer =
      All-weaker (λ b. All KeptItem b.items × All (λ i. LeavesPointer i.kind) b.items) (λ (b : Block). All (λ i. IsReadable meta i.loc i.kind) b.items)
      (λ b each. All-weaker (λ i. KeptItem i × LeavesPointer i.kind) (λ (i : Item). IsReadable meta i.loc i.kind)
      (λ i is. readable meta i.loc i.kind is.0 is.1) b.items (both KeptItem (λ i. LeavesPointer i.kind) b.items each.0 each.1)) bs
      (both (λ (b : Block). All KeptItem b.items) (λ (b : Block). All (λ i. LeavesPointer i.kind) b.items) bs kept pointer)

closed_readable : (meta : Maps) (doc : FunctionDocument) (d : Declarations) (body : Body) (p : Parsed) → declarations_of doc ≡ Ok d →
    body_of doc.linked meta doc.body ≡ Ok body → Closes doc.linked doc.closed d body (Ok p) → AllItems (λ i. IsReadable meta i.loc i.kind) p.func.blocks
closed_readable meta doc d body p declared read closes =
    let sound = sound_if_ends_well doc.linked meta doc d body declared read closes.0 closes.3 in
    let is = body_reads doc.linked meta doc.body body read in
    let ids = ids_of_objects body.objects d.stack in
    subst (λ (bs : List Block). AllItems (λ i. IsReadable meta i.loc i.kind) bs) (sym (ap (λ (f : Function). f.blocks) closes.1))
    (all_readable doc.linked meta body ids (blocks_as ids (blocks_of body)) (all_kept doc.linked meta body ids (blocks_of body) is.blocks) sound.pointer)

by_parts : (meta : Maps) (doc : FunctionDocument) (p : Parsed) (d : Result Declarations Refusal) (body : Result Body Refusal) → declarations_of doc ≡ d →
    body_of doc.linked meta doc.body ≡ body → ParsesParts doc.linked doc.closed d body (Ok p) → AllItems (λ i. IsReadable meta i.loc i.kind) p.func.blocks
by_parts meta doc p (Ok d) (Ok body) declared read closes = closed_readable meta doc d body p declared read closes
by_parts meta doc p (Ok d) (Err s) declared read refused = absurd refused
by_parts meta doc p (Err r) (Ok body) declared read refused = absurd refused
by_parts meta doc p (Err r) (Err s) declared read refused = absurd refused

pub items_are_readable : ItemsAreReadable
items_are_readable meta doc p parses = by_parts meta doc p (declarations_of doc) (body_of doc.linked meta doc.body) refl refl parses
