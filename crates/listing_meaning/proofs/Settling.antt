-- Where each access of a stack object begins at a byte that the object alone has, nothing is settled otherwise.
use Rattle.std.proofs.Common.{◌≡◌, List, [], ◌∷◌, refl, ap, ◌∙◌}
use Rattle.std.specs.Prelude.{map, All}
use Rattle.std.proofs.lemmas.List.Elements.{All-head, All-tail}
use Rattle.rv64_instr.specs.declared.operand.Operand.{Operand}
use Rattle.mir_func.specs.declared.block.Block.{Block}
use Rattle.mir_func.specs.declared.item.Item.{Item}
use Rattle.mir_func.specs.declared.item.ItemKind.{ItemKind}
use Rattle.mir_func.specs.declared.item.ItemKind.TheVariants.{Code, Mark, Phi}
use Rattle.mir_func.specs.Function.{FramedFunction}
use Rattle.mir_func.specs.Sound.{AllItems, HasForm, ObjectsIn, contents_of}
use Rattle.mir_func.specs.SoundFrame.{IsFramed}
use Rattle.emit_code.specs.steps.Emitted.{IsFormed}
use Rattle.listing_meaning.specs.Settled.{settled, settled_kind, settled_item, StaysInside}
use Rattle.listing_meaning.specs.Laws.{ListingsShowTheItems}
use Rattle.listing_meaning.proofs.Operands.{operands_same}
use Rattle.listing_meaning.proofs.Framing.{function_shown}

module _ (f : FramedFunction) (framed : IsFramed f) where
  kind_same : (kind : ItemKind) → HasForm kind → ObjectsIn f.objects kind → StaysInside f.objects kind → settled_kind f kind ≡ kind
  kind_same (Code c k) form objects inside =
      let operands = operands_same f framed c.op c.operands form objects inside.0 in
      let volatile = inside.1 in
      λ j. Code (record { op = c.op; operands = operands j; volatile = volatile j }) k
  kind_same (Mark v m) form objects inside = refl
  kind_same (Phi p k) form objects inside = refl

  items_same : (items : List Item) → All IsFormed items → All (λ i. ObjectsIn f.objects i.kind) items → All (λ i. StaysInside f.objects i.kind) items →
      map (settled_item f) items ≡ items
  items_same [] forms objects inside = refl
  items_same (i ∷ items) forms objects inside =
      let rest = items_same items (All-tail IsFormed i items forms) (All-tail (λ x. ObjectsIn f.objects x.kind) i items objects)
      (All-tail (λ x. StaysInside f.objects x.kind) i items inside) in
      let kind = kind_same i.kind (All-head IsFormed i items forms) (All-head (λ x. ObjectsIn f.objects x.kind) i items objects)
      (All-head (λ x. StaysInside f.objects x.kind) i items inside) in
      λ k. record { kind = kind k; origin = i.origin; loc = i.loc } ∷ rest k

  blocks_same : (blocks : List Block) → AllItems IsFormed blocks → AllItems (λ i. ObjectsIn f.objects i.kind) blocks →
      AllItems (λ i. StaysInside f.objects i.kind) blocks →
      map contents_of (map (settled f) blocks) ≡ map contents_of blocks
  blocks_same [] forms objects inside = refl
  blocks_same (b ∷ blocks) forms objects inside =
      let rest = blocks_same blocks (All-tail (λ x. All IsFormed x.items) b blocks forms)
      (All-tail (λ x. All (λ i. ObjectsIn f.objects i.kind) x.items) b blocks objects) (All-tail (λ x. All (λ i. StaysInside f.objects i.kind) x.items) b
      blocks inside) in
      let items = items_same b.items (All-head (λ x. All IsFormed x.items) b blocks forms)
      (All-head (λ x. All (λ i. ObjectsIn f.objects i.kind) x.items) b blocks objects) (All-head (λ x. All (λ i. StaysInside f.objects i.kind) x.items) b
      blocks inside) in
      λ k. (b.id, items k) ∷ rest k

pub items_shown_all : ListingsShowTheItems
items_shown_all l variables substitutions framed formed inside =
    function_shown l variables substitutions framed formed ∙ blocks_same l.framed framed l.framed.blocks formed framed.objects inside
