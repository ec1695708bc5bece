-- The lines of a stripped function are those of a document.
use Rattle.std.proofs.Common.{◌≡◌, ℕ, ◌+◌, ◌≤◌, ◌<◌, true, List, [], ◌∷◌, ◌++◌, map, All, Some, refl}
use Rattle.std.proofs.Common.{arith}
use Rattle.std.specs.Prelude.{codes}
use Rattle.std.specs.Fmt.{decimal}
use Rattle.std.proofs.lemmas.Bool.Decides.{nat_tests}
use Rattle.std.proofs.lemmas.List.Elements.{All-nil, All-cons, All-head, All-tail, All-append, All-map, All-weaker}
use Rattle.base_ids.specs.Limits.{MAX_NUMBER}
use Rattle.read_documents.specs.declared.key.Key.TheVariants.{Name, Stack}
use Rattle.read_documents.specs.Key.{heading}
use Rattle.mir_func.specs.declared.block.Block.{Block}
use Rattle.mir_func.specs.declared.item.Item.{Item}
use Rattle.mir_func.specs.declared.object.Object.{Object}
use Rattle.mir_func.specs.Sound.{items_of}
use Rattle.read_declarations.specs.Stack.{is_alignment}
use Rattle.read_program.proofs.Lists.{All-front}
use Rattle.readback_items.specs.Laws.{IsWritable}
use Rattle.readback_items.specs.Body.{label_line, item_line, block_lines, body_lines}
use Rattle.readback_items.proofs.Room.{all_behind}
use Rattle.readback_functions.specs.Document.{IsLine, IsIndented, IsSection, IsDocument}
use Rattle.readback_functions.specs.Declared.{name_line, slot_line, object_line, entry_lines, stack_lines, slot_entry, object_entry, entries_read, IsEntry}
use Rattle.readback_functions.proofs.Items.{block_lines_are_printed}
use Rattle.readback_functions.proofs.Declared.{declared_lines_are_printed}

aligned_small : (n : ℕ) → is_alignment n ≡ true → n ≤ MAX_NUMBER
aligned_small n is = grind (arith, nat_tests, is)

-- ---- the stack

slots_printed : (slots : List ℕ) (objects : List Object) → All IsEntry (entries_read slots objects) → All IsLine (entry_lines slots objects)
slots_printed [] [] all = All-nil IsLine
slots_printed [] (o ∷ os) all =
    let e = All-head IsEntry (object_entry o) (map object_entry os) all in
    All-cons IsLine (object_line o) (map object_line os) (declared_lines_are_printed.objects o e.id e.size (aligned_small o.align e.aligned) e.local)
    (slots_printed [] os (All-tail IsEntry (object_entry o) (map object_entry os) all))
slots_printed (n ∷ slots) objects all =
    All-cons IsLine (slot_line n) (entry_lines slots objects)
    (declared_lines_are_printed.slots n (All-head IsEntry (slot_entry n) (entries_read slots objects) all).id)
    (slots_printed slots objects (All-tail IsEntry (slot_entry n) (entries_read slots objects) all))

entries_indented : (slots : List ℕ) (objects : List Object) → All IsIndented (entry_lines slots objects)
entries_indented slots objects =
    All-append IsIndented (map slot_line slots) (map object_line objects)
    (All-map IsIndented slot_line slots (λ k d lt. (_, refl)))
    (All-map IsIndented object_line objects (λ k d lt. (_, refl)))

pub stack_printed : (slots : List ℕ) (objects : List Object) → All IsEntry (entries_read slots objects) → All IsLine (stack_lines slots objects)
stack_printed [] [] all = All-nil IsLine
stack_printed [] (o ∷ os) all =
    All-cons IsLine (codes "stack:") (entry_lines [] (o ∷ os)) (record { printed = refl; ends = refl }) (slots_printed [] (o ∷ os) all)
stack_printed (n ∷ slots) objects all =
    All-cons IsLine (codes "stack:") (entry_lines (n ∷ slots) objects) (record { printed = refl; ends = refl }) (slots_printed (n ∷ slots) objects all)

pub stack_section : (slots : List ℕ) (objects : List Object) → IsSection Stack (stack_lines slots objects)
unfolding heading
stack_section [] [] = tt
stack_section [] (o ∷ os) = (refl, entries_indented [] (o ∷ os))
stack_section (n ∷ slots) objects = (refl, entries_indented (n ∷ slots) objects)

-- ---- the blocks

items_printed : (items : List Item) → All IsWritable items → All IsLine (map item_line items)
items_printed items all = All-map IsLine item_line items (All-weaker IsWritable (λ i. IsLine (item_line i)) block_lines_are_printed.items items all)

pub blocks_printed : (bs : List Block) → All (λ b. b.id ≤ MAX_NUMBER) bs → All IsWritable (items_of bs) → All IsLine (body_lines bs)
blocks_printed [] ids all = All-nil IsLine
blocks_printed (b ∷ bs) ids all =
    All-append IsLine (block_lines b) (body_lines bs)
    (All-cons IsLine (label_line b.id) (map item_line b.items) (block_lines_are_printed.labels b.id (All-head (λ (x : Block). x.id ≤ MAX_NUMBER) b bs ids))
    (items_printed b.items (All-front IsWritable b.items (items_of bs) all)))
    (blocks_printed bs (All-tail (λ (x : Block). x.id ≤ MAX_NUMBER) b bs ids) (all_behind IsWritable b.items (items_of bs) all))

pub blocks_indented : (bs : List Block) → All IsIndented (body_lines bs)
blocks_indented [] = All-nil IsIndented
blocks_indented (b ∷ bs) =
    All-append IsIndented (block_lines b) (body_lines bs)
    (All-cons IsIndented (label_line b.id) (map item_line b.items) (codes " bb." ++ decimal b.id ++ codes ":", refl)
    (All-map IsIndented item_line b.items (λ k d lt. (_, refl))))
    (blocks_indented bs)

-- ---- all lines

pub name_heading : (name : List ℕ) → heading (name_line name) ≡ Some Name
unfolding heading
name_heading name = refl

pub document_is : (name : List ℕ) (slots : List ℕ) (objects : List Object) (bs : List Block) → All (λ b. b < 256) name →
    All IsEntry (entries_read slots objects) → All (λ (b : Block). b.id ≤ MAX_NUMBER) bs → All IsWritable (items_of bs) →
    IsDocument (record { name = name_line name; stack = stack_lines slots objects; substitutions = []; body = body_lines bs })
document_is name slots objects bs bytes entries ids items =
    let end = body_lines bs ++ codes "..." ∷ [] in
    let behind = stack_lines slots objects ++ codes "body: |" ∷ end in
    record {
      printed = All-cons IsLine (codes "---") (name_line name ∷ behind) (record { printed = refl; ends = refl })
          (All-cons IsLine (name_line name) behind (declared_lines_are_printed.names name bytes)
          (All-append IsLine (stack_lines slots objects) (codes "body: |" ∷ end) (stack_printed slots objects entries)
          (All-cons IsLine (codes "body: |") end (record { printed = refl; ends = refl })
          (All-append IsLine (body_lines bs) (codes "..." ∷ []) (blocks_printed bs ids items)
          (All-cons IsLine (codes "...") [] (record { printed = refl; ends = refl }) (All-nil IsLine))))));
      name = name_heading name;
      stack = stack_section slots objects;
      substitutions = tt;
      body = blocks_indented bs;
    }
