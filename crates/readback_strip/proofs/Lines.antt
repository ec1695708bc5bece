-- The text of a function is that of the lines of its document.
use Rattle.std.proofs.Common.{◌≡◌, ℕ, ℤ, ◌+◌, Bool, true, false, not, cond, ◌&&◌, ◌||◌, List, [], ◌∷◌, ◌++◌, map, Option, Some, None, refl, sym, ap, ◌∙◌}
use Rattle.std.proofs.Common.{append_assoc, append-nil}
use Rattle.std.specs.Prelude.{codes, is_some, is_none}
use Rattle.std.specs.Fmt.{decimal}
use Rattle.std.specs.List.{flat_map, list_any}
use Rattle.std.proofs.lemmas.List.Concat.{flat_map-append}
use Rattle.std.proofs.lemmas.List.Elements.{All-head, All-tail}
use Rattle.mir_func.specs.declared.block.Block.{Block}
use Rattle.mir_func.specs.declared.item.Item.{Item}
use Rattle.mir_func.specs.declared.object.Object.{Object}
use Rattle.mir_func.specs.Function.{Function}
use Rattle.mir_func.specs.Objects.{HasNoFixed}
use Rattle.mir_func_printer.specs.FuncText.{name_text, slot_line as slot_text, local_text, object_numbers, object_line as object_text, stack_text}
use Rattle.mir_func_printer.specs.FuncText.{own_line, stack_line as own_text, fixed_stack_line, is_fixed, is_own, fixed_text, document_with}
use Rattle.mir_func_printer.specs.FuncText.{stack_and_body}
use Rattle.mir_func_printer.specs.FuncText.{item_line as item_line_text, block_text}
use Rattle.mir_func_printer.specs.FuncText.{func_text}
use Rattle.readback_functions.specs.readback_items.Body.{label_line, item_line, block_lines, body_lines}
use Rattle.readback_functions.specs.Document.{fed, text_of_lines, document_lines}
use Rattle.readback_functions.specs.Declared.{name_line, slot_line, line_end, object_line, entry_lines, stack_lines}
use Rattle.readback_functions.specs.Stripped.{document_of}

pub fed_both : (xs ys : List (List ℕ)) → text_of_lines (xs ++ ys) ≡ text_of_lines xs ++ text_of_lines ys
fed_both xs ys = flat_map-append fed xs ys

-- ---- the stack

slot_fed : (n : ℕ) → fed (slot_line n) ≡ slot_text n
slot_fed n = ap (λ (l : List ℕ). codes "  - { id: " ++ l) (append_assoc (decimal n) (codes ", size: 8 }") (10 ∷ []))

slots_fed : (slots : List ℕ) → text_of_lines (map slot_line slots) ≡ flat_map slot_text slots
slots_fed [] = refl
slots_fed (n ∷ slots) = λ i. slot_fed n i ++ slots_fed slots i

-- the end of an object's line
end_fed : (l : Option ℕ) → line_end l ++ 10 ∷ [] ≡ local_text l ++ (codes " }" ++ 10 ∷ [])
end_fed None = refl
end_fed (Some k) = simp append_assoc

object_fed : (o : Object) → fed (object_line o) ≡ object_text o
object_fed o =
    let numbers : fed (object_line o) ≡ object_numbers o ++ (line_end o.local_offset ++ 10 ∷ []) = simp append_assoc in
    numbers
    ∙ (ap (λ (l : List ℕ). object_numbers o ++ l) (end_fed o.local_offset)
    ∙ sym (append_assoc (object_numbers o) (local_text o.local_offset) (codes " }" ++ 10 ∷ [])))

objects_fed : (objects : List Object) → text_of_lines (map object_line objects) ≡ flat_map object_text objects
objects_fed [] = refl
objects_fed (o ∷ objects) = λ i. object_fed o i ++ objects_fed objects i

some_stack : (slots : List ℕ) (objects : List Object) → text_of_lines (codes "stack:" ∷ entry_lines slots objects)
    ≡ codes "stack:" ++ 10 ∷ [] ++ flat_map slot_text slots ++ flat_map object_text objects
some_stack slots objects =
    ap (λ (l : List ℕ). codes "stack:" ++ 10 ∷ [] ++ l) (fed_both (map slot_line slots) (map object_line objects)
    ∙ (λ i. slots_fed slots i ++ objects_fed objects i))
    ∙ sym (append_assoc (codes "stack:" ++ 10 ∷ []) (flat_map slot_text slots) (flat_map object_text objects))

-- where no object is fixed, each has its line in the stack, and none another
own_lines : (objects : List Object) → HasNoFixed objects → flat_map own_text objects ≡ flat_map object_text objects
own_lines [] none = refl
own_lines (o ∷ objects) none =
    let here : o.fixed_offset ≡ None = All-head (λ (x : Object). x.fixed_offset ≡ None) o objects none in
    let rest = own_lines objects (All-tail (λ (x : Object). x.fixed_offset ≡ None) o objects none) in
    λ i. own_line o (here i) ++ rest i

no_fixed : (objects : List Object) → HasNoFixed objects → list_any is_fixed objects ≡ false
no_fixed [] none = refl
no_fixed (o ∷ objects) none =
    let here : o.fixed_offset ≡ None = All-head (λ (x : Object). x.fixed_offset ≡ None) o objects none in
    ap (λ (f : Option ℤ). is_some f || list_any is_fixed objects) here
    ∙ no_fixed objects (All-tail (λ (x : Object). x.fixed_offset ≡ None) o objects none)

pub fixed_none : (objects : List Object) → HasNoFixed objects → fixed_text objects ≡ []
fixed_none objects none =
    ap (λ (b : Bool). cond b (codes "fixedStack:" ++ 10 ∷ [] ++ flat_map fixed_stack_line objects) []) (no_fixed objects none)

-- the key of a stack, and its lines
abbrev some_text : List ℕ → List ℕ → List ℕ
some_text slots objects = codes "stack:" ++ 10 ∷ [] ++ slots ++ objects

pub stack_fed : (slots : List ℕ) (objects : List Object) → HasNoFixed objects → text_of_lines (stack_lines slots objects) ≡ stack_text slots objects
stack_fed [] [] none = refl
stack_fed [] (o ∷ objects) none =
    let here : o.fixed_offset ≡ None = All-head (λ (x : Object). x.fixed_offset ≡ None) o objects none in
    some_stack [] (o ∷ objects)
    ∙ ap (some_text (flat_map slot_text [])) (sym (own_lines (o ∷ objects) none))
    ∙ ap (λ (f : Option ℤ). cond (true && not (is_none f || list_any is_own objects)) [] (some_text [] (flat_map own_text (o ∷ objects)))) (sym here)
stack_fed (n ∷ slots) objects none =
    some_stack (n ∷ slots) objects ∙ ap (some_text (flat_map slot_text (n ∷ slots))) (sym (own_lines objects none))

-- ---- blocks

item_fed : (i : Item) → fed (item_line i) ≡ item_line_text i
item_fed i = refl

items_fed : (items : List Item) → text_of_lines (map item_line items) ≡ flat_map item_line_text items
items_fed [] = refl
items_fed (i ∷ items) = λ j. item_fed i j ++ items_fed items j

block_fed : (b : Block) → text_of_lines (block_lines b) ≡ block_text b
block_fed b =
    ap (λ (l : List ℕ). fed (label_line b.id) ++ l) (items_fed b.items)
    ∙ ap (λ (l : List ℕ). codes "  bb." ++ l ++ flat_map item_line_text b.items) (append_assoc (decimal b.id) (codes ":") (10 ∷ []))

pub blocks_fed : (bs : List Block) → text_of_lines (body_lines bs) ≡ flat_map block_text bs
blocks_fed [] = refl
blocks_fed (b ∷ bs) = fed_both (block_lines b) (body_lines bs) ∙ (λ i. block_fed b i ++ blocks_fed bs i)

-- ---- functions

regrouped : (a b c d e f g : List ℕ) → a ++ ((b ++ c) ++ (d ++ (e ++ (f ++ g)))) ≡ a ++ b ++ c ++ (d ++ [] ++ e ++ f ++ g)
regrouped a b c d e f g = simp (append_assoc, append-nil)

pub function_fed : (f : Function) → HasNoFixed f.objects → text_of_lines (document_lines (document_of f)) ≡ func_text f []
unfolding func_text
function_fed f unfixed =
    ap (λ (l : List ℕ). fed (codes "---") ++ (fed (name_line f.name) ++ l)) (fed_both (stack_lines f.slots f.objects) behind
    ∙ (λ i. stack_fed f.slots f.objects unfixed i ++ (fed (codes "body: |") ++ ((fed_both (body_lines f.blocks) (codes "..." ∷ []) ∙
    ap (λ (l : List ℕ). l ++ text_of_lines (codes "..." ∷ [])) (blocks_fed f.blocks)) i))))
    ∙ regrouped (codes "---" ++ 10 ∷ []) (codes "name: " ++ name_text f.name) (10 ∷ []) (stack_text f.slots f.objects) (codes "body: |" ++ 10 ∷ [])
    (flat_map block_text f.blocks) (codes "..." ++ 10 ∷ [])
    ∙ ap (λ (l : List ℕ). document_with f (l ++ stack_and_body f [])) (sym (fixed_none f.objects unfixed))
  where
    behind : List (List ℕ)
    behind = codes "body: |" ∷ (body_lines f.blocks ++ codes "..." ∷ [])
