-- The lines of names, slots and objects.
use Rattle.std.proofs.Common.{◌≡◌, ℕ, ◌<◌, ◌≤◌, Bool, true, false, cond, List, [], ◌∷◌, ◌++◌, All, Option, Some, None, refl, arith}
use Rattle.std.specs.Prelude.{codes}
use Rattle.std.specs.List.{list_all, flat_map}
use Rattle.std.specs.Fmt.{decimal}
use Rattle.std.proofs.lemmas.Bool.{and_parts, and_from}
use Rattle.std.proofs.lemmas.Bool.Decides.{nat_tests}
use Rattle.base_ids.specs.Limits.{MAX_NUMBER}
use Rattle.mir_func.specs.declared.object.Object.{Object}
use Rattle.mir_func.specs.Sound.{IsLocalOffset}
use Rattle.mir_printer.specs.Spelling.{quoted_byte}
use Rattle.mir_func_printer.specs.FuncText.{is_name_start, is_name_byte, is_plain_name, quoted_text}
use Rattle.readback_functions.specs.Declared.{name_line, slot_line, line_end, object_line}
use Rattle.readback_functions.specs.Printed.{DeclaredLinesArePrinted}
use Rattle.readback_functions.proofs.Texts.{Shows, shows_behind, line_of, is_visible, visible_shows, all_visible, decimal_shows, quoted_shows}

start_visible : (b : ℕ) → is_name_start b ≡ true → is_visible b ≡ true
start_visible b is = grind (arith, nat_tests, is)

byte_visible : (b : ℕ) → is_name_byte b ≡ true → is_visible b ≡ true
byte_visible b is = grind (arith, nat_tests, is)

plain_shows : (name : List ℕ) → is_plain_name name ≡ true → Shows name
plain_shows [] is = absurd cc
plain_shows (b ∷ bs) is =
    let parts = and_parts (is_name_start b) (list_all is_name_byte bs) is in
    visible_shows b bs (and_from (is_visible b) (list_all is_visible bs) (start_visible b parts.0) (all_visible is_name_byte byte_visible bs parts.1))

name_shows : (name : List ℕ) → All (λ b. b < 256) name → Shows (name_line name)
name_shows name bytes = by (is_plain_name name) refl where
  by : (t : Bool) → is_plain_name name ≡ t → Shows (codes "name: " ++ cond t name (quoted_text name))
  by true is = shows_behind (codes "name: ") name refl (plain_shows name is)
  by false is = shows_behind (codes "name: ") (34 ∷ (flat_map quoted_byte name ++ 34 ∷ [])) refl (quoted_shows name bytes)

number_shows : (n : ℕ) → n ≤ MAX_NUMBER → Shows (decimal n)
number_shows n small = decimal_shows n (omega (arith, small))

slot_shows : (n : ℕ) → n ≤ MAX_NUMBER → Shows (slot_line n)
slot_shows n small = shows_behind (codes "  - { id: ") (decimal n ++ codes ", size: 8 }") refl
    (shows_behind (decimal n) (codes ", size: 8 }") (number_shows n small).printed (record { printed = refl; ends = λ so_far. refl }))

end_shows : (l : Option ℕ) → IsLocalOffset l → Shows (line_end l)
end_shows None is = record { printed = refl; ends = λ so_far. refl }
end_shows (Some k) is = shows_behind (codes ", local-offset: -") (decimal k ++ codes " }") refl
    (shows_behind (decimal k) (codes " }") (number_shows k is.1).printed (record { printed = refl; ends = λ so_far. refl }))

object_shows : (o : Object) → o.id ≤ MAX_NUMBER → o.size ≤ MAX_NUMBER → o.align ≤ MAX_NUMBER → IsLocalOffset o.local_offset → Shows (object_line o)
object_shows o id size align local =
    let d = decimal o.align ++ line_end o.local_offset in
    let c = decimal o.size ++ (codes ", alignment: " ++ d) in
    let b = decimal o.id ++ (codes ", size: " ++ c) in
    shows_behind (codes "  - { id: ") b refl
    (shows_behind (decimal o.id) (codes ", size: " ++ c) (number_shows o.id id).printed
    (shows_behind (codes ", size: ") c refl
    (shows_behind (decimal o.size) (codes ", alignment: " ++ d) (number_shows o.size size).printed
    (shows_behind (codes ", alignment: ") d refl
    (shows_behind (decimal o.align) (line_end o.local_offset) (number_shows o.align align).printed (end_shows o.local_offset local))))))

pub declared_lines_are_printed : DeclaredLinesArePrinted
declared_lines_are_printed = record {
  names = λ name bytes. line_of (name_line name) (name_shows name bytes);
  slots = λ n small. line_of (slot_line n) (slot_shows n small);
  objects = λ o id size align local. line_of (object_line o) (object_shows o id size align local);
}
