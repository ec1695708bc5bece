-- How the loops of the writer go on, and what is written in the end.
use Rattle.std.specs.Prelude.{All, Result, Ok, Err, OnOk, is_ok, cond}
use Rattle.std.specs.List.{AllByRecursion, flat_map}
use Rattle.std.proofs.Common.{◌≡◌, ℕ, suc, ◌+◌, ◌/◌, ◌^◌, ◌<◌, ◌≤◌, List, [], ◌∷◌, ◌++◌, length, take, drop, get_or, Option, Some, None}
use Rattle.std.proofs.Common.{arith, ap, subst, sym, ◌∙◌, refl, append_assoc, append-nil, length-append}
use Rattle.std.proofs.lemmas.List.{drop_more, drop_all, take_all}
use Rattle.std.proofs.lemmas.List.Elements.{All-from_recursion, All-get_or}
use Rattle.std.specs.Int.{w32, w64, to_le_bytes}
use Rattle.dwarf_base.specs.Leb.{uleb_of}
use Rattle.dwarf_base.specs.Size.{capped}
use Rattle.dwarf_frame.specs.declared.table.Row.{Row}
use Rattle.dwarf_frame.specs.declared.table.FrameDescription.{FrameDescription}
use Rattle.dwarf_frame.specs.Table.{IsNext, AreRows}
use Rattle.dwarf_frame.specs.Spelling.{saves, restores, row, rows_after, undefines, padded, common_front, common_fields, common_entry, instructions}
use Rattle.dwarf_frame.specs.Spelling.{fields, description, spelling}
use Rattle.dwarf_frame.specs.FirstFault.{HasSize}

-- ---- saved registers

abbrev save : ℕ → Option ℕ → List ℕ
save register None = []
save register (Some distance) = (128 + register) ∷ uleb_of (distance / 8)

abbrev restore : ℕ → Option ℕ → List ℕ
restore register None = []
restore register (Some distance) = (192 + register) ∷ []

saves_front : (register : ℕ) (o : Option ℕ) (saved : List (Option ℕ)) → saves register (o ∷ saved) ≡ save register o ++ saves (suc register) saved
saves_front register None saved = refl
saves_front register (Some distance) saved = refl

restores_front : (register : ℕ) (o : Option ℕ) (saved : List (Option ℕ))
    → restores register (o ∷ saved) ≡ restore register o ++ restores (suc register) saved
restores_front register None saved = refl
restores_front register (Some distance) saved = refl

-- the spelling of registers, one register on
record IsByRegister (spell : ℕ → List (Option ℕ) → List ℕ) (one : ℕ → Option ℕ → List ℕ) : Type 0 where
  more : (register : ℕ) (o : Option ℕ) (saved : List (Option ℕ)) → spell register (o ∷ saved) ≡ one register o ++ spell (suc register) saved
  none : (register : ℕ) → spell register [] ≡ []

register_more : (spell : ℕ → List (Option ℕ) → List ℕ) (one : ℕ → Option ℕ → List ℕ) → IsByRegister spell one
    → (items whole : List ℕ) (saved : List (Option ℕ)) (i : ℕ) (o : Option ℕ) → i < length saved → get_or saved i o ≡ o
    → items ++ spell i (drop i saved) ≡ whole → (items ++ one i o) ++ spell (i + 1) (drop (i + 1) saved) ≡ whole
register_more spell one is items whole saved i o inside at so_far =
    let next : i + 1 ≡ suc i = omega arith in
    let opened : drop i saved ≡ o ∷ drop (i + 1) saved = drop_more saved i o inside ∙ ap (λ x. x ∷ drop (i + 1) saved) at in
    ap (λ n. (items ++ one i o) ++ spell n (drop (i + 1) saved)) next
    ∙ append_assoc items (one i o) (spell (suc i) (drop (i + 1) saved))
    ∙ ap (λ x. items ++ x) (sym (is.more i o (drop (i + 1) saved)) ∙ ap (spell i) (sym opened)) ∙ so_far

registers_done : (spell : ℕ → List (Option ℕ) → List ℕ) (one : ℕ → Option ℕ → List ℕ) → IsByRegister spell one
    → (items whole : List ℕ) (saved : List (Option ℕ)) (i : ℕ) → length saved ≤ i → items ++ spell i (drop i saved) ≡ whole → items ≡ whole
registers_done spell one is items whole saved i past so_far =
    sym (append-nil items) ∙ ap (λ x. items ++ x) (sym (is.none i) ∙ ap (spell i) (sym (drop_all i saved past))) ∙ so_far

by_saves : IsByRegister saves save
by_saves = record { more = saves_front; none = λ register. refl }

by_restores : IsByRegister restores restore
by_restores = record { more = restores_front; none = λ register. refl }

pub save_more : (items pushed written whole : List ℕ) (saved : List (Option ℕ)) (i distance : ℕ) → i < length saved
    → get_or saved i (Some distance) ≡ Some distance → pushed ≡ items ++ (128 + i) ∷ [] → written ≡ pushed ++ uleb_of (distance / 8)
    → items ++ saves i (drop i saved) ≡ whole → written ++ saves (i + 1) (drop (i + 1) saved) ≡ whole
save_more items pushed written whole saved i distance inside at push write so_far =
    let both : written ≡ items ++ save i (Some distance) =
    write ∙ ap (λ x. x ++ uleb_of (distance / 8)) push ∙ append_assoc items ((128 + i) ∷ []) (uleb_of (distance / 8)) in
    ap (λ x. x ++ saves (i + 1) (drop (i + 1) saved)) both ∙ register_more saves save by_saves items whole saved i (Some distance) inside at so_far

pub save_none : (items whole : List ℕ) (saved : List (Option ℕ)) (i : ℕ) → i < length saved → get_or saved i None ≡ None
    → items ++ saves i (drop i saved) ≡ whole → items ++ saves (i + 1) (drop (i + 1) saved) ≡ whole
save_none items whole saved i inside at so_far =
    ap (λ x. x ++ saves (i + 1) (drop (i + 1) saved)) (sym (append-nil items))
    ∙ register_more saves save by_saves items whole saved i None inside at so_far

pub saves_done : (items whole : List ℕ) (saved : List (Option ℕ)) (i : ℕ) → length saved ≤ i → items ++ saves i (drop i saved) ≡ whole → items ≡ whole
saves_done items whole saved i past so_far = registers_done saves save by_saves items whole saved i past so_far

pub restore_more : (items pushed whole : List ℕ) (saved : List (Option ℕ)) (i distance : ℕ) → i < length saved
    → get_or saved i (Some distance) ≡ Some distance → pushed ≡ items ++ (192 + i) ∷ []
    → items ++ restores i (drop i saved) ≡ whole → pushed ++ restores (i + 1) (drop (i + 1) saved) ≡ whole
restore_more items pushed whole saved i distance inside at push so_far =
    ap (λ x. x ++ restores (i + 1) (drop (i + 1) saved)) push
    ∙ register_more restores restore by_restores items whole saved i (Some distance) inside at so_far

pub restore_none : (items whole : List ℕ) (saved : List (Option ℕ)) (i : ℕ) → i < length saved → get_or saved i None ≡ None
    → items ++ restores i (drop i saved) ≡ whole → items ++ restores (i + 1) (drop (i + 1) saved) ≡ whole
restore_none items whole saved i inside at so_far =
    ap (λ x. x ++ restores (i + 1) (drop (i + 1) saved)) (sym (append-nil items))
    ∙ register_more restores restore by_restores items whole saved i None inside at so_far

pub restores_done : (items whole : List ℕ) (saved : List (Option ℕ)) (i : ℕ) → length saved ≤ i → items ++ restores i (drop i saved) ≡ whole
    → items ≡ whole
restores_done items whole saved i past so_far = registers_done restores restore by_restores items whole saved i past so_far

-- ---- rows

pub next_is : (before : Row) (end : ℕ) (rows : List Row) (i : ℕ) (d : Row) → i < length rows → AreRows before (drop i rows) end
    → IsNext before (get_or rows i d) end
next_is before end rows i d inside are =
    let opened : AreRows before (get_or rows i d ∷ drop (i + 1) rows) end = subst (λ rs. AreRows before rs end) (drop_more rows i d inside) are in opened.0

pub are_more : (before : Row) (end : ℕ) (rows : List Row) (i : ℕ) (d : Row) → i < length rows → AreRows before (drop i rows) end
    → AreRows (get_or rows i d) (drop (i + 1) rows) end
are_more before end rows i d inside are =
    let opened : AreRows before (get_or rows i d ∷ drop (i + 1) rows) end = subst (λ rs. AreRows before rs end) (drop_more rows i d inside) are in opened.2

pub rows_more : (items pushed whole : List ℕ) (before : Row) (rows : List Row) (i : ℕ) (d : Row) → i < length rows
    → items ++ rows_after before (drop i rows) ≡ whole → pushed ≡ items ++ row before (get_or rows i d)
    → pushed ++ rows_after (get_or rows i d) (drop (i + 1) rows) ≡ whole
rows_more items pushed whole before rows i d inside so_far push =
    ap (λ x. x ++ rows_after (get_or rows i d) (drop (i + 1) rows)) push
    ∙ append_assoc items (row before (get_or rows i d)) (rows_after (get_or rows i d) (drop (i + 1) rows))
    ∙ ap (λ rs. items ++ rows_after before rs) (sym (drop_more rows i d inside)) ∙ so_far

pub rows_done : (items whole : List ℕ) (before : Row) (rows : List Row) (i : ℕ) → length rows ≤ i → items ++ rows_after before (drop i rows) ≡ whole
    → items ≡ whole
rows_done items whole before rows i past so_far =
    sym (append-nil items) ∙ ap (λ rs. items ++ rows_after before rs) (sym (drop_all i rows past)) ∙ so_far

-- ---- the section

pub at_item : {X : Type 0} (P : X → Type 0) (xs : List X) (i : ℕ) (x : X) → i < length xs → x ≡ get_or xs i x → All P xs → P x
at_item P xs i x inside at all = subst P (sym at) (All-get_or P xs i x inside all)

-- a last call that appends bytes
pub appended : {T E : Type 0} (r : Result T E) (new old x y : List ℕ) → new ≡ cond (is_ok r) x old → x ≡ y → OnOk r (new ≡ y)
appended (Ok t) new old x y e same = e ∙ same
appended (Err f) new old x y e same = tt

nested : (o a b c : List ℕ) → ((o ++ a) ++ b) ++ c ≡ o ++ ((a ++ b) ++ c)
nested o a b c = simp append_assoc

pub common_written : (undefined o o1 o2 x y all : List ℕ) (size : ℕ) → o1 ≡ o ++ x → o2 ≡ o1 ++ y → x ≡ to_le_bytes w32 size
    → y ≡ to_le_bytes w32 0xffffffff → size ≡ 4 + length (common_fields undefined) → all ≡ common_fields undefined
    → o2 ++ all ≡ o ++ common_entry undefined
common_written undefined o o1 o2 x y all size e1 e2 x_is y_is size_is all_is =
    ap (λ z. o2 ++ z) all_is
    ∙ ap (λ z. z ++ common_fields undefined) (e2 ∙ ap (λ z. z ++ y) (e1 ∙ ap (λ z. o ++ z) (x_is ∙ ap (to_le_bytes w32) size_is))
    ∙ ap (λ z. (o ++ to_le_bytes w32 (4 + length (common_fields undefined))) ++ z) y_is)
    ∙ nested o (to_le_bytes w32 (4 + length (common_fields undefined))) (to_le_bytes w32 0xffffffff) (common_fields undefined)

pub front_written : (undefined none one two : List ℕ) → none ≡ [] → one ≡ none ++ common_front → two ≡ one ++ undefines undefined
    → padded two ≡ common_fields undefined
front_written undefined none one two empty front more =
    ap padded (more ∙ ap (λ x. x ++ undefines undefined) (front ∙ ap (λ x. x ++ common_front) empty))

pub fields_written : (o o1 o2 o3 a b c d : List ℕ) (opcodes start size : ℕ) → o1 ≡ o ++ a → o2 ≡ o1 ++ b → o3 ≡ o2 ++ c
    → a ≡ to_le_bytes w32 (20 + opcodes) → b ≡ to_le_bytes w32 0 → c ≡ to_le_bytes w64 start → d ≡ to_le_bytes w64 size
    → o3 ++ d ≡ o ++ fields opcodes start size
fields_written o o1 o2 o3 a b c d opcodes start size e1 e2 e3 a_is b_is c_is d_is =
    ap (λ z. z ++ d) (e3 ∙ ap (λ z. z ++ c) (e2 ∙ ap (λ z. z ++ b) e1)) ∙ four o a b c d
    ∙ ap (λ z. o ++ (((z ++ b) ++ c) ++ d)) a_is ∙ ap (λ z. o ++ (((to_le_bytes w32 (20 + opcodes) ++ z) ++ c) ++ d)) b_is
    ∙ ap (λ z. o ++ (((to_le_bytes w32 (20 + opcodes) ++ to_le_bytes w32 0) ++ z) ++ d)) c_is
    ∙ ap (λ z. o ++ (((to_le_bytes w32 (20 + opcodes) ++ to_le_bytes w32 0) ++ to_le_bytes w64 start) ++ z)) d_is
  where
    four : (o a b c d : List ℕ) → (((o ++ a) ++ b) ++ c) ++ d ≡ o ++ (((a ++ b) ++ c) ++ d)
    four o a b c d = simp append_assoc

length-description : (f : FrameDescription) → length (description f) ≡ 24 + length (instructions f)
length-description f = omega arith

pub size_fits : (f : FrameDescription) → HasSize f → 20 + length (instructions f) < 2 ^ 32
size_fits f size = omega (arith, length-description f, size)

sizes_within : (functions : List FrameDescription) → length (flat_map description functions) < 2 ^ 31 → AllByRecursion HasSize functions
sizes_within [] size = tt
sizes_within (f ∷ functions) size =
    let both = length-append (description f) (flat_map description functions) in
    (omega (arith, both, size), sizes_within functions (omega (arith, both, size)))

pub sizes_fit : (undefined : List ℕ) (functions : List FrameDescription) → length (spelling undefined functions) < 2 ^ 31 → All HasSize functions
unfolding spelling
sizes_fit undefined functions size =
    All-from_recursion HasSize functions
    (sizes_within functions (omega (arith, length-append (common_entry undefined) (flat_map description functions), size)))

length-common : (undefined : List ℕ) → length (common_entry undefined) ≡ 8 + length (common_fields undefined)
length-common undefined = omega arith

pub size_done : (undefined : List ℕ) (size : ℕ) (functions : List FrameDescription) (i : ℕ) → length functions ≤ i
    → size ≡ capped (8 + length (common_fields undefined) + length (flat_map description (take i functions)))
    → size ≡ capped (length (spelling undefined functions))
unfolding spelling
size_done undefined size functions i past so_far =
    let whole : length (spelling undefined functions) ≡ 8 + length (common_fields undefined) + length (flat_map description functions) =
    omega (arith, length-append (common_entry undefined) (flat_map description functions), length-common undefined) in
    so_far ∙ ap (λ fs. capped (8 + length (common_fields undefined) + length (flat_map description fs))) (take_all i functions past)
    ∙ ap capped (sym whole)

pub section_written : (undefined items : List ℕ) (functions : List FrameDescription) (i : ℕ) → length functions ≤ i
    → items ≡ common_entry undefined ++ flat_map description (take i functions) → items ≡ spelling undefined functions
unfolding spelling
section_written undefined items functions i past so_far =
    so_far ∙ ap (λ fs. common_entry undefined ++ flat_map description fs) (take_all i functions past)
