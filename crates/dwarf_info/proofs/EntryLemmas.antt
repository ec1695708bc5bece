-- A name up to its first zero byte, and entries as their parts were written one after the other.
use Rattle.std.specs.Int.{w16, w32, w64, to_le_bytes}
use Rattle.std.specs.List.{position_or_len}
use Rattle.std.proofs.Common.{◌≡◌, ℕ, ◌<◌, ◌≤◌, true, false, eqb, List, [], ◌∷◌, ◌++◌, length, take, get_or, arith, ap, sym, ◌∙◌, append_assoc, append-nil}
use Rattle.std.proofs.lemmas.List.{take_all}
use Rattle.std.proofs.lemmas.List.Sums.{position_or_len_is}
use Rattle.dwarf_base.specs.Leb.{uleb_of}
use Rattle.dwarf_info.specs.declared.unit.FunctionEntry.{FunctionEntry}
use Rattle.dwarf_info.specs.declared.unit.Unit.{Unit as CompilationUnit}
use Rattle.dwarf_info.specs.declared.inlined.InlinedUnit.{InlinedUnit}
use Rattle.dwarf_info.specs.Entries.{named, entry, subprogram, compile_unit}
use Rattle.dwarf_info.specs.Inlined.{unit_with_ranges}

pub named_front : (name : List ℕ) (i : ℕ) → i < length name → ((k : ℕ) → k < i → eqb (get_or name k 0) 0 ≡ false) → eqb (get_or name i 0) 0 ≡ true
    → take i name ≡ named name
named_front name i inside before this =
    let first : position_or_len (λ byte. eqb byte 0) name ≡ i = position_or_len_is (λ byte. eqb byte 0) name i 0 (omega arith) before (λ _. this) in
    ap (λ n. take n name) (sym first)

pub named_whole : (name : List ℕ) (i : ℕ) → length name ≤ i → i ≤ length name → ((k : ℕ) → k < i → eqb (get_or name k 0) 0 ≡ false) → name ≡ named name
named_whole name i past within before =
    let none : position_or_len (λ byte. eqb byte 0) name ≡ i = position_or_len_is (λ byte. eqb byte 0) name i 0 within before
    (λ inside. absurd (omega arith)) in
    sym (take_all i name past) ∙ ap (λ n. take n name) (sym none)

-- the parts of an entry
pub four_parts : (o a b c d : List ℕ) → (((o ++ a) ++ b) ++ c) ++ d ≡ o ++ (a ++ (b ++ (c ++ (d ++ []))))
four_parts o a b c d = simp (append_assoc, append-nil)

pub eight_parts : (o a b c d e f g h : List ℕ) → (((((((o ++ a) ++ b) ++ c) ++ d) ++ e) ++ f) ++ g) ++ h ≡ o ++
    (a ++ (b ++ (c ++ (d ++ (e ++ (f ++ (g ++ (h ++ []))))))))
eight_parts o a b c d e f g h = simp (append_assoc, append-nil)

nine_parts : (o a b c d e f g h i : List ℕ) → ((((((((o ++ a) ++ b) ++ c) ++ d) ++ e) ++ f) ++ g) ++ h) ++ i ≡ o ++
    (a ++ (b ++ (c ++ (d ++ (e ++ (f ++ (g ++ (h ++ (i ++ [])))))))))
nine_parts o a b c d e f g h i = simp (append_assoc, append-nil)

abbrev text : List ℕ → List ℕ
text name = named name ++ 0 ∷ []

pub subprogram_written : (f : FunctionEntry) (o o1 o2 o3 name : List ℕ) → o1 ≡ o ++ uleb_of 2 → o2 ≡ o1 ++ text name → name ≡ f.name
    → o3 ≡ o2 ++ to_le_bytes w64 f.lo
    → o3 ++ to_le_bytes w32 f.len ≡ o ++ entry (subprogram f)
unfolding entry
subprogram_written f o o1 o2 o3 name e1 e2 named_so e3 =
    ap (λ x. x ++ to_le_bytes w32 f.len) (e3 ∙ ap (λ x. x ++ to_le_bytes w64 f.lo) (e2 ∙ ap (λ x. o1 ++ text x) named_so ∙ ap (λ x. x ++ text f.name) e1))
    ∙ four_parts o (uleb_of 2) (text f.name) (to_le_bytes w64 f.lo) (to_le_bytes w32 f.len)

pub compile_unit_written : (u : CompilationUnit) (o o1 o2 o3 o4 o5 o6 o7 name dir : List ℕ) → o1 ≡ o ++ uleb_of 1 → o2 ≡ o1 ++ to_le_bytes w16 12
    → o3 ≡ o2 ++ text name
    → name ≡ u.name → o4 ≡ o3 ++ text dir → dir ≡ u.dir → o5 ≡ o4 ++ to_le_bytes w32 0 → o6 ≡ o5 ++ to_le_bytes w64 0 → o7 ≡ o6 ++ to_le_bytes w32 u.text_len
    → o7 ++ to_le_bytes w32 12 ≡ o ++ entry (compile_unit u)
unfolding entry
compile_unit_written u o o1 o2 o3 o4 o5 o6 o7 name dir e1 e2 e3 named_so e4 dir_so e5 e6 e7 =
    let first : o3 ≡ ((o ++ uleb_of 1) ++ to_le_bytes w16 12) ++ text u.name =
    e3 ∙ ap (λ x. o2 ++ text x) named_so ∙ ap (λ x. x ++ text u.name) (e2 ∙ ap (λ x. x ++ to_le_bytes w16 12) e1) in
    let second : o6 ≡ (((((o ++ uleb_of 1) ++ to_le_bytes w16 12) ++ text u.name) ++ text u.dir) ++ to_le_bytes w32 0) ++ to_le_bytes w64 0 =
    e6 ∙ ap (λ x. x ++ to_le_bytes w64 0) (e5 ∙ ap (λ x. x ++ to_le_bytes w32 0) (e4 ∙ ap (λ x. o3 ++ text x) dir_so ∙ ap (λ x. x ++ text u.dir) first)) in
    ap (λ x. x ++ to_le_bytes w32 12) (e7 ∙ ap (λ x. x ++ to_le_bytes w32 u.text_len) second)
    ∙ eight_parts o (uleb_of 1) (to_le_bytes w16 12) (text u.name) (text u.dir) (to_le_bytes w32 0) (to_le_bytes w64 0) (to_le_bytes w32 u.text_len)
    (to_le_bytes w32 12)

pub unit_with_ranges_written : (u : InlinedUnit) (o o1 o2 o3 o4 o5 o6 o7 o8 name dir : List ℕ) → o1 ≡ o ++ uleb_of 1 → o2 ≡ o1 ++ to_le_bytes w16 12
    → o3 ≡ o2 ++ text name
    → name ≡ u.name → o4 ≡ o3 ++ text dir → dir ≡ u.dir → o5 ≡ o4 ++ to_le_bytes w32 0 → o6 ≡ o5 ++ to_le_bytes w64 0 → o7 ≡ o6 ++ to_le_bytes w32 u.text_len
    → o8 ≡ o7 ++ to_le_bytes w32 12 → o8 ++ to_le_bytes w32 12 ≡ o ++ entry (unit_with_ranges u)
unfolding entry
unit_with_ranges_written u o o1 o2 o3 o4 o5 o6 o7 o8 name dir e1 e2 e3 named_so e4 dir_so e5 e6 e7 e8 =
    let first : o3 ≡ ((o ++ uleb_of 1) ++ to_le_bytes w16 12) ++ text u.name =
    e3 ∙ ap (λ x. o2 ++ text x) named_so ∙ ap (λ x. x ++ text u.name) (e2 ∙ ap (λ x. x ++ to_le_bytes w16 12) e1) in
    let second : o6 ≡ (((((o ++ uleb_of 1) ++ to_le_bytes w16 12) ++ text u.name) ++ text u.dir) ++ to_le_bytes w32 0) ++ to_le_bytes w64 0 =
    e6 ∙ ap (λ x. x ++ to_le_bytes w64 0) (e5 ∙ ap (λ x. x ++ to_le_bytes w32 0) (e4 ∙ ap (λ x. o3 ++ text x) dir_so ∙ ap (λ x. x ++ text u.dir) first)) in
    ap (λ x. x ++ to_le_bytes w32 12) (e8 ∙ ap (λ x. x ++ to_le_bytes w32 12) (e7 ∙ ap (λ x. x ++ to_le_bytes w32 u.text_len) second))
    ∙ nine_parts o (uleb_of 1) (to_le_bytes w16 12) (text u.name) (text u.dir) (to_le_bytes w32 0) (to_le_bytes w64 0) (to_le_bytes w32 u.text_len)
    (to_le_bytes w32 12) (to_le_bytes w32 12)
