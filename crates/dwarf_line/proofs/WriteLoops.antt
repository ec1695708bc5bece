-- How the loops of the writer go on.
use Rattle.std.specs.Prelude.{All, Result, Ok, Err, OnOk}
use Rattle.std.specs.List.{flat_map}
use Rattle.std.proofs.Common.{◌≡◌, ℕ, ◌+◌, ◌≤◌, ◌<◌, ◌^◌, List, [], ◌∷◌, ◌++◌, length, take, drop, get_or, ap, subst, sym, ◌∙◌, append_assoc}
use Rattle.std.proofs.lemmas.List.{take_more, take_all, drop_more, flat_map_more}
use Rattle.std.proofs.lemmas.List.Elements.{All-more}
use Rattle.dwarf_line.specs.declared.table.Row.{Row}
use Rattle.dwarf_line.specs.declared.table.Sequence.{Sequence}
use Rattle.dwarf_line.specs.Table.{Ascend, IsRow, HasRange}
use Rattle.dwarf_line.specs.Spelling.{row, rows_to, sequence}

-- one part more is written
pub part_more : {X : Type 0} (f : X → List ℕ) (out before items : List ℕ) (xs : List X) (i : ℕ) (x : X) → i < length xs → x ≡ get_or xs i x
    → before ≡ out ++ flat_map f (take i xs) → items ≡ before ++ f x → items ≡ out ++ flat_map f (take (i + 1) xs)
part_more f out before items xs i x inside at so_far more =
    let all : take (i + 1) xs ≡ take i xs ++ x ∷ [] = take_more xs i x inside ∙ ap (λ y. take i xs ++ y ∷ []) (sym at) in
    more ∙ ap (λ y. y ++ f x) so_far ∙ flat_map_more f out (take i xs) x ∙ ap (λ ys. out ++ flat_map f ys) (sym all)

-- one sequence more, whose rows are these
pub sequence_more : (out before items : List ℕ) (sequences : List Sequence) (i : ℕ) (s : Sequence) (rows : List Row) → i < length sequences
    → s ≡ get_or sequences i s
    → before ≡ out ++ flat_map sequence (take i sequences) → rows ≡ s.rows → items ≡ before ++ sequence (record { rows = rows; end = s.end })
    → items ≡ out ++ flat_map sequence (take (i + 1) sequences)
sequence_more out before items sequences i s rows inside at so_far same more =
    part_more sequence out before items sequences i s inside at so_far (more ∙ ap (λ r. before ++ sequence (record { rows = r; end = s.end })) same)

-- what holds of one element more
pub each_more : {X : Type 0} (P : X → Type 0) (xs : List X) (i : ℕ) (x : X) → i < length xs → x ≡ get_or xs i x → All P (take i xs) → P x
    → All P (take (i + 1) xs)
each_more P xs i x inside at so_far this = All-more P xs i x inside so_far (subst P at this)

pub range_of : (s : Sequence) (rows : List Row) → rows ≡ s.rows → All IsRow rows × (s.end < 2 ^ 64) → HasRange s
range_of s rows same has = (subst (All IsRow) same has.0, has.1)

pub each_all : {X : Type 0} (P : X → Type 0) (xs : List X) (i : ℕ) → length xs ≤ i → All P (take i xs) → All P xs
each_all P xs i past so_far = subst (All P) (take_all i xs past) so_far

pub on_ok : {X E : Type 0} (r : Result X E) (P : Type 0) → P → OnOk r P
on_ok (Ok x) P holds = holds
on_ok (Err e) P holds = tt

pub ascend_more : (from end : ℕ) (rows : List Row) (i : ℕ) (d : Row) → i < length rows → Ascend from (drop i rows) end
    → Ascend (get_or rows i d).address (drop (i + 1) rows) end
ascend_more from end rows i d inside ascend =
    let opened : Ascend from (get_or rows i d ∷ drop (i + 1) rows) end = subst (λ rs. Ascend from rs end) (drop_more rows i d inside) ascend in opened.1

pub rows_more : (items pushed whole : List ℕ) (before : Row) (rows : List Row) (i : ℕ) (d : Row) (end : ℕ) → i < length rows
    → items ++ rows_to before (drop i rows) end ≡ whole
    → pushed ≡ items ++ row before (get_or rows i d) → pushed ++ rows_to (get_or rows i d) (drop (i + 1) rows) end ≡ whole
rows_more items pushed whole before rows i d end inside so_far push =
    ap (λ x. x ++ rows_to (get_or rows i d) (drop (i + 1) rows) end) push
    ∙ append_assoc items (row before (get_or rows i d)) (rows_to (get_or rows i d) (drop (i + 1) rows) end)
    ∙ ap (λ rs. items ++ rows_to before rs end) (sym (drop_more rows i d inside)) ∙ so_far
