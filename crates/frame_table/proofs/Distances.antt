-- The distances of registers, one after the other.
use Rattle.std.proofs.Common.{◌≡◌, ℕ, zero, suc, ◌+◌, ◌<◌, false, List, [], ◌∷◌, ◌++◌, length, take, set, replicate, Option, Some, None}
use Rattle.std.proofs.Common.{refl, sym, ap, ◌∙◌, arith}
use Rattle.std.proofs.lemmas.List.{take_more_set}
use Rattle.mir_func.specs.Function.{FramedFunction}
use Rattle.dwarf_frame.specs.Table.{is_saved, none_saved}
use Rattle.frame_table.specs.Table.{distance_in, distances_from}

pub length-distances : (f : FramedFunction) (register count : ℕ) → length (distances_from f register count) ≡ count
length-distances f register zero = refl
length-distances f register (suc count) = ap suc (length-distances f (suc register) count)

distances_push : (f : FramedFunction) (register count : ℕ)
    → distances_from f register (suc count) ≡ distances_from f register count ++ distance_in f.size f.saved (register + count) ∷ []
distances_push f register zero = let same : register ≡ register + 0 = omega arith in ap (λ n. distance_in f.size f.saved n ∷ []) same
distances_push f register (suc count) =
    let next : suc register + count ≡ register + suc count = omega arith in
    ap (λ ds. distance_in f.size f.saved register ∷ ds)
    (distances_push f (suc register) count ∙ ap (λ n. distances_from f (suc register) count ++ distance_in f.size f.saved n ∷ []) next)

pub distances_more : (f : FramedFunction) (distances : List (Option ℕ)) (i : ℕ) (distance : Option ℕ) → i < length distances
    → take i distances ≡ distances_from f 0 i → distance ≡ distance_in f.size f.saved i
    → take (i + 1) (set distances i distance) ≡ distances_from f 0 (i + 1)
distances_more f distances i distance inside so_far is =
    let from : i ≡ 0 + i = omega arith in
    let next : suc i ≡ i + 1 = omega arith in
    take_more_set distances i distance inside ∙ ap (λ ds. ds ++ distance ∷ []) so_far
    ∙ ap (λ d. distances_from f 0 i ++ d ∷ []) is
    ∙ ap (λ n. distances_from f 0 i ++ distance_in f.size f.saved n ∷ []) from
    ∙ sym (distances_push f 0 i)
    ∙ ap (distances_from f 0) next

-- ---- where no register is saved

unsaved : (saved : List (Option ℕ)) → is_saved saved ≡ false → saved ≡ replicate (length saved) None
unsaved [] none = refl
unsaved (None ∷ saved) none = ap (λ ds. None ∷ ds) (unsaved saved none)
unsaved (Some distance ∷ saved) none = absurd cc

pub none_distant : (f : FramedFunction) → is_saved (distances_from f 0 32) ≡ false → distances_from f 0 32 ≡ none_saved
none_distant f none = unsaved (distances_from f 0 32) none ∙ ap (λ n. replicate n None) (length-distances f 0 32)
