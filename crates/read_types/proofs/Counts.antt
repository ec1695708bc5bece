-- The dimensions of an array are read from left to right.
use Rattle.std.proofs.Common.{◌≡◌, ℕ, ◌+◌, ◌<◌, ◌≤◌, List, [], ◌∷◌, ◌++◌, length}
use Rattle.std.proofs.Common.{get_or, drop, Option, Some, None, refl, sym, ap, append_assoc, append-nil, ◌∙◌}
use Rattle.std.proofs.lemmas.List.{drop_more, drop_all}
use Rattle.read_debug_nodes.specs.Maps.{DebugMaps}
use Rattle.read_types.specs.Parts.{count_at, before_counts, each_count}

-- dimensions that were read, and those that are still read
abbrev pub joined : List (Option ℕ) → Option (List (Option ℕ)) → Option (List (Option ℕ))
joined done None = None
joined done (Some cs) = Some (done ++ cs)

pub joined-nil : (read : Option (List (Option ℕ))) → joined [] read ≡ read
joined-nil None = refl
joined-nil (Some cs) = refl

joined-before : (done : List (Option ℕ)) (c : Option ℕ) (read : Option (List (Option ℕ)))
    → joined done (before_counts (Some c) read) ≡ joined (done ++ c ∷ []) read
joined-before done c None = refl
joined-before done c (Some cs) = ap (λ (x : List (Option ℕ)). Some x) (sym (append_assoc done (c ∷ []) cs))

none_before : (done : List (Option ℕ)) (read : Option (List (Option ℕ))) → joined done (before_counts None read) ≡ None
none_before done None = refl
none_before done (Some cs) = refl

module _ (m : DebugMaps) (done : List (Option ℕ)) (es : List (Option ℕ)) (i : ℕ) (e d : Option ℕ) (lt : i < length es) (at : e ≡ get_or es i d)
    (read : joined done (each_count m (drop i es)) ≡ each_count m es) where
  front : (o : Option (Option ℕ)) → o ≡ count_at m e → joined done (before_counts o (each_count m (drop (i + 1) es))) ≡ each_count m es
  front o is =
      ap (λ (x : Option (Option ℕ)). joined done (before_counts x (each_count m (drop (i + 1) es)))) (is ∙ ap (count_at m) at)
      ∙ ap (λ (xs : List (Option ℕ)). joined done (each_count m xs)) (sym (drop_more es i d lt)) ∙ read

  -- an element that is no dimension
  pub no_count : None ≡ count_at m e → None ≡ each_count m es
  no_count is = sym (none_before done (each_count m (drop (i + 1) es))) ∙ front None is

  pub next_count : (c : Option ℕ) → Some c ≡ count_at m e → joined (done ++ c ∷ []) (each_count m (drop (i + 1) es)) ≡ each_count m es
  next_count c is = sym (joined-before done c (each_count m (drop (i + 1) es))) ∙ front (Some c) is

pub all_counts : (m : DebugMaps) (done : List (Option ℕ)) (es : List (Option ℕ)) (i : ℕ) → length es ≤ i
    → joined done (each_count m (drop i es)) ≡ each_count m es → Some done ≡ each_count m es
all_counts m done es i all read =
    ap (λ (x : List (Option ℕ)). Some x) (sym (append-nil done)) ∙ ap (λ (xs : List (Option ℕ)). joined done (each_count m xs)) (sym (drop_all i es all)) ∙ read
