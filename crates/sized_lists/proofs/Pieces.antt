-- How the loop over the parts of a variable goes on.
use Rattle.std.proofs.Common.{◌≡◌, ℕ, suc, ◌+◌, ◌≤◌, ◌<◌, List, [], ◌∷◌, ◌++◌, length, drop, get_or, ap, sym, drop-cons, add-one}
use Rattle.std.proofs.lemmas.List.{drop_all}
use Rattle.dwarf_loclists.specs.declared.range.Part.{Part}
use Rattle.sized_lists.specs.Spelling.{gap, piece, composite_location}

-- the bytes of the parts that are left begin with those of the first one
pub first_bytes : (size from i : ℕ) (parts : List Part) (p : Part) → i < length parts → p ≡ get_or parts i p
    → composite_location size from (drop i parts) ≡ piece from p ++ composite_location size (p.offset + p.length) (drop (i + 1) parts)
first_bytes size from i parts p inside at =
    let split : drop i parts ≡ p ∷ drop (i + 1) parts = rw (add-one, drop-cons parts i p) (ap (λ (q : Part). q ∷ drop (suc i) parts) (sym at)) in
    ap (composite_location size from) split

pub no_part : (size from i : ℕ) (parts : List Part) → length parts ≤ i → composite_location size from (drop i parts) ≡ gap from size
no_part size from i parts end = ap (composite_location size from) (drop_all i parts end)
