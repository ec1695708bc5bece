-- What the search for the first wrong symbol keeps.
use Rattle.std.specs.Prelude.{◌||◌, Some, None, Result, Err}
use Rattle.std.proofs.Common.{◌≡◌, ℕ, suc, ◌+◌, ◌-◌, ◌*◌, ◌≤◌, ◌<◌, Bool, List, drop, arith, ap, sym, ◌∙◌}
use Rattle.std.proofs.lemmas.List.{drop-drop}
use Rattle.elf_symbols.specs.FirstFault.{name_in, next_name, is_other, symbol_fault, unless, ended, names_end}

one_less : (n i : ℕ) → i < n → n - i ≡ suc (n - (i + 1))
one_less n i lt = omega (arith, lt)

-- the next symbol has a wrong field
pub fault_here : (names : List ℕ) (at : ℕ) (others : Bool) (name_at n i wrong : ℕ) (bytes : List ℕ) (whole : Result ℕ ℕ) → i < n
    → names_end names at others name_at (n - i) bytes ≡ whole → Some wrong ≡ symbol_fault names at others name_at bytes → Err wrong ≡ whole
fault_here names at others name_at n i wrong bytes whole lt so_far e =
    let rest : Result ℕ ℕ =
    names_end names (at + 24) (others || is_other bytes) (next_name names name_at (name_in bytes)) (n - (i + 1)) (drop 24 bytes) in
    ap (λ f. unless f rest) e ∙ sym (ap (λ k. names_end names at others name_at k bytes) (one_less n i lt)) ∙ so_far

-- it has none
pub right_here : (names : List ℕ) (at at_next : ℕ) (others others_next : Bool) (name_at name_next n i : ℕ) (bytes next : List ℕ) (whole : Result ℕ ℕ)
    → i < n → at_next ≡ at + 24 → others_next ≡ (others || is_other bytes) → name_next ≡ next_name names name_at (name_in bytes)
    → next ≡ drop 24 bytes → names_end names at others name_at (n - i) bytes ≡ whole → None ≡ symbol_fault names at others name_at bytes
    → names_end names at_next others_next name_next (n - (i + 1)) next ≡ whole
right_here names at at_next others others_next name_at name_next n i bytes next whole lt at_is others_is name_is next_is so_far none =
    let m : ℕ = n - (i + 1) in
    let others_then : Bool = others || is_other bytes in
    let name_then : ℕ = next_name names name_at (name_in bytes) in
    let rest : Result ℕ ℕ = names_end names (at + 24) others_then name_then m (drop 24 bytes) in
    ap (λ x. names_end names x others_next name_next m next) at_is ∙ ap (λ x. names_end names (at + 24) x name_next m next) others_is
    ∙ ap (λ x. names_end names (at + 24) others_then x m next) name_is ∙ ap (λ x. names_end names (at + 24) others_then name_then m x) next_is
    ∙ ap (λ f. unless f rest) none ∙ sym (ap (λ k. names_end names at others name_at k bytes) (one_less n i lt)) ∙ so_far

-- none has
pub all_right : (names : List ℕ) (at : ℕ) (others : Bool) (name_at n i : ℕ) (bytes : List ℕ) (whole : Result ℕ ℕ) → n ≤ i
    → names_end names at others name_at (n - i) bytes ≡ whole → ended at name_at bytes ≡ whole
all_right names at others name_at n i bytes whole le so_far = sym (ap (λ k. names_end names at others name_at k bytes) (none n i le)) ∙ so_far
  where
    none : (n i : ℕ) → n ≤ i → n - i ≡ 0
    none n i le = omega (arith, le)

pub minus_zero : (n : ℕ) → n - 0 ≡ n
minus_zero n = omega arith

-- the entry after that of an index
pub next_entry : (table entry : List ℕ) (i : ℕ) → entry ≡ drop (24 * (i + 1)) table → drop (24 * (i + 1 + 1)) table ≡ drop 24 entry
next_entry table entry i is = sym (ap (drop 24) is ∙ drop-drop 24 (24 * (i + 1)) table ∙ ap (λ k. drop k table) (plus i))
  where
    plus : (i : ℕ) → 24 * (i + 1) + 24 ≡ 24 * (i + 1 + 1)
    plus i = omega arith

pub next_offset : (i : ℕ) → 24 * (i + 1 + 1) ≡ 24 * (i + 1) + 24
next_offset i = omega arith
