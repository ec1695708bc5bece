-- Which calls have instances: those that an instruction has.
use Rattle.std.proofs.Common.{◌≡◌, ℕ, Bool, true, false, ◌||◌, cond, if◌then◌else◌, List, [], ◌∷◌, ◌++◌, reverse, refl, sym, ◌∙◌, ap, nat_eq}
use Rattle.std.proofs.Common.{eqb-true, append-nil, append_assoc}
use Rattle.std.specs.List.{list_any, flat_map}
use Rattle.std.proofs.lemmas.List.Folds.{list_any-append}
use Rattle.std.proofs.lemmas.List.Sorted.{list_any-IsPermutation, IsPermutation-reverse}
use Rattle.dwarf_line_table.specs.Files.{first_uses, with_new}
use Rattle.dwarf_line_table.proofs.FirstUses.{uses_append}
use Rattle.inline_instances.specs.Words.{InlinedWord, has_call, calls_of}
use Rattle.inline_instances.specs.steps.Marks.{IsIn}

or_false : (z : Bool) → z ≡ (z || false)
or_false true = refl
or_false false = refl

or_assoc : (x y z : Bool) → ((x || y) || z) ≡ (x || (y || z))
or_assoc true y z = refl
or_assoc false y z = refl

or_own : (x y : Bool) → (y ≡ true → x ≡ true) → x ≡ (x || y)
or_own true y same = refl
or_own false true same = same refl
or_own false false same = refl

new_any : (n : ℕ) (known : List ℕ) (m : ℕ) → list_any (nat_eq n) (with_new nat_eq known m) ≡ (list_any (nat_eq n) known || nat_eq n m)
new_any n known m = by (list_any (nat_eq m) known) refl
  where
    by : (z : Bool) → list_any (nat_eq m) known ≡ z → list_any (nat_eq n) (if z then known else known ++ m ∷ []) ≡ (list_any (nat_eq n) known || nat_eq n m)
    by true e = or_own (list_any (nat_eq n) known) (nat_eq n m) (λ same. ap (λ (k : ℕ). list_any (nat_eq k) known) (eqb-true n m same) ∙ e)
    by false e =
        list_any-append (nat_eq n) known (m ∷ []) ∙ ap (λ (z : Bool). list_any (nat_eq n) known || z) (sym (or_false (nat_eq n m)))

pub uses_any : (n : ℕ) (known xs : List ℕ) → list_any (nat_eq n) (first_uses nat_eq known xs) ≡ (list_any (nat_eq n) known || list_any (nat_eq n) xs)
uses_any n known [] = or_false (list_any (nat_eq n) known)
uses_any n known (x ∷ xs) =
    uses_any n (with_new nat_eq known x) xs
    ∙ ap (λ (z : Bool). z || list_any (nat_eq n) xs) (new_any n known x)
    ∙ or_assoc (list_any (nat_eq n) known) (nat_eq n x) (list_any (nat_eq n) xs)

pub reverse_any : (n : ℕ) (xs : List ℕ) → list_any (nat_eq n) (reverse xs) ≡ list_any (nat_eq n) xs
reverse_any n xs = sym (list_any-IsPermutation (nat_eq n) xs (reverse xs) (IsPermutation-reverse xs))

flat_any : (n : ℕ) (words : List InlinedWord) → list_any (nat_eq n) (flat_map (λ w. reverse w.calls) words) ≡ list_any (has_call n) words
flat_any n [] = refl
flat_any n (w ∷ words) =
    list_any-append (nat_eq n) (reverse w.calls) (flat_map (λ (v : InlinedWord). reverse v.calls) words)
    ∙ (λ i. reverse_any n w.calls i || flat_any n words i)

-- a call has an instance exactly if an instruction has it
pub calls_any : (n : ℕ) (words : List InlinedWord) → list_any (nat_eq n) (calls_of words) ≡ list_any (has_call n) words
calls_any n words = uses_any n [] (flat_map (λ (w : InlinedWord). reverse w.calls) words) ∙ flat_any n words

flat_more : (words : List InlinedWord) (w : InlinedWord)
    → flat_map (λ v. reverse v.calls) (words ++ w ∷ []) ≡ flat_map (λ v. reverse v.calls) words ++ reverse w.calls
flat_more [] w = append-nil (reverse w.calls)
flat_more (v ∷ words) w =
    ap (λ (ns : List ℕ). reverse v.calls ++ ns) (flat_more words w)
    ∙ sym (append_assoc (reverse v.calls) (flat_map (λ (u : InlinedWord). reverse u.calls) words) (reverse w.calls))

-- the calls with those of one more instruction
pub calls_more : (words : List InlinedWord) (w : InlinedWord) → first_uses nat_eq (calls_of words) (reverse w.calls) ≡ calls_of (words ++ w ∷ [])
calls_more words w =
    sym (uses_append nat_eq [] (flat_map (λ (v : InlinedWord). reverse v.calls) words) (reverse w.calls))
    ∙ ap (first_uses nat_eq []) (sym (flat_more words w))
