-- A section of abbreviations is that of one list, and among declared abbreviations the code tells which it is.
use Rattle.std.specs.Prelude.{◌&&◌, nat_eq}
use Rattle.std.specs.List.{flat_map, AllByRecursion}
use Rattle.std.proofs.Common.{◌≡◌, ℕ, suc, ◌≤◌, Bool, true, false, cond, List, [], ◌∷◌, ◌++◌, arith, ap, sym, ◌∙◌, refl, append_assoc, length, map}
use Rattle.std.proofs.Common.{eqb-true}
use Rattle.std.proofs.lemmas.Bool.{and_parts, and_right, true≢false}
use Rattle.std.proofs.lemmas.List.Elements.{recursion_from_All}
use Rattle.dwarf_base.specs.Leb.{uleb_of, groups}
use Rattle.dwarf_loclists.proofs.OneLocation.{uleb_one, heads_one, tails_one}
use Rattle.dwarf_entry.specs.declared.tree.Attribute.{Attribute}
use Rattle.dwarf_entry.specs.declared.abbreviation.Specification.{Specification}
use Rattle.dwarf_entry.specs.declared.abbreviation.Abbreviation.{Abbreviation}
use Rattle.dwarf_entry.specs.Declarations.{specification_of, same, same_specifications, is_declared, code_from, children_flag, specification, declaration, declarations_from}
use Rattle.dwarf_entry.specs.Grammar.{HasForm, HasForms}

-- ---- equal abbreviations

flag_one : (x y : Bool) → children_flag x ≡ children_flag y → x ≡ y
flag_one true true e = refl
flag_one true false e = absurd (omega (arith, e))
flag_one false true e = absurd (omega (arith, e))
flag_one false false e = refl

specifications_are : (xs bs : List Specification) → same_specifications xs bs ≡ true → xs ≡ bs
specifications_are [] [] e = refl
specifications_are [] (b ∷ bs) e = absurd (true≢false (sym e))
specifications_are (a ∷ xs) [] e = absurd (true≢false (sym e))
specifications_are (a ∷ xs) (b ∷ bs) e =
    let parts = and_parts (nat_eq a.name b.name && nat_eq a.form b.form) (same_specifications xs bs) e in
    let both = and_parts (nat_eq a.name b.name) (nat_eq a.form b.form) parts.0 in
    let name : a.name ≡ b.name = eqb-true a.name b.name both.0 in
    let form : a.form ≡ b.form = eqb-true a.form b.form both.1 in
    let rest : xs ≡ bs = specifications_are xs bs parts.1 in
    λ i. record { name = name i; form = form i } ∷ rest i

-- lists of other lengths are others
pub other_lengths : (ss : List Specification) (xs : List Attribute) → (length ss ≡ length xs → ⊥) → false ≡ same_specifications ss (map specification_of xs)
other_lengths [] [] differ = absurd (differ refl)
other_lengths [] (x ∷ xs) differ = refl
other_lengths (s ∷ ss) [] differ = refl
other_lengths (s ∷ ss) (x ∷ xs) differ =
    sym (and_right (nat_eq s.name (specification_of x).name && nat_eq s.form (specification_of x).form) (same_specifications ss (map specification_of xs))
    (sym (other_lengths ss xs (λ e. differ (ap suc e)))))

pub same_is : (a b : Abbreviation) → same a b ≡ true → a ≡ b
same_is a b e =
    let parts = and_parts (nat_eq a.tag b.tag && nat_eq (children_flag a.children) (children_flag b.children)) (same_specifications a.attributes b.attributes) e in
    let both = and_parts (nat_eq a.tag b.tag) (nat_eq (children_flag a.children) (children_flag b.children)) parts.0 in
    let tag : a.tag ≡ b.tag = eqb-true a.tag b.tag both.0 in
    let children : a.children ≡ b.children = flag_one a.children b.children (eqb-true (children_flag a.children) (children_flag b.children) both.1) in
    let attributes : a.attributes ≡ b.attributes = specifications_are a.attributes b.attributes parts.1 in
    λ i. record { tag = tag i; children = children i; attributes = attributes i }

-- ---- codes

pub code_above : (n : ℕ) (cs : List Abbreviation) (a : Abbreviation) → n ≤ code_from n cs a
code_above n [] a = omega arith
code_above n (c ∷ cs) a = by (same c a) (code_above (suc n) cs a)
  where
    by : (t : Bool) → suc n ≤ code_from (suc n) cs a → n ≤ cond t n (code_from (suc n) cs a)
    by true more = omega arith
    by false more = omega (arith, more)

-- what has one code is one abbreviation
pub code_one : (n : ℕ) (cs : List Abbreviation) (a b : Abbreviation) → is_declared a cs ≡ true → is_declared b cs ≡ true → code_from n cs a ≡ code_from n cs b
    → a ≡ b
code_one n [] a b in_a in_b e = absurd (true≢false (sym in_a))
code_one n (c ∷ cs) a b in_a in_b e =
    by (same c a) (same c b) refl refl in_a in_b e (λ x y z. code_one (suc n) cs a b x y z)
  where
    by : (s t : Bool) → same c a ≡ s → same c b ≡ t → cond s true (is_declared a cs) ≡ true → cond t true (is_declared b cs) ≡ true
        → cond s n (code_from (suc n) cs a) ≡ cond t n (code_from (suc n) cs b)
        → (is_declared a cs ≡ true → is_declared b cs ≡ true → code_from (suc n) cs a ≡ code_from (suc n) cs b → a ≡ b) → a ≡ b
    by true true is_a is_b d_a d_b codes rest = sym (same_is c a is_a) ∙ same_is c b is_b
    by true false is_a is_b d_a d_b codes rest = absurd (omega (arith, codes, code_above (suc n) cs b))
    by false true is_a is_b d_a d_b codes rest = absurd (omega (arith, codes, code_above (suc n) cs a))
    by false false is_a is_b d_a d_b codes rest = rest d_a d_b codes

-- ---- the section

abbrev ended : List Specification → List ℕ → List ℕ
ended ss x = flat_map specification ss ++ (0 ∷ 0 ∷ x)

specification-append : (s : Specification) (ss : List Specification) (x : List ℕ) → ended (s ∷ ss) x ≡ uleb_of s.name ++ (uleb_of s.form ++ ended ss x)
specification-append s ss x = simp append_assoc

-- a zero is the number 0 in LEB128
pub zero_is : (x : List ℕ) → 0 ∷ x ≡ uleb_of 0 ++ x
unfolding uleb_of groups
zero_is x = refl

zeros : (x : List ℕ) → 0 ∷ 0 ∷ x ≡ uleb_of 0 ++ (uleb_of 0 ++ x)
zeros x = zero_is (0 ∷ x) ∙ ap (λ (ys : List ℕ). uleb_of 0 ++ ys) (zero_is x)

specifications_one : (xs bs : List Specification) (x y : List ℕ) → AllByRecursion HasForm xs → AllByRecursion HasForm bs → ended xs x ≡ ended bs y
    → (xs ≡ bs) × (x ≡ y)
specifications_one [] [] x y ok_a ok_b e = (refl, cc)
specifications_one [] (b ∷ bs) x y ok_a ok_b e =
    let name = uleb_one 0 b.name _ _ (sym (zeros x) ∙ e ∙ specification-append b bs y) in
    let form = uleb_one 0 b.form _ _ name.1 in
    absurd (omega (arith, form.0, ok_b.0))
specifications_one (a ∷ xs) [] x y ok_a ok_b e =
    let name = uleb_one a.name 0 _ _ (sym (specification-append a xs x) ∙ e ∙ zeros y) in
    let form = uleb_one a.form 0 _ _ name.1 in
    absurd (omega (arith, form.0, ok_a.0))
specifications_one (a ∷ xs) (b ∷ bs) x y ok_a ok_b e =
    let name = uleb_one a.name b.name _ _ (sym (specification-append a xs x) ∙ e ∙ specification-append b bs y) in
    let form = uleb_one a.form b.form _ _ name.1 in
    let rest = specifications_one xs bs x y ok_a.1 ok_b.1 form.1 in
    (λ i. record { name = name.0 i; form = form.0 i } ∷ rest.0 i, rest.1)

declaration-append : (n : ℕ) (a : Abbreviation) (x : List ℕ)
    → declaration n a ++ x ≡ uleb_of n ++ (uleb_of a.tag ++ (children_flag a.children ∷ ended a.attributes x))
unfolding declaration
declaration-append n a x = simp append_assoc

declaration_one : (n : ℕ) (a b : Abbreviation) (x y : List ℕ) → HasForms a → HasForms b → declaration n a ++ x ≡ declaration n b ++ y → (a ≡ b) × (x ≡ y)
declaration_one n a b x y ok_a ok_b e =
    let code = uleb_one n n _ _ (sym (declaration-append n a x) ∙ e ∙ declaration-append n b y) in
    let tag = uleb_one a.tag b.tag _ _ code.1 in
    let children : a.children ≡ b.children = flag_one a.children b.children (heads_one (children_flag a.children) (children_flag b.children) _ _ tag.1) in
    let attributes =
    specifications_one a.attributes b.attributes x y (recursion_from_All HasForm a.attributes ok_a) (recursion_from_All HasForm b.attributes ok_b)
    (tails_one (children_flag a.children) (children_flag b.children) _ _ tag.1) in
    (λ i. record { tag = tag.0 i; children = children i; attributes = attributes.0 i }, attributes.1)

-- declarations whose codes count from 1 or more are those of one list
pub declarations_one : (n : ℕ) (xs bs : List Abbreviation) → AllByRecursion HasForms xs → AllByRecursion HasForms bs
    → declarations_from (suc n) xs ≡ declarations_from (suc n) bs → xs ≡ bs
declarations_one n [] [] ok_a ok_b e = refl
declarations_one n [] (b ∷ bs) ok_a ok_b e =
    let code = uleb_one 0 (suc n) [] _ (sym (zero_is []) ∙ e ∙ declaration-append (suc n) b (declarations_from (suc (suc n)) bs)) in
    absurd (omega (arith, code.0))
declarations_one n (a ∷ xs) [] ok_a ok_b e =
    let code = uleb_one (suc n) 0 _ [] (sym (declaration-append (suc n) a (declarations_from (suc (suc n)) xs)) ∙ e ∙ zero_is []) in
    absurd (omega (arith, code.0))
declarations_one n (a ∷ xs) (b ∷ bs) ok_a ok_b e =
    let first = declaration_one (suc n) a b _ _ ok_a.0 ok_b.0 e in
    let rest = declarations_one (suc n) xs bs ok_a.1 ok_b.1 first.1 in
    λ i. first.0 i ∷ rest i
