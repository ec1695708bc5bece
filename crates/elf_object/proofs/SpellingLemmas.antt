-- How long an object's file is, and its parts as they are written one after the other.
use Rattle.std.proofs.Common.{◌≡◌, ℕ, ◌+◌, ◌*◌, ◌≤◌, List, [], ◌∷◌, ◌++◌, length, arith, ap, sym, ◌∙◌, refl, length-append, append_assoc, ◌⊎◌, inl, inr}
use Rattle.std.specs.Prelude.{replicate, Option, Some, None, IsNone, IsSome}
use Rattle.std.proofs.lemmas.List.{length-replicate}
use Rattle.elf_object.specs.declared.object.Section.{Section}
use Rattle.elf_object.specs.declared.object.Object.{Object}
use Rattle.elf_object.specs.Spelling.{padding, aligned, section_names, all_sections, contents, headers, file_header, file, spelling}
use Rattle.elf_object.proofs.ContentLemmas.{length-contents-last}
use Rattle.elf_object.proofs.HeaderLemmas.{length-file_header, length-headers}

-- where the section header table begins
abbrev pub table_of : List Section → ℕ
table_of sections = aligned (64 + length (contents 64 sections))

-- the file in five parts
pub grouped : (flags : ℕ) (ss : List Section)
    → file flags ss ≡ file_header flags (table_of ss) (length ss + 1)
    ++ ((contents 64 ss ++ replicate (padding (64 + length (contents 64 ss))) 0) ++ (replicate 64 0 ++ headers 1 64 ss))
grouped flags ss =
    regrouped (file_header flags (table_of ss) (length ss + 1)) (contents 64 ss) (replicate (padding (64 + length (contents 64 ss))) 0)
    (replicate 64 0) (headers 1 64 ss)
  where
    regrouped : (a b c d e : List ℕ) → (((a ++ b) ++ c) ++ d) ++ e ≡ a ++ ((b ++ c) ++ (d ++ e))
    regrouped a b c d e = simp append_assoc

-- the sections' bytes, up to the table
pub length-body : (ss : List Section) → 64 + length (contents 64 ss ++ replicate (padding (64 + length (contents 64 ss))) 0) ≡ table_of ss
length-body ss =
    ap (λ n. 64 + n) (length-append (contents 64 ss) (replicate (padding (64 + length (contents 64 ss))) 0)
    ∙ ap (λ n. length (contents 64 ss) + n) (length-replicate {A = ℕ} (padding (64 + length (contents 64 ss))) 0))
    ∙ regrouped 64 (length (contents 64 ss)) (padding (64 + length (contents 64 ss)))
  where
    regrouped : (a b c : ℕ) → a + (b + c) ≡ a + b + c
    regrouped a b c = omega arith

pub length-table : (ss : List Section) → length (replicate 64 0 ++ headers 1 64 ss) ≡ 64 + 64 * length ss
length-table ss =
    length-append (replicate 64 0) (headers 1 64 ss) ∙ ap (λ n. n + length (headers 1 64 ss)) (length-replicate {A = ℕ} 64 0)
    ∙ ap (λ n. 64 + n) (length-headers 1 64 ss)

pub length-file : (flags : ℕ) (ss : List Section) → length (file flags ss) ≡ table_of ss + (64 + 64 * length ss)
length-file flags ss =
    let head : List ℕ = file_header flags (table_of ss) (length ss + 1) in
    let body : List ℕ = contents 64 ss ++ replicate (padding (64 + length (contents 64 ss))) 0 in
    let table : List ℕ = replicate 64 0 ++ headers 1 64 ss in
    ap length (grouped flags ss) ∙ length-append head (body ++ table)
    ∙ ap (λ n. n + length (body ++ table)) (length-file_header flags (table_of ss) (length ss + 1))
    ∙ ap (λ n. 64 + n) (length-append body table)
    ∙ regrouped 64 (length body) (length table)
    ∙ ap (λ n. n + length table) (length-body ss)
    ∙ ap (λ n. table_of ss + n) (length-table ss)
  where
    regrouped : (a b c : ℕ) → a + (b + c) ≡ a + b + c
    regrouped a b c = omega arith

length-push : {X : Type 0} (xs : List X) (x : X) → length (xs ++ x ∷ []) ≡ length xs + 1
length-push xs x = length-append xs (x ∷ [])

-- the size of an object's file: the table begins at a multiple of 8, and has a header for each section, the null one, and that
-- of the names
pub length-spelling : (o : Object) → length (spelling o) ≡ table_of (all_sections o) + 64 * (length o.sections + 2)
unfolding spelling
length-spelling o =
    length-file o.flags (all_sections o)
    ∙ ap (λ n. table_of (all_sections o) + (64 + 64 * n)) (length-push o.sections (section_names o.sections))
    ∙ ap (λ n. table_of (all_sections o) + n) (counted (length o.sections))
  where
    counted : (n : ℕ) → 64 + 64 * (n + 1) ≡ 64 * (n + 2)
    counted n = omega arith

-- the same, with the section of the names apart
pub size_of : (o : Object) (end names size : ℕ) → end ≡ 64 + length (contents 64 o.sections) → names ≡ length (section_names o.sections).bytes
    → size ≡ aligned (aligned end + names) + 64 * (length o.sections + 2) → size ≡ length (spelling o)
size_of o end names size end_is names_is size_is =
    size_is
    ∙ ap (λ n. aligned n + 64 * (length o.sections + 2)) (
    ap (λ n. aligned n + names) end_is ∙ ap (λ n. aligned (64 + length (contents 64 o.sections)) + n) names_is
    ∙ sym (length-contents-last 64 o.sections (section_names o.sections))
    )
    ∙ sym (length-spelling o)

-- a part of the file is no longer than the file
pub names_below : (o : Object) → length (section_names o.sections).bytes ≤ length (spelling o)
names_below o =
    below (length (section_names o.sections).bytes) (64 + length (contents 64 o.sections)) (64 + length (contents 64 (all_sections o)))
    (64 * (length o.sections + 2)) (length (spelling o)) (length-contents-last 64 o.sections (section_names o.sections)) (length-spelling o)
  where
    below : (names end all table size : ℕ) → all ≡ aligned end + names → size ≡ aligned all + table → names ≤ size
    below names end all table size all_is size_is = omega arith

pub contents_below : (o : Object) → 64 + length (contents 64 o.sections) ≤ length (spelling o)
contents_below o =
    below (length (section_names o.sections).bytes) (64 + length (contents 64 o.sections)) (64 + length (contents 64 (all_sections o)))
    (64 * (length o.sections + 2)) (length (spelling o)) (length-contents-last 64 o.sections (section_names o.sections)) (length-spelling o)
  where
    below : (names end all table size : ℕ) → all ≡ aligned end + names → size ≡ aligned all + table → end ≤ size
    below names end all table size all_is size_is = omega arith

pub all_below : (o : Object) → 64 + length (contents 64 (all_sections o)) ≤ length (spelling o)
all_below o =
    below (64 + length (contents 64 (all_sections o))) (64 * (length o.sections + 2)) (length (spelling o)) (length-spelling o)
  where
    below : (all table size : ℕ) → size ≡ aligned all + table → all ≤ size
    below all table size size_is = omega arith

-- the five parts, as they are written one after the other
pub assembled : (o : Object) (names : Section) (sections : List Section) (none first second third fourth fifth zeros : List ℕ) (table count : ℕ)
    → sections ≡ o.sections → names ≡ section_names o.sections → none ≡ [] → first ≡ none ++ file_header o.flags table count
    → second ≡ first ++ contents (length first) (sections ++ names ∷ [])
    → third ≡ second ++ replicate (padding (length second)) 0 → zeros ≡ replicate 64 0 → fourth ≡ third ++ zeros
    → fifth ≡ fourth ++ headers 1 64 (sections ++ names ∷ [])
    → table + 64 * (length o.sections + 2) ≡ length (spelling o) → count ≡ length o.sections + 2 → fifth ≡ spelling o
unfolding spelling
assembled o names sections none first second third fourth fifth zeros table count same named empty e1 e2 e3 zero e4 e5 table_is count_is =
    let all : List Section = all_sections o in
    let all_are : sections ++ names ∷ [] ≡ all = ap (λ ss. ss ++ names ∷ []) same ∙ ap (λ n. o.sections ++ n ∷ []) named in
    let at : table ≡ table_of all = cancelled table (table_of all) (64 * (length o.sections + 2)) (table_is ∙ length-spelling o) in
    let counted : count ≡ length all + 1 =
    count_is ∙ plus (length o.sections) ∙ ap (λ n. n + 1) (sym (length-push o.sections (section_names o.sections))) in
    let head : List ℕ = file_header o.flags (table_of all) (length all + 1) in
    let first_is : first ≡ head =
    e1 ∙ ap (λ ys. ys ++ file_header o.flags table count) empty ∙ ap (λ n. file_header o.flags n count) at
    ∙ ap (λ n. file_header o.flags (table_of all) n) counted in
    let first_long : length first ≡ 64 = ap length first_is ∙ length-file_header o.flags (table_of all) (length all + 1) in
    let second_is : second ≡ head ++ contents 64 all =
    e2 ∙ ap (λ n. first ++ contents n (sections ++ names ∷ [])) first_long ∙ ap (λ ss. first ++ contents 64 ss) all_are
    ∙ ap (λ ys. ys ++ contents 64 all) first_is in
    let second_long : length second ≡ 64 + length (contents 64 all) =
    ap length second_is ∙ length-append head (contents 64 all)
    ∙ ap (λ n. n + length (contents 64 all)) (length-file_header o.flags (table_of all) (length all + 1)) in
    let third_is : third ≡ (head ++ contents 64 all) ++ replicate (padding (64 + length (contents 64 all))) 0 =
    e3 ∙ ap (λ n. second ++ replicate (padding n) 0) second_long
    ∙ ap (λ ys. ys ++ replicate (padding (64 + length (contents 64 all))) 0) second_is in
    e5 ∙ ap (λ ss. fourth ++ headers 1 64 ss) all_are
    ∙ ap (λ ys. ys ++ headers 1 64 all) (e4 ∙ ap (λ ys. third ++ ys) zero ∙ ap (λ ys. ys ++ replicate 64 0) third_is)
  where
    cancelled : (a b c : ℕ) → a + c ≡ b + c → a ≡ b
    cancelled a b c e = omega arith

    plus : (n : ℕ) → n + 2 ≡ n + 1 + 1
    plus n = omega arith

-- what isn't None
pub some_of : {X : Type 0} (r : Option X) (A B : Type 0) → (IsNone r → A ⊎ B) → (A → ⊥) → (B → ⊥) → IsSome r
some_of None A B none not_a not_b = absurd (elim (none refl) [ inl a ↦ not_a a | inr b ↦ not_b b ])
some_of (Some x) A B none not_a not_b = refl
