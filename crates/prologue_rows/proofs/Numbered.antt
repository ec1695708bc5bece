-- Files numbered as they are used.
-- Plan: what is made, with what will be made of the rest, is all, whatever files join later; a step takes it at the files that the step itself adds.
use Rattle.std.proofs.Common.{◌≡◌, ℕ, suc, ◌+◌, ◌≤◌, List, [], ◌∷◌, ◌++◌, map, length, refl, sym, ◌∙◌, ap, arith, append_assoc, append-nil, subst}
use Rattle.dwarf_line_table.specs.declared.file.SourceFile.{SourceFile}
use Rattle.dwarf_line_table.specs.Files.{with_new, first_uses, is_file}
use Rattle.dwarf_line_table.proofs.FirstUses.{joined_only}
use Rattle.prologue_rows.specs.Files.{number_of}

-- what is made of uses, each by the number of its file
abbrev pub made_of : {X Y : Type 0} (file : X → SourceFile) (make : ℕ → X → Y) → List SourceFile → List X → List Y
made_of file make files xs = map (λ x. make (number_of files (file x)) x) xs

pub record Numbered {X Y : Type 0} (file : X → SourceFile) (make : ℕ → X → Y) (first files : List SourceFile) (xs rest : List X) (given made : List Y) : Type
    0 where
  pub few : length files + length rest ≤ length first + length xs
  pub known : first_uses is_file files (map file rest) ≡ first_uses is_file first (map file xs)
  pub listed : (more : List SourceFile) → made ++ made_of file make (files ++ more) rest ≡ given ++ made_of file make (files ++ more) xs

pub starts : {X Y : Type 0} (file : X → SourceFile) (make : ℕ → X → Y) (first : List SourceFile) (xs : List X) (given made : List Y) → made ≡ given →
    Numbered file make first first xs xs given made
starts file make first xs given made same = record {
  few = omega arith;
  known = refl;
  listed = λ more. ap (λ ys. ys ++ made_of file make (first ++ more) xs) same;
}

pub next : {X Y : Type 0} (file : X → SourceFile) (make : ℕ → X → Y) (first files files_ : List SourceFile) (xs left rest : List X) (x : X)
    (given made made_ : List Y) (n : ℕ) (y : Y)
    → Numbered file make first files xs left given made → left ≡ x ∷ rest
    → files_ ≡ with_new is_file files (file x)
    → ((more : List SourceFile) → n ≡ number_of (files_ ++ more) (file x))
    → length files_ ≤ length files + 1 → y ≡ make n x → made_ ≡ made ++ y ∷ []
    → Numbered file make first files_ xs rest given made_
next file make first files files_ xs left rest x given made made_ n y before split joins number few made_is pushed =
    let so : Numbered file make first files xs (x ∷ rest) given made = subst (λ zs. Numbered file make first files xs zs given made) split before in
    let longer = joined_only is_file files (file x) in
    record {
      few = let so_few : length files + suc (length rest) ≤ length first + length xs = so.few in omega (arith, so_few, few);
      known = ap (λ fs. first_uses is_file fs (map file rest)) joins ∙ so.known;
      listed = λ more.
          let all = files_ ++ more in
          let is : all ≡ files ++ (longer.0 ++ more) = ap (λ fs. fs ++ more) (joins ∙ longer.1) ∙ append_assoc files longer.0 more in
          let left_made = made_of file make all rest in
          ap (λ ys. ys ++ left_made) pushed ∙ append_assoc made (y ∷ []) left_made
          ∙ ap (λ z. made ++ z ∷ left_made) (made_is ∙ ap (λ k. make k x) (number more))
          ∙ subst (λ fs. made ++ made_of file make fs (x ∷ rest) ≡ given ++ made_of file make fs xs) (sym is) (so.listed (longer.0 ++ more));
    }

-- all uses are gone through
pub record Done {X Y : Type 0} (file : X → SourceFile) (make : ℕ → X → Y) (first files : List SourceFile) (xs : List X) (given made : List Y) : Type 0 where
  pub known : files ≡ first_uses is_file first (map file xs)
  pub listed : (more : List SourceFile) → made ≡ given ++ made_of file make (files ++ more) xs
  pub few : length files ≤ length first + length xs

pub done : {X Y : Type 0} (file : X → SourceFile) (make : ℕ → X → Y) (first files : List SourceFile) (xs left : List X) (given made : List Y)
    → Numbered file make first files xs left given made → left ≡ [] → Done file make first files xs given made
done file make first files xs left given made before none =
    let so : Numbered file make first files xs [] given made = subst (λ zs. Numbered file make first files xs zs given made) none before in
    record { known = so.known; listed = λ more. sym (append-nil made) ∙ so.listed more; few = omega (arith, so.few) }
