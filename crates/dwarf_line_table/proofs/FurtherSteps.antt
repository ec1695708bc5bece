-- The numbers of further files, as their scopes are gone through.
use Rattle.std.proofs.Common.{◌≡◌, ℕ, suc, ◌+◌, ◌≤◌, ◌<◌, List, [], ◌∷◌, ◌++◌, map, length, refl, sym, ◌∙◌, ap, arith, append_assoc, append-nil, subst}
use Rattle.std.specs.Prelude.{Option}
use Rattle.read_metadata.specs.Maps.{Maps}
use Rattle.dwarf_line_table.specs.declared.file.SourceFile.{SourceFile}
use Rattle.dwarf_line_table.specs.Files.{with_new, first_uses, is_file, number_in, unit_in}
use Rattle.dwarf_line_table.specs.SourcePosition.{scope_file}
use Rattle.dwarf_line_table.proofs.FirstUses.{joined_only}
use Rattle.dwarf_line_table.proofs.Keys.{unit_stays}

abbrev numbers_by : Maps → SourceFile → List SourceFile → List (Option ℕ) → List ℕ
numbers_by meta unit files scopes = map (λ scope. number_in files (scope_file meta unit scope)) scopes

pub record FurtherSoFar (meta : Maps) (first files : List SourceFile) (scopes rest : List (Option ℕ)) (numbers : List ℕ) : Type 0 where
  pub some : 0 < length files
  pub led : unit_in files ≡ unit_in first
  pub few : length files + length rest ≤ length first + length scopes
  pub known : first_uses is_file files (map (scope_file meta (unit_in first)) rest) ≡ first_uses is_file first (map (scope_file meta (unit_in first)) scopes)
  pub numbered : (more : List SourceFile) → numbers ++ numbers_by meta (unit_in first) (files ++ more) rest
      ≡ numbers_by meta (unit_in first) (files ++ more) scopes

pub further_starts : (meta : Maps) (first : List SourceFile) (scopes : List (Option ℕ)) (numbers : List ℕ) → 0 < length first → numbers ≡ [] →
    FurtherSoFar meta first first scopes scopes numbers
further_starts meta first scopes numbers some none = record {
  some = some;
  led = refl;
  few = omega arith;
  known = refl;
  numbered = λ more. ap (λ ns. ns ++ numbers_by meta (unit_in first) (first ++ more) scopes) none;
}

pub further_next : (meta : Maps) (first files files_ : List SourceFile) (scopes rest : List (Option ℕ)) (scope : Option ℕ) (n : ℕ)
    (numbers numbers_ : List ℕ) → FurtherSoFar meta first files scopes (scope ∷ rest) numbers
    → files_ ≡ with_new is_file files (scope_file meta (unit_in files) scope)
    → ((more : List SourceFile) → n ≡ number_in (files_ ++ more) (scope_file meta (unit_in files) scope))
    → length files_ ≤ length files + 1 → numbers_ ≡ numbers ++ n ∷ [] → FurtherSoFar meta first files_ scopes rest numbers_
further_next meta first files files_ scopes rest scope n numbers numbers_ so joins number few pushed =
    let unit = unit_in first in
    let file = scope_file meta (unit_in files) scope in
    let stays = unit_stays files file so.some in
    let longer = joined_only is_file files file in
    record {
      some = let P : List SourceFile → Type 0 = λ fs. 0 < length fs in subst P (sym joins) stays.1;
      led = ap unit_in joins ∙ stays.0 ∙ so.led;
      few = let so_few : length files + suc (length rest) ≤ length first + length scopes = so.few in omega (arith, so_few, few);
      known =
          ap (λ fs. first_uses is_file fs (map (scope_file meta unit) rest)) (joins ∙ ap (λ u. with_new is_file files (scope_file meta u scope)) so.led)
          ∙ so.known;
      numbered = λ more.
          let all = files_ ++ more in
          let is : all ≡ files ++ (longer.0 ++ more) = ap (λ fs. fs ++ more) (joins ∙ longer.1) ∙ append_assoc files longer.0 more in
          let left = numbers_by meta unit all rest in
          let one : n ≡ number_in all (scope_file meta unit scope) = number more ∙ ap (λ u. number_in all (scope_file meta u scope)) so.led in
          let P : List SourceFile → Type 0 = λ fs. numbers ++ numbers_by meta unit fs (scope ∷ rest) ≡ numbers_by meta unit fs scopes in
          ap (λ ns. ns ++ left) pushed ∙ append_assoc numbers (n ∷ []) left ∙ ap (λ k. numbers ++ k ∷ left) one
          ∙ subst P (sym is) (so.numbered (longer.0 ++ more));
    }

-- all scopes are gone through
pub further_done : (meta : Maps) (first files : List SourceFile) (scopes : List (Option ℕ)) (numbers : List ℕ) → FurtherSoFar meta first files scopes [] numbers
    → (files ≡ first_uses is_file first (map (scope_file meta (unit_in first)) scopes))
    × ((more : List SourceFile) → numbers ≡ numbers_by meta (unit_in first) (files ++ more) scopes) × (length files ≤ length first + length scopes)
further_done meta first files scopes numbers so =
    (so.known, λ more. sym (append-nil numbers) ∙ so.numbered more, omega (arith, so.few))
