-- Numbers that are added to symbols' addresses fit 32 bits signed, where they are read.
use Rattle.std.proofs.Common.{◌≡◌, ℕ, ℤ, pos, negsuc, zero, suc, ◌^◌, Bool, true, false, cond, ltb, List, ◌∷◌, Option, Some, None, refl, subst, arith}
use Rattle.std.specs.Prelude.{int_le}
use Rattle.std.proofs.lemmas.Bool.{and_from, ltb-true}
use Rattle.std.proofs.lemmas.Bool.Decides.{nat_tests}
use Rattle.rv64_instr.specs.Form.{is_within}
use Rattle.read_token.specs.declared.lexeme.Lexeme.{Lexeme}
use Rattle.read_token.specs.declared.lexeme.Lexeme.TheVariants as lexemes
use Rattle.read_token.specs.declared.lexeme.Number.{Number}
use Rattle.read_token.specs.declared.lexeme.Number.TheVariants.{Fits}
use Rattle.read_line.specs.Address.{added, taken, is_negative, signed_at, addend_at, addend_or_zero}
use Rattle.read_program.proofs.Lexemes.{AllFit}

-- the number that is added to a symbol's address fits 32 bits signed
abbrev pub AddendFits : Option ℤ → Type 0
AddendFits None = Unit {0}
AddendFits (Some i) = is_within (negsuc 2147483647) (pos 2147483647) i ≡ true

-- numbers that are added to symbols' addresses
added_fits : (n : Number) → AddendFits (added n)
added_fits (Fits (pos n)) = by (ltb n (2 ^ 31)) refl where
  by : (b : Bool) → ltb n (2 ^ 31) ≡ b → AddendFits (cond b (Some (pos n)) None)
  by true is =
      and_from (int_le (negsuc 2147483647) (pos n)) (int_le (pos n) (pos 2147483647)) refl
      (let small = ltb-true n (2 ^ 31) is in grind (arith, nat_tests))
  by false is = tt
added_fits n = tt

taken_fits : (n : Number) → AddendFits (taken n)
taken_fits (Fits (pos zero)) = refl
taken_fits (Fits (pos (suc n))) = by (ltb n (2 ^ 31)) refl where
  by : (b : Bool) → ltb n (2 ^ 31) ≡ b → AddendFits (cond b (Some (negsuc n)) None)
  by true is =
      and_from (int_le (negsuc 2147483647) (negsuc n)) (int_le (negsuc n) (pos 2147483647))
      (let small = ltb-true n (2 ^ 31) is in grind (arith, nat_tests)) refl
  by false is = tt
taken_fits n = tt

pub record ReadsAddend (read : Option (Option ℤ) × List Lexeme) : Type 0 where
  pub addend : AddendFits (addend_or_zero read.0)
  pub rest : AllFit read.1

signed_fits : (n : Number) (a : Option ℤ) (ts : List Lexeme) (read : Option (Option ℤ) × List Lexeme) → signed_at n a ts ≡ Some read → AddendFits a →
    AllFit ts → ReadsAddend read
signed_fits n a ts read e fits fit = by (is_negative n) e where
  some : Option (Option ℤ)
  some = Some a

  by : (b : Bool) → cond b None (Some (some, ts)) ≡ Some read → ReadsAddend read
  by true e = absurd cc
  by false e = let same : (some, ts) ≡ read = cc in subst ReadsAddend same (record { addend = fits; rest = fit })

pub addend_fits : (ts : List Lexeme) (read : Option (Option ℤ) × List Lexeme) → addend_at ts ≡ Some read → AllFit ts → ReadsAddend read
addend_fits (lexemes.Plus ∷ lexemes.Integer n ∷ ts) read e fit = signed_fits n (added n) ts read e (added_fits n) fit.1.1
addend_fits (lexemes.Minus ∷ lexemes.Integer n ∷ ts) read e fit = signed_fits n (taken n) ts read e (taken_fits n) fit.1.1
addend_fits (lexemes.Plus ∷ ts) read e fit = absurd cc
addend_fits (lexemes.Minus ∷ ts) read e fit = absurd cc
addend_fits ts read e fit =
    let none : Option (Option ℤ) = None in
    let same : (none, ts) ≡ read = cc in subst ReadsAddend same (record { addend = refl; rest = fit })
