-- The object of an output can be written.
use Rattle.std.specs.Prelude.{codes, Result, Ok, Err, IfOk}
use Rattle.std.specs.List.{AllByRecursion}
use Rattle.std.proofs.Common.{◌≡◌, ℕ, zero, suc, ◌+◌, ◌<◌, Bool, true, false, List, [], ◌∷◌, ◌++◌, length, All, refl, sym, ap, ◌∙◌, subst, append_assoc, true≢false, arith}
use Rattle.std.proofs.lemmas.List.Elements.{All-from_recursion}
use Rattle.listing_text.specs.declared.output.Output.{Output}
use Rattle.elf_object.specs.declared.object.Section.{Section}
use Rattle.elf_object.specs.declared.object.Object.{Object}
use Rattle.elf_object.specs.Grammar.{IsName, IsNamed, IsAligned, IsObject}
use Rattle.object_command.specs.declared.object.ObjectError.{ObjectError}
use Rattle.object_command.specs.Object.{object_of, HaveSymbolNames, IsObjectOf}

-- ---- names of sections

-- whether no byte is zero
abbrev pub is_string : List ℕ → Bool
is_string [] = true
is_string (zero ∷ bytes) = false
is_string (suc n ∷ bytes) = is_string bytes

above : (name : List ℕ) → is_string name ≡ true → AllByRecursion (λ (byte : ℕ). 0 < byte) name
above [] e = tt
above (zero ∷ bytes) e = absurd (true≢false (sym e))
above (suc n ∷ bytes) e = (omega arith, above bytes e)

pub string : (name : List ℕ) → is_string name ≡ true → IsName name
string name e = All-from_recursion (λ (byte : ℕ). 0 < byte) name (above name e)

pub sections_named : (o : Output) → All IsNamed (object_of o).sections
sections_named o =
    All-from_recursion IsNamed (object_of o).sections (
      string (codes ".text") refl,
      (
        string (codes ".rela.text") refl,
        (
          string (codes ".debug_abbrev") refl,
          (
            string (codes ".debug_info") refl,
            (
              string (codes ".debug_line") refl,
              (
                string (codes ".debug_loclists") refl,
                (
                  string (codes ".symtab") refl,
                  (string (codes ".strtab") refl, tt),
                ),
              ),
            ),
          ),
        ),
      ),
    )

pub sections_aligned : (o : Output) → All IsAligned (object_of o).sections
sections_aligned o = All-from_recursion IsAligned (object_of o).sections (refl, (refl, (refl, (refl, (refl, (refl, (refl, (refl, tt))))))))

pub sections_few : (o : Output) → length (object_of o).sections + 2 < 0xff00
sections_few o = omega arith

-- ---- what was written

pub is_object : (o : Output) (object : Object) (r : Result (List ℕ) ObjectError) → HaveSymbolNames o.functions → object ≡ object_of o
    → IfOk r (IsObject object) → IfOk r (IsObjectOf o)
is_object o object (Ok bytes) names same is = record { names = names; object = subst (λ (x : Object). IsObject x bytes) same is }
is_object o object (Err e) names same is = tt

-- ---- sections one after the other

pub two_sections : (o o1 o2 : List Section) (a b x y : Section) → o1 ≡ o ++ a ∷ [] → o2 ≡ o1 ++ b ∷ [] → a ≡ x → b ≡ y → o2 ≡ o ++ x ∷ y ∷ []
two_sections o o1 o2 a b x y e1 e2 first second =
    e2 ∙ ap (λ ss. ss ++ b ∷ []) e1 ∙ append_assoc o (a ∷ []) (b ∷ []) ∙ ap (λ s. o ++ s ∷ b ∷ []) first ∙ ap (λ s. o ++ x ∷ s ∷ []) second

pub four_sections : (o o1 o2 o3 o4 : List Section) (a b c d x y z w : Section) → o1 ≡ o ++ a ∷ [] → o2 ≡ o1 ++ b ∷ [] → o3 ≡ o2 ++ c ∷ []
    → o4 ≡ o3 ++ d ∷ [] → a ≡ x → b ≡ y → c ≡ z → d ≡ w → o4 ≡ o ++ x ∷ y ∷ z ∷ w ∷ []
four_sections o o1 o2 o3 o4 a b c d x y z w e1 e2 e3 e4 first second third fourth =
    two_sections o2 o3 o4 c d z w e3 e4 third fourth
    ∙ ap (λ ss. ss ++ z ∷ w ∷ []) (two_sections o o1 o2 a b x y e1 e2 first second)
    ∙ append_assoc o (x ∷ y ∷ []) (z ∷ w ∷ [])
