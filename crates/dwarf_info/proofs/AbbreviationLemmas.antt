-- The abbreviations, as they were written one after the other.
use Rattle.std.proofs.Common.{◌≡◌, ℕ, List, [], ◌∷◌, ◌++◌, append_assoc, append-nil}
use Rattle.dwarf_info.specs.declared.kind.DieKind.TheVariants.{CompileUnit, Subprogram, TypedParameter, Parameter, TypedVariable, Variable, BaseType}
use Rattle.dwarf_info.specs.declared.kind.DieKind.TheVariants.{UnitWithRanges, AbstractSubprogram, InlinedSubroutine}
use Rattle.dwarf_info.specs.Kinds.{abbreviation, abbreviations, inlined_abbreviations}

pub all_written : (o0 o1 o2 o3 o4 o5 o6 o7 o8 : List ℕ) → o0 ≡ [] → o1 ≡ o0 ++ abbreviation CompileUnit → o2 ≡ o1 ++ abbreviation Subprogram
    → o3 ≡ o2 ++ abbreviation TypedParameter → o4 ≡ o3 ++ abbreviation Parameter → o5 ≡ o4 ++ abbreviation TypedVariable → o6 ≡ o5 ++ abbreviation Variable
    → o7 ≡ o6 ++ abbreviation BaseType → o8 ≡ o7 ++ 0 ∷ [] → o8 ≡ abbreviations
unfolding abbreviations
all_written o0 o1 o2 o3 o4 o5 o6 o7 o8 e0 e1 e2 e3 e4 e5 e6 e7 e8 =
    rw (e8, e7, e6, e5, e4, e3, e2, e1, e0)
    (nested (abbreviation CompileUnit) (abbreviation Subprogram) (abbreviation TypedParameter) (abbreviation Parameter) (abbreviation TypedVariable)
    (abbreviation Variable) (abbreviation BaseType))
  where
    nested : (a b c d e f g : List ℕ) → ((((((a ++ b) ++ c) ++ d) ++ e) ++ f) ++ g) ++ 0 ∷ [] ≡ (a ++ (b ++ (c ++ (d ++ (e ++ (f ++ (g ++ []))))))) ++ 0 ∷ []
    nested a b c d e f g = simp (append_assoc, append-nil)

pub all_inlined_written : (o0 o1 o2 o3 o4 o5 o6 o7 o8 o9 o10 : List ℕ) → o0 ≡ [] → o1 ≡ o0 ++ abbreviation UnitWithRanges
    → o2 ≡ o1 ++ abbreviation Subprogram
    → o3 ≡ o2 ++ abbreviation TypedParameter → o4 ≡ o3 ++ abbreviation Parameter → o5 ≡ o4 ++ abbreviation TypedVariable → o6 ≡ o5 ++ abbreviation Variable
    → o7 ≡ o6 ++ abbreviation BaseType → o8 ≡ o7 ++ abbreviation AbstractSubprogram → o9 ≡ o8 ++ abbreviation InlinedSubroutine → o10 ≡ o9 ++ 0 ∷ []
    → o10 ≡ inlined_abbreviations
unfolding inlined_abbreviations
all_inlined_written o0 o1 o2 o3 o4 o5 o6 o7 o8 o9 o10 e0 e1 e2 e3 e4 e5 e6 e7 e8 e9 e10 =
    rw (e10, e9, e8, e7, e6, e5, e4, e3, e2, e1, e0)
    (nested (abbreviation UnitWithRanges) (abbreviation Subprogram) (abbreviation TypedParameter) (abbreviation Parameter) (abbreviation TypedVariable)
    (abbreviation Variable) (abbreviation BaseType) (abbreviation AbstractSubprogram) (abbreviation InlinedSubroutine))
  where
    nested : (a b c d e f g h i : List ℕ) → ((((((((a ++ b) ++ c) ++ d) ++ e) ++ f) ++ g) ++ h) ++ i) ++ 0 ∷ []
        ≡ (a ++ (b ++ (c ++ (d ++ (e ++ (f ++ (g ++ (h ++ (i ++ []))))))))) ++ 0 ∷ []
    nested a b c d e f g h i = simp (append_assoc, append-nil)
