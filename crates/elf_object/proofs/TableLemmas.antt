-- The parts of relocations and symbols, as they are written one after the other.
use Rattle.std.specs.Int.{w16, w32, w64, to_le_bytes}
use Rattle.std.proofs.Common.{◌≡◌, ℕ, ◌+◌, ◌*◌, List, [], ◌∷◌, ◌++◌, ap, ◌∙◌, refl, append_assoc}
use Rattle.elf_object.specs.declared.relocations.Relocation.{Relocation}
use Rattle.elf_object.specs.Relocations.{relocation}
use Rattle.elf_object.specs.declared.symbols.Symbol.{Symbol}
use Rattle.elf_object.specs.Symbols.{binding_number, type_number, symbol}

-- 4 parts, one after the other
pub joined4 : (o o1 o2 o3 o4 a b c d : List ℕ) → o1 ≡ o ++ a → o2 ≡ o1 ++ b → o3 ≡ o2 ++ c → o4 ≡ o3 ++ d → o4 ≡ o ++ (((a ++ b) ++ c) ++ d)
joined4 o o1 o2 o3 o4 a b c d e1 e2 e3 e4 =
    e4 ∙ ap (λ y. y ++ d) (e3 ∙ ap (λ y. y ++ c) (e2 ∙ ap (λ y. y ++ b) (e1))) ∙ nested o a b c d
  where
    nested : (o a b c d : List ℕ) → ((((o ++ a) ++ b) ++ c) ++ d) ≡ o ++ (((a ++ b) ++ c) ++ d)
    nested o a b c d = simp append_assoc

-- 6 parts, one after the other
pub joined6 : (o o1 o2 o3 o4 o5 o6 a b c d e f : List ℕ) → o1 ≡ o ++ a → o2 ≡ o1 ++ b → o3 ≡ o2 ++ c → o4 ≡ o3 ++ d → o5 ≡ o4 ++ e → o6 ≡ o5 ++ f → o6 ≡ o ++ (((((a ++ b) ++ c) ++ d) ++ e) ++ f)
joined6 o o1 o2 o3 o4 o5 o6 a b c d e f e1 e2 e3 e4 e5 e6 =
    e6 ∙ ap (λ y. y ++ f) (e5 ∙ ap (λ y. y ++ e) (e4 ∙ ap (λ y. y ++ d) (e3 ∙ ap (λ y. y ++ c) (e2 ∙ ap (λ y. y ++ b) (e1))))) ∙ nested o a b c d e f
  where
    nested : (o a b c d e f : List ℕ) → ((((((o ++ a) ++ b) ++ c) ++ d) ++ e) ++ f) ≡ o ++ (((((a ++ b) ++ c) ++ d) ++ e) ++ f)
    nested o a b c d e f = simp append_assoc

relocation_is : (r : Relocation) → (((to_le_bytes w64 r.offset ++ to_le_bytes w32 r.relocation_type) ++ to_le_bytes w32 r.symbol) ++ to_le_bytes w64 r.addend) ≡ relocation r
unfolding relocation
relocation_is r = refl

pub relocation_written : (r : Relocation) (o o1 o2 o3 o4 p1 p2 p3 p4 : List ℕ)
    → o1 ≡ o ++ p1 → o2 ≡ o1 ++ p2 → o3 ≡ o2 ++ p3 → o4 ≡ o3 ++ p4
    → p1 ≡ to_le_bytes w64 r.offset → p2 ≡ to_le_bytes w32 r.relocation_type → p3 ≡ to_le_bytes w32 r.symbol → p4 ≡ to_le_bytes w64 r.addend
    → o4 ≡ o ++ relocation r
relocation_written r o o1 o2 o3 o4 p1 p2 p3 p4 e1 e2 e3 e4 q1 q2 q3 q4 =
    joined4 o o1 o2 o3 o4 (to_le_bytes w64 r.offset) (to_le_bytes w32 r.relocation_type) (to_le_bytes w32 r.symbol) (to_le_bytes w64 r.addend) (e1 ∙
    ap (λ y. o ++ y) q1) (e2 ∙ ap (λ y. o1 ++ y) q2) (e3 ∙ ap (λ y. o2 ++ y) q3) (e4 ∙ ap (λ y. o3 ++ y) q4) ∙ ap (λ y. o ++ y) (relocation_is r)

symbol_is : (name : ℕ) (s : Symbol) → (((((to_le_bytes w32 name ++ ((16 * binding_number s.binding + type_number s.symbol_type) ∷ [])) ++ (0 ∷ [])) ++ to_le_bytes w16 s.section) ++ to_le_bytes w64 s.value) ++ to_le_bytes w64 s.size) ≡ symbol name s
unfolding symbol
symbol_is name s = refl

pub symbol_written : (name : ℕ) (s : Symbol) (o o1 o2 o3 o4 o5 o6 p1 p2 p3 p4 p5 p6 : List ℕ)
    → o1 ≡ o ++ p1 → o2 ≡ o1 ++ p2 → o3 ≡ o2 ++ p3 → o4 ≡ o3 ++ p4 → o5 ≡ o4 ++ p5 → o6 ≡ o5 ++ p6
    → p1 ≡ to_le_bytes w32 name → p2 ≡ ((16 * binding_number s.binding + type_number s.symbol_type) ∷ []) → p3 ≡ (0 ∷ []) → p4 ≡ to_le_bytes w16
    s.section → p5 ≡ to_le_bytes w64 s.value → p6 ≡ to_le_bytes w64 s.size
    → o6 ≡ o ++ symbol name s
symbol_written name s o o1 o2 o3 o4 o5 o6 p1 p2 p3 p4 p5 p6 e1 e2 e3 e4 e5 e6 q1 q2 q3 q4 q5 q6 =
    joined6 o o1 o2 o3 o4 o5 o6 (to_le_bytes w32 name) (((16 * binding_number s.binding + type_number s.symbol_type) ∷ [])) ((0 ∷ [])) (to_le_bytes
    w16 s.section) (to_le_bytes w64 s.value) (to_le_bytes w64 s.size) (e1 ∙ ap (λ y. o ++ y) q1) (e2 ∙ ap (λ y. o1 ++ y) q2) (e3 ∙ ap (λ y. o2 ++ y)
    q3) (e4 ∙ ap (λ y. o3 ++ y) q4) (e5 ∙ ap (λ y. o4 ++ y) q5) (e6 ∙ ap (λ y. o5 ++ y) q6) ∙ ap (λ y. o ++ y) (symbol_is name s)
