-- One more text in a list with commas between them.
use Rattle.std.proofs.Common.{◌≡◌, ℕ, ◌+◌, ◌-◌, ◌<◌, ◌≤◌, List, [], ◌∷◌, ◌++◌, refl, sym, ◌∙◌, ap, append_assoc, length, take, drop, get_or}
use Rattle.std.proofs.Common.{arith}
use Rattle.std.proofs.Math.Seq.{take-length}
use Rattle.std.specs.Prelude.{Bool, true, false, codes, cond, map, filter}
use Rattle.std.proofs.lemmas.List.{append-nil, map-append, drop_more, length-drop}
use Rattle.std.proofs.lemmas.List.Elements.{filter_more}
use Rattle.rv64_instr.specs.declared.operand.Operand.{Operand}
use Rattle.mir_printer.specs.Spelling.{comma_separated, definitions_text, held_uses, operand_text, uses_text}
use Rattle.mir_printer.specs.steps.Listed.{listed_text, selects, selected_texts, has_any}

-- what stands before the next text
abbrev pub next_lead : List ℕ → List (List ℕ) → List ℕ
next_lead lead [] = lead
next_lead lead (t ∷ ts) = codes ", "

comma_separated-snoc : (t : List ℕ) (ts : List (List ℕ)) (u : List ℕ) → comma_separated ((t ∷ ts) ++ u ∷ []) ≡ comma_separated (t ∷ ts) ++ (codes ", " ++ u)
comma_separated-snoc t [] u = append_assoc t (codes ", ") u
comma_separated-snoc t (v ∷ ts) u = rw (comma_separated-snoc v ts u) (simp append_assoc)

-- one more text
pub listed_text-snoc : (lead : List ℕ) (ts : List (List ℕ)) (u : List ℕ) → listed_text lead (ts ++ u ∷ []) ≡ listed_text lead ts ++ (next_lead lead ts ++ u)
listed_text-snoc lead [] u = refl
listed_text-snoc lead (t ∷ ts) u = rw (comma_separated-snoc t ts u) (simp append_assoc)

selected_texts-more : (definitions : Bool) (operands : List Operand) (i : ℕ) (o : Operand) → i < length operands → get_or operands i o ≡ o →
    selected_texts definitions (take (i + 1) operands) ≡ selected_texts definitions (take i operands) ++ cond (selects definitions o) (operand_text o ∷ []) []
selected_texts-more definitions operands i o below is = rw (filter_more (selects definitions) operands i o below)
    (rw is (rw (map-append operand_text (filter (selects definitions) (take i operands)) (cond (selects definitions o) (o ∷ []) []))
    (ap (λ ts. selected_texts definitions (take i operands) ++ ts) (single (selects definitions o) o))))
  where
    single : (b : Bool) (o : Operand) → map operand_text (cond b (o ∷ []) []) ≡ cond b (operand_text o ∷ []) []
    single true o = refl
    single false o = refl

-- the next operand is selected
pub selected_texts-taken : (definitions : Bool) (operands : List Operand) (i : ℕ) (o : Operand) → i < length operands → get_or operands i o ≡ o →
    selects definitions o ≡ true →
    selected_texts definitions (take (i + 1) operands) ≡ selected_texts definitions (take i operands) ++ operand_text o ∷ []
selected_texts-taken definitions operands i o below is selected = selected_texts-more definitions operands i o below is ∙ rw selected

-- it is not
pub selected_texts-left : (definitions : Bool) (operands : List Operand) (i : ℕ) (o : Operand) → i < length operands → get_or operands i o ≡ o →
    selects definitions o ≡ false →
    selected_texts definitions (take (i + 1) operands) ≡ selected_texts definitions (take i operands)
selected_texts-left definitions operands i o below is left = selected_texts-more definitions operands i o below is ∙ rw left
    (append-nil (selected_texts definitions (take i operands)))

pub next_lead-snoc : (lead : List ℕ) (ts : List (List ℕ)) (u : List ℕ) → next_lead lead (ts ++ u ∷ []) ≡ codes ", "
next_lead-snoc lead [] u = refl
next_lead-snoc lead (t ∷ ts) u = refl

pub has_any-snoc : (ts : List (List ℕ)) (u : List ℕ) → has_any (ts ++ u ∷ []) ≡ true
has_any-snoc [] u = refl
has_any-snoc (t ∷ ts) u = refl

pub definitions_text-any : (operands : List Operand) → has_any (map operand_text operands) ≡ true →
    definitions_text operands ≡ listed_text [] (map operand_text operands) ++ codes " = "
definitions_text-any [] any = cc
definitions_text-any (o ∷ os) any = refl

pub definitions_text-none : (operands : List Operand) → has_any (map operand_text operands) ≡ false →
    definitions_text operands ≡ listed_text [] (map operand_text operands)
definitions_text-none [] none = refl
definitions_text-none (o ∷ os) none = cc

pub uses_text-listed : (operands : List Operand) → uses_text operands ≡ listed_text (codes " ") (map operand_text operands)
uses_text-listed [] = refl
uses_text-listed (o ∷ os) = refl

-- ---- a call by a register

-- a list, by the first of its elements and the others
pub first_and_rest : {X : Type 0} (xs : List X) (x : X) → 1 ≤ length xs → x ≡ get_or xs 0 x → x ∷ take (length xs - 1) (drop 1 xs) ≡ xs
first_and_rest {X} xs x some is =
    ap (λ (n : ℕ). x ∷ take n (drop 1 xs)) (sym (length-drop 1 xs)) ∙ ap (λ (t : List X). x ∷ t) (take-length (drop 1 xs))
    ∙ ap (λ (y : X). y ∷ drop 1 xs) is ∙ sym (drop_more xs 0 x (omega (arith, some)))

pub held_uses-none : (old : List ℕ) (os : List Operand) → length os < 1 → old ≡ old ++ uses_text (held_uses os)
held_uses-none old [] less = sym (append-nil old)
held_uses-none old (o ∷ os) less = absurd (omega (arith, less))

pub uses_text-first : (o : Operand) (os : List Operand) →
    uses_text (o ∷ os) ≡ codes " " ++ (operand_text o ++ listed_text (codes ", ") (map operand_text os))
uses_text-first o [] = ap (λ (t : List ℕ). codes " " ++ t) (sym (append-nil (operand_text o)))
uses_text-first o (p ∷ os) =
    ap (λ (t : List ℕ). codes " " ++ t) (append_assoc (operand_text o) (codes ", ") (comma_separated (map operand_text (p ∷ os))))
