use Rattle.std.proofs.Common.{◌≡◌, ℕ, ◌<◌, Bool, true, false, List, [], ◌∷◌, length, take, sym, ap, ◌∙◌, arith}
use Rattle.std.specs.Prelude.{◌&&◌, not, nat_eq, slice_index_or}
use Rattle.std.specs.List.{starts_with}
use Rattle.std.specs.Cmp.Lexicographic.{pointwise}
use Rattle.std.proofs.lemmas.Bool.{eq-eqb, eqb-false, ne_eqb, false≢true}
use Rattle.read_line.proofs.body.differ.Goals as goal

not_same : (x y : ℕ) → not (nat_eq x y) ≡ true → x ≡ y → ⊥
not_same x y other same = false≢true (sym (ap not (eq-eqb x y same)) ∙ other)

apart : (text word : List ℕ) (d e : ℕ) → 0 < length text → 0 < length word → (slice_index_or text 0 d ≡ slice_index_or word 0 e → ⊥) →
    starts_with nat_eq text word ≡ false
apart [] word d e some more other = absurd (omega (arith, some))
apart (b ∷ bs) [] d e some more other = absurd (omega (arith, more))
apart (b ∷ bs) (m ∷ ms) d e some more other =
    ap (λ (z : Bool). z && pointwise nat_eq ms (take (length ms) bs)) (ne_eqb m b (λ same. other (sym same)))

some_byte : (xs : List ℕ) (b : Bool) → b ≡ nat_eq (length xs) 0 → b ≡ false → 0 < length xs
some_byte xs b is none = let ne = eqb-false (length xs) 0 (sym is ∙ none) in omega (arith, ne)

pub returns : goal.returns
returns c = λ t.
    apart c.args.text.now c.args.word.now _ _ (some_byte _ _ c.is_empty.ensures c.if-is_empty.false)
    (some_byte _ _ c.is_empty-2.ensures c.if-is_empty-2.false) (not_same _ _ t)
