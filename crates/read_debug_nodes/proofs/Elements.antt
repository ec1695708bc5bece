-- The elements of a tuple are read from left to right.
use Rattle.std.proofs.Common.{◌≡◌, ℕ, ◌≤◌, Bool, true, false, cond, List, [], ◌∷◌, ◌++◌, length, get_or, drop, Option, Some, None, refl}
use Rattle.std.proofs.Common.{sym, ap, subst, append_assoc, ◌∙◌, arith}
use Rattle.read_metadata.specs.read_lexer.declared.parts.Token.{Token}
use Rattle.read_metadata.specs.Token.{is_byte}
use Rattle.read_debug_nodes.specs.Tuple.{element_of, is_closing, before_elements, some_elements}

-- elements that were read, and those that are still read
abbrev pub joined : List (Option ℕ) → Option (List (Option ℕ)) → Option (List (Option ℕ))
joined done None = None
joined done (Some es) = Some (done ++ es)

pub joined-nil : (read : Option (List (Option ℕ))) → joined [] read ≡ read
joined-nil None = refl
joined-nil (Some es) = refl

joined-before : (done : List (Option ℕ)) (e : Option ℕ) (read : Option (List (Option ℕ))) →
    joined done (before_elements (Some e) read) ≡ joined (done ++ e ∷ []) read
joined-before done e None = refl
joined-before done e (Some es) = ap (λ (x : List (Option ℕ)). Some x) (sym (append_assoc done (e ∷ []) es))

-- what the front says, by its element, whether it is the last, and whether a comma is behind it
abbrev front : (line : List ℕ) → List Token → (last comma : Bool) → Option (Option ℕ) → Option (List (Option ℕ))
front line ts last comma element = cond last (before_elements element (Some [])) (cond comma (before_elements element (some_elements line ts)) None)

-- an element with a comma behind it
behind_comma : (line : List ℕ) (done : List (Option ℕ)) (t c : Token) (ts all : List Token) (e : Option ℕ) → Some e ≡ element_of line t
    → is_closing (c ∷ ts) ≡ false → is_byte 44 c ≡ true → joined done (some_elements line (t ∷ c ∷ ts)) ≡ some_elements line all
    → joined (done ++ e ∷ []) (some_elements line ts) ≡ some_elements line all
behind_comma line done t c ts all e some more comma read =
    sym (joined-before done e (some_elements line ts)) ∙ ap (λ (x : Option (Option ℕ)). joined done (front line ts false true x)) some
    ∙ ap (λ (b : Bool). joined done (front line ts b true (element_of line t))) (sym more)
    ∙ ap (λ (b : Bool). joined done (front line ts (is_closing (c ∷ ts)) b (element_of line t))) (sym comma) ∙ read

-- the next element, where a comma is behind it
pub next_element : (line : List ℕ) (done : List (Option ℕ)) (rest all : List Token) (d : Token) (e : Option ℕ) (behind : List Token) → behind ≡ drop 2 rest
    → 2 ≤ length rest → joined done (some_elements line rest) ≡ some_elements line all → Some e ≡ element_of line (get_or rest 0 d)
    → is_closing (get_or rest 1 d ∷ behind) ≡ false → is_byte 44 (get_or rest 1 d) ≡ true
    → joined (done ++ e ∷ []) (some_elements line behind) ≡ some_elements line all
next_element line done [] all d e behind same long read some more comma = absurd (omega arith)
next_element line done (t ∷ []) all d e behind same long read some more comma = absurd (omega arith)
next_element line done (t ∷ c ∷ ts) all d e behind same long read some more comma =
    subst (λ (xs : List Token). joined (done ++ e ∷ []) (some_elements line xs) ≡ some_elements line all) (sym same)
    (behind_comma line done t c ts all e some (subst (λ (xs : List Token). is_closing (c ∷ xs) ≡ false) same more) comma read)
