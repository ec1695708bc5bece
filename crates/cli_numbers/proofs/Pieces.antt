-- Pieces between commas, and what they spell.
use Rattle.std.proofs.Common.{◌≡◌, ◌≢◌, ℕ, ◌+◌, ◌<◌, ◌≤◌, List, [], ◌∷◌, ◌++◌, length, get_or, map, take, Bor, false, nat_eq}
use Rattle.std.proofs.Common.{Option, Some, Result, Ok, Err, ◌↔◌, refl, sym, ap, ◌∙◌, arith}
use Rattle.std.specs.List.{All, join_with_byte, slice_split}
use Rattle.std.specs.Result.{IfOk}
use Rattle.std.proofs.lemmas.List.{length-map, map-append, take_more, take_all, get_or-map}
use Rattle.std.proofs.lemmas.List.Elements.{All-head, All-tail}
use Rattle.std.proofs.lemmas.List.Splits.{slice_split_none, slice_split_at, join_with_byte-slice_split, length-slice_split}

-- no byte is a comma
abbrev pub NoComma : List ℕ → Type 0
NoComma bs = All (λ x. nat_eq x 44 ≡ false) bs

-- what is of a kind is spelled without commas, and no two in the same way
pub record IsSpelling {A : Type 0} (spell : A → List ℕ) (Has : A → Type 0) : Type 0 where
  pub no_comma : (n : A) → Has n → NoComma (spell n)
  pub one : (m n : A) → Has m → Has n → spell m ≡ spell n → m ≡ n

no_pieces : (text : List ℕ) → slice_split (λ b. nat_eq b 44) text ≡ [] → ⊥
no_pieces text e = let some = length-slice_split (λ b. nat_eq b 44) text in let none = ap length e in omega (arith, some, none)

module _ {A : Type 0} (spell : A → List ℕ) where
  -- ---- a text and its pieces

  -- the text is its pieces with commas between them, one at least
  pub joined : (text : List ℕ) (values : List A) → slice_split (λ b. nat_eq b 44) text ≡ map spell values → text ≡ join_with_byte 44 (map spell values)
  joined text values each = sym (join_with_byte-slice_split 44 text) ∙ ap (join_with_byte 44) each

  pub some_pieces : (text : List ℕ) (values : List A) → slice_split (λ b. nat_eq b 44) text ≡ map spell values → values ≢ []
  some_pieces text values each none = no_pieces text (each ∙ ap (map spell) none)

  module _ (Has : A → Type 0) (is : IsSpelling spell Has) where
    -- the pieces between the commas are the values
    pub split_listed : (values : List A) → values ≢ [] → All Has values →
        slice_split (λ b. nat_eq b 44) (join_with_byte 44 (map spell values)) ≡ map spell values
    split_listed [] some have = absurd (some refl)
    split_listed (n ∷ []) some have = slice_split_none (λ b. nat_eq b 44) (spell n) (is.no_comma n (All-head Has n [] have))
    split_listed (n ∷ m ∷ rest) some have =
        let front = is.no_comma n (All-head Has n (m ∷ rest) have) in
        let no : m ∷ rest ≢ [] = λ e. cc in
        slice_split_at (λ b. nat_eq b 44) (spell n) 44 (join_with_byte 44 (map spell (m ∷ rest))) front refl
        ∙ ap (λ (ps : List (List ℕ)). spell n ∷ ps) (split_listed (m ∷ rest) no (All-tail Has n (m ∷ rest) have))

    -- values are spelled in one way
    pub one_list : (xs ys : List A) → All Has xs → All Has ys → map spell xs ≡ map spell ys → xs ≡ ys
    one_list [] [] hx hy e = refl
    one_list [] (y ∷ ys) hx hy e = absurd cc
    one_list (x ∷ xs) [] hx hy e = absurd cc
    one_list (x ∷ xs) (y ∷ ys) hx hy e =
        let head : spell x ≡ spell y = cc in
        let tail : map spell xs ≡ map spell ys = cc in
        let first = is.one x y (All-head Has x xs hx) (All-head Has y ys hy) head in
        let rest = one_list xs ys (All-tail Has x xs hx) (All-tail Has y ys hy) tail in
        ap (λ (z : A). z ∷ xs) first ∙ ap (λ (zs : List A). y ∷ zs) rest

    -- a text lists one list
    pub one_text : (xs ys : List A) → xs ≢ [] → ys ≢ [] → All Has xs → All Has ys → join_with_byte 44 (map spell xs) ≡ join_with_byte 44 (map spell ys) →
        xs ≡ ys
    one_text xs ys some_x some_y hx hy e =
        one_list xs ys hx hy (sym (split_listed xs some_x hx) ∙ (ap (slice_split (λ b. nat_eq b 44)) e ∙ split_listed ys some_y hy))

  -- ---- pieces in their order

  module _ (pieces : List (Bor (List ℕ))) where
    pub same_length : (values : List A) → map (λ p. p.now) pieces ≡ map spell values → length values ≡ length pieces
    same_length values each = sym (length-map values spell) ∙ (ap length (sym each) ∙ length-map pieces (λ p. p.now))

    -- a piece spells the value at its place
    pub piece_at : (values : List A) (i : ℕ) (d : Bor (List ℕ)) (e : A) → map (λ p. p.now) pieces ≡ map spell values → i < length pieces →
        (get_or pieces i d).now ≡ spell (get_or values i e)
    piece_at values i d e each l =
        let long = same_length values each in
        let below : i < length values = omega (arith, l, long) in
        sym (get_or-map (λ (q : Bor (List ℕ)). q.now) pieces i d d.now l)
        ∙ (ap (λ (ps : List (List ℕ)). get_or ps i d.now) each ∙ get_or-map spell values i e d.now below)

    -- one piece more
    pub next_piece : (i : ℕ) (values : List A) (n : A) (d : Bor (List ℕ)) → i < length pieces → take i (map (λ p. p.now) pieces) ≡ map spell values →
        (get_or pieces i d).now ≡ spell n → take (i + 1) (map (λ p. p.now) pieces) ≡ map spell (values ++ n ∷ [])
    next_piece i values n d l front is =
        let below : i < length (map (λ q. q.now) pieces) = omega (arith, l, length-map pieces (λ q. q.now)) in
        take_more (map (λ q. q.now) pieces) i d.now below
        ∙ (ap (λ (xs : List (List ℕ)). xs ++ get_or (map (λ q. q.now) pieces) i d.now ∷ []) front
        ∙ (ap (λ (x : List ℕ). map spell values ++ x ∷ []) (get_or-map (λ (q : Bor (List ℕ)). q.now) pieces i d d.now l ∙ is)
        ∙ sym (map-append spell values (n ∷ []))))

    -- all pieces
    pub whole_list : (i : ℕ) (values : List A) → length pieces ≤ i → take i (map (λ p. p.now) pieces) ≡ map spell values →
        map (λ p. p.now) pieces ≡ map spell values
    whole_list i values le e =
        let long : length (map (λ p. p.now) pieces) ≤ i = omega (arith, le, length-map pieces (λ p. p.now)) in
        sym (take_all i (map (λ p. p.now) pieces) long) ∙ e

-- what is so of just the same lists is told by the same answers
pub same_answers : {A E : Type 0} (P Q : List A → Type 0) → ((values : List A) → P values → Q values) → ((values : List A) → Q values → P values) →
    (r : Result (Option (List A)) E) → IfOk r (λ o. (values : List A) → (o ≡ Some values) ↔ P values) →
    IfOk r (λ o. (values : List A) → (o ≡ Some values) ↔ Q values)
same_answers P Q so back (Err e) h = tt
same_answers P Q so back (Ok o) h = λ values. (λ e. so values ((h values).0 e), λ q. (h values).1 (back values q))
