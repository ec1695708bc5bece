-- Texts of lists of passes, and how they are read: up to a comma, one name after the other.
use Rattle.std.proofs.Common.{◌≡◌, ◌↔◌, ℕ, suc, ◌<◌, List, [], ◌∷◌, ◌++◌, length, get_or, drop, Option, Some, None, refl, sym, ap, ◌∙◌}
use Rattle.std.proofs.Common.{subst, arith, append-nil}
use Rattle.std.specs.Prelude.{codes}
use Rattle.std.proofs.lemmas.List.{append_assoc}
use Rattle.pass_list.specs.declared.kind.PassKind.{PassKind}
use Rattle.pass_list.specs.declared.kind.PassKind.TheVariants.{Copy, Remat, Spill, Dead, Fold}
use Rattle.pass_list.specs.Names.{name_of, more_names, text_of, AreDistinct, IsNamedBehind, AreNamedBehind}
use Rattle.pass_list.proofs.Distinct.{front}

-- the first byte, or 0
abbrev first_byte : List ℕ → ℕ
first_byte [] = 0
first_byte (b ∷ bs) = b

-- ---- names

pub one_name : (p q : PassKind) (xs ys : List ℕ) → name_of p ++ xs ≡ name_of q ++ ys → (p ≡ q) × (xs ≡ ys)
one_name Copy Copy xs ys e = (refl, ap (drop 4) e)
one_name Remat Remat xs ys e = (refl, ap (drop 5) e)
one_name Spill Spill xs ys e = (refl, ap (drop 5) e)
one_name Dead Dead xs ys e = (refl, ap (drop 4) e)
one_name Fold Fold xs ys e = (refl, ap (drop 4) e)
one_name Copy Remat xs ys e = absurd (let b : 99 ≡ 114 = ap first_byte e in omega (arith, b))
one_name Copy Spill xs ys e = absurd (let b : 99 ≡ 115 = ap first_byte e in omega (arith, b))
one_name Copy Dead xs ys e = absurd (let b : 99 ≡ 100 = ap first_byte e in omega (arith, b))
one_name Copy Fold xs ys e = absurd (let b : 99 ≡ 102 = ap first_byte e in omega (arith, b))
one_name Remat Copy xs ys e = absurd (let b : 114 ≡ 99 = ap first_byte e in omega (arith, b))
one_name Remat Spill xs ys e = absurd (let b : 114 ≡ 115 = ap first_byte e in omega (arith, b))
one_name Remat Dead xs ys e = absurd (let b : 114 ≡ 100 = ap first_byte e in omega (arith, b))
one_name Remat Fold xs ys e = absurd (let b : 114 ≡ 102 = ap first_byte e in omega (arith, b))
one_name Spill Copy xs ys e = absurd (let b : 115 ≡ 99 = ap first_byte e in omega (arith, b))
one_name Spill Remat xs ys e = absurd (let b : 115 ≡ 114 = ap first_byte e in omega (arith, b))
one_name Spill Dead xs ys e = absurd (let b : 115 ≡ 100 = ap first_byte e in omega (arith, b))
one_name Spill Fold xs ys e = absurd (let b : 115 ≡ 102 = ap first_byte e in omega (arith, b))
one_name Dead Copy xs ys e = absurd (let b : 100 ≡ 99 = ap first_byte e in omega (arith, b))
one_name Dead Remat xs ys e = absurd (let b : 100 ≡ 114 = ap first_byte e in omega (arith, b))
one_name Dead Spill xs ys e = absurd (let b : 100 ≡ 115 = ap first_byte e in omega (arith, b))
one_name Dead Fold xs ys e = absurd (let b : 100 ≡ 102 = ap first_byte e in omega (arith, b))
one_name Fold Copy xs ys e = absurd (let b : 102 ≡ 99 = ap first_byte e in omega (arith, b))
one_name Fold Remat xs ys e = absurd (let b : 102 ≡ 114 = ap first_byte e in omega (arith, b))
one_name Fold Spill xs ys e = absurd (let b : 102 ≡ 115 = ap first_byte e in omega (arith, b))
one_name Fold Dead xs ys e = absurd (let b : 102 ≡ 100 = ap first_byte e in omega (arith, b))

-- no name begins as `none`
not_none : (p : PassKind) (xs : List ℕ) → codes "none" ≡ name_of p ++ xs → ⊥
not_none Copy xs e = let b : 110 ≡ 99 = ap first_byte e in omega (arith, b)
not_none Remat xs e = let b : 110 ≡ 114 = ap first_byte e in omega (arith, b)
not_none Spill xs e = let b : 110 ≡ 115 = ap first_byte e in omega (arith, b)
not_none Dead xs e = let b : 110 ≡ 100 = ap first_byte e in omega (arith, b)
not_none Fold xs e = let b : 110 ≡ 102 = ap first_byte e in omega (arith, b)

one_more : (ps qs : List PassKind) → more_names ps ≡ more_names qs → ps ≡ qs
one_more [] [] e = refl
one_more [] (q ∷ qs) e = absurd (let b : 0 ≡ 44 = ap first_byte e in omega (arith, b))
one_more (p ∷ ps) [] e = absurd (let b : 44 ≡ 0 = ap first_byte e in omega (arith, b))
one_more (p ∷ ps) (q ∷ qs) e =
    let both = one_name p q (more_names ps) (more_names qs) (ap (drop 1) e) in
    let rest = one_more ps qs both.1 in
    λ i. both.0 i ∷ rest i

-- no two lists have one text
pub one_list : (ps qs : List PassKind) → text_of ps ≡ text_of qs → ps ≡ qs
one_list [] [] e = refl
one_list [] (q ∷ qs) e = absurd (not_none q (more_names qs) e)
one_list (p ∷ ps) [] e = absurd (not_none p (more_names ps) (sym e))
one_list (p ∷ ps) (q ∷ qs) e =
    let both = one_name p q (more_names ps) (more_names qs) e in
    let rest = one_more ps qs both.1 in
    λ i. both.0 i ∷ rest i

-- ---- commas

-- no comma is among the bytes
abbrev NoComma : List ℕ → Type 0
NoComma [] = Unit {0}
NoComma (b ∷ bs) = (b ≡ 44 → ⊥) × NoComma bs

pub no_comma : (bs : List ℕ) → ((i : ℕ) → i < length bs → get_or bs i 0 ≡ 44 → ⊥) → NoComma bs
no_comma [] clear = tt
no_comma (b ∷ bs) clear = (clear 0 (omega arith), no_comma bs (λ i lt. clear (suc i) (omega (arith, lt))))

other : (b : ℕ) → 44 < b → b ≡ 44 → ⊥
other b lt e = omega (arith, lt, e)

name_has_none : (p : PassKind) → NoComma (name_of p)
name_has_none Copy = (other 99 (omega arith), (other 111 (omega arith), (other 112 (omega arith), (other 121 (omega arith), tt))))
name_has_none Remat =
    (other 114 (omega arith), (other 101 (omega arith), (other 109 (omega arith), (other 97 (omega arith), (other 116 (omega arith), tt)))))
name_has_none Spill =
    (other 115 (omega arith), (other 112 (omega arith), (other 105 (omega arith), (other 108 (omega arith), (other 108 (omega arith), tt)))))
name_has_none Dead = (other 100 (omega arith), (other 101 (omega arith), (other 97 (omega arith), (other 100 (omega arith), tt))))
name_has_none Fold = (other 102 (omega arith), (other 111 (omega arith), (other 108 (omega arith), (other 100 (omega arith), tt))))

cut : (xs ys r s : List ℕ) → NoComma xs → NoComma ys → xs ++ 44 ∷ r ≡ ys ++ 44 ∷ s → (xs ≡ ys) × (r ≡ s)
cut [] [] r s h k e = (refl, ap (drop 1) e)
cut [] (y ∷ ys) r s h k e = absurd (k.0 (sym (ap first_byte e)))
cut (x ∷ xs) [] r s h k e = absurd (h.0 (ap first_byte e))
cut (x ∷ xs) (y ∷ ys) r s h k e =
    let first : x ≡ y = ap first_byte e in
    let both = cut xs ys r s h.1 k.1 (ap (drop 1) e) in
    (λ i. first i ∷ both.0 i, both.1)

no_cut : (xs ys r : List ℕ) → NoComma ys → xs ++ 44 ∷ r ≡ ys → ⊥
no_cut [] [] r k e = let b : 44 ≡ 0 = ap first_byte e in omega (arith, b)
no_cut [] (y ∷ ys) r k e = k.0 (sym (ap first_byte e))
no_cut (x ∷ xs) [] r k e = let b = ap length e in omega (arith, b)
no_cut (x ∷ xs) (y ∷ ys) r k e = no_cut xs ys r k.1 (ap (drop 1) e)

-- ---- reading

-- without a comma there is one name
alone : (list : List PassKind) (text : List ℕ) (whole : List PassKind) → NoComma text → (w : AreNamedBehind list text whole) → IsNamedBehind list text whole
alone list text whole clear w = by_others w.others w.named w.behind where
  by_others : (others : List PassKind) → text ≡ name_of w.first ++ more_names others → whole ≡ list ++ w.first ∷ others → IsNamedBehind list text whole
  by_others [] named behind = record { pass = w.first; named = named ∙ append-nil (name_of w.first); behind = behind; distinct = w.distinct }
  by_others (q ∷ qs) named behind =
      absurd (no_cut (name_of w.first) text (name_of q ++ more_names qs) clear (sym named))

module _ (list : List PassKind) (text : List ℕ) where
  pub by_one : (r : Option (List PassKind)) → ((i : ℕ) → i < length text → get_or text i 0 ≡ 44 → ⊥) →
      ((whole : List PassKind) → (r ≡ Some whole) ↔ IsNamedBehind list text whole) →
      (whole : List PassKind) → (r ≡ Some whole) ↔ AreNamedBehind list text whole
  by_one r clear is whole = (
    λ e. (let w = (is whole).0 e in
        record { first = w.pass; others = []; named = w.named ∙ sym (append-nil (name_of w.pass)); behind = w.behind; distinct = w.distinct }),
    λ w. (is whole).1 (alone list text whole (no_comma text clear) w),
  )

  -- what stands before and behind the first comma
  module _ (name rest : List ℕ) (split : text ≡ name ++ 44 ∷ rest) (clear : (i : ℕ) → i < length name → get_or name i 0 ≡ 44 → ⊥) where
    record Cut (whole : List PassKind) : Type 0 where
      first : PassKind
      second : PassKind
      others : List PassKind
      name_is : name ≡ name_of first
      rest_is : rest ≡ name_of second ++ more_names others
      behind : whole ≡ list ++ first ∷ second ∷ others
      distinct : AreDistinct whole

    cut_named : (whole : List PassKind) → AreNamedBehind list text whole → Cut whole
    cut_named whole w = by_others w.others w.named w.behind where
      by_others : (others : List PassKind) → text ≡ name_of w.first ++ more_names others → whole ≡ list ++ w.first ∷ others → Cut whole
      by_others [] named behind =
          absurd (no_cut name (name_of w.first) rest (name_has_none w.first) (sym split ∙ (named ∙ append-nil (name_of w.first))))
      by_others (q ∷ qs) named behind =
          let both = cut name (name_of w.first) rest (name_of q ++ more_names qs) (no_comma name clear) (name_has_none w.first) (sym split ∙ named) in
          record {
            first = w.first;
            second = q;
            others = qs;
            name_is = both.0;
            rest_is = both.1;
            behind = behind;
            distinct = w.distinct;
          }

    pub by_none : ((whole : List PassKind) → (◌≡◌ {A = Option (List PassKind)} None (Some whole)) ↔ IsNamedBehind list name whole) →
        (whole : List PassKind) → (◌≡◌ {A = Option (List PassKind)} None (Some whole)) ↔ AreNamedBehind list text whole
    by_none is whole = (
      λ e. cc,
      λ w. (let c = cut_named whole w in
          let joined : whole ≡ (list ++ c.first ∷ []) ++ c.second ∷ c.others = c.behind ∙ sym (append_assoc list (c.first ∷ []) (c.second ∷ c.others)) in
          let never : ◌≡◌ {A = Option (List PassKind)} None (Some (list ++ c.first ∷ [])) = (is (list ++ c.first ∷ [])).1 (record {
            pass = c.first;
            named = c.name_is;
            behind = refl;
            distinct = front (list ++ c.first ∷ []) (c.second ∷ c.others) (subst AreDistinct joined c.distinct);
          }) in
          cc),
    )

    pub by_more : (longer : List PassKind) (r : Option (List PassKind)) → IsNamedBehind list name longer →
        ((whole : List PassKind) → (r ≡ Some whole) ↔ AreNamedBehind longer rest whole) →
        (whole : List PassKind) → (r ≡ Some whole) ↔ AreNamedBehind list text whole
    by_more longer r one is whole = (
      λ e. (let w = (is whole).0 e in
          record {
            first = one.pass;
            others = w.first ∷ w.others;
            named = split ∙ (λ i. one.named i ++ 44 ∷ w.named i);
            behind = w.behind ∙ (ap (λ (z : List PassKind). z ++ w.first ∷ w.others) one.behind ∙ append_assoc list (one.pass ∷ []) (w.first ∷ w.others));
            distinct = w.distinct;
          }),
      λ w. (let c = cut_named whole w in
          let same : c.first ≡ one.pass =
          (one_name c.first one.pass [] [] (append-nil (name_of c.first) ∙ (sym c.name_is ∙ (one.named ∙ sym (append-nil (name_of one.pass)))))).0 in
          (is whole).1 (record {
            first = c.second;
            others = c.others;
            named = c.rest_is;
            behind = c.behind ∙ (ap (λ (z : PassKind). list ++ z ∷ c.second ∷ c.others) same ∙
                (sym (append_assoc list (one.pass ∷ []) (c.second ∷ c.others)) ∙ ap (λ (z : List PassKind). z ++ c.second ∷ c.others) (sym one.behind)));
            distinct = c.distinct;
          })),
    )

-- a text that isn't `none` names passes
pub by_names : (text : List ℕ) (r : Option (List PassKind)) → (text ≡ codes "none" → ⊥) →
    ((whole : List PassKind) → (r ≡ Some whole) ↔ AreNamedBehind [] text whole) →
    (whole : List PassKind) → (r ≡ Some whole) ↔ ((text ≡ text_of whole) × AreDistinct whole)
by_names text r other is whole = (
  λ e. (let w = (is whole).0 e in (w.named ∙ ap text_of (sym w.behind), w.distinct)),
  λ both. by_whole whole both.0 both.1,
) where
  by_whole : (whole : List PassKind) → text ≡ text_of whole → AreDistinct whole → r ≡ Some whole
  by_whole [] e d = absurd (other e)
  by_whole (p ∷ ps) e d = (is (p ∷ ps)).1 (record { first = p; others = ps; named = e; behind = refl; distinct = d })
