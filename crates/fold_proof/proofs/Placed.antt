-- Where the blocks that stay stand.
use Rattle.std.proofs.Common.{◌≡◌, ◌⊎◌, ℕ, zero, suc, List, [], ◌∷◌, map, drop, slice_get, Some, Bool, true, false}
use Rattle.std.proofs.Common.{cond, nat_eq}
use Rattle.std.proofs.Common.{refl, sym, ap, ◌∙◌, inl, inr, ne_eqb}
use Rattle.std.proofs.lemmas.Bool.{eqb-true}
use Rattle.mir_func.specs.declared.block.Block.{Block}
use Rattle.mir_func.specs.declared.item.Item.{Item}
use Rattle.mir_func.specs.declared.position.Pos.{Pos}
use Rattle.mir_func.specs.Sound.{ids_of}
use Rattle.mir_func.specs.Graph.{EndOfBlock, end_of, front, fetch_in, from_block, rest_in, rest_of}
use Rattle.fold_targets.specs.Leads.{first_id}
use Rattle.fold_targets.proofs.Ways.{test_of}
use Rattle.fold_rule.specs.Rule.{folded_block, staying, folded_blocks}
use Rattle.fold_rule_proof.specs.Kills.{with_kills}

-- a block with its number, and the blocks after it
pub record Found (bs : List Block) (n : ℕ) : Type 0 where
  pub block : Block
  pub rest : List Block
  pub at : from_block bs n ≡ block ∷ rest

pub found_or_none : (bs : List Block) (n : ℕ) → Found bs n ⊎ (from_block bs n ≡ [])
found_or_none bs n = by_blocks (from_block bs n) refl where
  by_blocks : (cs : List Block) → from_block bs n ≡ cs → Found bs n ⊎ (from_block bs n ≡ [])
  by_blocks [] e = inr e
  by_blocks (b ∷ rest) e = inl (record { block = b; rest = rest; at = e })

-- the place of a number in the list of all
pub place_of : (bs : List Block) (n : ℕ) (b : Block) (rest : List Block) → from_block bs n ≡ b ∷ rest → (k : ℕ) × (slice_get (ids_of bs) k ≡ Some n)
place_of [] n b rest e = cc
place_of (a ∷ cs) n b rest e = by_test (nat_eq a.id n) refl e (place_of cs n b rest) where
  by_test : (z : Bool) → nat_eq a.id n ≡ z → cond z (a ∷ cs) (from_block cs n) ≡ b ∷ rest →
      (from_block cs n ≡ b ∷ rest → (k : ℕ) × (slice_get (ids_of cs) k ≡ Some n)) → (k : ℕ) × (slice_get (ids_of (a ∷ cs)) k ≡ Some n)
  by_test true t h later = (0, ap (λ (m : ℕ). Some m) (eqb-true a.id n t))
  by_test false t h later = let w = later h in (suc w.0, w.1)

pub found_at : (bs : List Block) (n k : ℕ) → slice_get (ids_of bs) k ≡ Some n → Found bs n
found_at [] n k e = cc
found_at (a ∷ cs) n k e = elim (test_of a.id n (nat_eq a.id n) refl) as (λ z. Found (a ∷ cs) n) [
  | inl w ↦ record { block = a; rest = cs; at = ap (λ (z : Bool). cond z (a ∷ cs) (from_block cs n)) w.0 }
  | inr w ↦ later k e w.0 w.1 (λ j h. found_at cs n j h)
] where
  later : (k : ℕ) → slice_get (a.id ∷ ids_of cs) k ≡ Some n → nat_eq a.id n ≡ false → (a.id ≡ n → ⊥) →
      ((j : ℕ) → slice_get (ids_of cs) j ≡ Some n → Found cs n) → Found (a ∷ cs) n
  later zero e t ne more = let same : a.id ≡ n = cc in absurd (ne same)
  later (suc k) e t ne more =
      let w = more k e in
      record { block = w.block; rest = w.rest; at = ap (λ (z : Bool). cond z (a ∷ cs) (from_block cs n)) t ∙ w.at }

-- ---- a block's end

pub end_first : (k : ℕ) (bs : List Block) (n : ℕ) → first_id bs ≡ Some n → end_of k bs ≡ EndOfBlock k n
end_first k [] n e = cc
end_first k (b ∷ bs) n e = let same : b.id ≡ n = cc in ap (EndOfBlock k) same

pub first_end : (k j : ℕ) (bs : List Block) (n : ℕ) → end_of k bs ≡ EndOfBlock j n → first_id bs ≡ Some n
first_end k j [] n e = cc
first_end k j (b ∷ bs) n e = let same : b.id ≡ n = cc in ap (λ (m : ℕ). Some m) same

pub falls_from : (bs : List Block) (b n : ℕ) (block : Block) (rest : List Block) → from_block bs b ≡ block ∷ rest → first_id rest ≡ Some n → (p : Pos) →
    p.block ≡ b → rest_of bs p ≡ [] → fetch_in (from_block bs p.block) p.item ≡ EndOfBlock block.source_end n
falls_from bs b n block rest at next p same none =
    let here : from_block bs p.block ≡ block ∷ rest = ap (from_block bs) same ∙ at in
    let over : drop p.item block.items ≡ [] = ap (λ (z : List Block). rest_in z p.item) (sym here) ∙ none in
    ap (λ (z : List Block). fetch_in z p.item) here ∙ ap (λ (z : List Item). front z block.source_end rest) over ∙ end_first block.source_end rest n next

module _ (end : ℕ → ℕ) (stays was : ℕ → Bool) (old : List Block) where
  abbrev put : Block → Block
  put = with_kills end was old

  -- a block that stays, before others
  abbrev pub made_block : Block → List Block → Block
  made_block b rest = put (folded_block end (first_id (staying stays rest)) (first_id rest) b)

  abbrev pub made : List Block → List Block
  made bs = map put (folded_blocks end stays bs)

  made_or : Block → List Block → Bool → List Block
  made_or b bs z = map put (cond z (folded_block end (first_id (staying stays bs)) (first_id bs) b ∷ folded_blocks end stays bs) (folded_blocks end stays bs))

  pub made_at : (bs : List Block) (n : ℕ) (b : Block) (rest : List Block) → from_block bs n ≡ b ∷ rest → stays n ≡ true →
      from_block (made bs) n ≡ made_block b rest ∷ made rest
  made_at [] n b rest e s = cc
  made_at (a ∷ cs) n b rest e s =
      elim (test_of a.id n (nat_eq a.id n) refl) as (λ z. from_block (made (a ∷ cs)) n ≡ made_block b rest ∷ made rest) [
        | inl w ↦ here w.0 w.1 (sym (ap (λ (z : Bool). cond z (a ∷ cs) (from_block cs n)) w.0) ∙ e)
        | inr w ↦ later (stays a.id) w.0
            (made_at cs n b rest (sym (ap (λ (z : Bool). cond z (a ∷ cs) (from_block cs n)) w.0) ∙ e) s)
      ] where
        here : nat_eq a.id n ≡ true → a.id ≡ n → a ∷ cs ≡ b ∷ rest → from_block (made (a ∷ cs)) n ≡ made_block b rest ∷ made rest
        here t same h =
            let block : a ≡ b = cc in
            let tail : cs ≡ rest = cc in
            let kept : stays a.id ≡ true = ap stays same ∙ s in
            ap (λ (z : Bool). from_block (map put (cond z (folded_block end (first_id (staying stays cs)) (first_id cs) a ∷ folded_blocks end stays cs)
            (folded_blocks end stays cs))) n) kept ∙
            ap (λ (z : Bool). cond z (made_block a cs ∷ made cs) (from_block (made cs) n)) t ∙ (λ i. made_block (block i) (tail i) ∷ made (tail i))

        later : (z : Bool) → nat_eq a.id n ≡ false → from_block (made cs) n ≡ made_block b rest ∷ made rest →
            from_block (map put (cond z (folded_block end (first_id (staying stays cs)) (first_id cs) a ∷ folded_blocks end stays cs)
            (folded_blocks end stays cs))) n ≡ made_block b rest ∷ made rest
        later true t h = ap (λ (z : Bool). cond z (made_block a cs ∷ made cs) (from_block (made cs) n)) t ∙ h
        later false t h = h

  -- a block that doesn't stay is gone
  pub made_gone : (bs : List Block) (n : ℕ) → stays n ≡ false → from_block (made bs) n ≡ []
  made_gone [] n s = refl
  made_gone (a ∷ cs) n s = by_test (stays a.id) refl (made_gone cs n s) where
    by_test : (z : Bool) → stays a.id ≡ z → from_block (made cs) n ≡ [] →
        from_block (map put (cond z (folded_block end (first_id (staying stays cs)) (first_id cs) a ∷ folded_blocks end stays cs)
        (folded_blocks end stays cs))) n ≡ []
    by_test true k h =
        let ne : a.id ≡ n → ⊥ = λ same. (let bad : true ≡ false = sym k ∙ ap stays same ∙ s in cc) in
        ap (λ (z : Bool). cond z (made_block a cs ∷ made cs) (from_block (made cs) n)) (ne_eqb a.id n ne) ∙ h
    by_test false k h = h

  pub made_none : (bs : List Block) (n : ℕ) → from_block bs n ≡ [] → from_block (made bs) n ≡ []
  made_none [] n e = refl
  made_none (a ∷ cs) n e = by_number (nat_eq a.id n) refl e (made_none cs n) where
    by_test : (z : Bool) → nat_eq a.id n ≡ false → from_block (made cs) n ≡ [] →
        from_block (map put (cond z (folded_block end (first_id (staying stays cs)) (first_id cs) a ∷ folded_blocks end stays cs)
        (folded_blocks end stays cs))) n ≡ []
    by_test true t h = ap (λ (z : Bool). cond z (made_block a cs ∷ made cs) (from_block (made cs) n)) t ∙ h
    by_test false t h = h

    by_number : (z : Bool) → nat_eq a.id n ≡ z → cond z (a ∷ cs) (from_block cs n) ≡ [] → (from_block cs n ≡ [] → from_block (made cs) n ≡ []) →
        from_block (made (a ∷ cs)) n ≡ []
    by_number true t h later = cc
    by_number false t h later = by_test (stays a.id) t (later h)

  pub made_first : (bs : List Block) → first_id (made bs) ≡ first_id (staying stays bs)
  made_first [] = refl
  made_first (b ∷ bs) = by_test (stays b.id) (made_first bs) where
    by_test : (z : Bool) → first_id (made bs) ≡ first_id (staying stays bs) →
        first_id (map put (cond z (folded_block end (first_id (staying stays bs)) (first_id bs) b ∷ folded_blocks end stays bs)
        (folded_blocks end stays bs))) ≡ first_id (cond z (b ∷ staying stays bs) (staying stays bs))
    by_test true h = refl
    by_test false h = h

  -- a block of the new function was one of the old one that stays
  pub record WasBlock (n : ℕ) (c : Block) (cs : List Block) : Type 0 where
    pub stay : stays n ≡ true
    pub block : Block
    pub rest : List Block
    pub at : from_block old n ≡ block ∷ rest
    pub same : c ≡ made_block block rest
    pub tail : cs ≡ made rest

  pub made_was : (n : ℕ) (c : Block) (cs : List Block) → from_block (made old) n ≡ c ∷ cs → WasBlock n c cs
  made_was n c cs e = by_stay (stays n) refl where
    by_stay : (z : Bool) → stays n ≡ z → WasBlock n c cs
    by_stay false s = let bad : [] ≡ c ∷ cs = sym (made_gone old n s) ∙ e in cc
    by_stay true s = elim (found_or_none old n) as (λ z. WasBlock n c cs) [
      | inl w ↦ (let k : made_block w.block w.rest ∷ made w.rest ≡ c ∷ cs = sym (made_at old n w.block w.rest w.at s) ∙ e in
          let same : made_block w.block w.rest ≡ c = cc in
          let tail : made w.rest ≡ cs = cc in
          record { stay = s; block = w.block; rest = w.rest; at = w.at; same = sym same; tail = sym tail })
      | inr none ↦ (let bad : [] ≡ c ∷ cs = sym (made_none old n none) ∙ e in cc)
    ]
