-- The point of the code that stands at a position.
use Rattle.std.proofs.Common.{◌≡◌, ℕ, zero, suc, ◌+◌, List, [], ◌∷◌, ◌++◌, drop, length, slice_get, Option, Some, Bool, true, false, cond, nat_eq}
use Rattle.std.proofs.Common.{refl, ap, ◌∙◌, subst, arith}
use Rattle.rv64_instr.specs.declared.place.Place.{Place}
use Rattle.rv64_instr.specs.Instruction.{Instruction}
use Rattle.mir_func.specs.declared.block.Block.{Block}
use Rattle.mir_func.specs.declared.item.Item.{Item}
use Rattle.mir_func.specs.declared.item.ItemKind.{ItemKind}
use Rattle.mir_func.specs.declared.item.ItemKind.TheVariants.{Code, Mark, Phi}
use Rattle.mir_func.specs.Graph.{from_block}
use Rattle.scan_intervals.specs.Points.{CodePoint, next_of, with_point, is_live_before, is_live_after, points_in, points_of}

get_append_left : (xs ys : List CodePoint) (k : ℕ) (p : CodePoint) → slice_get xs k ≡ Some p → slice_get (xs ++ ys) k ≡ Some p
get_append_left [] ys k p e = cc
get_append_left (x ∷ xs) ys zero p e = e
get_append_left (x ∷ xs) ys (suc k) p e = get_append_left xs ys k p e

get_append_right : (xs ys : List CodePoint) (k : ℕ) → slice_get (xs ++ ys) (length xs + k) ≡ slice_get ys k
get_append_right [] ys k = let same : 0 + k ≡ k = omega arith in ap (slice_get ys) same
get_append_right (x ∷ xs) ys k =
    let next : length (x ∷ xs) + k ≡ suc (length xs + k) = omega arith in
    ap (slice_get (x ∷ (xs ++ ys))) next ∙ get_append_right xs ys k

module _ (starts : ℕ → Place → Bool) where
  -- the points have one of this code, right after which these registers are live
  pub record HasPoint (points : List CodePoint) (code : Instruction) (after : ℕ → Bool) : Type 0 where
    pub index : ℕ
    pub point : CodePoint
    pub at : slice_get points index ≡ Some point
    pub code_is : point.code ≡ code
    pub after_is : point.after ≡ after

  below_point : (k : ItemKind) (make : Instruction → CodePoint) (points : List CodePoint) (code : Instruction) (after : ℕ → Bool) →
      HasPoint points code after → HasPoint (with_point k make points) code after
  below_point (Code i n) make points code after h =
      record { index = suc h.index; point = h.point; at = h.at; code_is = h.code_is; after_is = h.after_is }
  below_point (Mark v m) make points code after h = h
  below_point (Phi p n) make points code after h = h

  -- in a block
  point_in : (xs : List Item) (next : Option ℕ) (j : ℕ) (i : Item) (rest : List Item) (code : Instruction) (n : Option ℕ) → drop j xs ≡ i ∷ rest →
      i.kind ≡ Code code n → HasPoint (points_in starts xs next) code (is_live_after starts i.kind rest next)
  point_in [] next zero i rest code n e k = cc
  point_in [] next (suc j) i rest code n e k = cc
  point_in (x ∷ xs) next zero i rest code n e k =
      let same : x ≡ i = cc in
      let others : xs ≡ rest = cc in
      let make : Instruction → CodePoint =
      λ c. record { code = c; before = is_live_before starts (x ∷ xs) next; after = is_live_after starts x.kind xs next } in
      let is : points_in starts (x ∷ xs) next ≡ make code ∷ points_in starts xs next =
      ap (λ (z : ItemKind). with_point z make (points_in starts xs next)) (ap (λ (y : Item). y.kind) same ∙ k) in
      record {
        index = 0;
        point = make code;
        at = ap (λ (ps : List CodePoint). slice_get ps 0) is;
        code_is = refl;
        after_is = λ t. is_live_after starts (same t).kind (others t) next;
      }
  point_in (x ∷ xs) next (suc j) i rest code n e k =
      below_point x.kind _ (points_in starts xs next) code (is_live_after starts i.kind rest next) (point_in xs next j i rest code n e k)

  in_front : (ps qs : List CodePoint) (code : Instruction) (after : ℕ → Bool) → HasPoint ps code after → HasPoint (ps ++ qs) code after
  in_front ps qs code after h = record {
    index = h.index;
    point = h.point;
    at = get_append_left ps qs h.index h.point h.at;
    code_is = h.code_is;
    after_is = h.after_is;
  }

  in_back : (ps qs : List CodePoint) (code : Instruction) (after : ℕ → Bool) → HasPoint qs code after → HasPoint (ps ++ qs) code after
  in_back ps qs code after h = record {
    index = length ps + h.index;
    point = h.point;
    at = get_append_right ps qs h.index ∙ h.at;
    code_is = h.code_is;
    after_is = h.after_is;
  }

  -- in a function
  pub point_at : (bs : List Block) (n j : ℕ) (b : Block) (cs : List Block) (i : Item) (rest : List Item) (code : Instruction) (k : Option ℕ) →
      from_block bs n ≡ b ∷ cs → drop j b.items ≡ i ∷ rest → i.kind ≡ Code code k →
      HasPoint (points_of starts bs) code (is_live_after starts i.kind rest (next_of cs))
  point_at [] n j b cs i rest code k found at is = cc
  point_at (c ∷ ds) n j b cs i rest code k found at is = by_test (nat_eq c.id n) found (λ h. point_at ds n j b cs i rest code k h at is) where
    Goal : Type 0
    Goal = HasPoint (points_of starts (c ∷ ds)) code (is_live_after starts i.kind rest (next_of cs))

    by_test : (z : Bool) → cond z (c ∷ ds) (from_block ds n) ≡ b ∷ cs →
        (from_block ds n ≡ b ∷ cs → HasPoint (points_of starts ds) code (is_live_after starts i.kind rest (next_of cs))) → Goal
    by_test true e further =
        let same : c ≡ b = cc in
        let others : ds ≡ cs = cc in
        let here : drop j c.items ≡ i ∷ rest = ap (λ (x : Block). drop j x.items) same ∙ at in
        subst (λ (xs : List Block). HasPoint (points_of starts (c ∷ ds)) code (is_live_after starts i.kind rest (next_of xs))) others
        (in_front (points_in starts c.items (next_of ds)) (points_of starts ds) code (is_live_after starts i.kind rest (next_of ds))
        (point_in c.items (next_of ds) j i rest code k here is))
    by_test false e further =
        in_back (points_in starts c.items (next_of ds)) (points_of starts ds) code (is_live_after starts i.kind rest (next_of cs)) (further e)
