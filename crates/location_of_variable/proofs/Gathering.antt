-- Parts are gathered by the numbers of their variables.
--
-- A key is told by its test. One more variable, and one more part, keep what numbers and groups say of those before. In the end the
-- group of a variable's number has all its parts, since parts with its key are parts of it.
use Rattle.std.proofs.Common.{◌≡◌, ℕ, ◌+◌, ◌<◌, List, [], ◌∷◌, ◌++◌, length, arith, refl}
use Rattle.std.proofs.Common.{sym, ◌∙◌, ap, subst, inl, inr, eqb-true, eq-eqb, append-nil, ◌⊎◌, zero, suc}
use Rattle.std.proofs.Math.ListN.{set, length-set}
use Rattle.std.specs.Prelude.{Option, Some, None, IsSome, Bool, true, false, cond, nat_eq, slice_get, All, Contains}
use Rattle.std.specs.HashMap.{get}
use Rattle.std.specs.List.Sorted.{IsPermutation, IsNonDecreasingBy}
use Rattle.std.proofs.lemmas.Bool.{and_parts, and_from}
use Rattle.std.proofs.lemmas.Bool.Decides.{eqb_tells}
use Rattle.std.proofs.lemmas.Option.{slice_get_within, get_or_from_slice_get}
use Rattle.std.proofs.lemmas.List.Elements.{All-nil, All-push, All-weaker, All-get_or, Contains-append_left, Contains-push}
use Rattle.std.proofs.lemmas.List.Sorted.{All-permutation, Contains-permutation}
use Rattle.mir_func.specs.declared.variable.VarId.{VarId}
use Rattle.mir_func.specs.Parts.{Bytes}
use Rattle.mir_func.specs.Variables.{is_same_node}
use Rattle.location_of_variable.specs.declared.group.Group.{Group}
use Rattle.location_of_variable.specs.declared.group.Piece.{Piece}
use Rattle.location_of_variable.specs.Groups.{part_of, IsPieceOf, IsWholeOf, IsGroupOf}
use Rattle.location_of_variable.specs.steps.Gathering.{Key, key_of, is_key, Numbers, NumbersBelow, IsEmptyGroup}
use Rattle.location_of_variable.specs.steps.Gathering.{IsAt, IsWholeBelow, Gathers, AreGathered, whole_with, pieces_with}

-- ---- keys

same_node : (a b : Option ℕ) → is_same_node a b ≡ true → a ≡ b
same_node None None e = refl
same_node (Some m) (Some n) e = ap (λ (z : ℕ). Some z) (eqb-true m n e)
same_node None (Some n) e = absurd (let both : false ≡ true = e in cc)
same_node (Some m) None e = absurd (let both : false ≡ true = e in cc)

is_same : (a : Option ℕ) → is_same_node a a ≡ true
is_same None = refl
is_same (Some m) = eq-eqb m m refl

same_key : (p q : Key) → is_key p q ≡ true → p ≡ q
same_key p q e =
    let both = and_parts (nat_eq p.0 q.0) (is_same_node p.1 q.1) e in
    let a = eqb-true p.0 q.0 both.0 in
    let b = same_node p.1 q.1 both.1 in
    λ i. (a i, b i)

is_same_key : (p q : Key) → p ≡ q → is_key p q ≡ true
is_same_key p q e = subst (λ (z : Key). is_key p z ≡ true) e (and_from (nat_eq p.0 p.0) (is_same_node p.1 p.1) (eq-eqb p.0 p.0 refl) (is_same p.1))

-- ---- numbers

some_if : (b : Bool) (i : ℕ) (o : Option ℕ) → IsSome o → IsSome (cond b (Some i) o)
some_if true i o h = refl
some_if false i o h = h

pub number_more : (variables : List VarId) (n : ℕ) (old new : Numbers) (v : VarId) → slice_get variables n ≡ Some v →
    ((q : Key) → get is_key new q ≡ cond (is_key (key_of v) q) (Some n) (get is_key old q)) → NumbersBelow n variables old →
    NumbersBelow (n + 1) variables new
number_more variables n old new v at updates are = record {
  found = λ q k e. found q k (is_key (key_of v) q) refl (sym (updates q) ∙ e);
  each = λ k w lt e. subst IsSome (sym (updates (key_of w))) (each k w lt e);
} where
  found : (q : Key) (k : ℕ) (b : Bool) → is_key (key_of v) q ≡ b → cond b (Some n) (get is_key old q) ≡ Some k →
      (k < n + 1) × ((w : VarId) × (slice_get variables k ≡ Some w) × (key_of w ≡ q))
  found q k true is e =
      let same : n ≡ k = cc in
      (omega (arith, same), (v, ap (slice_get variables) (sym same) ∙ at, same_key (key_of v) q is))
  found q k false is e = let h = are.found q k e in (omega (arith, h.0), h.1)

  at_new : (w : VarId) → slice_get variables n ≡ Some w → IsSome (cond (is_key (key_of v) (key_of w)) (Some n) (get is_key old (key_of w)))
  at_new w e =
      let is : Some v ≡ Some w = sym at ∙ e in
      let same : v ≡ w = cc in
      subst (λ (z : Bool). IsSome (cond z (Some n) (get is_key old (key_of w)))) (sym (is_same_key (key_of v) (key_of w) (ap key_of same))) refl

  each : (k : ℕ) (w : VarId) → k < n + 1 → slice_get variables k ≡ Some w → IsSome (cond (is_key (key_of v) (key_of w)) (Some n) (get is_key old (key_of w)))
  each k w lt e = elim (eqb_tells k n) [
    | inl h ↦ at_new w (ap (slice_get variables) (sym h.1) ∙ e)
    | inr h ↦ some_if (is_key (key_of v) (key_of w)) n (get is_key old (key_of w)) (are.each k w (let ne = h.1 in omega (arith, lt, ne)) e)
  ]

-- ---- parts

pub at_index : {A : Type 0} (P : A → Type 0) (xs : List A) (k : ℕ) (x : A) → All P xs → slice_get xs k ≡ Some x → P x
at_index P xs k x all e = subst P (get_or_from_slice_get xs k x x e) (All-get_or P xs k x (slice_get_within xs k x e) all)

pub get_set : {A : Type 0} (xs : List A) (k : ℕ) (y : A) (i : ℕ) (x : A) → slice_get (set xs k y) i ≡ Some x →
    ((i ≡ k) × (y ≡ x)) ⊎ ((i ≡ k → ⊥) × (slice_get xs i ≡ Some x))
get_set [] k y i x e = absurd (let no : None ≡ Some x = e in cc)
get_set (z ∷ xs) zero y zero x e = let is : y ≡ x = cc in inl (refl, is)
get_set (z ∷ xs) zero y (suc i) x e = inr ((λ h. omega (arith, h)), e)
get_set (z ∷ xs) (suc k) y zero x e = inr ((λ h. omega (arith, h)), e)
get_set (z ∷ xs) (suc k) y (suc i) x e = elim (get_set xs k y i x e) [
  | inl h ↦ inl (ap suc h.0, h.1)
  | inr h ↦ inr ((λ s. h.0 (omega (arith, s))), h.1)
]

pub no_parts : (parts : List VarId) (numbers : Numbers) (k : ℕ) (g : Group) → IsEmptyGroup g → Gathers parts numbers 0 k g
no_parts parts numbers k g none = record {
  whole = subst (IsWholeBelow parts numbers 0 k) (sym none.whole) (λ j lt. absurd (omega (arith, lt)));
  each = subst (All (λ (x : Piece). IsAt parts numbers k x.index (Some x.bytes))) (sym none.pieces) (All-nil (λ (x : Piece). IsAt parts numbers k x.index
      (Some x.bytes)));
  all = λ j b lt. absurd (omega (arith, lt));
}

pub none_gathered : (parts : List VarId) (numbers : Numbers) (count : ℕ) (groups : List Group) → length groups ≡ count → All IsEmptyGroup groups →
    AreGathered parts numbers 0 count groups
none_gathered parts numbers count groups for_all none = record {
  for_all = for_all;
  each = λ k g at. no_parts parts numbers k g (at_index IsEmptyGroup groups k g none at);
}

module _ (parts : List VarId) (numbers : Numbers) (n k : ℕ) where
  -- what holds of the parts below the next one, and of it, holds of all up to it
  below_or : (P : ℕ → Type 0) → ((j : ℕ) → j < n → P j) → P n → (j : ℕ) → j < n + 1 → P j
  below_or P below here j lt = elim (eqb_tells j n) [
    | inl h ↦ subst P (sym h.1) here
    | inr h ↦ below j (let ne = h.1 in omega (arith, lt, ne))
  ]

  whole_kept : (o : Option ℕ) → (IsAt parts numbers k n None → ⊥) → IsWholeBelow parts numbers n k o → IsWholeBelow parts numbers (n + 1) k o
  whole_kept None not is = below_or (λ (j : ℕ). IsAt parts numbers k j None → ⊥) is not
  whole_kept (Some j) not is = is

  all_kept : (xs : List Piece) → ((b : Bytes) → IsAt parts numbers k n (Some b) → Contains xs (record { bytes = b; index = n })) →
      ((j : ℕ) (b : Bytes) → j < n → IsAt parts numbers k j (Some b) → Contains xs (record { bytes = b; index = j })) →
      (j : ℕ) (b : Bytes) → j < n + 1 → IsAt parts numbers k j (Some b) → Contains xs (record { bytes = b; index = j })
  all_kept xs here below j b lt =
      below_or (λ (j : ℕ). IsAt parts numbers k j (Some b) → Contains xs (record { bytes = b; index = j })) (λ j lt. below j b lt) (here b) j lt

  -- the next part is of another variable
  pub gathers_other : (g : Group) → ((b : Option Bytes) → IsAt parts numbers k n b → ⊥) → Gathers parts numbers n k g → Gathers parts numbers (n + 1) k g
  gathers_other g not are = record {
    whole = whole_kept g.whole (not None) are.whole;
    each = are.each;
    all = all_kept g.pieces.items (λ b at. absurd (not (Some b) at)) are.all;
  }

  -- it is one of this variable
  module _ (w : VarId) (here : slice_get parts n ≡ Some w) (numbered : get is_key numbers (key_of w) ≡ Some k) where
    is_bytes : (b : Option Bytes) → IsAt parts numbers k n b → w.fragment ≡ b
    is_bytes b at = let both : Some w ≡ Some (at.0) = sym here ∙ at.1 in let same : w ≡ at.0 = cc in ap (λ (z : VarId). z.fragment) same ∙ at.3

    gathers_by : (b : Option Bytes) → w.fragment ≡ b → (g h : Group) → h.whole ≡ whole_with b n g.whole →
        h.pieces.items ≡ g.pieces.items ++ pieces_with b n → Gathers parts numbers n k g → Gathers parts numbers (n + 1) k h
    gathers_by None is g h whole pieces are = record {
      whole = subst (IsWholeBelow parts numbers (n + 1) k) (sym whole) (w, here, numbered, is);
      each = subst (All (λ (x : Piece). IsAt parts numbers k x.index (Some x.bytes))) (sym (pieces ∙ append-nil g.pieces.items)) are.each;
      all = subst (λ (xs : List Piece). (j : ℕ) (b : Bytes) → j < n + 1 → IsAt parts numbers k j (Some b) → Contains xs
          (record { bytes = b; index = j })) (sym (pieces ∙ append-nil g.pieces.items))
          (all_kept g.pieces.items (λ b at. absurd (let no : None ≡ Some b = sym is ∙ is_bytes (Some b) at in cc)) are.all);
    }
    gathers_by (Some b) is g h whole pieces are =
        let x : Piece = record { bytes = b; index = n } in
        record {
          whole = subst (IsWholeBelow parts numbers (n + 1) k) (sym whole)
              (whole_kept g.whole (λ at. let no : Some b ≡ None = sym is ∙ is_bytes None at in cc) are.whole);
          each = subst (All (λ (x : Piece). IsAt parts numbers k x.index (Some x.bytes))) (sym pieces)
              (All-push (λ (x : Piece). IsAt parts numbers k x.index (Some x.bytes)) g.pieces.items x are.each (w, here, numbered, is));
          all = subst (λ (xs : List Piece). (j : ℕ) (b : Bytes) → j < n + 1 → IsAt parts numbers k j (Some b) → Contains xs (record { bytes = b; index = j }))
              (sym pieces)
              (all_kept (g.pieces.items ++ x ∷ [])
              (λ c at.
              let same : Some b ≡ Some c = sym is ∙ is_bytes (Some c) at in
              let bytes : b ≡ c = cc in
              subst (λ (z : Bytes). Contains (g.pieces.items ++ x ∷ []) (record { bytes = z; index = n })) bytes (Contains-push g.pieces.items x))
              (λ j c lt at. Contains-append_left g.pieces.items (x ∷ []) (record { bytes = c; index = j }) (are.all j c lt at)));
        }

    pub gathers_here : (g h : Group) → h.whole ≡ whole_with w.fragment n g.whole → h.pieces.items ≡ g.pieces.items ++ pieces_with w.fragment n →
        Gathers parts numbers n k g → Gathers parts numbers (n + 1) k h
    gathers_here g h = gathers_by w.fragment refl g h

-- a part of no variable that is listed
pub gathered_none : (parts : List VarId) (numbers : Numbers) (n count : ℕ) (groups : List Group) (w : VarId) → slice_get parts n ≡ Some w →
    get is_key numbers (key_of w) ≡ None → AreGathered parts numbers n count groups → AreGathered parts numbers (n + 1) count groups
gathered_none parts numbers n count groups w here none are = record {
  for_all = are.for_all;
  each = λ k g at. gathers_other parts numbers n k g (λ b is.
      let both : Some w ≡ Some (is.0) = sym here ∙ is.1 in
      let same : w ≡ is.0 = cc in
      let no : None ≡ Some k = sym none ∙ (ap (λ (z : VarId). get is_key numbers (key_of z)) same ∙ is.2) in
      cc) (are.each k g at);
}

-- a part of one that is
pub gathered_one : (parts : List VarId) (numbers : Numbers) (n count : ℕ) (groups : List Group) (w : VarId) (m : ℕ) (old new : Group) →
    slice_get parts n ≡ Some w → get is_key numbers (key_of w) ≡ Some m → slice_get groups m ≡ Some old → new.whole ≡ whole_with w.fragment n old.whole →
    new.pieces.items ≡ old.pieces.items ++ pieces_with w.fragment n → AreGathered parts numbers n count groups →
    AreGathered parts numbers (n + 1) count (set groups m new)
gathered_one parts numbers n count groups w m old new here numbered at_old whole pieces are = record {
  for_all = length-set groups m new ∙ are.for_all;
  each = λ k g at. elim (get_set groups m new k g at) [
    | inl h ↦ subst (λ (z : ℕ). Gathers parts numbers (n + 1) z g) (sym h.0) (subst (Gathers parts numbers (n + 1) m) h.1
        (gathers_here parts numbers n m w here numbered old new whole pieces (are.each m old at_old)))
    | inr h ↦ gathers_other parts numbers n k g (λ b is.
        let both : Some w ≡ Some (is.0) = sym here ∙ is.1 in
        let same : w ≡ is.0 = cc in
        let no : Some m ≡ Some k = sym numbered ∙ (ap (λ (z : VarId). get is_key numbers (key_of z)) same ∙ is.2) in
        let number : m ≡ k = cc in
        h.0 (sym number)) (are.each k g h.1)
  ];
}

-- ---- groups

module _ (parts variables : List VarId) (numbers : Numbers) (are : NumbersBelow (length variables) variables numbers) (v : VarId) (k : ℕ)
    (numbered : get is_key numbers (key_of v) ≡ Some k) where
  -- what has the variable's number is of the variable
  of_variable : (j : ℕ) (b : Option Bytes) → IsAt parts numbers k j b → slice_get parts j ≡ Some (part_of v b)
  of_variable j b at =
      let w = at.0 in
      let mine = (are.found (key_of v) k numbered).1 in
      let other = (are.found (key_of w) k at.2).1 in
      let both : Some (mine.0) ≡ Some (other.0) = sym mine.1 ∙ other.1 in
      let same : mine.0 ≡ other.0 = cc in
      let key : key_of w ≡ key_of v = sym other.2 ∙ (ap key_of (sym same) ∙ mine.2) in
      at.1 ∙ (λ i. Some (record { node = (key i).0; inlined_at = (key i).1; fragment = at.3 i }))

  at_variable : (j : ℕ) (b : Option Bytes) → slice_get parts j ≡ Some (part_of v b) → IsAt parts numbers k j b
  at_variable j b e = (part_of v b, e, numbered, refl)

  whole_of : (o : Option ℕ) → IsWholeBelow parts numbers (length parts) k o → IsWholeOf parts v o
  whole_of None is = λ j e. is j (slice_get_within parts j (part_of v None) e) (at_variable j None e)
  whole_of (Some j) is = of_variable j None is

  pub group_is : (g h : Group) → Gathers parts numbers (length parts) k g → h.whole ≡ g.whole → IsPermutation g.pieces.items h.pieces.items →
      IsNonDecreasingBy (λ (x : Piece). x.bytes.offset) h.pieces.items → IsGroupOf parts v h
  group_is g h gathers whole pieces ascend = record {
    whole = subst (IsWholeOf parts v) (sym whole) (whole_of g.whole gathers.whole);
    each = All-permutation (IsPieceOf parts v) g.pieces.items h.pieces.items pieces
        (All-weaker (λ (x : Piece). IsAt parts numbers k x.index (Some x.bytes)) (IsPieceOf parts v) (λ x at. of_variable x.index (Some x.bytes) at)
        g.pieces.items gathers.each);
    all = λ j b e. Contains-permutation g.pieces.items h.pieces.items (record { bytes = b; index = j }) pieces
        (gathers.all j b (slice_get_within parts j (part_of v (Some b)) e) (at_variable j (Some b) e));
    ascend = ascend;
  }

-- ---- lists of groups

pub groups_push : (parts variables : List VarId) (n : ℕ) (groups : List Group) (v : VarId) (g : Group) → slice_get variables n ≡ Some v →
    length groups ≡ n → IsGroupOf parts v g →
    ((k : ℕ) (v : VarId) (g : Group) → slice_get variables k ≡ Some v → slice_get groups k ≡ Some g → IsGroupOf parts v g) →
    (k : ℕ) (u : VarId) (h : Group) → slice_get variables k ≡ Some u → slice_get (groups ++ g ∷ []) k ≡ Some h → IsGroupOf parts u h
groups_push parts variables n groups v g here count is below k u h at e = elim (get_push groups g k h e) [
  | inl s ↦ below k u h at s
  | inr s ↦
      let both : Some v ≡ Some u = sym here ∙ (ap (slice_get variables) (sym (s.0 ∙ count)) ∙ at) in
      let same : v ≡ u = cc in
      subst (λ (z : VarId). IsGroupOf parts z h) same (subst (IsGroupOf parts v) s.1 is)
] where
  get_push : {A : Type 0} (xs : List A) (y : A) (i : ℕ) (x : A) → slice_get (xs ++ y ∷ []) i ≡ Some x →
      (slice_get xs i ≡ Some x) ⊎ ((i ≡ length xs) × (y ≡ x))
  get_push [] y zero x e = let is : y ≡ x = cc in inr (refl, is)
  get_push [] y (suc i) x e = absurd (let no : None ≡ Some x = e in cc)
  get_push (z ∷ xs) y zero x e = inl e
  get_push (z ∷ xs) y (suc i) x e = elim (get_push xs y i x e) [
    | inl h ↦ inl h
    | inr h ↦ inr (ap suc h.0, h.1)
  ]
