-- Numbers below a fresh one.
use Rattle.std.proofs.Common.{◌≡◌, ℕ, ◌+◌, ◌<◌, List, [], ◌∷◌, ◌++◌, max, All, Option, Some, None, Bool, true, false, cond, ◌&&◌, nat_eq, eqb-true}
use Rattle.std.proofs.Common.{refl, ap, ◌∙◌, subst, arith}
use Rattle.std.specs.List.{flat_map}
use Rattle.std.proofs.lemmas.List.Concat.{flat_map-cons}
use Rattle.std.proofs.lemmas.List.Elements.{All-nil, All-cons}
use Rattle.std.proofs.lemmas.Grind.{flat_map-append}
use Rattle.mir_func.specs.declared.block.Block.{Block}
use Rattle.mir_func.specs.declared.debug_substitution.DebugSubstitution.{DebugSubstitution}
use Rattle.mir_func.specs.declared.debug_substitution.OperandPair.{OperandPair}
use Rattle.mir_func.specs.declared.item.Item.{Item}
use Rattle.mir_func.specs.declared.item.ItemKind.{ItemKind}
use Rattle.mir_func.specs.declared.item.ItemKind.TheVariants.{Code, Mark, Phi}
use Rattle.mir_func.specs.declared.variable.MarkValue.TheVariants.{Nothing, Constant, At, Pair}
use Rattle.mir_func.specs.Function.{Function}
use Rattle.mir_func.specs.Resolve.{is_pair, entry_of, Ends, at, by, resolve}
use Rattle.mir_func.specs.Sound.{items_of, AllItems, number_of}
use Rattle.pass_trait.proofs.mir_substitution.Chains.{resolve_ends, ends_resolve}
use Rattle.pass_trait.specs.Sizes.{greatest, numbers_of, greatest_number}
use Rattle.pass_salvage.proofs.Greatest.{greatest_append}

-- the number that an item gives or asks for is below k
abbrev pub Low : ℕ → ItemKind → Type 0
Low k (Code i (Some n)) = n < k
Low k (Code i None) = Unit {0}
Low k (Phi p n) = n < k
Low k (Mark v (Pair q)) = q.number < k
Low k (Mark v Nothing) = Unit {0}
Low k (Mark v (Constant n)) = Unit {0}
Low k (Mark v (At r)) = Unit {0}

abbrev pub LowEntries : ℕ → List DebugSubstitution → Type 0
LowEntries k [] = Unit {0}
LowEntries k (e ∷ es) = (e.src.number < k) × (e.dst.number < k) × LowEntries k es

left_below : (a b k : ℕ) → max a b < k → a < k
left_below a b k lt = omega (arith, lt)

right_below : (a b k : ℕ) → max a b < k → b < k
right_below a b k lt = omega (arith, lt)

both_below : (xs ys : List ℕ) (k : ℕ) → greatest (xs ++ ys) < k → (greatest xs < k) × (greatest ys < k)
both_below xs ys k lt =
    let both : max (greatest xs) (greatest ys) < k = subst (λ (n : ℕ). n < k) (greatest_append xs ys) lt in
    (left_below (greatest xs) (greatest ys) k both, right_below (greatest xs) (greatest ys) k both)

and_parts : (a b : Bool) → (a && b) ≡ true → (a ≡ true) × (b ≡ true)
and_parts true b e = (refl, e)
and_parts false b e = cc

same_number : (p q : OperandPair) → is_pair p q ≡ true → p.number ≡ q.number
same_number p q e = eqb-true p.number q.number (and_parts (nat_eq p.number q.number) (nat_eq p.operand q.operand) e).0

module _ (k : ℕ) where
  low_kind : (kind : ItemKind) → greatest (numbers_of kind) < k → Low k kind
  low_kind (Code i (Some n)) lt = left_below n 0 k lt
  low_kind (Code i None) lt = tt
  low_kind (Phi p n) lt = left_below n 0 k lt
  low_kind (Mark v (Pair q)) lt = left_below q.number 0 k lt
  low_kind (Mark v Nothing) lt = tt
  low_kind (Mark v (Constant n)) lt = tt
  low_kind (Mark v (At r)) lt = tt

  abbrev nums : Item → List ℕ
  nums i = numbers_of i.kind

  low_items : (xs : List Item) → greatest (flat_map nums xs) < k → All (λ (i : Item). Low k i.kind) xs
  low_items [] lt = All-nil (λ (i : Item). Low k i.kind)
  low_items (x ∷ xs) lt =
      let both = both_below (nums x) (flat_map nums xs) k (subst (λ (ns : List ℕ). greatest ns < k) (flat_map-cons nums x xs) lt) in
      All-cons (λ (i : Item). Low k i.kind) x xs (low_kind x.kind both.0) (low_items xs both.1)

  low_blocks : (bs : List Block) → greatest (flat_map nums (items_of bs)) < k → AllItems (λ i. Low k i.kind) bs
  low_blocks [] lt = All-nil (λ (b : Block). All (λ (i : Item). Low k i.kind) b.items)
  low_blocks (b ∷ bs) lt =
      let split : flat_map nums (items_of (b ∷ bs)) ≡ flat_map nums b.items ++ flat_map nums (items_of bs) =
      ap (flat_map nums) (flat_map-cons (λ (c : Block). c.items) b bs) ∙ flat_map-append nums b.items (items_of bs) in
      let both = both_below (flat_map nums b.items) (flat_map nums (items_of bs)) k (subst (λ (ns : List ℕ). greatest ns < k) split lt) in
      All-cons (λ (c : Block). All (λ (i : Item). Low k i.kind) c.items) b bs (low_items b.items both.0) (low_blocks bs both.1)

  abbrev sides : DebugSubstitution → List ℕ
  sides e = e.src.number ∷ e.dst.number ∷ []

  low_entries : (es : List DebugSubstitution) → greatest (flat_map sides es) < k → LowEntries k es
  low_entries [] lt = tt
  low_entries (e ∷ es) lt =
      let both = both_below (sides e) (flat_map sides es) k (subst (λ (ns : List ℕ). greatest ns < k) (flat_map-cons sides e es) lt) in
      let rest = right_below e.src.number (greatest (e.dst.number ∷ [])) k both.0 in
      (left_below e.src.number (greatest (e.dst.number ∷ [])) k both.0, left_below e.dst.number 0 k rest, low_entries es both.1)

  -- of a function with its substitutions
  pub low_function : (f : Function) (subs : List DebugSubstitution) → greatest_number f subs < k → AllItems (λ i. Low k i.kind) f.blocks × LowEntries k subs
  low_function f subs lt =
      let both = both_below (flat_map nums (items_of f.blocks)) (flat_map sides subs) k lt in
      (low_blocks f.blocks both.0, low_entries subs both.1)

  -- what a pair resolves to has such a number
  entry_low : (es : List DebugSubstitution) (q : OperandPair) (e : DebugSubstitution) → LowEntries k es → entry_of es q ≡ Some e →
      (q.number < k) × (e.dst.number < k)
  entry_low [] q e low is = cc
  entry_low (x ∷ es) q e low is = by_test (is_pair x.src q) refl is (λ h. entry_low es q e low.2 h) where
    by_test : (z : Bool) → is_pair x.src q ≡ z → cond z (Some x) (entry_of es q) ≡ Some e → (entry_of es q ≡ Some e → (q.number < k) × (e.dst.number < k)) →
        (q.number < k) × (e.dst.number < k)
    by_test true h is more = let w : x ≡ e = cc in (
      subst (λ (n : ℕ). n < k) (same_number x.src q h) low.0,
      subst (λ
          (z : DebugSubstitution). z.dst.number < k) w low.1,
    )
    by_test false h is more = more is

  end_low : (subs : List DebugSubstitution) → LowEntries k subs → (q r : OperandPair) → q.number < k → Ends subs q r → r.number < k
  end_low subs low q r lt (at none) = lt
  end_low subs low q r lt (by e has whole rest) = end_low subs low e.dst r (entry_low subs q e low has).1 rest

  pub resolve_low : (subs : List DebugSubstitution) → LowEntries k subs → (q r : OperandPair) → q.number < k → resolve subs q ≡ Some r → r.number < k
  resolve_low subs low q r lt is = end_low subs low q r lt (resolve_ends subs q r is)

  -- and a pair with number k or above resolves to itself
  no_entry : (subs : List DebugSubstitution) → LowEntries k subs → (q : OperandPair) → (q.number < k → ⊥) → (x : Option DebugSubstitution) →
      entry_of subs q ≡ x → x ≡ None
  no_entry subs low q far None is = refl
  no_entry subs low q far (Some e) is = absurd (far (entry_low subs q e low is).0)

  pub resolve_high : (subs : List DebugSubstitution) → LowEntries k subs → (q : OperandPair) → (q.number < k → ⊥) → resolve subs q ≡ Some q
  resolve_high subs low q far = ends_resolve subs q q (at (no_entry subs low q far (entry_of subs q) refl))

-- a number of an item is below
pub low_number : (k : ℕ) (kind : ItemKind) → Low k kind → (n : ℕ) → number_of kind ≡ Some n → n < k
low_number k (Code i (Some m)) lt n e = let w : m ≡ n = cc in omega (arith, lt, w)
low_number k (Code i None) lt n e = cc
low_number k (Phi p m) lt n e = let w : m ≡ n = cc in omega (arith, lt, w)
low_number k (Mark v m) lt n e = cc
