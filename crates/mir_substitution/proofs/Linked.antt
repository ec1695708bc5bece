-- A forest in which a root changes, and perhaps another one comes below it.
use Rattle.std.proofs.Common.{◌≡◌, ℕ, ◌+◌, ◌<◌, ◌≤◌, List, length, Option, Some, None, Bool, true, false, cond, refl, sym, ap, arith, ◌∙◌}
use Rattle.std.specs.Prelude.{max}
use Rattle.mir_func.specs.declared.debug_substitution.OperandPair.{OperandPair}
use Rattle.mir_func.specs.declared.debug_substitution.DebugSubstitution.{DebugSubstitution}
use Rattle.mir_func.specs.Resolve.{is_pair, resolve}
use Rattle.mir_substitution.specs.declared.forest.Node.{Node}
use Rattle.mir_substitution.specs.declared.forest.Link.TheVariants.{Parent, End}
use Rattle.mir_substitution.specs.declared.forest.Root.{Root}
use Rattle.mir_substitution.specs.Forest.{AreEnds, ended, placed}
use Rattle.mir_substitution.proofs.Entries.{is_pair-true, is_pair-same}

-- what a pair's node has become
pub data Becomes (node new : OperandPair → Node) (above below : OperandPair) (high low : ℕ) (end : Option OperandPair) (q : OperandPair) : Type 0 where
  top : q ≡ above → new q ≡ record { rank = high; link = End end } → Becomes node new above below high low end q
  bottom : is_pair above q ≡ false → q ≡ below → new q ≡ record { rank = low; link = Parent above } → low < high → Becomes node new above below high low end q
  rest : is_pair above q ≡ false → is_pair below q ≡ false → new q ≡ node q → Becomes node new above below high low end q

module _ (root : Root) (node : OperandPair → Node) (q : OperandPair) where
  abbrev broken : Node
  broken = record { rank = root.rank; link = End None }

  pub becomes-ended : Becomes node (ended root node) root.pair root.pair root.rank root.rank None q
  becomes-ended = by_test (is_pair root.pair q) refl where
    by_test : (z : Bool) → is_pair root.pair q ≡ z → Becomes node (ended root node) root.pair root.pair root.rank root.rank None q
    by_test true is = top (sym (is_pair-true root.pair q is)) (ap (λ (z : Bool). cond z broken (node q)) is)
    by_test false is = rest is is (ap (λ (z : Bool). cond z broken (node q)) is)

module _ (below above : Root) (end : Option OperandPair) (node : OperandPair → Node) (q : OperandPair) where
  abbrev high : ℕ
  high = max above.rank (below.rank + 1)

  abbrev first : Node
  first = record { rank = high; link = End end }

  abbrev second : Node
  second = record { rank = below.rank; link = Parent above.pair }

  abbrev Here : Type 0
  Here = Becomes node (placed below above end node) above.pair below.pair high below.rank end q

  isnt_above : is_pair above.pair q ≡ false → placed below above end node q ≡ cond (is_pair below.pair q) second (node q)
  isnt_above other = ap (λ (z : Bool). cond z first (cond (is_pair below.pair q) second (node q))) other

  by_below : is_pair above.pair q ≡ false → (z : Bool) → is_pair below.pair q ≡ z → Here
  by_below other true is =
      bottom other (sym (is_pair-true below.pair q is)) (isnt_above other ∙ ap (λ (z : Bool). cond z second (node q)) is) (omega arith)
  by_below other false is = rest other is (isnt_above other ∙ ap (λ (z : Bool). cond z second (node q)) is)

  by_above : (z : Bool) → is_pair above.pair q ≡ z → Here
  by_above true is =
      top (sym (is_pair-true above.pair q is)) (ap (λ (z : Bool). cond z first (cond (is_pair below.pair q) second (node q))) is)
  by_above false is = by_below is (is_pair below.pair q) refl

  pub becomes-placed : Here
  becomes-placed = by_above (is_pair above.pair q) refl

module _ (subs more : List DebugSubstitution) (node new : OperandPair → Node) (above below : OperandPair) (high low : ℕ) (end : Option OperandPair)
    (all : AreEnds subs node) (long : length more ≡ length subs + 1) (above_low : (node above).rank ≤ high) (high_low : high ≤ length subs + 1)
    (below_low : (node below).rank ≡ low) (top_end : resolve more above ≡ end) (bottom_end : resolve more below ≡ end)
    (parents : (q p : OperandPair) → (node q).link ≡ Parent p → resolve more q ≡ resolve more p)
    (roots : (q : OperandPair) (x : Option OperandPair) → (node q).link ≡ End x → is_pair above q ≡ false → is_pair below q ≡ false → resolve more q ≡ x)
    (only : (q p : OperandPair) → end ≡ Some p → (node q).link ≡ End (Some p) → is_pair above q ≡ false → is_pair below q ≡ false → ⊥)
    (becomes : (q : OperandPair) → Becomes node new above below high low end q) where
  abbrev To : OperandPair → Type 0
  To q = Becomes node new above below high low end q

  roots_by : (q : OperandPair) (x : Option OperandPair) → To q → (new q).link ≡ End x → resolve more q ≡ x
  roots_by q x (top same w) is =
      let both : End end ≡ End x = sym (ap (λ (n : Node). n.link) w) ∙ is in
      let equal : end ≡ x = cc in
      ap (resolve more) same ∙ top_end ∙ equal
  roots_by q x (bottom other same w lt) is = (let bad : Parent above ≡ End x = sym (ap (λ (n : Node). n.link) w) ∙ is in cc)
  roots_by q x (rest f g w) is = roots q x (sym (ap (λ (n : Node). n.link) w) ∙ is) f g

  parents_by : (q p : OperandPair) → To q → (new q).link ≡ Parent p → resolve more q ≡ resolve more p
  parents_by q p (top same w) is = (let bad : End end ≡ Parent p = sym (ap (λ (n : Node). n.link) w) ∙ is in cc)
  parents_by q p (bottom other same w lt) is =
      let both : Parent above ≡ Parent p = sym (ap (λ (n : Node). n.link) w) ∙ is in
      let equal : above ≡ p = cc in
      ap (resolve more) same ∙ bottom_end ∙ sym top_end ∙ ap (resolve more) equal
  parents_by q p (rest f g w) is = parents q p (sym (ap (λ (n : Node). n.link) w) ∙ is)

  -- no rank gets lower
  ranks_stay : (q : OperandPair) → To q → (node q).rank ≤ (new q).rank
  ranks_stay q (top same w) =
      let now = ap (λ (n : Node). n.rank) w in
      let was = ap (λ (p : OperandPair). (node p).rank) same in omega (arith, above_low)
  ranks_stay q (bottom other same w lt) =
      let now = ap (λ (n : Node). n.rank) w in
      let was = ap (λ (p : OperandPair). (node p).rank) same in omega (arith, below_low)
  ranks_stay q (rest f g w) = let now = ap (λ (n : Node). n.rank) w in omega arith

  top_rank : To above → (new above).rank ≡ high
  top_rank (top same w) = ap (λ (n : Node). n.rank) w
  top_rank (bottom other same w lt) = (let bad : true ≡ false = sym (is_pair-same above) ∙ other in cc)
  top_rank (rest f g w) = (let bad : true ≡ false = sym (is_pair-same above) ∙ f in cc)

  ranks_by : (q p : OperandPair) → To q → (new q).link ≡ Parent p → (new q).rank < (new p).rank
  ranks_by q p (top same w) is = (let bad : End end ≡ Parent p = sym (ap (λ (n : Node). n.link) w) ∙ is in cc)
  ranks_by q p (bottom other same w lt) is =
      let both : Parent above ≡ Parent p = sym (ap (λ (n : Node). n.link) w) ∙ is in
      let equal : above ≡ p = cc in
      let here = ap (λ (n : Node). n.rank) w in
      let there = ap (λ (r : OperandPair). (new r).rank) equal in
      let known = top_rank (becomes above) in omega arith
  ranks_by q p (rest f g w) is =
      let here = ap (λ (n : Node). n.rank) w in
      let old = all.ranks q p (sym (ap (λ (n : Node). n.link) w) ∙ is) in
      let there = ranks_stay p (becomes p) in omega arith

  apart_by : (q r p : OperandPair) → To q → To r → (new q).link ≡ End (Some p) → (new r).link ≡ End (Some p) → q ≡ r
  apart_by q r p (top same w) (top also v) is it = same ∙ sym also
  apart_by q r p (top same w) (rest f g v) is it =
      let both : End end ≡ End (Some p) = sym (ap (λ (n : Node). n.link) w) ∙ is in
      let equal : end ≡ Some p = cc in
      absurd (only r p equal (sym (ap (λ (n : Node). n.link) v) ∙ it) f g)
  apart_by q r p (rest f g w) (top also v) is it =
      let both : End end ≡ End (Some p) = sym (ap (λ (n : Node). n.link) v) ∙ it in
      let equal : end ≡ Some p = cc in
      absurd (only q p equal (sym (ap (λ (n : Node). n.link) w) ∙ is) f g)
  apart_by q r p (rest f g w) (rest h k v) is it =
      all.apart q r p (sym (ap (λ (n : Node). n.link) w) ∙ is) (sym (ap (λ (n : Node). n.link) v) ∙ it)
  apart_by q r p (bottom other same w lt) to is it = (let bad : Parent above ≡ End (Some p) = sym (ap (λ (n : Node). n.link) w) ∙ is in cc)
  apart_by q r p (top same w) (bottom other also v lt) is it = (let bad : Parent above ≡ End (Some p) = sym (ap (λ (n : Node). n.link) v) ∙ it in cc)
  apart_by q r p (rest f g w) (bottom other also v lt) is it = (let bad : Parent above ≡ End (Some p) = sym (ap (λ (n : Node). n.link) v) ∙ it in cc)

  low_by : (q : OperandPair) → To q → (new q).rank ≤ length more
  low_by q (top same w) = let now = ap (λ (n : Node). n.rank) w in omega (arith, high_low, long)
  low_by q (bottom other same w lt) = let now = ap (λ (n : Node). n.rank) w in let old = all.low below in omega (arith, below_low, long)
  low_by q (rest f g w) = let now = ap (λ (n : Node). n.rank) w in let old = all.low q in omega (arith, long)

  pub linked : AreEnds more new
  linked = record {
    roots = λ q x is. roots_by q x (becomes q) is;
    parents = λ q p is. parents_by q p (becomes q) is;
    ranks = λ q p is. ranks_by q p (becomes q) is;
    apart = λ q r p is it. apart_by q r p (becomes q) (becomes r) is it;
    low = λ q. low_by q (becomes q);
  }
