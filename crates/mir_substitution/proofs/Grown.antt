-- The forest of the entries and one more.
use Rattle.std.proofs.Common.{◌≡◌, ℕ, ◌+◌, ◌≤◌, List, [], ◌∷◌, ◌++◌, length, Option, Some, None, Bool, true, false, cond, refl, sym, ap, subst, arith, ◌∙◌}
use Rattle.std.proofs.Common.{length-append}
use Rattle.std.specs.Prelude.{max, nat_le, unwrap_or, is_some}
use Rattle.std.specs.declared.hash.FoldHasher.{FoldHasher}
use Rattle.std.specs.declared.hash.BuildHasherDefault.{BuildHasherDefault}
use Rattle.std.specs.HashMap.{HashMap, get}
use Rattle.std.specs.Option.{option_eq}
use Rattle.std.proofs.lemmas.Bool.{eq-eqb, ne_eqb}
use Rattle.mir_func.specs.declared.debug_substitution.OperandPair.{OperandPair}
use Rattle.mir_func.specs.declared.debug_substitution.DebugSubstitution.{DebugSubstitution}
use Rattle.mir_func.specs.Resolve.{is_pair, entry_of, resolve}
use Rattle.mir_substitution.specs.declared.forest.Node.{Node}
use Rattle.mir_substitution.specs.declared.forest.Link.TheVariants.{Parent, End}
use Rattle.mir_substitution.specs.declared.forest.Root.{Root}
use Rattle.mir_substitution.specs.Added.{added}
use Rattle.mir_substitution.specs.Index.{key_of, is_key}
use Rattle.mir_substitution.specs.Forest.{AreEnds, IsRootOf, alone, node_of, given, ended, placed, united}
use Rattle.mir_substitution.proofs.Entries.{is_pair-true, is_pair-same}
use Rattle.mir_substitution.proofs.Redirected.{none-resolve, redirected, redirected-at, redirected-else, resolve-added}
use Rattle.mir_substitution.proofs.Redirected.{goes_to, goes_to-part, goes_to-circle, goes_to-end}
use Rattle.mir_substitution.proofs.Linked.{linked, becomes-ended, becomes-placed}

-- the node of a pair, where one pair got another
unwrap_or-cond : (z : Bool) (n : Node) (o : Option Node) (d : Node) → unwrap_or (cond z (Some n) o) d ≡ cond z n (unwrap_or o d)
unwrap_or-cond true n o d = refl
unwrap_or-cond false n o d = refl

pub node_of-set : (old new : HashMap (ℕ × ℕ) Node (BuildHasherDefault FoldHasher)) (k : ℕ × ℕ) (p : OperandPair) (n : Node) → k ≡ key_of p →
    ((x : ℕ × ℕ) → get is_key new x ≡ cond (is_key k x) (Some n) (get is_key old x)) → (q : OperandPair) →
    node_of new q ≡ given p n.rank n.link (node_of old) q
node_of-set old new k p n is put q =
    let here : get is_key new (key_of q) ≡ cond (is_pair p q) (Some n) (get is_key old (key_of q)) =
    put (key_of q) ∙ ap (λ (x : ℕ × ℕ). cond (is_key x (key_of q)) (Some n) (get is_key old (key_of q))) is in
    ap (λ (o : Option Node). unwrap_or o (alone q)) here ∙ unwrap_or-cond (is_pair p q) n (get is_key old (key_of q)) (alone q)

-- maps that have the same at each key
pub node_of-same : (old new : HashMap (ℕ × ℕ) Node (BuildHasherDefault FoldHasher)) → ((x : ℕ × ℕ) → get is_key new x ≡ get is_key old x) →
    (q : OperandPair) → node_of new q ≡ node_of old q
node_of-same old new same q = ap (λ (o : Option Node). unwrap_or o (alone q)) (same (key_of q))

-- nodes and entries that are equal
pub are_ends-same : (subs more : List DebugSubstitution) (node new : OperandPair → Node) → subs ≡ more → ((q : OperandPair) → new q ≡ node q) → AreEnds subs node →
    AreEnds more new
are_ends-same subs more node new equal same all =
    let nodes : node ≡ new = λ i q. sym (same q) i in
    let first : AreEnds subs new = subst (λ (n : OperandPair → Node). AreEnds subs n) nodes all in
    subst (λ (s : List DebugSubstitution). AreEnds s new) equal first

pub is_root-same : (subs more : List DebugSubstitution) (node new : OperandPair → Node) (p : OperandPair) (root : Root) → subs ≡ more →
    ((q : OperandPair) → new q ≡ node q) → IsRootOf subs node p root → IsRootOf more new p root
is_root-same subs more node new p root equal same is =
    let nodes : node ≡ new = λ i q. sym (same q) i in
    let first : IsRootOf subs new p root = subst (λ (n : OperandPair → Node). IsRootOf subs n p root) nodes is in
    subst (λ (s : List DebugSubstitution). IsRootOf s new p root) equal first

-- adding an entry whose source has none
pub added-new : (subs : List DebugSubstitution) (e : DebugSubstitution) → entry_of subs e.src ≡ None → added subs e ≡ subs ++ e ∷ []
added-new subs e none = ap (λ (o : Option DebugSubstitution). cond (is_some o) subs (subs ++ e ∷ [])) none

-- an end that is a pair, and one that isn't
pub end-true : (x : Option OperandPair) (p : OperandPair) → option_eq is_pair x (Some p) ≡ true → x ≡ Some p
end-true None p h = (let bad : false ≡ true = h in cc)
end-true (Some q) p h = ap (λ (y : OperandPair). Some y) (is_pair-true q p h)

pub end-false : (x : Option OperandPair) (p : OperandPair) → option_eq is_pair x (Some p) ≡ false → x ≡ Some p → ⊥
end-false x p h is =
    let bad : true ≡ false = sym (is_pair-same p) ∙ ap (λ (y : Option OperandPair). option_eq is_pair y (Some p)) (sym is) ∙ h in cc

-- a pair that isn't another
differs : (p q : OperandPair) → p ≡ q → is_pair p q ≡ false → ⊥
differs p q same other = (let bad : true ≡ false = sym (is_pair-same p) ∙ ap (is_pair p) same ∙ other in cc)

module _ (subs : List DebugSubstitution) (node : OperandPair → Node) (all : AreEnds subs node) (e : DebugSubstitution) (source target : Root)
    (is_source : IsRootOf subs node e.src source) (is_target : IsRootOf subs node e.dst target) (unused : source.end ≡ Some e.src) where
  abbrev more : List DebugSubstitution
  more = subs ++ e ∷ []

  abbrev to : Option OperandPair
  to = goes_to subs e

  pub free : entry_of subs e.src ≡ None
  free = none-resolve subs e.src e.src (is_source.ends ∙ unused)

  long : length more ≡ length subs + 1
  long = length-append subs (e ∷ [])

  source_link : (node source.pair).link ≡ End (Some e.src)
  source_link = ap (λ (n : Node). n.link) is_source.here ∙ ap (λ (x : Option OperandPair). End x) unused

  target_link : (node target.pair).link ≡ End target.end
  target_link = ap (λ (n : Node). n.link) is_target.here

  source_rank : (node source.pair).rank ≡ source.rank
  source_rank = ap (λ (n : Node). n.rank) is_source.here

  target_rank : (node target.pair).rank ≡ target.rank
  target_rank = ap (λ (n : Node). n.rank) is_target.here

  -- the source's tree goes on, and no other one
  source_now : resolve more source.pair ≡ to
  source_now =
      resolve-added subs e free source.pair ∙ redirected-at e.src to (resolve subs source.pair) (all.roots source.pair (Some e.src) source_link)

  others : (q : OperandPair) (x : Option OperandPair) → (node q).link ≡ End x → is_pair source.pair q ≡ false → resolve more q ≡ x
  others q x is other =
      let ne : x ≡ Some e.src → ⊥ = λ same. differs source.pair q (all.apart source.pair q e.src source_link (is ∙ ap (λ (y : Option OperandPair). End y) same))
      other in
      resolve-added subs e free q ∙ ap (redirected e.src to) (all.roots q x is) ∙ redirected-else e.src to x ne

  parents : (q p : OperandPair) → (node q).link ≡ Parent p → resolve more q ≡ resolve more p
  parents q p is = resolve-added subs e free q ∙ ap (redirected e.src to) (all.parents q p is) ∙ sym (resolve-added subs e free p)

  -- no root's rank is above the number of entries
  pub source-low : source.rank ≤ length subs
  source-low = (let h = all.low source.pair in omega (arith, source_rank))

  pub target-low : target.rank ≤ length subs
  target-low = (let h = all.low target.pair in omega (arith, target_rank))

  ended-ends : to ≡ None → AreEnds more (ended source node)
  ended-ends none =
      let low : source.rank ≤ length subs + 1 = (let h = all.low source.pair in omega (arith, source_rank)) in
      let same : (node source.pair).rank ≤ source.rank = omega (arith, source_rank) in
      let only : (q p : OperandPair) → ◌≡◌ {A = Option OperandPair} None (Some p) → (node q).link ≡ End (Some p) → is_pair source.pair q ≡ false →
      is_pair source.pair q ≡ false → ⊥ =
      λ q p is link f g. (let bad : ◌≡◌ {A = Option OperandPair} None (Some p) = is in cc) in
      linked subs more node (ended source node) source.pair source.pair source.rank source.rank None all long same low source_rank (source_now ∙ none)
      (source_now ∙ none) parents (λ q x is f g. others q x is f) only (becomes-ended source node)

  module _ (goes : to ≡ target.end) (ne : target.end ≡ Some e.src → ⊥) where
    target_now : resolve more target.pair ≡ target.end
    target_now =
        let was : resolve subs target.pair ≡ target.end = all.roots target.pair target.end target_link in
        resolve-added subs e free target.pair ∙ redirected-else e.src to (resolve subs target.pair) (λ same. ne (sym was ∙ same)) ∙ was

    only : (q p : OperandPair) → target.end ≡ Some p → (node q).link ≡ End (Some p) → is_pair target.pair q ≡ false → ⊥
    only q p is link other =
        differs target.pair q (all.apart target.pair q p (target_link ∙ ap (λ (y : Option OperandPair). End y) is) link) other

    below_target : AreEnds more (placed source target target.end node)
    below_target =
        let h = all.low source.pair in
        let k = all.low target.pair in
        let high : (node target.pair).rank ≤ max target.rank (source.rank + 1) = omega (arith, target_rank) in
        let low : max target.rank (source.rank + 1) ≤ length subs + 1 = omega (arith, source_rank, target_rank) in
        linked subs more node (placed source target target.end node) target.pair source.pair (max target.rank (source.rank + 1)) source.rank target.end all long
        high low source_rank target_now (source_now ∙ goes) parents (λ q x is f g. others q x is g) (λ q p is link f g. only q p is link f)
        (becomes-placed source target target.end node)

    below_source : AreEnds more (placed target source target.end node)
    below_source =
        let h = all.low source.pair in
        let k = all.low target.pair in
        let high : (node source.pair).rank ≤ max source.rank (target.rank + 1) = omega (arith, source_rank) in
        let low : max source.rank (target.rank + 1) ≤ length subs + 1 = omega (arith, source_rank, target_rank) in
        linked subs more node (placed target source target.end node) source.pair target.pair (max source.rank (target.rank + 1)) target.rank target.end all long
        high low target_rank (source_now ∙ goes) target_now parents (λ q x is f g. others q x is f) (λ q p is link f g. only q p is link g)
        (becomes-placed target source target.end node)

    united-ends : AreEnds more (united source target node)
    united-ends = by_rank (nat_le source.rank target.rank) where
      by_rank : (z : Bool) → AreEnds more (cond z (placed source target target.end node) (placed target source target.end node))
      by_rank true = below_target
      by_rank false = below_source

  -- the entry is for a part of a register
  pub part-ends : (e.subreg ≡ 0 → ⊥) → AreEnds more (ended source node)
  part-ends part = ended-ends (goes_to-part subs e (ne_eqb e.subreg 0 part))

  -- it closes a circle
  pub circle-ends : option_eq is_pair target.end (Some e.src) ≡ true → AreEnds more (ended source node)
  circle-ends is = ended-ends (goes_to-circle subs e (is_target.ends ∙ end-true target.end e.src is))

  -- its target's chain ends elsewhere
  pub joined-ends : e.subreg ≡ 0 → option_eq is_pair target.end (Some e.src) ≡ false → AreEnds more (united source target node)
  joined-ends whole other =
      let ne : target.end ≡ Some e.src → ⊥ = end-false target.end e.src other in
      united-ends (goes_to-end subs e (eq-eqb e.subreg 0 whole) (λ same. ne (sym is_target.ends ∙ same)) ∙ is_target.ends) ne
