-- Ways from a scope through lexical blocks to its subprogram.
-- Plan: a node is a lexical block or a subprogram and never both, so each way from a scope to a subprogram begins with the blocks that lead up from the scope.
-- A way through blocks that comes back to its first one would be longer than itself.
use Rattle.std.proofs.Common.{◌≡◌, ℕ, zero, suc, ◌+◌, ◌<◌, ◌≤◌, ◌⊎◌, Bool, true, false, List, [], ◌∷◌, ◌++◌, length, Option, Some, None, refl, sym, ◌∙◌, ap}
use Rattle.std.proofs.Common.{subst, arith}
use Rattle.std.proofs.Common.{nat_eq, true≢false, inl, inr, Contains}
use Rattle.std.specs.Prelude.{IsSome}
use Rattle.std.specs.List.{list_any}
use Rattle.std.specs.Option.{option_and_then}
use Rattle.read_metadata.specs.declared.node.Node.{Node}
use Rattle.read_metadata.specs.declared.node.Node.TheVariants as nodes
use Rattle.read_metadata.specs.declared.node.BlockNode.{BlockNode}
use Rattle.read_metadata.specs.Maps.{Maps}
use Rattle.read_metadata.specs.Metadata.{node_at, as_subprogram, as_block, subprogram_node_at, block_at}
use Rattle.inline_instances.proofs.Ways.{none_is_some, some_is_some}
use Rattle.inline_instances.proofs.Members.{contains_in, in_contains}
use Rattle.inline_subroutines.specs.Subprogram.{scope_around, IsWithin, IsSubprogramOf}

-- from a scope these blocks, inner ones first, each in the next one's scope, lead up to another scope
abbrev pub Lead : Maps → (scope : Option ℕ) → (blocks : List ℕ) → (at : Option ℕ) → Type 0
Lead meta scope [] at = scope ≡ at
Lead meta scope (b ∷ bs) at = (scope ≡ Some b) × IsSome (block_at meta b) × Lead meta (scope_around meta b) bs at

no_both : (o : Option Node) → IsSome (option_and_then as_subprogram o) → IsSome (option_and_then as_block o) → ⊥
no_both None s b = true≢false (sym s)
no_both (Some (nodes.Variable v)) s b = true≢false (sym s)
no_both (Some (nodes.Location l)) s b = true≢false (sym s)
no_both (Some (nodes.File f)) s b = true≢false (sym s)
no_both (Some (nodes.BaseType t)) s b = true≢false (sym s)
no_both (Some (nodes.Subprogram x)) s b = true≢false (sym b)
no_both (Some (nodes.Block x)) s b = true≢false (sym s)

-- what has a scope around it is a lexical block
pub block_of_scope : (meta : Maps) (n a : ℕ) → scope_around meta n ≡ Some a → IsSome (block_at meta n)
block_of_scope meta n a e = by (block_at meta n) e
  where
    by : (o : Option BlockNode) → option_and_then (λ (b : BlockNode). b.scope) o ≡ Some a → IsSome o
    by None none = absurd (none_is_some a none)
    by (Some b) some = refl

pub lead_more : (meta : Maps) (scope : Option ℕ) (way : List ℕ) (n : ℕ) → Lead meta scope way (Some n) → IsSome (block_at meta n)
    → Lead meta scope (way ++ n ∷ []) (scope_around meta n)
lead_more meta scope [] n is block = (is, block, refl)
lead_more meta scope (m ∷ way) n is block = (is.0, is.1, lead_more meta (scope_around meta m) way n is.2 block)

-- the blocks behind those of a way
record Rest (meta : Maps) (at : Option ℕ) (way bs : List ℕ) (s : ℕ) : Type 0 where
  rest : List ℕ
  within : IsWithin meta at rest s
  size : length bs ≡ length way + length rest

rest_of : (meta : Maps) (scope at : Option ℕ) (way bs : List ℕ) (s : ℕ) → Lead meta scope way at → IsWithin meta scope bs s → Rest meta at way bs s
rest_of meta scope at [] bs s is within =
    record { rest = bs; within = subst (λ (o : Option ℕ). IsWithin meta o bs s) is within; size = omega arith }
rest_of meta scope at (n ∷ way) [] s is within =
    let same : s ≡ n = some_is_some s n (sym within.0 ∙ is.0) in
    absurd (no_both (node_at meta n) (subst (λ (m : ℕ). IsSome (subprogram_node_at meta m)) same within.1) is.1)
rest_of meta scope at (n ∷ way) (b ∷ bs) s is within =
    let same : b ≡ n = some_is_some b n (sym within.0 ∙ is.0) in
    let found =
    rest_of meta (scope_around meta n) at way bs s is.2 (subst (λ (m : ℕ). IsWithin meta (scope_around meta m) bs s) same within.2) in
    record { rest = found.rest; within = found.within; size = omega (arith, found.size) }

joined : (meta : Maps) (scope at : Option ℕ) (way bs : List ℕ) (s : ℕ) → Lead meta scope way at → IsWithin meta at bs s → IsWithin meta scope (way ++ bs) s
joined meta scope at [] bs s is within = subst (λ (o : Option ℕ). IsWithin meta o bs s) (sym is) within
joined meta scope at (n ∷ way) bs s is within = (is.0, is.1, joined meta (scope_around meta n) at way bs s is.2 within)

-- a scope has the subprogram of the one that blocks lead up to
pub subprogram_behind : (meta : Maps) (scope at : Option ℕ) (way : List ℕ) (found : Option ℕ) → Lead meta scope way at → IsSubprogramOf meta at found
    → IsSubprogramOf meta scope found
subprogram_behind meta scope at way None is none = λ bs s within.
    let behind = rest_of meta scope at way bs s is within in
    none behind.rest s behind.within
subprogram_behind meta scope at way (Some s) is found = (way ++ found.0, joined meta scope at way found.0 s is found.1)

-- the way up from a block on a way
pub record From (meta : Maps) (n : ℕ) (at : Option ℕ) : Type 0 where
  pub blocks : List ℕ
  pub lead : Lead meta (Some n) blocks at
  pub some : 0 < length blocks

pub from_on : (meta : Maps) (scope at : Option ℕ) (way : List ℕ) (n : ℕ) → Lead meta scope way at → Contains way n → From meta n at
from_on meta scope at [] n is (k, below, e) = absurd (omega arith)
from_on meta scope at (m ∷ way) n is (zero, below, e) =
    record { blocks = m ∷ way; lead = (ap Some (sym e), is.1, is.2); some = omega arith }
from_on meta scope at (m ∷ way) n is (suc k, below, e) = from_on meta (scope_around meta m) at way n is.2 (k, omega arith, e)

-- a block whose way up comes back to it is in no subprogram
pub circle : (meta : Maps) (n : ℕ) (way : List ℕ) → Lead meta (Some n) way (Some n) → 0 < length way → IsSubprogramOf meta (Some n) None
circle meta n way is some = λ bs s within. by (length bs) bs s (omega arith) within
  where
    by : (most : ℕ) (bs : List ℕ) (s : ℕ) → length bs ≤ most → IsWithin meta (Some n) bs s → ⊥
    by zero bs s few within =
        let behind = rest_of meta (Some n) (Some n) way bs s is within in
        omega (arith, behind.size, some, few)
    by (suc most) bs s few within =
        let behind = rest_of meta (Some n) (Some n) way bs s is within in
        by most behind.rest s (omega (arith, behind.size, some, few)) behind.within

-- without a scope there is no subprogram
pub no_scope : (meta : Maps) → IsSubprogramOf meta None None
no_scope meta = by
  where
    by : (bs : List ℕ) (s : ℕ) → IsWithin meta None bs s → ⊥
    by [] s within = none_is_some s within.0
    by (b ∷ bs) s within = none_is_some b within.0

-- nor for a node that is no subprogram and has no scope around it
pub no_scope_around : (meta : Maps) (n : ℕ) → (IsSome (subprogram_node_at meta n) → ⊥) → scope_around meta n ≡ None → IsSubprogramOf meta (Some n) None
no_scope_around meta n other none = by
  where
    by : (bs : List ℕ) (s : ℕ) → IsWithin meta (Some n) bs s → ⊥
    by [] s within = other (subst (λ (m : ℕ). IsSome (subprogram_node_at meta m)) (sym (some_is_some n s within.0)) within.1)
    by (b ∷ bs) s within =
        let same : n ≡ b = some_is_some n b within.0 in
        no_scope meta bs s
        (subst (λ (o : Option ℕ). IsWithin meta o bs s) none
        (subst (λ (m : ℕ). IsWithin meta (scope_around meta m) bs s) (sym same) within.2))

-- a subprogram is its own
pub own_subprogram : (meta : Maps) (n : ℕ) → IsSome (subprogram_node_at meta n) → IsSubprogramOf meta (Some n) (Some n)
own_subprogram meta n is = ([], (refl, is))

-- whether a number is among others
pub contains_or : (ns : List ℕ) (n : ℕ) → Contains ns n ⊎ (Contains ns n → ⊥)
contains_or ns n = by (list_any (nat_eq n) ns) refl
  where
    by : (z : Bool) → list_any (nat_eq n) ns ≡ z → Contains ns n ⊎ (Contains ns n → ⊥)
    by true on = inl (in_contains ns n on)
    by false off = inr (λ on. true≢false (sym (contains_in ns n on) ∙ off))
