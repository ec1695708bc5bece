-- The table of instances when the way of an instruction's calls was walked, and when all calls on the way have instances.
-- Plan: an instance stands behind its parent, so the calls of the way up from an instance all have instances, and none of them is new.
use Rattle.std.proofs.Common.{◌≡◌, ℕ, zero, suc, ◌<◌, ◌≤◌, Bool, true, List, [], ◌∷◌, ◌++◌, length, reverse, Option, Some, None, refl, sym, ◌∙◌, ap}
use Rattle.std.proofs.Common.{subst, arith}
use Rattle.std.proofs.Common.{slice_get, nat_eq, eqb-true, IfSome, inl, inr, if◌then◌else◌, append-nil}
use Rattle.std.specs.List.{list_any}
use Rattle.std.specs.Prelude.{Result, IfOk}
use Rattle.std.proofs.lemmas.Result.{IfOk-weaker}
use Rattle.std.specs.BTreeMap.{BTreeMap}
use Rattle.read_metadata.specs.Maps.{Maps}
use Rattle.read_item.specs.Debug.{inlined_at}
use Rattle.mir_func.specs.declared.location.Loc.{Loc}
use Rattle.dwarf_line_table.specs.Files.{first_uses, with_new}
use Rattle.dwarf_line_table.specs.SourcePosition.{scope_line}
use Rattle.inline_instances.specs.declared.instance.Instance.{Instance}
use Rattle.inline_instances.specs.declared.table.InstanceTable.{InstanceTable}
use Rattle.inline_instances.specs.Calls.{IsWay, AreCallsFrom, call_at, outer_call}
use Rattle.inline_instances.specs.Instances.{IsIndexOf, scope_in}
use Rattle.inline_instances.specs.steps.Marks.{IsIn, AreMarks}
use Rattle.inline_instances.specs.steps.Table.{calls_in, IsPlaced, IsTable, IsEntering, IsInnermost}
use Rattle.inline_instances.proofs.Ways.{way_append}
use Rattle.inline_instances.proofs.Members.{in_at, in_one, in_tail, in_head, or_cases, below_length}
use Rattle.inline_instances.proofs.Tables.{instance_at}
use Rattle.inline_instances.proofs.Uses.{reverse_any}

-- the calls up from one, which all have instances
record Above (meta : Maps) (calls : List ℕ) (n : ℕ) : Type 0 where
  ns : List ℕ
  are : AreCallsFrom meta (Some n) ns
  known : (m : ℕ) → IsIn m ns → IsIn m calls

module _ (meta : Maps) (instances : List Instance)
    (placed : (k : ℕ) (i : Instance) → slice_get instances k ≡ Some i → IsPlaced meta (calls_in instances) k i) where
  above : (most k n : ℕ) → k < most → slice_get (calls_in instances) k ≡ Some n → Above meta (calls_in instances) n
  above zero k n less at = absurd (omega (arith, less))
  above (suc most) k n less at =
      let found = instance_at instances k n at in
      let own = placed k found.0 found.1 in
      by found.0.parent (outer_call meta n) refl
      (subst (λ (m : ℕ). IsIndexOf (calls_in instances) found.0.parent (outer_call meta m)) found.2 own.parent) own.earlier (above most)
    where
      by : (p o : Option ℕ) → outer_call meta n ≡ o → IsIndexOf (calls_in instances) p o → IfSome p (λ q. q < k)
          → ((q m : ℕ) → q < most → slice_get (calls_in instances) q ≡ Some m → Above meta (calls_in instances) m) → Above meta (calls_in instances) n
      by None None is index earlier before = record {
        ns = n ∷ [];
        are = (refl, is);
        known = λ m on. subst (λ (x : ℕ). IsIn x (calls_in instances)) (sym (in_one m n on)) (in_at (calls_in instances) k n at);
      }
      by None (Some m) is index earlier before = absurd index
      by (Some q) None is index earlier before = absurd index
      by (Some q) (Some m) is index earlier before =
          let up = before q m (omega (arith, less, earlier)) index in
          record {
            ns = n ∷ up.ns;
            are = (refl, subst (λ (o : Option ℕ). IsWay meta o up.ns None) (sym is) up.are);
            known = λ x on. elim (or_cases (nat_eq x n) (list_any (nat_eq x) up.ns) on) [
              | inl same ↦ subst (λ (y : ℕ). IsIn y (calls_in instances)) (sym (eqb-true x n same)) (in_at (calls_in instances) k n at)
              | inr rest ↦ up.known x rest
            ];
          }

-- numbers that are all known add none
known_uses : (known xs : List ℕ) → ((m : ℕ) → IsIn m xs → IsIn m known) → known ≡ first_uses nat_eq known xs
known_uses known [] all = refl
known_uses known (x ∷ xs) all =
    let one : with_new nat_eq known x ≡ known = ap (λ (z : Bool). if z then known else known ++ x ∷ []) (all x (in_head x x xs refl)) in
    known_uses known xs (λ m on. all m (in_tail m x xs on)) ∙ ap (λ (ns : List ℕ). first_uses nat_eq ns xs) (sym one)

known_reversed : (known ns : List ℕ) → ((m : ℕ) → IsIn m ns → IsIn m known) → known ≡ first_uses nat_eq known (reverse ns)
known_reversed known ns all = known_uses known (reverse ns) (λ m on. all m (sym (reverse_any m ns) ∙ on))

-- ---- the way was walked

module _ (meta : Maps) (from scope : Option ℕ) (way : List ℕ) (t : InstanceTable) (is : IsTable meta way t) where
  abbrev old : List Instance
  old = t.instances.items

  no_scope : (calls : List ℕ) (k : ℕ) (i : Instance) → length old ≤ k → slice_get old k ≡ Some i → i.scope ≡ scope_in meta i.call scope calls
  no_scope calls k i past at = let below : k < length old = below_length old k i at in absurd (omega (arith, past, below))

  -- to the function's own code
  pub entering_outermost : IsWay meta from way None → IsEntering meta from scope way old way None t
  entering_outermost led = record {
    entered = [];
    whole = sym (append-nil way);
    at = None;
    left = led;
    rest = refl;
    table = is;
    index = tt;
    known = refl;
    added = [];
    kept = sym (append-nil old);
    scopes = no_scope way;
  }

  -- to a call that has an instance
  pub entering_known : (k n : ℕ) → IsWay meta from way (Some n) → slice_get (calls_in old) k ≡ Some n
      → (calls : List ℕ) × IsEntering meta from scope calls old way (Some k) t
  entering_known k n led at =
      let up = above meta old is.placed (suc k) k n (omega arith) at in (
        way ++ up.ns,
        record {
          entered = up.ns;
          whole = refl;
          at = Some n;
          left = led;
          rest = up.are;
          table = is;
          index = at;
          known = known_reversed (calls_in old) up.ns up.known;
          added = [];
          kept = sym (append-nil old);
          scopes = no_scope (way ++ up.ns);
        },
      )

-- the table after the walk
pub table_walked : (meta : Maps) (way : List ℕ) (t new : InstanceTable) → IsTable meta [] t → new.instances.items ≡ t.instances.items
    → AreMarks meta (calls_in t.instances.items) way new.marks → IsTable meta way new
table_walked meta way t new is same marks = record {
  marks = subst (λ (is : List Instance). AreMarks meta (calls_in is) way new.marks) (sym same) marks;
  placed = subst (λ (is : List Instance). (k : ℕ) (i : Instance) → slice_get is k ≡ Some i → IsPlaced meta (calls_in is) k i) (sym same) is.placed;
}

-- ---- all calls have instances

innermost_found : (meta : Maps) (loc : Loc) (calls : List ℕ) (old : List Instance) (found : Option ℕ) (t : InstanceTable)
    → IsEntering meta (call_at meta (inlined_at meta loc)) (scope_line meta loc).scope calls old [] found t → IsInnermost meta loc old t found
innermost_found meta loc calls old found t is =
    let from = call_at meta (inlined_at meta loc) in
    let are : AreCallsFrom meta from calls =
    subst (AreCallsFrom meta from) (sym is.whole) (subst (λ (o : Option ℕ). AreCallsFrom meta o is.entered) (sym is.left) is.rest) in
    record {
      calls = calls;
      are = inl are;
      from = from;
      way = are;
      index = subst (IsIndexOf (calls_in t.instances.items) found) (sym is.left) is.index;
      table = is.table;
      known = is.known ∙ ap (λ (ns : List ℕ). first_uses nat_eq (calls_in old) (reverse ns)) (sym is.whole);
      added = is.added;
      kept = is.kept;
      scopes = is.scopes;
    }

-- also if nothing is said of a result that is an error
pub innermost_of : {E : Type 0} (meta : Maps) (loc : Loc) (calls : List ℕ) (old : List Instance) (scope : Option ℕ)
    (r : Result (Option ℕ) E) (t : InstanceTable) → scope ≡ (scope_line meta loc).scope
    → IfOk r (λ found. IsEntering meta (call_at meta (inlined_at meta loc)) scope calls old [] found t)
    → IfOk r (IsInnermost meta loc old t)
innermost_of meta loc calls old scope r t here =
    IfOk-weaker r _ _
    (λ found is.
    innermost_found meta loc calls old found t
    (subst (λ (o : Option ℕ). IsEntering meta (call_at meta (inlined_at meta loc)) o calls old [] found t) here is))

-- a way that leads to a circle gives no instances
pub innermost_none : (meta : Maps) (loc : Loc) (t new : InstanceTable) → IsTable meta [] new → new.instances.items ≡ t.instances.items
    → ((ns : List ℕ) → AreCallsFrom meta (call_at meta (inlined_at meta loc)) ns → ⊥) → IsInnermost meta loc t.instances.items new None
innermost_none meta loc t new is same none = record {
  calls = [];
  are = inr (none, refl);
  from = None;
  way = refl;
  index = tt;
  table = is;
  known = ap calls_in same;
  added = [];
  kept = same ∙ sym (append-nil t.instances.items);
  scopes = λ k i past at.
      let below : k < length t.instances.items = below_length t.instances.items k i (ap (λ (is : List Instance). slice_get is k) (sym same) ∙ at) in
      absurd (omega (arith, past, below));
}
