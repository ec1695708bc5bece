-- Ordered maps, seen as finite maps of their entries.
use Rattle.std.proofs.Common.{Ordering, Less, Equal, Greater, ◌≡◌, ℕ, Bool, true, false, cond, List, [], ◌∷◌, Some, refl, sym, ap, ◌∙◌}
use Rattle.std.specs.Prelude.{is_some, Vec}
use Rattle.std.specs.Ordering.{nat_cmp, is_eq, eq_by_cmp}
use Rattle.std.specs.Cmp.{IsTotalOrder, nat_cmp_total}
use Rattle.std.specs.Cmp.Lexicographic.{slice_cmp, nat_list_cmp_total}
use Rattle.read_metadata.specs.declared.node.Node.{Node}
use Rattle.std.specs.Map.{lookup}
use Rattle.std.specs.BTreeMap.{insert_entry, is_at}
use Rattle.std.specs.FinMap.{FinMap, IsAntisymmetric, nat_cmp-IsAntisymmetric, slice_cmp-IsAntisymmetric, from_entries, insert, get, contains_key, find, put}
use Rattle.std.specs.FinMap.{get-from_entries, get-insert, same_map}
use Rattle.std.specs.FinMap.Entries.{find-put}
use Rattle.read_metadata.specs.Maps.{Maps, nodes_in, by_bytes, subprograms_in, seen, with_new, with_node, with_subprogram}

put-insert_entry : {K X : Type 0} (R : K → K → Ordering) (k : K) (v : X) (es : List (K × X)) → insert_entry R es k v ≡ put R k v es
put-insert_entry R k v [] = refl
put-insert_entry R k v (e ∷ es) =
    elim (R k e.0) as (λ r. R k e.0 ≡ r → insert_entry R (e ∷ es) k v ≡ put R k v (e ∷ es)) [
      | Less ↦ λ p. rw p refl
      | Equal ↦ λ p. rw p refl
      | Greater ↦ λ p. rw p (ap (λ r. e ∷ r) (put-insert_entry R k v es))
    ] refl

pub lookup-find : {K X : Type 0} (R : K → K → Ordering) (q : K) (es : List (K × X)) → lookup (is_at (R q)) es ≡ find R q es
lookup-find R q [] = refl
lookup-find R q (e ∷ es) = ap (cond (is_eq (R q e.0)) (Some e.1)) (lookup-find R q es)

module _ {K X : Type 0} {R : K → K → Ordering} (o : IsTotalOrder R) (same : IsAntisymmetric R) where
  pub from_entries-insert_entry : (es : List (K × X)) (k : K) (v : X) → from_entries {R = R} (insert_entry R es k v) ≡ insert (from_entries es) k v
  from_entries-insert_entry es k v =
      same_map o same _ _ (λ q.
      get-from_entries o _ q ∙ ap (find R q) (put-insert_entry R k v es) ∙ find-put R o q k v es
      ∙ ap (cond (eq_by_cmp R q k) (Some v)) (sym (get-from_entries o es q)) ∙ sym (get-insert o (from_entries es) k v q))

  held : (es : List (K × X)) (k : K) → contains_key (from_entries {R = R} es) k ≡ is_some (lookup (is_at (R k)) es)
  held es k = ap is_some (get-from_entries o es k ∙ sym (lookup-find R k es))

  -- a key that isn't there
  pub with_new-insert_entry : (es entries : List (K × X)) (k : K) (v : X) → is_some (lookup (is_at (R k)) es) ≡ false → entries ≡ insert_entry R es k v →
      from_entries {R = R} entries ≡ with_new (from_entries es) k v
  with_new-insert_entry es entries k v none is =
      ap from_entries is ∙ from_entries-insert_entry es k v ∙
      ap (λ (b : Bool). cond b (from_entries {R = R} es) (insert (from_entries es) k v)) (sym (held es k ∙ none))

  -- a key that is there
  pub with_new-same : (es : List (K × X)) (k : K) (v : X) → is_some (lookup (is_at (R k)) es) ≡ true → from_entries {R = R} es ≡ with_new (from_entries es) k v
  with_new-same es k v there = ap (λ (b : Bool). cond b (from_entries {R = R} es) (insert (from_entries es) k v)) (sym (held es k ∙ there))

-- the node that a look-up finds
pub get-nodes_in : (n : ℕ) (es : List (ℕ × Node)) → lookup (is_at (nat_cmp n)) es ≡ get (nodes_in es) n
get-nodes_in n es = lookup-find nat_cmp n es ∙ sym (get-from_entries nat_cmp_total es n)

module _ {Z : Type 0} where
  by_bytes-insert_entry : (es : List (Vec ℕ Z × ℕ)) (k : Vec ℕ Z) (v : ℕ) →
      by_bytes (insert_entry (λ x y. slice_cmp nat_cmp x.items y.items) es k v) ≡ insert_entry (slice_cmp nat_cmp) (by_bytes es) k.items v
  by_bytes-insert_entry [] k v = refl
  by_bytes-insert_entry (e ∷ es) k v =
      elim (slice_cmp nat_cmp k.items e.0.items) as (λ r. slice_cmp nat_cmp k.items e.0.items ≡ r →
      by_bytes (insert_entry (λ x y. slice_cmp nat_cmp x.items y.items) (e ∷ es) k v) ≡ insert_entry (slice_cmp nat_cmp) (by_bytes (e ∷ es)) k.items v) [
        | Less ↦ λ p. rw p refl
        | Equal ↦ λ p. rw p refl
        | Greater ↦ λ p. rw p (ap (λ (r : List (List ℕ × ℕ)). (e.0.items, e.1) ∷ r) (by_bytes-insert_entry es k v))
      ] refl

  lookup-by_bytes : (name : List ℕ) (es : List (Vec ℕ Z × ℕ)) →
      lookup (is_at (λ (k : Vec ℕ Z). slice_cmp nat_cmp name k.items)) es ≡ lookup (is_at (slice_cmp nat_cmp name)) (by_bytes es)
  lookup-by_bytes name [] = refl
  lookup-by_bytes name (e ∷ es) = ap (cond (is_eq (slice_cmp nat_cmp name e.0.items)) (Some e.1)) (lookup-by_bytes name es)

  -- the subprogram that a look-up by name finds
  pub get-subprograms_in : (name : List ℕ) (es : List (Vec ℕ Z × ℕ)) →
      lookup (is_at (λ (k : Vec ℕ Z). slice_cmp nat_cmp name k.items)) es ≡ get (subprograms_in es) name
  get-subprograms_in name es = lookup-by_bytes name es ∙ lookup-find (slice_cmp nat_cmp) name (by_bytes es)
      ∙ sym (get-from_entries nat_list_cmp_total (by_bytes es) name)

  -- a node whose number isn't there
  pub node-new : (m : Maps) (es entries : List (ℕ × Node)) (subs : List (Vec ℕ Z × ℕ)) (n : ℕ) (node : Node) → seen es subs ≡ m →
      false ≡ is_some (lookup (is_at (nat_cmp n)) es) → entries ≡ insert_entry nat_cmp es n node
      → seen entries subs ≡ with_node m n node
  node-new m es entries subs n node same none is =
      ap (λ (f : FinMap nat_cmp Node). record { nodes = f; subprograms = subprograms_in subs })
      (with_new-insert_entry nat_cmp_total nat_cmp-IsAntisymmetric es entries n node (sym none) is)
      ∙ ap (λ (x : Maps). with_node x n node) same

  -- a node whose number is there
  pub node-same : (m : Maps) (es : List (ℕ × Node)) (subs : List (Vec ℕ Z × ℕ)) (n : ℕ) (node : Node) → seen es subs ≡ m →
      true ≡ is_some (lookup (is_at (nat_cmp n)) es) → m ≡ with_node m n node
  node-same m es subs n node same there =
      sym same ∙ ap (λ (f : FinMap nat_cmp Node). record { nodes = f; subprograms = subprograms_in subs })
      (with_new-same nat_cmp_total nat_cmp-IsAntisymmetric es n node (sym there))
      ∙ ap (λ (x : Maps). with_node x n node) same

  -- a name that isn't there
  pub subprogram-new : (m : Maps) (nodes : List (ℕ × Node)) (es entries : List (Vec ℕ Z × ℕ)) (k : Vec ℕ Z) (name : List ℕ) (v : ℕ) → seen nodes es ≡ m →
      k.items ≡ name
      → false ≡ is_some (lookup (is_at (λ (x : Vec ℕ Z). slice_cmp nat_cmp name x.items)) es) →
      entries ≡ insert_entry (λ x y. slice_cmp nat_cmp x.items y.items) es k v
      → seen nodes entries ≡ with_subprogram m name v
  subprogram-new m nodes es entries k name v same spelled none is =
      ap (λ (f : FinMap (slice_cmp nat_cmp) ℕ). record { nodes = nodes_in nodes; subprograms = f })
      (with_new-insert_entry nat_list_cmp_total (slice_cmp-IsAntisymmetric nat_cmp-IsAntisymmetric) (by_bytes es) (by_bytes entries) name v
      (ap is_some (sym (lookup-by_bytes name es)) ∙ sym none)
      (ap by_bytes is ∙ by_bytes-insert_entry es k v ∙ ap (λ (b : List ℕ). insert_entry (slice_cmp nat_cmp) (by_bytes es) b v) spelled))
      ∙ ap (λ (x : Maps). with_subprogram x name v) same

  -- a name that is there
  pub subprogram-same : (m : Maps) (nodes : List (ℕ × Node)) (es : List (Vec ℕ Z × ℕ)) (name : List ℕ) (v : ℕ) → seen nodes es ≡ m
      → true ≡ is_some (lookup (is_at (λ (x : Vec ℕ Z). slice_cmp nat_cmp name x.items)) es) → m ≡ with_subprogram m name v
  subprogram-same m nodes es name v same there =
      sym same ∙ ap (λ (f : FinMap (slice_cmp nat_cmp) ℕ). record { nodes = nodes_in nodes; subprograms = f })
      (with_new-same nat_list_cmp_total (slice_cmp-IsAntisymmetric nat_cmp-IsAntisymmetric) (by_bytes es) name v
      (ap is_some (sym (lookup-by_bytes name es)) ∙ sym there))
      ∙ ap (λ (x : Maps). with_subprogram x name v) same
