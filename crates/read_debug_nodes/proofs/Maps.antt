-- Ordered maps, seen as finite maps of their entries.
use Rattle.std.proofs.Common.{Ordering, Less, ◌≡◌, ℕ, ◌+◌, ◌<◌, ◌≤◌, Bool, true, false, ◌&&◌, cond, List, [], ◌∷◌, length, get_or, drop, map, sym, ap, subst}
use Rattle.std.proofs.Common.{◌∙◌}
use Rattle.std.specs.Prelude.{is_some, T}
use Rattle.std.specs.Ordering.{nat_cmp, is_lt}
use Rattle.std.specs.Cmp.{nat_cmp_total}
use Rattle.std.specs.Map.{lookup}
use Rattle.std.specs.BTreeMap.{insert_entry, is_at}
use Rattle.std.specs.List.{AllByRecursion}
use Rattle.std.specs.List.Sorted.{IsStrictlySortedBy}
use Rattle.std.specs.FinMap.{FinMap, nat_cmp-IsAntisymmetric, from_entries, from_sorted, insert, get, entries, keys, is_sorted}
use Rattle.std.specs.FinMap.{get-from_entries, get-from_sorted, entries-from_sorted, same_map}
use Rattle.std.specs.FinMap.Entries.{below_all}
use Rattle.std.proofs.lemmas.List.{drop_more, drop_all}
use Rattle.read_metadata.specs.read_lexer.declared.line.Line.{Line}
use Rattle.read_metadata.proofs.MapLemmas.{lookup-find, from_entries-insert_entry}
use Rattle.read_debug_nodes.specs.declared.node.DebugNode.{DebugNode}
use Rattle.read_debug_nodes.specs.Maps.{DebugMaps, seen, with_node}
use Rattle.read_debug_nodes.specs.Metadata.{language_behind, with_line, with_lines, debug_metadata}

-- the node that a look-up finds
pub get_seen : (n : ℕ) (es : List (ℕ × DebugNode)) → lookup (is_at (nat_cmp n)) es ≡ get (from_entries {R = nat_cmp} es) n
get_seen n es = lookup-find nat_cmp n es ∙ sym (get-from_entries nat_cmp_total es n)

module _ (m : DebugMaps) (es : List (ℕ × DebugNode)) (before n : ℕ) (node : DebugNode) (same : seen es before ≡ m) where
  -- the metadata behind the node, whatever the language
  abbrev kept : (code : ℕ) → Bool → DebugMaps
  kept code taken = cond taken (seen es before) (record { nodes = insert (from_entries es) n node; language = code })

  by_number : (taken : Bool) → taken ≡ is_some (lookup (is_at (nat_cmp n)) es)
      → kept (language_behind before node) taken ≡ with_node m n node (language_behind m.language node)
  by_number taken is =
      ap (kept (language_behind before node)) (is ∙ ap is_some (get_seen n es))
      ∙ ap (λ (x : DebugMaps). with_node x n node (language_behind x.language node)) same

  -- a node whose number isn't there
  pub node_new : (more : List (ℕ × DebugNode)) (code : ℕ) → false ≡ is_some (lookup (is_at (nat_cmp n)) es) → more ≡ insert_entry nat_cmp es n node
      → code ≡ language_behind before node → seen more code ≡ with_node m n node (language_behind m.language node)
  node_new more code none is language =
      ap (λ (f : FinMap nat_cmp DebugNode). record { nodes = f; language = code })
      (ap from_entries is ∙ from_entries-insert_entry nat_cmp_total nat_cmp-IsAntisymmetric es n node)
      ∙ ap (λ (x : ℕ). kept x false) language ∙ by_number false none

  -- a node whose number is there
  pub node_same : true ≡ is_some (lookup (is_at (nat_cmp n)) es) → m ≡ with_node m n node (language_behind m.language node)
  node_same there = sym same ∙ by_number true there

-- ---- the entries of a map are those that it was made of, if their keys ascend

both : (a b : Bool) → T a → T b → T (a && b)
both true b p q = q
both false b p q = absurd p

below : (x : ℕ) (es : List (ℕ × DebugNode)) → AllByRecursion (λ (y : ℕ). nat_cmp x y ≡ Less) (map (λ (e : ℕ × DebugNode). e.0) es) → T (below_all nat_cmp x es)
below x [] all = tt
below x (e ∷ es) all = both (is_lt (nat_cmp x e.0)) (below_all nat_cmp x es) (subst (λ (r : Ordering). T (is_lt r)) (sym all.0) tt) (below x es all.1)

ascend : (es : List (ℕ × DebugNode)) → IsStrictlySortedBy nat_cmp (map (λ (e : ℕ × DebugNode). e.0) es) → T (is_sorted nat_cmp es)
unfolding IsStrictlySortedBy
ascend [] sorted = tt
ascend (e ∷ es) sorted = both (below_all nat_cmp e.0 es) (is_sorted nat_cmp es) (below e.0 es sorted.0) (ascend es sorted.1)

pub keys_seen : (es : List (ℕ × DebugNode)) → IsStrictlySortedBy nat_cmp (map (λ (e : ℕ × DebugNode). e.0) es)
    → map (λ (e : ℕ × DebugNode). e.0) es ≡ keys (from_entries {R = nat_cmp} es)
keys_seen es sorted =
    let is = ascend es sorted in
    let one : from_entries {R = nat_cmp} es ≡ from_sorted es =
    same_map nat_cmp_total nat_cmp-IsAntisymmetric _ _ (λ q. get-from_entries nat_cmp_total es q ∙ sym (get-from_sorted nat_cmp es q is)) in
    ap (λ (xs : List (ℕ × DebugNode)). map (λ (e : ℕ × DebugNode). e.0) xs) (sym (ap entries one ∙ entries-from_sorted nat_cmp es is))

-- ---- the metadata of lines grows line by line

-- the next line is taken
pub next_line : (ls items : List Line) (i : ℕ) (l : Line) (m now : DebugMaps) (text : List ℕ) → items ≡ ls → i < length items → l ≡ get_or items i l
    → text ≡ l.text → with_lines m (drop i ls) ≡ debug_metadata ls → now ≡ with_line m text → with_lines now (drop (i + 1) ls) ≡ debug_metadata ls
unfolding with_lines
next_line ls items i l m now text same lt is spelled read taken =
    let front : drop i ls ≡ l ∷ drop (i + 1) ls =
    ap (drop i) (sym same) ∙ drop_more items i l lt ∙ ap (λ (x : Line). x ∷ drop (i + 1) items) (sym is) ∙ ap (λ (r : List Line). l ∷ drop (i + 1) r) same in
    ap (λ (x : DebugMaps). with_lines x (drop (i + 1) ls)) (taken ∙ ap (with_line m) spelled) ∙ ap (with_lines m) (sym front) ∙ read

pub no_line : (ls : List Line) (i : ℕ) (m : DebugMaps) → length ls ≤ i → with_lines m (drop i ls) ≡ debug_metadata ls → m ≡ debug_metadata ls
unfolding with_lines
no_line ls i m all read = ap (with_lines m) (sym (drop_all i ls all)) ∙ read
