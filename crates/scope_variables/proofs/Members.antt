-- Which variables stand in an ordered list, and in a scope.
use Rattle.std.proofs.Common.{zero, suc, ◌<◌, length, get_or, arith, true≢false}
use Rattle.std.proofs.Common.{◌≡◌, ℕ, Bool, true, false, ◌&&◌, ◌||◌, cond, eqb, List, [], ◌∷◌, map, filter, refl, sym, ap, ◌∙◌, nat_eq}
use Rattle.std.proofs.Common.{Ordering, Less, Equal, Greater, Option, Some, None}
use Rattle.std.specs.Prelude.{Contains, is_some, ◌↔◌}
use Rattle.std.specs.List.{list_any}
use Rattle.std.specs.Option.{option_and_then, option_eq}
use Rattle.std.specs.Ordering.{nat_cmp, match_ordering}
use Rattle.std.specs.BTreeSet.{insert_key}
use Rattle.std.proofs.lemmas.Bool.{eqb-true, eq-eqb}
use Rattle.std.proofs.lemmas.Map.Lookups.{exact_pairs, exact_unsigned}
use Rattle.mir_func.specs.declared.variable.VarId.{VarId}
use Rattle.read_debug_nodes.specs.declared.node.DebugNode.{DebugNode}
use Rattle.read_debug_nodes.specs.declared.node.DebugVariable.{DebugVariable}
use Rattle.read_debug_nodes.specs.Maps.{DebugMaps, numbers_of}
use Rattle.read_debug_nodes.specs.Metadata.{node_at}
use Rattle.scope_variables.specs.declared.variable.ScopeVariable.{ScopeVariable}
use Rattle.scope_variables.specs.Nodes.{as_variable}
use Rattle.scope_variables.specs.Scope.{past, scope_of, is_in, declared_in}
use Rattle.scope_variables.specs.Order.{by_rank, in_order, key}
use Rattle.scope_variables.specs.Variables.{listed, listed_variables}
use Rattle.scope_variables.specs.Laws.{IsDeclaredIn, ScopesHaveTheirVariables}
use Rattle.scope_variables.proofs.Keys.{same_option}
use Rattle.scope_variables.proofs.FileBlocks.{is_among, known_among, whole}

-- a variable is in an ordered list
abbrev among : (q : ℕ) → List (ℕ × ℕ) → Bool
among q ks = list_any (λ (k : ℕ × ℕ). eqb k.1 q) ks

twice : (a b : Bool) → (a || b) ≡ (a || (a || b))
twice true b = refl
twice false b = refl

swapped : (a b c : Bool) → (a || (b || c)) ≡ (b || (a || c))
swapped true true c = refl
swapped true false c = refl
swapped false b c = refl

moved : (a b c : Bool) → ((a || b) || c) ≡ (b || (a || c))
moved true true c = refl
moved true false c = refl
moved false b c = refl

no_more : (a : Bool) → a ≡ (a || false)
no_more true = refl
no_more false = refl

insert_by : (q : ℕ) (k x : ℕ × ℕ) (xs : List (ℕ × ℕ)) (o : Ordering) → by_rank k x ≡ o → among q (insert_key by_rank xs k) ≡ (eqb k.1 q || among q xs)
    → among q (match_ordering o (k ∷ x ∷ xs) (x ∷ xs) (x ∷ insert_key by_rank xs k)) ≡ (eqb k.1 q || (eqb x.1 q || among q xs))
insert_by q k x xs Less e rest = refl
insert_by q k x xs Equal e rest =
    let same : k ≡ x = exact_pairs nat_cmp nat_cmp exact_unsigned exact_unsigned k x e in
    twice (eqb x.1 q) (among q xs) ∙ ap (λ (t : ℕ × ℕ). eqb t.1 q || (eqb x.1 q || among q xs)) (sym same)
insert_by q k x xs Greater e rest = ap (λ (b : Bool). eqb x.1 q || b) rest ∙ swapped (eqb x.1 q) (eqb k.1 q) (among q xs)

insert_among : (q : ℕ) (ks : List (ℕ × ℕ)) (k : ℕ × ℕ) → among q (insert_key by_rank ks k) ≡ (eqb k.1 q || among q ks)
insert_among q [] k = refl
insert_among q (x ∷ xs) k = insert_by q k x xs (by_rank k x) refl (insert_among q xs k)

in_order_among : (q : ℕ) (before ks : List (ℕ × ℕ)) → among q (in_order before ks) ≡ (among q before || among q ks)
in_order_among q before [] = no_more (among q before)
in_order_among q before (k ∷ ks) =
    in_order_among q (insert_key by_rank before k) ks
    ∙ ap (λ (b : Bool). b || among q ks) (insert_among q before k)
    ∙ moved (eqb k.1 q) (among q before) (among q ks)

keys_among : (debug : DebugMaps) (q : ℕ) (nodes : List ℕ) → among q (map (key debug) nodes) ≡ is_among q nodes
keys_among debug q [] = refl
keys_among debug q (n ∷ nodes) = ap (λ (b : Bool). eqb n q || b) (keys_among debug q nodes)

listed_among : (marked : List VarId) (at : Option ℕ) (q : ℕ) (ks : List (ℕ × ℕ))
    → is_among q (map (λ (v : ScopeVariable). v.node) (map (listed marked at) ks)) ≡ among q ks
listed_among marked at q [] = refl
listed_among marked at q (k ∷ ks) = ap (λ (b : Bool). eqb k.1 q || b) (listed_among marked at q ks)

passes : (e a f : Bool) → (e ≡ true → f ≡ true) → (e || (a && f)) ≡ ((e || a) && f)
passes true a f h = sym (h refl)
passes false a f h = refl

fails : (e a f : Bool) → (e ≡ true → f ≡ false) → (a && f) ≡ ((e || a) && f)
fails true true f h = refl
fails true false f h = sym (h refl)
fails false a f h = refl

filter_by : (p : ℕ → Bool) (q n : ℕ) (ns : List ℕ) (b : Bool) → p n ≡ b → is_among q (filter p ns) ≡ (is_among q ns && p q)
    → is_among q (cond b (n ∷ filter p ns) (filter p ns)) ≡ ((eqb n q || is_among q ns) && p q)
filter_by p q n ns true is rest =
    ap (λ (b : Bool). eqb n q || b) rest ∙ passes (eqb n q) (is_among q ns) (p q) (λ same. ap p (sym (eqb-true n q same)) ∙ is)
filter_by p q n ns false is rest = rest ∙ fails (eqb n q) (is_among q ns) (p q) (λ same. ap p (sym (eqb-true n q same)) ∙ is)

filter_among : (p : ℕ → Bool) (q : ℕ) (ns : List ℕ) → is_among q (filter p ns) ≡ (is_among q ns && p q)
filter_among p q [] = refl
filter_among p q (n ∷ ns) = filter_by p q n ns (p n) refl (filter_among p q ns)

-- a node with a scope is a node
scoped : (debug : DebugMaps) (most scope : ℕ) (o : Option DebugNode)
    → option_eq nat_eq (option_and_then (past debug most) (option_and_then (λ (v : DebugVariable). v.scope) (option_and_then as_variable o)))
    (Some scope) ≡ true
    → is_some o ≡ true
scoped debug most scope None is = is
scoped debug most scope (Some node) is = refl

declared_among : (debug : DebugMaps) (scope q : ℕ) → is_among q (declared_in debug (Some scope)) ≡ is_in debug scope q
declared_among debug scope q =
    filter_among (is_in debug scope) q (numbers_of debug)
    ∙ whole (is_among q (numbers_of debug)) (is_in debug scope q) (λ is. known_among debug q (scoped debug _ scope (node_at debug q) is))

variables_among : (debug : DebugMaps) (marked : List VarId) (at : Option ℕ) (nodes : List ℕ) (q : ℕ)
    → is_among q (map (λ (v : ScopeVariable). v.node) (listed_variables debug marked at nodes)) ≡ is_among q nodes
variables_among debug marked at nodes q =
    listed_among marked at q (in_order [] (map (key debug) nodes)) ∙ in_order_among q [] (map (key debug) nodes) ∙ keys_among debug q nodes

-- ---- in the words of lists

found_by : (n : ℕ) (ns : List ℕ) (q : ℕ) (b : Bool) → eqb n q ≡ b → (b || is_among q ns) ≡ true → (is_among q ns ≡ true → Contains ns q) → Contains (n ∷ ns) q
found_by n ns q true same is rest = (0, omega arith, eqb-true n q same)
found_by n ns q false same is rest =
    let more = rest is in
    let within = more.1 in
    (suc more.0, omega (arith, within), more.2)

found : (ns : List ℕ) (q : ℕ) → is_among q ns ≡ true → Contains ns q
found [] q is = absurd cc
found (n ∷ ns) q is = found_by n ns q (eqb n q) refl is (found ns q)

any_true : (b : Bool) → (b || true) ≡ true
any_true true = refl
any_true false = refl

back : (ns : List ℕ) (q k : ℕ) → k < length ns → get_or ns k q ≡ q → is_among q ns ≡ true
back [] q k lt e = absurd (omega (arith, lt))
back (n ∷ ns) q zero lt e = ap (λ (b : Bool). b || is_among q ns) (eq-eqb n q e)
back (n ∷ ns) q (suc k) lt e = ap (λ (b : Bool). eqb n q || b) (back ns q k (omega (arith, lt)) e) ∙ any_true (eqb n q)

module _ (debug : DebugMaps) (marked : List VarId) (at : Option ℕ) (q : ℕ) where
  abbrev nodes_of : (scope : Option ℕ) → List ℕ
  nodes_of o = map (λ (v : ScopeVariable). v.node) (listed_variables debug marked at (declared_in debug o))

  have_by : (o : Option ℕ) → Contains (nodes_of o) q ↔ IsDeclaredIn debug q o
  have_by None = (
    λ has.
        let is : false ≡ true = sym (variables_among debug marked at [] q) ∙ back (nodes_of None) q has.0 has.1 has.2 in
        absurd (true≢false (sym is)),
    λ is. absurd is,
  )
  have_by (Some scope) = (
    λ has.
        let is : is_in debug scope q ≡ true =
        sym (variables_among debug marked at (declared_in debug (Some scope)) q ∙ declared_among debug scope q)
        ∙ back (nodes_of (Some scope)) q has.0 has.1 has.2 in
        same_option (scope_of debug q) (Some scope) is,
    λ is.
        found (nodes_of (Some scope)) q
        (variables_among debug marked at (declared_in debug (Some scope)) q ∙ declared_among debug scope q
        ∙ ap (λ (o : Option ℕ). option_eq nat_eq o (Some scope)) is ∙ eq-eqb scope scope refl),
  )

pub have_their_variables : ScopesHaveTheirVariables
have_their_variables debug marked s node = have_by debug marked s.inlined_at node s.node
