-- The nodes that are DILexicalBlockFile, as far as nodes were walked.
use Rattle.std.proofs.Common.{◌≡◌, ℕ, Bool, true, false, ◌&&◌, ◌||◌, cond, eqb, List, [], ◌∷◌, ◌++◌, refl, sym, ap, ◌∙◌}
use Rattle.std.proofs.Common.{Option, Some, None}
use Rattle.std.specs.Prelude.{is_some}
use Rattle.std.specs.List.{list_any}
use Rattle.std.specs.Option.{option_and_then}
use Rattle.std.specs.Ordering.{nat_cmp, eq_by_cmp}
use Rattle.std.specs.BTreeMap.{is_at}
use Rattle.std.specs.BTreeSet.{BTreeSet, contains}
use Rattle.std.specs.FinMap.{contains_key-keys}
use Rattle.std.proofs.lemmas.Bool.{eqb-true}
use Rattle.std.proofs.lemmas.List.Folds.{list_any-append}
use Rattle.read_debug_nodes.specs.declared.node.DebugNode.{DebugNode}
use Rattle.read_debug_nodes.specs.Maps.{DebugMaps, numbers_of}
use Rattle.read_debug_nodes.specs.Metadata.{node_at}
use Rattle.scope_variables.specs.Nodes.{as_file_block, is_file_block}
use Rattle.scope_variables.proofs.Keys.{same_key, same_key_back}

-- a number is among others
abbrev pub is_among : (q : ℕ) → List ℕ → Bool
is_among q ns = list_any (λ (k : ℕ). eqb k q) ns

abbrev pub AreFilesOf : DebugMaps → (walked : List ℕ) → BTreeSet ℕ → Type 0
AreFilesOf debug ns files = (q : ℕ) → contains nat_cmp files q ≡ (is_among q ns && is_file_block debug q)

other : (a f e : Bool) → (e ≡ true → f ≡ false) → (a && f) ≡ ((a || (e || false)) && f)
other true f e h = refl
other false f true h = sym (h refl)
other false f false h = refl

one : (a f e : Bool) → (e ≡ true → f ≡ true) → cond e true (a && f) ≡ ((a || (e || false)) && f)
one true f true h = sym (h refl)
one true f false h = refl
one false f true h = sym (h refl)
one false f false h = refl

pub whole : (a f : Bool) → (f ≡ true → a ≡ true) → (a && f) ≡ f
whole a true h = ap (λ (b : Bool). b && true) (h refl)
whole true false h = refl
whole false false h = refl

longer : (q k : ℕ) (ns more : List ℕ) → more ≡ ns ++ k ∷ [] → is_among q more ≡ (is_among q ns || (eqb k q || false))
longer q k ns more e = ap (is_among q) e ∙ list_any-append (λ (n : ℕ). eqb n q) ns (k ∷ [])

-- a node that is none
pub other_more : (debug : DebugMaps) (ns more : List ℕ) (k : ℕ) (files : BTreeSet ℕ) → AreFilesOf debug ns files → is_file_block debug k ≡ false
    → more ≡ ns ++ k ∷ [] → AreFilesOf debug more files
other_more debug ns more k files are lacks e = λ q.
    are q
    ∙ other (is_among q ns) (is_file_block debug q) (eqb k q) (λ same. ap (is_file_block debug) (sym (eqb-true k q same)) ∙ lacks)
    ∙ ap (λ (b : Bool). b && is_file_block debug q) (sym (longer q k ns more e))

-- a node that is one
pub file_more : (debug : DebugMaps) (ns more : List ℕ) (k : ℕ) (files new : BTreeSet ℕ) → AreFilesOf debug ns files → is_file_block debug k ≡ true
    → ((q : ℕ) → contains nat_cmp new q ≡ cond (is_at (nat_cmp k) q) true (contains nat_cmp files q)) → more ≡ ns ++ k ∷ [] → AreFilesOf debug more new
file_more debug ns more k files new are has updates e = λ q.
    updates q
    ∙ (λ i. cond (same_key k q i) true (are q i))
    ∙ one (is_among q ns) (is_file_block debug q) (eqb k q) (λ same. ap (is_file_block debug) (sym (eqb-true k q same)) ∙ has)
    ∙ ap (λ (b : Bool). b && is_file_block debug q) (sym (longer q k ns more e))

there : (o : Option DebugNode) → is_some (option_and_then as_file_block o) ≡ true → is_some o ≡ true
there None is = is
there (Some node) is = refl

same_among : (q : ℕ) (ks : List ℕ) → list_any (eq_by_cmp nat_cmp q) ks ≡ is_among q ks
same_among q [] = refl
same_among q (k ∷ ks) = λ i. same_key_back q k i || same_among q ks i

-- a node is among all
pub known_among : (debug : DebugMaps) (q : ℕ) → is_some (node_at debug q) ≡ true → is_among q (numbers_of debug) ≡ true
known_among debug q is = sym (same_among q (numbers_of debug)) ∙ sym (contains_key-keys debug.nodes q) ∙ is

-- of all nodes
pub all_files : (debug : DebugMaps) (files : BTreeSet ℕ) → AreFilesOf debug (numbers_of debug) files
    → (q : ℕ) → contains nat_cmp files q ≡ is_file_block debug q
all_files debug files are q =
    are q
    ∙ whole (is_among q (numbers_of debug)) (is_file_block debug q)
    (λ is. known_among debug q (there (node_at debug q) is))
