-- Debug instruction numbers that are less than the next fresh one.
use Rattle.std.proofs.Common.{◌≡◌, ℕ, ◌+◌, ◌<◌, ◌≤◌, List, [], ◌∷◌, All, Some, None, Bool, true, false, cond, ◌&&◌, nat_eq, ne_eqb}
use Rattle.std.proofs.Common.{refl, ap, ◌∙◌, subst, arith}
use Rattle.std.specs.List.{flat_map}
use Rattle.std.proofs.Math.Nat.{le-max_left, le-max_right, le_trans}
use Rattle.std.proofs.lemmas.List.Elements.{All-nil, All-cons, All-head, All-tail, All-weaker}
use Rattle.mir_func.specs.declared.debug_substitution.OperandPair.{OperandPair}
use Rattle.mir_func.specs.declared.debug_substitution.DebugSubstitution.{DebugSubstitution}
use Rattle.mir_func.specs.declared.block.Block.{Block}
use Rattle.mir_func.specs.declared.item.Item.{Item}
use Rattle.mir_func.specs.declared.item.ItemKind.{ItemKind}
use Rattle.mir_func.specs.declared.item.ItemKind.TheVariants.{Code, Mark, Phi}
use Rattle.mir_func.specs.declared.variable.MarkValue.TheVariants.{Nothing, Constant, At, Pair}
use Rattle.mir_func.specs.Resolve.{is_pair, entry_of, resolve, Ends, at, by}
use Rattle.mir_func.specs.Sound.{items_of}
use Rattle.pass_salvage.specs.pass_trait.Sizes.{greatest, numbers_of}
use Rattle.pass_salvage.proofs.mir_substitution.Chains.{resolve_ends}
use Rattle.pass_edits.proofs.Numbers.{IsUnlike, all_first, all_second}

-- the numbers of an item, and of a substitution
abbrev pub KindUnder : ℕ → ItemKind → Type 0
KindUnder b (Code i (Some m)) = m < b
KindUnder b (Code i None) = Unit {0}
KindUnder b (Mark v (Pair q)) = q.number < b
KindUnder b (Mark v Nothing) = Unit {0}
KindUnder b (Mark v (Constant n)) = Unit {0}
KindUnder b (Mark v (At r)) = Unit {0}
KindUnder b (Phi p m) = m < b

abbrev pub AreUnder : ℕ → List Item → Type 0
AreUnder b xs = All (λ (x : Item). KindUnder b x.kind) xs

abbrev pub BlocksUnder : ℕ → List Block → Type 0
BlocksUnder b bs = All (λ (c : Block). All (λ (x : Item). KindUnder b x.kind) c.items) bs

abbrev pub EntryUnder : ℕ → DebugSubstitution → Type 0
EntryUnder b e = (e.src.number < b) × (e.dst.number < b)

-- ---- a greater bound

kind_more : (b c : ℕ) → b ≤ c → (k : ItemKind) → KindUnder b k → KindUnder c k
kind_more b c le (Code i (Some m)) h = omega (arith, le, h)
kind_more b c le (Code i None) h = tt
kind_more b c le (Mark v (Pair q)) h = omega (arith, le, h)
kind_more b c le (Mark v Nothing) h = tt
kind_more b c le (Mark v (Constant n)) h = tt
kind_more b c le (Mark v (At r)) h = tt
kind_more b c le (Phi p m) h = omega (arith, le, h)

pub items_more : (b c : ℕ) → b ≤ c → (xs : List Item) → AreUnder b xs → AreUnder c xs
items_more b c le xs h = All-weaker (λ (x : Item). KindUnder b x.kind) (λ (x : Item). KindUnder c x.kind) (λ x. kind_more b c le x.kind) xs h

pub blocks_more : (b c : ℕ) → b ≤ c → (bs : List Block) → BlocksUnder b bs → BlocksUnder c bs
blocks_more b c le bs h =
    All-weaker (λ (a : Block). All (λ (x : Item). KindUnder b x.kind) a.items) (λ (a : Block). All (λ (x : Item). KindUnder c x.kind) a.items)
    (λ a k. items_more b c le a.items k) bs h

pub entries_more : (b c : ℕ) → b ≤ c → (subs : List DebugSubstitution) → All (EntryUnder b) subs → All (EntryUnder c) subs
entries_more b c le subs h =
    All-weaker (EntryUnder b) (EntryUnder c) (λ e k. (let x = k.0 in omega (arith, le, x), let y = k.1 in omega (arith, le, y))) subs h

-- ---- what isn't less isn't there

pub under_unlike : (b n : ℕ) → b ≤ n → (k : ItemKind) → KindUnder b k → IsUnlike n k
under_unlike b n le (Code i (Some m)) h j e same = let w : m ≡ j = cc in omega (arith, le, h, w, same)
under_unlike b n le (Code i None) h j e same = cc
under_unlike b n le (Mark v q) h j e same = cc
under_unlike b n le (Phi p m) h j e same = let w : m ≡ j = cc in omega (arith, le, h, w, same)

pub no_entry : (b n o : ℕ) → b ≤ n → (subs : List DebugSubstitution) → All (EntryUnder b) subs → entry_of subs (record { number = n; operand = o }) ≡ None
no_entry b n o le [] h = refl
no_entry b n o le (e ∷ es) h =
    let lt = (All-head (EntryUnder b) e es h).0 in
    let far : nat_eq e.src.number n ≡ false = ne_eqb e.src.number n (λ same. omega (arith, le, lt, same)) in
    ap (λ (z : Bool). cond (z && nat_eq e.src.operand o) (Some e) (entry_of es (record { number = n; operand = o }))) far ∙
    no_entry b n o le es (All-tail (EntryUnder b) e es h)

entry_under : (b : ℕ) (subs : List DebugSubstitution) (q : OperandPair) (e : DebugSubstitution) → All (EntryUnder b) subs → entry_of subs q ≡ Some e →
    EntryUnder b e
entry_under b [] q e h is = cc
entry_under b (x ∷ xs) q e h is = by_test (is_pair x.src q) is (entry_under b xs q e (All-tail (EntryUnder b) x xs h)) where
  by_test : (z : Bool) → cond z (Some x) (entry_of xs q) ≡ Some e → (entry_of xs q ≡ Some e → EntryUnder b e) → EntryUnder b e
  by_test true w rec = let same : x ≡ e = cc in subst (EntryUnder b) same (All-head (EntryUnder b) x xs h)
  by_test false w rec = rec w

ends_under : (b : ℕ) (subs : List DebugSubstitution) (q r : OperandPair) → All (EntryUnder b) subs → Ends subs q r → q.number < b → r.number < b
ends_under b subs q r h (at none) lt = lt
ends_under b subs q r h (by e has whole rest) lt = ends_under b subs e.dst r h rest (entry_under b subs q e h has).1

pub resolve_under : (b : ℕ) (subs : List DebugSubstitution) (q r : OperandPair) → All (EntryUnder b) subs → q.number < b → resolve subs q ≡ Some r →
    r.number < b
resolve_under b subs q r h lt is = ends_under b subs q r h (resolve_ends subs q r is) lt

-- ---- from the greatest number

pub greatest_under : (m : ℕ) (ns : List ℕ) → greatest ns ≤ m → All (λ (n : ℕ). n < m + 1) ns
greatest_under m [] h = All-nil (λ (n : ℕ). n < m + 1)
greatest_under m (n ∷ ns) h =
    let one : n ≤ m = le_trans (le-max_left n (greatest ns)) h in
    All-cons (λ (k : ℕ). k < m + 1) n ns (omega (arith, one)) (greatest_under m ns (le_trans (le-max_right n (greatest ns)) h))

kind_of : (b : ℕ) (k : ItemKind) → All (λ (n : ℕ). n < b) (numbers_of k) → KindUnder b k
kind_of b (Code i (Some m)) h = All-head (λ (n : ℕ). n < b) m [] h
kind_of b (Code i None) h = tt
kind_of b (Mark v (Pair q)) h = All-head (λ (n : ℕ). n < b) q.number [] h
kind_of b (Mark v Nothing) h = tt
kind_of b (Mark v (Constant n)) h = tt
kind_of b (Mark v (At r)) h = tt
kind_of b (Phi p m) h = All-head (λ (n : ℕ). n < b) m [] h

pub items_under : (b : ℕ) (xs : List Item) → All (λ (n : ℕ). n < b) (flat_map (λ (i : Item). numbers_of i.kind) xs) → AreUnder b xs
items_under b [] h = All-nil (λ (x : Item). KindUnder b x.kind)
items_under b (x ∷ xs) h =
    let more : List ℕ = flat_map (λ (i : Item). numbers_of i.kind) xs in
    All-cons (λ (y : Item). KindUnder b y.kind) x xs (kind_of b x.kind (all_first (λ (n : ℕ). n < b) (numbers_of x.kind) more h))
    (items_under b xs (all_second (λ (n : ℕ). n < b) (numbers_of x.kind) more h))

pub blocks_under : (b : ℕ) (bs : List Block) → AreUnder b (items_of bs) → BlocksUnder b bs
blocks_under b [] h = All-nil (λ (c : Block). All (λ (x : Item). KindUnder b x.kind) c.items)
blocks_under b (c ∷ bs) h =
    All-cons (λ (a : Block). All (λ (x : Item). KindUnder b x.kind) a.items) c bs
    (all_first (λ (x : Item). KindUnder b x.kind) c.items (items_of bs) h)
    (blocks_under b bs (all_second (λ (x : Item). KindUnder b x.kind) c.items (items_of bs) h))

pub entries_under : (b : ℕ) (subs : List DebugSubstitution) →
    All (λ (n : ℕ). n < b) (flat_map (λ (e : DebugSubstitution). e.src.number ∷ e.dst.number ∷ []) subs) →
    All (EntryUnder b) subs
entries_under b [] h = All-nil (EntryUnder b)
entries_under b (e ∷ es) h =
    let more : List ℕ = flat_map (λ (x : DebugSubstitution). x.src.number ∷ x.dst.number ∷ []) es in
    let later = All-tail (λ (n : ℕ). n < b) e.src.number (e.dst.number ∷ more) h in
    All-cons (EntryUnder b) e es (All-head (λ (n : ℕ). n < b) e.src.number (e.dst.number ∷ more) h, All-head (λ (n : ℕ). n < b) e.dst.number more later)
    (entries_under b es (All-tail (λ (n : ℕ). n < b) e.dst.number more later))
