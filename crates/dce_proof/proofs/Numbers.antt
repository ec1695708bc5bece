-- The greatest number, where all are less than the next fresh one.
use Rattle.std.proofs.Common.{ℕ, ◌+◌, ◌<◌, ◌≤◌, List, [], ◌∷◌, max, All, Some, None, arith}
use Rattle.std.specs.List.{flat_map}
use Rattle.std.proofs.Math.Nat.{max-le}
use Rattle.std.proofs.lemmas.List.Elements.{All-nil, All-cons, All-append, All-head, All-tail}
use Rattle.mir_func.specs.declared.block.Block.{Block}
use Rattle.mir_func.specs.declared.debug_substitution.DebugSubstitution.{DebugSubstitution}
use Rattle.mir_func.specs.declared.item.Item.{Item}
use Rattle.mir_func.specs.declared.item.ItemKind.{ItemKind}
use Rattle.mir_func.specs.declared.item.ItemKind.TheVariants.{Code, Mark, Phi}
use Rattle.mir_func.specs.declared.variable.MarkValue.TheVariants.{Nothing, Constant, At, Pair}
use Rattle.mir_func.specs.Sound.{items_of}
use Rattle.pass_trait.specs.Sizes.{greatest, numbers_of, numbers_in}
use Rattle.dce_round.proofs.pass_edits.Under.{KindUnder, AreUnder, BlocksUnder, EntryUnder}

greatest_most : (m : ℕ) (ns : List ℕ) → All (λ (n : ℕ). n < m + 1) ns → greatest ns ≤ m
greatest_most m [] h = omega arith
greatest_most m (n ∷ ns) h =
    let lt = All-head (λ (k : ℕ). k < m + 1) n ns h in
    max-le (omega (arith, lt)) (greatest_most m ns (All-tail (λ (k : ℕ). k < m + 1) n ns h))

kind_numbers : (b : ℕ) (k : ItemKind) → KindUnder b k → All (λ (n : ℕ). n < b) (numbers_of k)
kind_numbers b (Code i (Some m)) h = All-cons (λ (n : ℕ). n < b) m [] h (All-nil (λ (n : ℕ). n < b))
kind_numbers b (Code i None) h = All-nil (λ (n : ℕ). n < b)
kind_numbers b (Mark v (Pair q)) h = All-cons (λ (n : ℕ). n < b) q.number [] h (All-nil (λ (n : ℕ). n < b))
kind_numbers b (Mark v Nothing) h = All-nil (λ (n : ℕ). n < b)
kind_numbers b (Mark v (Constant n)) h = All-nil (λ (n : ℕ). n < b)
kind_numbers b (Mark v (At r)) h = All-nil (λ (n : ℕ). n < b)
kind_numbers b (Phi p m) h = All-cons (λ (n : ℕ). n < b) m [] h (All-nil (λ (n : ℕ). n < b))

items_numbers : (b : ℕ) (xs : List Item) → AreUnder b xs → All (λ (n : ℕ). n < b) (flat_map (λ (i : Item). numbers_of i.kind) xs)
items_numbers b [] h = All-nil (λ (n : ℕ). n < b)
items_numbers b (x ∷ xs) h =
    All-append (λ (n : ℕ). n < b) (numbers_of x.kind) (flat_map (λ (i : Item). numbers_of i.kind) xs)
    (kind_numbers b x.kind (All-head (λ (y : Item). KindUnder b y.kind) x xs h)) (items_numbers b xs (All-tail (λ (y : Item). KindUnder b y.kind) x xs h))

all_items : (b : ℕ) (bs : List Block) → BlocksUnder b bs → AreUnder b (items_of bs)
all_items b [] h = All-nil (λ (y : Item). KindUnder b y.kind)
all_items b (c ∷ bs) h =
    All-append (λ (y : Item). KindUnder b y.kind) c.items (items_of bs) (All-head (λ (a : Block). All (λ (y : Item). KindUnder b y.kind) a.items) c bs h)
    (all_items b bs (All-tail (λ (a : Block). All (λ (y : Item). KindUnder b y.kind) a.items) c bs h))

entries_numbers : (b : ℕ) (es : List DebugSubstitution) → All (EntryUnder b) es →
    All (λ (n : ℕ). n < b) (flat_map (λ (e : DebugSubstitution). e.src.number ∷ e.dst.number ∷ []) es)
entries_numbers b [] h = All-nil (λ (n : ℕ). n < b)
entries_numbers b (e ∷ es) h =
    let here = All-head (EntryUnder b) e es h in
    let more : List ℕ = flat_map (λ (x : DebugSubstitution). x.src.number ∷ x.dst.number ∷ []) es in
    All-cons (λ (n : ℕ). n < b) e.src.number (e.dst.number ∷ more) here.0
    (All-cons (λ (n : ℕ). n < b) e.dst.number more here.1 (entries_numbers b es (All-tail (EntryUnder b) e es h)))

pub greatest_less : (m : ℕ) (bs : List Block) (es : List DebugSubstitution) → BlocksUnder (m + 1) bs → All (EntryUnder (m + 1)) es →
    greatest (numbers_in bs es) ≤ m
greatest_less m bs es hb he =
    greatest_most m (numbers_in bs es)
    (All-append (λ (n : ℕ). n < m + 1) (flat_map (λ (i : Item). numbers_of i.kind) (items_of bs))
    (flat_map (λ (e : DebugSubstitution). e.src.number ∷ e.dst.number ∷ []) es) (items_numbers (m + 1) (items_of bs) (all_items (m + 1) bs hb))
    (entries_numbers (m + 1) es he))
