-- Where control may go from a block: down its items, by their edges.
use Rattle.std.proofs.Common.{◌≡◌, ◌↔◌, ◌⊎◌, ℕ, zero, suc, ◌+◌, ◌<◌, Bool, cond, List, [], ◌∷◌, length, get_or, drop, Option, Some, None, refl, sym, ap, subst}
use Rattle.std.proofs.Common.{◌∙◌, inl, inr, arith}
use Rattle.std.specs.Prelude.{Contains, option_to_list}
use Rattle.std.specs.List.{slice_get}
use Rattle.std.proofs.lemmas.Bool.{eq-eqb, ne_eqb}
use Rattle.rv64_instr.specs.Row.{Row, Branches, Jumps, Returns, Unfit, row_of}
use Rattle.mir_func.specs.declared.position.Pos.{Pos}
use Rattle.mir_func.specs.declared.block.Block.{Block}
use Rattle.mir_func.specs.declared.debug_substitution.OperandPair.{OperandPair}
use Rattle.mir_func.specs.declared.item.Item.{Item}
use Rattle.mir_func.specs.declared.item.ItemKind.{ItemKind}
use Rattle.mir_func.specs.declared.item.ItemKind.TheVariants.{Code, Mark, Phi}
use Rattle.mir_func.specs.declared.exit.Exit.{Exit}
use Rattle.mir_func.specs.declared.exit.Exit.TheVariants.{Onward, Perhaps, Always, Final}
use Rattle.mir_func.specs.Sound.{AreApart, ids_of}
use Rattle.mir_func.specs.Graph.{Fetch, Here, EndOfBlock, Outside, below, block_start}
use Rattle.mir_func.specs.Graph.{end_of, front, fetch_in, from_block, program_of, RowEdge, KindEdge, FetchEdge}
use Rattle.mir_func.specs.Exits.{row_exit, exit_of}
use Rattle.mir_func.specs.Successors.{pos_in, GoesTo, ways_from, ways}

-- ---- edges down and out

abbrev pub IsDown : Exit → Type 0
IsDown Onward = Unit {0}
IsDown (Perhaps n) = Unit {0}
IsDown (Always n) = ⊥
IsDown Final = ⊥

abbrev pub IsOut : Exit → ℕ → Type 0
IsOut Onward n = ⊥
IsOut (Perhaps t) n = t ≡ n
IsOut (Always t) n = t ≡ n
IsOut Final n = ⊥

abbrev Stays : ℕ → ℕ
Stays n = n

not_start : (p : Pos) (n : ℕ) → below p ≡ block_start n → ⊥
not_start p n e = let k : p.item + 1 ≡ 0 = ap (λ (q : Pos). q.item) e in omega arith

row_down : (r : Row) (p : Pos) → RowEdge Stays r p (below p) ↔ IsDown (row_exit r)
row_down (Branches op a b t) p = (λ h. tt, λ h. inr refl)
row_down (Jumps t) p = (λ h. not_start p t h, λ h. absurd h)
row_down (Returns v) p = (λ h. h, λ h. h)
row_down Unfit p = (λ h. h, λ h. h)
row_down r p = (λ h. tt, λ h. refl)

row_out : (r : Row) (p : Pos) (n : ℕ) → RowEdge Stays r p (block_start n) ↔ IsOut (row_exit r) n
row_out (Branches op a b t) p n =
    (λ h. elim h [ inl e ↦ sym (ap (λ (q : Pos). q.block) e) | inr e ↦ absurd (not_start p n (sym e)) ], λ e. inl (ap block_start (sym e)))
row_out (Jumps t) p n = (λ e. sym (ap (λ (q : Pos). q.block) e), λ e. ap block_start (sym e))
row_out (Returns v) p n = (λ h. h, λ h. h)
row_out Unfit p n = (λ h. h, λ h. h)
row_out r p n = (λ e. not_start p n (sym e), λ h. absurd h)

kind_down : (k : ItemKind) (p : Pos) → KindEdge Stays k p (below p) ↔ IsDown (exit_of k)
kind_down (Code i k) p = row_down (row_of i) p
kind_down (Mark v m) p = (λ h. tt, λ h. refl)
kind_down (Phi x k) p = (λ h. tt, λ h. refl)

kind_out : (k : ItemKind) (p : Pos) (n : ℕ) → KindEdge Stays k p (block_start n) ↔ IsOut (exit_of k) n
kind_out (Code i k) p n = row_out (row_of i) p n
kind_out (Mark v m) p n = (λ e. not_start p n (sym e), λ h. absurd h)
kind_out (Phi x k) p n = (λ e. not_start p n (sym e), λ h. absurd h)

abbrev pub DownAt : Fetch → Type 0
DownAt (Here i) = IsDown (exit_of i.kind)
DownAt (EndOfBlock k m) = ⊥
DownAt Outside = ⊥

abbrev pub OutAt : Fetch → ℕ → Type 0
OutAt (Here i) n = IsOut (exit_of i.kind) n
OutAt (EndOfBlock k m) n = m ≡ n
OutAt Outside n = ⊥

fetch_down : (x : Fetch) (p : Pos) → FetchEdge Stays x p (below p) ↔ DownAt x
fetch_down (Here i) p = kind_down i.kind p
fetch_down (EndOfBlock k m) p = (λ h. not_start p m h, λ h. absurd h)
fetch_down Outside p = (λ h. h, λ h. h)

fetch_out : (x : Fetch) (p : Pos) (n : ℕ) → FetchEdge Stays x p (block_start n) ↔ OutAt x n
fetch_out (Here i) p n = kind_out i.kind p n
fetch_out (EndOfBlock k m) p n = (λ e. sym (ap (λ (q : Pos). q.block) e), λ e. ap block_start (sym e))
fetch_out Outside p n = (λ h. h, λ h. h)

-- ---- ways down items

pub contains_first : (m n : ℕ) (ns : List ℕ) → m ≡ n → Contains (m ∷ ns) n
contains_first m n ns e = (zero, omega arith, e)

pub contains_later : (m n : ℕ) (ns : List ℕ) → Contains ns n → Contains (m ∷ ns) n
contains_later m n ns (k, l, e) = (suc k, omega arith, e)

pub contains_cases : (m n : ℕ) (ns : List ℕ) → Contains (m ∷ ns) n → (m ≡ n) ⊎ Contains ns n
contains_cases m n ns (zero, l, e) = inl e
contains_cases m n ns (suc k, l, e) = inr (k, omega arith, e)

pub contains_none : (n : ℕ) → Contains [] n → ⊥
contains_none n (k, l, e) = omega arith

abbrev head_id : List Block → Option ℕ
head_id [] = None
head_id (b ∷ bs) = Some b.id

abbrev at_index : List Item → ℕ → List Block → ℕ → Fetch
at_index items s bs k = front (drop k items) s bs

-- control comes down these items to an index, and from there goes out
abbrev Goes : List Item → ℕ → List Block → ℕ → Type 0
Goes items s bs n = (k : ℕ) × ((j : ℕ) → j < k → DownAt (at_index items s bs j)) × OutAt (at_index items s bs k) n

end_from : (s : ℕ) (bs : List Block) (n : ℕ) → OutAt (end_of s bs) n → Contains (option_to_list (head_id bs)) n
end_from s [] n h = absurd h
end_from s (b ∷ bs) n h = contains_first b.id n [] h

end_to : (s : ℕ) (bs : List Block) (n : ℕ) → Contains (option_to_list (head_id bs)) n → OutAt (end_of s bs) n
end_to s [] n h = absurd (contains_none n h)
end_to s (b ∷ bs) n h = elim (contains_cases b.id n [] h) [ inl e ↦ e | inr c ↦ absurd (contains_none n c) ]

pub out_way : (x : Exit) (n : ℕ) (rest : List ℕ) → IsOut x n → Contains (ways_from x rest) n
out_way Onward n rest h = absurd h
out_way (Perhaps t) n rest h = contains_first t n rest h
out_way (Always t) n rest h = contains_first t n [] h
out_way Final n rest h = absurd h

pub down_way : (x : Exit) (n : ℕ) (rest : List ℕ) → IsDown x → Contains rest n → Contains (ways_from x rest) n
down_way Onward n rest d h = h
down_way (Perhaps t) n rest d h = contains_later t n rest h
down_way (Always t) n rest d h = absurd d
down_way Final n rest d h = absurd d

pub way_back : (x : Exit) (n : ℕ) (rest : List ℕ) → Contains (ways_from x rest) n → IsOut x n ⊎ (IsDown x × Contains rest n)
way_back Onward n rest h = inr (tt, h)
way_back (Perhaps t) n rest h = elim (contains_cases t n rest h) [ inl e ↦ inl e | inr c ↦ inr (tt, c) ]
way_back (Always t) n rest h = elim (contains_cases t n [] h) [ inl e ↦ inl e | inr c ↦ absurd (contains_none n c) ]
way_back Final n rest h = absurd (contains_none n h)

way_from : (items : List Item) (s : ℕ) (bs : List Block) (n : ℕ) → Goes items s bs n → Contains (ways items (head_id bs)) n
way_from [] s bs n (zero, down, out) = end_from s bs n out
way_from [] s bs n (suc k, down, out) = end_from s bs n out
way_from (i ∷ is) s bs n (zero, down, out) = out_way (exit_of i.kind) n (ways is (head_id bs)) out
way_from (i ∷ is) s bs n (suc k, down, out) =
    down_way (exit_of i.kind) n (ways is (head_id bs)) (down zero (omega arith)) (way_from is s bs n (k, λ j l. down (suc j) (omega arith), out))

past : (i : Item) (is : List Item) (s : ℕ) (bs : List Block) (n : ℕ) → IsDown (exit_of i.kind) → Goes is s bs n → Goes (i ∷ is) s bs n
past i is s bs n d (k, down, out) = (suc k, each, out) where
  each : (j : ℕ) → j < suc k → DownAt (at_index (i ∷ is) s bs j)
  each zero l = d
  each (suc j) l = down j (omega arith)

way_to : (items : List Item) (s : ℕ) (bs : List Block) (n : ℕ) → Contains (ways items (head_id bs)) n → Goes items s bs n
way_to [] s bs n h = (zero, λ j l. absurd (omega arith), end_to s bs n h)
way_to (i ∷ is) s bs n h = elim (way_back (exit_of i.kind) n (ways is (head_id bs)) h) [
  | inl o ↦ (zero, λ j l. absurd (omega arith), o)
  | inr (d, c) ↦ past i is s bs n d (way_to is s bs n c)
]

-- ---- a block of a function

id_among : (blocks : List Block) (i : ℕ) (b : Block) → slice_get blocks i ≡ Some b → slice_get (ids_of blocks) i ≡ Some b.id
id_among [] i b e = absurd cc
id_among (c ∷ cs) zero b e = let same : c ≡ b = cc in ap (λ (x : Block). Some x.id) same
id_among (c ∷ cs) (suc i) b e = id_among cs i b e

apart_tail : (n : ℕ) (ns : List ℕ) → AreApart (n ∷ ns) → AreApart ns
apart_tail n ns h i j m e f = let k : suc i ≡ suc j = h (suc i) (suc j) m e f in omega arith

from_block-at : (blocks : List Block) (i : ℕ) (b : Block) → AreApart (ids_of blocks) → slice_get blocks i ≡ Some b →
    from_block blocks b.id ≡ b ∷ drop (suc i) blocks
from_block-at [] i b h e = absurd cc
from_block-at (c ∷ cs) zero b h e =
    let same : c ≡ b = cc in
    ap (λ (z : Bool). cond z (c ∷ cs) (from_block cs b.id)) (eq-eqb c.id b.id (ap (λ (x : Block). x.id) same)) ∙ ap (λ (x : Block). x ∷ cs) same
from_block-at (c ∷ cs) (suc i) b h e =
    let other : c.id ≡ b.id → ⊥ = λ s. let k : suc i ≡ zero = h (suc i) zero b.id (id_among cs i b e) (ap (λ (n : ℕ). Some n) s) in omega arith in
    ap (λ (z : Bool). cond z (c ∷ cs) (from_block cs b.id)) (ne_eqb c.id b.id other) ∙ from_block-at cs i b (apart_tail c.id (ids_of cs) h) e

head_id-drop : (blocks : List Block) (i : ℕ) → head_id (drop i blocks) ≡ slice_get (ids_of blocks) i
head_id-drop [] zero = refl
head_id-drop [] (suc i) = refl
head_id-drop (b ∷ bs) zero = refl
head_id-drop (b ∷ bs) (suc i) = head_id-drop bs i

module _ (sp : Bool) (blocks : List Block) (resolve : OperandPair → Option OperandPair) (i : ℕ) (b : Block)
    (found : from_block blocks b.id ≡ b ∷ drop (suc i) blocks) where
  fetched : (k : ℕ) → fetch_in (from_block blocks b.id) k ≡ at_index b.items b.source_end (drop (suc i) blocks) k
  fetched k = ap (λ (bs : List Block). fetch_in bs k) found

  goes_from : (n : ℕ) → GoesTo (program_of sp blocks resolve) b.id n → Goes b.items b.source_end (drop (suc i) blocks) n
  goes_from n (k, down, out) = (
    k,
    λ j l. subst DownAt (fetched j) ((fetch_down (fetch_in (from_block blocks b.id) j) (pos_in b.id j)).0 (down j l)),
    subst (λ (x : Fetch). OutAt x n) (fetched k) ((fetch_out (fetch_in (from_block blocks b.id) k) (pos_in b.id k) n).0 out),
  )

  goes_to : (n : ℕ) → Goes b.items b.source_end (drop (suc i) blocks) n → GoesTo (program_of sp blocks resolve) b.id n
  goes_to n (k, down, out) = (
    k,
    λ j l. (fetch_down (fetch_in (from_block blocks b.id) j) (pos_in b.id j)).1 (subst DownAt (sym (fetched j)) (down j l)),
    (fetch_out (fetch_in (from_block blocks b.id) k) (pos_in b.id k) n).1 (subst (λ (x : Fetch). OutAt x n) (sym (fetched k)) out),
  )

-- the ways from a block's items are the blocks to which control may go from it
ways_are : (blocks : List Block) (i : ℕ) (b : Block) → AreApart (ids_of blocks) → slice_get blocks i ≡ Some b →
    (sp : Bool) (resolve : OperandPair → Option OperandPair) (n : ℕ) →
    Contains (ways b.items (slice_get (ids_of blocks) (suc i))) n ↔ GoesTo (program_of sp blocks resolve) b.id n
ways_are blocks i b apart e sp resolve n =
    let found = from_block-at blocks i b apart e in
    let next = head_id-drop blocks (suc i) in (
      λ h. goes_to sp blocks resolve i b found n (way_to b.items b.source_end (drop (suc i) blocks) n
          (subst (λ (o : Option ℕ). Contains (ways b.items o) n) (sym next) h)),
      λ h. subst (λ (o : Option ℕ). Contains (ways b.items o) n) next (way_from b.items b.source_end (drop (suc i) blocks) n
          (goes_from sp blocks resolve i b found n h)),
    )

get_at : (blocks : List Block) (i : ℕ) (b : Block) → i < length blocks → b ≡ get_or blocks i b → slice_get blocks i ≡ Some b
get_at [] i b l e = absurd (omega arith)
get_at (c ∷ cs) zero b l e = ap (λ (x : Block). Some x) (sym e)
get_at (c ∷ cs) (suc i) b l e = get_at cs i b (omega arith) e

id_at : (ns : List ℕ) (i n : ℕ) → slice_get ns i ≡ Some n → get_or ns i 0 ≡ n
id_at [] i n e = absurd cc
id_at (m ∷ ns) zero n e = cc
id_at (m ∷ ns) (suc i) n e = id_at ns i n e

-- the same of the numbers that were found by index
pub block_ways : (blocks : List Block) (i : ℕ) (b : Block) (next : Option ℕ) (ns : List ℕ) → AreApart (ids_of blocks) → i < length blocks →
    b ≡ get_or blocks i b →
    next ≡ slice_get (ids_of blocks) (i + 1) → ns ≡ ways b.items next →
    (sp : Bool) (resolve : OperandPair → Option OperandPair) (n : ℕ) → Contains ns n ↔ GoesTo (program_of sp blocks resolve) (get_or (ids_of blocks) i 0) n
block_ways blocks i b next ns apart l e after w sp resolve n =
    let stands = get_at blocks i b l e in
    let one : i + 1 ≡ suc i = omega arith in
    let same : ns ≡ ways b.items (slice_get (ids_of blocks) (suc i)) = w ∙ ap (ways b.items) (after ∙ ap (slice_get (ids_of blocks)) one) in
    let id : b.id ≡ get_or (ids_of blocks) i 0 = sym (id_at (ids_of blocks) i b.id (id_among blocks i b stands)) in
    subst (λ (xs : List ℕ). Contains xs n ↔ GoesTo (program_of sp blocks resolve) (get_or (ids_of blocks) i 0) n) (sym same)
    (subst (λ (m : ℕ). Contains (ways b.items (slice_get (ids_of blocks) (suc i))) n ↔ GoesTo (program_of sp blocks resolve) m n) id
    (ways_are blocks i b apart stands sp resolve n))
