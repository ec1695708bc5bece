-- The debug locations of positions: of an item from those behind it.
-- Plan: an item at an index is the head of what is left from there, so its location is by its kind its own or that of the next index.
use Rattle.std.proofs.Common.{◌≡◌, ℕ, suc, ◌+◌, ◌≤◌, ◌<◌, ◌-◌, List, [], ◌∷◌, length, drop, get_or, refl, sym, ◌∙◌, ap, arith, drop-cons, replicate, inl, inr}
use Rattle.std.proofs.lemmas.Bool.{cases_lt, ne_eqb, eq-eqb}
use Rattle.std.proofs.lemmas.List.{get_or-set_other, get_or-replicate, get_or_past, get_or_default, length-replicate, drop_all}
use Rattle.std.proofs.lemmas.Grind.{get_or-set_at}
use Rattle.std.proofs.Common.{Ordering, Less, Equal, Greater, Bool, true, false, cond, eqb, Some, Vec}
use Rattle.std.specs.Prelude.{slice_set, Option}
use Rattle.std.specs.Ordering.{nat_cmp, is_eq, MatchOrdering}
use Rattle.std.specs.BTreeMap.{BTreeMap, get, is_at}
use Rattle.std.specs.Map.{lookup}
use Rattle.std.proofs.lemmas.Cmp.{ranked}
use Rattle.mir_func.specs.declared.block.Block.{Block}
use Rattle.mir_func.specs.declared.position.Pos.{Pos}
use Rattle.mir_func.specs.declared.item.Item.{Item}
use Rattle.mir_func.specs.declared.location.Loc.{Loc}
use Rattle.mir_func.specs.declared.location.Loc.TheVariants.{Absent}
use Rattle.dwarf_line_table.proofs.Split.{split_at}
use Rattle.dwarf_line_table.specs.SourcePosition.{first_loc, loc_if_code, loc_of}
use Rattle.dwarf_line_table.specs.steps.DebugLocations.{loc_at, loc_among, AreLocs}

absent_at : (n k : ℕ) → loc_at (replicate n Absent) k ≡ Absent
absent_at n k = elim (cases_lt k n) [
  | inl within ↦ get_or-replicate n k Absent Absent within
  | inr past ↦ get_or_past (replicate n Absent) k Absent
      (rw length-replicate past)
]

pub first_at : (items : List Item) (i : ℕ) (item : Item) (next : Loc) → i < length items → item ≡ get_or items i item → next ≡ first_loc (drop (i + 1) items)
    → loc_if_code item.kind item.loc next ≡ first_loc (drop i items)
first_at items i item next inside here behind =
    let split : drop i items ≡ item ∷ drop (i + 1) items = split_at items i item inside here in
    ap (λ l. loc_if_code item.kind item.loc l) behind ∙ ap first_loc (sym split)

pub found_next : (items : List Item) (locs : List Loc) (index : ℕ) (v : Loc) → 0 < index → index ≤ length items → length locs ≡ suc (length items)
    → v ≡ first_loc (drop (index - 1) items) → ((k : ℕ) → index ≤ k → loc_at locs k ≡ first_loc (drop k items))
    → (k : ℕ) → index - 1 ≤ k → loc_at (slice_set locs (index - 1) v) k ≡ first_loc (drop k items)
found_next items locs index v positive within long e before k from =
    elim (cases_lt (index - 1) k) [
      | inl above ↦ get_or-set_other locs (index - 1) k v Absent (λ same. let s : k ≡ index - 1 = same in omega (arith, s)) ∙ before k (omega arith)
      | inr at ↦
          let here : k ≡ index - 1 = omega arith in
          get_or-set_at locs (index - 1) k v Absent here (omega arith) ∙ e ∙ ap (λ n. first_loc (drop n items)) (sym here)
    ]

pub all_absent : (items : List Item) (locs : List Loc) (n : ℕ) → locs ≡ replicate n Absent → length items + 1 ≡ n
    → (k : ℕ) → length items ≤ k → loc_at locs k ≡ first_loc (drop k items)
all_absent items locs n e few k past = ap (λ ls. loc_at ls k) e ∙ absent_at n k ∙ sym (ap first_loc (drop_all k items past))

-- what stands at an index of locations
pub next_loc : (locs : List Loc) (i : ℕ) (next other : Loc) → next ≡ get_or locs i other → i < length locs → next ≡ loc_at locs i
next_loc locs i next other e inside = e ∙ get_or_default locs i other Absent inside

by_order : (k q : ℕ) (o : Ordering) → MatchOrdering o (k < q) (k ≡ q) (q < k) → is_eq o ≡ eqb k q
by_order k q Less lt = sym (ne_eqb k q (λ e. omega (arith, lt, e)))
by_order k q Equal e = sym (eq-eqb k q e)
by_order k q Greater gt = sym (ne_eqb k q (λ e. omega (arith, gt, e)))

same_key : (k q : ℕ) → is_eq (nat_cmp k q) ≡ eqb k q
same_key k q = by_order k q (nat_cmp k q) (ranked k q (nat_cmp k q) refl)

among_cond : {Z : Type 0} (z : Bool) (v : Vec Loc Z) (o : Option (Vec Loc Z)) (k : ℕ) → loc_among (cond z (Some v) o) k ≡ cond z (loc_at v.items k)
    (loc_among o k)
among_cond true v o k = refl
among_cond false v o k = refl

-- a table of blocks' locations with those of the block before
pub places_more : {Z : Type 0} (blocks : List Block) (places new : BTreeMap ℕ (Vec Loc Z)) (i : ℕ) (b : Block) (k : ℕ) (v : Vec Loc Z) (items : List Item)
    → i < length blocks → b ≡ get_or blocks i b → k ≡ b.id → items ≡ b.items → AreLocs items v.items
    → ((q : ℕ) → get nat_cmp new q ≡ cond (is_at (nat_cmp k) q) (Some v) (get nat_cmp places q))
    → ((p : Pos) → loc_among (get nat_cmp places p.block) p.item ≡ loc_of (drop (suc i) blocks) p)
    → (p : Pos) → loc_among (get nat_cmp new p.block) p.item ≡ loc_of (drop i blocks) p
places_more blocks places new i b k v items inside here id own are updates before p =
    let split : drop i blocks ≡ b ∷ drop (suc i) blocks = drop-cons blocks i b inside ∙ ap (λ x. x ∷ drop (suc i) blocks) (sym here) in
    ap (λ o. loc_among o p.item) (updates p.block)
    ∙ among_cond (is_at (nat_cmp k) p.block) v (get nat_cmp places p.block) p.item
    ∙ ap (λ z. cond z (loc_at v.items p.item) (loc_among (get nat_cmp places p.block) p.item)) (same_key k p.block ∙ ap (λ n. eqb n p.block) id)
    ∙ (λ j. cond (eqb b.id p.block) (are p.item j) (before p j))
    ∙ ap (λ is. cond (eqb b.id p.block) (first_loc (drop p.item is)) (loc_of (drop (suc i) blocks) p)) own
    ∙ ap (λ bs. loc_of bs p) (sym split)

-- the empty table
pub places_none : {Z : Type 0} (blocks : List Block) (places : BTreeMap ℕ (Vec Loc Z)) (n : ℕ) → places.entries ≡ [] → length blocks ≤ n
    → (p : Pos) → loc_among (get nat_cmp places p.block) p.item ≡ loc_of (drop n blocks) p
places_none blocks places n empty past p =
    ap (λ es. loc_among (lookup (is_at (nat_cmp p.block)) es) p.item) empty ∙ ap (λ bs. loc_of bs p) (sym (drop_all n blocks past))
