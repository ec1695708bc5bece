-- With a slot store at a block's end goes other code still, after copies went: where that was a copy that goes, the copy stands above it
-- that made its root, and counts.
use Rattle.std.proofs.Common.{◌≡◌, ◌⊎◌, inl, inr, ℕ, zero, suc, ◌+◌, ◌<◌, List, [], ◌∷◌, ◌++◌, map, drop, All, Contains, Option, Some, None, Bool}
use Rattle.std.proofs.Common.{true, false, cond, nat_eq, is_some, slice_get, append-nil, refl, sym, ap, ◌∙◌, subst, arith}
use Rattle.std.proofs.lemmas.Bool.{cases_order}
use Rattle.std.proofs.lemmas.List.{append_assoc}
use Rattle.std.proofs.lemmas.List.Elements.{All-contains}
use Rattle.rv64_instr.specs.Row.{Row, Moves, Branches, Jumps, Returns, Unfit, row_of}
use Rattle.rv64_instr.specs.LocationEffects.{IsSlotStore}
use Rattle.mir_func.specs.declared.debug_substitution.OperandPair.{OperandPair}
use Rattle.mir_func.specs.declared.position.Pos.{Pos}
use Rattle.mir_func.specs.declared.position.Origin.{Origin}
use Rattle.mir_func.specs.declared.position.Origin.TheVariants.{Kept, Before}
use Rattle.mir_func.specs.declared.location.Loc.{Loc}
use Rattle.mir_func.specs.declared.block.Block.{Block}
use Rattle.mir_func.specs.declared.item.Item.{Item}
use Rattle.mir_func.specs.declared.item.ItemKind.{ItemKind}
use Rattle.mir_func.specs.declared.item.ItemKind.TheVariants.{Code, Mark, Phi}
use Rattle.mir_func.specs.Graph.{Fetch, Here, EndOfBlock, Outside, Program, below, end_of, front, fetch_in, from_block, program_of, KindEdge}
use Rattle.mir_func.specs.Graph.{RowEdge, FetchEdge, Leads, stay, go}
use Rattle.mir_func.specs.Sound.{AreApart, ids_of, OriginIn}
use Rattle.mir_func.specs.Positions.{position_of}
use Rattle.sem_mir.specs.Align.{is_code}
use Rattle.sem_mir.specs.Follow.{OnRow, Counts, IsMetApart, KindFits, MayAdd}
use Rattle.sem_mir.proofs.Reading.{found, found_in, front_item, item_front}
use Rattle.pass_trait.specs.Rule.{item}
use Rattle.pass_trait.proofs.NopDebug.{of_get}
use Rattle.pass_salvage.specs.declared.salvage_action.SalvageAction.{SalvageAction}
use Rattle.pass_salvage.specs.declared.salvage_action.SalvageAction.TheVariants.{HasEntry, GetsEntry, GetsPhi}
use Rattle.pass_salvage.specs.SalvageAction.{salvage_action}
use Rattle.pass_salvage.specs.Salvage.{with_number, numbered_at, phi_for}
use Rattle.pass_salvage.proofs.Kin.{Kin, code_kin, mark_kin, phi_kin, kin_itself}
use Rattle.pass_salvage.proofs.Edits.{Edits, Edited, over, pair, out, put, BlocksEdited, no_blocks, next_block}
use Rattle.pass_salvage.proofs.EditPaths.{stores_on}
use Rattle.pass_edits.specs.Edits.{IsMove}
use Rattle.copyprop_block.specs.declared.roots.Root.{Root}
use Rattle.copyprop_block.specs.Roots.{renamed, known_source}
use Rattle.copyprop_block.specs.Copied.{SoFar, renamed_kind, roots_with, goes_by, by_fate, salvaged, next_item, over_items, at_block, BlocksSoFar}
use Rattle.copyprop_block.specs.Copied.{next_block as block_next, over_blocks}
use Rattle.copyprop_rule.specs.Rule.{goes}
use Rattle.copyprop_proof.specs.Renamed.{known_after}
use Rattle.copyprop_proof.proofs.Known.{IsClean, clean_none}
use Rattle.copyprop_proof.proofs.Chain.{clean_next, next_roots}
use Rattle.copyprop_proof.proofs.Selfed.{selfed_kind, selfed_item, selfed_items, selfed_block, selfed_stays, selfed_goes, SameWay, selfed_way}
use Rattle.copyprop_proof.proofs.Selfed.{IsSome, Witness, counts_or}

clean_behind : (e : List Root) → IsClean e → (k : ItemKind) → IsClean (known_after e (renamed_kind e k))
clean_behind e clean k = by_test (goes e (renamed_kind e k)) refl where
  by_test : (t : Bool) → goes e (renamed_kind e k) ≡ t → IsClean (cond t e (roots_with (renamed_kind e k) e))
  by_test true is = clean
  by_test false is = clean_next e clean k is

-- ---- the function between has the paths of the one before

record Beside (x y : Item) : Type 0 where
  origin : y.origin ≡ x.origin
  way : SameWay x.kind y.kind

data Alike : Fetch → Fetch → Type 0 where
  items : {x y : Item} → Beside x y → Alike (Here x) (Here y)
  ends : {k n : ℕ} → Alike (EndOfBlock k n) (EndOfBlock k n)
  outside : Alike Outside Outside

ends_alike : (k : ℕ) (bs : List Block) → Alike (end_of k bs) (end_of k (map selfed_block bs))
ends_alike k [] = outside
ends_alike k (b ∷ bs) = ends

front_alike : (e : List Root) → IsClean e → (xs : List Item) (m k : ℕ) (bs : List Block) →
    Alike (front (drop m xs) k bs) (front (drop m (selfed_items e xs)) k (map selfed_block bs))
front_alike e clean [] zero k bs = ends_alike k bs
front_alike e clean [] (suc m) k bs = ends_alike k bs
front_alike e clean (x ∷ xs) zero k bs = items (record { origin = refl; way = selfed_way e clean x.kind })
front_alike e clean (x ∷ xs) (suc m) k bs =
    front_alike (known_after e (renamed_kind e x.kind)) (clean_behind e clean x.kind) xs m k bs

from_selfed : (bs : List Block) (n : ℕ) → from_block (map selfed_block bs) n ≡ map selfed_block (from_block bs n)
from_selfed [] n = refl
from_selfed (b ∷ bs) n = by_test (nat_eq b.id n) (from_selfed bs n) where
  by_test : (z : Bool) → from_block (map selfed_block bs) n ≡ map selfed_block (from_block bs n) →
      cond z (map selfed_block (b ∷ bs)) (from_block (map selfed_block bs) n) ≡ map selfed_block (cond z (b ∷ bs) (from_block bs n))
  by_test true h = refl
  by_test false h = h

fetch_alike : (bs : List Block) (m : ℕ) → Alike (fetch_in bs m) (fetch_in (map selfed_block bs) m)
fetch_alike [] m = outside
fetch_alike (b ∷ bs) m = front_alike [] clean_none b.items m b.source_end bs

edge_alike : (u v : Fetch) → Alike u v → (p q : Pos) → FetchEdge (λ n. n) u p q → FetchEdge (λ n. n) v p q
edge_alike u v (items b) p q h = b.way.edge p q h
edge_alike u v ends p q h = h
edge_alike u v outside p q h = h

on_alike : (u v : Fetch) → Alike u v → (x : Item) → u ≡ Here x → (y : Item) × (v ≡ Here y) × Beside x y
on_alike u v (items {x = z} {y = y} b) x e = let w : z ≡ x = cc in (y, refl, subst (λ (i : Item). Beside i y) w b)
on_alike u v ends x e = cc
on_alike u v outside x e = cc

back_alike : (u v : Fetch) → Alike u v → (y : Item) → v ≡ Here y → (x : Item) × (u ≡ Here x) × Beside x y
back_alike u v (items {x = x} {y = z} b) y e = let w : z ≡ y = cc in (x, refl, subst (Beside x) w b)
back_alike u v ends y e = cc
back_alike u v outside y e = cc

-- ---- a path into the middle of a block passes what stands above

row_down : (r : Row) (p q : Pos) → RowEdge (λ n. n) r p q → (q ≡ below p) ⊎ (q.item ≡ 0)
row_down (Branches op a b t) p q e = elim e [ inl k ↦ inr (ap (λ (z : Pos). z.item) k) | inr k ↦ inl k ]
row_down (Jumps t) p q e = inr (ap (λ (z : Pos). z.item) e)
row_down (Returns v) p q e = absurd e
row_down Unfit p q e = absurd e
row_down _ p q e = inl e

edge_down : (u : Fetch) (p q : Pos) → FetchEdge (λ n. n) u p q → (q ≡ below p) ⊎ (q.item ≡ 0)
edge_down (Here i) p q e = by_kind i.kind e where
  by_kind : (k : ItemKind) → KindEdge (λ n. n) k p q → (q ≡ below p) ⊎ (q.item ≡ 0)
  by_kind (Code i n) e = row_down (row_of i) p q e
  by_kind (Mark v m) e = inl e
  by_kind (Phi r n) e = inl e
edge_down (EndOfBlock k n) p q e = inr (ap (λ (z : Pos). z.item) e)
edge_down Outside p q e = absurd e

module _ (bs : List Block) (resolve : OperandPair → Option OperandPair) where
  abbrev prog : Program
  prog = program_of false bs resolve

  passes : {p q : Pos} → Leads prog p q → (m : ℕ) → m < q.item →
      ((p.block ≡ q.block) × (m < p.item)) ⊎ Leads prog p (record { block = q.block; item = m })
  passes stay m lt = inl (refl, lt)
  passes (go {p} {q = t} {r = q} edge rest) m lt = by_rest (passes rest m lt) (edge_down (prog.fetch p) p t edge) where
    by_rest : ((t.block ≡ q.block) × (m < t.item)) ⊎ Leads prog t (record { block = q.block; item = m }) → (t ≡ below p) ⊎ (t.item ≡ 0) →
        ((p.block ≡ q.block) × (m < p.item)) ⊎ Leads prog p (record { block = q.block; item = m })
    by_rest (inr l) down = inr (go edge l)
    by_rest (inl w) (inr top) = let a = w.1 in absurd (omega (arith, a, top))
    by_rest (inl w) (inl down) =
        let same : p.block ≡ q.block = sym (ap (λ (z : Pos). z.block) down) ∙ w.0 in
        let n : t.item ≡ p.item + 1 = ap (λ (z : Pos). z.item) down in
        let a = w.1 in
        by_order (cases_order m p.item) same n a where
          by_order : (m ≡ p.item) ⊎ ((m < p.item) ⊎ (p.item < m)) → p.block ≡ q.block → t.item ≡ p.item + 1 → m < t.item →
              ((p.block ≡ q.block) × (m < p.item)) ⊎ Leads prog p (record { block = q.block; item = m })
          by_order (inl is) same n a =
              let at : p ≡ record { block = q.block; item = m } = (λ i. record { block = same i; item = sym is i }) in
              inr (subst (Leads prog p) at stay)
          by_order (inr (inl less)) same n a = inl (same, less)
          by_order (inr (inr more)) same n a = absurd (omega (arith, n, a, more))

-- ---- what met a slot store meets it

module _ (fs : List Block) (apart : AreApart (ids_of fs)) (resolve : OperandPair → Option OperandPair) (src : Program)
    (fits : All (λ (b : Block). All (λ (i : Item). KindFits src i.kind b.source_end i.origin) b.items) fs)
    (origins : All (λ (b : Block). All (λ (i : Item). OriginIn b i.origin) b.items) fs) where
  abbrev fp : Program
  fp = program_of false fs resolve

  abbrev hp : Program
  hp = program_of false (map selfed_block fs) resolve

  at_pos : (p : Pos) → Alike (fp.fetch p) (hp.fetch p)
  at_pos p = subst (λ (bs : List Block). Alike (fp.fetch p) (fetch_in bs p.item)) (sym (from_selfed fs p.block)) (fetch_alike (from_block fs p.block) p.item)

  leads_alike : {p q : Pos} → Leads fp p q → Leads hp p q
  leads_alike stay = stay
  leads_alike (go {p} {q = t} edge rest) = go (edge_alike (fp.fetch p) (hp.fetch p) (at_pos p) p t edge) (leads_alike rest)

  one_block : (a b : Block) → Contains fs a → Contains fs b → a.id ≡ b.id → a ≡ b
  one_block a b inside member id =
      let u = found fs apart a inside in
      let v = found fs apart b member in
      let w : a ∷ u.rest ≡ b ∷ v.rest = sym u.at ∙ ap (from_block fs) id ∙ v.at in
      cc

  -- a move isn't at its block's end
  move_far : (a : Block) (x : Item) → Contains fs a → Contains a.items x → IsMove x.kind →
      position_of x.origin ≡ record { block = a.id; item = a.source_end } → ⊥
  move_far a x member inside move same =
      by_item x.kind x.origin move (All-contains (λ (i : Item). KindFits src i.kind a.source_end i.origin) a.items x
      (All-contains (λ (b : Block). All (λ (i : Item). KindFits src i.kind b.source_end i.origin) b.items) fs a fits member) inside)
      (All-contains (λ (i : Item). OriginIn a i.origin) a.items x
      (All-contains (λ (b : Block). All (λ (i : Item). OriginIn b i.origin) b.items) fs a origins member) inside) same where
        by_item : (k : ItemKind) (o : Origin) → IsMove k → KindFits src k a.source_end o → OriginIn a o → position_of o ≡ record
            { block = a.id; item = a.source_end } → ⊥
        by_item (Code i n) (Kept p) m f h e = let lt = h.1 in let is : p.item ≡ a.source_end = ap (λ (z : Pos). z.item) e in omega (arith, lt, is)
        by_item (Code i n) (Before p) m f h e = subst (λ (r : Row). MayAdd r p.item a.source_end) m.2 f
        by_item (Mark v n) o m f h e = m
        by_item (Phi r n) o m f h e = m

  home : (b : Block) (x : Item) → Contains fs b → Contains b.items x → (position_of x.origin).block ≡ b.id
  home b x inside in_items =
      by_origin x.origin (All-contains (λ (i : Item). OriginIn b i.origin) b.items x
      (All-contains (λ (c : Block). All (λ (i : Item). OriginIn c i.origin) c.items) fs b origins inside) in_items) where
        by_origin : (o : Origin) → OriginIn b o → (position_of o).block ≡ b.id
        by_origin (Kept z) h = h.0
        by_origin (Before z) h = h.0

  met_between : (a : Block) → Contains fs a → ((p : Pos) (i : Item) → p.block ≡ a.id → fp.fetch p ≡ Here i → OnRow IsSlotStore i.kind →
      i.origin ≡ Before (record { block = a.id; item = a.source_end }) → (q : Pos) × (j : Item) × IsMetApart fp p a.source_end q j) →
      (p : Pos) (i : Item) → p.block ≡ a.id → hp.fetch p ≡ Here i → OnRow IsSlotStore i.kind →
      i.origin ≡ Before (record { block = a.id; item = a.source_end }) → (q : Pos) × (j : Item) × IsMetApart hp p a.source_end q j
  met_between a member met p i same at save o =
      let w = back_alike (fp.fetch p) (hp.fetch p) (at_pos p) i at in
      let m = met p w.0 same w.1 (w.2.way.save save) (sym w.2.origin ∙ o) in
      let n = on_alike (fp.fetch m.0) (hp.fetch m.0) (at_pos m.0) m.1 m.2.0 in
      by_meeting m.0 m.1 m.2 n.0 n.1 n.2 where
        by_meeting : (q : Pos) (j : Item) → IsMetApart fp p a.source_end q j → (y : Item) → hp.fetch q ≡ Here y → Beside j y →
            (r : Pos) × (z : Item) × IsMetApart hp p a.source_end r z
        by_meeting q j m y here beside = by_blocks (from_block fs q.block) refl m.0
            (sym (ap (λ (bs : List Block). fetch_in bs q.item) (from_selfed fs q.block)) ∙ here) where
              by_blocks : (bs : List Block) → from_block fs q.block ≡ bs → fetch_in bs q.item ≡ Here j → fetch_in (map selfed_block (from_block fs q.block))
                  q.item ≡ Here y →
                  (r : Pos) × (z : Item) × IsMetApart hp p a.source_end r z
              by_blocks [] is e e' = cc
              by_blocks (b ∷ bs) is e e' =
                  let k = found_in fs q.block b bs is in
                  let old : slice_get b.items q.item ≡ Some j = front_item b.items q.item b.source_end bs j e in
                  let e2 : fetch_in (map selfed_block (b ∷ bs)) q.item ≡ Here y = sym (ap (λ (cs : List Block). fetch_in (map selfed_block cs) q.item)
                  is) ∙ e' in
                  let new : slice_get (selfed_items [] b.items) q.item ≡ Some y =
                  front_item (selfed_items [] b.items) q.item b.source_end (map selfed_block bs) y e2 in
                  by_counts k.0 k.1 (counts_or b.items [] clean_none q.item j y old new m.1) where
                    by_counts : Contains fs b → b.id ≡ q.block → OnRow Counts y.kind ⊎ (IsSome [] ⊎ Witness b.items (selfed_items [] b.items) q.item) →
                        (r : Pos) × (z : Item) × IsMetApart hp p a.source_end r z
                    by_counts inside id (inl counts) = (
                      q,
                      y,
                      (
                        here,
                        counts,
                        (λ e. m.2 (ap position_of (sym beside.origin) ∙ e)),
                        elim m.3 as (λ _. ((q.block ≡ p.block) × (q.item < p.item)) ⊎ Leads hp p q) [ inl up ↦ inl up | inr l ↦ inr (leads_alike l) ],
                      ),
                    )
                    by_counts inside id (inr (inl none)) = absurd (let bad : [] ≡ none.first ∷ none.rest = none.is in cc)
                    by_counts inside id (inr (inr w)) =
                        let r : Pos = record { block = q.block; item = w.index } in
                        let fetched : hp.fetch r ≡ Here w.new =
                        ap (λ (cs : List Block). fetch_in cs w.index) (from_selfed fs q.block ∙ ap (map selfed_block) is) ∙
                        item_front (selfed_items [] b.items) w.index b.source_end (map selfed_block bs) w.new w.at_new in (
                          r,
                          w.new,
                          (
                            fetched,
                            w.counts,
                            far,
                            where_from m.3,
                          ),
                        ) where
                          far : position_of w.new.origin ≡ record { block = p.block; item = a.source_end } → ⊥
                          far e =
                              let here_in : position_of w.old.origin ≡ record { block = p.block; item = a.source_end } = ap position_of (sym w.origin) ∙ e in
                              let in_old : Contains b.items w.old = of_get b.items w.index w.old w.at in
                              let block_is : (position_of w.old.origin).block ≡ b.id = home b w.old inside in_old in
                              let ids : b.id ≡ a.id = sym block_is ∙ ap (λ (z : Pos). z.block) here_in ∙ same in
                              let one : b ≡ a = one_block b a inside member ids in
                              move_far b w.old inside in_old w.move
                              (here_in ∙ (λ i. record { block = (same ∙ sym ids) i; item = ap (λ (z : Block). z.source_end) (sym one) i }))

                          where_from : ((q.block ≡ p.block) × (q.item < p.item)) ⊎ Leads fp p q →
                              ((q.block ≡ p.block) × (w.index < p.item)) ⊎ Leads hp p (record { block = q.block; item = w.index })
                          where_from (inl up) = let lt = w.above in let lt' = up.1 in inl (up.0, omega (arith, lt, lt'))
                          where_from (inr l) = elim (passes (map selfed_block fs) resolve (leads_alike l) w.index w.above) [
                            | inl k ↦ inl (sym k.0, k.1)
                            | inr k ↦ inr k
                          ]

-- ---- from the function between to the one after: copies of a register to itself go, and phis are put

-- a copy of a register to itself
abbrev pub IsSelf : ItemKind → Type 0
IsSelf (Code i n) = (rd : ℕ) × (row_of i ≡ Moves rd rd)
IsSelf (Mark v m) = ⊥
IsSelf (Phi p n) = ⊥

abbrev pub loose_edits : Edits
loose_edits = record {
  Stage = Unit {0};
  entry = λ n. tt;
  IsOver = λ k. Unit {0};
  Pair = λ a b x y. OnRow Counts x.kind → OnRow Counts y.kind;
  Out = λ a b x. IsSelf x.kind;
  Put = λ a b y. Unit {0};
}

self_falls : (a b : Unit {0}) (x : Item) → IsSelf x.kind → (p q : Pos) → KindEdge (λ n. n) x.kind p q → q ≡ below p
self_falls a b x h p q e = by_kind x.kind h e where
  by_kind : (k : ItemKind) → IsSelf k → KindEdge (λ n. n) k p q → q ≡ below p
  by_kind (Code i n) h e = subst (λ (r : Row). RowEdge (λ n. n) r p q) h.1 e
  by_kind (Mark v m) h e = absurd h
  by_kind (Phi r n) h e = absurd h

self_gone : (a b : Unit {0}) (x : Item) → IsSelf x.kind → OnRow Counts x.kind → ⊥
self_gone a b x h c = by_kind x.kind h c where
  by_kind : (k : ItemKind) → IsSelf k → OnRow Counts k → ⊥
  by_kind (Code i n) h c = subst Counts h.1 c refl
  by_kind (Mark v m) h c = h
  by_kind (Phi r n) h c = h

append_edited : {k : Unit {0}} {xs ys us vs : List Item} → Edited loose_edits k xs ys → ((l : Unit {0}) → Edited loose_edits l us vs) →
    Edited loose_edits k (xs ++ us) (ys ++ vs)
append_edited {k} (over done) more = more k
append_edited (pair origin kin how rest) more = pair origin kin how (append_edited rest more)
append_edited (out how rest) more = out how (append_edited rest more)
append_edited (put code origin how rest) more = put code origin how (append_edited rest more)

kin_numbered : (n : ℕ) (k l : ItemKind) → Kin k l → Kin k (with_number n l)
kin_numbered n k l (code_kin h loads) = code_kin h loads
kin_numbered n k l (mark_kin h) = mark_kin h
kin_numbered n k l phi_kin = phi_kin

counts_numbered : (n : ℕ) (k : ItemKind) → OnRow Counts k → OnRow Counts (with_number n k)
counts_numbered n (Code i m) h = h
counts_numbered n (Mark v m) h = h
counts_numbered n (Phi p m) h = h

code_numbered : (n : ℕ) (k : ItemKind) → is_code k ≡ false → is_code (with_number n k) ≡ false
code_numbered n (Code i m) h = h
code_numbered n (Mark v m) h = h
code_numbered n (Phi p m) h = h

numbered_edited : {k : Unit {0}} (d n : ℕ) (xs ys : List Item) → Edited loose_edits k xs ys → Edited loose_edits k xs (numbered_at d n ys)
numbered_edited d n xs ys (over done) = over done
numbered_edited zero n (x ∷ xs) (y ∷ ys) (pair {k' = l} origin kin how rest) =
    pair {k' = l} origin (kin_numbered n x.kind y.kind kin) (λ c. counts_numbered n y.kind (how c)) rest
numbered_edited (suc d) n (x ∷ xs) (y ∷ ys) (pair {k' = l} origin kin how rest) = pair {k' = l} origin kin how (numbered_edited d n xs ys rest)
numbered_edited d n (x ∷ xs) ys (out {k' = l} how rest) = out {k' = l} how (numbered_edited d n xs ys rest)
numbered_edited zero n (x ∷ xs) (y ∷ ys) (put {k' = l} code origin how rest) = put {k' = l} (code_numbered n y.kind code) origin how rest
numbered_edited (suc d) n (x ∷ xs) (y ∷ ys) (put {k' = l} code origin how rest) = put {k' = l} code origin how (numbered_edited d n (x ∷ xs) ys rest)

-- one item more
abbrev Laid : List Item → List Item → Type 0
Laid xs ys = Edited loose_edits tt xs ys

one_stays : (hs done : List Item) (x : Item) → Laid hs done → Laid (hs ++ x ∷ []) (done ++ x ∷ [])
one_stays hs done x h = append_edited h (λ l. pair {k' = l} refl (kin_itself x.kind) (λ c. c) (over tt))

one_goes : (hs done : List Item) (x : Item) → Laid hs done → IsSelf x.kind → Laid (hs ++ x ∷ []) (done ++ [])
one_goes hs done x h self = append_edited h (λ l. out {k' = l} self (over tt))

one_phi : (hs done : List Item) (x y : Item) → Laid hs done → IsSelf x.kind → is_code y.kind ≡ false → y.origin ≡ Before (position_of x.origin) →
    Laid (hs ++ x ∷ []) (done ++ y ∷ [])
one_phi hs done x y h self code origin = append_edited h (λ l. put {k' = l} code origin tt (out {k' = l} self (over tt)))

next_laid : (a : SoFar) (hs : List Item) (k : ItemKind) (o : Origin) (l : Loc) → Laid hs a.done →
    Laid (hs ++ selfed_item a.roots (item k o l) ∷ []) (next_item a (item k o l)).done
next_laid a hs (Mark v m) o l h = one_stays hs a.done (item (Mark v m) o l) h
next_laid a hs (Phi p m) o l h = one_stays hs a.done (item (Phi p m) o l) h
next_laid a hs (Code i n) o l h = by_source (known_source a.roots (row_of (renamed a.roots i))) n refl where
  self_is : (s : ℕ) (n : Option ℕ) → known_source a.roots (row_of (renamed a.roots i)) ≡ Some s → IsSelf (selfed_kind a.roots (Code i n))
  self_is s n is =
      let w = selfed_goes a.roots i n (ap is_some is) in subst IsSelf (sym w.is) (suc w.rd, w.self)

  by_way : (k s : ℕ) (w : SalvageAction) → known_source a.roots (row_of (renamed a.roots i)) ≡ Some s →
      Laid (hs ++ selfed_item a.roots (item (Code i (Some k)) o l) ∷ []) (salvaged a k s o w).done
  by_way k s HasEntry is = one_goes hs a.done (selfed_item a.roots (item (Code i (Some k)) o l)) h (self_is s (Some k) is)
  by_way k s (GetsEntry d p n) is =
      one_goes hs (numbered_at d n a.done) (selfed_item a.roots (item (Code i (Some k)) o l)) (numbered_edited d n hs a.done h) (self_is s (Some k) is)
  by_way k s GetsPhi is =
      one_phi hs a.done (selfed_item a.roots (item (Code i (Some k)) o l)) (phi_for k s o) h (self_is s (Some k) is) refl refl

  by_source : (s n : Option ℕ) → known_source a.roots (row_of (renamed a.roots i)) ≡ s →
      Laid (hs ++ selfed_item a.roots (item (Code i n) o l) ∷ []) (by_fate a (item (Code (renamed a.roots i) n) o l) (goes_by n s)).done
  by_source None n is =
      let same : selfed_kind a.roots (Code i n) ≡ Code (renamed a.roots i) n = selfed_stays a.roots (Code i n) (ap is_some is) in
      subst (λ (k : ItemKind). Laid (hs ++ item k o l ∷ []) (a.done ++ item (Code (renamed a.roots i) n) o l ∷ [])) (sym same)
      (one_stays hs a.done (item (Code (renamed a.roots i) n) o l) h)
  by_source (Some s) None is =
      subst (λ (ys : List Item). Laid (hs ++ selfed_item a.roots (item (Code i None) o l) ∷ []) ys) (append-nil a.done)
      (one_goes hs a.done (selfed_item a.roots (item (Code i None) o l)) h (self_is s None is))
  by_source (Some s) (Some k) is = by_way k s (salvage_action [] a.subs a.fresh k s a.done) is

next_known : (a : SoFar) (k : ItemKind) (o : Origin) (l : Loc) → (next_item a (item k o l)).roots ≡ known_after a.roots (renamed_kind a.roots k)
next_known a k o l = next_roots a k o l

over_laid : (xs : List Item) (a : SoFar) (hs : List Item) → Laid hs a.done → Laid (hs ++ selfed_items a.roots xs) (over_items a xs).done
over_laid [] a hs h = subst (λ (zs : List Item). Laid zs a.done) (sym (append-nil hs)) h
over_laid (x ∷ xs) a hs h =
    let y : Item = selfed_item a.roots x in
    let b : SoFar = next_item a x in
    let known : List Root = known_after a.roots (renamed_kind a.roots x.kind) in
    let more = over_laid xs b (hs ++ y ∷ []) (next_laid a hs x.kind x.origin x.loc h) in
    subst (λ (zs : List Item). Laid zs (over_items b xs).done)
    (ap (λ (e : List Root). (hs ++ y ∷ []) ++ selfed_items e xs) (next_known a x.kind x.origin x.loc) ∙ append_assoc hs (y ∷ []) (selfed_items known xs)) more

blocks_append : (fs gs us vs : List Block) → BlocksEdited loose_edits fs gs → BlocksEdited loose_edits us vs → BlocksEdited loose_edits (fs ++ us) (gs ++ vs)
blocks_append fs gs us vs no_blocks more = more
blocks_append (a ∷ fs) (b ∷ gs) us vs (next_block id source_end how rest) more = next_block id source_end how (blocks_append fs gs us vs rest more)

pub blocks_laid : (bs : List Block) (a : BlocksSoFar) (hs : List Block) → BlocksEdited loose_edits hs a.blocks →
    BlocksEdited loose_edits (hs ++ map selfed_block bs) (over_blocks a bs).blocks
blocks_laid [] a hs h = subst (λ (zs : List Block). BlocksEdited loose_edits zs a.blocks) (sym (append-nil hs)) h
blocks_laid (b ∷ bs) a hs h =
    let made : Block = record { id = b.id; items = (over_items (at_block a.subs a.fresh) b.items).done; source_end = b.source_end } in
    let one = blocks_append hs a.blocks (selfed_block b ∷ []) (made ∷ []) h
    (next_block refl refl (over_laid b.items (at_block a.subs a.fresh) [] (over tt)) no_blocks) in
    subst (λ (zs : List Block). BlocksEdited loose_edits zs (over_blocks (block_next a b) bs).blocks)
    (append_assoc hs (selfed_block b ∷ []) (map selfed_block bs))
    (blocks_laid bs (block_next a b) (hs ++ selfed_block b ∷ []) one)

-- a block after has its like before
pub block_back : (fs gs : List Block) → BlocksEdited loose_edits (map selfed_block fs) gs → (b : Block) → Contains gs b →
    (a : Block) × Contains fs a × (a.id ≡ b.id) × (a.source_end ≡ b.source_end)
block_back fs gs edited b h = by_blocks fs (map selfed_block fs) gs refl edited h where
  by_blocks : (cs hs gs : List Block) → map selfed_block cs ≡ hs → BlocksEdited loose_edits hs gs → Contains gs b →
      (a : Block) × Contains cs a × (a.id ≡ b.id) × (a.source_end ≡ b.source_end)
  by_blocks cs hs gs is no_blocks k = absurd (let lt = k.1 in omega (arith, lt))
  by_blocks [] (x ∷ hs) (g ∷ gs) is (next_block id source_end how rest) k = cc
  by_blocks (c ∷ cs) (x ∷ hs) (g ∷ gs) is (next_block id source_end how rest) (zero, lt, e) =
      let same : selfed_block c ≡ x = cc in (
        c,
        (0, omega arith, refl),
        ap (λ (z : Block). z.id) same ∙ sym id ∙ ap (λ (z : Block). z.id) e,
        ap (λ (z : Block). z.source_end) same ∙ sym source_end ∙ ap (λ (z : Block). z.source_end) e,
      )
  by_blocks (c ∷ cs) (x ∷ hs) (g ∷ gs) is (next_block id source_end how rest) (suc n, lt, e) =
      let tail : map selfed_block cs ≡ hs = cc in
      let r = by_blocks cs hs gs tail rest (n, omega (arith, lt), e) in
      let m = r.1 in
      let less = m.1 in
      (r.0, (suc m.0, omega (arith, less), m.2), r.2, r.3)

-- all of it
module _ (fs gs : List Block) (apart : AreApart (ids_of fs)) (resolve resolve' : OperandPair → Option OperandPair) (src : Program)
    (fits : All (λ (b : Block). All (λ (i : Item). KindFits src i.kind b.source_end i.origin) b.items) fs)
    (origins : All (λ (b : Block). All (λ (i : Item). OriginIn b i.origin) b.items) fs) (edited : BlocksEdited loose_edits (map selfed_block fs) gs) where
  abbrev MeetsIn : (sees : List Block) → (OperandPair → Option OperandPair) → Block → Type 0
  MeetsIn bs r a = (p : Pos) (i : Item) → p.block ≡ a.id → (program_of false bs r).fetch p ≡ Here i → OnRow IsSlotStore i.kind →
      i.origin ≡ Before (record { block = a.id; item = a.source_end }) → (q : Pos) × (j : Item) × IsMetApart (program_of false bs r) p a.source_end q j

  pub stores_meet : ((a : Block) → Contains fs a → MeetsIn fs resolve a) → (b : Block) → Contains gs b → MeetsIn gs resolve' b
  stores_meet met b member p i at here save o =
      let w = block_back fs gs edited b member in
      let between = met_between fs apart resolve src fits origins w.0 w.1 (met w.0 w.1) in
      stores_on loose_edits (map selfed_block fs) gs edited resolve resolve' (λ n. tt) self_falls self_gone (λ k k' x y how c. how c) b.id b.source_end
      (λ q j at' here' save' o'. (let origin : j.origin ≡ Before (record { block = w.0.id; item = w.0.source_end }) =
      o' ∙ (λ z. Before (record { block = sym w.2 z; item = sym w.3 z })) in
      let m = between q j (at' ∙ sym w.2) here' save' origin in
      subst (λ (n : ℕ). (r : Pos) × (t : Item) × IsMetApart (program_of false (map selfed_block fs) resolve) q n r t) w.3 m))
      p i at here save o
