-- Paths of the source are paths of a function with its ends of blocks, from block to block.
use Rattle.std.proofs.Common.{◌≡◌, ◌⊎◌, ℕ, suc, ◌+◌, ◌<◌, ◌≤◌, List, [], ◌∷◌, ◌++◌, drop, length, slice_get, get_or, All, Contains, Option}
use Rattle.std.proofs.Common.{Some, None, Bool}
use Rattle.std.proofs.Common.{true, false, cond, refl, sym, ap, ◌∙◌, subst, inl, inr, eq-eqb, arith}
use Rattle.std.proofs.lemmas.Bool.{cases_eq}
use Rattle.std.proofs.lemmas.List.Elements.{All-contains, Contains-append_right}
use Rattle.std.proofs.lemmas.Option.{slice_get-get_or, slice_get_within}
use Rattle.rv64_instr.specs.Row.{Row, Branches, Jumps, Returns, Unfit, row_of}
use Rattle.mir_func.specs.declared.block.Block.{Block}
use Rattle.mir_func.specs.declared.debug_substitution.OperandPair.{OperandPair}
use Rattle.mir_func.specs.declared.exit.Exit.TheVariants.{Perhaps, Always}
use Rattle.mir_func.specs.declared.item.Item.{Item}
use Rattle.mir_func.specs.declared.item.ItemKind.{ItemKind}
use Rattle.mir_func.specs.declared.item.ItemKind.TheVariants.{Code, Mark, Phi}
use Rattle.mir_func.specs.declared.position.Pos.{Pos}
use Rattle.mir_func.specs.declared.position.Origin.{Origin}
use Rattle.mir_func.specs.declared.position.Origin.TheVariants.{Kept, Before}
use Rattle.mir_func.specs.Exits.{row_exit, exit_of, Leaves}
use Rattle.mir_func.specs.Graph.{Program, Fetch, Here, EndOfBlock, Outside, below, block_start, fetch_in, from_block, index_of, program_of}
use Rattle.mir_func.specs.Graph.{RowEdge, KindEdge, FetchEdge, Edge, Leads as LeadsFrom, stay, go, rest_in}
use Rattle.mir_func.specs.Sound.{ids_of, EndsWell, LastCloses}
use Rattle.mir_func.specs.Positions.{position_of}
use Rattle.sem_mir.specs.Follow.{HasClass, ItemHasClass, RowFits, KindFits, Shape, OnRow, GoesTo, IsEnd, SameEnd, KindsEndAlike, EndIsKept}
use Rattle.rv64_instr.specs.View.{class_of, Odd}
use Rattle.sem_mir.specs.InitialState.{first_of as first_number}
use Rattle.sem_mir.specs.Follow.{EndComesFrom}
use Rattle.sem_mir.proofs.Reading.{found_in, front_item, item_front, front_end}
use Rattle.sem_simulation.proofs.Laid.{from_home, falls_down}
use Rattle.fold_targets.specs.Ways.{leads_nowhere}
use Rattle.fold_targets.specs.Leads.{first_id, lead}
use Rattle.fold_targets.proofs.Ways.{one_end}
use Rattle.fold_rule.specs.declared.ways.Ways.{Ways}
use Rattle.fold_rule.specs.Tails.{ways_of, is_number, rewritten}
use Rattle.fold_rule.specs.Rule.{staying}
use Rattle.fold_rule.specs.Reached.{ways_in, LeadTo, Reached, first, onward}
use Rattle.fold_rule_proof.proofs.Blocks.{has_from, contains_from, ways_goes}
use Rattle.fold_rule_proof.specs.Kills.{kills}
use Rattle.fold_rule_proof.proofs.KillSound.{at_of, contains_at}
use Rattle.fold_rule_proof.proofs.StepAlike.{leads_either}
use Rattle.fold_proof.proofs.Placed.{Found, found_at, first_end, falls_from, made_block, made, made_at, made_first}
use Rattle.fold_proof.proofs.Ways.{ways_at, ways_found, lead_at, Was, targets_of}
use Rattle.fold_proof.proofs.Folding.{Folding, old, end, stays, was, new, fp, gp, ends, apart_new, end_kind}
use Rattle.fold_proof.proofs.Along.{last_closes, none_after}
use Rattle.fold_proof.proofs.Back.{item_leads, falls_on, way_goes, way_from, stays_or_way, next_by_ids, same_exit}
use Rattle.fold_proof.proofs.Items.{same_ids}

-- where control goes from an item: to a block, or below
pub edge_item : (k : ItemKind) (p q : Pos) → KindEdge (λ n. n) k p q →
    ((n : ℕ) × ((exit_of k ≡ Perhaps n) ⊎ (exit_of k ≡ Always n)) × (q ≡ block_start n)) ⊎ ((Leaves (exit_of k) → ⊥) × (q ≡ below p))
edge_item (Code i m) p q h = by_row (row_of i) h where
  by_row : (r : Row) → RowEdge (λ n. n) r p q →
      ((n : ℕ) × ((row_exit r ≡ Perhaps n) ⊎ (row_exit r ≡ Always n)) × (q ≡ block_start n)) ⊎ ((Leaves (row_exit r) → ⊥) × (q ≡ below p))
  by_row (Branches op a b t) (inl e) = inl (t, inl refl, e)
  by_row (Branches op a b t) (inr e) = inr (λ l. l, e)
  by_row (Jumps t) e = inl (t, inr refl, e)
  by_row (Returns v) e = absurd e
  by_row Unfit e = absurd e
  by_row _ e = inr (λ l. l, e)
edge_item (Mark v m) p q h = inr (λ l. l, h)
edge_item (Phi r m) p q h = inr (λ l. l, h)

odd_leaves : (r : Row) → class_of r ≡ Odd → Leaves (row_exit r)
odd_leaves Unfit e = tt
odd_leaves _ e = cc

alike_leaves : (k l : ItemKind) → KindsEndAlike k l → Leaves (exit_of l) → Leaves (exit_of k)
alike_leaves (Code i m) (Code j n) h l = by_rows (row_of i) (row_of j) h l where
  by_rows : (r q : Row) → SameEnd r q → Leaves (row_exit q) → Leaves (row_exit r)
  by_rows (Branches op a b t) (Branches op' a' b' t') h l = l
  by_rows (Jumps t) (Jumps t') h l = tt
  by_rows (Returns v) (Returns w) h l = tt
  by_rows _ _ h l = absurd h
alike_leaves (Code i m) (Mark v n) h l = absurd h
alike_leaves (Code i m) (Phi p n) h l = absurd h
alike_leaves (Mark v m) l h k = absurd h
alike_leaves (Phi p m) l h k = absurd h

-- an item stands in its block
pub record StandsIn (bs : List Block) (p : Pos) (i : Item) : Type 0 where
  pub block : Block
  pub rest : List Block
  pub at : from_block bs p.block ≡ block ∷ rest
  pub item : slice_get block.items p.item ≡ Some i

pub stands_in : (sp : Bool) (bs : List Block) (resolve : OperandPair → Option OperandPair) (p : Pos) (i : Item) →
    (program_of sp bs resolve).fetch p ≡ Here i → StandsIn bs p i
stands_in sp bs resolve p i e = by_blocks (from_block bs p.block) refl e where
  by_blocks : (cs : List Block) → from_block bs p.block ≡ cs → fetch_in cs p.item ≡ Here i → StandsIn bs p i
  by_blocks [] h k = cc
  by_blocks (b ∷ rest) h k = record { block = b; rest = rest; at = h; item = front_item b.items p.item b.source_end rest i k }

pub record EndsIn (bs : List Block) (p : Pos) (n : ℕ) : Type 0 where
  pub block : Block
  pub rest : List Block
  pub at : from_block bs p.block ≡ block ∷ rest
  pub past : length block.items ≤ p.item
  pub next : first_id rest ≡ Some n

pub ends_in : (sp : Bool) (bs : List Block) (resolve : OperandPair → Option OperandPair) (p : Pos) (k n : ℕ) →
    (program_of sp bs resolve).fetch p ≡ EndOfBlock k n → EndsIn bs p n
ends_in sp bs resolve p k n e = by_blocks (from_block bs p.block) refl e where
  by_blocks : (cs : List Block) → from_block bs p.block ≡ cs → fetch_in cs p.item ≡ EndOfBlock k n → EndsIn bs p n
  by_blocks [] h q = cc
  by_blocks (b ∷ rest) h q =
      let w = front_end b.items p.item b.source_end rest k n q in
      record { block = b; rest = rest; at = h; past = w.0; next = first_end b.source_end k rest n w.1 }

module _ (fold : Folding) (src : List Block) (subs : OperandPair → Option OperandPair) where
  abbrev srcp : Program
  srcp = program_of true src subs

  abbrev f : Program
  f = fp fold

  abbrev WasReached : ℕ → Type 0
  WasReached n = Was (old fold) fold.sound.blocks_apart n

  abbrev HasWay : ℕ → ℕ → Type 0
  HasWay b n = (w : Ways) × (ways_in (old fold) b ≡ Some w) × LeadTo w n

  was_found : {n : ℕ} → WasReached n → Found (old fold) n
  was_found (first {n} e) = by_blocks (old fold) e where
    by_blocks : (cs : List Block) → first_id cs ≡ Some n → Found cs n
    by_blocks [] h = cc
    by_blocks (c ∷ cs) h = let same : c.id ≡ n = cc in
        record { block = c; rest = cs; at = ap (λ (z : Bool). cond z (c ∷ cs) (from_block cs n)) (eq-eqb c.id n same) }
  was_found (onward {b} {n} w r e l) =
      let ids = ids_of (old fold) in
      let here : Contains ids n = ways_goes ids (old fold) b n w (targets_of fold.f fold.sound) (λ m h. contains_from ids m h) e l in
      let k = has_from ids n here in
      found_at (old fold) n k.0 k.1

  module _ (shape : Shape src (old fold) srcp f) (count : length (old fold) ≡ length src)
      (kept : (p : Pos) (i : Item) → srcp.fetch p ≡ Here i → OnRow IsEnd i.kind → EndIsKept f p i)
      (only : (q : Pos) (j : Item) → f.fetch q ≡ Here j → OnRow IsEnd j.kind → EndComesFrom srcp j) where
    -- a path of the source may come to the position: its block was reached, and control goes on past the items above it
    record Down (p : Pos) : Type 0 where
      reached : WasReached p.block
      open_above : (k : ℕ) (i : Item) → k < p.item → srcp.fetch (record { block = p.block; item = k }) ≡ Here i → Leaves (exit_of i.kind) → ⊥

    way_of_item : (p : Pos) (i : Item) (n : ℕ) → srcp.fetch p ≡ Here i → (exit_of i.kind ≡ Perhaps n) ⊎ (exit_of i.kind ≡ Always n) → HasWay p.block n
    way_of_item p i n at e =
        let k = kept p i at (end_kind i.kind (leads_either (exit_of i.kind) n e)) in
        let q = k.0 in
        let j = k.1 in
        let home : p.block ≡ q.block = ap (λ (o : Origin). (position_of o).block) (sym k.3) ∙ from_home false (old fold) fold.resolve fold.sound.origins q j
        k.2 in
        let s = stands_in false (old fold) fold.resolve q j k.2 in
        let member = (found_in (old fold) q.block s.block s.rest s.at).0 in
        let well = All-contains (λ (b : Block). EndsWell b.items) (old fold) s.block fold.sound.ends member in (
          ways_of s.block.items (first_id s.rest),
          subst (λ (m : ℕ). ways_in (old fold) m ≡ Some (ways_of s.block.items (first_id s.rest))) (sym home) (ways_at (old fold) q.block s.block s.rest s.at),
          item_leads s.block.items (first_id s.rest) j n well (contains_at s.block.items q.item j s.item) (same_exit i.kind j.kind n k.4 e),
        )

    -- what a block can't go past comes from such an item of the source
    from_source : (q : Pos) (j : Item) → f.fetch q ≡ Here j → Leaves (exit_of j.kind) →
        (p : Pos) × (i : Item) × (srcp.fetch p ≡ Here i) × (j.origin ≡ Kept p) × Leaves (exit_of i.kind)
    from_source q j at leaves =
        by_kind j.kind refl leaves where
          s : StandsIn (old fold) q j
          s = stands_in false (old fold) fold.resolve q j at

          fits : KindFits srcp j.kind s.block.source_end j.origin
          fits = All-contains (λ (i : Item). KindFits srcp i.kind s.block.source_end i.origin) s.block.items j
              (All-contains (λ (b : Block). All (λ (i : Item). KindFits srcp i.kind b.source_end i.origin) b.items) (old fold) s.block shape.items
              (found_in (old fold) q.block s.block s.rest s.at).0) (contains_at s.block.items q.item j s.item)

          Result : Type 0
          Result = (p : Pos) × (i : Item) × (srcp.fetch p ≡ Here i) × (j.origin ≡ Kept p) × Leaves (exit_of i.kind)

          of_end : OnRow IsEnd j.kind → Result
          of_end e = let w = only q j at e in (w.0, w.1, w.2, w.3, alike_leaves w.1.kind j.kind w.4 leaves)

          odd_item : (p : Pos) (k : Fetch) → srcp.fetch p ≡ k → j.origin ≡ Kept p → HasClass Unfit k → Result
          odd_item p (Here i) at' o h = (p, i, at', o, of_class i.kind h) where
            of_class : (k : ItemKind) → ItemHasClass Unfit k → Leaves (exit_of k)
            of_class (Code c n) h = odd_leaves (row_of c) h
            of_class (Mark v m) h = absurd h
            of_class (Phi r n) h = absurd h
          odd_item p (EndOfBlock k n) at' o h = absurd h
          odd_item p Outside at' o h = absurd h

          of_odd : (o : Origin) → j.origin ≡ o → RowFits srcp Unfit s.block.source_end o → Result
          of_odd (Kept p) e h = odd_item p (srcp.fetch p) refl e h
          of_odd (Before p) e h = absurd h

          by_kind : (k : ItemKind) → j.kind ≡ k → Leaves (exit_of k) → Result
          by_kind (Code i n) e l = by_row (row_of i) refl l where
            fits_row : RowFits srcp (row_of i) s.block.source_end j.origin
            fits_row = subst (λ (k : ItemKind). KindFits srcp k s.block.source_end j.origin) e fits

            of_row : IsEnd (row_of i) → Result
            of_row h = of_end (subst (OnRow IsEnd) (sym e) h)

            by_row : (r : Row) → row_of i ≡ r → Leaves (row_exit r) → Result
            by_row (Jumps t) q l = of_row (subst IsEnd (sym q) tt)
            by_row (Returns v) q l = of_row (subst IsEnd (sym q) tt)
            by_row Unfit q l = of_odd j.origin refl (subst (λ (r : Row). RowFits srcp r s.block.source_end j.origin) q fits_row)
            by_row _ q l = absurd l
          by_kind (Mark v m) e l = absurd l
          by_kind (Phi r n) e l = absurd l

    way_of_end : (p : Pos) (k n : ℕ) → Down p → srcp.fetch p ≡ EndOfBlock k n → HasWay p.block n
    way_of_end p k n down at =
        let w = was_found down.reached in
        let c = ends_in true src subs p k n at in
        let next : first_id w.rest ≡ Some n =
        next_by_ids (old fold) src (same_ids shape.among count) p.block w.block c.block w.rest c.rest w.at c.at ∙ c.next in
        let member = (found_in (old fold) p.block w.block w.rest w.at).0 in
        let well = All-contains (λ (b : Block). EndsWell b.items) (old fold) w.block fold.sound.ends member in (
          ways_of w.block.items (first_id w.rest),
          ways_at (old fold) p.block w.block w.rest w.at,
          subst (λ (o : Option ℕ). LeadTo (ways_of w.block.items o) n) (sym next) (falls_on w.block.items n well (open_items w c.block c.rest c.at c.past)),
        ) where
          open_items : (w : Found (old fold) p.block) (c : Block) (rest : List Block) → from_block src p.block ≡ c ∷ rest → length c.items ≤ p.item →
              All (λ (i : Item). Leaves (exit_of i.kind) → ⊥) w.block.items
          open_items w c rest at_c past d e lt leaves =
              let j = get_or w.block.items d e in
              let q : Pos = record { block = p.block; item = d } in
              let here : f.fetch q ≡ Here j = ap (λ (z : List Block). fetch_in z d) w.at ∙
              item_front w.block.items d w.block.source_end w.rest j (slice_get-get_or w.block.items d e lt) in
              let s = from_source q j here leaves in
              let home : s.0.block ≡ p.block =
              ap (λ (o : Origin). (position_of o).block) (sym s.3) ∙ from_home false (old fold) fold.resolve fold.sound.origins q j here in
              let there : srcp.fetch (record { block = p.block; item = s.0.item }) ≡ Here s.1 =
              ap (λ (z : ℕ). srcp.fetch (record { block = z; item = s.0.item })) (sym home) ∙ s.2 in
              let in_c : slice_get c.items s.0.item ≡ Some s.1 =
              front_item c.items s.0.item c.source_end rest s.1 (ap (λ (z : List Block). fetch_in z s.0.item) (sym at_c) ∙ there) in
              let below_end = slice_get_within c.items s.0.item s.1 in_c in
              down.open_above s.0.item s.1 (omega (arith, below_end, past)) there s.4

    -- where an edge of the source leads
    data Went (p q : Pos) : Type 0 where
      to_block : (n : ℕ) → HasWay p.block n → q ≡ block_start n → Went p q
      to_below : (i : Item) → srcp.fetch p ≡ Here i → (Leaves (exit_of i.kind) → ⊥) → q ≡ below p → Went p q

    went : (p q : Pos) → Down p → Edge srcp p q → Went p q
    went p q down edge = by_fetch (srcp.fetch p) refl edge where
      by_fetch : (x : Fetch) → srcp.fetch p ≡ x → FetchEdge (λ n. n) x p q → Went p q
      by_fetch (Here i) at e = elim (edge_item i.kind p q e) as (λ z. Went p q) [
        | inl w ↦ to_block w.0 (way_of_item p i w.0 at w.1) w.2
        | inr w ↦ to_below i at w.0 w.1
      ]
      by_fetch (EndOfBlock k n) at e = to_block n (way_of_end p k n down at) e
      by_fetch Outside at e = absurd e

    start_down : (n : ℕ) → WasReached n → Down (block_start n)
    start_down n r = record { reached = r; open_above = λ k i lt at l. (omega (arith, lt)) }

    down_on : (p q : Pos) → Down p → Edge srcp p q → Down q
    down_on p q down edge = by_way (went p q down edge) where
      by_way : Went p q → Down q
      by_way (to_block n w e) = subst Down (sym e) (start_down n (onward w.0 down.reached w.1 w.2))
      by_way (to_below i at opens e) = subst Down (sym e) (record {
        reached = down.reached;
        open_above = λ k j lt there l. elim (cases_eq k p.item) as (λ z. ⊥) [
          | inl same ↦ (let one : Here i ≡ Here j = sym at ∙ ap (λ (m : ℕ). srcp.fetch (record { block = p.block; item = m })) (sym same) ∙ there in
              let item : i ≡ j = cc in
              opens (subst (λ (z : Item). Leaves (exit_of z.kind)) (sym item) l))
          | inr other ↦ down.open_above k j (omega (arith, lt, other)) there l
        ];
      })

    down_along : {p q : Pos} → LeadsFrom srcp p q → Down p → Down q
    down_along stay d = d
    down_along (go {p} {q} {r} edge more) d = down_along more (down_on p q d edge)

    -- ---- back to the first block

    abbrev one : ℕ
    one = first_number src

    first_of_old : first_id (old fold) ≡ Some one
    first_of_old = by_blocks (old fold) fold.sound.last shape.first where
      by_blocks : (bs : List Block) → LastCloses bs → first_number bs ≡ one → first_id bs ≡ Some one
      by_blocks [] h e = absurd h
      by_blocks (b ∷ bs) h e = ap (λ (n : ℕ). Some n) e

    first_ends : end fold one ≡ one
    first_ends = one_end (lead (old fold)) (ends fold one) (leads_nowhere (by_option (lead (old fold) one) refl)) where
      by_option : (o : Option ℕ) → lead (old fold) one ≡ o → lead (old fold) one ≡ None
      by_option None e = e
      by_option (Some m) e = absurd ((lead_at (old fold) fold.sound.blocks_apart one m e).later first_of_old)

    first_new : first_number (new fold) ≡ one
    first_new = Rattle.fold_proof.proofs.Items.first_made (end fold) (stays fold) (was fold) (old fold) (old fold)
        (λ n e. (fold.kills.folded.reached n).1 (first e)) ∙ shape.first

    -- no block of the new function falls into its first one
    never_next : (b : ℕ) (block : Block) (after : List Block) → from_block (old fold) b ≡ block ∷ after → stays fold b ≡ true →
        is_number (first_id (staying (stays fold) after)) one ≡ false
    never_next b block after at st = by_test (is_number next one) refl where
      next : Option ℕ
      next = first_id (staying (stays fold) after)

      mb : Block
      mb = made_block (end fold) (stays fold) (was fold) (old fold) block after

      index_first : (bs : List Block) → index_of bs (first_number bs) ≡ 0
      index_first [] = refl
      index_first (c ∷ cs) = ap (λ (z : Bool). cond z 0 (suc (index_of cs c.id))) (eq-eqb c.id c.id refl)

      drop_all : (xs : List Item) → drop (length xs) xs ≡ []
      drop_all [] = refl
      drop_all (x ∷ xs) = drop_all xs

      is_next : (o : Option ℕ) → is_number o one ≡ true → o ≡ Some one
      is_next None e = cc
      is_next (Some m) e = ap (λ (z : ℕ). Some z) (Rattle.std.proofs.lemmas.Bool.eqb-true m one e)

      by_test : (z : Bool) → is_number next one ≡ z → is_number next one ≡ false
      by_test false e = e
      by_test true e =
          let there = made_at (end fold) (stays fold) (was fold) (old fold) (old fold) b block after at st in
          let falls = falls_from (new fold) b one mb (made (end fold) (stays fold) (was fold) (old fold) after) there
          (made_first (end fold) (stays fold) (was fold) (old fold) after ∙ is_next next e) (record { block = b; item = length mb.items }) refl
          (ap (λ (z : List Block). rest_in z (length mb.items)) there ∙ drop_all mb.items) in
          let lt = falls_down false (new fold) fold.resolve (apart_new fold) (record { block = b; item = length mb.items }) mb.source_end one falls in
          let none : index_of (new fold) one ≡ 0 = ap (index_of (new fold)) (sym first_new) ∙ index_first (new fold) in
          absurd (omega (arith, lt, none))

    pub back_new : (q : Pos) → LeadsFrom srcp (block_start one) q → Edge srcp q (block_start one) →
        (p : Pos) × (i : Item) × ((gp fold).fetch p ≡ Here i) × OnRow (GoesTo one) i.kind
    back_new q leads edge = by_way (went q (block_start one) down edge) where
      down : Down q
      down = down_along leads (start_down one (first first_of_old))

      to_first : HasWay q.block one → (p : Pos) × (i : Item) × ((gp fold).fetch p ≡ Here i) × OnRow (GoesTo one) i.kind
      to_first way =
          let reached : (n : ℕ) → Reached (old fold) (end fold) n → stays fold n ≡ true = λ n r. (fold.kills.folded.reached n).1 r in
          let back : (n : ℕ) → stays fold n ≡ true → Reached (old fold) (end fold) n = λ n s. (fold.kills.folded.reached n).0 s in
          let v = way_from (old fold) fold.sound.blocks_apart (end fold) (stays fold) (ends fold) reached back q.block one way.0
          (stays_or_way (old fold) fold.sound.blocks_apart (end fold) (stays fold) (ends fold) reached back down.reached) way.1 way.2 in
          let k = ways_found (old fold) v.block v.ways v.has in
          let b = k.0.block in
          let after = k.0.rest in
          let member = (found_in (old fold) v.block b after k.0.at).0 in
          let well = All-contains (λ (b : Block). EndsWell b.items) (old fold) b fold.sound.ends member in
          let next = first_id (staying (stays fold) after) in
          let source_end : Pos = record { block = b.id; item = b.source_end } in
          let g = way_goes (end fold) next (first_id after) source_end one (never_next v.block b after k.0.at v.stay) b.items v.to well
          (λ none. last_closes (old fold) v.block b (k.0.at ∙ ap (λ (z : List Block). b ∷ z) (none_after after none)) fold.sound.last)
          (subst (λ (w : Ways). LeadTo w v.to) k.1 v.leads) (v.is_end ∙ first_ends) in
          let anew = rewritten (end fold) next (first_id after) source_end b.items in
          let ks = kills (end fold) (was fold) (old fold) b.id in
          let s = at_of (ks ++ anew) g.0 (Contains-append_right ks anew g.0 g.1) in (
            record { block = v.block; item = s.0 },
            g.0,
            ap (λ (z : List Block). fetch_in z s.0) (made_at (end fold) (stays fold) (was fold) (old fold) (old fold) v.block b after k.0.at v.stay) ∙
                item_front (ks ++ anew) s.0 b.source_end (made (end fold) (stays fold) (was fold) (old fold) after) g.0 s.1,
            g.2,
          )

      by_way : Went q (block_start one) → (p : Pos) × (i : Item) × ((gp fold).fetch p ≡ Here i) × OnRow (GoesTo one) i.kind
      by_way (to_block n w e) =
          let same : one ≡ n = ap (λ (p : Pos). p.block) e in
          to_first (subst (HasWay q.block) (sym same) w)
      by_way (to_below i at opens e) = let k : 0 ≡ q.item + 1 = ap (λ (p : Pos). p.item) e in absurd (omega (arith, k))
