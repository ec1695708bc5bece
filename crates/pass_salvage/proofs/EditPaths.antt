-- Paths of a function, after its blocks are edited item by item.
use Rattle.std.proofs.Common.{◌≡◌, ◌⊎◌, inl, inr, ℕ, ◌<◌, List, [], ◌∷◌, drop, Option, true, false, refl, sym}
use Rattle.std.proofs.Common.{ap, ◌∙◌, subst}
use Rattle.mir_func.specs.declared.debug_substitution.OperandPair.{OperandPair}
use Rattle.mir_func.specs.declared.position.Pos.{Pos}
use Rattle.mir_func.specs.declared.position.Origin.TheVariants.{Before}
use Rattle.mir_func.specs.declared.block.Block.{Block}
use Rattle.mir_func.specs.declared.item.Item.{Item}
use Rattle.mir_func.specs.declared.item.ItemKind.{ItemKind}
use Rattle.mir_func.specs.declared.item.ItemKind.TheVariants.{Code, Mark, Phi}
use Rattle.mir_func.specs.Graph.{Fetch, Here, EndOfBlock, Outside, Program, below, block_start, front, fetch_in, from_block, program_of, KindEdge}
use Rattle.mir_func.specs.Graph.{FetchEdge, Edge, Leads, stay, go, rest_in, rest_of}
use Rattle.mir_func.specs.Positions.{position_of}
use Rattle.rv64_instr.specs.LocationEffects.{IsSlotStore}
use Rattle.sem_agreement.specs.sem_mir.Align.{is_code}
use Rattle.sem_agreement.specs.sem_mir.Follow.{OnRow, Counts, IsMetApart}
use Rattle.sem_mir.proofs.Edges.{leads_trans}
use Rattle.sem_simulation.proofs.Laid.{laid_out}
use Rattle.sem_agreement.specs.sem_simulation.MatchStates.{IsPastItems}
use Rattle.pass_trait.proofs.Thinning.{first_of_front, none_of_front}
use Rattle.pass_salvage.proofs.Kin.{Kin, kin_edge, kin_save, GoesAlike}
use Rattle.pass_salvage.proofs.Edits.{Edits, Edited, over, pair, out, put, BlocksEdited, no_blocks, next_block, comes_from}
use Rattle.pass_salvage.proofs.Edits.{above_on, IsPaired}
use Rattle.pass_salvage.proofs.Edits.{blocks_from, starts_edited, ends_same}

debug_edge : (k : ItemKind) → is_code k ≡ false → (p : Pos) → KindEdge (λ n. n) k p (below p)
debug_edge (Code i n) e p = cc
debug_edge (Mark v m) e p = refl
debug_edge (Phi r n) e p = refl

save_code : (k : ItemKind) → OnRow IsSlotStore k → is_code k ≡ true
save_code (Code i n) h = refl
save_code (Mark v m) h = absurd h
save_code (Phi p n) h = absurd h

module _ (E : Edits) (fs gs : List Block) (edited : BlocksEdited E fs gs) (resolve resolve' : OperandPair → Option OperandPair)
    (empty : (n : ℕ) → E.IsOver (E.entry n)) (falls : (k k' : E.Stage) (x : Item) → E.Out k k' x → (p q : Pos) → KindEdge (λ n. n) x.kind p q → q ≡ below
    p) where
  abbrev f : Program
  f = program_of false fs resolve

  abbrev g : Program
  g = program_of false gs resolve'

  -- what is left of the block at p became what is left of it at p'
  pub record Beside (p p' : Pos) : Type 0 where
    pub block : p'.block ≡ p.block
    pub stage : E.Stage
    pub rest : Edited E stage (rest_of fs p) (rest_of gs p')

  -- past a block's items g ends where f does
  end_on : (p p' : Pos) (j n : ℕ) → p'.block ≡ p.block → rest_of gs p' ≡ [] → f.fetch p ≡ EndOfBlock j n → g.fetch p' ≡ EndOfBlock j n
  end_on p p' j n same none e =
      by_blocks (from_block fs p.block) (from_block gs p.block) (ap (from_block gs) same) (blocks_from E fs gs edited p.block) e where
        by_blocks : (cs bs : List Block) → from_block gs p'.block ≡ bs → BlocksEdited E cs bs → fetch_in cs p.item ≡ EndOfBlock j n →
            g.fetch p' ≡ EndOfBlock j n
        by_blocks cs bs at no_blocks h = cc
        by_blocks (a ∷ cs) (b ∷ bs) at (next_block id source_end items rest) h =
            let t = none_of_front (drop p.item a.items) a.source_end cs j n h in
            let r : drop p'.item b.items ≡ [] = ap (λ (z : List Block). rest_in z p'.item) (sym at) ∙ none in
            ap (λ (z : List Block). fetch_in z p'.item) at ∙ ap (λ
            (z : List Item). front z b.source_end bs) r ∙ ends_same E a.source_end b.source_end cs bs source_end rest ∙
            t.1

  -- one step of f's path, and g's
  step_on : (p q p' : Pos) (k : E.Stage) (xs ys : List Item) → p'.block ≡ p.block → rest_of fs p ≡ xs → rest_of gs p' ≡ ys → Edited E k xs ys → Edge f p q →
      (q' : Pos) × Leads g p' q' × Beside q q'
  step_on p q p' k xs ys same left right (over done) e = by_fetch (f.fetch p) refl ((laid_out false fs resolve).nil p left).0 e where
    by_fetch : (x : Fetch) → f.fetch p ≡ x → IsPastItems (f.fetch p) → FetchEdge (λ n. n) (f.fetch p) p q → (q' : Pos) × Leads g p' q' × Beside q q'
    by_fetch (Here i) at past e = absurd (subst IsPastItems at past)
    by_fetch Outside at past e = absurd (subst (λ (z : Fetch). FetchEdge (λ n. n) z p q) at e)
    by_fetch (EndOfBlock j n) at past e =
        let there : g.fetch p' ≡ EndOfBlock j n = end_on p p' j n same right at in
        let e' : q ≡ block_start n = subst (λ (z : Fetch). FetchEdge (λ n. n) z p q) at e in
        let edge : Edge g p' (block_start n) = subst (λ (z : Fetch). FetchEdge (λ n. n) z p' (block_start n)) (sym there) refl in (
          block_start n,
          go edge stay,
          record {
            block = ap (λ (z : Pos). z.block) (sym e');
            stage = E.entry n;
            rest = subst (λ (z : Pos). Edited E (E.entry n) (rest_of fs z) (rest_of gs (block_start n))) (sym e')
                (starts_edited E fs gs edited false resolve resolve' empty n);
          },
        )
  step_on p q p' k (x ∷ xs) (y ∷ ys) same left right (pair {k' = l} origin kin how rest) e =
      let at = (laid_out false fs resolve).cons p x xs left in
      let at' = (laid_out false gs resolve').cons p' y ys right in
      by_goal at.0 at.1 at'.0 at'.1 (kin_edge x.kind y.kind kin p q p' (subst (λ (z : Fetch). FetchEdge (λ n. n) z p q) at.0 e)) where
        by_goal : f.fetch p ≡ Here x → rest_of fs (below p) ≡ xs → g.fetch p' ≡ Here y → rest_of gs (below p') ≡ ys → GoesAlike (KindEdge (λ n. n) y.kind) p q
            p' →
            (q' : Pos) × Leads g p' q' × Beside q q'
        by_goal at more at' more' (inl w) = (
          below p',
          go (subst (λ (z : Fetch). FetchEdge (λ n. n) z p' (below p')) (sym at') w.1) stay,
          record {
            block = same ∙ ap (λ (z : Pos). z.block) (sym w.0);
            stage = l;
            rest = subst (λ (z : Pos). Edited E l (rest_of fs z) (rest_of gs (below p'))) (sym w.0)
                (subst (λ (zs : List Item). Edited E l zs (rest_of gs (below p'))) (sym more) (subst (λ (zs : List Item). Edited E l xs zs) (sym more') rest));
          },
        )
        by_goal at more at' more' (inr w) = (
          block_start w.0,
          go (subst (λ (z : Fetch). FetchEdge (λ n. n) z p' (block_start w.0)) (sym at') w.2) stay,
          record {
            block = ap (λ (z : Pos). z.block) (sym w.1);
            stage = E.entry w.0;
            rest = subst (λ (z : Pos). Edited E (E.entry w.0) (rest_of fs z) (rest_of gs (block_start w.0))) (sym w.1)
                (starts_edited E fs gs edited false resolve resolve' empty w.0);
          },
        )
  step_on p q p' k (x ∷ xs) ys same left right (out {k' = l} how rest) e =
      let at = (laid_out false fs resolve).cons p x xs left in
      let down : q ≡ below p = falls k l x how p q (subst (λ (z : Fetch). FetchEdge (λ n. n) z p q) at.0 e) in (
        p',
        stay,
        record {
          block = same ∙ ap (λ (z : Pos). z.block) (sym down);
          stage = l;
          rest = subst (λ (z : Pos). Edited E l (rest_of fs z) (rest_of gs p')) (sym down)
              (subst (λ (zs : List Item). Edited E l zs (rest_of gs p')) (sym at.1) (subst (λ (zs : List Item). Edited E l xs zs) (sym right) rest));
        },
      )
  step_on p q p' k (x ∷ xs) (y ∷ ys) same left right (put {k' = l} none origin how rest) e =
      let at' = (laid_out false gs resolve').cons p' y ys right in
      let r = step_on p q (below p') l (x ∷ xs) ys same left at'.1 rest e in
      (r.0, go (subst (λ (z : Fetch). FetchEdge (λ n. n) z p' (below p')) (sym at'.0) (debug_edge y.kind none p')) r.1, r.2)

  -- all of it
  path_on : {p q : Pos} → Leads f p q → (p' : Pos) → Beside p p' → (q' : Pos) × Leads g p' q' × Beside q q'
  path_on stay p' b = (p', stay, b)
  path_on (go {p} {q} edge rest) p' b =
      let one = step_on p q p' b.stage (rest_of fs p) (rest_of gs p') b.block refl refl b.rest edge in
      let more = path_on rest one.0 one.2 in
      (more.0, leads_trans g one.1 more.1, more.2)

  -- and on to what stands for an item that isn't taken out
  reach : (q q' : Pos) (x : Item) (k : E.Stage) (xs ys : List Item) → rest_of fs q ≡ xs → rest_of gs q' ≡ ys → Edited E k xs ys → f.fetch q ≡ Here x →
      ((k k' : E.Stage) → E.Out k k' x → ⊥) → (r : Pos) × (y : Item) × Leads g q' r × (g.fetch r ≡ Here y) × (x.origin ≡ y.origin) × Kin x.kind y.kind ×
      IsPaired E x y
  reach q q' x k xs ys left right (over done) at stays = absurd (subst IsPastItems at ((laid_out false fs resolve).nil q left).0)
  reach q q' x k (u ∷ xs) (y ∷ ys) left right (pair {k' = l} origin kin how rest) at stays =
      let here = (laid_out false fs resolve).cons q u xs left in
      let there = (laid_out false gs resolve').cons q' y ys right in
      let both : Here u ≡ Here x = sym here.0 ∙ at in
      let w : u ≡ x = cc in (
        q',
        y,
        stay,
        there.0,
        ap (λ (i : Item). i.origin) (sym w) ∙ origin,
        subst (λ (i : Item). Kin i.kind y.kind) w kin,
        (k, l, subst (λ (i : Item). E.Pair k l i y) w how),
      )
  reach q q' x k (u ∷ xs) ys left right (out {k' = l} how rest) at stays =
      let here = (laid_out false fs resolve).cons q u xs left in
      let both : Here u ≡ Here x = sym here.0 ∙ at in
      let w : u ≡ x = cc in
      absurd (stays k l (subst (λ (i : Item). E.Out k l i) w how))
  reach q q' x k (u ∷ xs) (y ∷ ys) left right (put {k' = l} none origin how rest) at stays =
      let there = (laid_out false gs resolve').cons q' y ys right in
      let r = reach q (below q') x l (u ∷ xs) ys left there.1 rest at stays in
      (r.0, r.1, go (subst (λ (z : Fetch). FetchEdge (λ n. n) z q' (below q')) (sym there.0) (debug_edge y.kind none q')) r.2, r.3, r.4, r.5, r.6)

  -- so what f met apart from a slot store, g meets, where what counts stays and counts
  pub stores_on : ((k k' : E.Stage) (x : Item) → E.Out k k' x → OnRow Counts x.kind → ⊥) →
      ((k k' : E.Stage) (x y : Item) → E.Pair k k' x y → OnRow Counts x.kind → OnRow Counts y.kind) →
      (b : ℕ) (source_end : ℕ) →
      ((p : Pos) (i : Item) → p.block ≡ b → f.fetch p ≡ Here i → OnRow IsSlotStore i.kind → i.origin ≡ Before (record { block = b; item = source_end }) →
      (q : Pos) × (j : Item) × IsMetApart f p source_end q j) →
      (p : Pos) (i : Item) → p.block ≡ b → g.fetch p ≡ Here i → OnRow IsSlotStore i.kind → i.origin ≡ Before (record { block = b; item = source_end }) →
      (q : Pos) × (j : Item) × IsMetApart g p source_end q j
  stores_on gone counts b source_end met p y same at save o = by_blocks (from_block fs p.block) (from_block gs p.block) refl refl
      (blocks_from E fs gs edited p.block) at where
        by_blocks : (cs bs : List Block) → from_block fs p.block ≡ cs → from_block gs p.block ≡ bs → BlocksEdited E cs bs → fetch_in bs p.item ≡ Here y →
            (q : Pos) × (j : Item) × IsMetApart g p source_end q j
        by_blocks cs bs atf atg no_blocks h = cc
        by_blocks (a ∷ cs) (c ∷ bs) atf atg (next_block id end items rest) h =
            let t = first_of_front (drop p.item c.items) c.source_end bs y h in
            let s = comes_from E a.items c.items items p.item y t.0 t.1 (save_code y.kind save) in
            let pf : Pos = record { block = p.block; item = s.index } in
            let here : f.fetch pf ≡ Here s.item = ap (λ (z : List Block). fetch_in z s.index) atf ∙ ap (λ (z : List Item). front z a.source_end cs) s.at in
            let w = met pf s.item same here (kin_save s.item.kind y.kind s.kin save) (s.origin ∙ o) in
            by_witness t.0 t.1 pf refl w.0 w.1 w.2 where
              by_witness : (more : List Item) (e : drop p.item c.items ≡ y ∷ more) (pf : Pos) →
                  pf ≡ record { block = p.block; item = (comes_from E a.items c.items items p.item y more e (save_code y.kind save)).index } → (q : Pos)
                  (j : Item) →
                  IsMetApart f pf source_end q j → (q : Pos) × (j : Item) × IsMetApart g p source_end q j
              by_witness more e pf is q j w = by_side w.3 where
                stays : (k k' : E.Stage) → E.Out k k' j → ⊥
                stays k k' how = gone k k' j how w.1

                block_is : pf.block ≡ p.block
                block_is = ap (λ (z : Pos). z.block) is

                by_side : ((q.block ≡ pf.block) × (q.item < pf.item)) ⊎ Leads f pf q → (q : Pos) × (j : Item) × IsMetApart g p source_end q j
                by_side (inl up) =
                    let in_block : from_block fs q.block ≡ a ∷ cs = ap (from_block fs) (up.0 ∙ block_is) ∙ atf in
                    let there : fetch_in (a ∷ cs) q.item ≡ Here j = sym (ap (λ (z : List Block). fetch_in z q.item) in_block) ∙ w.0 in
                    let u = first_of_front (drop q.item a.items) a.source_end cs j there in
                    let lt : q.item < (comes_from E a.items c.items items p.item y more e (save_code y.kind save)).index =
                    subst (λ (n : ℕ). q.item < n) (ap (λ (z : Pos). z.item) is) up.1 in
                    let r = above_on E a.items c.items items p.item y more e (save_code y.kind save) q.item j u.0 u.1 lt stays in
                    let q' : Pos = record { block = p.block; item = r.0 } in (
                      q',
                      r.1,
                      (
                        ap (λ (z : List Block). fetch_in z r.0) atg ∙ ap (λ (z : List Item). front z c.source_end bs) r.4,
                        counts r.7.0 r.7.1 j r.1 r.7.2 w.1,
                        (λ same'. w.2 (ap position_of r.5 ∙ same' ∙ ap (λ (n : ℕ). record { block = n; item = source_end }) (sym block_is))),
                        inl (refl, r.3),
                      ),
                    )
                by_side (inr leads) =
                    let s = comes_from E a.items c.items items p.item y more e (save_code y.kind save) in
                    let left : rest_of fs pf ≡ s.item ∷ s.rest = ap (rest_of fs) is ∙ ap (λ (z : List Block). rest_in z s.index) atf ∙ s.at in
                    let right : rest_of gs p ≡ y ∷ more = ap (λ (z : List Block). rest_in z p.item) atg ∙ e in
                    let start : Beside pf p = record {
                      block = sym block_is;
                      stage = s.stage;
                      rest = subst (λ (zs : List Item). Edited E s.stage zs (rest_of gs p)) (sym left)
                          (subst (λ (zs : List Item). Edited E s.stage (s.item ∷ s.rest) zs) (sym right) s.edited);
                    } in
                    let on = path_on leads p start in
                    let r = reach q on.0 j on.2.stage (rest_of fs q) (rest_of gs on.0) refl refl on.2.rest w.0 stays in (
                      r.0,
                      r.1,
                      (
                        r.3,
                        counts r.6.0 r.6.1 j r.1 r.6.2 w.1,
                        (λ same'. w.2 (ap position_of r.4 ∙ same' ∙ ap (λ (n : ℕ). record { block = n; item = source_end }) (sym block_is))),
                        inr (leads_trans g on.1 r.2),
                      ),
                    )
