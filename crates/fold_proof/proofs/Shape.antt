-- A folded function has the shape of one that follows the source.
use Rattle.std.proofs.Common.{◌≡◌, ◌⊎◌, ℕ, zero, suc, ◌+◌, ◌<◌, List, [], ◌∷◌, ◌++◌, length, slice_get, All, Contains, Option, Some, None, refl, sym}
use Rattle.std.proofs.Common.{ap, ◌∙◌, subst}
use Rattle.std.proofs.Common.{inl, inr, arith, true, false}
use Rattle.std.proofs.lemmas.List.Elements.{All-contains}
use Rattle.std.proofs.lemmas.Option.{slice_get_within}
use Rattle.rv64_instr.specs.Row.{Row, StoresSlot, row_of}
use Rattle.rv64_instr.specs.LocationEffects.{IsSlotStore}
use Rattle.mir_func.specs.declared.block.Block.{Block}
use Rattle.mir_func.specs.declared.debug_substitution.OperandPair.{OperandPair}
use Rattle.mir_func.specs.declared.exit.Exit.{Exit}
use Rattle.mir_func.specs.declared.exit.Exit.TheVariants.{Onward, Perhaps, Always, Final}
use Rattle.mir_func.specs.declared.item.Item.{Item}
use Rattle.mir_func.specs.declared.item.ItemKind.{ItemKind}
use Rattle.mir_func.specs.declared.item.ItemKind.TheVariants.{Code, Mark, Phi}
use Rattle.mir_func.specs.declared.position.Pos.{Pos}
use Rattle.mir_func.specs.declared.position.Origin.TheVariants.{Before}
use Rattle.mir_func.specs.Exits.{row_exit, exit_of, IsAlways}
use Rattle.mir_func.specs.Graph.{Program, Here, fetch_in, from_block, program_of, Leads as LeadsFrom, stay}
use Rattle.mir_func.specs.Sound.{IsJumpAtMost, MayFollow, EndsWell, Closes}
use Rattle.mir_func.specs.Positions.{position_of}
use Rattle.sem_mir.specs.Follow.{InOrder, KindFits, StaysVolatile, MarkFits, OnRow, IsEnd, Shape, IsMetApart, EndIsKept, EndComesFrom}
use Rattle.sem_mir.proofs.Reading.{found, found_in, item_front}
use Rattle.fold_targets.specs.Leads.{first_id}
use Rattle.fold_rule.specs.Tails.{rewritten}
use Rattle.fold_rule.specs.Reached.{first}
use Rattle.fold_rule.specs.Rule.{staying}
use Rattle.fold_rule_proof.specs.Kills.{kills}
use Rattle.fold_rule_proof.proofs.Kills.{IsKillKind, IsKill, each_kill}
use Rattle.fold_proof.proofs.Placed.{made_was}
use Rattle.fold_proof.proofs.Along.{last_closes, none_after}
use Rattle.fold_proof.proofs.Folding.{Folding, old, end, stays, was, new, fp, gp, apart_new}
use Rattle.fold_proof.proofs.Items.{among_made, first_made, each_made, Facts, order_made, fits_made, volatile_made, marks_made}
use Rattle.fold_proof.proofs.Paths.{stands_in, back_new}
use Rattle.fold_proof.proofs.Tails.{nothing_at, onward_was}
use Rattle.fold_proof.proofs.Stores.{at_new, Above, above, stand_along, stands_there}

split_put : (ks xs : List Item) (n : ℕ) (i : Item) → slice_get (ks ++ xs) n ≡ Some i → Contains ks i ⊎
    ((k : ℕ) × (n ≡ length ks + k) × (slice_get xs k ≡ Some i))
split_put [] xs n i e = inr (n, omega arith, e)
split_put (x ∷ ks) xs zero i e = let same : x ≡ i = cc in inl (0, omega arith, same)
split_put (x ∷ ks) xs (suc n) i e = elim (split_put ks xs n i e) as (λ z. Contains (x ∷ ks) i ⊎
    ((k : ℕ) × (suc n ≡ suc (length ks) + k) × (slice_get xs k ≡ Some i))) [
      | inl c ↦ inl (suc c.0, (let l = c.1 in omega (arith, l)), c.2)
      | inr w ↦ inr (w.0, (let l = w.1 in omega (arith, l)), w.2)
    ]

store_kind : (k : ItemKind) → IsKillKind k → OnRow IsSlotStore k → ⊥
store_kind (Mark v m) h s = s
store_kind (Phi p n) h s = s
store_kind (Code i n) h s = h

store_passed : (k : ItemKind) → OnRow IsSlotStore k → exit_of k ≡ Onward
store_passed (Code i n) s = by_row (row_of i) s where
  by_row : (r : Row) → IsSlotStore r → row_exit r ≡ Onward
  by_row (StoresSlot rs m) h = refl
  by_row _ h = absurd h
store_passed (Mark v m) s = absurd s
store_passed (Phi p n) s = absurd s

-- above an item that control goes on past it goes on past all
passed_above : (xs : List Item) (k : ℕ) (y : Item) → EndsWell xs → slice_get xs k ≡ Some y → exit_of y.kind ≡ Onward → (j : ℕ) (i : Item) → j < k →
    slice_get xs j ≡ Some i → exit_of i.kind ≡ Onward
passed_above [] k y ends at e j i lt there = cc
passed_above (x ∷ xs) zero y ends at e j i lt there = absurd (omega (arith, lt))
passed_above (x ∷ xs) (suc k) y ends at e j i lt there = by_exit (exit_of x.kind) refl ends.0 j lt there
    (λ m l q. passed_above xs k y ends.1 at e m i l q) where
      only_jump : (ys : List Item) (k : ℕ) → IsJumpAtMost ys → slice_get ys k ≡ Some y → ⊥
      only_jump [] k may q = cc
      only_jump (z ∷ []) zero may q =
          let same : z ≡ y = cc in
          let w : IsAlways (exit_of y.kind) = subst (λ (i : Item). IsAlways (exit_of i.kind)) same may in
          subst IsAlways e w
      only_jump (z ∷ []) (suc k) may q = cc
      only_jump (z ∷ u ∷ ys) k may q = absurd may

      by_exit : (q : Exit) → exit_of x.kind ≡ q → MayFollow q xs → (j : ℕ) → j < suc k → slice_get (x ∷ xs) j ≡ Some i →
          ((m : ℕ) → m < k → slice_get xs m ≡ Some i → exit_of i.kind ≡ Onward) → exit_of i.kind ≡ Onward
      by_exit Onward h may zero lt there more = let same : x ≡ i = cc in ap (λ (z : Item). exit_of z.kind) (sym same) ∙ h
      by_exit Onward h may (suc j) lt there more = more j (omega (arith, lt)) there
      by_exit (Perhaps t) h may j lt there more = absurd (only_jump xs k may at)
      by_exit (Always t) h may j lt there more = absurd (nothing_at xs k y may at)
      by_exit Final h may j lt there more = absurd (nothing_at xs k y may at)

module _ (fold : Folding) (src : List Block) (subs : OperandPair → Option OperandPair) where
  abbrev srcp : Program
  srcp = program_of true src subs

  abbrev f : Program
  f = fp fold

  abbrev g : Program
  g = gp fold

  module _ (shape : Shape src (old fold) srcp f) (count : length (old fold) ≡ length src)
      (kept : (p : Pos) (i : Item) → srcp.fetch p ≡ Here i → OnRow IsEnd i.kind → EndIsKept f p i)
      (only : (q : Pos) (j : Item) → f.fetch q ≡ Here j → OnRow IsEnd j.kind → EndComesFrom srcp j) where
    facts : All (Facts srcp) (old fold)
    facts k d lt = record {
      ends = fold.sound.ends k d lt;
      order = shape.order k d lt;
      fits = shape.items k d lt;
      volatile = shape.volatile k d lt;
      marks = shape.marks k d lt;
      origins = fold.sound.origins k d lt;
    }

    stores : (b : Block) → Contains (new fold) b → (p : Pos) (i : Item) → p.block ≡ b.id → g.fetch p ≡ Here i → OnRow IsSlotStore i.kind →
        i.origin ≡ Before (record { block = b.id; item = b.source_end }) → (q : Pos) × (j : Item) × IsMetApart g p b.source_end q j
    stores b member p i same at save o =
        elim (split_put lost anew p.item i in_b) as (λ z. (q : Pos) × (j : Item) × IsMetApart g p b.source_end q j) [
          | inl c ↦ absurd (store_kind i.kind (All-contains (IsKill w.block.id) lost i (each_kill (end fold) (was fold) (old fold) w.block.id) c).kind save)
          | inr k ↦ was_store k.0 k.1 k.2
        ] where
          there : Rattle.sem_mir.proofs.Reading.FoundAt (new fold) b
          there = found (new fold) (apart_new fold) b member

          w : Rattle.fold_proof.proofs.Placed.WasBlock (end fold) (stays fold) (was fold) (old fold) b.id b there.rest
          w = made_was (end fold) (stays fold) (was fold) (old fold) b.id b there.rest there.at

          id : w.block.id ≡ b.id
          id = (found_in (old fold) b.id w.block w.rest w.at).1

          lost : List Item
          lost = kills (end fold) (was fold) (old fold) w.block.id

          next : Option ℕ
          next = first_id (staying (stays fold) w.rest)

          source_end : Pos
          source_end = record { block = w.block.id; item = w.block.source_end }

          anew : List Item
          anew = rewritten (end fold) next (first_id w.rest) source_end w.block.items

          in_b : slice_get (lost ++ anew) p.item ≡ Some i
          in_b = let s = stands_in false (new fold) fold.resolve p i at in
              let both : s.block ∷ s.rest ≡ b ∷ there.rest = sym s.at ∙ ap (from_block (new fold)) same ∙ there.at in
              let one : s.block ≡ b = cc in
              ap (λ (c : Block). slice_get c.items p.item) (sym (one ∙ w.same)) ∙ s.item

          member_old : Contains (old fold) w.block
          member_old = (found_in (old fold) b.id w.block w.rest w.at).0

          well : EndsWell w.block.items
          well = All-contains (λ (b : Block). EndsWell b.items) (old fold) w.block fold.sound.ends member_old

          onto : first_id w.rest ≡ None → Closes w.block.items
          onto none = last_closes (old fold) b.id w.block (w.at ∙ ap (λ (z : List Block). w.block ∷ z) (none_after w.rest none)) fold.sound.last

          silent_same : b.source_end ≡ w.block.source_end
          silent_same = ap (λ (c : Block). c.source_end) w.same

          was_store : (k : ℕ) → p.item ≡ length lost + k → slice_get anew k ≡ Some i → (q : Pos) × (j : Item) × IsMetApart g p b.source_end q j
          was_store k index in_anew =
              let onward = store_passed i.kind save in
              let stood : slice_get w.block.items k ≡ Some i = onward_was (end fold) next
              (first_id w.rest) source_end w.block.items k i well onto in_anew onward in
              let here : f.fetch p' ≡ Here i = ap (λ (z : List Block). fetch_in z k) at_p ∙ item_front w.block.items k w.block.source_end w.rest i stood in
              let origin : i.origin ≡ Before (record { block = w.block.id; item = w.block.source_end }) =
              o ∙ (λ t. Before (record { block = sym id t; item = silent_same t })) in
              let met = shape.stores w.block member_old p' i (same ∙ sym id) here save origin in
              by_met met.0 met.1 met.2 onward stood where
                p' : Pos
                p' = record { block = p.block; item = k }

                at_p : from_block (old fold) p.block ≡ w.block ∷ w.rest
                at_p = ap (from_block (old fold)) same ∙ w.at

                stay_p : stays fold p.block ≡ true
                stay_p = ap (stays fold) same ∙ w.stay

                by_met : (q : Pos) (j : Item) → IsMetApart f p' w.block.source_end q j → exit_of i.kind ≡ Onward → slice_get w.block.items k ≡ Some i →
                    (q : Pos) × (j : Item) × IsMetApart g p b.source_end q j
                by_met q j met onward stood = elim met.3 as (λ z. (q : Pos) × (j : Item) × IsMetApart g p b.source_end q j) [
                  | inl before ↦ (at_new fold p q, j, (near before.0 before.1, met.1, far, inl (before.0, nearer before.0 before.1)))
                  | inr leads ↦ (let s = stands_there fold p q j (stand_along fold p leads (above stand)) met.0 met.1 in
                      (at_new fold p q, j, (s.0, met.1, far, inr s.1)))
                ] where
                  far : position_of j.origin ≡ record { block = p.block; item = b.source_end } → ⊥
                  far e = met.2 (e ∙ ap (λ (n : ℕ). record { block = p.block; item = n }) silent_same)

                  lost_p : kills (end fold) (was fold) (old fold) p.block ≡ lost
                  lost_p = ap (kills (end fold) (was fold) (old fold)) (same ∙ sym id)

                  in_place : at_new fold p p' ≡ p
                  in_place =
                      let n : length (kills (end fold) (was fold) (old fold) p.block) + k ≡ p.item =
                      ap (λ (ks : List Item). length ks + k) lost_p ∙ sym index in
                      ap (λ (m : ℕ). record { block = p.block; item = m }) n

                  stand : Above fold p p'
                  stand = record {
                    block = w.block;
                    after = w.rest;
                    at = at_p;
                    stay = stay_p;
                    within = (let lt = slice_get_within w.block.items k i stood in omega (arith, lt));
                    passed = λ m x lt e. passed_above w.block.items k i well stood onward m x lt e;
                    arrived = subst (LeadsFrom g p) (sym in_place) stay;
                  }

                  nearer : q.block ≡ p.block → q.item < k → length (kills (end fold) (was fold) (old fold) q.block) + q.item < p.item
                  nearer bq lt =
                      let n : length (kills (end fold) (was fold) (old fold) q.block) ≡ length lost =
                      ap (λ (m : ℕ). length (kills (end fold) (was fold) (old fold) m)) (bq ∙ same ∙ sym id) in
                      omega (arith, lt, n, index)

                  near : q.block ≡ p.block → q.item < k → g.fetch (at_new fold p q) ≡ Here j
                  near bq lt =
                      let at_q : from_block (old fold) q.block ≡ w.block ∷ w.rest = ap (from_block (old fold)) bq ∙ at_p in
                      (stands_there fold (at_new fold p q) q j (above {p = q} (record {
                        block = w.block;
                        after = w.rest;
                        at = at_q;
                        stay = ap (stays fold) bq ∙ stay_p;
                        within = (let top = slice_get_within w.block.items k i stood in omega (arith, lt, top));
                        passed = λ m x l e. passed_above w.block.items k i well stood onward m x (omega (arith, l, lt)) e;
                        arrived = stay;
                      })) met.0 met.1).0

    pub shape_new : Shape src (new fold) srcp g
    shape_new = record {
      among = among_made (end fold) (stays fold) (was fold) (old fold) shape.among;
      first = first_made (end fold) (stays fold) (was fold) (old fold) (old fold) (λ n e. (fold.kills.folded.reached n).1 (first e)) ∙ shape.first;
      back = back_new fold src subs shape count kept only;
      order = each_made (end fold) (stays fold) (was fold) (old fold) (Facts srcp) (λ b. InOrder b.id 0 b.items)
          (order_made (end fold) (stays fold) (was fold) (old fold) srcp) (old fold) facts (inr fold.sound.last);
      items = each_made (end fold) (stays fold) (was fold) (old fold) (Facts srcp) (λ b. All (λ (i : Item). KindFits srcp i.kind b.source_end i.origin) b.items)
          (fits_made (end fold) (stays fold) (was fold) (old fold) srcp) (old fold) facts (inr fold.sound.last);
      volatile = each_made (end fold) (stays fold) (was fold) (old fold) (Facts srcp) (λ b. All (λ (i : Item). StaysVolatile srcp i.kind i.origin) b.items)
          (volatile_made (end fold) (stays fold) (was fold) (old fold) srcp) (old fold) facts (inr fold.sound.last);
      stores = stores;
      marks = each_made (end fold) (stays fold) (was fold) (old fold) (Facts srcp) (λ b. All (λ (i : Item). MarkFits i.kind i.origin) b.items)
          (marks_made (end fold) (stays fold) (was fold) (old fold) srcp) (old fold) facts (inr fold.sound.last);
    }

pub folded_has_shape : Rattle.fold_proof.specs.Shapes.FoldedHasShape
folded_has_shape f g src subs resolve sound forms kills shape count kept only =
    let fold : Folding = record {
      f = f;
      g = g;
      sound = sound;
      forms = forms;
      kills = kills;
      resolve = resolve;
      kept = λ q j at e. (let w = only q j at e in (w.0, w.3));
      order = shape.order;
    } in
    subst (λ (bs : List Block). Shape src bs (program_of true src subs) (program_of false bs resolve)) (sym (Rattle.fold_proof.proofs.Folding.new_is fold))
    (shape_new fold src subs shape count kept only)
