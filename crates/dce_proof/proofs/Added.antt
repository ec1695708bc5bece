-- All substitutions that are added stand, block by block from the last to the first.
use Rattle.std.proofs.Common.{◌≡◌, ◌⊎◌, inl, inr, ℕ, zero, suc, ◌+◌, ◌<◌, ◌≤◌, List, [], ◌∷◌, ◌++◌, length, take, drop, get_or, All}
use Rattle.std.proofs.Common.{Option, Some, None, Bool, true, false, slice_get, append-nil, refl, sym, ap, ◌∙◌, subst, arith}
use Rattle.std.specs.List.{flat_map}
use Rattle.std.proofs.Math.Nat.{le_refl}
use Rattle.std.proofs.lemmas.Grind.{flat_map-append}
use Rattle.std.proofs.lemmas.List.{append_assoc, length-take-le}
use Rattle.std.proofs.lemmas.List.Elements.{All-nil, All-cons, All-append, All-head, All-tail, All-weaker, Contains-append_right}
use Rattle.std.proofs.lemmas.Option.{slice_get_within}
use Rattle.mir_func.specs.declared.debug_substitution.DebugSubstitution.{DebugSubstitution}
use Rattle.mir_func.specs.declared.block.Block.{Block}
use Rattle.mir_func.specs.declared.item.Item.{Item}
use Rattle.mir_func.specs.declared.item.ItemKind.TheVariants.{Code}
use Rattle.mir_func.specs.Function.{Function}
use Rattle.mir_func.specs.Resolve.{entry_of}
use Rattle.rv64_instr.specs.Instruction.{Instruction}
use Rattle.mir_func.specs.Sound.{items_of, IsSound}
use Rattle.pass_trait.specs.Rule.{item}
use Rattle.pass_trait.specs.Sizes.{numbers_of, greatest_number}
use Rattle.pass_salvage.specs.declared.salvage_action.SalvageAction.{SalvageAction}
use Rattle.pass_salvage.specs.declared.salvage_action.SalvageAction.TheVariants.{HasEntry, GetsEntry, GetsPhi}
use Rattle.pass_salvage.specs.SalvageAction.{salvage_action}
use Rattle.pass_salvage.specs.Salvage.{entry_for, entries_for, above_after, fresh_after}
use Rattle.dce_round.proofs.pass_edits.Numbers.{AreUnlike, all_first, all_second, HasCode}
use Rattle.dce_round.proofs.pass_edits.Under.{KindUnder, EntryUnder, greatest_under, items_under, blocks_under, entries_under}
use Rattle.dce_salvage.specs.declared.salvage_numbers.Copied.{Copied}
use Rattle.dce_salvage.specs.SalvageNumbers.{numbered_copy, added_by_salvage, salvaged_from, salvaged_items, SoFar}
use Rattle.dce_salvage.specs.SalvageNumbers.{salvage_by, salvage_copy, copy_in, salvage_at, salvage_down}
use Rattle.pass_salvage.specs.SalvageAction.{going_from}
use Rattle.dce_salvage.specs.SalvageBlocks.{BlocksSoFar, in_block, salvage_block, salvage_next, salvage_blocks}
use Rattle.dce_salvage.proofs.Down.{off_long}
use Rattle.dce_round.specs.dce_salvage_proof.SalvageLaws.{begins_off, all_off}
use Rattle.dce_round.proofs.dce_salvage_proof.Copy.{copy_of, split_at, Ready, copy_goes}
use Rattle.dce_round.proofs.dce_salvage_proof.Chain.{BlocksReady}
use Rattle.dce_proof.proofs.Lines.{get_there}
use Rattle.dce_proof.proofs.Entries.{HasAbove, Stands, stand_on, old_stand, new_stands}

drop_zero : {A : Type 0} (xs : List A) → drop 0 xs ≡ xs
drop_zero [] = refl
drop_zero (x ∷ xs) = refl

-- ---- the items of a block

module _ (f : Function) (fs : List Block) (id source_end : ℕ) (gs : List Block) (dead : List Bool) (old : List DebugSubstitution) where
  -- the entries that were added, each of which stands, where the items from an index on are done
  pub record Going (n : ℕ) (a : SoFar) : Type 0 where
    pub ready : Ready f fs id source_end gs a.items a.subs a.fresh
    pub more : List DebugSubstitution
    pub is : a.subs ≡ old ++ more
    pub stand : All (Stands f fs id source_end gs dead a.items a.subs n) more

  step_on : (n : ℕ) (a : SoFar) (x : Item) → slice_get a.items n ≡ Some x → Going (suc n) a → Going n a
  step_on n a x at g = record {
    ready = g.ready;
    more = g.more;
    is = g.is;
    stand = All-weaker (Stands f fs id source_end gs dead a.items a.subs (suc n)) (Stands f fs id source_end gs dead a.items a.subs n)
        (stand_on f fs id source_end gs dead a.items a.subs n x (split_at a.items n x at).behind at) g.more g.stand;
  }

  step_copy : (n : ℕ) (a : SoFar) (x : Item) (c : Copied) → slice_get a.items n ≡ Some x → numbered_copy x.kind ≡ Some c → get_or dead n false ≡ true →
      Going (suc n) a → Going n (salvage_by n c a (salvage_action (going_from 0 dead) a.subs a.fresh c.number c.source (take n a.items)))
  step_copy n a x c at is goes g =
      let s = split_at a.items n x at in
      let w = copy_of x.kind c is in
      let up : List Item = take n a.items in
      let down : List Item = drop (suc n) a.items in
      let copy : Item = item (Code w.code (Some c.number)) x.origin x.loc in
      let same : x ≡ copy = (λ j. item (w.is j) x.origin x.loc) in
      let whole : a.items ≡ up ++ copy ∷ down = s.whole ∙ ap (λ (y : Item). up ++ y ∷ down) same in
      let rest : drop n a.items ≡ copy ∷ down = s.behind ∙ ap (λ (y : Item). y ∷ down) same in
      let lt : n < length a.items = slice_get_within a.items n x at in
      let long : length up ≡ n = length-take-le n a.items (omega (arith, lt)) in
      let v : SalvageAction = salvage_action (going_from 0 dead) a.subs a.fresh c.number c.source (take n a.items) in
      let r : Ready f fs id source_end gs (up ++ copy ∷ down) a.subs a.fresh =
      subst (λ (xs : List Item). Ready f fs id source_end gs xs a.subs a.fresh) whole g.ready in
      let one = copy_goes f fs id source_end gs c.number c.source w.target up w.code x.origin x.loc down a.subs a.fresh 0 w.row r (going_from 0 dead)
      c.own v refl in
      let items : List Item = above_after v up ++ (added_by_salvage v c x.origin ++ item (Code w.code None) x.origin x.loc ∷ down) in
      let made : items ≡ salvaged_items v n c a.items = ap (λ (ys : List Item). above_after v up ++ salvaged_from v c ys) (sym rest) in
      let under : All (EntryUnder a.fresh) g.more = all_second (EntryUnder a.fresh) old g.more (subst (All (EntryUnder a.fresh)) g.is r.in_entries) in
      let before : All (Stands f fs id source_end gs dead (up ++ copy ∷ down) a.subs (suc n)) g.more =
      subst (λ (xs : List Item). All (Stands f fs id source_end gs dead xs a.subs (suc n)) g.more) whole g.stand in
      let P : DebugSubstitution → Type 0 = Stands f fs id source_end gs dead items (a.subs ++ entries_for v c.number) n in
      let olds : All (Stands f fs id source_end gs dead items (a.subs ++ entries_for v c.number) n) g.more =
      (λ j y inside. old_stand f fs id source_end gs dead n c.number c.source c.own up w.code x.origin x.loc down a.subs a.fresh long r goes v refl
      (get_or g.more j y) ((under j y inside).0) (before j y inside)) in
      record {
        ready = subst (λ (ys : List Item). Ready f fs id source_end gs ys (a.subs ++ entries_for v c.number) (fresh_after v a.fresh)) made one.ready;
        more = g.more ++ entries_for v c.number;
        is = ap (λ (es : List DebugSubstitution). es ++ entries_for v c.number) g.is ∙ append_assoc old g.more (entries_for v c.number);
        stand = subst (λ (ys : List Item). All (Stands f fs id source_end gs dead ys (a.subs ++ entries_for v c.number) n)
            (g.more ++ entries_for v c.number)) made
            (All-append (Stands f fs id source_end gs dead items (a.subs ++ entries_for v c.number) n) g.more (entries_for v c.number) olds
            (by_way w.code up down long r v refl));
      } where
        by_way : (i : Instruction) (up down : List Item) (long : length up ≡ n)
            (r : Ready f fs id source_end gs (up ++ item (Code i (Some c.number)) x.origin x.loc ∷ down) a.subs a.fresh) (v : SalvageAction) →
            salvage_action (going_from 0 dead) a.subs a.fresh c.number c.source up ≡ v →
            All (Stands f fs id source_end gs dead (above_after v up ++ (added_by_salvage v c x.origin ++ item (Code i None) x.origin x.loc ∷ down))
            (a.subs ++ entries_for v c.number) n) (entries_for v c.number)
        by_way i up down long r HasEntry e = All-nil (Stands f fs id source_end gs dead (up ++ item (Code i None) x.origin x.loc ∷ down) (a.subs ++ []) n)
        by_way i up down long r GetsPhi e =
            All-nil (Stands f fs id source_end gs dead (up ++ (added_by_salvage GetsPhi c x.origin ++ item (Code i None) x.origin x.loc ∷ down))
            (a.subs ++ []) n)
        by_way i up down long r (GetsEntry d p m) e =
            let made : List Item = above_after (GetsEntry d p m) up ++ item (Code i None) x.origin x.loc ∷ down in
            All-cons (Stands f fs id source_end gs dead made (a.subs ++ entry_for c.number m p ∷ []) n) (entry_for c.number m p) []
            (new_stands f fs id source_end gs dead n c.number c.source c.own up i x.origin x.loc down a.subs a.fresh long r goes d p m e)
            (All-nil (Stands f fs id source_end gs dead made (a.subs ++ entry_for c.number m p ∷ []) n))

  pub record Next (n : ℕ) (a : SoFar) : Type 0 where
    pub going : Going n a
    pub long : n ≤ length a.items

  step : (n : ℕ) (goes : Bool) (a : SoFar) → get_or dead n false ≡ goes → n < length a.items → Going (suc n) a →
      Next n (salvage_at (going_from 0 dead) n goes a)
  step n goes a is lt g = by_item (get_there a.items n lt) where
    by_item : (x : Item) × (slice_get a.items n ≡ Some x) → Next n (salvage_at (going_from 0 dead) n goes a)
    by_item (x, at) = by_goes goes is where
      stays : Next n a
      stays = record { going = step_on n a x at g; long = omega (arith, lt) }

      state : (c : Option Copied) → numbered_copy x.kind ≡ c → salvage_at (going_from 0 dead) n true a ≡ salvage_copy (going_from 0 dead) n a c
      state c e = ap (λ (o : Option Item). salvage_copy (going_from 0 dead) n a (copy_in o)) at ∙ ap (salvage_copy (going_from 0 dead) n a) e

      by_copy : get_or dead n false ≡ true → (c : Option Copied) → numbered_copy x.kind ≡ c → Next n (salvage_at (going_from 0 dead) n true a)
      by_copy dies None e = subst (Next n) (sym (state None e)) stays
      by_copy dies (Some c) e =
          let v : SalvageAction = salvage_action (going_from 0 dead) a.subs a.fresh c.number c.source (take n a.items) in
          let more = off_long v n c a.items in
          subst (Next n) (sym (state (Some c) e)) (record { going = step_copy n a x c at e dies g; long = omega (arith, lt, more) })

      by_goes : (z : Bool) → get_or dead n false ≡ z → Next n (salvage_at (going_from 0 dead) n z a)
      by_goes false h = stays
      by_goes true h = by_copy h (numbered_copy x.kind) refl

  pub all_steps : (n : ℕ) (a : SoFar) → n ≤ length a.items → Going n a → Going 0 (salvage_down (going_from 0 dead) dead n a)
  all_steps zero a le g = g
  all_steps (suc n) a le g =
      let k = step n (get_or dead n false) a refl (omega (arith, le)) g in
      all_steps n (salvage_at (going_from 0 dead) n (get_or dead n false) a) k.long k.going

-- ---- all blocks

pub record StandsIn (above gs : List Block) (subs : List DebugSubstitution) (e : DebugSubstitution) : Type 0 where
  pub whole : (e.src.operand ≡ 0) × (e.subreg ≡ 0)
  pub gone : AreUnlike e.src.number (items_of (above ++ gs))
  pub given : HasCode e.dst.number (items_of gs)
  pub end : entry_of subs e.dst ≡ None

module _ (f : Function) (old : List DebugSubstitution) where
  pub record Through (above gs : List Block) (subs : List DebugSubstitution) (fresh : ℕ) : Type 0 where
    pub ready : BlocksReady f (above ++ gs) subs fresh
    pub more : List DebugSubstitution
    pub is : subs ≡ old ++ more
    pub stand : All (StandsIn above gs subs) more

  abbrev B : ℕ → Block → Type 0
  B b c = All (λ (x : Item). KindUnder b x.kind) c.items

  all_items : (above : List Block) (b : Block) (gs : List Block) → items_of (above ++ b ∷ gs) ≡ items_of above ++ (b.items ++ items_of gs)
  all_items above b gs = flat_map-append (λ (c : Block). c.items) above (b ∷ gs)

  one_block : (above : List Block) (b : Block) (d : List Bool) (m : BlocksSoFar) → Through (above ++ b ∷ []) m.blocks m.subs m.fresh →
      Through above (salvage_next d b m).blocks (salvage_next d b m).subs (salvage_next d b m).fresh
  one_block above b d m t =
      let same : (above ++ b ∷ []) ++ m.blocks ≡ above ++ b ∷ m.blocks = append_assoc above (b ∷ []) m.blocks in
      let r : BlocksReady f (above ++ b ∷ m.blocks) m.subs m.fresh = subst (λ (cs : List Block). BlocksReady f cs m.subs m.fresh) same t.ready in
      let rest = all_second (B m.fresh) above (b ∷ m.blocks) r.in_blocks in
      let start : Going f above b.id b.source_end m.blocks d old (length b.items) (in_block b m) = record {
        ready = record {
          sound = r.sound;
          in_above = all_first (B m.fresh) above (b ∷ m.blocks) r.in_blocks;
          in_items = All-head (B m.fresh) b m.blocks rest;
          in_behind = All-tail (B m.fresh) b m.blocks rest;
          in_entries = r.in_entries;
        };
        more = t.more;
        is = t.is;
        stand = All-weaker (StandsIn (above ++ b ∷ []) m.blocks m.subs) (Stands f above b.id b.source_end m.blocks d b.items m.subs (length b.items))
            (λ e h. record {
              whole = h.whole;
              gone = subst (AreUnlike e.src.number) (ap (λ (cs : List Block). items_of cs) same ∙ all_items above b m.blocks) h.gone;
              given = inl (h.given.0, Contains-append_right (drop (length b.items) b.items) (items_of m.blocks) h.given.0 h.given.1, h.given.2);
              end = h.end;
            }) t.more t.stand;
      } in
      let e : SoFar = salvage_block d b m in
      let g : Going f above b.id b.source_end m.blocks d old 0 (salvage_block d b m) =
      all_steps f above b.id b.source_end m.blocks d old (length b.items) (in_block b m) (le_refl (length b.items)) start in
      record {
        ready = record {
          sound = g.ready.sound;
          in_blocks = All-append (B e.fresh) above (record b { items = e.items } ∷ m.blocks) g.ready.in_above
              (All-cons (B e.fresh) (record b { items = e.items }) m.blocks g.ready.in_items g.ready.in_behind);
          in_entries = g.ready.in_entries;
        };
        more = g.more;
        is = g.is;
        stand = All-weaker (Stands f above b.id b.source_end m.blocks d e.items e.subs 0) (StandsIn above (record b { items = e.items } ∷ m.blocks) e.subs)
            (λ x h. record {
              whole = h.whole;
              gone = subst (AreUnlike x.src.number) (sym (all_items above (record b { items = e.items }) m.blocks)) h.gone;
              given = by_given x.dst.number e.items h.given;
              end = h.end;
            }) g.more g.stand;
      } where
        by_given : (k : ℕ) (items : List Item) → HasCode k (drop 0 items ++ items_of m.blocks) ⊎ HasAbove d items 0 k →
            HasCode k (items ++ items_of m.blocks)
        by_given k items (inl h) = subst (λ (zs : List Item). HasCode k (zs ++ items_of m.blocks)) (drop_zero items) h
        by_given k items (inr h) = absurd (let lt = h.2 in omega (arith, lt))

  pub through : (above bs : List Block) (ds : List (List Bool)) (a : BlocksSoFar) → a.blocks ≡ [] → a.subs ≡ old → BlocksReady f (above ++ bs) a.subs a.fresh →
      Through above (salvage_blocks ds bs a).blocks (salvage_blocks ds bs a).subs (salvage_blocks ds bs a).fresh
  through above [] ds a none start r = record {
    ready = subst (λ (cs : List Block). BlocksReady f (above ++ cs) a.subs a.fresh) (sym none) r;
    more = [];
    is = start ∙ sym (append-nil old);
    stand = All-nil (StandsIn above a.blocks a.subs);
  }
  through above (b ∷ bs) ds a none start r =
      one_block above b (get_or ds 0 []) (salvage_blocks (drop 1 ds) bs a)
      (through (above ++ b ∷ []) bs (drop 1 ds) a none start
      (subst (λ (cs : List Block). BlocksReady f cs a.subs a.fresh) (sym (append_assoc above (b ∷ []) bs)) r))

pub all_added : (f : Function) (subs : List DebugSubstitution) (dead : List (List Bool)) → IsSound f →
    Through f subs [] (all_off f subs dead).blocks (all_off f subs dead).subs (all_off f subs dead).fresh
all_added f subs dead sound =
    let m : ℕ = greatest_number f subs in
    let on_items : List ℕ = flat_map (λ (i : Item). numbers_of i.kind) (items_of f.blocks) in
    let in_subs : List ℕ = flat_map (λ (e : DebugSubstitution). e.src.number ∷ e.dst.number ∷ []) subs in
    let all : All (λ (n : ℕ). n < m + 1) (on_items ++ in_subs) = greatest_under m (on_items ++ in_subs) (le_refl m) in
    through f subs [] f.blocks dead (begins_off f subs) refl refl (record {
      sound = sound;
      in_blocks = blocks_under (m + 1) f.blocks (items_under (m + 1) (items_of f.blocks) (all_first (λ (n : ℕ). n < m + 1) on_items in_subs all));
      in_entries = entries_under (m + 1) subs (all_second (λ (n : ℕ). n < m + 1) on_items in_subs all);
    })
