-- What lowering makes is a function with its frame.
use Rattle.std.proofs.Common.{◌≡◌, ℕ, zero, suc, ◌≤◌, List, [], ◌∷◌, map, All, Contains, refl, sym, ap, ◌∙◌, subst, arith}
use Rattle.std.proofs.lemmas.List.Elements.{All-nil, All-cons, All-head, All-tail, All-weaker, All-contains_itself}
use Rattle.mir_func.specs.declared.block.Block.{Block}
use Rattle.mir_func.specs.declared.framed.SavedRegister.{SavedRegister}
use Rattle.mir_func.specs.declared.item.Item.{Item}
use Rattle.mir_func.specs.declared.position.Origin.{Origin}
use Rattle.mir_func.specs.declared.position.Origin.TheVariants.{Before}
use Rattle.mir_func.specs.Function.{Function}
use Rattle.mir_func.specs.Graph.{block_start}
use Rattle.mir_func.specs.Sound.{AreApart, ids_of, AllItems, TargetsIn, LeavesPointer, EndsWell, LastCloses, IsSound}
use Rattle.mir_func.specs.SoundFrame.{SAVED, own_size, HasPhysical, prologue_code, epilogue_code, AreCode, GivesBack, HasFrame, body_of, NumberedAlike}
use Rattle.mir_func.specs.SoundFrame.{KindReaches, IsFramed}
use Rattle.frame_rule.specs.Rule.{saved_of, own_size_of, size_of, reach_of, added_all, framed_block, framed_blocks, framed_of}
use Rattle.frame_rule.proofs.Reach.{size_fits, extent_fits, addresses_fit}
use Rattle.frame_rule.proofs.Saved.{saved_in, none_saved}
use Rattle.frame_rule.proofs.Offsets.{offsets_apart, offsets_laid, offsets_fit, count_is}
use Rattle.frame_rule.proofs.Parts.{slots_hold, passed_hold, objects_hold, addresses_hold, targets_hold, physical_holds}
use Rattle.frame_rule.proofs.Ends.{saved_ascend, are_code, ends_well, last_closes, gives_back, leaves_all}

module _ (f : Function) (sound : IsSound f) where
  same_ids : (bs : List Block) → ids_of (map (framed_block f) bs) ≡ ids_of bs
  same_ids [] = refl
  same_ids (b ∷ bs) = ap (λ (ns : List ℕ). b.id ∷ ns) (same_ids bs)

  ends_all : (bs : List Block) → All (λ b. EndsWell b.items) bs → All (λ b. EndsWell b.items) (map (framed_block f) bs)
  ends_all [] h = All-nil (λ (b : Block). EndsWell b.items)
  ends_all (b ∷ bs) h =
      let P : Block → Type 0 = λ c. EndsWell c.items in
      All-cons P (framed_block f b) (map (framed_block f) bs) (ends_well f b.items (All-head P b bs h)) (ends_all bs (All-tail P b bs h))

  gives_all : (n : ℕ) → size_of f ≡ suc n → (bs : List Block) → AllItems (λ i. LeavesPointer i.kind) bs → All (λ b. EndsWell b.items) bs →
      All (λ b. GivesBack (epilogue_code (size_of f) (saved_of f)) b.items) (map (framed_block f) bs)
  gives_all n made [] leaves ends = All-nil (λ (b : Block). GivesBack (epilogue_code (size_of f) (saved_of f)) b.items)
  gives_all n made (b ∷ bs) leaves ends =
      let P : Block → Type 0 = λ c. All (λ (i : Item). LeavesPointer i.kind) c.items in
      let Q : Block → Type 0 = λ c. EndsWell c.items in
      All-cons (λ (b : Block). GivesBack (epilogue_code (size_of f) (saved_of f)) b.items) (framed_block f b) (map (framed_block f) bs)
      (gives_back f n made b.items (All-head P b bs leaves) (All-head Q b bs ends)) (gives_all n made bs (All-tail P b bs leaves) (All-tail Q b bs ends))

  leave_all : size_of f ≡ 0 → (bs : List Block) → AllItems (λ i. LeavesPointer i.kind) bs → AllItems (λ i. LeavesPointer i.kind) (map (framed_block f) bs)
  leave_all none [] h = All-nil (λ (b : Block). All (λ (i : Item). LeavesPointer i.kind) b.items)
  leave_all none (b ∷ bs) h =
      let P : Block → Type 0 = λ c. All (λ (i : Item). LeavesPointer i.kind) c.items in
      All-cons P (framed_block f b) (map (framed_block f) bs) (leaves_all f b.items none (All-head P b bs h)) (leave_all none bs (All-tail P b bs h))

  prologue_is : (n : ℕ) → size_of f ≡ suc n → (o : Origin) →
      AreCode (added_all (size_of f) o (prologue_code (size_of f) (saved_of f))) (prologue_code (size_of f) (saved_of f))
  prologue_is n made o =
      subst (λ (m : ℕ). AreCode (added_all m o (prologue_code (size_of f) (saved_of f))) (prologue_code (size_of f) (saved_of f))) (sym made)
      (are_code o (prologue_code (size_of f) (saved_of f)))

  has_frame : (b : Block) (more : List Block) → AllItems (λ i. LeavesPointer i.kind) (b ∷ more) → All (λ c. EndsWell c.items) (b ∷ more) →
      HasFrame (size_of f) (saved_of f) (framed_blocks f (b ∷ more))
  has_frame b more leaves ends =
      subst (λ (n : ℕ). HasFrame n (saved_of f) (framed_blocks f (b ∷ more))) refl (by_size (size_of f) refl) where
        by_size : (n : ℕ) → size_of f ≡ n → HasFrame n (saved_of f) (framed_blocks f (b ∷ more))
        by_size zero none = (
          ap (λ (m : ℕ). added_all m (Before (block_start b.id)) (prologue_code (size_of f) (saved_of f))) none,
          none_saved f none,
          leave_all none (b ∷ more) leaves,
        )
        by_size (suc n) made = (
          subst (λ (m : ℕ). AreCode (added_all (size_of f) (Before (block_start b.id)) (prologue_code (size_of f) (saved_of f))) (prologue_code m (saved_of f)))
              made (prologue_is n made (Before (block_start b.id))),
          subst (λ (m : ℕ). All (λ c. GivesBack (epilogue_code m (saved_of f)) c.items) (map (framed_block f) (b ∷ more))) made
              (gives_all n made (b ∷ more) leaves ends),
        )

  pub is_framed : reach_of f ≤ 2032 → AllItems (λ i. HasPhysical i.kind) f.blocks → IsFramed (framed_of f)
  is_framed fits physical = by_blocks f.blocks refl sound.last where
    saved_all : All (λ s. Contains SAVED s.register) (saved_of f)
    saved_all = All-weaker (Contains (saved_of f)) (λ (s : SavedRegister). Contains SAVED s.register) (λ s k. saved_in f s k) (saved_of f)
        (All-contains_itself (saved_of f))

    by_blocks : (bs : List Block) → f.blocks ≡ bs → LastCloses bs → IsFramed (framed_of f)
    by_blocks [] e closes = absurd closes
    by_blocks (b ∷ more) e closes =
        let body : body_of (framed_blocks f f.blocks) ≡ map (framed_block f) f.blocks =
        subst (λ (bs : List Block). body_of (framed_blocks f bs) ≡ map (framed_block f) bs) (sym e) refl in
        let ids : ids_of (body_of (framed_blocks f f.blocks)) ≡ ids_of f.blocks = ap ids_of body ∙ same_ids f.blocks in
        let own : own_size (framed_of f) ≡ own_size_of f = omega arith in
        record {
          aligned = omega arith;
          small = size_fits f 2032 fits;
          room = omega arith;
          reach = omega (arith, extent_fits f 2032 fits);
          few = (let a = count_is f in let b = sound.few_slots in omega (arith, a, b));
          offsets = offsets_fit f;
          offsets_apart = offsets_apart f;
          offsets_laid = offsets_laid f;
          each_object = sound.each_object;
          objects_apart = sound.objects_apart;
          objects_laid = sound.objects_laid;
          slots = slots_hold f f.blocks sound.slots;
          passed = passed_hold f sound.slots_apart f.blocks sound.passed;
          objects = objects_hold f f.blocks sound.objects;
          addresses = subst (λ (n : ℕ). AllItems (λ i. KindReaches n f.objects i.kind) (framed_blocks f f.blocks)) (sym own)
              (addresses_hold f (own_size_of f) f.blocks (addresses_fit f fits));
          saved = saved_ascend f;
          saved_kept = saved_all;
          physical = physical_holds f f.blocks physical;
          frame = subst (λ (bs : List Block). HasFrame (size_of f) (saved_of f) (framed_blocks f bs)) (sym e)
              (has_frame b more (subst (AllItems (λ i. LeavesPointer i.kind)) e sound.pointer) (subst (All (λ c. EndsWell c.items)) e sound.ends));
          number = subst (λ (bs : List Block). NumberedAlike (framed_blocks f bs)) (sym e) refl;
          blocks_apart = subst AreApart (sym ids) sound.blocks_apart;
          targets = subst (λ (ns : List ℕ). AllItems (λ i. TargetsIn ns i.kind) (framed_blocks f f.blocks)) (sym ids)
              (targets_hold f (ids_of f.blocks) f.blocks sound.targets);
          ends = subst (All (λ c. EndsWell c.items)) (sym body) (ends_all f.blocks sound.ends);
          last = subst LastCloses (sym body) (last_closes f f.blocks sound.last);
        }
