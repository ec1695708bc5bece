-- What is folded is a sound function.
use Rattle.std.proofs.Common.{◌≡◌, ℕ, List, [], ◌∷◌, All, Contains, Some, IsTrue, refl, sym, subst, inr, arith}
use Rattle.std.proofs.lemmas.List.Elements.{All-weaker}
use Rattle.mir_func.specs.declared.block.Block.{Block}
use Rattle.mir_func.specs.declared.item.Item.{Item}
use Rattle.mir_func.specs.Function.{Function}
use Rattle.mir_func.specs.Exits.{exit_of}
use Rattle.mir_func.specs.Sound.{ids_of, TargetsIn, SlotsIn, ObjectsIn, LeavesPointer, OriginIn, LastCloses, IsSound, KindPassesFirst}
use Rattle.fold_targets.specs.Leads.{first_id, lead}
use Rattle.fold_rule.specs.Reached.{first, onward}
use Rattle.fold_rule.specs.Rule.{staying, folded_blocks, AreFolded}
use Rattle.fold_rule_proof.proofs.Rows.{GoesIn, targets_kind}
use Rattle.fold_rule_proof.proofs.Tails.{IsGood}
use Rattle.fold_rule_proof.proofs.Numbers.{once_from, folded_comes}
use Rattle.fold_rule_proof.proofs.Blocks.{has_from, contains_from, apart_folded, few_folded, folded_has, Targets, lead_stays, end_stays, ways_goes}
use Rattle.fold_rule_proof.proofs.Blocks.{WaysStay, AllGood, AllPlain, good_blocks, ends_blocks, last_blocks}

module _ (f : Function) (sound : IsSound f) (new : List Block) (a : AreFolded f.blocks new) where
  abbrev old : List Block
  old = f.blocks

  abbrev made : List Block
  made = folded_blocks a.end a.stays old

  -- each item's slots, objects, operands and origin are as they must be
  plain : AllPlain f.slots f.objects a.end a.stays [] old
  plain k d lt j e within = record {
    slot = sound.slots k d lt j e within;
    passed = sound.passed k d lt j e within;
    object = sound.objects k d lt j e within;
    pointer = sound.pointer k d lt j e within;
    origin = sound.origins k d lt j e within;
  }

  targets : All (λ (b : Block). Targets (ids_of old) b.items) old
  targets = All-weaker (λ (b : Block). All (λ (i : Item). TargetsIn (ids_of old) i.kind) b.items) (λ (b : Block). Targets (ids_of old) b.items)
      (λ b h. All-weaker (λ (i : Item). TargetsIn (ids_of old) i.kind) (λ (i : Item). GoesIn (ids_of old) (exit_of i.kind))
      (λ i g. targets_kind (ids_of old) i.kind g) b.items h) old sound.targets

  ways : WaysStay f.slots f.objects a.end a.stays (ids_of made) old
  ways q n w k e l =
      let here : Contains (ids_of old) n = ways_goes (ids_of old) old q n w targets (λ m h. contains_from (ids_of old) m h) e l in
      let there : Contains (ids_of old) (a.end n) = end_stays (ids_of old) (lead old)
      (λ q m t. lead_stays (ids_of old) old q m targets (λ m h. contains_from (ids_of old) m h) t) (a.ends n) here in
      let stay : IsTrue (a.stays (a.end n)) = (a.reached (a.end n)).1 (onward w ((a.reached q).0 k) e l) in
      contains_from (ids_of made) (a.end n) (folded_has a.end a.stays old (a.end n) (has_from (ids_of old) (a.end n) there) stay)

  good : AllGood f.slots f.objects a.end a.stays (ids_of made) made
  good = good_blocks f.slots f.objects a.end a.stays (ids_of made) old sound.blocks_apart sound.ends (inr sound.last) plain ways

  first_stays : (m : ℕ) × (first_id (staying a.stays old) ≡ Some m)
  first_stays = by_blocks old sound.last (λ n e. (a.reached n).1 (first e)) where
    by_blocks : (bs : List Block) → LastCloses bs → ((n : ℕ) → first_id bs ≡ Some n → IsTrue (a.stays n)) → (m : ℕ) × (first_id (staying a.stays bs) ≡ Some m)
    by_blocks [] l stay = absurd l
    by_blocks (b ∷ bs) l stay = (b.id, rw (stay b.id refl) refl)

  each : (P : Block → Item → Type 0) → ((b : Block) (i : Item) → IsGood (ids_of made) f.slots f.objects b i → P b i) →
      All (λ (b : Block). All (P b) b.items) made
  each P to = All-weaker (λ (b : Block). All (IsGood (ids_of made) f.slots f.objects b) b.items) (λ (b : Block). All (P b) b.items)
      (λ b h. All-weaker (IsGood (ids_of made) f.slots f.objects b) (P b) (to b) b.items h) made good

  sound_made : IsSound (record f { blocks = made })
  sound_made = record {
    blocks_apart = apart_folded a.end a.stays old sound.blocks_apart;
    slots_apart = sound.slots_apart;
    objects_apart = sound.objects_apart;
    few_blocks = (let le = few_folded a.end a.stays old in let few = sound.few_blocks in omega (arith, le, few));
    few_slots = sound.few_slots;
    each_object = sound.each_object;
    objects_laid = sound.objects_laid;
    targets = each (λ b i. TargetsIn (ids_of made) i.kind) (λ b i g. g.target);
    slots = each (λ b i. SlotsIn f.slots i.kind) (λ b i g. g.plain.slot);
    passed = each (λ b i. KindPassesFirst f.slots i.kind) (λ b i g. g.plain.passed);
    objects = each (λ b i. ObjectsIn f.objects i.kind) (λ b i g. g.plain.object);
    pointer = each (λ b i. LeavesPointer i.kind) (λ b i g. g.plain.pointer);
    numbers = once_from (folded_comes a.end a.stays old) sound.numbers;
    origins = each (λ b i. OriginIn b i.origin) (λ b i g. g.plain.origin);
    ends = ends_blocks f.slots f.objects a.end a.stays (ids_of made) old sound.ends (inr sound.last);
    last = (last_blocks f.slots f.objects a.end a.stays (ids_of made) old sound.ends (inr sound.last)).1 first_stays.0 first_stays.1;
  }

  pub sound_folded : IsSound (record f { blocks = new })
  sound_folded = subst (λ (bs : List Block). IsSound (record f { blocks = bs })) (sym a.blocks) sound_made
