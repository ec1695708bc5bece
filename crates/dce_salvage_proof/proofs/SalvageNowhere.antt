-- Code loses its number and nothing gets it, or a phi of nothing.
use Rattle.std.proofs.Common.{◌≡◌, ℕ, suc, ◌≤◌, List, [], ◌∷◌, ◌++◌, length, All, Option, Some, None, refl, sym, ap, subst}
use Rattle.std.proofs.lemmas.List.Elements.{All-append, All-cons, All-head, All-tail, All-weaker}
use Rattle.rv64_instr.specs.Instruction.{Instruction}
use Rattle.rv64_instr.specs.Row.{Moves, row_of}
use Rattle.mir_func.specs.declared.debug_substitution.DebugSubstitution.{DebugSubstitution}
use Rattle.mir_func.specs.declared.position.Origin.{Origin}
use Rattle.mir_func.specs.declared.position.Origin.TheVariants.{Kept, Before}
use Rattle.mir_func.specs.declared.location.Loc.{Loc}
use Rattle.mir_func.specs.declared.exit.Exit.{Exit}
use Rattle.mir_func.specs.declared.exit.Exit.TheVariants.{Onward, Perhaps, Always, Final}
use Rattle.mir_func.specs.declared.block.Block.{Block}
use Rattle.mir_func.specs.declared.item.Item.{Item}
use Rattle.mir_func.specs.declared.item.ItemKind.{ItemKind}
use Rattle.mir_func.specs.declared.item.ItemKind.TheVariants.{Code, Phi}
use Rattle.mir_func.specs.Exits.{exit_of}
use Rattle.mir_func.specs.Function.{Function}
use Rattle.mir_func.specs.Limits.{MAX_BLOCKS}
use Rattle.rv64_instr.specs.declared.place.Place.{Place}
use Rattle.rv64_instr.specs.declared.place.Place.TheVariants.{Register}
use Rattle.mir_func.specs.Sound.{AreApart, AllItems, ids_of, OriginIn, PlaceIn, TargetsIn, SlotsIn, ObjectsIn, LeavesPointer, IsJumpAtMost, MayFollow, EndsWell}
use Rattle.mir_func.specs.Sound.{Closes, LastCloses, IsSound, KindPassesFirst}
use Rattle.pass_trait.specs.Rule.{item, item_before}
use Rattle.pass_salvage.proofs.Kin.{row_itself, code_kin}
use Rattle.pass_salvage.proofs.Edits.{Edits, pair, put}
use Rattle.dce_salvage_proof.specs.Dropped.{DropPair, elsewhere, drops, puts, drop_edits}
use Rattle.dce_salvage_proof.proofs.DropNowhere.{number_to_nowhere}
use Rattle.pass_edits.specs.Edits.{stays, same_code}
use Rattle.pass_edits.proofs.Numbers.{IsUnlike, AreUnlike, all_first, all_second, HasNoOther, keeps, fewer_same, fewer_behind}
use Rattle.pass_edits.proofs.Sound.{edited_sound}
use Rattle.pass_edits.proofs.Around.{block_of, with_block, stays_items, stays_above, stays_blocks, around, edited_same, edited_above, edited_around}
use Rattle.pass_edits.proofs.Others.{BlocksUnlike, others_of, once_around}
use Rattle.pass_edits.proofs.Loose.{Step}
use Rattle.pass_edits.proofs.ToPhi.{to_phi}

-- the phi of nothing that stands for a number
abbrev pub phi_none : (k : ℕ) → Origin → Item
phi_none k o = item_before (Phi None k) o

-- ---- one phi gives nothing

one_item : (P : Item → Type 0) (up : List Item) (p q : Item) (down : List Item) → (P p → P q) → All P (up ++ p ∷ down) → All P (up ++ q ∷ down)
one_item P up p q down f h =
    let rest = all_second P up (p ∷ down) h in
    All-append P up (q ∷ down) (all_first P up (p ∷ down) h) (All-cons P q down (f (All-head P p down rest)) (All-tail P p down rest))

one_block : (Q : Block → Type 0) (above : List Block) (a b : Block) (behind : List Block) → (Q a → Q b) → All Q (above ++ a ∷ behind) →
    All Q (above ++ b ∷ behind)
one_block Q above a b behind f h =
    let rest = all_second Q above (a ∷ behind) h in
    All-append Q above (b ∷ behind) (all_first Q above (a ∷ behind) h) (All-cons Q b behind (f (All-head Q a behind rest)) (All-tail Q a behind rest))

ids_around : (above : List Block) (a b : Block) (behind : List Block) → b.id ≡ a.id → ids_of (above ++ b ∷ behind) ≡ ids_of (above ++ a ∷ behind)
ids_around [] a b behind e = ap (λ (n : ℕ). n ∷ ids_of behind) e
ids_around (c ∷ above) a b behind e = ap (λ (ns : List ℕ). c.id ∷ ns) (ids_around above a b behind e)

as_many : (above : List Block) (a b : Block) (behind : List Block) → length (above ++ b ∷ behind) ≡ length (above ++ a ∷ behind)
as_many [] a b behind = refl
as_many (c ∷ above) a b behind = ap suc (as_many above a b behind)

-- a phi, whatever it asks for
abbrev pub phi_at : Option Place → (k : ℕ) → Origin → Item
phi_at x k o = item_before (Phi x k) o

module _ (x y : Option Place) (k : ℕ) (o : Origin) where
  abbrev was : Item
  was = phi_at x k o

  abbrev now : Item
  now = phi_at y k o

  jump_none : (up down : List Item) → IsJumpAtMost (up ++ was ∷ down) → IsJumpAtMost (up ++ now ∷ down)
  jump_none [] [] h = absurd h
  jump_none [] (d ∷ down) h = absurd h
  jump_none (u ∷ []) down h = absurd h
  jump_none (u ∷ v ∷ up) down h = absurd h

  never_empty : (up : List Item) (z : Item) (down : List Item) → up ++ z ∷ down ≡ [] → ⊥
  never_empty [] z down e = cc
  never_empty (u ∷ up) z down e = cc

  may_follow : (e : Exit) (up down : List Item) → MayFollow e (up ++ was ∷ down) → MayFollow e (up ++ now ∷ down)
  may_follow Onward up down h = tt
  may_follow (Perhaps n) up down h = jump_none up down h
  may_follow (Always n) up down h = absurd (never_empty up was down h)
  may_follow Final up down h = absurd (never_empty up was down h)

  ends_well : (up down : List Item) → EndsWell (up ++ was ∷ down) → EndsWell (up ++ now ∷ down)
  ends_well [] down h = h
  ends_well (u ∷ up) down h = (may_follow (exit_of u.kind) up down h.0, ends_well up down h.1)

  closes_first : (down : List Item) → Closes (was ∷ down) → Closes (now ∷ down)
  closes_first [] h = h
  closes_first (d ∷ down) h = h

  closes : (up down : List Item) → Closes (up ++ was ∷ down) → Closes (up ++ now ∷ down)
  closes [] down h = closes_first down h
  closes (u ∷ []) down h = closes_first down h
  closes (u ∷ v ∷ up) down h = closes (v ∷ up) down h

  module _ (id source_end : ℕ) (up down : List Item) where
    abbrev had : Block
    had = block_of id source_end (up ++ was ∷ down)

    abbrev has : Block
    has = block_of id source_end (up ++ now ∷ down)

    last_closes : (above behind : List Block) → LastCloses (above ++ had ∷ behind) → LastCloses (above ++ has ∷ behind)
    last_closes [] [] h = closes up down h
    last_closes [] (b ∷ behind) h = h
    last_closes (a ∷ []) behind h = last_closes [] behind h
    last_closes (a ∷ c ∷ above) behind h = last_closes (c ∷ above) behind h

    origin_same : (p : Origin) → OriginIn had p → OriginIn has p
    origin_same (Kept p) h = h
    origin_same (Before p) h = h

    origins_same : (xs : List Item) → All (λ (i : Item). OriginIn had i.origin) xs → All (λ (i : Item). OriginIn has i.origin) xs
    origins_same xs h = All-weaker (λ (i : Item). OriginIn had i.origin) (λ (i : Item). OriginIn has i.origin) (λ i z. origin_same i.origin z) xs h

    module _ (f : Function) (above behind : List Block) where
      each : (P : ItemKind → Type 0) → P now.kind → AllItems (λ i. P i.kind) (above ++ had ∷ behind) → AllItems (λ i. P i.kind) (above ++ has ∷ behind)
      each P n h =
          one_block (λ (b : Block). All (λ (i : Item). P i.kind) b.items) above had has behind
          (λ z. one_item (λ (i : Item). P i.kind) up was now down (λ v. n) z) h

      pub phi_sound : ((slots : List ℕ) → PlaceIn slots y) → IsSound (with_block f above id source_end (up ++ was ∷ down) behind) →
          IsSound (with_block f above id source_end (up ++ now ∷ down) behind)
      phi_sound fits s =
          let ids : ids_of (above ++ has ∷ behind) ≡ ids_of (above ++ had ∷ behind) = ids_around above had has behind refl in
          record {
            blocks_apart = subst AreApart (sym ids) s.blocks_apart;
            slots_apart = s.slots_apart;
            objects_apart = s.objects_apart;
            few_blocks = subst (λ (n : ℕ). n ≤ MAX_BLOCKS) (sym (as_many above had has behind)) s.few_blocks;
            few_slots = s.few_slots;
            each_object = s.each_object;
            objects_laid = s.objects_laid;
            targets = subst (λ (ns : List ℕ). AllItems (λ i. TargetsIn ns i.kind) (above ++ has ∷ behind)) (sym ids)
                (each (TargetsIn (ids_of (above ++ had ∷ behind))) tt s.targets);
            slots = each (SlotsIn f.slots) (fits f.slots) s.slots;
            passed = each (KindPassesFirst f.slots) tt s.passed;
            objects = each (ObjectsIn f.objects) tt s.objects;
            pointer = each LeavesPointer tt s.pointer;
            numbers = once_around f above id source_end behind (up ++ was ∷ down) (up ++ now ∷ down)
                (fewer_behind up (was ∷ down) (now ∷ down) (keeps (record { number = λ m e. e; code = λ m e. e }) (fewer_same down))) s.numbers;
            origins = one_block (λ (b : Block). All (λ (i : Item). OriginIn b i.origin) b.items) above had has behind
                (λ z. origins_same (up ++ now ∷ down)
                (one_item (λ (i : Item). OriginIn had i.origin) up was now down (λ v. v) z)) s.origins;
            ends = one_block (λ (b : Block). EndsWell b.items) above had has behind (λ z. ends_well up down z) s.ends;
            last = last_closes above behind s.last;
          }

-- ---- the number goes

module _ (f : Function) (above : List Block) (id source_end : ℕ) (behind : List Block) where
  abbrev fn : List Item → Function
  fn items = with_block f above id source_end items behind

  module _ (k : ℕ) (up : List Item) (i : Instruction) (o : Origin) (l : Loc) (down : List Item) (subs : List DebugSubstitution) where
    abbrev copy : Item
    copy = item (Code i (Some k)) o l

    abbrev bare : Item
    bare = item (Code i None) o l

    abbrev E : Edits
    E = drop_edits k

    all : (xs : List Item) → AreUnlike k xs → All (λ (z : Item). DropPair k z z) xs
    all xs h = All-weaker (λ (z : Item). IsUnlike k z.kind) (λ (z : Item). DropPair k z z) (λ z u. elsewhere u) xs h

    each_block : (bs : List Block) → BlocksUnlike k bs → All (λ (b : Block). All (λ (z : Item). DropPair k z z) b.items) bs
    each_block bs h =
        All-weaker (λ (b : Block). All (λ (z : Item). IsUnlike k z.kind) b.items) (λ (b : Block). All (λ (z : Item). DropPair k z z) b.items)
        (λ b u. all b.items u) bs h

    pub to_nowhere : IsSound (fn (up ++ copy ∷ down)) → Step (fn (up ++ copy ∷ down)) subs (fn (up ++ bare ∷ down)) subs
    to_nowhere sound =
        let far = others_of f above id source_end behind k up copy down sound.numbers refl in
        let other : HasNoOther copy bare = record { number = λ m e. cc; code = λ m e. cc } in
        let sound' : IsSound (fn (up ++ bare ∷ down)) =
        edited_sound (fn (up ++ copy ∷ down)) (fn (up ++ bare ∷ down)) sound refl refl
        (edited_around above id source_end (up ++ copy ∷ down) (up ++ bare ∷ down) behind
        (edited_above up (copy ∷ down) (bare ∷ down) (stays refl same_code (edited_same down))))
        (once_around f above id source_end behind (up ++ copy ∷ down) (up ++ bare ∷ down)
        (fewer_behind up (copy ∷ down) (bare ∷ down) (keeps other (fewer_same down))) sound.numbers) in
        record {
          sound = sound';
          follows = number_to_nowhere (fn (up ++ copy ∷ down)) (fn (up ++ bare ∷ down)) subs k sound sound' refl
              (around E above id source_end (up ++ copy ∷ down) (up ++ bare ∷ down) (stays_blocks E (λ n. tt) above (each_block above far.above))
              (stays_above E tt up (copy ∷ down) (bare ∷ down) (all up far.up)
              (pair refl (code_kin (row_itself (row_of i)) refl) drops (stays_items E tt down tt (all down far.down))))
              (stays_blocks E (λ n. tt) behind (each_block behind far.behind)));
        }

    pub to_phi_none : (rd s : ℕ) → row_of i ≡ Moves (suc rd) s → IsSound (fn (up ++ copy ∷ down)) →
        Step (fn (up ++ copy ∷ down)) subs (fn (up ++ phi_none k o ∷ bare ∷ down)) subs
    to_phi_none rd s row sound =
        let far = others_of f above id source_end behind k up copy down sound.numbers refl in
        let one = to_phi f above id source_end behind k rd s up i o l down subs sound row in
        let sound' : IsSound (fn (up ++ phi_none k o ∷ bare ∷ down)) =
        phi_sound (Some (Register s)) None k o id source_end up (bare ∷ down) f above behind (λ slots. tt) one.sound in
        record {
          sound = sound';
          follows = number_to_nowhere (fn (up ++ copy ∷ down)) (fn (up ++ phi_none k o ∷ bare ∷ down)) subs k sound sound' refl
              (around E above id source_end (up ++ copy ∷ down) (up ++ phi_none k o ∷ bare ∷ down) (stays_blocks E (λ n. tt) above (each_block above far.above))
              (stays_above E tt up (copy ∷ down) (phi_none k o ∷ bare ∷ down) (all up far.up)
              (put refl refl puts
              (pair refl (code_kin (row_itself (row_of i)) refl) drops (stays_items E tt down tt (all down far.down)))))
              (stays_blocks E (λ n. tt) behind (each_block behind far.behind)));
        }
