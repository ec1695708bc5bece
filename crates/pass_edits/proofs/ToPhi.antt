-- A copy loses its number to a phi that is put before it.
use Rattle.std.proofs.Common.{◌≡◌, ℕ, suc, List, ◌∷◌, ◌++◌, All, Some, None, false, refl}
use Rattle.std.proofs.lemmas.List.Elements.{All-weaker}
use Rattle.rv64_instr.specs.Instruction.{Instruction}
use Rattle.rv64_instr.specs.Row.{Moves, row_of}
use Rattle.mir_func.specs.declared.debug_substitution.DebugSubstitution.{DebugSubstitution}
use Rattle.mir_func.specs.declared.position.Origin.{Origin}
use Rattle.mir_func.specs.declared.location.Loc.{Loc}
use Rattle.mir_func.specs.declared.block.Block.{Block}
use Rattle.mir_func.specs.declared.item.Item.{Item}
use Rattle.mir_func.specs.declared.item.ItemKind.TheVariants.{Code}
use Rattle.mir_func.specs.Function.{Function}
use Rattle.mir_func.specs.Graph.{Program, program_of}
use Rattle.mir_func.specs.Resolve.{resolve}
use Rattle.mir_func.specs.Sound.{LeavesPointer, IsSound}
use Rattle.pass_salvage.specs.pass_trait.Rule.{item}
use Rattle.pass_salvage.proofs.Kin.{row_itself, code_kin}
use Rattle.pass_salvage.proofs.Edits.{Edits, pair, put}
use Rattle.pass_salvage.proofs.NumberPhi.{Elsewhere, PhiPair, elsewhere, closes, puts, phi_edits}
use Rattle.pass_salvage.specs.Salvage.{phi_for}
use Rattle.pass_edits.proofs.MovedNumbers.{number_to_phi}
use Rattle.pass_edits.specs.Edits.{with_phi, same_code}
use Rattle.pass_edits.proofs.Numbers.{IsUnlike, AreUnlike, HasNoOther, keeps, puts as puts_none, fewer_same, fewer_behind}
use Rattle.pass_edits.proofs.Sound.{edited_sound}
use Rattle.pass_edits.proofs.Around.{with_block, stays_items, stays_above, stays_blocks, around, edited_same, edited_above, edited_around}
use Rattle.pass_edits.proofs.Others.{BlocksUnlike, others_of, at_item, once_around}
use Rattle.pass_edits.proofs.Copies.{plain_copy}
use Rattle.pass_edits.proofs.Loose.{Step}

module _ (f : Function) (above : List Block) (id source_end : ℕ) (behind : List Block) where
  abbrev fn : List Item → Function
  fn items = with_block f above id source_end items behind

  pub to_phi : (k rd s : ℕ) (up : List Item) (i : Instruction) (o : Origin) (l : Loc) (down : List Item) (subs : List DebugSubstitution) →
      IsSound (fn (up ++ item (Code i (Some k)) o l ∷ down)) → row_of i ≡ Moves (suc rd) s →
      Step (fn (up ++ item (Code i (Some k)) o l ∷ down)) subs (fn (up ++ phi_for k s o ∷ item (Code i None) o l ∷ down)) subs
  to_phi k rd s up i o l down subs sound row =
      let x : Item = item (Code i (Some k)) o l in
      let y : Item = item (Code i None) o l in
      let old = fn (up ++ x ∷ down) in
      let new = fn (up ++ phi_for k s o ∷ y ∷ down) in
      let fp : Program = program_of false old.blocks (resolve subs) in
      let gp : Program = program_of false new.blocks (resolve subs) in
      let plain = plain_copy i rd s row (at_item f above id source_end behind (λ z. LeavesPointer z.kind) up x down sound.pointer) in
      let far = others_of f above id source_end behind k up x down sound.numbers refl in
      let E : Edits = phi_edits fp gp refl refl (λ q. refl) k s plain.source in
      let other : HasNoOther x (phi_for k s o) = record { number = λ m e. e; code = λ m e. cc } in
      let sound' : IsSound new =
      edited_sound old new sound refl refl
      (edited_around above id source_end (up ++ x ∷ down) (up ++ phi_for k s o ∷ y ∷ down) behind
      (edited_above up (x ∷ down) (phi_for k s o ∷ y ∷ down) (with_phi k s (suc rd, s, row) refl same_code (edited_same down))))
      (once_around f above id source_end behind (up ++ x ∷ down) (up ++ phi_for k s o ∷ y ∷ down)
      (fewer_behind up (x ∷ down) (phi_for k s o ∷ y ∷ down) (keeps other (puts_none refl refl (fewer_same down)))) sound.numbers) in
      let all : (xs : List Item) → AreUnlike k xs → All (λ (z : Item). PhiPair fp gp refl refl (λ q. refl) k s plain.source Elsewhere Elsewhere z z) xs =
      λ xs h. All-weaker (λ (z : Item). IsUnlike k z.kind) (λ (z : Item). PhiPair fp gp refl refl (λ q. refl) k s plain.source Elsewhere Elsewhere z z)
      (λ z u. elsewhere u) xs h in
      let each : (bs : List Block) → BlocksUnlike k bs →
      All (λ (b : Block). All (λ (z : Item). PhiPair fp gp refl refl (λ q. refl) k s plain.source Elsewhere Elsewhere z z) b.items) bs =
      λ bs h. All-weaker (λ (b : Block). All (λ (z : Item). IsUnlike k z.kind) b.items)
      (λ (b : Block). All (λ (z : Item). PhiPair fp gp refl refl (λ q. refl) k s plain.source Elsewhere Elsewhere z z) b.items) (λ b u. all b.items u) bs h in
      record {
        sound = sound';
        follows = number_to_phi old new subs k s plain.source sound sound' refl
            (around E above id source_end (up ++ x ∷ down) (up ++ phi_for k s o ∷ y ∷ down) (stays_blocks E (λ n. tt) above (each above far.above))
            (stays_above E Elsewhere up (x ∷ down) (phi_for k s o ∷ y ∷ down) (all up far.up)
            (put refl refl puts (pair refl (code_kin (row_itself (row_of i)) refl) (closes row plain.first plain.target)
            (stays_items E Elsewhere down tt (all down far.down)))))
            (stays_blocks E (λ n. tt) behind (each behind far.behind)));
      }
