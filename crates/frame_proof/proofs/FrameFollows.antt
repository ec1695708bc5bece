-- What follows a source runs along with it with its frame.
use Rattle.std.proofs.Common.{◌≡◌, ℕ, ◌<◌, List, [], ◌∷◌, All, Contains, IsSome, false, true, refl, sym, ap, ◌∙◌, subst, get_or}
use Rattle.std.proofs.lemmas.List.Elements.{All-nil, All-contains}
use Rattle.mir_func.specs.declared.block.Block.{Block}
use Rattle.mir_func.specs.declared.item.Item.{Item}
use Rattle.mir_func.specs.declared.position.Pos.{Pos}
use Rattle.mir_func.specs.Graph.{block_start, from_block, program_of, framed_program, rest_in, rest_of}
use Rattle.mir_func.specs.Sound.{SlotsIn, LeavesPointer, LastCloses, HasForm}
use Rattle.sem_mir.specs.State.{content}
use Rattle.sem_mir.specs.Align.{ByItems, sync_point_at, First, RunsMatch}
use Rattle.sem_mir.specs.InitialState.{first_of}
use Rattle.sem_mir.specs.Follow.{KindFits}
use Rattle.sem_mir.proofs.Reading.{found_in}
use Rattle.frame_rule.specs.Rule.{framed_of}
use Rattle.frame_proof.specs.Runs.{FrameFollows}
use Rattle.frame_proof.proofs.Blocks.{drop_zero}
use Rattle.frame_proof.proofs.Fits.{branch_moves, final_reads}
use Rattle.frame_proof.proofs.Framing.{IsFit, framing_follows}

pub frame_follows : FrameFollows
frame_follows src f subs fsubs sound forms follows s start = by_blocks f.blocks refl sound.last where
  fits_in : (b : Block) → Contains f.blocks b → All (IsFit f fsubs (program_of true src subs) s) b.items
  fits_in b member = λ k d lt. record {
    pointer = All-contains (λ (c : Block). All (λ (i : Item). LeavesPointer i.kind) c.items) f.blocks b sound.pointer member k d lt;
    slots = All-contains (λ (c : Block). All (λ (i : Item). SlotsIn f.slots i.kind) c.items) f.blocks b sound.slots member k d lt;
    moves = branch_moves (program_of true src subs) (program_of false f.blocks fsubs) b.source_end (get_or b.items k d)
        (All-contains (λ (c : Block). All (λ (i : Item). KindFits (program_of true src subs) i.kind c.source_end i.origin) c.items) f.blocks b
        follows.shape.items member k d lt);
    results = final_reads (get_or b.items k d).kind (All-contains (λ (c : Block). All (λ (i : Item). HasForm i.kind) c.items) f.blocks b forms member k d lt);
  }

  fits : (n : ℕ) → All (IsFit f fsubs (program_of true src subs) s) (rest_of f.blocks (block_start n))
  fits n = by_found (from_block f.blocks n) refl where
    by_found : (bs : List Block) → from_block f.blocks n ≡ bs → All (IsFit f fsubs (program_of true src subs) s) (rest_in bs 0)
    by_found [] e = All-nil (IsFit f fsubs (program_of true src subs) s)
    by_found (b ∷ rest) e = subst (All (IsFit f fsubs (program_of true src subs) s)) (sym (drop_zero b.items)) (fits_in b (found_in f.blocks n b rest e).0)

  regs : (r : ℕ) → r < 32 → IsSome (content s.core.regs r)
  regs r lt = subst IsSome (sym (start.regs r lt).1) refl

  by_blocks : (bs : List Block) → f.blocks ≡ bs → LastCloses bs →
      RunsMatch (program_of true src subs) (framed_program (framed_of f).blocks fsubs) (sync_point_at ByItems (framed_program
      (framed_of f).blocks fsubs)) First s
      (record { pos = block_start 0; core = s.core })
  by_blocks [] e closes = absurd closes
  by_blocks (b ∷ more) e closes =
      let first : b.id ≡ s.pos.block = sym (ap first_of e) ∙ follows.shape.first ∙ sym (ap (λ (p : Pos). p.block) start.pos) in
      let at : s.pos ≡ block_start s.pos.block = start.pos ∙ ap block_start (sym (ap (λ (p : Pos). p.block) start.pos)) in
      framing_follows f fsubs (program_of true src subs) s fits at b more e first regs start.slots (follows.runs s start)
