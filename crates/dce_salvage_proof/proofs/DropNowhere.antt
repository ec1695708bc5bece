-- Code loses its number between two rounds, and nothing gets it.
use Rattle.std.proofs.Common.{ℕ, false, refl}
use Rattle.mir_func.specs.declared.item.Item.{Item}
use Rattle.mir_func.specs.Resolve.{resolve}
use Rattle.mir_func.specs.Graph.{Program, program_of}
use Rattle.sem_mir.specs.Follow.{MarkFits}
use Rattle.pass_salvage.proofs.EditFollows.{Allows}
use Rattle.pass_edits.proofs.Edited.{edited_loosely}
use Rattle.dce_salvage_proof.specs.Dropped.{DropPut, puts, drop_edits}
use Rattle.dce_salvage_proof.proofs.Dropped.{DropCores, drop_keeps, drop_itself}
use Rattle.dce_salvage_proof.specs.DropLaws.{NumberGoesNowhere}

module _ (k : ℕ) where
  phi_marks : (y : Item) → DropPut k y → MarkFits y.kind y.origin
  phi_marks y puts = tt

  drop_allows : Allows (drop_edits k)
  drop_allows = record {
    empty = λ m. tt;
    falls = λ a b x h. absurd h;
    no_goes = λ a b x h. absurd h;
    no_end = λ a b x h. absurd h;
    kept = λ a b x h. absurd h;
    marks = λ a b y h no_code. phi_marks y h;
  }

pub number_to_nowhere : NumberGoesNowhere
number_to_nowhere old new subs k sound sound' objects edited =
    let fp : Program = program_of false old.blocks (resolve subs) in
    let gp : Program = program_of false new.blocks (resolve subs) in
    edited_loosely (drop_edits k) (λ a. DropCores fp gp refl refl (λ q. refl) k) (drop_allows k)
    old new sound sound' subs subs objects edited (drop_keeps fp gp refl refl (λ q. refl) k)
    (λ m c h. drop_itself fp gp refl refl (λ q. refl) k c h)
