-- A copy loses its number between two steps of a pass: to code that gave its value, or to a phi.
use Rattle.std.proofs.Common.{◌≡◌, ℕ, List, [], ◌∷◌, ◌++◌, false, refl, ap}
use Rattle.mir_func.specs.declared.debug_substitution.OperandPair.{OperandPair}
use Rattle.mir_func.specs.declared.debug_substitution.DebugSubstitution.{DebugSubstitution}
use Rattle.mir_func.specs.declared.item.Item.{Item}
use Rattle.mir_func.specs.Function.{Function}
use Rattle.mir_func.specs.Resolve.{resolve}
use Rattle.mir_func.specs.Graph.{Program, program_of}
use Rattle.pass_salvage.specs.sem_mir.Follow.{MarkFits}
use Rattle.pass_salvage.specs.Salvage.{entry_for}
use Rattle.pass_salvage.proofs.EditFollows.{Allows}
use Rattle.pass_salvage.proofs.OneMore.{one_more}
use Rattle.pass_salvage.proofs.NumberOff.{off_edits, OffCores, off_keeps, off_itself}
use Rattle.pass_salvage.proofs.NumberPhi.{Spot, PhiPut, puts, phi_edits, PhiCores, phi_keeps, phi_itself}
use Rattle.pass_edits.specs.NumberLaws.{NumberGoesToCode, NumberGoesToPhi}
use Rattle.pass_edits.proofs.Edited.{edited_loosely}

pub number_to_code : (Free : ℕ → Type 0) → NumberGoesToCode Free
number_to_code Free old new subs k n o s sound sound' objects none end apart real edited =
    let fp : Program = program_of false old.blocks (resolve subs) in
    let gp : Program = program_of false new.blocks (resolve (subs ++ entry_for k n o ∷ [])) in
    let more = one_more subs (entry_for k n o) refl none end (λ e. apart (ap (λ (q : OperandPair). q.number) e)) in
    edited_loosely (off_edits fp gp refl refl k n o s Free) (OffCores fp gp refl refl k n o s Free)
    (record {
      empty = λ m. tt;
      falls = λ a b x h. absurd h;
      no_goes = λ a b x h. absurd h;
      no_end = λ a b x h. absurd h;
      kept = λ a b x h. absurd h;
      marks = λ a b y h. absurd h;
    })
    old new sound sound' subs (subs ++ entry_for k n o ∷ []) objects edited (off_keeps fp gp refl refl k n o s Free apart real more)
    (λ m c h. off_itself fp gp refl refl k n o s Free apart real more c h)

module _ (old new : Function) (subs : List DebugSubstitution) (k s : ℕ) (real : s ≡ 2 → ⊥) where
  abbrev fq : Program
  fq = program_of false old.blocks (resolve subs)

  abbrev gq : Program
  gq = program_of false new.blocks (resolve subs)

  phi_marks : (a b : Spot) (y : Item) → PhiPut fq gq refl refl (λ q. refl) k s real a b y → MarkFits y.kind y.origin
  phi_marks a b y puts = tt

  phi_allows : Allows (phi_edits fq gq refl refl (λ q. refl) k s real)
  phi_allows = record {
    empty = λ m. tt;
    falls = λ a b x h. absurd h;
    no_goes = λ a b x h. absurd h;
    no_end = λ a b x h. absurd h;
    kept = λ a b x h. absurd h;
    marks = λ a b y h no_code. phi_marks a b y h;
  }

pub number_to_phi : NumberGoesToPhi
number_to_phi old new subs k s real sound sound' objects edited =
    let fp : Program = program_of false old.blocks (resolve subs) in
    let gp : Program = program_of false new.blocks (resolve subs) in
    edited_loosely (phi_edits fp gp refl refl (λ q. refl) k s real) (PhiCores fp gp refl refl (λ q. refl) k s real) (phi_allows old new subs k s real)
    old new sound sound' subs subs objects edited (phi_keeps fp gp refl refl (λ q. refl) k s real)
    (λ m c h. phi_itself fp gp refl refl (λ q. refl) k s real c h)
