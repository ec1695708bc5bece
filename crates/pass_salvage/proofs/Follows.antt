-- What followed a source follows it after a copy lost its number: to code that gave its value, or to a phi.
use Rattle.std.proofs.Common.{◌≡◌, ℕ, List, [], ◌∷◌, ◌++◌, None, true, false, refl, ap}
use Rattle.mir_func.specs.declared.debug_substitution.OperandPair.{OperandPair}
use Rattle.mir_func.specs.declared.debug_substitution.DebugSubstitution.{DebugSubstitution}
use Rattle.mir_func.specs.declared.item.Item.{Item}
use Rattle.mir_func.specs.Function.{Function}
use Rattle.mir_func.specs.Sound.{IsSound}
use Rattle.mir_func.specs.Resolve.{entry_of, resolve}
use Rattle.mir_func.specs.Graph.{Program, program_of}
use Rattle.sem_agreement.specs.sem_mir.Follow.{OnRow, Counts, MarkFits}
use Rattle.pass_trait.specs.Change.{change}
use Rattle.pass_trait.specs.Simulation.{PreservesSimulation}
use Rattle.pass_trait.specs.Rule.{first_operand}
use Rattle.pass_salvage.specs.Salvage.{entry_for}
use Rattle.pass_salvage.proofs.Edits.{BlocksEdited}
use Rattle.pass_salvage.proofs.EditFollows.{Allows, follows_edited}
use Rattle.pass_salvage.proofs.OneMore.{one_more}
use Rattle.pass_salvage.proofs.NumberOff.{Side, Off, outside, opens, inside, closes, off_edits, OffCores, off_keeps, off_itself}
use Rattle.pass_salvage.proofs.NumberPhi.{Spot, PhiPair, elsewhere, closes as closes_phi, PhiPut, puts, phi_edits, PhiCores, phi_keeps, phi_itself}

-- ---- to code

module _ (old new : Function) (sound : IsSound old) (sound' : IsSound new) (subs : List DebugSubstitution) (k n o s : ℕ) (Free : ℕ → Type 0)
    (objects : new.objects ≡ old.objects) (none : entry_of subs (first_operand k) ≡ None) (end : entry_of subs (record { number = n; operand = o }) ≡ None)
    (apart : k ≡ n → ⊥) (real : s ≡ 2 → ⊥) where
  abbrev subs' : List DebugSubstitution
  subs' = subs ++ entry_for k n o ∷ []

  abbrev fp : Program
  fp = program_of false old.blocks (resolve subs)

  abbrev gp : Program
  gp = program_of false new.blocks (resolve subs')

  same_counts : (a b : Side) (x y : Item) → Off fp gp refl refl k n o s Free a b x y → OnRow Counts x.kind → OnRow Counts y.kind
  same_counts a b x y (outside other asks) h = h
  same_counts a b x y (opens how is stays) h = h
  same_counts a b x y (inside other asks far keeps stays) h = h
  same_counts a b x y (closes row first far) h = h

  off_allows : Allows (off_edits fp gp refl refl k n o s Free)
  off_allows = record {
    empty = λ m. tt;
    falls = λ a b x h. absurd h;
    no_goes = λ a b x h. absurd h;
    no_end = λ a b x h. absurd h;
    kept = λ a b x h. absurd h;
    marks = λ a b y h. absurd h;
  }

  pub number_off_follows : BlocksEdited (off_edits fp gp refl refl k n o s Free) old.blocks new.blocks →
      PreservesSimulation false true (change old subs new subs')
  number_off_follows edited =
      follows_edited (off_edits fp gp refl refl k n o s Free) (OffCores fp gp refl refl k n o s Free) off_allows old new sound sound' subs subs' objects edited
      (off_keeps fp gp refl refl k n o s Free apart real
      (one_more subs (entry_for k n o) refl none end (λ e. apart (ap (λ (q : OperandPair). q.number) e))))
      (λ m c h. off_itself fp gp refl refl k n o s Free apart real
      (one_more subs (entry_for k n o) refl none end (λ e. apart (ap (λ (q : OperandPair). q.number) e))) c h) (λ a b x h. absurd h) same_counts

-- ---- to a phi

module _ (old new : Function) (sound : IsSound old) (sound' : IsSound new) (subs : List DebugSubstitution) (k s : ℕ) (objects : new.objects ≡ old.objects)
    (real : s ≡ 2 → ⊥) where
  abbrev fq : Program
  fq = program_of false old.blocks (resolve subs)

  abbrev gq : Program
  gq = program_of false new.blocks (resolve subs)

  phi_counts : (a b : Spot) (x y : Item) → PhiPair fq gq refl refl (λ q. refl) k s real a b x y → OnRow Counts x.kind → OnRow Counts y.kind
  phi_counts a b x y (elsewhere other) h = h
  phi_counts a b x y (closes_phi row first far) h = h

  phi_marks : (a b : Spot) (y : Item) → PhiPut fq gq refl refl (λ q. refl) k s real a b y → MarkFits y.kind y.origin
  phi_marks a b y puts = tt

  phi_allows : Allows (phi_edits fq gq refl refl (λ q. refl) k s real)
  phi_allows = record {
    empty = λ m. tt;
    falls = λ a b x h. absurd h;
    no_goes = λ a b x h. absurd h;
    no_end = λ a b x h. absurd h;
    kept = λ a b x h. absurd h;
    marks = λ a b y h no_code. phi_marks a b y h;
  }

  pub number_phi_follows : BlocksEdited (phi_edits fq gq refl refl (λ q. refl) k s real) old.blocks new.blocks → PreservesSimulation false true
      (change old subs new subs)
  number_phi_follows edited =
      follows_edited (phi_edits fq gq refl refl (λ q. refl) k s real) (PhiCores fq gq refl refl (λ q. refl) k s real) phi_allows old new sound sound' subs
      subs objects edited
      (phi_keeps fq gq refl refl (λ q. refl) k s real) (λ m c h. phi_itself fq gq refl refl (λ q. refl) k s real c h) (λ a b x h. absurd h) phi_counts
