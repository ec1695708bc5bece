-- What the code of prologue and epilogue does, and how the rows of code that stays end.
use Rattle.std.proofs.Common.{◌≡◌, ℕ, zero, suc, List, Option, Some, None}
use Rattle.std.proofs.Common.{IsSome, true, false, refl, ap, ◌∙◌}
use Rattle.rv64_instr.specs.declared.op.RegisterOp.TheVariants.{Add}
use Rattle.rv64_instr.specs.Arithmetic.{computed}
use Rattle.rv64_instr.specs.Row.{Row, LoadsSlot, StoresSlot, Jumps, row_of}
use Rattle.rv64_instr.specs.Row.{add_row}
use Rattle.mir_func.specs.declared.exit.Exit.TheVariants.{Final}
use Rattle.mir_func.specs.declared.framed.SavedRegister.{SavedRegister}
use Rattle.mir_func.specs.declared.item.ItemKind.{ItemKind}
use Rattle.mir_func.specs.declared.item.ItemKind.TheVariants.{Code, Mark, Phi}
use Rattle.mir_func.specs.declared.position.Origin.{Origin}
use Rattle.mir_func.specs.declared.position.Origin.TheVariants.{Kept, Before}
use Rattle.mir_func.specs.Exits.{exit_of}
use Rattle.mir_func.specs.Positions.{position_of}
use Rattle.sem_mir.specs.State.{Core, updated, content}
use Rattle.sem_mir.specs.Step.{Outcome, Falls, Goes, Gives, Traps, Asks, Breaks, act, does, read, set_register, slot_loaded}
use Rattle.sem_mir.specs.Align.{is_code, is_jump, is_jump_row, Since, After}
use Rattle.sem_mir.specs.Effects.{EndAlike}
use Rattle.sem_simulation.specs.MatchStates.{OutcomesAlike}
use Rattle.frame_rule.specs.Rule.{renamed_kind}
use Rattle.frame_rule.proofs.Rows.{renamed_row, row_renamed}

pub adds_no_jump : (n : ℕ) → is_jump_row (add_row 2 2 n) ≡ false
adds_no_jump zero = refl
adds_no_jump (suc n) = refl

pub row_jump : (slots : List ℕ) (r : Row) → is_jump_row (renamed_row slots r) ≡ is_jump_row r
row_jump slots (Jumps t) = refl
row_jump slots _ = refl

pub kind_jump : (slots : List ℕ) (k : ItemKind) → is_jump (renamed_kind slots k) ≡ is_jump k
kind_jump slots (Code i n) = ap is_jump_row (row_renamed slots i) ∙ row_jump slots (row_of i)
kind_jump slots (Mark v m) = refl
kind_jump slots (Phi p n) = refl

pub kind_code : (slots : List ℕ) (k : ItemKind) → is_code (renamed_kind slots k) ≡ is_code k
kind_code slots (Code i n) = refl
kind_code slots (Mark v m) = refl
kind_code slots (Phi p n) = refl

pub final_code : (k : ItemKind) → exit_of k ≡ Final → is_code k ≡ true
final_code (Code i n) e = refl
final_code (Mark v m) e = cc
final_code (Phi p n) e = cc

-- both go on alike, and elsewhere only where the source moves on
pub to_outcomes : (R : Core → Core → Type 0) (m : Since) (L : Type 0) → L → (x y : Outcome) → ((n : ℕ) (e : Core) → x ≡ Goes n e → m ≡ After) → EndAlike R x y →
    OutcomesAlike R (λ i c d. (m ≡ After) × L × R c d) x y
to_outcomes R m L l (Falls c) (Falls d) moves h = h
to_outcomes R m L l (Goes i c) (Goes j d) moves h = (h.0, (moves i c refl, l, h.1))
to_outcomes R m L l (Gives v) (Gives w) moves h = h
to_outcomes R m L l Traps Traps moves h = tt
to_outcomes R m L l Asks Asks moves h = tt
to_outcomes R m L l Breaks Breaks moves h = tt
to_outcomes R m L l _ _ moves h = absurd h

-- code that returns goes nowhere
pub to_final : (P : Core → Core → Type 0) (J : ℕ → Core → Core → Type 0) (x y : Outcome) → EndAlike (λ c d. ⊥) x y → OutcomesAlike P J x y
to_final P J (Gives v) (Gives w) h = h
to_final P J Traps Traps h = tt
to_final P J Asks Asks h = tt
to_final P J Breaks Breaks h = tt
to_final P J (Falls c) (Falls d) h = absurd h
to_final P J (Goes i c) (Goes j d) h = absurd h.1
to_final P J _ _ h = absurd h

-- what is written has a content
pub content_of : (x : Option ℕ) → IsSome x → (v : ℕ) × (x ≡ Some v)
content_of None h = cc
content_of (Some v) h = (v, refl)

-- `ADDI x2, x2, n` sets x2
pub adds_does : (n : ℕ) (d : Core) → IsSome (content d.regs 2) → (v : ℕ) × (act (add_row 2 2 n) d ≡ Falls (set_register 2 v d))
unfolding act does
adds_does zero d w = (read d 2, rw (content_of (content d.regs 2) w).1 refl)
adds_does (suc n) d w = (computed Add (read d 2) (suc n), rw (content_of (content d.regs 2) w).1 refl)

-- a saved register is stored, and loaded
pub store_does : (s : SavedRegister) (d : Core) → IsSome (content d.regs s.register) →
    act (StoresSlot s.register s.offset) d ≡ Falls (record d { slots = updated s.offset (Some (read d s.register)) d.slots })
unfolding act does
store_does s d w = rw (content_of (content d.regs s.register) w).1 refl

pub load_does : (s : SavedRegister) (d : Core) → IsSome (d.slots s.offset) →
    (v : ℕ) × (act (LoadsSlot s.register s.offset) d ≡ Falls (set_register s.register v d))
unfolding act does
load_does s d w = let k = content_of (d.slots s.offset) w in (k.0, ap (slot_loaded s.register d) k.1)
