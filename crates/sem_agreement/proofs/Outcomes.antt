-- What code and items leave alone, and how two outcomes are put together.
use Rattle.std.proofs.Common.{◌≡◌, ℕ, List, Option, Some, None, Bool, true, false, refl, ap, ◌∙◌}
use Rattle.sem_simulation.specs.rv64_instr.declared.place.Place.{Place}
use Rattle.sem_simulation.specs.rv64_instr.declared.place.Place.TheVariants.{Register, Slot, Const}
use Rattle.sem_simulation.specs.rv64_instr.declared.operand.Operand.{Operand}
use Rattle.sem_simulation.specs.rv64_instr.Instruction.{Instruction}
use Rattle.sem_simulation.specs.rv64_instr.Row.{Row, row_of}
use Rattle.sem_simulation.specs.rv64_instr.LocationEffects.{is_call, defines_of}
use Rattle.sem_simulation.specs.mir_func.declared.item.ItemKind.{ItemKind}
use Rattle.sem_simulation.specs.mir_func.declared.item.ItemKind.TheVariants.{Code, Mark, Phi}
use Rattle.sem_simulation.specs.mir_func.declared.variable.VarId.{VarId}
use Rattle.sem_simulation.specs.mir_func.Sound.{number_of}
use Rattle.sem_simulation.specs.mir_func.Graph.{Program}
use Rattle.sem_simulation.specs.sem_mir.State.{Core}
use Rattle.sem_simulation.specs.sem_mir.Step.{Outcome, Falls, Goes, Gives, Traps, Asks, Breaks, act, with_core, numbered, do_item}
use Rattle.sem_simulation.specs.sem_mir.Effects.{held_in, OnCore, EndAlike, FallsInto}
use Rattle.sem_simulation.specs.sem_mir.Live.{KindDefines}
use Rattle.sem_mir.proofs.Effects.{told_by, act_apart}
use Rattle.sem_mir.proofs.Outcomes.{alike_with}
use Rattle.sem_mir.proofs.Parts.{effects_hold}
use Rattle.sem_mir.proofs.Places.{updated_other}

-- ---- outcomes

-- two related outcomes, with what is known of each
pub alike_both : (R : Core → Core → Type 0) (P S : Core → Type 0) (x y : Outcome) → EndAlike R x y → OnCore P x → OnCore S y →
    EndAlike (λ c d. R c d × P c × S d) x y
alike_both R P S (Falls c) (Falls d) h p s = (h, p, s)
alike_both R P S (Goes m c) (Goes n d) h p s = (h.0, (h.1, p, s))
alike_both R P S (Gives v) (Gives w) h p s = h
alike_both R P S Traps Traps h p s = tt
alike_both R P S Asks Asks h p s = tt
alike_both R P S Breaks Breaks h p s = tt
alike_both R P S _ _ h p s = absurd h

-- what falls into a core, with what is known of it
pub falls_both : (P S : Core → Type 0) (x : Outcome) → FallsInto P x → OnCore S x → FallsInto (λ c. P c × S c) x
falls_both P S (Falls c) h s = (h, s)
falls_both P S (Goes n c) h s = absurd h
falls_both P S (Gives v) h s = absurd h
falls_both P S Traps h s = tt
falls_both P S Asks h s = absurd h
falls_both P S Breaks h s = tt

pub falls_weaker : (P S : Core → Type 0) → ((c : Core) → P c → S c) → (x : Outcome) → FallsInto P x → FallsInto S x
falls_weaker P S f (Falls c) h = f c h
falls_weaker P S f (Goes n c) h = absurd h
falls_weaker P S f (Gives v) h = absurd h
falls_weaker P S f Traps h = tt
falls_weaker P S f Asks h = absurd h
falls_weaker P S f Breaks h = tt

-- the core changed afterwards
pub falls_with : (P S : Core → Type 0) (k : Core → Core) → ((c : Core) → P c → S (k c)) → (x : Outcome) → FallsInto P x → FallsInto S (with_core k x)
falls_with P S k f (Falls c) h = f c h
falls_with P S k f (Goes n c) h = absurd h
falls_with P S k f (Gives v) h = absurd h
falls_with P S k f Traps h = tt
falls_with P S k f Asks h = absurd h
falls_with P S k f Breaks h = tt

pub on_with : (P S : Core → Type 0) (k : Core → Core) → ((c : Core) → P c → S (k c)) → (x : Outcome) → OnCore P x → OnCore S (with_core k x)
on_with P S k f (Falls c) h = f c h
on_with P S k f (Goes n c) h = f c h
on_with P S k f (Gives v) h = tt
on_with P S k f Traps h = tt
on_with P S k f Asks h = tt
on_with P S k f Breaks h = tt

-- what holds for each of some things holds for all at once
pub on_all : {A : Type 0} (P : A → Core → Type 0) (x : Outcome) → ((a : A) → OnCore (P a) x) → OnCore (λ c. (a : A) → P a c) x
on_all P (Falls c) h = h
on_all P (Goes n c) h = h
on_all P (Gives v) h = tt
on_all P Traps h = tt
on_all P Asks h = tt
on_all P Breaks h = tt

pub on_given : (A : Type 0) (P : Core → Type 0) (x : Outcome) → (A → OnCore P x) → OnCore (λ c. A → P c) x
on_given A P (Falls c) h = h
on_given A P (Goes n c) h = h
on_given A P (Gives v) h = tt
on_given A P Traps h = tt
on_given A P Asks h = tt
on_given A P Breaks h = tt

-- ---- what is told stays where code runs

-- pairs and marks are those of c
abbrev pub TellsAs : Core → Core → Type 0
TellsAs c e = (e.pairs ≡ c.pairs) × (e.marks ≡ c.marks)

pub act_tells : (r : Row) (c : Core) → OnCore (TellsAs c) (act r c)
act_tells r c = by_outcome (act r c) (act_apart c.pairs c.marks r c) where
  by_core : (e : Core) → e ≡ told_by c.pairs c.marks e → TellsAs c e
  by_core e k = (ap (λ (z : Core). z.pairs) k, ap (λ (z : Core). z.marks) k)

  by_outcome : (x : Outcome) → x ≡ with_core (told_by c.pairs c.marks) x → OnCore (TellsAs c) x
  by_outcome (Falls e) k = let w : e ≡ told_by c.pairs c.marks e = cc in by_core e w
  by_outcome (Goes n e) k = let w : e ≡ told_by c.pairs c.marks e = cc in by_core e w
  by_outcome (Gives v) k = tt
  by_outcome Traps k = tt
  by_outcome Asks k = tt
  by_outcome Breaks k = tt

-- code of each, with its numbers: from how the rows' outcomes are related, and what giving the numbers makes of that
pub code_alike : (f g : Program) (i j : Instruction) (n m : Option ℕ) (c d : Core) (R S : Core → Core → Type 0) →
    EndAlike R (act (row_of i) c) (act (row_of j) d) →
    ((c' d' : Core) → R c' d' → TellsAs c c' → TellsAs d d' →
    S (numbered f.sees_pointer (is_call (row_of i)) n i.operands c') (numbered g.sees_pointer (is_call (row_of j)) m j.operands d')) →
    EndAlike S (do_item f (Code i n) c) (do_item g (Code j m) d)
code_alike f g i j n m c d R S h k =
    alike_with (λ c' d'. R c' d' × TellsAs c c' × TellsAs d d') S (numbered f.sees_pointer (is_call (row_of i)) n i.operands)
    (numbered g.sees_pointer (is_call (row_of j)) m j.operands) (λ c' d' r. k c' d' r.0 r.1 r.2) (act (row_of i) c) (act (row_of j) d)
    (alike_both R (TellsAs c) (TellsAs d) (act (row_of i) c) (act (row_of j) d) h (act_tells (row_of i) c) (act_tells (row_of j) d))

-- ---- what an item leaves

-- what is told is no place
pub held_told : (x : Place) (p : ℕ → ℕ → Option ℕ) (m : List (VarId × Option ℕ)) (c : Core) → held_in x (told_by p m c) ≡ held_in x c
held_told (Register r) p m c = refl
held_told (Slot n) p m c = refl
held_told (Const z) p m c = refl

pub held_numbered : (x : Place) (sp call : Bool) (n : Option ℕ) (os : List Operand) (c : Core) → held_in x (numbered sp call n os c) ≡ held_in x c
held_numbered x sp call None os c = refl
held_numbered x sp call (Some k) os c = held_told x _ c.marks c

is_false : (b : Bool) → (b ≡ true → ⊥) → b ≡ false
is_false true h = absurd (h refl)
is_false false h = refl

-- a place that it doesn't define
pub leaves_place : (g : Program) (k : ItemKind) (x : Place) (c : Core) → (KindDefines k x → ⊥) → OnCore (λ e. held_in x e ≡ held_in x c) (do_item g k c)
leaves_place g (Code i n) x c ne =
    on_with (λ e. held_in x e ≡ held_in x c) (λ e. held_in x e ≡ held_in x c) (numbered g.sees_pointer (is_call (row_of i)) n i.operands)
    (λ e h. held_numbered x g.sees_pointer (is_call (row_of i)) n i.operands e ∙ h) (act (row_of i) c)
    (effects_hold.defines i x c (is_false (defines_of (row_of i) x) ne))
leaves_place g (Mark v m) x c ne = held_told x c.pairs _ c
leaves_place g (Phi p n) x c ne = held_told x _ c.marks c

-- a pair of another number than its own
pub leaves_pair : (g : Program) (k : ItemKind) (n : ℕ) (c : Core) → ((m : ℕ) → number_of k ≡ Some m → n ≡ m → ⊥) →
    OnCore (λ e. e.pairs n ≡ c.pairs n) (do_item g k c)
leaves_pair g (Code i m) n c ne =
    on_with (TellsAs c) (λ e. e.pairs n ≡ c.pairs n) (numbered g.sees_pointer (is_call (row_of i)) m i.operands)
    (λ e h. by_number m ne e ∙ ap (λ (z : ℕ → ℕ → Option ℕ). z n) h.0) (act (row_of i) c) (act_tells (row_of i) c) where
      by_number : (m : Option ℕ) → ((j : ℕ) → m ≡ Some j → n ≡ j → ⊥) → (e : Core) →
          (numbered g.sees_pointer (is_call (row_of i)) m i.operands e).pairs n ≡ e.pairs n
      by_number None ne e = refl
      by_number (Some j) ne e = updated_other j n _ e.pairs (ne j refl)
leaves_pair g (Mark v m) n c ne = refl
leaves_pair g (Phi p m) n c ne = updated_other m n _ c.pairs (ne m refl)
