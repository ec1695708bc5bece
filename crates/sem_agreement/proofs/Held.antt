-- What code does to places that two runs hold alike.
use Rattle.std.proofs.Common.{◌≡◌, ◌⊎◌, inl, inr, ℕ, List, Option, Some, None, Bool, true, false, refl, sym, ◌∙◌}
use Rattle.sem_simulation.specs.rv64_instr.declared.place.Place.{Place}
use Rattle.sem_simulation.specs.rv64_instr.declared.operand.Operand.{Operand}
use Rattle.sem_simulation.specs.rv64_instr.Instruction.{Instruction}
use Rattle.sem_simulation.specs.rv64_instr.Row.{row_of}
use Rattle.sem_simulation.specs.rv64_instr.LocationEffects.{is_pure, uses_of, defines_of}
use Rattle.sem_simulation.specs.mir_func.declared.variable.VarId.{VarId}
use Rattle.sem_simulation.specs.sem_mir.State.{Core}
use Rattle.sem_simulation.specs.sem_mir.Step.{act, numbered}
use Rattle.sem_simulation.specs.sem_mir.Effects.{held_in, EndAlike, FallsInto, SameWorld, AreHeldAlike}
use Rattle.sem_mir.proofs.Effects.{told_by}
use Rattle.sem_mir.proofs.Outcomes.{alike_weaker}
use Rattle.sem_mir.proofs.Parts.{effects_hold}
use Rattle.sem_agreement.specs.Agreement.{AgreeOn, GenDefs, KillDefs}
use Rattle.sem_agreement.proofs.Outcomes.{TellsAs, act_tells, falls_both, falls_weaker, on_all, on_given, held_told, held_numbered}

-- ---- the world

pub same_world : (c : Core) → SameWorld c c
same_world c = record { entry = refl; area = refl; objects = refl; symbols = refl; memory = refl; script = refl; events = refl }

pub world_back : (c d : Core) → SameWorld c d → SameWorld d c
world_back c d h =
    record {
      entry = sym h.entry;
      area = sym h.area;
      objects = sym h.objects;
      symbols = sym h.symbols;
      memory = sym h.memory;
      script = sym h.script;
      events = sym h.events;
    }

pub world_on : (c d e : Core) → SameWorld c d → SameWorld d e → SameWorld c e
world_on c d e h k = record {
  entry = h.entry ∙ k.entry;
  area = h.area ∙ k.area;
  objects = h.objects ∙ k.objects;
  symbols = h.symbols ∙ k.symbols;
  memory = h.memory ∙ k.memory;
  script = h.script ∙ k.script;
  events = h.events ∙ k.events;
}

-- ---- cores held alike

pub held_itself : (Held : Place → Type 0) (c : Core) → AgreeOn Held c c
held_itself Held c = record { world = same_world c; places = λ x h. refl }

pub held_on : (Held : Place → Type 0) (c d e : Core) → AgreeOn Held c d → AgreeOn Held d e → AgreeOn Held c e
held_on Held c d e h k = record { world = world_on c d e h.world k.world; places = λ x p. h.places x p ∙ k.places x p }

-- fewer places
pub held_fewer : (Held Less : Place → Type 0) → ((x : Place) → Less x → Held x) → (c d : Core) → AgreeOn Held c d → AgreeOn Less c d
held_fewer Held Less f c d h = record { world = h.world; places = λ x p. h.places x (f x p) }

-- what is told is no matter
pub held_by : (Held : Place → Type 0) (c d : Core) (p q : ℕ → ℕ → Option ℕ) (m n : List (VarId × Option ℕ)) → AgreeOn Held c d →
    AgreeOn Held (told_by p m c) (told_by q n d)
held_by Held c d p q m n h = record {
  world = record {
    entry = h.world.entry;
    area = h.world.area;
    objects = h.world.objects;
    symbols = h.world.symbols;
    memory = h.world.memory;
    script = h.world.script;
    events = h.world.events;
  };
  places = λ x k. held_told x p m c ∙ h.places x k ∙ sym (held_told x q n d);
}

-- nor are numbers
pub held_number : (Held : Place → Type 0) (sp sp' call call' : Bool) (n n' : Option ℕ) (os os' : List Operand) (c d : Core) →
    AgreeOn Held c d → AgreeOn Held (numbered sp call n os c) (numbered sp' call' n' os' d)
held_number Held sp sp' call call' n n' os os' c d h = record {
  world = world_on _ _ _ (world_back _ _ (kept sp call n os c)) (world_on _ _ _ h.world (kept sp' call' n' os' d));
  places = λ x k. held_numbered x sp call n os c ∙ h.places x k ∙ sym (held_numbered x sp' call' n' os' d);
} where
  kept : (sp call : Bool) (n : Option ℕ) (os : List Operand) (c : Core) → SameWorld c (numbered sp call n os c)
  kept sp call None os c = same_world c
  kept sp call (Some k) os c = record { entry = refl; area = refl; objects = refl; symbols = refl; memory = refl; script = refl; events = refl }

-- ---- code

-- code of both whose uses are held alike does alike, and then what it defines is held alike too
pub act_held : (Held : Place → Type 0) (i : Instruction) (c d : Core) → AgreeOn Held c d → ((x : Place) → uses_of i x ≡ true → Held x) →
    EndAlike (AgreeOn (GenDefs Held i)) (act (row_of i) c) (act (row_of i) d)
act_held Held i c d h uses =
    alike_weaker (AreHeldAlike i c d) (AgreeOn (GenDefs Held i)) by_core (act (row_of i) c) (act (row_of i) d)
    (effects_hold.uses i c d h.world (λ x u. h.places x (uses x u))) where
      by_core : (c' d' : Core) → AreHeldAlike i c d c' d' → AgreeOn (GenDefs Held i) c' d'
      by_core c' d' r = record {
        world = r.0;
        places = λ x k. r.1 x (elim k as (λ _. (defines_of (row_of i) x ≡ true) ⊎ (held_in x c ≡ held_in x d)) [
          | inl e ↦ inl e
          | inr p ↦ inr (h.places x p)
        ]);
      }

-- pure code that runs in one alone falls through, to the same world and with what it doesn't define
abbrev pub StaysBut : Instruction → Core → Core → Type 0
StaysBut i c e = SameWorld c e × ((x : Place) → defines_of (row_of i) x ≡ false → held_in x e ≡ held_in x c) × TellsAs c e

pub act_stays : (i : Instruction) (c : Core) → is_pure (row_of i) ≡ true → FallsInto (StaysBut i c) (act (row_of i) c)
act_stays i c pure = falls_weaker _ (StaysBut i c) (λ e h. (h.0.0, h.0.1, h.1)) (act (row_of i) c)
    (falls_both _ (TellsAs c) (act (row_of i) c) (falls_both (SameWorld c) _ (act (row_of i) c) (effects_hold.pure i c pure)
    (on_all (λ (x : Place) (e : Core). defines_of (row_of i) x ≡ false → held_in x e ≡ held_in x c) (act (row_of i) c)
    (λ x. on_given (defines_of (row_of i) x ≡ false) (λ e. held_in x e ≡ held_in x c) (act (row_of i) c) (λ n. effects_hold.defines i x c n))))
    (act_tells (row_of i) c))

-- so for the first, and for the second
pub act_first : (Held : Place → Type 0) (i : Instruction) (c d : Core) → is_pure (row_of i) ≡ true → AgreeOn Held c d →
    FallsInto (λ e. AgreeOn (KillDefs Held i) e d × TellsAs c e) (act (row_of i) c)
act_first Held i c d pure h = falls_weaker (StaysBut i c) (λ e. AgreeOn (KillDefs Held i) e d × TellsAs c e)
    (λ e s. (record { world = world_on e c d (world_back c e s.0) h.world; places = λ x p. s.1 x p.0 ∙ h.places x p.1 }, s.2)) (act (row_of i) c)
    (act_stays i c pure)

pub act_second : (Held : Place → Type 0) (i : Instruction) (c d : Core) → is_pure (row_of i) ≡ true → AgreeOn Held c d →
    FallsInto (λ e. AgreeOn (KillDefs Held i) c e × TellsAs d e) (act (row_of i) d)
act_second Held i c d pure h = falls_weaker (StaysBut i d) (λ e. AgreeOn (KillDefs Held i) c e × TellsAs d e)
    (λ e s. (record { world = world_on c d e h.world s.0; places = λ x p. h.places x p.1 ∙ sym (s.1 x p.0) }, s.2)) (act (row_of i) d) (act_stays i d pure)
