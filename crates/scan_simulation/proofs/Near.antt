-- A core of the function beside one of the function with physical registers, at a position.
--
-- A register's value is in its place, unless some path comes here on which another register's was put there. Where a register gets another, it is
-- written, unless some path comes here on which it isn't set.
use Rattle.std.proofs.Common.{◌≡◌, ℕ, List, Contains, Option, Some, None, refl, sym, ◌∙◌, subst}
use Rattle.rv64_instr.specs.declared.place.Place.TheVariants.{Register}
use Rattle.rv64_instr.specs.DefsAndUses.{reads}
use Rattle.rv64_instr.specs.Instruction.{Instruction}
use Rattle.rv64_instr.specs.Row.{row_of}
use Rattle.mir_func.specs.declared.item.Item.{Item}
use Rattle.mir_func.specs.declared.item.ItemKind.{ItemKind}
use Rattle.mir_func.specs.declared.item.ItemKind.TheVariants.{Code}
use Rattle.mir_func.specs.declared.object.Object.{Object}
use Rattle.mir_func.specs.declared.position.Pos.{Pos}
use Rattle.mir_func.specs.declared.variable.VarId.{VarId}
use Rattle.mir_func.specs.Graph.{Program, Fetch, Here}
use Rattle.sem_mir.specs.Effects.{SameWorld}
use Rattle.sem_mir.specs.InitialState.{IsInitialState}
use Rattle.sem_mir.specs.Live.{Live, used, later, Uses, KindUses}
use Rattle.sem_mir.specs.State.{Core, State, content, assigned}
use Rattle.sem_mir.proofs.Parts.{row_uses}
use Rattle.sem_mir.proofs.Told.{Below}
use Rattle.scan_rule.specs.pass_trait.Causes.{begins, goes_on}
use Rattle.scan_rule.specs.scan_allocation.Coloring.{IsColoring}
use Rattle.scan_rule.specs.Silence.{Overwritten, Unset}

module _ (f : Program) (given : ℕ → Option ℕ) (col : IsColoring f given) (start : Pos) where
  pub record Near (p : Pos) (c d : Core) : Type 0 where
    pub world : SameWorld c d
    pub slots : (n : ℕ) → c.slots n ≡ d.slots n
    pub plain : (r : ℕ) → given r ≡ None → (Overwritten f given r p → ⊥) → content c.regs r ≡ content d.regs r
    pub renamed : (r q x : ℕ) → given r ≡ Some q → (Overwritten f given r p → ⊥) → content c.regs r ≡ Some x → content d.regs q ≡ Some x
    pub written : (r q : ℕ) → given r ≡ Some q → (Unset f given start r p → ⊥) → content c.regs r ≡ None → ⊥
    pub pairs : (k o : ℕ) → Below (c.pairs k o) (d.pairs k o)
    pub marks : (v : VarId) → Below (assigned v c.marks) (assigned v d.marks)

  -- no register is live where its place is overwritten
  pub never : (r : ℕ) {q : Pos} → Live f (Register r) q → Overwritten f given r q → ⊥
  never r {q = q} alive (begins (p, another, edge)) = col.apart p another.0 r another.2 another.3 (q, edge, alive) another.1
  never r alive (goes_on more none edge) = never r (later none edge alive) more

  -- so code reads none there
  pub read_clear : (p : Pos) (i : Item) (code : Instruction) (k : Option ℕ) → f.fetch p ≡ Here i → i.kind ≡ Code code k → (r : ℕ) →
      Contains (reads (row_of code)) r → Overwritten f given r p → ⊥
  read_clear p i code k at kind r c over =
      let uses : KindUses i.kind (Register r) = subst (λ (z : ItemKind). KindUses z (Register r)) (sym kind) (row_uses code (Register r) c) in
      never r (used (subst (λ (z : Fetch). Uses z (Register r)) (sym at) uses)) over

  -- the two begin alike
  pub near_start : (stack : List Object) (first : ℕ) (s : State) → IsInitialState stack first s → start ≡ s.pos → Near s.pos s.core s.core
  near_start stack first s is here = record {
    world = record { entry = refl; area = refl; objects = refl; symbols = refl; memory = refl; script = refl; events = refl };
    slots = λ n. refl;
    plain = λ r none clear. refl;
    renamed = λ r q x some clear e.
        (let bad : ◌≡◌ {A = Option ℕ} None (Some x) = sym (is.virtual r (col.real r q some).0) ∙ e in cc);
    written = λ r q some sets e. sets (begins (sym here));
    pairs = λ k o v e. e;
    marks = λ v x e. e;
  }
