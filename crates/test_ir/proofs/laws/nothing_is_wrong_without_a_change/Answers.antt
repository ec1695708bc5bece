use Rattle.std.proofs.Common.{◌≡◌, ℕ, ◌<◌, List, subst, sym, ◌∙◌, inl, inr, arith}
use Rattle.rv64_instr.specs.declared.place.Place.TheVariants.{Register}
use Rattle.mir_func.specs.declared.position.Pos.{Pos}
use Rattle.mir_func.specs.declared.debug_substitution.DebugSubstitution.{DebugSubstitution}
use Rattle.mir_func.specs.Function.{Function}
use Rattle.mir_func.specs.Graph.{Program}
use Rattle.pass_trait.specs.Change.{Change, change}
use Rattle.pass_trait.specs.Rule.{IsNow}
use Rattle.pass_trait.specs.Causes.{Comes, begins, goes_on, IsDefinition, IsWrong, removed, unnamed, unset, overwritten}
use Rattle.pass_trait.specs.Nops.{nop_rule}
use Rattle.test_ir.proofs.laws.nothing_is_wrong_without_a_change.Goals as goal

-- a path that begins nowhere leads nowhere
nowhere : {f : Program} {B S : Pos → Type 0} (q : Pos) → ((p : Pos) → B p → ⊥) → Comes f B S q → ⊥
nowhere q none (begins b) = none q b
nowhere q none (goes_on p on edge) = nowhere _ none p

same_now : (c : Change) (r now : ℕ) → IsNow nop_rule c r now → r ≡ now
same_now c r now (inl e) = e
same_now c r now (inr h) = absurd h

module _ (f : Function) (subs : List DebugSubstitution) where
  abbrev c : Change
  c = change f subs f subs

  right : (r : ℕ) (at : Pos) → r < 32 → IsWrong nop_rule c (Register r) at → ⊥
  right r at real (removed path) = nowhere at (λ q after. (let less = after.1.3.0.0 in omega (arith, less))) path
  right r at real (unnamed virtual none) = omega (arith, real, virtual)
  right r at real (unset gone path) = absurd gone
  right r at real (overwritten {now = now} is path) = nowhere at (λ q after. (
      let w = after.1 in
      let e : w.0 ≡ r = same_now c w.0 now w.1 ∙ sym (same_now c r now is) in
      w.3 (subst (λ (s : ℕ). IsDefinition c (Register s) after.0) e w.2))) path

pub returns : goal.returns
returns c f subs r at real wrong = right f subs r at real wrong
