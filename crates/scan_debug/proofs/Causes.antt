-- Each loss has its cause.
use Rattle.std.proofs.Common.{◌≡◌, inl, inr, ℕ, List, Option, Some, None, true, refl, sym, ap, ◌∙◌, subst}
use Rattle.rv64_instr.specs.declared.place.Place.{Place}
use Rattle.rv64_instr.specs.declared.place.Place.TheVariants.{Register}
use Rattle.mir_func.specs.declared.item.ItemKind.{ItemKind}
use Rattle.mir_func.specs.declared.item.ItemKind.TheVariants.{Code, Mark, Phi}
use Rattle.mir_func.specs.declared.position.Pos.{Pos}
use Rattle.mir_func.specs.Graph.{Program, Fetch, Here, EndOfBlock, Outside, Edge}
use Rattle.pass_trait.specs.sem_mir.Live.{Defines, KindDefines}
use Rattle.pass_trait.specs.declared.loss.Loss.{Loss}
use Rattle.pass_trait.specs.Causes.{defines, Comes, begins, goes_on, old_program, old_start, IsDefinition, IsAfter, IsOtherDefinition, IsWrong, unnamed, unset}
use Rattle.pass_trait.specs.Causes.{overwritten, HasCause, place_wrong}
use Rattle.pass_trait.specs.Change.{Change}
use Rattle.pass_trait.specs.Rule.{Rule, IsNow}
use Rattle.scan_simulation.specs.scan_allocation.Allocation.{IsAllocation}
use Rattle.scan_simulation.specs.scan_allocation.Coloring.{now_by, now}
use Rattle.scan_simulation.specs.scan_rule.Silence.{SetsAnother, IsSilent}
use Rattle.scan_simulation.specs.scan_rule.Step.{IsSilenced, allot_debug}

-- a path by other words
comes_map : (f : Program) (B B' S S' : Pos → Type 0) → ((q : Pos) → B q → B' q) → ((p : Pos) → S' p → S p) → {at : Pos} → Comes f B S at → Comes f B' S' at
comes_map f B B' S S' h k (begins b) = begins (h _ b)
comes_map f B B' S S' h k (goes_on more none edge) = goes_on (comes_map f B B' S S' h k more) (λ s. none (k _ s)) edge

module _ (reserve : List ℕ) (c : Change) (given : ℕ → Option ℕ) (a : IsAllocation reserve c.old given) where
  abbrev rule : Rule
  rule = allot_debug reserve

  abbrev f : Program
  f = old_program c

  to_kind : (k : ItemKind) (x : Place) → KindDefines k x → defines x k ≡ true
  to_kind (Code i n) x h = h
  to_kind (Mark v m) x h = absurd h
  to_kind (Phi q n) x h = absurd h

  from_kind : (k : ItemKind) (x : Place) → defines x k ≡ true → KindDefines k x
  from_kind (Code i n) x h = h
  from_kind (Mark v m) x h = cc
  from_kind (Phi q n) x h = cc

  to_definition : (x : Place) (p : Pos) → Defines (f.fetch p) x → IsDefinition c x p
  to_definition x p d = by_fetch (f.fetch p) refl d where
    by_fetch : (y : Fetch) → f.fetch p ≡ y → Defines y x → IsDefinition c x p
    by_fetch (Here i) e d = (i, e, to_kind i.kind x d)
    by_fetch (EndOfBlock k n) e d = absurd d
    by_fetch Outside e d = absurd d

  from_definition : (x : Place) (p : Pos) → IsDefinition c x p → Defines (f.fetch p) x
  from_definition x p (i, stands, d) = subst (λ (y : Fetch). Defines y x) (sym stands) (from_kind i.kind x d)

  is_now : (s n : ℕ) → now given s ≡ n → IsNow rule c s n
  is_now s n e = by_given (given s) refl e where
    by_given : (x : Option ℕ) → given s ≡ x → now_by s x ≡ n → IsNow rule c s n
    by_given None h e = inl e
    by_given (Some q) h e = inr (given, a, h ∙ ap Some e)

  other_definition : (r : ℕ) (p : Pos) → SetsAnother f given r p → IsOtherDefinition rule c r (now given r) p
  other_definition r p w = (w.0, is_now w.0 (now given r) w.1, to_definition (Register w.0) p w.2, λ d. w.3 (from_definition (Register r) p d))

  is_wrong : (r : ℕ) (at : Pos) → IsSilent f c.old given r at → IsWrong rule c (Register r) at
  is_wrong r at (inl (virtual, none)) = unnamed virtual none
  is_wrong r at (inr (inl (q, e, path))) =
      unset {now = q} (given, a, e)
      (comes_map f (λ p. p ≡ old_start c) (λ p. p ≡ old_start c) (λ p. Defines (f.fetch p) (Register r)) (IsDefinition c (Register r)) (λ p h. h)
      (λ p d. from_definition (Register r) p d) path)
  is_wrong r at (inr (inr path)) =
      overwritten {now = now given r} (is_now r (now given r) refl)
      (comes_map f (λ q. (p : Pos) × SetsAnother f given r p × Edge f p q) (IsAfter c (IsOtherDefinition rule c r (now given r)))
      (λ p. Defines (f.fetch p) (Register r)) (IsDefinition c (Register r)) (λ q w. (w.0, other_definition r w.0 w.1, w.2))
      (λ p d. from_definition (Register r) p d) path)

  pub has_cause : (at : Pos) (loss : Loss) → IsSilenced c given at loss → HasCause rule c at loss
  has_cause at loss s =
      subst (HasCause rule c at) (sym s.is)
      (place_wrong {i = s.item} {x = Register s.register} {what = s.what} s.stands s.lost s.asks (is_wrong s.register at s.silent))
