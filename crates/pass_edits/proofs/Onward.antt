-- Items from which control goes on to the next: they go nowhere else.
use Rattle.std.proofs.Common.{◌≡◌, ℕ, List, [], ◌∷◌, ◌++◌, All, Option, Some, None, Bool, true, false, cond, refl, ap, subst}
use Rattle.std.proofs.lemmas.List.Elements.{All-nil, All-cons}
use Rattle.rv64_instr.specs.Row.{Row, Loads, Stores, LoadsSlot, Calls, row_of}
use Rattle.rv64_instr.specs.DefsAndUses.{reads}
use Rattle.rv64_instr.specs.Arithmetic.{load_width, store_width}
use Rattle.rv64_instr.specs.LocationEffects.{is_call}
use Rattle.mir_func.specs.declared.exit.Exit.{Exit}
use Rattle.mir_func.specs.declared.exit.Exit.TheVariants.{Onward, Perhaps, Always, Final}
use Rattle.mir_func.specs.declared.item.Item.{Item}
use Rattle.mir_func.specs.declared.item.ItemKind.{ItemKind}
use Rattle.mir_func.specs.declared.item.ItemKind.TheVariants.{Code, Mark, Phi}
use Rattle.mir_func.specs.Exits.{row_exit, exit_of, IsAlways}
use Rattle.mir_func.specs.Graph.{Program}
use Rattle.mir_func.specs.Sound.{IsJumpAtMost, MayFollow, EndsWell}
use Rattle.pass_salvage.specs.sem_mir.State.{Core, Reply}
use Rattle.pass_salvage.specs.sem_mir.Step.{Outcome, Falls, Goes, Gives, Traps, Asks, Breaks, act, does, are_written, with_core, numbered, slot_loaded, called_at}
use Rattle.pass_salvage.specs.sem_mir.Step.{exec_external_call, passed, call_faults, do_item}
use Rattle.pass_salvage.specs.sem_mir.Step.{is_fault, address_at}
use Rattle.pass_edits.specs.Edits.{IsMove}

-- it goes to no block
abbrev pub GoesNowhere : Outcome → Type 0
GoesNowhere x = (t : ℕ) (c : Core) → x ≡ Goes t c → ⊥

by_test : (z : Bool) (x y : Outcome) → GoesNowhere x → GoesNowhere y → GoesNowhere (cond z x y)
by_test true x y h k = h
by_test false x y h k = k

does_nowhere : (r : Row) (c : Core) → row_exit r ≡ Onward → GoesNowhere (does r c)
unfolding does
does_nowhere (Loads rd op b o) c on t e h = by_test (is_fault b c (address_at c b o) (load_width op)) Traps (Falls _) (λ u d k. cc) (λ u d k. cc) t e h
does_nowhere (Stores op rs b o) c on t e h = by_test (is_fault b c (address_at c b o) (store_width op)) Traps (Falls _) (λ u d k. cc) (λ u d k. cc) t e h
does_nowhere (LoadsSlot rd n) c on t e h = by_slot (c.slots n) h where
  by_slot : (x : Option ℕ) → slot_loaded rd c x ≡ Goes t e → ⊥
  by_slot None h = cc
  by_slot (Some v) h = cc
does_nowhere (Calls call) c on t e h = by_script c.script h where
  by_script : (rs : List Reply) → exec_external_call (called_at c call.callee) (passed c call) call.outgoing c rs ≡ Goes t e → ⊥
  by_script [] h = cc
  by_script (r ∷ rest) h = by_test (call_faults c call.outgoing r) Traps (Falls _) (λ u d k. cc) (λ u d k. cc) t e h
does_nowhere _ c on t e h = cc

act_nowhere : (r : Row) (c : Core) → row_exit r ≡ Onward → GoesNowhere (act r c)
unfolding act
act_nowhere r c on = by_test (are_written c (reads r)) (does r c) Traps (does_nowhere r c on) (λ t e h. cc)

with_nowhere : (f : Core → Core) (x : Outcome) → GoesNowhere x → GoesNowhere (with_core f x)
with_nowhere f (Falls c) h t e k = cc
with_nowhere f (Goes u c) h t e k = h u c refl
with_nowhere f (Gives v) h t e k = cc
with_nowhere f Traps h t e k = cc
with_nowhere f Asks h t e k = cc
with_nowhere f Breaks h t e k = cc

pub goes_nowhere : (g : Program) (k : ItemKind) (c : Core) → exit_of k ≡ Onward → GoesNowhere (do_item g k c)
goes_nowhere g (Code i n) c on t e h = with_nowhere (numbered g.sees_pointer (is_call (row_of i)) n i.operands) (act (row_of i) c)
    (act_nowhere (row_of i) c on) t e h
goes_nowhere g (Mark v m) c on t e h = cc
goes_nowhere g (Phi p n) c on t e h = cc

-- ---- above a copy control goes on

pub move_onward : (k : ItemKind) → IsMove k → exit_of k ≡ Onward
move_onward (Code i n) m = ap row_exit m.2
move_onward (Mark v m') m = refl
move_onward (Phi p n) m = refl

pub no_jump : (k : ItemKind) → IsMove k → IsAlways (exit_of k) → ⊥
no_jump k m h = subst IsAlways (move_onward k m) h

pub not_alone : (x : Item) (xs : List Item) → IsMove x.kind → IsJumpAtMost (x ∷ xs) → ⊥
not_alone x [] m h = no_jump x.kind m h
not_alone x (y ∷ ys) m h = h

pub above_onward : (xs : List Item) (y : Item) (ys : List Item) → IsMove y.kind → EndsWell (xs ++ y ∷ ys) → All (λ (x : Item). exit_of x.kind ≡ Onward) xs
above_onward [] y ys m h = All-nil (λ (x : Item). exit_of x.kind ≡ Onward)
above_onward (x ∷ xs) y ys m h =
    All-cons (λ (z : Item). exit_of z.kind ≡ Onward) x xs (by_exit (exit_of x.kind) refl h.0) (above_onward xs y ys m h.1) where
      alone : (us : List Item) → IsJumpAtMost (us ++ y ∷ ys) → ⊥
      alone [] k = not_alone y ys m k
      alone (u ∷ []) k = k
      alone (u ∷ v ∷ us) k = k

      some : (us : List Item) → us ++ y ∷ ys ≡ [] → ⊥
      some [] e = cc
      some (u ∷ us) e = cc

      by_exit : (e : Exit) → exit_of x.kind ≡ e → MayFollow e (xs ++ y ∷ ys) → exit_of x.kind ≡ Onward
      by_exit Onward is k = is
      by_exit (Perhaps n) is k = absurd (alone xs k)
      by_exit (Always n) is k = absurd (some xs k)
      by_exit Final is k = absurd (some xs k)
