-- What new names of registers leave of code: how control leaves it, its class, and what may be added.
use Rattle.std.proofs.Common.{◌≡◌, ℕ, Bool, true, false, cond, refl, sym, ap, ◌∙◌, subst}
use Rattle.rv64_instr.specs.Row.{Row, Fixes, Moves, LoadsSlot, StoresSlot, Branches, Jumps, Returns, Unfit, row_of}
use Rattle.rv64_instr.specs.LocationEffects.{IsSlotStore}
use Rattle.rv64_instr.specs.View.{class_of}
use Rattle.mir_func.specs.declared.item.ItemKind.{ItemKind}
use Rattle.mir_func.specs.declared.item.ItemKind.TheVariants.{Code, Mark, Phi}
use Rattle.mir_func.specs.declared.position.Origin.{Origin}
use Rattle.mir_func.specs.declared.position.Origin.TheVariants.{Kept, Before}
use Rattle.mir_func.specs.declared.variable.MarkValue.{MarkValue}
use Rattle.mir_func.specs.declared.variable.MarkValue.TheVariants.{Nothing, Constant, At, Pair}
use Rattle.mir_func.specs.declared.variable.VarId.{VarId}
use Rattle.mir_func.specs.Exits.{row_exit, exit_of}
use Rattle.mir_func.specs.Graph.{Program, Fetch, Here, EndOfBlock, Outside}
use Rattle.sem_mir.specs.Align.{Count, ByItems, ByEnds, ByWords, is_code, is_jump_row, is_jump, moves_on}
use Rattle.sem_mir.specs.Follow.{MayAdd, HasClass, ItemHasClass, RowFits, KindFits, StaysVolatile, MarkFits, OnRow, GoesTo, Counts, SameEnd, IsEnd}
use Rattle.sem_mir.specs.Follow.{KindsEndAlike}
use Rattle.std.proofs.Common.{Option}
use Rattle.scan_rule.proofs.spill_simulation.Rows.{renamed_row, row_renamed}
use Rattle.scan_rule.specs.scan_allocation.Coloring.{now, IsColoring}
use Rattle.scan_rule.specs.Rewrite.{value_now, kind_now}
use Rattle.scan_simulation.proofs.Renaming.{keeps_zero}

module _ (u : ℕ → ℕ) where
  pub exit_renamed : (r : Row) → row_exit (renamed_row u u r) ≡ row_exit r
  exit_renamed (Branches op a b t) = refl
  exit_renamed (Jumps t) = refl
  exit_renamed _ = refl

  pub class_renamed : (r : Row) → class_of (renamed_row u u r) ≡ class_of r
  class_renamed (Branches op a b t) = refl
  class_renamed _ = refl

  pub jump_renamed : (r : Row) → is_jump_row (renamed_row u u r) ≡ is_jump_row r
  jump_renamed (Jumps t) = refl
  jump_renamed _ = refl

  may_renamed : (r : Row) (k e : ℕ) → MayAdd r k e → MayAdd (renamed_row u u r) k e
  may_renamed (Fixes rd n) k e h = h
  may_renamed (LoadsSlot rd n) k e h = h
  may_renamed (StoresSlot rs n) k e h = h
  may_renamed (Jumps t) k e h = h
  may_renamed _ k e h = absurd h

  class_kept : (r s : Row) → class_of s ≡ class_of r → (x : ItemKind) → ItemHasClass r x → ItemHasClass s x
  class_kept r s same (Code c k) h = h ∙ sym same
  class_kept r s same (Mark v m) h = h
  class_kept r s same (Phi q k) h = h

  class_at : (r s : Row) → class_of s ≡ class_of r → (x : Fetch) → HasClass r x → HasClass s x
  class_at r s same (Here i) h = class_kept r s same i.kind h
  class_at r s same (EndOfBlock k n) h = h
  class_at r s same Outside h = h

  pub fits_renamed : (src : Program) (r : Row) (e : ℕ) (o : Origin) → RowFits src r e o → RowFits src (renamed_row u u r) e o
  fits_renamed src r e (Kept p) h = class_at r (renamed_row u u r) (class_renamed r) (src.fetch p) h
  fits_renamed src r e (Before p) h = may_renamed r p.item e h

  pub end_renamed : (r s : Row) → SameEnd r s → SameEnd r (renamed_row u u s)
  end_renamed (Branches op a b t) (Branches op' a' b' t') h = h
  end_renamed (Jumps t) (Jumps t') h = h
  end_renamed (Returns v) (Returns w) h = h
  end_renamed _ _ h = absurd h

  pub ends_from : (r : Row) → IsEnd (renamed_row u u r) → IsEnd r
  ends_from (Branches op a b t) h = h
  ends_from (Jumps t) h = h
  ends_from (Returns v) h = h
  ends_from _ h = absurd h

  pub store_from : (r : Row) → IsSlotStore (renamed_row u u r) → IsSlotStore r
  store_from (StoresSlot rs n) h = h
  store_from _ h = absurd h

  pub counts_renamed : (r : Row) → ((rd rs : ℕ) → r ≡ Moves rd rs → (rd ≡ rs → ⊥) → u rd ≡ u rs → ⊥) → Counts r → Counts (renamed_row u u r)
  counts_renamed (Moves rd rs) apart h = λ e. apart rd rs refl h e
  counts_renamed (Branches op a b t) apart h = h
  counts_renamed (Jumps t) apart h = h
  counts_renamed (Returns v) apart h = h
  counts_renamed Unfit apart h = h
  counts_renamed _ apart h = h

  pub goes_renamed : (n : ℕ) (r : Row) → GoesTo n r → GoesTo n (renamed_row u u r)
  goes_renamed n (Branches op a b t) h = h
  goes_renamed n (Jumps t) h = h
  goes_renamed n _ h = absurd h

pub volatile_now : (given : ℕ → Option ℕ) (silent : ℕ → Bool) (src : Program) (k : ItemKind) (o : Origin) → StaysVolatile src k o →
    StaysVolatile src (kind_now given silent k) o
volatile_now given silent src (Code i n) (Kept p) h = h
volatile_now given silent src (Code i n) (Before p) h = tt
volatile_now given silent src (Mark v m) o h = tt
volatile_now given silent src (Phi q n) o h = tt

module _ (f : Program) (given : ℕ → Option ℕ) (col : IsColoring f given) (silent : ℕ → Bool) where
  pub code_now : (k : ItemKind) → is_code (kind_now given silent k) ≡ is_code k
  code_now (Code i n) = refl
  code_now (Mark v m) = refl
  code_now (Phi q n) = refl

  pub jump_now : (k : ItemKind) → is_jump (kind_now given silent k) ≡ is_jump k
  jump_now (Code i n) = ap is_jump_row (row_renamed (now given) (now given) (keeps_zero f given col) i) ∙ jump_renamed (now given) (row_of i)
  jump_now (Mark v m) = refl
  jump_now (Phi q n) = refl

  pub moves_now : (ct : Count) (k : ItemKind) → moves_on ct k ≡ moves_on ct (kind_now given silent k)
  moves_now ByWords k = refl
  moves_now ByItems k = sym (jump_now k)
  moves_now ByEnds k = sym (jump_now k)

  pub exit_now : (k : ItemKind) → exit_of (kind_now given silent k) ≡ exit_of k
  exit_now (Code i n) = ap row_exit (row_renamed (now given) (now given) (keeps_zero f given col) i) ∙ exit_renamed (now given) (row_of i)
  exit_now (Mark v m) = refl
  exit_now (Phi q n) = refl

  -- what holds of the row with other registers holds of the code's row
  pub on_row_now : (P Q : Row → Type 0) → ((r : Row) → P r → Q (renamed_row (now given) (now given) r)) → (k : ItemKind) → OnRow P k →
      OnRow Q (kind_now given silent k)
  on_row_now P Q h (Code i n) k = subst Q (sym (row_renamed (now given) (now given) (keeps_zero f given col) i)) (h (row_of i) k)
  on_row_now P Q h (Mark v m) k = absurd k
  on_row_now P Q h (Phi q n) k = absurd k

  pub on_row_from : (P Q : Row → Type 0) → ((r : Row) → P (renamed_row (now given) (now given) r) → Q r) → (k : ItemKind) →
      OnRow P (kind_now given silent k) → OnRow Q k
  on_row_from P Q h (Code i n) k = h (row_of i) (subst P (row_renamed (now given) (now given) (keeps_zero f given col) i) k)
  on_row_from P Q h (Mark v m) k = absurd k
  on_row_from P Q h (Phi q n) k = absurd k

  pub kind_fits_now : (src : Program) (k : ItemKind) (e : ℕ) (o : Origin) → KindFits src k e o → KindFits src (kind_now given silent k) e o
  kind_fits_now src (Code i n) e o h =
      subst (λ (r : Row). RowFits src r e o) (sym (row_renamed (now given) (now given) (keeps_zero f given col) i))
      (fits_renamed (now given) src (row_of i) e o h)
  kind_fits_now src (Mark v m) e o h = tt
  kind_fits_now src (Phi q n) e o h = tt

  value_fits : (v : VarId) (m : MarkValue) (o : Origin) → MarkFits (Mark v m) o → MarkFits (Mark v (value_now given silent m)) o
  value_fits v Nothing o h = h
  value_fits v (Constant z) o h = h
  value_fits v (Pair q) o h = h
  value_fits v (At r) (Before p) h = absurd h
  value_fits v (At r) (Kept p) h = by_test (silent r) where
    by_test : (z : Bool) → MarkFits (Mark v (cond z Nothing (At (now given r)))) (Kept p)
    by_test true = tt
    by_test false = tt

  pub mark_fits_now : (k : ItemKind) (o : Origin) → MarkFits k o → MarkFits (kind_now given silent k) o
  mark_fits_now (Code i n) o h = code_fits o where
    code_fits : (o : Origin) → MarkFits (kind_now given silent (Code i n)) o
    code_fits (Kept p) = tt
    code_fits (Before p) = tt
  mark_fits_now (Mark v m) o h = value_fits v m o h
  mark_fits_now (Phi q n) o h = phi_fits o where
    phi_fits : (o : Origin) → MarkFits (kind_now given silent (Phi q n)) o
    phi_fits (Kept p) = tt
    phi_fits (Before p) = tt

  pub ends_alike_now : (k l : ItemKind) → KindsEndAlike k l → KindsEndAlike k (kind_now given silent l)
  ends_alike_now (Code c n) (Code i m) h =
      subst (SameEnd (row_of c)) (sym (row_renamed (now given) (now given) (keeps_zero f given col) i)) (end_renamed (now given) (row_of c) (row_of i) h)
  ends_alike_now (Code c n) (Mark v m) h = absurd h
  ends_alike_now (Code c n) (Phi q m) h = absurd h
  ends_alike_now (Mark v m) l h = absurd h
  ends_alike_now (Phi q m) l h = absurd h
