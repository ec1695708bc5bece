-- Code with roots for its explicit uses keeps its kind.
use Rattle.std.proofs.Common.{inl, inr, ℕ, List, refl, sym, subst}
use Rattle.rv64_instr.specs.declared.op.BranchOp.{BranchOp}
use Rattle.rv64_instr.specs.Row.{Row, Fixes, Moves, Sets, Addresses, Loads, Stores, LoadsSlot, StoresSlot, Branches, Jumps, Calls, Returns, Unfit, row_of}
use Rattle.mir_func.specs.declared.item.ItemKind.{ItemKind}
use Rattle.mir_func.specs.declared.item.ItemKind.TheVariants.{Code, Mark, Phi}
use Rattle.mir_func.specs.Graph.{RowEdge}
use Rattle.sem_mir.specs.Follow.{SameEnd, IsEnd}
use Rattle.pass_salvage.proofs.Kin.{GoesAlike, RowKin, row_itself, Kin, code_kin, kin_itself}
use Rattle.copyprop_block.specs.declared.roots.Root.{Root}
use Rattle.copyprop_block.specs.Roots.{root_of}
use Rattle.copyprop_block.specs.Copied.{renamed_kind}
use Rattle.copyprop_rule.proofs.Rows.{rooted, KeepsZero, row_renamed}

-- no end of a block is of these rows
abbrev NoEnd : Row → Type 0
NoEnd r = (t : Row) → SameEnd t r → ⊥

no_sets : (r : Row) → (IsEnd r → ⊥) → NoEnd r
no_sets r absent (Branches op a b t) h = by_row r absent h where
  by_row : (s : Row) → (IsEnd s → ⊥) → SameEnd (Branches op a b t) s → ⊥
  by_row (Branches op' a' b' t') absent h = absent tt
  by_row _ absent h = h
no_sets r absent (Jumps t) h = by_row r absent h where
  by_row : (s : Row) → (IsEnd s → ⊥) → SameEnd (Jumps t) s → ⊥
  by_row (Jumps t') absent h = absent tt
  by_row _ absent h = h
no_sets r absent (Returns v) h = by_row r absent h where
  by_row : (s : Row) → (IsEnd s → ⊥) → SameEnd (Returns v) s → ⊥
  by_row (Returns w) absent h = absent tt
  by_row _ absent h = h
no_sets r absent _ h = h

-- a branch of the same kind to the same block
branch_end : (op : BranchOp) (a b a' b' t : ℕ) (s : Row) → SameEnd s (Branches op a b t) → SameEnd s (Branches op a' b' t)
branch_end op a b a' b' t (Branches op' c d u) h = h
branch_end op a b a' b' t (Jumps u) h = absurd h
branch_end op a b a' b' t (Returns v) h = absurd h
branch_end op a b a' b' t _ h = absurd h

pub rooted_kin : (e : List Root) (r : Row) → RowKin r (rooted e r)
rooted_kin e (Fixes rd n) = row_itself (Fixes rd n)
rooted_kin e (Addresses rd n o) = row_itself (Addresses rd n o)
rooted_kin e (LoadsSlot rd n) = row_itself (LoadsSlot rd n)
rooted_kin e (Jumps t) = row_itself (Jumps t)
rooted_kin e (Calls call) = record {
  class = refl;
  jump = refl;
  may = λ k source_end h. h;
  goes = λ n h. h;
  end = λ t h. absurd (no_sets (Calls call) (λ z. z) t h);
  is_end = λ h. h;
  save = λ h. h;
  edge = λ p q p' h. inl (h, refl);
}
rooted_kin e (Returns v) = row_itself (Returns v)
rooted_kin e Unfit = row_itself Unfit
rooted_kin e (Moves rd rs) = record {
  class = refl;
  jump = refl;
  may = λ k source_end h. h;
  goes = λ n h. h;
  end = λ t h. absurd (no_sets (Moves rd rs) (λ z. z) t h);
  is_end = λ h. h;
  save = λ h. h;
  edge = λ p q p' h. inl (h, refl);
}
rooted_kin e (Sets rd op a b) = record {
  class = refl;
  jump = refl;
  may = λ k source_end h. h;
  goes = λ n h. h;
  end = λ t h. absurd (no_sets (Sets rd op a b) (λ z. z) t h);
  is_end = λ h. h;
  save = λ h. h;
  edge = λ p q p' h. inl (h, refl);
}
rooted_kin e (Loads rd op b o) = record {
  class = refl;
  jump = refl;
  may = λ k source_end h. h;
  goes = λ n h. h;
  end = λ t h. absurd (no_sets (Loads rd op b o) (λ z. z) t h);
  is_end = λ h. h;
  save = λ h. h;
  edge = λ p q p' h. inl (h, refl);
}
rooted_kin e (Stores op rs b o) = record {
  class = refl;
  jump = refl;
  may = λ k source_end h. h;
  goes = λ n h. h;
  end = λ t h. absurd (no_sets (Stores op rs b o) (λ z. z) t h);
  is_end = λ h. h;
  save = λ h. h;
  edge = λ p q p' h. inl (h, refl);
}
rooted_kin e (StoresSlot rs n) = record {
  class = refl;
  jump = refl;
  may = λ k source_end h. h;
  goes = λ n h. h;
  end = λ t h. absurd (no_sets (StoresSlot rs n) (λ z. z) t h);
  is_end = λ h. h;
  save = λ h. h;
  edge = λ p q p' h. inl (h, refl);
}
rooted_kin e (Branches op a b t) = record {
  class = refl;
  jump = refl;
  may = λ k source_end h. h;
  goes = λ n h. h;
  end = λ s h. branch_end op a b (root_of e a) (root_of e b) t s h;
  is_end = λ h. h;
  save = λ h. h;
  edge = λ p q p' h. elim h as (λ _. GoesAlike (RowEdge (λ n. n) (Branches op (root_of e a) (root_of e b) t)) p q p') [
    | inl k ↦ inr (t, k, inl refl)
    | inr k ↦ inl (k, inr refl)
  ];
}

pub kind_kin : (e : List Root) → KeepsZero e → (k : ItemKind) → Kin k (renamed_kind e k)
kind_kin e keeps (Code i n) = code_kin (subst (RowKin (row_of i)) (sym (row_renamed e keeps i)) (rooted_kin e (row_of i))) refl
kind_kin e keeps (Mark v m) = kin_itself (Mark v m)
kind_kin e keeps (Phi p n) = kin_itself (Phi p n)
