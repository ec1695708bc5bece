-- Code that keeps its kind, and where control goes from it.
use Rattle.std.proofs.Common.{◌≡◌, ◌⊎◌, inl, inr, ℕ, [], Option, Bool, refl, sym}
use Rattle.std.proofs.Common.{◌∙◌, subst}
use Rattle.rv64_instr.specs.Instruction.{Instruction, is_volatile_load}
use Rattle.rv64_instr.specs.Row.{Row, Branches, Jumps, Returns, Unfit, row_of}
use Rattle.rv64_instr.specs.LocationEffects.{IsSlotStore}
use Rattle.mir_func.specs.declared.position.Origin.{Origin}
use Rattle.mir_func.specs.declared.position.Origin.TheVariants.{Kept, Before}
use Rattle.mir_func.specs.declared.item.ItemKind.{ItemKind}
use Rattle.mir_func.specs.declared.item.ItemKind.TheVariants.{Code, Mark, Phi}
use Rattle.mir_func.specs.declared.variable.VarId.{VarId}
use Rattle.mir_func.specs.declared.variable.MarkValue.{MarkValue}
use Rattle.mir_func.specs.declared.variable.MarkValue.TheVariants.{Nothing}
use Rattle.rv64_instr.specs.declared.place.Place.{Place}
use Rattle.mir_func.specs.declared.position.Pos.{Pos}
use Rattle.mir_func.specs.Graph.{Program, Fetch, Here, EndOfBlock, Outside, RowEdge, KindEdge, below, block_start}
use Rattle.sem_agreement.specs.sem_mir.Align.{is_code, is_jump, is_jump_row}
use Rattle.sem_agreement.specs.sem_mir.Follow.{MayAdd, HasClass, ItemHasClass, RowFits, KindFits, IsVolatile, StaysVolatile, MarkFits, OnRow, GoesTo, SameEnd, IsEnd}
use Rattle.sem_agreement.specs.sem_mir.Follow.{KindsEndAlike}
use Rattle.rv64_instr.specs.View.{class_of}

-- from p control goes to q: below, and from p' it may go below too; or to a block, and so from p'
abbrev pub GoesAlike : (Pos → Pos → Type 0) → (p q p' : Pos) → Type 0
GoesAlike EdgeOn p q p' = ((q ≡ below p) × EdgeOn p' (below p')) ⊎ ((t : ℕ) × (q ≡ block_start t) × EdgeOn p' (block_start t))

-- the second row is of the first's kind, and goes where it goes
pub record RowKin (r s : Row) : Type 0 where
  pub class : class_of r ≡ class_of s
  pub jump : is_jump_row r ≡ is_jump_row s
  pub may : (k source_end : ℕ) → MayAdd r k source_end → MayAdd s k source_end
  pub goes : (n : ℕ) → GoesTo n r → GoesTo n s
  pub end : (t : Row) → SameEnd t r → SameEnd t s
  pub is_end : IsEnd s → IsEnd r
  pub save : IsSlotStore s → IsSlotStore r
  pub edge : (p q p' : Pos) → RowEdge (λ n. n) r p q → GoesAlike (RowEdge (λ n. n) s) p q p'

row_edge : (r : Row) (p q p' : Pos) → RowEdge (λ n. n) r p q → GoesAlike (RowEdge (λ n. n) r) p q p'
row_edge (Branches op a b t) p q p' e =
    elim e as (λ _. GoesAlike (RowEdge (λ n. n) (Branches op a b t)) p q p') [ inl k ↦ inr (t, k, inl refl) | inr k ↦ inl (k, inr refl) ]
row_edge (Jumps t) p q p' e = inr (t, e, refl)
row_edge (Returns ending) p q p' e = absurd e
row_edge Unfit p q p' e = absurd e
row_edge _ p q p' e = inl (e, refl)

pub row_itself : (r : Row) → RowKin r r
row_itself r = record {
  class = refl;
  jump = refl;
  may = λ k source_end h. h;
  goes = λ n h. h;
  end = λ t h. h;
  is_end = λ h. h;
  save = λ h. h;
  edge = row_edge r;
}

-- items of a kind: a mark may give nothing instead, and a phi another place
pub data Kin : ItemKind → ItemKind → Type 0 where
  code_kin : {i j : Instruction} {n m : Option ℕ} → RowKin (row_of i) (row_of j) → is_volatile_load i ≡ is_volatile_load j → Kin (Code i n) (Code j m)
  mark_kin : {v : VarId} {m m' : MarkValue} → (m' ≡ m) ⊎ (m' ≡ Nothing) → Kin (Mark v m) (Mark v m')
  phi_kin : {p p' : Option Place} {n n' : ℕ} → Kin (Phi p n) (Phi p' n')

pub kin_itself : (k : ItemKind) → Kin k k
kin_itself (Code i n) = code_kin (row_itself (row_of i)) refl
kin_itself (Mark v m) = mark_kin (inl refl)
kin_itself (Phi p n) = phi_kin

pub kin_code : (k l : ItemKind) → Kin k l → is_code k ≡ is_code l
kin_code k l (code_kin h loads) = refl
kin_code k l (mark_kin h) = refl
kin_code k l phi_kin = refl

pub kin_jump : (k l : ItemKind) → Kin k l → is_jump k ≡ is_jump l
kin_jump k l (code_kin h loads) = h.jump
kin_jump k l (mark_kin h) = refl
kin_jump k l phi_kin = refl

row_fits : (src : Program) (r s : Row) → RowKin r s → (source_end : ℕ) (o : Origin) → RowFits src r source_end o → RowFits src s source_end o
row_fits src r s h source_end (Kept p) fits = by_fetch (src.fetch p) fits where
  by_fetch : (x : Fetch) → HasClass r x → HasClass s x
  by_fetch (Here i) k = by_kind i.kind k where
    by_kind : (l : ItemKind) → ItemHasClass r l → ItemHasClass s l
    by_kind (Code c n) k = k ∙ h.class
    by_kind (Mark v m) k = k
    by_kind (Phi p n) k = k
  by_fetch (EndOfBlock k n) x = x
  by_fetch Outside x = x
row_fits src r s h source_end (Before p) fits = h.may p.item source_end fits

pub kin_fits : (src : Program) (k l : ItemKind) → Kin k l → (source_end : ℕ) (o : Origin) → KindFits src k source_end o → KindFits src l source_end o
kin_fits src k l (code_kin {i} {j} h loads) source_end o fits = row_fits src (row_of i) (row_of j) h source_end o fits
kin_fits src k l (mark_kin h) source_end o fits = tt
kin_fits src k l phi_kin source_end o fits = tt

pub kin_volatile : (src : Program) (k l : ItemKind) → Kin k l → (o : Origin) → StaysVolatile src k o → StaysVolatile src l o
kin_volatile src k l (code_kin {i} {j} h loads) (Kept p) stays = subst (λ (b : Bool). IsVolatile b (src.fetch p)) loads stays
kin_volatile src k l (code_kin h loads) (Before p) stays = tt
kin_volatile src k l (mark_kin h) o stays = tt
kin_volatile src k l phi_kin o stays = tt

nothing_fits : (v : VarId) (o : Origin) → MarkFits (Mark v Nothing) o
nothing_fits v o = tt

pub kin_marks : (k l : ItemKind) → Kin k l → (o : Origin) → MarkFits k o → MarkFits l o
kin_marks k l (code_kin h loads) o fits = tt
kin_marks k l (mark_kin {v} {m} {m'} (inl e)) o fits = subst (λ (z : MarkValue). MarkFits (Mark v z) o) (sym e) fits
kin_marks k l (mark_kin {v} {m} {m'} (inr e)) o fits = subst (λ (z : MarkValue). MarkFits (Mark v z) o) (sym e) (nothing_fits v o)
kin_marks k l phi_kin o fits = tt

pub kin_goes : (k l : ItemKind) → Kin k l → (n : ℕ) → OnRow (GoesTo n) k → OnRow (GoesTo n) l
kin_goes k l (code_kin h loads) n g = h.goes n g
kin_goes k l (mark_kin h) n g = absurd g
kin_goes k l phi_kin n g = absurd g

pub kin_end : (i k l : ItemKind) → Kin k l → KindsEndAlike i k → KindsEndAlike i l
kin_end (Code c n) k l (code_kin h loads) e = h.end (row_of c) e
kin_end (Mark v m) k l (code_kin h loads) e = absurd e
kin_end (Phi p n) k l (code_kin h loads) e = absurd e
kin_end (Code c n) k l (mark_kin h) e = absurd e
kin_end (Mark v m) k l (mark_kin h) e = absurd e
kin_end (Phi p n) k l (mark_kin h) e = absurd e
kin_end (Code c n) k l phi_kin e = absurd e
kin_end (Mark v m) k l phi_kin e = absurd e
kin_end (Phi p n) k l phi_kin e = absurd e

pub kin_is_end : (k l : ItemKind) → Kin k l → OnRow IsEnd l → OnRow IsEnd k
kin_is_end k l (code_kin h loads) e = h.is_end e
kin_is_end k l (mark_kin h) e = absurd e
kin_is_end k l phi_kin e = absurd e

pub kin_save : (k l : ItemKind) → Kin k l → OnRow IsSlotStore l → OnRow IsSlotStore k
kin_save k l (code_kin h loads) e = h.save e
kin_save k l (mark_kin h) e = absurd e
kin_save k l phi_kin e = absurd e

pub kin_edge : (k l : ItemKind) → Kin k l → (p q p' : Pos) → KindEdge (λ n. n) k p q → GoesAlike (KindEdge (λ n. n) l) p q p'
kin_edge k l (code_kin h loads) p q p' e = h.edge p q p' e
kin_edge k l (mark_kin h) p q p' e = inl (e, refl)
kin_edge k l phi_kin p q p' e = inl (e, refl)
