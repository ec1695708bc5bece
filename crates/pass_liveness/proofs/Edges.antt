-- Edges from an item, by how control leaves it.
use Rattle.std.proofs.Common.{◌≡◌, ◌⊎◌, ℕ, refl, sym, ap, inl, inr}
use Rattle.rv64_instr.specs.Row.{Row, Branches, Jumps, Returns, Unfit, row_of}
use Rattle.mir_func.specs.declared.position.Pos.{Pos}
use Rattle.mir_func.specs.declared.item.ItemKind.{ItemKind}
use Rattle.mir_func.specs.declared.item.ItemKind.TheVariants.{Code, Mark, Phi}
use Rattle.mir_func.specs.Graph.{below, block_start, RowEdge, KindEdge}
use Rattle.mir_func.specs.Exits.{row_exit, exit_of}
use Rattle.mir_func.proofs.Ways.{IsDown, IsOut}

abbrev pub Stays : ℕ → ℕ
Stays n = n

-- an edge goes down, or out to the start of a block
abbrev pub EdgeCase : (down : Type 0) → (ℕ → Type 0) → Pos → Pos → Type 0
EdgeCase down out p q = ((q ≡ below p) × down) ⊎ ((n : ℕ) × (q ≡ block_start n) × out n)

row_edge : (r : Row) (p q : Pos) → RowEdge Stays r p q → EdgeCase (IsDown (row_exit r)) (IsOut (row_exit r)) p q
row_edge (Branches op a b t) p q (inl e) = inr (t, e, refl)
row_edge (Branches op a b t) p q (inr e) = inl (e, tt)
row_edge (Jumps t) p q e = inr (t, e, refl)
row_edge (Returns v) p q e = absurd e
row_edge Unfit p q e = absurd e
row_edge r p q e = inl (e, tt)

pub kind_edge : (k : ItemKind) (p q : Pos) → KindEdge Stays k p q → EdgeCase (IsDown (exit_of k)) (IsOut (exit_of k)) p q
kind_edge (Code i k) p q e = row_edge (row_of i) p q e
kind_edge (Mark v m) p q e = inl (e, tt)
kind_edge (Phi x k) p q e = inl (e, tt)

row_down : (r : Row) (p : Pos) → IsDown (row_exit r) → RowEdge Stays r p (below p)
row_down (Branches op a b t) p d = inr refl
row_down (Jumps t) p d = absurd d
row_down (Returns v) p d = absurd d
row_down Unfit p d = absurd d
row_down r p d = refl

pub down_edge : (k : ItemKind) (p : Pos) → IsDown (exit_of k) → KindEdge Stays k p (below p)
down_edge (Code i k) p d = row_down (row_of i) p d
down_edge (Mark v m) p d = refl
down_edge (Phi x k) p d = refl

row_out : (r : Row) (p : Pos) (n : ℕ) → IsOut (row_exit r) n → RowEdge Stays r p (block_start n)
row_out (Branches op a b t) p n e = inl (ap block_start (sym e))
row_out (Jumps t) p n e = ap block_start (sym e)
row_out r p n e = absurd e

pub out_edge : (k : ItemKind) (p : Pos) (n : ℕ) → IsOut (exit_of k) n → KindEdge Stays k p (block_start n)
out_edge (Code i k) p n e = row_out (row_of i) p n e
out_edge (Mark v m) p n e = absurd e
out_edge (Phi x k) p n e = absurd e
