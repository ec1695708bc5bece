-- Paths come down blocks from their starts.
use Rattle.std.proofs.Common.{◌≡◌, ◌⊎◌, ℕ, Bool, List, Option, sym, subst, inl, inr, arith}
use Rattle.std.proofs.lemmas.Bool.{cases_eq}
use Rattle.rv64_instr.specs.Row.{Row, Branches, Jumps, Returns, Unfit, row_of}
use Rattle.mir_func.specs.declared.position.Pos.{Pos}
use Rattle.mir_func.specs.declared.block.Block.{Block}
use Rattle.mir_func.specs.declared.debug_substitution.OperandPair.{OperandPair}
use Rattle.mir_func.specs.declared.item.ItemKind.{ItemKind}
use Rattle.mir_func.specs.declared.item.ItemKind.TheVariants.{Code, Mark, Phi}
use Rattle.mir_func.specs.Graph.{Fetch, Here, EndOfBlock, Outside, below, block_start}
use Rattle.mir_func.specs.Graph.{program_of, RowEdge, KindEdge, FetchEdge, Edge, Leads, stay, go}
use Rattle.mir_func.specs.Successors.{pos_in, ComesDown, GoesTo}

-- an edge goes to a block's start, or to the position below
abbrev pub IsEdgeEnd : Pos → Pos → Type 0
IsEdgeEnd p q = ((n : ℕ) × (q ≡ block_start n)) ⊎ (q ≡ below p)

row_end : (r : Row) (p q : Pos) → RowEdge (λ n. n) r p q → IsEdgeEnd p q
row_end (Branches op a b t) p q h = elim h [ inl e ↦ inl (t, e) | inr e ↦ inr e ]
row_end (Jumps t) p q h = inl (t, h)
row_end (Returns v) p q h = absurd h
row_end Unfit p q h = absurd h
row_end r p q h = inr h

kind_end : (k : ItemKind) (p q : Pos) → KindEdge (λ n. n) k p q → IsEdgeEnd p q
kind_end (Code i k) p q h = row_end (row_of i) p q h
kind_end (Mark v m) p q h = inr h
kind_end (Phi x k) p q h = inr h

fetch_end : (x : Fetch) (p q : Pos) → FetchEdge (λ n. n) x p q → IsEdgeEnd p q
fetch_end (Here i) p q h = kind_end i.kind p q h
fetch_end (EndOfBlock k m) p q h = inl (m, h)
fetch_end Outside p q h = absurd h

module _ (sp : Bool) (blocks : List Block) (resolve : OperandPair → Option OperandPair) where
  abbrev Down : Pos → Type 0
  Down p = ComesDown (program_of sp blocks resolve) p.block p.item

  one_down : (p : Pos) → Edge (program_of sp blocks resolve) p (below p) → Down p → Down (below p)
  one_down p e d j l = elim (cases_eq j p.item) [
    | inl s ↦ subst (λ (k : ℕ). Edge (program_of sp blocks resolve) (pos_in p.block k) (below (pos_in p.block k))) (sym s) e
    | inr s ↦ d j (omega arith)
  ]

  one_step : (p q : Pos) → Edge (program_of sp blocks resolve) p q → Down p → Down q
  one_step p q e d = elim (fetch_end ((program_of sp blocks resolve).fetch p) p q e) [
    | inl (n, s) ↦ subst Down (sym s) (λ j l. absurd (omega arith))
    | inr s ↦ subst Down (sym s) (one_down p (subst (λ (x : Pos). Edge (program_of sp blocks resolve) p x) s e) d)
  ]

  descend : {p q : Pos} → Leads (program_of sp blocks resolve) p q → Down p → Down q
  descend stay d = d
  descend (go e more) d = descend more (one_step _ _ e d)

  -- where a path from a block's start comes to a position with an edge to a block, control may go to it from the position's block
  pub path_goes : (m n : ℕ) (p : Pos) → Leads (program_of sp blocks resolve) (block_start m) p → Edge (program_of sp blocks resolve) p (block_start n) →
      GoesTo (program_of sp blocks resolve) p.block n
  path_goes m n p path e = (p.item, descend path (λ j l. absurd (omega arith)), e)
