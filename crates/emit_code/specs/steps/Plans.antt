-- A plan: the computed layout of a function, as lookup tables.
use Rattle.std.specs.Prelude.{◌≡◌, ℕ, ◌+◌, Bool, option_map}
use Rattle.std.specs.Ordering.{nat_cmp}
use Rattle.std.specs.BTreeMap.{get}
use Rattle.mir_func.specs.declared.position.Pos.{Pos}
use Rattle.mir_func.specs.Function.{FramedFunction}
use Rattle.mir_func.specs.Objects.{object_of}
use Rattle.mir_func.specs.SoundFrame.{own_size}
use Rattle.emit_code.specs.declared.objects.ObjectOffsets.{ObjectOffsets}
use Rattle.emit_code.specs.declared.plan.ItemLayout.{ItemLayout}
use Rattle.emit_code.specs.Rule.{Layout}
use Rattle.emit_code.specs.BranchRelaxation.{IsSettled}
use Rattle.emit_code.specs.steps.Places.{IsTableOf}
use Rattle.emit_code.specs.steps.Spans.{spans_of, sums_from}

-- the offset of each object from x2
pub record AreOffsetsOf (f : FramedFunction) (o : ObjectOffsets) : Type 0 where
  pub own : o.own ≡ own_size f
  pub offsets : (n : ℕ) → get nat_cmp o.offsets n ≡ option_map (λ x. own_size f + x.offset) (object_of f.objects n)

-- the plan computes this layout
pub record IsPlan (l : Layout) (p : ItemLayout) : Type 0 where
  pub base : p.base ≡ l.base
  pub table : IsTableOf l.framed.blocks p.table
  pub spans : p.spans ≡ spans_of l.framed.blocks l.long
  pub sums : p.sums ≡ sums_from 0 p.spans
  pub objects : AreOffsetsOf l.framed p.objects

-- the plan computes the least closed layout of a function
pub record IsPlanOf (f : FramedFunction) (base : ℕ) (p : ItemLayout) : Type 0 where
  pub long : Pos → Bool
  pub settled : IsSettled (record { framed = f; base = base; long = long })
  pub plan : IsPlan (record { framed = f; base = base; long = long }) p
