-- The instructions up to an index of a function's, and what is left of them.
use Rattle.std.proofs.Common.{◌≡◌, ℕ, ◌+◌, ◌<◌, Bool, true, false, cond, List, [], ◌∷◌, ◌++◌, length, ◌≤◌, take, drop, get_or, Option, None, refl}
use Rattle.std.proofs.Common.{sym, ◌∙◌, ap, subst, arith, IfSome}
use Rattle.std.proofs.lemmas.List.{take_more, take_all, drop_all}
use Rattle.read_metadata.specs.Maps.{Maps}
use Rattle.mir_func.specs.declared.block.Block.{Block}
use Rattle.mir_func.specs.declared.location.Loc.{Loc}
use Rattle.mir_func.specs.Positions.{position_of}
use Rattle.dwarf_line_table.specs.emit_code.declared.code.EncodedInstruction.{EncodedInstruction}
use Rattle.dwarf_line_table.specs.emit_code.Laid.{StandFrom}
use Rattle.dwarf_line_table.specs.SourcePosition.{loc_of}
use Rattle.dwarf_line_table.specs.declared.source_and_code.SourceAndCode.{SourceAndCode}
use Rattle.dwarf_line_table.proofs.Split.{split_at}
use Rattle.inline_instances.specs.declared.instance.InlinedCode.{InlinedCode}
use Rattle.inline_instances.specs.declared.table.InstanceTable.{InstanceTable}
use Rattle.inline_instances.specs.declared.ranges.OpenRanges.{OpenRanges}
use Rattle.inline_instances.specs.Instances.{IsIndexOf, AreInstances}
use Rattle.inline_instances.specs.steps.Marks.{AreMarks}
use Rattle.inline_instances.specs.steps.Table.{calls_in, IsInnermost}
use Rattle.inline_instances.specs.steps.Open.{AreAround, IsGrown, IsShifted}
use Rattle.inline_instances.specs.steps.SoFar.{IsSoFar}
use Rattle.inline_instances.proofs.Tables.{calls_append, index_kept}
use Rattle.inline_instances.proofs.SoFar.{index_within, so_far_none, so_far_more, are_instances}

pub long_entry : (e : EncodedInstruction) → e.size ≡ cond e.call 8 4 → 0 < e.size
long_entry e size = by e.call size
  where
    by : (z : Bool) → e.size ≡ cond z 8 4 → 0 < e.size
    by true is = omega (arith, is)
    by false is = omega (arith, is)

-- the instructions before an index are walked, and the others stand from an address up to the function's end
pub record IsWalked (meta : Maps) (blocks : List Block) (entries : List EncodedInstruction) (end index : ℕ) (t : InstanceTable) (o : OpenRanges)
    (inside : Option ℕ) : Type 0 where
  pub at : ℕ
  pub so_far : IsSoFar meta blocks (take index entries) at t o inside
  pub rest : StandFrom at (drop index entries) end

pub walked_none : (meta : Maps) (blocks : List Block) (entries : List EncodedInstruction) (base end : ℕ) (t : InstanceTable) (o : OpenRanges)
    → StandFrom base entries end → t.instances.items ≡ [] → AreMarks meta [] [] t.marks → o.starts.items ≡ [] → o.ranges.items ≡ []
    → IsWalked meta blocks entries end 0 t o None
walked_none meta blocks entries base end t o stand none marks starts closed =
    record { at = base; so_far = so_far_none meta blocks base t o none marks starts closed; rest = stand }

pub walked_more : (meta : Maps) (blocks : List Block) (entries : List EncodedInstruction) (end index : ℕ) (t next : InstanceTable)
    (o grown shifted : OpenRanges) (inside reached : Option ℕ) (e : EncodedInstruction) (loc : Loc) → IsWalked meta blocks entries end index t o inside
    → index < length entries
    → e ≡ get_or entries index e → IsInnermost meta loc t.instances.items next reached → loc ≡ loc_of blocks (position_of e.origin)
    → IsGrown (length next.instances.items) o grown
    → ((ks js : List ℕ) → AreAround next.instances.items inside ks → AreAround next.instances.items reached js → IsShifted ks js e.address grown shifted)
    → IsWalked meta blocks entries end (index + 1) next shifted reached
walked_more meta blocks entries end index t next o grown shifted inside reached e loc w below is found here grew shift =
    let own : StandFrom w.at (e ∷ drop (index + 1) entries) end =
    subst (λ (es : List EncodedInstruction). StandFrom w.at es end) (split_at entries index e below is) w.rest in
    let front : take index entries ++ e ∷ [] ≡ take (index + 1) entries =
    ap (λ (d : EncodedInstruction). take index entries ++ d ∷ []) is ∙ sym (take_more entries index e below) in
    record {
      at = e.address + e.size;
      so_far =
          subst (λ (es : List EncodedInstruction). IsSoFar meta blocks es (e.address + e.size) next shifted reached) front
          (so_far_more meta blocks (take index entries) w.at t next o grown shifted inside reached e loc w.so_far found here (sym own.0)
          (long_entry e own.1) grew shift);
      rest = subst (λ (a : ℕ). StandFrom (a + e.size) (drop (index + 1) entries) end) (sym own.0) own.2;
    }

-- all instructions are walked
pub walked_all : (meta : Maps) (f : SourceAndCode) (end index : ℕ) (t : InstanceTable) (o last : OpenRanges) (inside : Option ℕ)
    → IsWalked meta f.source.now.blocks f.code.now.entries end index t o inside → length f.code.now.entries ≤ index
    → (stop : ℕ) → stop ≡ end
    → ((ks js : List ℕ) → AreAround t.instances.items inside ks → AreAround t.instances.items None js → IsShifted ks js stop o last)
    → AreInstances meta f (record { instances = t.instances.items; ranges = last.ranges.items })
walked_all meta f end index t o last inside w past stop ends shift =
    let entries = f.code.now.entries in
    let at : w.at ≡ end = subst (λ (es : List EncodedInstruction). StandFrom w.at es end) (drop_all index entries past) w.rest in
    are_instances meta f end t o last inside
    (subst (λ (a : ℕ). IsSoFar meta f.source.now.blocks entries a t o inside) at
    (subst (λ (es : List EncodedInstruction). IsSoFar meta f.source.now.blocks es w.at t o inside) (take_all index entries past) w.so_far))
    (λ ks js is also. subst (λ (a : ℕ). IsShifted ks js a o last) ends (shift ks js is also))

-- the instance of the last instruction is in the new table where it was
pub left_within : (meta : Maps) (blocks : List Block) (front : List EncodedInstruction) (at : ℕ) (t next : InstanceTable) (o : OpenRanges)
    (inside reached : Option ℕ) (loc : Loc) → IsSoFar meta blocks front at t o inside → IsInnermost meta loc t.instances.items next reached
    → IfSome inside (λ k. k < length next.instances.items)
left_within meta blocks front at t next o inside reached loc s found =
    index_within meta next found.table inside s.from
    (subst (λ (ns : List ℕ). IsIndexOf ns inside s.from)
    (sym (ap calls_in found.kept ∙ calls_append t.instances.items found.added))
    (index_kept (calls_in t.instances.items) (calls_in found.added) inside s.from s.index))
