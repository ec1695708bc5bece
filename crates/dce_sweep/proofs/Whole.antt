-- A block by its index: its verdicts, and the places that are wrong along it.
use Rattle.std.proofs.Common.{◌≡◌, ◌<◌, ℕ, zero, suc, List, [], ◌∷◌, map, length, get_or, All, Some, Bool}
use Rattle.std.proofs.Common.{sym, ap, ◌∙◌, subst, arith}
use Rattle.std.specs.Prelude.{slice_get}
use Rattle.mir_func.specs.declared.block.Block.{Block}
use Rattle.mir_func.specs.declared.item.Item.{Item}
use Rattle.mir_func.specs.Function.{Function}
use Rattle.mir_func.specs.Graph.{from_block}
use Rattle.mir_func.specs.Sound.{AreApart, ids_of, IsSound, SlotsIn}
use Rattle.mir_func.specs.Successors.{pos_in}
use Rattle.pass_liveness.specs.Index.{index_in}
use Rattle.pass_liveness.specs.Sets.{has}
use Rattle.pass_liveness.specs.Liveness.{set_at}
use Rattle.pass_liveness.proofs.Blocks.{from_block-at, index_at, get_at, get_or_any}
use Rattle.dce_stale.specs.dce_rule.Dead.{Ends}
use Rattle.dce_stale.specs.dce_rule.Wrong.{silenced_left, silenced_block}
use Rattle.dce_stale.specs.dce_analysis.Judge.{verdicts}
use Rattle.dce_stale.specs.Flow.{wrong_at}
use Rattle.dce_stale.specs.Sets.{AreVerdicts, StaleSets, AreStaleSets, starts_of, wrong_in, wrong_of}
use Rattle.dce_sweep.specs.Left.{left_from, lost_from, lost_in_block}
use Rattle.dce_sweep.proofs.Steps.{wrongs, is_silenced}

id_among : (blocks : List Block) (i : ℕ) (b : Block) → slice_get blocks i ≡ Some b → slice_get (ids_of blocks) i ≡ Some b.id
id_among [] i b e = absurd cc
id_among (c ∷ cs) zero b e = let same : c ≡ b = cc in ap (λ (x : Block). Some x.id) same
id_among (c ∷ cs) (suc i) b e = id_among cs i b e

mapped_at : (F : Block → List Bool) (blocks : List Block) (n : ℕ) (b : Block) → slice_get blocks n ≡ Some b → get_or (map F blocks) n [] ≡ F b
mapped_at F [] n b e = absurd cc
mapped_at F (c ∷ cs) zero b e = let same : c ≡ b = cc in ap F same
mapped_at F (c ∷ cs) (suc n) b e = mapped_at F cs n b e

module _ (f : Function) (dead : List (List Bool)) (w : StaleSets) (sets : AreStaleSets f dead w) (ends : Ends) (verdicts_are : AreVerdicts ends f dead)
    (n : ℕ) (b : Block) (at : slice_get f.blocks n ≡ Some b) where
  dead_is : get_or dead n [] ≡ verdicts b.items (ends b.id)
  dead_is = ap (λ (vs : List (List Bool)). get_or vs n []) verdicts_are ∙ mapped_at (λ c. verdicts c.items (ends c.id)) f.blocks n b at

  apart : AreApart (ids_of f.blocks)
  apart = subst AreApart sets.ids sets.apart

  start_is : has w.slots (get_or w.starts n []) ≡ starts_of w b.id
  start_is =
      let index = ap (λ (ns : List ℕ). index_in ns b.id) sets.ids ∙ index_at (ids_of f.blocks) n b.id apart (id_among f.blocks n b at) in
      λ i x. has w.slots (set_at w.starts (sym index i)) x

  -- where places are wrong along it
  wrong_is : (λ k. wrong_of ends f (starts_of w) (pos_in b.id k)) ≡ wrongs b.items (get_or dead n []) (has w.slots (get_or w.starts n []))
  wrong_is =
      let found = from_block-at f.blocks n b apart at in
      (λ i k. wrong_in ends (found i) (starts_of w) k) ∙ (λ i k. wrong_at b.items (sym dead_is i) k (sym start_is i))

  pub block_left : (items : List Item) → items ≡ left_from (wrongs b.items (get_or dead n []) (has w.slots (get_or w.starts n []))) (get_or dead n []) 0
      b.items → items ≡ silenced_left (λ k. wrong_of ends f (starts_of w) (pos_in b.id k)) 0 b.items (ends b.id)
  block_left items is =
      is ∙ (λ i. left_from (sym wrong_is i) (dead_is i) 0 b.items) ∙
      is_silenced (λ k. wrong_of ends f (starts_of w) (pos_in b.id k)) b.items (ends b.id)

  pub block_lost : lost_from (wrongs b.items (get_or dead n []) (has w.slots (get_or w.starts n []))) (get_or dead n []) 0 b.items ≡
      lost_in_block (wrong_of ends f (starts_of w)) ends b
  block_lost = λ i. lost_from (sym wrong_is i) (dead_is i) 0 b.items

-- a block that was walked down
module _ (f : Function) (dead : List (List Bool)) (w : StaleSets) (sets : AreStaleSets f dead w) (n : ℕ) (b : Block) (lt : n < length f.blocks)
    (is : b ≡ get_or f.blocks n b) (set : List ℕ) (set_is : set ≡ get_or w.starts n set) (vs : List Bool) (vs_are : vs ≡ get_or dead n [])
    (xs : List Item) (xs_are : xs ≡ b.items) (ends : Ends) (verdicts_are : AreVerdicts ends f dead) where
  at_n : slice_get f.blocks n ≡ Some b
  at_n = get_at f.blocks n b lt is

  start : set ≡ get_or w.starts n []
  start = let e = sets.long in set_is ∙ get_or_any w.starts n set [] (omega (arith, lt, e))

  walked : wrongs xs vs (has w.slots set) ≡ wrongs b.items (get_or dead n []) (has w.slots (get_or w.starts n []))
  walked = λ i. wrongs (xs_are i) (vs_are i) (has w.slots (start i))

  pub block_is : (items : List Item) → items ≡ left_from (wrongs xs vs (has w.slots set)) vs 0 xs → (c : Block) → c.id ≡ b.id → c.items ≡ items →
      c.source_end ≡ b.source_end → c ≡ silenced_block (wrong_of ends f (starts_of w)) ends b
  block_is items walk c id items_are source_end =
      let left = block_left f dead w sets ends verdicts_are n b at_n items (walk ∙ (λ i. left_from (walked i) (vs_are i) 0 (xs_are i))) in
      λ i. record { id = id i; items = (items_are ∙ left) i; source_end = source_end i }

  pub lost_is : lost_from (wrongs xs vs (has w.slots set)) vs 0 xs ≡ lost_in_block (wrong_of ends f (starts_of w)) ends b
  lost_is = (λ i. lost_from (walked i) (vs_are i) 0 (xs_are i)) ∙ block_lost f dead w sets ends verdicts_are n b at_n

-- the slots that a block's items name are the function's
pub slots_in : (f : Function) (slots : List ℕ) (n : ℕ) (b : Block) (items : List Item) → IsSound f → slots ≡ f.slots → n < length f.blocks →
    b ≡ get_or f.blocks n b → items ≡ b.items → All (λ (i : Item). SlotsIn slots i.kind) items
slots_in f slots n b items sound same lt is are =
    subst (λ (xs : List Item). All (λ (i : Item). SlotsIn slots i.kind) xs) (sym are)
    (subst (λ (ss : List ℕ). All (λ (i : Item). SlotsIn ss i.kind) b.items) (sym same)
    (subst (λ (z : Block). All (λ (i : Item). SlotsIn f.slots i.kind) z.items) (sym is) (sound.slots n b lt)))
