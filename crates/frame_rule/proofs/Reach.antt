-- A frame is no larger than what lies from x2 up to its end, to that of an argument on the stack, or to an address of an object.
use Rattle.std.proofs.Common.{◌≡◌, ℕ, ◌+◌, ◌^◌, ◌<◌, ◌≤◌, max, Bool, cond, List, [], ◌∷◌, All, ap, subst, arith}
use Rattle.std.proofs.lemmas.Bool.{lt-ltb}
use Rattle.std.proofs.lemmas.List.Elements.{All-nil, All-cons, All-weaker}
use Rattle.rv64_instr.specs.Row.{row_of}
use Rattle.rv64_instr.specs.View.{Access, NoAccess, SlotAccess, MemoryAccess, ObjectAddress, access_of}
use Rattle.mir_func.specs.declared.block.Block.{Block}
use Rattle.mir_func.specs.declared.item.Item.{Item}
use Rattle.mir_func.specs.declared.item.ItemKind.{ItemKind}
use Rattle.mir_func.specs.declared.item.ItemKind.TheVariants.{Code, Mark, Phi}
use Rattle.mir_func.specs.declared.object.Object.{Object}
use Rattle.mir_func.specs.Function.{Function}
use Rattle.mir_func.specs.Limits.{MAX_FRAME}
use Rattle.mir_func.specs.Objects.{extent_of, offset_of}
use Rattle.mir_func.specs.Sound.{AllItems}
use Rattle.mir_func.specs.SoundFrame.{AccessReaches, KindReaches}
use Rattle.mir_func.proofs.Ends.{area_within}
use Rattle.frame_rule.specs.Rule.{own_size_of, size_of, access_end, kind_end, items_end, blocks_end, reach_of}

module _ (own : ℕ) (os : List Object) where
  above_items : (m : ℕ) (is : List Item) → m ≤ items_end own os m is
  unfolding items_end
  above_items m [] = omega arith
  above_items m (i ∷ is) = omega (arith, above_items (max m (kind_end own os i.kind)) is)

  pub above_blocks : (m : ℕ) (bs : List Block) → m ≤ blocks_end own os m bs
  unfolding blocks_end
  above_blocks m [] = omega arith
  above_blocks m (b ∷ bs) = omega (arith, above_items m b.items, above_blocks (items_end own os m b.items) bs)

  each_item : (m n : ℕ) (is : List Item) → items_end own os m is ≤ n → All (λ (i : Item). kind_end own os i.kind ≤ n) is
  unfolding items_end
  each_item m n [] fits = All-nil (λ (i : Item). kind_end own os i.kind ≤ n)
  each_item m n (i ∷ is) fits =
      let next : ℕ = max m (kind_end own os i.kind) in
      All-cons (λ (x : Item). kind_end own os x.kind ≤ n) i is (omega (arith, above_items next is, fits)) (each_item next n is fits)

  each_block : (m n : ℕ) (bs : List Block) → blocks_end own os m bs ≤ n → AllItems (λ i. kind_end own os i.kind ≤ n) bs
  unfolding blocks_end
  each_block m n [] fits = All-nil (λ (b : Block). All (λ (i : Item). kind_end own os i.kind ≤ n) b.items)
  each_block m n (b ∷ bs) fits =
      let next : ℕ = items_end own os m b.items in
      All-cons (λ (c : Block). All (λ (i : Item). kind_end own os i.kind ≤ n) c.items) b bs (each_item m n b.items (omega (arith, above_blocks next bs, fits)))
      (each_block next n bs fits)

  -- what ends so low reaches no further
  access_reaches : (a : Access) → access_end own os a ≤ MAX_FRAME → AccessReaches own os a
  access_reaches NoAccess low = tt
  access_reaches (SlotAccess n) low = tt
  access_reaches (MemoryAccess base offset width) low = tt
  access_reaches (ObjectAddress n offset) low = λ less.
      subst (λ (k : ℕ). k ≤ MAX_FRAME) (ap (λ (b : Bool). cond b (own + offset_of os n + offset) 0) (lt-ltb offset (2 ^ 63) less)) low

  kind_reaches : (k : ItemKind) → kind_end own os k ≤ MAX_FRAME → KindReaches own os k
  kind_reaches (Code i n) low = access_reaches (access_of (row_of i)) low
  kind_reaches (Mark v m) low = tt
  kind_reaches (Phi p n) low = tt

pub extent_fits : (f : Function) (n : ℕ) → reach_of f ≤ n → own_size_of f + extent_of f.objects ≤ n
extent_fits f n fits = omega (arith, above_blocks (own_size_of f) f.objects (own_size_of f + extent_of f.objects) f.blocks, fits)

pub size_fits : (f : Function) (n : ℕ) → reach_of f ≤ n → size_of f ≤ n
size_fits f n fits = omega (arith, area_within f.objects, extent_fits f n fits)

pub addresses_fit : (f : Function) → reach_of f ≤ MAX_FRAME → AllItems (λ i. KindReaches (own_size_of f) f.objects i.kind) f.blocks
addresses_fit f fits =
    All-weaker (λ (b : Block). All (λ (i : Item). kind_end (own_size_of f) f.objects i.kind ≤ MAX_FRAME) b.items)
    (λ (b : Block). All (λ (i : Item). KindReaches (own_size_of f) f.objects i.kind) b.items)
    (λ b each. All-weaker (λ (i : Item). kind_end (own_size_of f) f.objects i.kind ≤ MAX_FRAME) (λ (i : Item). KindReaches (own_size_of f) f.objects i.kind)
    (λ i low. kind_reaches (own_size_of f) f.objects i.kind low) b.items each) f.blocks
    (each_block (own_size_of f) f.objects (own_size_of f + extent_of f.objects) MAX_FRAME f.blocks fits)
