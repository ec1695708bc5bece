-- A function of which one block is edited.
use Rattle.std.proofs.Common.{ℕ, List, [], ◌∷◌, ◌++◌, All, refl}
use Rattle.std.proofs.lemmas.List.Elements.{All-head, All-tail}
use Rattle.mir_func.specs.declared.block.Block.{Block}
use Rattle.mir_func.specs.declared.item.Item.{Item}
use Rattle.mir_func.specs.Function.{Function}
use Rattle.pass_salvage.proofs.Kin.{kin_itself}
use Rattle.pass_salvage.proofs.Edits.{Edits, Edited, over, pair, BlocksEdited, no_blocks, next_block}
use Rattle.pass_edits.specs.Edits.{AreEdited, AreBlocksEdited, no_items, stays, with_phi, goes, same_kind, no_blocks as nothing_edited}
use Rattle.pass_edits.specs.Edits.{next_block as and_edited}

-- a block of these items, and the function with it between others
abbrev pub block_of : (id source_end : ℕ) → List Item → Block
block_of id source_end items = record { id = id; items = items; source_end = source_end }

abbrev pub with_block : Function → (above : List Block) → (id source_end : ℕ) → List Item → (behind : List Block) → Function
with_block f above id source_end items behind = record f { blocks = above ++ block_of id source_end items ∷ behind }

module _ (E : Edits) where
  -- items that stay at one stage
  pub stays_items : (k : E.Stage) (xs : List Item) → E.IsOver k → All (λ (x : Item). E.Pair k k x x) xs → Edited E k xs xs
  stays_items k [] done all = over done
  stays_items k (x ∷ xs) done all =
      pair refl (kin_itself x.kind) (All-head (λ (y : Item). E.Pair k k y y) x xs all)
      (stays_items k xs done (All-tail (λ (y : Item). E.Pair k k y y) x xs all))

  pub stays_above : (k : E.Stage) (xs ys zs : List Item) → All (λ (x : Item). E.Pair k k x x) xs → Edited E k ys zs → Edited E k (xs ++ ys) (xs ++ zs)
  stays_above k [] ys zs all more = more
  stays_above k (x ∷ xs) ys zs all more =
      pair refl (kin_itself x.kind) (All-head (λ (y : Item). E.Pair k k y y) x xs all)
      (stays_above k xs ys zs (All-tail (λ (y : Item). E.Pair k k y y) x xs all) more)

  abbrev AllStay : Block → Type 0
  AllStay b = All (λ (x : Item). E.Pair (E.entry b.id) (E.entry b.id) x x) b.items

  pub stays_blocks : ((n : ℕ) → E.IsOver (E.entry n)) → (bs : List Block) → All
      (λ (b : Block). All (λ (x : Item). E.Pair (E.entry b.id) (E.entry b.id) x x) b.items) bs →
      BlocksEdited E bs bs
  stays_blocks empty [] all = no_blocks
  stays_blocks empty (b ∷ bs) all =
      next_block refl refl (stays_items (E.entry b.id) b.items (empty b.id) (All-head AllStay b bs all)) (stays_blocks empty bs (All-tail AllStay b bs all))

  between : {us vs : List Block} (fs gs : List Block) (id source_end : ℕ) (items items' : List Item) → BlocksEdited E fs gs →
      Edited E (E.entry id) items items' →
      BlocksEdited E us vs → BlocksEdited E (fs ++ block_of id source_end items ∷ us) (gs ++ block_of id source_end items' ∷ vs)
  between fs gs id source_end items items' no_blocks here behind = next_block refl refl here behind
  between (a ∷ fs) (b ∷ gs) id source_end items items' (next_block i s it more) here behind = next_block i s it
      (between fs gs id source_end items items' more here behind)

  pub around : {us vs : List Block} (xs : List Block) (id source_end : ℕ) (items items' : List Item) → BlocksEdited E xs xs →
      Edited E (E.entry id) items items' →
      BlocksEdited E us vs → BlocksEdited E (xs ++ block_of id source_end items ∷ us) (xs ++ block_of id source_end items' ∷ vs)
  around xs id source_end items items' above here behind = between xs xs id source_end items items' above here behind

-- ---- edits that keep a function sound

pub edited_same : (xs : List Item) → AreEdited xs xs
edited_same [] = no_items
edited_same (x ∷ xs) = stays refl same_kind (edited_same xs)

pub edited_above : (xs ys zs : List Item) → AreEdited ys zs → AreEdited (xs ++ ys) (xs ++ zs)
edited_above [] ys zs h = h
edited_above (x ∷ xs) ys zs h = stays refl same_kind (edited_above xs ys zs h)

pub edited_append : {xs ys us vs : List Item} → AreEdited xs ys → AreEdited us vs → AreEdited (xs ++ us) (ys ++ vs)
edited_append no_items k = k
edited_append (stays o e rest) k = stays o e (edited_append rest k)
edited_append (with_phi n s m o e rest) k = with_phi n s m o e (edited_append rest k)
edited_append (goes m rest) k = goes m (edited_append rest k)

pub blocks_same : (bs : List Block) → AreBlocksEdited bs bs
blocks_same [] = nothing_edited
blocks_same (b ∷ bs) = and_edited refl refl (edited_same b.items) (blocks_same bs)

pub edited_around : (xs : List Block) (id source_end : ℕ) (items items' : List Item) (ys : List Block) → AreEdited items items' →
    AreBlocksEdited (xs ++ block_of id source_end items ∷ ys) (xs ++ block_of id source_end items' ∷ ys)
edited_around [] id source_end items items' ys h = and_edited refl refl h (blocks_same ys)
edited_around (x ∷ xs) id source_end items items' ys h = and_edited refl refl (edited_same x.items) (edited_around xs id source_end items items' ys h)
