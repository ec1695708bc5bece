-- Lines of blocks are read one after the other.
use Rattle.std.proofs.Common.{◌≡◌, false, ℕ, ◌≤◌, List, [], ◌∷◌, ◌++◌, map, All, Option, Some, None, Result, Ok, refl, ap, ◌∙◌}
use Rattle.std.specs.Prelude.{option_map}
use Rattle.std.proofs.lemmas.List.Elements.{All-head, All-tail}
use Rattle.read_refusal.specs.declared.kind.RefusalKind.{RefusalKind}
use Rattle.read_metadata.specs.Maps.{Maps}
use Rattle.read_lexer.specs.declared.line.Line.{Line}
use Rattle.mir_func.specs.declared.block.Block.{Block}
use Rattle.mir_func.specs.declared.item.Item.{Item}
use Rattle.base_ids.specs.Limits.{MAX_NUMBER}
use Rattle.read_body.specs.declared.body.Body.{Body}
use Rattle.read_body.specs.Body.{block_with, label_cause, with_label, with_item, item_cause}
use Rattle.read_program.specs.BodyLines.{unless, judged_said, item_said, line_said, behind_line, and_then, body_behind}
use Rattle.read_program.proofs.Bodies.{facts_apart}
use Rattle.readback_items.specs.Forms.{form_of}
use Rattle.readback_items.proofs.Labels.{labels_read_back}
use Rattle.readback_items.proofs.Said.{lines_say_forms}
use Rattle.readback_items.specs.Code.{judged_kind}
use Rattle.readback_items.proofs.Judging.{forms_are_judged}
use Rattle.readback_items.specs.Body.{label_line, item_line, body_lines, texts_of, entries_named, IsReadableItem}

-- ---- what is read where nothing is refused

abbrev pub with_read : Body → Item → Body
with_read body i = with_item body (judged_kind i.kind) i.loc (entries_named i)

abbrev pub with_items : Body → List Item → Body
with_items body [] = body
with_items body (i ∷ is) = with_items (with_read body i) is

abbrev pub with_block : Body → Block → Body
with_block body b = with_items (with_label body b.id) b.items

abbrev pub with_blocks : Body → List Block → Body
with_blocks body [] = body
with_blocks body (b ∷ bs) = with_blocks (with_block body b) bs

-- no item is refused
abbrev pub ItemsFit : Body → List Item → Type 0
ItemsFit body [] = Unit {0}
ItemsFit body (i ∷ is) = (item_cause body (judged_kind i.kind) i.loc (entries_named i) ≡ None) × ItemsFit (with_read body i) is

abbrev pub BlocksFit : Body → List Block → Type 0
BlocksFit body [] = Unit {0}
BlocksFit body (b ∷ bs) = (label_cause body b.id ≡ None) × ItemsFit (with_label body b.id) b.items × BlocksFit (with_block body b) bs

-- the last block has one item more
pub last_more : (body : Body) (b : Block) (i : Item) → body.last ≡ Some b → (with_read body i).last ≡ Some (block_with (judged_kind i.kind) i.loc b)
last_more body b i last =
    ap (option_map (block_with (judged_kind i.kind) i.loc)) ((facts_apart body (judged_kind i.kind)).last ∙ last)

-- ---- lines

module _ (meta : Maps) where
  item_read : (body : Body) (b : Block) (i : Item) → body.last ≡ Some b → IsReadableItem meta i →
      item_cause body (judged_kind i.kind) i.loc (entries_named i) ≡ None → behind_line false meta body (item_line i) ≡ Ok (with_read body i)
  item_read body b i last is none =
      ap (line_said false meta body) (lines_say_forms i is.writable)
      ∙ ap (λ (o : Option Block). item_said false meta body o (form_of i)) last
      ∙ ap (judged_said body (form_of i).number) (forms_are_judged meta i is.writable is.readable)
      ∙ ap (λ (o : Option RefusalKind). unless o (with_read body i)) none

  label_read : (body : Body) (n : ℕ) → n ≤ MAX_NUMBER → label_cause body n ≡ None → behind_line false meta body (label_line n) ≡ Ok (with_label body n)
  label_read body n small none =
      ap (line_said false meta body) (labels_read_back n small) ∙ ap (λ (o : Option RefusalKind). unless o (with_label body n)) none

  -- one line
  line_read : (body next : Body) (l : Line) (ls : List Line) (text : List ℕ) → l.text ≡ text → behind_line false meta body text ≡ Ok next →
      body_behind false meta body (l ∷ ls) ≡ body_behind false meta next ls
  unfolding body_behind
  line_read body next l ls text same is =
      ap (λ (r : Result Body RefusalKind). and_then l.number r (λ b. body_behind false meta b ls)) (ap (behind_line false meta body) same ∙ is)

  -- some lines are read, and others are left
  record Goes (body : Body) (lines : List Line) (rest : List (List ℕ)) (next : Body) : Type 0 where
    more : List Line
    texts : texts_of more ≡ rest
    same : body_behind false meta body lines ≡ body_behind false meta next more

  items_read : (body : Body) (b : Block) (items : List Item) (lines : List Line) (rest : List (List ℕ)) → body.last ≡ Some b →
      All (IsReadableItem meta) items → ItemsFit body items → texts_of lines ≡ map item_line items ++ rest →
      Goes body lines rest (with_items body items)
  items_read body b [] lines rest last all fit texts = record { more = lines; texts = texts; same = refl }
  items_read body b (i ∷ is) [] rest last all fit texts = absurd cc
  items_read body b (i ∷ is) (l ∷ ls) rest last all fit texts =
      let here : l.text ≡ item_line i = cc in
      let behind : texts_of ls ≡ map item_line is ++ rest = cc in
      let g = items_read (with_read body i) (block_with (judged_kind i.kind) i.loc b) is ls rest (last_more body b i last)
      (All-tail (IsReadableItem meta) i is all) fit.1 behind in
      record {
        more = g.more;
        texts = g.texts;
        same = line_read body (with_read body i) l ls (item_line i) here
            (item_read body b i last (All-head (IsReadableItem meta) i is all) fit.0) ∙ g.same;
      }

  pub blocks_read : (body : Body) (blocks : List Block) (lines : List Line) → All (λ b. b.id ≤ MAX_NUMBER) blocks →
      All (λ (b : Block). All (IsReadableItem meta) b.items) blocks → BlocksFit body blocks → texts_of lines ≡ body_lines blocks →
      body_behind false meta body lines ≡ Ok (with_blocks body blocks)
  unfolding body_behind
  blocks_read body [] [] small all fit texts = refl
  blocks_read body [] (l ∷ ls) small all fit texts = absurd cc
  blocks_read body (b ∷ bs) [] small all fit texts = absurd cc
  blocks_read body (b ∷ bs) (l ∷ ls) small all fit texts =
      let here : l.text ≡ label_line b.id = cc in
      let behind : texts_of ls ≡ map item_line b.items ++ body_lines bs = cc in
      let g = items_read (with_label body b.id) (record { id = b.id; items = []; source_end = 0 }) b.items ls (body_lines bs) refl
      (All-head (λ (x : Block). All (IsReadableItem meta) x.items) b bs all) fit.1 behind in
      line_read body (with_label body b.id) l ls (label_line b.id) here
      (label_read body b.id (All-head (λ (x : Block). x.id ≤ MAX_NUMBER) b bs small) fit.0)
      ∙ (g.same ∙ blocks_read (with_block body b) bs g.more (All-tail (λ (x : Block). x.id ≤ MAX_NUMBER) b bs small)
      (All-tail (λ (x : Block). All (IsReadableItem meta) x.items) b bs all) fit.2 g.texts)
