-- Blocks of which those before an index are without their copies.
use Rattle.std.proofs.Common.{◌≡◌, ℕ, zero, suc, ◌+◌, ◌<◌, ◌≤◌, ◌^◌, List, [], ◌∷◌, ◌++◌, length, get_or, take, drop, set, length-append, drop-cons, append-nil}
use Rattle.std.proofs.Common.{refl, sym, ap, ◌∙◌, arith}
use Rattle.std.proofs.lemmas.List.{take_more, take_all, length-take-le, take-append-drop, append_assoc}
use Rattle.std.proofs.lemmas.Grind.{flat_map-append}
use Rattle.mir_func.specs.declared.block.Block.{Block}
use Rattle.mir_func.specs.declared.debug_substitution.DebugSubstitution.{DebugSubstitution}
use Rattle.mir_func.specs.Sound.{items_of}
use Rattle.copyprop_block.specs.Copied.{over_items, at_block, BlocksSoFar, next_block, over_blocks}

abbrev pub starting : List DebugSubstitution → (fresh : ℕ) → BlocksSoFar
starting subs fresh = record { blocks = []; subs = subs; fresh = fresh }

pub record Copies (bs : List Block) (subs0 : List DebugSubstitution) (fresh0 index : ℕ) (now : List Block) (subs : List DebugSubstitution)
    (fresh : ℕ) : Type 0 where
  pub blocks : now ≡ (over_blocks (starting subs0 fresh0) (take index bs)).blocks ++ drop index bs
  pub entries : subs ≡ (over_blocks (starting subs0 fresh0) (take index bs)).subs
  pub counted : fresh ≡ (over_blocks (starting subs0 fresh0) (take index bs)).fresh
  pub most : fresh ≤ fresh0 + length (items_of (take index bs))

pub copies_begin : (bs : List Block) (subs : List DebugSubstitution) (fresh : ℕ) → Copies bs subs fresh 0 bs subs fresh
copies_begin [] subs fresh = record { blocks = refl; entries = refl; counted = refl; most = omega arith }
copies_begin (b ∷ bs) subs fresh = record { blocks = refl; entries = refl; counted = refl; most = omega arith }

get_first : {X : Type 0} (ps : List X) (y d : X) (rest : List X) → get_or (ps ++ y ∷ rest) (length ps) d ≡ y
get_first [] y d rest = refl
get_first (p ∷ ps) y d rest = get_first ps y d rest

set_first : {X : Type 0} (ps : List X) (y z : X) (rest : List X) → set (ps ++ y ∷ rest) (length ps) z ≡ ps ++ z ∷ rest
set_first [] y z rest = refl
set_first {X} (p ∷ ps) y z rest = ap (λ (xs : List X). p ∷ xs) (set_first ps y z rest)

over_more : (bs : List Block) (a : BlocksSoFar) (b : Block) → over_blocks a (bs ++ b ∷ []) ≡ next_block (over_blocks a bs) b
over_more [] a b = refl
over_more (c ∷ bs) a b = over_more bs (next_block a c) b

over_length : (bs : List Block) (a : BlocksSoFar) → length (over_blocks a bs).blocks ≡ length a.blocks + length bs
over_length [] a = omega arith
over_length (b ∷ bs) a =
    let made : Block = record { id = b.id; items = (over_items (at_block a.subs a.fresh) b.items).done; source_end = b.source_end } in
    let e = over_length bs (next_block a b) in
    let f : length (a.blocks ++ made ∷ []) ≡ length a.blocks + 1 = length-append a.blocks (made ∷ []) in
    omega (arith, e, f)

-- the block without its copies
abbrev pub without : List DebugSubstitution → (fresh : ℕ) → Block → Block
without subs fresh b = record { id = b.id; items = (over_items (at_block subs fresh) b.items).done; source_end = b.source_end }

module _ (bs : List Block) (subs0 : List DebugSubstitution) (fresh0 i : ℕ) (now : List Block) (subs : List DebugSubstitution) (fresh : ℕ)
    (h : Copies bs subs0 fresh0 i now subs fresh) (lt : i < length bs) (x : Block) (is : x ≡ get_or now i x) where
  abbrev so_far : BlocksSoFar
  so_far = over_blocks (starting subs0 fresh0) (take i bs)

  first_is : length so_far.blocks ≡ i
  first_is = let e = over_length (take i bs) (starting subs0 fresh0) in let f = length-take-le i bs (omega (arith, lt)) in omega (arith, e, f)

  rest_is : drop i bs ≡ get_or bs i x ∷ drop (suc i) bs
  rest_is = drop-cons bs i x lt

  now_is : now ≡ so_far.blocks ++ get_or bs i x ∷ drop (suc i) bs
  now_is = h.blocks ∙ ap (λ (ys : List Block). so_far.blocks ++ ys) rest_is

  -- what stands there is what stood there
  pub same_block : x ≡ get_or bs i x
  same_block =
      is ∙ ap (λ (ys : List Block). get_or ys i x) now_is ∙ ap (λ (n : ℕ). get_or (so_far.blocks ++ get_or bs i x ∷ drop (suc i) bs) n x) (sym first_is) ∙
      get_first so_far.blocks (get_or bs i x) x (drop (suc i) bs)

  taken : take (i + 1) bs ≡ take i bs ++ x ∷ []
  taken = take_more bs i x lt ∙ ap (λ (y : Block). take i bs ++ y ∷ []) (sym same_block)

  items_taken : length (items_of (take (i + 1) bs)) ≡ length (items_of (take i bs)) + length x.items
  items_taken =
      let two : items_of (take i bs ++ x ∷ []) ≡ items_of (take i bs) ++ (x.items ++ []) = flat_map-append (λ (b : Block). b.items) (take i bs) (x ∷ []) in
      let e : length (items_of (take (i + 1) bs)) ≡ length (items_of (take i bs) ++ (x.items ++ [])) = ap length (ap items_of taken ∙ two) in
      let f = length-append (items_of (take i bs)) (x.items ++ []) in
      let g : length (x.items ++ []) ≡ length x.items + 0 = length-append x.items [] in
      omega (arith, e, f, g)

  items_all : length (items_of (take (i + 1) bs)) ≤ length (items_of bs)
  items_all =
      let two : items_of (take (i + 1) bs ++ drop (i + 1) bs) ≡ items_of (take (i + 1) bs) ++ items_of (drop (i + 1) bs) =
      flat_map-append (λ (b : Block). b.items) (take (i + 1) bs) (drop (i + 1) bs) in
      let e : length (items_of bs) ≡ length (items_of (take (i + 1) bs) ++ items_of (drop (i + 1) bs)) =
      ap length (ap items_of (sym (take-append-drop (i + 1) bs)) ∙ two) in
      let f = length-append (items_of (take (i + 1) bs)) (items_of (drop (i + 1) bs)) in
      omega (arith, e, f)

  -- there is room for its numbers
  pub room : fresh0 + length (items_of bs) < 2 ^ 31 → fresh + length x.items < 2 ^ 31
  room less = let a = h.most in let b = items_taken in let c = items_all in omega (arith, less, a, b, c)

  pub copies_more : (made : Block) (subs' : List DebugSubstitution) (fresh' : ℕ) → made ≡ without subs fresh x →
      subs' ≡ (over_items (at_block subs fresh) x.items).subs →
      fresh' ≡ (over_items (at_block subs fresh) x.items).fresh → fresh' ≤ fresh + length x.items → Copies bs subs0 fresh0 (i + 1) (set now i made) subs' fresh'
  copies_more made subs' fresh' at entries counted most =
      let next : over_blocks (starting subs0 fresh0) (take (i + 1) bs) ≡ next_block so_far x =
      ap (over_blocks (starting subs0 fresh0)) taken ∙ over_more (take i bs) (starting subs0 fresh0) x in
      let start : at_block subs fresh ≡ at_block so_far.subs so_far.fresh = λ j. at_block (h.entries j) (h.counted j) in
      let block : made ≡ without so_far.subs so_far.fresh x = at ∙ (λ j. without (h.entries j) (h.counted j) x) in
      let placed : set now i made ≡ so_far.blocks ++ made ∷ drop (suc i) bs =
      ap (λ (ys : List Block). set ys i made) now_is ∙ ap (λ (n : ℕ). set (so_far.blocks ++ get_or bs i x ∷ drop (suc i) bs) n made) (sym first_is) ∙
      set_first so_far.blocks (get_or bs i x) made (drop (suc i) bs) in
      let step : suc i ≡ i + 1 = omega arith in
      let a = items_taken in
      let b = h.most in
      record {
        blocks = placed ∙ (λ j. so_far.blocks ++ block j ∷ drop (step j) bs) ∙
            sym (append_assoc so_far.blocks (without so_far.subs so_far.fresh x ∷ []) (drop (i + 1) bs)) ∙
            ap (λ (s : BlocksSoFar). s.blocks ++ drop (i + 1) bs) (sym next);
        entries = entries ∙ ap (λ s. (over_items s x.items).subs) start ∙ ap (λ (s : BlocksSoFar). s.subs) (sym next);
        counted = counted ∙ ap (λ s. (over_items s x.items).fresh) start ∙ ap (λ (s : BlocksSoFar). s.fresh) (sym next);
        most = omega (arith, most, a, b);
      }

-- at the end all are
pub copies_end : (bs : List Block) (subs0 : List DebugSubstitution) (fresh0 index : ℕ) (now : List Block) (subs : List DebugSubstitution) (fresh : ℕ) →
    length bs ≤ index →
    Copies bs subs0 fresh0 index now subs fresh →
    (now ≡ (over_blocks (starting subs0 fresh0) bs).blocks) × (subs ≡ (over_blocks (starting subs0 fresh0) bs).subs)
copies_end bs subs0 fresh0 index now subs fresh le h =
    let all : take index bs ≡ bs = take_all index bs le in
    let none : drop index bs ≡ [] = drop_all index bs le in (
      h.blocks ∙ (λ j. (over_blocks (starting subs0 fresh0) (all j)).blocks ++ none j) ∙ append-nil (over_blocks (starting subs0 fresh0) bs).blocks,
      h.entries ∙ ap (λ (xs : List Block). (over_blocks (starting subs0 fresh0) xs).subs) all,
    ) where
      drop_all : (n : ℕ) (xs : List Block) → length xs ≤ n → drop n xs ≡ []
      drop_all zero [] lt = refl
      drop_all (suc n) [] lt = refl
      drop_all zero (x ∷ xs) lt = absurd (omega (arith, lt))
      drop_all (suc n) (x ∷ xs) lt = drop_all n xs (omega (arith, lt))
